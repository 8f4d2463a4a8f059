use Rattle.ln_world_channels.proofs.Recorded.{all_have, never_damaged}
use Rattle.ln_world_channels.proofs.laws.every_end_has_a_record.Goals as goal

pub returns-clause-records : goal.returns-clause-records
returns-clause-records g c = all_have g.K.ChannelKeys

pub returns-clause-never_damaged : goal.returns-clause-never_damaged
returns-clause-never_damaged g c = never_damaged g.K.ChannelKeys
