use Rattle.std.proofs.Common.{inl}
use Rattle.ln_manager_channels.specs.Kept.{parts_of}
use Rattle.ln_manager_channels.proofs.Entered.{same_as_none}
use Rattle.ln_manager_channels.proofs.channels.Channels.new.Goals as goal

pub begun-requires : goal.begun-requires
begun-requires g c = inl (same_as_none (parts_of c.new.result) c.new.ensures.no_links c.new.ensures.no_records
    c.new.ensures.no_numbers c.new.ensures.nothing_stands)
