use Rattle.std.proofs.Common.{rules}
use Rattle.ln_relay.proofs.Passing.{filled}
use Rattle.ln_relay.proofs.memory.MemorySendSends.send.Goals as goal

pub returns-then-len-self-clause-was_full_if_refused : goal.returns-then-len-self-clause-was_full_if_refused
returns-then-len-self-clause-was_full_if_refused g c = filled _ _ (search rules)
