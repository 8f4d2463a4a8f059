use Rattle.std.proofs.Common.{length}
use Rattle.ln_named_lines.proofs.names.+missing_name.Given as goal

abbrev pub decreases-missing_name : goal.decreases-missing_name
decreases-missing_name l = length l.needed.now
