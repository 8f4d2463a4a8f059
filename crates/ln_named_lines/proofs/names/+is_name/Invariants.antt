use Rattle.std.proofs.Common.{length}
use Rattle.ln_named_lines.proofs.names.+is_name.Given as goal

abbrev pub decreases-is_name : goal.decreases-is_name
decreases-is_name l = length l.names.now
