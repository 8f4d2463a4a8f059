use Rattle.std.proofs.Common.{length}
use Rattle.ln_named_lines.proofs.names.+is_given.Given as goal

abbrev pub decreases-is_given : goal.decreases-is_given
decreases-is_given l = length l.words.now
