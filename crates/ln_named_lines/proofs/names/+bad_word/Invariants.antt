use Rattle.std.proofs.Common.{length}
use Rattle.ln_named_lines.proofs.names.+bad_word.Given as goal

abbrev pub decreases-bad_word : goal.decreases-bad_word
decreases-bad_word l = length l.words.now
