-- What a contract sees of a handle at a book.
use Rattle.std.specs.Prelude.{List}
use Rattle.ln_forward.specs.declared.checks.Policy.{Policy}
use Rattle.ln_book.specs.declared.switch.saying.Saying.{Saying}
use Rattle.ln_book.specs.declared.switch.handle.BookHandle.{BookHandle}

-- all that was said through it, oldest first
abbrev pub said : {O : Type 0} → BookHandle O → List Saying
said s = s.said.told.entries

-- what it asks for a payment that it forwards
abbrev pub policy_of : {O : Type 0} → BookHandle O → Policy
policy_of s = s.policy

-- how it opens onions
abbrev pub onion_of : {O : Type 0} → BookHandle O → O
onion_of s = s.onion
