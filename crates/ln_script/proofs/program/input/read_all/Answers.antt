use Rattle.std.proofs.Common.{◌≡◌, ◌++◌, ℕ, List, [], Option, Some, None, Ok, IfSome, arith, sym, ap, ◌∙◌}
use Rattle.std.proofs.lemmas.List.{append-nil}
use Rattle.std.specs.Io.KnownBytes.{Keeps, IsAtEnd, prepend_known}
use Rattle.ln_script.proofs.program.input.read_all.Goals as goal

-- what is kept of what is kept
kept_on : (a b c : Option (List ℕ)) → Keeps a b → Keeps b c → Keeps a c
kept_on None b c p q = tt
kept_on (Some x) None c p q = absurd p
kept_on (Some x) (Some y) None p q = absurd q
kept_on (Some x) (Some y) (Some z) p q = q ∙ p

kept_at_first : (a : Option (List ℕ)) (bytes : List ℕ) → bytes ≡ [] → Keeps a (prepend_known bytes a)
kept_at_first None bytes e = tt
kept_at_first (Some x) bytes e = ap (λ l. l ++ x) e

all_read : (a b : Option (List ℕ)) (bytes : List ℕ) → Keeps a (prepend_known bytes b) → IsAtEnd b
    → IfSome a (λ all. bytes ≡ all)
all_read None b bytes p e = tt
all_read (Some x) None bytes p e = absurd p
all_read (Some x) (Some y) bytes p e = sym (append-nil bytes) ∙ ap (λ l. bytes ++ l) (sym e) ∙ p

pub reads-init : goal.reads-init
reads-init g c = record { bytes = kept_at_first _ _ c.new-bytes.ensures.items; failures = omega arith }

pub reads-preserved : goal.reads-preserved
reads-preserved g c = record {
  bytes = kept_on _ _ _ c.reads.invariant.bytes c.in_ok-read_piece.ensures.loses_no_byte;
  failures = omega (arith, c.reads.invariant.failures, c.in_ok-read_piece.ensures.no_fewer_failures);
}

pub returns-clause-reads_all : goal.returns-clause-reads_all
returns-clause-reads_all g c = all_read _ _ _
    (kept_on _ _ _ c.reads.invariant.bytes c.in_ok-read_piece.ensures.loses_no_byte)
    (c.in_ok-read_piece.ensures.false_is_the_end (ap Ok c.if-branch.false))
