-- What a book commands about an HTLC.
use Rattle.std.proofs.Common.{◌≡◌, ℕ, List, sym, ap, ◌∙◌, subst, Option, Some, None}
use Rattle.ln_log.specs.declared.mark.Mark.{Mark}
use Rattle.ln_log.specs.declared.mark.Mark.TheVariants as mark
use Rattle.ln_channel.specs.declared.command.Command.{Command}
use Rattle.ln_channel.specs.declared.command.Command.TheVariants as command
use Rattle.ln_book_tables.specs.declared.htlc.Htlc.{Htlc}
use Rattle.ln_book_tables.specs.declared.entry.Out.{Out}
use Rattle.ln_keys.specs.Services.{Services}
use Rattle.ln_book.specs.Commands.{command_of, add_of, add_with as add_by, next_of}
use Rattle.ln_payment_circuits.proofs.Removing.{by_removal, asked_removal}
use Rattle.ln_payment_circuits.proofs.Due.{IsDueBy, Forgets, Offers, Removes, forgets_so}
use Rattle.ln_world.proofs.Refusing.{IsBooks, IsFree}

-- ---- an add

pub record IsAdding (x : Htlc) (c : Command) : Type 0 where
  pub amount : ℕ
  pub expiry : ℕ
  pub onion : List ℕ
  pub is : c ≡ command.Add amount x.offer.hash expiry onion (Some (x.key.channel, x.key.id))

add_by_mark : (x : Htlc) (m : Mark) (o : Option (List ℕ)) (c : Command) → add_by x m o ≡ Some c → IsAdding x c
add_by_mark x m None c e = absurd (cc)
add_by_mark x mark.None (Some onion) c e = absurd (cc)
add_by_mark x (mark.Forward d amount expiry) (Some onion) c e = record {
  amount = amount;
  expiry = expiry;
  onion = onion;
  is = (let same : command.Add amount x.offer.hash expiry onion (Some (x.key.channel, x.key.id)) ≡ c = cc in sym same);
}
add_by_mark x (mark.Fail reason) (Some onion) c e = absurd (cc)
add_by_mark x (mark.Malformed code) (Some onion) c e = absurd (cc)
add_by_mark x (mark.Fulfil preimage) (Some onion) c e = absurd (cc)
add_by_mark x (mark.Held event) (Some onion) c e = absurd (cc)

pub adds_so : (s : Services) (x : Htlc) (c : Command) → add_of s x ≡ Some c → IsAdding x c
adds_so s x c e = add_by_mark x x.mark (next_of (s.opened x.offer.onion x.offer.hash)) c e

-- ---- of an HTLC that is due one

pub due_books : (s : Services) (d : List ℕ) (x : Htlc) (o : Out) (c : Command) → IsDueBy d x o
    → command_of s x o ≡ Some c
    → IsBooks c × IsFree c
due_books s d x o c (Forgets decided settled over is) e =
    let j = forgets_so x.outgoing c (sym (ap (command_of s x) is) ∙ e) in
    (subst IsBooks (sym j.1) tt, subst IsFree (sym j.1) tt)
due_books s d x o c (Offers decided unsettled now forwards is) e =
    let j = adds_so s x c (sym (ap (command_of s x) is) ∙ e) in
    (subst IsBooks (sym j.is) tt, subst IsFree (sym j.is) tt)
due_books s d x o c (Removes decided told open_still here is) e =
    let j = asked_removal s x c (sym (ap (command_of s x) is) ∙ e) in
    by_removal (λ y. IsBooks y × IsFree y) x.key.id (λ p. (tt, tt)) (λ reason. (tt, tt)) (λ sha code. (tt, tt))
    j.0 c j.1
