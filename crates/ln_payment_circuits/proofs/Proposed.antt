-- What a channel proposes where it does what a book asks: an add that forwards an HTLC, or a removal.
use Rattle.std.proofs.Common.{◌≡◌, ℕ, List, refl, sym, ap, ◌∙◌, cond}
use Rattle.std.proofs.Common.{Option, Some, None, Ok}
use Rattle.ln_refusals.specs.declared.refusal.Refusal.{Refusal}
use Rattle.ln_keys.specs.Signer.{Signer}
use Rattle.ln_log.specs.declared.mark.Mark.{Mark}
use Rattle.ln_log.specs.declared.mark.Mark.TheVariants as mark
use Rattle.ln_log.specs.declared.update.Add.{Add}
use Rattle.ln_log.specs.declared.update.Update.{Update}
use Rattle.ln_log.specs.declared.update.Update.TheVariants as update
use Rattle.ln_log.specs.Updates.{next_id}
use Rattle.ln_log.specs.Limits.{HasNextId}
use Rattle.ln_dance.specs.Messages.{update_message}
use Rattle.ln_channel.specs.declared.command.Command.{Command}
use Rattle.ln_channel.specs.declared.command.Command.TheVariants as command
use Rattle.ln_channel.specs.Opening.{unless}
use Rattle.ln_channel.specs.Commands.{command_row, note_row, propose_row, propose_fault, proposes}
use Rattle.ln_channel.specs.End.{End, Turn, sending}
use Rattle.ln_book_tables.specs.declared.htlc.Htlc.{Htlc}
use Rattle.ln_keys.specs.Services.{Services}
use Rattle.ln_book.specs.Commands.{add_of, removal_by_outgoing, removal_resolved}
use Rattle.ln_book.specs.Commands as book
use Rattle.ln_payment_circuits.specs.Happens.{obeyed}
use Rattle.ln_payment_circuits.proofs.Removing.{IsRemoving, removes_so}

-- ---- an update that an end has proposed

pub record IsProposed (e f : End) (u : Update) : Type 0 where
  pub may : propose_fault e u ≡ None
  pub next : HasNextId e.dance.log.own u
  pub end : f ≡ proposes u e

pub proposed_is : (u : Update) (e : End) (turn : Turn) → HasNextId e.dance.log.own u → propose_row u e ≡ Ok turn
    → IsProposed e turn.end u
proposed_is u e turn next is = cases (propose_fault e u) refl is
  where
    cases : (o : Option Refusal) → propose_fault e u ≡ o
        → unless o (sending (update_message e.dance.channel u) (proposes u e)) ≡ Ok turn → IsProposed e turn.end u
    cases None may f =
        let same : sending (update_message e.dance.channel u) (proposes u e) ≡ turn = cc in
        record { may = may; next = next; end = ap (λ (t : Turn). t.end) (sym same) }
    cases (Some r) may f = absurd (cc)

-- ---- an add

pub record IsAdd (x : Htlc) (e f : End) : Type 0 where
  pub add : Add
  pub proposed : IsProposed e f (update.Add add)
  pub id : add.id ≡ next_id e.dance.log.own
  pub origin : add.origin ≡ Some (x.key.channel, x.key.id)

add_with_is : (keys : Signer) (x : Htlc) (m : Mark) (o : Option (List ℕ)) (y : Command) (e : End) (turn : Turn)
    → book.add_with x m o ≡ Some y → obeyed keys y e ≡ Ok turn → IsAdd x e turn.end
add_with_is keys x m None y e turn asked is = absurd (cc)
add_with_is keys x mark.None (Some onion) y e turn asked is = absurd (cc)
add_with_is keys x (mark.Fail reason) (Some onion) y e turn asked is = absurd (cc)
add_with_is keys x (mark.Malformed code) (Some onion) y e turn asked is = absurd (cc)
add_with_is keys x (mark.Fulfil preimage) (Some onion) y e turn asked is = absurd (cc)
add_with_is keys x (mark.Held event) (Some onion) y e turn asked is = absurd (cc)
add_with_is keys x (mark.Forward d amount expiry) (Some onion) y e turn asked is =
    let from : Option (List ℕ × ℕ) = Some (x.key.channel, x.key.id) in
    let same : command.Add amount x.offer.hash expiry onion from ≡ y = cc in
    let a : Add = record {
      id = next_id e.dance.log.own;
      amount = amount;
      hash = x.offer.hash;
      expiry = expiry;
      onion = onion;
      origin = from;
    } in
    record {
      add = a;
      proposed = proposed_is (update.Add a) e turn refl (ap (λ z. obeyed keys z e) same ∙ is);
      id = refl;
      origin = refl;
    }

pub add_is : (v : Services) (keys : Signer) (x : Htlc) (y : Command) (e : End) (turn : Turn) → add_of v x ≡ Some y
    → obeyed keys y e ≡ Ok turn → IsAdd x e turn.end
add_is v keys x y e turn = add_with_is keys x x.mark (book.next_of (v.opened x.offer.onion x.offer.hash)) y e turn

-- ---- a removal

pub record IsRemoved (id : ℕ) (y : Command) (e f : End) : Type 0 where
  pub removing : IsRemoving id y
  pub proposed : IsProposed e f removing.change

pub removing_is : (v : Services) (keys : Signer) (x : Htlc) (y : Command) (e : End) (turn : Turn)
    → book.removal_by v x x.mark ≡ Some y → obeyed keys y e ≡ Ok turn → IsRemoved x.key.id y e turn.end
removing_is v keys x y e turn asked is =
    let r = removes_so v x y asked in
    record {
      removing = r;
      proposed = proposed_is r.change e turn (r.next e.dance.log.own) (sym (r.row keys e)
          ∙ sym (ap (λ b. cond b (note_row y e) (command_row keys y e)) r.unnoted) ∙ is);
    }
