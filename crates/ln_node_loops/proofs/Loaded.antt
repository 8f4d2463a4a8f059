-- The events that are pending once an end was loaded.
use Rattle.std.specs.Prelude.{◌≡◌, ◌≤◌, ℕ, zero, suc, ◌+◌, ◌-◌, List, [], ◌∷◌, drop, Bool, true, false, nat_lt, Option}
use Rattle.std.specs.Prelude.{None, option_map}
use Rattle.std.specs.List.{slice_get, cons_option}
use Rattle.std.proofs.Common.{refl, ap, ◌∙◌, sym, cond, arith}
use Rattle.std.proofs.lemmas.Bool.{ltb-false}
use Rattle.ln_refusals.specs.declared.refusal.Refusal.{Refusal}
use Rattle.ln_log.specs.declared.mark.EventRef.{EventRef}
use Rattle.ln_log.specs.declared.mark.EventRef.TheVariants as ref
use Rattle.ln_log.specs.declared.update.Update.{Update}
use Rattle.ln_log.specs.Log.{Log, update_at, after_drop}
use Rattle.ln_log.specs.RecordForm.{RecordForm, record_form_of}
use Rattle.ln_dance.specs.Dance.{with_log}
use Rattle.ln_channel.specs.End.{End, with_dance, end_dropped}
use Rattle.ln_channel.specs.Pending.{event_in, named_by, pending_from, pending_events}
use Rattle.ln_link.specs.Record.{items_of}
use Rattle.ln_link.specs.Loading.{HasRecord, IsReadAgain, end_of}
use Rattle.ln_link.proofs.Loaded.{loaded}

-- an update by its number, of those from a first one on
got : (f n : ℕ) (us : List Update) → f ≤ n → slice_get us n ≡ slice_get (drop f us) (n - f)
got zero n us le = ap (slice_get us) (omega arith)
got (suc f) n [] le = refl
got (suc f) zero (u ∷ us) le = absurd (omega (arith, le))
got (suc f) (suc n) (u ∷ us) le =
    let e : n - f ≡ suc n - suc f = omega arith in
    got f n us (omega (arith, le)) ∙ ap (slice_get (drop f us)) e

abbrev at : ℕ → List Update → ℕ → Option Update
at f us n = cond (nat_lt n f) None (slice_get us (n - f))

at_by : (b : Bool) (f n : ℕ) (us : List Update) → nat_lt n f ≡ b
    → cond b None (slice_get us n) ≡ cond b None (slice_get (drop f us) (n - f))
at_by true f n us e = refl
at_by false f n us e = got f n us (ltb-false n f e)

at_is : (f n : ℕ) (us : List Update) → update_at f us n ≡ at f (drop f us) n
at_is f n us = at_by (nat_lt n f) f n us refl

abbrev told : Log → RecordForm
told l = record_form_of l.first l

abbrev with_updates : Log → End → End
with_updates l e = with_dance (with_log l e.dance) e

-- ends that differ in their logs, of which a record tells the same
module _ (l m : Log) (e : told l ≡ told m) (x : End) where
  own_same : (n : ℕ) → update_at l.first.own l.own n ≡ update_at m.first.own m.own n
  own_same n = at_is l.first.own n l.own ∙ ap (λ t. at t.first.own t.own n) e ∙ sym (at_is m.first.own n m.own)

  peer_same : (n : ℕ) → update_at l.first.peer l.received n ≡ update_at m.first.peer m.received n
  peer_same n = at_is l.first.peer n l.received ∙ ap (λ t. at t.first.peer t.received n) e
      ∙ sym (at_is m.first.peer n m.received)

  named_same : (r : EventRef) → named_by r (with_updates l x) ≡ named_by r (with_updates m x)
  named_same (ref.Own n) = ap (event_in true) (own_same n)
  named_same (ref.Peer n) = ap (event_in false) (peer_same n)
  named_same ref.Close = refl

  from_same : (n : ℕ) (rs : List EventRef)
      → pending_from n rs (with_updates l x) ≡ pending_from n rs (with_updates m x)
  from_same n [] = refl
  from_same n (r ∷ rs) =
      ap (λ o. cons_option (option_map (λ event. (n, event)) o) (pending_from (n + 1) rs (with_updates l x)))
      (named_same r)
      ∙ ap (cons_option (option_map (λ event. (n, event)) (named_by r (with_updates m x)))) (from_same (n + 1) rs)

  pending_same : pending_events (with_updates l x) ≡ pending_events (with_updates m x)
  pending_same = from_same x.ledger.decided x.ledger.undecided

read_so : (e x : End) → IsReadAgain x e → pending_events x ≡ pending_events (end_dropped e)
read_so e x r = ap pending_events r.same_end
    ∙ pending_same x.dance.log (after_drop e.dance.log)
    (r.log.same_record ∙ ap (λ n. record_form_of n (after_drop e.dance.log)) r.log.first) e

pub pending_so : (failure : Option Refusal) (e : End) → HasRecord failure e
    → pending_events (end_of (items_of failure e)) ≡ pending_events (end_dropped e)
pending_so failure e h = read_so e (end_of (items_of failure e)) (loaded failure e h)
