-- Which HTLCs that came in an end's own adds say that they forward, and how many events it has decided: what each shift
-- leaves of that.
use Rattle.std.proofs.Common.{◌≡◌, ℕ, ◌+◌, ◌≤◌, ◌<◌, List, [], ◌∷◌, ◌++◌, take, drop, refl, sym, ap, ◌∙◌, subst, arith}
use Rattle.std.proofs.Common.{Bool, true, false, cond, ◌==◌, Option, Some, None}
use Rattle.std.proofs.lemmas.List.{take-append-drop}
use Rattle.ln_log.specs.declared.update.Add.{Add}
use Rattle.ln_log.specs.declared.update.Update.{Update}
use Rattle.ln_log.specs.declared.update.Update.TheVariants as update
use Rattle.ln_log.specs.Updates.{add_with, is_some}
use Rattle.ln_log.specs.Log.{Log}
use Rattle.ln_log.proofs.Removing.{add_with-more, add_with-append, or_else}
use Rattle.ln_channel.specs.declared.command.Command.TheVariants as command
use Rattle.ln_channel.specs.Ledger.{Ledger, first_htlc, forgotten, most_decided}
use Rattle.ln_channel.specs.End.{End, end_dropped}
use Rattle.ln_payment_circuits.specs.Shift.{Shift, Stays, Takes, Proposes, Signs, Accepts, Learns, Closes, Notes}
use Rattle.ln_payment_circuits.specs.Shift.{IsPlain, IsPlainUpdate}
use Rattle.ln_payment_circuits.proofs.Tidy.{decides_so, resumes_so}

-- ---- how many events are decided

pub shift_decided : (x f : End) → Shift x f → x.ledger.decided ≤ f.ledger.decided
shift_decided x f s = cases s
  where
    same : f.ledger.decided ≡ x.ledger.decided → x.ledger.decided ≤ f.ledger.decided
    same e = omega (arith, e)

    cases : Shift x f → x.ledger.decided ≤ f.ledger.decided
    cases (Stays l g) = same (ap (λ (z : Ledger). z.decided) g)
    cases (Takes u may l g) = same (ap (λ (z : Ledger). z.decided) g)
    cases (Proposes u may next l g) = same (ap (λ (z : Ledger). z.decided) g)
    cases (Signs l g) = same (ap (λ (z : Ledger). z.decided) g)
    cases (Accepts l g) = same (ap (λ (z : Ledger). z.decided) g)
    cases (Learns l g) = same (ap (λ (z : Ledger). z.decided) g)
    cases (Closes l g) = same (ap (λ (z : Ledger). z.decided) g)
    cases (Notes (command.Decide event m) l g) =
        let d = (decides_so event m (first_htlc x.dance.log x.ledger.undecided) x.ledger f.ledger g).decided in
        omega (arith, d)
    cases (Notes (command.Forget i) l g) = let is : forgotten i x.ledger ≡ f.ledger = cc in
        same (ap (λ (z : Ledger). z.decided) (sym is))
    cases (Notes (command.Resume event m) l g) =
        same (ap (λ (z : Ledger). z.decided) (resumes_so event m x.ledger f.ledger g).is)
    cases (Notes (command.Confirm i) l g) = absurd (cc)
    cases (Notes (command.Add amount hash expiry onion origin) l g) = absurd (cc)
    cases (Notes (command.Fulfil i preimage) l g) = absurd (cc)
    cases (Notes (command.Fail i reason) l g) = absurd (cc)
    cases (Notes (command.Malformed i sha code) l g) = absurd (cc)
    cases (Notes (command.Fee feerate) l g) = absurd (cc)
    cases (Notes command.Sign l g) = absurd (cc)
    cases (Notes (command.Shutdown script) l g) = absurd (cc)

one_more : (event was now most : ℕ) → event ≡ was → event < most → now ≡ was + 1 → now ≤ most
one_more event was now most at few is = omega (arith, at, few, is)

pub shift_few : (x f : End) → Shift x f → x.ledger.decided ≤ most_decided → f.ledger.decided ≤ most_decided
shift_few x f s le = cases s
  where
    same : f.ledger.decided ≡ x.ledger.decided → f.ledger.decided ≤ most_decided
    same e = subst (λ n. n ≤ most_decided) (sym e) le

    cases : Shift x f → f.ledger.decided ≤ most_decided
    cases (Stays l g) = same (ap (λ (z : Ledger). z.decided) g)
    cases (Takes u may l g) = same (ap (λ (z : Ledger). z.decided) g)
    cases (Proposes u may next l g) = same (ap (λ (z : Ledger). z.decided) g)
    cases (Signs l g) = same (ap (λ (z : Ledger). z.decided) g)
    cases (Accepts l g) = same (ap (λ (z : Ledger). z.decided) g)
    cases (Learns l g) = same (ap (λ (z : Ledger). z.decided) g)
    cases (Closes l g) = same (ap (λ (z : Ledger). z.decided) g)
    cases (Notes (command.Decide event m) l g) =
        let d = decides_so event m (first_htlc x.dance.log x.ledger.undecided) x.ledger f.ledger g in
        one_more event x.ledger.decided f.ledger.decided most_decided d.turn d.few d.decided
    cases (Notes (command.Forget i) l g) = let is : forgotten i x.ledger ≡ f.ledger = cc in
        same (ap (λ (z : Ledger). z.decided) (sym is))
    cases (Notes (command.Resume event m) l g) =
        same (ap (λ (z : Ledger). z.decided) (resumes_so event m x.ledger f.ledger g).is)
    cases (Notes (command.Confirm i) l g) = absurd (cc)
    cases (Notes (command.Add amount hash expiry onion origin) l g) = absurd (cc)
    cases (Notes (command.Fulfil i preimage) l g) = absurd (cc)
    cases (Notes (command.Fail i reason) l g) = absurd (cc)
    cases (Notes (command.Malformed i sha code) l g) = absurd (cc)
    cases (Notes (command.Fee feerate) l g) = absurd (cc)
    cases (Notes command.Sign l g) = absurd (cc)
    cases (Notes (command.Shutdown script) l g) = absurd (cc)

-- ---- what own adds say

-- where these are ids of channels
module _ (P : List ℕ → Type 0) where
  abbrev pub Names : Option Add → Type 0
  Names None = Unit {0}
  Names (Some a) = (o : List ℕ × ℕ) → a.origin ≡ Some o → P o.0

  abbrev pub AllName : List Update → Type 0
  AllName us = (i : ℕ) → Names (add_with i us)

  -- fewer updates
  pub names_front : (i k : ℕ) (us : List Update) → Names (add_with i us) → Names (add_with i (take k us))
  names_front i k us h = cases (add_with i (take k us)) refl
    where
      cases : (o : Option Add) → add_with i (take k us) ≡ o → Names o
      cases None e = tt
      cases (Some a) e = subst Names (sym (ap (add_with i) (take-append-drop k us))
          ∙ add_with-more i (take k us) (drop k us) (ap is_some e) ∙ e) h

  pub names_dropped : (x : End) → AllName x.dance.log.own → AllName (end_dropped x).dance.log.own
  names_dropped x h i = names_front i x.dance.log.signed.own x.dance.log.own (h i)

  -- one more
  pub names_more : (us : List Update) (u : Update) → AllName us → AllName (u ∷ []) → AllName (us ++ u ∷ [])
  names_more us u h k i =
      subst Names (sym (add_with-append i us (u ∷ []))) (cases (add_with i us) (add_with i (u ∷ [])) (h i) (k i))
    where
      cases : (x y : Option Add) → Names x → Names y → Names (or_else x y)
      cases None y a b = b
      cases (Some z) y a b = a

  abbrev pub NewNames : {x f : End} → Shift x f → Type 0
  NewNames (Stays l g) = Unit {0}
  NewNames (Takes u may l g) = Unit {0}
  NewNames (Proposes u may next l g) = AllName (u ∷ [])
  NewNames (Signs l g) = Unit {0}
  NewNames (Accepts l g) = Unit {0}
  NewNames (Learns l g) = Unit {0}
  NewNames (Closes l g) = Unit {0}
  NewNames (Notes c l g) = Unit {0}

  pub shift_names : (x f : End) (s : Shift x f) → NewNames s → AllName x.dance.log.own → AllName f.dance.log.own
  shift_names x f (Stays l g) n h = subst (λ (m : Log). AllName m.own) (sym l) h
  shift_names x f (Takes u may l g) n h = subst (λ (m : Log). AllName m.own) (sym l) h
  shift_names x f (Proposes u may next l g) n h =
      subst (λ (m : Log). AllName m.own) (sym l) (names_more x.dance.log.own u h n)
  shift_names x f (Signs l g) n h = subst (λ (m : Log). AllName m.own) (sym l) h
  shift_names x f (Accepts l g) n h = subst (λ (m : Log). AllName m.own) (sym l) h
  shift_names x f (Learns l g) n h = subst (λ (m : Log). AllName m.own) (sym l) h
  shift_names x f (Closes l g) n h = subst (λ (m : Log). AllName m.own) (sym l) h
  shift_names x f (Notes c l g) n h = subst (λ (m : Log). AllName m.own) (sym l) h

  -- an add that forwards none
  plain_name : (u : Update) → IsPlainUpdate u → AllName (u ∷ [])
  plain_name (update.Add a) p i = cases (a.id == i)
    where
      cases : (b : Bool) → Names (cond b (Some a) None)
      cases true = λ o e. absurd (let no : None ≡ Some o = sym p ∙ e in cc)
      cases false = tt
  plain_name (update.Fulfil f) p i = absurd p
  plain_name (update.Fail f) p i = absurd p
  plain_name (update.Malformed m) p i = absurd p
  plain_name (update.Fee f) p i = tt

  pub plain_names : (x f : End) (s : Shift x f) → IsPlain s → NewNames s
  plain_names x f (Stays l g) n = tt
  plain_names x f (Takes u may l g) n = tt
  plain_names x f (Proposes u may next l g) n = plain_name u n
  plain_names x f (Signs l g) n = tt
  plain_names x f (Accepts l g) n = tt
  plain_names x f (Learns l g) n = tt
  plain_names x f (Closes l g) n = tt
  plain_names x f (Notes c l g) n = absurd n

-- where more ids are
pub names_widen : (P Q : List ℕ → Type 0) → ((c : List ℕ) → P c → Q c) → (us : List Update) → AllName P us
    → AllName Q us
names_widen P Q to us h i = cases (add_with i us) (h i)
  where
    cases : (o : Option Add) → Names P o → Names Q o
    cases None k = tt
    cases (Some a) k = λ o is. to o.0 (k o is)
