-- Which command of a book removes an HTLC that came in, and which update that is.
use Rattle.std.proofs.Common.{◌≡◌, ℕ, List, [], ◌∷◌, ◌++◌, refl, sym, ap, ◌∙◌, subst, Bool, true, false, cond, not}
use Rattle.std.proofs.Common.{◌==◌, take, Some, None}
use Rattle.std.specs.Prelude.{is_none}
use Rattle.std.proofs.lemmas.Bool.{eq-eqb, ne_eqb}
use Rattle.ln_refusals.specs.declared.refusal.Refusal.TheVariants as refusal
use Rattle.ln_refusals.specs.declared.peer_rule.PeerRule.TheVariants as rule
use Rattle.ln_keys.specs.Signer.{Signer}
use Rattle.ln_log.specs.declared.mark.Mark.{Mark}
use Rattle.ln_log.specs.declared.mark.Mark.TheVariants as mark
use Rattle.ln_log.specs.declared.outcome.Outcome.TheVariants.{Live, Fulfilled, Failed}
use Rattle.ln_log.specs.declared.update.Removal.{Removal}
use Rattle.ln_log.specs.declared.update.Update.{Update}
use Rattle.ln_log.specs.declared.update.Update.TheVariants as update
use Rattle.ln_log.specs.Updates.{removed, add_with, outcome, is_live}
use Rattle.ln_log.specs.Limits.{HasNextId}
use Rattle.ln_log.specs.Log.{Log, proposal_fault, removal_fault}
use Rattle.ln_log.proofs.Removing.{outcome-hit, outcome-other}
use Rattle.ln_hooks.specs.declared.event.How.{How}
use Rattle.ln_hooks.specs.declared.event.How.TheVariants as how
use Rattle.ln_channel.specs.declared.command.Command.{Command}
use Rattle.ln_channel.specs.declared.command.Command.TheVariants as command
use Rattle.ln_channel.specs.Commands.{command_row, propose_row, propose_fault, own_fault}
use Rattle.ln_channel.specs.End.{End}
use Rattle.ln_channel.specs.Step.{is_of_records}
use Rattle.ln_book_tables.specs.declared.htlc.Htlc.{Htlc}
use Rattle.ln_book_tables.specs.declared.htlc.OutgoingLeg.{OutgoingLeg}
use Rattle.ln_book_tables.specs.declared.htlc.OutgoingLeg.TheVariants as outgoing
use Rattle.ln_keys.specs.Services.{Services}
use Rattle.ln_book.specs.Commands.{removal_by, removal_by_outgoing, removal_resolved}
use Rattle.ln_payment.specs.Parts.{Kind, Fulfils, Fails, Proposed, By}
use Rattle.ln_payment_circuits.specs.Circuit.{Forwards}
use Rattle.ln_payment_circuits.proofs.Updates.{not_gone}
use Rattle.ln_payment_circuits.proofs.Parts.{removal_by as removal_of_outcome}
use Rattle.ln_payment_circuits.proofs.Preimages.{none_both}
use Rattle.ln_payment_circuits.proofs.Entries.{kind_of}

-- ---- the command

-- it removes the peer's HTLC of this id so
abbrev pub IsRemoval : ℕ → Kind → Command → Type 0
IsRemoval id k (command.Fulfil i preimage) = (i ≡ id) × (Fulfils ≡ k)
IsRemoval id k (command.Fail i reason) = (i ≡ id) × (Fails ≡ k)
IsRemoval id k (command.Malformed i sha code) = (i ≡ id) × (Fails ≡ k)
IsRemoval id k (command.Confirm i) = ⊥
IsRemoval id k (command.Add amount hash expiry onion origin) = ⊥
IsRemoval id k (command.Fee feerate) = ⊥
IsRemoval id k command.Sign = ⊥
IsRemoval id k (command.Shutdown script) = ⊥
IsRemoval id k (command.Decide event mark) = ⊥
IsRemoval id k (command.Forget i) = ⊥
IsRemoval id k (command.Resume event mark) = ⊥

-- it is one of these three
pub by_removal : (P : Command → Type 0) (id : ℕ) → ((p : List ℕ) → P (command.Fulfil id p))
    → ((reason : List ℕ) → P (command.Fail id reason))
    → ((sha : List ℕ) (code : ℕ) → P (command.Malformed id sha code)) → (k : Kind) (c : Command) → IsRemoval id k c
    → P c
by_removal P id fulfils fails malformed k (command.Fulfil i p) is = subst (λ j. P (command.Fulfil j p)) (sym is.0)
    (fulfils p)
by_removal P id fulfils fails malformed k (command.Fail i reason) is = subst (λ j. P (command.Fail j reason)) (sym is.0)
    (fails reason)
by_removal P id fulfils fails malformed k (command.Malformed i sha code) is =
    subst (λ j. P (command.Malformed j sha code)) (sym is.0) (malformed sha code)
by_removal P id fulfils fails malformed k (command.Confirm i) is = absurd is
by_removal P id fulfils fails malformed k (command.Add amount hash expiry onion origin) is = absurd is
by_removal P id fulfils fails malformed k (command.Fee feerate) is = absurd is
by_removal P id fulfils fails malformed k command.Sign is = absurd is
by_removal P id fulfils fails malformed k (command.Shutdown script) is = absurd is
by_removal P id fulfils fails malformed k (command.Decide event mark) is = absurd is
by_removal P id fulfils fails malformed k (command.Forget i) is = absurd is
by_removal P id fulfils fails malformed k (command.Resume event mark) is = absurd is

-- ---- what a book asks for

pub given : (id : ℕ) (k : Kind) (a c : Command) → Some a ≡ Some c → IsRemoval id k a → IsRemoval id k c
given id k a c e h = let same : a ≡ c = cc in subst (IsRemoval id k) same h

pub over_removes : (s : Services) (x : Htlc) (w : How) → IsRemoval x.key.id (kind_of w) (removal_resolved s x w)
over_removes s x (how.Fulfilled p) = (refl, refl)
over_removes s x (how.Failed reason) = (refl, refl)
over_removes s x (how.Malformed sha code) = (refl, refl)

outgoing_removes : (s : Services) (x : Htlc) (w : OutgoingLeg) (c : Command) → removal_by_outgoing s x w ≡ Some c
    → (k : Kind) × IsRemoval x.key.id k c
outgoing_removes s x outgoing.Absent c e = absurd (cc)
outgoing_removes s x outgoing.Refused c e = (Fails, given x.key.id Fails _ c e (refl, refl))
outgoing_removes s x (outgoing.Offered k) c e = absurd (cc)
outgoing_removes s x (outgoing.Resolved k w) c e = (
  kind_of w,
  given x.key.id (kind_of w) (removal_resolved s x w) c e (over_removes s x w),
)

mark_removes : (s : Services) (x : Htlc) (m : Mark) (c : Command) → removal_by s x m ≡ Some c
    → (k : Kind) × IsRemoval x.key.id k c
mark_removes s x mark.None c e = absurd (cc)
mark_removes s x (mark.Forward channel amount expiry) c e = outgoing_removes s x x.outgoing c e
mark_removes s x (mark.Fail reason) c e = (Fails, given x.key.id Fails _ c e (refl, refl))
mark_removes s x (mark.Malformed code) c e = (Fails, given x.key.id Fails _ c e (refl, refl))
mark_removes s x (mark.Fulfil p) c e = (Fulfils, given x.key.id Fulfils _ c e (refl, refl))
mark_removes s x (mark.Held event) c e = absurd (cc)

-- ---- the update that it is

pub record IsRemoving (id : ℕ) (c : Command) : Type 0 where
  pub change : Update
  pub unnoted : is_of_records c ≡ false
  pub row : (keys : Signer) (e : End) → command_row keys c e ≡ propose_row change e
  pub next : (own : List Update) → HasNextId own change
  pub removal : Removal
  pub removes : removed change ≡ Some removal
  pub is : removal.id ≡ id
  pub told : (k : Kind) → IsRemoval id k c → removal_of_outcome removal.outcome Proposed ≡ By k Proposed
  pub no_add : (i : ℕ) → add_with i (change ∷ []) ≡ None

proposes : (id : ℕ) (c : Command) (u : Update) (r : Removal) → is_of_records c ≡ false
    → ((keys : Signer) (e : End) → command_row keys c e ≡ propose_row u e) → ((own : List Update) → HasNextId own u)
    → removed u ≡ Some r → r.id ≡ id
    → ((k : Kind) → IsRemoval id k c → removal_of_outcome r.outcome Proposed ≡ By k Proposed)
    → ((i : ℕ) → add_with i (u ∷ []) ≡ None) → IsRemoving id c
proposes id c u r unnoted row next removes is told no_add = record {
  change = u;
  unnoted = unnoted;
  row = row;
  next = next;
  removal = r;
  removes = removes;
  is = is;
  told = told;
  no_add = no_add;
}

pub removing : (id : ℕ) (k : Kind) (c : Command) → IsRemoval id k c → IsRemoving id c
removing id = by_removal (IsRemoving id) id
    (λ p. proposes id (command.Fulfil id p) (update.Fulfil (record { id = id; preimage = p }))
    (record { id = id; outcome = Fulfilled }) refl (λ keys e. refl) (λ own. tt) refl refl
    (λ k m. ap (λ z. By z Proposed) m.1)
    (λ i. refl))
    (λ reason. proposes id (command.Fail id reason) (update.Fail (record { id = id; reason = reason }))
    (record { id = id; outcome = Failed }) refl (λ keys e. refl) (λ own. tt) refl refl
    (λ k m. ap (λ z. By z Proposed) m.1)
    (λ i. refl))
    (λ sha code. proposes id (command.Malformed id sha code)
    (update.Malformed (record { id = id; sha256_of_onion = sha; failure_code = code }))
    (record { id = id; outcome = Failed }) refl (λ keys e. refl) (λ own. tt) refl refl
    (λ k m. ap (λ z. By z Proposed) m.1)
    (λ i. refl))

pub asked_removal : (s : Services) (x : Htlc) (c : Command) → removal_by s x x.mark ≡ Some c
    → (k : Kind) × IsRemoval x.key.id k c
asked_removal s x c e = mark_removes s x x.mark c e

pub removes_so : (s : Services) (x : Htlc) (c : Command) → removal_by s x x.mark ≡ Some c → IsRemoving x.key.id c
removes_so s x c e = let r = asked_removal s x c e in removing x.key.id r.0 c r.1

-- what may be removed is live

live_by : (l : Log) (r : Removal) → removal_fault l (Some r) ≡ None → outcome r.id l.own ≡ Live
live_by l r = first (is_none (add_with r.id l.received))
  where
    second : (b : Bool) → not (is_live (outcome r.id l.own)) ≡ b
        → cond b (Some refusal.AlreadyRemoved)
        (cond (is_none (add_with r.id (take l.acknowledged.peer l.received))) (Some refusal.NotCommitted) None) ≡ None
        → outcome r.id l.own ≡ Live
    second true is e = absurd (cc)
    second false is e = not_gone (outcome r.id l.own) is

    first : (b : Bool) → cond b (Some (refusal.PeerLimit rule.NoSuchHtlc))
        (cond (not (is_live (outcome r.id l.own))) (Some refusal.AlreadyRemoved)
        (cond (is_none (add_with r.id (take l.acknowledged.peer l.received))) (Some refusal.NotCommitted) None)) ≡ None
        → outcome r.id l.own ≡ Live
    first true e = absurd (cc)
    first false e = second (not (is_live (outcome r.id l.own))) refl e

module _ (id : ℕ) (c : Command) (h : IsRemoving id c) where
  pub live_so : (e : End) → propose_fault e h.change ≡ None → outcome id e.dance.log.own ≡ Live
  live_so e none =
      let a = none_both (own_fault e h.change) (proposal_fault e.dance.log h.change) none in
      let b = none_both _ _ a.1 in
      let g = none_both (removal_fault e.dance.log (removed h.change)) _ b.1 in
      subst (λ i. outcome i e.dance.log.own ≡ Live) h.is
      (live_by e.dance.log h.removal (sym (ap (removal_fault e.dance.log) h.removes) ∙ g.0))

  -- what it makes of the HTLC, and of others
  pub told_so : (own : List Update) → outcome id own ≡ Live → (k : Kind) → IsRemoval id k c
      → removal_of_outcome (outcome id (own ++ h.change ∷ [])) Proposed ≡ By k Proposed
  told_so own live k m =
      ap (λ o. removal_of_outcome o Proposed) (outcome-hit id own h.change h.removal h.removes
      (eq-eqb h.removal.id id h.is) live)
      ∙ h.told k m

  pub others_so : (own : List Update) (i : ℕ) → (i == id) ≡ false → outcome i (own ++ h.change ∷ []) ≡ outcome i own
  others_so own i isnt = outcome-other i own h.change h.removal h.removes
      (ap (λ z. z == i) h.is ∙ ne_eqb id i (λ same. absurd (let no : true ≡ false = sym (eq-eqb i id (sym same)) ∙ isnt
      in cc)))

  pub none_forwards : (o : List ℕ × ℕ) (i : ℕ) → Forwards o (add_with i (h.change ∷ [])) → ⊥
  none_forwards o i f = subst (Forwards o) (h.no_add i) f
