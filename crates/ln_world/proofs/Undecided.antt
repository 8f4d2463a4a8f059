-- An HTLC of a node's book that waits for its end to decide it: the end has neither decided nor removed it.
use Rattle.std.proofs.Common.{◌≡◌, ℕ, List, [], ◌∷◌, ◌++◌, take, refl, sym, ap, ◌∙◌, not, Option, Some, None}
use Rattle.std.specs.Prelude.{option_map}
use Rattle.ln_keys.specs.declared.keys.ChannelKeys.{Ghosts}
use Rattle.ln_log.specs.Updates.{outcome, is_live}
use Rattle.ln_log.specs.declared.outcome.Outcome.{Outcome}
use Rattle.ln_log.specs.declared.outcome.Outcome.TheVariants.{Live, Fulfilled, Failed}
use Rattle.ln_log.specs.declared.update.Update.{Update}
use Rattle.ln_log.specs.declared.update.Update.TheVariants as update
use Rattle.ln_log.specs.Log.{Log}
use Rattle.ln_log.proofs.Removing.{outcome-none}
use Rattle.ln_channel.specs.End.{End as ChannelEnd}
use Rattle.ln_channel.specs.Ledger.{first_htlc}
use Rattle.ln_channel.specs.Record.{saved_end}
use Rattle.ln_channel.specs.State.{State}
use Rattle.ln_book_tables.specs.declared.htlc.Htlc.{Htlc}
use Rattle.ln_world_channels.specs.declared.step.Node.{Node}
use Rattle.ln_world_channels.specs.WorldChannel.{WorldChannel}
use Rattle.ln_world_dispatch.specs.Dispatcher.{dispatcher_at}
use Rattle.ln_world_dispatch.specs.World.{decided_of}
use Rattle.ln_world.specs.World.{World, saved_of}
use Rattle.ln_payment.specs.Parts.{Decision, Undecided, Decided, Past, NoRemoval, Stage, Payment}
use Rattle.ln_payment.proofs.Invariant.{IsKept, IsEarly}
use Rattle.ln_payment_circuits.specs.Shift.{Shift, Stays, Takes, Proposes, Signs, Accepts, Learns, Closes, Notes}
use Rattle.ln_payment_circuits.specs.Shift.{IsPlain, IsPlainUpdate}
use Rattle.ln_payment_circuits.specs.Snapshot.{is_gone}
use Rattle.ln_payment_circuits.proofs.Links.{decision_at, decision_by, removal_at}
use Rattle.ln_payment_circuits.proofs.Parts.{removal_by, removal_of}
use Rattle.ln_payment_circuits.proofs.Shifts.{side_of as read_side}
use Rattle.ln_payment_circuits.proofs.Tidy.{none_decided, none_in_base}
use Rattle.ln_world.proofs.Scene.{link_in, links_of}
use Rattle.ln_world.proofs.Lost.{link_is}
use Rattle.ln_world.proofs.Wells.{IsWell}
use Rattle.ln_world.proofs.Orderly.{IsNext, end_at, told_by, told_in}
use Rattle.ln_world.proofs.Dispatched.{Ran, first_told}

no_removal_yet : (p : Payment) → IsKept p → p.decision ≡ Undecided → p.removal ≡ NoRemoval
no_removal_yet p k is = cases p.decision is k.early
  where
    cases : (z : Decision) → z ≡ Undecided → IsEarly z p.removal p.outs p.note → p.removal ≡ NoRemoval
    cases Undecided e f = f.0
    cases (Decided m) e f = absurd (cc)
    cases Past e f = absurd (cc)

module _ {K : Type 0} (k : Ghosts K) (n : Node) (w : World K) (h : IsWell k n w) (r : Ran k w) where
  abbrev cs : List (WorldChannel K)
  cs = w.dispatchers.channels.channels

  -- it waits in this channel
  abbrev pub Waits : ℕ → Htlc → Type 0
  Waits c x = IsNext (told_in n w.dispatchers.dispatchers c x.event) (decided_of (saved_of (link_in n c cs))) x

  module _ (c : ℕ) (x : Htlc) (next : Waits c x) where
    -- it is that of which the end's first undecided event tells
    pub first_is : (s : State K) (is : link_in n c cs ≡ Some s)
        → first_htlc (link_is k.signer n cs h.open_ c s is).end.dance.log
        (link_is k.signer n cs h.open_ c s is).end.ledger.undecided ≡ Some x.key.id
    first_is s is =
        let q = link_is k.signer n cs h.open_ c s is in
        let saved : saved_of (Some s) ≡ Some q.end = ap (λ (z : State K). saved_end z.stage) q.link in
        let count : decided_of (saved_of (link_in n c cs)) ≡ q.end.ledger.decided =
        ap (λ o. decided_of (saved_of o)) is ∙ ap decided_of saved in
        first_told k w r (end_at n c) s is q.end saved next.offered
        (ap (λ i. told_by i (dispatcher_at (end_at n c) w.dispatchers.dispatchers)) (sym (next.event ∙ count))
        ∙ next.told)
        ∙ ap (λ i. Some i) (sym next.id)

    pub undecided_there : decision_at x.key.id ((links_of n cs).sides c) ≡ Undecided
    undecided_there = cases (link_in n c cs) refl
      where
        cases : (o : Option (State K)) → link_in n c cs ≡ o
            → decision_at x.key.id ((links_of n cs).sides c) ≡ Undecided
        cases None is = ap (λ o. decision_at x.key.id (option_map read_side (saved_of o))) is
        cases (Some s) is =
            let q = link_is k.signer n cs h.open_ c s is in
            let first = first_is s is in
            let fit = q.is.fit in
            let tidy = q.is.keeps.tidy in
            let saved : saved_of (Some s) ≡ Some q.end = ap (λ (z : State K). saved_end z.stage) q.link in
            ap (λ o. decision_at x.key.id (option_map read_side (saved_of o))) is
            ∙ ap (λ o. decision_at x.key.id (option_map read_side o)) saved
            ∙ ap (λ y. decision_by y (is_gone x.key.id (take q.end.dance.log.first.own q.end.dance.log.own)))
            (none_decided q.end.dance.log q.end.ledger fit tidy x.key.id first)
            ∙ ap (λ y. decision_by None (not (is_live y)))
            (none_in_base q.end.dance.log q.end.ledger fit tidy x.key.id first)

    pub unremoved_there : removal_at x.key.id ((links_of n cs).sides c) ≡ NoRemoval
    unremoved_there =
        let p = h.paid (record { channel = c; id = x.key.id }) in
        sym p.1.of_links.removal ∙ no_removal_yet p.0 p.1.kept (p.1.of_links.decision ∙ undecided_there)

-- ---- where an end goes on

live_so : (o : Outcome) (s : Stage) → removal_by o s ≡ NoRemoval → o ≡ Live
live_so Live s e = refl
live_so Fulfilled s e = absurd (cc)
live_so Failed s e = absurd (cc)

pub live_of : (id : ℕ) (l : Log) → removal_of id l ≡ NoRemoval → outcome id l.own ≡ Live
live_of id l e = live_so (outcome id l.own) _ e

plain_live : (id : ℕ) (us : List Update) (u : Update) → IsPlainUpdate u
    → outcome id (us ++ u ∷ []) ≡ outcome id us
plain_live id us (update.Add a) p = outcome-none id us (update.Add a) refl
plain_live id us (update.Fulfil f) p = absurd p
plain_live id us (update.Fail f) p = absurd p
plain_live id us (update.Malformed m) p = absurd p
plain_live id us (update.Fee f) p = outcome-none id us (update.Fee f) refl

-- a call of which the book has no part removes none
pub shift_live : (id : ℕ) (x f : ChannelEnd) (s : Shift x f) → IsPlain s → outcome id x.dance.log.own ≡ Live
    → outcome id f.dance.log.own ≡ Live
shift_live id x f (Stays l g) p e = ap (λ (m : Log). outcome id m.own) l ∙ e
shift_live id x f (Takes u may l g) p e = ap (λ (m : Log). outcome id m.own) l ∙ e
shift_live id x f (Proposes u may next l g) p e =
    ap (λ (m : Log). outcome id m.own) l ∙ plain_live id x.dance.log.own u p ∙ e
shift_live id x f (Signs l g) p e = ap (λ (m : Log). outcome id m.own) l ∙ e
shift_live id x f (Accepts l g) p e = ap (λ (m : Log). outcome id m.own) l ∙ e
shift_live id x f (Learns l g) p e = ap (λ (m : Log). outcome id m.own) l ∙ e
shift_live id x f (Closes l g) p e = ap (λ (m : Log). outcome id m.own) l ∙ e
shift_live id x f (Notes c l g) p e = absurd p
