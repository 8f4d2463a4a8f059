-- Both ends of a channel are tidy, fit, and have the preimages of what they fulfil, over every list of steps.
use Rattle.std.proofs.Common.{◌≡◌, ℕ, ◌≤◌, List, [], ◌∷◌, ◌++◌, take, length, refl, sym, ap, ◌∙◌, subst, arith}
use Rattle.std.proofs.Common.{append_assoc}
use Rattle.std.proofs.Common.{append-nil, Option}
use Rattle.std.proofs.lemmas.List.{take-take, take-append-le}
use Rattle.ln_keys.specs.declared.role.Role.TheVariants.{Funder, Fundee}
use Rattle.ln_keys.specs.Signer.{Signer}
use Rattle.ln_keys.specs.Partners.{ArePartners}
use Rattle.ln_log.specs.declared.mark.EventRef.{EventRef}
use Rattle.ln_log.specs.declared.mark.EventRef.TheVariants as ref
use Rattle.ln_log.specs.declared.outcome.Outcome.TheVariants.{Live}
use Rattle.ln_log.specs.Updates.{outcome, next_id}
use Rattle.ln_log.specs.Log.{Log, IsWithin}
use Rattle.ln_log.specs.Log as log
use Rattle.ln_channel.specs.declared.config.Config.{Config}
use Rattle.ln_channel.specs.declared.config.OpenSpec.{OpenSpec}
use Rattle.ln_channel.specs.declared.opening.Opened.{Opened}
use Rattle.ln_channel.specs.declared.machine.ConnectionState.{ConnectionState}
use Rattle.ln_channel.specs.declared.machine.ConnectionState.TheVariants.{Down, AwaitingReestablish, Connected}
use Rattle.ln_channel.specs.Meeting.{Opens}
use Rattle.ln_channel.specs.Ledger.{no_events}
use Rattle.ln_channel.specs.Base.{based}
use Rattle.ln_channel.specs.End.{End, end_of}
use Rattle.ln_channel.specs.Opening.{accept_fault, funder_end, created_message, created_fault, fundee_end}
use Rattle.ln_msgs.specs.declared.messages.opening.FundingCreated.{FundingCreated}
use Rattle.ln_channel_laws.specs.Longest.{IsLongest}
use Rattle.ln_channel_laws.specs.Ends.{Ends, turned, opened, connects, acts, Act, Step, By, Connect, happens, run}
use Rattle.ln_channel_laws.proofs.Offered.{All as PairAll, IsAt, IsNamed, Stands, both_stand, both_longest, was_given}
use Rattle.ln_payment_circuits.specs.Shift.{Shift, Stays, Takes, Proposes, Signs, Accepts, Learns, Closes, Notes}
use Rattle.ln_payment_circuits.specs.Snapshot.{All, IsBelow, IsFrom, IsFit}
use Rattle.ln_payment_circuits.proofs.Tidy.{IsTidyLedger, tidy_dropped}
use Rattle.ln_payment_circuits.proofs.Shifts.{IsTidy, tidy_shift, tidy_based_end}
use Rattle.ln_payment_circuits.proofs.Held.{held_begun}
use Rattle.ln_payment_circuits.proofs.Preimages.{ArePaid, paid_shift, paid_dropped, paid_based}
use Rattle.ln_world.proofs.Goes.{Goes, Shifts, Drops, Bases, acts_go, acts_other}

-- the base removes no HTLC that it doesn't offer
abbrev pub IsClosedBase : Log → Type 0
IsClosedBase l = (id : ℕ) → next_id (take l.first.peer l.received) ≤ id → outcome id (take l.first.own l.own) ≡ Live

pub record Keeps (e : End) : Type 0 where
  pub tidy : IsTidy e
  pub closed : IsClosedBase e.dance.log
  pub paid : ArePaid e.dance.log

-- ---- an end is fit

below_all : (own peer : ℕ) (c : Option ℕ) (rs : List EventRef) → PairAll (IsNamed own peer c) rs → All (IsBelow peer) rs
below_all own peer c [] h = tt
below_all own peer c (r ∷ rs) h = (one r h.0, below_all own peer c rs h.1)
  where
    one : (r : EventRef) → IsNamed own peer c r → IsBelow peer r
    one (ref.Own n) k = tt
    one (ref.Peer n) k = k
    one ref.Close k = tt

from_all : (first : log.Counts) (rs : List EventRef) → PairAll (IsAt first) rs → All (IsFrom first.peer) rs
from_all first [] h = tt
from_all first (r ∷ rs) h = (one r h.0, from_all first rs h.1)
  where
    one : (r : EventRef) → IsAt first r → IsFrom first.peer r
    one (ref.Own n) k = tt
    one (ref.Peer n) k = k
    one ref.Close k = tt

pub fit_of : (e : End) → Stands e → IsClosedBase e.dance.log → IsFit e
fit_of e s closed = record {
  sound = record {
    within = s.within;
    own_first = s.own_first;
    own_ids = s.own_ids;
    peer_removals = s.peer_removals;
  };
  peer_ids = s.peer_ids;
  peer_first = s.peer_first;
  below = below_all e.dance.log.current.own e.dance.log.acknowledged.peer e.closing.closed e.ledger.undecided s.held;
  from = from_all e.dance.log.first e.ledger.undecided s.there;
  closed = closed;
}

-- ---- the base as lists go on

closed_as : (l m : Log) → m.first ≡ l.first → take l.first.own m.own ≡ take l.first.own l.own
    → take l.first.peer m.received ≡ take l.first.peer l.received → IsClosedBase l → IsClosedBase m
closed_as l m first own peer h id le =
    ap (λ n. outcome id (take n m.own)) (ap (λ (c : log.Counts). c.own) first) ∙ ap (outcome id) own
    ∙ h id (subst (λ us. next_id us ≤ id) (ap (λ n. take n m.received) (ap (λ (c : log.Counts). c.peer) first) ∙ peer)
    le)

own_le : (l : Log) → IsWithin l → l.first.own ≤ l.current.own → l.first.own ≤ length l.own
own_le l w f =
    let a = w.own_current in
    let b = w.own_acknowledged in
    let c = w.own_signed in
    omega (arith, a, b, c, f)

peer_le : (l : Log) → IsWithin l → l.first.peer ≤ l.acknowledged.peer → l.first.peer ≤ length l.received
peer_le l w f =
    let a = w.peer_acknowledged in
    let b = w.peer_signed in
    let c = w.peer_current in
    omega (arith, a, b, c, f)

closed_shift : (e f : End) → IsFit e → IsClosedBase e.dance.log → Shift e f → IsClosedBase f.dance.log
closed_shift e f fit h (Stays l g) = subst IsClosedBase (sym l) h
closed_shift e f fit h (Takes u may l g) = subst IsClosedBase (sym l)
    (closed_as e.dance.log (log.after_receive u e.dance.log) refl refl
    (take-append-le e.dance.log.first.peer e.dance.log.received (u ∷ [])
    (peer_le e.dance.log fit.sound.within fit.peer_first)) h)
closed_shift e f fit h (Proposes u may next l g) = subst IsClosedBase (sym l)
    (closed_as e.dance.log (log.after_propose u e.dance.log) refl
    (take-append-le e.dance.log.first.own e.dance.log.own (u ∷ [])
    (own_le e.dance.log fit.sound.within fit.sound.own_first)) refl h)
closed_shift e f fit h (Signs l g) = subst IsClosedBase (sym l) h
closed_shift e f fit h (Accepts l g) = subst IsClosedBase (sym l) h
closed_shift e f fit h (Learns l g) = subst IsClosedBase (sym l) h
closed_shift e f fit h (Closes l g) = subst IsClosedBase (sym l) h
closed_shift e f fit h (Notes c l g) = subst IsClosedBase (sym l) h

closed_dropped : (e : End) → IsFit e → IsClosedBase e.dance.log → IsClosedBase (log.after_drop e.dance.log)
closed_dropped e fit h =
    let l = e.dance.log in
    let w = fit.sound.within in
    let a = w.own_current in
    let b = w.own_acknowledged in
    let c = fit.sound.own_first in
    let p = w.peer_acknowledged in
    let q = w.peer_signed in
    let r = fit.peer_first in
    closed_as l (log.after_drop l) refl
    (take-take l.first.own l.signed.own l.own (omega (arith, a, b, c)))
    (take-take l.first.peer l.current.peer l.received (omega (arith, p, q, r))) h

closed_based : (e : End) → IsLongest e → IsClosedBase (based e).dance.log
closed_based e k =
    subst (λ n. (id : ℕ) → next_id (take n.peer e.dance.log.received) ≤ id → outcome id (take n.own e.dance.log.own) ≡
    Live)
    (sym k.is) k.may.closed.peer_new

-- ---- what each step keeps

pub keeps : (e f : End) → Stands e → IsLongest e → Keeps e → Goes e f → Keeps f
keeps e f s long k (Shifts x) =
    let fit = fit_of e s k.closed in
    record {
      tidy = tidy_shift e f fit k.tidy x;
      closed = closed_shift e f fit k.closed x;
      paid = paid_shift e f fit.sound.within k.paid x;
    }
keeps e f s long k (Drops is) =
    let fit = fit_of e s k.closed in
    subst Keeps (sym is) (record {
      tidy = tidy_dropped e.dance.log e.ledger fit k.tidy;
      closed = closed_dropped e fit k.closed;
      paid = paid_dropped e.dance.log fit.sound.within k.paid;
    })
keeps e f s long k (Bases is) =
    subst Keeps (sym is) (record {
      tidy = tidy_based_end e s.own_first k.tidy;
      closed = closed_based e long;
      paid = paid_based e k.paid;
    })

pub record BothKeep (p : Ends) : Type 0 where
  pub x : Keeps p.x
  pub y : Keeps p.y

-- what is known of each pair on the way
abbrev Known : Ends → Type 0
Known p = (Stands p.x × Stands p.y) × (IsLongest p.x × IsLongest p.y)

turned_keep : (p : Ends) → BothKeep p → BothKeep (turned p)
turned_keep p k = record { x = k.y; y = k.x }

acted_keep : (a : Signer) (act : Act) (p : Ends) → Stands p.x → IsLongest p.x → BothKeep p → BothKeep (acts a act p)
acted_keep a act p s long k = record {
  x = keeps p.x (acts a act p).x s long k.x (acts_go a act p);
  y = subst Keeps (sym (acts_other a act p)) k.y;
}

step_keeps : (a b : Signer) (s : Step) (p : Ends) → Known p → BothKeep p → BothKeep (happens a b s p)
step_keeps a b (By Funder act) p n k = acted_keep a act p n.0.0 n.1.0 k
step_keeps a b (By Fundee act) p n k =
    turned_keep (acts b act (turned p)) (acted_keep b act (turned p) n.0.1 n.1.1 (turned_keep p k))
step_keeps a b Connect p n k = cases p.x_line p.y_line
  where
    cases : (lx ly : ConnectionState) → BothKeep (connects a b lx ly p)
    cases Down Down = record { x = k.x; y = k.y }
    cases Down AwaitingReestablish = k
    cases Down Connected = k
    cases AwaitingReestablish l = k
    cases Connected l = k

run_more : (a b : Signer) (ss : List Step) (s : Step) (p : Ends)
    → run a b (ss ++ s ∷ []) p ≡ happens a b s (run a b ss p)
run_more a b [] s p = refl
run_more a b (t ∷ ss) s p = run_more a b ss s (happens a b t p)

all_keep : (a b : Signer) (p : Ends) → ((ss : List Step) → Known (run a b ss p)) → (before ss : List Step)
    → BothKeep (run a b before p) → BothKeep (run a b (before ++ ss) p)
all_keep a b p known before [] k = subst (λ ss. BothKeep (run a b ss p)) (sym (append-nil before)) k
all_keep a b p known before (s ∷ ss) k =
    subst (λ ts. BothKeep (run a b ts p)) (append_assoc before (s ∷ []) ss)
    (all_keep a b p known (before ++ s ∷ []) ss
    (subst BothKeep (sym (run_more a b before s p)) (step_keeps a b s (run a b before p) (known before) k)))

-- ---- as they begin

fresh_keeps : (e : End) → e.dance.log ≡ log.opened e.dance.log.opening e.dance.log.role → e.ledger ≡ no_events → Keeps e
fresh_keeps e l g = record {
  tidy =
      subst (λ (m : Log). IsTidyLedger m e.ledger) (sym l) (subst
      (IsTidyLedger (log.opened e.dance.log.opening e.dance.log.role))
      (sym g)
      (record {
        ids = omega arith;
        open_still = tt;
        marks = tt;
        true_results = tt;
        once = tt;
        waits = held_begun 0;
      }));
  closed = subst IsClosedBase (sym l) (λ id le. refl);
  paid = subst ArePaid (sym l) tt;
}

-- the ends of a channel that was opened, whatever has happened to them
pub record EndIs (e : End) : Type 0 where
  pub keeps : Keeps e
  pub fit : IsFit e

module _ (a b : Signer) (s : OpenSpec) (c : Config) (funder fundee : Opened) (keys : ArePartners a b)
    (o : Opens a b s c funder fundee) where
  funder_is : funder_end a s o.accept ≡ funder
  funder_is = ap (λ (p : Opened × FundingCreated). p.0) (was_given (accept_fault s o.accept) (
    funder_end a s o.accept,
    created_message a s o.accept,
  ) (funder, o.created) o.accept_channel)

  fundee_is : fundee_end o.agreement o.created ≡ fundee
  fundee_is = ap (λ p. p.0) (was_given (created_fault b o.agreement o.created) _ _ o.funding_created)

  begun_keep : BothKeep (opened funder fundee)
  begun_keep = record {
    x = fresh_keeps (end_of funder)
        (subst (λ (e : Opened). e.dance.log ≡ log.opened e.dance.log.opening e.dance.log.role) funder_is refl) refl;
    y = fresh_keeps (end_of fundee)
        (subst (λ (e : Opened). e.dance.log ≡ log.opened e.dance.log.opening e.dance.log.role) fundee_is refl) refl;
  }

  -- neither has proposed anything yet
  pub funder_fresh : funder.dance.log.own ≡ []
  funder_fresh = ap (λ (l : Log). l.own)
      (subst (λ (e : Opened). e.dance.log ≡ log.opened e.dance.log.opening e.dance.log.role) funder_is refl)

  pub fundee_fresh : fundee.dance.log.own ≡ []
  fundee_fresh = ap (λ (l : Log). l.own)
      (subst (λ (e : Opened). e.dance.log ≡ log.opened e.dance.log.opening e.dance.log.role) fundee_is refl)

  known : (ss : List Step) → Known (run a b ss (opened funder fundee))
  known ss = (both_stand a b s c funder fundee ss keys o, both_longest a b s c funder fundee ss keys o)

  pub both_are : (ss : List Step)
      → EndIs (run a b ss (opened funder fundee)).x × EndIs (run a b ss (opened funder fundee)).y
  both_are ss =
      let p = run a b ss (opened funder fundee) in
      let k = all_keep a b (opened funder fundee) known [] ss begun_keep in
      let n = known ss in (
        record { keeps = k.x; fit = fit_of p.x n.0.0 k.x.closed },
        record
            { keeps = k.y; fit = fit_of p.y n.0.1 k.y.closed },
      )
