-- How many HTLCs are live: as many as were offered, less those that were removed.
use Rattle.std.proofs.Common.{◌≡◌, ℕ, ◌+◌, ◌≤◌, List, [], ◌∷◌, ◌++◌, length, take, drop, refl, sym, ap, ◌∙◌, subst}
use Rattle.std.proofs.Common.{arith, cond, Option, Some, None, append_assoc, append-nil}
use Rattle.std.proofs.lemmas.List.{take-append-drop, take-take}
use Rattle.std.proofs.lemmas.List.Sums.{sum_by-cons}
use Rattle.ln_log.specs.declared.update.Add.{Add}
use Rattle.ln_log.specs.declared.update.Removal.{Removal}
use Rattle.ln_log.specs.declared.update.Update.{Update}
use Rattle.ln_log.specs.declared.log.Side.{Side}
use Rattle.ln_log.specs.declared.log.Side.TheVariants as side
use Rattle.ln_log.specs.declared.log.Pair.TheVariants as pair
use Rattle.ln_log.specs.declared.standing.Standing.{Standing}
use Rattle.ln_log.specs.Updates.{offered, removed, is_some, next_id, add_with, is_live}
use Rattle.ln_log.specs.Outcomes.{is_removal, removals_in}
use Rattle.ln_log.specs.View.{live_adds}
use Rattle.ln_log.specs.Log.{Log, covered, counts_of, live_in, number_after, AreNumbered, RemovesLive, AreRemovals}
use Rattle.ln_log.specs.Log.{IsKept}
use Rattle.ln_log.proofs.Removing.{IsDone, done, next-cons, numbered-take, removals-take, removals-more}
use Rattle.ln_log.proofs.Tallies.{one, weight, tally, live_is, tally-none, tally-hit}
use Rattle.ln_log.proofs.Standings.{found_some}

one_new : (o : Option Add) → weight one is_live [] o ≡ number_after 0 o
one_new None = refl
one_new (Some a) = refl

-- at first all are live
all_live : (adds : List Update) → tally one is_live adds [] ≡ next_id adds
all_live [] = refl
all_live (u ∷ us) = omega (arith, one_new (offered u), all_live us, next-cons u us)

abbrev removes : Option Removal → ℕ
removes None = 0
removes (Some x) = 1

removes_is : (r : Option Removal) → cond (is_some r) 1 0 ≡ removes r
removes_is None = refl
removes_is (Some x) = refl

one_less : (adds before : List Update) (u : Update) (r : Option Removal) → AreNumbered 0 adds → removed u ≡ r → IsDone r
    → RemovesLive adds before r → tally one is_live adds (before ++ u ∷ []) + removes r ≡ tally one is_live adds before
one_less adds before u None ids e gone h = omega (arith, tally-none one is_live adds before u e)
one_less adds before u (Some x) ids e gone h =
    let found = found_some (add_with x.id adds) h.0 in
    omega (arith, tally-hit one is_live 0 adds before u x found.0 ids e found.1 h.1, ap {B = ℕ} (λ b. cond b 1 0) gone)

-- each removal takes one
left : (adds before us : List Update) → AreNumbered 0 adds → AreRemovals adds before us
    → tally one is_live adds (before ++ us) + removals_in us ≡ tally one is_live adds before
left adds before [] ids h = omega (arith, ap (tally one is_live adds) (append-nil before))
left adds before (u ∷ us) ids h =
    omega (
      arith,
      one_less adds before u (removed u) ids refl (done u) h.0,
      left adds (before ++ u ∷ []) us ids h.1,
      ap (tally one is_live adds) (append_assoc before (u ∷ []) us),
      sum_by-cons (λ v. cond (is_removal v) 1 0) u us,
      removes_is (removed u),
    )

pub counted : (adds us : List Update) → AreNumbered 0 adds → AreRemovals adds [] us
    → length (live_adds adds us) + removals_in us ≡ next_id adds
counted adds us ids h = omega (arith, live_is adds us, left adds [] us ids h, all_live adds)

pub wider : (m n : ℕ) (adds us : List Update) → m ≤ n → AreRemovals (take m adds) [] us
    → AreRemovals (take n adds) [] us
wider m n adds us le h =
    subst (λ a. AreRemovals a [] us) (take-append-drop m (take n adds))
    (removals-more (take m (take n adds)) (drop m (take n adds)) [] us
    (subst (λ a. AreRemovals a [] us) (sym (take-take m n adds le)) h))

-- the two commitments that stand
pub live_now : (l : Log) (s t p q : Standing) → IsKept l s t p q → (w : Side) (own peer : List Update)
    → own ≡ (covered l (counts_of (pair.Current w) l)).own → peer ≡ (covered l (counts_of (pair.Current w) l)).peer
    → live_in (covered l (counts_of (pair.Current w) l)) + (removals_in own + removals_in peer)
    ≡ next_id own + next_id peer
live_now l s t p q h side.Own own peer eo ep =
    omega (
      arith,
      ap removals_in eo,
      ap removals_in ep,
      ap next_id eo,
      ap next_id ep,
      counted (take l.current.own l.own) (take l.current.peer l.received)
          (numbered-take 0 l.current.own l.own h.own_ids)
          (removals-take (take l.current.own l.own) [] l.received l.current.peer h.peer_removals),
      counted (take l.current.peer l.received) (take l.current.own l.own)
          (numbered-take 0 l.current.peer l.received h.peer_ids)
          (wider l.signed.peer l.current.peer l.received (take l.current.own l.own) h.within.peer_signed
          (removals-take (take l.signed.peer l.received) [] l.own l.current.own h.own_removals)),
    )
live_now l s t p q h side.Peer own peer eo ep =
    omega (
      arith,
      ap removals_in eo,
      ap removals_in ep,
      ap next_id eo,
      ap next_id ep,
      counted (take l.acknowledged.own l.own) (take l.acknowledged.peer l.received)
          (numbered-take 0 l.acknowledged.own l.own h.own_ids)
          (wider l.current.own l.acknowledged.own l.own (take l.acknowledged.peer l.received) h.within.own_current
          (removals-take (take l.current.own l.own) [] l.received l.acknowledged.peer h.peer_removals)),
      counted (take l.acknowledged.peer l.received) (take l.acknowledged.own l.own)
          (numbered-take 0 l.acknowledged.peer l.received h.peer_ids) h.acknowledged_removals,
    )

pub live_by : (l m : Log) (s t p q : Standing) (w : Side) (n k : ℕ) (own peer : List Update) → IsKept l s t p q → l ≡ m
    → n ≡ (counts_of (pair.Current w) m).own → k ≡ (counts_of (pair.Current w) m).peer → own ≡ l.own → peer ≡ l.received
    → live_in (covered m (counts_of (pair.Current w) m)) + (removals_in (take n own) + removals_in (take k peer))
    ≡ next_id (take n own) + next_id (take k peer)
live_by l m s t p q w n k own peer h e en ek eo ep =
    live_now m s t p q (subst (λ x. IsKept x s t p q) e h) w (take n own) (take k peer)
    (ap (λ i. take i own) en ∙ ap (take (counts_of (pair.Current w) m).own) (eo ∙ ap (λ (x : Log). x.own) e))
    (ap (λ i. take i peer) ek ∙ ap (take (counts_of (pair.Current w) m).peer) (ep ∙ ap (λ (x : Log). x.received) e))
