-- An end that comes back with an older record of its own finds that it has lost data, and its peer finds the same.
use Rattle.std.proofs.Common.{◌≡◌, ◌≢◌, ◌↔◌, ℕ, ◌+◌, ◌-◌, ◌<◌, ◌≤◌, ◌^◌, ◌⊎◌, inl, inr, refl, sym, ap, ◌∙◌}
use Rattle.std.proofs.Common.{subst, arith}
use Rattle.std.proofs.Common.{Bool, true, false, cond, ◌&&◌, ◌||◌, ◌==◌, nat_le, nat_lt, Option, Some, None, List, ◌++◌}
use Rattle.std.proofs.lemmas.Bool.{le-leb, leb-true, ltb-true, le-ltb, lt-ltb}
use Rattle.std.proofs.lemmas.Bool.Decides.{eqb_tells, leb_tells}
use Rattle.ln_refusals.specs.declared.lost_data.LostData.{LostData}
use Rattle.ln_refusals.specs.declared.lost_data.LostData.TheVariants.{Unproved, Own, Peer}
use Rattle.ln_refusals.specs.declared.refusal.Refusal.{Refusal}
use Rattle.ln_refusals.specs.declared.refusal.Refusal.TheVariants as refusal
use Rattle.ln_keys.specs.Signer.{Signer}
use Rattle.ln_keys.specs.Partners.{ArePartners}
use Rattle.ln_dance.specs.Dance.{Dancer}
use Rattle.ln_dance.specs.Reconnect.{KeepsUp, HaveParted}
use Rattle.ln_dance.specs.Resume.{reestablish_message, can_be_served, knows_secret, tells_of_later, tells_of_earlier}
use Rattle.ln_dance.specs.Resume.{resume_fault}
use Rattle.ln_dance.proofs.Parted.{both_hold, serves_signature, serves_revocation, knows}
use Rattle.ln_channel.specs.declared.config.Config.{Config}
use Rattle.ln_channel.specs.declared.config.OpenSpec.{OpenSpec}
use Rattle.ln_channel.specs.declared.opening.Opened.{Opened}
use Rattle.ln_channel.specs.End.{End}
use Rattle.ln_channel.specs.Meeting.{Opens}
use Rattle.ln_channel_laws.specs.Ends.{Ends, turned, Step, opened, run}
use Rattle.ln_channel_laws.specs.LostData.{TellsWhoLost, BothTellWhoLost, AtMostPeerLost, refused_of, loaded}
use Rattle.ln_channel_laws.proofs.Ends.Breaks.{keeps_up}
use Rattle.ln_channel_laws.proofs.Ends.JustOpened.{opened_holds}
use Rattle.ln_channel_laws.proofs.Ends.Numbers.{BothGrow, numbers_grow}
use Rattle.ln_channel_laws.proofs.Ends.Runs.{Sound, flipped, ran}

-- ---- what is refused, by four tests

abbrev fault_by : Bool → Bool → Bool → Bool → Option Refusal
fault_by served known later earlier = cond served (cond known None (Some refusal.SecretWrong))
    (Some (refusal.ReestablishNumber (cond ((later || earlier) && known) (cond later Own Peer) Unproved)))

by_parts : (served known later earlier s k l e : Bool) → served ≡ s → known ≡ k → later ≡ l → earlier ≡ e
    → fault_by served known later earlier ≡ fault_by s k l e
by_parts served known later earlier s k l e es ek el ee =
    ap (λ x. fault_by x known later earlier) es ∙ ap (λ x. fault_by s x later earlier) ek
    ∙ ap (λ x. fault_by s k x earlier) el
    ∙ ap (λ x. fault_by s k l x) ee

first_not : (b c : Bool) → b ≡ false → b && c ≡ false
first_not true c e = absurd (cc)
first_not false c e = refl

second_not : (b c : Bool) → c ≡ false → b && c ≡ false
second_not true c e = e
second_not false c e = refl

neither : (b c : Bool) → b ≡ false → c ≡ false → b || c ≡ false
neither true c e f = absurd (cc)
neither false c e f = f

differ : (m n : ℕ) → m ≢ n → (m == n) ≡ false
differ m n other = elim (eqb_tells m n) [ inl g ↦ absurd (other g.1) | inr g ↦ g.0 ]

above : (m n : ℕ) → n < m → nat_le m n ≡ false
above m n more = elim (leb_tells m n) [ inl g ↦ absurd (omega (arith, more, g.1)) | inr g ↦ g.0 ]

-- ---- two ends at one time, and both later

module _ (a b : Signer) (x y z w : Dancer) (before : HaveParted a b x y) (now : HaveParted a b z w)
    (more : x.numbers.commitment ≤ z.numbers.commitment) (learned : x.numbers.revoked ≤ z.numbers.revoked)
    (more_back : y.numbers.commitment ≤ w.numbers.commitment) (learned_back : y.numbers.revoked ≤ w.numbers.revoked)
    (below : w.numbers.revoked ≤ 2 ^ 48) where
  -- the other end is told by the older one
  other_end : AtMostPeerLost (refused_of b a x w)
  other_end =
      let m = reestablish_message a x in
      let r = now.there.revoked in
      let s = now.there.accepted in
      subst AtMostPeerLost (sym (by_parts (can_be_served m w) (knows_secret b m) (tells_of_later m w)
      (tells_of_earlier m w) (can_be_served m w) true false true refl
      (knows b x.numbers.revoked x.peer.secret before.there.secret)
      (first_not (nat_lt w.numbers.commitment x.numbers.revoked) _
      (le-ltb w.numbers.commitment x.numbers.revoked (omega (arith, learned, r))))
      (both_hold _ _
      (le-leb (x.numbers.commitment + 1) (w.numbers.signed + 1) (omega (arith, more, now.back.accepted)))
      (le-leb x.numbers.revoked w.numbers.commitment (omega (arith, learned, r))))))
      (by (can_be_served m w))
    where
      by : (served : Bool) → AtMostPeerLost (fault_by served true false true)
      by true = tt
      by false = refl

  known : knows_secret a (reestablish_message b w) ≡ true
  known = knows a w.numbers.revoked w.peer.secret now.back.secret

  -- the older end is told by the other one
  lost : x.numbers.commitment < w.numbers.revoked
      → refused_of a b w x ≡ Some (refusal.ReestablishNumber Own)
  lost h =
      let m = reestablish_message b w in
      by_parts (can_be_served m x) (knows_secret a m) (tells_of_later m x) (tells_of_earlier m x) false true true
      (tells_of_earlier m x)
      (second_not _ _ (neither (w.numbers.revoked == x.numbers.commitment) _
      (differ w.numbers.revoked x.numbers.commitment (λ e. omega (arith, e, h)))
      (differ (w.numbers.revoked + 1) x.numbers.commitment (λ e. omega (arith, e, h)))))
      known
      (both_hold _ _ (lt-ltb x.numbers.commitment w.numbers.revoked h)
      (le-leb w.numbers.revoked (2 ^ 48 - 1 + 1) (omega (arith, below)))) refl

  -- where it holds no commitment that the other end can revoke, it is served, or nothing is proved
  not_lost : w.numbers.revoked ≤ x.numbers.commitment
      → (refused_of a b w x ≡ None) ⊎ (refused_of a b w x ≡ Some (refusal.ReestablishNumber Unproved))
  not_lost h =
      let m = reestablish_message b w in
      let r = before.there.revoked in
      let one = before.there.one_unrevoked in
      let s = before.back.accepted in
      let two = before.back.one_unrevoked in
      let later : tells_of_later m x ≡ false =
      first_not (nat_lt x.numbers.commitment w.numbers.revoked) _ (le-ltb x.numbers.commitment w.numbers.revoked h) in
      elim (leb_tells w.numbers.commitment x.numbers.signed) [
        | inl g ↦ inl (by_parts (can_be_served m x) (knows_secret a m) (tells_of_later m x) (tells_of_earlier m x)
            true true (tells_of_later m x) (tells_of_earlier m x)
            (both_hold _ _
            (serves_signature w.numbers.commitment x.numbers.signed x.numbers.revoked (omega (arith, r, more_back)) g.1
            one)
            (serves_revocation w.numbers.revoked x.numbers.commitment x.numbers.commitment h (omega arith)
            (omega (arith, s, two, learned_back)))) known refl refl)
        | inr g ↦ inr (by_parts (can_be_served m x) (knows_secret a m) (tells_of_later m x) (tells_of_earlier m x)
            false true false false
            (first_not _ _ (neither (w.numbers.commitment + 1 == x.numbers.signed + 1) _
            (differ (w.numbers.commitment + 1) (x.numbers.signed + 1) (λ e. omega (arith, e, g.1)))
            (first_not (w.numbers.commitment + 1 == x.numbers.signed) _
            (differ (w.numbers.commitment + 1) x.numbers.signed (λ e. omega (arith, e, g.1))))))
            known later
            (first_not (nat_le (w.numbers.commitment + 1) (x.numbers.signed + 1)) _
            (above (w.numbers.commitment + 1) (x.numbers.signed + 1) (omega (arith, g.1)))))
      ]

  only_own : (lost : LostData) → refused_of a b w x ≡ Some (refusal.ReestablishNumber lost)
      → (refused_of a b w x ≡ None) ⊎ (refused_of a b w x ≡ Some (refusal.ReestablishNumber Unproved))
      → lost ≡ Unproved
  only_own lost e (inl n) = absurd (let no : None ≡ Some (refusal.ReestablishNumber lost) = sym n ∙ e in cc)
  only_own lost e (inr u) = carried (sym e ∙ u)
    where
      carried : Some (refusal.ReestablishNumber lost) ≡ Some (refusal.ReestablishNumber Unproved) → lost ≡ Unproved
      carried same = cc

  older_end : refused_of a b w x ≡ Some (refusal.ReestablishNumber Own)
      ↔ (x.numbers.commitment < w.numbers.revoked)
  older_end = (
    λ e. elim (leb_tells w.numbers.revoked x.numbers.commitment) [
      | inl g ↦ absurd (let no : Own ≡ Unproved = only_own Own e (not_lost g.1) in cc)
      | inr g ↦ g.1
    ],
    lost,
  )

  blames_no_peer : refused_of a b w x ≢ Some (refusal.ReestablishNumber Peer)
  blames_no_peer e = elim (leb_tells w.numbers.revoked x.numbers.commitment) [
    | inl g ↦ absurd (let no : Peer ≡ Unproved = only_own Peer e (not_lost g.1) in cc)
    | inr g ↦ absurd (
        let no : Some (refusal.ReestablishNumber Own) ≡ Some (refusal.ReestablishNumber Peer) = sym (lost g.1) ∙ e in
        cc)
  ]

  tells : TellsWhoLost a b x w
  tells = record { other_end = other_end; older_end = older_end; blames_no_peer = blames_no_peer }

-- ---- over every list of steps

parted : (a b : Signer) (p : Ends) → Sound a b p → HaveParted a b p.x.dance p.y.dance
parted a b p h = record {
  there = keeps_up a b p.x p.y h.hold.kept.there.phase h.hold.x_knows;
  back = keeps_up b a p.y p.x h.hold.kept.back.phase h.hold.y_knows;
}

-- what a record leaves out changes none of it
loaded_parted : (a b : Signer) (x y : End) → HaveParted a b x.dance y.dance → HaveParted a b (loaded x) y.dance
loaded_parted a b x y h = record {
  there = record {
    revoked = h.there.revoked;
    accepted = h.there.accepted;
    one_unrevoked = h.there.one_unrevoked;
    secret = h.there.secret;
  };
  back = record {
    revoked = h.back.revoked;
    accepted = h.back.accepted;
    one_unrevoked = h.back.one_unrevoked;
    secret = h.back.secret;
  };
}

turned_parted : (a b : Signer) (x y : Dancer) → HaveParted a b x y → HaveParted b a y x
turned_parted a b x y h = record { there = h.back; back = h.there }

-- fewer are revoked than were signed
within : (a b : Signer) (p : Ends) → Sound a b p → p.y.dance.numbers.revoked ≤ 2 ^ 48
within a b p h =
    let r = (parted a b p h).back.revoked in
    let c = (parted a b p h).back.accepted in
    let below = h.hold.y_knows.below in
    omega (arith, r, c, below)

tell : (a b : Signer) (p q : Ends) → Sound a b p → Sound a b q → BothGrow p q → BothTellWhoLost a b p q
tell a b p q h k g =
    let before = parted a b p h in
    let now = parted a b q k in
    record {
      x = tells a b (loaded p.x) p.y.dance q.x.dance q.y.dance (loaded_parted a b p.x p.y before) now g.x.commitment
          g.x.revoked g.y.commitment g.y.revoked (within a b q k);
      y = tells b a (loaded p.y) p.x.dance q.y.dance q.x.dance
          (loaded_parted b a p.y p.x (turned_parted a b p.x.dance p.y.dance before))
          (turned_parted a b q.x.dance q.y.dance now) g.y.commitment g.y.revoked g.x.commitment g.x.revoked
          (within b a (turned q) (flipped a b q k));
    }

pub both_tell : (a b : Signer) (s : OpenSpec) (c : Config) (funder fundee : Opened) (before after : List Step)
    → ArePartners a b
    → Opens a b s c funder fundee
    → BothTellWhoLost a b (run a b before (opened funder fundee))
    (run a b after (run a b before (opened funder fundee)))
both_tell a b s c funder fundee before after keys o =
    let first = opened funder fundee in
    let p = run a b before first in
    let h = ran a b keys before first (opened_holds a b s c funder fundee o) in
    tell a b p (run a b after p) h (ran a b keys after p h) (numbers_grow a b after p)
