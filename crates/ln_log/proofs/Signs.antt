-- Signing, by counts and by lists; and the views of a log.
use Rattle.std.proofs.Common.{◌≡◌, ℕ, ◌≤◌, List, length, take, refl, sym, ap, ◌∙◌, subst, arith, Bool, true, false}
use Rattle.std.proofs.Common.{cond, Option, Some, None, ◌&&◌, ◌==◌, ◌↔◌}
use Rattle.std.proofs.lemmas.List.{length-map, length-take-le, take_all}
use Rattle.std.proofs.lemmas.Bool.{eqb-true, eq-eqb}
use Rattle.ln_refusals.specs.declared.refusal.Refusal.TheVariants as refusal
use Rattle.ln_keys.specs.declared.role.Role.{Role}
use Rattle.ln_keys.specs.declared.role.Role.TheVariants.{Funder, Fundee}
use Rattle.ln_keys.specs.declared.view.View.{View}
use Rattle.ln_keys.specs.Role.{other_role}
use Rattle.ln_log.specs.declared.opening.Opening.{Opening}
use Rattle.ln_log.specs.declared.log.Pair.{Pair}
use Rattle.ln_log.specs.declared.log.Pair.TheVariants as pair
use Rattle.ln_log.specs.declared.log.Side.TheVariants as side
use Rattle.ln_log.specs.declared.standing.Standing.{Standing}
use Rattle.ln_log.specs.declared.update.Update.{Update}
use Rattle.ln_log.specs.Opening.{first_balance}
use Rattle.ln_log.specs.Updates.{as_sent, all_sent}
use Rattle.ln_log.specs.View.{view_of, Pays, IsFunded}
use Rattle.ln_log.specs.Machine.{Covered, MaySign, to_sign}
use Rattle.ln_log.specs.Log.{Counts, Log, covered, sent_pair, party_of, IsWithin, IsKept, BothPay, after_sign}
use Rattle.ln_log.specs.Log.{same_counts, sign_fault, counts_of}
use Rattle.ln_log.proofs.Totals.{pays_all}

both_hold : (a b : Bool) → (a && b) ≡ true → (a ≡ true) × (b ≡ true)
both_hold true b e = (refl, e)
both_hold false b e = absurd (cc)

equal_counts : (c d : Counts) → same_counts c d ≡ true → c ≡ d
equal_counts c d e =
    let both = both_hold (c.own == d.own) (c.peer == d.peer) e in
    let own : c.own ≡ d.own = eqb-true c.own d.own both.0 in
    let peer : c.peer ≡ d.peer = eqb-true c.peer d.peer both.1 in
    ap (λ n. record { own = n; peer = c.peer }) own ∙ ap (λ n. record { own = d.own; peer = n }) peer

same_when : (c d : Counts) → c.own ≡ d.own → c.peer ≡ d.peer → same_counts c d ≡ true
same_when c d own peer = ap (λ b. b && (c.peer == d.peer)) (eq-eqb c.own d.own own) ∙ eq-eqb c.peer d.peer peer

sent_length : (n : ℕ) (us : List Update) → n ≤ length us → length (all_sent (take n us)) ≡ n
sent_length n us le = length-map (take n us) as_sent ∙ length-take-le n us le

-- counts within the lists that stand for the same lists are the same
same_lists : (l : Log) (c d : Counts) → c.own ≤ length l.own → c.peer ≤ length l.received → d.own ≤ length l.own
    → d.peer ≤ length l.received → sent_pair (covered l c) ≡ sent_pair (covered l d) → same_counts c d ≡ true
same_lists l c d co cp do_ dp e =
    same_when c d
    (sym (sent_length c.own l.own co) ∙ ap (λ (v : Covered). length v.own) e ∙ sent_length d.own l.own do_)
    (sym (sent_length c.peer l.received cp) ∙ ap (λ (v : Covered). length v.peer) e ∙ sent_length d.peer l.received dp)

-- what a signature would cover, by counts
all_own : (s : Bool) (c : Option ℕ) (l : Log) → sent_pair (covered l (after_sign l).signed) ≡ to_sign (party_of s c l)
all_own s c l = ap (λ us. record { own = all_sent us; peer = all_sent (take l.current.peer l.received) })
    (take_all (length l.own) l.own (omega arith))

passes : (b d : Bool) → cond b (cond d (Some refusal.NothingToSign) None) (Some refusal.SignatureOutstanding) ≡ None
    → (b ≡ true) × (d ≡ false)
passes true true e = absurd (cc)
passes true false e = (refl, refl)
passes false true e = absurd (cc)
passes false false e = absurd (cc)

passed : (b d : Bool) → b ≡ true → (d ≡ true → ⊥)
    → cond b (cond d (Some refusal.NothingToSign) None) (Some refusal.SignatureOutstanding) ≡ None
passed true true e n = absurd (n refl)
passed true false e n = refl
passed false true e n = absurd (n refl)
passed false false e n = absurd (cc)

pub exactly : (s : Bool) (f : Option ℕ) (l : Log) → IsWithin l → ((sign_fault l ≡ None) ↔ MaySign (party_of s f l))
exactly s f l w =
    let next = (after_sign l).signed in
    let sc = same_lists l l.signed next w.own_signed (omega (arith, w.peer_signed, w.peer_current))
    (omega arith) w.peer_current in
    let ac = same_lists l l.acknowledged l.signed (omega (arith, w.own_acknowledged, w.own_signed))
    (omega (arith, w.peer_acknowledged, w.peer_signed, w.peer_current)) w.own_signed
    (omega (arith, w.peer_signed, w.peer_current)) in (
      (λ e.
          let p = passes (same_counts l.acknowledged l.signed) (same_counts l.signed next) e in
          record {
            revoked = ap (λ c. sent_pair (covered l c)) (equal_counts l.acknowledged l.signed p.0);
            new = λ same. let is : same_counts l.signed next ≡ true =
                sc (same ∙ sym (all_own s f l)) in let not_ = p.1 in cc;
          }),
      (λ m. passed (same_counts l.acknowledged l.signed) (same_counts l.signed next) (ac m.revoked)
          (λ e. m.new (ap (λ c. sent_pair (covered l c)) (equal_counts l.signed next e) ∙ all_own s f l))),
    )

-- where nothing keeps a side from signing, its counts are these
pub sign_allowed : (l : Log) → sign_fault l ≡ None
    → (l.acknowledged.own ≡ l.signed.own) × (l.acknowledged.peer ≡ l.signed.peer)
    × (l.signed.own ≡ length l.own → l.signed.peer ≡ l.current.peer → ⊥)
sign_allowed l e =
    let next = (after_sign l).signed in
    let p = passes (same_counts l.acknowledged l.signed) (same_counts l.signed next) e in
    let same = equal_counts l.acknowledged l.signed p.0 in (
      ap (λ (c : Counts). c.own) same,
      ap (λ (c : Counts). c.peer) same,
      λ a b. let is : same_counts l.signed next ≡ true = same_when l.signed next a b in let differ = p.1 in cc,
    )

-- ---- views

pub view_is : (o : Opening) (f g : List Update) (v : View) → v.funder ≡ (view_of o f g).funder
    → v.fundee ≡ (view_of o f g).fundee → v.feerate ≡ (view_of o f g).feerate
    → v.htlcs ≡ (view_of o f g).htlcs → v ≡ view_of o f g
view_is o f g v e1 e2 e3 e4 =
    let w : View = view_of o f g in
    ap (λ n. record { funder = n; fundee = v.fundee; feerate = v.feerate; htlcs = v.htlcs }) e1
    ∙ ap (λ n. record { funder = w.funder; fundee = n; feerate = v.feerate; htlcs = v.htlcs }) e2
    ∙ ap (λ n. record { funder = w.funder; fundee = w.fundee; feerate = n; htlcs = v.htlcs }) e3
    ∙ ap (λ n. record { funder = w.funder; fundee = w.fundee; feerate = w.feerate; htlcs = n }) e4

-- ---- every pair is funded

pub pair_pays : (l : Log) (s t p q : Standing) → IsKept l s t p q → (w : Pair)
    → BothPay l.opening l.role (covered l (counts_of w l))
pair_pays l s t p q k (pair.Current side.Own) = k.current_pays
pair_pays l s t p q k (pair.Current side.Peer) = k.acknowledged_pays
pair_pays l s t p q k pair.Signed = k.signed_pays
pair_pays l s t p q k pair.ToSign =
    let f = first_balance l.opening l.role in
    let g = first_balance l.opening (other_role l.role) in
    let whole : take (length l.own) l.own ≡ l.own = take_all (length l.own) l.own (omega arith) in (
      subst (λ x. Pays f x (take l.current.peer l.received)) (sym whole) k.own_pays,
      subst (Pays g (take l.current.peer l.received)) (sym whole)
          (pays_all g (take l.current.peer l.received) l.own l.current.own k.current_pays.1),
    )
pair_pays l s t p q k pair.ToAccept =
    let f = first_balance l.opening l.role in
    let g = first_balance l.opening (other_role l.role) in
    let whole : take (length l.received) l.received ≡ l.received =
    take_all (length l.received) l.received (omega arith) in (
      subst (Pays f (take l.acknowledged.own l.own)) (sym whole)
          (pays_all f (take l.acknowledged.own l.own) l.received l.acknowledged.peer k.acknowledged_pays.0),
      subst (λ x. Pays g x (take l.acknowledged.own l.own)) (sym whole) k.peer_pays,
    )

pub as_funder : (o : Opening) (r : Role) (c : Covered) → r ≡ Funder → BothPay o r c → IsFunded o c.own c.peer
as_funder o Funder c e h = record { funder_pays = h.0; fundee_pays = h.1 }
as_funder o Fundee c e h = absurd (cc)

pub as_fundee : (o : Opening) (r : Role) (c : Covered) → r ≡ Fundee → BothPay o r c → IsFunded o c.peer c.own
as_fundee o Funder c e h = absurd (cc)
as_fundee o Fundee c e h = record { funder_pays = h.1; fundee_pays = h.0 }
