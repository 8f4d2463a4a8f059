-- What an end keeps, whatever it is sent and told to do: how its numbers and counts fit together, how wide what it has
-- of the peer is, and that what it sends can be written.
use Rattle.std.proofs.Common.{◌≡◌, ℕ, ◌+◌, ◌<◌, ◌≤◌, ◌^◌, List, [], ◌∷◌, length, take, refl, sym, subst}
use Rattle.std.proofs.Common.{arith, Bool, true, false, cond, ◌==◌, Option, Some}
use Rattle.std.proofs.lemmas.Bool.{eq-eqb, and_from}
use Rattle.std.proofs.lemmas.List.{take-take, take-append-le}
use Rattle.ln_msgs.specs.declared.messages.message.Message.TheVariants as message
use Rattle.ln_log.specs.declared.update.Update.{Update}
use Rattle.ln_log.specs.Opening.{IsFit}
use Rattle.ln_log.specs.Log.{Log, Counts, same_counts, after_propose, after_receive, after_drop}
use Rattle.ln_log.specs.Window.{IsClosed, may_be_base}
use Rattle.ln_log.proofs.Bases.{base_tells}
use Rattle.ln_dance.specs.declared.dance.Numbers.{Numbers}
use Rattle.ln_dance.specs.declared.dance.Peer.{Peer}
use Rattle.ln_close.specs.declared.closing.Fees.{Fees}
use Rattle.ln_channel.specs.Base.{allowed, based}
use Rattle.ln_channel.specs.Opening.{asked_with, asked_by_accept}
use Rattle.ln_channel.specs.End.{End}
use Rattle.ln_channel_laws.proofs.Offered.{All, Where, IsFee, Steady, Origin}
use Rattle.ln_link_laws.specs.Handed.{IsMessage}
use Rattle.ln_link_laws.proofs.Few.{Few}
use Rattle.ln_link_laws.proofs.Sent.{IsShort}

-- ---- what stays from the opening on

pub record AreFees (f : Fees) : Type 0 where
  pub first : f.first < 2 ^ 64
  pub least : f.least < 2 ^ 64
  pub greatest : f.greatest < 2 ^ 64

pub record IsOrigin (o : Origin) : Type 0 where
  pub channel : length o.channel ≡ 32
  pub fees : AreFees o.fees
  pub fit : IsFit o.opening
  pub open_channel : IsMessage (message.OpenChannel o.open_channel)
  pub accept_channel : IsMessage (message.AcceptChannel o.accept_channel)
  pub opening : o.opening ≡ asked_with o.open_channel (asked_by_accept o.accept_channel)
  pub role : o.role ≡ o.closing_role

-- ---- numbers, counts, and what is known of the peer

abbrev pub IsSecret : List ℕ → Type 0
IsSecret s = length s ≡ 32

-- s, a and c are the counts that are signed, acknowledged and current, of so many own updates and so many of the
-- peer's; f and g the own fee and that of the close
pub record InOrder (n : Numbers) (s a c : Counts) (own received : ℕ) (p : Peer) (f g : Option ℕ) : Type 0 where
  pub commitment : n.commitment ≤ 281474976710655
  pub signed : n.signed ≤ 281474976710655
  pub revoked : n.revoked ≤ n.signed
  pub one_unrevoked : n.signed ≤ n.revoked + 1
  pub acknowledged : n.signed ≡ n.revoked → same_counts a s ≡ true
  pub own_current : c.own ≤ a.own
  pub own_acknowledged : a.own ≤ s.own
  pub own_signed : s.own ≤ own
  pub peer_acknowledged : a.peer ≤ s.peer
  pub peer_signed : s.peer ≤ c.peer
  pub peer_current : c.peer ≤ received
  pub point : length p.point ≡ 33
  pub next_point : length p.next_point ≡ 33
  pub secret : Where IsSecret p.secret
  pub own_fee : Where IsFee f
  pub closed : Where IsFee g

abbrev pub Ordered : End → Type 0
Ordered e = InOrder e.dance.numbers e.dance.log.signed e.dance.log.acknowledged e.dance.log.current
    (length e.dance.log.own) (length e.dance.log.received) e.dance.peer e.closing.own_fee e.closing.closed

same_self : (c : Counts) → same_counts c c ≡ true
same_self c = and_from (c.own == c.own) (c.peer == c.peer) (eq-eqb c.own c.own refl) (eq-eqb c.peer c.peer refl)

pub differ : (n m : ℕ) → (n == m) ≡ false → n ≡ m → ⊥
differ n m e same = let yes = eq-eqb n m same in absurd (cc)

-- a number that isn't the last one has a next
pub below_last : (n : ℕ) → n ≤ 281474976710655 → (n == 281474976710655) ≡ false → n + 1 ≤ 281474976710655
below_last n le e = let ne = differ n 281474976710655 e in omega (arith, le, ne)

module _ (n : Numbers) (s a c : Counts) (own received : ℕ) (p : Peer) (f g : Option ℕ)
    (h : InOrder n s a c own received p f g) where
  -- with more updates
  pub with_more : (own' received' : ℕ) → own ≤ own' → received ≤ received' → InOrder n s a c own' received' p f g
  with_more own' received' le few = let x = h.own_signed in let y = h.peer_current in record {
    commitment = h.commitment;
    signed = h.signed;
    revoked = h.revoked;
    one_unrevoked = h.one_unrevoked;
    acknowledged = h.acknowledged;
    own_current = h.own_current;
    own_acknowledged = h.own_acknowledged;
    own_signed = omega (arith, x, le);
    peer_acknowledged = h.peer_acknowledged;
    peer_signed = h.peer_signed;
    peer_current = omega (arith, y, few);
    point = h.point;
    next_point = h.next_point;
    secret = h.secret;
    own_fee = h.own_fee;
    closed = h.closed;
  }

  -- without those that no signature covers
  pub with_fewer : (own' received' : ℕ) → s.own ≤ own' → c.peer ≤ received' → InOrder n s a c own' received' p f g
  with_fewer own' received' le few = record {
    commitment = h.commitment;
    signed = h.signed;
    revoked = h.revoked;
    one_unrevoked = h.one_unrevoked;
    acknowledged = h.acknowledged;
    own_current = h.own_current;
    own_acknowledged = h.own_acknowledged;
    own_signed = le;
    peer_acknowledged = h.peer_acknowledged;
    peer_signed = h.peer_signed;
    peer_current = few;
    point = h.point;
    next_point = h.next_point;
    secret = h.secret;
    own_fee = h.own_fee;
    closed = h.closed;
  }

  -- with other fees
  pub with_fees : (f' g' : Option ℕ) → Where IsFee f' → Where IsFee g' → InOrder n s a c own received p f' g'
  with_fees f' g' x y = record {
    commitment = h.commitment;
    signed = h.signed;
    revoked = h.revoked;
    one_unrevoked = h.one_unrevoked;
    acknowledged = h.acknowledged;
    own_current = h.own_current;
    own_acknowledged = h.own_acknowledged;
    own_signed = h.own_signed;
    peer_acknowledged = h.peer_acknowledged;
    peer_signed = h.peer_signed;
    peer_current = h.peer_current;
    point = h.point;
    next_point = h.next_point;
    secret = h.secret;
    own_fee = x;
    closed = y;
  }

  -- with the peer's next point
  pub with_point : (point : List ℕ) → length point ≡ 33
      → InOrder n s a c own received (record { point = p.point; next_point = point; secret = p.secret }) f g
  with_point point len = record {
    commitment = h.commitment;
    signed = h.signed;
    revoked = h.revoked;
    one_unrevoked = h.one_unrevoked;
    acknowledged = h.acknowledged;
    own_current = h.own_current;
    own_acknowledged = h.own_acknowledged;
    own_signed = h.own_signed;
    peer_acknowledged = h.peer_acknowledged;
    peer_signed = h.peer_signed;
    peer_current = h.peer_current;
    point = h.point;
    next_point = len;
    secret = h.secret;
    own_fee = h.own_fee;
    closed = h.closed;
  }

  -- where all that there is is signed, and no signature was unrevoked
  pub with_signature : n.signed + 1 ≤ 281474976710655 → n.signed ≡ n.revoked
      → InOrder (record { commitment = n.commitment; signed = n.signed + 1; revoked = n.revoked })
      (record { own = own; peer = c.peer }) a c own received p f g
  with_signature next same =
      let acked = h.own_acknowledged in
      let signs = h.own_signed in
      let peer = h.peer_acknowledged in
      let covered = h.peer_signed in
      record {
        commitment = h.commitment;
        signed = next;
        revoked = omega (arith, same);
        one_unrevoked = omega (arith, same);
        acknowledged = λ e. absurd (omega (arith, same, e));
        own_current = h.own_current;
        own_acknowledged = omega (arith, acked, signs);
        own_signed = omega arith;
        peer_acknowledged = omega (arith, peer, covered);
        peer_signed = omega arith;
        peer_current = h.peer_current;
        point = h.point;
        next_point = h.next_point;
        secret = h.secret;
        own_fee = h.own_fee;
        closed = h.closed;
      }

  -- where a signature of the peer's is taken
  pub with_commitment : n.commitment + 1 ≤ 281474976710655
      → InOrder (record { commitment = n.commitment + 1; signed = n.signed; revoked = n.revoked }) s a
      (record { own = a.own; peer = received }) own received p f g
  with_commitment next =
      let covered = h.peer_signed in
      let current = h.peer_current in
      record {
        commitment = next;
        signed = h.signed;
        revoked = h.revoked;
        one_unrevoked = h.one_unrevoked;
        acknowledged = h.acknowledged;
        own_current = omega arith;
        own_acknowledged = h.own_acknowledged;
        own_signed = h.own_signed;
        peer_acknowledged = h.peer_acknowledged;
        peer_signed = omega (arith, covered, current);
        peer_current = omega arith;
        point = h.point;
        next_point = h.next_point;
        secret = h.secret;
        own_fee = h.own_fee;
        closed = h.closed;
      }

  -- where a revocation is taken
  pub with_revocation : (n.signed ≡ n.revoked → ⊥) → (secret point : List ℕ) → length secret ≡ 32
      → length point ≡ 33
      → InOrder (record { commitment = n.commitment; signed = n.signed; revoked = n.revoked + 1 }) s s c own received
      (record { point = p.next_point; next_point = point; secret = Some secret }) f g
  with_revocation owes secret point s_len p_len =
      let le = h.revoked in
      let one = h.one_unrevoked in
      let current = h.own_current in
      let acked = h.own_acknowledged in
      record {
        commitment = h.commitment;
        signed = h.signed;
        revoked = omega (arith, le, owes);
        one_unrevoked = omega (arith, one);
        acknowledged = λ e. same_self s;
        own_current = omega (arith, current, acked);
        own_acknowledged = omega arith;
        own_signed = h.own_signed;
        peer_acknowledged = omega arith;
        peer_signed = h.peer_signed;
        peer_current = h.peer_current;
        point = h.next_point;
        next_point = p_len;
        secret = s_len;
        own_fee = h.own_fee;
        closed = h.closed;
      }

-- ---- the first updates, of which only what they come to is had any more

-- both lists have so many updates together that can be a base
abbrev pub AreClosed : Log → Counts → Type 0
AreClosed l n = IsClosed l.opening l.role (take n.own l.own) (take n.peer l.received)

abbrev pub HasBase : Log → Type 0
HasBase l = AreClosed l l.first

module _ (l : Log) (h : HasBase l) where
  -- with one update more
  pub base_proposed : (u : Update) → l.first.own ≤ length l.own → HasBase (after_propose u l)
  base_proposed u le =
      subst (λ us. IsClosed l.opening l.role us (take l.first.peer l.received))
      (sym (take-append-le l.first.own l.own (u ∷ []) le)) h

  pub base_received : (u : Update) → l.first.peer ≤ length l.received → HasBase (after_receive u l)
  base_received u le =
      subst (IsClosed l.opening l.role (take l.first.own l.own))
      (sym (take-append-le l.first.peer l.received (u ∷ []) le)) h

  -- without those that no signature covers
  pub base_dropped : l.first.own ≤ l.signed.own → l.first.peer ≤ l.current.peer → HasBase (after_drop l)
  base_dropped own peer =
      subst (λ us. IsClosed l.opening l.role us (take l.first.peer (take l.current.peer l.received)))
      (sym (take-take l.first.own l.signed.own l.own own))
      (subst (IsClosed l.opening l.role (take l.first.own l.own))
      (sym (take-take l.first.peer l.current.peer l.received peer)) h)

-- as it moves on
pub base_moved : (e : End) → HasBase e.dance.log → HasBase (based e).dance.log
base_moved e h = by (may_be_base e.dance.log (allowed e)) refl
  where
    by : (b : Bool) → may_be_base e.dance.log (allowed e) ≡ b
        → AreClosed e.dance.log (cond b (allowed e) e.dance.log.first)
    by true is = ((base_tells e.dance.log (allowed e)).0 is).closed
    by false is = h

-- ---- all of it

pub record HasMore (e : End) : Type 0 where
  pub steady : Steady e
  pub ordered : Ordered e
  pub short : All IsShort e.dance.log.own
  pub few : Few e.dance.log
  pub base : HasBase e.dance.log

-- the first updates are among those that signatures cover
pub record IsCovered (l : Log) : Type 0 where
  pub own : l.first.own ≤ l.signed.own
  pub own_length : l.first.own ≤ length l.own
  pub peer : l.first.peer ≤ l.current.peer
  pub peer_length : l.first.peer ≤ length l.received

pub base_covered : (e : End) → HasMore e → IsCovered e.dance.log
base_covered e h =
    let o = h.steady.first_own in
    let p = h.steady.first_peer in
    let a = h.ordered.own_current in
    let b = h.ordered.own_acknowledged in
    let c = h.ordered.own_signed in
    let q = h.ordered.peer_acknowledged in
    let r = h.ordered.peer_signed in
    let s = h.ordered.peer_current in
    record {
      own = omega (arith, o, a, b);
      own_length = omega (arith, o, a, b, c);
      peer = omega (arith, p, q, r);
      peer_length = omega (arith, p, q, r, s);
    }
