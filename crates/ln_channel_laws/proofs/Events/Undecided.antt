-- What a step leaves of the events that an end has yet to decide.
use Rattle.std.proofs.Common.{zero, suc, ◌≡◌, ℕ, ◌+◌, ◌-◌, ◌<◌, ◌≤◌, List, [], ◌∷◌, ◌++◌, length, take, drop}
use Rattle.std.proofs.Common.{refl, sym, ap, ◌∙◌, subst, arith, append-nil, append_assoc, length-append}
use Rattle.std.proofs.Common.{length-drop}
use Rattle.std.proofs.Common.{Bool, true, false, cond, Option, Some, None, option_map, slice_get}
use Rattle.std.specs.List.{cons_option}
use Rattle.std.proofs.lemmas.Bool.{le-ltb}
use Rattle.std.proofs.lemmas.List.{take-take}
use Rattle.ln_log.specs.declared.update.Update.{Update as Change}
use Rattle.ln_log.specs.declared.log.Counts.{Counts}
use Rattle.ln_log.specs.Log as log
use Rattle.ln_log.specs.Log.{Log}
use Rattle.ln_hooks.specs.declared.event.ChannelEvent.{ChannelEvent}
use Rattle.ln_hooks.specs.declared.event.ChannelEvent.TheVariants as event
use Rattle.ln_hooks.specs.Event.{event_of}
use Rattle.ln_log.specs.declared.mark.EventRef.{EventRef}
use Rattle.ln_log.specs.declared.mark.EventRef.TheVariants as ref
use Rattle.ln_channel.specs.Base.{based}
use Rattle.ln_channel.specs.Ledger.{Ledger, refs_of}
use Rattle.ln_channel.specs.Outputs.{events_of}
use Rattle.ln_channel.specs.End.{End}
use Rattle.ln_channel.specs.Pending.{event_in, pending_from, pending_events}
use Rattle.ln_channel.specs.Pending as channel
use Rattle.ln_channel_laws.specs.Pending.{counted}
use Rattle.ln_channel_laws.proofs.All.{All, all-append, all-drop}
use Rattle.ln_channel_laws.proofs.Bases.BaseStands.{IsAt, base_within, base_at}
use Rattle.ln_channel_laws.proofs.Events.Decisions.{Behind}

-- ---- entries by their place in whole lists

-- of the first of these updates
abbrev pub first_event : Bool → List Change → Option ChannelEvent
first_event own [] = None
first_event own (u ∷ us) = event_of own u

-- the event that an entry of the ledger names
abbrev pub named_by : EventRef → End → Option ChannelEvent
named_by (ref.Own n) e = first_event true (drop n e.dance.log.own)
named_by (ref.Peer n) e = first_event false (drop n e.dance.log.received)
named_by ref.Close e = option_map event.Closed e.closing.closed

abbrev pub pending : List EventRef → End → List ChannelEvent
pending [] e = []
pending (r ∷ rs) e = cons_option (named_by r e) (pending rs e)

-- ---- what is named

-- an update that is held, or the close of an end that has closed
abbrev pub IsNamed : ℕ → ℕ → Option ℕ → EventRef → Type 0
IsNamed own peer c (ref.Own n) = n < own
IsNamed own peer c (ref.Peer n) = n < peer
IsNamed own peer None ref.Close = ⊥
IsNamed own peer (Some fee) ref.Close = Unit {0}

abbrev pub NamedIn : End → List EventRef → Type 0
NamedIn e rs = All (IsNamed e.dance.log.current.own e.dance.log.acknowledged.peer e.closing.closed) rs

-- the undecided entries, each of which names an event
pub record Named (e : End) : Type 0 where
  pub held : NamedIn e e.ledger.undecided
  pub full : length (pending e.ledger.undecided e) ≡ length e.ledger.undecided
  pub own_first : e.dance.log.first.own ≤ e.dance.log.current.own
  pub peer_first : e.dance.log.first.peer ≤ e.dance.log.acknowledged.peer
  pub there : All (IsAt e.dance.log.first) e.ledger.undecided

pub record LogStays (l m : Log) (c d : Option ℕ) : Type 0 where
  pub own : take l.current.own m.own ≡ take l.current.own l.own
  pub peer : take l.acknowledged.peer m.received ≡ take l.acknowledged.peer l.received
  pub own_le : l.current.own ≤ m.current.own
  pub peer_le : l.acknowledged.peer ≤ m.acknowledged.peer
  pub closed : (fee : ℕ) → c ≡ Some fee → d ≡ Some fee
  pub first : m.first ≡ l.first

abbrev pub HeldStays : End → End → Type 0
HeldStays x n = LogStays x.dance.log n.dance.log x.closing.closed n.closing.closed

-- new events stand after those that were pending, and a first part of them all may have been decided
pub record Pends (x n : End) (es : List ChannelEvent) : Type 0 where
  pub gone : ℕ
  pub within : gone ≤ length (pending x.ledger.undecided x ++ es)
  pub entries : pending n.ledger.undecided n ≡ drop gone (pending x.ledger.undecided x ++ es)
  pub named : Named n
  pub decided : n.ledger.decided ≡ x.ledger.decided + gone

first_taken : (own : Bool) (k m : ℕ) (us : List Change) → k < m
    → first_event own (drop k (take m us)) ≡ first_event own (drop k us)
first_taken own k zero us le = absurd (omega (arith, le))
first_taken own zero (suc m) [] le = refl
first_taken own zero (suc m) (u ∷ us) le = refl
first_taken own (suc k) (suc m) [] le = refl
first_taken own (suc k) (suc m) (u ∷ us) le = first_taken own k m us (omega (arith, le))

first_same : (own : Bool) (k m : ℕ) (us vs : List Change) → k < m → take m us ≡ take m vs
    → first_event own (drop k us) ≡ first_event own (drop k vs)
first_same own k m us vs le e =
    sym (first_taken own k m us le) ∙ ap (λ z. first_event own (drop k z)) e ∙ first_taken own k m vs le

close_named : (c d : Option ℕ) (o p q s : ℕ) → ((fee : ℕ) → c ≡ Some fee → d ≡ Some fee) → IsNamed o p c ref.Close
    → (d ≡ c) × IsNamed q s d ref.Close
close_named None d o p q s f h = absurd h
close_named (Some fee) d o p q s f h =
    let e = f fee refl in (e, subst (λ z. IsNamed q s z ref.Close) (sym e) tt)

one_kept : (x n : End) → HeldStays x n → (r : EventRef)
    → IsNamed x.dance.log.current.own x.dance.log.acknowledged.peer x.closing.closed r
    → (named_by r n ≡ named_by r x) × IsNamed n.dance.log.current.own n.dance.log.acknowledged.peer n.closing.closed r
one_kept x n k (ref.Own i) h = (
  first_same true i x.dance.log.current.own n.dance.log.own x.dance.log.own h k.own,
  (let le = k.own_le in omega (arith, le, h)),
)
one_kept x n k (ref.Peer i) h = (
  first_same false i x.dance.log.acknowledged.peer n.dance.log.received x.dance.log.received h k.peer,
  (let le = k.peer_le in omega (arith, le, h)),
)
one_kept x n k ref.Close h =
    let c = close_named x.closing.closed n.closing.closed x.dance.log.current.own x.dance.log.acknowledged.peer
    n.dance.log.current.own n.dance.log.acknowledged.peer k.closed h in
    (ap (option_map event.Closed) c.0, c.1)

kept : (x n : End) → HeldStays x n → (rs : List EventRef) → NamedIn x rs → (pending rs n ≡ pending rs x) × NamedIn n rs
kept x n k [] h = (refl, tt)
kept x n k (r ∷ rs) h =
    let one = one_kept x n k r h.0 in
    let rest = kept x n k rs h.1 in
    (ap (λ o. cons_option o (pending rs n)) one.0 ∙ ap (cons_option (named_by r x)) rest.0, (one.1, rest.1))

one_append : (o : Option ChannelEvent) (es fs : List ChannelEvent) → cons_option o (es ++ fs) ≡ cons_option o es ++ fs
one_append None es fs = refl
one_append (Some e) es fs = refl

pending_append : (rs ss : List EventRef) (e : End) → pending (rs ++ ss) e ≡ pending rs e ++ pending ss e
pending_append [] ss e = refl
pending_append (r ∷ rs) ss e =
    ap (cons_option (named_by r e)) (pending_append rs ss e) ∙ one_append (named_by r e) (pending rs e) (pending ss e)

-- new entries after those that there were
pub enters : (x n : End) (rs : List EventRef) (es : List ChannelEvent) → HeldStays x n
    → n.ledger.undecided ≡ x.ledger.undecided ++ rs → n.ledger.decided ≡ x.ledger.decided
    → pending rs n ≡ es → length rs ≡ length es → NamedIn n rs → All (IsAt x.dance.log.first) rs → Named x
    → Pends x n es
enters x n rs es k undecided decided e count h there named =
    let us = x.ledger.undecided in
    let old = kept x n k us named.held in
    let entries : pending n.ledger.undecided n ≡ pending us x ++ es =
    ap (λ vs. pending vs n) undecided ∙ pending_append us rs n
    ∙ ap (λ z. z ++ pending rs n) old.0 ∙ ap (λ z. pending us x ++ z) e in
    let now : length (pending n.ledger.undecided n) ≡ length (pending us x ++ es) = ap length entries in
    let all = length-append (pending us x) es in
    let full = named.full in
    let entered : length n.ledger.undecided ≡ length (us ++ rs) = ap length undecided in
    let both = length-append us rs in
    record {
      gone = 0;
      within = omega arith;
      entries = entries;
      named = record {
        held = subst (NamedIn n) (sym undecided)
            (all-append (IsNamed n.dance.log.current.own n.dance.log.acknowledged.peer n.closing.closed) us rs old.1 h);
        full = omega (arith, now, all, full, count, entered, both);
        own_first = (let is = ap (λ (c : Counts). c.own) k.first in let le = named.own_first in
            let more = k.own_le in omega (arith, is, le, more));
        peer_first = (let is = ap (λ (c : Counts). c.peer) k.first in let le = named.peer_first in
            let more = k.peer_le in omega (arith, is, le, more));
        there = subst (λ (c : Counts). All (IsAt c) n.ledger.undecided) (sym k.first)
            (subst (All (IsAt x.dance.log.first)) (sym undecided)
            (all-append (IsAt x.dance.log.first) us rs named.there there));
      };
      decided = omega (arith, decided);
    }

pub enters_none : (x n : End) → HeldStays x n → n.ledger ≡ x.ledger → Named x → Pends x n []
enters_none x n k is named =
    let undecided : n.ledger.undecided ≡ x.ledger.undecided = ap (λ (l : Ledger). l.undecided) is in
    enters x n [] [] k (undecided ∙ sym (append-nil x.ledger.undecided)) (ap (λ (l : Ledger). l.decided) is) refl refl
    tt tt named

-- ---- new entries

drop_next : (c : ℕ) (us : List Change) (u : Change) (zs : List Change) → drop c us ≡ u ∷ zs → drop (suc c) us ≡ zs
drop_next zero [] u zs e = absurd (cc)
drop_next zero (v ∷ us) u zs e = ap (drop 1) e
drop_next (suc c) [] u zs e = absurd (cc)
drop_next (suc c) (v ∷ us) u zs e = drop_next c us u zs e

one_pend : (o : Option ChannelEvent) (r : EventRef) (rs : List EventRef) (e : End) → named_by r e ≡ o
    → pending (cons_option (option_map (λ z. r) o) rs) e ≡ cons_option o (pending rs e)
one_pend None r rs e is = refl
one_pend (Some z) r rs e is = ap (λ o. cons_option o (pending rs e)) is

pub own_pend : (e : End) (c : ℕ) (us rest : List Change) → drop c e.dance.log.own ≡ us ++ rest
    → pending (refs_of true c us) e ≡ events_of true us
own_pend e c [] rest is = refl
own_pend e c (u ∷ us) rest is =
    let n : c + 1 ≡ suc c = omega arith in
    one_pend (event_of true u) (ref.Own c) (refs_of true (c + 1) us) e (ap (first_event true) is)
    ∙ ap (cons_option (event_of true u)) (own_pend e (c + 1) us rest
    (ap (λ k. drop k e.dance.log.own) n ∙ drop_next c e.dance.log.own u (us ++ rest) is))

pub peer_pend : (e : End) (c : ℕ) (us rest : List Change) → drop c e.dance.log.received ≡ us ++ rest
    → pending (refs_of false c us) e ≡ events_of false us
peer_pend e c [] rest is = refl
peer_pend e c (u ∷ us) rest is =
    let n : c + 1 ≡ suc c = omega arith in
    one_pend (event_of false u) (ref.Peer c) (refs_of false (c + 1) us) e (ap (first_event false) is)
    ∙ ap (cons_option (event_of false u)) (peer_pend e (c + 1) us rest
    (ap (λ k. drop k e.dance.log.received) n ∙ drop_next c e.dance.log.received u (us ++ rest) is))

one_named : (o p : ℕ) (d : Option ℕ) (e : Option ChannelEvent) (r : EventRef) (rs : List EventRef) → IsNamed o p d r
    → All (IsNamed o p d) rs → All (IsNamed o p d) (cons_option (option_map (λ x. r) e) rs)
one_named o p d None r rs h k = k
one_named o p d (Some x) r rs h k = (h, k)

pub own_named : (n o p : ℕ) (d : Option ℕ) (us : List Change) → n + length us ≤ o
    → All (IsNamed o p d) (refs_of true n us)
own_named n o p d [] le = tt
own_named n o p d (u ∷ us) le =
    one_named o p d (event_of true u) (ref.Own n) (refs_of true (n + 1) us) (omega (arith, le))
    (own_named (n + 1) o p d us (omega (arith, le)))

pub peer_named : (n o p : ℕ) (d : Option ℕ) (us : List Change) → n + length us ≤ p
    → All (IsNamed o p d) (refs_of false n us)
peer_named n o p d [] le = tt
peer_named n o p d (u ∷ us) le =
    one_named o p d (event_of false u) (ref.Peer n) (refs_of false (n + 1) us) (omega (arith, le))
    (peer_named (n + 1) o p d us (omega (arith, le)))

-- they are still there one by one

one_there : (f : Counts) (e : Option ChannelEvent) (r : EventRef) (rs : List EventRef) → IsAt f r → All (IsAt f) rs
    → All (IsAt f) (cons_option (option_map (λ x. r) e) rs)
one_there f None r rs h k = k
one_there f (Some x) r rs h k = (h, k)

pub own_at : (f : Counts) (n : ℕ) (us : List Change) → f.own ≤ n → All (IsAt f) (refs_of true n us)
own_at f n [] le = tt
own_at f n (u ∷ us) le =
    one_there f (event_of true u) (ref.Own n) (refs_of true (n + 1) us) le (own_at f (n + 1) us (omega (arith, le)))

pub peer_at : (f : Counts) (n : ℕ) (us : List Change) → f.peer ≤ n → All (IsAt f) (refs_of false n us)
peer_at f n [] le = tt
peer_at f n (u ∷ us) le =
    one_there f (event_of false u) (ref.Peer n) (refs_of false (n + 1) us) le
    (peer_at f (n + 1) us (omega (arith, le)))

-- ---- what is kept

pub keep_same : (x : End) → HeldStays x x
keep_same x = record {
  own = refl;
  peer = refl;
  own_le = omega arith;
  peer_le = omega arith;
  closed = λ f e. e;
  first = refl;
}

pub take_front : (k : ℕ) (us vs : List Change) → k ≤ length us → take k (us ++ vs) ≡ take k us
take_front zero us vs le = refl
take_front (suc k) [] vs le = absurd (omega (arith, le))
take_front (suc k) (u ∷ us) vs le = ap (λ z. u ∷ z) (take_front k us vs (omega (arith, le)))

pub keep_own : (l : Log) (c : Option ℕ) (u : Change) → log.IsWithin l
    → LogStays l (record l { own = l.own ++ u ∷ [] }) c c
keep_own l c u w = record {
  own = take_front l.current.own l.own (u ∷ [])
      (let a = w.own_current in let b = w.own_acknowledged in let d = w.own_signed in omega (arith, a, b, d));
  peer = refl;
  own_le = omega arith;
  peer_le = omega arith;
  closed = λ f e. e;
  first = refl;
}

pub keep_peer : (l : Log) (c : Option ℕ) (u : Change) → log.IsWithin l
    → LogStays l (record l { received = l.received ++ u ∷ [] }) c c
keep_peer l c u w = record {
  own = refl;
  peer = take_front l.acknowledged.peer l.received (u ∷ [])
      (let a = w.peer_acknowledged in let b = w.peer_signed in let d = w.peer_current in omega (arith, a, b, d));
  own_le = omega arith;
  peer_le = omega arith;
  closed = λ f e. e;
  first = refl;
}

pub keep_dropped : (l : Log) (c : Option ℕ) → log.IsWithin l → LogStays l (log.after_drop l) c c
keep_dropped l c w = record {
  own = take-take l.current.own l.signed.own l.own
      (let a = w.own_current in let b = w.own_acknowledged in omega (arith, a, b));
  peer = take-take l.acknowledged.peer l.current.peer l.received
      (let a = w.peer_acknowledged in let b = w.peer_signed in omega (arith, a, b));
  own_le = omega arith;
  peer_le = omega arith;
  closed = λ f e. e;
  first = refl;
}

pub keep_either : (b : Bool) (x k : End) → HeldStays x k → HeldStays x (cond b x k)
keep_either true x k h = keep_same x
keep_either false x k h = h

pub same_pends : (x n : End) → n ≡ x → Named x → Pends x n []
same_pends x n e named =
    enters_none x n (subst (HeldStays x) (sym e) (keep_same x)) (ap (λ (z : End). z.ledger) e) named

-- ---- entries that are decided

-- an entry that names an event, and the events after it
first_gone : (g : ℕ) (o : Option ChannelEvent) (es : List ChannelEvent) (n : ℕ)
    → length (cons_option o es) ≡ suc n → length es ≤ n
    → (drop g es ≡ drop (suc g) (cons_option o es)) × (length es ≡ n)
first_gone g None es n e le = absurd (omega (arith, e, le))
first_gone g (Some x) es n e le = (refl, omega (arith, e))

no_more : (rs : List EventRef) (e : End) → length (pending rs e) ≤ length rs
no_more [] e = omega arith
no_more (r ∷ rs) e = by (named_by r e) (no_more rs e)
  where
    by : (o : Option ChannelEvent) → length (pending rs e) ≤ length rs
        → length (cons_option o (pending rs e)) ≤ suc (length rs)
    by None le = omega (arith, le)
    by (Some x) le = omega (arith, le)

pending_drop : (g : ℕ) (rs : List EventRef) (e : End) → length (pending rs e) ≡ length rs
    → (pending (drop g rs) e ≡ drop g (pending rs e)) × (length (pending (drop g rs) e) ≡ length (drop g rs))
pending_drop zero rs e full = (refl, full)
pending_drop (suc g) [] e full = (refl, refl)
pending_drop (suc g) (r ∷ rs) e full =
    let first = first_gone g (named_by r e) (pending rs e) (length rs) full (no_more rs e) in
    let rest = pending_drop g rs e first.1 in
    (rest.0 ∙ first.0, rest.1)

-- a first part of the entries is decided
pub leaves : (x : End) (l : Ledger) → Behind x.ledger l → Named x → Pends x (record x { ledger = l }) []
leaves x l b named =
    let n : End = record x { ledger = l } in
    let us = x.ledger.undecided in
    let part = pending_drop b.gone us x named.full in
    let held : NamedIn x l.undecided = subst (NamedIn x) (sym b.undecided)
    (all-drop (IsNamed x.dance.log.current.own x.dance.log.acknowledged.peer x.closing.closed) b.gone us named.held) in
    let same : pending l.undecided n ≡ pending l.undecided x = (kept x n (keep_same x) l.undecided held).0 in
    let le = b.within in
    let full = named.full in
    let all = length-append (pending us x) [] in
    record {
      gone = b.gone;
      within = omega (arith, le, full, all);
      entries = same ∙ ap (λ vs. pending vs x) b.undecided ∙ part.0
          ∙ ap (drop b.gone) (sym (append-nil (pending us x)));
      named = record {
        held = held;
        full = ap length same ∙ subst (λ vs. length (pending vs x) ≡ length vs) (sym b.undecided) part.1;
        own_first = named.own_first;
        peer_first = named.peer_first;
        there = subst (All (IsAt x.dance.log.first)) (sym b.undecided)
            (all-drop (IsAt x.dance.log.first) b.gone us named.there);
      };
      decided = b.decided;
    }

-- ---- a base that moves on

named_same : (x : End) (r : EventRef) → named_by r (based x) ≡ named_by r x
named_same x (ref.Own n) = refl
named_same x (ref.Peer n) = refl
named_same x ref.Close = refl

pending_same : (x : End) (rs : List EventRef) → pending rs (based x) ≡ pending rs x
pending_same x [] = refl
pending_same x (r ∷ rs) =
    ap (λ o. cons_option o (pending rs (based x))) (named_same x r)
    ∙ ap (cons_option (named_by r x)) (pending_same x rs)

-- it passes no undecided event
pub bases : (x : End) → Named x → Pends x (based x) []
bases x named =
    let us = x.ledger.undecided in
    let base = base_within x named.own_first named.peer_first in
    let same = pending_same x us in
    record {
      gone = 0;
      within = omega arith;
      entries = same ∙ sym (append-nil (pending us x));
      named = record {
        held = named.held;
        full = ap length same ∙ named.full;
        own_first = base.0;
        peer_first = base.1;
        there = base_at x named.there;
      };
      decided = (let n = x.ledger.decided in let is : n ≡ n + 0 = omega arith in is);
    }

drop_front : (g : ℕ) (es fs : List ChannelEvent) → g ≤ length es → drop g (es ++ fs) ≡ drop g es ++ fs
drop_front zero es fs le = refl
drop_front (suc g) [] fs le = absurd (omega (arith, le))
drop_front (suc g) (e ∷ es) fs le = drop_front g es fs (omega (arith, le))

drop_none : (n : ℕ) (es : List ChannelEvent) → es ≡ [] → drop n es ≡ []
drop_none zero es e = e
drop_none (suc n) [] e = refl
drop_none (suc n) (x ∷ es) e = absurd (cc)

drop_both : (g h n : ℕ) (es : List ChannelEvent) → n ≡ g + h → drop h (drop g es) ≡ drop n es
drop_both zero h n es e = ap (λ k. drop k es) (omega (arith, e))
drop_both (suc g) h n [] e = drop_none h [] refl ∙ sym (drop_none n [] refl)
drop_both (suc g) h zero (x ∷ es) e = absurd (omega (arith, e))
drop_both (suc g) h (suc n) (x ∷ es) e = drop_both g h n es (omega (arith, e))

-- one after the other
pub pends_both : (x m n : End) (es fs : List ChannelEvent) → Pends x m es → Pends m n fs → Pends x n (es ++ fs)
pends_both x m n es fs first then =
    let ps = pending x.ledger.undecided x in
    let qs = pending m.ledger.undecided m in
    let whole : (ps ++ es) ++ fs ≡ ps ++ (es ++ fs) = append_assoc ps es fs in
    let left : qs ++ fs ≡ drop first.gone ((ps ++ es) ++ fs) =
    ap (λ z. z ++ fs) first.entries ∙ sym (drop_front first.gone (ps ++ es) fs first.within) in
    let some = first.within in
    let more = then.within in
    let count : length (qs ++ fs) ≡ length ((ps ++ es) ++ fs) - first.gone =
    ap length left ∙ length-drop first.gone ((ps ++ es) ++ fs) in
    let all : length ((ps ++ es) ++ fs) ≡ length (ps ++ (es ++ fs)) = ap length whole in
    let parts = length-append (ps ++ es) fs in
    let decided = first.decided in
    let later = then.decided in
    record {
      gone = first.gone + then.gone;
      within = omega (arith, some, more, count, all, parts);
      entries = then.entries ∙ ap (drop then.gone) left
          ∙ drop_both first.gone then.gone (first.gone + then.gone) ((ps ++ es) ++ fs) refl
          ∙ ap (drop (first.gone + then.gone)) whole;
      named = then.named;
      decided = omega (arith, decided, later);
    }

-- ---- entries as an end has them

got_at : (own : Bool) (n : ℕ) (us : List Change) → event_in own (slice_get us n) ≡ first_event own (drop n us)
got_at own zero [] = refl
got_at own zero (u ∷ us) = refl
got_at own (suc n) [] = refl
got_at own (suc n) (u ∷ us) = got_at own n us

found_at : (own : Bool) (first n : ℕ) (us : List Change) → first ≤ n
    → event_in own (log.update_at first us n) ≡ first_event own (drop n us)
found_at own first n us le =
    ap (λ (b : Bool). event_in own (cond b None (slice_get us n))) (le-ltb n first le)
    ∙ got_at own n us

found : (r : EventRef) (e : End) → IsAt e.dance.log.first r → channel.named_by r e ≡ named_by r e
found (ref.Own n) e there = found_at true e.dance.log.first.own n e.dance.log.own there
found (ref.Peer n) e there = found_at false e.dance.log.first.peer n e.dance.log.received there
found ref.Close e there = refl

one_numbered : (n : ℕ) (o : Option ChannelEvent) (es : List ChannelEvent) (ps : List (ℕ × ChannelEvent)) (m : ℕ)
    → length (cons_option o es) ≡ suc m → length es ≤ m → ((length es ≡ m) → ps ≡ counted (n + 1) es)
    → cons_option (option_map (λ v. (n, v)) o) ps ≡ counted n (cons_option o es)
one_numbered n None es ps m is le rest = absurd (omega (arith, is, le))
one_numbered n (Some v) es ps m is le rest = ap (λ vs. (n, v) ∷ vs) (rest (omega (arith, is)))

-- where each entry names an event, they have its numbers
numbered_so : (n : ℕ) (rs : List EventRef) (e : End) → All (IsAt e.dance.log.first) rs
    → length (pending rs e) ≡ length rs → pending_from n rs e ≡ counted n (pending rs e)
numbered_so n [] e there full = refl
numbered_so n (r ∷ rs) e there full =
    ap (λ o. cons_option (option_map (λ v. (n, v)) o) (pending_from (n + 1) rs e)) (found r e there.0)
    ∙ one_numbered n (named_by r e) (pending rs e) (pending_from (n + 1) rs e) (length rs) full (no_more rs e)
    (λ all. numbered_so (n + 1) rs e there.1 all)

pub pending_so : (e : End) → Named e
    → pending_events e ≡ counted e.ledger.decided (pending e.ledger.undecided e)
pending_so e named = numbered_so e.ledger.decided e.ledger.undecided e named.there named.full
