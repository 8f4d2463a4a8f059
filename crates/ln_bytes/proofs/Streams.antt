-- Records one after the other: what a reader has so far, and what the whole stream is.
use Rattle.std.proofs.Common.{◌≡◌, ◌≢◌, ℕ, zero, suc, ◌+◌, ◌<◌, ◌≤◌, Bool, true, false, List, [], ◌∷◌, ◌++◌, length}
use Rattle.std.proofs.Common.{get_or, take, drop, Option, Some, None, Result, Ok, Err, refl, sym, ◌∙◌, ap, subst, arith}
use Rattle.std.proofs.Common.{append_assoc, ◌⊎◌, inl, inr}
use Rattle.std.specs.Prelude.{IfOk, IfErr}
use Rattle.std.specs.Global.{Vec}
use Rattle.std.proofs.lemmas.List.{append-nil, length-append, take_more, take_at, drop_at, take-append-drop}
use Rattle.std.proofs.Math.Seq.{drop-cons, take-append_seam}
use Rattle.std.proofs.lemmas.List.Concat.{flat_map-append}
use Rattle.ln_bytes.specs.declared.fault.Fault.{Fault}
use Rattle.ln_bytes.specs.declared.record.Record.{Record}
use Rattle.ln_bytes.specs.Bigsize.{bigsize}
use Rattle.ln_bytes.specs.declared.fault.Fault.TheVariants.{Memory}
use Rattle.ln_bytes.specs.Reading.{◌>>=◌, Gives}
use Rattle.ln_bytes.specs.Tlv.{record_bytes, stream_bytes, may_follow, is_allowed, last_type, RiseFrom, AreRising}
use Rattle.ln_bytes.specs.Tlv.{AreKnown, Fits, AreFit, AreValid, Spells, HasFault, record_at, records_at, stream_at}
use Rattle.ln_bytes.proofs.Reading.{IsBytes, bind_ok, bind_err, ok_is}
use Rattle.ln_bytes.proofs.Numbers.{one_way}
use Rattle.ln_bytes.proofs.Records.{IsFront, record_takes, record_again, record_nonempty}

-- ---- lengths

shorter : (a b c : ℕ) → a ≡ b + c → 0 < b → c < a
shorter a b c e h = omega arith

none_left : (b : ℕ) (c : ℕ) {a : ℕ} → 0 < b → a ≡ b + c → a ≤ 0 → ⊥
none_left b c h e l = omega arith

one_less : (a b c turns : ℕ) → 0 < b → a ≡ b + c → a ≤ suc turns → c ≤ turns
one_less a b c turns h e l = omega arith

at_most : (a b turns : ℕ) → a < b → b ≤ suc turns → a ≤ turns
at_most a b turns h l = omega arith

at_most_itself : (a : ℕ) → a ≤ a
at_most_itself a = omega arith

longer : (a b c : ℕ) → 0 < b → a ≡ b + c → 0 < a
longer a b c h e = omega arith

-- ---- one more record at the end

pub AreValid-push : (known : List ℕ) (before : Option ℕ) (good : List Record) (r : Record) → AreValid known before good
    → may_follow (last_type before good) r.typ ≡ true → is_allowed known r.typ ≡ true
    → AreValid known before (good ++ r ∷ [])
AreValid-push known before [] r m f s = (f, s, tt)
AreValid-push known before (g ∷ gs) r m f s = (m.0, m.1, AreValid-push known (Some g.typ) gs r m.2 f s)

pub AreFit-push : (good : List Record) (r : Record) → AreFit good → Fits r → AreFit (good ++ r ∷ [])
AreFit-push [] r m f = (f, tt)
AreFit-push (g ∷ gs) r m f = (m.0, AreFit-push gs r m.1 f)

last_type-push : (before : Option ℕ) (good : List Record) (r : Record) → last_type before (good ++ r ∷ []) ≡ Some r.typ
last_type-push before [] r = refl
last_type-push before (g ∷ gs) r = last_type-push (Some g.typ) gs r

pub stream_bytes-push : (good : List Record) (r : Record)
    → stream_bytes (good ++ r ∷ []) ≡ stream_bytes good ++ record_bytes r
stream_bytes-push good r = flat_map-append record_bytes good (r ∷ [])
    ∙ ap (λ (x : List ℕ). stream_bytes good ++ x) (append-nil (record_bytes r))

-- ---- what a reader has so far

pub record IsSoFar (known : List ℕ) (bytes : List ℕ) (good : List Record) (before : Option ℕ)
    (rest : List ℕ) : Type 0 where
  pub valid : AreValid known None good
  pub fit : AreFit good
  pub bytes_are : bytes ≡ stream_bytes good ++ rest
  pub before_is : before ≡ last_type None good
  pub rest_fits : IsBytes rest

pub begins : (known : List ℕ) (bytes : List ℕ) → IsBytes bytes → IsSoFar known bytes [] None bytes
begins known bytes fits = record { valid = tt; fit = tt; bytes_are = refl; before_is = refl; rest_fits = fits }

pub goes_on : (known bytes : List ℕ) (good : List Record) (before : Option ℕ) (rest : List ℕ) (r : Record)
    (after : List ℕ) → IsSoFar known bytes good before rest → record_at known before rest ≡ Ok (r, after)
    → IsSoFar known bytes (good ++ r ∷ []) (Some r.typ) after
goes_on known bytes good before rest r after so e =
    let f : IsFront known before rest (r, after) = record_takes known before rest (r, after) so.rest_fits e in
    let follows : may_follow (last_type None good) r.typ ≡ true =
    subst (λ (o : Option ℕ). may_follow o r.typ ≡ true) so.before_is f.follows in
    let whole : bytes ≡ stream_bytes (good ++ r ∷ []) ++ after = so.bytes_are
    ∙ ap (λ (x : List ℕ). stream_bytes good ++ x) f.takes.parts
    ∙ sym (append_assoc (stream_bytes good) (record_bytes r) after)
    ∙ ap (λ (x : List ℕ). x ++ after) (sym (stream_bytes-push good r)) in
    record {
      valid = AreValid-push known None good r so.valid follows f.allowed;
      fit = AreFit-push good r so.fit f.fits;
      bytes_are = whole;
      before_is = sym (last_type-push None good r);
      rest_fits = f.takes.rest_fits;
    }

pub gets_shorter : (known : List ℕ) (before : Option ℕ) (rest : List ℕ) (r : Record) (after : List ℕ) → IsBytes rest
    → record_at known before rest ≡ Ok (r, after) → length after < length rest
gets_shorter known before rest r after fits e =
    let f : IsFront known before rest (r, after) = record_takes known before rest (r, after) fits e in
    let some : 0 < length (record_bytes r) = record_nonempty r in
    let whole : length rest ≡ length (record_bytes r) + length after = ap length f.takes.parts
    ∙ length-append (record_bytes r) after in
    shorter (length rest) (length (record_bytes r)) (length after) whole some

pub ends : (known bytes : List ℕ) (good : List Record) (before : Option ℕ) → IsSoFar known bytes good before []
    → Spells known good bytes
ends known bytes good before so = record {
  valid = so.valid;
  fit = so.fit;
  bytes_are = so.bytes_are
      ∙ append-nil (stream_bytes good);
}

pub faults : (known bytes : List ℕ) (good : List Record) (before : Option ℕ) (rest : List ℕ) (f : Fault)
    → IsSoFar known bytes good before rest → rest ≢ [] → record_at known before rest ≡ Err f → HasFault known bytes f
faults known bytes good before rest f so some e =
    record {
      good = good;
      bad = rest;
      valid = so.valid;
      fit = so.fit;
      bytes_are = so.bytes_are;
      some_left = some;
      fault = subst (λ (o : Option ℕ). record_at known o rest ≡ Err f) so.before_is e;
    }

-- ---- what the whole stream is

abbrev answer : Result (List Record) Fault → Result (List Record) Fault
answer r = r

never_err : (rs : List Record) (f : Fault) → answer (Ok rs) ≡ Err f → ⊥
never_err rs f e = cc

cons_nonempty : (b : ℕ) (bytes : List ℕ) → b ∷ bytes ≢ []
cons_nonempty b bytes e = cc

step : (turns : ℕ) (known : List ℕ) (before : Option ℕ) (bytes : List ℕ) → 0 < length bytes
    → records_at (suc turns) known before bytes ≡ (record_at known before bytes >>= λ first. records_at turns known
    (Some first.0.typ) first.1 >>= λ others. Ok (first.0 ∷ others))
unfolding records_at
step turns known before [] h = absurd (omega arith)
step turns known before (b ∷ bytes) h = refl

nothing_left : (turns : ℕ) (known : List ℕ) (before : Option ℕ) → records_at turns known before [] ≡ Ok []
unfolding records_at
nothing_left zero known before = refl
nothing_left (suc turns) known before = refl

-- what is read after some records
behind : List Record → Result (List Record) Fault → Result (List Record) Fault
behind good read = read >>= λ others. Ok (good ++ others)

behind-nil : (read : Result (List Record) Fault) → behind [] read ≡ read
unfolding behind
behind-nil (Ok x) = refl
behind-nil (Err e) = refl

behind-cons : (g : Record) (gs : List Record) (read : Result (List Record) Fault)
    → (behind gs read >>= λ others. Ok (g ∷ others)) ≡ behind (g ∷ gs) read
unfolding behind
behind-cons g gs (Ok x) = refl
behind-cons g gs (Err e) = refl

record IsPast (turns : ℕ) (known : List ℕ) (before : Option ℕ) (good : List Record) (bad : List ℕ) : Type 0 where
  left : ℕ
  enough : length bad ≤ left
  is : records_at turns known before (stream_bytes good ++ bad)
      ≡ behind good (records_at left known (last_type before good) bad)

past : (turns : ℕ) (known : List ℕ) (before : Option ℕ) (good : List Record) (bad : List ℕ) → AreValid known before good
    → AreFit good → length (stream_bytes good ++ bad) ≤ turns → IsPast turns known before good bad
past turns known before [] bad m f l = record {
  left = turns;
  enough = l;
  is = sym (behind-nil (records_at turns known before bad));
}
past zero known before (g ∷ gs) bad m f l =
    absurd (none_left (length (record_bytes g)) _ (record_nonempty g)
    (ap length (append_assoc (record_bytes g) (stream_bytes gs) bad)
    ∙ length-append (record_bytes g) (stream_bytes gs ++ bad)) l)
past (suc turns) known before (g ∷ gs) bad m f l =
    let rest = stream_bytes gs ++ bad in
    let regrouped : stream_bytes (g ∷ gs) ++ bad ≡ record_bytes g ++ rest =
    append_assoc (record_bytes g) (stream_bytes gs) bad in
    let len : length (stream_bytes (g ∷ gs) ++ bad) ≡ length (record_bytes g) + length rest = ap length regrouped
    ∙ length-append (record_bytes g) rest in
    let p : IsPast turns known (Some g.typ) gs bad =
    past turns known (Some g.typ) gs bad m.2 f.1 (one_less _ _ _ _ (record_nonempty g) len l) in
    let first = record_again known before g rest f.0 m.0 m.1 in
    let some : 0 < length (record_bytes g ++ rest) =
    longer _ _ _ (record_nonempty g) (length-append (record_bytes g) rest) in
    let whole = ap (records_at (suc turns) known before) regrouped
    ∙ step turns known before (record_bytes g ++ rest) some in
    record {
      left = p.left;
      enough = p.enough;
      is = whole ∙ ap (λ (x : Result (Record × List ℕ) Fault). x >>= λ first. records_at turns known (Some first.0.typ)
          first.1 >>= λ others. Ok (first.0 ∷ others)) first
          ∙ ap (λ (x : Result (List Record) Fault). x >>= λ others. Ok (g ∷ others)) p.is
          ∙ behind-cons g gs (records_at p.left known (last_type (Some g.typ) gs) bad);
    }

pub stream_again : (known : List ℕ) (rs : List Record) (bytes : List ℕ) → Spells known rs bytes
    → stream_at known bytes ≡ Ok rs
unfolding stream_at behind
stream_again known rs bytes s =
    let same : bytes ≡ stream_bytes rs ++ [] = s.bytes_are ∙ sym (append-nil (stream_bytes rs)) in
    let p = past (length bytes) known None rs [] s.valid s.fit (omega (arith, ap length same)) in
    ap (λ (x : List ℕ). records_at (length bytes) known None x) same ∙ p.is
    ∙ ap (behind rs) (nothing_left p.left known (last_type None rs)) ∙ ap (λ (x : List Record). Ok x) (append-nil rs)

faulty_at : (left : ℕ) (known : List ℕ) (before : Option ℕ) (bad : List ℕ) (f : Fault) → bad ≢ [] → length bad ≤ left
    → record_at known before bad ≡ Err f → records_at left known before bad ≡ Err f
faulty_at left known before [] f some l e = absurd (some refl)
faulty_at zero known before (b ∷ bad) f some l e = absurd (omega arith)
faulty_at (suc left) known before (b ∷ bad) f some l e =
    step left known before (b ∷ bad) (omega arith)
    ∙ ap (λ (x : Result (Record × List ℕ) Fault). x >>= λ first. records_at left known (Some first.0.typ) first.1 >>=
    λ others. Ok (first.0 ∷ others)) e

pub stream_faulty : (known bytes : List ℕ) (f : Fault) → HasFault known bytes f → stream_at known bytes ≡ Err f
unfolding stream_at behind
stream_faulty known bytes f h =
    let p = past (length bytes) known None h.good h.bad h.valid h.fit (omega (arith, ap length h.bytes_are)) in
    ap (λ (x : List ℕ). records_at (length bytes) known None x) h.bytes_are ∙ p.is
    ∙ ap (behind h.good) (faulty_at p.left known (last_type None h.good) h.bad f h.some_left p.enough h.fault)

-- what is read as records after others is spelled so
finished : (turns : ℕ) (known bytes : List ℕ) (good : List Record) (before : Option ℕ) (rest : List ℕ)
    (rs : List Record) → IsSoFar known bytes good before rest → records_at turns known before rest ≡ Ok rs
    → Spells known (good ++ rs) bytes
unfolding records_at
finished turns known bytes good before [] rs so e =
    let whole : good ≡ good ++ rs = sym (append-nil good)
    ∙ ap (λ (x : List Record). good ++ x) (ok_is {A = List Record} [] rs
    (sym (nothing_left turns known before) ∙ e)) in
    subst (λ (x : List Record). Spells known x bytes) whole (ends known bytes good before so)
finished zero known bytes good before (b ∷ rest) rs so e = absurd cc
finished (suc turns) known bytes good before (b ∷ rest) rs so e =
    let first = bind_ok (record_at known before (b ∷ rest))
    (λ first. records_at turns known (Some first.0.typ) first.1 >>= λ others. Ok (first.0 ∷ others)) rs e in
    let others = bind_ok (records_at turns known (Some first.0.0.typ) first.0.1)
    (λ others. Ok (first.0.0 ∷ others)) rs first.2 in
    let more = goes_on known bytes good before (b ∷ rest) first.0.0 first.0.1 so first.1 in
    let all = finished turns known bytes (good ++ first.0.0 ∷ []) (Some first.0.0.typ) first.0.1
    others.0 more others.1 in
    let whole : (good ++ first.0.0 ∷ []) ++ others.0 ≡ good ++ rs = append_assoc good (first.0.0 ∷ []) others.0
    ∙ ap (λ (x : List Record). good ++ x) (ok_is (first.0.0 ∷ others.0) rs others.2) in
    subst (λ (x : List Record). Spells known x bytes) whole all

-- what finds a fault after some records has that fault
broken : (turns : ℕ) (known bytes : List ℕ) (good : List Record) (before : Option ℕ) (rest : List ℕ) (f : Fault)
    → IsSoFar known bytes good before rest → length rest ≤ turns → records_at turns known before rest ≡ Err f
    → HasFault known bytes f
unfolding records_at
broken turns known bytes good before [] f so l e = absurd (never_err [] f (sym (nothing_left turns known before) ∙ e))
broken zero known bytes good before (b ∷ rest) f so l e = absurd (omega arith)
broken (suc turns) known bytes good before (b ∷ rest) f so l e =
    elim (bind_err (record_at known before (b ∷ rest))
    (λ first. records_at turns known (Some first.0.typ) first.1 >>= λ others. Ok (first.0 ∷ others)) f e) [
      | inl here ↦ faults known bytes good before (b ∷ rest) f so (cons_nonempty b rest) here
      | inr first ↦
          let more = goes_on known bytes good before (b ∷ rest) first.0.0 first.0.1 so first.1 in
          let less : length first.0.1 < length (b ∷ rest) =
          gets_shorter known before (b ∷ rest) first.0.0 first.0.1 so.rest_fits first.1 in
          elim (bind_err (records_at turns known (Some first.0.0.typ) first.0.1)
          (λ others. Ok (first.0.0 ∷ others)) f first.2) [
            | inl there ↦ broken turns known bytes (good ++ first.0.0 ∷ []) (Some first.0.0.typ) first.0.1 f more
                (at_most _ _ _ less l) there
            | inr others ↦ absurd (never_err (first.0.0 ∷ others.0) f others.2)
          ]
    ]

pub stream_found : (known : List ℕ) (rs : List Record) (bytes : List ℕ) → IsBytes bytes
    → stream_at known bytes ≡ Ok rs → Spells known rs bytes
unfolding stream_at
stream_found known rs bytes fits e = finished (length bytes) known bytes [] None bytes rs (begins known bytes fits) e

pub stream_broken : (known bytes : List ℕ) (f : Fault) → IsBytes bytes → stream_at known bytes ≡ Err f
    → HasFault known bytes f
unfolding stream_at
stream_broken known bytes f fits e = broken (length bytes) known bytes [] None bytes f (begins known bytes fits)
    (at_most_itself (length bytes)) e

by_answer : (known bytes : List ℕ) (r : Result (List Record) Fault) → IsBytes bytes → stream_at known bytes ≡ r
    → ((rs : List Record) × Spells known rs bytes) ⊎ ((f : Fault) × HasFault known bytes f)
by_answer known bytes (Ok rs) fits e = inl (rs, stream_found known rs bytes fits e)
by_answer known bytes (Err f) fits e = inr (f, stream_broken known bytes f fits e)

-- bytes spell records, or they have a fault
pub some_outcome : (known bytes : List ℕ) → IsBytes bytes → ((rs : List Record) × Spells known rs bytes)
    ⊎ ((f : Fault) × HasFault known bytes f)
some_outcome known bytes fits = by_answer known bytes (stream_at known bytes) fits refl

-- what a reader answers that finds a spelling or a fault
pub is_stream : (known bytes : List ℕ) (r : Result (Vec Record) Fault) → IfOk r (λ v. Spells known v.items bytes)
    → IfErr r (λ e. (e ≡ Memory) ⊎ HasFault known bytes e) → Gives (λ v. v.items) r (stream_at known bytes)
is_stream known bytes (Ok v) found fault = stream_again known v.items bytes found
is_stream known bytes (Err e) found (inl memory) = inl memory
is_stream known bytes (Err e) found (inr fault) = inr (stream_faulty known bytes e fault)

rises : (known : List ℕ) (before : Option ℕ) (rs : List Record) → AreValid known before rs → RiseFrom before rs
rises known before [] m = tt
rises known before (r ∷ rs) m = (m.0, rises known (Some r.typ) rs m.2)

pub is_rising : (known bytes : List ℕ) (r : Result (Vec Record) Fault) → IfOk r (λ v. Spells known v.items bytes)
    → IfOk r (λ v. AreRising v.items)
is_rising known bytes (Ok v) found = rises known None v.items found.valid
is_rising known bytes (Err e) found = tt

-- ---- what is written

pub valid_all : (known : List ℕ) (before : Option ℕ) (rs : List Record) → RiseFrom before rs → AreKnown known rs
    → AreValid known before rs
valid_all known before [] rise all = tt
valid_all known before (r ∷ rs) rise all = (rise.0, all.0, valid_all known (Some r.typ) rs rise.1 all.1)

pub is_written : (known : List ℕ) (rs : List Record) (bytes : List ℕ) → AreRising rs → AreKnown known rs → AreFit rs
    → bytes ≡ stream_bytes rs → Spells known rs bytes
is_written known rs bytes rise all fit e = record { valid = valid_all known None rs rise all; fit = fit; bytes_are = e }

-- ---- one stream, one list of records, one outcome

same_record : (r s : Record) → r.typ ≡ s.typ → r.value ≡ s.value → r ≡ s
same_record r s t v =
    let both : record { typ = r.typ; value = r.value } ≡ record { typ = s.typ; value = s.value } = rw (t, v) refl in
    both

parts : (r : Record) (rest : List ℕ) → record_bytes r ++ rest ≡ bigsize r.typ
    ++ (bigsize (length r.value) ++ (r.value ++ rest))
parts r rest = append_assoc (bigsize r.typ ++ bigsize (length r.value)) r.value rest
    ∙ append_assoc (bigsize r.typ) (bigsize (length r.value)) (r.value ++ rest)

same_front : (r s : Record) (x y : List ℕ) → Fits r → Fits s
    → record_bytes r ++ x ≡ record_bytes s ++ y → (r ≡ s) × (x ≡ y)
same_front r s x y fr fs e =
    let t = one_way r.typ s.typ (bigsize (length r.value) ++ (r.value ++ x))
    (bigsize (length s.value) ++ (s.value ++ y)) fr.typ fs.typ (sym (parts r x) ∙ e ∙ parts s y) in
    let l = one_way (length r.value) (length s.value) (r.value ++ x) (s.value ++ y) fr.len fs.len t.1 in
    let v : r.value ≡ s.value = sym (take_at r.value x (length r.value) refl) ∙ ap (take (length r.value)) l.1
    ∙ take_at s.value y (length r.value) (sym l.0) in
    let z : x ≡ y = sym (drop_at r.value x (length r.value) refl) ∙ ap (drop (length r.value)) l.1
    ∙ drop_at s.value y (length r.value) (sym l.0) in
    (same_record r s t.0 v, z)

some_bytes : (r : Record) (rs : List Record) → stream_bytes (r ∷ rs) ≡ [] → ⊥
some_bytes r rs e = none_left (length (record_bytes r)) (length (stream_bytes rs)) (record_nonempty r)
    (length-append (record_bytes r) (stream_bytes rs)) (omega (arith, ap length e))

-- no two lists of records have the same bytes
pub same_records : (rs ss : List Record) → AreFit rs → AreFit ss → stream_bytes rs ≡ stream_bytes ss → rs ≡ ss
same_records [] [] fr fs e = refl
same_records [] (s ∷ ss) fr fs e = absurd (some_bytes s ss (sym e))
same_records (r ∷ rs) [] fr fs e = absurd (some_bytes r rs e)
same_records (r ∷ rs) (s ∷ ss) fr fs e =
    let p = same_front r s (stream_bytes rs) (stream_bytes ss) fr.0 fs.0 e in
    let q : rs ≡ ss = same_records rs ss fr.1 fs.1 p.1 in
    let same : r ≡ s = p.0 in
    cc

-- bytes that spell records have no fault
pub one_outcome : (known bytes : List ℕ) (rs : List Record) (f : Fault) → Spells known rs bytes
    → HasFault known bytes f → ⊥
one_outcome known bytes rs f s h =
    let both : answer (Ok rs) ≡ Err f = sym (stream_again known rs bytes s) ∙ stream_faulty known bytes f h in
    cc

-- bytes have one first fault at most
pub one_fault : (known bytes : List ℕ) (f g : Fault) → HasFault known bytes f → HasFault known bytes g → f ≡ g
one_fault known bytes f g h k =
    let both : answer (Err f) ≡ Err g = sym (stream_faulty known bytes f h) ∙ stream_faulty known bytes g k in
    cc

-- the first records and the next one are no longer than all
pub counted_more : (rs : List Record) (i : ℕ) (r : Record) → i < length rs → r ≡ get_or rs i r
    → length (stream_bytes (take i rs)) + length (record_bytes r) ≤ length (stream_bytes rs)
counted_more rs i r below is =
    let rest = drop (suc i) rs in
    let at : drop i rs ≡ r ∷ rest = drop-cons rs i r below ∙ ap (λ x. x ∷ rest) (sym is) in
    let whole : rs ≡ take i rs ++ (r ∷ rest) = sym (take-append-drop i rs) ∙ ap (λ l. take i rs ++ l) at in
    let parts : stream_bytes rs ≡ stream_bytes (take i rs) ++ stream_bytes (r ∷ rest) = ap stream_bytes whole
    ∙ flat_map-append record_bytes (take i rs) (r ∷ rest) in
    omega (
      arith,
      ap length parts,
      length-append (stream_bytes (take i rs)) (stream_bytes (r ∷ rest)),
      length-append (record_bytes r) (stream_bytes rest),
    )

valid_next : (known : List ℕ) (before : Option ℕ) (xs : List Record) (r : Record) (ys : List Record)
    → AreValid known before (xs ++ r ∷ ys) → (may_follow (last_type before xs) r.typ ≡ true)
    × (is_allowed known r.typ ≡ true)
valid_next known before [] r ys m = (m.0, m.1)
valid_next known before (x ∷ xs) r ys m = valid_next known (Some x.typ) xs r ys m.2

-- each record of a stream follows those before it
pub valid_at : (known : List ℕ) (rs : List Record) (i : ℕ) (r : Record) → i < length rs → r ≡ get_or rs i r
    → AreValid known None rs → (may_follow (last_type None (take i rs)) r.typ ≡ true) × (is_allowed known r.typ ≡ true)
valid_at known rs i r below is m =
    let rest = drop (suc i) rs in
    let at : drop i rs ≡ r ∷ rest = drop-cons rs i r below ∙ ap (λ x. x ∷ rest) (sym is) in
    let whole : rs ≡ take i rs ++ (r ∷ rest) = sym (take-append-drop i rs) ∙ ap (λ l. take i rs ++ l) at in
    valid_next known None (take i rs) r rest (subst (AreValid known None) whole m)

-- one more record
pub valid_more : (known : List ℕ) (rs : List Record) (i : ℕ) (r : Record) → i < length rs → r ≡ get_or rs i r
    → AreValid known None (take i rs) → may_follow (last_type None (take i rs)) r.typ ≡ true
    → is_allowed known r.typ ≡ true
    → AreValid known None (take (i + 1) rs) × (Some r.typ ≡ last_type None (take (i + 1) rs))
valid_more known rs i r below is m follows allowed =
    let more : take (i + 1) rs ≡ take i rs ++ r ∷ [] = take_more rs i r below
    ∙ ap (λ x. take i rs ++ x ∷ []) (sym is) in (
      subst (AreValid known None) (sym more) (AreValid-push known None (take i rs) r m follows allowed),
      sym (ap (last_type None) more ∙ last_type-push None (take i rs) r),
    )

not_both : (b : Bool) → b ≡ true → b ≡ false → ⊥
not_both b t f = absurd (true_is_not_false (sym t ∙ f))
  where
    true_is_not_false : true ≡ false → ⊥
    true_is_not_false e = cc

pub refutes : (known : List ℕ) (rs : List Record) (i : ℕ) (r : Record) → i < length rs → r ≡ get_or rs i r
    → (may_follow (last_type None (take i rs)) r.typ ≡ false) ⊎ (is_allowed known r.typ ≡ false)
    → AreValid known None rs → ⊥
refutes known rs i r below is wrong m =
    let at = valid_at known rs i r below is m in
    elim wrong [ inl f ↦ not_both _ at.0 f | inr s ↦ not_both _ at.1 s ]

-- ---- what was there before stays in front

pub begins_still : (xs more ys zs : List ℕ) → ys ≡ xs ++ more → take (length ys) zs ≡ ys → take (length xs) zs ≡ xs
begins_still xs more ys zs e t =
    let rest = drop (length ys) zs in
    let whole : zs ≡ xs ++ (more ++ rest) = sym (take-append-drop (length ys) zs) ∙ ap (λ l. l ++ rest) (t ∙ e)
    ∙ append_assoc xs more rest in
    ap (take (length xs)) whole ∙ take-append_seam xs (more ++ rest)
