-- What a record tells of the updates of a log is read of it again.
use Rattle.std.proofs.Common.{◌≡◌, ◌∙◌, ◌≤◌, ◌<◌, ◌+◌, ℕ, List, [], ◌∷◌, ◌++◌, length, drop, map, refl}
use Rattle.std.proofs.Common.{sym, ap, arith, subst, true, false, if◌then◌else◌}
use Rattle.std.proofs.Common.{append_assoc}
use Rattle.std.proofs.lemmas.Bool.{le-leb}
use Rattle.std.proofs.lemmas.List.{take_all, drop_all, append-nil}
use Rattle.std.specs.List.{insert}
use Rattle.ln_keys.specs.declared.role.Role.{Role}
use Rattle.ln_keys.specs.declared.role.Role.TheVariants.{Funder, Fundee}
use Rattle.ln_log.specs.declared.opening.Opening.{Opening}
use Rattle.ln_log.specs.declared.log.Counts.{Counts}
use Rattle.ln_log.specs.declared.update.Add.{Add}
use Rattle.ln_log.specs.Log.{Log, none, after_drop}
use Rattle.ln_log.specs.Explained.{AreBetween}
use Rattle.ln_log.specs.RecordForm.{RecordForm, record_form_of, written, IsRestorable}
use Rattle.ln_log.proofs.Retold.{tells_written}
use Rattle.ln_dance.specs.Past.{IsReadOf}
use Rattle.ln_store.specs.declared.record.LiveHtlc.{LiveHtlc}
use Rattle.ln_store.specs.Removals.{are_one_side}
use Rattle.ln_link.specs.Record.{live_of, updates_by, updates_of}
use Rattle.ln_link.specs.Loading.{place_in, live_htlcs_from, live_htlcs_in, told_in}
use Rattle.ln_link.proofs.Window.{in_role, told_as}

-- ---- live HTLCs

-- their ids are below this
AreBelow : ℕ → List Add → Type 0
AreBelow n [] = Unit {0}
AreBelow n (a ∷ adds) = (a.id < n) × AreBelow n adds

below_more : (n m : ℕ) (adds : List Add) (a : Add) → AreBelow n adds → n ≤ m → a.id < m
    → AreBelow m (adds ++ a ∷ [])
unfolding AreBelow
below_more n m [] a h le lt = (lt, tt)
below_more n m (b ∷ adds) a h le lt = (omega (arith, h.0, le), below_more n m adds a h.1 le lt)

-- an HTLC of a greater id stands after all
last_place : (n id : ℕ) (adds : List Add) → AreBelow n adds → n ≤ id → place_in id adds ≡ length adds
unfolding AreBelow
last_place n id [] h le = refl
last_place n id (a ∷ adds) h le =
    let rest = last_place n id adds h.1 le in
    ap (λ b. if b then place_in id adds + 1 else place_in id adds) (le-leb a.id id (omega (arith, h.0, le)))
    ∙ omega (arith, rest)

inserted_last : (adds : List Add) (n : ℕ) (a : Add) → n ≡ length adds → insert adds n a ≡ adds ++ a ∷ []
inserted_last adds n a e =
    ap (λ xs. xs ++ a ∷ drop n adds) (take_all n adds (omega (arith, e)))
    ∙ ap (λ xs. adds ++ a ∷ xs) (drop_all n adds (omega (arith, e)))

-- those of a side by rising ids are read as they stand
mine_in : (side x : Role) → are_one_side side x ≡ true → (from to : ℕ) (adds acc : List Add) (rest : List LiveHtlc)
    → AreBetween from to adds → AreBelow from acc
    → live_htlcs_from side acc (map (live_of x) adds ++ rest) ≡ live_htlcs_from side (acc ++ adds) rest
unfolding AreBelow
mine_in side x e from to [] acc rest b h = ap (λ xs. live_htlcs_from side xs rest) (sym (append-nil acc))
mine_in side x e from to (a ∷ adds) acc rest b h =
    let more = map (live_of x) adds ++ rest in
    ap (λ c. live_htlcs_from side (if c then insert acc (place_in a.id acc) a else acc) more) e
    ∙ ap (λ xs. live_htlcs_from side xs more) (inserted_last acc (place_in a.id acc) a (last_place from a.id acc h b.0))
    ∙ mine_in side x e (a.id + 1) to adds (acc ++ a ∷ []) rest b.2
    (below_more from (a.id + 1) acc a h (let p = b.0 in omega (arith, p)) (omega arith))
    ∙ ap (λ xs. live_htlcs_from side xs rest) (append_assoc acc (a ∷ []) adds)

-- those of the other side are passed over
others_in : (side x : Role) → are_one_side side x ≡ false → (adds acc : List Add) (rest : List LiveHtlc)
    → live_htlcs_from side acc (map (live_of x) adds ++ rest) ≡ live_htlcs_from side acc rest
others_in side x e [] acc rest = refl
others_in side x e (a ∷ adds) acc rest =
    ap (λ c. live_htlcs_from side (if c then insert acc (place_in a.id acc) a else acc) (map
    (live_of x) adds ++ rest)) e
    ∙ others_in side x e adds acc rest

funders_in : (n : ℕ) (a b : List Add) → AreBetween 0 n a
    → live_htlcs_in Funder (map (live_of Funder) a ++ map (live_of Fundee) b) ≡ a
unfolding AreBelow
funders_in n a b h =
    mine_in Funder Funder refl 0 n a [] (map (live_of Fundee) b) h tt
    ∙ ap (λ l. live_htlcs_from Funder a l) (sym (append-nil (map (live_of Fundee) b)))
    ∙ others_in Funder Fundee refl b a []

fundees_in : (n : ℕ) (a b : List Add) → AreBetween 0 n b
    → live_htlcs_in Fundee (map (live_of Funder) a ++ map (live_of Fundee) b) ≡ b
unfolding AreBelow
fundees_in n a b h =
    others_in Fundee Funder refl a [] (map (live_of Fundee) b)
    ∙ ap (λ l. live_htlcs_from Fundee [] l) (sym (append-nil (map (live_of Fundee) b)))
    ∙ mine_in Fundee Fundee refl 0 n b [] [] h tt

-- ---- all that is told

abbrev with_live_htlcs : RecordForm → List Add → List Add → RecordForm
with_live_htlcs t own peer = record t { own_live_htlcs = own; peer_live_htlcs = peer }

same_live_htlcs : (t : RecordForm) (own own' peer peer' : List Add) → own ≡ own' → peer ≡ peer'
    → with_live_htlcs t own peer ≡ with_live_htlcs t own' peer'
same_live_htlcs t own own' peer peer' e f = ap (λ xs. with_live_htlcs t xs peer) e
    ∙ ap (λ xs. with_live_htlcs t own' xs) f

again_in : (x : Role) (t : RecordForm) → IsRestorable t → told_in t.opening x (updates_by (in_role x t)) ≡ in_role x t
unfolding updates_by
again_in Funder t h =
    same_live_htlcs (in_role Funder t) _ _ _ _
    (funders_in t.balances.next_own t.own_live_htlcs t.peer_live_htlcs h.base.own_live)
    (fundees_in t.balances.next_peer t.own_live_htlcs t.peer_live_htlcs h.base.peer_live)
again_in Fundee t h =
    same_live_htlcs (in_role Fundee t) _ _ _ _
    (fundees_in t.balances.next_own t.peer_live_htlcs t.own_live_htlcs h.base.own_live)
    (funders_in t.balances.next_peer t.peer_live_htlcs t.own_live_htlcs h.base.peer_live)

again : (o : Opening) (x : Role) (t : RecordForm) → t.opening ≡ o → t.role ≡ x → IsRestorable t
    → told_in o x (updates_by t) ≡ t
again o x t e f h =
    subst (λ (y : Opening). told_in y x (updates_by t) ≡ t) e
    (subst (λ (y : Role). told_in t.opening y (updates_by t) ≡ t) f (again_in t.role t h))

-- what is read of the record of a log's updates
pub read_again : (o p : Opening) (x : Role) (l : Log) → l.opening ≡ o → l.opening ≡ p → l.role ≡ x
    → IsRestorable (record_form_of l.first l) → told_in o x (updates_of p x l) ≡ record_form_of l.first l
read_again o p x l e f g h =
    ap (λ (t : RecordForm). told_in o x (updates_by t)) (told_as p x l f g)
    ∙ again o x (record_form_of l.first l) e g h

-- ---- the log that is read of it

abbrev pub restored : RecordForm → Log
restored t = record (written t) { first = t.first }

pub is_read : (l : Log) → IsRestorable (record_form_of l.first (after_drop l))
    → IsReadOf (restored (record_form_of l.first (after_drop l))) l
is_read l h = record {
  first = refl;
  same_record = sym (tells_written (record_form_of l.first (after_drop l)) h).1;
}

-- where all updates are had one by one, it tells them all

abbrev all_told : Counts → RecordForm → Log
all_told n t = record {
  opening = t.opening;
  role = t.role;
  own = t.own;
  received = t.received;
  first = n;
  signed = t.signed;
  acknowledged = t.acknowledged;
  current = t.current;
}

pub all_read : (l m : Log) → IsReadOf l m → m.first ≡ none → l ≡ after_drop m
all_read l m h e =
    let f = h.first ∙ e in
    ap (λ (n : Counts). record l { first = n }) f
    ∙ ap (all_told none) (subst (λ (n : Counts). record_form_of n l ≡ record_form_of n (after_drop m)) f h.same_record)
    ∙ ap (λ (n : Counts). record (after_drop m) { first = n }) (sym e)
