-- The updates that a record has of a log that can be restored fit together.
use Rattle.std.proofs.Common.{◌≡◌, ◌≤◌, ◌+◌, ◌-◌, ◌*◌, ◌^◌, ◌∙◌, ℕ, List, [], ◌∷◌, ◌++◌, length, take, map, refl, sym}
use Rattle.std.proofs.Common.{subst, ap, arith, Bool, true, false, nat_le, ◌==◌, ◌&&◌, ◌||◌, if◌then◌else◌, Option}
use Rattle.std.proofs.Common.{Some, None}
use Rattle.std.proofs.lemmas.Bool.{and_from, le-leb, eq-eqb}
use Rattle.std.proofs.lemmas.List.{take_all, append-nil}
use Rattle.std.proofs.lemmas.List.Sums.{sum_by-append, sum_by-cons}
use Rattle.std.specs.List.{list_any, sum_by}
use Rattle.ln_keys.specs.declared.role.Role.{Role}
use Rattle.ln_keys.specs.declared.role.Role.TheVariants.{Funder, Fundee}
use Rattle.ln_keys.specs.Role.{other_role}
use Rattle.ln_log.specs.declared.opening.Opening.{Opening}
use Rattle.ln_log.specs.declared.log.Counts.{Counts}
use Rattle.ln_log.specs.declared.log.Pair.TheVariants as pair
use Rattle.ln_log.specs.declared.update.Add.{Add}
use Rattle.ln_log.specs.declared.update.Removal.{Removal}
use Rattle.ln_log.specs.declared.update.Update.{Update}
use Rattle.ln_log.specs.declared.update.Update.TheVariants as update
use Rattle.ln_log.specs.Updates.{offered, removed, add_with, is_some}
use Rattle.ln_log.specs.Loading.{IsLawful}
use Rattle.ln_log.specs.Log.{Log, HasId, AreNumbered, RemovesLive, AreRemovals, number_after, covered}
use Rattle.ln_log.specs.Explained.{add_amount, in_flight, gone}
use Rattle.ln_log.specs.Window.{PaysBehind}
use Rattle.ln_log.specs.RecordForm.{RecordForm, record_form_of, written, as_offered, IsRestorable, IsLawfulBehind}
use Rattle.ln_log.proofs.Retold.{lawful_behind, tells_written, stands_written}
use Rattle.ln_store.specs.Removals.{are_one_side, are_removals, is_htlc, is_there}
use Rattle.ln_store.specs.declared.record.LiveHtlc.{LiveHtlc}
use Rattle.ln_store.specs.declared.record.Base.{Base}
use Rattle.ln_store.specs.Sides.{count_of}
use Rattle.ln_store.specs.Views.{names_one, stand, is_side_lawful, is_lawful, views_fit}
use Rattle.ln_store.specs.Views as in_view
use Rattle.ln_store.specs.Window.{rise, has_id, are_numbered, counts_fit, ids_fit, live_amount, funds_in, updates_fit}
use Rattle.ln_store.specs.Window.{removals_fit}
use Rattle.ln_store.proofs.Removing.{removals_so}
use Rattle.ln_link.specs.Record.{live_of, live_htlcs_of, base_of, covered_of, updates_by, updates_of}

-- what is told, of a side with this role
abbrev pub in_role : Role → RecordForm → RecordForm
in_role x t = record t { role = x }

-- ---- counts

rising : (a b c d : ℕ) → a ≤ b → b ≤ c → c ≤ d → rise a b c d ≡ true
rising a b c d p q r = and_from _ _ (and_from _ _ (le-leb a b p) (le-leb b c q)) (le-leb c d r)

ended : (n first : ℕ) (us : List Update) → n ≡ first + length us → n ≤ 2 ^ 62
    → ((n == first + length us) && nat_le n (2 ^ 62)) ≡ true
ended n first us e few = and_from _ _ (eq-eqb n (first + length us) e) (le-leb n (2 ^ 62) few)

counts_so : (x : Role) (t : RecordForm) → IsRestorable t → counts_fit x (updates_by (in_role x t)) ≡ true
unfolding updates_by
counts_so Funder t h =
    let c = h.counts in
    and_from _ _ (and_from _ _ (and_from _ _
    (rising t.first.own t.current.own t.acknowledged.own t.signed.own c.own_first c.own_current c.own_acknowledged)
    (rising t.first.peer t.acknowledged.peer t.signed.peer t.current.peer c.peer_first c.peer_acknowledged
    c.peer_signed))
    (ended t.signed.own t.first.own t.own c.own_signed c.own_last))
    (ended t.current.peer t.first.peer t.received c.peer_current c.peer_last)
counts_so Fundee t h =
    let c = h.counts in
    and_from _ _ (and_from _ _ (and_from _ _
    (rising t.first.own t.current.own t.acknowledged.own t.signed.own c.own_first c.own_current c.own_acknowledged)
    (rising t.first.peer t.acknowledged.peer t.signed.peer t.current.peer c.peer_first c.peer_acknowledged
    c.peer_signed))
    (ended t.signed.own t.first.own t.own c.own_signed c.own_last))
    (ended t.current.peer t.first.peer t.received c.peer_current c.peer_last)

-- ---- ids

has_it : (n : ℕ) (a : Option Add) → HasId n a → has_id n a ≡ true
has_it n None h = refl
has_it n (Some a) h = eq-eqb a.id n h

numbered : (n : ℕ) (us : List Update) → AreNumbered n us → are_numbered n us ≡ true
numbered n [] h = refl
numbered n (u ∷ us) h = and_from _ _ (has_it n (offered u) h.0) (numbered (number_after n (offered u)) us h.1)

within : (next n count : ℕ) → next + n ≤ count → nat_le next count ≡ true
within next n count h = le-leb next count (omega (arith, h))

ids_so : (x y : Role) (t : RecordForm) → IsRestorable t → ids_fit y (updates_by (in_role x t)) ≡ true
unfolding updates_by
ids_so Funder Funder t h = and_from _ _
    (within t.balances.next_own (gone t.balances.next_peer t.peer_live_htlcs) t.first.own h.base.own_count)
    (numbered t.balances.next_own t.own h.own_ids)
ids_so Funder Fundee t h = and_from _ _
    (within t.balances.next_peer (gone t.balances.next_own t.own_live_htlcs) t.first.peer h.base.peer_count)
    (numbered t.balances.next_peer t.received h.peer_ids)
ids_so Fundee Funder t h = and_from _ _
    (within t.balances.next_peer (gone t.balances.next_own t.own_live_htlcs) t.first.peer h.base.peer_count)
    (numbered t.balances.next_peer t.received h.peer_ids)
ids_so Fundee Fundee t h = and_from _ _
    (within t.balances.next_own (gone t.balances.next_peer t.peer_live_htlcs) t.first.own h.base.own_count)
    (numbered t.balances.next_own t.own h.own_ids)

-- ---- sums

amounts : (side : Role) (adds : List Add) → sum_by live_amount (map (live_of side) adds) ≡ in_flight adds
amounts side [] = refl
amounts side (a ∷ adds) =
    sum_by-cons live_amount (live_of side a) (map (live_of side) adds)
    ∙ ap (λ n. a.amount + n) (amounts side adds) ∙ sym (sum_by-cons add_amount a adds)

both_amounts : (a b : List Add)
    → sum_by live_amount (map (live_of Funder) a ++ map (live_of Fundee) b) ≡ in_flight a + in_flight b
both_amounts a b =
    sum_by-append live_amount (map (live_of Funder) a) (map (live_of Fundee) b)
    ∙ ap (λ n. n + sum_by live_amount (map (live_of Fundee) b)) (amounts Funder a)
    ∙ ap (λ n. in_flight a + n) (amounts Fundee b)

funds_so : (x : Role) (t : RecordForm) → IsRestorable t → funds_in (base_of (in_role x t)) ≡ 1000 * t.opening.satoshis
funds_so Funder t h =
    let all = h.base.all_funds in
    let both = both_amounts t.own_live_htlcs t.peer_live_htlcs in
    ap (λ n. t.balances.own + t.balances.peer + n) both ∙ omega (arith, all)
funds_so Fundee t h =
    let all = h.base.all_funds in
    let both = both_amounts t.peer_live_htlcs t.own_live_htlcs in
    ap (λ n. t.balances.peer + t.balances.own + n) both ∙ omega (arith, all)

-- ---- the live HTLCs of a side

all_mine : (side x : Role) → are_one_side side x ≡ true → (adds : List Add)
    → in_view.live_htlcs_of side (map (live_of x) adds) ≡ as_offered adds
all_mine side x e [] = refl
all_mine side x e (a ∷ adds) =
    ap (λ b. if b then update.Add a ∷ in_view.live_htlcs_of side (map (live_of x) adds)
    else in_view.live_htlcs_of side (map (live_of x) adds)) e
    ∙ ap (λ us. update.Add a ∷ us) (all_mine side x e adds)

none_mine : (side x : Role) → are_one_side side x ≡ false → (adds : List Add)
    → in_view.live_htlcs_of side (map (live_of x) adds) ≡ []
none_mine side x e [] = refl
none_mine side x e (a ∷ adds) =
    ap (λ b. if b then update.Add a ∷ in_view.live_htlcs_of side (map (live_of x) adds)
    else in_view.live_htlcs_of side (map (live_of x) adds)) e
    ∙ none_mine side x e adds

first_mine : (side x : Role) → are_one_side side x ≡ true → (adds : List Add) (rest : List LiveHtlc)
    → in_view.live_htlcs_of side (map (live_of x) adds ++ rest) ≡ as_offered adds ++ in_view.live_htlcs_of side rest
first_mine side x e [] rest = refl
first_mine side x e (a ∷ adds) rest =
    ap (λ b. if b then update.Add a ∷ in_view.live_htlcs_of side (map (live_of x) adds ++ rest)
    else in_view.live_htlcs_of side (map (live_of x) adds ++ rest)) e
    ∙ ap (λ us. update.Add a ∷ us) (first_mine side x e adds rest)

first_other : (side x : Role) → are_one_side side x ≡ false → (adds : List Add) (rest : List LiveHtlc)
    → in_view.live_htlcs_of side (map (live_of x) adds ++ rest) ≡ in_view.live_htlcs_of side rest
first_other side x e [] rest = refl
first_other side x e (a ∷ adds) rest =
    ap (λ b. if b then update.Add a ∷ in_view.live_htlcs_of side (map (live_of x) adds ++ rest)
    else in_view.live_htlcs_of side (map (live_of x) adds ++ rest)) e
    ∙ first_other side x e adds rest

funders : (a b : List Add) → in_view.live_htlcs_of Funder (map (live_of Funder) a
    ++ map (live_of Fundee) b) ≡ as_offered a
funders a b =
    first_mine Funder Funder refl a (map (live_of Fundee) b)
    ∙ ap (λ us. as_offered a ++ us) (none_mine Funder Fundee refl b) ∙ append-nil (as_offered a)

fundees : (a b : List Add) → in_view.live_htlcs_of Fundee (map (live_of Funder) a
    ++ map (live_of Fundee) b) ≡ as_offered b
fundees a b = first_other Fundee Funder refl a (map (live_of Fundee) b) ∙ all_mine Fundee Fundee refl b

-- ---- removals

or_true : (b : Bool) → (b || true) ≡ true
or_true true = refl
or_true false = refl

named : (same : Bool) (a : Add) (r : Option Add) (w any : Bool) → (is_some r ≡ true → (w || any) ≡ true)
    → is_some (if same then Some a else r) ≡ true → (w || ((true && same) || any)) ≡ true
named true a r w any f h = or_true w
named false a r w any f h = f h

one_there : (one : Bool) (a : Add) (rest window : List Update) (id : ℕ) (any : Bool)
    → (is_some (add_with id (rest ++ window)) ≡ true → (is_some (add_with id window) || any) ≡ true)
    → is_some (add_with id ((if one then update.Add a ∷ rest else rest) ++ window)) ≡ true
    → (is_some (add_with id window) || ((one && (a.id == id)) || any)) ≡ true
one_there true a rest window id any f h =
    named (a.id == id) a (add_with id (rest ++ window)) (is_some (add_with id window)) any f h
one_there false a rest window id any f h = f h

-- what the live HTLCs or the window offer is there
there_so : (side : Role) (live : List LiveHtlc) (window : List Update) (id : ℕ)
    → is_some (add_with id (in_view.live_htlcs_of side live ++ window)) ≡ true → is_there side live window id ≡ true
there_so side [] window id h = ap (λ b. b || false) h
there_so side (l ∷ ls) window id h =
    one_there (are_one_side side l.offerer) l.add (in_view.live_htlcs_of side ls) window id (list_any
    (is_htlc side id) ls)
    (there_so side ls window id) h

-- of the HTLCs of a side, those that are live in a base among them
abbrev AreThese : Role → List LiveHtlc → List Update → Type 0
AreThese side live live_htlcs = in_view.live_htlcs_of side live ≡ live_htlcs

those : (side : Role) (live : List LiveHtlc) (live_htlcs window us : List Update) → AreThese side live live_htlcs
    → AreRemovals (live_htlcs ++ window) [] us → AreRemovals (in_view.live_htlcs_of side live ++ window) [] us
those side live live_htlcs window us e h = subst (λ ls. AreRemovals (ls ++ window) [] us) (sym e) h

-- ---- one view

stands_so : (there : ℕ → Bool) (adds before : List Update) (r : Option Removal)
    → ((id : ℕ) → is_some (add_with id adds) ≡ true → there id ≡ true) → RemovesLive adds before r
    → names_one there r ≡ true
stands_so there adds before None f h = refl
stands_so there adds before (Some r) f h = f r.id h.0

stand_so : (there : ℕ → Bool) (adds before us : List Update)
    → ((id : ℕ) → is_some (add_with id adds) ≡ true → there id ≡ true) → AreRemovals adds before us
    → stand there us ≡ true
stand_so there adds before [] f h = refl
stand_so there adds before (u ∷ us) f h =
    and_from _ _ (stands_so there adds before (removed u) f h.0) (stand_so there adds (before ++ u ∷ []) us f h.1)

paid_so : (had : ℕ) (lo lp los lps own peer : List Update) → los ≡ lo → lps ≡ lp → PaysBehind had lo own lp peer
    → in_view.pays had los own lps peer ≡ true
paid_so had lo lp los lps own peer eo ep h = le-leb _ _
    (subst (λ (ls : List Update). PaysBehind had ls own lps peer) (sym eo)
    (subst (λ (ls : List Update). PaysBehind had lo own ls peer) (sym ep) h))

side_so : (side other : Role) (b : Base) (lo lp own peer : List Update) → other ≡ other_role side
    → AreThese side b.live lo → AreThese other b.live lp → AreRemovals (lp ++ peer) [] own
    → PaysBehind (count_of side b.balances) lo own lp peer → is_side_lawful side b own peer ≡ true
side_so side other b lo lp own peer e eo ep h p =
    let theirs : AreThese (other_role side) b.live lp = subst (λ (x : Role). AreThese x b.live lp) e ep in
    and_from _ _
    (stand_so (is_there (other_role side) b.live peer) (in_view.live_htlcs_of (other_role side) b.live ++ peer) [] own
    (there_so (other_role side) b.live peer) (those (other_role side) b.live lp peer own theirs h))
    (paid_so (count_of side b.balances) lo lp _ _ own peer eo theirs p)

view_so : (x : Role) (t : RecordForm) (c : Counts) → IsLawfulBehind t c
    → is_lawful x (updates_by (in_role x t)) (covered_of c) ≡ true
unfolding updates_by
view_so Funder t c h =
    let b = base_of (in_role Funder t) in
    let w = take (c.own - t.first.own) t.own in
    let v = take (c.peer - t.first.peer) t.received in
    let own = funders t.own_live_htlcs t.peer_live_htlcs in
    let peer = fundees t.own_live_htlcs t.peer_live_htlcs in
    and_from _ _
    (side_so Funder Fundee b (as_offered t.own_live_htlcs)
    (as_offered t.peer_live_htlcs) w v refl own peer h.own_removals
    h.paid.0)
    (side_so Fundee Funder b (as_offered t.peer_live_htlcs)
    (as_offered t.own_live_htlcs) v w refl peer own h.peer_removals
    h.paid.1)
view_so Fundee t c h =
    let b = base_of (in_role Fundee t) in
    let w = take (c.own - t.first.own) t.own in
    let v = take (c.peer - t.first.peer) t.received in
    let own = fundees t.peer_live_htlcs t.own_live_htlcs in
    let peer = funders t.peer_live_htlcs t.own_live_htlcs in
    and_from _ _
    (side_so Fundee Funder b (as_offered t.own_live_htlcs)
    (as_offered t.peer_live_htlcs) w v refl own peer h.own_removals
    h.paid.0)
    (side_so Funder Fundee b (as_offered t.peer_live_htlcs)
    (as_offered t.own_live_htlcs) v w refl peer own h.peer_removals
    h.paid.1)

-- ---- all views

-- what is lawful of the lists that are written down is lawful after the base
behind_so : (t : RecordForm) (c : Counts) → IsRestorable t → t.first.own ≤ c.own → t.first.peer ≤ c.peer
    → IsLawful t.opening t.role (covered (written t) c) → IsLawfulBehind t c
behind_so t c h own peer v =
    let b = tells_written t h in
    let r = (stands_written t h).1 in
    subst (λ (y : RecordForm). IsLawfulBehind y c) (sym b.1)
    (lawful_behind (written t) t.first c b.0.closed r.lists.own_offered.ids r.lists.peer_offered.ids own peer v)

-- all own updates that are signed, and all of the peer's that are held
all_signed : (t : RecordForm) → IsRestorable t
    → IsLawfulBehind t (record { own = t.signed.own; peer = t.current.peer })
all_signed t h =
    let r = (stands_written t h).1 in
    let k = h.counts in
    behind_so t (record { own = t.signed.own; peer = t.current.peer }) h
    (omega (arith, k.own_first, k.own_current, k.own_acknowledged))
    (omega (arith, k.peer_first, k.peer_acknowledged, k.peer_signed))
    (subst (λ n. IsLawful t.opening t.role (covered (written t) (record { own = n; peer = t.current.peer })))
    (sym r.lists.covered_all.own) (r.views pair.ToSign))

all_accepted : (t : RecordForm) → IsRestorable t
    → IsLawfulBehind t (record { own = t.acknowledged.own; peer = t.current.peer })
all_accepted t h =
    let r = (stands_written t h).1 in
    let k = h.counts in
    behind_so t (record { own = t.acknowledged.own; peer = t.current.peer }) h
    (omega (arith, k.own_first, k.own_current))
    (omega (arith, k.peer_first, k.peer_acknowledged, k.peer_signed))
    (subst (λ n. IsLawful t.opening t.role (covered (written t) (record { own = t.acknowledged.own; peer = n })))
    (sym r.lists.covered_all.peer) (r.views pair.ToAccept))

views_so : (x : Role) (t : RecordForm) → IsRestorable t → views_fit x (updates_by (in_role x t)) ≡ true
unfolding updates_by
views_so x t h =
    and_from _ _ (and_from _ _ (and_from _ _ (and_from _ _ (view_so x t t.signed h.signed)
    (view_so x t t.acknowledged h.acknowledged)) (view_so x t t.current h.current))
    (view_so x t (record { own = t.signed.own; peer = t.current.peer }) (all_signed t h)))
    (view_so x t (record { own = t.acknowledged.own; peer = t.current.peer }) (all_accepted t h))

-- ---- all removals

all_own : (t : RecordForm) → IsRestorable t → take (t.signed.own - t.first.own) t.own ≡ t.own
all_own t h = let e = h.counts.own_signed in take_all (t.signed.own - t.first.own) t.own (omega (arith, e))

all_peer : (t : RecordForm) → IsRestorable t → take (t.current.peer - t.first.peer) t.received ≡ t.received
all_peer t h = let e = h.counts.peer_current in take_all (t.current.peer - t.first.peer) t.received (omega (arith, e))

own_removals : (t : RecordForm) → IsRestorable t → AreRemovals (as_offered t.peer_live_htlcs ++ t.received) [] t.own
own_removals t h =
    let v = take (t.current.peer - t.first.peer) t.received in
    subst (λ us. AreRemovals (as_offered t.peer_live_htlcs ++ us) [] t.own) (all_peer t h)
    (subst (λ us. AreRemovals (as_offered t.peer_live_htlcs ++ v) [] us) (all_own t h) (all_signed t h).own_removals)

peer_removals : (t : RecordForm) → IsRestorable t → AreRemovals (as_offered t.own_live_htlcs ++ t.own) [] t.received
peer_removals t h =
    let w = take (t.signed.own - t.first.own) t.own in
    subst (λ us. AreRemovals (as_offered t.own_live_htlcs ++ us) [] t.received) (all_own t h)
    (subst (λ us. AreRemovals (as_offered t.own_live_htlcs ++ w) [] us) (all_peer t h) (all_signed t h).peer_removals)

fit_there : (side : Role) (live : List LiveHtlc) (live_htlcs window us : List Update) → AreThese side live live_htlcs
    → AreRemovals (live_htlcs ++ window) [] us
    → are_removals (is_there side live window) [] us ≡ true
fit_there side live live_htlcs window us e h =
    removals_so (is_there side live window) (in_view.live_htlcs_of side live
    ++ window) [] us (there_so side live window)
    (those side live live_htlcs window us e h)

removals_fit_so : (x y : Role) (t : RecordForm) → IsRestorable t → removals_fit y (updates_by (in_role x t)) ≡ true
unfolding updates_by
removals_fit_so Funder Funder t h =
    fit_there Fundee (live_htlcs_of Funder t.own_live_htlcs t.peer_live_htlcs)
    (as_offered t.peer_live_htlcs) t.received t.own
    (fundees t.own_live_htlcs t.peer_live_htlcs) (own_removals t h)
removals_fit_so Funder Fundee t h =
    fit_there Funder (live_htlcs_of Funder t.own_live_htlcs t.peer_live_htlcs)
    (as_offered t.own_live_htlcs) t.own t.received
    (funders t.own_live_htlcs t.peer_live_htlcs) (peer_removals t h)
removals_fit_so Fundee Funder t h =
    fit_there Fundee (live_htlcs_of Fundee t.own_live_htlcs t.peer_live_htlcs)
    (as_offered t.own_live_htlcs) t.own t.received
    (fundees t.peer_live_htlcs t.own_live_htlcs) (peer_removals t h)
removals_fit_so Fundee Fundee t h =
    fit_there Funder (live_htlcs_of Fundee t.own_live_htlcs t.peer_live_htlcs)
    (as_offered t.peer_live_htlcs) t.received t.own
    (funders t.peer_live_htlcs t.own_live_htlcs) (own_removals t h)

-- ---- all of it

told_fits : (x : Role) (t : RecordForm) → IsRestorable t
    → updates_fit x t.opening.satoshis (updates_by (in_role x t)) ≡ true
unfolding updates_by
told_fits x t h =
    and_from _ _ (and_from _ _ (and_from _ _
    (and_from _ _ (and_from _ _ (and_from _ _ (counts_so x t h) (ids_so x Funder t h)) (ids_so x Fundee t h))
    (eq-eqb (funds_in (base_of (in_role x t))) (1000 * t.opening.satoshis) (funds_so x t h)))
    (removals_fit_so x Funder t h)) (removals_fit_so x Fundee t h)) (views_so x t h)

-- what a log tells, in its channel and role
pub told_as : (o : Opening) (x : Role) (l : Log) → l.opening ≡ o → l.role ≡ x
    → record_form_of l.first (record l { opening = o; role = x }) ≡ record_form_of l.first l
told_as o x l e f =
    ap (λ (y : Opening). record_form_of l.first (record l { opening = y; role = x })) (sym e)
    ∙ ap (λ (y : Role). record_form_of l.first (record l { role = y })) (sym f)

pub fit_so : (o : Opening) (x : Role) (l : Log) → l.opening ≡ o → l.role ≡ x → IsRestorable (record_form_of l.first l)
    → updates_fit x o.satoshis (updates_of o x l) ≡ true
fit_so o x l e f r =
    told_fits x (record_form_of l.first (record l { opening = o; role = x })) (subst IsRestorable (sym
    (told_as o x l e f)) r)
