-- `is_there` compares the pointer with null, which the owner of its block may do.
use Rattle.std.proofs.Common.{List, [], ◌∷◌, refl, sym, ap}
use Rattle.std.specs.Prelude.{is_some}
use base.Fraction.{full_share}
use mir.Syntax.{named}
use mir.Val.{Val, vbool}
use base.Fml.{ftrue, flft}
use contract.Running.{tables}
use types.Kit.{‵, ◌⊛◌, given, ◌$◌, ◌∵◌, !, qed, done, move, keep, use1, learn, split, join, fsplit, fsplit3, fjoin}
use types.Kit.{feq_i, rewrite, suffices, frame, group}
use types.Run.{enter, of_opd, load, stop, fld, bin, un, lit, returns}
use types.ByLocal.{alloc_all, pass_all, free_all, look_at, get, through, sets, is}
use types.Part.{whole, sub, look_in}
use denote.Laws.{shows}
use denote.Memory.{cell_at}
use denote.RawPtr.{tests_null}
use denote.Ref.{MutRef, mut_vals, mut_Tells}
use denote.Signature.{plain}
use denote.Steps.{nothing, opens, closes, peeks}
use denote.Triple.Walked.{Stays, walk_of, says, stay_ref, Goes-ref, ends_at}
use Rattle.std.proofs.raw_atomic.Walks.{proved}
use Rattle.lnlink_c.specs.NodeObject.{object as T}
use Rattle.lnlink_c.specs.Owned.{held_owns}
use Rattle.lnlink_c.specs.contracts.held_node.HeldNode.{the_row as R}
use Rattle.lnlink_c.proofs.held_node.HeldNode.TheLaws.{lowers}
use Rattle.lnlink_c.proofs.NodeHandles.{Told, tells, twice, typed}
use Rattle.lnlink_c.specs.contracts.held_node.HeldNode.is_there as f
use Rattle.lnlink_c.proofs.held_node.HeldNode.is_there.Statement.{statement}
use Rattle.lnlink_c.proofs.held_node.HeldNode.is_there.Code as code

abbrev stayed : Stays f.ended.signature.params f.ended.kept
stayed = (stay_ref (0 ∷ []) tt (plain (λ _. R)), tt)

pub is_there_spec : {M : Type 1} → statement M
is_there_spec 𝓤 𝓛 𝓜 𝓡 wired =
    let c = f.clauses 𝓛 𝓜.mem 𝓡.returns in let W = walk_of 𝓛 f.ended stayed c in let 𝓣 = tables 𝓤 𝓛.H 𝓜 𝓡 𝓡.env in
    proved 𝓛 f.ended stayed c 𝓜 𝓡 (Goes-ref 𝓛 1 0 tt (plain (λ _. R)), tt)
    f.Key.name code.function (code.unfolded 𝓤 𝓛.H 𝓜 𝓡 wired)
    (λ κs. (mut_vals, tt)) (λ κs. (mut_Tells (named 0) κs.0 R, tt)) (λ κs qs bounds a _ are.
    let b = a.0.ref_ptr.0 in let o = a.0.ref_ptr.1 in let h = a.0.now in let vs = mut_vals a.0 in let r = is_some
    h.value in
    let y : W.Ghost = ((κs, qs, bounds, a, (vs, tt)), tt) in
    qed 𝓛 (((‵ (flft κs.0 qs.0) ⊛ ‵ ftrue) ⊛ ‵ ((MutRef (named 0) κs.0 R).own_val a.0 vs) ⊛ ‵ ftrue) ∷ ‵ ftrue ∷ []) ∵
    split ! $ split ! $ move ! (2 ∷ []) $ split ! $ keep ! (0 ∷ 2 ∷ []) $
    enter ! _ _ _ _ _ $ alloc_all ! (λ l. pass_all ! refl ((tt, tt), tt) $
    fsplit3 ! $ move ! (1 ∷ 2 ∷ 3 ∷ []) $ opens ! tt R b o (λ us.
    move ! (1 ∷ []) $ peeks ! R _ (shows 𝓛 R) h us (λ is_val. fsplit ! $ move ! (1 ∷ []) $
    use1 𝓛 (given (Told h.at h.value) (‵ (held_owns T h.at h.value))) (tells 𝓛 h.at h.value) $ learn ! (λ told.
    -- [what the handle owns; its field; its cell; the open borrow, in three entries]
    let word = lowers.val_is h us is_val in
    let Cell = λ (ws : List Val). ‵ (cell_at full_share R.mir ws b o) in
    rewrite ! 2 Cell word refl $
    sets ! (of_opd ! (load ! (through ! refl (fld ! refl (stop !))) (look_in ! 2 (sub ! 0 refl (whole !))))) refl
    (typed h.at) $
    sets ! (is ! (bin ! (get ! refl) (lit ! tt) (tests_null h.at told.0)) told.1) refl (tt, tt) $
    sets ! (is ! (un ! (get ! refl) tt) (ap vbool (twice r))) refl (tt, tt) $
    rewrite ! 2 Cell (sym word) refl $
    move ! (1 ∷ []) $ fjoin ! $ move ! (1 ∷ []) $ closes ! tt R h us b o $
    returns ! (look_at ! 0 refl) $ free_all ! refl $ move ! (3 ∷ []) $
    suffices ! _ (ends_at 𝓛 f.ended stayed c y (vbool r) r (h, tt) (tt, tt)) $ says ! (refl, refl) $
    group ! 3 $ nothing ! $ move ! (1 ∷ 0 ∷ []) $ join ! $ nothing ! $ move ! (2 ∷ 0 ∷ []) $ join ! $ frame ! $ frame !
    $
    feq_i ! (List Val) (vbool r ∷ []) (vbool r ∷ []) refl $ done !)))))
