-- `get` lends the object, and the handle follows it.
use Rattle.std.proofs.Common.{◌≡◌, ℕ, List, [], ◌∷◌, refl, sym, ap, ◌∙◌, MutBor}
use Rattle.std.specs.Prelude.{Option, IsSome}
use base.Fraction.{full_share}
use mir.Syntax.{named}
use mir.Val.{Val, vptr}
use mir.Raw.{raw as bare}
use base.Logic.{SProp, ent, sep, never, fst∗}
use base.Fml.{Fml, ftrue, fsep, flft}
use seplogic.Ra.Ura.{Ura}
use types.Logic.{Logic, sem}
use contract.Monad.{fact}
use contract.Running.{tables}
use types.Kit.{‵, raw, ◌⊛◌, some, later, at_ret, ◌$◌, ◌∵◌, !, qed, done, move, keep, use1, split, split3, join, fsplit}
use types.Kit.{fsplit3, fjoin, fpack, pick, await, rewrite, suffices, frame, group}
use types.Run.{enter, of_opd, addr, load, stop, fld, first, blocks, exec, returns}
use types.ByLocal.{alloc_all, pass_all, free_all, look_at, get, through, sets, sets_last, env}
use types.Part.{whole, sub, look_in}
use denote.Exit.{no}
use denote.Follow.{follows, Part, lends_Part}
use denote.Laws.{shows}
use denote.Memory.{cell_at, part_at, mem, lone, part_of}
use denote.RawPtr.{Ptr, block_ptr, null_ptr, in_a_block}
use denote.Ref.{MutRef, mut_vals, mut_Tells}
use denote.Signature.{plain, mut_ref_to}
use denote.Steps.{nothing, opens, peeks, heard}
use denote.Struct.Struct.{Struct}
use denote.Struct.Owning.{shape}
use denote.Triple.Walked.{Stays, walk_of, says, stay_dropped, Goes-spent_ref, ends_at}
use Rattle.std.proofs.raw_atomic.Walks.{proved}
use Rattle.std.proofs.VecSteps.Shapes.{after}
use Rattle.std.specs.Box.Ownership.{box_owns}
use Rattle.lnlink_c.specs.Owned.{frees}
use Rattle.lnlink_c.specs.NodeObject.{Object, object as T}
use Rattle.lnlink_c.specs.NodeHolding.{holding}
use Rattle.lnlink_c.specs.Owned.{held_owns}
use Rattle.lnlink_c.specs.declared.held_node.HeldNode.{HeldNode}
use Rattle.lnlink_c.specs.contracts.held_node.HeldNode.{the_row as R, the_type}
use Rattle.lnlink_c.proofs.held_node.HeldNode.TheLaws.{lowers}
use Rattle.lnlink_c.proofs.Some.{some_of}
use Rattle.lnlink_c.specs.contracts.held_node.HeldNode.get as f
use Rattle.lnlink_c.proofs.held_node.HeldNode.get.Statement.{statement}
use Rattle.lnlink_c.proofs.held_node.HeldNode.get.Code as code

abbrev stayed : Stays f.ended.signature.params f.ended.kept
stayed = (stay_dropped (mut_ref_to (0 ∷ []) tt (plain (λ _. R))) no, tt)

-- all of the handle but its object
abbrev Rest : HeldNode → List Val → ℕ → ℕ → ℕ → ℕ → Fml
Rest h us b o b' o' = fsep (frees (bare (lone T.mir)) (block_ptr b' o')) (fsep ((Struct (shape the_type)).own_val
    (h.at, tt) us) (cell_at full_share R.mir us b o))

module _ {M : Type 1} {𝓤 : Ura M} (𝓛 : Logic 𝓤) (h : HeldNode) (us : List Val) (b o b' o' : ℕ) where
  back : h.at ≡ block_ptr b' o' → (w : Object) → ent 𝓤 (sep 𝓤 (sem 𝓛 ((mem T).own_at w b' o')) (sem 𝓛 (Rest h us b o b'
      o'))) (sem 𝓛 ((mem R).own_at (holding h w) b o))
  unfolding part_of
  back e w =
      qed 𝓛 (‵ (part_at T full_share w b' o') ∷ ‵ (Rest h us b o b' o') ∷ []) ∵ move ! (1 ∷ []) $ fsplit ! $ move ! (1
      ∷ []) $ fsplit ! $
      -- [the fields; the cell; the right to free; the object]
      move ! (3 ∷ 2 ∷ []) $ fjoin ! $ rewrite ! 0 (λ (p : Ptr). ‵ (box_owns frees T p w)) (sym e) refl $
      move ! (1 ∷ []) $ fjoin ! $ move ! (1 ∷ []) $ fjoin ! $
      fpack ! (List Val) (λ ws. fsep (cell_at full_share R.mir ws b o) (R.own_val (holding h w) ws)) us $ done !

pub get_spec : {M : Type 1} → statement M
get_spec 𝓤 𝓛 𝓜 𝓡 wired =
    let c = f.clauses 𝓛 𝓜.mem 𝓡.returns in let W = walk_of 𝓛 f.ended stayed c in let 𝓣 = tables 𝓤 𝓛.H 𝓜 𝓡 𝓡.env in
    proved 𝓛 f.ended stayed c 𝓜 𝓡 (Goes-spent_ref 𝓛 1 (0 ∷ []) tt (plain (λ _. R)), tt)
    f.Key.name code.function (code.unfolded 𝓤 𝓛.H 𝓜 𝓡 wired)
    (λ κs. (mut_vals, tt)) (λ κs. (mut_Tells (named 0) κs.0 R, tt)) (λ κs qs bounds a _ are.
    let b = a.0.ref_ptr.0 in let o = a.0.ref_ptr.1 in let h = a.0.now in let γ = a.0.ghost_name in let vs = mut_vals
    a.0 in
    let y : W.Ghost = ((κs, qs, bounds, a, (vs, tt)), tt) in
    qed 𝓛 (((‵ (flft κs.0 qs.0) ⊛ ‵ ftrue) ⊛ ‵ ((MutRef (named 0) κs.0 R).own_val a.0 vs) ⊛ ‵ ftrue) ∷ raw (fact 𝓤
    (IsSome h.value)) ∷ []) ∵
    move ! (1 ∷ []) $ heard ! (IsSome h.value) (λ full. let x = (some_of h.value full).0 in let ex = (some_of h.value
    full).1 in
    split ! $ split ! $ move ! (2 ∷ []) $ split ! $ keep ! (0 ∷ 2 ∷ []) $
    enter ! _ _ _ _ _ $ alloc_all ! (λ l. pass_all ! refl ((tt, tt), tt) $
    fsplit3 ! $ move ! (1 ∷ 2 ∷ 3 ∷ []) $ opens ! tt R b o (λ us.
    move ! (1 ∷ []) $ peeks ! R _ (shows 𝓛 R) h us (λ is. fsplit ! $ move ! (1 ∷ []) $
    rewrite ! 0 (λ (m : Option Object). ‵ (held_owns T h.at m)) ex refl $
    in_a_block ! h.at (λ p. box_owns frees T p x) (fst∗ 𝓤 (never 𝓤) (sem 𝓛 (frees (bare (lone T.mir)) null_ptr))) (λ b'
    o' e. fsplit ! $
    -- [the object; the right to free it; the fields; the cell; the open borrow, in three entries]
    let word = lowers.val_is h us is ∙ ap (λ (p : Ptr). lowers.lowered (record h { at = p }) ∷ []) e in
    let Cell = λ (ws : List Val). ‵ (cell_at full_share R.mir ws b o) in
    rewrite ! 3 Cell word refl $
    first ! $ blocks ! $
    sets ! (of_opd ! (load ! (through ! refl (fld ! refl (stop !))) (look_in ! 3 (sub ! 0 refl (whole !))))) refl (
      tt,
      tt,
    ) $
    sets ! (of_opd ! (get ! refl)) refl (tt, tt) $
    sets_last ! (addr ! (through ! refl (stop !))) refl (tt, tt) $
    exec ! 𝓣.C 𝓣.Λ (env code.Mir.locals l) (after 1 (code.function).body) (at_ret _ (W.post y)) $
    sets ! (of_opd ! (get ! refl)) refl (tt, tt) $
    rewrite ! 3 Cell (sym word) refl $
    move ! (2 ∷ 3 ∷ []) $ fjoin ! $ move ! (2 ∷ 0 ∷ []) $ fjoin ! $ move ! (2 ∷ 3 ∷ 4 ∷ 1 ∷ 0 ∷ []) $ group ! 5 $
    use1 𝓛 (later (some (λ (γ' : ℕ). raw (Part 𝓛 R T (holding h) (named 0) κs.0 qs.0 b o b' o' γ (sem 𝓛 (Rest h us b o
    b' o')) (back 𝓛 h us b o b' o' e) x γ'))))
    (lends_Part 𝓛 R T (holding h) (named 0) κs.0 qs.0 b o b' o' γ (sem 𝓛 (Rest h us b o b' o')) (back 𝓛 h us b o b' o'
    e) (R.coded.code h) (R.coded.code h) x) $ await ! tt $ pick ! (λ γ'.
    returns ! (look_at ! 0 refl) $ free_all ! refl $ keep ! (0 ∷ []) $
    let r : MutBor Object = record { ref_ptr = (b', o'); ghost_name = γ'; now = x } in
    use1 𝓛 (‵ ((MutRef (named 0) κs.0 T).own_val r (vptr b' o' ∷ [])) ⊛ ‵ (flft κs.0 qs.0) ⊛ ‵ (follows R T γ γ'
    (holding h))) (base.Logic.id⊢ 𝓤 _) $ split3 ! $
    suffices ! _ (ends_at 𝓛 f.ended stayed c y (vptr b' o') r (tt, tt) (tt, tt)) $
    nothing ! $ nothing ! $ fjoin ! $ join ! $ nothing ! $ move ! (2 ∷ 0 ∷ []) $ join ! $ join ! $ frame ! $ says !
    (ex, ap (λ (m : Option Object). record h { value = m }) (sym ex)) $ done !)))))))
