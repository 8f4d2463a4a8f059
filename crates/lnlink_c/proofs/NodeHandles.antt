-- A handle by value is its pointer and the object. Assumes `Logic`.
use Rattle.std.proofs.Common.{◌≡◌, ℕ, List, [], ◌∷◌, refl, sym, subst, lit<}
use mathlib.Core.Bool.{Bool, true, false, not}
use lib.Dec.{T as HasTy}
use Rattle.std.specs.Prelude.{Option, Some, None, is_some}
use mir.Raw.{raw as bare}
use mir.Syntax.{ty_ptr, ptr_eq}
use mir.Val.{Val, vptr, vnull, vbool, vstruct, vcons, vnil, of_list, has_ty, WT, op2_val}
use seplogic.Ra.Ura.{Ura}
use base.Fraction.{full_share}
use base.Fml.{feq}
use base.Logic.{SProp, ent, via, never, never_e, fst∗, snd∗, guard, guard_i}
use contract.Monad.{fact, fact_use}
use types.Logic.{Logic, sem}
use types.Kit.{Item, Goal, Seq, Step, step, ‵, ◌$◌, ◌∵◌, !, qed, done, check, drop, fsplit, fjoin, fpick, fpack}
use types.Kit.{rewrite, feq_i, feq_l}
use denote.RattleType.{Valss}
use denote.Builtin.{RawPtr}
use denote.Memory.{lone}
use denote.RawPtr.{Ptr, block_ptr, null_ptr, ptr_val, in_a_block, lies_at, Testable}
use denote.Steps.{nothing}
use denote.Struct.Struct.{within}
use denote.Struct.Owning.{shape}
use Rattle.std.specs.Box.Ownership.{box_owns}
use Rattle.lnlink_c.specs.Owned.{frees, heap}
use Rattle.std.proofs.GlobalToken.{dealloc_token-Testable}
use Rattle.lnlink_c.specs.NodeObject.{Object, object as T}
use Rattle.lnlink_c.specs.Owned.{held_owns}
use Rattle.lnlink_c.specs.declared.held_node.HeldNode.{HeldNode}
use Rattle.lnlink_c.specs.contracts.held_node.HeldNode.{the_row as R, the_type}

abbrev pub alone : Val → Val
alone v = vstruct (vcons v vnil)

module _ {M : Type 1} {𝓤 : Ura M} {𝓛 : Logic 𝓤} {K : Type 0} {Γ : List (Item 𝓤)} {G : Goal 𝓤 𝓛.H} where
  pub held_out : K → (h : HeldNode) (vs : List Val) (x : Object) → h.value ≡ Some x
      → ((b o : ℕ) → vs ≡ alone (vptr b o) ∷ [] → Seq K 𝓛 (‵ (box_owns frees T (block_ptr b o) x) ∷ Γ) G)
      → Seq K 𝓛 (‵ (R.own_val h vs) ∷ Γ) G
  held_out t h vs x full k =
      fsplit t $ fpick t (λ vss. fsplit t $ feq_l t (λ ev. fsplit t $ feq_l t (λ ep. drop t $
      rewrite t 0 (λ (m : Option Object). ‵ (held_owns T h.at m)) full refl $
      in_a_block t h.at (λ p. box_owns frees T p x) (fst∗ 𝓤 (never 𝓤) (sem 𝓛 (frees (bare (lone T.mir)) null_ptr))) (λ
      b o e. k b o
      (subst (λ (p : Ptr). vs ≡ vstruct (of_list (ptr_val p ∷ [])) ∷ []) e
      (subst (λ (ps : List Val). vs ≡ vstruct (of_list (mathlib.Core.List.◌++◌ ps [])) ∷ []) ep ev))))))

  pub held_in : K → (b o : ℕ) (x : Object)
      → Step K 𝓛 (‵ (R.own_val (record { at = block_ptr b o; value = Some x }) (alone (vptr b o) ∷ [])) ∷ Γ) G (‵
      (box_owns frees T (block_ptr b o) x) ∷ Γ) G
  held_in t b o x = step (λ s. let v : Val = alone (vptr b o) in
      nothing t $ feq_i t (List Val) (vptr b o ∷ []) (vptr b o ∷ []) refl $ fjoin t $ feq_i t (List Val) (v ∷ []) (v ∷
      []) refl $ fjoin t $
      fpack t (Valss (RawPtr ∷ [])) (within (shape the_type) (block_ptr b o, tt) (v ∷ [])) (vptr b o ∷ [], tt) $ fjoin
      t $ s)

  pub none_in : K → Step K 𝓛 (‵ (R.own_val (record { at = null_ptr; value = None }) (alone vnull ∷ [])) ∷ Γ) G Γ G
  none_in t = step (λ s. let v : Val = alone vnull in
      feq_i t Ptr null_ptr null_ptr refl $ nothing t $ feq_i t (List Val) (vnull ∷ []) (vnull ∷ []) refl $ fjoin t $
      feq_i t (List Val) (v ∷ []) (v ∷ []) refl $ fjoin t $
      fpack t (Valss (RawPtr ∷ [])) (within (shape the_type) (null_ptr, tt) (v ∷ [])) (vnull ∷ [], tt) $ fjoin t $ s)

-- ---- what the owner of a handle knows of its pointer
abbrev pub Told : Ptr → Option Object → Type 0
Told p m = Testable p × (op2_val ptr_eq (ptr_val p) vnull ≡ vbool (not (is_some m)))

pub twice : (r : Bool) → not (not r) ≡ r
twice true = refl
twice false = refl

pub typed : (p : Ptr) → HasTy (has_ty ty_ptr (ptr_val p)) × WT (ptr_val p)
typed (block_ptr b o) = (tt, tt)
typed null_ptr = (tt, record { fits = lit< tt })

module _ {M : Type 1} {𝓤 : Ura M} (𝓛 : Logic 𝓤) where
  at_null : Told null_ptr None
  at_null = (lit< tt, refl)

  freed : (b o : ℕ) (x : Object) → ent 𝓤 (sem 𝓛 (box_owns frees T (block_ptr b o) x)) (fact 𝓤 (Testable (block_ptr b
      o)))
  freed b o x = let p : Ptr = block_ptr b o in
      via 𝓤 (sem 𝓛 (frees (bare (lone T.mir)) p)) (snd∗ 𝓤 (sem 𝓛 (lies_at T full_share p x)) (sem 𝓛 (frees (bare (lone
      T.mir)) p))) (dealloc_token-Testable 𝓛 heap (bare (lone T.mir)) p)

  pub tells : (p : Ptr) (m : Option Object) → ent 𝓤 (sem 𝓛 (held_owns T p m)) (guard 𝓤 (Told p m) (sem 𝓛 (held_owns T p
      m)))
  tells p None = qed 𝓛 (‵ (feq Ptr p null_ptr) ∷ []) ∵ feq_l ! (λ e. check ! (subst (λ (s : Ptr). Told s None) (sym e)
      at_null) $ feq_i ! Ptr p null_ptr e $ done !)
  tells (block_ptr b o) (Some x) = let B : SProp 𝓤 = sem 𝓛 (box_owns frees T (block_ptr b o) x) in
      fact_use 𝓤 (Testable (block_ptr b o)) (freed b o x) (λ t. guard_i 𝓤 (Told (block_ptr b o) (Some x)) B (t, refl))
  tells null_ptr (Some x) = via 𝓤 (never 𝓤) (fst∗ 𝓤 (never 𝓤) (sem 𝓛 (frees (bare (lone T.mir)) null_ptr))) (never_e 𝓤
      _)
