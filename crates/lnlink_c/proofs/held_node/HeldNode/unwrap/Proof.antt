-- `unwrap` puts the pointer beside the allocator again.
use Rattle.std.proofs.Common.{◌≡◌, List, [], ◌∷◌, ◌++◌, refl}
use Rattle.std.specs.Prelude.{Some, IsSome}
use mir.Val.{Val, vptr}
use base.Logic.{SProp, emp}
use prog.Wp.{WpFn}
use contract.Monad.{fact, fact_i}
use contract.Running.{tables}
use types.Kit.{‵, raw, ◌⊛◌, prop, ◌$◌, ◌∵◌, !, qed, by, move, keep, use0, split, regoal, fsplit, fjoin}
use types.Run.{stop, fld, of_opd, no_more, and_then, returns, enter}
use types.ByLocal.{alloc_all, pass_all, free_all, look_at, get, get_in, sets}
use types.Part.{whole, sub, agg}
use denote.RattleType.{owns}
use denote.RawPtr.{block_ptr}
use denote.Signature.{types_at, plain}
use denote.Steps.{nothing, heard}
use denote.Triple.Entry.{alive}
use denote.Triple.Walked.{Stays, stay_dropped, walk_of}
use Rattle.std.proofs.alloc.Calls.{Goes-blank, handle_tells}
use Rattle.std.proofs.raw_atomic.Walks.{proved_at, leaves}
use Rattle.std.proofs.alloc.Global.TheLaws.{the_row_laws as LG}
use Rattle.std.specs.contracts.alloc.Global.{the_row as G}
use Rattle.std.specs.contracts.impls.GlobalAllocator.TheImpl.{ghosts as g}
use Rattle.lnlink_c.specs.NodeObject.{object as T}
use Rattle.unboxed.proofs.Values.{both, al, loose_good, loose_in}
use Rattle.lnlink_c.proofs.Some.{some_of}
use Rattle.lnlink_c.proofs.NodeHandles.{alone, held_out}
use Rattle.lnlink_c.specs.contracts.held_node.HeldNode.{the_row as R}
use Rattle.lnlink_c.specs.contracts.held_node.HeldNode.unwrap.{ended, clauses}
use Rattle.lnlink_c.specs.contracts.held_node.HeldNode.unwrap.Key.{name as #self}
use Rattle.lnlink_c.proofs.held_node.HeldNode.unwrap.Statement.{statement}
use Rattle.lnlink_c.proofs.held_node.HeldNode.unwrap.Code as code

pub unwrap_spec : {M : Type 1} → statement M
unwrap_spec 𝓤 𝓛 𝓜 𝓡 wired =
    let H = 𝓛.H in let 𝓣 = tables 𝓤 H 𝓜 𝓡 𝓡.env in let c = clauses 𝓛 𝓜.mem 𝓡.returns in let fn = code.function in
    let hs : Stays ended.signature.params ended.kept = (
      stay_dropped (plain (λ _. R)) ended.kept.0,
      (
        stay_dropped
            (plain (λ _. G)) ended.kept.1.0,
        tt,
      ),
    ) in
    proved_at 𝓛 ended hs c 𝓜 𝓡 (
      Goes-blank 𝓛 0 (plain (λ _. R)) ended.kept.0 (λ κs x f. tt),
      (
        Goes-blank 𝓛 0 (plain (λ
            _. G)) ended.kept.1.0 (λ κs x f. tt),
        tt,
      ),
    ) #self fn (code.unfolded 𝓤 H 𝓜 𝓡 wired) (λ z are.
    let d = z.0.3.0 in let a = z.0.3.1.0 in let Post : Val → SProp 𝓤 = (walk_of 𝓛 ended hs c).post z in
    qed 𝓛 ((raw (alive 𝓛 ended.signature z.0.0 z.0.1) ⊛ ‵ (owns (types_at ended.signature.params z.0.0) z.0.3 z.0.4)) ∷
    raw (fact 𝓤 (IsSome d.value)) ∷ []) ∵ move ! (1 ∷ []) $
    heard ! (IsSome d.value) (λ full. let x = (some_of d.value full).0 in let ex = (some_of d.value full).1 in split !
    $ move ! (1 ∷ []) $ fsplit ! $ move ! (1 ∷ []) $ fsplit ! $
    -- [the allocator; nothing; the handle; what is alive]
    handle_tells (al T G LG g) ! a z.0.4.1.0 (λ hv eh fits. move ! (2 ∷ []) $
    held_out ! d z.0.4.0 x ex (λ b o ws.
    regoal ! (λ (us : List Val). prop (WpFn 𝓤 H 𝓣.C 𝓣.Λ fn us Post)) (λ i. ws i ++ (eh i ++ [])) refl $
    enter ! 𝓣.C 𝓣.Λ fn (alone (vptr b o) ∷ hv ∷ []) Post $
    alloc_all ! (λ l. pass_all ! refl ((tt, (tt, tt)), (fits, tt)) $
    sets ! (of_opd ! (get_in ! (fld ! refl (stop !)) (sub ! 0 refl (whole !)))) refl (tt, tt) $
    sets ! (of_opd ! (get ! refl)) refl (tt, tt) $
    sets ! (agg ! (and_then ! (get ! refl) (and_then ! (get ! refl) (no_more !)))) refl (loose_good T G LG g b o hv
    fits) $
    returns ! (look_at ! 0 refl) $ free_all ! refl $
    loose_in T G LG g ! b o hv a x $
    use0 𝓛 (raw (fact 𝓤 (d.value ≡ Some x))) (fact_i 𝓤 (d.value ≡ Some x) (emp 𝓤) ex) $ nothing ! $ nothing ! $ fjoin !
    $ nothing ! $ fjoin ! $
    -- [what is left; the fact; the box; nothing; alive]
    keep ! (4 ∷ 0 ∷ 2 ∷ 1 ∷ []) $ by ! (leaves 𝓛 ended hs c z (both (vptr b o) hv) (record {
      at = block_ptr b o;
      alloc
          = a;
      value = x;
    }) (tt, (tt, tt)) (tt, (tt, tt))))))))
