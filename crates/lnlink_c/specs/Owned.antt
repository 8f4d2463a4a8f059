-- What a handle owns: the block of its object, or nothing, and then its pointer is null. The right to free a block of
-- the heap is the same at each `Global`, which has no bytes.
use Rattle.std.specs.Prelude.{Option, Some, None}
use mir.Syntax.{Ty}
use base.Fml.{Fml, feq}
use denote.RattleType.{RattleType}
use denote.RawPtr.{Ptr, null_ptr}
use Rattle.std.specs.Box.Ownership.{box_owns}
use Rattle.std.specs.declared.alloc.Global.{Global}
use Rattle.std.specs.contracts.impls.GlobalAllocator.TheImpl.{ghosts}

abbrev pub heap : Global
heap = record { memory = record { seal = tt } }

abbrev pub frees : Ty → Ptr → Fml
frees = ghosts.dealloc_token heap

abbrev pub held_owns : (R : RattleType) → Ptr → Option R.Denot → Fml
held_owns R p (Some x) = box_owns frees R p x
held_owns R p None = feq Ptr p null_ptr
