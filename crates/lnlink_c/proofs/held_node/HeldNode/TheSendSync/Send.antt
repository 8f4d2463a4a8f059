-- A handle may go to another thread, as its object may.
use Rattle.std.specs.Prelude.{Option, Some, None}
use base.Shift.{Keyless}
use base.Fraction.{full_share}
use denote.RattleType.{RattleType}
use denote.RawPtr.{Ptr, block_ptr, null_ptr, lies_at}
use denote.Param.Send.{IsSend, part_keyless, owning_send, sendable}
use Rattle.std.proofs.Crossing.{frees}
use Rattle.lnlink_c.specs.NodeObject.{Object, object as T}
use Rattle.ln_host_node.proofs.node.HostNode.TheSendSync.{the_send}
use Rattle.lnlink_c.specs.Owned.{held_owns, heap}
use Rattle.lnlink_c.specs.contracts.held_node.HeldNode.{the_row, the_type}

lies : (R : RattleType) → IsSend R → (p : Ptr) (x : R.Denot) → Keyless (lies_at R full_share p x)
lies R s (block_ptr b o) x = part_keyless R s full_share x b o
lies R s null_ptr x = tt

owned : (p : Ptr) (x : Option Object) → Keyless (held_owns T p x)
owned p (Some x) = (lies T the_send p x, frees.frees heap _ p)
owned p None = tt

pub send : IsSend the_row
send = owning_send the_type (search sendable, tt) (λ d. owned d.at d.value) (λ k x vs. tt)
