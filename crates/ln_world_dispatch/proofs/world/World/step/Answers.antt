use Rattle.ln_world_dispatch.proofs.world.World.step.Goals as goal

pub returns-in-Fees-clause-stepped : goal.returns-in-Fees-clause-stepped
returns-in-Fees-clause-stepped g c = rw c.in-Fees.is c.pass.ensures.stepped

pub returns-in-Limits-clause-stepped : goal.returns-in-Limits-clause-stepped
returns-in-Limits-clause-stepped g c = rw c.in-Limits.is c.pass-in-Limits.ensures.stepped

pub returns-in-Open-clause-stepped : goal.returns-in-Open-clause-stepped
returns-in-Open-clause-stepped g c = rw c.in-Open.is c.open.ensures.stepped

pub returns-in-Do-clause-stepped : goal.returns-in-Do-clause-stepped
returns-in-Do-clause-stepped g c = rw c.in-Do.is c.pass-in-Do.ensures.stepped

pub returns-in-Down-clause-stepped : goal.returns-in-Down-clause-stepped
returns-in-Down-clause-stepped g c = rw c.in-Down.is c.pass-in-Down.ensures.stepped

pub returns-in-NoMemory-clause-stepped : goal.returns-in-NoMemory-clause-stepped
returns-in-NoMemory-clause-stepped g c = rw c.in-NoMemory.is c.pass-in-NoMemory.ensures.stepped

pub returns-in-SaveFails-clause-stepped : goal.returns-in-SaveFails-clause-stepped
returns-in-SaveFails-clause-stepped g c = rw c.in-SaveFails.is c.pass-in-SaveFails.ensures.stepped

pub returns-in-Reload-clause-stepped : goal.returns-in-Reload-clause-stepped
returns-in-Reload-clause-stepped g c = rw c.in-Reload.is c.pass-in-Reload.ensures.stepped

pub returns-in-Restart-clause-stepped : goal.returns-in-Restart-clause-stepped
returns-in-Restart-clause-stepped g c = rw c.in-Restart.is c.restart.ensures.stepped

pub returns-in-StopBefore-clause-stepped : goal.returns-in-StopBefore-clause-stepped
returns-in-StopBefore-clause-stepped g c = rw c.in-StopBefore.is c.stop_before.ensures.stepped

pub returns-in-StopAfter-clause-stepped : goal.returns-in-StopAfter-clause-stepped
returns-in-StopAfter-clause-stepped g c = rw c.in-StopAfter.is c.stop_after.ensures.stepped

pub returns-in-Up-clause-stepped : goal.returns-in-Up-clause-stepped
returns-in-Up-clause-stepped g c = rw c.in-Up.is c.pass-in-Up.ensures.stepped

pub returns-in-Dispatch-clause-stepped : goal.returns-in-Dispatch-clause-stepped
returns-in-Dispatch-clause-stepped g c = rw c.in-Dispatch.is c.dispatch.ensures.stepped

pub returns-in-Register-clause-stepped : goal.returns-in-Register-clause-stepped
returns-in-Register-clause-stepped g c = rw c.in-Register.is c.register.ensures.stepped
