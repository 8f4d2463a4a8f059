use Rattle.std.proofs.Common.{drop}
use Rattle.ln_sqlite.proofs.Within.{GoesOn}
use Rattle.ln_sqlite.proofs.together.put_all.Given as goal

-- the transaction is under way, and the jobs that are left come to what all come to
abbrev pub invariant-loop-job : goal.invariant-loop-job
invariant-loop-job g l = GoesOn g.S.Store l.fn.connection l.jobs l.connection (drop l.job-index l.jobs)
