-- What the records of several stores make of those that there are.
use Rattle.std.specs.Prelude.{List, [], ◌∷◌}
use Rattle.std.specs.FinMap as map
use Rattle.ln_store.specs.Store.{Records}
use Rattle.ln_sqlite.specs.declared.together.Job.{Job}

-- each in turn
abbrev pub replaced_all : Records → List Job → Records
replaced_all records [] = records
replaced_all records (job ∷ jobs) = replaced_all (map.insert records job.id job.bytes) jobs
