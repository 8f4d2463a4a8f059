use Rattle.std.proofs.Common.{ap, ◌∙◌}
use Rattle.std.specs.FinMap as map
use Rattle.ln_store.proofs.memory_store.MemoryStore.put.Goals as goal
use Rattle.ln_store.proofs.Maps.{put}

pub returns-clause-replaces_the_record : goal.returns-clause-replaces_the_record
returns-clause-replaces_the_record c =
    put c.self.inside.records.entries c.insert.new.self.entries c.args.id c.args.bytes
    c.in_ok-insert.ensures.updates.0
    ∙ ap (λ m. map.insert m c.args.id c.args.bytes) c.self.view_is
