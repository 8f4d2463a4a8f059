use Rattle.std.proofs.Common.{◌≡◌, length}
use Rattle.std.specs.Vec.Iter.{into_iter_items, into_iter_len}
use Rattle.ln_refusals.specs.declared.refusal.Refusal.{Refusal}
use Rattle.ln_manager_channels.specs.Loading.{SeatsAll, LacksSome}
use Rattle.ln_manager_channels.proofs.parts.ChannelParts.load_each.Given as goal

-- what becomes of the rest comes after what has become of those before; the book hears nothing of it
abbrev pub invariant-loop-each : goal.invariant-loop-each
invariant-loop-each g l =
    ((q : _) → SeatsAll (into_iter_items l.each-iterator)
    (record { links = l.self.links.items; records = l.self.records.items; numbers = l.self.numbers }) q
    → SeatsAll (into_iter_items l.initial.each-iterator)
    (record { links = l.fn.self.links.items; records = l.fn.self.records.items; numbers = l.fn.self.numbers }) q)
    × ((e : Refusal) → LacksSome (into_iter_items l.each-iterator)
    (record { links = l.self.links.items; records = l.self.records.items; numbers = l.self.numbers }) e
    → LacksSome (into_iter_items l.initial.each-iterator)
    (record { links = l.fn.self.links.items; records = l.fn.self.records.items; numbers = l.fn.self.numbers }) e)
    × (l.self.book ≡ l.fn.self.book)
    × (into_iter_len l.each-iterator ≡ length (into_iter_items l.each-iterator))
