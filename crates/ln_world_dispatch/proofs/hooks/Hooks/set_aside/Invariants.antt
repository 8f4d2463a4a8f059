use Rattle.std.proofs.Common.{◌≡◌, length, map, take}
use Rattle.ln_world_channels.specs.WorldChannel.{is_node}
use Rattle.ln_world_dispatch.specs.Slots.{AreAside}
use Rattle.ln_world_dispatch.specs.Kept.{dispatchers_of}
use Rattle.ln_world_dispatch.proofs.hooks.Hooks.set_aside.Given as goal

-- those of the first dispatchers are set aside
abbrev pub invariant-loop-i : goal.invariant-loop-i
invariant-loop-i g l =
    AreAside g.H.Serve.calls (λ d. is_node d.end.node l.node) (take l.i (dispatchers_of l.dispatchers))
    (map (λ t. (t.now.items, map (λ p. p.items) t.past.items)) l.fn.self.tables.items)
    (map (λ t. (t.now.items, map (λ p. p.items) t.past.items)) l.self.tables.items)
    × (length l.self.tables.items ≡ length l.fn.self.tables.items)
    × (l.self.offered.items ≡ l.fn.self.offered.items)
