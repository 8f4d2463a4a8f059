use Rattle.std.specs.Prelude.{◌≡◌, ◌++◌, drop}
use Rattle.ln_manager_channels.specs.Books.{snapshots_of}
use Rattle.ln_manager_channels.proofs.parts.ChannelParts.snapshots.Given as goal

-- what is left completes what was read
abbrev pub invariant-loop-link : goal.invariant-loop-link
invariant-loop-link g l =
    l.snapshots.items ++ snapshots_of (drop l.link-index l.link-items) ≡ snapshots_of l.fn.self.links.items
