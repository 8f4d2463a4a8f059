-- Steps in which nobody but a node's book asks its ends for what is the book's.
use Rattle.std.specs.Prelude.{◌≡◌, ◌<◌, List, true, false}
use Rattle.ln_keys.specs.declared.keys.ChannelKeys.{Ghosts}
use Rattle.ln_hooks.specs.declared.verdict.Verdict.{Verdict}
use Rattle.ln_book.specs.Alone.{is_books}
use Rattle.ln_world_channels.specs.declared.step.Node.{Node}
use Rattle.ln_world_channels.specs.declared.step.End.{End}
use Rattle.ln_world_channels.specs.WorldChannel.{is_node}
use Rattle.ln_world_channels.specs.Promises.{Each}
use Rattle.ln_world.specs.declared.step.Act.{Act}
use Rattle.ln_world.specs.declared.step.Act.TheVariants as act
use Rattle.ln_world.specs.declared.step.Step.{Step}
use Rattle.ln_world.specs.declared.step.Step.TheVariants as step

-- what an end of the node is given is none of these
abbrev pub OfBook : Node → End → Act → Type 0
OfBook n e (act.Send c) = is_node e.node n ≡ true → is_books c ≡ false
OfBook n e act.Deliver = Unit {0}
OfBook n e act.Take = Unit {0}
OfBook n e act.Decide = Unit {0}
OfBook n e (act.Resume number verdict) = Unit {0}

-- Nobody but the node's book asks its ends for these. A channel's number has eight bits, as in code.
abbrev pub IsOfBook : {K : Type 0} → (k : Ghosts K) → Node → Step K k → Type 0
IsOfBook k n (step.Fees m fees) = Unit {0}
IsOfBook k n (step.Limits m limits) = Unit {0}
IsOfBook k n (step.Policy m policy) = Unit {0}
IsOfBook k n (step.Height m height) = Unit {0}
IsOfBook k n (step.Expect m invoice) = Unit {0}
IsOfBook k n (step.Open o) = o.channel < 256
IsOfBook k n (step.Do e a) = OfBook n e a
IsOfBook k n (step.Down e) = Unit {0}
IsOfBook k n (step.NoMemory e a) = Unit {0}
IsOfBook k n (step.Restart m) = Unit {0}
IsOfBook k n (step.Reload e) = Unit {0}
IsOfBook k n (step.StopBefore e a) = Unit {0}
IsOfBook k n (step.StopAfter e a) = OfBook n e a
IsOfBook k n (step.Up number) = Unit {0}
IsOfBook k n (step.Dispatch e) = Unit {0}
IsOfBook k n (step.Register e hook) = Unit {0}

abbrev pub AreOfBook : {K : Type 0} → (k : Ghosts K) → Node → List (Step K k × Verdict) → Type 0
AreOfBook k n ss = Each (λ s. IsOfBook k n s.0) ss
