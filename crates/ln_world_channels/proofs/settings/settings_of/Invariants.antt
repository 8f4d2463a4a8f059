use Rattle.std.proofs.Common.{◌≡◌, drop}
use Rattle.ln_world_channels.specs.World.{settings_of}
use Rattle.ln_world_channels.proofs.settings.settings_of.Given as goal

-- what is left has it as well
abbrev pub invariant-loop-setting : goal.invariant-loop-setting
invariant-loop-setting l = settings_of l.node (drop l.setting-index l.all) ≡ settings_of l.node l.all
