-- Which moves of a channel the steps of a world are, and what they come to, from its opening on.
use Rattle.std.specs.Prelude.{ℕ, List, [], ◌∷◌, ◌++◌, Option, Some, None, ◌==◌, if◌then◌else◌}
use Rattle.ln_keys.specs.declared.keys.ChannelKeys.{Ghosts}
use Rattle.ln_keys.specs.Signer.{Signer}
use Rattle.ln_world_channels.specs.declared.step.Step.{Step}
use Rattle.ln_world_channels.specs.declared.step.Step.TheVariants as step
use Rattle.ln_world_channels.specs.Settings.{channel_id_of}
use Rattle.ln_world_channels.specs.Both.{Both, Move, moves}
use Rattle.ln_world_channels.specs.WorldChannel.{WorldChannel, act_moves, disconnect_moves, halt_moves, restart_moves}
use Rattle.ln_world_channels.specs.WorldChannel.{stop_moves, failed_save_moves}
use Rattle.ln_world_channels.specs.WorldChannel.{up_moves}
use Rattle.ln_world_channels.specs.World.{World, happens, may_be_done, may_reload}

-- those of a channel that is there, by the world before the step
abbrev pub step_moves : {K : Type 0} → (k : Ghosts K) → Step K k → World K → WorldChannel K → List Move
step_moves k (step.Fees n fees) w c = []
step_moves k (step.Limits n limits) w c = []
step_moves k (step.Open o) w c = []
step_moves k (step.Do e a) w c = if c.number == e.channel then act_moves e.node a c else []
step_moves k (step.Down e) w c = if c.number == e.channel then disconnect_moves e.node c else []
step_moves k (step.NoMemory e a) w c =
    if may_be_done e a w.channels then (if c.number == e.channel then halt_moves e.node c else []) else []
step_moves k (step.SaveFails e a left) w c =
    if may_be_done e a w.channels then (if c.number == e.channel then failed_save_moves left e.node a c else []) else []
step_moves k (step.Restart n) w c = restart_moves n c
step_moves k (step.Reload e) w c =
    if may_reload e w.channels then (if c.number == e.channel then restart_moves e.node c else []) else []
step_moves k (step.StopBefore e a) w c = if may_be_done e a w.channels then restart_moves e.node c else []
step_moves k (step.StopAfter e a) w c = if may_be_done e a w.channels then stop_moves e a c else []
step_moves k (step.Up n) w c = if c.number == n then up_moves c else []

-- what comes of each move of a channel, in the order of the moves
abbrev pub along : {K A : Type 0} → (K → Signer) → List ℕ → (Move → Both K → List A) → List Move → Both K → List A
along signer id f [] p = []
along signer id f (m ∷ ms) p = f m p ++ along signer id f ms (moves signer id m p)

-- what comes of a step in the channel with this number, by its id
abbrev pub in_channel : {K A : Type 0} → (k : Ghosts K) → (List ℕ → Move → Both K → List A) → Step K k → World K
    → Option (WorldChannel K) → List A
in_channel k f s w None = []
in_channel k f s w (Some c) =
    along k.signer (channel_id_of c.number) (f (channel_id_of c.number)) (step_moves k s w c) c.both

-- what comes of each step, in the order of the steps
abbrev pub over : {K A : Type 0} → (k : Ghosts K) → (Step K k → World K → List A) → List (Step K k) → World K → List A
over k f [] w = []
over k f (s ∷ ss) w = f s w ++ over k f ss (happens k s w)
