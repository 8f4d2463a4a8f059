-- Nodes with what was set for them, the channels between them, what a step makes of them, and what is told of it.
use Rattle.std.specs.Prelude.{◌≡◌, ℕ, zero, suc, List, [], ◌∷◌, ◌++◌, map, Bool, false, not, ◌==◌, ◌&&◌, ⊤}
use Rattle.std.specs.Prelude.{Option, Some, None, is_none, if◌then◌else◌}
use Rattle.ln_refusals.specs.declared.refusal.Refusal.TheVariants as refusal
use Rattle.ln_keys.specs.declared.keys.ChannelKeys.{Ghosts}
use Rattle.ln_keys.specs.declared.role.Role.TheVariants.{Funder, Fundee}
use Rattle.ln_keys.specs.Signer.{Signer}
use Rattle.ln_channel.specs.Summary.{summary}
use Rattle.ln_world_channels.specs.declared.step.Act.{Act}
use Rattle.ln_world_channels.specs.declared.step.End.{End}
use Rattle.ln_world_channels.specs.declared.step.Node.{Node}
use Rattle.ln_world_channels.specs.declared.step.Open.{Open}
use Rattle.ln_world_channels.specs.declared.step.RecordLeft.{RecordLeft}
use Rattle.ln_world_channels.specs.declared.step.Step.{Step}
use Rattle.ln_world_channels.specs.declared.step.Step.TheVariants as step
use Rattle.ln_world_channels.specs.declared.settings.Settings.{Settings}
use Rattle.ln_world_channels.specs.declared.settings.Setting.{Setting}
use Rattle.ln_world_channels.specs.declared.line.Line.{Line}
use Rattle.ln_world_channels.specs.declared.line.Line.TheVariants as line
use Rattle.ln_world_channels.specs.declared.line.EndLine.{EndLine}
use Rattle.ln_world_channels.specs.Settings.{defaults, may_bring}
use Rattle.ln_world_channels.specs.Both.{Move}
use Rattle.ln_world_channels.specs.WorldChannel.{WorldChannel, is_node, moved, opened_by, act_moves, disconnect_moves}
use Rattle.ln_world_channels.specs.WorldChannel.{restart_moves, up_moves, end_of, side_of, acted_lines, fallen_lines}
use Rattle.ln_world_channels.specs.WorldChannel.{met_lines, stop_moves, may_act, acted_unheard, halt_moves, has_halted}
use Rattle.ln_world_channels.specs.WorldChannel.{failed_save_moves}

pub record World (K : Type 0) : Type 0 where
  pub settings : List Setting  -- a node that isn't among them has the defaults
  pub channels : List (WorldChannel K)  -- in the order of opening

abbrev pub empty : {K : Type 0} → World K
empty = record { settings = []; channels = [] }

-- ---- what was set for nodes

abbrev pub settings_of : Node → List Setting → Settings
settings_of n [] = defaults
settings_of n (s ∷ ss) = if is_node s.node n then s.settings else settings_of n ss

-- it replaces what was set for the node, or joins what was set for others
abbrev pub with_settings : Node → Settings → List Setting → List Setting
with_settings n new [] = record { node = n; settings = new } ∷ []
with_settings n new (s ∷ ss) =
    if is_node s.node n then record { node = n; settings = new } ∷ ss else s ∷ with_settings n new ss

abbrev pub set_for : {K : Type 0} → Node → Settings → World K → World K
set_for n new w = record { settings = with_settings n new w.settings; channels = w.channels }

-- ---- channels by their numbers

abbrev pub channel : {K : Type 0} → ℕ → List (WorldChannel K) → Option (WorldChannel K)
channel n [] = None
channel n (c ∷ cs) = if c.number == n then Some c else channel n cs

-- each number stands once
abbrev pub AreOnce : {K : Type 0} → List (WorldChannel K) → Type 0
AreOnce [] = ⊤
AreOnce (c ∷ cs) = (channel c.number cs ≡ None) × AreOnce cs

abbrev pub changed_if : {K : Type 0} → ℕ → (WorldChannel K → WorldChannel K) → WorldChannel K → WorldChannel K
changed_if n f c = if c.number == n then f c else c

abbrev pub moved_if : {K : Type 0} → (K → Signer) → ℕ → (WorldChannel K → List Move) → WorldChannel K → WorldChannel K
moved_if signer n f c = changed_if n (moved signer f) c

-- each channel of this number moves so, and the others stay
abbrev pub moved_at : {K : Type 0} → (K → Signer) → ℕ → (WorldChannel K → List Move) → List (WorldChannel K)
    → List (WorldChannel K)
moved_at signer n f cs = map (moved_if signer n f) cs

abbrev pub at : {K : Type 0} → (K → Signer) → ℕ → (WorldChannel K → List Move) → World K → World K
at signer n f w = record { settings = w.settings; channels = moved_at signer n f w.channels }

-- every channel moves so
abbrev pub all_moved : {K : Type 0} → (K → Signer) → (WorldChannel K → List Move) → List (WorldChannel K)
    → List (WorldChannel K)
all_moved signer f cs = map (moved signer f) cs

abbrev pub everywhere : {K : Type 0} → (K → Signer) → (WorldChannel K → List Move) → World K → World K
everywhere signer f w = record { settings = w.settings; channels = all_moved signer f w.channels }

-- ---- a channel that is opened

-- no channel has its number, its ends are at two nodes, and what both bring fits
abbrev pub may_open : {K : Type 0} {k : Ghosts K} → Open K k → World K → Bool
may_open o w =
    not (is_node o.funder o.fundee) && (is_none (channel o.channel w.channels)
    && may_bring o.satoshis o.push (settings_of o.funder w.settings) (settings_of o.fundee w.settings))

abbrev pub joined : {K : Type 0} → WorldChannel K → World K → World K
joined c w = record { settings = w.settings; channels = w.channels ++ c ∷ [] }

abbrev pub opens : {K : Type 0} → (k : Ghosts K) → Open K k → World K → World K
opens k o w =
    if may_open o w
    then joined (opened_by k o (settings_of o.funder w.settings) (settings_of o.fundee w.settings)) w
    else w

-- ---- an act that may be done

-- whether the end is there, and can act so
abbrev pub may_act_there : {K : Type 0} → Node → Act → Option (WorldChannel K) → Bool
may_act_there n a None = false
may_act_there n a (Some c) = may_act n a c

abbrev pub may_be_done : {K : Type 0} → End → Act → List (WorldChannel K) → Bool
may_be_done e a cs = may_act_there e.node a (channel e.channel cs)

-- ---- an end that has no memory for its act, and halts

abbrev pub lacks_memory : {K : Type 0} → (K → Signer) → End → Act → World K → World K
lacks_memory signer e a w =
    if may_be_done e a w.channels then at signer e.channel (halt_moves e.node) w else w

-- whatever the act would have come to
abbrev pub memory_lines : {K : Type 0} → End → Act → World K → List Line
memory_lines e a w =
    if may_be_done e a w.channels then line.Refused e refusal.Memory ∷ [] else line.Idle ∷ []

-- ---- an end whose save fails, and which halts

abbrev pub fails_save : {K : Type 0} → (K → Signer) → End → Act → RecordLeft → World K → World K
fails_save signer e a left w =
    if may_be_done e a w.channels then at signer e.channel (failed_save_moves left e.node a) w else w

-- whatever the act comes to
abbrev pub failed_save_lines : {K : Type 0} → End → Act → World K → List Line
failed_save_lines e a w =
    if may_be_done e a w.channels then line.Refused e refusal.Store ∷ [] else line.Idle ∷ []

-- ---- an end that has halted, and comes back from its record alone

abbrev pub has_halted_there : {K : Type 0} → Node → Option (WorldChannel K) → Bool
has_halted_there n None = false
has_halted_there n (Some c) = has_halted n c

-- whether the end is there, and has halted
abbrev pub may_reload : {K : Type 0} → End → List (WorldChannel K) → Bool
may_reload e cs = has_halted_there e.node (channel e.channel cs)

abbrev pub reloads : {K : Type 0} → (K → Signer) → End → World K → World K
reloads signer e w = if may_reload e w.channels then at signer e.channel (restart_moves e.node) w else w

abbrev pub reload_lines : {K : Type 0} → End → World K → List Line
reload_lines e w = if may_reload e w.channels then [] else line.Idle ∷ []

-- ---- a node that stops round an act of one of its ends

-- as the act leaves its end, whoever gets what it hands out
abbrev pub unheard_at : {K : Type 0} → (K → Signer) → End → Act → List (WorldChannel K) → List (WorldChannel K)
unheard_at signer e a cs = map (changed_if e.channel (acted_unheard signer e.node a)) cs

-- the node stops before the act, and the act is never begun
abbrev pub stops_before : {K : Type 0} → (K → Signer) → End → Act → World K → World K
stops_before signer e a w =
    if may_be_done e a w.channels then everywhere signer (restart_moves e.node) w else w

-- the node stops after the act's save
abbrev pub stops_after : {K : Type 0} → (K → Signer) → End → Act → World K → World K
stops_after signer e a w = if may_be_done e a w.channels then everywhere signer (stop_moves e a) w else w

abbrev pub stop_lines : {K : Type 0} → End → Act → World K → List Line
stop_lines e a w = if may_be_done e a w.channels then line.Restarts e.node ∷ [] else line.Idle ∷ []

-- ---- what a step makes of a world

abbrev pub happens : {K : Type 0} → (k : Ghosts K) → Step K k → World K → World K
happens k (step.Fees n fees) w = set_for n (record (settings_of n w.settings) { fees = fees }) w
happens k (step.Limits n limits) w = set_for n (record (settings_of n w.settings) { limits = limits }) w
happens k (step.Open o) w = opens k o w
happens k (step.Do e a) w = at k.signer e.channel (act_moves e.node a) w
happens k (step.Down e) w = at k.signer e.channel (disconnect_moves e.node) w
happens k (step.NoMemory e a) w = lacks_memory k.signer e a w
happens k (step.SaveFails e a left) w = fails_save k.signer e a left w
happens k (step.Restart n) w = everywhere k.signer (restart_moves n) w
happens k (step.Reload e) w = reloads k.signer e w
happens k (step.StopBefore e a) w = stops_before k.signer e a w
happens k (step.StopAfter e a) w = stops_after k.signer e a w
happens k (step.Up n) w = at k.signer n up_moves w

abbrev pub run : {K : Type 0} → (k : Ghosts K) → List (Step K k) → World K → World K
run k [] w = w
run k (s ∷ ss) w = run k ss (happens k s w)

-- ---- what is told of a step, in the world before it

-- of a channel, where there is one
abbrev pub if_there : {K : Type 0} → (WorldChannel K → List Line) → Option (WorldChannel K) → List Line
if_there f None = line.Idle ∷ []
if_there f (Some c) = f c

abbrev pub opening_lines : {K : Type 0} {k : Ghosts K} → Open K k → World K → List Line
opening_lines o w = if may_open o w then line.Open o.channel ∷ [] else line.Idle ∷ []

abbrev pub step_lines : {K : Type 0} → (k : Ghosts K) → Step K k → World K → List Line
step_lines k (step.Fees n fees) w = []
step_lines k (step.Limits n limits) w = []
step_lines k (step.Open o) w = opening_lines o w
step_lines k (step.Do e a) w =
    if_there (λ c. acted_lines k.signer a c (side_of e.node c)) (channel e.channel w.channels)
step_lines k (step.Down e) w = if_there (λ c. fallen_lines (side_of e.node c)) (channel e.channel w.channels)
step_lines k (step.NoMemory e a) w = memory_lines e a w
step_lines k (step.SaveFails e a left) w = failed_save_lines e a w
step_lines k (step.Restart n) w = []
step_lines k (step.Reload e) w = reload_lines e w
step_lines k (step.StopBefore e a) w = stop_lines e a w
step_lines k (step.StopAfter e a) w = stop_lines e a w
step_lines k (step.Up n) w = if_there (met_lines k.signer) (channel n w.channels)

abbrev pub run_lines : {K : Type 0} → (k : Ghosts K) → List (Step K k) → World K → List Line
run_lines k [] w = []
run_lines k (s ∷ ss) w = step_lines k s w ++ run_lines k ss (happens k s w)

-- ---- where the ends stand

-- the funder's end, and then the fundee's
abbrev pub lines_of_ends : {K : Type 0} → Option (WorldChannel K) → List EndLine
lines_of_ends None = []
lines_of_ends (Some c) =
    record { end = end_of Funder c; summary = summary c.both.x.link }
    ∷ record { end = end_of Fundee c; summary = summary c.both.y.link }
    ∷ []

-- of the channels with a number below n, in the order of their numbers
unfoldable pub end_lines_below : {K : Type 0} → ℕ → List (WorldChannel K) → List EndLine
end_lines_below zero cs = []
end_lines_below (suc n) cs = end_lines_below n cs ++ lines_of_ends (channel n cs)

abbrev pub end_lines : {K : Type 0} → World K → List EndLine
end_lines w = end_lines_below 256 w.channels
