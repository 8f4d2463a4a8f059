-- What was set for a node, where it stands; a channel that joins; where the ends stand, number by number.
use Rattle.std.proofs.Common.{◌≡◌, ℕ, suc, ◌+◌, ◌≤◌, List, [], ◌∷◌, ◌++◌, length, set}
use Rattle.std.proofs.Common.{refl, sym, ap, ◌∙◌, arith, Bool, true, false, cond, Some, None}
use Rattle.std.proofs.Common.{position, ltb-false, nat_lt, not}
use Rattle.std.specs.List.{position_or_len}
use Rattle.ln_keys.specs.declared.keys.ChannelKeys.{Ghosts}
use Rattle.ln_world_channels.specs.declared.line.EndLine.{EndLine}
use Rattle.ln_world_channels.specs.declared.step.Node.{Node}
use Rattle.ln_world_channels.specs.declared.step.Open.{Open}
use Rattle.ln_world_channels.specs.declared.settings.Settings.{Settings}
use Rattle.ln_world_channels.specs.declared.settings.Setting.{Setting}
use Rattle.ln_world_channels.specs.WorldChannel.{WorldChannel, is_node, opened_by}
use Rattle.ln_world_channels.specs.World.{World, settings_of, with_settings, channel, may_open, joined, opens}
use Rattle.ln_world_channels.specs.World.{end_lines_below, lines_of_ends}
use Rattle.ln_world_channels.proofs.Places.{at_first, lacks}

-- ---- what is set for a node

abbrev setting : Node → Settings → Setting
setting n new = record { node = n; settings = new }

pub replaced : (n : Node) (new : Settings) (ss : List Setting) (i : ℕ)
    → Some i ≡ position (λ s. is_node s.node n) ss → set ss i (setting n new) ≡ with_settings n new ss
replaced n new ss i e =
    at_first (λ s. is_node s.node n) (λ l k. set l k (setting n new) ≡ with_settings n new l)
    (λ s l h. sym (ap (λ t. cond t (setting n new ∷ l) (s ∷ with_settings n new l)) h))
    (λ s l k h same. ap (λ t. s ∷ t) same
    ∙ sym (ap (λ t. cond t (setting n new ∷ l) (s ∷ with_settings n new l)) h))
    ss i (setting n new) e

no_room : (t : Bool) (i k : ℕ) → suc k ≤ cond (not t) (1 + i) 0 → (t ≡ false) × (k ≤ i)
no_room true i k h = absurd (omega (arith, h))
no_room false i k h = (refl, omega (arith, h))

past_all : (n : Node) (new : Settings) (ss : List Setting)
    → length ss ≤ position_or_len (λ s. is_node s.node n) ss → ss ++ setting n new ∷ [] ≡ with_settings n new ss
past_all n new [] h = refl
past_all n new (s ∷ ss) h =
    let g = no_room (is_node s.node n) (position_or_len (λ s. is_node s.node n) ss) (length ss) h in
    ap (λ t. s ∷ t) (past_all n new ss g.1)
    ∙ sym (ap (λ t. cond t (setting n new ∷ ss) (s ∷ with_settings n new ss)) g.0)

pub appended : (n : Node) (new : Settings) (ss : List Setting)
    → position (λ s. is_node s.node n) ss ≡ None → ss ++ setting n new ∷ [] ≡ with_settings n new ss
appended n new ss e =
    let i = position_or_len (λ (s : Setting). is_node s.node n) ss in
    past_all n new ss (ltb-false i (length ss) (lacks (nat_lt i (length ss)) i e))

-- ---- a channel that joins

pub has_joined : {K : Type 0} (k : Ghosts K) (o : Open K k) (w before : World K) (cs : List (WorldChannel K))
    (funder fundee : Settings) → before ≡ w → may_open o w ≡ true → funder ≡ settings_of o.funder w.settings
    → fundee ≡ settings_of o.fundee w.settings → cs ≡ before.channels ++ opened_by k o funder fundee ∷ []
    → ◌≡◌ {A = World K} (record { settings = before.settings; channels = cs }) (opens k o w)
has_joined k o w before cs funder fundee same may x y h =
    let a = settings_of o.funder w.settings in
    let b = settings_of o.fundee w.settings in
    ap (λ l. record { settings = before.settings; channels = l })
    (h ∙ ap (λ s. before.channels ++ opened_by k o s fundee ∷ []) x
    ∙ ap (λ s. before.channels ++ opened_by k o a s ∷ []) y)
    ∙ ap (joined (opened_by k o a b)) same
    ∙ sym (ap (λ t. cond t (joined (opened_by k o a b) w) w) may)

-- ---- where the ends stand

pub none_below : {K : Type 0} (cs : List (WorldChannel K)) → [] ≡ end_lines_below 0 cs
unfolding end_lines_below
none_below cs = refl

pub one_below : {K : Type 0} (n : ℕ) (cs : List (WorldChannel K)) (ls ms : List EndLine) → ls ≡ end_lines_below n cs
    → ms ≡ ls ++ lines_of_ends (channel n cs) → ms ≡ end_lines_below (suc n) cs
unfolding end_lines_below
one_below n cs ls ms e h = h ∙ ap (λ l. l ++ lines_of_ends (channel n cs)) e
