-- What holds of the step that any words ask for holds of each step of a script.
use Rattle.std.proofs.Common.{◌≡◌, ℕ, ◌+◌, List, [], ◌∷◌, ◌++◌, Bool, true, false, ◌&&◌, cond, codes, Option, Some}
use Rattle.std.proofs.Common.{None, Result, Ok, Err, nat_le, refl, subst}
use Rattle.std.specs.Str.{bytes_eq}
use Rattle.ln_keys.specs.declared.toy_keys.ToyKeys.{ToyKeys}
use Rattle.ln_bytes.specs.declared.short_id.ShortId.{ShortId}
use Rattle.ln_channel.specs.declared.command.Command.TheVariants as command
use Rattle.ln_world_channels.specs.declared.step.End.{End}
use Rattle.ln_world_channels.specs.declared.step.Node.{Node}
use Rattle.ln_world_channels.specs.declared.step.Open.{Open}
use Rattle.ln_world.specs.declared.step.Act.{Act}
use Rattle.ln_world.specs.declared.step.Act.TheVariants as act
use Rattle.ln_world.specs.declared.step.Step.TheVariants as step
use Rattle.ln_world_channels.specs.Promises.{Each}
use Rattle.ln_hooks.specs.declared.verdict.Verdict.{Verdict}
use Rattle.ln_script.specs.Word.{◌>>=◌, decimal_at, number_at, node_at, end_at, short_id_at}
use Rattle.ln_script.specs.Keys.{toy}
use Rattle.ln_script.specs.Command.{command_at}
use Rattle.ln_script.specs.Step.{ToyStep, fees_if, fees_at, limits_at, fees_line, limits_line, setting_at, set_line}
use Rattle.ln_script.specs.Step.{opening_at, open_line, up_line, down_line, restart_line, reload_line, end_line}
use Rattle.ln_script.specs.Step.{command_line}
use Rattle.ln_script.specs.declared.step.Doing.{Doing}
use Rattle.ln_script.specs.declared.step.Round.{Round}
use Rattle.ln_script.specs.declared.step.Round.TheVariants as round
use Rattle.ln_script.specs.Step.{policy_at, policy_line, height_line, expect_at, expect_line}
use Rattle.ln_script.specs.Step.{dispatch_line, register_line, other_step_at}
use Rattle.ln_script.specs.Step.{said_at, resume_at, resume_line}
use Rattle.ln_script.specs.Step.{act_line, do_line, round_step, round_line}
use Rattle.ln_script.specs.Step.{step_at, ready_steps, ready_line, one_step, word_line, steps_at}
use Rattle.ln_script.specs.Step.{numbered}
use Rattle.ln_script.specs.Hook.{hooked_at}
use Rattle.ln_script.specs.Script.{lines, words, is_skipped, line_at, behind, line_then, steps_from, with_places}
use Rattle.ln_script.specs.Script.{script_at}

-- ---- what holds of an answer, where there is one

abbrev pub Has : {A : Type 0} → (A → Type 0) → Option A → Type 0
Has P None = Unit {0}
Has P (Some x) = P x

pub then : {A B : Type 0} (P : B → Type 0) (o : Option A) (f : A → Option B) → ((x : A) → Has P (f x))
    → Has P (o >>= f)
then P None f h = tt
then P (Some x) f h = h x

-- the same, where something holds of the first answer
pub then_of : {A B : Type 0} (Q : A → Type 0) (P : B → Type 0) (o : Option A) (f : A → Option B) → Has Q o
    → ((x : A) → Q x → Has P (f x)) → Has P (o >>= f)
then_of Q P None f q h = tt
then_of Q P (Some x) f q h = h x q

pub either : {A : Type 0} (P : A → Type 0) (b : Bool) (x y : Option A) → Has P x → Has P y → Has P (cond b x y)
either P true x y h k = h
either P false x y h k = k

pub where_so : {A : Type 0} (P : A → Type 0) (b : Bool) (x y : Option A) → (b ≡ true → Has P x) → Has P y
    → Has P (cond b x y)
where_so P true x y h k = h refl
where_so P false x y h k = k

-- an answer that is given where a test passes, and one that is given where it fails
pub if_true : {A : Type 0} (P : A → Type 0) (b : Bool) (x : A) (y : Option A) → (b ≡ true → P x) → Has P y
    → Has P (cond b (Some x) y)
if_true P true x y h k = h refl
if_true P false x y h k = k

pub if_false : {A : Type 0} (P : A → Type 0) (b : Bool) (x : A) → (b ≡ false → P x) → Has P (cond b None (Some x))
if_false P true x h = tt
if_false P false x h = h refl

-- ---- what is to be shown of each kind of step

-- it is done, its end has no memory for it, or a node stops round it
abbrev pub RoundAct : (ToyStep → Type 0) → End → Act → Type 0
RoundAct P e a = P (step.Do e a) × (P (step.StopBefore e a) × (P (step.StopAfter e a) × P (step.NoMemory e a)))

pub record IsOfEachKind (P : ToyStep → Type 0) : Type 0 where
  pub fees : (node : Node) (f l m : List ℕ) → Has P (fees_at node f l m)
  pub limits : (node : Node) (m a i r : List ℕ) → Has P (limits_at node m a i r)
  pub opens : (o : Open ToyKeys toy) → P (step.Open o)
  pub up : (channel : ℕ) → P (step.Up channel)
  pub down : (end : End) → P (step.Down end)
  pub restarts : (node : Node) → P (step.Restart node)
  pub reloads : (end : End) → P (step.Reload end)
  pub policies : (node : Node) (b p d : List ℕ) → Has P (policy_at node b p d)
  pub heights : (node : Node) (h : List ℕ)
      → Has P (number_at 400000000 h >>= (λ height. let it : Option ToyStep = Some (step.Height node height) in it))
  pub expects : (x n a : List ℕ) → Has P (expect_at x n a)
  pub dispatches : (end : End) → P (step.Dispatch end)
  pub delivers : (end : End) → RoundAct P end act.Deliver
  pub takes : (end : End) → RoundAct P end act.Take
  pub decides : (end : End) → RoundAct P end act.Decide
  pub resumes : (end : End) (number : ℕ) (said : Verdict) → RoundAct P end (act.Resume number said)
  pub confirms : (end : End) (id : ShortId) → P (step.Do end (act.Send (command.Confirm id)))
  pub commands : (end : End) (w : List ℕ) (ws : List (List ℕ))
      → Has (λ c. RoundAct P end (act.Send c)) (command_at end.node w ws)

-- fees that are in order are what a node sets
pub if_in_order : (P : ToyStep → Type 0) (node : Node) (first least most : ℕ)
    → P (step.Fees node (record { first = first; least = least; greatest = most }))
    → Has P (fees_if node first least most)
if_in_order P node first least most h =
    either P (nat_le least first && nat_le first most)
    (Some (step.Fees node (record { first = first; least = least; greatest = most }))) None h tt

module _ (P : ToyStep → Type 0) (kinds : IsOfEachKind P) where
  -- ---- steps

  fees_lines : (node : Node) (ws : List (List ℕ)) → Has P (fees_line node ws)
  fees_lines node [] = tt
  fees_lines node (f ∷ []) = tt
  fees_lines node (f ∷ l ∷ []) = tt
  fees_lines node (f ∷ l ∷ m ∷ []) = kinds.fees node f l m
  fees_lines node (f ∷ l ∷ m ∷ w ∷ ws) = tt

  limits_lines : (node : Node) (ws : List (List ℕ)) → Has P (limits_line node ws)
  limits_lines node [] = tt
  limits_lines node (m ∷ []) = tt
  limits_lines node (m ∷ a ∷ []) = tt
  limits_lines node (m ∷ a ∷ i ∷ []) = tt
  limits_lines node (m ∷ a ∷ i ∷ r ∷ []) = kinds.limits node m a i r
  limits_lines node (m ∷ a ∷ i ∷ r ∷ w ∷ ws) = tt

  policy_lines : (node : Node) (ws : List (List ℕ)) → Has P (policy_line node ws)
  policy_lines node [] = tt
  policy_lines node (b ∷ []) = tt
  policy_lines node (b ∷ p ∷ []) = tt
  policy_lines node (b ∷ p ∷ d ∷ []) = kinds.policies node b p d
  policy_lines node (b ∷ p ∷ d ∷ w ∷ ws) = tt

  settings : (node : Node) (w : List ℕ) (ws : List (List ℕ)) → Has P (setting_at node w ws)
  settings node w ws =
      either P (bytes_eq w (codes "fees")) _ _ (fees_lines node ws)
      (either P (bytes_eq w (codes "limits")) _ _ (limits_lines node ws)
      (either P (bytes_eq w (codes "policy")) _ None (policy_lines node ws) tt))

  set_lines : (ws : List (List ℕ)) → Has P (set_line ws)
  set_lines [] = tt
  set_lines (x ∷ []) = tt
  set_lines (x ∷ w ∷ ws) = then P (node_at x) _ (λ node. settings node w ws)

  height_lines : (ws : List (List ℕ)) → Has P (height_line ws)
  height_lines [] = tt
  height_lines (x ∷ []) = tt
  height_lines (x ∷ h ∷ []) = then P (node_at x) _ (λ node. kinds.heights node h)
  height_lines (x ∷ h ∷ w ∷ ws) = tt

  expect_lines : (ws : List (List ℕ)) → Has P (expect_line ws)
  expect_lines [] = tt
  expect_lines (x ∷ []) = tt
  expect_lines (x ∷ n ∷ []) = tt
  expect_lines (x ∷ n ∷ a ∷ []) = kinds.expects x n a
  expect_lines (x ∷ n ∷ a ∷ w ∷ ws) = tt

  open_lines : (ws : List (List ℕ)) → Has P (open_line ws)
  open_lines [] = tt
  open_lines (c ∷ []) = tt
  open_lines (c ∷ x ∷ []) = tt
  open_lines (c ∷ x ∷ y ∷ []) = tt
  open_lines (c ∷ x ∷ y ∷ s ∷ []) = tt
  open_lines (c ∷ x ∷ y ∷ s ∷ p ∷ []) = then P (opening_at c x y s p) _ (λ opening. kinds.opens opening)
  open_lines (c ∷ x ∷ y ∷ s ∷ p ∷ w ∷ ws) = tt

  up_lines : (ws : List (List ℕ)) → Has P (up_line ws)
  up_lines [] = tt
  up_lines (c ∷ []) = then P (number_at 99 c) _ (λ channel. kinds.up channel)
  up_lines (c ∷ w ∷ ws) = tt

  down_lines : (ws : List (List ℕ)) → Has P (down_line ws)
  down_lines [] = tt
  down_lines (e ∷ []) = then P (end_at e) _ (λ end. kinds.down end)
  down_lines (e ∷ w ∷ ws) = tt

  restart_lines : (ws : List (List ℕ)) → Has P (restart_line ws)
  restart_lines [] = tt
  restart_lines (x ∷ []) = then P (node_at x) _ (λ node. kinds.restarts node)
  restart_lines (x ∷ w ∷ ws) = tt

  reload_lines : (ws : List (List ℕ)) → Has P (reload_line ws)
  reload_lines [] = tt
  reload_lines (e ∷ []) = then P (end_at e) _ (λ end. kinds.reloads end)
  reload_lines (e ∷ w ∷ ws) = tt

  dispatch_lines : (ws : List (List ℕ)) → Has P (dispatch_line ws)
  dispatch_lines [] = tt
  dispatch_lines (e ∷ []) = then P (end_at e) _ (λ end. kinds.dispatches end)
  dispatch_lines (e ∷ w ∷ ws) = tt

  abbrev IsDoing : Doing → Type 0
  IsDoing d = RoundAct P d.end d.what

  end_lines : (a : Act) → ((end : End) → RoundAct P end a) → (ws : List (List ℕ)) → Has IsDoing (end_line a ws)
  end_lines a acts [] = tt
  end_lines a acts (e ∷ []) = then IsDoing (end_at e) _ acts
  end_lines a acts (e ∷ w ∷ ws) = tt

  resume_words : (e k w : List ℕ) (ws : List (List ℕ)) → Has IsDoing (resume_at e k w ws)
  unfolding resume_at
  resume_words e k w ws =
      then IsDoing (end_at e) _ (λ end.
      then IsDoing (decimal_at k) _ (λ number.
      then IsDoing (said_at w ws) _ (λ said. kinds.resumes end number said)))

  resume_lines : (ws : List (List ℕ)) → Has IsDoing (resume_line ws)
  resume_lines [] = tt
  resume_lines (e ∷ []) = tt
  resume_lines (e ∷ k ∷ []) = tt
  resume_lines (e ∷ k ∷ w ∷ ws) = resume_words e k w ws

  command_lines : (w : List ℕ) (ws : List (List ℕ)) → Has IsDoing (command_line w ws)
  unfolding command_line
  command_lines w [] = tt
  command_lines w (e ∷ ws) =
      then IsDoing (end_at e) _ (λ end.
      then_of (λ c. RoundAct P end (act.Send c)) IsDoing (command_at end.node w ws) _ (kinds.commands end w ws)
      (λ command h. h))

  act_lines : (w : List ℕ) (ws : List (List ℕ)) → Has IsDoing (act_line w ws)
  unfolding act_line
  act_lines w ws =
      either IsDoing (bytes_eq w (codes "deliver")) _ _ (end_lines act.Deliver kinds.delivers ws)
      (either IsDoing (bytes_eq w (codes "take")) _ _ (end_lines act.Take kinds.takes ws)
      (either IsDoing (bytes_eq w (codes "decide")) _ _ (end_lines act.Decide kinds.decides ws)
      (either IsDoing (bytes_eq w (codes "resume")) _ _ (resume_lines ws) (command_lines w ws))))

  do_lines : (w : List ℕ) (ws : List (List ℕ)) → Has P (do_line w ws)
  do_lines w ws = then_of IsDoing P (act_line w ws) _ (act_lines w ws) (λ doing h. h.0)

  round_steps : (r : Round) (doing : Doing) → IsDoing doing → P (round_step r doing.end doing.what)
  round_steps round.StopBefore doing h = h.1.0
  round_steps round.StopAfter doing h = h.1.1.0
  round_steps round.NoMemory doing h = h.1.1.1

  round_lines : (r : Round) (ws : List (List ℕ)) → Has P (round_line r ws)
  round_lines r [] = tt
  round_lines r (w ∷ ws) = then_of IsDoing P (act_line w ws) _ (act_lines w ws) (round_steps r)

  -- what holds where it holds of a hook line

  other : (w : List ℕ) (ws : List (List ℕ)) → (bytes_eq w (codes "hook") ≡ true → Has P (register_line ws))
      → Has P (other_step_at w ws)
  unfolding other_step_at
  other w ws hook =
      either P (bytes_eq w (codes "height")) _ _ (height_lines ws)
      (either P (bytes_eq w (codes "expect")) _ _ (expect_lines ws)
      (either P (bytes_eq w (codes "dispatch")) _ _ (dispatch_lines ws)
      (where_so P (bytes_eq w (codes "hook")) _ _ hook (do_lines w ws))))

  single : (w : List ℕ) (ws : List (List ℕ)) → (bytes_eq w (codes "hook") ≡ true → Has P (register_line ws))
      → Has P (step_at w ws)
  unfolding step_at
  single w ws hook =
      either P (bytes_eq w (codes "set")) _ _ (set_lines ws)
      (either P (bytes_eq w (codes "open")) _ _ (open_lines ws)
      (either P (bytes_eq w (codes "up")) _ _ (up_lines ws)
      (either P (bytes_eq w (codes "down")) _ _ (down_lines ws)
      (either P (bytes_eq w (codes "restart")) _ _ (restart_lines ws)
      (either P (bytes_eq w (codes "reload")) _ _ (reload_lines ws)
      (either P (bytes_eq w (codes "stop-before")) _ _ (round_lines round.StopBefore ws)
      (either P (bytes_eq w (codes "stop-after")) _ _ (round_lines round.StopAfter ws)
      (either P (bytes_eq w (codes "no-memory")) _ _ (round_lines round.NoMemory ws) (other w ws hook)))))))))

  -- ---- lines

  abbrev EachOf : List ToyStep → Type 0
  EachOf ss = Each P ss

  five : (o : Open ToyKeys toy) (id : ShortId) → EachOf (ready_steps o id)
  unfolding ready_steps
  five o id = (
    kinds.opens o,
    (
      kinds.confirms _ id,
      (kinds.confirms _ id, ((kinds.delivers _).0, ((kinds.delivers _).0, tt))),
    ),
  )

  ready_lines : (ws : List (List ℕ)) → Has EachOf (ready_line ws)
  ready_lines [] = tt
  ready_lines (c ∷ []) = tt
  ready_lines (c ∷ x ∷ []) = tt
  ready_lines (c ∷ x ∷ y ∷ []) = tt
  ready_lines (c ∷ x ∷ y ∷ s ∷ []) = tt
  ready_lines (c ∷ x ∷ y ∷ s ∷ p ∷ []) = tt
  ready_lines (c ∷ x ∷ y ∷ s ∷ p ∷ i ∷ []) =
      then EachOf (opening_at c x y s p) _ (λ opening. then EachOf (short_id_at i) _ (λ id. five opening id))
  ready_lines (c ∷ x ∷ y ∷ s ∷ p ∷ i ∷ w ∷ ws) = tt

  alone : (o : Option ToyStep) → Has P o → Has EachOf (one_step o)
  alone None h = tt
  alone (Some s) h = (h, tt)

  pub word_lines : (w : List ℕ) (ws : List (List ℕ)) → (bytes_eq w (codes "hook") ≡ true → Has P (register_line ws))
      → Has EachOf (word_line w ws)
  unfolding word_line
  word_lines w ws hook =
      either EachOf (bytes_eq w (codes "ready")) _ _ (ready_lines ws) (alone (step_at w ws) (single w ws hook))

module _ (P : ToyStep → Type 0) (kinds : IsOfEachKind P)
    (registers : (end : End) (hook : ℕ) → P (step.Register end hook)) where
  abbrev AllOf : List ToyStep → Type 0
  AllOf ss = Each P ss

  register_lines : (ws : List (List ℕ)) → Has P (register_line ws)
  register_lines ws = then P (hooked_at ws) _ (λ hooked. registers hooked.end 0)

  of_words : (ws : List (List ℕ)) → Has AllOf (steps_at ws)
  of_words [] = tt
  of_words (w ∷ ws) = word_lines P kinds w ws (λ e. register_lines ws)

  of_line : (l : List ℕ) → Has AllOf (line_at l)
  of_line l = either AllOf (is_skipped l) (Some []) (steps_at (words l)) tt (of_words (words l))

  -- ---- scripts

  abbrev Reads : Result (List ToyStep) ℕ → Type 0
  Reads (Ok ss) = AllOf ss
  Reads (Err n) = Unit {0}

  joined : (ss ts : List ToyStep) → AllOf ss → AllOf ts → AllOf (ss ++ ts)
  joined [] ts h k = k
  joined (s ∷ ss) ts h k = (h.0, joined ss ts h.1 k)

  in_front : (ss : List ToyStep) (r : Result (List ToyStep) ℕ) → AllOf ss → Reads r → Reads (behind ss r)
  in_front ss (Ok ts) h k = joined ss ts h k
  in_front ss (Err n) h k = tt

  after_line : (n : ℕ) (o : Option (List ToyStep)) (r : Result (List ToyStep) ℕ) → Has AllOf o → Reads r
      → Reads (line_then n o r)
  after_line n None r h k = tt
  after_line n (Some ss) r h k = in_front ss r h k

  of_lines : (n : ℕ) (ls : List (List ℕ)) → Reads (steps_from n ls)
  unfolding steps_from
  of_lines n [] = tt
  of_lines n (l ∷ ls) = after_line n (line_at l) (steps_from (n + 1) ls) (of_line l) (of_lines (n + 1) ls)

  placed : (n : ℕ) (ss : List ToyStep) → AllOf ss → AllOf (numbered n ss)
  placed n [] h = tt
  placed n (step.Fees x fees ∷ ss) h = (h.0, placed n ss h.1)
  placed n (step.Limits x limits ∷ ss) h = (h.0, placed n ss h.1)
  placed n (step.Policy x policy ∷ ss) h = (h.0, placed n ss h.1)
  placed n (step.Height x height ∷ ss) h = (h.0, placed n ss h.1)
  placed n (step.Expect x invoice ∷ ss) h = (h.0, placed n ss h.1)
  placed n (step.Open o ∷ ss) h = (h.0, placed n ss h.1)
  placed n (step.Do e a ∷ ss) h = (h.0, placed n ss h.1)
  placed n (step.Down e ∷ ss) h = (h.0, placed n ss h.1)
  placed n (step.NoMemory e a ∷ ss) h = (h.0, placed n ss h.1)
  placed n (step.Restart x ∷ ss) h = (h.0, placed n ss h.1)
  placed n (step.Reload e ∷ ss) h = (h.0, placed n ss h.1)
  placed n (step.StopBefore e a ∷ ss) h = (h.0, placed n ss h.1)
  placed n (step.StopAfter e a ∷ ss) h = (h.0, placed n ss h.1)
  placed n (step.Up c ∷ ss) h = (h.0, placed n ss h.1)
  placed n (step.Dispatch e ∷ ss) h = (h.0, placed n ss h.1)
  placed n (step.Register e hook ∷ ss) h = (registers e n, placed (n + 1) ss h.1)

  with_all : (r : Result (List ToyStep) ℕ) → Reads r → Reads (with_places r)
  with_all (Ok ss) h = placed 0 ss h
  with_all (Err n) h = tt

  pub each_step : (text : List ℕ) (steps : List ToyStep) → script_at text ≡ Ok steps → Each P steps
  each_step text steps read =
      subst Reads read (with_all (steps_from 1 (lines text)) (of_lines 1 (lines text)))
