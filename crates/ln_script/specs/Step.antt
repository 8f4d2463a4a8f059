-- The steps of a script's line, by its words.
use Rattle.std.specs.Prelude.{ℕ, List, [], ◌∷◌, ◌++◌, map, codes, Bool, true, false, Option, Some, None, ◌&&◌}
use Rattle.std.specs.Prelude.{nat_le, ◌+◌, replicate, if◌then◌else◌}
use Rattle.std.specs.Borrow.{Bor}
use Rattle.std.specs.Str.{bytes_eq}
use Rattle.ln_bytes.specs.declared.short_id.ShortId.{ShortId}
use Rattle.ln_keys.specs.declared.toy_keys.ToyKeys.{ToyKeys}
use Rattle.ln_channel.specs.declared.command.Command.TheVariants as command
use Rattle.ln_book_tables.specs.declared.entry.Invoice.{Invoice}
use Rattle.ln_world_channels.specs.declared.step.End.{End}
use Rattle.ln_world_channels.specs.declared.step.Node.{Node}
use Rattle.ln_world_channels.specs.declared.step.Open.{Open}
use Rattle.ln_world.specs.declared.step.Act.{Act}
use Rattle.ln_world.specs.declared.step.Act.TheVariants as act
use Rattle.ln_world.specs.declared.step.Step.{Step}
use Rattle.ln_world.specs.declared.step.Step.TheVariants as step
use Rattle.ln_script.specs.declared.step.Doing.{Doing}
use Rattle.ln_script.specs.declared.step.Round.{Round}
use Rattle.ln_script.specs.declared.step.Round.TheVariants as round
use Rattle.ln_hooks.specs.declared.verdict.Verdict.{Verdict}
use Rattle.ln_hooks.specs.declared.verdict.Verdict.TheVariants as verdict
use Rattle.ln_script.specs.Hook.{lawful_at, hooked_at}
use Rattle.ln_script.specs.Word.{◌>>=◌, decimal_at, number_at, node_at, end_at, short_id_at}
use Rattle.ln_script.specs.Keys.{toy, partners_of}
use Rattle.ln_script.specs.Command.{preimage_of, command_at}

-- the bytes of each word
abbrev pub texts : List (Bor (List ℕ)) → List (List ℕ)
texts words = map (λ w. w.now) words

abbrev pub ToyStep : Type 0
ToyStep = Step ToyKeys toy

-- ---- what a node sets

-- fees that rise from the least to the most
abbrev pub fees_if : Node → ℕ → ℕ → ℕ → Option ToyStep
fees_if node first least most =
    if nat_le least first && nat_le first most
    then Some (step.Fees node (record { first = first; least = least; greatest = most }))
    else None

-- set X fees FIRST LEAST MOST
unfoldable pub fees_at : Node → List ℕ → List ℕ → List ℕ → Option ToyStep
fees_at node f l m = do
  first ← decimal_at f
  least ← decimal_at l
  most ← decimal_at m
  fees_if node first least most

-- set X limits MINIMUM ACCEPTED INFLIGHT RESERVE
unfoldable pub limits_at : Node → List ℕ → List ℕ → List ℕ → List ℕ → Option ToyStep
limits_at node m a i r = do
  minimum ← decimal_at m
  accepted ← number_at 65535 a
  in_flight ← decimal_at i
  reserve ← decimal_at r
  Some (step.Limits node (record {
    minimum = minimum;
    accepted = accepted;
    in_flight = in_flight;
    reserve = reserve;
  }))

-- set X policy BASE PROPORTIONAL DELTA
unfoldable pub policy_at : Node → List ℕ → List ℕ → List ℕ → Option ToyStep
policy_at node b p d = do
  base ← number_at 4294967295 b
  proportional ← number_at 4294967295 p
  delta ← number_at 65535 d
  Some (step.Policy node (record { base = base; proportional = proportional; delta = delta }))

abbrev pub fees_line : Node → List (List ℕ) → Option ToyStep
fees_line node (f ∷ l ∷ m ∷ []) = fees_at node f l m
fees_line node _ = None

abbrev pub limits_line : Node → List (List ℕ) → Option ToyStep
limits_line node (m ∷ a ∷ i ∷ r ∷ []) = limits_at node m a i r
limits_line node _ = None

abbrev pub policy_line : Node → List (List ℕ) → Option ToyStep
policy_line node (b ∷ p ∷ d ∷ []) = policy_at node b p d
policy_line node _ = None

abbrev pub setting_at : Node → List ℕ → List (List ℕ) → Option ToyStep
setting_at node w ws =
    if bytes_eq w (codes "fees") then fees_line node ws
    else (if bytes_eq w (codes "limits") then limits_line node ws
    else (if bytes_eq w (codes "policy") then policy_line node ws else None))

abbrev pub set_line : List (List ℕ) → Option ToyStep
set_line (x ∷ w ∷ ws) = do
  node ← node_at x
  setting_at node w ws
set_line _ = None

-- height X H: no block has a greater height than 400,000,000
abbrev pub height_line : List (List ℕ) → Option ToyStep
height_line (x ∷ h ∷ []) = do
  node ← node_at x
  height ← number_at 400000000 h
  Some (step.Height node height)
height_line _ = None

-- a payment of this number: its preimage and its secret are 32 bytes of the number
abbrev pub invoice_of : ℕ → ℕ → Invoice
invoice_of payment amount = record {
  preimage = preimage_of payment;
  expected = record { secret = replicate 32 payment; amount = amount };
}

-- expect X N AMOUNT
unfoldable pub expect_at : List ℕ → List ℕ → List ℕ → Option ToyStep
expect_at x n a = do
  node ← node_at x
  payment ← number_at 255 n
  amount ← decimal_at a
  Some (step.Expect node (invoice_of payment amount))

abbrev pub expect_line : List (List ℕ) → Option ToyStep
expect_line (x ∷ n ∷ a ∷ []) = expect_at x n a
expect_line _ = None

-- ---- a channel is opened

-- open C X Y SATOSHIS PUSH
unfoldable pub opening_at : List ℕ → List ℕ → List ℕ → List ℕ → List ℕ → Option (Open ToyKeys toy)
opening_at c x y s p = do
  channel ← number_at 99 c
  funder ← node_at x
  fundee ← node_at y
  satoshis ← decimal_at s
  push ← decimal_at p
  Some (record {
    channel = channel;
    funder = funder;
    fundee = fundee;
    satoshis = satoshis;
    push = push;
    keys = partners_of channel;
  })

abbrev pub open_line : List (List ℕ) → Option ToyStep
open_line (c ∷ x ∷ y ∷ s ∷ p ∷ []) = do
  opening ← opening_at c x y s p
  Some (step.Open opening)
open_line _ = None

-- ---- what an end does

-- up C
abbrev pub up_line : List (List ℕ) → Option ToyStep
up_line (c ∷ []) = do
  channel ← number_at 99 c
  Some (step.Up channel)
up_line _ = None

-- down E
abbrev pub down_line : List (List ℕ) → Option ToyStep
down_line (e ∷ []) = do
  end ← end_at e
  Some (step.Down end)
down_line _ = None

-- restart X
abbrev pub restart_line : List (List ℕ) → Option ToyStep
restart_line (x ∷ []) = do
  node ← node_at x
  Some (step.Restart node)
restart_line _ = None

-- reload E
abbrev pub reload_line : List (List ℕ) → Option ToyStep
reload_line (e ∷ []) = do
  end ← end_at e
  Some (step.Reload end)
reload_line _ = None

-- dispatch E
abbrev pub dispatch_line : List (List ℕ) → Option ToyStep
dispatch_line (e ∷ []) = do
  end ← end_at e
  Some (step.Dispatch end)
dispatch_line _ = None

-- hook E, and what the hook says: its place among the hooks of the script is given below
abbrev pub register_line : List (List ℕ) → Option ToyStep
register_line ws = do
  hooked ← hooked_at ws
  Some (step.Register hooked.end 0)

-- deliver E, take E or decide E
abbrev pub end_line : Act → List (List ℕ) → Option Doing
end_line a (e ∷ []) = do
  end ← end_at e
  Some (record { end = end; what = a })
end_line a _ = None

-- what is said of what is held: continue, or fail CODE
abbrev pub goes_on_at : List (List ℕ) → Option Verdict
goes_on_at [] = Some verdict.Continue
goes_on_at _ = None

abbrev pub fails_at : List (List ℕ) → Option Verdict
fails_at (c ∷ []) = do
  why ← lawful_at c
  Some (verdict.Fail why)
fails_at _ = None

abbrev pub said_at : List ℕ → List (List ℕ) → Option Verdict
said_at w ws =
    if bytes_eq w (codes "continue") then goes_on_at ws
    else (if bytes_eq w (codes "fail") then fails_at ws else None)

-- resume E K, and what is said of it
unfoldable pub resume_at : List ℕ → List ℕ → List ℕ → List (List ℕ) → Option Doing
resume_at e k w ws = do
  end ← end_at e
  number ← decimal_at k
  said ← said_at w ws
  Some (record { end = end; what = act.Resume number said })

abbrev pub resume_line : List (List ℕ) → Option Doing
resume_line (e ∷ k ∷ w ∷ ws) = resume_at e k w ws
resume_line _ = None

-- a command's word, E, and what the command asks for
unfoldable pub command_line : List ℕ → List (List ℕ) → Option Doing
command_line w (e ∷ ws) = do
  end ← end_at e
  command ← command_at end.node w ws
  Some (record { end = end; what = act.Send command })
command_line w [] = None

unfoldable pub act_line : List ℕ → List (List ℕ) → Option Doing
act_line w ws =
    if bytes_eq w (codes "deliver") then end_line act.Deliver ws
    else (if bytes_eq w (codes "take") then end_line act.Take ws
    else (if bytes_eq w (codes "decide") then end_line act.Decide ws
    else (if bytes_eq w (codes "resume") then resume_line ws else command_line w ws)))

abbrev pub do_line : List ℕ → List (List ℕ) → Option ToyStep
do_line w ws = do
  doing ← act_line w ws
  Some (step.Do doing.end doing.what)

-- what happens round an act
abbrev pub round_step : Round → End → Act → ToyStep
round_step round.StopBefore e a = step.StopBefore e a
round_step round.StopAfter e a = step.StopAfter e a
round_step round.NoMemory e a = step.NoMemory e a

-- LINE, after stop-before, stop-after or no-memory
abbrev pub round_line : Round → List (List ℕ) → Option ToyStep
round_line r (w ∷ ws) = do
  doing ← act_line w ws
  Some (round_step r doing.end doing.what)
round_line r [] = None

-- ---- the step of a line: its first word says which

unfoldable pub other_step_at : List ℕ → List (List ℕ) → Option ToyStep
other_step_at w ws =
    if bytes_eq w (codes "height") then height_line ws
    else (if bytes_eq w (codes "expect") then expect_line ws
    else (if bytes_eq w (codes "dispatch") then dispatch_line ws
    else (if bytes_eq w (codes "hook") then register_line ws else do_line w ws)))

unfoldable pub step_at : List ℕ → List (List ℕ) → Option ToyStep
step_at w ws =
    if bytes_eq w (codes "set") then set_line ws
    else (if bytes_eq w (codes "open") then open_line ws
    else (if bytes_eq w (codes "up") then up_line ws
    else (if bytes_eq w (codes "down") then down_line ws
    else (if bytes_eq w (codes "restart") then restart_line ws
    else (if bytes_eq w (codes "reload") then reload_line ws
    else (if bytes_eq w (codes "stop-before") then round_line round.StopBefore ws
    else (if bytes_eq w (codes "stop-after") then round_line round.StopAfter ws
    else (if bytes_eq w (codes "no-memory") then round_line round.NoMemory ws else other_step_at w ws))))))))

-- ---- the steps of a line

abbrev pub confirms : ℕ → Node → ShortId → ToyStep
confirms channel node id = step.Do (record { node = node; channel = channel }) (act.Send (command.Confirm id))

abbrev pub delivers : ℕ → Node → ToyStep
delivers channel node = step.Do (record { node = node; channel = channel }) act.Deliver

-- the channel is opened, both ends confirm it, and each takes what the other sends of that
unfoldable pub ready_steps : Open ToyKeys toy → ShortId → List ToyStep
ready_steps o id =
    step.Open o
    ∷ confirms o.channel o.funder id
    ∷ confirms o.channel o.fundee id
    ∷ delivers o.channel o.fundee
    ∷ delivers o.channel o.funder
    ∷ []

-- ready C X Y SATOSHIS PUSH BxTxO
abbrev pub ready_line : List (List ℕ) → Option (List ToyStep)
ready_line (c ∷ x ∷ y ∷ s ∷ p ∷ i ∷ []) = do
  opening ← opening_at c x y s p
  id ← short_id_at i
  Some (ready_steps opening id)
ready_line _ = None

abbrev pub one_step : Option ToyStep → Option (List ToyStep)
one_step None = None
one_step (Some s) = Some (s ∷ [])

unfoldable pub word_line : List ℕ → List (List ℕ) → Option (List ToyStep)
word_line w ws = if bytes_eq w (codes "ready") then ready_line ws else one_step (step_at w ws)

abbrev pub steps_at : List (List ℕ) → Option (List ToyStep)
steps_at [] = None
steps_at (w ∷ ws) = word_line w ws

-- ---- the steps that were read so far

-- where the last line was good
abbrev pub if_good : Bool → List ToyStep → Option (List ToyStep)
if_good true ss = Some ss
if_good false ss = None

-- those of a line join them
abbrev pub joined : List ToyStep → Option (List ToyStep) → Option (List ToyStep)
joined ss None = None
joined ss (Some ts) = Some (ss ++ ts)

-- ---- the hooks of a script have places in their order, from this one on

abbrev pub is_hook : ToyStep → Bool
is_hook (step.Register e hook) = true
is_hook s = false

abbrev pub with_place : ℕ → ToyStep → ToyStep
with_place n (step.Register e hook) = step.Register e n
with_place n s = s

abbrev pub next_place : Bool → ℕ → ℕ
next_place true n = n + 1
next_place false n = n

abbrev pub numbered : ℕ → List ToyStep → List ToyStep
numbered n [] = []
numbered n (s ∷ ss) = with_place n s ∷ numbered (next_place (is_hook s) n) ss
