-- A script that is read has as many steps that register a hook as it has hooks.
use Rattle.std.proofs.Common.{◌≡◌, ℕ, ◌+◌, List, [], ◌∷◌, ◌++◌, Bool, true, false, cond, codes, length, Option, Some}
use Rattle.std.proofs.Common.{None, Result, Ok, Err, refl, sym, ap, ◌∙◌, subst, arith, length-append, lit≤, ◌≤◌}
use Rattle.std.specs.List.{count_by, flat_map}
use Rattle.std.specs.Str.{bytes_eq}
use Rattle.std.proofs.lemmas.Slice.Eq.{bytes_eq-Decides}
use Rattle.ln_world_channels.specs.declared.step.End.{End}
use Rattle.ln_world_channels.specs.declared.step.Node.{Node}
use Rattle.ln_channel.specs.declared.command.Command.{Command}
use Rattle.ln_world.specs.declared.step.Act.{Act}
use Rattle.ln_world.specs.declared.step.Act.TheVariants as act
use Rattle.ln_world.specs.declared.step.Step.TheVariants as step
use Rattle.ln_world_channels.specs.Promises.{Each}
use Rattle.ln_script.specs.declared.hook.HookLine.{HookLine}
use Rattle.ln_script.specs.declared.hook.Hooked.{Hooked}
use Rattle.ln_script.specs.Word.{◌>>=◌, decimal_at, number_at, node_at}
use Rattle.ln_script.specs.Command.{command_at}
use Rattle.ln_script.specs.Hook.{hooked_at}
use Rattle.ln_script.specs.Step.{ToyStep, fees_at, limits_at, policy_at, expect_at}
use Rattle.ln_script.specs.Step.{one_step, other_step_at, step_at}
use Rattle.ln_script.specs.Step.{word_line, steps_at, is_hook, with_place, next_place, numbered}
use Rattle.ln_script.specs.Script.{lines, words, is_skipped, line_at, behind, line_then, steps_from, with_places}
use Rattle.ln_script.specs.Script.{script_at, hooks_by, hooks_at, line_hooks, script_hooks}
use Rattle.ln_script.proofs.Places.{count, count-cons, count-append}
use Rattle.ln_script.proofs.Walk.{Has, then, if_in_order, IsOfEachKind, RoundAct, word_lines}

-- ---- a step of another line registers none

abbrev IsNone : ToyStep → Type 0
IsNone s = is_hook s ≡ false

round_none : (e : End) (a : Act) → RoundAct IsNone e a
round_none e a = (refl, (refl, (refl, refl)))

any_command : (e : End) (o : Option Command) → Has (λ c. RoundAct IsNone e (act.Send c)) o
any_command e None = tt
any_command e (Some c) = round_none e (act.Send c)

fees_none : (node : Node) (f l m : List ℕ) → Has IsNone (fees_at node f l m)
unfolding fees_at
fees_none node f l m =
    then IsNone (decimal_at f) _ (λ first.
    then IsNone (decimal_at l) _ (λ least.
    then IsNone (decimal_at m) _ (λ most. if_in_order IsNone node first least most refl)))

limits_none : (node : Node) (m a i r : List ℕ) → Has IsNone (limits_at node m a i r)
unfolding limits_at
limits_none node m a i r =
    then IsNone (decimal_at m) _ (λ minimum.
    then IsNone (number_at 65535 a) _ (λ accepted.
    then IsNone (decimal_at i) _ (λ in_flight.
    then IsNone (decimal_at r) _ (λ reserve. refl))))

policies_none : (node : Node) (b p d : List ℕ) → Has IsNone (policy_at node b p d)
unfolding policy_at
policies_none node b p d =
    then IsNone (number_at 4294967295 b) _ (λ base.
    then IsNone (number_at 4294967295 p) _ (λ proportional.
    then IsNone (number_at 65535 d) _ (λ delta. refl)))

heights_none : (node : Node) (h : List ℕ)
    → Has IsNone (number_at 400000000 h >>= (λ height. let it : Option ToyStep = Some (step.Height node height) in it))
heights_none node h = then IsNone (number_at 400000000 h) _ (λ height. refl)

expects_none : (x n a : List ℕ) → Has IsNone (expect_at x n a)
unfolding expect_at
expects_none x n a =
    then IsNone (node_at x) _ (λ node.
    then IsNone (number_at 255 n) _ (λ payment.
    then IsNone (decimal_at a) _ (λ amount. refl)))

all_none : IsOfEachKind IsNone
all_none = record {
  fees = fees_none;
  limits = limits_none;
  policies = policies_none;
  heights = heights_none;
  expects = expects_none;
  opens = λ o. refl;
  up = λ channel. refl;
  down = λ end. refl;
  restarts = λ node. refl;
  reloads = λ end. refl;
  dispatches = λ end. refl;
  delivers = λ end. round_none end act.Deliver;
  takes = λ end. round_none end act.Take;
  decides = λ end. round_none end act.Decide;
  resumes = λ end number said. round_none end (act.Resume number said);
  confirms = λ end id. refl;
  commands = λ end w ws. any_command end (command_at end.node w ws);
}

one_none : (s : ToyStep) → IsNone s → count (s ∷ []) ≡ 0
one_none s h = ap (λ (b : Bool). 0 + cond b 1 0) h

each_none : (ss : List ToyStep) → Each IsNone ss → count ss ≡ 0
each_none [] h = refl
each_none (s ∷ ss) h =
    count-cons s ss ∙ (let one = one_none s h.0 in let rest = each_none ss h.1 in omega (arith, one, rest))

-- ---- of a line's words there are as many

abbrev AsMany : List HookLine → List ToyStep → Type 0
AsMany hooks ss = count ss ≡ length hooks

none_of : (o : Option (List ToyStep)) → Has (Each IsNone) o → Has (AsMany []) o
none_of None h = tt
none_of (Some ss) h = each_none ss h

of_hook : (o : Option Hooked)
    → Has (AsMany (hooks_by o)) (one_step (o >>= (λ h. let it : Option ToyStep = Some (step.Register h.end 0) in it)))
of_hook None = tt
of_hook (Some h) = refl

hook_lines : (ws : List (List ℕ)) → Has (AsMany (hooks_by (hooked_at ws))) (word_line (codes "hook") ws)
unfolding word_line step_at other_step_at
hook_lines ws = of_hook (hooked_at ws)

by_word : (w : List ℕ) (ws : List (List ℕ)) (b : Bool) → bytes_eq w (codes "hook") ≡ b
    → Has (AsMany (cond b (hooks_by (hooked_at ws)) [])) (word_line w ws)
by_word w ws true is =
    subst (λ (v : List ℕ). Has (AsMany (hooks_by (hooked_at ws))) (word_line v ws))
    (sym ((bytes_eq-Decides w (codes "hook")).0 is)) (hook_lines ws)
by_word w ws false is =
    none_of (word_line w ws) (word_lines IsNone all_none w ws (λ e.
    absurd (let it : true ≡ false = sym e ∙ is in let no : ⊥ = cc in no)))

of_words : (ws : List (List ℕ)) → Has (AsMany (hooks_at ws)) (steps_at ws)
of_words [] = tt
of_words (w ∷ ws) = by_word w ws (bytes_eq w (codes "hook")) refl

of_line : (l : List ℕ) → Has (AsMany (line_hooks l)) (line_at l)
unfolding line_hooks
of_line l = by (is_skipped l)
  where
    by : (b : Bool) → Has (AsMany (cond b [] (hooks_at (words l)))) (cond b (Some []) (steps_at (words l)))
    by true = refl
    by false = of_words (words l)

-- ---- so a line asks for one at most

few_by : (o : Option Hooked) → length (hooks_by o) ≤ 1
few_by None = lit≤ tt
few_by (Some h) = lit≤ tt

few_of_word : (b : Bool) (o : Option Hooked) → length (cond b (hooks_by o) []) ≤ 1
few_of_word true o = few_by o
few_of_word false o = lit≤ tt

few_of_words : (ws : List (List ℕ)) → length (hooks_at ws) ≤ 1
few_of_words [] = lit≤ tt
few_of_words (w ∷ ws) = few_of_word (bytes_eq w (codes "hook")) (hooked_at ws)

few_of_line : (l : List ℕ) → length (line_hooks l) ≤ 1
unfolding line_hooks
few_of_line l = by (is_skipped l)
  where
    by : (b : Bool) → length (cond b [] (hooks_at (words l))) ≤ 1
    by true = lit≤ tt
    by false = few_of_words (words l)

pub few_hooks : (l : List ℕ) (ss : List ToyStep) → line_at l ≡ Some ss → count ss ≤ 1
few_hooks l ss is =
    let many : count ss ≡ length (line_hooks l) = subst (Has (AsMany (line_hooks l))) is (of_line l) in
    omega (arith, many, few_of_line l)

-- ---- and of all lines

abbrev Reads : List HookLine → Result (List ToyStep) ℕ → Type 0
Reads hooks (Ok ss) = AsMany hooks ss
Reads hooks (Err n) = Unit {0}

in_front : (hs ks : List HookLine) (ss : List ToyStep) (r : Result (List ToyStep) ℕ) → AsMany hs ss → Reads ks r
    → Reads (hs ++ ks) (behind ss r)
in_front hs ks ss (Ok ts) h k = omega (arith, count-append ss ts, length-append hs ks, h, k)
in_front hs ks ss (Err n) h k = tt

after_line : (n : ℕ) (hs ks : List HookLine) (o : Option (List ToyStep)) (r : Result (List ToyStep) ℕ)
    → Has (AsMany hs) o → Reads ks r → Reads (hs ++ ks) (line_then n o r)
after_line n hs ks None r h k = tt
after_line n hs ks (Some ss) r h k = in_front hs ks ss r h k

of_lines : (n : ℕ) (ls : List (List ℕ)) → Reads (flat_map line_hooks ls) (steps_from n ls)
unfolding steps_from
of_lines n [] = refl
of_lines n (l ∷ ls) =
    after_line n (line_hooks l) (flat_map line_hooks ls) (line_at l) (steps_from (n + 1) ls) (of_line l)
    (of_lines (n + 1) ls)

-- ---- places make no difference

same_kind : (n : ℕ) (s : ToyStep) → is_hook (with_place n s) ≡ is_hook s
same_kind n (step.Fees x fees) = refl
same_kind n (step.Limits x limits) = refl
same_kind n (step.Policy x policy) = refl
same_kind n (step.Height x height) = refl
same_kind n (step.Expect x invoice) = refl
same_kind n (step.Open o) = refl
same_kind n (step.Do e a) = refl
same_kind n (step.Down e) = refl
same_kind n (step.NoMemory e a) = refl
same_kind n (step.Restart x) = refl
same_kind n (step.Reload e) = refl
same_kind n (step.StopBefore e a) = refl
same_kind n (step.StopAfter e a) = refl
same_kind n (step.Up c) = refl
same_kind n (step.Dispatch e) = refl
same_kind n (step.Register e hook) = refl

same_count : (n : ℕ) (ss : List ToyStep) → count (numbered n ss) ≡ count ss
same_count n [] = refl
same_count n (s ∷ ss) =
    let rest = numbered (next_place (is_hook s) n) ss in
    count-cons (with_place n s) rest
    ∙ (let one : count (with_place n s ∷ []) ≡ count (s ∷ []) = ap (λ (b : Bool). 0 + cond b 1 0) (same_kind n s) in
    let others = same_count (next_place (is_hook s) n) ss in
    let all = count-cons s ss in
    omega (arith, one, others, all))

placed : (hooks : List HookLine) (r : Result (List ToyStep) ℕ) → Reads hooks r → Reads hooks (with_places r)
placed hooks (Ok ss) h = same_count 0 ss ∙ h
placed hooks (Err n) h = tt

pub each_is_registered : (text : List ℕ) (steps : List ToyStep) → script_at text ≡ Ok steps
    → count_by is_hook steps ≡ length (script_hooks text)
each_is_registered text steps read =
    subst (Reads (script_hooks text)) read
    (placed (script_hooks text) (steps_from 1 (lines text)) (of_lines 1 (lines text)))
