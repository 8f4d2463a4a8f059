-- Where no hook is handed in nothing is said against an event.
use Rattle.std.proofs.Common.{◌≡◌, ℕ, List, [], ◌∷◌, length, refl, ap, subst, ◌∙◌, Option, Some, None}
use Rattle.std.specs.Io.KnownBytes.{Appends}
use Rattle.ln_keys.specs.declared.toy_keys.ToyKeys.{ToyKeys}
use Rattle.ln_hooks.specs.declared.event.ChannelEvent.{ChannelEvent}
use Rattle.ln_hooks.specs.declared.verdict.Verdict.{Verdict}
use Rattle.ln_hooks.specs.declared.verdict.Verdict.TheVariants.{Continue}
use Rattle.ln_world_dispatch.specs.declared.step.Step.{Step as DispatchStep}
use Rattle.ln_world_dispatch.specs.Slots.{Answers}
use Rattle.ln_world_dispatch.specs.World.{World as Dispatchers}
use Rattle.ln_world_dispatch.specs.World as dispatchers
use Rattle.ln_world_dispatch.specs.Hooked as dispatchers_hooked
use Rattle.ln_world_dispatch.proofs.Unhooked.{none_answer}
use Rattle.ln_world.specs.World.{World, empty, plain, moved_by, happens}
use Rattle.ln_world.specs.Hooked.{verdict_by, answered}
use Rattle.ln_script.specs.Keys.{toy}
use Rattle.ln_script.specs.Step.{ToyStep}
use Rattle.ln_script.specs.Report.{Said, report_text, said_by, unhooked, Reports}

-- whatever is done from here on, nothing is said
abbrev IsSilent : Dispatchers ToyKeys → Type 0
IsSilent d = (a : Answers) (ms : List (DispatchStep ToyKeys toy))
    → dispatchers_hooked.answered toy a ms d ≡ dispatchers.unhooked ms

first_said : (x y : DispatchStep ToyKeys toy × Verdict) (xs ys : List (DispatchStep ToyKeys toy × Verdict))
    → x ∷ xs ≡ y ∷ ys → x.1 ≡ y.1
first_said x y xs ys e = ap (λ p. p.1) (let it : x ≡ y = cc in it)

others_said : (x y : DispatchStep ToyKeys toy × Verdict) (xs ys : List (DispatchStep ToyKeys toy × Verdict))
    → x ∷ xs ≡ y ∷ ys → xs ≡ ys
others_said x y xs ys e = cc

says_nothing : (a : Answers) (m : DispatchStep ToyKeys toy) (d : Dispatchers ToyKeys) → IsSilent d
    → dispatchers_hooked.verdict_in a m d ≡ Continue
says_nothing a m d silent = first_said (m, dispatchers_hooked.verdict_in a m d) (m, Continue) [] [] (silent a (m ∷ []))

stays_silent : (m : DispatchStep ToyKeys toy) (d : Dispatchers ToyKeys) → IsSilent d
    → IsSilent (dispatchers.happens toy Continue m d)
stays_silent m d silent a ms =
    subst (λ v. dispatchers_hooked.answered toy a ms (dispatchers.happens toy v m d) ≡ dispatchers.unhooked ms)
    (says_nothing a m d silent)
    (others_said (m, dispatchers_hooked.verdict_in a m d) (m, Continue)
    (dispatchers_hooked.answered toy a ms (dispatchers.happens toy (dispatchers_hooked.verdict_in a m d) m d))
    (dispatchers.unhooked ms)
    (silent a (m ∷ ms)))

none_by : (a : Answers) (o : Option (DispatchStep ToyKeys toy)) (d : Dispatchers ToyKeys) → IsSilent d
    → verdict_by a o d ≡ Continue
none_by a None d silent = refl
none_by a (Some m) d silent = says_nothing a m d silent

silent_by : (o : Option (DispatchStep ToyKeys toy)) (d : Dispatchers ToyKeys) → IsSilent d
    → IsSilent (moved_by toy Continue o d)
silent_by None d silent = silent
silent_by (Some m) d silent = stays_silent m d silent

none_said : (a : Answers) (ss : List ToyStep) (w : World ToyKeys) → IsSilent w.dispatchers
    → answered toy a ss w ≡ unhooked ss
none_said a [] w silent = refl
none_said a (s ∷ ss) w silent =
    ap (λ (v : Verdict). let it : Said = (s, v) ∷ answered toy a ss (happens toy v s w) in it)
    (none_by a (plain toy s w) w.dispatchers silent)
    ∙ ap (λ (l : Said). let it : Said = (s, Continue) ∷ l in it)
    (none_said a ss (happens toy Continue s w) (silent_by (plain toy s w) w.dispatchers silent))

pub none_answers : (a : Answers) (ss : List ToyStep) → said_by a 0 ss ≡ unhooked ss
none_answers a ss = none_said a ss (empty 0) (λ b ms. none_answer toy b ms (dispatchers.empty 0) refl tt)

pub reports_unhooked : {H : Type 0} (calls : H → ChannelEvent → Verdict → H → Type 0) (handed : List H)
    (ss : List ToyStep) (old new : Option (List ℕ)) → handed ≡ [] → Reports calls handed ss old new
    → Appends old new (report_text 0 (unhooked ss))
reports_unhooked calls handed ss old new none r =
    subst (Appends old new) (ap (λ n. report_text n (said_by r.answers n ss)) (ap length none)
    ∙ ap (λ (l : Said). report_text 0 l) (none_answers r.answers ss)) r.written
