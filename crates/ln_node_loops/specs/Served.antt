-- What a dispatcher does with the items that it takes.
use Rattle.std.specs.Prelude.{◌≡◌, ℕ, List, [], ◌∷◌, ◌++◌, Option, Some, None}
use Rattle.ln_hooks.specs.declared.event.ChannelEvent.{ChannelEvent}
use Rattle.ln_hooks.specs.declared.verdict.Verdict.{Verdict}
use Rattle.ln_book.specs.declared.switch.saying.Saying.{Saying}
use Rattle.ln_book.specs.Saying.{decided}
use Rattle.ln_node_loops.specs.declared.task.Task.{Task}
use Rattle.ln_node_loops.specs.declared.task.Task.TheVariants as task

-- what is said of an event to the book: nothing before both have signed its channel's opening
abbrev pub verdict_word : Option (List ℕ) → ℕ → ChannelEvent → Verdict → List Saying
verdict_word None n e verdict = []
verdict_word (Some c) n e verdict = decided c n e verdict ∷ []

module _ {H T : Type 0} (registers : T → H → T → Type 0) (says : T → ChannelEvent → Verdict → T → Type 0) where
  -- these items, each served in turn: a hook is registered, and the hooks are called once on an event; what they say of
  -- it is decided in the book, by the event's channel and number. Beside that nothing is said to the book.
  abbrev pub Serves : T → List (Task H) → T → List Saying → Type 0
  Serves t [] t' words = (t' ≡ t) × (words ≡ [])
  Serves t (task.Register h ∷ ts) t' words = (mid : T) × registers t h mid × Serves mid ts t' words
  Serves t (task.Event c n e ∷ ts) t' words =
      (verdict : Verdict) × (mid : T) × (rest : List Saying) × says t e verdict mid
      × (words ≡ verdict_word c n e verdict ++ rest) × Serves mid ts t' rest
  Serves t (task.Stop ∷ ts) t' words = ⊥

  -- all that was taken was served, and Stop came last
  pub record Served (t : T) (taken taken' : List (Task H)) (t' : T) (said said' : List Saying) : Type 0 where
    pub items : List (Task H)
    pub words : List Saying
    pub serves : Serves t items t' words
    pub took : taken' ≡ taken ++ items ++ task.Stop ∷ []
    pub says_verdicts : said' ≡ said ++ words

-- the events among items, each with its channel and its number
abbrev pub events_in : {H : Type 0} → List (Task H) → List (Option (List ℕ) × ℕ × ChannelEvent)
events_in [] = []
events_in (task.Event c n e ∷ ts) = (c, n, e) ∷ events_in ts
events_in (task.Register h ∷ ts) = events_in ts
events_in (task.Stop ∷ ts) = events_in ts

-- the second list is the first followed by some list
abbrev pub Begins : {A : Type 0} → List A → List A → Type 0
Begins {A} xs ys = (rest : List A) × (ys ≡ xs ++ rest)
