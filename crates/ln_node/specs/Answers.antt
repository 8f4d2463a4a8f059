-- The answers to a channel's orders: the order of number n has the n-th answer, once it is answered.
use Rattle.std.specs.Prelude.{◌≡◌, ◌<◌, ◌≤◌, ◌+◌, ◌%◌, ℕ, List, length, slice_get, set, if◌then◌else◌, nat_lt}
use Rattle.std.specs.Prelude.{Option, Some, None, Result, Ok, Err}
use Rattle.ln_refusals.specs.declared.refusal.Refusal.{Refusal}
use Rattle.ln_node_loops.specs.declared.notice.Notice.{Notice}
use Rattle.ln_node_loops.specs.declared.notice.Notice.TheVariants.{OrderRefused}
use Rattle.ln_node.specs.declared.answers.Answer.{Answer}
use Rattle.ln_node.specs.declared.answers.Answer.TheVariants.{Pending, Done, Refused, Forgotten}
use Rattle.ln_node.specs.declared.answers.AnswerRing.{AnswerRing}

-- at their numbers' remainders by 256 stand the latest 256
abbrev pub Keeps : {A : Type 0} → (latest answers : List A) → Type 0
Keeps latest answers =
    (n : ℕ) → n < length answers → length answers ≤ n + 256 → slice_get latest (n % 256) ≡ slice_get answers n

-- A ring stands for how many orders were put, and for all answers, of which it has the latest 256. One that was fetched
-- is Forgotten.
pub record IsRing (r : AnswerRing) (orders : ℕ) (answers : List Answer) : Type 0 where
  pub counts : r.put ≡ orders
  pub answered : r.answered ≡ length answers
  pub keeps : Keeps r.latest answers

abbrev pub found : Option Answer → Answer
found None = Forgotten
found (Some a) = a

-- what is told of an order: its own answer, once there is one, unless 256 orders were answered since
abbrev pub answer_to : ℕ → List Answer → ℕ → Answer
answer_to orders answers n =
    if nat_lt n (length answers)
    then (if nat_lt (n + 256) (length answers) then Forgotten else found (slice_get answers n))
    else (if nat_lt n orders then Pending else Forgotten)

-- its answer was fetched
abbrev pub forgotten : List Answer → ℕ → List Answer
forgotten answers n = set answers n Forgotten

-- by what an order is answered whose link has replied so
abbrev pub answer_of : Result ℕ Refusal → Answer
answer_of (Ok id) = Done id
answer_of (Err r) = Refused r

-- and what is told of it
abbrev pub notice_of : ℕ → Result ℕ Refusal → Option Notice
notice_of n (Ok id) = None
notice_of n (Err r) = Some (OrderRefused n r)
