-- What a contract sees of a worker with its seats.
use Rattle.std.specs.Prelude.{ℕ, Bool, if◌then◌else◌, nat_lt, ◌+◌, List, Option}
use Rattle.ln_node_loops.specs.declared.item.Item.{Item}
use Rattle.ln_node_loops.specs.declared.task.Task.{Task}
use Rattle.ln_node_loops.specs.declared.rounds.WorkerLoop.{WorkerLoop}
use Rattle.ln_book.specs.declared.switch.saying.Saying.{Saying}
use Rattle.ln_node_loops.specs.declared.noted.Noted.{Noted}
use Rattle.ln_node_loops.specs.Orders.{Reply}
use Rattle.ln_node_loops.specs.Turns.{LoopState}
use Rattle.ln_node_loops.specs.Worker.{stand}

-- how many loads in a row were refused, up to ten, after one more that was tried where the end had halted
abbrev pub refused_after : Bool → ℕ → ℕ
refused_after halted before = if halted then (if nat_lt before 10 then before + 1 else before) else 0

module _ {E W I T B A C S H : Type 0} (state : E → S) (contents : W → Option (List ℕ)) (taken : I → List (Item W))
    (put : T → List (Task H)) (said : B → List Saying) (noted : B → List Noted) (replied : A → List Reply)
    (allowed : A → List Bool) where
  abbrev pub loop_state : WorkerLoop E W I T B A C → LoopState S W H
  loop_state b = record {
    stand = stand state contents b.worker;
    last = b.worker.last;
    taken = taken b.items;
    put = put b.tasks;
    said = said b.book;
    noted = noted b.book;
    replied = replied b.orders;
    allowed = allowed b.orders;
  }
