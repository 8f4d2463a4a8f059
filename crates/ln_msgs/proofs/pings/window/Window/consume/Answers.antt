use Rattle.std.proofs.Common.{ℕ, ◌≤◌, drop, length, slice_range, ap, ◌∙◌, arith}
use Rattle.std.proofs.lemmas.List.{length-take, length-drop}
use Rattle.ln_msgs.proofs.Windows.{consumed}
use Rattle.ln_msgs.proofs.pings.window.Window.consume.Goals as goal

pub returns : goal.returns
returns c =
    let w = c.self.inside in
    let held = c.self.view_is in
    let some : c.args.count ≤ length (slice_range w.buffer.items w.start w.end) = rw held c.requires in
    consumed w.buffer.items w.start w.end c.args.count (omega (arith, length-take {A = ℕ}, length-drop {A = ℕ}))
    ∙ ap (drop c.args.count) held
