use Rattle.ln_world.proofs.Bytes.{byte_there, byte_past}
use Rattle.ln_world.proofs.book_reports.byte_at.Goals as goal

pub returns-then-place-bytes : goal.returns-then-place-bytes
returns-then-place-bytes c = byte_there c.args.place c.args.bytes.now

pub returns-else-place-bytes : goal.returns-else-place-bytes
returns-else-place-bytes c = byte_past c.args.place c.args.bytes.now c.if-place-bytes.false
