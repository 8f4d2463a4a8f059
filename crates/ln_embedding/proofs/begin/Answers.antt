use denote.Param.Send.{sendable}
use Rattle.ln_embedding.proofs.begin.Goals as goal
use Rattle.ln_sqlite.proofs.Sent.{records_send}
use Rattle.ln_trace.proofs.logged_store.LoggedStore.TheSendSync as logged

pub run-requires-send-S : goal.run-requires-send-S
run-requires-send-S g c κs within = search (sendable, records_send, logged.the_send)
