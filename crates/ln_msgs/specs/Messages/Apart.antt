-- A message that is taken apart: what it is, if it is that.
use Rattle.std.specs.Prelude.{Option, Some, None}
use Rattle.ln_msgs.specs.declared.messages.message.Message.{Message}
use Rattle.ln_msgs.specs.declared.messages.message.Message.TheVariants as message
use Rattle.ln_msgs.specs.declared.messages.opening.AcceptChannel.{AcceptChannel}
use Rattle.ln_msgs.specs.declared.messages.opening.OpenChannel.{OpenChannel}
use Rattle.ln_msgs.specs.declared.messages.updates.UpdateFailHtlc.{UpdateFailHtlc}

abbrev pub open_in : Message → Option OpenChannel
open_in (message.OpenChannel m) = Some m
open_in m = None

abbrev pub accept_in : Message → Option AcceptChannel
accept_in (message.AcceptChannel m) = Some m
accept_in m = None

abbrev pub failure_in : Message → Option UpdateFailHtlc
failure_in (message.UpdateFailHtlc m) = Some m
failure_in m = None
