-- What an end of a channel is told to do.
use Rattle.ln_msgs.specs.declared.messages.message.Message.{Message}
use Rattle.ln_channel.specs.declared.command.Command.{Command}

pub data Act : Type 0 where
  Handles : (m : Message) → Act
  Obeys : (c : Command) → Act
  Connects : Act
  Drops : Act
  Loads : Act
