-- What is blank, as the link is saved.
use Rattle.std.proofs.Common.{◌≡◌, refl}
use Rattle.ln_msgs.specs.declared.messages.message.Message.{Message}
use Rattle.ln_msgs.specs.declared.messages.message.Message.TheVariants as message
use Rattle.ln_channel.specs.declared.machine.Stage.{Stage}
use Rattle.ln_channel.specs.declared.machine.Stage.TheVariants as stage
use Rattle.ln_channel.specs.Base.{based_stage}
use Rattle.ln_host.specs.Blank.{blank_of}

pub saved_law : (s : Stage) (m : Message) → blank_of (based_stage s) m ≡ blank_of s m
saved_law (stage.Funded e) (message.FundingCreated m) = refl
saved_law (stage.Funded e) m = refl
saved_law s m = refl
