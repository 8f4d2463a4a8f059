-- What a call hands out, with keys' answers in the messages to the peer.
use Rattle.std.specs.Prelude.{map, Result, Ok, Err}
use Rattle.ln_refusals.specs.declared.refusal.Refusal.{Refusal}
use Rattle.ln_keys.specs.Signer.{Signer}
use Rattle.ln_channel.specs.declared.machine.Stage.{Stage}
use Rattle.ln_channel.specs.declared.output.Output.{Output}
use Rattle.ln_channel.specs.declared.output.Output.TheVariants as output
use Rattle.ln_channel.specs.Step.{Done}
use Rattle.ln_host.specs.Blank.{blank_of, answered_by}

-- what is blank in a message is told by the stage that the call leaves
abbrev pub filled_output : Signer → Stage → Output → Output
filled_output k s (output.Send m) = output.Send (answered_by k (blank_of s m) m)
filled_output k s o = o

abbrev pub filled_done : Signer → Done → Done
filled_done k d = record d { outputs = map (filled_output k d.stage) d.outputs }

-- a refusal hands out nothing
abbrev pub filled_row : Signer → Result Done Refusal → Result Done Refusal
filled_row k (Ok d) = Ok (filled_done k d)
filled_row k (Err r) = Err r
