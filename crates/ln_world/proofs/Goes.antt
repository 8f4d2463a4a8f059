-- What a step of two ends makes of an end: a shift of its updates and its ledger, a lost connection, or a save.
use Rattle.std.proofs.Common.{◌≡◌, List, [], ◌∷◌, refl, sym, subst, Bool, true, false, cond}
use Rattle.std.proofs.Common.{Option, Some, None, Result, Ok, Err}
use Rattle.ln_msgs.specs.declared.messages.message.Message.{Message}
use Rattle.ln_msgs.specs.declared.messages.message.Message.TheVariants as message
use Rattle.ln_refusals.specs.declared.refusal.Refusal.{Refusal}
use Rattle.ln_keys.specs.Signer.{Signer}
use Rattle.ln_channel.specs.declared.command.Command.{Command}
use Rattle.ln_channel.specs.declared.machine.ConnectionState.{ConnectionState}
use Rattle.ln_channel.specs.declared.machine.ConnectionState.TheVariants.{Down, AwaitingReestablish, Connected}
use Rattle.ln_channel.specs.End.{End, Turn, end_dropped}
use Rattle.ln_channel.specs.Base.{based}
use Rattle.ln_channel.specs.Ledger.{Ledger}
use Rattle.ln_channel.specs.Commands.{ledgered, command_row, unready_fault}
use Rattle.ln_channel.specs.State.{is_down}
use Rattle.ln_channel.specs.Step.{faulted, line_fault}
use Rattle.ln_channel_laws.specs.Ends.{Ends, message_at, command_at, met_again, answers, delivers, ledger_behind}
use Rattle.ln_channel_laws.specs.Ends.{still_come}
use Rattle.ln_channel_laws.specs.Ends.{Act, Deliver, Give, Note, Lose, Cut, Save, acts}
use Rattle.ln_payment_circuits.specs.Shift.{Shift, Stays, Notes}
use Rattle.ln_payment_circuits.proofs.Calls.{IfTurn, taken_shifts, resumed_shifts, command_shifts}

pub data Goes (e f : End) : Type 0 where
  Shifts : (shift : Shift e f) → Goes e f
  Drops : (is : f ≡ end_dropped e) → Goes e f
  Bases : (is : f ≡ based e) → Goes e f

pub stays : (e : End) → Goes e e
stays e = Shifts (Stays refl refl)

again_shifts : (keys : Signer) (m : Message) (e : End) → IfTurn (Shift e) (met_again keys m e)
again_shifts keys (message.ChannelReestablish m) e = resumed_shifts keys m e
again_shifts keys (message.Warning m) e = tt
again_shifts keys (message.Init m) e = tt
again_shifts keys (message.Error m) e = tt
again_shifts keys (message.Ping m) e = tt
again_shifts keys (message.Pong m) e = tt
again_shifts keys (message.OpenChannel m) e = tt
again_shifts keys (message.AcceptChannel m) e = tt
again_shifts keys (message.FundingCreated m) e = tt
again_shifts keys (message.FundingSigned m) e = tt
again_shifts keys (message.ChannelReady m) e = tt
again_shifts keys (message.Shutdown m) e = tt
again_shifts keys (message.ClosingSigned m) e = tt
again_shifts keys (message.UpdateAddHtlc m) e = tt
again_shifts keys (message.UpdateFulfillHtlc m) e = tt
again_shifts keys (message.UpdateFailHtlc m) e = tt
again_shifts keys (message.UpdateFailMalformedHtlc m) e = tt
again_shifts keys (message.UpdateFee m) e = tt
again_shifts keys (message.CommitmentSigned m) e = tt
again_shifts keys (message.RevokeAndAck m) e = tt

pub message_shifts : (keys : Signer) (l : ConnectionState) (m : Message) (e : End)
    → IfTurn (Shift e) (message_at keys l m e)
message_shifts keys Down m e = tt
message_shifts keys AwaitingReestablish m e = again_shifts keys m e
message_shifts keys Connected m e = taken_shifts keys m e

faulted_so : (P : End → Type 0) (f : Option Refusal) (r : Result Turn Refusal) → IfTurn P r → IfTurn P (faulted f r)
faulted_so P None r h = h
faulted_so P (Some x) r h = tt

pub given_shifts : (keys : Signer) (l : ConnectionState) (c : Command) (e : End)
    → IfTurn (Shift e) (command_at keys l c e)
given_shifts keys l c e =
    faulted_so (Shift e) (unready_fault c e) (faulted (line_fault l) (command_row keys c e))
    (faulted_so (Shift e) (line_fault l) (command_row keys c e) (command_shifts keys c e))

record There (p q : Ends) : Type 0 where
  x : Goes p.x q.x
  other : q.y ≡ p.y

turn_so : (p : Ends) (r : Result Turn Refusal) → IfTurn (Shift p.x) r → There p (answers r p)
turn_so p (Ok t) h = record { x = Shifts h; other = refl }
turn_so p (Err x) h = record { x = stays p.x; other = refl }

delivers_so : (keys : Signer) (ms : List Message) (p : Ends) → There p (delivers keys ms p)
delivers_so keys [] p = record { x = stays p.x; other = refl }
delivers_so keys (m ∷ ms) p =
    let t = turn_so (record p { to_x = ms }) (message_at keys p.x_line m p.x) (message_shifts keys p.x_line m p.x) in
    record { x = t.x; other = t.other }

notes_by : (c : Command) (p : Ends) (r : Result Ledger Refusal) → ledgered c p.x ≡ r
    → Goes p.x (record p.x { ledger = ledger_behind r p.x.ledger })
notes_by c p (Ok l) is = Shifts (Notes c refl is)
notes_by c p (Err x) is = Shifts (Stays refl refl)

lose_by : (b : Bool) (p q : Ends) → Goes p.x q.x → q.y ≡ p.y → There p (cond b p q)
lose_by true p q g e = record { x = stays p.x; other = refl }
lose_by false p q g e = record { x = g; other = e }

cut_by : (b : Bool) (p q : Ends) → q.x ≡ p.x → q.y ≡ p.y → There p (cond b q p)
cut_by true p q x e = record { x = Shifts (subst (Shift p.x) (sym x) (Stays refl refl)); other = e }
cut_by false p q x e = record { x = stays p.x; other = refl }

there_so : (keys : Signer) (a : Act) (p : Ends) → There p (acts keys a p)
there_so keys Deliver p = delivers_so keys p.to_x p
there_so keys (Give c) p = turn_so p (command_at keys p.x_line c p.x) (given_shifts keys p.x_line c p.x)
there_so keys (Note c) p = record { x = notes_by c p (ledgered c p.x) refl; other = refl }
there_so keys Lose p = lose_by (is_down p.x_line) p (record p { x_line = Down; x = end_dropped p.x; to_x = [] })
    (Drops refl) refl
there_so keys (Cut n) p = cut_by (is_down p.x_line) p (record p { to_y = still_come n p.y_line p.to_y }) refl refl
there_so keys Save p = record { x = Bases refl; other = refl }

pub acts_go : (keys : Signer) (a : Act) (p : Ends) → Goes p.x (acts keys a p).x
acts_go keys a p = (there_so keys a p).x

pub acts_other : (keys : Signer) (a : Act) (p : Ends) → (acts keys a p).y ≡ p.y
acts_other keys a p = (there_so keys a p).other
