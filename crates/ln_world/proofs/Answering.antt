-- What a link answers to a message and to a command makes of its end: a shift, which is saved, or nothing.
use Rattle.std.proofs.Common.{◌≡◌, [], refl, sym, ap, subst, Bool, true, false, cond}
use Rattle.std.proofs.Common.{Option, Some, None, Result, Ok, Err}
use Rattle.ln_msgs.specs.declared.messages.message.Message.{Message}
use Rattle.ln_msgs.specs.declared.messages.message.Message.TheVariants as message
use Rattle.ln_msgs.specs.declared.messages.commitments.ChannelReestablish.{ChannelReestablish}
use Rattle.ln_refusals.specs.declared.refusal.Refusal.{Refusal}
use Rattle.ln_keys.specs.Signer.{Signer}
use Rattle.ln_channel.specs.declared.command.Command.{Command}
use Rattle.ln_channel.specs.declared.machine.ConnectionState.{ConnectionState}
use Rattle.ln_channel.specs.declared.machine.ConnectionState.TheVariants.{Connected}
use Rattle.ln_channel.specs.declared.machine.Stage.{Stage}
use Rattle.ln_channel.specs.declared.machine.Stage.TheVariants as stage
use Rattle.ln_channel.specs.Failing.{fails}
use Rattle.ln_channel.specs.End.{End, Turn}
use Rattle.ln_channel.specs.Base.{based, based_stage}
use Rattle.ln_channel.specs.State.{State, is_connected, refused}
use Rattle.ln_channel.specs.Commands.{command_row, note_row, unready_fault}
use Rattle.ln_channel.specs.Taking.{taken}
use Rattle.ln_channel.specs.Resume.{resume_row}
use Rattle.ln_channel.specs.Step.{Done, faulted, turned, awaiting_at, saved_at, is_passed_over, message_fault}
use Rattle.ln_channel.specs.Step.{line_fault}
use Rattle.ln_channel.specs.Step.{handled, commanded, asked, obeyed_open, is_of_records, at_hand}
use Rattle.ln_world_channels.specs.Both.{left, unchanged}
use Rattle.ln_world_channels.proofs.Mirror.{link_at}
use Rattle.ln_payment_circuits.specs.Shift.{Shift, Stays}
use Rattle.ln_payment_circuits.proofs.Calls.{IfTurn, taken_shifts, resumed_shifts, command_shifts, note_shifts}

abbrev pub AtSaved : (End → Type 0) → Stage → Type 0
AtSaved P (stage.Funded e) = P e
AtSaved P s = ⊥

abbrev pub IfDone : (End → Type 0) → Result Done Refusal → Type 0
IfDone P (Ok d) = AtSaved P d.stage
IfDone P (Err r) = Unit {0}

pub turned_so : (P : End → Type 0) (l : ConnectionState) (r : Result Turn Refusal) → IfTurn P r → IfDone P (turned l r)
turned_so P l (Ok t) h = h
turned_so P l (Err r) h = tt

pub faulted_so : (P : End → Type 0) (f : Option Refusal) (r : Result Done Refusal) → IfDone P r → IfDone P (faulted f r)
faulted_so P None r h = h
faulted_so P (Some x) r h = tt

pub halted_so : (P : End → Type 0) (b : Bool) (r : Refusal) (row : Result Done Refusal) → IfDone P row
    → IfDone P (cond b (Err r) row)
halted_so P true r row h = tt
halted_so P false r row h = h

-- by what messages and a resumption make of the end
module _ (P : End → Type 0) (keys : Signer) (e : End) (still : P e) (takes : (m : Message) → IfTurn P (taken keys m e))
    (resumes : (m : ChannelReestablish) → IfTurn P (resume_row keys m e)) where
  awaiting_so : (m : Message) → IfDone P (awaiting_at keys m e)
  awaiting_so (message.ChannelReestablish m) = turned_so P Connected (resume_row keys m e) (resumes m)
  awaiting_so (message.Warning m) = tt
  awaiting_so (message.Init m) = tt
  awaiting_so (message.Error m) = tt
  awaiting_so (message.Ping m) = tt
  awaiting_so (message.Pong m) = tt
  awaiting_so (message.OpenChannel m) = tt
  awaiting_so (message.AcceptChannel m) = tt
  awaiting_so (message.FundingCreated m) = tt
  awaiting_so (message.FundingSigned m) = tt
  awaiting_so (message.ChannelReady m) = tt
  awaiting_so (message.Shutdown m) = tt
  awaiting_so (message.ClosingSigned m) = tt
  awaiting_so (message.UpdateAddHtlc m) = tt
  awaiting_so (message.UpdateFulfillHtlc m) = tt
  awaiting_so (message.UpdateFailHtlc m) = tt
  awaiting_so (message.UpdateFailMalformedHtlc m) = tt
  awaiting_so (message.UpdateFee m) = tt
  awaiting_so (message.CommitmentSigned m) = tt
  awaiting_so (message.RevokeAndAck m) = tt

  saved_so : (l : ConnectionState) (m : Message) (b : Bool)
      → IfDone P (cond b (turned l (taken keys m e)) (awaiting_at keys m e))
  saved_so l m true = turned_so P l (taken keys m e) (takes m)
  saved_so l m false = awaiting_so m

  passed_so : (l : ConnectionState) (m : Message) (b : Bool)
      → IfDone P (cond b (Ok (record { connection = l; stage = stage.Funded e; outputs = [] }))
      (faulted (message_fault l (stage.Funded e) m) (saved_at keys l m e)))
  passed_so l m true = still
  passed_so l m false = faulted_so P (message_fault l (stage.Funded e) m) (saved_at keys l m e) (saved_so l m
      (is_connected l))

  pub handled_so : {K : Type 0} (halted : Bool) (k : K) (l : ConnectionState) (m : Message)
      → IfDone P (handled keys (link_at halted k l e) m)
  handled_so halted k l m = halted_so P halted _ (at_hand keys l m (stage.Funded e))
      (passed_so l m (is_passed_over (stage.Funded e) m))

-- and by what a command makes of it
module _ {K : Type 0} (P : End → Type 0) (keys : Signer) (halted : Bool) (k : K) (l : ConnectionState) (e : End) where
  pub noted_so : (c : Command) → is_of_records c ≡ true → IfTurn P (note_row c e)
      → IfDone P (commanded keys (link_at halted k l e) c)
  noted_so c is h = halted_so P halted _ (asked keys (link_at halted k l e) c) (cases (is_of_records c) is)
    where
      cases : (b : Bool) → b ≡ true → IfDone P (cond b (turned l (note_row c e)) (obeyed_open keys l c e))
      cases true f = turned_so P l (note_row c e) h
      cases false f = absurd (cc)

  pub obeyed_so : (c : Command) → is_of_records c ≡ false → IfTurn P (command_row keys c e)
      → IfDone P (commanded keys (link_at halted k l e) c)
  obeyed_so c isnt h = halted_so P halted _ (asked keys (link_at halted k l e) c) (cases (is_of_records c) isnt)
    where
      cases : (b : Bool) → b ≡ false → IfDone P (cond b (turned l (note_row c e)) (obeyed_open keys l c e))
      cases true f = absurd (cc)
      cases false f = faulted_so P (unready_fault c e) (faulted (line_fault l) (turned l (command_row keys c e)))
          (faulted_so P (line_fault l) (turned l (command_row keys c e)) (turned_so P l (command_row keys c e) h))

module _ {K : Type 0} (keys : Signer) (halted : Bool) (k : K) (l : ConnectionState) (e : End) where
  pub handled_shifts : (m : Message) → IfDone (Shift e) (handled keys (link_at halted k l e) m)
  handled_shifts m = handled_so (Shift e) keys e (Stays refl refl) (λ n. taken_shifts keys n e)
      (λ n. resumed_shifts keys n e) halted k l m

  pub commanded_shifts : (c : Command) → IfDone (Shift e) (commanded keys (link_at halted k l e) c)
  commanded_shifts c = cases (is_of_records c) refl
    where
      cases : (b : Bool) → is_of_records c ≡ b → IfDone (Shift e) (commanded keys (link_at halted k l e) c)
      cases true is = noted_so (Shift e) keys halted k l e c is (note_shifts c e)
      cases false is = obeyed_so (Shift e) keys halted k l e c is (command_shifts keys c e)

-- ---- what is left of the link

-- a link is open at this end, and has halted or not
pub record LinkIs {K : Type 0} (s : State K) (e : End) (h : Bool) : Type 0 where
  pub stage : s.stage ≡ stage.Funded e
  pub halted : s.halted ≡ h

-- the end stays where it is refused, or has gone on by a shift, and is saved
abbrev pub RowSteps : End → End → Result Done Refusal → Type 0
RowSteps e y (Err r) = y ≡ e
RowSteps e y (Ok d) = (f : End) × (d.stage ≡ stage.Funded f) × Shift e f × (y ≡ based f)

pub record Steps {K : Type 0} (row : Result Done Refusal) (e : End) (was : Bool) (new : State K) : Type 0 where
  pub end : End
  pub link : LinkIs new end was
  pub steps : RowSteps e end row

module _ {K : Type 0} (halted : Bool) (k : K) (l : ConnectionState) (e : End) where
  done_by : (after : Refusal → State K → State K) (d : Done) (s : Stage) → d.stage ≡ s → AtSaved (Shift e) s
      → Steps (Ok d) e halted (left after (Ok d) (link_at halted k l e))
  done_by after d (stage.Funded f) is h = record {
    end = based f;
    link = record { stage = ap based_stage is; halted = refl };
    steps = (f, is, h, refl);
  }
  done_by after d (stage.AwaitsOpen c) is h = absurd h
  done_by after d (stage.AwaitsAccept c) is h = absurd h
  done_by after d (stage.AwaitsCreated c) is h = absurd h
  done_by after d (stage.AwaitsSigned c) is h = absurd h
  done_by after d stage.Gone is h = absurd h

  refused_is : (r : Refusal) → LinkIs (refused r (link_at halted k l e)) e halted
  refused_is r = cases halted refl
    where
      failed : (c : Bool)
          → LinkIs (cond c (record {
            keys = k;
            connection = l;
            halted = halted;
            failure = Some r;
            stage =
                stage.Funded e;
          })
          (link_at halted k l e)) e halted
      failed true = record { stage = refl; halted = refl }
      failed false = record { stage = refl; halted = refl }

      cases : (b : Bool) → halted ≡ b → LinkIs (cond halted (link_at halted k l e)
          (cond (fails r) (record {
            keys = k;
            connection = l;
            halted = halted;
            failure = Some r;
            stage =
                stage.Funded e;
          })
          (link_at halted k l e))) e halted
      cases true is = subst (λ b. LinkIs (cond b (link_at halted k l e)
          (cond (fails r) (record {
            keys = k;
            connection = l;
            halted = halted;
            failure = Some r;
            stage =
                stage.Funded e;
          })
          (link_at halted k l e))) e halted) (sym is) (record { stage = refl; halted = refl })
      cases false is = subst (λ b. LinkIs (cond b (link_at halted k l e)
          (cond (fails r) (record {
            keys = k;
            connection = l;
            halted = halted;
            failure = Some r;
            stage =
                stage.Funded e;
          })
          (link_at halted k l e))) e halted) (sym is) (failed (fails r))

  pub message_left : (row : Result Done Refusal) → IfDone (Shift e) row
      → Steps row e halted (left refused row (link_at halted k l e))
  message_left (Ok d) h = done_by refused d d.stage refl h
  message_left (Err r) h = record { end = e; link = refused_is r; steps = refl }

  pub command_left : (row : Result Done Refusal) → IfDone (Shift e) row
      → Steps row e halted (left unchanged row (link_at halted k l e))
  command_left (Ok d) h = done_by unchanged d d.stage refl h
  command_left (Err r) h = record { end = e; link = record { stage = refl; halted = refl }; steps = refl }
