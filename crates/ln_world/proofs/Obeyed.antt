-- What a command that a link takes makes of its end, and what is told of that.
use Rattle.std.proofs.Common.{◌≡◌, ℕ, List, [], ◌∷◌, ◌++◌, refl, sym, ap, ◌∙◌, subst, Bool, true, false}
use Rattle.std.proofs.Common.{Option, Some, None, Result, Ok, Err}
use Rattle.ln_refusals.specs.declared.refusal.Refusal.{Refusal}
use Rattle.ln_refusals.specs.Refusal.{refusal_number}
use Rattle.ln_keys.specs.declared.keys.ChannelKeys.{Ghosts}
use Rattle.ln_keys.specs.Signer.{Signer}
use Rattle.ln_dance.specs.declared.dance.Numbers.{Numbers}
use Rattle.ln_dance.specs.Messages.{update_message}
use Rattle.ln_log.specs.declared.update.Update.{Update}
use Rattle.ln_hooks.specs.declared.event.ChannelEvent.TheVariants as event
use Rattle.ln_channel.specs.declared.command.Command.{Command}
use Rattle.ln_channel.specs.declared.output.Output.{Output}
use Rattle.ln_channel.specs.declared.output.Output.TheVariants as output
use Rattle.ln_channel.specs.declared.machine.ConnectionState.{ConnectionState}
use Rattle.ln_channel.specs.Opening.{unless}
use Rattle.ln_channel.specs.Ledger.{Ledger}
use Rattle.ln_channel.specs.End.{End, sending}
use Rattle.ln_channel.specs.State.{State, numbers_of}
use Rattle.ln_channel.specs.Commands.{command_row, propose_row, propose_fault, proposes, with_ledger}
use Rattle.ln_channel.specs.Commands.{ledgered}
use Rattle.ln_channel.specs.Step.{Done, commanded, is_of_records}
use Rattle.ln_world_channels.specs.declared.line.Word.{Word}
use Rattle.ln_world_channels.specs.declared.step.Act.TheVariants as act
use Rattle.ln_world_channels.specs.declared.step.End.{End as WorldEnd}
use Rattle.ln_world_channels.specs.declared.step.Step.TheVariants as channel_step
use Rattle.ln_world_channels.specs.Lines.{lines_of, sends_line, word_of}
use Rattle.ln_world_channels.specs.Settings.{channel_id_of}
use Rattle.ln_world_channels.specs.Both.{answer_lines}
use Rattle.ln_world_channels.specs.WorldChannel.{acted_lines, side_of, end_of, place_of}
use Rattle.ln_world_channels.specs.World.{World as Channels, channel, if_there}
use Rattle.ln_world_channels.specs.World as channels
use Rattle.ln_world_channels.proofs.Mirror.{link_at}
use Rattle.ln_world.specs.BookReports.{answer_by}
use Rattle.ln_payment_circuits.proofs.Calls.{IfTurn}
use Rattle.ln_world.proofs.Answering.{IfDone, noted_so, obeyed_so}
use Rattle.ln_world.proofs.Lost.{Place}

-- an end as it has proposed an update
abbrev pub IsProposed : End → Update → End → Type 0
IsProposed e u f = (f ≡ proposes u e) × (propose_fault e u ≡ None)

-- with its ledger as a command about decisions leaves it
abbrev pub IsNoted : End → Command → End → Type 0
IsNoted e c f = (g : Ledger) × (ledgered c e ≡ Ok g) × (f ≡ record e { ledger = g })

module _ {K : Type 0} (keys : Signer) (halted : Bool) (k : K) (l : ConnectionState) (e : End) where
  -- an update
  row_by : (u : Update) (o : Option Refusal) → propose_fault e u ≡ o
      → IfTurn (IsProposed e u) (unless o (sending (update_message e.dance.channel u) (proposes u e)))
  row_by u None is = (refl, is)
  row_by u (Some r) is = tt

  pub proposed : (c : Command) (u : Update) → is_of_records c ≡ false → command_row keys c e ≡ propose_row u e
      → IfDone (IsProposed e u) (commanded keys (link_at halted k l e) c)
  proposed c u isnt is = obeyed_so (IsProposed e u) keys halted k l e c isnt
      (subst (IfTurn (IsProposed e u)) (sym is) (row_by u (propose_fault e u) refl))

  -- what is about decisions
  note_by : (c : Command) (o : Result Ledger Refusal) → ledgered c e ≡ o → IfTurn (IsNoted e c) (with_ledger o e)
  note_by c (Ok g) is = (g, is, refl)
  note_by c (Err r) is = tt

  pub noted : (c : Command) → is_of_records c ≡ true → IfDone (IsNoted e c) (commanded keys (link_at halted k l e) c)
  noted c is = noted_so (IsNoted e c) keys halted k l e c is (note_by c (ledgered c e) refl)

-- ---- what is told of it

abbrev pub by_row : ℕ → Result Done Refusal → Result ℕ ℕ
by_row id (Ok d) = Ok id
by_row id (Err r) = Err (refusal_number r)

ok_lines : (id : ℕ) (e : WorldEnd) (n : Numbers) (os : List Output) → answer_by id (lines_of e n os) ≡ Ok id
ok_lines id e n [] = refl
ok_lines id e n (output.Send m ∷ os) = cases (word_of n m) (ok_lines id e n os)
  where
    cases : (o : Option Word) → answer_by id (lines_of e n os) ≡ Ok id
        → answer_by id (sends_line e o ++ lines_of e n os) ≡ Ok id
    cases None r = r
    cases (Some w) r = refl
ok_lines id e n (output.Signed own ∷ os) = ok_lines id e n os
ok_lines id e n (output.Committed own peer ∷ os) = ok_lines id e n os
ok_lines id e n (output.Event number (event.Added own i amount hash expiry onion) ∷ os) = refl
ok_lines id e n (output.Event number (event.Settled own i how) ∷ os) = refl
ok_lines id e n (output.Event number (event.Closed fee) ∷ os) = refl
ok_lines id e n (output.Closed fee ∷ os) = ok_lines id e n os

answer_so : (id : ℕ) (e : WorldEnd) (c : List ℕ) (row : Result Done Refusal)
    → answer_by id (answer_lines e c row) ≡ by_row id row
answer_so id e c (Ok d) = ok_lines id e (numbers_of d.stage) d.outputs
answer_so id e c (Err r) = refl

pub told_so : {K : Type 0} (k : Ghosts K) (e : WorldEnd) (w : Channels K) (s : State K)
    → Place e.node e.channel w.channels s
    → (c : Command) (id : ℕ)
    → answer_by id (channels.step_lines k (channel_step.Do e (act.Send c)) w) ≡ by_row id
    (commanded (k.signer s.keys) s c)
unfolding acted_lines
told_so k e w s p c id =
    ap (λ o. answer_by id (if_there (λ x. acted_lines k.signer (act.Send c) x (side_of e.node x)) o)) p.is
    ∙ ap (λ q. answer_by id (acted_lines k.signer (act.Send c) p.found q)) p.of
    ∙ answer_so id (end_of p.side p.found) (channel_id_of p.found.number)
    (commanded (k.signer (place_of p.side p.found.both).link.keys) (place_of p.side p.found.both).link c)
    ∙ ap (λ (z : State _). by_row id (commanded (k.signer z.keys) z c)) (sym p.link)
