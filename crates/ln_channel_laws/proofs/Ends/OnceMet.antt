-- What holds of each end that has met its peer: the end of a turn gives it, and nothing else that an end does takes it
-- away.
use Rattle.std.proofs.Common.{◌≡◌, List, [], ◌∷◌, refl, Bool, true, false, cond, Option, Some, None, Result, Ok, Err}
use Rattle.std.proofs.Common.{ℕ}
use Rattle.ln_msgs.specs.declared.messages.message.Message.{Message}
use Rattle.ln_msgs.specs.declared.messages.message.Message.TheVariants as message
use Rattle.ln_refusals.specs.declared.refusal.Refusal.{Refusal}
use Rattle.ln_keys.specs.declared.role.Role.TheVariants.{Funder, Fundee}
use Rattle.ln_keys.specs.Signer.{Signer}
use Rattle.ln_keys.specs.Partners.{ArePartners}
use Rattle.ln_log.specs.declared.update.Update.{Update}
use Rattle.ln_log.specs.declared.update.Update.TheVariants as update
use Rattle.ln_log.specs.Updates.{next_id}
use Rattle.ln_log.specs.Log.{IsWithin}
use Rattle.ln_dance.specs.Messages.{update_message}
use Rattle.ln_dance.specs.Resume.{resume_fault}
use Rattle.ln_channel.specs.declared.command.Command.{Command}
use Rattle.ln_channel.specs.declared.command.Command.TheVariants as command
use Rattle.ln_channel.specs.declared.machine.ConnectionState.{ConnectionState}
use Rattle.ln_channel.specs.declared.machine.ConnectionState.TheVariants.{Down, AwaitingReestablish, Connected}
use Rattle.ln_channel.specs.Opening.{unless}
use Rattle.ln_channel.specs.Base.{based}
use Rattle.ln_channel.specs.Ledger.{Ledger}
use Rattle.ln_channel.specs.End.{End, Turn, settled, sending, completed, end_dropped, shutdown_message}
use Rattle.ln_channel.specs.Taking.{message_row, completed_row}
use Rattle.ln_channel.specs.Commands.{command_row, confirm_fault, confirmed, ready_message, propose_fault, propose_row}
use Rattle.ln_channel.specs.Commands.{proposes, sign_command_fault, signs_next, shut_fault, shuts_down, unready_fault}
use Rattle.ln_channel.specs.Resume.{resumed}
use Rattle.ln_channel.specs.State.{is_down}
use Rattle.ln_channel.specs.Step.{faulted, line_fault}
use Rattle.ln_bytes.specs.declared.short_id.ShortId.{ShortId}
use Rattle.ln_channel_laws.specs.Ends.{Ends, turned, message_at, command_at, answers, delivers, connects, Act, Deliver}
use Rattle.ln_channel_laws.specs.Ends.{Give, Note, Lose, Cut, Save, still_come, acts, Step, By, Connect, happens, run}
use Rattle.ln_channel_laws.specs.Ends.{notes}
use Rattle.ln_channel_laws.proofs.Machine.TurnMoves.{log_within}
use Rattle.ln_channel_laws.proofs.Ends.Runs.{Sound, ran}

pub record IsGiven (P : End → Type 0) : Type 0 where
  pub by_turn : (e : End) → P (settled e)
  pub by_update : (u : Update) (e : End) → IsWithin e.dance.log → P (proposes u e)
  pub by_confirm : (id : ShortId) (e : End) → P e → P (confirmed id e)
  pub by_signature : (e : End) → P e → P (signs_next e)
  pub by_note : (l : Ledger) (e : End) → P e → P (record e { ledger = l })
  pub by_save : (e : End) → P e → P (based e)

abbrev pub WhenMet : (End → Type 0) → ConnectionState → End → Type 0
WhenMet P l e = l ≡ Connected → P e

abbrev pub BothWhenMet : (End → Type 0) → Ends → Type 0
BothWhenMet P p = WhenMet P p.x_line p.x × WhenMet P p.y_line p.y

module _ (P : End → Type 0) (k : IsGiven P) where
  -- ---- a message

  abbrev IsGiving : Result Turn Refusal → Type 0
  IsGiving (Ok t) = P t.end
  IsGiving (Err r) = Unit {0}

  unless_so : (f : Option Refusal) (t : Turn) → P t.end → IsGiving (unless f t)
  unless_so None t h = h
  unless_so (Some r) t h = tt

  completed_so : (keys : Signer) (r : Result Turn Refusal) → IsGiving (completed_row keys r)
  completed_so keys (Ok t) = k.by_turn t.end
  completed_so keys (Err r) = tt

  message_so : (keys : Signer) (l : ConnectionState) (m : Message) (e : End) → IsGiving (message_at keys l m e)
  message_so keys Down m e = tt
  message_so keys Connected m e = completed_so keys (message_row keys m e)
  message_so keys AwaitingReestablish (message.ChannelReestablish m) e = unless_so (resume_fault keys m e.dance)
      (completed keys (resumed keys m e)) (k.by_turn (resumed keys m e).end)
  message_so keys AwaitingReestablish (message.Warning m) e = tt
  message_so keys AwaitingReestablish (message.Init m) e = tt
  message_so keys AwaitingReestablish (message.Error m) e = tt
  message_so keys AwaitingReestablish (message.Ping m) e = tt
  message_so keys AwaitingReestablish (message.Pong m) e = tt
  message_so keys AwaitingReestablish (message.OpenChannel m) e = tt
  message_so keys AwaitingReestablish (message.AcceptChannel m) e = tt
  message_so keys AwaitingReestablish (message.FundingCreated m) e = tt
  message_so keys AwaitingReestablish (message.FundingSigned m) e = tt
  message_so keys AwaitingReestablish (message.ChannelReady m) e = tt
  message_so keys AwaitingReestablish (message.Shutdown m) e = tt
  message_so keys AwaitingReestablish (message.ClosingSigned m) e = tt
  message_so keys AwaitingReestablish (message.UpdateAddHtlc m) e = tt
  message_so keys AwaitingReestablish (message.UpdateFulfillHtlc m) e = tt
  message_so keys AwaitingReestablish (message.UpdateFailHtlc m) e = tt
  message_so keys AwaitingReestablish (message.UpdateFailMalformedHtlc m) e = tt
  message_so keys AwaitingReestablish (message.UpdateFee m) e = tt
  message_so keys AwaitingReestablish (message.CommitmentSigned m) e = tt
  message_so keys AwaitingReestablish (message.RevokeAndAck m) e = tt

  -- ---- a command

  proposed_so : (u : Update) (e : End) → IsWithin e.dance.log → IsGiving (propose_row u e)
  proposed_so u e w = unless_so (propose_fault e u) (sending (update_message e.dance.channel u) (proposes u e))
      (k.by_update u e w)

  row_so : (keys : Signer) (c : Command) (e : End) → IsWithin e.dance.log → P e → IsGiving (command_row keys c e)
  row_so keys (command.Confirm id) e w h =
      unless_so (confirm_fault e) (sending (message.ChannelReady (ready_message keys e)) (confirmed id e))
      (k.by_confirm id e h)
  row_so keys (command.Add amount hash expiry onion origin) e w h = proposed_so (update.Add (record {
    id = next_id e.dance.log.own;
    amount = amount;
    hash = hash;
    expiry = expiry;
    onion = onion;
    origin = origin;
  })) e w
  row_so keys (command.Fulfil id preimage) e w h =
      proposed_so (update.Fulfil (record { id = id; preimage = preimage })) e w
  row_so keys (command.Fail id reason) e w h = proposed_so (update.Fail (record { id = id; reason = reason })) e w
  row_so keys (command.Malformed id sha code) e w h =
      proposed_so (update.Malformed (record { id = id; sha256_of_onion = sha; failure_code = code })) e w
  row_so keys (command.Fee feerate) e w h = proposed_so (update.Fee (record { feerate = feerate })) e w
  row_so keys command.Sign e w h = unless_so (sign_command_fault e) _ (k.by_signature e h)
  row_so keys (command.Shutdown script) e w h =
      let n = shuts_down script e in
      unless_so (shut_fault script e) (completed keys (sending (message.Shutdown (shutdown_message n)) n))
      (k.by_turn n)
  row_so keys (command.Decide event mark) e w h = tt
  row_so keys (command.Forget id) e w h = tt
  row_so keys (command.Resume event mark) e w h = tt

  faulted_so : (f : Option Refusal) (r : Result Turn Refusal) → IsGiving r → IsGiving (faulted f r)
  faulted_so None r h = h
  faulted_so (Some f) r h = tt

  command_so : (keys : Signer) (l : ConnectionState) (c : Command) (e : End) → IsWithin e.dance.log → WhenMet P l e
      → IsGiving (command_at keys l c e)
  command_so keys Connected c e w h = faulted_so (unready_fault c e) (command_row keys c e) (row_so keys c e w (h refl))
  command_so keys Down c e w h = faulted_so (unready_fault c e) (faulted (line_fault Down) (command_row keys c e)) tt
  command_so keys AwaitingReestablish c e w h =
      faulted_so (unready_fault c e) (faulted (line_fault AwaitingReestablish) (command_row keys c e)) tt

  -- ---- a step

  answering_so : (r : Result Turn Refusal) (p : Ends) → IsGiving r → BothWhenMet P p → BothWhenMet P (answers r p)
  answering_so (Ok t) p h both = (λ e. h, both.1)
  answering_so (Err r) p h both = both

  lost_so : (b : Bool) (p : Ends) → BothWhenMet P p
      → BothWhenMet P (cond b p (record p { x_line = Down; x = end_dropped p.x; to_x = [] }))
  lost_so true p both = both
  lost_so false p both = (λ e. absurd (cc), both.1)

  cut_so : (b : Bool) (n : ℕ) (p : Ends) → BothWhenMet P p
      → BothWhenMet P (cond b (record p { to_y = still_come n p.y_line p.to_y }) p)
  cut_so true n p both = both
  cut_so false n p both = both

  delivered_so : (keys : Signer) (ms : List Message) (p : Ends) → BothWhenMet P p → BothWhenMet P (delivers keys ms p)
  delivered_so keys [] p both = both
  delivered_so keys (m ∷ ms) p both =
      answering_so (message_at keys p.x_line m p.x) (record p { to_x = ms }) (message_so keys p.x_line m p.x) both

  acts_so : (keys : Signer) (act : Act) (p : Ends) → IsWithin p.x.dance.log → BothWhenMet P p
      → BothWhenMet P (acts keys act p)
  acts_so keys Deliver p w both = delivered_so keys p.to_x p both
  acts_so keys (Give c) p w both =
      answering_so (command_at keys p.x_line c p.x) p (command_so keys p.x_line c p.x w both.0) both
  acts_so keys (Note c) p w both = (λ e. k.by_note (notes c p).x.ledger p.x (both.0 e), both.1)
  acts_so keys Lose p w both = lost_so (is_down p.x_line) p both
  acts_so keys (Cut n) p w both = cut_so (is_down p.x_line) n p both
  acts_so keys Save p w both = (λ e. k.by_save p.x (both.0 e), both.1)

  connects_so : (a b : Signer) (lx ly : ConnectionState) (p : Ends) → BothWhenMet P p
      → BothWhenMet P (connects a b lx ly p)
  connects_so a b Down Down p both = (λ e. absurd (cc), λ e. absurd (cc))
  connects_so a b Down AwaitingReestablish p both = both
  connects_so a b Down Connected p both = both
  connects_so a b AwaitingReestablish l p both = both
  connects_so a b Connected l p both = both

  happens_so : (a b : Signer) (s : Step) (p : Ends) → Sound a b p → BothWhenMet P p → BothWhenMet P (happens a b s p)
  happens_so a b (By Funder act) p h both = acts_so a act p (log_within a p.x h.hold.kept.there.within) both
  happens_so a b (By Fundee act) p h both =
      let flip = acts_so b act (turned p) (log_within b p.y h.hold.kept.back.within) (both.1, both.0) in
      (flip.1, flip.0)
  happens_so a b Connect p h both = connects_so a b p.x_line p.y_line p both

  pub once_met : (a b : Signer) → ArePartners a b → (ss : List Step) (p : Ends) → Sound a b p → BothWhenMet P p
      → BothWhenMet P (run a b ss p)
  once_met a b keys [] p h both = both
  once_met a b keys (s ∷ ss) p h both =
      once_met a b keys ss (happens a b s p) (ran a b keys (s ∷ []) p h) (happens_so a b s p h both)
