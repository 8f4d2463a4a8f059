-- What a move makes of the two links, a step of the pair makes of the ends.
use Rattle.std.proofs.Common.{◌≡◌, ◌⊎◌, ℕ, List, [], ◌∷◌, ◌++◌, refl, sym, ap, ◌∙◌, subst, Bool, true, false, cond, not}
use Rattle.std.proofs.Common.{Option, Some, None, Result, Ok, Err, inl, inr, append-nil}
use Rattle.ln_bytes.proofs.Same.{same_if_equal}
use Rattle.ln_msgs.specs.declared.messages.message.Message.{Message}
use Rattle.ln_msgs.specs.declared.messages.message.Message.TheVariants as message
use Rattle.ln_refusals.specs.declared.refusal.Refusal.{Refusal}
use Rattle.ln_refusals.specs.declared.refusal.Refusal.TheVariants as refusal
use Rattle.ln_keys.specs.declared.role.Role.{Role}
use Rattle.ln_keys.specs.Signer.{Signer}
use Rattle.ln_log.specs.Machine as machine
use Rattle.ln_dance.specs.Resume.{reestablish_message}
use Rattle.ln_channel.specs.declared.command.Command.{Command}
use Rattle.ln_channel.specs.declared.machine.ConnectionState.{ConnectionState}
use Rattle.ln_channel.specs.declared.machine.ConnectionState.TheVariants.{Down, AwaitingReestablish, Connected}
use Rattle.ln_channel.specs.declared.machine.Stage.TheVariants as stage
use Rattle.ln_channel.specs.Naming.{named, is_other}
use Rattle.ln_channel.specs.declared.output.Output.{Output}
use Rattle.ln_channel.specs.Base.{based}
use Rattle.ln_channel.specs.Outputs.{all_of}
use Rattle.ln_channel.specs.End.{End, Turn, end_dropped}
use Rattle.ln_channel.specs.Ledger.{Ledger}
use Rattle.ln_channel.specs.Commands.{ledgered, with_ledger, command_row, unready_fault}
use Rattle.ln_channel.specs.Record.{saved_end}
use Rattle.ln_channel.specs.State.{State, is_down, refused, drops}
use Rattle.ln_channel.specs.Step.{Done, handled, commanded, faulted, line_fault}
use Rattle.ln_channel.specs.Step.{stray_fault}
use Rattle.ln_channel.specs.Step.{message_fault, saved_at, asked, obeyed}
use Rattle.ln_channel.specs.Step as step
use Rattle.ln_log.specs.Limits.{first_fault}
use Rattle.ln_channel_laws.specs.Ends.{Ends, arrive, messages_in, message_at, command_at, becomes, ledger_behind, Act}
use Rattle.ln_channel_laws.specs.Ends.{Deliver}
use Rattle.ln_channel_laws.specs.Ends.{Give, Note, Lose, saves}
use Rattle.ln_channel_laws.proofs.Offered.{IsNotReady, not_ready, messages_in-append}
use Rattle.ln_channel_laws.specs.Ends as pair
use Rattle.ln_channel_laws.specs.Moves.{moves_asked, moves_between, closes, shuts}
use Rattle.ln_channel_laws.specs.Moves as pair_moves
use Rattle.ln_channel_laws.specs.Told.{events_in, told_by, told_on, told_in}
use Rattle.ln_channel_laws.specs.Promises.{TakesFront as Front}
use Rattle.ln_world_channels.specs.declared.step.Act.{Act as Doing}
use Rattle.ln_world_channels.specs.declared.step.Act.TheVariants as act
use Rattle.ln_world_channels.specs.Sending.{delivery_sends, act_sends}
use Rattle.ln_world_channels.specs.Machine.{moves_of_message, moves_delivered, moves_of_command, moves_of_act}
use Rattle.ln_world_channels.specs.Machine.{outputs_of, delivery_tells, act_tells}
use Rattle.ln_world_channels.specs.Lines.{replies}
use Rattle.ln_link.specs.Saving.{settled}
use Rattle.ln_world_channels.specs.Both.{Both, SimEnd, reaches, left, sent_by, unchanged, answers, delivers, acts}
use Rattle.ln_world_channels.specs.Both.{disconnects}
use Rattle.ln_world_channels.specs.Both.{halts, restarts, back, first_message, greets, greeted, comes_up, meet}
use Rattle.ln_world_channels.proofs.Named.{Names, IsFine, IsFineRow, fine_at, fine_command}
use Rattle.ln_world_channels.proofs.Silent.{IsSilentRow, silent_at}
use Rattle.ln_world_channels.proofs.Mirror.{link_at, link_of, is_warning, without_warnings, AreIn, IsInbox, Mirrors}
use Rattle.ln_world_channels.proofs.Mirror.{plain}
use Rattle.ln_world_channels.proofs.Mirror.{is_awake}
use Rattle.ln_world_channels.proofs.Mirror.{all_plain, all_in, reached_link, reached_keys, reached, reached_aside}
use Rattle.ln_world_channels.proofs.Dropped.{IsDropped}

-- ---- what a link answers is what its end's rows say

saved_so : (keys : Signer) (l : ConnectionState) (m : Message) (e : End) → is_down l ≡ false
    → saved_at keys l m e ≡ step.turned Connected (message_at keys l m e)
saved_so keys Down m e up = absurd (cc)
saved_so keys Connected m e up = refl
saved_so keys AwaitingReestablish (message.Warning m) e up = refl
saved_so keys AwaitingReestablish (message.Init m) e up = refl
saved_so keys AwaitingReestablish (message.Error m) e up = refl
saved_so keys AwaitingReestablish (message.Ping m) e up = refl
saved_so keys AwaitingReestablish (message.Pong m) e up = refl
saved_so keys AwaitingReestablish (message.OpenChannel m) e up = refl
saved_so keys AwaitingReestablish (message.AcceptChannel m) e up = refl
saved_so keys AwaitingReestablish (message.FundingCreated m) e up = refl
saved_so keys AwaitingReestablish (message.FundingSigned m) e up = refl
saved_so keys AwaitingReestablish (message.ChannelReady m) e up = refl
saved_so keys AwaitingReestablish (message.Shutdown m) e up = refl
saved_so keys AwaitingReestablish (message.ClosingSigned m) e up = refl
saved_so keys AwaitingReestablish (message.UpdateAddHtlc m) e up = refl
saved_so keys AwaitingReestablish (message.UpdateFulfillHtlc m) e up = refl
saved_so keys AwaitingReestablish (message.UpdateFailHtlc m) e up = refl
saved_so keys AwaitingReestablish (message.UpdateFailMalformedHtlc m) e up = refl
saved_so keys AwaitingReestablish (message.UpdateFee m) e up = refl
saved_so keys AwaitingReestablish (message.CommitmentSigned m) e up = refl
saved_so keys AwaitingReestablish (message.RevokeAndAck m) e up = refl
saved_so keys AwaitingReestablish (message.ChannelReestablish m) e up = refl

module _ {K : Type 0} (keys : Signer) (k : K) (id : List ℕ) where
  -- a message of the channel
  pub handled_so : (l : ConnectionState) (m : Message) (e : End) → is_down l ≡ false → named m ≡ Some id
      → e.dance.channel ≡ id → handled keys (link_of k l e) m ≡ step.turned Connected (message_at keys l m e)
  handled_so l m e up is channel =
      let s = stage.Funded e in
      let p = plain id m is in
      let own : is_other (named m) s ≡ false = ap (λ o. is_other o s) is
      ∙ ap not (same_if_equal id e.dance.channel (sym channel)) in
      let stray : stray_fault l s m ≡ None = ap (λ b. cond b (Some refusal.UnknownChannel)
      (cond (is_down l) (Some refusal.OutOfPlace) None)) own
      ∙ ap (λ b. cond b (Some refusal.OutOfPlace) None) up in
      let fault : message_fault l s m ≡ None = ap (λ f. first_fault f (stray_fault l s m)) p.error ∙ stray in
      ap (λ b. cond b (Ok (record { connection = l; stage = s; outputs = [] }))
      (faulted (message_fault l s m) (saved_at keys l m e))) (p.passed s)
      ∙ ap (λ f. faulted f (saved_at keys l m e)) fault
      ∙ saved_so keys l m e up

  -- a warning
  pub passed_so : (l : ConnectionState) (m : Message) (e : End) → is_warning m ≡ true
      → handled keys (link_of k l e) m ≡ Ok (record { connection = l; stage = stage.Funded e; outputs = [] })
  passed_so l (message.Warning m) e is = refl
  passed_so l (message.Init m) e is = absurd (cc)
  passed_so l (message.Error m) e is = absurd (cc)
  passed_so l (message.Ping m) e is = absurd (cc)
  passed_so l (message.Pong m) e is = absurd (cc)
  passed_so l (message.OpenChannel m) e is = absurd (cc)
  passed_so l (message.AcceptChannel m) e is = absurd (cc)
  passed_so l (message.FundingCreated m) e is = absurd (cc)
  passed_so l (message.FundingSigned m) e is = absurd (cc)
  passed_so l (message.ChannelReady m) e is = absurd (cc)
  passed_so l (message.Shutdown m) e is = absurd (cc)
  passed_so l (message.ClosingSigned m) e is = absurd (cc)
  passed_so l (message.UpdateAddHtlc m) e is = absurd (cc)
  passed_so l (message.UpdateFulfillHtlc m) e is = absurd (cc)
  passed_so l (message.UpdateFailHtlc m) e is = absurd (cc)
  passed_so l (message.UpdateFailMalformedHtlc m) e is = absurd (cc)
  passed_so l (message.UpdateFee m) e is = absurd (cc)
  passed_so l (message.CommitmentSigned m) e is = absurd (cc)
  passed_so l (message.RevokeAndAck m) e is = absurd (cc)
  passed_so l (message.ChannelReestablish m) e is = absurd (cc)

  -- a command
  turned_faulted : (l : ConnectionState) (f : Option Refusal) (r : Result Turn Refusal)
      → faulted f (step.turned l r) ≡ step.turned l (faulted f r)
  turned_faulted l None r = refl
  turned_faulted l (Some f) r = refl

  pub obeyed_so : (l : ConnectionState) (c : Command) (e : End)
      → obeyed keys l c (stage.Funded e) ≡ step.turned l (command_at keys l c e)
  obeyed_so l c e =
      ap (faulted (unready_fault c e)) (turned_faulted l (line_fault l) (command_row keys c e))
      ∙ turned_faulted l (unready_fault c e) (faulted (line_fault l) (command_row keys c e))

-- a command that is obeyed is obeyed by an end that has met its peer
obeyed_met : (f : Option Refusal) (l : ConnectionState) (r : Result Turn Refusal) (t : Turn)
    → faulted f (faulted (line_fault l) r) ≡ Ok t → l ≡ Connected
obeyed_met (Some f) l r t e = absurd (cc)
obeyed_met None Down r t e = absurd (cc)
obeyed_met None AwaitingReestablish r t e = absurd (cc)
obeyed_met None Connected r t e = refl

fine_of : (id : List ℕ) (r : Result Turn Refusal) (t : Turn) → r ≡ Ok t → IsFineRow id r → IsFine id t
fine_of id r t e h = subst (IsFineRow id) e h

silent_of : (id : List ℕ) (r : Result Turn Refusal) (w : Refusal) → r ≡ Err w → IsSilentRow id r → replies id w ≡ []
silent_of id r w e h = subst (IsSilentRow id) e h

-- what x said on the way from q to r; y said nothing
pub record Says (out : List Message) (q r : Ends) : Type 0 where
  pub x : r.said_x ≡ q.said_x ++ without_warnings out
  pub y : r.said_y ≡ q.said_y

says_refused : (out : List Message) (r : Result Turn Refusal) (w : Refusal) (q : Ends) (to : List Message)
    → r ≡ Err w → without_warnings out ≡ [] → Says out q (pair.answers r (record q { to_x = to }))
says_refused out r w q to e none =
    subst (λ z. Says out q (pair.answers z (record q { to_x = to }))) (sym e)
    (record { x = sym (ap (λ ws. q.said_x ++ ws) none ∙ append-nil q.said_x); y = refl })

-- x is saved, or not
abbrev pub saved_if : Bool → Ends → Ends
saved_if saved q = cond saved (saves q) q

-- what comes of an act of one end, told of the links
pub record Out : Type 0 where
  pub sent : List Message
  pub moves : List machine.Move
  pub told : List Output

abbrev out_delivered : {K : Type 0} → (K → Signer) → List ℕ → Role → List Message → State K → Out
out_delivered signer id side ms l = record {
  sent = delivery_sends signer id ms l;
  moves = moves_delivered signer side ms l;
  told = delivery_tells signer ms l;
}

abbrev pub out_of : {K : Type 0} → (K → Signer) → List ℕ → Role → Doing → SimEnd K → Out
out_of signer id side a p = record {
  sent = act_sends signer id a p;
  moves = moves_of_act signer side a p;
  told = act_tells signer a p;
}

-- nothing of it is told of the ends
pub record IsAside (out : Out) : Type 0 where
  pub sent : without_warnings out.sent ≡ []
  pub moves : out.moves ≡ []
  pub told : out.told ≡ []

-- it is what is told of the ends
pub record Tells (out : Out) (ms : List machine.Move) (os : List Output) : Type 0 where
  pub moves : ms ≡ out.moves
  pub told : os ≡ out.told

-- by what an end's rows say
same_moves : (side : Role) (m : Message) (e : End) (l : ConnectionState) (r : Result Turn Refusal)
    → moves_of_message side m (stage.Funded e) (step.turned l r) ≡ pair_moves.moves_of_message side m e r
same_moves side m e l (Ok t) = refl
same_moves side m e l (Err r) = refl

same_asked : (side : Role) (c : Command) (e : End) (l : ConnectionState) (r : Result Turn Refusal)
    → moves_of_command side c (stage.Funded e) (step.turned l r) ≡ pair_moves.moves_of_command side c e r
same_asked side c e l (Ok t) = refl
same_asked side c e l (Err r) = refl

same_told : (l : ConnectionState) (r : Result Turn Refusal) → outputs_of (step.turned l r) ≡ told_by r
same_told l (Ok t) = refl
same_told l (Err r) = refl

closes_not : (side : Role) (o : Option ℕ) → closes side o o ≡ []
closes_not side None = refl
closes_not side (Some fee) = refl

shuts_not : (side : Role) (b : Bool) → shuts side b b ≡ []
shuts_not side true = refl
shuts_not side false = refl

-- a warning that is passed over is no move
still : (side : Role) (m : Message) (e : End) → is_warning m ≡ true → moves_between side m e e ≡ []
still side (message.Warning m) e is =
    ap (λ ms. ms ++ shuts side e.closing.shut e.closing.shut) (closes_not side e.closing.closed)
    ∙ shuts_not side e.closing.shut
still side (message.Init m) e is = absurd (cc)
still side (message.Error m) e is = absurd (cc)
still side (message.Ping m) e is = absurd (cc)
still side (message.Pong m) e is = absurd (cc)
still side (message.OpenChannel m) e is = absurd (cc)
still side (message.AcceptChannel m) e is = absurd (cc)
still side (message.FundingCreated m) e is = absurd (cc)
still side (message.FundingSigned m) e is = absurd (cc)
still side (message.ChannelReady m) e is = absurd (cc)
still side (message.Shutdown m) e is = absurd (cc)
still side (message.ClosingSigned m) e is = absurd (cc)
still side (message.UpdateAddHtlc m) e is = absurd (cc)
still side (message.UpdateFulfillHtlc m) e is = absurd (cc)
still side (message.UpdateFailHtlc m) e is = absurd (cc)
still side (message.UpdateFailMalformedHtlc m) e is = absurd (cc)
still side (message.UpdateFee m) e is = absurd (cc)
still side (message.CommitmentSigned m) e is = absurd (cc)
still side (message.RevokeAndAck m) e is = absurd (cc)
still side (message.ChannelReestablish m) e is = absurd (cc)

-- ---- an end answers

module _ {K : Type 0} (signer : K → Signer) (id : List ℕ) (kx ky : K) where
  out_names : (t : Turn) → IsFine id t
      → (messages_in (all_of t.handed) ≡ messages_in t.handed.sent) × Names id (messages_in (all_of t.handed))
  out_names t fine =
      let first : messages_in (all_of t.handed) ≡ messages_in t.handed.sent =
      messages_in-append t.handed.sent t.handed.told
      ∙ ap (λ ws. messages_in t.handed.sent ++ ws) fine.told ∙ append-nil (messages_in t.handed.sent) in
      (first, subst (Names id) (sym first) fine.sent)

  out_so : (t : Turn) → IsFine id t
      → without_warnings (messages_in (all_of t.handed)) ≡ messages_in t.handed.sent
  out_so t fine =
      let n = out_names t fine in
      all_plain id (messages_in (all_of t.handed)) n.1 ∙ n.0

  says_turned : (row : Result Done Refusal) (r : Result Turn Refusal) (t : Turn) (q : Ends) (to : List Message)
      → row ≡ step.turned Connected (Ok t) → r ≡ Ok t → IsFine id t
      → Says (sent_by id row) q (pair.answers r (record q { to_x = to }))
  says_turned row r t q to is e fine =
      let all : without_warnings (sent_by id row) ≡ messages_in t.handed.sent =
      ap (λ d. without_warnings (sent_by id d)) is ∙ out_so t fine in
      subst (λ w. Says (sent_by id row) q (pair.answers w (record q { to_x = to }))) (sym e)
      (record { x = ap (λ ws. q.said_x ++ ws) (sym all); y = refl })

  -- it has made this turn and is saved, and has met its peer
  turned_so : (after : Refusal → State K → State K) (row : Result Done Refusal) (t : Turn) (p : Both K) (q : Ends)
      (ms to : List Message) → p.x.link ≡ link_of kx q.x_line q.x → row ≡ step.turned Connected (Ok t) → IsFine id t
      → IsInbox id Connected ms to → Mirrors id kx ky p q
      → Mirrors id kx ky (answers after id row (record { x = record p.x { inbox = ms }; y = p.y }))
      (saves (becomes t (record q { to_x = to })))
  turned_so after row t p q ms to works is fine in_x h =
      let d : Done = record { connection = Connected; stage = stage.Funded t.end; outputs = all_of t.handed } in
      let out : List Message = messages_in (all_of t.handed) in
      let names : Names id out = (out_names t fine).1 in
      let same : without_warnings out ≡ messages_in t.handed.sent = out_so t fine in
      subst (λ r. Mirrors id kx ky
      (answers after id r (record { x = record p.x { inbox = ms }; y = p.y }))
      (saves (becomes t (record q { to_x = to })))) (sym is) (record {
        x_halted = false;
        y_halted = h.y_halted;
        x_link = ap (settled d) works;
        y_link = reached_link id out p.y ∙ h.y_link;
        x_down = λ e. absurd (cc);
        y_down = h.y_down;
        x_in = in_x;
        y_in = subst (λ w. IsInbox id q.y_line (reaches out p.y).inbox (arrive q.y_line w q.to_y)) same
            (reached id q.y_line out q.to_y p.y (ap (λ (l : State K). l.connection) h.y_link) h.y_in
            (all_in id out names));
        x_channel = fine.channel;
        y_channel = h.y_channel;
        x_keys = h.x_keys;
        y_keys = reached_keys id out p.y ∙ h.y_keys;
      })

  -- it is this end of its channel now, on the same line, and sends warnings or nothing
  kept_so : (after : Refusal → State K → State K) (row row' : Result Done Refusal) (p : Both K) (q : Ends) (x : End)
      (ms to : List Message) (b : Bool) → p.x.link ≡ link_at b kx q.x_line q.x → (b ≡ true → is_down q.x_line ≡ true)
      → row ≡ row' → left after row' (link_at b kx q.x_line q.x) ≡ link_at b kx q.x_line x
      → x.dance.channel ≡ id → without_warnings (sent_by id row') ≡ [] → AreIn id (sent_by id row')
      → IsInbox id q.x_line ms to → Mirrors id kx ky p q
      → Mirrors id kx ky (answers after id row (record { x = record p.x { inbox = ms }; y = p.y }))
      (record q { x = x; to_x = to })
  kept_so after row row' p q x ms to b link down is stays channel none in_channel in_x h =
      subst (λ r. Mirrors id kx ky
      (answers after id r (record { x = record p.x { inbox = ms }; y = p.y }))
      (record q { x = x; to_x = to })) (sym is) (record {
        x_halted = b;
        y_halted = h.y_halted;
        x_link = ap (left after row') link ∙ stays;
        y_link = reached_link id (sent_by id row') p.y ∙ h.y_link;
        x_down = down;
        y_down = h.y_down;
        x_in = in_x;
        y_in = reached_aside id q.y_line (sent_by id row') q.to_y p.y (ap (λ (l : State K). l.connection) h.y_link) none
            h.y_in in_channel;
        x_channel = channel;
        y_channel = h.y_channel;
        x_keys = h.x_keys;
        y_keys = reached_keys id (sent_by id row') p.y ∙ h.y_keys;
      })

  -- it stays as it was
  still_so : (after : Refusal → State K → State K) (row row' : Result Done Refusal) (p : Both K) (q : Ends)
      (ms to : List Message) (b : Bool) → p.x.link ≡ link_at b kx q.x_line q.x → (b ≡ true → is_down q.x_line ≡ true)
      → row ≡ row' → left after row' (link_at b kx q.x_line q.x) ≡ link_at b kx q.x_line q.x
      → without_warnings (sent_by id row') ≡ [] → AreIn id (sent_by id row') → IsInbox id q.x_line ms to
      → Mirrors id kx ky p q
      → Mirrors id kx ky (answers after id row (record { x = record p.x { inbox = ms }; y = p.y }))
      (record q { to_x = to })
  still_so after row row' p q ms to b link down is stays none in_channel in_x h =
      kept_so after row row' p q q.x ms to b link down is stays h.x_channel none in_channel in_x h

  -- of a link that works
  works_on : (l : ConnectionState) → false ≡ true → is_down l ≡ true
  works_on l e = absurd (cc)

  -- ---- a message is delivered

  -- none is in flight to an end that is down
  pub is_up : (l : ConnectionState) (m : Message) (ms : List Message) → (is_down l ≡ true → m ∷ ms ≡ [])
      → is_down l ≡ false
  is_up Down m ms h = absurd (let no : m ∷ ms ≡ [] = h refl in cc)
  is_up AwaitingReestablish m ms h = refl
  is_up Connected m ms h = refl

  behind_it : (l : ConnectionState) (m : Message) (ms to : List Message) → is_down l ≡ false → without_warnings ms ≡ to
      → AreIn id ms → IsInbox id l ms to
  behind_it l m ms to up told named = record {
    told = told;
    named = named;
    down = λ e. absurd (let no : true ≡ false = sym e ∙ up in cc);
  }

  -- the ends do nothing, but that x may be saved
  abbrev pub Stays : Out → Both K → Ends → Type 0
  Stays out p q = (saved : Bool) × Mirrors id kx ky p (saved_if saved q) × IsAside out

  -- the ends come to this, and x may be saved after it
  abbrev pub Comes : Out → List machine.Move → List Output → Both K → Ends → Ends → Type 0
  Comes out ms os p q r = (saved : Bool) × Mirrors id kx ky p (saved_if saved r) × Says out.sent q r × Tells out ms os

  -- the ends do this, or nothing
  abbrev pub Goes : Role → Act → Out → Both K → Ends → Type 0
  Goes side a out p q = Stays out p q
      ⊎ Comes out (pair_moves.moves_of_act (signer kx) side a q) (told_in (signer kx) a q) p q
      (pair.acts (signer kx) a q)

  tells_taken : (side : Role) (p : Both K) (q : Ends) (m : Message) (ms to : List Message) → is_down q.x_line ≡ false
      → named m ≡ Some id → p.x.link ≡ link_of kx q.x_line q.x → Mirrors id kx ky p q
      → Tells (out_delivered signer id side (m ∷ ms) p.x.link)
      (pair_moves.moves_delivered (signer kx) side q.x_line (m ∷ to) q.x)
      (told_on (signer kx) q.x_line (m ∷ to) q.x)
  tells_taken side p q m ms to up is works h =
      let keys = signer kx in
      let row = handled_so keys kx id q.x_line m q.x up is h.x_channel in
      let at_row = message_at keys q.x_line m q.x in
      record {
        moves = sym (ap (λ (l : State K). moves_of_message side m l.stage (handled (signer l.keys) l m)) works
            ∙ ap (moves_of_message side m (stage.Funded q.x)) row ∙ same_moves side m q.x Connected at_row);
        told = sym (ap (λ (l : State K). outputs_of (handled (signer l.keys) l m)) works
            ∙ ap outputs_of row ∙ same_told Connected at_row);
      }

  of_channel : (side : Role) (p : Both K) (q : Ends) (m : Message) (ms to : List Message) → is_down q.x_line ≡ false
      → named m ≡ Some id → without_warnings ms ≡ to → AreIn id ms → p.x.link ≡ link_of kx q.x_line q.x
      → Mirrors id kx ky p q → Front (signer kx) q.x_line (m ∷ to) q.x
      → Comes (out_delivered signer id side (m ∷ ms) p.x.link)
      (pair_moves.moves_delivered (signer kx) side q.x_line (m ∷ to) q.x) (told_on (signer kx) q.x_line (m ∷ to) q.x)
      (answers refused id (handled (signer p.x.link.keys) p.x.link m)
      (record { x = record p.x { inbox = ms }; y = p.y })) q (pair.delivers (signer kx) (m ∷ to) q)
  of_channel side p q m ms to up is told named works h (inl f) =
      let keys = signer kx in
      let row : handled (signer p.x.link.keys) p.x.link m ≡ step.turned Connected (Ok f.0) =
      ap (λ (l : State K). handled (signer l.keys) l m) works
      ∙ handled_so keys kx id q.x_line m q.x up is h.x_channel ∙ ap (step.turned Connected) f.1 in
      let fine = fine_of id (message_at keys q.x_line m q.x) f.0 f.1 (fine_at keys id q.x_line m q.x h.x_channel) in (
        true,
        subst (λ r. Mirrors id kx ky (answers refused id (handled (signer p.x.link.keys) p.x.link m)
            (record { x = record p.x { inbox = ms }; y = p.y })) (saves (pair.answers r (record q { to_x = to }))))
            (sym f.1)
            (turned_so refused (handled (signer p.x.link.keys) p.x.link m) f.0 p q ms to works row fine
            (behind_it Connected m ms to refl told named) h),
        says_turned (handled (signer p.x.link.keys) p.x.link m) (message_at keys q.x_line m q.x) f.0 q to row f.1 fine,
        tells_taken side p q m ms to up is works h,
      )
  of_channel side p q m ms to up is told named works h (inr f) =
      let keys = signer kx in
      let row : handled (signer p.x.link.keys) p.x.link m ≡ Err refusal.FeeOutside =
      ap (λ (l : State K). handled (signer l.keys) l m) works
      ∙ handled_so keys kx id q.x_line m q.x up is h.x_channel ∙ ap (step.turned Connected) f.1 in (
        false,
        subst (λ r. Mirrors id kx ky (answers refused id (handled (signer p.x.link.keys) p.x.link m)
            (record { x = record p.x { inbox = ms }; y = p.y })) (pair.answers r (record q { to_x = to })))
            (sym f.1)
            (still_so refused (handled (signer p.x.link.keys) p.x.link m) (Err refusal.FeeOutside) p q ms to false works
            (works_on q.x_line) row refl refl (inl refl, tt) (behind_it q.x_line m ms to up told named) h),
        says_refused (sent_by id (handled (signer p.x.link.keys) p.x.link m)) (message_at keys q.x_line m q.x)
            refusal.FeeOutside q to f.1 (ap (λ d. without_warnings (sent_by id d)) row),
        tells_taken side p q m ms to up is works h,
      )

  delivered_by : (side : Role) (p : Both K) (q : Ends) (ms : List Message) → IsInbox id q.x_line ms q.to_x
      → Mirrors id kx ky p q → p.x.inbox ≡ ms → Front (signer kx) q.x_line q.to_x q.x
      → Goes side Deliver (out_delivered signer id side ms p.x.link) (delivers signer id ms p) q
  delivered_by side p q [] i h is f = inl (false, h, record { sent = refl; moves = refl; told = refl })
  delivered_by side p q (m ∷ ms) i h is f =
      let up = is_up q.x_line m ms i.down in
      let works = is_awake id kx ky p q h up in
      elim (i.named.0) [
        | inl warns ↦
            let row : handled (signer p.x.link.keys) p.x.link m
            ≡ Ok (record { connection = q.x_line; stage = stage.Funded q.x; outputs = [] }) =
            ap (λ (l : State K). handled (signer l.keys) l m) works
            ∙ passed_so (signer kx) kx id q.x_line m q.x warns in
            inl (
              true,
              kept_so refused (handled (signer p.x.link.keys) p.x.link m)
                  (Ok (record { connection = q.x_line; stage = stage.Funded q.x; outputs = [] })) p q
                  (based q.x) ms q.to_x
                  false works (works_on q.x_line) row refl h.x_channel refl tt
                  (behind_it q.x_line m ms q.to_x up
                  (sym (ap (λ b. cond b (without_warnings ms) (m ∷ without_warnings ms)) warns) ∙ i.told) i.named.1) h,
              record {
                sent = ap (λ d. without_warnings (sent_by id d)) row;
                moves = ap (λ (l : State K). moves_of_message side m l.stage (handled (signer l.keys) l m)) works
                    ∙ ap (moves_of_message side m (stage.Funded q.x)) (passed_so (signer kx) kx id q.x_line m q.x warns)
                    ∙ still side m q.x warns;
                told = ap outputs_of row;
              },
            )
        | inr own ↦
            let to : m ∷ without_warnings ms ≡ q.to_x =
            sym (ap (λ b. cond b (without_warnings ms) (m ∷ without_warnings ms))
            (plain id m own).warning) ∙ i.told in
            let went = subst (λ ws. Comes (out_delivered signer id side (m ∷ ms) p.x.link)
            (pair_moves.moves_delivered (signer kx) side q.x_line ws q.x) (told_on (signer kx) q.x_line ws q.x)
            (delivers signer id (m ∷ ms) p) q (pair.delivers (signer kx) ws q)) to
            (of_channel side p q m ms (without_warnings ms) up own refl i.named.1 works h
            (subst (λ ws. Front (signer kx) q.x_line ws q.x) (sym to) f)) in
            inr went
      ]

  pub delivered : (side : Role) (p : Both K) (q : Ends) → Mirrors id kx ky p q
      → Front (signer kx) q.x_line q.to_x q.x
      → Goes side Deliver (out_of signer id side act.Deliver p.x) (acts signer id act.Deliver p) q
  delivered side p q h f = delivered_by side p q p.x.inbox h.x_in h refl f

  -- ---- a command

  given_by : (c : Command) (r : Result Turn Refusal) (p : Both K) (q : Ends) → command_at (signer kx) q.x_line c q.x ≡ r
      → commanded (signer kx) (link_of kx q.x_line q.x) c ≡ step.turned q.x_line (command_at (signer kx) q.x_line c q.x)
      → p.x.link ≡ link_of kx q.x_line q.x → Mirrors id kx ky p q
      → (saved : Bool) × Mirrors id kx ky (acts signer id (act.Send c) p) (saved_if saved (pair.answers r q))
      × Says (act_sends signer id (act.Send c) p.x) q (pair.answers r q)
  given_by c (Ok t) p q e is works h =
      let keys = signer kx in
      let met : q.x_line ≡ Connected = obeyed_met (unready_fault c q.x) q.x_line (command_row keys c q.x) t e in
      let row : commanded (signer p.x.link.keys) p.x.link c ≡ step.turned Connected (Ok t) =
      ap (λ (l : State K). commanded (signer l.keys) l c) works ∙ is
      ∙ ap (λ l. step.turned l (command_at keys q.x_line c q.x)) met ∙ ap (step.turned Connected) e in
      let fine = fine_of id (command_at keys q.x_line c q.x) t e (fine_command keys id q.x_line c q.x h.x_channel) in (
        true,
        turned_so unchanged (commanded (signer p.x.link.keys) p.x.link c) t p q p.x.inbox q.to_x works row
            fine (subst (λ l. IsInbox id l p.x.inbox q.to_x) met h.x_in) h,
        says_turned (commanded (signer p.x.link.keys) p.x.link c) (Ok t) t q q.to_x row refl fine,
      )
  given_by c (Err r) p q e is works h =
      let keys = signer kx in
      let row : commanded (signer p.x.link.keys) p.x.link c ≡ Err r =
      ap (λ (l : State K). commanded (signer l.keys) l c) works ∙ is ∙ ap (step.turned q.x_line) e in
      let none : replies id r ≡ [] = silent_of id (command_at keys q.x_line c q.x) r e
      (silent_at id keys q.x_line c q.x) in (
        false,
        still_so unchanged (commanded (signer p.x.link.keys) p.x.link c) (Err r) p q p.x.inbox q.to_x false works
            (works_on q.x_line) row refl (ap without_warnings none) (subst (AreIn id) (sym none) tt) h.x_in h,
        says_refused (act_sends signer id (act.Send c) p.x) (Err r) r q q.to_x refl
            (ap (λ d. without_warnings (sent_by id d)) row ∙ ap without_warnings none),
      )

  -- a command that is obeyed by its row
  pub given : (side : Role) (c : Command) (p : Both K) (q : Ends)
      → commanded (signer kx) (link_of kx q.x_line q.x) c ≡ obeyed (signer kx) q.x_line c (stage.Funded q.x)
      → p.x.link ≡ link_of kx q.x_line q.x → Mirrors id kx ky p q
      → Comes (out_of signer id side (act.Send c) p.x) (pair_moves.moves_of_act (signer kx) side (Give c) q)
      (told_in (signer kx) (Give c) q) (acts signer id (act.Send c) p) q (pair.acts (signer kx) (Give c) q)
  given side c p q plain works h =
      let at_row = command_at (signer kx) q.x_line c q.x in
      let is = plain ∙ obeyed_so (signer kx) kx id q.x_line c q.x in
      let went = given_by c at_row p q refl is works h in (
        went.0,
        went.1,
        went.2,
        record {
          moves = sym (ap (λ (l : State K). moves_of_command side c l.stage (commanded (signer l.keys) l c)) works
              ∙ ap (moves_of_command side c (stage.Funded q.x)) is ∙ same_asked side c q.x q.x_line at_row);
          told = sym (ap (λ (l : State K). outputs_of (commanded (signer l.keys) l c)) works
              ∙ ap outputs_of is ∙ same_told q.x_line at_row);
        },
      )

  -- a decision, which changes the ledger alone
  noted_by : (side : Role) (c : Command) (r : Result Ledger Refusal) (p : Both K) (q : Ends) → ledgered c q.x ≡ r
      → IsNotReady r
      → commanded (signer kx) (link_of kx q.x_line q.x) c ≡ step.turned q.x_line (with_ledger (ledgered c q.x) q.x)
      → moves_asked side c q.x ≡ [] → p.x.link ≡ link_of kx q.x_line q.x → Mirrors id kx ky p q
      → Comes (out_of signer id side (act.Send c) p.x) [] [] (acts signer id (act.Send c) p) q
      (pair.acts (signer kx) (Note c) q)
  noted_by side c (Ok l) p q e ready is none works h =
      let x : End = record q.x { ledger = l } in
      let done : Result Done Refusal =
      Ok (record { connection = q.x_line; stage = stage.Funded x; outputs = [] }) in
      let row : commanded (signer p.x.link.keys) p.x.link c ≡ done =
      ap (λ (k : State K). commanded (signer k.keys) k c) works ∙ is
      ∙ ap (λ z. step.turned q.x_line (with_ledger z q.x)) e in (
        true,
        subst (λ z. Mirrors id kx ky (acts signer id (act.Send c) p)
            (saves (record q { x = record q.x { ledger = ledger_behind z q.x.ledger } }))) (sym e)
            (kept_so unchanged (commanded (signer p.x.link.keys) p.x.link c) done p q (based x) p.x.inbox q.to_x false
            works (works_on q.x_line) row refl h.x_channel refl tt h.x_in h),
        record {
          x = sym (ap (λ d. q.said_x ++ without_warnings (sent_by id d)) row ∙ append-nil q.said_x);
          y = refl;
        },
        record {
          moves = sym (ap (λ (k : State K). moves_of_command side c k.stage
              (commanded (signer p.x.link.keys) p.x.link c)) works
              ∙ ap (moves_of_command side c (stage.Funded q.x)) row ∙ none);
          told = sym (ap outputs_of row);
        },
      )
  noted_by side c (Err r) p q e ready is none works h =
      let row : commanded (signer p.x.link.keys) p.x.link c ≡ Err refusal.NotReady =
      ap (λ (k : State K). commanded (signer k.keys) k c) works ∙ is
      ∙ ap (λ z. step.turned q.x_line (with_ledger z q.x)) e ∙ ap Err ready in (
        false,
        subst (λ z. Mirrors id kx ky (acts signer id (act.Send c) p)
            (record q { x = record q.x { ledger = ledger_behind z q.x.ledger } })) (sym e)
            (still_so unchanged (commanded (signer p.x.link.keys) p.x.link c) (Err refusal.NotReady) p q p.x.inbox
            q.to_x false works (works_on q.x_line) row refl refl tt h.x_in h),
        record {
          x = sym (ap (λ d. q.said_x ++ without_warnings (sent_by id d)) row ∙ append-nil q.said_x);
          y = refl;
        },
        record {
          moves = sym (ap (λ (k : State K). moves_of_command side c k.stage
              (commanded (signer p.x.link.keys) p.x.link c)) works
              ∙ ap (moves_of_command side c (stage.Funded q.x)) row);
          told = sym (ap outputs_of row);
        },
      )

  pub noted : (side : Role) (c : Command) (p : Both K) (q : Ends)
      → commanded (signer kx) (link_of kx q.x_line q.x) c ≡ step.turned q.x_line (with_ledger (ledgered c q.x) q.x)
      → moves_asked side c q.x ≡ [] → p.x.link ≡ link_of kx q.x_line q.x → Mirrors id kx ky p q
      → Comes (out_of signer id side (act.Send c) p.x) [] [] (acts signer id (act.Send c) p) q
      (pair.acts (signer kx) (Note c) q)
  noted side c p q is none works h = noted_by side c (ledgered c q.x) p q refl (not_ready c q.x) is none works h

  -- a link that has halted answers 62 to any, and is as it was
  pub refuses_halted : (side : Role) (c : Command) (p : Both K) (q : Ends) → p.x.link.halted ≡ true
      → Mirrors id kx ky p q
      → Stays (out_of signer id side (act.Send c) p.x) (acts signer id (act.Send c) p) q
  refuses_halted side c p q halted h =
      let row : commanded (signer p.x.link.keys) p.x.link c ≡ Err refusal.Halted =
      ap (λ b. cond b (Err refusal.Halted) (asked (signer p.x.link.keys) p.x.link c)) halted in (
        false,
        still_so unchanged (commanded (signer p.x.link.keys) p.x.link c) (Err refusal.Halted) p q p.x.inbox q.to_x
            h.x_halted h.x_link h.x_down row refl refl tt h.x_in h,
        record {
          sent = ap (λ d. without_warnings (sent_by id d)) row;
          moves = ap (moves_of_command side c p.x.link.stage) row;
          told = ap outputs_of row;
        },
      )

  -- ---- a connection is lost

  falls_by : (b : Bool) (p : Both K) (q : Ends) → is_down q.x_line ≡ b → Mirrors id kx ky p q
      → Mirrors id kx ky (disconnects p) (cond b q (record q { x_line = Down; x = end_dropped q.x; to_x = [] }))
  falls_by true p q e h = record {
    x_halted = h.x_halted;
    y_halted = h.y_halted;
    x_link = ap drops h.x_link ∙ ap (λ b. cond b (link_at h.x_halted kx q.x_line q.x)
        (link_at h.x_halted kx Down (end_dropped q.x))) e;
    y_link = h.y_link;
    x_down = h.x_down;
    y_down = h.y_down;
    x_in = record {
      told = ap without_warnings (sym (h.x_in.down e)) ∙ h.x_in.told;
      named = tt;
      down = λ d. refl;
    };
    y_in = h.y_in;
    x_channel = h.x_channel;
    y_channel = h.y_channel;
    x_keys = h.x_keys;
    y_keys = h.y_keys;
  }
  falls_by false p q e h = record {
    x_halted = h.x_halted;
    y_halted = h.y_halted;
    x_link = ap drops h.x_link ∙ ap (λ b. cond b (link_at h.x_halted kx q.x_line q.x)
        (link_at h.x_halted kx Down (end_dropped q.x))) e;
    y_link = h.y_link;
    x_down = λ d. refl;
    y_down = h.y_down;
    x_in = record { told = refl; named = tt; down = λ d. refl };
    y_in = h.y_in;
    x_channel = h.x_channel;
    y_channel = h.y_channel;
    x_keys = h.x_keys;
    y_keys = h.y_keys;
  }

  pub fell : (p : Both K) (q : Ends) → Mirrors id kx ky p q
      → Mirrors id kx ky (disconnects p) (pair.acts (signer kx) Lose q)
  fell p q h = falls_by (is_down q.x_line) p q refl h

  was_down : (l : ConnectionState) → is_down l ≡ true → l ≡ Down
  was_down Down e = refl
  was_down AwaitingReestablish e = absurd (cc)
  was_down Connected e = absurd (cc)

  now_down : (b : Bool) (q : Ends) → is_down q.x_line ≡ b
      → is_down (cond b q (record q { x_line = Down; x = end_dropped q.x; to_x = [] })).x_line ≡ true
  now_down true q e = e
  now_down false q e = refl

  -- ---- an end halts, which is a lost connection too

  pub halted_so : (p : Both K) (q : Ends) → Mirrors id kx ky p q
      → Mirrors id kx ky (halts p) (pair.acts (signer kx) Lose q)
  halted_so p q h =
      let g = fell p q h in
      record {
        x_halted = true;
        y_halted = g.y_halted;
        x_link = ap (λ (l : State K). record l { halted = true }) g.x_link;
        y_link = g.y_link;
        x_down = λ e. now_down (is_down q.x_line) q refl;
        y_down = g.y_down;
        x_in = g.x_in;
        y_in = g.y_in;
        x_channel = g.x_channel;
        y_channel = g.y_channel;
        x_keys = g.x_keys;
        y_keys = g.y_keys;
      }

  -- ---- the node of an end restarts: it comes back as a lost connection leaves an end that hasn't halted

  back_by : (b : Bool) (q : Ends) → is_down q.x_line ≡ b → IsDropped q.x_line q.x
      → link_of kx Down (end_dropped q.x)
      ≡ link_of kx (cond b q (record q { x_line = Down; x = end_dropped q.x; to_x = [] })).x_line
      (cond b q (record q { x_line = Down; x = end_dropped q.x; to_x = [] })).x
  back_by true q is d = ap (link_of kx Down) (d is) ∙ ap (λ l. link_of kx l q.x) (sym (was_down q.x_line is))
  back_by false q is d = refl

  pub restarted_so : (p : Both K) (q : Ends) → IsDropped q.x_line q.x → Mirrors id kx ky p q
      → Mirrors id kx ky (restarts p) (pair.acts (signer kx) Lose q)
  restarted_so p q d h =
      let g = fell p q h in
      record {
        x_halted = false;
        y_halted = g.y_halted;
        x_link = ap (λ k. back k p.x.link (saved_end p.x.link.stage)) h.x_keys
            ∙ ap (λ (l : State K). back kx l (saved_end l.stage)) h.x_link
            ∙ back_by (is_down q.x_line) q refl d;
        y_link = g.y_link;
        x_down = λ e. absurd (cc);
        y_down = g.y_down;
        x_in = g.x_in;
        y_in = g.y_in;
        x_channel = g.x_channel;
        y_channel = g.y_channel;
        x_keys = g.x_keys;
        y_keys = g.y_keys;
      }

  -- ---- a connection comes up

  -- both links work
  pub record AreAwake (p : Both K) (q : Ends) : Type 0 where
    pub x : p.x.link ≡ link_of kx q.x_line q.x
    pub y : p.y.link ≡ link_of ky q.y_line q.y

  -- what is sent over it
  abbrev again : K → End → List Message
  again k e = message.ChannelReestablish (reestablish_message (signer k) e.dance) ∷ []

  up_link : (k : K) (e : End) (l : State K) → l ≡ link_of k Down e
      → greeted (first_message signer l) l ≡ link_of k AwaitingReestablish e
  up_link k e l is = ap (λ (w : State K). greeted (first_message signer w) w) is

  up_sent : (k : K) (e : End) (l : State K) → l ≡ link_of k Down e → greets (first_message signer l) ≡ again k e
  up_sent k e l is = ap (λ (w : State K). greets (first_message signer w)) is

  up_in : (k : K) (e : End) (other : State K) (p : SimEnd K) (from : K) (f : End) → p.link ≡ link_of k Down e
      → other ≡ link_of from Down f → f.dance.channel ≡ id → p.inbox ≡ []
      → IsInbox id AwaitingReestablish (reaches (greets (first_message signer other))
      (comes_up signer p)).inbox (again from f)
  up_in k e other p from f is are channel none =
      subst (λ ws. IsInbox id AwaitingReestablish (reaches ws (comes_up signer p)).inbox (again from f))
      (sym (up_sent from f other are))
      (reached id AwaitingReestablish (again from f) [] (comes_up signer p)
      (ap (λ (l : State K). l.connection) (up_link k e p.link is))
      (subst (λ ws. IsInbox id AwaitingReestablish ws []) (sym none)
      (record { told = refl; named = tt; down = λ e. refl }))
      (inr (ap Some channel), tt))

  meets_by : (p : Both K) (q : Ends) (lx ly : ConnectionState) → q.x_line ≡ lx → q.y_line ≡ ly → lx ≡ Down → ly ≡ Down
      → AreAwake p q → Mirrors id kx ky p q
      → Mirrors id kx ky (meet signer p) (pair.connects (signer kx) (signer ky) lx ly q)
  meets_by p q Down Down ex ey dx dy work h =
      let x_is : p.x.link ≡ link_of kx Down q.x = work.x ∙ ap (λ l. link_of kx l q.x) ex in
      let y_is : p.y.link ≡ link_of ky Down q.y = work.y ∙ ap (λ l. link_of ky l q.y) ey in
      record {
        x_halted = false;
        y_halted = false;
        x_link = reached_link id (greets (first_message signer p.y.link)) (comes_up signer p.x)
            ∙ up_link kx q.x p.x.link x_is;
        y_link = reached_link id (greets (first_message signer p.x.link)) (comes_up signer p.y)
            ∙ up_link ky q.y p.y.link y_is;
        x_down = λ e. absurd (cc);
        y_down = λ e. absurd (cc);
        x_in = up_in kx q.x p.y.link p.x ky q.y x_is y_is h.y_channel (h.x_in.down (ap is_down ex));
        y_in = up_in ky q.y p.x.link p.y kx q.x y_is x_is h.x_channel (h.y_in.down (ap is_down ey));
        x_channel = h.x_channel;
        y_channel = h.y_channel;
        x_keys = reached_keys id (greets (first_message signer p.y.link)) (comes_up signer p.x) ∙ h.x_keys;
        y_keys = reached_keys id (greets (first_message signer p.x.link)) (comes_up signer p.y) ∙ h.y_keys;
      }
  meets_by p q Down AwaitingReestablish ex ey dx dy work h = absurd (cc)
  meets_by p q Down Connected ex ey dx dy work h = absurd (cc)
  meets_by p q AwaitingReestablish ly ex ey dx dy work h = absurd (cc)
  meets_by p q Connected ly ex ey dx dy work h = absurd (cc)

  pub met : (p : Both K) (q : Ends) → is_down p.x.link.connection ≡ true → is_down p.y.link.connection ≡ true
      → AreAwake p q → Mirrors id kx ky p q
      → Mirrors id kx ky (meet signer p) (pair.connects (signer kx) (signer ky) q.x_line q.y_line q)
  met p q dx dy work h =
      let lx : is_down q.x_line ≡ true = ap (λ (l : State K). is_down l.connection) (sym h.x_link) ∙ dx in
      let ly : is_down q.y_line ≡ true = ap (λ (l : State K). is_down l.connection) (sym h.y_link) ∙ dy in
      meets_by p q q.x_line q.y_line refl refl (was_down q.x_line lx) (was_down q.y_line ly) work h

  -- both have said where they stand
  said_met : (p : Both K) (q : Ends) (lx ly : ConnectionState) → q.x_line ≡ lx → q.y_line ≡ ly → lx ≡ Down → ly ≡ Down
      → AreAwake p q
      → ((pair.connects (signer kx) (signer ky) lx ly q).said_x
      ≡ q.said_x ++ without_warnings (greets (first_message signer p.x.link)))
      × ((pair.connects (signer kx) (signer ky) lx ly q).said_y
      ≡ q.said_y ++ without_warnings (greets (first_message signer p.y.link)))
  said_met p q Down Down ex ey dx dy work = (
    ap (λ ws. q.said_x ++ without_warnings ws)
        (sym (up_sent kx q.x p.x.link (work.x ∙ ap (λ l. link_of kx l q.x) ex))),
    ap (λ ws. q.said_y ++ without_warnings ws)
        (sym (up_sent ky q.y p.y.link (work.y ∙ ap (λ l. link_of ky l q.y) ey))),
  )
  said_met p q Down AwaitingReestablish ex ey dx dy work = absurd (cc)
  said_met p q Down Connected ex ey dx dy work = absurd (cc)
  said_met p q AwaitingReestablish ly ex ey dx dy work = absurd (cc)
  said_met p q Connected ly ex ey dx dy work = absurd (cc)

  pub met_says : (p : Both K) (q : Ends) → is_down p.x.link.connection ≡ true → is_down p.y.link.connection ≡ true
      → AreAwake p q → Mirrors id kx ky p q
      → ((pair.connects (signer kx) (signer ky) q.x_line q.y_line q).said_x
      ≡ q.said_x ++ without_warnings (greets (first_message signer p.x.link)))
      × ((pair.connects (signer kx) (signer ky) q.x_line q.y_line q).said_y
      ≡ q.said_y ++ without_warnings (greets (first_message signer p.y.link)))
  met_says p q dx dy work h =
      let lx : is_down q.x_line ≡ true = ap (λ (l : State K). is_down l.connection) (sym h.x_link) ∙ dx in
      let ly : is_down q.y_line ≡ true = ap (λ (l : State K). is_down l.connection) (sym h.y_link) ∙ dy in
      said_met p q q.x_line q.y_line refl refl (was_down q.x_line lx) (was_down q.y_line ly) work

  -- what is handed out over it is this message alone
  no_events : (k : K) (e : End) (l : State K) → l ≡ link_of k Down e
      → events_in (outputs_of (first_message signer l)) ≡ []
  no_events k e l is = ap (λ (w : State K). events_in (outputs_of (first_message signer w))) is

  pub met_tells : (p : Both K) (q : Ends) → is_down p.x.link.connection ≡ true → is_down p.y.link.connection ≡ true
      → AreAwake p q → Mirrors id kx ky p q
      → (events_in (outputs_of (first_message signer p.x.link)) ≡ [])
      × (events_in (outputs_of (first_message signer p.y.link)) ≡ [])
  met_tells p q dx dy work h =
      let lx : is_down q.x_line ≡ true = ap (λ (l : State K). is_down l.connection) (sym h.x_link) ∙ dx in
      let ly : is_down q.y_line ≡ true = ap (λ (l : State K). is_down l.connection) (sym h.y_link) ∙ dy in (
        no_events kx q.x p.x.link (work.x ∙ ap (λ l. link_of kx l q.x) (was_down q.x_line lx)),
        no_events ky q.y p.y.link (work.y ∙ ap (λ l. link_of ky l q.y) (was_down q.y_line ly)),
      )

-- a connection that is lost says nothing
pub lost_says : (down : Bool) (q r : Ends) → r.said_x ≡ q.said_x → r.said_y ≡ q.said_y
    → ((cond down q r).said_x ≡ q.said_x) × ((cond down q r).said_y ≡ q.said_y)
lost_says true q r x y = (refl, refl)
lost_says false q r x y = (x, y)
