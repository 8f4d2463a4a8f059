-- Over every list of steps the numbers of either end's commitments and revocations only grow.
use Rattle.std.proofs.Common.{◌≡◌, ℕ, ◌≤◌, refl, sym, subst, arith, Bool, true, false, cond, not, ◌||◌, Option, Some}
use Rattle.std.proofs.Common.{None}
use Rattle.std.proofs.Common.{List, [], ◌∷◌, Result, Ok, Err}
use Rattle.ln_bytes.specs.Same.{are_same}
use Rattle.ln_msgs.specs.declared.messages.message.Message.{Message}
use Rattle.ln_msgs.specs.declared.messages.message.Message.TheVariants as message
use Rattle.ln_msgs.specs.declared.messages.closing.ClosingSigned.{ClosingSigned}
use Rattle.ln_msgs.specs.declared.messages.closing.Shutdown.{Shutdown}
use Rattle.ln_msgs.specs.declared.messages.opening.ChannelReady.{ChannelReady}
use Rattle.ln_refusals.specs.declared.refusal.Refusal.{Refusal}
use Rattle.ln_refusals.specs.declared.refusal.Refusal.TheVariants as refusal
use Rattle.ln_keys.specs.declared.role.Role.TheVariants.{Funder, Fundee}
use Rattle.ln_keys.specs.Signer.{Signer}
use Rattle.ln_log.specs.declared.update.Update.{Update}
use Rattle.ln_log.specs.declared.update.Update.TheVariants as update
use Rattle.ln_log.specs.Updates.{next_id}
use Rattle.ln_dance.specs.declared.dance.Numbers.{Numbers}
use Rattle.ln_dance.specs.Dance.{learn_fault, with_next_point}
use Rattle.ln_dance.specs.Messages.{add_of, fulfil_of, fail_of, malformed_of, fee_of, update_message}
use Rattle.ln_dance.specs.Resume.{resume_fault}
use Rattle.ln_close.specs.declared.closing.FeeAnswer.{FeeAnswer}
use Rattle.ln_close.specs.Closing.{after_shut, may_start, answer_to}
use Rattle.ln_channel.specs.declared.command.Command.{Command}
use Rattle.ln_channel.specs.declared.command.Command.TheVariants as command
use Rattle.ln_channel.specs.declared.machine.ConnectionState.{ConnectionState}
use Rattle.ln_channel.specs.declared.machine.ConnectionState.TheVariants.{Down, AwaitingReestablish, Connected}
use Rattle.ln_channel.specs.Opening.{unless}
use Rattle.ln_channel.specs.End.{End, Turn, has_begun, is_closed, owes_shutdown, answers_shutdown, settled, completed}
use Rattle.ln_channel.specs.End.{quiet, sending, end_dropped, shutdown_message}
use Rattle.ln_channel.specs.Taking.{takes, takes_ready, update_fault, signature_fault, accepts, accepting, revokes}
use Rattle.ln_channel.specs.Taking.{learning, shuts_by_peer, shutdown_at, answered, range_in, message_row}
use Rattle.ln_channel.specs.Taking.{completed_row, update_row}
use Rattle.ln_channel.specs.Commands.{confirm_fault, confirmed, ready_message, propose_fault, propose_row, proposes}
use Rattle.ln_channel.specs.Commands.{sign_command_fault, shut_fault, shuts_down, command_row, unready_fault}
use Rattle.ln_channel.specs.Resume.{resumed}
use Rattle.ln_channel.specs.State.{is_down}
use Rattle.ln_channel.specs.Step.{faulted, line_fault}
use Rattle.ln_channel_laws.specs.Ends.{Ends, turned, message_at, command_at, answers, delivers, Act, Deliver}
use Rattle.ln_channel_laws.specs.Ends.{Give, Note}
use Rattle.ln_channel_laws.specs.Ends.{Lose, Cut, Save, still_come, acts, connects, Step, By, Connect, happens, run}

pub record AreFurther (m n : Numbers) : Type 0 where
  pub commitment : m.commitment ≤ n.commitment
  pub revoked : m.revoked ≤ n.revoked

-- n is what has become of e
abbrev pub Grows : End → End → Type 0
Grows e n = AreFurther e.dance.numbers n.dance.numbers

same : (e : End) → Grows e e
same e = record { commitment = omega arith; revoked = omega arith }

further : (e m n : End) → Grows e m → Grows m n → Grows e n
further e m n g h =
    let c = g.commitment in
    let d = h.commitment in
    let r = g.revoked in
    let s = h.revoked in
    record { commitment = omega (arith, c, d); revoked = omega (arith, r, s) }

-- ---- a turn

abbrev GrowsBy : End → Result Turn Refusal → Type 0
GrowsBy e (Ok t) = Grows e t.end
GrowsBy e (Err r) = Unit {0}

either : (b : Bool) (o e f : End) → Grows o e → Grows o f → Grows o (cond b e f)
either true o e f h k = h
either false o e f h k = k

settled_so : (o e : End) → Grows o e → Grows o (settled e)
settled_so o e h =
    let n = answers_shutdown e in
    begun (has_begun n) (may_start n.closing) n
    (either (owes_shutdown e) o (record e { closing = after_shut e.closing }) e (record {
      commitment = h.commitment;
      revoked = h.revoked;
    }) h)
  where
    begun : (t s : Bool) (n : End) → Grows o n → Grows o
        (cond t (record n { closing = cond s (record n.closing { own_fee = Some n.closing.fees.first }) n.closing }) n)
    begun true s n k = record { commitment = k.commitment; revoked = k.revoked }
    begun false s n k = k

unless_so : (o : End) (f : Option Refusal) (t : Turn) → Grows o t.end → GrowsBy o (unless f t)
unless_so o None t h = h
unless_so o (Some r) t h = tt

completed_so : (keys : Signer) (o : End) (r : Result Turn Refusal) → GrowsBy o r → GrowsBy o (completed_row keys r)
completed_so keys o (Ok t) h = settled_so o t.end h
completed_so keys o (Err r) h = tt

-- ---- a message

ready_so : (m : ChannelReady) (e : End) → Grows e (takes_ready m e)
ready_so m e = by (e.readiness.ready_received || is_closed e)
  where
    by : (b : Bool) → Grows e (cond b e (record e {
      readiness = record {
        short_id = e.readiness.short_id;
        ready_sent = e.readiness.ready_sent;
        ready_received = true;
      };
      dance = with_next_point m.second_point e.dance;
    }))
    by true = same e
    by false = same e

update_so : (u : Update) (e : End) → GrowsBy e (update_row u e)
update_so u e = unless_so e (update_fault e u) (quiet (takes u e)) (same e)

shutdown_so : (script : Option (List ℕ)) (m : Shutdown) (e : End) → GrowsBy e (shutdown_at script m e)
shutdown_so None m e = same e
shutdown_so (Some script) m e = by (are_same script m.script)
  where
    by : (b : Bool) → GrowsBy e (cond b (Ok (quiet e)) (Err refusal.OutOfPlace))
    by true = same e
    by false = tt

fee_so : (keys : Signer) (m : ClosingSigned) (e : End) (begun right : Bool) (r : Result FeeAnswer Refusal)
    → GrowsBy e (cond (not begun) (Err refusal.OutOfPlace)
    (cond right (answered keys m e r) (Err refusal.SignatureWrong)))
fee_so keys m e true true (Ok a) = same e
fee_so keys m e true true (Err r) = tt
fee_so keys m e true false r = tt
fee_so keys m e false right r = tt

row_so : (keys : Signer) (m : Message) (e : End) → GrowsBy e (message_row keys m e)
row_so keys (message.ChannelReady m) e = ready_so m e
row_so keys (message.UpdateAddHtlc m) e = update_so (update.Add (add_of m)) e
row_so keys (message.UpdateFulfillHtlc m) e = update_so (update.Fulfil (fulfil_of m)) e
row_so keys (message.UpdateFailHtlc m) e = update_so (update.Fail (fail_of m)) e
row_so keys (message.UpdateFailMalformedHtlc m) e = update_so (update.Malformed (malformed_of m)) e
row_so keys (message.UpdateFee m) e = update_so (update.Fee (fee_of m)) e
row_so keys (message.CommitmentSigned m) e =
    unless_so e (signature_fault keys m e) (accepting keys e.dance.log.current.own e (accepts e)) (record {
      commitment = omega arith;
      revoked = omega arith;
    })
row_so keys (message.RevokeAndAck m) e =
    unless_so e (learn_fault keys m e.dance) (learning e.dance.log.acknowledged.peer (revokes m e)) (record {
      commitment = omega arith;
      revoked = omega arith;
    })
row_so keys (message.Shutdown m) e = shutdown_so e.terms.peer_script m e
row_so keys (message.ClosingSigned m) e =
    fee_so keys m e (has_begun e) (keys.accepts_close m.fee_satoshis m.signature)
    (answer_to e.closing m.fee_satoshis (range_in m))
row_so keys m e = tt

message_so : (keys : Signer) (l : ConnectionState) (m : Message) (e : End) → GrowsBy e (message_at keys l m e)
message_so keys Down m e = tt
message_so keys Connected m e = completed_so keys e (message_row keys m e) (row_so keys m e)
message_so keys AwaitingReestablish (message.ChannelReestablish m) e =
    unless_so e (resume_fault keys m e.dance) (completed keys (resumed keys m e)) (settled_so e e (same e))
message_so keys AwaitingReestablish m e = tt

-- ---- a command

propose_so : (u : Update) (e : End) → GrowsBy e (propose_row u e)
propose_so u e = unless_so e (propose_fault e u) (sending (update_message e.dance.channel u) (proposes u e)) (same e)

given_so : (keys : Signer) (c : Command) (e : End) → GrowsBy e (command_row keys c e)
given_so keys (command.Confirm id) e =
    unless_so e (confirm_fault e) (sending (message.ChannelReady (ready_message keys e)) (confirmed id e)) (same e)
given_so keys (command.Add amount hash expiry onion origin) e = propose_so (update.Add (record {
  id = next_id e.dance.log.own;
  amount = amount;
  hash = hash;
  expiry = expiry;
  onion = onion;
  origin = origin;
})) e
given_so keys (command.Fulfil id preimage) e = propose_so (update.Fulfil (record { id = id; preimage = preimage })) e
given_so keys (command.Fail id reason) e = propose_so (update.Fail (record { id = id; reason = reason })) e
given_so keys (command.Malformed id sha code) e =
    propose_so (update.Malformed (record { id = id; sha256_of_onion = sha; failure_code = code })) e
given_so keys (command.Fee feerate) e = propose_so (update.Fee (record { feerate = feerate })) e
given_so keys command.Sign e = unless_so e (sign_command_fault e) _ (record {
  commitment = omega arith;
  revoked = omega arith;
})
given_so keys (command.Shutdown script) e =
    let n = shuts_down script e in
    unless_so e (shut_fault script e) (completed keys (sending (message.Shutdown (shutdown_message n)) n))
    (settled_so e n (record { commitment = omega arith; revoked = omega arith }))
given_so keys (command.Decide event mark) e = tt
given_so keys (command.Forget id) e = tt
given_so keys (command.Resume event mark) e = tt

faulted_so : (e : End) (f : Option Refusal) (r : Result Turn Refusal) → GrowsBy e r → GrowsBy e (faulted f r)
faulted_so e None r h = h
faulted_so e (Some f) r h = tt

command_so : (keys : Signer) (l : ConnectionState) (c : Command) (e : End) → GrowsBy e (command_at keys l c e)
command_so keys l c e = faulted_so e (unready_fault c e) (faulted (line_fault l) (command_row keys c e))
    (faulted_so e (line_fault l) (command_row keys c e) (given_so keys c e))

-- ---- a step

record Stays (p q : Ends) : Type 0 where
  x : Grows p.x q.x
  y : q.y ≡ p.y

answered_so : (r : Result Turn Refusal) (p q : Ends) → q.x ≡ p.x → q.y ≡ p.y → GrowsBy p.x r → Stays p (answers r q)
answered_so (Ok t) p q ex ey h = record { x = h; y = ey }
answered_so (Err r) p q ex ey h = record { x = subst (Grows p.x) (sym ex) (same p.x); y = ey }

delivered_so : (keys : Signer) (ms : List Message) (p : Ends) → Stays p (delivers keys ms p)
delivered_so keys [] p = record { x = same p.x; y = refl }
delivered_so keys (m ∷ ms) p =
    answered_so (message_at keys p.x_line m p.x) p (record p { to_x = ms }) refl refl (message_so keys p.x_line m p.x)

lost_so : (b : Bool) (p : Ends) → Stays p (cond b p (record p { x_line = Down; x = end_dropped p.x; to_x = [] }))
lost_so true p = record { x = same p.x; y = refl }
lost_so false p = record { x = record { commitment = omega arith; revoked = omega arith }; y = refl }

cut_so : (b : Bool) (n : ℕ) (p : Ends) → Stays p (cond b (record p { to_y = still_come n p.y_line p.to_y }) p)
cut_so true n p = record { x = same p.x; y = refl }
cut_so false n p = record { x = same p.x; y = refl }

acts_so : (keys : Signer) (act : Act) (p : Ends) → Stays p (acts keys act p)
acts_so keys Deliver p = delivered_so keys p.to_x p
acts_so keys (Give c) p = answered_so (command_at keys p.x_line c p.x) p p refl refl (command_so keys p.x_line c p.x)
acts_so keys (Note c) p = record { x = record { commitment = omega arith; revoked = omega arith }; y = refl }
acts_so keys Lose p = lost_so (is_down p.x_line) p
acts_so keys (Cut n) p = cut_so (is_down p.x_line) n p
acts_so keys Save p = record { x = record { commitment = omega arith; revoked = omega arith }; y = refl }

pub record BothGrow (p q : Ends) : Type 0 where
  pub x : Grows p.x q.x
  pub y : Grows p.y q.y

both_same : (p : Ends) → BothGrow p p
both_same p = record { x = same p.x; y = same p.y }

connects_so : (a b : Signer) (lx ly : ConnectionState) (p : Ends) → BothGrow p (connects a b lx ly p)
connects_so a b Down Down p = record { x = same p.x; y = same p.y }
connects_so a b Down AwaitingReestablish p = both_same p
connects_so a b Down Connected p = both_same p
connects_so a b AwaitingReestablish l p = both_same p
connects_so a b Connected l p = both_same p

happens_so : (a b : Signer) (s : Step) (p : Ends) → BothGrow p (happens a b s p)
happens_so a b (By Funder act) p =
    let s = acts_so a act p in
    record { x = s.x; y = subst (Grows p.y) (sym s.y) (same p.y) }
happens_so a b (By Fundee act) p =
    let s = acts_so b act (turned p) in
    record { x = subst (Grows p.x) (sym s.y) (same p.x); y = s.x }
happens_so a b Connect p = connects_so a b p.x_line p.y_line p

pub numbers_grow : (a b : Signer) (ss : List Step) (p : Ends) → BothGrow p (run a b ss p)
numbers_grow a b [] p = both_same p
numbers_grow a b (s ∷ ss) p =
    let q = happens a b s p in
    let one = happens_so a b s p in
    let more = numbers_grow a b ss q in
    record {
      x = further p.x q.x (run a b ss q).x one.x more.x;
      y = further p.y q.y (run a b ss q).y one.y more.y;
    }
