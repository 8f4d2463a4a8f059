-- Over every list of steps whose commands are as wide as they are in code, what both ends keep is wide, and of the
-- opening they keep what they began with.
use Rattle.std.proofs.Common.{◌≡◌, ◌≤◌, ℕ, List, [], ◌∷◌, length, refl, sym, ap, subst, arith, Bool, true}
use Rattle.std.proofs.Common.{false, cond, Option, Some, None, Result, Ok, Err}
use Rattle.ln_msgs.specs.Messages.Channel.{id_of_channel}
use Rattle.ln_msgs.specs.declared.messages.message.Message.{Message}
use Rattle.ln_msgs.specs.declared.messages.opening.AcceptChannel.{AcceptChannel}
use Rattle.ln_msgs.specs.declared.messages.opening.FundingCreated.{FundingCreated}
use Rattle.ln_refusals.specs.declared.refusal.Refusal.{Refusal}
use Rattle.ln_keys.specs.declared.role.Role.{Role}
use Rattle.ln_keys.specs.declared.role.Role.TheVariants.{Funder, Fundee}
use Rattle.ln_keys.specs.Signer.{Signer}
use Rattle.ln_close.specs.declared.closing.Fees.{Fees}
use Rattle.ln_channel.specs.declared.config.Config.{Config}
use Rattle.ln_channel.specs.declared.config.OpenSpec.{OpenSpec}
use Rattle.ln_channel.specs.declared.machine.ConnectionState.{ConnectionState}
use Rattle.ln_channel.specs.declared.machine.ConnectionState.TheVariants.{Down, AwaitingReestablish, Connected}
use Rattle.ln_channel.specs.declared.opening.Opened.{Opened}
use Rattle.ln_channel.specs.declared.opening.Terms.{Terms}
use Rattle.ln_channel.specs.Opening.{Agreement, opened_by, open_message, open_fault, agreement, accept_message}
use Rattle.ln_channel.specs.Opening.{accept_fault, funder_end, created_message, created_fault, fundee_end}
use Rattle.ln_channel.specs.Opening.{funder_terms}
use Rattle.ln_channel.specs.Config.{fees_of}
use Rattle.ln_channel.specs.Meeting.{Opens}
use Rattle.ln_channel.specs.Base.{entering, is_open, based}
use Rattle.ln_channel.specs.End.{End, Turn, end_of, end_dropped}
use Rattle.ln_channel.specs.Taking.{message_row}
use Rattle.ln_channel.specs.Commands.{command_row, unready_fault}
use Rattle.ln_channel.specs.State.{is_down}
use Rattle.ln_channel.specs.Step.{faulted, line_fault}
use Rattle.ln_channel_laws.specs.Ends.{Ends, turned, opened, messages_in, message_at, command_at, arrive, answers}
use Rattle.ln_channel_laws.specs.Ends.{still_come}
use Rattle.ln_channel_laws.specs.Ends.{delivers, Act, Deliver, Give, Note, Lose, Cut, Save, acts, connects, Step, By}
use Rattle.ln_channel_laws.specs.Ends.{Connect}
use Rattle.ln_channel_laws.specs.Ends.{happens, run}
use Rattle.ln_keys.specs.Partners.{ArePartners}
use Rattle.ln_channel_laws.specs.Widths.{IsUpdate, IsCommand}
use Rattle.ln_channel_laws.proofs.Tests.{was_given}
use Rattle.ln_channel_laws.proofs.All.{All, all-append, all-take, all-filter}
use Rattle.ln_channel_laws.proofs.Records.RecordFits.{Where, longest_script, IsDecision, IsWide, IsOf}
use Rattle.ln_channel_laws.proofs.Records.RecordContents.{CarriesWide, messages_wide, Origin, contents_of, Fits}
use Rattle.ln_channel_laws.proofs.Records.RecordContents.{length-front, wide_of}
use Rattle.ln_channel_laws.proofs.Records.WidthsOverDecisions.{noted_fits}
use Rattle.ln_channel_laws.proofs.Records.WidthsOverTurns.{AnswerFits, row_fits, completes, meets_fits, command_fits}

-- ---- steps that bring what a record has room for: their commands are as wide as they are in code

abbrev pub ActIsWide : Act → Type 0
ActIsWide Deliver = Unit {0}
ActIsWide (Give c) = IsCommand c
ActIsWide (Note c) = IsCommand c
ActIsWide Lose = Unit {0}
ActIsWide (Cut n) = Unit {0}
ActIsWide Save = Unit {0}

abbrev pub StepIsWide : Step → Type 0
StepIsWide (By side act) = ActIsWide act
StepIsWide Connect = Unit {0}

-- as an end is saved, decisions are left out
pub based_fits : (o : Origin) (e : End) → Fits o e → Fits o (based e)
based_fits o e h = record {
  origin = h.origin;
  own = h.own;
  own_room = h.own_room;
  received = h.received;
  received_room = h.received_room;
  script = h.script;
  peer_script = h.peer_script;
  decisions = all-filter IsDecision (is_open (entering e)) e.ledger.decisions h.decisions;
  results = h.results;
}

-- a lost connection leaves a beginning of either list
pub dropped_fits : (o : Origin) (e : End) → Fits o e → Fits o (end_dropped e)
dropped_fits o e h =
    let l = e.dance.log in
    let own_front = length-front l.signed.own l.own in
    let own_most = h.own_room in
    let front = length-front l.current.peer l.received in
    let most = h.received_room in
    record {
      origin = h.origin;
      own = all-take IsUpdate l.signed.own l.own h.own;
      own_room = omega (arith, own_front, own_most);
      received = all-take IsUpdate l.current.peer l.received h.received;
      received_room = omega (arith, front, most);
      script = h.script;
      peer_script = h.peer_script;
      decisions = h.decisions;
      results = h.results;
    }

-- both ends, and what is in flight
pub record BothFit (o q : Origin) (p : Ends) : Type 0 where
  pub x : Fits o p.x
  pub y : Fits q p.y
  pub to_x : All CarriesWide p.to_x
  pub to_y : All CarriesWide p.to_y

turned_fit : (o q : Origin) (p : Ends) → BothFit o q p → BothFit q o (turned p)
turned_fit o q p h = record { x = h.y; y = h.x; to_x = h.to_y; to_y = h.to_x }

-- ---- an act of x

arrive_wide : (l : ConnectionState) (sent ms : List Message) → All CarriesWide sent → All CarriesWide ms
    → All CarriesWide (arrive l sent ms)
arrive_wide Down sent ms new old = old
arrive_wide AwaitingReestablish sent ms new old = all-append CarriesWide ms sent old new
arrive_wide Connected sent ms new old = all-append CarriesWide ms sent old new

module _ (k : Signer) (o q : Origin) where
  answers_fit : (r : Result Turn Refusal) (p : Ends) → AnswerFits k o r → BothFit o q p → BothFit o q (answers r p)
  answers_fit (Ok t) p h g = record {
    x = h.0;
    y = g.y;
    to_x = g.to_x;
    to_y = arrive_wide p.y_line (messages_in t.handed.sent) p.to_y (messages_wide t.handed.sent h.1) g.to_y;
  }
  answers_fit (Err r) p h g = g

  message_fits : (l : ConnectionState) (m : Message) (e : End) → CarriesWide m → Fits o e
      → AnswerFits k o (message_at k l m e)
  message_fits Down m e wide h = tt
  message_fits AwaitingReestablish m e wide h = meets_fits k o m e h
  message_fits Connected m e wide h = completes k o (message_row k m e) (row_fits k o m e wide h)

  delivers_fit : (ms : List Message) (p : Ends) → All CarriesWide ms → BothFit o q p → BothFit o q (delivers k ms p)
  delivers_fit [] p wide h = h
  delivers_fit (m ∷ ms) p wide h =
      answers_fit (message_at k p.x_line m p.x) (record p { to_x = ms }) (message_fits p.x_line m p.x wide.0 h.x)
      (record { x = h.x; y = h.y; to_x = wide.1; to_y = h.to_y })

  faulted_fits : (f : Option Refusal) (r : Result Turn Refusal) → AnswerFits k o r → AnswerFits k o (faulted f r)
  faulted_fits None r h = h
  faulted_fits (Some z) r h = tt

  loses_fit : (down : Bool) (p : Ends) → BothFit o q p
      → BothFit o q (cond down p (record p { x_line = Down; x = end_dropped p.x; to_x = [] }))
  loses_fit true p h = h
  loses_fit false p h = record { x = dropped_fits o p.x h.x; y = h.y; to_x = tt; to_y = h.to_y }

  left_wide : (n : ℕ) (l : ConnectionState) (ms : List Message) → All CarriesWide ms
      → All CarriesWide (still_come n l ms)
  left_wide n Down ms h = h
  left_wide n AwaitingReestablish [] h = tt
  left_wide n AwaitingReestablish (m ∷ ms) h = (h.0, all-take CarriesWide n ms h.1)
  left_wide n Connected ms h = all-take CarriesWide n ms h

  cuts_fit : (down : Bool) (n : ℕ) (p : Ends) → BothFit o q p
      → BothFit o q (cond down (record p { to_y = still_come n p.y_line p.to_y }) p)
  cuts_fit true n p h = record { x = h.x; y = h.y; to_x = h.to_x; to_y = left_wide n p.y_line p.to_y h.to_y }
  cuts_fit false n p h = h

  acts_fit : (act : Act) (p : Ends) → ActIsWide act → BothFit o q p → BothFit o q (acts k act p)
  acts_fit Deliver p wide h = delivers_fit p.to_x p h.to_x h
  acts_fit (Give c) p wide h =
      let row = command_row k c p.x in
      answers_fit (command_at k p.x_line c p.x) p
      (faulted_fits (unready_fault c p.x) (faulted (line_fault p.x_line) row)
      (faulted_fits (line_fault p.x_line) row (command_fits k o c p.x wide h.x))) h
  acts_fit (Note c) p wide h = record { x = noted_fits o c p.x wide h.x; y = h.y; to_x = h.to_x; to_y = h.to_y }
  acts_fit Lose p wide h = loses_fit (is_down p.x_line) p h
  acts_fit (Cut n) p wide h = cuts_fit (is_down p.x_line) n p h
  acts_fit Save p wide h = record { x = based_fits o p.x h.x; y = h.y; to_x = h.to_x; to_y = h.to_y }

-- ---- steps

connects_fit : (a b : Signer) (o q : Origin) (lx ly : ConnectionState) (p : Ends) → BothFit o q p
    → BothFit o q (connects a b lx ly p)
connects_fit a b o q Down Down p h = record { x = h.x; y = h.y; to_x = (tt, tt); to_y = (tt, tt) }
connects_fit a b o q Down AwaitingReestablish p h = h
connects_fit a b o q Down Connected p h = h
connects_fit a b o q AwaitingReestablish l p h = h
connects_fit a b o q Connected l p h = h

happens_fit : (a b : Signer) (o q : Origin) (s : Step) (p : Ends) → StepIsWide s → BothFit o q p
    → BothFit o q (happens a b s p)
happens_fit a b o q (By Funder act) p wide h = acts_fit a o q act p wide h
happens_fit a b o q (By Fundee act) p wide h =
    turned_fit q o (acts b act (turned p)) (acts_fit b q o act (turned p) wide (turned_fit o q p h))
happens_fit a b o q Connect p wide h = connects_fit a b o q p.x_line p.y_line p h

pub run_fit : (a b : Signer) (o q : Origin) (ss : List Step) (p : Ends) → All StepIsWide ss → BothFit o q p
    → BothFit o q (run a b ss p)
run_fit a b o q [] p wide h = h
run_fit a b o q (s ∷ ss) p wide h =
    run_fit a b o q ss (happens a b s p) wide.1 (happens_fit a b o q s p wide.0 h)

-- ---- from the opening on

abbrev origin_of : Opened → Origin
origin_of e = (contents_of (end_of e)).origin

abbrev pub FitsFirst : Opened → Type 0
FitsFirst e = length e.terms.script ≤ longest_script → Fits (origin_of e) (end_of e)

pub first_fits : (r : Role) (channel : List ℕ) (f : Fees) (t : Terms) → t.peer_script ≡ None
    → FitsFirst (opened_by r channel f t)
first_fits r channel f t none short = record {
  origin = refl;
  own = tt;
  own_room = omega arith;
  received = tt;
  received_room = omega arith;
  script = short;
  peer_script = subst (Where (λ s. length s ≤ longest_script)) (sym none) tt;
  decisions = tt;
  results = tt;
}

opened_fit : (a b : Signer) (s : OpenSpec) (c : Config) (funder fundee : Opened) → Opens a b s c funder fundee
    → FitsFirst funder × FitsFirst fundee
opened_fit a b s c funder fundee o =
    let funder_is : funder_end a s o.accept ≡ funder =
    ap (λ (p : Opened × FundingCreated). p.0) (was_given (accept_fault s o.accept) (
      funder_end a s o.accept,
      created_message a s o.accept,
    ) (funder, o.created) o.accept_channel) in
    let fundee_is : fundee_end o.agreement o.created ≡ fundee =
    ap (λ p. p.0) (was_given (created_fault b o.agreement o.created) _ _ o.funding_created) in
    let agreed : agreement b c (open_message a s) ≡ o.agreement =
    ap (λ (p : Agreement × AcceptChannel). p.0) (was_given (open_fault c (open_message a s))
    (agreement b c (open_message a s), accept_message b c (open_message a s)) (
      o.agreement,
      o.accept,
    ) o.open_channel) in
    let none : o.agreement.terms.peer_script ≡ None = ap (λ (g : Agreement). g.terms.peer_script) (sym agreed) in (
      subst FitsFirst funder_is
          (first_fits Funder (id_of_channel s.txid s.output) (fees_of s.config) (funder_terms a s o.accept) refl),
      subst FitsFirst fundee_is
          (first_fits Fundee (id_of_channel o.created.funding_txid o.created.output_index) o.agreement.fees
          o.agreement.terms none),
    )

of_so : (o : Opened) (e : End) → (contents_of e).origin ≡ origin_of o → IsOf o e
of_so o e is = record {
  channel = ap (λ (q : Origin). q.channel) is;
  opening = ap (λ (q : Origin). q.opening) is;
  role = ap (λ (q : Origin). q.role) is;
  fees = ap (λ (q : Origin). q.fees) is;
  closing_role = ap (λ (q : Origin). q.closing_role) is;
  open_channel = ap (λ (q : Origin). q.open_channel) is;
  accept_channel = ap (λ (q : Origin). q.accept_channel) is;
}

-- what the ends of a pair keep over every list of steps
abbrev pub AreLasting : Opened → Opened → Ends → Type 0
AreLasting funder fundee p = (IsWide p.x × IsOf funder p.x) × (IsWide p.y × IsOf fundee p.y)

pub are_wide : (a b : Signer) (s : OpenSpec) (c : Config) (funder fundee : Opened) (steps : List Step) → ArePartners a b
    → Opens a b s c funder fundee → length funder.terms.script ≤ longest_script
    → length fundee.terms.script ≤ longest_script → All StepIsWide steps
    → AreLasting funder fundee (run a b steps (opened funder fundee))
are_wide a b s c funder fundee steps keys o short_x short_y wide =
    let p = run a b steps (opened funder fundee) in
    let first = opened_fit a b s c funder fundee o in
    let h : BothFit (origin_of funder) (origin_of fundee) p =
    run_fit a b (origin_of funder) (origin_of fundee) steps (opened funder fundee) wide
    (record { x = first.0 short_x; y = first.1 short_y; to_x = tt; to_y = tt }) in (
      (wide_of (origin_of funder) p.x h.x, of_so funder p.x h.x.origin),
      (wide_of (origin_of fundee) p.y h.y, of_so fundee p.y h.y.origin),
    )
