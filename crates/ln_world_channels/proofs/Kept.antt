-- Every channel that is opened, and whatever happens to it.
use Rattle.ln_world_channels.proofs.Mirror.{is_warning}
use Rattle.ln_world_channels.specs.Both.{Move}
use Rattle.std.proofs.Common.{append-nil, append_assoc, ◌||◌, ◌==◌}
use Rattle.ln_msgs.specs.declared.messages.message.Message.TheVariants as message
use Rattle.ln_channel.specs.declared.machine.ConnectionState.TheVariants.{Down}
use Rattle.ln_channel.specs.End.{end_dropped}
use Rattle.ln_channel_laws.specs.Promises.{is_add, is_shutdown, AddsBefore}
use Rattle.ln_world_channels.specs.Sending.{act_sends, sends}
use Rattle.ln_world_channels.specs.Course.{along}
use Rattle.ln_world_channels.specs.Machine.{moves_of, moves_of_disconnect, tells, machine_of_stages}
use Rattle.ln_world_channels.proofs.Mirror.{without-append}
use Rattle.ln_world_channels.proofs.Moves.{met_says, met_tells, lost_says}
use Rattle.std.proofs.Common.{◌≡◌, ℕ, List, [], ◌∷◌, ◌++◌, refl, sym, ap, ◌∙◌, subst, Bool, true, false, cond}
use Rattle.std.proofs.Common.{◌≤◌, length}
use Rattle.std.proofs.Common.{Option, Some, None, inl, inr, not}
use Rattle.ln_msgs.specs.declared.messages.message.Message.{Message}
use Rattle.ln_keys.specs.declared.role.Role.{Role}
use Rattle.ln_keys.specs.declared.role.Role.TheVariants.{Funder, Fundee}
use Rattle.ln_keys.specs.Signer.{Signer}
use Rattle.ln_channel.specs.declared.config.Config.{Config}
use Rattle.ln_channel.specs.declared.config.OpenSpec.{OpenSpec}
use Rattle.ln_channel.specs.declared.machine.ConnectionState.{ConnectionState}
use Rattle.ln_channel.specs.declared.machine.ConnectionState.TheVariants.{Connected}
use Rattle.ln_channel.specs.Naming.{named}
use Rattle.ln_channel.specs.declared.machine.Stage.TheVariants as stage
use Rattle.ln_channel.specs.declared.opening.Opened.{Opened}
use Rattle.ln_channel.specs.Meeting.{Opens}
use Rattle.ln_channel.specs.End.{End}
use Rattle.ln_channel.specs.State.{State, is_down}
use Rattle.ln_channel.specs.Step as step
use Rattle.ln_channel.specs.declared.command.Command.{Command}
use Rattle.ln_channel.specs.declared.command.Command.TheVariants as command
use Rattle.ln_channel_laws.specs.Ends.{Ends, Step}
use Rattle.ln_channel_laws.specs.Ends as pair
use Rattle.ln_keys.specs.Partners.{ArePartners}
use Rattle.ln_channel_laws.specs.Promises.{AreSent, Overlap, CloseAtOneFee, TakesFront as Front}
use Rattle.ln_channel_laws.specs.Promises.{AcceptsFront as Accepted, FollowEachOther, SameReadiness}
use Rattle.ln_channel_laws.specs.Moves.{history}
use Rattle.ln_channel_laws.specs.Moves as pair_moves
use Rattle.ln_channel_laws.specs.Told.{events_in, as_told}
use Rattle.ln_channel_laws.specs.Told as pair_told
use Rattle.ln_channel_laws.specs.Pending.{IsInStep, end_of_role}
use Rattle.ln_channel_laws.specs.Setup.{Setup, setup_of, AreSetUp}
use Rattle.ln_channel_laws.proofs.Offered.{events_in-append, may_be_made, events_so, in_step_so, set_up_so, one_fee}
use Rattle.ln_channel_laws.proofs.Offered.{all_taken}
use Rattle.ln_channel_laws.proofs.Offered.{all_answered, run_fees, All, all-append, longest_script, StepIsWide, at_end}
use Rattle.ln_channel_laws.proofs.Offered.{flipped as turned_holds, IsLeft, left_alone, is_deed, deeds_leave}
use Rattle.ln_channel_laws.proofs.Offered.{deeds_line}
use Rattle.ln_channel_laws.proofs.Offered.{greeted, cut_off}
use Rattle.ln_channel_laws.specs.Answers.{HasAnswered}
use Rattle.ln_store.proofs.Formats.{both_true}
use Rattle.ln_close.specs.Closing.{AreOrdered}
use Rattle.ln_log.specs.Machine as machine
use Rattle.ln_log.specs.Events.{events}
use Rattle.ln_channel.specs.declared.output.Output.{Output}
use Rattle.ln_channel.specs.Outputs.{all_of, numbered}
use Rattle.ln_channel_laws.specs.Promises as promise
use Rattle.ln_channel_laws.proofs.Offered as offered
use Rattle.ln_channel_laws.specs.Closes.{CloseOnceDone}
use Rattle.ln_world_channels.specs.declared.step.Act.{Act}
use Rattle.ln_world_channels.specs.declared.step.Act.TheVariants as act
use Rattle.ln_world_channels.specs.declared.step.Node.{Node}
use Rattle.ln_world_channels.specs.declared.step.RecordLeft.{RecordLeft}
use Rattle.ln_world_channels.specs.declared.step.RecordLeft.TheVariants as record_left
use Rattle.ln_world_channels.specs.Settings.{channel_id_of}
use Rattle.ln_world_channels.specs.declared.step.End.{End as WorldEnd}
use Rattle.ln_world_channels.specs.Both.{Both, SimEnd, By, Disconnects, Halts, Restarts, Stops, HaltsAfter, Meet, acts}
use Rattle.ln_world_channels.specs.Both.{swapped, moves, may_come_up, from, halted, restarted}
use Rattle.ln_world_channels.specs.Both.{run as run_both}
use Rattle.ln_world_channels.specs.WorldChannel.{WorldChannel, by, side_of, moved, may_meet, act_moves}
use Rattle.ln_world_channels.specs.WorldChannel.{disconnect_moves}
use Rattle.ln_world_channels.specs.WorldChannel.{restart_moves}
use Rattle.ln_world_channels.specs.WorldChannel.{halt_moves, stop_moves, up_moves, place_of, failed_save_moves}
use Rattle.ln_world_channels.specs.Promises.{AtEnd, AtEnds, Headline, TakesFront, NoneRefused, AgreeOnceSigned, Agrees}
use Rattle.ln_world_channels.specs.Promises.{FeesOverlap, AcceptsFront, AllTaken, OneFee, HaveAnswered, AnswersShutdown}
use Rattle.ln_world_channels.specs.Promises.{ReadinessAgrees, BothClose}
use Rattle.ln_world_channels.specs.Records.{IsAct}
use Rattle.ln_world_channels.proofs.Mirror.{link_of, without_warnings, IsInbox, Mirrors, flipped, plain}
use Rattle.ln_world_channels.proofs.Mirror.{is_awake, unless_halted}
use Rattle.ln_world_channels.proofs.Dropped.{IsDropped, are_dropped, ran_so}
use Rattle.ln_world_channels.proofs.Stops.{ends_stopped, stopped_so, stopped_says}
use Rattle.ln_world_channels.proofs.Moves.{Goes, Says, Tells, IsAside, saved_if, out_of, handled_so, passed_so}
use Rattle.ln_world_channels.proofs.Moves.{delivered}
use Rattle.ln_world_channels.proofs.Moves.{given, fell, restarted_so, met}
use Rattle.ln_world_channels.proofs.Moves.{is_up, noted, refuses_halted, halted_so, AreAwake}
use Rattle.ln_world_channels.proofs.Opening.{IsOpening}

-- ---- the pair's steps

run-append : (a b : Signer) (ss ts : List Step) (p : Ends)
    → pair.run a b (ss ++ ts) p ≡ pair.run a b ts (pair.run a b ss p)
run-append a b [] ts p = refl
run-append a b (s ∷ ss) ts p = run-append a b ss ts (pair.happens a b s p)

module _ (a b : Signer) where
  moves-append : (ss ts : List Step) (p : Ends)
      → pair_moves.all_moves a b (ss ++ ts) p
      ≡ pair_moves.all_moves a b ss p ++ pair_moves.all_moves a b ts (pair.run a b ss p)
  moves-append [] ts p = refl
  moves-append (s ∷ ss) ts p =
      let q = pair.happens a b s p in
      ap (λ ms. pair_moves.moves_of a b s p ++ ms) (moves-append ss ts q)
      ∙ sym (append_assoc (pair_moves.moves_of a b s p) (pair_moves.all_moves a b ss q)
      (pair_moves.all_moves a b ts (pair.run a b ss q)))

  told-append : (side : Role) (ss ts : List Step) (p : Ends)
      → pair_told.all_told a b side (ss ++ ts) p
      ≡ pair_told.all_told a b side ss p ++ pair_told.all_told a b side ts (pair.run a b ss p)
  told-append side [] ts p = refl
  told-append side (s ∷ ss) ts p =
      let q = pair.happens a b s p in
      ap (λ os. pair_told.told a b side s p ++ os) (told-append side ss ts q)
      ∙ sym (append_assoc (pair_told.told a b side s p) (pair_told.all_told a b side ss q)
      (pair_told.all_told a b side ts (pair.run a b ss q)))

-- ---- what comes of the moves of a channel, told of its links

pub record Tale : Type 0 where
  pub sent_x : List Message
  pub sent_y : List Message
  pub moves : List machine.Move
  pub told_x : List Output
  pub told_y : List Output

abbrev pub untold : Tale
untold = record { sent_x = []; sent_y = []; moves = []; told_x = []; told_y = [] }

abbrev pub then : Tale → Tale → Tale
then t u = record {
  sent_x = t.sent_x ++ u.sent_x;
  sent_y = t.sent_y ++ u.sent_y;
  moves = t.moves ++ u.moves;
  told_x = t.told_x ++ u.told_x;
  told_y = t.told_y ++ u.told_y;
}

abbrev tale_by : List Message → List Message → List machine.Move → List Output → List Output → Tale
tale_by a c ms os qs = record { sent_x = a; sent_y = c; moves = ms; told_x = os; told_y = qs }

same_tale : (a c : List Message) (ms : List machine.Move) (os qs : List Output) (t : Tale) → a ≡ t.sent_x
    → c ≡ t.sent_y → ms ≡ t.moves → os ≡ t.told_x → qs ≡ t.told_y → tale_by a c ms os qs ≡ t
same_tale a c ms os qs t ea ec em eo eq =
    ap (λ w. tale_by w c ms os qs) ea
    ∙ ap (λ w. tale_by t.sent_x w ms os qs) ec
    ∙ ap (λ w. tale_by t.sent_x t.sent_y w os qs) em
    ∙ ap (λ w. tale_by t.sent_x t.sent_y t.moves w qs) eo
    ∙ ap (λ w. tale_by t.sent_x t.sent_y t.moves t.told_x w) eq

pub then-untold : (t : Tale) → then t untold ≡ t
then-untold t = same_tale _ _ _ _ _ t (append-nil t.sent_x) (append-nil t.sent_y) (append-nil t.moves)
    (append-nil t.told_x) (append-nil t.told_y)

pub then_assoc : (t u v : Tale) → then (then t u) v ≡ then t (then u v)
then_assoc t u v = same_tale _ _ _ _ _ (then t (then u v)) (append_assoc t.sent_x u.sent_x v.sent_x)
    (append_assoc t.sent_y u.sent_y v.sent_y) (append_assoc t.moves u.moves v.moves)
    (append_assoc t.told_x u.told_x v.told_x) (append_assoc t.told_y u.told_y v.told_y)

-- a warning is neither an add nor a shutdown
is_neither : (m : Message) → is_warning m ≡ true → (is_add m ≡ false) × (is_shutdown m ≡ false)
is_neither (message.Warning m) e = (refl, refl)
is_neither (message.Init m) e = absurd (cc)
is_neither (message.Error m) e = absurd (cc)
is_neither (message.Ping m) e = absurd (cc)
is_neither (message.Pong m) e = absurd (cc)
is_neither (message.OpenChannel m) e = absurd (cc)
is_neither (message.AcceptChannel m) e = absurd (cc)
is_neither (message.FundingCreated m) e = absurd (cc)
is_neither (message.FundingSigned m) e = absurd (cc)
is_neither (message.ChannelReady m) e = absurd (cc)
is_neither (message.Shutdown m) e = absurd (cc)
is_neither (message.ClosingSigned m) e = absurd (cc)
is_neither (message.UpdateAddHtlc m) e = absurd (cc)
is_neither (message.UpdateFulfillHtlc m) e = absurd (cc)
is_neither (message.UpdateFailHtlc m) e = absurd (cc)
is_neither (message.UpdateFailMalformedHtlc m) e = absurd (cc)
is_neither (message.UpdateFee m) e = absurd (cc)
is_neither (message.CommitmentSigned m) e = absurd (cc)
is_neither (message.RevokeAndAck m) e = absurd (cc)
is_neither (message.ChannelReestablish m) e = absurd (cc)

or_false : (s : Bool) → (s || false) ≡ s
or_false true = refl
or_false false = refl

as_well : (b shut : Bool) (m : Message) (ms : List Message) → is_warning m ≡ b
    → ((now : Bool) → AddsBefore now (without_warnings ms) → AddsBefore now ms)
    → AddsBefore shut (cond b (without_warnings ms) (m ∷ without_warnings ms)) → AddsBefore shut (m ∷ ms)
as_well false shut m ms e f h = (h.0, f (shut || is_shutdown m) h.1)
as_well true shut m ms e f h =
    let n = is_neither m e in (
      λ add. absurd (let clash : true ≡ false = sym add ∙ n.0 in cc),
      subst (λ s. AddsBefore s ms) (sym (ap (λ b. shut || b) n.1 ∙ or_false shut)) (f shut h),
    )

with_warnings : (shut : Bool) (ms : List Message) → AddsBefore shut (without_warnings ms) → AddsBefore shut ms
with_warnings shut [] h = tt
with_warnings shut (m ∷ ms) h = as_well (is_warning m) shut m ms refl (λ now. with_warnings now ms) h

-- ---- what moves bring

-- the pair's act that it is
abbrev of_pair : Act → pair.Act
of_pair act.Deliver = pair.Deliver
of_pair (act.Send (command.Decide event mark)) = pair.Note (command.Decide event mark)
of_pair (act.Send (command.Forget i)) = pair.Note (command.Forget i)
of_pair (act.Send (command.Resume event mark)) = pair.Note (command.Resume event mark)
of_pair (act.Send c) = pair.Give c

as_wide : (side : Role) (a : Act) → IsAct a → StepIsWide (pair.By side (of_pair a))
as_wide side act.Deliver h = tt
as_wide side (act.Send (command.Confirm i)) h = h
as_wide side (act.Send (command.Add amount hash expiry onion origin)) h = h
as_wide side (act.Send (command.Fulfil i preimage)) h = h
as_wide side (act.Send (command.Fail i reason)) h = h
as_wide side (act.Send (command.Malformed i sha code)) h = h
as_wide side (act.Send (command.Fee feerate)) h = h
as_wide side (act.Send command.Sign) h = h
as_wide side (act.Send (command.Shutdown script)) h = h
as_wide side (act.Send (command.Decide event mark)) h = h
as_wide side (act.Send (command.Forget i)) h = h
as_wide side (act.Send (command.Resume event mark)) h = h

abbrev pub IsMove : Move → Type 0
IsMove (By side a) = IsAct a
IsMove (Disconnects side) = Unit {0}
IsMove (Halts side) = Unit {0}
IsMove (Restarts side) = Unit {0}
IsMove (Stops side a) = IsAct a
IsMove (HaltsAfter side a) = IsAct a
IsMove Meet = Unit {0}

-- the steps of two ends, and how they were opened, bring what records have room for
pub record AreWide (funder fundee : Opened) (steps : List Step) : Type 0 where
  pub funders_end : IsOpening funder
  pub fundees_end : IsOpening fundee
  pub funders_script : length funder.terms.script ≤ longest_script
  pub fundees_script : length fundee.terms.script ≤ longest_script
  pub commands : All StepIsWide steps

-- ---- a channel whose links are at the ends of a pair

module _ {K : Type 0} (signer : K → Signer) where
  pub record IsRun (id : List ℕ) (p : Both K) : Type 0 where
    pub funders : K
    pub fundees : K
    pub spec : OpenSpec
    pub config : Config
    pub funder : Opened
    pub fundee : Opened
    pub steps : List Step
    pub keys : ArePartners (signer funders) (signer fundees)
    pub opens : Opens (signer funders) (signer fundees) spec config funder fundee
    pub funders_fees : AreSent funder.closing.fees
    pub fundees_fees : AreSent fundee.closing.fees
    pub funders_order : AreOrdered funder.closing.fees
    pub fundees_order : AreOrdered fundee.closing.fees
    pub mirrors : Mirrors id funders fundees p
        (pair.run (signer funders) (signer fundees) steps (pair.opened funder fundee))

  -- the ends
  abbrev pub ends_of : (id : List ℕ) (p : Both K) → IsRun id p → Ends
  ends_of id p r = pair.run (signer r.funders) (signer r.fundees) r.steps (pair.opened r.funder r.fundee)

  -- the message in front of each end
  fronts : (id : List ℕ) (p : Both K) (r : IsRun id p)
      → promise.NoneRefused (signer r.funders) (signer r.fundees) (ends_of id p r)
  fronts id p r = offered.none_refused (signer r.funders) (signer r.fundees) r.spec r.config r.funder r.fundee
      r.steps r.keys r.opens r.funders_fees r.fundees_fees

  -- further steps
  abbrev more : (id : List ℕ) (p p' : Both K) (r : IsRun id p) (ss : List Step)
      → Mirrors id r.funders r.fundees p' (pair.run (signer r.funders) (signer r.fundees) ss (ends_of id p r))
      → IsRun id p'
  more id p p' r ss h = record {
    funders = r.funders;
    fundees = r.fundees;
    spec = r.spec;
    config = r.config;
    funder = r.funder;
    fundee = r.fundee;
    steps = r.steps ++ ss;
    keys = r.keys;
    opens = r.opens;
    funders_fees = r.funders_fees;
    fundees_fees = r.fundees_fees;
    funders_order = r.funders_order;
    fundees_order = r.fundees_order;
    mirrors = subst (Mirrors id r.funders r.fundees p') (sym (run-append (signer r.funders) (signer r.fundees)
        r.steps ss (pair.opened r.funder r.fundee))) h;
  }

  abbrev AsGiven : List ℕ → Role → Command → K → K → Both K → Ends → Type 0
  AsGiven id side c kx ky p q = Goes signer id kx ky side (of_pair (act.Send c))
      (out_of signer id side (act.Send c) p.x) (acts signer id (act.Send c) p) q

  -- a link that works
  works_so : (id : List ℕ) (side : Role) (c : Command) (kx ky : K) (p : Both K) (q : Ends)
      → p.x.link ≡ link_of kx q.x_line q.x → Mirrors id kx ky p q → AsGiven id side c kx ky p q
  works_so id side (command.Confirm i) kx ky p q works h =
      inr (given signer id kx ky side (command.Confirm i) p q refl works h)
  works_so id side (command.Add amount hash expiry onion origin) kx ky p q works h =
      inr (given signer id kx ky side (command.Add amount hash expiry onion origin) p q refl works h)
  works_so id side (command.Fulfil i preimage) kx ky p q works h =
      inr (given signer id kx ky side (command.Fulfil i preimage) p q refl works h)
  works_so id side (command.Fail i reason) kx ky p q works h =
      inr (given signer id kx ky side (command.Fail i reason) p q refl works h)
  works_so id side (command.Malformed i sha code) kx ky p q works h =
      inr (given signer id kx ky side (command.Malformed i sha code) p q refl works h)
  works_so id side (command.Fee feerate) kx ky p q works h =
      inr (given signer id kx ky side (command.Fee feerate) p q refl works h)
  works_so id side command.Sign kx ky p q works h =
      inr (given signer id kx ky side command.Sign p q refl works h)
  works_so id side (command.Shutdown script) kx ky p q works h =
      inr (given signer id kx ky side (command.Shutdown script) p q refl works h)
  works_so id side (command.Decide event mark) kx ky p q works h =
      inr (noted signer id kx ky side (command.Decide event mark) p q refl refl works h)
  works_so id side (command.Forget i) kx ky p q works h =
      inr (noted signer id kx ky side (command.Forget i) p q refl refl works h)
  works_so id side (command.Resume event mark) kx ky p q works h =
      inr (noted signer id kx ky side (command.Resume event mark) p q refl refl works h)

  given_so : (halted : Bool) (id : List ℕ) (side : Role) (c : Command) (kx ky : K) (p : Both K) (q : Ends)
      → p.x.link.halted ≡ halted → Mirrors id kx ky p q → AsGiven id side c kx ky p q
  given_so true id side c kx ky p q is h = inl (refuses_halted signer id kx ky side c p q is h)
  given_so false id side c kx ky p q is h = works_so id side c kx ky p q (unless_halted id kx ky p q h is) h

  acts_so : (id : List ℕ) (side : Role) (a : Act) (kx ky : K) (p : Both K) (q : Ends) → Mirrors id kx ky p q
      → Front (signer kx) q.x_line q.to_x q.x
      → Goes signer id kx ky side (of_pair a) (out_of signer id side a p.x) (acts signer id a p) q
  acts_so id side act.Deliver kx ky p q h f = delivered signer id kx ky side p q h f
  acts_so id side (act.Send c) kx ky p q h f = given_so p.x.link.halted id side c kx ky p q refl h

  -- what a move comes to
  abbrev pub tale_of : List ℕ → Move → Both K → Tale
  tale_of id m p = record {
    sent_x = sends signer Funder id m p;
    sent_y = sends signer Fundee id m p;
    moves = moves_of signer m p;
    told_x = tells signer Funder m p;
    told_y = tells signer Fundee m p;
  }

  -- what the ends have come to
  abbrev pub moves_until : (id : List ℕ) (p : Both K) → IsRun id p → List machine.Move
  moves_until id p r = history (signer r.funders) (signer r.fundees) r.funder r.fundee r.steps

  abbrev pub told_until : Role → (id : List ℕ) (p : Both K) → IsRun id p → List Output
  told_until side id p r = events_in
      (pair_told.all_told (signer r.funders) (signer r.fundees) side r.steps (pair.opened r.funder r.fundee))

  abbrev pub setup_at : (id : List ℕ) (p : Both K) → IsRun id p → Setup
  setup_at id p r = setup_of r.funder r.fundee

  abbrev pub IsWideRun : (id : List ℕ) (p : Both K) → IsRun id p → Type 0
  IsWideRun id p r = AreWide r.funder r.fundee r.steps

  -- what a move makes of it, and what comes of it for the ends
  pub record Went (id : List ℕ) (p p' : Both K) (r : IsRun id p) (t : Tale) (brings : Type 0) : Type 0 where
    pub run : IsRun id p'
    pub wide : brings → IsWideRun id p r → IsWideRun id p' run
    pub x : (ends_of id p' run).said_x ≡ (ends_of id p r).said_x ++ without_warnings t.sent_x
    pub y : (ends_of id p' run).said_y ≡ (ends_of id p r).said_y ++ without_warnings t.sent_y
    pub moves : moves_until id p' run ≡ moves_until id p r ++ t.moves
    pub told_x : told_until Funder id p' run ≡ told_until Funder id p r ++ events_in t.told_x
    pub told_y : told_until Fundee id p' run ≡ told_until Fundee id p r ++ events_in t.told_y
    pub setup : setup_at id p' run ≡ setup_at id p r

  silently : (said out : List Message) → without_warnings out ≡ [] → said ≡ said ++ without_warnings out
  silently said out none = sym (ap (λ ws. said ++ ws) none ∙ append-nil said)

  -- by further steps of the pair
  went_by : (id : List ℕ) (p p' : Both K) (r : IsRun id p) (ss : List Step) (t : Tale) (brings : Type 0)
      → (brings → All StepIsWide ss)
      → Mirrors id r.funders r.fundees p' (pair.run (signer r.funders) (signer r.fundees) ss (ends_of id p r))
      → (pair.run (signer r.funders) (signer r.fundees) ss (ends_of id p r)).said_x
      ≡ (ends_of id p r).said_x ++ without_warnings t.sent_x
      → (pair.run (signer r.funders) (signer r.fundees) ss (ends_of id p r)).said_y
      ≡ (ends_of id p r).said_y ++ without_warnings t.sent_y
      → pair_moves.all_moves (signer r.funders) (signer r.fundees) ss (ends_of id p r) ≡ t.moves
      → events_in (pair_told.all_told (signer r.funders) (signer r.fundees) Funder ss (ends_of id p r))
      ≡ events_in t.told_x
      → events_in (pair_told.all_told (signer r.funders) (signer r.fundees) Fundee ss (ends_of id p r))
      ≡ events_in t.told_y
      → Went id p p' r t brings
  went_by id p p' r ss t brings wide h x y ms ox oy =
      let a = signer r.funders in
      let b = signer r.fundees in
      let first = pair.opened r.funder r.fundee in
      let q = ends_of id p r in
      let is = run-append a b r.steps ss first in
      record {
        run = more id p p' r ss h;
        wide = λ is were. record {
          funders_end = were.funders_end;
          fundees_end = were.fundees_end;
          funders_script = were.funders_script;
          fundees_script = were.fundees_script;
          commands = all-append StepIsWide r.steps ss were.commands (wide is);
        };
        x = ap (λ (w : Ends). w.said_x) is ∙ x;
        y = ap (λ (w : Ends). w.said_y) is ∙ y;
        moves = ap (λ ns. machine.Open r.funder.dance.log.opening ∷ ns)
            (moves-append a b r.steps ss first ∙ ap (λ ns. pair_moves.all_moves a b r.steps first ++ ns) ms);
        told_x = ap events_in (told-append a b Funder r.steps ss first)
            ∙ events_in-append (pair_told.all_told a b Funder r.steps first) (pair_told.all_told a b Funder ss q)
            ∙ ap (λ os. told_until Funder id p r ++ os) ox;
        told_y = ap events_in (told-append a b Fundee r.steps ss first)
            ∙ events_in-append (pair_told.all_told a b Fundee r.steps first) (pair_told.all_told a b Fundee ss q)
            ∙ ap (λ os. told_until Fundee id p r ++ os) oy;
        setup = refl;
      }

  -- by one
  went_so : (id : List ℕ) (p p' : Both K) (r : IsRun id p) (s : Step) (t : Tale)
      → StepIsWide s
      → Mirrors id r.funders r.fundees p' (pair.happens (signer r.funders) (signer r.fundees) s (ends_of id p r))
      → (pair.happens (signer r.funders) (signer r.fundees) s (ends_of id p r)).said_x
      ≡ (ends_of id p r).said_x ++ without_warnings t.sent_x
      → (pair.happens (signer r.funders) (signer r.fundees) s (ends_of id p r)).said_y
      ≡ (ends_of id p r).said_y ++ without_warnings t.sent_y
      → pair_moves.moves_of (signer r.funders) (signer r.fundees) s (ends_of id p r) ≡ t.moves
      → events_in (pair_told.told (signer r.funders) (signer r.fundees) Funder s (ends_of id p r)) ≡ events_in t.told_x
      → events_in (pair_told.told (signer r.funders) (signer r.fundees) Fundee s (ends_of id p r)) ≡ events_in t.told_y
      → Went id p p' r t (Unit {0})
  went_so id p p' r s t wide h x y ms ox oy =
      let a = signer r.funders in
      let b = signer r.fundees in
      let q = ends_of id p r in
      went_by id p p' r (s ∷ []) t (Unit {0}) (λ is. (wide, tt)) h x y (append-nil (pair_moves.moves_of a b s q) ∙ ms)
      (ap events_in (append-nil (pair_told.told a b Funder s q)) ∙ ox)
      (ap events_in (append-nil (pair_told.told a b Fundee s q)) ∙ oy)

  -- ---- an act of one end

  is_done : (a : Act) → is_deed (of_pair a) ≡ true
  is_done act.Deliver = refl
  is_done (act.Send (command.Confirm i)) = refl
  is_done (act.Send (command.Add amount hash expiry onion origin)) = refl
  is_done (act.Send (command.Fulfil i preimage)) = refl
  is_done (act.Send (command.Fail i reason)) = refl
  is_done (act.Send (command.Malformed i sha code)) = refl
  is_done (act.Send (command.Fee feerate)) = refl
  is_done (act.Send command.Sign) = refl
  is_done (act.Send (command.Shutdown script)) = refl
  is_done (act.Send (command.Decide event mark)) = refl
  is_done (act.Send (command.Forget i)) = refl
  is_done (act.Send (command.Resume event mark)) = refl

  -- a save leaves the other end alone
  left_saved : (q r : Ends) → IsLeft q r → IsLeft q (pair.saves r)
  left_saved q r h = record { sent = h.sent; y_line = h.y_line; y = h.y; to_y = h.to_y }

  -- told from the end of this side
  abbrev from_side : Role → Ends → Ends
  from_side Funder q = q
  from_side Fundee q = pair.turned q

  -- the pair's steps that it is: one, or none for a warning that is passed over; and after it a save, where the link
  -- answers it
  record Acted (id : List ℕ) (side : Role) (a : Act) (p : Both K) (r : IsRun id p) : Type 0 where
    steps : List Step
    wide : IsAct a → All StepIsWide steps
    mirrors : Mirrors id r.funders r.fundees (moves signer id (By side a) p)
        (pair.run (signer r.funders) (signer r.fundees) steps (ends_of id p r))
    x : (pair.run (signer r.funders) (signer r.fundees) steps (ends_of id p r)).said_x
        ≡ (ends_of id p r).said_x ++ without_warnings (sends signer Funder id (By side a) p)
    y : (pair.run (signer r.funders) (signer r.fundees) steps (ends_of id p r)).said_y
        ≡ (ends_of id p r).said_y ++ without_warnings (sends signer Fundee id (By side a) p)
    moves_are : pair_moves.all_moves (signer r.funders) (signer r.fundees) steps (ends_of id p r)
        ≡ moves_of signer (By side a) p
    told_x : events_in (pair_told.all_told (signer r.funders) (signer r.fundees) Funder steps (ends_of id p r))
        ≡ events_in (tells signer Funder (By side a) p)
    told_y : events_in (pair_told.all_told (signer r.funders) (signer r.fundees) Fundee steps (ends_of id p r))
        ≡ events_in (tells signer Fundee (By side a) p)
    left : IsLeft (from_side side (ends_of id p r))
        (from_side side (pair.run (signer r.funders) (signer r.fundees) steps (ends_of id p r)))
    connection : is_down (from_side side (pair.run (signer r.funders) (signer r.fundees) steps (ends_of id p r))).x_line
        ≡ is_down (from_side side (ends_of id p r)).x_line

  -- as it stays, but that the end may be saved
  funder_stays : (saved : Bool) (id : List ℕ) (a : Act) (p : Both K) (r : IsRun id p)
      → Mirrors id r.funders r.fundees (acts signer id a p) (saved_if saved (ends_of id p r))
      → IsAside (out_of signer id Funder a p.x) → Acted id Funder a p r
  unfolding moves
  funder_stays false id a p r h aside =
      let q = ends_of id p r in
      record {
        steps = [];
        wide = λ is. tt;
        mirrors = h;
        x = silently q.said_x (act_sends signer id a p.x) aside.sent;
        y = silently q.said_y [] refl;
        moves_are = sym aside.moves;
        told_x = sym (ap events_in aside.told);
        told_y = refl;
        left = left_alone q;
        connection = refl;
      }
  funder_stays true id a p r h aside =
      let q = ends_of id p r in
      record {
        steps = pair.By Funder pair.Save ∷ [];
        wide = λ is. (tt, tt);
        mirrors = h;
        x = silently q.said_x (act_sends signer id a p.x) aside.sent;
        y = silently q.said_y [] refl;
        moves_are = sym aside.moves;
        told_x = sym (ap events_in aside.told);
        told_y = refl;
        left = left_saved q q (left_alone q);
        connection = refl;
      }

  fundee_stays : (saved : Bool) (id : List ℕ) (a : Act) (p : Both K) (r : IsRun id p)
      → Mirrors id r.fundees r.funders (acts signer id a (swapped p)) (saved_if saved (pair.turned (ends_of id p r)))
      → IsAside (out_of signer id Fundee a p.y) → Acted id Fundee a p r
  unfolding moves
  fundee_stays false id a p r h aside =
      let q = ends_of id p r in
      record {
        steps = [];
        wide = λ is. tt;
        mirrors = flipped id r.fundees r.funders _ (pair.turned q) h;
        x = silently q.said_x [] refl;
        y = silently q.said_y (act_sends signer id a p.y) aside.sent;
        moves_are = sym aside.moves;
        told_x = refl;
        told_y = sym (ap events_in aside.told);
        left = left_alone (pair.turned q);
        connection = refl;
      }
  fundee_stays true id a p r h aside =
      let q = ends_of id p r in
      record {
        steps = pair.By Fundee pair.Save ∷ [];
        wide = λ is. (tt, tt);
        mirrors = flipped id r.fundees r.funders _ (pair.saves (pair.turned q)) h;
        x = silently q.said_x [] refl;
        y = silently q.said_y (act_sends signer id a p.y) aside.sent;
        moves_are = sym aside.moves;
        told_x = refl;
        told_y = sym (ap events_in aside.told);
        left = left_saved (pair.turned q) (pair.turned q) (left_alone (pair.turned q));
        connection = refl;
      }

  -- as it acts, and may be saved after that
  funder_acts : (saved : Bool) (id : List ℕ) (a : Act) (p : Both K) (r : IsRun id p)
      → Mirrors id r.funders r.fundees (acts signer id a p)
      (saved_if saved (pair.acts (signer r.funders) (of_pair a) (ends_of id p r)))
      → Says (act_sends signer id a p.x) (ends_of id p r) (pair.acts (signer r.funders) (of_pair a) (ends_of id p r))
      → Tells (out_of signer id Funder a p.x)
      (pair_moves.moves_of_act (signer r.funders) Funder (of_pair a) (ends_of id p r))
      (pair_told.told_in (signer r.funders) (of_pair a) (ends_of id p r)) → Acted id Funder a p r
  unfolding moves
  funder_acts false id a p r h says tells =
      let q = ends_of id p r in
      let k = signer r.funders in
      let d = of_pair a in
      record {
        steps = pair.By Funder d ∷ [];
        wide = λ is. (as_wide Funder a is, tt);
        mirrors = h;
        x = says.x;
        y = says.y ∙ silently q.said_y [] refl;
        moves_are = append-nil (pair_moves.moves_of_act k Funder d q) ∙ tells.moves;
        told_x = ap events_in (append-nil (pair_told.told_in k d q) ∙ tells.told);
        told_y = refl;
        left = deeds_leave k d q (is_done a);
        connection = deeds_line k d q (is_done a);
      }
  funder_acts true id a p r h says tells =
      let q = ends_of id p r in
      let k = signer r.funders in
      let d = of_pair a in
      record {
        steps = pair.By Funder d ∷ pair.By Funder pair.Save ∷ [];
        wide = λ is. (as_wide Funder a is, (tt, tt));
        mirrors = h;
        x = says.x;
        y = says.y ∙ silently q.said_y [] refl;
        moves_are = append-nil (pair_moves.moves_of_act k Funder d q) ∙ tells.moves;
        told_x = ap events_in (append-nil (pair_told.told_in k d q) ∙ tells.told);
        told_y = refl;
        left = left_saved q (pair.acts k d q) (deeds_leave k d q (is_done a));
        connection = deeds_line k d q (is_done a);
      }

  fundee_acts : (saved : Bool) (id : List ℕ) (a : Act) (p : Both K) (r : IsRun id p)
      → Mirrors id r.fundees r.funders (acts signer id a (swapped p))
      (saved_if saved (pair.acts (signer r.fundees) (of_pair a) (pair.turned (ends_of id p r))))
      → Says (act_sends signer id a p.y) (pair.turned (ends_of id p r))
      (pair.acts (signer r.fundees) (of_pair a) (pair.turned (ends_of id p r)))
      → Tells (out_of signer id Fundee a p.y)
      (pair_moves.moves_of_act (signer r.fundees) Fundee (of_pair a) (pair.turned (ends_of id p r)))
      (pair_told.told_in (signer r.fundees) (of_pair a) (pair.turned (ends_of id p r))) → Acted id Fundee a p r
  unfolding moves
  fundee_acts false id a p r h says tells =
      let q = ends_of id p r in
      let k = signer r.fundees in
      let d = of_pair a in
      record {
        steps = pair.By Fundee d ∷ [];
        wide = λ is. (as_wide Fundee a is, tt);
        mirrors = flipped id r.fundees r.funders _ (pair.acts k d (pair.turned q)) h;
        x = says.y ∙ silently q.said_x [] refl;
        y = says.x;
        moves_are = append-nil (pair_moves.moves_of_act k Fundee d (pair.turned q)) ∙ tells.moves;
        told_x = refl;
        told_y = ap events_in (append-nil (pair_told.told_in k d (pair.turned q)) ∙ tells.told);
        left = deeds_leave k d (pair.turned q) (is_done a);
        connection = deeds_line k d (pair.turned q) (is_done a);
      }
  fundee_acts true id a p r h says tells =
      let q = ends_of id p r in
      let k = signer r.fundees in
      let d = of_pair a in
      record {
        steps = pair.By Fundee d ∷ pair.By Fundee pair.Save ∷ [];
        wide = λ is. (as_wide Fundee a is, (tt, tt));
        mirrors = flipped id r.fundees r.funders _ (pair.saves (pair.acts k d (pair.turned q))) h;
        x = says.y ∙ silently q.said_x [] refl;
        y = says.x;
        moves_are = append-nil (pair_moves.moves_of_act k Fundee d (pair.turned q)) ∙ tells.moves;
        told_x = refl;
        told_y = ap events_in (append-nil (pair_told.told_in k d (pair.turned q)) ∙ tells.told);
        left = left_saved (pair.turned q) (pair.acts k d (pair.turned q))
            (deeds_leave k d (pair.turned q) (is_done a));
        connection = deeds_line k d (pair.turned q) (is_done a);
      }

  acted : (id : List ℕ) (side : Role) (a : Act) (p : Both K) (r : IsRun id p) → Acted id side a p r
  acted id Funder a p r =
      elim (acts_so id Funder a r.funders r.fundees p (ends_of id p r) r.mirrors (fronts id p r).0) [
        | inl h ↦ funder_stays h.0 id a p r h.1 h.2
        | inr h ↦ funder_acts h.0 id a p r h.1 h.2 h.3
      ]
  acted id Fundee a p r =
      let q = ends_of id p r in
      elim (acts_so id Fundee a r.fundees r.funders (swapped p) (pair.turned q)
      (flipped id r.funders r.fundees p q r.mirrors) (fronts id p r).1) [
        | inl h ↦ fundee_stays h.0 id a p r h.1 h.2
        | inr h ↦ fundee_acts h.0 id a p r h.1 h.2 h.3
      ]

  acted_went : (id : List ℕ) (side : Role) (a : Act) (p : Both K) (r : IsRun id p)
      → Went id p (moves signer id (By side a) p) r (tale_of id (By side a) p) (IsAct a)
  acted_went id side a p r =
      let h = acted id side a p r in
      went_by id p _ r h.steps (tale_of id (By side a) p) (IsAct a) h.wide h.mirrors h.x h.y h.moves_are h.told_x
      h.told_y

  -- ---- its node stops after the act, or its save fails: it loses its connection, and all that it has sent in the act

  abbrev breaks : Role → ℕ → List Step
  breaks side n = pair.By side pair.Lose ∷ pair.By side (pair.Cut n) ∷ []

  -- what is made of an end where its connection is lost
  abbrev IsLoss : List ℕ → (SimEnd K → SimEnd K) → Type 0
  IsLoss id f = (kx ky : K) (p : Both K) (q : Ends) → IsDropped q.x_line q.x → Mirrors id kx ky p q
      → Mirrors id kx ky (record { x = f p.x; y = p.y }) (pair.acts (signer kx) pair.Lose q)

  -- as the act leaves it, and then its connection is lost; the other end isn't touched
  abbrev broken : List ℕ → Act → (SimEnd K → SimEnd K) → Both K → Both K
  broken id a f p = record { x = f (acts signer id a p).x; y = p.y }

  broken_went : (id : List ℕ) (side : Role) (a : Act) (f : SimEnd K → SimEnd K) (p : Both K) (r : IsRun id p)
      → IsLoss id f → Went id p (from side (broken id a f) p) r (tale_of id (Stops side a) p) (IsAct a)
  unfolding moves
  broken_went id Funder a f p r loses =
      let x = signer r.funders in
      let y = signer r.fundees in
      let q = ends_of id p r in
      let h = acted id Funder a p r in
      let behind = pair.run x y h.steps q in
      let holds = at_end x y r.spec r.config r.funder r.fundee r.steps r.keys r.opens in
      let cut = cut_off x q behind h.left (greeted x y q holds) in
      let dropped = ran_so x y h.steps q (are_dropped x y r.steps r.funder r.fundee) in
      let ss = breaks Funder cut.left in
      let is = run-append x y h.steps ss q in
      let said = stopped_says x q behind cut in
      let now = moves signer id (By Funder a) p in
      went_by id p _ r (h.steps ++ ss) (tale_of id (Stops Funder a) p) (IsAct a)
      (λ wide. all-append StepIsWide h.steps ss (h.wide wide) (tt, (tt, tt)))
      (subst (λ w. Mirrors id r.funders r.fundees (broken id a f p) w) (sym is)
      (stopped_so signer id r.funders r.fundees (f now.x) now.y p q behind cut r.mirrors
      (loses r.funders r.fundees now behind dropped.x h.mirrors)))
      (ap (λ (w : Ends). w.said_x) is ∙ said.0 ∙ h.x)
      (ap (λ (w : Ends). w.said_y) is ∙ said.1 ∙ h.y)
      (moves-append x y h.steps ss q ∙ ap (λ ms. ms ++ pair_moves.all_moves x y ss behind) h.moves_are
      ∙ ap (λ ms. moves_of signer (By Funder a) p ++ ms) (append-nil _
      ∙ ap (λ b. cond b [] (machine.Drop Funder ∷ [])) (h.connection
      ∙ ap (λ (l : State K). is_down l.connection) (sym r.mirrors.x_link))))
      (ap events_in (told-append x y Funder h.steps ss q ∙ append-nil _) ∙ h.told_x)
      (ap events_in (told-append x y Fundee h.steps ss q ∙ append-nil _) ∙ h.told_y)
  broken_went id Fundee a f p r loses =
      let x = signer r.funders in
      let y = signer r.fundees in
      let q = ends_of id p r in
      let h = acted id Fundee a p r in
      let behind = pair.run x y h.steps q in
      let holds = at_end x y r.spec r.config r.funder r.fundee r.steps r.keys r.opens in
      let cut = cut_off y (pair.turned q) (pair.turned behind) h.left
      (greeted y x (pair.turned q) (turned_holds x y q holds)) in
      let dropped = ran_so x y h.steps q (are_dropped x y r.steps r.funder r.fundee) in
      let ss = breaks Fundee cut.left in
      let is = run-append x y h.steps ss q in
      let said = stopped_says y (pair.turned q) (pair.turned behind) cut in
      let now = swapped (moves signer id (By Fundee a) p) in
      went_by id p _ r (h.steps ++ ss) (tale_of id (Stops Fundee a) p) (IsAct a)
      (λ wide. all-append StepIsWide h.steps ss (h.wide wide) (tt, (tt, tt)))
      (subst (λ w. Mirrors id r.funders r.fundees (swapped (broken id a f (swapped p))) w) (sym is)
      (flipped id r.fundees r.funders _ (ends_stopped y cut.left (pair.turned behind))
      (stopped_so signer id r.fundees r.funders (f now.x) now.y (swapped p) (pair.turned q) (pair.turned behind) cut
      (flipped id r.funders r.fundees p q r.mirrors)
      (loses r.fundees r.funders now (pair.turned behind) dropped.y
      (flipped id r.funders r.fundees (moves signer id (By Fundee a) p) behind h.mirrors)))))
      (ap (λ (w : Ends). w.said_x) is ∙ said.1 ∙ h.x)
      (ap (λ (w : Ends). w.said_y) is ∙ said.0 ∙ h.y)
      (moves-append x y h.steps ss q ∙ ap (λ ms. ms ++ pair_moves.all_moves x y ss behind) h.moves_are
      ∙ ap (λ ms. moves_of signer (By Fundee a) p ++ ms) (append-nil _
      ∙ ap (λ b. cond b [] (machine.Drop Fundee ∷ [])) (h.connection
      ∙ ap (λ (l : State K). is_down l.connection) (sym r.mirrors.y_link))))
      (ap events_in (told-append x y Funder h.steps ss q ∙ append-nil _) ∙ h.told_x)
      (ap events_in (told-append x y Fundee h.steps ss q ∙ append-nil _) ∙ h.told_y)

  stopped_went : (id : List ℕ) (side : Role) (a : Act) (p : Both K) (r : IsRun id p)
      → Went id p (moves signer id (Stops side a) p) r (tale_of id (Stops side a) p) (IsAct a)
  unfolding moves
  stopped_went id Funder a p r =
      broken_went id Funder a restarted p r (λ kx ky p q d h. restarted_so signer id kx ky p q d h)
  stopped_went id Fundee a p r =
      broken_went id Fundee a restarted p r (λ kx ky p q d h. restarted_so signer id kx ky p q d h)

  halted_after_went : (id : List ℕ) (side : Role) (a : Act) (p : Both K) (r : IsRun id p)
      → Went id p (moves signer id (HaltsAfter side a) p) r (tale_of id (HaltsAfter side a) p) (IsAct a)
  unfolding moves
  halted_after_went id Funder a p r =
      broken_went id Funder a halted p r (λ kx ky p q d h. halted_so signer id kx ky p q h)
  halted_after_went id Fundee a p r =
      broken_went id Fundee a halted p r (λ kx ky p q d h. halted_so signer id kx ky p q h)

  -- a connection of x's is lost, whatever becomes of its link
  lost_went : (id : List ℕ) (side : Role) (p p' : Both K) (r : IsRun id p)
      → Mirrors id r.funders r.fundees p' (pair.happens (signer r.funders) (signer r.fundees)
      (pair.By side pair.Lose) (ends_of id p r))
      → Went id p p' r (tale_of id (Disconnects side) p) (Unit {0})
  lost_went id Funder p p' r h =
      let q = ends_of id p r in
      let said = lost_says (is_down q.x_line) q (record q { x_line = Down; x = end_dropped q.x; to_x = [] }) refl
      refl in
      went_so id p p' r (pair.By Funder pair.Lose) (tale_of id (Disconnects Funder) p) tt h
      (said.0 ∙ silently q.said_x [] refl) (said.1 ∙ silently q.said_y [] refl)
      (ap (λ (l : State K). moves_of_disconnect Funder l.connection) (sym r.mirrors.x_link)) refl refl
  lost_went id Fundee p p' r h =
      let q = ends_of id p r in
      let t = pair.turned q in
      let said = lost_says (is_down t.x_line) t (record t { x_line = Down; x = end_dropped t.x; to_x = [] }) refl
      refl in
      went_so id p p' r (pair.By Fundee pair.Lose) (tale_of id (Disconnects Fundee) p) tt h
      (said.1 ∙ silently q.said_x [] refl) (said.0 ∙ silently q.said_y [] refl)
      (ap (λ (l : State K). moves_of_disconnect Fundee l.connection) (sym r.mirrors.y_link)) refl refl

  fallen_went : (id : List ℕ) (side : Role) (p : Both K) (r : IsRun id p)
      → Went id p (moves signer id (Disconnects side) p) r (tale_of id (Disconnects side) p) (Unit {0})
  unfolding moves
  fallen_went id Funder p r =
      lost_went id Funder p _ r (fell signer id r.funders r.fundees p (ends_of id p r) r.mirrors)
  fallen_went id Fundee p r =
      let q = ends_of id p r in
      lost_went id Fundee p _ r (flipped id r.fundees r.funders _ _ (fell signer id r.fundees r.funders (swapped p)
      (pair.turned q) (flipped id r.funders r.fundees p q r.mirrors)))

  halted_went : (id : List ℕ) (side : Role) (p : Both K) (r : IsRun id p)
      → Went id p (moves signer id (Halts side) p) r (tale_of id (Halts side) p) (Unit {0})
  unfolding moves
  halted_went id Funder p r =
      lost_went id Funder p _ r (halted_so signer id r.funders r.fundees p (ends_of id p r) r.mirrors)
  halted_went id Fundee p r =
      let q = ends_of id p r in
      lost_went id Fundee p _ r (flipped id r.fundees r.funders _ _ (halted_so signer id r.fundees r.funders (swapped p)
      (pair.turned q) (flipped id r.funders r.fundees p q r.mirrors)))

  restarted_went : (id : List ℕ) (side : Role) (p : Both K) (r : IsRun id p)
      → Went id p (moves signer id (Restarts side) p) r (tale_of id (Restarts side) p) (Unit {0})
  unfolding moves
  restarted_went id Funder p r =
      let d = are_dropped (signer r.funders) (signer r.fundees) r.steps r.funder r.fundee in
      lost_went id Funder p _ r (restarted_so signer id r.funders r.fundees p (ends_of id p r) d.x r.mirrors)
  restarted_went id Fundee p r =
      let q = ends_of id p r in
      let d = are_dropped (signer r.funders) (signer r.fundees) r.steps r.funder r.fundee in
      lost_went id Fundee p _ r (flipped id r.fundees r.funders _ _ (restarted_so signer id r.fundees r.funders
      (swapped p) (pair.turned q) d.y (flipped id r.funders r.fundees p q r.mirrors)))

  not_true : (b : Bool) → not b ≡ true → b ≡ false
  not_true false e = refl
  not_true true e = absurd (cc)

  came_up_went : (id : List ℕ) (p : Both K) → may_meet p ≡ true → (r : IsRun id p)
      → Went id p (moves signer id Meet p) r (tale_of id Meet p) (Unit {0})
  unfolding moves
  came_up_went id p e r =
      let ends = both_true (may_come_up p.x.link) (may_come_up p.y.link) e in
      let x = both_true (is_down p.x.link.connection) (not p.x.link.halted) ends.0 in
      let y = both_true (is_down p.y.link.connection) (not p.y.link.halted) ends.1 in
      let q = ends_of id p r in
      let work : AreAwake signer id r.funders r.fundees p q = record {
        x = unless_halted id r.funders r.fundees p q r.mirrors (not_true p.x.link.halted x.1);
        y = unless_halted id r.fundees r.funders (swapped p) (pair.turned q)
            (flipped id r.funders r.fundees p q r.mirrors) (not_true p.y.link.halted y.1);
      } in
      let said = met_says signer id r.funders r.fundees p q x.0 y.0 work r.mirrors in
      let told = met_tells signer id r.funders r.fundees p q x.0 y.0 work r.mirrors in
      went_so id p _ r pair.Connect (tale_of id Meet p) tt
      (met signer id r.funders r.fundees p q x.0 y.0 work r.mirrors) said.0 said.1 refl (sym told.0) (sym told.1)

  -- those that the table gives: a connection joins ends that are both down, and haven't halted
  abbrev pub is_possible : Move → Both K → Bool
  is_possible (By side a) p = true
  is_possible (Disconnects side) p = true
  is_possible (Halts side) p = true
  is_possible (Restarts side) p = true
  is_possible (Stops side a) p = true
  is_possible (HaltsAfter side a) p = true
  is_possible Meet p = may_meet p

  abbrev pub ArePossible : List ℕ → List Move → Both K → Type 0
  ArePossible id [] p = Unit {0}
  ArePossible id (m ∷ ms) p = (is_possible m p ≡ true) × ArePossible id ms (moves signer id m p)

  pub went : (id : List ℕ) (m : Move) (p : Both K) → is_possible m p ≡ true → (r : IsRun id p)
      → Went id p (moves signer id m p) r (tale_of id m p) (IsMove m)
  went id (By side a) p e r = acted_went id side a p r
  went id (Disconnects side) p e r = fallen_went id side p r
  went id (Halts side) p e r = halted_went id side p r
  went id (Restarts side) p e r = restarted_went id side p r
  went id (Stops side a) p e r = stopped_went id side a p r
  went id (HaltsAfter side a) p e r = halted_after_went id side a p r
  went id Meet p e r = came_up_went id p e r

  -- ---- a channel, and what has come of it since it was opened

  pub record IsTold (id : List ℕ) (p : Both K) (t : Tale) : Type 0 where
    pub run : IsRun id p
    pub x : (ends_of id p run).said_x ≡ without_warnings t.sent_x
    pub y : (ends_of id p run).said_y ≡ without_warnings t.sent_y
    pub moves : moves_until id p run ≡ t.moves
    pub told_x : told_until Funder id p run ≡ events_in t.told_x
    pub told_y : told_until Fundee id p run ≡ events_in t.told_y

  -- of moves, in their order
  abbrev pub tale_along : List ℕ → List Move → Both K → Tale
  tale_along id ms p = record {
    sent_x = along signer id (sends signer Funder id) ms p;
    sent_y = along signer id (sends signer Fundee id) ms p;
    moves = along signer id (moves_of signer) ms p;
    told_x = along signer id (tells signer Funder) ms p;
    told_y = along signer id (tells signer Fundee) ms p;
  }

  one_told : (id : List ℕ) (m : Move) (p : Both K) (t : Tale) → is_possible m p ≡ true → IsTold id p t
      → IsTold id (moves signer id m p) (then t (tale_of id m p))
  one_told id m p t may h =
      let u = tale_of id m p in
      let w = went id m p may h.run in
      record {
        run = w.run;
        x = w.x ∙ ap (λ ws. ws ++ without_warnings u.sent_x) h.x ∙ sym (without-append t.sent_x u.sent_x);
        y = w.y ∙ ap (λ ws. ws ++ without_warnings u.sent_y) h.y ∙ sym (without-append t.sent_y u.sent_y);
        moves = w.moves ∙ ap (λ ms. ms ++ u.moves) h.moves;
        told_x = w.told_x ∙ ap (λ os. os ++ events_in u.told_x) h.told_x ∙ sym (events_in-append t.told_x u.told_x);
        told_y = w.told_y ∙ ap (λ os. os ++ events_in u.told_y) h.told_y ∙ sym (events_in-append t.told_y u.told_y);
      }

  pub all_told : (id : List ℕ) (ms : List Move) (p : Both K) (t : Tale) → ArePossible id ms p → IsTold id p t
      → IsTold id (run_both signer id ms p) (then t (tale_along id ms p))
  all_told id [] p t may h = subst (IsTold id p) (sym (then-untold t)) h
  all_told id (m ∷ ms) p t may h =
      let p' = moves signer id m p in
      subst (IsTold id (run_both signer id ms p')) (then_assoc t (tale_of id m p) (tale_along id ms p'))
      (all_told id ms p' (then t (tale_of id m p)) may.1 (one_told id m p t may.0 h))

  -- ---- what it has sent, the moves that it made, and what it has told

  pub none_adds_late : (id : List ℕ) (p : Both K) (t : Tale) → IsTold id p t
      → AddsBefore false t.sent_x × AddsBefore false t.sent_y
  none_adds_late id p t h =
      let r = h.run in
      let late = offered.none_adds_late (signer r.funders) (signer r.fundees) r.spec r.config r.funder r.fundee r.steps
      r.keys r.opens in (
        with_warnings false t.sent_x (subst (AddsBefore false) h.x late.0),
        with_warnings false t.sent_y (subst (AddsBefore false) h.y late.1),
      )

  machine_so : (id : List ℕ) (p : Both K) (r : IsRun id p)
      → Some (pair_moves.machine_of (ends_of id p r)) ≡ machine_of_stages p.x.link.stage p.y.link.stage
  machine_so id p r =
      let q = ends_of id p r in
      ap (λ (l : State K). machine_of_stages (stage.Funded q.x) l.stage) (sym r.mirrors.y_link)
      ∙ ap (λ (l : State K). machine_of_stages l.stage p.y.link.stage) (sym r.mirrors.x_link)

  pub runs_so : (id : List ℕ) (p : Both K) (t : Tale) → IsTold id p t
      → machine.IsRun t.moves None (machine_of_stages p.x.link.stage p.y.link.stage)
  runs_so id p t h =
      let r = h.run in
      let made = may_be_made (signer r.funders) (signer r.fundees) r.spec r.config r.funder r.fundee r.steps r.keys
      r.opens in
      subst (λ m. machine.IsRun t.moves None m) (machine_so id p r)
      (subst (λ ms. machine.IsRun ms None (Some (pair_moves.machine_of (ends_of id p r)))) h.moves made)

  events_told : (side : Role) (id : List ℕ) (p : Both K) (t : Tale) (h : IsTold id p t)
      → told_until side id p h.run ≡ numbered 0 (as_told (events side t.moves None))
  events_told side id p t h =
      let r = h.run in
      events_so (signer r.funders) (signer r.fundees) r.spec r.config r.funder r.fundee r.steps side r.keys r.opens
      ∙ ap (λ ms. numbered 0 (as_told (events side ms None))) h.moves

  pub funder_told : (id : List ℕ) (p : Both K) (t : Tale) → IsTold id p t
      → events_in t.told_x ≡ numbered 0 (as_told (events Funder t.moves None))
  funder_told id p t h = sym h.told_x ∙ events_told Funder id p t h

  pub fundee_told : (id : List ℕ) (p : Both K) (t : Tale) → IsTold id p t
      → events_in t.told_y ≡ numbered 0 (as_told (events Fundee t.moves None))
  fundee_told id p t h = sym h.told_y ∙ events_told Fundee id p t h

  -- ---- what it has yet to decide

  at_link : (side : Role) (id : List ℕ) (p : Both K) (r : IsRun id p) (f : End → Type 0)
      → f (end_of_role side (ends_of id p r)) → AtEnd f (place_of side p).link.stage
  at_link Funder id p r f h = subst (λ (l : State K). AtEnd f l.stage) (sym r.mirrors.x_link) h
  at_link Fundee id p r f h = subst (λ (l : State K). AtEnd f l.stage) (sym r.mirrors.y_link) h

  pub in_step : (side : Role) (id : List ℕ) (p : Both K) (t : Tale) → IsTold id p t
      → AtEnd (IsInStep (as_told (events side t.moves None))) (place_of side p).link.stage
  in_step side id p t h =
      let r = h.run in
      at_link side id p r (IsInStep (as_told (events side t.moves None)))
      (subst (λ ms. IsInStep (as_told (events side ms None)) (end_of_role side (ends_of id p r))) h.moves
      (in_step_so (signer r.funders) (signer r.fundees) r.spec r.config r.funder r.fundee r.steps side r.keys r.opens))

  -- ---- by the table

  acted_by : (id : List ℕ) (o : Option Role) (a : Act) (p : Both K) → IsRun id p
      → IsRun id (run_both signer id (by o (λ side. By side a)) p)
  acted_by id None a p r = r
  acted_by id (Some side) a p r = (acted_went id side a p r).run

  fallen_by : (id : List ℕ) (o : Option Role) (p : Both K) → IsRun id p
      → IsRun id (run_both signer id (by o Disconnects) p)
  fallen_by id None p r = r
  fallen_by id (Some side) p r = (fallen_went id side p r).run

  halted_by : (id : List ℕ) (o : Option Role) (p : Both K) → IsRun id p → IsRun id (run_both signer id (by o Halts) p)
  halted_by id None p r = r
  halted_by id (Some side) p r = (halted_went id side p r).run

  halted_after_by : (id : List ℕ) (o : Option Role) (a : Act) (p : Both K) → IsRun id p
      → IsRun id (run_both signer id (by o (λ side. HaltsAfter side a)) p)
  halted_after_by id None a p r = r
  halted_after_by id (Some side) a p r = (halted_after_went id side a p r).run

  restarted_by : (id : List ℕ) (o : Option Role) (p : Both K) → IsRun id p
      → IsRun id (run_both signer id (by o Restarts) p)
  restarted_by id None p r = r
  restarted_by id (Some side) p r = (restarted_went id side p r).run

  stopped_by : (id : List ℕ) (b : Bool) (o : Option Role) (a : Act) (p : Both K) → IsRun id p
      → IsRun id (run_both signer id (cond b (by o (λ side. Stops side a)) (by o Restarts)) p)
  stopped_by id true None a p r = r
  stopped_by id false None a p r = r
  stopped_by id true (Some side) a p r = (stopped_went id side a p r).run
  stopped_by id false (Some side) a p r = (restarted_went id side p r).run

  up_by : (id : List ℕ) (b : Bool) (p : Both K) → may_meet p ≡ b → IsRun id p
      → IsRun id (run_both signer id (cond b (Meet ∷ []) []) p)
  up_by id true p e r = (came_up_went id p e r).run
  up_by id false p e r = r

  abbrev pub IsOpen : WorldChannel K → Type 0
  IsOpen c = IsRun (channel_id_of c.number) c.both

  pub act_kept : (n : Node) (a : Act) (c : WorldChannel K) → IsOpen c → IsOpen (moved signer (act_moves n a) c)
  act_kept n a c h = acted_by (channel_id_of c.number) (side_of n c) a c.both h

  pub fall_kept : (n : Node) (c : WorldChannel K) → IsOpen c → IsOpen (moved signer (disconnect_moves n) c)
  fall_kept n c h = fallen_by (channel_id_of c.number) (side_of n c) c.both h

  pub halt_kept : (n : Node) (c : WorldChannel K) → IsOpen c → IsOpen (moved signer (halt_moves n) c)
  halt_kept n c h = halted_by (channel_id_of c.number) (side_of n c) c.both h

  pub failed_save_kept : (left : RecordLeft) (n : Node) (a : Act) (c : WorldChannel K) → IsOpen c
      → IsOpen (moved signer (failed_save_moves left n a) c)
  failed_save_kept record_left.Old n a c h = halt_kept n c h
  failed_save_kept record_left.New n a c h = halted_after_by (channel_id_of c.number) (side_of n c) a c.both h

  pub restart_kept : (n : Node) (c : WorldChannel K) → IsOpen c → IsOpen (moved signer (restart_moves n) c)
  restart_kept n c h = restarted_by (channel_id_of c.number) (side_of n c) c.both h

  pub stop_kept : (e : WorldEnd) (a : Act) (c : WorldChannel K) → IsOpen c → IsOpen (moved signer (stop_moves e a) c)
  stop_kept e a c h = stopped_by (channel_id_of c.number) (c.number == e.channel) (side_of e.node c) a c.both h

  pub up_kept : (c : WorldChannel K) → IsOpen c → IsOpen (moved signer up_moves c)
  up_kept c h = up_by (channel_id_of c.number) (may_meet c.both) c.both refl h

  -- ---- what the pair promises, told of the links

  pub at_links : (id : List ℕ) (kx ky : K) (f : End → End → Type 0) (p : Both K) (q : Ends) → Mirrors id kx ky p q
      → f q.x q.y → AtEnds f p.x.link.stage p.y.link.stage
  at_links id kx ky f p q h held =
      let x : stage.Funded q.x ≡ p.x.link.stage = ap (λ (l : State K). l.stage) (sym h.x_link) in
      let y : stage.Funded q.y ≡ p.y.link.stage = ap (λ (l : State K). l.stage) (sym h.y_link) in
      subst (λ s. AtEnds f p.x.link.stage s) y (subst (λ s. AtEnds f s (stage.Funded q.y)) x held)

  pub as_set_up : (id : List ℕ) (p : Both K) (r : IsRun id p)
      → AtEnds (AreSetUp (setup_at id p r)) p.x.link.stage p.y.link.stage
  as_set_up id p r = at_links id r.funders r.fundees (AreSetUp (setup_at id p r)) p (ends_of id p r) r.mirrors
      (set_up_so (signer r.funders) (signer r.fundees) r.spec r.config r.funder r.fundee r.steps r.keys r.opens)

  pub headline : (id : List ℕ) (p : Both K) → IsRun id p → Headline p
  headline id p r = at_links id r.funders r.fundees FollowEachOther p (ends_of id p r) r.mirrors
      (offered.headline (signer r.funders) (signer r.fundees) r.spec r.config r.funder r.fundee r.steps r.keys r.opens)

  pub agrees : (id : List ℕ) (p : Both K) → IsRun id p → Agrees p
  agrees id p r quiet =
      let q = ends_of id p r in
      let h = r.mirrors in
      at_links id r.funders r.fundees AgreeOnceSigned p q h (λ x y.
      offered.agrees (signer r.funders) (signer r.fundees) r.spec r.config r.funder r.fundee r.steps r.keys r.opens
      (record {
        x_met = ap (λ (l : State K). l.connection) (sym h.x_link) ∙ quiet.x_met;
        y_met = ap (λ (l : State K). l.connection) (sym h.y_link) ∙ quiet.y_met;
        to_x = sym h.x_in.told ∙ ap without_warnings quiet.to_x;
        to_y = sym h.y_in.told ∙ ap without_warnings quiet.to_y;
        x = x;
        y = y;
      }))

  pub readiness_agrees : (id : List ℕ) (p : Both K) → IsRun id p → ReadinessAgrees p
  readiness_agrees id p r quiet =
      let h = r.mirrors in
      at_links id r.funders r.fundees SameReadiness p (ends_of id p r) h
      (offered.readiness_agrees (signer r.funders) (signer r.fundees) r.spec r.config r.funder r.fundee r.steps r.keys
      r.opens (record {
        x_met = ap (λ (l : State K). l.connection) (sym h.x_link) ∙ quiet.x_met;
        y_met = ap (λ (l : State K). l.connection) (sym h.y_link) ∙ quiet.y_met;
        to_x = sym h.x_in.told ∙ ap without_warnings quiet.to_x;
        to_y = sym h.y_in.told ∙ ap without_warnings quiet.to_y;
      }))

  -- ---- none is refused

  front_of : (id : List ℕ) (k : K) (line : ConnectionState) (m : Message) (ms to : List Message) (e : End)
      → is_down line ≡ false → named m ≡ Some id → e.dance.channel ≡ id → Front (signer k) line (m ∷ to) e
      → TakesFront signer (link_of k line e) (m ∷ ms)
  front_of id k line m ms to e up own channel (inl f) = inl (
    record { connection = Connected; stage = stage.Funded f.0.end; outputs = all_of f.0.handed },
    handled_so (signer k) k id line m e up own channel ∙ ap (step.turned Connected) f.1,
  )
  front_of id k line m ms to e up own channel (inr f) = inr (
    f.0,
    handled_so (signer k) k id line m e up own channel ∙ ap (step.turned Connected) f.1,
  )

  front_by : (id : List ℕ) (k : K) (l : State K) (line : ConnectionState) (e : End) (inbox to : List Message)
      → (is_down line ≡ false → l ≡ link_of k line e) → IsInbox id line inbox to → e.dance.channel ≡ id
      → Front (signer k) line to e
      → TakesFront signer l inbox
  front_by id k l line e [] to is i channel f = tt
  front_by id k l line e (m ∷ ms) to is i channel f =
      let Goal : State K → Type 0 = λ w. TakesFront signer w (m ∷ ms) in
      let up = is_up signer id k k line m ms i.down in
      subst Goal (sym (is up)) (elim (i.named.0) [
        | inl warns ↦ inl (
          record { connection = line; stage = stage.Funded e; outputs = [] },
          passed_so (signer k) k id line m e warns,
        )
        | inr own ↦
            front_of id k line m ms (without_warnings ms) e up own channel
            (subst (λ ws. Front (signer k) line ws e) (sym i.told
            ∙ ap (λ b. cond b (without_warnings ms) (m ∷ without_warnings ms)) (plain id m own).warning) f)
      ])

  pub none_refused : (id : List ℕ) (p : Both K) → IsRun id p → NoneRefused signer p
  none_refused id p r =
      let q = ends_of id p r in
      let h = r.mirrors in
      record {
        x = front_by id r.funders p.x.link q.x_line q.x p.x.inbox q.to_x
            (λ up. is_awake id r.funders r.fundees p q h up) h.x_in h.x_channel (fronts id p r).0;
        y = front_by id r.fundees p.y.link q.y_line q.y p.y.inbox q.to_y
            (λ up. is_awake id r.fundees r.funders (swapped p) (pair.turned q)
            (flipped id r.funders r.fundees p q h) up) h.y_in h.y_channel (fronts id p r).1;
        x_stands = ap (λ (l : State K). l.failure) h.x_link;
        y_stands = ap (λ (l : State K). l.failure) h.y_link;
      }

  -- ---- where fees overlap

  accepted_of : (id : List ℕ) (k : K) (line : ConnectionState) (m : Message) (ms to : List Message) (e : End)
      → is_down line ≡ false → named m ≡ Some id → e.dance.channel ≡ id → Accepted (signer k) line (m ∷ to) e
      → AcceptsFront signer (link_of k line e) (m ∷ ms)
  accepted_of id k line m ms to e up own channel f = (
    record { connection = Connected; stage = stage.Funded f.0.end; outputs = all_of f.0.handed },
    handled_so (signer k) k id line m e up own channel ∙ ap (step.turned Connected) f.1,
  )

  accepted_by : (id : List ℕ) (k : K) (l : State K) (line : ConnectionState) (e : End) (inbox to : List Message)
      → (is_down line ≡ false → l ≡ link_of k line e) → IsInbox id line inbox to → e.dance.channel ≡ id
      → Accepted (signer k) line to e
      → AcceptsFront signer l inbox
  accepted_by id k l line e [] to is i channel f = tt
  accepted_by id k l line e (m ∷ ms) to is i channel f =
      let Goal : State K → Type 0 = λ w. AcceptsFront signer w (m ∷ ms) in
      let up = is_up signer id k k line m ms i.down in
      subst Goal (sym (is up)) (elim (i.named.0) [
        | inl warns ↦ (
          record { connection = line; stage = stage.Funded e; outputs = [] },
          passed_so (signer k) k id line m e warns,
        )
        | inr own ↦
            accepted_of id k line m ms (without_warnings ms) e up own channel
            (subst (λ ws. Accepted (signer k) line ws e) (sym i.told
            ∙ ap (λ b. cond b (without_warnings ms) (m ∷ without_warnings ms)) (plain id m own).warning) f)
      ])

  overlap_so : (id : List ℕ) (p : Both K) (r : IsRun id p) → AtEnds FeesOverlap p.x.link.stage p.y.link.stage
      → Overlap r.funder.closing.fees r.fundee.closing.fees
  overlap_so id p r over =
      let q = ends_of id p r in
      let h = r.mirrors in
      let same = run_fees (signer r.funders) (signer r.fundees) r.steps (pair.opened r.funder r.fundee) in
      let x : AtEnds FeesOverlap (stage.Funded q.x) p.y.link.stage =
      subst (λ (l : State K). AtEnds FeesOverlap l.stage p.y.link.stage) h.x_link over in
      let at : FeesOverlap q.x q.y = subst (λ (l : State K). AtEnds FeesOverlap
      (stage.Funded q.x) l.stage) h.y_link x in
      subst (λ f. Overlap r.funder.closing.fees f) same.y (subst (λ f. Overlap f q.y.closing.fees) same.x at)

  pub all_accepted : (id : List ℕ) (p : Both K) → IsRun id p → AllTaken signer p
  all_accepted id p r over =
      let q = ends_of id p r in
      let h = r.mirrors in
      let f = all_taken (signer r.funders) (signer r.fundees) r.spec r.config r.funder r.fundee r.steps r.keys r.opens
      (record {
        funder = r.funders_order;
        fundee = r.fundees_order;
        funder_sent = r.funders_fees;
        fundee_sent = r.fundees_fees;
        overlap = overlap_so id p r over;
      }) in (
        accepted_by id r.funders p.x.link q.x_line q.x p.x.inbox q.to_x
            (λ up. is_awake id r.funders r.fundees p q h up) h.x_in h.x_channel f.0,
        accepted_by id r.fundees p.y.link q.y_line q.y p.y.inbox q.to_y
            (λ up. is_awake id r.fundees r.funders (swapped p) (pair.turned q)
            (flipped id r.funders r.fundees p q h) up) h.y_in h.y_channel f.1,
      )

  pub both_close : (id : List ℕ) (p : Both K) → IsRun id p → BothClose p
  both_close id p r over quiet =
      let h = r.mirrors in
      at_links id r.funders r.fundees CloseOnceDone p (ends_of id p r) h
      (offered.both_close (signer r.funders) (signer r.fundees) r.spec r.config r.funder r.fundee r.steps r.keys r.opens
      (record {
        funder = r.funders_order;
        fundee = r.fundees_order;
        funder_sent = r.funders_fees;
        fundee_sent = r.fundees_fees;
        overlap = overlap_so id p r over;
      })
      (record {
        x_met = ap (λ (l : State K). l.connection) (sym h.x_link) ∙ quiet.x_met;
        y_met = ap (λ (l : State K). l.connection) (sym h.y_link) ∙ quiet.y_met;
        to_x = sym h.x_in.told ∙ ap without_warnings quiet.to_x;
        to_y = sym h.y_in.told ∙ ap without_warnings quiet.to_y;
      }))

  pub answers_shutdown : (id : List ℕ) (p : Both K) → IsRun id p → AnswersShutdown p
  answers_shutdown id p r =
      let q = ends_of id p r in
      let h = r.mirrors in
      let both = all_answered (signer r.funders) (signer r.fundees) r.spec r.config r.funder r.fundee r.steps r.keys
      r.opens in
      at_links id r.funders r.fundees (HaveAnswered p.x.link.connection p.y.link.connection) p q h (
        subst (λ l. HasAnswered l q.x) (ap (λ (l : State K). l.connection) (sym h.x_link)) both.0,
        subst (λ l. HasAnswered l q.y) (ap (λ (l : State K). l.connection) (sym h.y_link)) both.1,
      )

  pub closes_at_one_fee : (id : List ℕ) (p : Both K) → IsRun id p → OneFee p
  closes_at_one_fee id p r = at_links id r.funders r.fundees CloseAtOneFee p (ends_of id p r) r.mirrors
      (one_fee (signer r.funders) (signer r.fundees) r.spec r.config r.funder r.fundee r.steps r.opens)
