-- A connection that is lost, and one that comes back.
use Rattle.std.proofs.Common.{◌≡◌, ℕ, ◌+◌, ◌≤◌, List, [], ◌∷◌, ◌++◌, refl, sym, ap, ◌∙◌, subst, arith, Ok}
use Rattle.ln_msgs.specs.declared.messages.message.Message.{Message}
use Rattle.ln_msgs.specs.declared.messages.message.Message.TheVariants as message
use Rattle.ln_msgs.specs.declared.messages.commitments.ChannelReestablish.{ChannelReestablish}
use Rattle.ln_keys.specs.Signer.{Signer}
use Rattle.ln_log.specs.Log.{Counts}
use Rattle.ln_dance.specs.Resume.{reestablish_message, resume_fault}
use Rattle.ln_dance.specs.Reconnect.{KeepsUp, HaveParted}
use Rattle.ln_dance.proofs.Parted.{served}
use Rattle.ln_channel.specs.declared.machine.ConnectionState.{ConnectionState}
use Rattle.ln_channel.specs.declared.machine.ConnectionState.TheVariants.{Down, AwaitingReestablish, Connected}
use Rattle.ln_channel.specs.End.{End, end_dropped, completed}
use Rattle.ln_channel.specs.Resume.{sent_again, resumed, resume_row}
use Rattle.ln_channel_laws.specs.Ends.{messages_in}
use Rattle.ln_channel_laws.proofs.Tests.{unless_none}
use Rattle.ln_channel_laws.proofs.Flight.Sides.{Notice, Again, posts, all_owed}
use Rattle.ln_channel_laws.proofs.Flight.Walk.{Phase, Idle, Sent, Answered, BothFlow}
use Rattle.ln_channel_laws.proofs.Readiness.ReadinessInFlight.{BothReadiness}
use Rattle.ln_channel_laws.proofs.Closing.NothingMoves.{Ending, none_owed, begun_dropped}
use Rattle.ln_channel_laws.proofs.Closing.ClosingInFlight.{again_closes}
use Rattle.ln_channel_laws.proofs.Flight.WalkOverBreaks.{kept_again, kept_down, kept_up}
use Rattle.ln_channel_laws.proofs.Readiness.ReadinessOverActs.{none-take}
use Rattle.ln_channel_laws.proofs.Readiness.ReadinessOverBreaks.{readiness_again, readiness_down, readiness_up}
use Rattle.ln_channel_laws.proofs.Flight.Images.{messages_of, side_of, dropped_so}
use Rattle.ln_channel_laws.proofs.Ends.Acts.{Said, said_more, Knows, both, Hold}
use Rattle.ln_channel_laws.proofs.Flight.SentAgain.{resends_so, said_again}

-- ---- what the reestablish tells is served

parted_by : (s a c : ℕ) (acked signed current : Counts) → Phase s a c acked signed current
    → (a ≤ c) × (c ≤ s) × (s ≤ a + 1)
parted_by s a c acked signed current (Idle e1 e2 e3 e4 e5 e6) =
    (omega (arith, e1, e2), omega (arith, e2), omega (arith, e1))
parted_by s a c acked signed current (Sent e1 e2 e3 e4) = (omega (arith, e2), omega (arith, e1, e2), omega (arith, e1))
parted_by s a c acked signed current (Answered e1 e2 e3 e4) =
    (omega (arith, e1, e2), omega (arith, e2), omega (arith, e1))

pub keeps_up : (a b : Signer) (x y : End) → Phase x.dance.numbers.signed x.dance.numbers.revoked
    y.dance.numbers.commitment x.dance.log.acknowledged x.dance.log.signed y.dance.log.current
    → Knows b x y → KeepsUp b x.dance y.dance
keeps_up a b x y p k =
    let q = parted_by x.dance.numbers.signed x.dance.numbers.revoked y.dance.numbers.commitment x.dance.log.acknowledged
    x.dance.log.signed y.dance.log.current p in
    record { revoked = q.0; accepted = q.1; one_unrevoked = q.2; secret = k.secret }

module _ (a b : Signer) (channel : List ℕ) (ly : ConnectionState) (x y : End) (to_y : List Notice)
    (said_x said_y : List Message) where
  pub again_row : (m : ChannelReestablish) (ns : List Notice)
      → Hold a b channel AwaitingReestablish ly x y (Again m ∷ ns) to_y said_x said_y
      → resume_row a m x ≡ Ok (completed a (resumed a m x))
  again_row m ns h =
      let parted : HaveParted a b x.dance y.dance =
      record {
        there = keeps_up a b x y h.kept.there.phase h.x_knows;
        back = keeps_up b a y x h.kept.back.phase h.y_knows;
      } in
      unless_none (resume_fault a m x.dance) (completed a (resumed a m x))
      (served a b x.dance y.dance m parted (h.kept.back.flight.0))

  -- it has met y then, and has sent all that y lacks
  abbrev pub lacked : ChannelReestablish → List Notice
  lacked m = all_owed m.next_commitment_number m.next_revocation_number (side_of a x)

  pub again_sends : (m : ChannelReestablish) (ns : List Notice)
      → Hold a b channel AwaitingReestablish ly x y (Again m ∷ ns) to_y said_x said_y
      → messages_in (sent_again a m x) ≡ messages_of channel (lacked m)
  again_sends m ns h = resends_so a m x ∙ ap (λ c. messages_of c (lacked m)) h.x_channel

  again_kept : (m : ChannelReestablish) (ns : List Notice)
      → Hold a b channel AwaitingReestablish ly x y (Again m ∷ ns) to_y said_x said_y
      → BothFlow (both Connected ly (side_of a x) (side_of b y) ns (posts ly (lacked m) to_y))
  again_kept m ns h = kept_again ly (side_of a x) (side_of b y) m ns to_y refl refl h.kept

  again_told : (m : ChannelReestablish) (ns : List Notice)
      → Hold a b channel AwaitingReestablish ly x y (Again m ∷ ns) to_y said_x said_y
      → BothReadiness (both Connected ly (side_of a x) (side_of b y) ns (posts ly (lacked m) to_y))
  again_told m ns h = readiness_again ly (side_of a x) (side_of b y) m ns to_y
      (none_owed AwaitingReestablish ly (side_of a x) (side_of b y) to_y h.kept.there h.ended) refl refl h.kept h.told

  pub took_again : (m : ChannelReestablish) (ns : List Notice)
      → Hold a b channel AwaitingReestablish ly x y (Again m ∷ ns) to_y said_x said_y
      → Hold a b channel Connected ly x y ns (posts ly (lacked m) to_y) (said_x
      ++ messages_in (sent_again a m x)) said_y
  took_again m ns h = record {
    kept = again_kept m ns h;
    told = again_told m ns h;
    ended = h.ended;
    ended_back = h.ended_back;
    closes = again_closes a x.closing.fees ly m.next_commitment_number m.next_revocation_number (side_of a x)
        (side_of b y) to_y h.kept.there.within h.ended.begun h.x_signs h.kept.there.flight
        (again_kept m ns h).there.flight
        (again_told m ns h).there.flight h.closes;
    closes_back = h.closes_back;
    x_signs = h.x_signs;
    y_signs = h.y_signs;
    x_channel = h.x_channel;
    y_channel = h.y_channel;
    x_knows = h.x_knows;
    y_knows = h.y_knows;
    x_said = subst (λ ms. Said x.closing.shut (said_x ++ ms)) (sym (again_sends m ns h))
        (said_again channel (side_of a x) m.next_commitment_number m.next_revocation_number said_x
        (λ e. none-take x.dance.log.acknowledged.own x.dance.log.signed.own (side_of a x).own
        (h.told.there.shut e)) h.x_said);
    y_said = h.y_said;
  }

-- ---- a connection is lost

pub lost_so : (a b : Signer) (channel : List ℕ) (lx ly : ConnectionState) (x y : End) (to_x to_y : List Notice)
    (said_x said_y : List Message) → Hold a b channel lx ly x y to_x to_y said_x said_y
    → Hold a b channel Down ly (end_dropped x) y [] to_y said_x said_y
lost_so a b channel lx ly x y to_x to_y said_x said_y h =
    let w = h.kept.there.within in
    let is = dropped_so a x w.peer_signed in
    record {
      kept = subst (λ z. BothFlow (both Down ly z (side_of b y) [] to_y)) (sym is)
          (kept_down (both lx ly (side_of a x) (side_of b y) to_x to_y) h.kept);
      told = subst (λ z. BothReadiness (both Down ly z (side_of b y) [] to_y)) (sym is)
          (readiness_down (both lx ly (side_of a x) (side_of b y) to_x to_y) w.own_signed h.told);
      ended = subst (λ z. Ending z (side_of b y)) (sym is)
          (record {
            news = h.ended.news;
            begun = λ q. begun_dropped (side_of a x) w (h.ended.begun q);
            closed = λ q. begun_dropped (side_of a x) w (h.ended.closed q);
            answered = h.ended.answered;
          });
      ended_back = subst (λ z. Ending (side_of b y) z) (sym is)
          (record {
            news = h.ended_back.news;
            begun = h.ended_back.begun;
            closed = h.ended_back.closed;
            answered = h.ended_back.answered;
          });
      closes = h.closes;
      closes_back = tt;
      x_signs = h.x_signs;
      y_signs = h.y_signs;
      x_channel = h.x_channel;
      y_channel = h.y_channel;
      x_knows = record {
        point = h.x_knows.point;
        next_point = h.x_knows.next_point;
        below = h.x_knows.below;
        script = h.x_knows.script;
        secret = h.x_knows.secret;
      };
      y_knows = record {
        point = h.y_knows.point;
        next_point = h.y_knows.next_point;
        below = h.y_knows.below;
        script = h.y_knows.script;
        secret = h.y_knows.secret;
      };
      x_said = h.x_said;
      y_said = h.y_said;
    }

-- ---- a connection comes up

pub joined_so : (a b : Signer) (channel : List ℕ) (x y : End) (to_x to_y : List Notice) (said_x said_y : List Message)
    → Hold a b channel Down Down x y to_x to_y said_x said_y
    → Hold a b channel AwaitingReestablish AwaitingReestablish x y (Again (reestablish_message b y.dance) ∷ [])
    (Again (reestablish_message a x.dance) ∷ []) (said_x ++ message.ChannelReestablish (reestablish_message a x.dance)
    ∷ []) (said_y ++ message.ChannelReestablish (reestablish_message b y.dance) ∷ [])
joined_so a b channel x y to_x to_y said_x said_y h =
    let empty : BothFlow (both Down Down (side_of a x) (side_of b y) [] []) =
    subst (λ ms. BothFlow (both Down Down (side_of a x) (side_of b y) ms [])) h.kept.back.flight
    (subst (λ ms. BothFlow (both Down Down (side_of a x) (side_of b y) to_x ms)) h.kept.there.flight h.kept) in
    record {
      kept = kept_up (side_of a x) (side_of b y) empty;
      told = readiness_up (side_of a x) (side_of b y) to_x to_y h.told;
      ended = h.ended;
      ended_back = h.ended_back;
      closes = tt;
      closes_back = tt;
      x_signs = h.x_signs;
      y_signs = h.y_signs;
      x_channel = h.x_channel;
      y_channel = h.y_channel;
      x_knows = h.x_knows;
      y_knows = h.y_knows;
      x_said = said_more x.closing.shut x.closing.shut said_x
          (message.ChannelReestablish (reestablish_message a x.dance)) (λ e. absurd (cc)) (λ e. e)
          (λ e. absurd (cc)) h.x_said;
      y_said = said_more y.closing.shut y.closing.shut said_y
          (message.ChannelReestablish (reestablish_message b y.dance)) (λ e. absurd (cc)) (λ e. e)
          (λ e. absurd (cc)) h.y_said;
    }
