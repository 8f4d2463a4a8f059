-- The four messages that open a channel leave two links at the ends of a pair.
use Rattle.std.proofs.Common.{◌≡◌, ℕ, List, [], ◌∷◌, refl, sym, ap, ◌∙◌, subst, false, cond, not}
use Rattle.std.proofs.Common.{Some, None, Result}
use Rattle.ln_bytes.proofs.Same.{same_if_equal}
use Rattle.ln_msgs.specs.declared.messages.message.Message.{Message}
use Rattle.ln_msgs.specs.declared.messages.message.Message.TheVariants as message
use Rattle.ln_msgs.specs.declared.messages.opening.AcceptChannel.{AcceptChannel}
use Rattle.ln_msgs.specs.declared.messages.opening.FundingCreated.{FundingCreated}
use Rattle.ln_msgs.specs.declared.messages.opening.FundingSigned.{FundingSigned}
use Rattle.ln_refusals.specs.declared.refusal.Refusal.{Refusal}
use Rattle.ln_refusals.specs.declared.refusal.Refusal.TheVariants as refusal
use Rattle.ln_msgs.specs.Messages.Channel.{id_of_channel}
use Rattle.ln_keys.specs.declared.role.Role.TheVariants.{Funder, Fundee}
use Rattle.ln_keys.specs.Signer.{Signer}
use Rattle.ln_channel.specs.declared.config.Config.{Config}
use Rattle.ln_channel.specs.declared.config.OpenSpec.{OpenSpec}
use Rattle.ln_channel.specs.declared.machine.ConnectionState.TheVariants.{Connected}
use Rattle.ln_channel.specs.declared.machine.Stage.{Stage}
use Rattle.ln_channel.specs.declared.machine.Stage.TheVariants as stage
use Rattle.ln_channel.specs.declared.opening.Opened.{Opened}
use Rattle.ln_channel.specs.Opening.{unless, open_message, accept_fault, created_fault, first_fault, funder_end}
use Rattle.ln_channel.specs.Opening.{fundee_end, created_message, funding_message}
use Rattle.ln_channel.specs.Opening.{Agreement, agreement, accept_message, open_fault}
use Rattle.ln_channel.specs.Config.{fees_of, offered}
use Rattle.ln_channel.specs.Opening.{asked_with, asked_by_accept}
use Rattle.ln_channel.specs.Meeting.{Opens}
use Rattle.ln_channel.specs.Base.{based}
use Rattle.ln_channel.specs.End.{end_of}
use Rattle.ln_channel.specs.State.{State, begun, refused}
use Rattle.ln_channel.specs.Step.{Done, replied, faulted}
use Rattle.ln_channel.proofs.Meeting.{are_ends}
use Rattle.ln_channel_laws.specs.Ends as pair
use Rattle.ln_channel_laws.specs.Ends.{Ends}
use Rattle.ln_channel_laws.proofs.Offered.{was_given, was_none}
use Rattle.ln_world_channels.specs.declared.step.Act.TheVariants as act
use Rattle.ln_world_channels.specs.Both.{Both, Move, By, Meet, answers, swapped, moves}
use Rattle.ln_world_channels.specs.Both.{run as run_both}
use Rattle.ln_world_channels.specs.WorldChannel.{opening_moves}
use Rattle.ln_world_channels.proofs.Mirror.{Mirrors}

-- a link with a connection, at this stage
abbrev at_stage : {K : Type 0} → K → Stage → State K
at_stage k s = record { keys = k; connection = Connected; halted = false; failure = None; stage = s }

abbrev two : {K : Type 0} → K → Stage → List Message → K → Stage → List Message → Both K
two kx s ms ky t ns = record {
  x = record { keys = kx; link = at_stage kx s; inbox = ms };
  y = record { keys = ky; link = at_stage ky t; inbox = ns };
}

-- both are saved as they are opened
abbrev pub first_saves : List pair.Step
first_saves = pair.By Fundee pair.Save ∷ pair.By Funder pair.Save ∷ []

module _ {K : Type 0} (signer : K → Signer) (id : List ℕ) (kx ky : K) (s : OpenSpec) (c : Config)
    (funder fundee : Opened) (o : Opens (signer kx) (signer ky) s c funder fundee) where
  abbrev pub at_first : Both K
  at_first = record {
    x = record { keys = kx; link = begun kx (stage.AwaitsAccept s); inbox = [] };
    y = record { keys = ky; link = begun ky (stage.AwaitsOpen c); inbox = [] };
  }

  abbrev pub asked : Both K
  asked = two kx (stage.AwaitsAccept s) [] ky (stage.AwaitsOpen c)
      (message.OpenChannel (open_message (signer kx) s) ∷ [])

  abbrev pub accepted : Both K
  accepted = two kx (stage.AwaitsAccept s) (message.AcceptChannel o.accept ∷ []) ky (stage.AwaitsCreated o.agreement) []

  abbrev pub created : Both K
  created = two kx (stage.AwaitsSigned (end_of funder)) [] ky (stage.AwaitsCreated o.agreement)
      (message.FundingCreated o.created ∷ [])

  abbrev pub signed : Both K
  signed = two kx (stage.AwaitsSigned (end_of funder)) (message.FundingSigned o.signed ∷ [])
      ky (stage.Funded (based (end_of fundee))) []

  abbrev pub both_open : Both K
  both_open = two kx (stage.Funded (based (end_of funder))) [] ky (stage.Funded (based (end_of fundee))) []

  pub they_meet : moves signer id Meet at_first ≡ asked
  unfolding moves
  they_meet = refl

  pub takes_open : moves signer id (By Fundee act.Deliver) asked ≡ accepted
  unfolding moves
  takes_open = ap (λ r. swapped (answers refused id (replied Connected stage.AwaitsCreated message.AcceptChannel r)
      (two ky (stage.AwaitsOpen c) [] kx (stage.AwaitsAccept s) []))) o.open_channel

  pub takes_accept : moves signer id (By Funder act.Deliver) accepted ≡ created
  unfolding moves
  takes_accept = ap (λ r. answers refused id
      (replied Connected (λ q. stage.AwaitsSigned (end_of q)) message.FundingCreated r)
      (two kx (stage.AwaitsAccept s) [] ky (stage.AwaitsCreated o.agreement) [])) o.accept_channel

  pub takes_created : moves signer id (By Fundee act.Deliver) created ≡ signed
  unfolding moves
  takes_created = ap (λ r. swapped (answers refused id
      (replied Connected (λ q. stage.Funded (end_of q)) message.FundingSigned r)
      (two ky (stage.AwaitsCreated o.agreement) [] kx (stage.AwaitsSigned (end_of funder)) []))) o.funding_created

  -- the channel's id
  funded : ◌≡◌ {A = Opened × FundingSigned} (
    fundee_end o.agreement o.created,
    funding_message (signer ky) o.agreement o.created,
  ) (fundee, o.signed)
  funded = was_given (created_fault (signer ky) o.agreement o.created) _ _ o.funding_created

  named_so : o.signed.channel_id ≡ fundee.dance.channel
  named_so = let P : Opened × FundingSigned → Type 0 = λ w. w.1.channel_id ≡ w.0.dance.channel in subst P funded refl

  of_both : fundee.dance.channel ≡ funder.dance.channel
  of_both = (are_ends (signer kx) (signer ky) s c funder fundee o).channel

  pub funders_channel : funder.dance.channel ≡ id_of_channel s.txid s.output
  funders_channel =
      let answered : ◌≡◌ {A = Opened × FundingCreated} (
        funder_end (signer kx) s o.accept,
        created_message (signer kx) s o.accept,
      ) (funder, o.created) =
      was_given (accept_fault s o.accept) _ _ o.accept_channel in
      let P : Opened × FundingCreated → Type 0 = λ w. w.0.dance.channel ≡ id_of_channel s.txid s.output in
      subst P answered refl

  pub takes_signed : moves signer id (By Funder act.Deliver) signed ≡ both_open
  unfolding moves
  takes_signed =
      let d : Done = record { connection = Connected; stage = stage.Funded (end_of funder); outputs = [] } in
      let after : Result Done Refusal → Both K = λ r. answers refused id r
      (two kx (stage.AwaitsSigned (end_of funder)) [] ky (stage.Funded (based (end_of fundee))) []) in
      let row : Result Done Refusal = unless (first_fault (signer kx) funder.dance o.signed.signature) d in
      ap (λ b. after (faulted (cond (not b) (Some refusal.UnknownChannel) None) row))
      (same_if_equal o.signed.channel_id funder.dance.channel (named_so ∙ of_both))
      ∙ ap (λ f. after (unless f d)) (was_none (first_fault (signer kx) funder.dance o.signed.signature) tt tt
      o.funding_signed)

  pub opens_so : run_both signer id opening_moves at_first ≡ both_open
  opens_so =
      let deliver : List Move = By Funder act.Deliver ∷ [] in
      ap (run_both signer id (By Fundee act.Deliver ∷ By Funder act.Deliver ∷ By Fundee act.Deliver ∷ deliver))
      they_meet
      ∙ ap (run_both signer id (By Funder act.Deliver ∷ By Fundee act.Deliver ∷ deliver)) takes_open
      ∙ ap (run_both signer id (By Fundee act.Deliver ∷ deliver)) takes_accept
      ∙ ap (run_both signer id deliver) takes_created
      ∙ takes_signed

  abbrev pub both_saved : Ends
  both_saved = pair.run (signer kx) (signer ky) first_saves (pair.opened funder fundee)

  pub mirrored : id ≡ id_of_channel s.txid s.output
      → Mirrors id kx ky (run_both signer id opening_moves at_first) both_saved
  mirrored e = subst (λ p. Mirrors id kx ky p both_saved) (sym opens_so) (record {
    x_halted = false;
    y_halted = false;
    x_link = refl;
    y_link = refl;
    x_down = λ e. absurd (cc);
    y_down = λ e. absurd (cc);
    x_in = record { told = refl; named = tt; down = λ d. refl };
    y_in = record { told = refl; named = tt; down = λ d. refl };
    x_channel = funders_channel ∙ sym e;
    y_channel = of_both ∙ funders_channel ∙ sym e;
    x_keys = refl;
    y_keys = refl;
  })

  -- the closing fees that each was set up with
  pub fees_so : (funder.closing.fees ≡ fees_of s.config) × (fundee.closing.fees ≡ fees_of c)
  fees_so =
      let taken : ◌≡◌ {A = Agreement × AcceptChannel} (
        agreement (signer ky) c (open_message (signer kx) s),
        accept_message (signer ky) c (open_message (signer kx) s),
      ) (o.agreement, o.accept) =
      was_given (open_fault c (open_message (signer kx) s)) _ _ o.open_channel in
      let answered : ◌≡◌ {A = Opened × FundingCreated} (
        funder_end (signer kx) s o.accept,
        created_message (signer kx) s o.accept,
      ) (funder, o.created) =
      was_given (accept_fault s o.accept) _ _ o.accept_channel in (
        ap (λ (w : Opened × FundingCreated). w.0.closing.fees) (sym answered),
        ap (λ (w : Opened × FundingSigned). w.0.closing.fees) (sym funded)
            ∙ ap (λ (w : Agreement × AcceptChannel). w.0.fees) (sym taken),
      )

  -- the opening that both know
  pub opening_so : funder.dance.log.opening ≡ offered s c.limits
  opening_so =
      let taken : ◌≡◌ {A = Agreement × AcceptChannel} (
        agreement (signer ky) c (open_message (signer kx) s),
        accept_message (signer ky) c (open_message (signer kx) s),
      ) (o.agreement, o.accept) =
      was_given (open_fault c (open_message (signer kx) s)) _ _ o.open_channel in
      let answered : ◌≡◌ {A = Opened × FundingCreated} (
        funder_end (signer kx) s o.accept,
        created_message (signer kx) s o.accept,
      ) (funder, o.created) =
      was_given (accept_fault s o.accept) _ _ o.accept_channel in
      ap (λ (w : Opened × FundingCreated). w.0.dance.log.opening) (sym answered)
      ∙ ap (λ (w : Agreement × AcceptChannel). asked_with (open_message (signer kx) s) (asked_by_accept w.1))
      (sym taken)
