-- What nodes bring to a channel that they open has room in the records of its ends.
use Rattle.std.proofs.Common.{◌≡◌, ℕ, ◌≤◌, ◌<◌, ◌^◌, length, refl, ap, ◌∙◌, subst, arith}
use Rattle.ln_msgs.specs.declared.messages.opening.OpenChannel.{OpenChannel}
use Rattle.ln_msgs.specs.declared.messages.opening.AcceptChannel.{AcceptChannel}
use Rattle.ln_msgs.specs.declared.messages.opening.FundingCreated.{FundingCreated}
use Rattle.ln_msgs.specs.declared.messages.opening.FundingSigned.{FundingSigned}
use Rattle.ln_msgs.specs.declared.messages.message.Message.TheVariants as message
use Rattle.ln_msgs.specs.Messages.Table.{open_form, accept_form}
use Rattle.ln_msgs.specs.Messages.Typed.{open_wire, accept_wire}
use Rattle.ln_keys.specs.Signer.{Signer}
use Rattle.ln_keys.specs.Partners.{ArePartners}
use Rattle.ln_log.specs.Opening.{HasFunds}
use Rattle.ln_close.specs.Closing.{AreOrdered}
use Rattle.ln_channel.specs.declared.config.Config.{Config}
use Rattle.ln_channel.specs.declared.config.OpenSpec.{OpenSpec}
use Rattle.ln_channel.specs.declared.opening.Opened.{Opened}
use Rattle.ln_channel.specs.Opening.{Agreement, open_message, open_fault, agreement, accept_message, accept_fault}
use Rattle.ln_channel.specs.Opening.{funder_end, created_message, created_fault, fundee_end, funding_message}
use Rattle.ln_channel.specs.Meeting.{Opens}
use Rattle.ln_channel_laws.proofs.Offered.{longest_script, was_given}
use Rattle.ln_link_laws.specs.Handed.{IsMessage}
use Rattle.ln_link_laws.proofs.Kept.{AreFees}
use Rattle.ln_link_laws.proofs.Said.{said_plain}
use Rattle.ln_world_channels.specs.declared.settings.Settings.{Settings}
use Rattle.ln_world_channels.specs.declared.step.Node.{Node}
use Rattle.ln_world_channels.specs.Settings.{config_of, spec_of, opening_by, CanBring, CanBeTold}
use Rattle.ln_world_channels.proofs.Fitting.{one_letter}
use Rattle.ln_world_channels.proofs.Opening.{IsOpening}

-- ---- an opening whose messages these are

module _ (a b : Signer) (s : OpenSpec) (c : Config) where
  abbrev pub opened_with : OpenChannel
  opened_with = open_message a s

  abbrev pub accepted_with : AcceptChannel
  accepted_with = accept_message b c opened_with

  abbrev pub funders_end : Opened
  funders_end = funder_end a s accepted_with

  abbrev pub fundees_end : Opened
  fundees_end = fundee_end (agreement b c opened_with) (created_message a s accepted_with)

  module _ (funder fundee : Opened) (o : Opens a b s c funder fundee) where
    agreed : ◌≡◌ {A = Agreement × AcceptChannel} (agreement b c opened_with, accepted_with) (o.agreement, o.accept)
    agreed = was_given (open_fault c opened_with) _ _ o.open_channel

    answered : ◌≡◌ {A = Opened × FundingCreated} (funder_end a s o.accept, created_message a s o.accept)
        (funder, o.created)
    answered = was_given (accept_fault s o.accept) _ _ o.accept_channel

    funded : ◌≡◌ {A = Opened × FundingSigned} (
      fundee_end o.agreement o.created,
      funding_message b o.agreement o.created,
    ) (fundee, o.signed)
    funded = was_given (created_fault b o.agreement o.created) _ _ o.funding_created

    accept_is : accepted_with ≡ o.accept
    accept_is = ap (λ (w : Agreement × AcceptChannel). w.1) agreed

    pub funder_is : funders_end ≡ funder
    funder_is = ap (funder_end a s) accept_is ∙ ap (λ (w : Opened × FundingCreated). w.0) answered

    created_is : created_message a s accepted_with ≡ o.created
    created_is = ap (created_message a s) accept_is ∙ ap (λ (w : Opened × FundingCreated). w.1) answered

    pub fundee_is : fundees_end ≡ fundee
    fundee_is =
        ap (λ (g : Agreement). fundee_end g (created_message a s accepted_with))
        (ap (λ (w : Agreement × AcceptChannel). w.0) agreed)
        ∙ ap (fundee_end o.agreement) created_is ∙ ap (λ (w : Opened × FundingSigned). w.0) funded

-- ---- what nodes bring

-- one after another
infixr 10 ◌and◌
◌and◌ : {A B : Type 0} → A → B → A × B
x and y = (x, y)

are_fees : (s : Settings) → CanBeTold s → AreOrdered s.fees → AreFees s.fees
are_fees s h o = record { first = h.first; least = omega (arith, h.first, o.0); greatest = h.greatest }

module _ (a b : Signer) (number satoshis push : ℕ) (n m : Node) (s t : Settings) (brings : CanBring satoshis push s t)
    (keys : ArePartners a b) where
  abbrev spec_so : OpenSpec
  spec_so = spec_of number (config_of n s) satoshis push

  abbrev config_so : Config
  config_so = config_of m t

  open_so : IsMessage (message.OpenChannel (opened_with a b spec_so config_so))
  open_so =
      let funds = brings.opening.funds in
      let put_in : satoshis < 2 ^ 64 = omega (arith, funds) in
      let pushed : push < 2 ^ 64 = omega (arith, funds, brings.opening.push) in
      let accepted : s.limits.accepted < 2 ^ 16 = omega (arith, brings.opening.funder_accepts) in
      let told = brings.funder_told in
      said_plain open_form (open_wire (opened_with a b spec_so config_so)) refl (omega arith)
      (refl and refl and put_in and pushed and omega arith and told.in_flight and told.reserve and
      told.minimum and omega arith and omega arith and accepted and refl and refl and refl and
      refl and refl and keys.there.sized_points 0 (omega arith) and omega arith and tt)
      refl refl (omega arith)

  accept_so : IsMessage (message.AcceptChannel (accepted_with a b spec_so config_so))
  accept_so =
      let accepted : t.limits.accepted < 2 ^ 16 = omega (arith, brings.opening.fundee_accepts) in
      let told = brings.fundee_told in
      said_plain accept_form (accept_wire (accepted_with a b spec_so config_so)) refl (omega arith)
      (refl and omega arith and told.in_flight and told.reserve and told.minimum and omega arith and
      omega arith and accepted and refl and refl and refl and refl and refl and
      keys.back.sized_points 0 (omega arith) and tt)
      refl refl (omega arith)

  funds_so : HasFunds (opening_by satoshis push s t)
  funds_so = record {
    some_funds = brings.opening.some_funds;
    funds = brings.opening.funds;
    push = brings.opening.push;
  }

  funders_so : IsOpening (funders_end a b spec_so config_so)
  funders_so = record {
    channel = refl;
    fees = are_fees s brings.funder_told brings.funder_fees;
    funds = funds_so;
    open_channel = open_so;
    accept_channel = accept_so;
    opening = refl;
    role = refl;
  }

  fundees_so : IsOpening (fundees_end a b spec_so config_so)
  fundees_so = record {
    channel = refl;
    fees = are_fees t brings.fundee_told brings.fundee_fees;
    funds = funds_so;
    open_channel = open_so;
    accept_channel = accept_so;
    opening = refl;
    role = refl;
  }

  pub are_openings : (funder fundee : Opened) → Opens a b spec_so config_so funder fundee
      → IsOpening funder × IsOpening fundee
  are_openings funder fundee o = (
    subst IsOpening (funder_is a b spec_so config_so funder fundee o) funders_so,
    subst IsOpening (fundee_is a b spec_so config_so funder fundee o) fundees_so,
  )

  -- the script of a node is its letter
  pub short_scripts : (funder fundee : Opened) → Opens a b spec_so config_so funder fundee
      → (length funder.terms.script ≤ longest_script) × (length fundee.terms.script ≤ longest_script)
  short_scripts funder fundee o =
      let IsShort : Opened → Type 0 = λ q. length q.terms.script ≤ longest_script in (
        subst IsShort (funder_is a b spec_so config_so funder fundee o) one_letter,
        subst IsShort (fundee_is a b spec_so config_so funder fundee o) one_letter,
      )
