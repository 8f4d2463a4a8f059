-- The ends of channels are as wide as in code over every list of steps that bring what is; so each step of channels
-- that a world takes brings what is, the commands that books give as well.
use Rattle.std.proofs.Common.{◌≡◌, ℕ, List, [], ◌∷◌, length, refl, sym, ap, ◌∙◌, subst, Bool}
use Rattle.ln_msgs.specs.Messages.Channel.{id_of_channel}
use Rattle.ln_msgs.specs.declared.messages.opening.AcceptChannel.{AcceptChannel}
use Rattle.ln_msgs.specs.declared.messages.opening.FundingCreated.{FundingCreated}
use Rattle.ln_keys.specs.declared.keys.ChannelKeys.{Ghosts}
use Rattle.ln_keys.specs.declared.role.Role.TheVariants.{Funder, Fundee}
use Rattle.ln_keys.specs.Signer.{Signer}
use Rattle.ln_hooks.specs.declared.verdict.Verdict.{Verdict}
use Rattle.ln_channel.specs.declared.config.Config.{Config}
use Rattle.ln_channel.specs.declared.config.OpenSpec.{OpenSpec}
use Rattle.ln_channel.specs.declared.machine.ConnectionState.{ConnectionState}
use Rattle.ln_channel.specs.declared.opening.Opened.{Opened}
use Rattle.ln_channel.specs.Config.{fees_of}
use Rattle.ln_channel.specs.Opening.{Agreement, open_message, open_fault, agreement, accept_message}
use Rattle.ln_channel.specs.Opening.{accept_fault, funder_end, created_message, created_fault, fundee_end}
use Rattle.ln_channel.specs.Opening.{funder_terms}
use Rattle.ln_channel.specs.Meeting.{Opens}
use Rattle.ln_channel.specs.End.{End, end_of}
use Rattle.ln_channel.specs.State.{State}
use Rattle.ln_channel_laws.specs.Ends.{opened}
use Rattle.ln_channel_laws.proofs.Offered.{All, was_given, Origin, contents_of, Fits, BothFit, run_fit}
use Rattle.ln_channel_laws.proofs.Offered.{FitsFirst, first_fits}
use Rattle.ln_world_channels.specs.WorldChannel.{WorldChannel}
use Rattle.ln_world_channels.specs.Promises.{Each}
use Rattle.ln_world_channels.specs.Settings.{channel_id_of}
use Rattle.ln_world_channels.proofs.Mirror.{link_at}
use Rattle.ln_world_channels.proofs.Kept.{ends_of}
use Rattle.ln_world_channels.proofs.Recorded.{IsFit, IsFitChannel, AreFit, stays_fit}
use Rattle.ln_world.specs.declared.step.Step.{Step}
use Rattle.ln_world.specs.World.{empty}
use Rattle.ln_world.specs.Promises.{AreSteps}
use Rattle.ln_world.specs.Records.{AreWorldSteps}
use Rattle.ln_world.proofs.WideReadings.{IsEnd, IsState, AreEnds}
use Rattle.ln_world.proofs.WideWorlds.{id_so, steps_so}

-- ---- from the opening on

abbrev origin_of : Opened → Origin
origin_of e = (contents_of (end_of e)).origin

funder_fits : (a b : Signer) (s : OpenSpec) (c : Config) (funder fundee : Opened) → Opens a b s c funder fundee
    → FitsFirst funder
funder_fits a b s c funder fundee o =
    let is : funder_end a s o.accept ≡ funder =
    ap (λ (p : Opened × FundingCreated). p.0) (was_given (accept_fault s o.accept)
    (funder_end a s o.accept, created_message a s o.accept) (funder, o.created) o.accept_channel) in
    subst FitsFirst is (first_fits Funder (id_of_channel s.txid s.output) (fees_of s.config)
    (funder_terms a s o.accept) refl)

fundee_fits : (a b : Signer) (s : OpenSpec) (c : Config) (funder fundee : Opened) → Opens a b s c funder fundee
    → FitsFirst fundee
fundee_fits a b s c funder fundee o =
    let is : fundee_end o.agreement o.created ≡ fundee =
    ap (λ p. p.0) (was_given (created_fault b o.agreement o.created) _ _ o.funding_created) in
    let agreed : agreement b c (open_message a s) ≡ o.agreement =
    ap (λ (p : Agreement × AcceptChannel). p.0) (was_given (open_fault c (open_message a s))
    (agreement b c (open_message a s), accept_message b c (open_message a s)) (o.agreement, o.accept) o.open_channel)
    in
    subst FitsFirst is
    (first_fits Fundee (id_of_channel o.created.funding_txid o.created.output_index) o.agreement.fees o.agreement.terms
    (ap (λ (g : Agreement). g.terms.peer_script) (sym agreed)))

-- ---- the ends of a channel

end_so : (id : List ℕ) (o : Origin) (e : End) → length id ≡ 32 → e.dance.channel ≡ id → Fits o e → IsEnd e
end_so id o e len is h = record {
  channel = ap length is ∙ len;
  own = h.own;
  received = h.received;
  decisions = h.decisions;
  results = h.results;
}

module _ {K : Type 0} where
  link_so : (b : Bool) (key : K) (l : State K) (line : ConnectionState) (e : End) → l ≡ link_at b key line e → IsEnd e
      → IsState l
  link_so b key l line e is h = subst IsState (sym is) h

  ends_so : (signer : K → Signer) (c : WorldChannel K) → IsFit signer (channel_id_of c.number) c.both → AreEnds c
  ends_so signer c h =
      let id = channel_id_of c.number in
      let p = c.both in
      let r = h.run in
      let a = signer r.funders in
      let b = signer r.fundees in
      let q = ends_of signer id p r in
      let len = id_so c.number in
      let fit : BothFit (origin_of r.funder) (origin_of r.fundee) q =
      run_fit a b (origin_of r.funder) (origin_of r.fundee) r.steps (opened r.funder r.fundee) h.wide.commands
      (record {
        x = funder_fits a b r.spec r.config r.funder r.fundee r.opens h.wide.funders_script;
        y = fundee_fits a b r.spec r.config r.funder r.fundee r.opens h.wide.fundees_script;
        to_x = tt;
        to_y = tt;
      }) in
      record {
        funder = link_so r.mirrors.x_halted r.funders p.x.link q.x_line q.x r.mirrors.x_link
            (end_so id (origin_of r.funder) q.x len r.mirrors.x_channel fit.x);
        fundee = link_so r.mirrors.y_halted r.fundees p.y.link q.y_line q.y r.mirrors.y_link
            (end_so id (origin_of r.fundee) q.y len r.mirrors.y_channel fit.y);
      }

module _ {K : Type 0} (k : Ghosts K) where
  all_ends : (cs : List (WorldChannel K)) → Each (IsFitChannel k) cs → All AreEnds cs
  all_ends [] h = tt
  all_ends (c ∷ cs) h = (ends_so k.signer c h.0, all_ends cs h.1)

  -- ---- steps of a world

  pub are_wide : (ss : List (Step K k × Verdict)) (n : ℕ) → AreWorldSteps k ss → AreSteps k n ss
  are_wide ss n is =
      steps_so k (AreFit k) (stays_fit k) (λ w h. all_ends w.channels h) ss (empty n) is tt
      (record { channels = tt; served = tt; nodes = tt })
