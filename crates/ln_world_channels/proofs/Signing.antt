-- Each commitment_signed in flight to a link is over what its signer has covered.
use Rattle.std.proofs.Common.{◌≡◌, ℕ, List, [], ◌∷◌, refl, sym, ap, subst, Bool, true, false, cond}
use Rattle.ln_msgs.specs.declared.messages.message.Message.{Message}
use Rattle.ln_msgs.specs.declared.messages.message.Message.TheVariants as message
use Rattle.ln_msgs.specs.declared.messages.commitments.CommitmentSigned.{CommitmentSigned}
use Rattle.ln_keys.specs.Signer.{Signer}
use Rattle.ln_channel.specs.End.{End}
use Rattle.ln_channel.specs.State.{State}
use Rattle.ln_channel_laws.specs.Signing.{IfSigned, EachSigned, AgreesOn, AgreesInFront, Signs}
use Rattle.ln_channel_laws.proofs.Offered.{both_sign}
use Rattle.ln_world_channels.specs.Both.{Both}
use Rattle.ln_world_channels.specs.Signing.{LinksSign, SignCovered}
use Rattle.ln_world_channels.proofs.Kept.{IsRun, ends_of, at_links}
use Rattle.ln_world_channels.proofs.Mirror.{is_warning, without_warnings}

-- ---- warnings are passed over

not_signed : (P : CommitmentSigned → Type 0) (m : Message) → is_warning m ≡ true → IfSigned P m
not_signed P (message.Warning m) e = tt
not_signed P (message.Init m) e = tt
not_signed P (message.Error m) e = tt
not_signed P (message.Ping m) e = tt
not_signed P (message.Pong m) e = tt
not_signed P (message.OpenChannel m) e = tt
not_signed P (message.AcceptChannel m) e = tt
not_signed P (message.FundingCreated m) e = tt
not_signed P (message.FundingSigned m) e = tt
not_signed P (message.ChannelReady m) e = tt
not_signed P (message.Shutdown m) e = tt
not_signed P (message.ClosingSigned m) e = tt
not_signed P (message.UpdateAddHtlc m) e = tt
not_signed P (message.UpdateFulfillHtlc m) e = tt
not_signed P (message.UpdateFailHtlc m) e = tt
not_signed P (message.UpdateFailMalformedHtlc m) e = tt
not_signed P (message.UpdateFee m) e = tt
not_signed P (message.CommitmentSigned m) e = absurd (cc)
not_signed P (message.RevokeAndAck m) e = tt
not_signed P (message.ChannelReestablish m) e = tt

module _ (P : CommitmentSigned → Type 0) where
  one_more : (b : Bool) (m : Message) (ms : List Message) → is_warning m ≡ b
      → (EachSigned P (without_warnings ms) → EachSigned P ms)
      → EachSigned P (cond b (without_warnings ms) (m ∷ without_warnings ms)) → EachSigned P (m ∷ ms)
  one_more true m ms e f h = (not_signed P m e, f h)
  one_more false m ms e f h = (h.0, f h.1)

  with_warnings : (ms : List Message) → EachSigned P (without_warnings ms) → EachSigned P ms
  with_warnings [] h = tt
  with_warnings (m ∷ ms) h = one_more (is_warning m) m ms refl (with_warnings ms) h

front_by : (b : Bool) (x y : End) (m : Message) (ms : List Message) → is_warning m ≡ b
    → AgreesInFront x y (cond b (without_warnings ms) (m ∷ without_warnings ms)) → AgreesInFront x y (m ∷ ms)
front_by true x y m ms e h = not_signed (λ s. AgreesOn x y) m e
front_by false x y m ms e h = h

in_front : (x y : End) (ms : List Message) → AgreesInFront x y (without_warnings ms) → AgreesInFront x y ms
in_front x y [] h = tt
in_front x y (m ∷ ms) h = front_by (is_warning m) x y m ms refl h

-- ---- a link at an end

module _ {K : Type 0} (signer : K → Signer) where
  as_signs : (kx ky jx jy : K) (x y : End) (inbox to : List Message) → jx ≡ kx → jy ≡ ky
      → without_warnings inbox ≡ to → Signs (signer kx) (signer ky) x y to
      → Signs (signer jx) (signer jy) x y inbox
  as_signs kx ky jx jy x y inbox to ex ey told h =
      let all : Signs (signer kx) (signer ky) x y (without_warnings inbox) =
      subst (Signs (signer kx) (signer ky) x y) (sym told) h in
      let one : Signs (signer kx) (signer ky) x y inbox = record {
        covered = with_warnings _ inbox all.covered;
        in_front = in_front x y inbox all.in_front;
      } in
      subst (λ k. Signs (signer jx) (signer k) x y inbox) (sym ey)
      (subst (λ k. Signs (signer k) (signer ky) x y inbox) (sym ex) one)

  pub links_sign : (id : List ℕ) (p : Both K) → IsRun signer id p → SignCovered signer p
  links_sign id p r =
      let q = ends_of signer id p r in
      let h = r.mirrors in
      let both = both_sign (signer r.funders) (signer r.fundees) r.spec r.config r.funder r.fundee r.steps r.keys
      r.opens in
      let x : p.x.link.keys ≡ r.funders = ap (λ (l : State K). l.keys) h.x_link in
      let y : p.y.link.keys ≡ r.fundees = ap (λ (l : State K). l.keys) h.y_link in
      at_links signer id r.funders r.fundees (LinksSign signer p) p q h (
        as_signs r.funders r.fundees p.x.link.keys p.y.link.keys q.x q.y p.y.inbox q.to_y x y h.y_in.told both.0,
        as_signs r.fundees r.funders p.y.link.keys p.x.link.keys q.y q.x p.x.inbox q.to_x y x h.x_in.told both.1,
      )
