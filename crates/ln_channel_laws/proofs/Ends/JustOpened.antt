-- Two ends that were just opened.
use Rattle.std.proofs.Common.{◌≡◌, ℕ, List, [], refl, sym, ap, ◌∙◌, subst, arith, true, false, None}
use Rattle.ln_msgs.specs.declared.messages.opening.AcceptChannel.{AcceptChannel}
use Rattle.ln_msgs.specs.declared.messages.opening.FundingCreated.{FundingCreated}
use Rattle.ln_keys.specs.declared.role.Role.{Role}
use Rattle.ln_keys.specs.declared.role.Role.TheVariants.{Funder, Fundee}
use Rattle.ln_keys.specs.Role.{other_role}
use Rattle.ln_keys.specs.Signer.{Signer}
use Rattle.ln_log.specs.Log as log
use Rattle.ln_close.specs.declared.closing.Fees.{Fees}
use Rattle.ln_close.specs.Closing as closing
use Rattle.ln_channel.specs.declared.config.Config.{Config}
use Rattle.ln_channel.specs.declared.config.OpenSpec.{OpenSpec}
use Rattle.ln_channel.specs.declared.opening.Opened.{Opened}
use Rattle.ln_channel.specs.declared.opening.Terms.{Terms}
use Rattle.ln_channel.specs.Opening.{Agreement, opening_of, opened_by, open_message, open_fault, agreement}
use Rattle.ln_channel.specs.Opening.{accept_message, accept_fault, funder_end, created_message, created_fault}
use Rattle.ln_channel.specs.Opening.{fundee_end}
use Rattle.ln_channel.specs.Meeting.{Opens}
use Rattle.ln_channel.specs.End.{End, end_of}
use Rattle.ln_channel.proofs.Meeting.{are_ends}
use Rattle.ln_channel_laws.specs.Ends.{opened}
use Rattle.ln_channel.specs.declared.machine.ConnectionState.TheVariants.{Connected}
use Rattle.ln_channel_laws.proofs.Tests.{was_given}
use Rattle.ln_channel_laws.proofs.Flight.Walk.{Idle, Flows}
use Rattle.ln_channel_laws.proofs.Closing.NothingMoves.{Ending}
use Rattle.ln_channel_laws.proofs.Readiness.ReadinessInFlight.{ReadinessFlow}
use Rattle.ln_channel_laws.proofs.Flight.Images.{side_of}
use Rattle.ln_channel_laws.proofs.Ends.Acts.{Said, Knows}
use Rattle.ln_channel_laws.proofs.Ends.Runs.{Sound}

abbrev first : Role → List ℕ → Fees → Terms → End
first r c f t = end_of (opened_by r c f t)

flows : (k j : Signer) (r q : Role) (c d : List ℕ) (f g : Fees) (t u : Terms) → opening_of u ≡ opening_of t
    → other_role q ≡ r → Flows Connected Connected (side_of k (first r c f t)) (side_of j (first q d g u)) []
flows k j r q c d f g t u eo er = record {
  same = eo;
  roles = er;
  within = record {
    own_current = omega arith;
    own_acked = omega arith;
    own_signed = omega arith;
    peer_acked = omega arith;
    peer_signed = omega arith;
    peer_current = omega arith;
  };
  cut = tt;
  fit = tt;
  fit_signed = tt;
  phase = Idle refl refl refl refl refl refl;
  agree = refl;
  order = λ e. refl;
  flight = record { has_all = refl; knows = refl; accepted = refl; revoked = refl };
}

told : (k j : Signer) (r q : Role) (c d : List ℕ) (f g : Fees) (t u : Terms)
    → ReadinessFlow Connected Connected (side_of k (first r c f t)) (side_of j (first q d g u)) []
told k j r q c d f g t u = record {
  ready_sent = λ e. e;
  shut_sent = λ e. e;
  used = λ e. absurd (omega (arith, e));
  used_signature = λ e. absurd (omega (arith, e));
  used_number = λ e. absurd (omega (arith, e));
  shut = λ e. tt;
  flight = (λ e. refl, refl);
}

knows : (k : Signer) (r q : Role) (c d : List ℕ) (f g : Fees) (t u : Terms)
    → (first r c f t).dance.peer.point ≡ k.point_of 0 → t.peer_script ≡ None → Knows k (first r c f t) (first q d g u)
knows k r q c d f g t u ep es = record {
  point = ep;
  next_point = λ e. absurd (let no : false ≡ true = e in cc);
  below = omega arith;
  script = es;
  secret = λ n e. absurd (omega (arith, e));
}

ended : (k j : Signer) (r q : Role) (c d : List ℕ) (f g : Fees) (t u : Terms)
    → Ending (side_of k (first r c f t)) (side_of j (first q d g u))
ended k j r q c d f g t u = record {
  news = λ e. absurd (omega (arith, e));
  begun = λ e. absurd (let no : false ≡ true = e in cc);
  closed = λ e. absurd (let no : false ≡ true = e in cc);
  answered = λ e. absurd (let no : false ≡ true = e in cc);
}

said : Said false []
said = record { adds = tt; told = λ e. e }

holds_first : (a b : Signer) (c : List ℕ) (f g : Fees) (t u : Terms) → opening_of u ≡ opening_of t
    → t.peer_script ≡ None → u.peer_script ≡ None
    → (first Funder c f t).dance.peer.point ≡ b.point_of 0 → (first Fundee c g u).dance.peer.point ≡ a.point_of 0
    → Sound a b (opened (opened_by Funder c f t) (opened_by Fundee c g u))
holds_first a b c f g t u eo et eu ep eq = record {
  channel = c;
  to_x = [];
  to_y = [];
  in_x = refl;
  in_y = refl;
  hold = record {
    kept = record {
      there = flows a b Funder Fundee c c f g t u eo refl;
      back = flows b a Fundee Funder c c g f u t (sym eo) refl;
    };
    told = record { there = told a b Funder Fundee c c f g t u; back = told b a Fundee Funder c c g f u t };
    ended = ended a b Funder Fundee c c f g t u;
    ended_back = ended b a Fundee Funder c c g f u t;
    closes = tt;
    closes_back = tt;
    x_signs = tt;
    y_signs = tt;
    x_channel = refl;
    y_channel = refl;
    x_knows = knows b Funder Fundee c c f g t u ep et;
    y_knows = knows a Fundee Funder c c g f u t eq eu;
    x_said = said;
    y_said = said;
  };
}

-- the terms of both
is_fundee : (b : Signer) (a : Agreement) (c : FundingCreated) (e : Opened) → fundee_end a c ≡ e
    → a.terms.peer_script ≡ None → e ≡ opened_by Fundee e.dance.channel e.closing.fees e.terms
is_fundee b a c e is none = subst (λ (x : Opened). x ≡ opened_by Fundee x.dance.channel x.closing.fees x.terms) is refl

is_funder : (a : Signer) (s : OpenSpec) (m : AcceptChannel) (e : Opened) → funder_end a s m ≡ e
    → e ≡ opened_by Funder e.dance.channel e.closing.fees e.terms
is_funder a s m e is = subst (λ (x : Opened). x ≡ opened_by Funder x.dance.channel x.closing.fees x.terms) is refl

pub opened_holds : (a b : Signer) (s : OpenSpec) (c : Config) (funder fundee : Opened) → Opens a b s c funder fundee
    → Sound a b (opened funder fundee)
opened_holds a b s c funder fundee o =
    let ends = are_ends a b s c funder fundee o in
    let agreed : agreement b c (open_message a s) ≡ o.agreement =
    ap (λ (p : Agreement × AcceptChannel). p.0) (was_given (open_fault c (open_message a s))
    (agreement b c (open_message a s), accept_message b c (open_message a s)) (
      o.agreement,
      o.accept,
    ) o.open_channel) in
    let funder_is : funder_end a s o.accept ≡ funder =
    ap (λ (p : Opened × FundingCreated). p.0) (was_given (accept_fault s o.accept) (
      funder_end a s o.accept,
      created_message a s o.accept,
    ) (funder, o.created) o.accept_channel) in
    let fundee_is : fundee_end o.agreement o.created ≡ fundee =
    ap (λ p. p.0) (was_given (created_fault b o.agreement o.created) _ _ o.funding_created) in
    let none : o.agreement.terms.peer_script ≡ None = ap (λ (g : Agreement). g.terms.peer_script) (sym agreed) in
    let x_is = is_funder a s o.accept funder funder_is in
    let y_is = is_fundee b o.agreement o.created fundee fundee_is none in
    let y_here : opened_by Fundee funder.dance.channel fundee.closing.fees fundee.terms ≡ fundee =
    ap (λ q. opened_by Fundee q fundee.closing.fees fundee.terms) (sym ends.channel) ∙ sym y_is in
    let same : opening_of fundee.terms ≡ opening_of funder.terms = ap (λ (e : Opened). e.dance.log.opening) (sym y_is)
    ∙ ends.opening ∙ ap (λ (e : Opened). e.dance.log.opening) x_is in
    let x_none : funder.terms.peer_script ≡ None = ap (λ (e : Opened). e.terms.peer_script) (sym funder_is) in
    let y_none : fundee.terms.peer_script ≡ None = ap (λ (e : Opened). e.terms.peer_script) (sym fundee_is) ∙ none in
    let x_point : (opened_by Funder funder.dance.channel funder.closing.fees funder.terms).dance.peer.point
    ≡ b.point_of 0 = ap (λ (e : Opened). e.dance.peer.point) (sym x_is) ∙ ends.fundees_point in
    let y_point : (opened_by Fundee funder.dance.channel fundee.closing.fees fundee.terms).dance.peer.point
    ≡ a.point_of 0 = ap (λ (e : Opened). e.dance.peer.point) y_here ∙ ends.funders_point in
    subst (λ e. Sound a b (opened e fundee)) (sym x_is)
    (subst (λ e. Sound a b (opened (opened_by Funder funder.dance.channel funder.closing.fees funder.terms) e)) y_here
    (holds_first a b funder.dance.channel funder.closing.fees fundee.closing.fees funder.terms fundee.terms same x_none
    y_none x_point y_point))

-- no closing fee was said or heard of yet, and each update is had one by one
pub record AreFresh (funder fundee : Opened) : Type 0 where
  pub funder_is : funder.closing ≡ closing.opened Funder funder.closing.fees
  pub fundee_is : fundee.closing ≡ closing.opened Fundee fundee.closing.fees
  pub funder_first : funder.dance.log.first ≡ log.none
  pub fundee_first : fundee.dance.log.first ≡ log.none

pub opened_fresh : (a b : Signer) (s : OpenSpec) (c : Config) (funder fundee : Opened) → Opens a b s c funder fundee
    → AreFresh funder fundee
opened_fresh a b s c funder fundee o =
    let funder_so : funder_end a s o.accept ≡ funder =
    ap (λ (p : Opened × FundingCreated). p.0) (was_given (accept_fault s o.accept) (
      funder_end a s o.accept,
      created_message a s o.accept,
    ) (funder, o.created) o.accept_channel) in
    let fundee_so : fundee_end o.agreement o.created ≡ fundee =
    ap (λ p. p.0) (was_given (created_fault b o.agreement o.created) _ _ o.funding_created) in
    record {
      funder_is = subst (λ (x : Opened). x.closing ≡ closing.opened Funder x.closing.fees) funder_so refl;
      fundee_is = subst (λ (x : Opened). x.closing ≡ closing.opened Fundee x.closing.fees) fundee_so refl;
      funder_first = subst (λ (x : Opened). x.dance.log.first ≡ log.none) funder_so refl;
      fundee_first = subst (λ (x : Opened). x.dance.log.first ≡ log.none) fundee_so refl;
    }
