-- Over every list of steps, a shutdown that an end has taken is answered once its own updates are acknowledged.
use Rattle.std.proofs.Common.{◌≡◌, List, [], ◌∷◌, ◌++◌, length, refl, sym, ap, ◌∙◌, arith}
use Rattle.std.proofs.Common.{Bool, true, false, cond, not, ◌&&◌, Some, eqb-true}
use Rattle.std.proofs.lemmas.List.{length_push}
use Rattle.ln_keys.specs.Signer.{Signer}
use Rattle.ln_close.specs.declared.closing.Closing.{Closing}
use Rattle.ln_close.specs.Closing.{after_shut, may_start}
use Rattle.ln_channel.specs.declared.config.Config.{Config}
use Rattle.ln_channel.specs.declared.config.OpenSpec.{OpenSpec}
use Rattle.ln_channel.specs.declared.machine.ConnectionState.{ConnectionState}
use Rattle.ln_channel.specs.declared.machine.ConnectionState.TheVariants.{Connected}
use Rattle.ln_channel.specs.declared.opening.Opened.{Opened}
use Rattle.ln_channel.specs.Meeting.{Opens}
use Rattle.ln_channel.specs.End.{End, has_begun, owes_shutdown, all_acknowledged, answers_shutdown, settled}
use Rattle.ln_channel_laws.specs.Ends.{opened}
use Rattle.ln_channel_laws.specs.Ends.{Step, run}
use Rattle.ln_keys.specs.Partners.{ArePartners}
use Rattle.ln_channel_laws.specs.Answers.{HasAnswered, BothHaveAnswered}
use Rattle.ln_channel_laws.proofs.Ends.OnceMet.{IsGiven, once_met}
use Rattle.ln_channel_laws.proofs.Ends.JustOpened.{opened_holds, opened_fresh}

abbrev Answered : End → Type 0
Answered e = e.closing.peer_shut ≡ true → all_acknowledged e.dance.log ≡ true → e.closing.shut ≡ true

-- ---- the end of a turn

by_tests : (p s a : Bool) → (p && not s && a) ≡ false → p ≡ true → a ≡ true → s ≡ true
by_tests true true a e x y = refl
by_tests true false true e x y = absurd (cc)
by_tests true false false e x y = absurd (cc)
by_tests false s a e x y = absurd (cc)

answers_so : (o : Bool) (e : End) → owes_shutdown e ≡ o
    → Answered (cond o (record e { closing = after_shut e.closing }) e)
answers_so true e is = λ x y. refl
answers_so false e is = by_tests e.closing.peer_shut e.closing.shut (all_acknowledged e.dance.log) is

begins_so : (b m : Bool) (e : End) → Answered e → Answered
    (cond b (record e { closing = cond m (record e.closing { own_fee = Some e.closing.fees.first }) e.closing }) e)
begins_so true true e h = h
begins_so true false e h = h
begins_so false m e h = h

settled_so : (e : End) → Answered (settled e)
settled_so e =
    let n = answers_shutdown e in
    begins_so (has_begun n) (may_start n.closing) n (answers_so (owes_shutdown e) e refl)

-- an update that was just proposed isn't acknowledged
given : IsGiven Answered
given = record {
  by_turn = settled_so;
  by_update = λ u e w x y. absurd (let l = e.dance.log in
      let same : l.acknowledged.own ≡ length (l.own ++ u ∷ []) =
      eqb-true l.acknowledged.own (length (l.own ++ u ∷ [])) y in
      omega (arith, same, length_push l.own u, w.own_acknowledged, w.own_signed));
  by_confirm = λ id e h. h;
  by_signature = λ e h. h;
  by_note = λ l e h. h;
  by_save = λ e h. h;
}

-- ---- over every list of steps

not_yet : (l : ConnectionState) (e : End) → e.closing.peer_shut ≡ false → HasAnswered l e
not_yet l e none = λ met x y. absurd (let no : true ≡ false = sym x ∙ none in cc)

pub all_answered : (a b : Signer) (s : OpenSpec) (c : Config) (funder fundee : Opened) (steps : List Step)
    → ArePartners a b → Opens a b s c funder fundee → BothHaveAnswered (run a b steps (opened funder fundee))
all_answered a b s c funder fundee steps keys o =
    let fresh = opened_fresh a b s c funder fundee o in
    let p = opened funder fundee in
    once_met Answered given a b keys steps p (opened_holds a b s c funder fundee o) (
      not_yet Connected p.x (ap (λ (q : Closing). q.peer_shut) fresh.funder_is),
      not_yet Connected p.y (ap (λ (q : Closing). q.peer_shut) fresh.fundee_is),
    )
