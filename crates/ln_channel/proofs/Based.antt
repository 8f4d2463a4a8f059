-- An end whose base moves on.
use Rattle.std.proofs.Common.{◌≡◌, ℕ, ◌-◌, ◌<◌, List, [], ◌∷◌, take, drop, refl, sym, ap, ◌∙◌, arith, Bool, true, false}
use Rattle.std.proofs.Common.{cond, filter, Result, Ok, Err, OnOk}
use Rattle.ln_refusals.specs.declared.refusal.Refusal.{Refusal}
use Rattle.ln_log.specs.declared.log.Counts.{Counts}
use Rattle.ln_log.specs.declared.update.Update.{Update}
use Rattle.ln_log.specs.declared.mark.Decision.{Decision}
use Rattle.ln_log.specs.Log.{between}
use Rattle.ln_log.specs.Window.{may_be_base, after_advance}
use Rattle.ln_dance.specs.Dance.{Dancer, with_log}
use Rattle.ln_channel.specs.Ledger.{Ledger}
use Rattle.ln_channel.specs.End.{End}
use Rattle.ln_channel.specs.declared.machine.Stage.{Stage}
use Rattle.ln_channel.specs.State.{State}
use Rattle.ln_channel.specs.Base.{allowed, is_open, without_removed, based, based_stage}
use Rattle.ln_channel.specs.Base.{based_link}

-- ---- nothing enters after the base

pub between_none : (n m : ℕ) (us : List Update) → m - n ≡ 0 → between n m us ≡ []
between_none n m us e = ap (λ i. take i (drop n us)) e

-- of two ends that the first isn't before, nothing stands between either
pub no_way : (n m : ℕ) (us : List Update) → m < n → between n n us ≡ between n m us
no_way n m us lt =
    between_none n n us (omega arith) ∙ sym (between_none n m us (omega (arith, lt)))

all_open : (ds : List Decision) → filter (is_open []) ds ≡ ds
all_open [] = refl
all_open (d ∷ ds) = ap (λ x. d ∷ x) (all_open ds)

-- where nothing enters, each decision stays
stays_whole : (us : List Update) (l : Ledger) → us ≡ [] → without_removed us l ≡ l
stays_whole us l e =
    ap (λ x. without_removed x l) e ∙ ap (λ ds. record l { decisions = ds }) (all_open l.decisions)

-- ---- where the base stands there already

same_either : (b : Bool) (c d : Counts) → c ≡ d → cond b c d ≡ d
same_either true c d e = e
same_either false c d e = refl

pub stays : (e : End) (to : Counts) → to ≡ allowed e → to ≡ e.dance.log.first → e ≡ based e
stays e to is there =
    ap (λ l. record e { ledger = l }) (sym (stays_whole (between e.dance.log.first.own e.dance.log.first.own
    e.dance.log.own) e.ledger
    (between_none e.dance.log.first.own e.dance.log.first.own e.dance.log.own (omega arith))))
    ∙ sym (ap (λ (c : Counts). record e {
      dance = with_log (record e.dance.log { first = c }) e.dance;
      ledger = without_removed (between e.dance.log.first.own c.own e.dance.log.own) e.ledger;
    }) (same_either (may_be_base e.dance.log (allowed e)) (allowed e) e.dance.log.first (sym is ∙ there)))

-- ---- what is left

left_so : (b : Bool) (to : Counts) (e : End) → false ≡ b
    → without_removed (between e.dance.log.first.own (cond b to e.dance.log.first).own e.dance.log.own) e.ledger
    ≡ e.ledger
left_so true to e still = absurd (cc)
left_so false to e still = stays_whole _ e.ledger
    (between_none e.dance.log.first.own e.dance.log.first.own e.dance.log.own (omega arith))

-- where the base doesn't move
pub not_moved : (e : End) (to : Counts) (d : Dancer) → to ≡ allowed e → false ≡ may_be_base e.dance.log to
    → d ≡ with_log (after_advance to e.dance.log) e.dance → record e { dance = d } ≡ based e
not_moved e to d is still moved =
    ap (λ x. record e { dance = x }) (moved ∙ ap (λ c. with_log (after_advance c e.dance.log) e.dance) is)
    ∙ ap (λ l. record e { dance = with_log (after_advance (allowed e) e.dance.log) e.dance; ledger = l })
    (sym (left_so (may_be_base e.dance.log (allowed e)) (allowed e) e
    (still ∙ ap (λ c. may_be_base e.dance.log c) is)))

enters_so : (b : Bool) (to : Counts) (e : End) → true ≡ b
    → without_removed (between e.dance.log.first.own to.own e.dance.log.own) e.ledger
    ≡ without_removed (between e.dance.log.first.own (cond b to e.dance.log.first).own e.dance.log.own) e.ledger
enters_so true to e goes = refl
enters_so false to e goes = absurd (cc)

-- where it does
pub moved : (e : End) (to : Counts) (d : Dancer) (l : Ledger) → to ≡ allowed e → true ≡ may_be_base e.dance.log to
    → d ≡ with_log (after_advance to e.dance.log) e.dance
    → l ≡ without_removed (between e.dance.log.first.own to.own e.dance.log.own) e.ledger
    → record e { dance = d; ledger = l } ≡ based e
moved e to d l is goes moves left =
    ap (λ x. record e { dance = x; ledger = l }) (moves ∙ ap (λ c. with_log (after_advance c e.dance.log) e.dance) is)
    ∙ ap (λ x. record e { dance = with_log (after_advance (allowed e) e.dance.log) e.dance; ledger = x })
    (left ∙ ap (λ (c : Counts). without_removed (between e.dance.log.first.own c.own e.dance.log.own) e.ledger) is
    ∙ enters_so (may_be_base e.dance.log (allowed e)) (allowed e) e (goes ∙ ap (λ c. may_be_base e.dance.log c) is))

-- ---- a link whose end is based

pub link_based : {K : Type 0} (r : Result (Unit {0}) Refusal) (old l : State K) (new : Stage) → old ≡ l
    → OnOk r (new ≡ based_stage l.stage) → OnOk r (record old { stage = new } ≡ based_link l)
link_based (Ok u) old l new k e =
    ap (λ (x : Stage). record old { stage = x }) e ∙ ap (λ (y : State _). record y { stage = based_stage l.stage }) k
link_based (Err x) old l new k e = e
