-- What a decision makes of an end's ledger: a first part of the undecided events goes, and is counted as decided; no
-- more decisions come than these, and no results.
use Rattle.std.proofs.Common.{◌≡◌, ℕ, suc, ◌+◌, ◌-◌, ◌<◌, ◌≤◌, List, [], ◌∷◌, ◌++◌, length, drop, filter, refl, ap, ◌∙◌}
use Rattle.std.proofs.Common.{arith}
use Rattle.std.proofs.Common.{length-append, length-drop, Bool, true, false, cond, ◌&&◌, ◌==◌, nat_lt, Option, Some}
use Rattle.std.proofs.Common.{None}
use Rattle.std.proofs.Common.{Result, Ok, Err}
use Rattle.std.proofs.lemmas.Bool.{ltb-true}
use Rattle.ln_refusals.specs.declared.refusal.Refusal.{Refusal}
use Rattle.ln_refusals.specs.declared.refusal.Refusal.TheVariants as refusal
use Rattle.ln_log.specs.declared.mark.Mark.{Mark}
use Rattle.ln_log.specs.declared.mark.Mark.TheVariants as mark
use Rattle.ln_log.specs.declared.mark.Decision.{Decision}
use Rattle.ln_log.specs.declared.mark.Settlement.{Settlement}
use Rattle.ln_channel.specs.declared.command.Command.{Command}
use Rattle.ln_channel.specs.declared.command.Command.TheVariants as command
use Rattle.ln_channel.specs.Ledger.{Ledger, most_decided, first_htlc, marked, decided_first, is_not_of, next_event}
use Rattle.ln_channel.specs.Ledger.{is_of_event, is_held_at, with_mark, may_resume}
use Rattle.ln_channel.specs.Commands.{ledgered}
use Rattle.ln_channel.specs.End.{End}
use Rattle.ln_channel_laws.specs.Ends.{ledger_behind}

pub record Behind (l n : Ledger) : Type 0 where
  pub gone : ℕ
  pub within : gone ≤ length l.undecided
  pub undecided : n.undecided ≡ drop gone l.undecided
  pub decided : n.decided ≡ l.decided + gone
  pub decisions : length n.decisions ≤ length l.decisions + gone
  pub results : length n.results ≤ length l.results

abbrev IfBehind : Ledger → Result Ledger Refusal → Type 0
IfBehind l (Ok n) = Behind l n
IfBehind l (Err r) = Unit {0}

one_behind : (l : Ledger) → 0 < length l.undecided → Behind l (record l
    { decided = l.decided + 1; undecided = drop 1 l.undecided })
one_behind l some = record {
  gone = 1;
  within = omega (arith, some);
  undecided = refl;
  decided = refl;
  decisions = omega arith;
  results = omega arith;
}

one_kept : (l : Ledger) (d : Decision) → 0 < length l.undecided → Behind l (record {
  decided = l.decided + 1;
  undecided = drop 1 l.undecided;
  decisions = l.decisions ++ d ∷ [];
  results = l.results;
})
one_kept l d some = let all = length-append l.decisions (d ∷ []) in record {
  gone = 1;
  within = omega (arith, some);
  undecided = refl;
  decided = refl;
  decisions = omega (arith, all);
  results = omega arith;
}

marked_behind : (m : Mark) (htlc : Option ℕ) (l : Ledger) → 0 < length l.undecided
    → IfBehind l (decided_first (marked m htlc l))
marked_behind mark.None htlc l some = one_behind l some
marked_behind (mark.Forward channel amount expiry) None l some = tt
marked_behind (mark.Forward channel amount expiry) (Some id) l some = one_kept l _ some
marked_behind (mark.Fail reason) None l some = tt
marked_behind (mark.Fail reason) (Some id) l some = one_kept l _ some
marked_behind (mark.Malformed code) None l some = tt
marked_behind (mark.Malformed code) (Some id) l some = one_kept l _ some
marked_behind (mark.Fulfil preimage) None l some = tt
marked_behind (mark.Fulfil preimage) (Some id) l some = one_kept l _ some
marked_behind (mark.Held event) None l some = tt
marked_behind (mark.Held event) (Some id) l some = one_kept l _ some

decide_behind : (t u v w : Bool) (m : Mark) (htlc : Option ℕ) (l : Ledger) → nat_lt 0 (length l.undecided) ≡ v
    → IfBehind l (cond ((t && (u && v)) && w) (decided_first (marked m htlc l)) (Err refusal.NotReady))
decide_behind true true true true m htlc l e = marked_behind m htlc l (ltb-true 0 (length l.undecided) e)
decide_behind true true true false m htlc l e = tt
decide_behind true true false w m htlc l e = tt
decide_behind true false v w m htlc l e = tt
decide_behind false u v w m htlc l e = tt

-- a decision is replaced in its place
as_many : (event : ℕ) (m : Mark) (ds : List Decision) → length (with_mark event m ds) ≡ length ds
as_many event m [] = refl
as_many event m (d ∷ ds) = by (is_held_at event d) (as_many event m ds)
  where
    by : (b : Bool) → length (with_mark event m ds) ≡ length ds
        → length (cond b (record { id = d.id; mark = m } ∷ ds) (d ∷ with_mark event m ds)) ≡ suc (length ds)
    by true more = refl
    by false more = ap suc more

resume_behind : (b : Bool) (event : ℕ) (m : Mark) (l : Ledger)
    → IfBehind l (cond b (Ok (record l { decisions = with_mark event m l.decisions })) (Err refusal.NotReady))
resume_behind true event m l = let many = as_many event m l.decisions in record {
  gone = 0;
  within = omega arith;
  undecided = refl;
  decided = omega arith;
  decisions = omega (arith, many);
  results = omega arith;
}
resume_behind false event m l = tt

no_more : (f : Settlement → Bool) (ss : List Settlement) → length (filter f ss) ≤ length ss
no_more f [] = omega arith
no_more f (s ∷ ss) = by (f s) (no_more f ss)
  where
    by : (b : Bool) → length (filter f ss) ≤ length ss
        → length (cond b (s ∷ filter f ss) (filter f ss)) ≤ suc (length ss)
    by true le = omega (arith, le)
    by false le = omega (arith, le)

all_left : (l : Ledger) (ss : List Settlement) → length ss ≤ length l.results → Behind l (record l { results = ss })
all_left l ss le = record {
  gone = 0;
  within = omega arith;
  undecided = refl;
  decided = omega arith;
  decisions = omega arith;
  results = le;
}

same : (l : Ledger) → Behind l l
same l = all_left l l.results (omega arith)

ledger_so : (l : Ledger) (row : Result Ledger Refusal) → IfBehind l row → Behind l (ledger_behind row l)
ledger_so l (Ok n) h = h
ledger_so l (Err r) h = same l

pub noted : (c : Command) (e : End) → Behind e.ledger (ledger_behind (ledgered c e) e.ledger)
noted (command.Decide event m) e =
    let l = e.ledger in
    let htlc = first_htlc e.dance.log l.undecided in
    ledger_so l (ledgered (command.Decide event m) e)
    (decide_behind (event == l.decided) (nat_lt event most_decided) (nat_lt 0 (length l.undecided))
    (is_of_event event m) m htlc l refl)
noted (command.Resume event m) e =
    ledger_so e.ledger (ledgered (command.Resume event m) e)
    (resume_behind (may_resume event m e.ledger) event m e.ledger)
noted (command.Forget id) e =
    let rs = e.ledger.results in
    all_left e.ledger (filter (is_not_of id) rs) (no_more (is_not_of id) rs)
noted (command.Confirm id) e = same e.ledger
noted (command.Add amount hash expiry onion origin) e = same e.ledger
noted (command.Fulfil id preimage) e = same e.ledger
noted (command.Fail id reason) e = same e.ledger
noted (command.Malformed id sha code) e = same e.ledger
noted (command.Fee feerate) e = same e.ledger
noted command.Sign e = same e.ledger
noted (command.Shutdown script) e = same e.ledger

-- what isn't done is refused as not ready
abbrev pub IsNotReady : Result Ledger Refusal → Type 0
IsNotReady (Ok l) = Unit {0}
IsNotReady (Err r) = r ≡ refusal.NotReady

marked_not : (m : Mark) (htlc : Option ℕ) (l : Ledger) → IsNotReady (decided_first (marked m htlc l))
marked_not mark.None htlc l = tt
marked_not (mark.Forward channel amount expiry) None l = refl
marked_not (mark.Forward channel amount expiry) (Some id) l = tt
marked_not (mark.Fail reason) None l = refl
marked_not (mark.Fail reason) (Some id) l = tt
marked_not (mark.Malformed code) None l = refl
marked_not (mark.Malformed code) (Some id) l = tt
marked_not (mark.Fulfil preimage) None l = refl
marked_not (mark.Fulfil preimage) (Some id) l = tt
marked_not (mark.Held event) None l = refl
marked_not (mark.Held event) (Some id) l = tt

decide_not : (b : Bool) (m : Mark) (htlc : Option ℕ) (l : Ledger)
    → IsNotReady (cond b (decided_first (marked m htlc l)) (Err refusal.NotReady))
decide_not true m htlc l = marked_not m htlc l
decide_not false m htlc l = refl

resume_not : (b : Bool) (event : ℕ) (m : Mark) (l : Ledger)
    → IsNotReady (cond b (Ok (record l { decisions = with_mark event m l.decisions })) (Err refusal.NotReady))
resume_not true event m l = tt
resume_not false event m l = refl

pub not_ready : (c : Command) (e : End) → IsNotReady (ledgered c e)
not_ready (command.Decide event m) e =
    let l = e.ledger in
    decide_not (((event == l.decided) && (nat_lt event most_decided && nat_lt 0 (length l.undecided)))
    && is_of_event event m) m (first_htlc e.dance.log l.undecided) l
not_ready (command.Resume event m) e = resume_not (may_resume event m e.ledger) event m e.ledger
not_ready (command.Forget id) e = tt
not_ready (command.Confirm id) e = refl
not_ready (command.Add amount hash expiry onion origin) e = refl
not_ready (command.Fulfil id preimage) e = refl
not_ready (command.Fail id reason) e = refl
not_ready (command.Malformed id sha code) e = refl
not_ready (command.Fee feerate) e = refl
not_ready command.Sign e = refl
not_ready (command.Shutdown script) e = refl

-- as many events have been entered
pub next_behind : (l n : Ledger) → Behind l n → next_event n ≡ next_event l + 0
next_behind l n b =
    let le = b.within in
    let more = b.decided in
    let fewer : length n.undecided ≡ length l.undecided - b.gone =
    ap length b.undecided ∙ length-drop b.gone l.undecided in
    omega (arith, le, more, fewer)
