-- What a decision makes of what goes into an end's record: it stays as wide as in code, where the mark is.
use Rattle.std.proofs.Common.{ℕ, zero, suc, ◌<◌, ◌^◌, List, [], ◌∷◌, length, Bool, true, false, cond, ◌&&◌}
use Rattle.std.proofs.Common.{◌==◌, nat_lt, Option, Some, None, Result, Ok, Err}
use Rattle.std.proofs.Common.{◌≡◌, refl, arith}
use Rattle.std.proofs.lemmas.Bool.{eqb-true, ltb-true}
use Rattle.std.specs.List.{slice_get, list_any}
use Rattle.ln_log.specs.declared.mark.Decision.{Decision}
use Rattle.ln_channel.specs.Ledger.{is_of_event, is_held_at, with_mark, is_answer}
use Rattle.ln_refusals.specs.declared.refusal.Refusal.{Refusal}
use Rattle.ln_refusals.specs.declared.refusal.Refusal.TheVariants as refusal
use Rattle.ln_log.specs.declared.mark.EventRef.{EventRef}
use Rattle.ln_log.specs.declared.mark.EventRef.TheVariants as ref
use Rattle.ln_log.specs.declared.mark.Mark.{Mark}
use Rattle.ln_log.specs.declared.mark.Mark.TheVariants as mark
use Rattle.ln_log.specs.declared.update.Update.{Update as Change}
use Rattle.ln_log.specs.declared.update.Update.TheVariants as update
use Rattle.ln_log.specs.Log.{Log}
use Rattle.ln_channel.specs.declared.command.Command.{Command}
use Rattle.ln_channel.specs.declared.command.Command.TheVariants as command
use Rattle.ln_channel.specs.Ledger.{Ledger, most_decided, htlc_offered, first_htlc, marked, decided_first, is_not_of}
use Rattle.ln_channel.specs.Commands.{ledgered}
use Rattle.ln_channel.specs.End.{End}
use Rattle.ln_channel_laws.specs.Ends.{ledger_behind}
use Rattle.ln_channel_laws.specs.Widths.{IsUpdate, IsMark, IsCommand}
use Rattle.ln_channel_laws.proofs.All.{All, all-append, all-filter}
use Rattle.ln_channel_laws.proofs.Records.RecordFits.{Where, Does, IsDecision, IsSettlement}
use Rattle.ln_channel_laws.proofs.Records.RecordContents.{Origin, Fits}

-- ---- the HTLC that the first undecided event tells of

abbrev IsId : ℕ → Type 0
IsId id = id < 2 ^ 64

id_wide : (u : Change) → IsUpdate u → Where IsId (htlc_offered (Some u))
id_wide (update.Add a) h = h.id
id_wide (update.Fulfil f) h = tt
id_wide (update.Fail f) h = tt
id_wide (update.Malformed m) h = tt
id_wide (update.Fee f) h = tt

nth_wide : (us : List Change) (n : ℕ) → All IsUpdate us → Where IsId (htlc_offered (slice_get us n))
nth_wide [] n h = tt
nth_wide (u ∷ us) zero h = id_wide u h.0
nth_wide (u ∷ us) (suc n) h = nth_wide us n h.1

update_wide : (b : Bool) (us : List Change) (n : ℕ) → All IsUpdate us
    → Where IsId (htlc_offered (cond b None (slice_get us n)))
update_wide true us n h = tt
update_wide false us n h = nth_wide us n h

htlc_wide : (l : Log) (rs : List EventRef) → All IsUpdate l.received → Where IsId (first_htlc l rs)
htlc_wide l [] h = tt
htlc_wide l (ref.Own n ∷ rs) h = tt
htlc_wide l (ref.Peer n ∷ rs) h = update_wide (nat_lt n l.first.peer) l.received n h
htlc_wide l (ref.Close ∷ rs) h = tt

-- ---- the ledger

record IsWideLedger (l : Ledger) : Type 0 where
  decisions : All IsDecision l.decisions
  results : All IsSettlement l.results

abbrev IfWide : Result Ledger Refusal → Type 0
IfWide (Ok l) = IsWideLedger l
IfWide (Err r) = Unit {0}

-- what a mark does is as wide as it is, where an HTLC is held by a number that is
abbrev Held : Mark → Type 0
Held (mark.Held event) = event < 2 ^ 64
Held m = Unit {0}

marked_wide : (m : Mark) (htlc : Option ℕ) (l : Ledger) → IsMark m → Held m → Where IsId htlc → IsWideLedger l
    → IfWide (decided_first (marked m htlc l))
marked_wide mark.None htlc l wide held small h = record { decisions = h.decisions; results = h.results }
marked_wide (mark.Forward channel amount expiry) None l wide held small h = tt
marked_wide (mark.Forward channel amount expiry) (Some id) l wide held small h = record {
  decisions = all-append IsDecision l.decisions _ h.decisions (record { id = small; mark = wide }, tt);
  results = h.results;
}
marked_wide (mark.Fail reason) None l wide held small h = tt
marked_wide (mark.Fail reason) (Some id) l wide held small h = record {
  decisions = all-append IsDecision l.decisions _ h.decisions (record { id = small; mark = wide }, tt);
  results = h.results;
}
marked_wide (mark.Malformed code) None l wide held small h = tt
marked_wide (mark.Malformed code) (Some id) l wide held small h = record {
  decisions = all-append IsDecision l.decisions _ h.decisions (record { id = small; mark = wide }, tt);
  results = h.results;
}
marked_wide (mark.Fulfil preimage) None l wide held small h = tt
marked_wide (mark.Fulfil preimage) (Some id) l wide held small h = record {
  decisions = all-append IsDecision l.decisions _ h.decisions (record { id = small; mark = wide }, tt);
  results = h.results;
}
marked_wide (mark.Held event) None l wide held small h = tt
marked_wide (mark.Held event) (Some id) l wide held small h = record {
  decisions = all-append IsDecision l.decisions _ h.decisions (record { id = small; mark = held }, tt);
  results = h.results;
}

-- the number of an event that is in its turn
held_so : (t u v : Bool) (event : ℕ) (m : Mark) → nat_lt event most_decided ≡ u
    → ((t && (u && v)) && is_of_event event m) ≡ true → Held m
held_so true true true event mark.None e h = tt
held_so true true true event (mark.Forward channel amount expiry) e h = tt
held_so true true true event (mark.Fail reason) e h = tt
held_so true true true event (mark.Malformed code) e h = tt
held_so true true true event (mark.Fulfil preimage) e h = tt
held_so true true true event (mark.Held n) e h =
    let same : event ≡ n = eqb-true event n h in
    let below = ltb-true event most_decided e in
    omega (arith, same, below)
held_so true true false event m e h = absurd cc
held_so true false v event m e h = absurd cc
held_so false u v event m e h = absurd cc

decide_wide : (b : Bool) (m : Mark) (htlc : Option ℕ) (l : Ledger) → IsMark m → (b ≡ true → Held m) → Where IsId htlc
    → IsWideLedger l → IfWide (cond b (decided_first (marked m htlc l)) (Err refusal.NotReady))
decide_wide true m htlc l wide held small h = marked_wide m htlc l wide (held refl) small h
decide_wide false m htlc l wide held small h = tt

-- ---- a decision in the place of that an HTLC is held

-- an answer is as wide as its mark
answer_wide : (m : Mark) → is_answer m ≡ true → IsMark m → Does m
answer_wide mark.None is wide = absurd cc
answer_wide (mark.Forward channel amount expiry) is wide = wide
answer_wide (mark.Fail reason) is wide = wide
answer_wide (mark.Malformed code) is wide = wide
answer_wide (mark.Fulfil preimage) is wide = wide
answer_wide (mark.Held event) is wide = absurd cc

with_mark_wide : (event : ℕ) (m : Mark) (ds : List Decision) → Does m → All IsDecision ds
    → All IsDecision (with_mark event m ds)
with_mark_wide event m [] does h = tt
with_mark_wide event m (d ∷ ds) does h = by (is_held_at event d) (with_mark_wide event m ds does h.1)
  where
    by : (b : Bool) → All IsDecision (with_mark event m ds)
        → All IsDecision (cond b (record { id = d.id; mark = m } ∷ ds) (d ∷ with_mark event m ds))
    by true x = (record { id = h.0.id; mark = does }, h.1)
    by false x = (h.0, x)

resume_wide : (answer any : Bool) (event : ℕ) (m : Mark) (l : Ledger) → is_answer m ≡ answer → IsMark m
    → IsWideLedger l
    → IfWide (cond (answer && any) (Ok (record l { decisions = with_mark event m l.decisions })) (Err refusal.NotReady))
resume_wide true true event m l e wide h = record {
  decisions = with_mark_wide event m l.decisions (answer_wide m e wide) h.decisions;
  results = h.results;
}
resume_wide true false event m l e wide h = tt
resume_wide false any event m l e wide h = tt

behind_wide : (row : Result Ledger Refusal) (l : Ledger) → IfWide row → IsWideLedger l
    → IsWideLedger (ledger_behind row l)
behind_wide (Ok n) l h k = h
behind_wide (Err r) l h k = k

ledger_wide : (c : Command) (e : End) → IsCommand c → All IsUpdate e.dance.log.received → IsWideLedger e.ledger
    → IsWideLedger (ledger_behind (ledgered c e) e.ledger)
ledger_wide (command.Decide event m) e wide received h =
    let l = e.ledger in
    let htlc = first_htlc e.dance.log l.undecided in
    behind_wide (ledgered (command.Decide event m) e) l
    (decide_wide (((event == l.decided) && (nat_lt event most_decided && nat_lt 0 (length l.undecided)))
    && is_of_event event m) m htlc l wide
    (held_so (event == l.decided) (nat_lt event most_decided) (nat_lt 0 (length l.undecided)) event m refl)
    (htlc_wide e.dance.log l.undecided received) h) h
ledger_wide (command.Resume event m) e wide received h =
    let l = e.ledger in
    behind_wide (ledgered (command.Resume event m) e) l
    (resume_wide (is_answer m) (list_any (is_held_at event) l.decisions) event m l refl wide h) h
ledger_wide (command.Forget id) e wide received h = record {
  decisions = h.decisions;
  results = all-filter IsSettlement (is_not_of id) e.ledger.results h.results;
}
ledger_wide (command.Confirm id) e wide received h = h
ledger_wide (command.Add amount hash expiry onion origin) e wide received h = h
ledger_wide (command.Fulfil id preimage) e wide received h = h
ledger_wide (command.Fail id reason) e wide received h = h
ledger_wide (command.Malformed id sha code) e wide received h = h
ledger_wide (command.Fee feerate) e wide received h = h
ledger_wide command.Sign e wide received h = h
ledger_wide (command.Shutdown script) e wide received h = h

pub noted_fits : (o : Origin) (c : Command) (e : End) → IsCommand c → Fits o e
    → Fits o (record e { ledger = ledger_behind (ledgered c e) e.ledger })
noted_fits o c e wide h =
    let l = ledger_wide c e wide h.received (record { decisions = h.decisions; results = h.results }) in
    record {
      origin = h.origin;
      own = h.own;
      own_room = h.own_room;
      received = h.received;
      received_room = h.received_room;
      script = h.script;
      peer_script = h.peer_script;
      decisions = l.decisions;
      results = l.results;
    }
