-- What an end tells in a step are the events of its moves.
use Rattle.std.proofs.Common.{suc, ◌≡◌, ℕ, ◌+◌, ◌-◌, ◌≤◌, List, [], ◌∷◌, ◌++◌, length}
use Rattle.std.proofs.Common.{take, drop, refl, sym, ap, ◌∙◌}
use Rattle.std.proofs.Common.{arith, append_assoc, append-nil}
use Rattle.std.proofs.Common.{Bool, true, false, Option, Some, None, option_map}
use Rattle.std.specs.List.{cons_option}
use Rattle.std.proofs.lemmas.List.{drop-take, length-take-le, length-append}
use Rattle.ln_keys.specs.declared.role.Role.{Role}
use Rattle.ln_keys.specs.declared.role.Role.TheVariants.{Funder, Fundee}
use Rattle.ln_keys.specs.Role.{other_role}
use Rattle.ln_log.specs.declared.opening.Opening.{Opening}
use Rattle.ln_log.specs.declared.update.Update.{Update as Change}
use Rattle.ln_log.specs.declared.update.Update.TheVariants as update
use Rattle.ln_log.specs.Updates.{all_sent}
use Rattle.ln_log.specs.Log.{between}
use Rattle.ln_log.specs.Machine.{Party, Machine, Move, Accept, Learn, IsRun, fresh, after, after_accept, after_learn}
use Rattle.ln_log.specs.Events.{Event, ClosedAt, held_events, grown, accept_events, learn_events, events}
use Rattle.ln_log.specs.Events.{events_of as move_told}
use Rattle.ln_hooks.specs.declared.event.ChannelEvent.{ChannelEvent}
use Rattle.ln_hooks.specs.Event.{event_of}
use Rattle.ln_log.specs.declared.mark.EventRef.{EventRef}
use Rattle.ln_channel.specs.declared.output.Output.{Output}
use Rattle.ln_channel.specs.declared.output.Output.TheVariants as output
use Rattle.ln_channel.specs.Ledger.{Ledger, next_event, refs_of, ref_of, entered}
use Rattle.ln_channel.specs.Outputs.{events_of, numbered}
use Rattle.ln_channel_laws.specs.Moves.{closes, shuts, after_all}
use Rattle.ln_channel_laws.specs.Told.{as_told, event_at, events_in}
use Rattle.ln_channel_laws.proofs.Flight.Images.{length-sent, drop-sent}
use Rattle.ln_channel_laws.proofs.Machine.OneMove.{seen_by}

-- ---- lists

pub in_numbered : (n : ℕ) (es : List ChannelEvent) → events_in (numbered n es) ≡ numbered n es
in_numbered n [] = refl
in_numbered n (e ∷ es) = ap (λ os. output.Event n e ∷ os) (in_numbered (n + 1) es)

pub events_in-append : (os ps : List Output) → events_in (os ++ ps) ≡ events_in os ++ events_in ps
events_in-append [] ps = refl
events_in-append (output.Send m ∷ os) ps = events_in-append os ps
events_in-append (output.Signed n ∷ os) ps = events_in-append os ps
events_in-append (output.Committed own peer ∷ os) ps = events_in-append os ps
events_in-append (output.Event n e ∷ os) ps = ap (λ qs. output.Event n e ∷ qs) (events_in-append os ps)
events_in-append (output.Closed fee ∷ os) ps = events_in-append os ps

pub numbered_append : (n : ℕ) (es fs : List ChannelEvent)
    → numbered n (es ++ fs) ≡ numbered n es ++ numbered (n + length es) fs
numbered_append n [] fs = ap (λ k. numbered k fs) (let k : n ≡ n + 0 = omega arith in k)
numbered_append n (e ∷ es) fs = ap (λ os. output.Event n e ∷ os) (numbered_append (n + 1) es fs
    ∙ ap (λ k. numbered (n + 1) es ++ numbered k fs)
    (let k : n + 1 + length es ≡ n + length (e ∷ es) = omega arith in k))

cons_append : (o : Option ChannelEvent) (es fs : List ChannelEvent)
    → cons_option o es ++ fs ≡ cons_option o (es ++ fs)
cons_append None es fs = refl
cons_append (Some e) es fs = refl

pub told_append : (es fs : List Event) → as_told (es ++ fs) ≡ as_told es ++ as_told fs
told_append [] fs = refl
told_append (e ∷ es) fs = ap (cons_option (event_at e)) (told_append es fs)
    ∙ sym (cons_append (event_at e) (as_told es) (as_told fs))

pub events_append : (r : Role) (ms ns : List Move) (m : Option Machine)
    → events r (ms ++ ns) m ≡ events r ms m ++ events r ns (after_all ms m)
events_append r [] ns m = refl
events_append r (move ∷ ms) ns m = ap (λ es. move_told r move m ++ es) (events_append r ms ns (after move m))
    ∙ sym (append_assoc (move_told r move m) (events r ms (after move m)) (events r ns (after_all ms (after move m))))

-- ---- updates

-- where an add came from is no part of its event
pub held_told : (own : Bool) (us : List Change) → as_told (held_events own (all_sent us)) ≡ events_of own us
held_told own [] = refl
held_told own (update.Add a ∷ us) = ap (cons_option (event_of own (update.Add a))) (held_told own us)
held_told own (update.Fulfil a ∷ us) = ap (cons_option (event_of own (update.Fulfil a))) (held_told own us)
held_told own (update.Fail a ∷ us) = ap (cons_option (event_of own (update.Fail a))) (held_told own us)
held_told own (update.Malformed a ∷ us) = ap (cons_option (event_of own (update.Malformed a))) (held_told own us)
held_told own (update.Fee a ∷ us) = held_told own us

pub grown_so : (c d : ℕ) (us : List Change) → c ≤ d → d ≤ length us
    → grown (all_sent (take c us)) (all_sent (take d us)) ≡ all_sent (between c d us)
grown_so c d us le most =
    let n : length (all_sent (take c us)) ≡ c = length-sent (take c us)
    ∙ length-take-le c us (omega (arith, le, most)) in
    let sum : d ≡ c + (d - c) = omega (arith, le) in
    ap (λ i. drop i (all_sent (take d us))) n ∙ drop-sent c (take d us)
    ∙ ap (λ i. all_sent (drop c (take i us))) sum ∙ ap all_sent (drop-take c (d - c) us)

ref_counts : (o : Option ChannelEvent) (k : EventRef) (rs : List EventRef) (es : List ChannelEvent)
    → length rs ≡ length es → length (cons_option (option_map (λ e. k) o) rs) ≡ length (cons_option o es)
ref_counts None k rs es e = e
ref_counts (Some x) k rs es e = ap suc e

pub refs_count : (own : Bool) (n : ℕ) (us : List Change) → length (refs_of own n us) ≡ length (events_of own us)
refs_count own n [] = refl
refs_count own n (u ∷ us) = ref_counts (event_of own u) (ref_of own n) (refs_of own (n + 1) us) (events_of own us)
    (refs_count own (n + 1) us)

pub entered_next : (l : Ledger) (rs : List EventRef) → next_event (entered rs l) ≡ next_event l + length rs
entered_next l rs =
    let is : length (l.undecided ++ rs) ≡ length l.undecided + length rs = length-append l.undecided rs in
    omega (arith, is)

-- ---- moves

shuts_none : (q r : Role) (s t : Bool) (m : Machine) → events q (shuts r s t) (Some m) ≡ []
shuts_none q r false false m = refl
shuts_none q r false true m = refl
shuts_none q r true t m = refl

tail_same : (q r : Role) (c : Option ℕ) (s t : Bool) (m : Machine)
    → events q (closes r c c ++ shuts r s t) (Some m) ≡ []
tail_same q r None s t m = shuts_none q r s t m
tail_same q r (Some fee) s t m = shuts_none q r s t m

pub tail_none : (q r : Role) (c d : Option ℕ) (s t : Bool) (m : Machine) → d ≡ c
    → events q (closes r c d ++ shuts r s t) (Some m) ≡ []
tail_none q r c d s t m e = ap (λ z. events q (closes r c z ++ shuts r s t) (Some m)) e ∙ tail_same q r c s t m

pub tail_close : (r : Role) (fee : ℕ) (s t : Bool) (m : Machine)
    → events r (closes r None (Some fee) ++ shuts r s t) (Some m) ≡ ClosedAt fee ∷ []
tail_close Funder fee s t m = ap (λ es. ClosedAt fee ∷ es) (shuts_none Funder Funder s t _)
tail_close Fundee fee s t m = ap (λ es. ClosedAt fee ∷ es) (shuts_none Fundee Fundee s t _)

pub tail_other : (r : Role) (fee : ℕ) (s t : Bool) (m : Machine)
    → events (other_role r) (closes r None (Some fee) ++ shuts r s t) (Some m) ≡ []
tail_other Funder fee s t m = shuts_none Fundee Funder s t _
tail_other Fundee fee s t m = shuts_none Funder Fundee s t _

module _ (o : Opening) (x y n : Party) (c d : Option ℕ) (s t : Bool) (same : d ≡ c) where
  abbrev funder_of : Option Machine → Party
  funder_of None = fresh
  funder_of (Some m) = m.funder

  abbrev fundee_of : Option Machine → Party
  fundee_of None = fresh
  fundee_of (Some m) = m.fundee

  pub accept_told : (r : Role) → IsRun (Accept r ∷ []) (Some (seen_by r o x y)) (Some (seen_by r o n y))
      → events r (Accept r ∷ (closes r c d ++ shuts r s t)) (Some (seen_by r o x y)) ≡ accept_events x n
  accept_told Funder e = ap (λ es. accept_events x (after_accept y x) ++ es) (tail_none Funder Funder c d s t _ same)
      ∙ append-nil (accept_events x (after_accept y x)) ∙ ap (λ q. accept_events x (funder_of q)) (sym e.1)
  accept_told Fundee e = ap (λ es. accept_events x (after_accept y x) ++ es) (tail_none Fundee Fundee c d s t _ same)
      ∙ append-nil (accept_events x (after_accept y x)) ∙ ap (λ q. accept_events x (fundee_of q)) (sym e.1)

  pub learn_told : (r : Role) → IsRun (Learn r ∷ []) (Some (seen_by r o x y)) (Some (seen_by r o n y))
      → events r (Learn r ∷ (closes r c d ++ shuts r s t)) (Some (seen_by r o x y)) ≡ learn_events x n
  learn_told Funder e = ap (λ es. learn_events x (after_learn y x) ++ es) (tail_none Funder Funder c d s t _ same)
      ∙ append-nil (learn_events x (after_learn y x)) ∙ ap (λ q. learn_events x (funder_of q)) (sym e.1)
  learn_told Fundee e = ap (λ es. learn_events x (after_learn y x) ++ es) (tail_none Fundee Fundee c d s t _ same)
      ∙ append-nil (learn_events x (after_learn y x)) ∙ ap (λ q. learn_events x (fundee_of q)) (sym e.1)

  pub accept_other : (r : Role)
      → events (other_role r) (Accept r ∷ (closes r c d ++ shuts r s t)) (Some (seen_by r o x y)) ≡ []
  accept_other Funder = tail_none Fundee Funder c d s t _ same
  accept_other Fundee = tail_none Funder Fundee c d s t _ same

  pub learn_other : (r : Role)
      → events (other_role r) (Learn r ∷ (closes r c d ++ shuts r s t)) (Some (seen_by r o x y)) ≡ []
  learn_other Funder = tail_none Fundee Funder c d s t _ same
  learn_other Fundee = tail_none Funder Fundee c d s t _ same
