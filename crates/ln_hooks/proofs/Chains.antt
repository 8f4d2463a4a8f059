-- One more hook, one more event.
use Rattle.std.proofs.Common.{◌≡◌, ◌++◌, ◌∷◌, [], List, refl, sym, ap, ◌∙◌, subst, ℕ, ◌+◌, ◌-◌, ◌<◌, ◌≤◌, length}
use Rattle.std.proofs.Common.{take, drop, map, arith, true}
use Rattle.std.proofs.Math.ListN.{get_or, set, drop_of_length-le}
use Rattle.std.proofs.lemmas.List.{append-nil, append_assoc, take_all, take_more, take_more_set, length-drop}
use Rattle.std.proofs.lemmas.List.{drop_more, drop-set-lt}
use Rattle.std.specs.Borrow.{Bor}
use Rattle.ln_hooks.specs.declared.event.ChannelEvent.{ChannelEvent}
use Rattle.ln_hooks.specs.declared.verdict.Verdict.{Verdict}
use Rattle.ln_hooks.specs.declared.verdict.Verdict.TheVariants.{Continue, Fail, Hold}
use Rattle.ln_hooks.specs.Verdict.{first_code, verdict_by, verdict, joined}
use Rattle.ln_hooks.specs.Chain.{IsCalledOn, shown_to}
use Rattle.ln_hooks.specs.Table.{AreCalledOn, AreChains, first_answer, later_answers, verdicts, Says, SaysOfEach}

-- the verdict of one more answer, where one of those before was Hold
held-more : (answers : List Verdict) (answer : Verdict)
    → joined (verdict_by (first_code answers) true) answer ≡ verdict_by (first_code (answers ++ answer ∷ [])) true
held-more [] Continue = refl
held-more [] (Fail c) = refl
held-more [] Hold = refl
held-more (Continue ∷ answers) answer = held-more answers answer
held-more (Fail c ∷ answers) answer = refl
held-more (Hold ∷ answers) answer = held-more answers answer

-- the verdict of one more answer
verdict-more : (answers : List Verdict) (answer : Verdict)
    → joined (verdict answers) answer ≡ verdict (answers ++ answer ∷ [])
verdict-more [] Continue = refl
verdict-more [] (Fail c) = refl
verdict-more [] Hold = refl
verdict-more (Continue ∷ answers) answer = verdict-more answers answer
verdict-more (Fail c ∷ answers) answer = refl
verdict-more (Hold ∷ answers) answer = held-more answers answer

-- the answers to one event in front of those to later ones
abbrev in_front : List Verdict → List (List Verdict) → List (List Verdict)
in_front [] rows = []
in_front (answer ∷ answers) [] = []
in_front (answer ∷ answers) (row ∷ rows) = (answer ∷ row) ∷ in_front answers rows

module _ {H F : Type 0} (call : H → F) (step : F → Bor ChannelEvent → Verdict → F → Type 0) where
  -- one more hook is called on the event
  called-more : (hs : List H) (event : ChannelEvent) (answers : List Verdict) (hs' : List H)
      (h : H) (answer : Verdict) (h' : H)
      → AreCalledOn call step hs event answers hs' → IsCalledOn step (call h) event answer (call h')
      → AreCalledOn call step (hs ++ h ∷ []) event (answers ++ answer ∷ []) (hs' ++ h' ∷ [])
  called-more [] event [] [] h answer h' before now = (now, tt)
  called-more (k ∷ hs) event (a ∷ answers) (k' ∷ hs') h answer h' before now =
      (before.0, called-more hs event answers hs' h answer h' before.1 now)
  called-more [] event [] (k' ∷ hs') h answer h' before now = elim before [ ]
  called-more [] event (a ∷ answers) _ h answer h' before now = elim before [ ]
  called-more (k ∷ hs) event [] _ h answer h' before now = elim before [ ]
  called-more (k ∷ hs) event (a ∷ answers) [] h answer h' before now = elim before [ ]

  -- the first i hooks of a table were called on the event, and the others stand as they stood
  pub record AreCalledUpTo (i : ℕ) (old now : List H) (event : ChannelEvent) (said : Verdict) : Type 0 where
    pub answers : List Verdict
    pub called : AreCalledOn call step (take i old) event answers (take i now)
    pub joins : said ≡ verdict answers
    pub stand : drop i now ≡ drop i old

  -- none was called yet
  pub called-none : (hs : List H) (event : ChannelEvent) → AreCalledUpTo 0 hs hs event Continue
  called-none hs event = record { answers = []; called = tt; joins = refl; stand = refl }

  -- as many stand as stood
  as_long : (i : ℕ) (old now : List H) (event : ChannelEvent) (said : Verdict)
      → AreCalledUpTo i old now event said → length now - i ≡ length old - i
  as_long i old now event said upto = sym (length-drop i now) ∙ ap length upto.stand ∙ length-drop i old

  -- one more is called
  pub called-turn : (i : ℕ) (old now : List H) (event : ChannelEvent) (said : Verdict)
      (h : H) (answer : Verdict) (h' : H) (next : Verdict)
      → AreCalledUpTo i old now event said → i < length old → h ≡ get_or now i h
      → IsCalledOn step (call h) event answer (call h') → next ≡ joined said answer
      → AreCalledUpTo (i + 1) old (set now i h') event next
  called-turn i old now event said h answer h' next upto fits found called joins =
      let within : i < length now = omega (arith, as_long i old now event said upto, fits) in
      let seam : get_or now i h ∷ drop (i + 1) now ≡ get_or old i h ∷ drop (i + 1) old =
      sym (drop_more now i h within) ∙ upto.stand ∙ drop_more old i h fits in
      let stood : get_or old i h ≡ h = sym (ap (λ l. get_or l 0 h) seam) ∙ sym found in
      let olds : take i old ++ h ∷ [] ≡ take (i + 1) old =
      ap (λ x. take i old ++ x ∷ []) (sym stood) ∙ sym (take_more old i h fits) in
      let answers = upto.answers ++ answer ∷ [] in
      let more = called-more (take i old) event upto.answers (take i now) h answer h' upto.called called in
      let moved : AreCalledOn call step (take i old ++ h ∷ []) event answers (take (i + 1) (set now i h')) =
      subst (AreCalledOn call step (take i old ++ h ∷ []) event answers)
      (sym (take_more_set now i h' within)) more in
      record {
        answers = answers;
        called = subst (λ l. AreCalledOn call step l event answers (take (i + 1) (set now i h'))) olds moved;
        joins = joins ∙ ap (λ v. joined v answer) upto.joins ∙ verdict-more upto.answers answer;
        stand = drop-set-lt (i + 1) now i h' (omega arith) ∙ ap (drop 1) seam;
      }

  -- all were called
  pub called-all : (i : ℕ) (old now : List H) (event : ChannelEvent) (said : Verdict)
      → AreCalledUpTo i old now event said → length old ≤ i → Says call step old event said now
  called-all i old now event said upto past =
      let now_past : length now ≤ i = omega (arith, as_long i old now event said upto, past) in
      let nows : AreCalledOn call step (take i old) event upto.answers now =
      subst (AreCalledOn call step (take i old) event upto.answers) (take_all i now now_past) upto.called in
      record {
        answers = upto.answers;
        called = subst (λ l. AreCalledOn call step l event upto.answers now) (take_all i old past) nows;
        joins = upto.joins;
      }

  -- chains over one more event in front, and what is answered to it, and to the others
  record AreLonger (before : List H) (event : ChannelEvent) (events : List ChannelEvent)
      (answers : List Verdict) (rows : List (List Verdict)) (after : List H) : Type 0 where
    pub chains : AreChains call step before (event ∷ events) (in_front answers rows) after
    pub first : map first_answer (in_front answers rows) ≡ answers
    pub later : map later_answers (in_front answers rows) ≡ rows

  chains-longer : (before : List H) (event : ChannelEvent) (answers : List Verdict) (between : List H)
      (events : List ChannelEvent) (rows : List (List Verdict)) (after : List H)
      → AreCalledOn call step before event answers between → AreChains call step between events rows after
      → AreLonger before event events answers rows after
  chains-longer [] event [] [] events [] [] now rest = record { chains = tt; first = refl; later = refl }
  chains-longer (h ∷ before) event (answer ∷ answers) (k ∷ between) events (row ∷ rows) (h' ∷ after) now rest =
      let more = chains-longer before event answers between events rows after now.1 rest.1 in
      record {
        chains = ((call k, now.0, rest.0), more.chains);
        first = ap (λ l. answer ∷ l) more.first;
        later = ap (λ l. row ∷ l) more.later;
      }
  chains-longer [] event [] [] events [] (h' ∷ after) now rest = elim rest [ ]
  chains-longer [] event [] [] events (row ∷ rows) after now rest = elim rest [ ]
  chains-longer [] event [] (k ∷ between) events rows after now rest = elim now [ ]
  chains-longer [] event (answer ∷ answers) between events rows after now rest = elim now [ ]
  chains-longer (h ∷ before) event [] between events rows after now rest = elim now [ ]
  chains-longer (h ∷ before) event (answer ∷ answers) [] events rows after now rest = elim now [ ]
  chains-longer (h ∷ before) event (answer ∷ answers) (k ∷ between) events [] after now rest = elim rest [ ]
  chains-longer (h ∷ before) event (answer ∷ answers) (k ∷ between) events (row ∷ rows) [] now rest = elim rest [ ]

  -- no event: each hook's chain is empty
  abbrev no_answers : List H → List (List Verdict)
  no_answers [] = []
  no_answers (h ∷ hs) = [] ∷ no_answers hs

  chains-none : (hs : List H) → AreChains call step hs [] (no_answers hs) hs
  chains-none [] = tt
  chains-none (h ∷ hs) = (refl, chains-none hs)

  -- so much was said, and calls on the events that are left make calls on all of them
  pub record Leaves (old : List H) (events : List ChannelEvent) (said : List Verdict) (now : List H)
      (left : List ChannelEvent) : Type 0 where
    pub whole : (rows : List (List Verdict)) (after : List H) → AreChains call step now left rows after
        → SaysOfEach call step old events (said ++ verdicts left rows) after

  -- all events are left
  pub leaves-all : (old : List H) (events : List ChannelEvent) (said : List Verdict)
      → said ≡ [] → Leaves old events said old events
  leaves-all old events said none =
      let all : Leaves old events [] old events =
      record { whole = λ rows after chains. record { answers = rows; chains = chains; joins = refl } } in
      subst (λ s. Leaves old events s old events) (sym none) all

  -- none is left
  pub leaves-none : (old : List H) (events : List ChannelEvent) (i : ℕ) (said : List Verdict) (now : List H)
      → Leaves old events said now (drop i events) → length events ≤ i → SaysOfEach call step old events said now
  leaves-none old events i said now leaves past =
      let ended : Leaves old events said now [] =
      subst (Leaves old events said now) (drop_of_length-le events past) leaves in
      let all = ended.whole (no_answers now) now (chains-none now) in
      subst (λ v. SaysOfEach call step old events v now) (append-nil said) all

  -- the hooks are called on one more
  pub leaves-turn : (old : List H) (events : List ChannelEvent) (i : ℕ) (said : List Verdict) (now : List H)
      (event : ChannelEvent) (v : Verdict) (next : List H) (more_said : List Verdict)
      → Leaves old events said now (drop i events) → i < length events → event ≡ get_or events i event
      → Says call step now event v next → more_said ≡ said ++ v ∷ []
      → Leaves old events more_said next (drop (i + 1) events)
  leaves-turn old events i said now event v next more_said leaves within found says pushed =
      let left = drop (i + 1) events in
      let seam : drop i events ≡ event ∷ left = drop_more events i event within ∙ ap (λ e. e ∷ left) (sym found) in
      let front : Leaves old events said now (event ∷ left) = subst (Leaves old events said now) seam leaves in
      let one_more : Leaves old events (said ++ v ∷ []) next left = record {
        whole = λ rows after chains.
            let more = chains-longer now event says.answers next left rows after says.called chains in
            let all_rows = in_front says.answers rows in
            let same : said ++ verdicts (event ∷ left) all_rows ≡ (said ++ v ∷ []) ++ verdicts left rows =
            ap (λ a. said ++ (verdict a ∷ verdicts left (map later_answers all_rows))) more.first
            ∙ ap (λ r. said ++ (verdict says.answers ∷ verdicts left r)) more.later
            ∙ ap (λ w. said ++ (w ∷ verdicts left rows)) (sym says.joins)
            ∙ sym (append_assoc said (v ∷ []) (verdicts left rows)) in
            let all = front.whole all_rows after more.chains in
            subst (λ w. SaysOfEach call step old events w after) same all;
      } in
      subst (λ w. Leaves old events w next left) (sym pushed) one_more

-- hooks that are called by contracts of their own are called by those of what they keep, where these follow
module _ {H F : Type 0} (calls : H → ChannelEvent → Verdict → H → Type 0) (call : H → F)
    (step : F → Bor ChannelEvent → Verdict → F → Type 0) where
  -- so is each by its own contract
  abbrev Follows : Type 0
  Follows = (h : H) (event : ChannelEvent) (answer : Verdict) (h' : H) → calls h event answer h'
      → IsCalledOn step (call h) event answer (call h')

  called-same : (hs : List H) (event : ChannelEvent) (answers : List Verdict) (hs' : List H)
      → AreCalledOn (λ (h : H). h) (shown_to calls) hs event answers hs' → Follows
      → AreCalledOn call step hs event answers hs'
  called-same [] event [] [] k same = tt
  called-same (h ∷ hs) event (answer ∷ answers) (h' ∷ hs') k same = (
    same h event answer h' (subst (λ e. calls h e answer h') k.0.shows k.0.met),
    called-same hs event answers hs' k.1 same,
  )
  called-same [] event [] (h' ∷ hs') k same = elim k [ ]
  called-same [] event (answer ∷ answers) _ k same = elim k [ ]
  called-same (h ∷ hs) event [] _ k same = elim k [ ]
  called-same (h ∷ hs) event (answer ∷ answers) [] k same = elim k [ ]

  pub says-same : (hs : List H) (event : ChannelEvent) (said : Verdict) (hs' : List H)
      → Says (λ (h : H). h) (shown_to calls) hs event said hs' → Follows → Says call step hs event said hs'
  says-same hs event said hs' k same = record {
    answers = k.answers;
    called = called-same hs event k.answers hs' k.called same;
    joins = k.joins;
  }
