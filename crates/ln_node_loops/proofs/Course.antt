-- Every event that is told is put, once.
use Rattle.std.proofs.Common.{◌≡◌, ◌++◌, ◌∷◌, [], ℕ, suc, zero, map, List, Option, Some, None, Bool, true, false}
use Rattle.std.proofs.Common.{refl, sym, ap, ◌∙◌, subst, arith, cond, ◌≤◌, ◌<◌, ◌+◌, ◌-◌, nat_lt, ltb-true, ltb-false}
use Rattle.std.proofs.Common.{Result}
use Rattle.ln_hooks.specs.declared.event.ChannelEvent.{ChannelEvent}
use Rattle.ln_msgs.specs.declared.messages.message.Message.{Message}
use Rattle.ln_refusals.specs.declared.refusal.Refusal.{Refusal}
use Rattle.ln_channel.specs.declared.output.Output.{Output}
use Rattle.ln_book.specs.declared.switch.saying.Saying.{Saying}
use Rattle.ln_book.specs.Seen.{Seen}
use Rattle.ln_node_loops.specs.declared.features.PeerFeatures.{PeerFeatures}
use Rattle.ln_node_loops.specs.declared.task.Task.{Task}
use Rattle.ln_node_loops.specs.declared.task.Task.TheVariants as task
use Rattle.ln_node_loops.specs.Act.{Act}
use Rattle.ln_node_loops.specs.Turns.{fresh, last_of, Turn, Stand, told, News, told_in, tasks, tasks_of, AreEvents}
use Rattle.ln_node_loops.specs.Turns.{Leads}
use Rattle.ln_node_loops.specs.Course.{segment, next_of, reached, Tells}
use Rattle.ln_node_loops.proofs.Running.{fresh-append}

put-by : (event : ℕ → ChannelEvent) (b : Bool) (last n count : ℕ) → nat_lt last n ≡ b → n ≤ last + 1
    → fresh (Some n) (segment event count (n + 1)) ≡ segment event count (n + 1)
    → (n + 1 ≤ last + 1
    → fresh (Some last) (segment event count (n + 1)) ≡ segment event ((n + 1) + count - (last + 1)) (last + 1))
    → cond b ((n, event n) ∷ fresh (Some n) (segment event count (n + 1)))
    (fresh (Some last) (segment event count (n + 1)))
    ≡ segment event (n + suc count - (last + 1)) (last + 1)
put-by event true last n count above near new old =
    let over : last < n = ltb-true last n above in
    let at : n ≡ last + 1 = omega arith in
    let many : n + suc count - (last + 1) ≡ suc count = omega arith in
    ap (λ l. (n, event n) ∷ l) new ∙ ap (λ k. segment event (suc count) k) at
    ∙ ap (λ k. segment event k (last + 1)) (sym many)
put-by event false last n count above near new old =
    let within : n ≤ last = ltb-false last n above in
    let many : (n + 1) + count - (last + 1) ≡ n + suc count - (last + 1) = omega arith in
    old (omega arith) ∙ ap (λ k. segment event k (last + 1)) many

pub put-on : (event : ℕ → ChannelEvent) (count last n : ℕ) → n ≤ last + 1
    → fresh (Some last) (segment event count n) ≡ segment event (n + count - (last + 1)) (last + 1)
put-on event zero last n near =
    let none : n + 0 - (last + 1) ≡ 0 = omega arith in
    ap (λ k. segment event k (last + 1)) (sym none)
put-on event (suc count) last n near =
    let same : (n + 1) + count - (n + 1) ≡ count = omega arith in
    put-by event (nat_lt last n) last n count refl near
    (put-on event count n (n + 1) (omega arith) ∙ ap (λ k. segment event k (n + 1)) same)
    (λ within. put-on event count last (n + 1) within)

-- ---- the last number

record Ends (event : ℕ → ChannelEvent) (count last n : ℕ) : Type 0 where
  pub at : ℕ
  pub ends : last_of (Some last) (segment event count n) ≡ Some at
  pub behind : at + 1 ≡ reached (last + 1) (n + count)

end-by : (event : ℕ → ChannelEvent) (b : Bool) (last n count : ℕ) → nat_lt last n ≡ b → n ≤ last + 1
    → Ends event count n (n + 1) → (n + 1 ≤ last + 1 → Ends event count last (n + 1))
    → (at : ℕ) × (cond b (last_of (Some n) (segment event count (n + 1)))
    (last_of (Some last) (segment event count (n + 1))) ≡ Some at) × (at + 1 ≡ reached (last + 1) (n + suc count))
end-by event true last n count above near new old =
    let over : last < n = ltb-true last n above in
    (new.at, new.ends, new.behind ∙ omega arith)
end-by event false last n count above near new old =
    let within : n ≤ last = ltb-false last n above in
    let e = old (omega arith) in
    (e.at, e.ends, e.behind ∙ omega arith)

ends-on : (event : ℕ → ChannelEvent) (count last n : ℕ) → n ≤ last + 1 → Ends event count last n
ends-on event zero last n near = record { at = last; ends = refl; behind = omega arith }
ends-on event (suc count) last n near =
    let e = end-by event (nat_lt last n) last n count refl near (ends-on event count n (n + 1) (omega arith))
    (λ within. ends-on event count last (n + 1) within) in
    record { at = e.0; ends = e.1; behind = e.2 }

-- ---- a segment, whatever was put

record Goes (event : ℕ → ChannelEvent) (first : ℕ) (last : Option ℕ) (count from : ℕ) : Type 0 where
  pub put : fresh last (segment event count from)
      ≡ segment event (reached (next_of first last) (from + count) - next_of first last) (next_of first last)
  pub next : next_of first (last_of last (segment event count from)) ≡ reached (next_of first last) (from + count)

goes : (event : ℕ → ChannelEvent) (first : ℕ) (last : Option ℕ) (count from : ℕ) → first ≤ from
    → from ≤ next_of first last → Goes event first last count from
goes event first None zero from low high =
    let at : from ≡ first = omega arith in
    let k : zero ≡ reached first (from + zero) - first = omega arith in
    let n : first ≡ reached first (from + zero) = omega arith in
    record { put = ap (λ k. segment event k first) k; next = n }
goes event first None (suc count) from low high =
    let at : from ≡ first = omega arith in
    let e = ends-on event count from (from + 1) (omega arith) in
    let k1 : (from + 1) + count - (from + 1) ≡ count = omega arith in
    let k3 : reached (from + 1) ((from + 1) + count) ≡ reached first (from + suc count) = omega arith in
    let k2 : suc count ≡ reached first (from + suc count) - first = omega arith in
    record {
      put = ap (λ l. (from, event from) ∷ l) (put-on event count from (from + 1) (omega arith)
          ∙ ap (λ k. segment event k (from + 1)) k1) ∙ ap (λ n. segment event (suc count) n) at
          ∙ ap (λ k. segment event k first) k2;
      next = ap (next_of first) e.ends ∙ e.behind ∙ k3;
    }
goes event first (Some last) count from low high =
    let e = ends-on event count last from high in
    let k : from + count - (last + 1) ≡ reached (last + 1) (from + count) - (last + 1) = omega arith in
    record {
      put = put-on event count last from high ∙ ap (λ k. segment event k (last + 1)) k;
      next = ap (next_of first) e.ends ∙ e.behind;
    }

-- ---- segments one after the other

segments-join : (event : ℕ → ChannelEvent) (j k n : ℕ)
    → segment event j n ++ segment event k (n + j) ≡ segment event (j + k) n
segments-join event zero k n =
    let at : n + 0 ≡ n = omega arith in
    let many : k ≡ 0 + k = omega arith in
    ap (segment event k) at ∙ ap (λ m. segment event m n) many
segments-join event (suc j) k n =
    let at : n + suc j ≡ (n + 1) + j = omega arith in
    let many : suc j + k ≡ suc (j + k) = omega arith in
    ap (λ m. (n, event n) ∷ segment event j (n + 1) ++ segment event k m) at
    ∙ ap (λ l. (n, event n) ∷ l) (segments-join event j k (n + 1))
    ∙ ap (λ m. segment event m n) (sym many)

tells-on : (event : ℕ → ChannelEvent) (first next : ℕ) (ts : List (List (ℕ × ChannelEvent))) (end : ℕ)
    → Tells event first next ts end → next ≤ end
tells-on event first next [] end same = omega (arith, same)
tells-on event first next (t ∷ ts) end tells =
    let on = tells-on event first (reached next (tells.1 + tells.0)) ts end tells.5 in omega (arith, on)

-- all of these lists, one after the other
abbrev pub joined : List (List (ℕ × ChannelEvent)) → List (ℕ × ChannelEvent)
joined [] = []
joined (es ∷ more) = es ++ joined more

-- all that was told is put, once
pub all-put : (event : ℕ → ChannelEvent) (first : ℕ) (last : Option ℕ) (next : ℕ)
    (ts : List (List (ℕ × ChannelEvent))) (end : ℕ)
    → next ≡ next_of first last → Tells event first next ts end
    → fresh last (joined ts) ≡ segment event (end - next) next
all-put event first last next [] end at same =
    let none : zero ≡ end - next = omega (arith, same) in ap (λ k. segment event k next) none
all-put event first last next (t ∷ ts) end at tells =
    let count = tells.0 in
    let from = tells.1 in
    let behind = reached next (from + count) in
    let g = goes event first last count from tells.3 (subst (λ n. from ≤ n) at tells.4) in
    let put = ap (λ l. fresh last l) tells.2 ∙ g.put
    ∙ ap (λ n. segment event (reached n (from + count) - n) n) (sym at) in
    let last' = ap (λ l. next_of first (last_of last l)) tells.2 ∙ g.next
    ∙ ap (λ n. reached n (from + count)) (sym at) in
    let on = all-put event first (last_of last t) behind ts end (sym last') tells.5 in
    let far = tells-on event first behind ts end tells.5 in
    let at' : behind ≡ next + (behind - next) = omega arith in
    let many : (behind - next) + (end - behind) ≡ end - next = omega (arith, far) in
    fresh-append last t (joined ts) ∙ ap (λ l. l ++ fresh (last_of last t) (joined ts)) put
    ∙ ap (λ l. segment event (behind - next) next ++ l) (on ∙ ap (λ n. segment event (end - behind) n) at')
    ∙ segments-join event (behind - next) (end - behind) next ∙ ap (λ k. segment event k next) many

-- what turns tell of is that of one after the other
pub told-joined : {S W : Type 0} (acts : S → Act → Result (List Output) Refusal → S → Type 0) (halted : S → Bool)
    (pending : S → List (ℕ × ChannelEvent)) (owes : S → Bool) (seen : S → Option Seen) (contents : W → Option (List ℕ))
    (own_init : Message) (peer : PeerFeatures) (b : Bool) (s : Stand S) (ts : List (Turn W)) (ws : List Saying)
    (ns : List News) (s' : Stand S) → Leads acts halted pending owes seen contents own_init peer b s ts ws ns s'
    → told_in ns ≡ joined (map told ts)
told-joined acts halted pending owes seen contents own_init peer b s [] ws ns s' l = ap told_in l.2
told-joined acts halted pending owes seen contents own_init peer b s (t ∷ ts) ws ns s' l =
    ap told_in l.6
    ∙ ap (λ es. told t ++ es)
    (told-joined acts halted pending owes seen contents own_init peer _ l.0 ts l.1 l.2 s' l.7)

-- ---- the tasks of events

tasks-are : (H : Type 0) (c : Option (List ℕ)) (es : List (ℕ × ChannelEvent)) → AreEvents (tasks {H = H} c es) es
tasks-are H c [] = refl
tasks-are H c ((n, e) ∷ es) = (es, refl, tasks-are H c es)

are-append : {H : Type 0} (ts us : List (Task H)) (es fs : List (ℕ × ChannelEvent)) → AreEvents ts es → AreEvents us fs
    → AreEvents (ts ++ us) (es ++ fs)
are-append [] us es fs one two = subst (λ l. AreEvents us (l ++ fs)) (sym one) two
are-append (task.Event c n e ∷ ts) us es fs one two =
    (one.0 ++ fs, ap (λ l. l ++ fs) one.1, are-append ts us one.0 fs one.2 two)
are-append (task.Register h ∷ ts) us es fs one two = elim one [ ]
are-append (task.Stop ∷ ts) us es fs one two = elim one [ ]

pub news-are : (H : Type 0) (last : Option ℕ) (ns : List News)
    → AreEvents (tasks_of {H = H} last ns) (fresh last (told_in ns))
news-are H last [] = refl
news-are H last ((c, es, rs, qs) ∷ ns) =
    subst (AreEvents (tasks_of {H = H} last ((c, es, rs, qs) ∷ ns))) (sym (fresh-append last es (told_in ns)))
    (are-append (tasks c (fresh last es)) (tasks_of (last_of last es) ns) (fresh last es)
    (fresh (last_of last es) (told_in ns)) (tasks-are H c (fresh last es)) (news-are H (last_of last es) ns))
