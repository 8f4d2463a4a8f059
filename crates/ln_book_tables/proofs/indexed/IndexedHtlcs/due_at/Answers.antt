use Rattle.std.proofs.Common.{◌≡◌, ◌∙◌, ◌<◌, ap, sym, arith, length, get_or, Some}
use Rattle.std.specs.Vec.{vec_len}
use Rattle.ln_book_tables.specs.Due.{is_due, due_htlcs}
use Rattle.ln_book_tables.specs.Places.{places_of}
use Rattle.ln_book_tables.specs.Slots.{in_slots, passes}
use Rattle.ln_book_tables.proofs.Passing.{within}
use Rattle.ln_book_tables.proofs.InSlots.{as_many_in, passing_in, not_empty}
use Rattle.ln_book_tables.proofs.indexed.IndexedHtlcs.due_at.Goals as goal

pub index-requires : goal.index-requires
index-requires c =
    let same : vec_len c.self.inside.indices.due ≡ length (due_htlcs c.args.self.now) =
    c.self.inside.indices.due.ok.0 ∙ ap length c.self.invariant.indexed.due
    ∙ as_many_in is_due c.self.inside.slots.items ∙ ap (λ hs. length (due_htlcs hs)) c.self.view_is in
    omega (arith, c.requires, same)

pub index-requires-2 : goal.index-requires-2
index-requires-2 c =
    let ss = c.self.inside.slots.items in
    let same : length (places_of (passes is_due) ss) ≡ length (due_htlcs c.args.self.now) =
    as_many_in is_due ss ∙ ap (λ hs. length (due_htlcs hs)) c.self.view_is in
    let place : c.index.result.now ≡ get_or (places_of (passes is_due) ss) c.args.index c.index.result.now =
    c.index.ensures ∙ ap (λ ps. get_or ps c.args.index c.index.result.now) c.self.invariant.indexed.due in
    omega (
      arith,
      place,
      c.self.inside.slots.ok.0,
      within (passes is_due) ss c.args.index c.index.result.now (omega (arith, c.requires, same)),
    )

pub unreachable-requires : goal.unreachable-requires
unreachable-requires c =
    let ss = c.self.inside.slots.items in
    let place : c.index.result.now ≡ get_or (places_of (passes is_due) ss) c.args.index c.index.result.now =
    c.index.ensures ∙ ap (λ ps. get_or ps c.args.index c.index.result.now) c.self.invariant.indexed.due in
    let within_due : c.args.index < length (due_htlcs (in_slots ss)) =
    omega (arith, c.requires, ap (λ hs. length (due_htlcs hs)) c.self.view_is) in
    not_empty is_due ss c.args.index c.index.result.now c.index-2.result.now within_due
    (ap (λ k. get_or ss k c.index-2.result.now) (sym place) ∙ sym c.index-2.ensures ∙ c.in-None.is)

pub returns : goal.returns
returns c =
    let ss = c.self.inside.slots.items in
    let htlc = c.in-Some.htlc in
    let place : c.index.result.now ≡ get_or (places_of (passes is_due) ss) c.args.index c.index.result.now =
    c.index.ensures ∙ ap (λ ps. get_or ps c.args.index c.index.result.now) c.self.invariant.indexed.due in
    let within_due : c.args.index < length (due_htlcs (in_slots ss)) =
    omega (arith, c.requires, ap (λ hs. length (due_htlcs hs)) c.self.view_is) in
    let same : Some htlc ≡ Some (get_or (due_htlcs (in_slots ss)) c.args.index htlc) =
    sym c.in-Some.is ∙ c.index-2.ensures ∙ ap (λ k. get_or ss k c.index-2.result.now) place
    ∙ passing_in is_due ss c.args.index c.index.result.now c.index-2.result.now htlc within_due in
    let is : htlc ≡ get_or (due_htlcs (in_slots ss)) c.args.index htlc = cc in
    is ∙ ap (λ hs. get_or (due_htlcs hs) c.args.index htlc) c.self.view_is
