use Rattle.std.proofs.Common.{◌≡◌, ◌∙◌, ap, sym, arith, true, false, cond, ◌++◌, ◌∷◌, []}
use Rattle.std.specs.List.{position, list_any}
use Rattle.ln_book_tables.specs.declared.htlc.Key.{Key}
use Rattle.ln_book_tables.specs.declared.htlc.Htlc.{Htlc}
use Rattle.ln_book_tables.specs.Replay.{is_decided, is_htlc, left_out, htlc_of, with_offer}
use Rattle.ln_book_tables.specs.Slots.{in_slots, passes}
use Rattle.ln_book_tables.proofs.InSlots.{any_there, in_pushed}
use Rattle.ln_book_tables.proofs.Filled.{held_at_most}
use Rattle.ln_book_tables.proofs.indexed.join_reserved.Goals as goal

pub push-requires-clause-key_room : goal.push-requires-clause-key_room
push-requires-clause-key_room c =
    omega (
      arith,
      c.leave_out.ensures.key_room,
      c.requires.key_room,
      held_at_most c.args.slots.now.items,
      c.args.slots.now.ok.0,
    )

pub returns-then-is_some-clause-joined : goal.returns-then-is_some-clause-joined
returns-then-is_some-clause-joined c =
    let d = c.args.decided.now in
    let o = c.in-Some.offer in
    let hs = in_slots c.args.slots.now.items in
    let key : Key = record { channel = d.channel; id = o.id } in
    let there : list_any (is_decided key) hs ≡ true =
    any_there (is_decided key) c.args.slots.now.items c.place_of.result
    (ap (position (passes (is_decided key))) (sym c.as_slice.ensures.value) ∙ sym c.place_of.ensures)
    ∙ sym c.is_some.ensures ∙ c.if-is_some.true in
    sym (ap (λ m. with_offer d m hs) c.in-Some.is
    ∙ ap (λ b. cond b hs (left_out (is_htlc key) hs ++ htlc_of d o ∷ [])) there)

pub returns-clause-joined : goal.returns-clause-joined
returns-clause-joined c =
    let d = c.args.decided.now in
    let o = c.in-Some.offer in
    let hs = in_slots c.args.slots.now.items in
    let key : Key = record { channel = d.channel; id = o.id } in
    let there : list_any (is_decided key) hs ≡ false =
    any_there (is_decided key) c.args.slots.now.items c.place_of.result
    (ap (position (passes (is_decided key))) (sym c.as_slice.ensures.value) ∙ sym c.place_of.ensures)
    ∙ sym c.is_some.ensures ∙ c.if-is_some.false in
    let htlc : Htlc = record (htlc_of d o) { mark = c.args.mark } in
    ap in_slots c.push.ensures.pushed
    ∙ in_pushed c.leave_out.new.slots.items htlc
    ∙ ap (λ gs. gs ++ htlc ∷ []) c.leave_out.ensures.left
    ∙ ap (λ m. left_out (is_htlc key) hs ++ (let h : Htlc = record (htlc_of d o) { mark = m } in h) ∷ [])
    c.requires.same
    ∙ sym (ap (λ m. with_offer d m hs) c.in-Some.is
    ∙ ap (λ b. cond b hs (left_out (is_htlc key) hs ++ htlc_of d o ∷ [])) there)
