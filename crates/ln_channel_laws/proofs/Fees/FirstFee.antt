-- At every step, a funder that has met its peer, and at which closing has begun, has sent a fee.
use Rattle.std.proofs.Common.{◌≡◌, ℕ, [], ◌∷◌, ◌++◌, length, refl, sym, ◌∙◌, arith}
use Rattle.std.proofs.Common.{Bool, true, false, cond, ◌&&◌, ◌==◌, Option, Some, None, is_some, is_none}
use Rattle.std.proofs.Common.{eqb-true}
use Rattle.std.proofs.lemmas.List.{length_push}
use Rattle.ln_log.specs.Log.{Log, covered, live_in}
use Rattle.ln_close.specs.Closing.{is_funder, may_start}
use Rattle.ln_channel.specs.declared.machine.ConnectionState.{ConnectionState}
use Rattle.ln_channel.specs.End.{End, has_begun, is_settled, all_acknowledged, answers_shutdown, settled}
use Rattle.ln_channel.specs.Commands.{proposes}
use Rattle.ln_channel_laws.proofs.Ends.OnceMet.{IsGiven, WhenMet}
use Rattle.ln_channel_laws.proofs.Tests.{and_left, and_right}

-- a funder at which closing has begun has sent one
abbrev pub Bids : End → Type 0
Bids e = is_funder e.closing.role ≡ true → has_begun e ≡ true → is_some e.closing.own_fee ≡ true

-- ---- the end of a turn

by_tests : (f s p n : Bool) → (f && (s && (p && n))) ≡ false → f ≡ true → s ≡ true → p ≡ true → n ≡ false
by_tests true true true n e x y z = e
by_tests true true false n e x y z = absurd (cc)
by_tests true false p n e x y z = absurd (cc)
by_tests false s p n e x y z = absurd (cc)

some_so : (o : Option ℕ) → is_none o ≡ false → is_some o ≡ true
some_so None e = absurd (cc)
some_so (Some n) e = refl

starts_so : (m : Bool) (e : End) → may_start e.closing ≡ m
    → Bids (record e { closing = cond m (record e.closing { own_fee = Some e.closing.fees.first }) e.closing })
starts_so true e is = λ x y. refl
starts_so false e is = λ x y.
    let c = e.closing in
    let rest : (c.peer_shut && is_settled e.dance.log) ≡ true =
    and_right c.shut (c.peer_shut && is_settled e.dance.log) y in
    some_so c.own_fee (by_tests (is_funder c.role) c.shut c.peer_shut (is_none c.own_fee) is x
    (and_left c.shut (c.peer_shut && is_settled e.dance.log) y) (and_left c.peer_shut (is_settled e.dance.log) rest))

begins_so : (b : Bool) (e : End) → has_begun e ≡ b → Bids (cond b (record e {
  closing = cond (may_start e.closing) (record e.closing { own_fee = Some e.closing.fees.first })
      e.closing;
}) e)
begins_so true e is = starts_so (may_start e.closing) e refl
begins_so false e is = λ x y. absurd (let no : true ≡ false = sym y ∙ is in cc)

settled_so : (e : End) → Bids (settled e)
settled_so e = let n = answers_shutdown e in begins_so (has_begun n) n refl

-- all own updates are acknowledged, where nothing is left to settle
all_of : (l : Log) → is_settled l ≡ true → all_acknowledged l ≡ true
all_of l e = first_of (all_acknowledged l) (l.current.own == length l.own) (l.current.peer == length l.received)
    (l.acknowledged.peer == length l.received) (live_in (covered l l.current) == 0) e
  where
    first_of : (a b c d f : Bool) → (a && b && c && d && f) ≡ true → a ≡ true
    first_of true b c d f h = refl
    first_of false b c d f h = absurd (cc)

-- an update that was just proposed isn't acknowledged
pub given : IsGiven Bids
given = record {
  by_turn = settled_so;
  by_update = λ u e w x y. absurd (let l = e.dance.log in
      let log = (proposes u e).dance.log in
      let c = e.closing in
      let rest = and_right c.shut (c.peer_shut && is_settled log) y in
      let acked = all_of log (and_right c.peer_shut (is_settled log) rest) in
      let same : l.acknowledged.own ≡ length (l.own ++ u ∷ []) =
      eqb-true l.acknowledged.own (length (l.own ++ u ∷ [])) acked in
      omega (arith, same, length_push l.own u, w.own_acknowledged, w.own_signed));
  by_confirm = λ id e h. h;
  by_signature = λ e h. h;
  by_note = λ l e h. h;
  by_save = λ e h. h;
}

-- before closing has begun
pub not_begun : (l : ConnectionState) (e : End) → e.closing.peer_shut ≡ false → WhenMet Bids l e
not_begun l e none = λ met x y.
    let c = e.closing in
    let rest = and_right c.shut (c.peer_shut && is_settled e.dance.log) y in
    absurd (let no : true ≡ false = sym (and_left c.peer_shut (is_settled e.dance.log) rest) ∙ none in cc)
