use Rattle.std.proofs.Common.{◌≡◌, ◌+◌, ◌++◌, ◌<◌, ℕ, List, None, length, take, get_or, ap, sym, ◌∙◌, rules, arith}
use Rattle.std.proofs.Common.{length-append}
use Rattle.std.proofs.lemmas.List.Folds.{length-flat_map-take}
use Rattle.ln_keys.specs.ToyOnion.{filled, with_length, payload_bytes, toy_made}
use Rattle.ln_keys.proofs.Joined.{flat_map_more}
use Rattle.ln_keys.proofs.Packets.{placed}
use Rattle.ln_keys.proofs.toy_onion.ToyOnion.make.Goals as goal

-- too many bytes are no packet
none_made : (ps : List (List ℕ)) (hash : List ℕ) → 1300 < length (payload_bytes ps) → None ≡ toy_made ps hash
none_made ps hash many = search (rules, arith)

pub returns-in_default : goal.returns-in_default
returns-in_default c =
    let ps = c.args.payloads.now in
    let i = c.loop-payload.payload-index in
    let p = c.as_slice.result.now in
    let item : p ≡ get_or ps i c.payload-item.result = c.as_slice.ensures ∙ c.payload-item.is in
    none_made ps c.args.hash.now (omega (
      arith,
      c.in_default.ensures.is_beyond_the_packet,
      c.loop-payload.invariant.0,
      ap (λ q. length (with_length q)) item,
      length-flat_map-take with_length ps i c.payload-item.result
          c.loop-payload-test.true,
    ))

pub loop-payload-preserved : goal.loop-payload-preserved
loop-payload-preserved c =
    let ps = c.args.payloads.now in
    let i = c.loop-payload.payload-index in
    let p = c.as_slice.result.now in
    let done = payload_bytes (take i ps) in
    let item : p ≡ get_or ps i c.payload-item.result = c.as_slice.ensures ∙ c.payload-item.is in
    let more : payload_bytes (take (i + 1) ps) ≡ done ++ with_length p =
    flat_map_more with_length ps i c.payload-item.result c.loop-payload-test.true
    ∙ ap (λ q. done ++ with_length q) (sym item) in
    let end = c.in-Some.ensures.ends_within_the_packet in
    let len : c.in-Some.end ≡ length (done ++ with_length p) =
    omega (arith, end.0, c.loop-payload.invariant.0, length-append done (with_length p)) in (
      len ∙ ap length (sym more),
      end.1,
      placed done (with_length p) c.loop-payload.room c.place.new.room
          c.loop-payload.at c.in-Some.end c.loop-payload.invariant.0 c.loop-payload.invariant.2 end.0 end.1
          c.in-Some.ensures.bytes ∙ ap filled (sym more),
    )
