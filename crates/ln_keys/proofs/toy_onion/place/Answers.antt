use Rattle.std.proofs.Common.{◌≡◌, ◌+◌, ◌++◌, length, take, drop, ap, sym, ◌∙◌, arith, length-append}
use Rattle.std.proofs.lemmas.List.{take_at}
use Rattle.ln_bytes.specs.Bigsize.{bigsize}
use Rattle.ln_keys.proofs.Packets.{written, written_twice}
use Rattle.ln_keys.proofs.toy_onion.place.Goals as goal

pub returns-clause-bytes : goal.returns-clause-bytes
returns-clause-bytes c =
    let at = c.args.at in
    let room = c.args.room.now in
    let payload = c.args.payload.now in
    let head = bigsize (length payload) in
    let len = c.write_bigsize-head_len.result in
    let len_is = c.write_bigsize-head_len.ensures.counts_its_bytes in
    let head_is : take len c.write_bigsize-head_len.new.out ≡ head =
    ap (take len) c.write_bigsize-head_len.ensures.writes_the_spelling ∙ take_at head _ len (sym len_is) in
    let first : c.put.new.room ≡ written at head room = c.put.ensures ∙ ap (λ h. written at h room) head_is in
    let end : at + length (head ++ payload) ≡ at + len + length payload =
    omega (arith, length-append head payload, len_is) in
    c.put-2.ensures ∙ ap (λ r. written (at + len) payload r) first
    ∙ ap (λ n. written (at + n) payload (written at head room)) len_is
    ∙ written_twice at head payload room (omega (arith, c.requires, c.told-room))
    ∙ ap (λ n. take at room ++ (head ++ payload) ++ drop n room) end
