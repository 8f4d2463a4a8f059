use Rattle.std.proofs.Common.{◌≡◌, ◌+◌, ◌-◌, ◌<◌, ◌++◌, length, slice_range, take, drop, ap, ◌∙◌, arith}
use Rattle.std.proofs.lemmas.Bool.Decides.{nat_tests}
use Rattle.std.proofs.lemmas.List.{append-nil, with_items_is, length-take, length-drop}
use borrow.Rule.Slice.PartMut.{put_mid, same_len_mid}
use Rattle.std.specs.Vec.{with_items}
use Rattle.ln_msgs.proofs.Windows.{grown, kept, Keeps-read, Keeps-held}
use Rattle.ln_msgs.proofs.pings.window.Window.fill.Goals as goal

pub returns-in-Ok-clause-loses_no_byte : goal.returns-in-Ok-clause-loses_no_byte
returns-in-Ok-clause-loses_no_byte g c =
    let w = c.self.inside in
    let moved = c.make_room-start in
    let start = moved.result.0 in
    let end = moved.result.1 in
    let xs = moved.new.buffer in
    let ys = c.read-result.new.buffer in
    let n = c.in-Ok.count in
    let same : slice_range xs start end ≡ c.args.self.now = moved.ensures.holds_the_same_bytes
    ∙ ap (λ l. slice_range l w.start w.end) c.as_mut_slice-buffer.ensures.value ∙ c.self.view_is in
    let whole : (with_items w.buffer (put_mid end (length xs - end) xs ys)).items
    ≡ put_mid end (length xs - end) xs ys = with_items_is w.buffer _
    (same_len_mid end (length xs - end) xs ys c.read-result.auto.buffer ∙ moved.auto.buffer
    ∙ c.as_mut_slice-buffer.ensures.len) in
    let grew = grown xs ys start end (length xs - end) n moved.ensures.start_before_end
    moved.ensures.end_within_the_buffer c.in-Ok.ensures.bound.0 in
    Keeps-read _ _ c.args.self.now (take n ys) _ (ap (λ l. slice_range l start (end + n)) whole ∙ grew
    ∙ ap (λ l. l ++ take n ys) same) c.in-Ok.ensures.bytes.0

pub returns-in-Ok-clause-false_is_the_end : goal.returns-in-Ok-clause-false_is_the_end
returns-in-Ok-clause-false_is_the_end g c e =
    let w = c.self.inside in
    let moved = c.make_room-start in
    let start = moved.result.0 in
    let end = moved.result.1 in
    let xs = moved.new.buffer in
    let ys = c.read-result.new.buffer in
    let n = c.in-Ok.count in
    let none : n ≡ 0 = grind (arith, nat_tests) in
    let same : slice_range xs start end ≡ c.args.self.now = moved.ensures.holds_the_same_bytes
    ∙ ap (λ l. slice_range l w.start w.end) c.as_mut_slice-buffer.ensures.value ∙ c.self.view_is in
    let whole : (with_items w.buffer (put_mid end (length xs - end) xs ys)).items
    ≡ put_mid end (length xs - end) xs ys = with_items_is w.buffer _
    (same_len_mid end (length xs - end) xs ys c.read-result.auto.buffer ∙ moved.auto.buffer
    ∙ c.as_mut_slice-buffer.ensures.len) in
    let grew = grown xs ys start end (length xs - end) n moved.ensures.start_before_end
    moved.ensures.end_within_the_buffer c.in-Ok.ensures.bound.0 in
    let held : w.end - w.start < length c.as_mut_slice-buffer.result.now =
    omega (
      arith,
      ap length c.self.view_is,
      length-take (w.end - w.start) (drop w.start w.buffer.items),
      length-drop w.start w.buffer.items,
      w.buffer.ok.0,
    ) in
    let behind : end < length xs = moved.ensures.makes_room held in
    let room : 0 < length ys = omega (
      arith,
      c.read-result.auto.buffer,
      length-take (length xs - end) (drop end xs),
      length-drop end xs,
    ) in (
      ap (λ l. slice_range l start (end + n)) whole ∙ grew ∙ ap (λ k. slice_range xs start end ++ take k ys) none
          ∙ append-nil _ ∙ same,
      c.in-Ok.ensures.bytes.1 none room,
    )

pub returns-in-Err-clause-loses_no_byte : goal.returns-in-Err-clause-loses_no_byte
returns-in-Err-clause-loses_no_byte g c =
    let w = c.self.inside in
    let moved = c.make_room-start in
    let start = moved.result.0 in
    let end = moved.result.1 in
    let xs = moved.new.buffer in
    let ys = c.read-result.new.buffer in
    let same : slice_range xs start end ≡ c.args.self.now = moved.ensures.holds_the_same_bytes
    ∙ ap (λ l. slice_range l w.start w.end) c.as_mut_slice-buffer.ensures.value ∙ c.self.view_is in
    let whole : (with_items w.buffer (put_mid end (length xs - end) xs ys)).items
    ≡ put_mid end (length xs - end) xs ys = with_items_is w.buffer _
    (same_len_mid end (length xs - end) xs ys c.read-result.auto.buffer ∙ moved.auto.buffer
    ∙ c.as_mut_slice-buffer.ensures.len) in
    Keeps-held _ _ c.args.self.now _ (ap (λ l. slice_range l start end) whole
    ∙ kept xs ys start end (length xs - end) moved.ensures.start_before_end moved.ensures.end_within_the_buffer
    ∙ same) c.in-Err.ensures.bytes
