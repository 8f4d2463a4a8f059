use Rattle.std.proofs.lemmas.Result.{on_ok_weaker}
use Rattle.std.proofs.Common.{ℕ, List, ◌∙◌, ◌++◌, ap}
use Rattle.byteorder.specs.Endian.{big_bytes}
use Rattle.ln_store.specs.Format.{fixed, number, optional, list}
use Rattle.ln_store.specs.Items.{numbers}
use Rattle.ln_wire.specs.Forms.{bit}
use Rattle.ln_wire.specs.Summary.{connection_form, status_form, lost_data_form, summary}
use Rattle.ln_wire.proofs.Appends.{eleven_follow}
use Rattle.ln_wire.proofs.summary.LinkSummaryWire.write.Goals as goal

pub returns-clause-appends_the_value : goal.returns-clause-appends_the_value
unfolding summary
returns-clause-appends_the_value c =
    let s = c.args.self.now in
    on_ok_weaker c.put_list.result (λ e.
    eleven_follow c.args.out.now.items c.put_connection.new.out.items c.put_bit.new.out.items
    c.put_optional.new.out.items c.write.new.out.items c.put_lost_data.new.out.items c.write-2.new.out.items
    c.put_u64.new.out.items
    c.put_u64-2.new.out.items c.put_u64-3.new.out.items c.put_u64-4.new.out.items c.put_list.new.out.items
    (connection_form.bytes s.connection) (bit.bytes s.halted) ((optional (fixed 32)).bytes s.channel)
    (status_form.bytes s.status) (lost_data_form.bytes s.lost_data) (numbers.bytes s.numbers)
    (big_bytes 8 s.own_msat) (big_bytes 8 s.peer_msat) (big_bytes 8 s.live_htlcs)
    (big_bytes 8 s.next_own_htlc_id) ((list (number 8)).bytes s.removed_htlc_ids)
    c.in_ok-put_connection.ensures.appends_it c.in_ok-put_bit.ensures.appends_it
    c.in_ok-put_optional.ensures.appends_it c.in_ok-write.ensures.appends_the_value
    c.in_ok-put_lost_data.ensures.appends_it
    c.in_ok-write-2.ensures.appends_the_value c.in_ok-put_u64.ensures.appends_it
    c.in_ok-put_u64-2.ensures.appends_it c.in_ok-put_u64-3.ensures.appends_it c.in_ok-put_u64-4.ensures.appends_it
    (e ∙ ap (λ (l : List ℕ). c.put_u64-4.new.out.items ++ (list (number 8)).bytes l) c.as_slice.ensures))
    c.put_list.ensures.appends_them
