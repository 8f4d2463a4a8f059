use Rattle.std.proofs.lemmas.Result.{on_ok_weaker}
use Rattle.byteorder.specs.Endian.{big_bytes}
use Rattle.ln_store.specs.Items.{role}
use Rattle.ln_wire.specs.Questions.{htlc}
use Rattle.ln_wire.proofs.Appends.{five_follow}
use Rattle.ln_wire.proofs.questions.HtlcWire.write.Goals as goal

pub returns-clause-appends_the_value : goal.returns-clause-appends_the_value
unfolding htlc
returns-clause-appends_the_value c =
    let h = c.args.self.now in
    on_ok_weaker c.put_u32.result (λ e.
    five_follow c.args.out.now.items c.write.new.out.items c.put_u64.new.out.items c.put_u64-2.new.out.items
    c.put.new.out.items c.put_u32.new.out.items (role.bytes h.owner) (big_bytes 8 h.id) (big_bytes 8 h.amount)
    h.hash (big_bytes 4 h.expiry) c.in_ok-write.ensures.appends_the_value c.in_ok-put_u64.ensures.appends_it
    c.in_ok-put_u64-2.ensures.appends_it c.in_ok-put.ensures.appends_them e) c.put_u32.ensures.appends_it
