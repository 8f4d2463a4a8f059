use Rattle.std.proofs.lemmas.Result.{on_ok_weaker}
use Rattle.byteorder.specs.Endian.{big_bytes}
use Rattle.ln_wire.specs.Setup.{terms}
use Rattle.ln_wire.proofs.Appends.{seven_follow}
use Rattle.ln_wire.proofs.setup.SpecTermsWire.write.Goals as goal

pub returns-clause-appends_the_value : goal.returns-clause-appends_the_value
unfolding terms
returns-clause-appends_the_value c =
    let t = c.args.self.now in
    on_ok_weaker c.put_u16.result (λ e.
    seven_follow c.args.out.now.items c.put_u64.new.out.items c.put_u64-2.new.out.items c.put_u32.new.out.items
    c.put_u8.new.out.items c.put.new.out.items c.put-2.new.out.items c.put_u16.new.out.items
    (big_bytes 8 t.funding) (big_bytes 8 t.push) (big_bytes 4 t.feerate) (big_bytes 1 t.flags) t.temporary_id
    t.txid (big_bytes 2 t.output) c.in_ok-put_u64.ensures.appends_it c.in_ok-put_u64-2.ensures.appends_it
    c.in_ok-put_u32.ensures.appends_it c.in_ok-put_u8.ensures.appends_it c.in_ok-put.ensures.appends_them
    c.in_ok-put-2.ensures.appends_them e) c.put_u16.ensures.appends_it
