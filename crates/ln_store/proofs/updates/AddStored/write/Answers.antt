use Rattle.std.proofs.lemmas.Result.{on_ok_weaker}
use Rattle.byteorder.specs.Endian.{big_bytes}
use Rattle.ln_store.specs.Format.{optional, fixed, number, ◌&◌}
use Rattle.ln_store.specs.Items.{add}
use Rattle.ln_store.proofs.Appends.{six_follow}
use Rattle.ln_store.proofs.updates.AddStored.write.Goals as goal

pub returns-clause-appends_the_value : goal.returns-clause-appends_the_value
unfolding add
returns-clause-appends_the_value c =
    let a = c.args.self.now in
    on_ok_weaker c.put_optional.result (λ e.
    six_follow c.args.out.now.items c.put_u64.new.out.items c.put_u64-2.new.out.items c.put.new.out.items
    c.put_u32.new.out.items c.put-2.new.out.items c.put_optional.new.out.items (big_bytes 8 a.id) (big_bytes 8 a.amount)
    a.hash (big_bytes 4 a.expiry) a.onion ((optional (fixed 32 & number 8)).bytes a.origin)
    c.in_ok-put_u64.ensures.appends_it c.in_ok-put_u64-2.ensures.appends_it c.in_ok-put.ensures.appends_them
    c.in_ok-put_u32.ensures.appends_it c.in_ok-put-2.ensures.appends_them e) c.put_optional.ensures.appends_it
