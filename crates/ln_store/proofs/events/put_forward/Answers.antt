use Rattle.std.proofs.Common.{◌++◌}
use Rattle.std.proofs.lemmas.Result.{on_ok_weaker}
use Rattle.byteorder.specs.Endian.{big_bytes}
use Rattle.ln_store.proofs.Appends.{follows}
use Rattle.ln_store.proofs.events.put_forward.Goals as goal

pub returns-clause-appends_it : goal.returns-clause-appends_it
returns-clause-appends_it c =
    let amount = big_bytes 8 c.args.amount in
    let expiry = big_bytes 4 c.args.expiry in
    on_ok_weaker c.put_u32.result (λ e.
    follows c.args.out.now.items c.put.new.out.items c.put_u32.new.out.items c.args.channel.now (amount ++ expiry)
    c.in_ok-put.ensures.appends_them
    (follows c.put.new.out.items c.put_u64.new.out.items c.put_u32.new.out.items amount expiry
    c.in_ok-put_u64.ensures.appends_it e)) c.put_u32.ensures.appends_it
