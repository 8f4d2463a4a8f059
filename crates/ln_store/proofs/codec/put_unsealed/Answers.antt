use Rattle.std.proofs.Common.{◌++◌, length}
use Rattle.std.proofs.lemmas.Result.{on_ok_weaker}
use Rattle.byteorder.specs.Endian.{big_bytes}
use Rattle.ln_store.specs.Record.{magic, unsealed}
use Rattle.ln_store.proofs.Appends.{follows}
use Rattle.ln_store.proofs.codec.put_unsealed.Goals as goal

pub returns-clause-appends_it : goal.returns-clause-appends_it
unfolding unsealed
returns-clause-appends_it c =
    let body = c.args.body.now in
    let len = big_bytes 8 (length body) in
    let version = big_bytes 2 2 in
    let end = c.put-2.new.out.items in
    on_ok_weaker c.put-2.result (λ e.
    follows c.args.out.now.items c.put.new.out.items end magic (version ++ (len ++ body))
    c.in_ok-put.ensures.appends_them
    (follows c.put.new.out.items c.put_u16.new.out.items end version (len ++ body) c.in_ok-put_u16.ensures.appends_it
    (follows c.put_u16.new.out.items c.put_u64.new.out.items end len body c.in_ok-put_u64.ensures.appends_it e)))
    c.put-2.ensures.appends_them
