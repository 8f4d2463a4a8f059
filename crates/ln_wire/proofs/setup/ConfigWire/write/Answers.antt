use Rattle.std.proofs.lemmas.Result.{on_ok_weaker}
use Rattle.std.proofs.Common.{ℕ, List, ◌∙◌, ◌++◌, ap}
use Rattle.byteorder.specs.Endian.{big_bytes}
use Rattle.ln_close.specs.declared.closing.Fees.{Fees}
use Rattle.ln_channel.specs.Config.{fees_of}
use Rattle.ln_store.specs.Format.{sized}
use Rattle.ln_store.specs.Items.{fees}
use Rattle.ln_wire.specs.Setup.{limits, points, config}
use Rattle.ln_wire.proofs.Appends.{eight_follow}
use Rattle.ln_wire.proofs.setup.ConfigWire.write.Goals as goal

pub returns-clause-appends_the_value : goal.returns-clause-appends_the_value
unfolding config
returns-clause-appends_the_value c =
    let s = c.args.self.now in
    on_ok_weaker c.put_short.result (λ e.
    eight_follow c.args.out.now.items c.write.new.out.items c.put.new.out.items c.put_u64.new.out.items
    c.put_u16.new.out.items c.put_u32.new.out.items c.write-2.new.out.items c.write-3.new.out.items
    c.put_short.new.out.items (limits.bytes s.limits) s.chain_hash (big_bytes 8 s.dust_limit)
    (big_bytes 2 s.to_self_delay) (big_bytes 4 s.minimum_depth) (points.bytes s.points) (fees.bytes (fees_of s))
    ((sized 2).bytes s.script) c.in_ok-write.ensures.appends_the_value c.in_ok-put.ensures.appends_them
    c.in_ok-put_u64.ensures.appends_it c.in_ok-put_u16.ensures.appends_it c.in_ok-put_u32.ensures.appends_it
    c.in_ok-write-2.ensures.appends_the_value
    (c.in_ok-write-3.ensures.appends_the_value
    ∙ ap (λ (f : Fees). c.write-2.new.out.items ++ fees.bytes f) c.fees.ensures)
    (e ∙ ap (λ (b : List ℕ). c.write-3.new.out.items ++ (sized 2).bytes b) c.as_slice.ensures))
    c.put_short.ensures.appends_them
