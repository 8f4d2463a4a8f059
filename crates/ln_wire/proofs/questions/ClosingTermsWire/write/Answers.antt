use Rattle.std.proofs.lemmas.Result.{on_ok_weaker}
use Rattle.std.proofs.Common.{ℕ, List, ◌∙◌, ◌++◌, ap}
use Rattle.byteorder.specs.Endian.{big_bytes}
use Rattle.ln_store.specs.Format.{sized}
use Rattle.ln_store.specs.Items.{role}
use Rattle.ln_wire.specs.Questions.{closing}
use Rattle.ln_wire.proofs.Appends.{six_follow}
use Rattle.ln_wire.proofs.questions.ClosingTermsWire.write.Goals as goal

pub returns-clause-appends_the_value : goal.returns-clause-appends_the_value
unfolding closing
returns-clause-appends_the_value c =
    let t = c.args.self.now in
    on_ok_weaker c.put_short-2.result (λ e.
    six_follow c.args.out.now.items c.write.new.out.items c.put_u64.new.out.items c.put_u64-2.new.out.items
    c.put_u64-3.new.out.items c.put_short.new.out.items c.put_short-2.new.out.items (role.bytes t.role)
    (big_bytes 8 t.fee_satoshis) (big_bytes 8 t.own_msat) (big_bytes 8 t.peer_msat) ((sized 2).bytes t.own_script)
    ((sized 2).bytes t.peer_script) c.in_ok-write.ensures.appends_the_value c.in_ok-put_u64.ensures.appends_it
    c.in_ok-put_u64-2.ensures.appends_it c.in_ok-put_u64-3.ensures.appends_it
    (c.in_ok-put_short.ensures.appends_them
    ∙ ap (λ (b : List ℕ). c.put_u64-3.new.out.items ++ (sized 2).bytes b) c.as_slice.ensures)
    (e ∙ ap (λ (b : List ℕ). c.put_short.new.out.items ++ (sized 2).bytes b) c.as_slice-2.ensures))
    c.put_short-2.ensures.appends_them
