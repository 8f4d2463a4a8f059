use Rattle.std.proofs.Common.{◌≡◌, ◌-◌, ◌++◌, length, take, drop, sym, ap, subst, ◌∙◌, arith, length-take, length-drop}
use Rattle.std.proofs.Common.{append-nil}
use lib.Seq.{take-add, take-take}
use Rattle.std.specs.Io.KnownBytes.{Appends}
use Rattle.std.proofs.KnownBytes.{Appends-trans, Appends-kept}
use Rattle.std.proofs.lemmas.List.{take-append-drop}
use Rattle.ln_msgs.proofs.pings.outgoing.write_out.Goals as goal

pub loop-written-preserved : goal.loop-written-preserved
loop-written-preserved g c =
    let done = c.loop-written.written in
    let n = c.in-Ok.count in
    let xs = c.args.bytes.now in
    let before = c.loop-written.invariant in
    let fits = c.in-Ok.ensures.bound in
    let most = length-take (length xs - done) (drop done xs) in
    let joined = ap (λ l. take done xs ++ l) (take-take n (length xs - done) (drop done xs) (omega arith))
    ∙ sym (take-add done n xs) in
    record {
      within = omega (arith, length-drop done xs);
      sent = subst (Appends _ _) joined (Appends-trans _ _ _ _ _ before.sent c.in-Ok.ensures.bytes);
      failures = omega (arith, c.in-Ok.ensures.no_fewer_failures);
      calls = omega (arith, c.in-Ok.ensures.no_fewer_calls);
    }

pub returns-in_default-clause-writes_a_beginning : goal.returns-in_default-clause-writes_a_beginning
returns-in_default-clause-writes_a_beginning g c =
    let done = c.loop-written.written in
    let n = c.in-Ok.count in
    let xs = c.args.bytes.now in
    let none : n ≡ 0 = omega arith in
    let nothing = ap (λ k. take k (take (length xs - done) (drop done xs))) none in
    record {
      sent = take done xs;
      left = drop done xs;
      bytes_are = sym (take-append-drop done xs);
      written = subst (Appends _ _) (append-nil (take done xs))
          (Appends-trans _ _ _ _ _ c.loop-written.invariant.sent (subst (Appends _ _) nothing c.in-Ok.ensures.bytes));
    }

pub returns-in_default-2-clause-writes_a_beginning : goal.returns-in_default-2-clause-writes_a_beginning
returns-in_default-2-clause-writes_a_beginning g c =
    let done = c.loop-written.written in
    let xs = c.args.bytes.now in
    record {
      sent = take done xs;
      left = drop done xs;
      bytes_are = sym (take-append-drop done xs);
      written = Appends-kept _ _ _ _ c.loop-written.invariant.sent c.in_default.ensures.bytes;
    }
