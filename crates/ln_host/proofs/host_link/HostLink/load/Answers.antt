use Rattle.ln_host.specs.Seats.{seat}
use Rattle.ln_host.proofs.Loading.{comes_back, of_another}
use Rattle.ln_host.proofs.host_link.HostLink.load.Goals as goal

pub returns-then-not-is_of-clause-refuses : goal.returns-then-not-is_of-clause-refuses
returns-then-not-is_of-clause-refuses c =
    of_another c.args.saved c.keys_with.result c.as_slice.result.now c.in_ok-link.link (seat c.hosted-host.result)
    c.keys_with.ensures c.as_slice.ensures c.in_ok-link.ensures.loads_as_defined c.hosted-host.ensures
    (λ e. let yes = c.is_of.ensures.1 e in let no = c.if-not-is_of.true in absurd cc)

pub returns-clause-comes_back : goal.returns-clause-comes_back
returns-clause-comes_back c =
    comes_back c.args.saved c.keys_with.result c.as_slice.result.now c.in_ok-link.link (seat c.hosted-host.result)
    (seat c.tell_pending.new.self) c.put.new.place c.keys_with.ensures c.as_slice.ensures
    c.in_ok-link.ensures.loads_as_defined c.hosted-host.ensures c.put.ensures
    (c.is_of.ensures.0 c.if-not-is_of.false) c.in_ok-tell_pending.ensures.told
