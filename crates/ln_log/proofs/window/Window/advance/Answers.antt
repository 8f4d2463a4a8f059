use Rattle.std.proofs.Common.{arith, refl}
use Rattle.ln_log.proofs.Advancing.{some_is, advanced, ordered, none_found, base_found}
use Rattle.ln_log.proofs.Readable.{no}
use Rattle.ln_log.proofs.window.Window.advance.Goals as goal

pub invariant_of-self : goal.invariant_of-self
invariant_of-self c =
    ordered _ _ c.args.to c.front-own.result.now c.between-own_new.result.now c.in_ok-own_list.own_list.items
    c.between-own_rest.result.now c.append.new.list.items c.front-peer.result.now c.between-peer_new.result.now
    c.in_ok-peer_list.peer_list.items c.between-peer_rest.result.now c.append-2.new.list.items c.len-3.result
    c.len-4.result _ c.in-Some.balances (record {
      kept = c.self.view_is;
      order = c.self.invariant;
      own_current = omega (arith, c.if-to-self-2.false);
      peer_acknowledged = omega (arith, c.if-to-self-4.false);
      own_amounts = c.front-own.ensures.amounts;
      peer_amounts = c.front-peer.ensures.amounts;
      own_rest_amounts = c.between-own_rest.ensures.amounts;
      peer_rest_amounts = c.between-peer_rest.ensures.amounts;
      own_live_htlcs = c.in_ok-own_list.ensures.live;
      peer_live_htlcs = c.in_ok-peer_list.ensures.live;
      own_count = c.len-3.ensures.counted;
      peer_count = c.len-4.ensures.counted;
      own_end = c.between-own_rest.ensures.count;
      peer_end = c.between-peer_rest.ensures.count;
      own_all = c.in_ok-append.ensures.appends_them;
      peer_all = c.in_ok-append-2.ensures.appends_them;
      live_own = omega (arith, c.len.ensures, c.in_ok-own_list.own_list.ok);
      live_peer = omega (arith, c.len-2.ensures, c.in_ok-peer_list.peer_list.ok);
    })

pub returns-clause-stands_for_the_same : goal.returns-clause-stands_for_the_same
returns-clause-stands_for_the_same c = λ l s.
    advanced _ _ l c.args.to c.front-own.result.now c.between-own_new.result.now c.in_ok-own_list.own_list.items
    c.between-own_rest.result.now c.append.new.list.items c.front-peer.result.now c.between-peer_new.result.now
    c.in_ok-peer_list.peer_list.items c.between-peer_rest.result.now c.append-2.new.list.items c.len-3.result
    c.len-4.result _ c.in-Some.balances (record {
      kept = c.self.view_is;
      stands = s;
      own_first = omega (arith, c.if-to-self.false);
      own_current = omega (arith, c.if-to-self-2.false);
      peer_first = omega (arith, c.if-to-self-3.false);
      peer_acknowledged = omega (arith, c.if-to-self-4.false);
      own_front = c.front-own.ensures.updates l s;
      peer_front = c.front-peer.ensures.updates l s;
      own_part = c.between-own_new.ensures.updates l s;
      peer_part = c.between-peer_new.ensures.updates l s;
      balances = some_is _ _ _ c.in-Some.is c.in_ok-found.ensures.balances;
      own_live_htlcs = c.in_ok-own_list.ensures.live;
      peer_live_htlcs = c.in_ok-peer_list.ensures.live;
      own_count = c.len-3.ensures.length l s;
      peer_count = c.len-4.ensures.length l s;
      own_end = c.between-own_rest.ensures.updates l s;
      peer_end = c.between-peer_rest.ensures.updates l s;
      own_all = c.in_ok-append.ensures.appends_them;
      peer_all = c.in_ok-append-2.ensures.appends_them;
      live_own = omega (arith, c.len.ensures, c.in_ok-own_list.own_list.ok);
      live_peer = omega (arith, c.len-2.ensures, c.in_ok-peer_list.peer_list.ok);
    })

pub returns-in_default-clause-exactly : goal.returns-in_default-clause-exactly
returns-in_default-clause-exactly c = λ l s.
    no (none_found _ _ l c.args.to c.front-own.result.now c.between-own_new.result.now c.front-peer.result.now
    c.between-peer_new.result.now _ (record {
      kept = c.self.view_is;
      stands = s;
      order = c.self.invariant;
      own_front = c.front-own.ensures.updates l s;
      peer_front = c.front-peer.ensures.updates l s;
      own_part = c.between-own_new.ensures.updates l s;
      peer_part = c.between-peer_new.ensures.updates l s;
    }) c.in_ok-found.ensures.given_where_there_is_one c.in_default.is)

pub returns-clause-exactly : goal.returns-clause-exactly
returns-clause-exactly c = λ l s. (
  (λ _. base_found _ _ l c.args.to _ _ _ _ c.self.view_is (omega (arith, c.if-to-self.false))
      (omega (arith, c.if-to-self-3.false)) (returns-clause-stands_for_the_same c l s)),
  (λ _. refl),
)
