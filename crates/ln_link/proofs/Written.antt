-- What a record has of an end, part by part.
use Rattle.std.proofs.Common.{◌≡◌, ◌∙◌, ◌≤◌, ◌+◌, ◌-◌, ap, refl, sym, arith, ℕ, List, [], ◌∷◌, take, drop, option_map}
use Rattle.std.proofs.lemmas.List.{take-take, drop-take}
use Rattle.std.specs.List.{filter_map}
use Rattle.ln_msgs.specs.Messages.Typed.{open_wire, accept_wire}
use Rattle.ln_keys.specs.declared.role.Role.{Role}
use Rattle.ln_log.specs.declared.log.Counts.{Counts}
use Rattle.ln_log.specs.declared.opening.Opening.{Opening}
use Rattle.ln_log.specs.declared.update.Add.{Add}
use Rattle.ln_log.specs.declared.update.Update.{Update}
use Rattle.ln_log.specs.Log.{none, between, after_drop}
use Rattle.ln_log.specs.RecordForm.{RecordForm, record_form_of, as_offered, IsRestorable}
use Rattle.ln_log.specs.Updates.{offered}
use Rattle.ln_log.specs.View.{live_adds}
use Rattle.ln_log.specs.Window.{Balances, balances_of}
use Rattle.ln_channel.specs.Opening.{opening_of}
use Rattle.ln_channel.specs.End.{End, IsSound}
use Rattle.ln_store.specs.declared.record.Agreement.{Agreement}
use Rattle.ln_store.specs.declared.record.Base.{Base}
use Rattle.ln_store.specs.declared.record.LiveHtlc.{LiveHtlc}
use Rattle.ln_store.specs.declared.record.Sides.{Sides}
use Rattle.ln_store.specs.declared.record.Header.{Header}
use Rattle.ln_store.specs.declared.record.Updates.{Updates}
use Rattle.ln_link.specs.Record.{flags_of, header_of, payload_of, chain_place_of, agreement_of}
use Rattle.ln_link.specs.Record.{by_roles, live_htlcs_of, base_of, window_of, pairs_of, updates_by, updates_of}

pub header_so : (h : Header) (e : End) → h.channel ≡ e.dance.channel → h.role ≡ e.closing.role → h.flags ≡ flags_of e
    → h ≡ header_of h.failure e
unfolding header_of
header_so h e channel role flags =
    ap (λ x. record h { channel = x }) channel
    ∙ ap (λ x. record h { channel = e.dance.channel; role = x }) role
    ∙ ap (λ x. record h { channel = e.dance.channel; role = e.closing.role; flags = x }) flags

pub agreement_so : (a : Agreement) (e : End) → a.open_payload ≡ payload_of (open_wire e.terms.open_channel)
    → a.accept_payload ≡ payload_of (accept_wire e.terms.accept_channel)
    → a.place ≡ option_map chain_place_of e.readiness.short_id → a.fees ≡ e.closing.fees → a.script ≡ e.terms.script
    → a.peer_script ≡ e.terms.peer_script → a ≡ agreement_of e
unfolding agreement_of
agreement_so a e opens accepts place fees script peer =
    let open' = payload_of (open_wire e.terms.open_channel) in
    let accept' = payload_of (accept_wire e.terms.accept_channel) in
    let place' = option_map chain_place_of e.readiness.short_id in
    ap (λ x. record a { open_payload = x }) opens
    ∙ ap (λ x. record a { open_payload = open'; accept_payload = x }) accepts
    ∙ ap (λ x. record a { open_payload = open'; accept_payload = accept'; place = x }) place
    ∙ ap (λ x. record a { open_payload = open'; accept_payload = accept'; place = place'; fees = x }) fees
    ∙ ap (λ x. record {
      open_payload = open';
      accept_payload = accept';
      place = place';
      fees = e.closing.fees;
      script = x;
      peer_script = a.peer_script;
    }) script
    ∙ ap (λ x. record {
      open_payload = open';
      accept_payload = accept';
      place = place';
      fees = e.closing.fees;
      script = e.terms.script;
      peer_script = x;
    }) peer

-- ---- the updates

-- of HTLCs as the updates that offered them
pub offered_again : (adds : List Add) → filter_map offered (as_offered adds) ≡ adds
offered_again [] = refl
offered_again (a ∷ adds) = ap (λ (xs : List Add). a ∷ xs) (offered_again adds)

pub base_so : (x : Role) (t : RecordForm) (w : Balances) (own peer : List Update) (n m : ℕ) (u i c : Sides)
    (live : List LiveHtlc) → w ≡ t.balances → own ≡ as_offered t.own_live_htlcs → peer ≡ as_offered t.peer_live_htlcs
    → n ≡ t.first.own → m ≡ t.first.peer → u ≡ by_roles x n m → i ≡ by_roles x w.next_own w.next_peer
    → c ≡ by_roles x w.own w.peer → live ≡ live_htlcs_of x (filter_map offered own) (filter_map offered peer)
    → let made : Base = record { updates = u; next_ids = i; balances = c; feerate = w.feerate; live = live } in
    made ≡ base_of (record t { role = x })
base_so x t w own peer n m u i c live ew eo ep en em eu ei ec el =
    let made : Sides → Sides → Sides → ℕ → List LiveHtlc → Base = λ us is cs rate ls. record {
      updates = us;
      next_ids = is;
      balances = cs;
      feerate = rate;
      live = ls;
    } in
    let os = t.own_live_htlcs in
    let u' = eu ∙ ap (λ (k : ℕ). by_roles x k m) en ∙ ap (λ (k : ℕ). by_roles x t.first.own k) em in
    let i' = ei ∙ ap (λ (v : Balances). by_roles x v.next_own v.next_peer) ew in
    let c' = ec ∙ ap (λ (v : Balances). by_roles x v.own v.peer) ew in
    let l' = el
    ∙ ap (λ (us : List Add). live_htlcs_of x us (filter_map offered peer)) (ap (filter_map offered) eo
    ∙ offered_again os)
    ∙ ap (λ (us : List Add). live_htlcs_of x os us) (ap (filter_map offered) ep ∙ offered_again t.peer_live_htlcs) in
    let told = base_of (record t { role = x }) in
    ap (λ (z : Sides). made z i c w.feerate live) u'
    ∙ ap (λ (z : Sides). made told.updates z c w.feerate live) i'
    ∙ ap (λ (z : Sides). made told.updates told.next_ids z w.feerate live) c'
    ∙ ap (λ (v : Balances). made told.updates told.next_ids told.balances v.feerate live) ew
    ∙ ap (λ (z : List LiveHtlc). made told.updates told.next_ids told.balances told.feerate z) l'

-- what is worth so much, as a base of a side with this role
abbrev base_by : Opening → Role → Role → Counts → List Update → List Update → Base
base_by o y x n own peer = base_of (record {
  opening = o;
  role = x;
  first = n;
  balances = balances_of o y own peer;
  own_live_htlcs = live_adds own peer;
  peer_live_htlcs = live_adds peer own;
  own = [];
  received = [];
  signed = none;
  acknowledged = none;
  current = none;
})

-- a lost connection leaves the base as it is
based_so : (o p : Opening) (y x : Role) (n : Counts) (own own' peer peer' : List Update) → o ≡ p → y ≡ x → own ≡ own'
    → peer ≡ peer' → base_by o y x n own peer ≡ base_by p x x n own' peer'
based_so o p y x n own own' peer peer' eo ey eq er =
    ap (λ (z : Opening). base_by z y x n own peer) eo
    ∙ ap (λ (z : Role). base_by p z x n own peer) ey
    ∙ ap (λ (us : List Update). base_by p x x n us peer) eq
    ∙ ap (λ (us : List Update). base_by p x x n own' us) er

-- what of it is covered
first_covered : (n m : ℕ) (us : List Update) → n ≤ m → take n us ≡ take n (take m us)
first_covered n m us le = sym (take-take n m us le)

rest_covered : (n m : ℕ) (us : List Update) → n ≤ m → between n m us ≡ drop n (take m us)
rest_covered n m us le =
    sym (ap (λ (k : ℕ). drop n (take k us)) (let e : m ≡ n + (m - n) = omega (arith, le) in e)
    ∙ drop-take n (m - n) us)

pub updates_so : (u : Updates) (e : End) (own received : List Update) → IsSound e
    → IsRestorable (record_form_of e.dance.log.first (after_drop e.dance.log))
    → u.base ≡ base_of (record (record_form_of e.dance.log.first e.dance.log) { role = e.closing.role })
    → u.window ≡ window_of e.closing.role own received
    → own ≡ between e.dance.log.first.own e.dance.log.signed.own e.dance.log.own
    → received ≡ between e.dance.log.first.peer e.dance.log.current.peer e.dance.log.received
    → u.pairs ≡ pairs_of (record_form_of e.dance.log.first e.dance.log)
    → u ≡ updates_of (opening_of e.terms) e.closing.role (after_drop e.dance.log)
unfolding updates_by
updates_so u e own received sound h base window owns receiveds pairs =
    let l = e.dance.log in
    let x = e.closing.role in
    let k = h.counts in
    let own_le : l.first.own ≤ l.signed.own = omega (arith, k.own_first, k.own_current, k.own_acknowledged) in
    let peer_le : l.first.peer ≤ l.current.peer = omega (arith, k.peer_first, k.peer_acknowledged, k.peer_signed) in
    let base' = base
    ∙ based_so l.opening (opening_of e.terms) l.role x l.first _ _ _ _ sound.opening sound.one_role
    (first_covered l.first.own l.signed.own l.own own_le) (first_covered l.first.peer l.current.peer l.received peer_le)
    in
    let window' = window
    ∙ ap (λ (us : List Update). window_of x us received) (owns ∙ rest_covered l.first.own l.signed.own l.own own_le)
    ∙ ap (λ (us : List Update). window_of x (drop l.first.own (take l.signed.own l.own)) us)
    (receiveds ∙ rest_covered l.first.peer l.current.peer l.received peer_le) in
    let told = updates_of (opening_of e.terms) x (after_drop l) in
    ap (λ b. record u { base = b }) base'
    ∙ ap (λ w. record u { base = told.base; window = w }) window'
    ∙ ap (λ p. record u { base = told.base; window = told.window; pairs = p }) pairs
