-- Every step is a turn of one end, and keeps what every step keeps.
use Rattle.std.proofs.Common.{length, ◌==◌, Some, None}
use Rattle.std.proofs.Common.{◌≡◌, ℕ, ◌+◌, ◌≤◌, List, [], ◌∷◌, ◌++◌, take, refl, sym, ap, ◌∙◌, subst, arith, append-nil}
use Rattle.std.proofs.Common.{Bool, true, false, cond, not, ◌&&◌, Option, Ok, Err, inl}
use Rattle.std.proofs.lemmas.List.{take-take}
use Rattle.ln_bytes.proofs.Same.{same_if_equal}
use Rattle.ln_msgs.specs.declared.messages.message.Message.{Message}
use Rattle.ln_msgs.specs.declared.messages.message.Message.TheVariants as message
use Rattle.ln_msgs.specs.declared.messages.closing.Shutdown.{Shutdown as ShutdownMessage}
use Rattle.ln_refusals.specs.declared.refusal.Refusal.TheVariants as refusal
use Rattle.ln_keys.specs.Signer.{Signer}
use Rattle.ln_log.specs.declared.update.Update.{Update as Change}
use Rattle.ln_log.specs.Updates.{all_sent}
use Rattle.ln_dance.specs.Dance.{revoked_message}
use Rattle.ln_close.specs.Closing.{after_shut}
use Rattle.ln_channel.specs.declared.output.Output.TheVariants as output
use Rattle.ln_channel.specs.End.{End, Turn, has_begun, quiet, owes_shutdown, all_acknowledged, shutdown_message}
use Rattle.ln_channel.specs.Taking.{takes, takes_ready, accepts, accepting, revokes, learning, update_row}
use Rattle.ln_channel.specs.Taking.{shutdown_at, shuts_by_peer, message_row}
use Rattle.ln_channel_laws.specs.Ends.{messages_in}
use Rattle.ln_keys.specs.Partners.{ArePartners}
use Rattle.ln_channel.specs.declared.machine.ConnectionState.{ConnectionState}
use Rattle.ln_channel.specs.declared.machine.ConnectionState.TheVariants.{Down, AwaitingReestablish, Connected}
use Rattle.std.specs.Prelude.{option_map}
use Rattle.std.proofs.lemmas.List.{take_all, nil_from_length}
use Rattle.std.proofs.lemmas.Bool.{eqb-true}
use Rattle.ln_msgs.specs.declared.messages.closing.ClosingSigned.{ClosingSigned}
use Rattle.ln_log.specs.declared.standing.Standing.{Standing}
use Rattle.ln_log.specs.View.{live_adds}
use Rattle.ln_log.specs.Log.{covered, live_in}
use Rattle.ln_log.proofs.Sent.{standing_sent}
use Rattle.ln_close.specs.Closing.{may_start}
use Rattle.ln_channel.specs.End.{has_begun, is_settled, closing_message, fee_sent}
use Rattle.ln_msgs.specs.declared.messages.commitments.ChannelReestablish.{ChannelReestablish}
use Rattle.ln_channel_laws.proofs.Tests.{parts, both_true, unnegated}
use Rattle.ln_channel_laws.proofs.Closing.NothingMoves.{HasBegun}
use Rattle.ln_channel_laws.proofs.Flight.Images.{length-sent}
use Rattle.ln_channel_laws.proofs.Ends.Acts.{Knows, said_more, dealt_so}
use Rattle.ln_channel_laws.proofs.Flight.Sides.{Close, closes_of}
use Rattle.ln_channel_laws.proofs.Flight.Sides.{Notice, Update, Sign, Revoke, Ready, Shutdown, Again, posts}
use Rattle.ln_channel_laws.proofs.Flight.WalkOverActs.{accepts as is_last_signature}
use Rattle.ln_channel_laws.proofs.Flight.Images.{message_of, messages_of, side_of}
use Rattle.ln_channel_laws.proofs.Flight.DueRows.{row_of_update, update_taken, signature_right, signature_taken}
use Rattle.ln_channel_laws.proofs.Flight.DueRows.{revocation_right}
use Rattle.ln_channel_laws.proofs.Flight.DueRows.{revocation_taken}
use Rattle.ln_channel_laws.proofs.Ends.Acts.{front_reads, front_told, IsScript, Hold, numbered, took_update}
use Rattle.ln_channel_laws.proofs.Ends.Acts.{took_sign, outstanding, is_told, took_revoke, took_ready, took_shutdown}
use Rattle.ln_channel_laws.proofs.Ends.Acts.{took_shutdown_again, shuts_in_answer}

-- ---- rows

-- what the row of a message that is due gives
abbrev pub turn_of : Signer → Notice → End → Turn
turn_of k (Update u) e = quiet (takes u e)
turn_of k (Sign m) e = accepting k e.dance.log.current.own e (accepts e)
turn_of k (Revoke m) e = learning e.dance.log.acknowledged.peer (revokes m e)
turn_of k (Ready m) e = quiet (takes_ready m e)
turn_of k (Shutdown m) e = quiet (cond e.closing.peer_shut e (shuts_by_peer m e))
turn_of k (Close m) e = quiet e
turn_of k (Again m) e = quiet e

-- what it sends
abbrev pub sent_by : Signer → Notice → End → List Notice
sent_by k (Update u) e = []
sent_by k (Sign m) e = Revoke (revoked_message k e.dance) ∷ []
sent_by k (Revoke m) e = []
sent_by k (Ready m) e = []
sent_by k (Shutdown m) e = []
sent_by k (Close m) e = []
sent_by k (Again m) e = []

pub sends_so : (k : Signer) (channel : List ℕ) (n : Notice) (e : End)
    → messages_in (turn_of k n e).handed.sent ≡ messages_of channel (sent_by k n e)
sends_so k channel (Update u) e = refl
sends_so k channel (Sign m) e = refl
sends_so k channel (Revoke m) e = refl
sends_so k channel (Ready m) e = refl
sends_so k channel (Shutdown m) e = refl
sends_so k channel (Close m) e = refl
sends_so k channel (Again m) e = refl

pub fronts : (n m k : ℕ) (us vs : List Change) → take k us ≡ take k vs → n ≡ m → n ≤ k → take n us ≡ take m vs
fronts n m k us vs e same le = sym (take-take n k us le) ∙ ap (take n) e ∙ take-take n k vs le
    ∙ ap (λ i. take i vs) same

same_shutdown : (taken : Bool) (o : Option (List ℕ)) (script : List ℕ) (m : ShutdownMessage) (e : End)
    → IsScript taken o script → script ≡ m.script → shutdown_at o m e ≡ Ok (quiet (cond taken e (shuts_by_peer m e)))
same_shutdown true o script m e h is =
    ap (λ q. shutdown_at q m e) h
    ∙ ap (λ q. cond q (Ok (quiet e)) (Err refusal.OutOfPlace)) (same_if_equal script m.script is)
same_shutdown false o script m e h is = ap (λ q. shutdown_at q m e) h

abbrev pub is_close : Notice → Bool
is_close (Update u) = false
is_close (Sign m) = false
is_close (Revoke m) = false
is_close (Ready m) = false
is_close (Shutdown m) = false
is_close (Close m) = true
is_close (Again m) = false

pub nothing_posted : (l : ConnectionState) (ms : List Notice) → posts l [] ms ≡ ms
nothing_posted Down ms = refl
nothing_posted AwaitingReestablish ms = append-nil ms
nothing_posted Connected ms = append-nil ms

-- ---- closing has begun

no_live : (n m : ℕ) → n + m ≡ 0 → (n ≡ 0) × (m ≡ 0)
no_live n m e = (omega (arith, e), omega (arith, e))

live_none : (us rs : List Change) → length (live_adds us rs) ≡ 0 → live_adds (all_sent us) (all_sent rs) ≡ []
live_none us rs e = nil_from_length (live_adds (all_sent us) (all_sent rs))
    (ap (λ (s : Standing). s.live) (standing_sent 0 us rs) ∙ e)

pub begun_so : (k : Signer) (e : End) → has_begun e ≡ true → HasBegun (side_of k e)
begun_so k e h =
    let l = e.dance.log in
    let p = parts e.closing.shut (e.closing.peer_shut && is_settled l) h in
    let q = parts e.closing.peer_shut (is_settled l) p.1 in
    let c1 = l.acknowledged.own == length l.own in
    let c2 = l.current.own == length l.own in
    let c3 = l.current.peer == length l.received in
    let c4 = l.acknowledged.peer == length l.received in
    let live = live_in (covered l l.current) == 0 in
    let r4 = parts (c1 && c2 && c3 && c4) live q.1 in
    let r3 = parts (c1 && c2 && c3) c4 r4.0 in
    let r2 = parts (c1 && c2) c3 r3.0 in
    let r1 = parts c1 c2 r2.0 in
    let own_current = eqb-true l.current.own (length l.own) r1.1 in
    let peer_current = eqb-true l.current.peer (length l.received) r2.1 in
    let own : take l.current.own l.own ≡ l.own = take_all l.current.own l.own (omega (arith, own_current)) in
    let peer : take l.current.peer l.received ≡ l.received =
    take_all l.current.peer l.received (omega (arith, peer_current)) in
    let none = no_live _ _ (eqb-true (live_in (covered l l.current)) 0 r4.1) in
    let none_own : length (live_adds l.own l.received) ≡ 0 = ap (λ us. length (live_adds us l.received)) (sym own)
    ∙ ap (λ us. length (live_adds (take l.current.own l.own) us)) (sym peer) ∙ none.0 in
    let none_got : length (live_adds l.received l.own) ≡ 0 = ap (λ us. length (live_adds us l.own)) (sym peer)
    ∙ ap (λ us. length (live_adds (take l.current.peer l.received) us)) (sym own) ∙ none.1 in
    record {
      shut_sent = p.0;
      shut_taken = q.0;
      own_acked = eqb-true l.acknowledged.own (length l.own) r1.0 ∙ sym (length-sent l.own);
      own_current = own_current ∙ sym (length-sent l.own);
      peer_current = peer_current ∙ sym (length-sent l.received);
      peer_acked = eqb-true l.acknowledged.peer (length l.received) r3.1 ∙ sym (length-sent l.received);
      none_own = live_none l.own l.received none_own;
      none_got = live_none l.received l.own none_got;
    }

module _ (a b : Signer) (keys : ArePartners a b) (channel : List ℕ) (ly : ConnectionState) (x y : End)
    (said_x said_y : List Message) where
  pub row : (n : Notice) (ns to_y : List Notice) → is_close n ≡ false
      → Hold a b channel Connected ly x y (n ∷ ns) to_y said_x said_y
      → message_row a (message_of channel n) x ≡ Ok (turn_of a n x)
  row (Update u) ns to_y begun h =
      let f = h.kept.back in
      let fits = (front_reads ly (side_of a x) (side_of b y) (Update u) ns f.flight).0 in
      let s = front_told ly (side_of a x) (side_of b y) (Update u) ns h.told.back.flight in
      row_of_update a channel u x ∙ ap (λ v. update_row v x) fits.sent
      ∙ update_taken y.dance.log.opening y.dance.log.role x u f.same f.roles
      (both_true x.readiness.ready_sent x.readiness.ready_received s.1 s.0) s.2 fits
  row (Sign m) ns to_y begun h =
      let f = h.kept.there in
      let g = h.kept.back in
      let d = (front_reads ly (side_of a x) (side_of b y) (Sign m) ns g.flight).0 in
      let s = front_told ly (side_of a x) (side_of b y) (Sign m) ns h.told.back.flight in
      let l = is_last_signature Connected ly (side_of a x) (side_of b y) m (Sign m ∷ ns) g d in
      let peer = fronts y.dance.log.signed.peer x.dance.log.acknowledged.own y.dance.log.current.peer
      (all_sent y.dance.log.received) (all_sent x.dance.log.own) f.agree (sym d.knows) g.within.peer_signed in
      let below = h.y_knows.below in
      signature_taken a m x (both_true x.readiness.ready_sent x.readiness.ready_received s.1 s.0)
      (signature_right a b x.dance y.dance m (record { there = keys.back; back = keys.there }) d.named
      d.next l.one g.same (sym f.roles) d.covers (sym peer)
      (h.y_knows.next_point (h.told.back.used_signature (let one = l.one in omega (arith, one))).taken)
      (keys.there.sized_points (y.dance.numbers.revoked + 1) (let one = l.one in omega (arith, below, one)))
      below)
  row (Revoke m) ns to_y begun h =
      revocation_taken a m x (revocation_right a b x.dance y.dance m keys
      (is_told a b keys channel ly x y said_x said_y m ns to_y h)
      (outstanding a b keys channel ly x y said_x said_y m ns to_y h) h.x_knows.below)
  row (Ready m) ns to_y begun h = refl
  row (Shutdown m) ns to_y begun h =
      let told : m ≡ shutdown_message y = (front_told ly (side_of a x) (side_of b y) (Shutdown m) ns
      h.told.back.flight).1 in
      same_shutdown x.closing.peer_shut x.terms.peer_script y.terms.script m x h.x_knows.script
      (sym (ap (λ (q : ShutdownMessage). q.script) told))
  row (Close m) ns to_y begun h = absurd (cc)
  row (Again m) ns to_y begun h = absurd (front_reads ly (side_of a x) (side_of b y) (Again m) ns h.kept.back.flight)

  -- ---- turns

  quietly : (n : End) (rest sent : List Notice) → Hold a b channel Connected ly n y rest sent said_x said_y
      → Hold a b channel Connected ly n y rest (posts ly [] sent) (said_x ++ []) said_y
  quietly n rest sent h = subst (λ os. Hold a b channel Connected ly n y rest os (said_x ++ []) said_y)
      (sym (nothing_posted ly sent)) (subst (λ ms. Hold a b channel Connected ly n y rest sent ms said_y)
      (sym (append-nil said_x)) h)

  shut_by : (s : Bool) → x.closing.peer_shut ≡ s → (m : ShutdownMessage) (ns to_y : List Notice)
      → Hold a b channel Connected ly x y (Shutdown m ∷ ns) to_y said_x said_y
      → Hold a b channel Connected ly (cond s x (shuts_by_peer m x)) y ns to_y said_x said_y
  shut_by true e m ns to_y h = took_shutdown_again a b keys channel ly x y said_x said_y m ns to_y e h
  shut_by false e m ns to_y h = took_shutdown a b keys channel ly x y said_x said_y m ns to_y h

  pub took : (n : Notice) (ns to_y : List Notice) → is_close n ≡ false
      → Hold a b channel Connected ly x y (n ∷ ns) to_y said_x said_y
      → Hold a b channel Connected ly (turn_of a n x).end y ns (posts ly (sent_by a n x) to_y)
      (said_x ++ messages_in (turn_of a n x).handed.sent) said_y
  took (Update u) ns to_y other h = quietly (takes u x) ns to_y
      (took_update a b keys channel ly x y said_x said_y u ns to_y h)
  took (Sign m) ns to_y other h =
      let sent = message.RevokeAndAck (revoked_message a x.dance) in
      numbered a b channel Connected ly (accepts x) y ns (posts ly (Revoke (revoked_message a x.dance) ∷ []) to_y)
      (said_x ++ sent ∷ []) said_y (turn_of a (Sign m) x).end.ledger
      (took_sign a b keys channel ly x y said_x said_y m ns to_y h)
  took (Revoke m) ns to_y other h = quietly (turn_of a (Revoke m) x).end ns to_y
      (numbered a b channel Connected ly (revokes m x) y ns to_y said_x said_y (turn_of a (Revoke m) x).end.ledger
      (took_revoke a b keys channel ly x y said_x said_y m ns to_y h))
  took (Ready m) ns to_y other h = quietly (takes_ready m x) ns to_y
      (took_ready a b keys channel ly x y said_x said_y m ns to_y h)
  took (Shutdown m) ns to_y other h = quietly (cond x.closing.peer_shut x (shuts_by_peer m x)) ns to_y
      (shut_by x.closing.peer_shut refl m ns to_y h)
  took (Close m) ns to_y other h = absurd (cc)
  took (Again m) ns to_y other h = absurd (front_reads ly (side_of a x) (side_of b y) (Again m) ns h.kept.back.flight)

  -- ---- the end of a turn

  abbrev pub shutdown_notice : Bool → List Notice
  shutdown_notice true = Shutdown (shutdown_message x) ∷ []
  shutdown_notice false = []

  pub owes_by : (o : Bool) → owes_shutdown x ≡ o → (to_x to_y : List Notice)
      → Hold a b channel Connected ly x y to_x to_y said_x said_y
      → Hold a b channel Connected ly (cond o (record x { closing = after_shut x.closing }) x) y to_x
      (posts ly (shutdown_notice o) to_y) (said_x ++ messages_in
      (cond o (output.Send (message.Shutdown (shutdown_message x)) ∷ []) [])) said_y
  owes_by true e to_x to_y h =
      let p = parts (x.closing.peer_shut && not x.closing.shut) (all_acknowledged x.dance.log) e in
      let q = parts x.closing.peer_shut (not x.closing.shut) p.0 in
      shuts_in_answer a b keys channel ly x y said_x said_y to_x to_y (unnegated x.closing.shut q.1) p.1 h
  owes_by false e to_x to_y h = quietly x to_x to_y h

  -- the funder's first fee
  fee_notice : Option ℕ → Option ClosingSigned
  fee_notice o = option_map (closing_message a x) o

  same_x : Knows b x y → Knows b (record x { closing = record x.closing { own_fee = Some x.closing.fees.first } }) y
  same_x k = record {
    point = k.point;
    next_point = k.next_point;
    below = k.below;
    script = k.script;
    secret = k.secret;
  }

  same_y : Knows a y x → Knows a y (record x { closing = record x.closing { own_fee = Some x.closing.fees.first } })
  same_y k = record {
    point = k.point;
    next_point = k.next_point;
    below = k.below;
    script = k.script;
    secret = k.secret;
  }

  pub begins_by : (t s : Bool) → has_begun x ≡ t → may_start x.closing ≡ s → (to_x to_y : List Notice)
      → Hold a b channel Connected ly x y to_x to_y said_x said_y
      → Hold a b channel Connected ly
      (cond t (record x { closing = cond s (record x.closing { own_fee = Some x.closing.fees.first }) x.closing }) x)
      y to_x
      (posts ly (closes_of (option_map (closing_message a x) (cond t (cond s (Some x.closing.fees.first) None) None)))
      to_y) (said_x ++ messages_in (fee_sent a x (cond t (cond s (Some x.closing.fees.first) None) None))) said_y
  begins_by false s is ms to_x to_y h = quietly x to_x to_y h
  begins_by true false is ms to_x to_y h = quietly x to_x to_y h
  begins_by true true is ms to_x to_y h =
      let n : End = record x { closing = record x.closing { own_fee = Some x.closing.fees.first } } in
      let m = closing_message a x x.closing.fees.first in
      dealt_so a b keys channel ly x y said_x said_y n (Some m) (side_of a x).closed (Some m)
      (message.ClosingSigned m ∷ []) to_x to_y refl refl refl (refl, inl refl) (refl, inl refl) (same_x h.x_knows)
      (same_y h.y_knows) refl
      (begun_so a x is) (λ e. e) (λ e. refl) (λ e. refl) h.ended_back.answered
      (said_more x.closing.shut x.closing.shut said_x (message.ClosingSigned m) (λ e. absurd (cc)) (λ e. e)
      (λ e. absurd (cc)) h.x_said) h

-- ---- what is in front of an end

-- where it has no connection nothing is; where it waits, the peer's channel_reestablish; and else a message that is
-- taken by its row, or a closing_signed, which may be refused for its fee
pub by_front : (a b : Signer) (channel : List ℕ) (ly : ConnectionState) (x y : End) (to_y : List Notice)
    (said_x said_y : List Message) (C : ConnectionState → List Notice → Type 0) → ((l : ConnectionState) → C l [])
    → ((m : ChannelReestablish) (ns : List Notice)
    → Hold a b channel AwaitingReestablish ly x y (Again m ∷ ns) to_y said_x said_y
    → C AwaitingReestablish (Again m ∷ ns))
    → ((n : Notice) (ns : List Notice) → is_close n ≡ false
    → Hold a b channel Connected ly x y (n ∷ ns) to_y said_x said_y → C Connected (n ∷ ns))
    → ((m : ClosingSigned) (ns : List Notice) → Hold a b channel Connected ly x y (Close m ∷ ns) to_y said_x said_y
    → C Connected (Close m ∷ ns))
    → (l : ConnectionState) (ns : List Notice) → Hold a b channel l ly x y ns to_y said_x said_y → C l ns
by_front a b i ly x y os sx sy C none again row fee l [] h = none l
by_front a b i ly x y os sx sy C none again row fee Down (n ∷ ns) h =
    absurd (let no : n ∷ ns ≡ [] = h.kept.back.flight in cc)
by_front a b i ly x y os sx sy C none again row fee AwaitingReestablish (Update u ∷ ns) h = absurd h.kept.back.flight
by_front a b i ly x y os sx sy C none again row fee AwaitingReestablish (Sign m ∷ ns) h = absurd h.kept.back.flight
by_front a b i ly x y os sx sy C none again row fee AwaitingReestablish (Revoke m ∷ ns) h = absurd h.kept.back.flight
by_front a b i ly x y os sx sy C none again row fee AwaitingReestablish (Ready m ∷ ns) h = absurd h.kept.back.flight
by_front a b i ly x y os sx sy C none again row fee AwaitingReestablish (Shutdown m ∷ ns) h = absurd h.kept.back.flight
by_front a b i ly x y os sx sy C none again row fee AwaitingReestablish (Close m ∷ ns) h = absurd h.kept.back.flight
by_front a b i ly x y os sx sy C none again row fee AwaitingReestablish (Again m ∷ ns) h = again m ns h
by_front a b i ly x y os sx sy C none again row fee Connected (Update u ∷ ns) h = row (Update u) ns refl h
by_front a b i ly x y os sx sy C none again row fee Connected (Sign m ∷ ns) h = row (Sign m) ns refl h
by_front a b i ly x y os sx sy C none again row fee Connected (Revoke m ∷ ns) h = row (Revoke m) ns refl h
by_front a b i ly x y os sx sy C none again row fee Connected (Ready m ∷ ns) h = row (Ready m) ns refl h
by_front a b i ly x y os sx sy C none again row fee Connected (Shutdown m ∷ ns) h = row (Shutdown m) ns refl h
by_front a b i ly x y os sx sy C none again row fee Connected (Close m ∷ ns) h = fee m ns h
by_front a b i ly x y os sx sy C none again row fee Connected (Again m ∷ ns) h = row (Again m) ns refl h
