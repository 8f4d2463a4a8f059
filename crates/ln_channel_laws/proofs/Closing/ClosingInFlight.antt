-- What every step keeps of the closing_signed in flight, for one direction at a time: each comes to an end that has
-- taken all that its sender sent before it.
use Rattle.std.proofs.Common.{◌≡◌, ◌⊎◌, ℕ, ◌+◌, ◌≤◌, List, [], ◌∷◌, ◌++◌, length, drop, take, refl, sym, ap, ◌∙◌, subst}
use Rattle.std.proofs.Common.{length-append, Bool, true, false, cond, ◌&&◌, ◌==◌, Option, Some, None}
use Rattle.std.proofs.Common.{is_some}
use Rattle.ln_msgs.specs.declared.messages.closing.ClosingSigned.{ClosingSigned}
use Rattle.ln_keys.specs.Signer.{Signer}
use Rattle.ln_log.specs.declared.update.Update.{Update as Change}
use Rattle.ln_close.specs.declared.closing.Fees.{Fees}
use Rattle.ln_channel.specs.declared.machine.ConnectionState.{ConnectionState}
use Rattle.ln_channel.specs.declared.machine.ConnectionState.TheVariants.{Down, AwaitingReestablish, Connected}
use Rattle.ln_channel_laws.proofs.Flight.Sides.{has_bid, dealt, closes_of, posts, Notice, Update, Sign, Revoke, Ready}
use Rattle.ln_channel_laws.proofs.Flight.Sides.{Shutdown}
use Rattle.ln_channel_laws.proofs.Flight.Sides.{Close}
use Rattle.ln_channel_laws.proofs.Flight.Sides.{Again, Side, updates_of, again_signed, signature_owed, revocation_owed}
use Rattle.ln_channel_laws.proofs.Flight.Sides.{owed}
use Rattle.ln_channel_laws.proofs.Flight.Sides.{ready_again, shutdown_again, all_owed}
use Rattle.ln_channel_laws.proofs.Flight.Walk.{Sender, sender, Reads, LacksNothing, holds, IsWithin, Carries, InFlight}
use Rattle.ln_channel_laws.proofs.Readiness.ReadinessInFlight.{ReadinessOf, ReadsReadiness, AllReadiness}
use Rattle.ln_channel_laws.proofs.Readiness.ReadinessInFlight.{readiness_of, CarriesReadiness}
use Rattle.ln_channel_laws.proofs.Readiness.ReadinessInFlight.{ReadinessFlight}
use Rattle.ln_channel_laws.proofs.Closing.NothingMoves.{HasBegun, covers_all}

-- a fee that a side with these fees sends: its first, or one that isn't above its greatest
abbrev pub IsOffer : Fees → ℕ → Type 0
IsOffer f fee = (fee ≡ f.first) ⊎ (fee ≤ f.greatest)

-- it is signed with k by a side with these fees
abbrev pub IsSigned : Signer → Fees → ClosingSigned → Type 0
IsSigned k f m = (m.signature ≡ k.close_signature m.fee_satoshis) × IsOffer f m.fee_satoshis

abbrev pub SignsAll : Signer → Fees → Option ClosingSigned → Type 0
SignsAll k f None = Unit {0}
SignsAll k f (Some m) = IsSigned k f m

-- what of its sender a closing_signed has to meet
pub record Closer : Type 0 where
  pub bid : Bool  -- it has sent one
  pub number : ℕ  -- of its own commitment
  pub covered : ℕ  -- how many of its updates its last signature covers

abbrev pub closer : Side → Closer
closer x = record { bid = has_bid x; number = x.number; covered = x.signed.own }

-- it is due for who took r revocations and g updates, and the shutdown
pub record IsClosing (k : Signer) (f : Fees) (w : Closer) (r : ℕ) (s : Bool) (g : ℕ) (m : ClosingSigned) : Type 0 where
  pub bid : w.bid ≡ true
  pub revoked : r ≡ w.number
  pub shut : s ≡ true
  pub has_all : g ≡ w.covered
  pub signed : IsSigned k f m

-- who took r revocations, the shutdown (s) or not, and g updates reads the messages, each closing_signed as it is due
abbrev pub Closes : Signer → Fees → Closer → ℕ → Bool → ℕ → List Notice → Type 0
Closes k f w r s g [] = Unit {0}
Closes k f w r s g (Update u ∷ ms) = Closes k f w r s (g + 1) ms
Closes k f w r s g (Sign m ∷ ms) = Closes k f w r s g ms
Closes k f w r s g (Revoke m ∷ ms) = Closes k f w (r + 1) s g ms
Closes k f w r s g (Ready m ∷ ms) = Closes k f w r s g ms
Closes k f w r s g (Shutdown m ∷ ms) = Closes k f w r true g ms
Closes k f w r s g (Close m ∷ ms) = IsClosing k f w r s g m × Closes k f w r s g ms
Closes k f w r s g (Again m ∷ ms) = Closes k f w r s g ms

abbrev pub NoCloses : List Notice → Type 0
NoCloses [] = Unit {0}
NoCloses (Update u ∷ ms) = NoCloses ms
NoCloses (Sign m ∷ ms) = NoCloses ms
NoCloses (Revoke m ∷ ms) = NoCloses ms
NoCloses (Ready m ∷ ms) = NoCloses ms
NoCloses (Shutdown m ∷ ms) = NoCloses ms
NoCloses (Close m ∷ ms) = ⊥
NoCloses (Again m ∷ ms) = NoCloses ms

module _ (k : Signer) (f : Fees) where
  -- ---- where none is behind

  closes-none : (w : Closer) (r : ℕ) (s : Bool) (g : ℕ) (ms : List Notice) → NoCloses ms → Closes k f w r s g ms
  closes-none w r s g [] h = tt
  closes-none w r s g (Update u ∷ ms) h = closes-none w r s (g + 1) ms h
  closes-none w r s g (Sign m ∷ ms) h = closes-none w r s g ms h
  closes-none w r s g (Revoke m ∷ ms) h = closes-none w (r + 1) s g ms h
  closes-none w r s g (Ready m ∷ ms) h = closes-none w r s g ms h
  closes-none w r s g (Shutdown m ∷ ms) h = closes-none w r true g ms h
  closes-none w r s g (Close m ∷ ms) h = absurd h
  closes-none w r s g (Again m ∷ ms) h = closes-none w r s g ms h

  closes-push : (w : Closer) (r : ℕ) (s : Bool) (g : ℕ) (ms ns : List Notice) → NoCloses ns → Closes k f w r s g ms
      → Closes k f w r s g (ms ++ ns)
  closes-push w r s g [] ns n h = closes-none w r s g ns n
  closes-push w r s g (Update u ∷ ms) ns n h = closes-push w r s (g + 1) ms ns n h
  closes-push w r s g (Sign m ∷ ms) ns n h = closes-push w r s g ms ns n h
  closes-push w r s g (Revoke m ∷ ms) ns n h = closes-push w (r + 1) s g ms ns n h
  closes-push w r s g (Ready m ∷ ms) ns n h = closes-push w r s g ms ns n h
  closes-push w r s g (Shutdown m ∷ ms) ns n h = closes-push w r true g ms ns n h
  closes-push w r s g (Close m ∷ ms) ns n h = (h.0, closes-push w r s g ms ns n h.1)
  closes-push w r s g (Again m ∷ ms) ns n h = closes-push w r s g ms ns n h

  -- what is lost is a tail
  pub closes-front : (w : Closer) (r : ℕ) (s : Bool) (g : ℕ) (ms ns : List Notice) → Closes k f w r s g (ms ++ ns)
      → Closes k f w r s g ms
  closes-front w r s g [] ns h = tt
  closes-front w r s g (Update u ∷ ms) ns h = closes-front w r s (g + 1) ms ns h
  closes-front w r s g (Sign m ∷ ms) ns h = closes-front w r s g ms ns h
  closes-front w r s g (Revoke m ∷ ms) ns h = closes-front w (r + 1) s g ms ns h
  closes-front w r s g (Ready m ∷ ms) ns h = closes-front w r s g ms ns h
  closes-front w r s g (Shutdown m ∷ ms) ns h = closes-front w r true g ms ns h
  closes-front w r s g (Close m ∷ ms) ns h = (h.0, closes-front w r s g ms ns h.1)
  closes-front w r s g (Again m ∷ ms) ns h = closes-front w r s g ms ns h

  -- what is sent holds none
  pub closes-posts : (l : ConnectionState) (w : Closer) (r : ℕ) (s : Bool) (g : ℕ) (new ms : List Notice) → NoCloses new
      → Closes k f w r s g ms → Closes k f w r s g (posts l new ms)
  closes-posts Down w r s g new ms n h = h
  closes-posts AwaitingReestablish w r s g new ms n h = closes-push w r s g ms new n h
  closes-posts Connected w r s g new ms n h = closes-push w r s g ms new n h

  -- ---- where the sender changes

  -- it has sent none, and may change
  pub closes-unsent : (w v : Closer) (r : ℕ) (s : Bool) (g : ℕ) (ms : List Notice) → w.bid ≡ false
      → Closes k f w r s g ms → Closes k f v r s g ms
  closes-unsent w v r s g [] e h = tt
  closes-unsent w v r s g (Update u ∷ ms) e h = closes-unsent w v r s (g + 1) ms e h
  closes-unsent w v r s g (Sign m ∷ ms) e h = closes-unsent w v r s g ms e h
  closes-unsent w v r s g (Revoke m ∷ ms) e h = closes-unsent w v (r + 1) s g ms e h
  closes-unsent w v r s g (Ready m ∷ ms) e h = closes-unsent w v r s g ms e h
  closes-unsent w v r s g (Shutdown m ∷ ms) e h = closes-unsent w v r true g ms e h
  closes-unsent w v r s g (Close m ∷ ms) e h = absurd (let no : true ≡ false = sym (h.0.bid) ∙ e in cc)
  closes-unsent w v r s g (Again m ∷ ms) e h = closes-unsent w v r s g ms e h

  -- it has sent one more
  closes-raise : (w v : Closer) (r : ℕ) (s : Bool) (g : ℕ) (ms : List Notice) → (w.bid ≡ true → v.bid ≡ true)
      → v.number ≡ w.number → v.covered ≡ w.covered → Closes k f w r s g ms → Closes k f v r s g ms
  closes-raise w v r s g [] a b c h = tt
  closes-raise w v r s g (Update u ∷ ms) a b c h = closes-raise w v r s (g + 1) ms a b c h
  closes-raise w v r s g (Sign m ∷ ms) a b c h = closes-raise w v r s g ms a b c h
  closes-raise w v r s g (Revoke m ∷ ms) a b c h = closes-raise w v (r + 1) s g ms a b c h
  closes-raise w v r s g (Ready m ∷ ms) a b c h = closes-raise w v r s g ms a b c h
  closes-raise w v r s g (Shutdown m ∷ ms) a b c h = closes-raise w v r true g ms a b c h
  closes-raise w v r s g (Close m ∷ ms) a b c h = (
    record {
      bid = a (h.0.bid);
      revoked = h.0.revoked ∙ sym b;
      shut = h.0.shut;
      has_all = h.0.has_all ∙ sym c;
      signed = h.0.signed;
    },
    closes-raise w v r s g ms a b c h.1,
  )
  closes-raise w v r s g (Again m ∷ ms) a b c h = closes-raise w v r s g ms a b c h

  -- ---- at the end of what is in flight

  one_more : (w : Closer) (r : ℕ) (s : Bool) (got : List Change) (u : Change) (ms : List Notice)
      → Closes k f w r s (length (got ++ u ∷ [])) ms → Closes k f w r s (length got + 1) ms
  one_more w r s got u ms h = subst (λ n. Closes k f w r s n ms) (length-append got (u ∷ [])) h

  pub one_less : (w : Closer) (r : ℕ) (s : Bool) (got : List Change) (u : Change) (ms : List Notice)
      → Closes k f w r s (length got + 1) ms → Closes k f w r s (length (got ++ u ∷ [])) ms
  one_less w r s got u ms h = subst (λ n. Closes k f w r s n ms) (sym (length-append got (u ∷ []))) h

  -- one more after them
  closes-last : (w : Sender) (t : ReadinessOf) (v : Closer) (own held : List Change) (all : ℕ)
      (Q : List Change → ℕ → ℕ → ℕ → Type 0) (P : Bool → Bool → Type 0) (got : List Change) (a c r : ℕ) (q s : Bool)
      (ms ns : List Notice) → ((gs : List Change) (b d j : ℕ) (p z : Bool) → Q gs b d j → P p z
      → Closes k f v j z (length gs) ns) → Reads w own held all Q got a c r ms → ReadsReadiness t P q s ms
      → Closes k f v r s (length got) ms → Closes k f v r s (length got) (ms ++ ns)
  closes-last w t v own held all Q P got a c r q s [] ns e h i j = e got a c r q s h i
  closes-last w t v own held all Q P got a c r q s (Update u ∷ ms) ns e h i j =
      one_more v r s got u (ms ++ ns) (closes-last w t v own held all Q P (got ++ u ∷ []) a c r q s ms ns e h.1 i.3
      (one_less v r s got u ms j))
  closes-last w t v own held all Q P got a c r q s (Sign m ∷ ms) ns e h i j =
      closes-last w t v own held all Q P got a (c + 1) r q s ms ns e h.1 i.2 j
  closes-last w t v own held all Q P got a c r q s (Revoke m ∷ ms) ns e h i j =
      closes-last w t v own held all Q P got all c (r + 1) q s ms ns e h.1 i j
  closes-last w t v own held all Q P got a c r q s (Ready m ∷ ms) ns e h i j =
      closes-last w t v own held all Q P got a c r true s ms ns e h i.2 j
  closes-last w t v own held all Q P got a c r q s (Shutdown m ∷ ms) ns e h i j =
      closes-last w t v own held all Q P got a c r q true ms ns e h i.2 j
  closes-last w t v own held all Q P got a c r q s (Close m ∷ ms) ns e h i j =
      (j.0, closes-last w t v own held all Q P got a c r q s ms ns e h i.1 j.1)
  closes-last w t v own held all Q P got a c r q s (Again m ∷ ms) ns e h i j = absurd h

  -- after messages of which none is one
  closes-behind : (w : Sender) (t : ReadinessOf) (v : Closer) (own held : List Change) (all : ℕ)
      (Q : List Change → ℕ → ℕ → ℕ → Type 0) (P : Bool → Bool → Type 0) (got : List Change) (a c r : ℕ) (q s : Bool)
      (ms ns : List Notice) → NoCloses ms → ((gs : List Change) (b d j : ℕ) (p z : Bool)
      → Reads w own held all Q gs b d j ns
      → ReadsReadiness t P p z ns → Closes k f v j z (length gs) ns) → Reads w own held all Q got a c r (ms ++ ns)
      → ReadsReadiness t P q s (ms ++ ns) → Closes k f v r s (length got) (ms ++ ns)
  closes-behind w t v own held all Q P got a c r q s [] ns n e h i = e got a c r q s h i
  closes-behind w t v own held all Q P got a c r q s (Update u ∷ ms) ns n e h i =
      one_more v r s got u (ms ++ ns) (closes-behind w t v own held all Q P (got ++ u ∷ []) a c r q s ms ns n e h.1 i.3)
  closes-behind w t v own held all Q P got a c r q s (Sign m ∷ ms) ns n e h i =
      closes-behind w t v own held all Q P got a (c + 1) r q s ms ns n e h.1 i.2
  closes-behind w t v own held all Q P got a c r q s (Revoke m ∷ ms) ns n e h i =
      closes-behind w t v own held all Q P got all c (r + 1) q s ms ns n e h.1 i
  closes-behind w t v own held all Q P got a c r q s (Ready m ∷ ms) ns n e h i =
      closes-behind w t v own held all Q P got a c r true s ms ns n e h i.2
  closes-behind w t v own held all Q P got a c r q s (Shutdown m ∷ ms) ns n e h i =
      closes-behind w t v own held all Q P got a c r q true ms ns n e h i.2
  closes-behind w t v own held all Q P got a c r q s (Close m ∷ ms) ns n e h i = absurd n
  closes-behind w t v own held all Q P got a c r q s (Again m ∷ ms) ns n e h i = absurd h

  -- what a side sends of closing_signed as it answers
  none_more : (o : Option ClosingSigned) (w : Closer) (r : ℕ) (s : Bool) (g : ℕ) → SignsAll k f o
      → (is_some o ≡ true → (w.bid ≡ true) × (r ≡ w.number) × (s ≡ true) × (g ≡ w.covered))
      → Closes k f w r s g (closes_of o)
  none_more None w r s g i h = tt
  none_more (Some m) w r s g i h =
      let at = h refl in
      (record { bid = at.0; revoked = at.1; shut = at.2; has_all = at.3; signed = i }, tt)

  dealt_closes_by : (x y : Side) (m : Option ClosingSigned) (c : Bool) (sent : Option ClosingSigned)
      (to_y : List Notice) → HasBegun x → IsWithin x
      → Carries Connected x y to_y → CarriesReadiness Connected x y to_y
      → (has_bid x ≡ true → is_some m ≡ true) → (is_some sent ≡ true → is_some m ≡ true) → SignsAll k f sent
      → Closes k f (closer x) y.revocations y.peer_shut (length y.got) to_y
      → Closes k f (closer (dealt m c x)) y.revocations y.peer_shut (length y.got) (to_y ++ closes_of sent)
  dealt_closes_by x y m c sent to_y b w h i bd st sg j =
      closes-last (sender x) (readiness_of x y) (closer (dealt m c x)) y.own (holds y) y.signed.own
      (LacksNothing x.own x.current.peer x.signatures x.number) (AllReadiness x.ready x.shut y.closed) y.got y.acked.own
      y.number y.revocations y.peer_ready y.peer_shut to_y (closes_of sent)
      (λ gs e d n p z l a. none_more sent (closer (dealt m c x)) n z (length gs) sg
      (λ is. (st is, l.revoked, a.1 ∙ b.shut_sent, ap length l.has_all ∙ sym (covers_all x w b).0))) h i
      (closes-raise (closer x) (closer (dealt m c x)) y.revocations y.peer_shut (length y.got) to_y bd refl refl j)

  pub dealt_closes : (ly : ConnectionState) (x y : Side) (m : Option ClosingSigned) (c : Bool)
      (sent : Option ClosingSigned)
      (to_y : List Notice) → HasBegun x → IsWithin x → InFlight Connected ly x y to_y
      → ReadinessFlight Connected ly x y to_y
      → (has_bid x ≡ true → is_some m ≡ true) → (is_some sent ≡ true → is_some m ≡ true) → SignsAll k f sent
      → Closes k f (closer x) y.revocations y.peer_shut (length y.got) to_y
      → Closes k f (closer (dealt m c x)) y.revocations y.peer_shut (length y.got) (posts ly (closes_of sent) to_y)
  dealt_closes Down x y m c sent to_y b w h i bd st sg j =
      closes-raise (closer x) (closer (dealt m c x)) y.revocations y.peer_shut (length y.got) to_y bd refl refl j
  dealt_closes AwaitingReestablish x y m c sent [] b w h i bd st sg j = absurd h
  dealt_closes AwaitingReestablish x y m c sent (Update u ∷ ms) b w h i bd st sg j = absurd h
  dealt_closes AwaitingReestablish x y m c sent (Sign z ∷ ms) b w h i bd st sg j = absurd h
  dealt_closes AwaitingReestablish x y m c sent (Revoke z ∷ ms) b w h i bd st sg j = absurd h
  dealt_closes AwaitingReestablish x y m c sent (Ready z ∷ ms) b w h i bd st sg j = absurd h
  dealt_closes AwaitingReestablish x y m c sent (Shutdown z ∷ ms) b w h i bd st sg j = absurd h
  dealt_closes AwaitingReestablish x y m c sent (Close z ∷ ms) b w h i bd st sg j = absurd h
  dealt_closes AwaitingReestablish x y m c sent (Again z ∷ ms) b w h i bd st sg j =
      dealt_closes_by x y m c sent ms b w h.1 i bd st sg j
  dealt_closes Connected x y m c sent to_y b w h i bd st sg j = dealt_closes_by x y m c sent to_y b w h i bd st sg j

  -- ---- what is sent again

  no_updates : (us : List Change) (m : Notice) → NoCloses (m ∷ []) → NoCloses (updates_of us ++ m ∷ [])
  no_updates [] m n = n
  no_updates (u ∷ us) m n = no_updates us m n

  pub when_none : (b : Bool) (ms : List Notice) → NoCloses ms → NoCloses (cond b ms [])
  when_none true ms n = n
  when_none false ms n = tt

  no-append : (ms ns : List Notice) → NoCloses ms → NoCloses ns → NoCloses (ms ++ ns)
  no-append [] ns n o = o
  no-append (Update u ∷ ms) ns n o = no-append ms ns n o
  no-append (Sign m ∷ ms) ns n o = no-append ms ns n o
  no-append (Revoke m ∷ ms) ns n o = no-append ms ns n o
  no-append (Ready m ∷ ms) ns n o = no-append ms ns n o
  no-append (Shutdown m ∷ ms) ns n o = no-append ms ns n o
  no-append (Close m ∷ ms) ns n o = absurd n
  no-append (Again m ∷ ms) ns n o = no-append ms ns n o

  ordered_none : (l : Bool) (ms ns : List Notice) → NoCloses ms → NoCloses ns → NoCloses (cond l (ms ++ ns) (ns ++ ms))
  ordered_none true ms ns n o = no-append ms ns n o
  ordered_none false ms ns n o = no-append ns ms o n

  pub owed_none : (n r : ℕ) (x : Side) → NoCloses (owed n r x)
  owed_none n r x = ordered_none x.late (signature_owed n x) (revocation_owed r x)
      (when_none ((n == x.signatures) && (x.signatures == x.revocations + 1)) (again_signed x)
      (no_updates (drop x.acked.own (take x.signed.own x.own)) (Sign x.signature) tt))
      (when_none (r + 1 == x.number) (Revoke x.revocation ∷ []) tt)

  again_by : (n r : ℕ) (x y : Side) → IsWithin x → (has_bid x ≡ true → HasBegun x) → SignsAll k f x.close_message
      → Carries Connected x y (all_owed n r x) → CarriesReadiness Connected x y (all_owed n r x)
      → Closes k f (closer x) y.revocations y.peer_shut (length y.got) (all_owed n r x)
  again_by n r x y w b sg h i =
      let Q = LacksNothing x.own x.current.peer x.signatures x.number in
      let P = AllReadiness x.ready x.shut y.closed in
      let v = closer x in
      let closes = closes_of x.close_message in
      let tail = shutdown_again x ++ closes in
      closes-behind (sender x) (readiness_of x y) v y.own (holds y) y.signed.own Q P y.got y.acked.own y.number
      y.revocations
      y.peer_ready y.peer_shut (ready_again n x) (owed n r x ++ tail)
      (when_none ((x.number == 0) && (n == 1) && x.ready) (Ready x.ready_message ∷ []) tt)
      (λ gs a c j q s. closes-behind (sender x) (readiness_of x y) v y.own (holds y) y.signed.own Q P gs a c j q s
      (owed n r x) tail (owed_none n r x)
      (λ gs2 a2 c2 j2 q2 s2. closes-behind (sender x) (readiness_of x y) v y.own (holds y) y.signed.own Q P gs2 a2 c2
      j2 q2
      s2
      (shutdown_again x) closes (when_none x.shut (Shutdown x.shut_message ∷ []) tt)
      (λ gs3 a3 c3 j3 q3 s3. last x.close_message refl gs3 a3 c3 j3 q3 s3))) h i
    where
      last : (o : Option ClosingSigned) → x.close_message ≡ o → (gs : List Change) (a c j : ℕ) (q s : Bool)
          → Reads (sender x) y.own (holds y) y.signed.own (LacksNothing x.own x.current.peer x.signatures x.number) gs a
          c j (closes_of o) → ReadsReadiness (readiness_of x y) (AllReadiness x.ready x.shut y.closed) q s (closes_of o)
          → Closes k f (closer x) j s (length gs) (closes_of o)
      last None e gs a c j q s h i = tt
      last (Some m) e gs a c j q s h i =
          let bid : has_bid x ≡ true = ap (λ (o : Option ClosingSigned). is_some o) e in
          let g = b bid in
          none_more (Some m) (closer x) j s (length gs) (subst (SignsAll k f) e sg)
          (λ is. (bid, h.revoked, i.1.1 ∙ g.shut_sent, ap length h.has_all ∙ sym (covers_all x w g).0))

  -- as x has met y again, and has sent all that y lacks
  pub again_closes : (ly : ConnectionState) (n r : ℕ) (x y : Side) (to_y : List Notice) → IsWithin x
      → (has_bid x ≡ true → HasBegun x) → SignsAll k f x.close_message
      → InFlight AwaitingReestablish ly x y to_y → InFlight Connected ly x y (posts ly (all_owed n r x) to_y)
      → ReadinessFlight Connected ly x y (posts ly (all_owed n r x) to_y)
      → Closes k f (closer x) y.revocations y.peer_shut (length y.got) to_y
      → Closes k f (closer x) y.revocations y.peer_shut (length y.got) (posts ly (all_owed n r x) to_y)
  again_closes Down n r x y to_y w b sg g h i j = j
  again_closes AwaitingReestablish n r x y [] w b sg g h i j = absurd g
  again_closes AwaitingReestablish n r x y (Update u ∷ ms) w b sg g h i j = absurd g
  again_closes AwaitingReestablish n r x y (Sign z ∷ ms) w b sg g h i j = absurd g
  again_closes AwaitingReestablish n r x y (Revoke z ∷ ms) w b sg g h i j = absurd g
  again_closes AwaitingReestablish n r x y (Ready z ∷ ms) w b sg g h i j = absurd g
  again_closes AwaitingReestablish n r x y (Shutdown z ∷ ms) w b sg g h i j = absurd g
  again_closes AwaitingReestablish n r x y (Close z ∷ ms) w b sg g h i j = absurd g
  again_closes AwaitingReestablish n r x y (Again z ∷ []) w b sg g h i j = again_by n r x y w b sg h.1 i
  again_closes AwaitingReestablish n r x y (Again z ∷ (m ∷ ms)) w b sg g h i j = absurd (cc (g.1.0))
  again_closes Connected n r x y [] w b sg g h i j = again_by n r x y w b sg h i
  again_closes Connected n r x y (m ∷ ms) w b sg g h i j = absurd (cc (g.0))

-- in flight from x, whose keys are k and whose fees are f, to y
abbrev pub ClosesFlow : Signer → Fees → Side → Side → List Notice → Type 0
ClosesFlow k f x y ms = Closes k f (closer x) y.revocations y.peer_shut (length y.got) ms
