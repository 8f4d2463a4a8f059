-- What an end sends again as a connection comes back is what the walk reads.
use Rattle.std.proofs.Common.{◌≡◌, ℕ, ◌+◌, List, [], ◌∷◌, ◌++◌, map, take, drop, refl, sym, ap, ◌∙◌, subst}
use Rattle.std.proofs.Common.{append_assoc, Bool, true, false, cond, ◌&&◌, ◌||◌, ◌==◌, None}
use Rattle.ln_msgs.specs.declared.messages.message.Message.{Message}
use Rattle.ln_msgs.specs.declared.messages.message.Message.TheVariants as message
use Rattle.ln_msgs.specs.declared.messages.commitments.ChannelReestablish.{ChannelReestablish}
use Rattle.ln_keys.specs.Signer.{Signer}
use Rattle.ln_log.specs.declared.update.Update.{Update as Change}
use Rattle.ln_log.specs.declared.update.Update.TheVariants as update
use Rattle.ln_log.specs.Updates.{as_sent, all_sent}
use Rattle.ln_log.specs.Log.{unacknowledged}
use Rattle.ln_dance.specs.declared.dance.Later.{Later}
use Rattle.ln_dance.specs.declared.dance.Later.TheVariants.{Signature, Revocation}
use Rattle.ln_dance.specs.declared.resume.Resend.{Resend}
use Rattle.ln_dance.specs.declared.resume.Resend.TheVariants as resend
use Rattle.ln_dance.specs.Dance.{Dancer}
use Rattle.ln_dance.specs.Messages.{update_message}
use Rattle.ln_dance.specs.Resume.{lacks_signature, lacks_revocation, is_before_the_first, updates_again}
use Rattle.ln_dance.specs.Resume.{signature_again, revocation_again, owed_by}
use Rattle.ln_dance.specs.Resume as dance
use Rattle.ln_channel.specs.declared.output.Output.{Output}
use Rattle.ln_channel.specs.declared.output.Output.TheVariants as output
use Rattle.ln_channel.specs.End.{End, shutdown_message, fee_sent}
use Rattle.ln_channel.specs.Commands.{ready_message}
use Rattle.ln_channel.specs.Resume.{one_again, owed_again, sent_again}
use Rattle.ln_channel.specs.Resume as link
use Rattle.ln_channel_laws.specs.Ends.{messages_in}
use Rattle.ln_channel_laws.specs.Promises.{is_add, is_shutdown, AddsBefore}
use Rattle.std.specs.Prelude.{Option, Some, option_map}
use Rattle.ln_msgs.specs.declared.messages.closing.ClosingSigned.{ClosingSigned}
use Rattle.ln_channel.specs.End.{closing_message}
use Rattle.ln_channel_laws.proofs.Flight.Sides.{closes_of}
use Rattle.ln_channel_laws.proofs.Flight.Sides.{Notice, Sign, Revoke, Ready, Shutdown, Side, opens, updates_of}
use Rattle.ln_channel_laws.proofs.Flight.Sides.{again_signed}
use Rattle.ln_channel_laws.proofs.Flight.Sides.{signature_owed, revocation_owed, owed, ready_again, shutdown_again}
use Rattle.ln_channel_laws.proofs.Flight.Sides.{all_owed}
use Rattle.ln_channel_laws.proofs.Readiness.ReadinessInFlight.{NoneOpens}
use Rattle.ln_channel_laws.proofs.Flight.Images.{messages_of, messages-append, is_late, side_of, take-sent, drop-sent}
use Rattle.ln_channel_laws.proofs.Ends.Acts.{sent_as, shut_in, shut-more, adds-more, Said}

pub messages_in-append : (os ps : List Output) → messages_in (os ++ ps) ≡ messages_in os ++ messages_in ps
messages_in-append [] ps = refl
messages_in-append (output.Send m ∷ os) ps = ap (λ ms. m ∷ ms) (messages_in-append os ps)
messages_in-append (output.Signed n ∷ os) ps = messages_in-append os ps
messages_in-append (output.Committed own peer ∷ os) ps = messages_in-append os ps
messages_in-append (output.Event n e ∷ os) ps = messages_in-append os ps
messages_in-append (output.Closed fee ∷ os) ps = messages_in-append os ps

pub again-append : (rs ss : List Resend) → owed_again (rs ++ ss) ≡ owed_again rs ++ owed_again ss
again-append [] ss = refl
again-append (r ∷ rs) ss = ap (λ os. one_again r ++ os) (again-append rs ss)
    ∙ sym (append_assoc (one_again r) (owed_again rs) (owed_again ss))

-- all of them, then more
sent_all : (channel : List ℕ) (us : List Change) (os : List Output)
    → messages_in (map output.Send (map (update_message channel) us) ++ os)
    ≡ messages_of channel (updates_of (all_sent us)) ++ messages_in os
sent_all channel [] os = refl
sent_all channel (u ∷ us) os = ap (λ m. m ∷ messages_in (map output.Send (map (update_message channel) us) ++ os))
    (sym (sent_as channel u)) ∙ ap (λ ms. update_message channel (as_sent u) ∷ ms) (sent_all channel us os)

module _ (k : Signer) (m : ChannelReestablish) (e : End) where
  abbrev d : Dancer
  d = e.dance

  abbrev c : List ℕ
  c = e.dance.channel

  abbrev side : Side
  side = side_of k e

  abbrev n : ℕ
  n = m.next_commitment_number

  abbrev r : ℕ
  r = m.next_revocation_number

  signature_by : (b : Bool)
      → messages_in (owed_again (cond b (updates_again d ++ resend.Signature (signature_again k d) ∷ []) []))
      ≡ messages_of c (cond b (again_signed side) [])
  signature_by false = refl
  signature_by true =
      let new = unacknowledged d.log in
      let same : drop side.acked.own (take side.signed.own side.own) ≡ all_sent new =
      ap (drop side.acked.own) (take-sent side.signed.own d.log.own)
      ∙ drop-sent side.acked.own (take side.signed.own d.log.own) in
      sent_all c new (output.Send (message.CommitmentSigned (signature_again k d)) ∷ [])
      ∙ ap (λ us. messages_of c (updates_of us) ++ message.CommitmentSigned (signature_again k d) ∷ []) (sym same)
      ∙ sym (messages-append c (updates_of (drop side.acked.own (take side.signed.own side.own)))
      (Sign (signature_again k d) ∷ []))

  revocation_by : (b : Bool) → messages_in (owed_again (cond b (resend.Revocation (revocation_again k d) ∷ []) []))
      ≡ messages_of c (cond b (Revoke (revocation_again k d) ∷ []) [])
  revocation_by false = refl
  revocation_by true = refl

  ready_by : (b : Bool) → messages_in (cond b (output.Send (message.ChannelReady (ready_message k e)) ∷ []) [])
      ≡ messages_of c (cond b (Ready (ready_message k e) ∷ []) [])
  ready_by false = refl
  ready_by true = refl

  shutdown_by : (b : Bool) → messages_in (cond b (output.Send (message.Shutdown (shutdown_message e)) ∷ []) [])
      ≡ messages_of c (cond b (Shutdown (shutdown_message e) ∷ []) [])
  shutdown_by false = refl
  shutdown_by true = refl

  two : (rs ss : List Resend) (os ps : List Notice) → messages_in (owed_again rs) ≡ messages_of c os
      → messages_in (owed_again ss) ≡ messages_of c ps → messages_in (owed_again (rs ++ ss)) ≡ messages_of c (os ++ ps)
  two rs ss os ps f g = ap messages_in (again-append rs ss) ∙ messages_in-append (owed_again rs) (owed_again ss)
      ∙ ap (λ ms. ms ++ messages_in (owed_again ss)) f ∙ ap (λ ms. messages_of c os ++ ms) g
      ∙ sym (messages-append c os ps)

  owed_so : (l : Later) → messages_in (owed_again (owed_by l k m d))
      ≡ messages_of c (cond (is_late l) (signature_owed n side ++ revocation_owed r side)
      (revocation_owed r side ++ signature_owed n side))
  owed_so Signature = two (dance.revocation_owed k m d) (dance.signature_owed k m d) (revocation_owed r side)
      (signature_owed n side) (revocation_by (lacks_revocation m d)) (signature_by (lacks_signature m d))
  owed_so Revocation = two (dance.signature_owed k m d) (dance.revocation_owed k m d) (signature_owed n side)
      (revocation_owed r side) (signature_by (lacks_signature m d)) (revocation_by (lacks_revocation m d))

  closes_by : (o : Option ℕ) → messages_in (fee_sent k e o)
      ≡ messages_of c (closes_of (option_map (closing_message k e) o))
  closes_by None = refl
  closes_by (Some fee) = refl

  pub resends_so : messages_in (sent_again k m e) ≡ messages_of c (all_owed n r side)
  resends_so =
      let ra = link.ready_again k m e in
      let ow = owed_again (dance.owed k m d) in
      let sh = link.shutdown_again e in
      let fe = link.fee_again k e in
      let ready = ready_by (is_before_the_first m d && e.readiness.ready_sent) in
      messages_in-append ((ra ++ ow) ++ sh) fe ∙ ap (λ ms. ms ++ messages_in fe) (messages_in-append (ra ++ ow) sh
      ∙ ap (λ ms. ms ++ messages_in sh) (messages_in-append ra ow))
      ∙ append_assoc (messages_in ra ++ messages_in ow) (messages_in sh) (messages_in fe)
      ∙ append_assoc (messages_in ra) (messages_in ow) (messages_in sh ++ messages_in fe)
      ∙ ap (λ ms. ms ++ (messages_in ow ++ (messages_in sh ++ messages_in fe))) ready
      ∙ ap (λ ms. messages_of c (ready_again n side) ++ (ms ++ (messages_in sh ++ messages_in fe))) (owed_so d.later)
      ∙ ap (λ ms. messages_of c (ready_again n side) ++ (messages_of c (owed n r side) ++ (ms ++ messages_in fe)))
      (shutdown_by e.closing.shut)
      ∙ ap (λ ms. messages_of c (ready_again n side)
      ++ (messages_of c (owed n r side) ++ (messages_of c (shutdown_again side) ++ ms))) (closes_by e.closing.own_fee)
      ∙ ap (λ ms. messages_of c (ready_again n side) ++ (messages_of c (owed n r side) ++ ms))
      (sym (messages-append c (shutdown_again side) (closes_of side.close_message)))
      ∙ ap (λ ms. messages_of c (ready_again n side) ++ ms)
      (sym (messages-append c (owed n r side) (shutdown_again side ++ closes_of side.close_message)))
      ∙ sym (messages-append c (ready_again n side)
      (owed n r side ++ (shutdown_again side ++ closes_of side.close_message)))

-- ---- no add after the own shutdown

-- none of these messages passes the test
abbrev NoneIs : (Message → Bool) → List Message → Type 0
NoneIs t [] = Unit {0}
NoneIs t (m ∷ ms) = (t m ≡ false) × NoneIs t ms

none-append : (t : Message → Bool) (ms ns : List Message) → NoneIs t ms → NoneIs t ns → NoneIs t (ms ++ ns)
none-append t [] ns f g = g
none-append t (m ∷ ms) ns f g = (f.0, none-append t ms ns f.1 g)

adds_none : (s : Bool) (ms : List Message) → NoneIs is_add ms → AddsBefore s ms
adds_none s [] h = tt
adds_none s (m ∷ ms) h = (
  λ e. absurd (let no : true ≡ false = sym e ∙ h.0 in cc),
  adds_none (s || is_shutdown m) ms h.1,
)

either_none : (s t : Bool) → s ≡ false → t ≡ false → (s || t) ≡ false
either_none s t e f = ap (λ b. b || t) e ∙ f

adds_unshut : (s : Bool) (ms : List Message) → s ≡ false → NoneIs is_shutdown ms → AddsBefore s ms
adds_unshut s [] e h = tt
adds_unshut s (m ∷ ms) e h = (λ a. e, adds_unshut (s || is_shutdown m) ms (either_none s (is_shutdown m) e h.0) h.1)

unshut_still : (s : Bool) (ms : List Message) → NoneIs is_shutdown ms → shut_in s ms ≡ s
unshut_still s [] h = refl
unshut_still true (m ∷ ms) h = unshut_still true ms h.1
unshut_still false (m ∷ ms) h = ap (λ b. shut_in b ms) h.0 ∙ unshut_still false ms h.1

no_shutdown_update : (channel : List ℕ) (u : Change) → is_shutdown (update_message channel u) ≡ false
no_shutdown_update channel (update.Add a) = refl
no_shutdown_update channel (update.Fulfil a) = refl
no_shutdown_update channel (update.Fail a) = refl
no_shutdown_update channel (update.Malformed a) = refl
no_shutdown_update channel (update.Fee a) = refl

no_add_update : (channel : List ℕ) (u : Change) → opens u ≡ false → is_add (update_message channel u) ≡ false
no_add_update channel (update.Add a) e = absurd (cc)
no_add_update channel (update.Fulfil a) e = refl
no_add_update channel (update.Fail a) e = refl
no_add_update channel (update.Malformed a) e = refl
no_add_update channel (update.Fee a) e = absurd (cc)

shutdowns_none : (channel : List ℕ) (us : List Change) → NoneIs is_shutdown (messages_of channel (updates_of us))
shutdowns_none channel [] = tt
shutdowns_none channel (u ∷ us) = (no_shutdown_update channel u, shutdowns_none channel us)

updates_add_none : (channel : List ℕ) (us : List Change) → NoneOpens us
    → NoneIs is_add (messages_of channel (updates_of us))
updates_add_none channel [] h = tt
updates_add_none channel (u ∷ us) h = (no_add_update channel u h.0, updates_add_none channel us h.1)

-- by each part of what is owed
module _ (t : Message → Bool) (channel : List ℕ) (x : Side) (n r : ℕ) where
  in_two : (os ps : List Notice) → NoneIs t (messages_of channel os) → NoneIs t (messages_of channel ps)
      → NoneIs t (messages_of channel (os ++ ps))
  in_two os ps f g = subst (NoneIs t) (sym (messages-append channel os ps))
      (none-append t (messages_of channel os) (messages_of channel ps) f g)

  if_any : (b : Bool) (os : List Notice) → NoneIs t (messages_of channel os)
      → NoneIs t (messages_of channel (cond b os []))
  if_any true os h = h
  if_any false os h = tt

  ordered : (l : Bool) (os ps : List Notice) → NoneIs t (messages_of channel os) → NoneIs t (messages_of channel ps)
      → NoneIs t (messages_of channel (cond l (os ++ ps) (ps ++ os)))
  ordered true os ps f g = in_two os ps f g
  ordered false os ps f g = in_two ps os g f

  closes_none : (o : Option ClosingSigned) → ((m : ClosingSigned) → t (message.ClosingSigned m) ≡ false)
      → NoneIs t (messages_of channel (closes_of o))
  closes_none None f = tt
  closes_none (Some m) f = (f m, tt)

  owed_none : t (message.ChannelReady x.ready_message) ≡ false → t (message.RevokeAndAck x.revocation) ≡ false
      → t (message.CommitmentSigned x.signature) ≡ false → ((m : ClosingSigned) → t (message.ClosingSigned m) ≡ false)
      → NoneIs t (messages_of channel (updates_of (drop x.acked.own (take x.signed.own x.own))))
      → NoneIs t (messages_of channel (shutdown_again x)) → NoneIs t (messages_of channel (all_owed n r x))
  owed_none er ev es ec us sh =
      let signed = if_any ((n == x.signatures) && (x.signatures == x.revocations + 1)) (again_signed x)
      (in_two (updates_of (drop x.acked.own (take x.signed.own x.own))) (Sign x.signature ∷ []) us (es, tt)) in
      let revoked = if_any (r + 1 == x.number) (Revoke x.revocation ∷ []) (ev, tt) in
      in_two (ready_again n x) (owed n r x ++ (shutdown_again x ++ closes_of x.close_message))
      (if_any ((x.number == 0) && (n == 1) && x.ready) (Ready x.ready_message ∷ []) (er, tt))
      (in_two (owed n r x) (shutdown_again x ++ closes_of x.close_message)
      (ordered x.late (signature_owed n x) (revocation_owed r x) signed revoked)
      (in_two (shutdown_again x) (closes_of x.close_message) sh (closes_none x.close_message ec)))

module _ (channel : List ℕ) (x : Side) (n r : ℕ) (said : List Message) where
  no_again : x.shut ≡ false → messages_of channel (shutdown_again x) ≡ []
  no_again e = ap (λ b. messages_of channel (cond b (Shutdown x.shut_message ∷ []) [])) e

  shutdown_adds_none : (b : Bool) → NoneIs is_add (messages_of channel (cond b (Shutdown x.shut_message ∷ []) []))
  shutdown_adds_none true = (refl, tt)
  shutdown_adds_none false = tt

  said_by : (s : Bool) → x.shut ≡ s → (x.shut ≡ true → NoneOpens (drop x.acked.own (take x.signed.own x.own)))
      → Said x.shut said → Said x.shut (said ++ messages_of channel (all_owed n r x))
  said_by true e none h = record {
    adds = adds-more false said (messages_of channel (all_owed n r x)) h.adds
        (adds_none (shut_in false said) (messages_of channel (all_owed n r x))
        (owed_none is_add channel x n r refl refl refl (λ m. refl)
        (updates_add_none channel (drop x.acked.own (take x.signed.own x.own)) (none e))
        (shutdown_adds_none x.shut)));
    told = λ f. e;
  }
  said_by false e none h =
      let before : shut_in false said ≡ false = before_by (shut_in false said) h.told in
      let quiet : NoneIs is_shutdown (messages_of channel (all_owed n r x)) =
      owed_none is_shutdown channel x n r refl refl refl (λ m. refl)
      (shutdowns_none channel (drop x.acked.own (take x.signed.own x.own)))
      (subst (NoneIs is_shutdown) (sym (no_again e)) tt) in
      record {
        adds = adds-more false said (messages_of channel (all_owed n r x)) h.adds
            (adds_unshut (shut_in false said) (messages_of channel (all_owed n r x)) before quiet);
        told = λ f. absurd (let no : true ≡ false = sym f ∙ shut-more false said (messages_of channel (all_owed n r x))
            ∙ unshut_still (shut_in false said) (messages_of channel (all_owed n r x)) quiet ∙ before in cc);
      }
    where
      before_by : (s : Bool) → (s ≡ true → x.shut ≡ true) → s ≡ false
      before_by true f = absurd (let no : true ≡ false = sym (f refl) ∙ e in cc)
      before_by false f = refl

  pub said_again : (x.shut ≡ true → NoneOpens (drop x.acked.own (take x.signed.own x.own))) → Said x.shut said
      → Said x.shut (said ++ messages_of channel (all_owed n r x))
  said_again none h = said_by x.shut refl none h
