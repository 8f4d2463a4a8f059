-- What a book commands a channel about an HTLC is what the machine of a payment asks for.
use Rattle.std.proofs.Common.{◌≡◌, inl, inr, ℕ, List, [], ◌∷◌, refl, sym, ap, ◌∙◌, subst, Bool, true, false, cond, not}
use Rattle.std.proofs.Common.{◌&&◌, Option, Some, None}
use Rattle.std.proofs.lemmas.Bool.{and_parts}
use Rattle.ln_log.specs.declared.mark.Mark.{Mark as LogMark}
use Rattle.ln_log.specs.declared.mark.Mark.TheVariants as mark
use Rattle.ln_channel.specs.declared.command.Command.{Command}
use Rattle.ln_channel.specs.declared.command.Command.TheVariants as command
use Rattle.ln_book_tables.specs.declared.htlc.Key.{Key}
use Rattle.ln_book_tables.specs.declared.htlc.OutgoingLeg.{OutgoingLeg as BookOutgoing}
use Rattle.ln_book_tables.specs.declared.htlc.OutgoingLeg.TheVariants as outgoing
use Rattle.ln_book_tables.specs.declared.htlc.IncomingLeg.{IncomingLeg as BookIncoming}
use Rattle.ln_book_tables.specs.declared.htlc.IncomingLeg.TheVariants as incoming
use Rattle.ln_book_tables.specs.declared.htlc.Htlc.{Htlc}
use Rattle.ln_book_tables.specs.declared.entry.Out.{Out}
use Rattle.ln_book_tables.specs.declared.entry.Out.TheVariants as out
use Rattle.ln_book_tables.specs.Replay.{same, is_settled, has_nothing_offered, is_open}
use Rattle.ln_book_tables.specs.Due.{has_removal}
use Rattle.ln_keys.specs.Services.{Services}
use Rattle.ln_book.specs.Commands.{due, command_of, command_by, first_due, or_next, with_out, is_resolved_in}
use Rattle.ln_book.specs.Commands.{forwards_in}
use Rattle.ln_book.specs.Commands.{removal_by, removal_by_outgoing, removal_resolved}
use Rattle.ln_book.specs.Commands.{forget_by}
use Rattle.ln_payment.specs.Parts.{Kind, Fulfils, Fails, Forward, Answer, OutgoingLeg, Absent, Refused, Offered}
use Rattle.ln_payment.specs.Parts.{Resolved}
use Rattle.ln_payment.specs.Parts.{IncomingLeg, Open, RemovalSent, RemovalRefused, Settled, Note}
use Rattle.ln_payment.specs.Moves as move
use Rattle.ln_payment_circuits.specs.Snapshot.{IsIn}
use Rattle.ln_payment_circuits.proofs.Links.{mark_as}
use Rattle.ln_payment_circuits.proofs.Removing.{IsRemoval, given, over_removes}
use Rattle.ln_payment_circuits.proofs.Entries.{same_is, kind_of, incoming_as, IsOutgoingOf, IsNoteOf}

-- ---- the first that is due is of an HTLC of the book

pub record IsDue (s : Services) (c : List ℕ) (xs : List Htlc) (o : Out) (x : Command) : Type 0 where
  pub htlc : Htlc
  pub among : IsIn htlc xs
  pub due_is : due c htlc ≡ Some o
  pub command : command_of s htlc o ≡ Some x

out_is : (o p : Out) (a : Option Command) (x : Command) → with_out o a ≡ Some (p, x) → (o ≡ p) × (a ≡ Some x)
out_is o p None x e = absurd (cc)
out_is o p (Some y) x e =
    let pair : ◌≡◌ {A = Out × Command} (o, y) (p, x) = cc in
    (ap (λ (z : Out × Command). z.0) pair, ap (λ (z : Out × Command). Some z.1) pair)

pub first_is : (s : Services) (c : List ℕ) (xs : List Htlc) (o : Out) (x : Command)
    → first_due s c xs ≡ Some (o, x) → IsDue s c xs o x
first_is s c [] o x e = absurd (cc)
first_is s c (h ∷ hs) o x e = cases (command_by s h (due c h)) refl e (λ r. first_is s c hs o x r)
  where
    later : IsDue s c hs o x → IsDue s c (h ∷ hs) o x
    later r = record { htlc = r.htlc; among = inr r.among; due_is = r.due_is; command = r.command }

    here : (d : Option Out) → due c h ≡ d → command_by s h d ≡ Some (o, x) → IsDue s c (h ∷ hs) o x
    here None is f = absurd (cc)
    here (Some p) is f =
        let q = out_is p o (command_of s h p) x f in
        record {
          htlc = h;
          among = inl refl;
          due_is = is ∙ ap Some q.0;
          command = ap (command_of s h) (sym q.0) ∙ q.1;
        }

    cases : (a : Option (Out × Command)) → command_by s h (due c h) ≡ a → or_next a (first_due s c hs) ≡ Some (o, x)
        → (first_due s c hs ≡ Some (o, x) → IsDue s c hs o x) → IsDue s c (h ∷ hs) o x
    cases None is f rest = later (rest f)
    cases (Some y) is f rest =
        let same_pair : ◌≡◌ {A = Out × Command} y (o, x) = cc in
        here (due c h) refl (is ∙ ap Some same_pair)

-- ---- which it is

-- the tests in their order
pub data IsDueBy (c : List ℕ) (h : Htlc) (o : Out) : Type 0 where
  Forgets : (decided : h.decided ≡ true) (settled : is_settled h.incoming
      ≡ true) (over : is_resolved_in c h.outgoing ≡ true)
      (is : o ≡ out.Forgetting h.key) → IsDueBy c h o
  Offers : (decided : h.decided ≡ true) (unsettled : is_settled h.incoming
      ≡ false) (nowhere : has_nothing_offered h.outgoing ≡ true)
      (forwards : forwards_in c h.mark ≡ true) (is : o ≡ out.Adding h.key) → IsDueBy c h o
  Removes : (decided : h.decided ≡ true) (told : has_removal h.mark h.outgoing
      ≡ true) (open_still : is_open h.incoming ≡ true)
      (here : same c h.key.channel ≡ true) (is : o ≡ out.Removing h.key) → IsDueBy c h o

pub due_by : (c : List ℕ) (h : Htlc) (o : Out) → due c h ≡ Some o → IsDueBy c h o
due_by c h o e = decided h.decided refl e
  where
    third : (d : h.decided ≡ true) (b : Bool) → (has_removal h.mark h.outgoing &&
        (is_open h.incoming && same c h.key.channel)) ≡ b
        → cond b (Some (out.Removing h.key)) None ≡ Some o → IsDueBy c h o
    third d true is f =
        let p = and_parts (has_removal h.mark h.outgoing) (is_open h.incoming && same c h.key.channel) is in
        let q = and_parts (is_open h.incoming) (same c h.key.channel) p.1 in
        let o_is : out.Removing h.key ≡ o = cc in
        Removes d p.0 q.0 q.1 (sym o_is)
    third d false is f = absurd (cc)

    second : (d : h.decided ≡ true) → is_settled h.incoming ≡ false → (b : Bool)
        → (has_nothing_offered h.outgoing && forwards_in c h.mark) ≡ b
        → cond b (Some (out.Adding h.key)) (cond (has_removal h.mark h.outgoing &&
        (is_open h.incoming && same c h.key.channel))
        (Some (out.Removing h.key)) None) ≡ Some o → IsDueBy c h o
    second d u true is f =
        let p = and_parts (has_nothing_offered h.outgoing) (forwards_in c h.mark) is in
        let o_is : out.Adding h.key ≡ o = cc in
        Offers d u p.0 p.1 (sym o_is)
    second d u false is f = third d (has_removal h.mark h.outgoing &&
        (is_open h.incoming && same c h.key.channel)) refl f

    over : (d : h.decided ≡ true) → is_settled h.incoming ≡ true → (b : Bool) → is_resolved_in c h.outgoing ≡ b
        → cond b (Some (out.Forgetting h.key)) None ≡ Some o → IsDueBy c h o
    over d u true is f = let o_is : out.Forgetting h.key ≡ o = cc in Forgets d u is (sym o_is)
    over d u false is f = absurd (cc)

    first : (d : h.decided ≡ true) → (b : Bool) → is_settled h.incoming ≡ b
        → cond b (cond (is_resolved_in c h.outgoing) (Some (out.Forgetting h.key)) None)
        (cond (has_nothing_offered h.outgoing && forwards_in c h.mark) (Some (out.Adding h.key))
        (cond (has_removal h.mark h.outgoing && (is_open h.incoming && same c h.key.channel))
        (Some (out.Removing h.key)) None)) ≡ Some o
        → IsDueBy c h o
    first d true is f = over d is (is_resolved_in c h.outgoing) refl f
    first d false is f = second d is (has_nothing_offered h.outgoing && forwards_in c h.mark) refl f

    decided : (b : Bool) → h.decided ≡ b
        → cond (not b) None (cond (is_settled h.incoming) (cond (is_resolved_in c h.outgoing) (Some
        (out.Forgetting h.key)) None)
        (cond (has_nothing_offered h.outgoing && forwards_in c h.mark) (Some (out.Adding h.key))
        (cond (has_removal h.mark h.outgoing && (is_open h.incoming && same c h.key.channel))
        (Some (out.Removing h.key)) None))) ≡ Some o
        → IsDueBy c h o
    decided true is f = first is (is_settled h.incoming) refl f
    decided false is f = absurd (cc)

pub forgets_so : (w : BookOutgoing) (y : Command) → forget_by w ≡ Some y → (j : ℕ) × (y ≡ command.Forget j)
forgets_so outgoing.Absent y e = absurd (cc)
forgets_so outgoing.Refused y e = absurd (cc)
forgets_so (outgoing.Offered k) y e = absurd (cc)
forgets_so (outgoing.Resolved k h) y e = let same_command : command.Forget k.id ≡ y = cc in (k.id, sym same_command)

-- ---- what the machine asks for

pub nothing_offered_so : (id_of : ℕ → List ℕ) (v : BookOutgoing) (w : OutgoingLeg) → IsOutgoingOf id_of v w
    → has_nothing_offered v ≡ true → w ≡ Absent
nothing_offered_so id_of outgoing.Absent Absent i f = refl
nothing_offered_so id_of outgoing.Absent Refused i f = absurd i
nothing_offered_so id_of outgoing.Absent (Offered c j) i f = absurd i
nothing_offered_so id_of outgoing.Absent (Resolved c j k) i f = absurd i
nothing_offered_so id_of outgoing.Refused w i f = absurd (cc)
nothing_offered_so id_of (outgoing.Offered k) w i f = absurd (cc)
nothing_offered_so id_of (outgoing.Resolved k h) w i f = absurd (cc)

module _ (id_of : ℕ → List ℕ) (x : Htlc) (n : Note) (is : IsNoteOf id_of x n) where
  settled_so : is_settled x.incoming ≡ true → n.incoming ≡ Settled
  settled_so e = cases x.incoming is.incoming e
    where
      cases : (b : BookIncoming) → incoming_as b ≡ n.incoming → is_settled b ≡ true → n.incoming ≡ Settled
      cases incoming.Open f g = absurd (cc)
      cases incoming.RemovalSent f g = absurd (cc)
      cases incoming.RemovalRefused f g = absurd (cc)
      cases incoming.Settled f g = sym f

  -- a result is forgotten where the incoming HTLC is settled
  pub asks_to_forget : is_settled x.incoming ≡ true → move.IsSettled (Some n)
  asks_to_forget e = settled_so e

  forward_so : (c : List ℕ) → forwards_in c x.mark ≡ true → n.mark ≡ Forward
  forward_so c e = cases x.mark is.mark e
    where
      cases : (m : LogMark) → mark_as m ≡ Some n.mark → forwards_in c m ≡ true → n.mark ≡ Forward
      cases mark.None f g = absurd (cc)
      cases (mark.Forward channel amount expiry) f g = let e : Forward ≡ n.mark = cc in sym e
      cases (mark.Fail reason) f g = absurd (cc)
      cases (mark.Malformed code) f g = absurd (cc)
      cases (mark.Fulfil preimage) f g = absurd (cc)
      cases (mark.Held event) f g = absurd (cc)

  unsettled : is_settled x.incoming ≡ false → n.incoming ≡ Settled → ⊥
  unsettled e f = cases x.incoming is.incoming e
    where
      cases : (b : BookIncoming) → incoming_as b ≡ n.incoming → is_settled b ≡ false → ⊥
      cases incoming.Open g h = absurd (let no : Open ≡ Settled = g ∙ f in cc)
      cases incoming.RemovalSent g h = absurd (let no : RemovalSent ≡ Settled = g ∙ f in cc)
      cases incoming.RemovalRefused g h = absurd (let no : RemovalRefused ≡ Settled = g ∙ f in cc)
      cases incoming.Settled g h = absurd (cc)

  -- an HTLC goes out
  pub asks_to_offer : (c : List ℕ) → is_settled x.incoming ≡ false → has_nothing_offered x.outgoing ≡ true
      → forwards_in c x.mark ≡ true
      → move.Offers (Some n)
  asks_to_offer c u v f =
      subst (λ m. move.AsksToOffer m n.outgoing n.incoming) (sym (forward_so c f))
      (subst (λ w. move.AsksToOffer Forward w n.incoming) (sym
      (nothing_offered_so id_of x.outgoing n.outgoing is.outgoing v))
      (cases n.incoming (unsettled u)))
    where
      cases : (b : IncomingLeg) → (b ≡ Settled → ⊥) → move.AsksToOffer Forward Absent b
      cases Open g = tt
      cases RemovalSent g = tt
      cases RemovalRefused g = tt
      cases Settled g = absurd (g refl)

module _ (id_of : ℕ → List ℕ) (s : Services) (x : Htlc) (n : Note) (is : IsNoteOf id_of x n) where
  open_so : is_open x.incoming ≡ true → n.incoming ≡ Open
  open_so e = cases x.incoming is.incoming e
    where
      cases : (b : BookIncoming) → incoming_as b ≡ n.incoming → is_open b ≡ true → n.incoming ≡ Open
      cases incoming.Open f g = sym f
      cases incoming.RemovalSent f g = absurd (cc)
      cases incoming.RemovalRefused f g = absurd (cc)
      cases incoming.Settled f g = absurd (cc)

  outgoing_so : (v : BookOutgoing) (w : OutgoingLeg) → IsOutgoingOf id_of v w → (c : Command)
      → removal_by_outgoing s x v ≡ Some c
      → (k : Kind) × IsRemoval x.key.id k c × move.IsAnswer k Forward w
  outgoing_so outgoing.Absent w i c e = absurd (cc)
  outgoing_so outgoing.Refused Absent i c e = absurd i
  outgoing_so outgoing.Refused Refused i c e = (Fails, given x.key.id Fails _ c e (refl, refl), refl)
  outgoing_so outgoing.Refused (Offered d j) i c e = absurd i
  outgoing_so outgoing.Refused (Resolved d j k) i c e = absurd i
  outgoing_so (outgoing.Offered k) w i c e = absurd (cc)
  outgoing_so (outgoing.Resolved k h) Absent i c e = absurd i
  outgoing_so (outgoing.Resolved k h) Refused i c e = absurd i
  outgoing_so (outgoing.Resolved k h) (Offered d j) i c e = absurd i
  outgoing_so (outgoing.Resolved k h) (Resolved d j m) i c e = (
    kind_of h,
    given x.key.id (kind_of h) (removal_resolved s x h) c e (over_removes s x h),
    sym i.1,
  )

  mark_so : (m : LogMark) → mark_as m ≡ Some n.mark → (c : Command) → removal_by s x m ≡ Some c
      → (k : Kind) × IsRemoval x.key.id k c × move.IsAnswer k n.mark n.outgoing
  mark_so mark.None f c e = absurd (cc)
  mark_so (mark.Forward channel amount expiry) f c e =
      let m_is : Forward ≡ n.mark = cc in
      let r = outgoing_so x.outgoing n.outgoing is.outgoing c e in
      (r.0, r.1, subst (λ z. move.IsAnswer r.0 z n.outgoing) m_is r.2)
  mark_so (mark.Fail reason) f c e =
      let m_is : Answer Fails ≡ n.mark = cc in
      (Fails, given x.key.id Fails _ c e (refl, refl), subst (λ z. move.IsAnswer Fails z n.outgoing) m_is refl)
  mark_so (mark.Malformed code) f c e =
      let m_is : Answer Fails ≡ n.mark = cc in
      (Fails, given x.key.id Fails _ c e (refl, refl), subst (λ z. move.IsAnswer Fails z n.outgoing) m_is refl)
  mark_so (mark.Fulfil preimage) f c e =
      let m_is : Answer Fulfils ≡ n.mark = cc in
      (Fulfils, given x.key.id Fulfils _ c e (refl, refl), subst (λ z. move.IsAnswer Fulfils z n.outgoing) m_is refl)
  mark_so (mark.Held event) f c e = absurd (cc)

  -- the HTLC that came in is removed as the machine asks
  pub asks_to_remove : (c : Command) → is_open x.incoming ≡ true → removal_by s x x.mark ≡ Some c
      → (k : Kind) × IsRemoval x.key.id k c × move.Removes k (Some n)
  asks_to_remove c o e =
      let r = mark_so x.mark is.mark c e in
      (r.0, r.1, subst (λ b. move.AsksToRemove r.0 n.mark n.outgoing b) (sym (open_so o)) r.2)

  -- what is forgotten is of the outgoing HTLC
  pub asks_of : (d : List ℕ) → is_resolved_in d x.outgoing ≡ true → (c : Command) → forget_by x.outgoing ≡ Some c
      → (e : ℕ) × (j : ℕ) × (k : Kind) × (n.outgoing ≡ Resolved e j k) × (d ≡ id_of e) × (c ≡ command.Forget j)
  asks_of d o c f = cases x.outgoing n.outgoing is.outgoing o f
    where
      cases : (v : BookOutgoing) (w : OutgoingLeg) → IsOutgoingOf id_of v w → is_resolved_in d v ≡ true
          → forget_by v ≡ Some c
          → (e : ℕ) × (j : ℕ) × (k : Kind) × (w ≡ Resolved e j k) × (d ≡ id_of e) × (c ≡ command.Forget j)
      cases outgoing.Absent w i o f = absurd (cc)
      cases outgoing.Refused w i o f = absurd (cc)
      cases (outgoing.Offered k) w i o f = absurd (cc)
      cases (outgoing.Resolved k h) Absent i o f = absurd i
      cases (outgoing.Resolved k h) Refused i o f = absurd i
      cases (outgoing.Resolved k h) (Offered e j) i o f = absurd i
      cases (outgoing.Resolved k h) (Resolved e j m) i o f =
          let c_is : command.Forget k.id ≡ c = cc in (
            e,
            j,
            m,
            refl,
            same_is d k.channel o ∙ ap (λ (z : Key). z.channel) i.0,
            sym c_is ∙ ap (λ (z : Key). command.Forget z.id) i.0,
          )
