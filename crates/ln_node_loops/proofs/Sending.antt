-- The frames of messages one after the other, and why they aren't sent.
use Rattle.std.proofs.Common.{◌≡◌, ◌++◌, ◌∷◌, [], List, refl, sym, ap, ◌∙◌, ℕ, ◌+◌, ◌<◌, length, take, drop, subst}
use Rattle.std.proofs.Common.{inl, inr, ◌⊎◌, Option, Result, Ok, Err, take-append-drop}
use Rattle.std.proofs.Math.ListN.{get_or}
use Rattle.std.proofs.lemmas.List.{take_more, append_assoc}
use Rattle.std.proofs.lemmas.Grind.{flat_map-append}
use Rattle.ln_refusals.specs.declared.refusal.Refusal.{Refusal}
use Rattle.ln_bytes.specs.declared.fault.Fault.{Fault}
use Rattle.ln_bytes.specs.declared.fault.Fault.TheVariants as fault
use Rattle.ln_refusals.specs.Refusal.{refusal_of}
use Rattle.ln_msgs.specs.Messages.Message.{Wire, wire_bytes}
use Rattle.ln_msgs.specs.Messages.Typed.{wire}
use Rattle.ln_channel.specs.declared.output.Output.{Output}
use Rattle.ln_channel.specs.declared.output.Output.TheVariants as output
use Rattle.ln_node_loops.specs.Connection.{Latest, Wrote, Broke, Delivers}
use Rattle.ln_node_loops.specs.Sent.{frame_of, frames_of, sent}
use Rattle.ln_node_loops.specs.Turn.{HasUnsendable, SendsNone, Goes}

sent-append : (os ps : List Output) → sent (os ++ ps) ≡ sent os ++ sent ps
sent-append [] ps = refl
sent-append (output.Send m ∷ os) ps = ap (λ l. wire m ∷ l) (sent-append os ps)
sent-append (output.Signed n ∷ os) ps = sent-append os ps
sent-append (output.Committed own peer ∷ os) ps = sent-append os ps
sent-append (output.Event n e ∷ os) ps = sent-append os ps
sent-append (output.Closed fee ∷ os) ps = sent-append os ps

-- one more output
sent-more : (os : List Output) (o : Output)
    → frames_of (sent (os ++ o ∷ [])) ≡ frames_of (sent os) ++ frames_of (sent (o ∷ []))
sent-more os o = ap frames_of (sent-append os (o ∷ [])) ∙ flat_map-append frame_of (sent os) (sent (o ∷ []))

-- one more of a list
pub sent-turn : (first out out' : List ℕ) (os : List Output) (i : ℕ) (o : Output) → i < length os → o ≡ get_or os i o
    → out ≡ first ++ frames_of (sent (take i os)) → out' ≡ out ++ frames_of (sent (o ∷ []))
    → out' ≡ first ++ frames_of (sent (take (i + 1) os))
sent-turn first out out' os i o within is before now =
    now ∙ ap (λ l. l ++ frames_of (sent (o ∷ []))) before
    ∙ append_assoc first (frames_of (sent (take i os))) (frames_of (sent (o ∷ [])))
    ∙ ap (λ l. first ++ l) (sym (sent-more (take i os) o))
    ∙ ap (λ l. first ++ frames_of (sent l)) (ap (λ x. take i os ++ x ∷ []) is ∙ sym (take_more os i o within))

-- the frames of two lists
pub framed : (ws us : List Wire) (none out out' : List ℕ) → none ≡ [] → out ≡ none ++ frames_of ws
    → out' ≡ out ++ frames_of us → out' ≡ frames_of (ws ++ us)
framed ws us none out out' begin first then =
    then ∙ ap (λ l. l ++ frames_of us) (first ∙ ap (λ l. l ++ frames_of ws) begin)
    ∙ sym (flat_map-append frame_of ws us)

-- ---- why none is sent

unsendable-first : (ws us : List Wire) → HasUnsendable ws → HasUnsendable (ws ++ us)
unsendable-first [] us none = elim none [ ]
unsendable-first (w ∷ ws) us (inl this) = inl this
unsendable-first (w ∷ ws) us (inr other) = inr (unsendable-first ws us other)

unsendable-then : (ws us : List Wire) → HasUnsendable us → HasUnsendable (ws ++ us)
unsendable-then [] us some = some
unsendable-then (w ∷ ws) us some = inr (unsendable-then ws us some)

pub none-first : (ws us : List Wire) (r : Refusal) → SendsNone ws r → SendsNone (ws ++ us) r
none-first ws us r (inl memory) = inl memory
none-first ws us r (inr (is, some)) = inr (is, unsendable-first ws us some)

pub none-then : (ws us : List Wire) (r : Refusal) → SendsNone us r → SendsNone (ws ++ us) r
none-then ws us r (inl memory) = inl memory
none-then ws us r (inr (is, some)) = inr (is, unsendable-then ws us some)

-- a message that wasn't encoded
pub unwritten : (w : Wire) (f : Fault) (r : Refusal) → r ≡ refusal_of f → (f ≡ fault.TooLong) ⊎ (f ≡ fault.Memory)
    → (f ≡ fault.TooLong → 65535 < length (wire_bytes w)) → SendsNone (w ∷ []) r
unwritten w f r is (inl long) over = inr (is ∙ ap refusal_of long, inl (inl (over long)))
unwritten w f r is (inr memory) over = inl (is ∙ ap refusal_of memory)

-- one of a list isn't sent, so none of it is
pub none-of : (os : List Output) (i : ℕ) (o : Output) (r : Refusal) → i < length os → o ≡ get_or os i o
    → SendsNone (sent (o ∷ [])) r → SendsNone (sent os) r
none-of os i o r within is none =
    let so_far : SendsNone (sent (take i os ++ o ∷ [])) r = subst (λ ws. SendsNone ws r)
    (sym (sent-append (take i os) (o ∷ []))) (none-then (sent (take i os)) (sent (o ∷ [])) r none) in
    let with_it : SendsNone (sent (take (i + 1) os)) r = subst (λ l. SendsNone (sent l) r)
    (ap (λ x. take i os ++ x ∷ []) is ∙ sym (take_more os i o within)) so_far in
    subst (λ l. SendsNone (sent l) r) (take-append-drop (i + 1) os)
    (subst (λ ws. SendsNone ws r) (sym (sent-append (take (i + 1) os) (drop (i + 1) os)))
    (none-first (sent (take (i + 1) os)) (sent (drop (i + 1) os)) r with_it))

-- ---- what becomes of them

pub delivered : (ws : List Wire) (bytes : List ℕ) (written : Result (Unit {0}) Refusal)
    (connection connection' : Latest)
    → bytes ≡ frames_of ws → Delivers bytes written connection connection' → Goes ws written connection connection'
delivered ws bytes (Ok u) connection connection' are all = subst (Wrote connection connection') are all
delivered ws bytes (Err e) c c' are (io, some) = inr (io, subst (Broke c c') are some)
