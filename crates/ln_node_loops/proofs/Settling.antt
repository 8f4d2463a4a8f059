-- What the book is told, one thing after the other.
use Rattle.std.proofs.Common.{◌≡◌, ◌++◌, ◌∷◌, [], ℕ, ◌+◌, ◌<◌, List, length, take, refl, sym, ap, ◌∙◌, append-nil}
use Rattle.std.proofs.Math.ListN.{get_or}
use Rattle.std.proofs.lemmas.List.{take_more, append_assoc}
use Rattle.ln_hooks.specs.declared.event.ChannelEvent.{ChannelEvent}
use Rattle.ln_channel.specs.declared.output.Output.{Output}
use Rattle.ln_channel.specs.declared.output.Output.TheVariants as output
use Rattle.ln_book.specs.declared.switch.saying.Saying.{Saying}
use Rattle.ln_node_loops.specs.Owed.{settled_word, settled_words}
use Rattle.ln_node_loops.specs.Turns.{events}

events-append : (os ps : List Output) → events (os ++ ps) ≡ events os ++ events ps
events-append [] ps = refl
events-append (output.Send m ∷ os) ps = events-append os ps
events-append (output.Signed n ∷ os) ps = events-append os ps
events-append (output.Committed own peer ∷ os) ps = events-append os ps
events-append (output.Event n e ∷ os) ps = ap (λ l. (n, e) ∷ l) (events-append os ps)
events-append (output.Closed fee ∷ os) ps = events-append os ps

words-append : (c : List ℕ) (xs ys : List (ℕ × ChannelEvent))
    → settled_words c (xs ++ ys) ≡ settled_words c xs ++ settled_words c ys
words-append c [] ys = refl
words-append c ((n, e) ∷ xs) ys =
    ap (λ l. settled_word c e ++ l) (words-append c xs ys)
    ∙ sym (append_assoc (settled_word c e) (settled_words c xs) (settled_words c ys))

-- one output more
pub outputs-turn : (c : List ℕ) (first said next : List Saying) (os : List Output) (i : ℕ) (o : Output)
    → i < length os → o ≡ get_or os i o → said ≡ first ++ settled_words c (events (take i os))
    → next ≡ said ++ settled_words c (events (o ∷ []))
    → next ≡ first ++ settled_words c (events (take (i + 1) os))
outputs-turn c first said next os i o within is before now =
    now ∙ ap (λ l. l ++ settled_words c (events (o ∷ []))) before
    ∙ append_assoc first (settled_words c (events (take i os))) (settled_words c (events (o ∷ [])))
    ∙ ap (λ l. first ++ l) (sym (words-append c (events (take i os)) (events (o ∷ []))))
    ∙ ap (λ l. first ++ settled_words c l) (sym (events-append (take i os) (o ∷ [])))
    ∙ ap (λ l. first ++ settled_words c (events l))
    (ap (λ x. take i os ++ x ∷ []) is ∙ sym (take_more os i o within))

-- one event more
pub events-turn : (c : List ℕ) (first said next : List Saying) (es : List (ℕ × ChannelEvent)) (i : ℕ)
    (x : ℕ × ChannelEvent)
    → i < length es → x ≡ get_or es i x → said ≡ first ++ settled_words c (take i es)
    → next ≡ said ++ settled_word c x.1 → next ≡ first ++ settled_words c (take (i + 1) es)
events-turn c first said next es i x within is before now =
    now ∙ ap (λ l. l ++ settled_word c x.1) before
    ∙ append_assoc first (settled_words c (take i es)) (settled_word c x.1)
    ∙ ap (λ l. first ++ (settled_words c (take i es) ++ l)) (sym (append-nil (settled_word c x.1)))
    ∙ ap (λ l. first ++ l) (sym (words-append c (take i es) (x ∷ [])))
    ∙ ap (λ l. first ++ settled_words c l) (ap (λ y. take i es ++ y ∷ []) is ∙ sym (take_more es i x within))
