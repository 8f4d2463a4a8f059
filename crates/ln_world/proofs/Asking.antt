-- What a book is asked for an end, by the id of the end's channel.
use Rattle.std.proofs.Common.{◌≡◌, ℕ, List, Option, Some, None, cond, set, get_or, position, sym, refl, ap, ◌∙◌}
use Rattle.std.proofs.Common.{option_map}
use Rattle.ln_hooks.specs.declared.event.ChannelEvent.{ChannelEvent}
use Rattle.ln_hooks.specs.declared.verdict.Verdict.{Verdict}
use Rattle.ln_world_channels.specs.declared.step.End.{End}
use Rattle.ln_book_tables.specs.declared.entry.Entry.TheVariants as entry
use Rattle.ln_history.specs.History.{with_entry}
use Rattle.ln_book_tables.specs.Replay.{table_of}
use Rattle.ln_book.specs.Commands.{first_command, with_taken}
use Rattle.ln_log.specs.declared.mark.Mark.{Mark}
use Rattle.ln_world_channels.specs.WorldChannel.{is_node}
use Rattle.ln_world_dispatch.proofs.Found.{nowhere}
use Rattle.ln_book.specs.Marks.{offer_of, decision, resumption}
use Rattle.ln_world.specs.declared.node.NodeBook.{NodeBook}
use Rattle.ln_world.specs.Node.{Book, services, new_node, node_at}
use Rattle.ln_world.specs.World.{id_of, book_of, command_in, handed, handed_or, handed_out}
use Rattle.ln_world.specs.World.{with_decision, with_resumed, resuming}
use Rattle.ln_world.proofs.Places.{there, set_at, puts}

pub asks : (e : End) (id : List ℕ) (b c : Book) → id ≡ id_of e → b ≡ c
    → option_map (λ x. x.1) (first_command services id (table_of b)) ≡ command_in e c
asks e id b c h i =
    ap (λ x. option_map (λ y. y.1) (first_command services x (table_of b))) h
    ∙ ap (λ x. option_map (λ y. y.1) (first_command services (id_of e) (table_of x))) i

pub hands : (e : End) (id : List ℕ) (b c : Book) → id ≡ id_of e → b ≡ c
    → with_taken id (first_command services id (table_of b)) b ≡ handed e c
hands e id b c h i =
    ap (λ x. with_taken x (first_command services x (table_of b)) b) h
    ∙ ap (λ x. with_taken (id_of e) (first_command services (id_of e) (table_of x)) x) i

pub decides : (e : End) (id : List ℕ) (b c : Book) (n : ℕ) (event : ChannelEvent) (v : Verdict) → id ≡ id_of e → b ≡ c
    → with_entry (entry.Decided (decision services (table_of b) id n (offer_of event) v)) b
    ≡ with_decision e (n, event, v) c
decides e id b c n event v h i =
    ap (λ x. with_entry (entry.Decided (decision services (table_of b) x n (offer_of event) v)) b) h
    ∙ ap (λ x. with_decision e (n, event, v) x) i

-- ---- what is held is resumed

-- a book that knows of what is held enters the mark, and is asked then
pub resumes : (e : End) (id : List ℕ) (b c : Book) (n : ℕ) (v : Verdict) (m : Mark) → id ≡ id_of e
    → resumption services (table_of b) id n v ≡ Some m
    → c ≡ with_entry (entry.Resumed (record { channel = id; event = n; mark = m })) b → resuming e n v b ≡ Some c
resumes e id b c n v m h is same =
    ap (λ x. option_map (with_resumed e n b) (resumption services (table_of b) x n v)) (sym h)
    ∙ ap (λ o. option_map (with_resumed e n b) o) is
    ∙ ap (λ x. Some (with_entry (entry.Resumed (record { channel = x; event = n; mark = m })) b)) (sym h)
    ∙ ap Some (sym same)

-- or is asked for nothing
pub refuses : (e : End) (id : List ℕ) (b : Book) (n : ℕ) (v : Verdict) → id ≡ id_of e
    → resumption services (table_of b) id n v ≡ None → resuming e n v b ≡ None
refuses e id b n v h is =
    ap (λ x. option_map (with_resumed e n b) (resumption services (table_of b) x n v)) (sym h)
    ∙ ap (λ o. option_map (with_resumed e n b) o) is

-- nothing is held at a node of which nothing was said
pub nothing_held : (e : End) (n : ℕ) (v : Verdict) (xs : List NodeBook)
    → position (λ x. is_node x.node e.node) xs ≡ None → resuming e n v (book_of e xs) ≡ None
nothing_held e n v xs is =
    ap (λ (x : NodeBook). resuming e n v x.book)
    (nowhere (λ (x : NodeBook). is_node x.node e.node) (λ l. node_at e.node l ≡ new_node e.node) refl
    (λ x l h same. ap (λ t. cond t x (node_at e.node l)) h ∙ same) xs is)

-- what the book at a node's place becomes
pub handed_at : (e : End) (o : Option Book) (xs : List NodeBook) (i : ℕ) (d r : NodeBook) (b : Book)
    → Some i ≡ position (λ x. is_node x.node e.node) xs → r ≡ get_or xs i d → b ≡ handed_or e o r.book
    → set xs i (record { node = r.node; policy = r.policy; book = b }) ≡ handed_out e o xs
handed_at e None xs i d r b is at h =
    ap (λ c. set xs i (record { node = r.node; policy = r.policy; book = c })) h
    ∙ ap (λ x. set xs i x) at ∙ set_at e.node (λ x. x) xs i d is ∙ sym (there e.node xs i is)
handed_at e (Some c) xs i d r b is at h =
    puts e.node (handed e c) xs xs i d r b (there e.node xs i is) (sym is) at h
