-- A node's book, as books of nodes change, and follow their ends.
use Rattle.std.proofs.Common.{◌≡◌, ℕ, zero, suc, List, [], ◌∷◌, refl, sym, ap, ◌∙◌, Bool, true, false, cond}
use Rattle.std.proofs.Common.{Option, Some, None}
use Rattle.std.proofs.lemmas.Bool.{eqb-true, eq-eqb}
use Rattle.std.proofs.lemmas.List.Sums.{fold-append}
use Rattle.ln_keys.specs.declared.role.Role.{Role}
use Rattle.ln_forward.specs.declared.checks.Policy.{Policy}
use Rattle.ln_history.specs.History.{with_entry}
use Rattle.ln_channel.specs.End.{End as ChannelEnd}
use Rattle.ln_channel.specs.Record.{saved_end}
use Rattle.ln_channel.specs.State.{State}
use Rattle.ln_world_channels.specs.declared.step.Node.{Node}
use Rattle.ln_world_channels.specs.WorldChannel.{WorldChannel, is_node, place_of, side_of}
use Rattle.ln_world_channels.specs.World.{channel}
use Rattle.ln_book_tables.specs.declared.entry.Entry.{Entry}
use Rattle.ln_book_tables.specs.declared.entry.Entry.TheVariants as entry
use Rattle.ln_book_tables.specs.Replay.{Table, after, table_of}
use Rattle.ln_world.specs.declared.node.NodeBook.{NodeBook}
use Rattle.ln_world.specs.Node.{Book, new_node, node_at, changed}
use Rattle.ln_book.specs.declared.switch.uses.Use.{Use}
use Rattle.ln_book.specs.Uses.{use_of, with_route}
use Rattle.ln_world.specs.Follow.{with_end, with_side, with_channel, followed_below, followed}

-- ---- one entry more

pub one_more : (x : Entry) (b : Book) → table_of (with_entry x b) ≡ after (table_of b) x
one_more x b = fold-append after b.start b.entries (x ∷ [])

-- ---- nodes by their letters

pub letters : (m n : Node) → is_node m n ≡ true → m ≡ n
letters m n e = ap (λ k. record { letter = k }) (eqb-true m.letter n.letter e)

pub itself : (n : Node) → is_node n n ≡ true
itself n = eq-eqb n.letter n.letter refl

pub node_is : (n : Node) (xs : List NodeBook) → (node_at n xs).node ≡ n
node_is n [] = refl
node_is n (x ∷ xs) = cases (is_node x.node n) refl (node_is n xs)
  where
    cases : (b : Bool) → is_node x.node n ≡ b → (node_at n xs).node ≡ n → (cond b x (node_at n xs)).node ≡ n
    cases true e r = letters x.node n e
    cases false e r = r

module _ (f : NodeBook → NodeBook) (same : (x : NodeBook) → (f x).node ≡ x.node) where
  pub own_book : (n : Node) (xs : List NodeBook) → node_at n (changed n f xs) ≡ f (node_at n xs)
  own_book n [] = ap (λ b. cond b (f (new_node n)) (new_node n)) (ap (λ z. is_node z n) (same (new_node n)) ∙ itself n)
  own_book n (x ∷ xs) = cases (is_node x.node n) refl (own_book n xs)
    where
      cases : (b : Bool) → is_node x.node n ≡ b → node_at n (changed n f xs) ≡ f (node_at n xs)
          → node_at n (cond b (f x ∷ xs) (x ∷ changed n f xs)) ≡ f (cond b x (node_at n xs))
      cases true e r = ap (λ b. cond b (f x) (node_at n xs)) (ap (λ z. is_node z n) (same x) ∙ e)
      cases false e r = ap (λ b. cond b x (node_at n (changed n f xs))) e ∙ r

  pub other_book : (m n : Node) → is_node m n ≡ false → (xs : List NodeBook) → node_at n (changed m f xs) ≡ node_at n xs
  other_book m n isnt [] =
      ap (λ b. cond b (f (new_node m)) (new_node n)) (ap (λ z. is_node z n) (same (new_node m)) ∙ isnt)
  other_book m n isnt (x ∷ xs) = cases (is_node x.node m) refl (other_book m n isnt xs)
    where
      apart : is_node x.node m ≡ true → is_node x.node n ≡ false
      apart e = ap (λ z. is_node z n) (letters x.node m e) ∙ isnt

      cases : (b : Bool) → is_node x.node m ≡ b → node_at n (changed m f xs) ≡ node_at n xs
          → node_at n (cond b (f x ∷ xs) (x ∷ changed m f xs)) ≡ cond (is_node x.node n) x (node_at n xs)
      cases true e r = ap (λ b. cond b (f x) (node_at n xs)) (ap (λ z. is_node z n) (same x) ∙ apart e)
          ∙ sym (ap (λ b. cond b x (node_at n xs)) (apart e))
      cases false e r = ap (cond (is_node x.node n) x) r

-- ---- what follows its ends changes in routes and use alone

pub record IsAlike (a b : Book) : Type 0 where
  pub htlcs : (table_of b).htlcs ≡ (table_of a).htlcs
  pub queue : (table_of b).queue ≡ (table_of a).queue
  pub pending_commands : (table_of b).pending_commands ≡ (table_of a).pending_commands

pub alike : (a : Book) → IsAlike a a
alike a = record { htlcs = refl; queue = refl; pending_commands = refl }

pub alike_then : (a b c : Book) → IsAlike a b → IsAlike b c → IsAlike a c
alike_then a b c h k = record {
  htlcs = k.htlcs ∙ h.htlcs;
  queue = k.queue ∙ h.queue;
  pending_commands = k.pending_commands ∙ h.pending_commands;
}

pub entry_alike : (x : Entry) (b : Book) → (after (table_of b) x).htlcs ≡ (table_of b).htlcs
    → (after (table_of b) x).queue ≡ (table_of b).queue
    → (after (table_of b) x).pending_commands ≡ (table_of b).pending_commands
    → IsAlike b (with_entry x b)
entry_alike x b h q d = record {
  htlcs = ap (λ (t : Table). t.htlcs) (one_more x b) ∙ h;
  queue = ap (λ (t : Table). t.queue) (one_more x b) ∙ q;
  pending_commands = ap (λ (t : Table). t.pending_commands) (one_more x b) ∙ d;
}

route_alike : (p : Policy) (u : Use) (o : Option (List ℕ)) (b : Book) → IsAlike b (with_route p u o b)
route_alike p u None b = alike b
route_alike p u (Some id) b = entry_alike _ b refl refl refl

module _ {K : Type 0} where
  end_alike : (p : Policy) (l : State K) (o : Option ChannelEnd) (b : Book) → IsAlike b (with_end p l o b)
  end_alike p l None b = alike b
  end_alike p l (Some e) b =
      let u = use_of l e in
      let c = with_route p u u.short_id b in
      alike_then b c (with_entry (entry.Use u.channel u.takes) c) (route_alike p u u.short_id b)
      (entry_alike (entry.Use u.channel u.takes) c refl refl refl)

  side_alike : (p : Policy) (c : WorldChannel K) (o : Option Role) (b : Book) → IsAlike b (with_side p c o b)
  side_alike p c None b = alike b
  side_alike p c (Some side) b = end_alike p (place_of side c.both).link (saved_end (place_of side c.both).link.stage) b

  channel_alike : (n : Node) (p : Policy) (o : Option (WorldChannel K)) (b : Book) → IsAlike b (with_channel n p o b)
  channel_alike n p None b = alike b
  channel_alike n p (Some c) b = side_alike p c (side_of n c) b

  below_alike : (m : ℕ) (n : Node) (p : Policy) (cs : List (WorldChannel K)) (b : Book)
      → IsAlike b (followed_below m n p cs b)
  unfolding followed_below
  below_alike zero n p cs b = alike b
  below_alike (suc m) n p cs b =
      let c = followed_below m n p cs b in
      alike_then b c (with_channel n p (channel m cs) c) (below_alike m n p cs b) (channel_alike n p (channel m cs) c)

  pub follow_alike : (cs : List (WorldChannel K)) (x : NodeBook) → IsAlike x.book (followed cs x).book
  follow_alike cs x = below_alike 256 x.node x.policy cs x.book
