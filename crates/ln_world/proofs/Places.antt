-- A node's place among those of which something was said, and what becomes of it there.
use Rattle.std.proofs.Common.{◌≡◌, ℕ, suc, ◌+◌, List, [], ◌∷◌, ◌++◌, length, get_or, set, refl, sym, ap, ◌∙◌}
use Rattle.std.proofs.Common.{Bool, true, false, cond, not, Some, None, position, arith, ◌<◌, nat_lt, eq-eqb}
use Rattle.std.proofs.Common.{length-append, lt-ltb}
use Rattle.std.specs.List.{position_or_len}
use Rattle.ln_world_channels.specs.declared.step.Node.{Node}
use Rattle.ln_world_channels.specs.WorldChannel.{is_node}
use Rattle.ln_world_channels.proofs.Places.{at_first}
use Rattle.ln_world_dispatch.proofs.Found.{nowhere}
use Rattle.ln_world.specs.declared.node.NodeBook.{NodeBook}
use Rattle.ln_world.specs.Node.{Book, new_node, node_at, changed, with_book}

abbrev is_of : Node → NodeBook → Bool
is_of n x = is_node x.node n

-- ---- a place for it

pub there : (n : Node) (xs : List NodeBook) (i : ℕ) → Some i ≡ position (λ x. is_node x.node n) xs
    → xs ≡ changed n (λ x. x) xs
there n xs i is =
    at_first (is_of n) (λ l k. l ≡ changed n (λ x. x) l)
    (λ x l h. sym (ap (λ t. cond t (x ∷ l) (x ∷ changed n (λ y. y) l)) h))
    (λ x l k h same. ap (λ t. x ∷ t) same ∙ sym (ap (λ t. cond t (x ∷ l) (x ∷ changed n (λ y. y) l)) h))
    xs i (new_node n) is

pub joins : (n : Node) (xs : List NodeBook) → position (λ x. is_node x.node n) xs ≡ None
    → xs ++ new_node n ∷ [] ≡ changed n (λ x. x) xs
joins n xs is =
    nowhere (is_of n) (λ l. l ++ new_node n ∷ [] ≡ changed n (λ x. x) l) refl
    (λ x l h same. ap (λ t. x ∷ t) same ∙ sym (ap (λ t. cond t (x ∷ l) (x ∷ changed n (λ y. y) l)) h)) xs is

-- ---- what is there

pub read_at : (n : Node) (xs : List NodeBook) (i : ℕ) (d : NodeBook) → Some i ≡ position (λ x. is_node x.node n) xs
    → get_or xs i d ≡ node_at n xs
read_at n xs i d is =
    at_first (is_of n) (λ l k. get_or l k d ≡ node_at n l)
    (λ x l h. sym (ap (λ t. cond t x (node_at n l)) h))
    (λ x l k h same. same ∙ sym (ap (λ t. cond t x (node_at n l)) h)) xs i d is

same_letter : (n : Node) → is_node n n ≡ true
same_letter n = eq-eqb n.letter n.letter refl

read_by : (n : Node) (t : Bool) (x : NodeBook) (xs : List NodeBook) → is_node x.node n ≡ t
    → node_at n (changed n (λ y. y) xs) ≡ node_at n xs
    → node_at n (cond (is_node x.node n) (x ∷ xs) (x ∷ changed n (λ y. y) xs)) ≡ node_at n (x ∷ xs)
read_by n true x xs e rest = ap (λ t. node_at n (cond t (x ∷ xs) (x ∷ changed n (λ y. y) xs))) e
read_by n false x xs e rest =
    ap (λ t. node_at n (cond t (x ∷ xs) (x ∷ changed n (λ y. y) xs))) e
    ∙ ap (λ t. cond t x (node_at n (changed n (λ y. y) xs))) e ∙ rest
    ∙ sym (ap (λ t. cond t x (node_at n xs)) e)

read_same : (n : Node) (xs : List NodeBook) → node_at n (changed n (λ x. x) xs) ≡ node_at n xs
read_same n [] = ap (λ t. cond t (new_node n) (new_node n)) (same_letter n)
read_same n (x ∷ xs) = read_by n (is_node x.node n) x xs refl (read_same n xs)

twice_by : (n : Node) (f : NodeBook → NodeBook) (t : Bool) (x : NodeBook) (xs : List NodeBook) → is_node x.node n ≡ t
    → changed n f (changed n (λ y. y) xs) ≡ changed n f xs
    → changed n f (cond (is_node x.node n) (x ∷ xs) (x ∷ changed n (λ y. y) xs)) ≡ changed n f (x ∷ xs)
twice_by n f true x xs e rest = ap (λ t. changed n f (cond t (x ∷ xs) (x ∷ changed n (λ y. y) xs))) e
twice_by n f false x xs e rest =
    ap (λ t. changed n f (cond t (x ∷ xs) (x ∷ changed n (λ y. y) xs))) e
    ∙ ap (λ t. cond t (f x ∷ changed n (λ y. y) xs) (x ∷ changed n f (changed n (λ y. y) xs))) e
    ∙ ap (λ l. x ∷ l) rest
    ∙ sym (ap (λ t. cond t (f x ∷ xs) (x ∷ changed n f xs)) e)

twice : (n : Node) (f : NodeBook → NodeBook) (xs : List NodeBook) → changed n f (changed n (λ x. x) xs) ≡ changed n f xs
twice n f [] = ap (λ t. cond t (f (new_node n) ∷ []) (new_node n ∷ changed n f [])) (same_letter n)
twice n f (x ∷ xs) = twice_by n f (is_node x.node n) x xs refl (twice n f xs)

-- ---- it changes in its place

pub set_at : (n : Node) (f : NodeBook → NodeBook) (xs : List NodeBook) (i : ℕ) (d : NodeBook)
    → Some i ≡ position (λ x. is_node x.node n) xs → set xs i (f (get_or xs i d)) ≡ changed n f xs
set_at n f xs i d is =
    at_first (is_of n) (λ l k. set l k (f (get_or l k d)) ≡ changed n f l)
    (λ x l h. sym (ap (λ t. cond t (f x ∷ l) (x ∷ changed n f l)) h))
    (λ x l k h same. ap (λ t. x ∷ t) same ∙ sym (ap (λ t. cond t (f x ∷ l) (x ∷ changed n f l)) h)) xs i d is

-- where it was given a place
pub changes : (n : Node) (f : NodeBook → NodeBook) (xs ys : List NodeBook) (i : ℕ) (d x : NodeBook)
    → ys ≡ changed n (λ y. y) xs → position (λ y. is_node y.node n) ys ≡ Some i → x ≡ f (get_or ys i d)
    → set ys i x ≡ changed n f xs
changes n f xs ys i d x same is h =
    ap (λ y. set ys i y) h ∙ set_at n f ys i d (sym is) ∙ ap (λ l. changed n f l) same ∙ twice n f xs

-- what is read there
pub reads : (n : Node) (xs ys : List NodeBook) (i : ℕ) (d : NodeBook) → ys ≡ changed n (λ y. y) xs
    → position (λ y. is_node y.node n) ys ≡ Some i → get_or ys i d ≡ node_at n xs
reads n xs ys i d same is = read_at n ys i d (sym is) ∙ ap (λ l. node_at n l) same ∙ read_same n xs

-- its book changes so, or is this one from now on
pub books : (n : Node) (f : Book → Book) (xs ys : List NodeBook) (i : ℕ) (d r : NodeBook) (b : Book)
    → ys ≡ changed n (λ y. y) xs → position (λ y. is_node y.node n) ys ≡ Some i → r ≡ get_or ys i d → b ≡ f r.book
    → set ys i (record { node = r.node; policy = r.policy; book = b }) ≡ changed n (λ x. with_book (f x.book) x) xs
books n f xs ys i d r b same is at h =
    changes n (λ x. with_book (f x.book) x) xs ys i d (record { node = r.node; policy = r.policy; book = b }) same is
    (ap (λ c. record { node = r.node; policy = r.policy; book = c }) h ∙ ap (λ x. with_book (f x.book) x) at)

pub puts : (n : Node) (a : Book) (xs ys : List NodeBook) (i : ℕ) (d r : NodeBook) (b : Book)
    → ys ≡ changed n (λ y. y) xs → position (λ y. is_node y.node n) ys ≡ Some i → r ≡ get_or ys i d → b ≡ a
    → set ys i (record { node = r.node; policy = r.policy; book = b }) ≡ changed n (with_book a) xs
puts n a xs ys i d r b same is at h =
    changes n (with_book a) xs ys i d (record { node = r.node; policy = r.policy; book = b }) same is
    (ap (λ c. record { node = r.node; policy = r.policy; book = c }) h ∙ ap (with_book a) at)

-- the last place, where none of the others is the node's
last : (n : Node) (xs : List NodeBook) → position (λ x. is_node x.node n) xs ≡ None
    → position_or_len (is_of n) (xs ++ new_node n ∷ []) ≡ length xs
last n xs is =
    nowhere (is_of n) (λ l. position_or_len (is_of n) (l ++ new_node n ∷ []) ≡ length l)
    (ap (λ t. cond (not t) (1 + 0) 0) (same_letter n))
    (λ x l h same. ap (λ t. cond (not t) (1 + position_or_len (is_of n) (l ++ new_node n ∷ [])) 0) h
    ∙ more (position_or_len (is_of n) (l ++ new_node n ∷ [])) (length l) same)
    xs is
  where
    more : (i k : ℕ) → i ≡ k → 1 + i ≡ suc k
    more i k e = omega (arith, e)

pub last_place : (n : Node) (xs : List NodeBook) → position (λ x. is_node x.node n) xs ≡ None
    → position (λ x. is_node x.node n) (xs ++ new_node n ∷ []) ≡ Some (length xs)
last_place n xs is =
    let ys = xs ++ new_node n ∷ [] in
    let lt : length xs < length ys = omega (arith, length-append xs (new_node n ∷ [])) in
    ap (λ i. cond (nat_lt i (length ys)) (Some i) None) (last n xs is)
    ∙ ap (λ t. cond t (Some (length xs)) None) (lt-ltb (length xs) (length ys) lt)
