-- What is kept of a node in a world, and the steps in which its payments have no part.
use Rattle.std.proofs.Common.{◌≡◌, ℕ, List, [], refl, sym, ap, subst, Bool, true, false}
use Rattle.std.proofs.Common.{cond, None}
use Rattle.ln_keys.specs.declared.keys.ChannelKeys.{Ghosts}
use Rattle.ln_hooks.specs.declared.verdict.Verdict.{Verdict}
use Rattle.ln_forward.specs.declared.checks.Policy.{Policy}
use Rattle.ln_history.specs.History.{with_entry}
use Rattle.ln_book_tables.specs.declared.entry.Invoice.{Invoice}
use Rattle.ln_close.specs.declared.closing.Fees.{Fees}
use Rattle.ln_log.specs.declared.opening.Limits.{Limits}
use Rattle.ln_book_tables.specs.declared.entry.Entry.TheVariants as entry
use Rattle.ln_book_tables.specs.Replay.{table_of}
use Rattle.ln_world_channels.specs.declared.step.Node.{Node}
use Rattle.ln_world_channels.specs.declared.step.End.{End}
use Rattle.ln_world_channels.specs.Settings.{channel_id_of}
use Rattle.ln_world_channels.specs.WorldChannel.{WorldChannel, is_node}
use Rattle.ln_world_channels.specs.Promises.{Each}
use Rattle.ln_world_channels.proofs.Kept.{IsOpen}
use Rattle.ln_world.specs.declared.node.NodeBook.{NodeBook}
use Rattle.ln_world.specs.declared.step.Step.TheVariants as step
use Rattle.ln_world.specs.Node.{Book, node_at, changed, with_policy, with_book}
use Rattle.ln_world.specs.Follow.{followed}
use Rattle.ln_world.specs.World.{World, empty, happens, entered, is_height, concluded, lines_by}
use Rattle.ln_world.specs.declared.follow_up.FollowUp.TheVariants as follow_up
use Rattle.ln_payment_circuits.proofs.Scenes.{HavePayments}
use Rattle.ln_payment_circuits.proofs.Promise.{begun}
use Rattle.ln_payment_circuits.proofs.Resumed.{HoldAlike}
use Rattle.ln_payment_circuits.proofs.Past.{IsPast}
use Rattle.ln_world.proofs.Scene.{links_of, scene_of}
use Rattle.ln_world.proofs.Books.{own_book, other_book, follow_alike, alike, alike_then, IsAlike, letters}
use Rattle.ln_world.proofs.Same.{IsSame, same_paid, same_agrees, same_past}
use Rattle.ln_world.proofs.Anew.{AreSmall}
use Rattle.ln_world.proofs.PendingCommands.{IsCalm, calm_alike}
use Rattle.ln_world.proofs.Books.{entry_alike}

abbrev pub book_in : {K : Type 0} → Node → World K → Book
book_in n w = (node_at n w.nodes).book

pub record IsWell {K : Type 0} (k : Ghosts K) (n : Node) (w : World K) : Type 0 where
  pub open_ : Each (IsOpen k.signer) w.dispatchers.channels.channels
  pub small : AreSmall w.dispatchers.channels.channels
  pub calm : IsCalm (book_in n w)
  pub paid : HavePayments channel_id_of (scene_of n w)
  pub agrees : HoldAlike channel_id_of (scene_of n w)
  pub past : IsPast channel_id_of (scene_of n w)

module _ {K : Type 0} (k : Ghosts K) (n : Node) where
  -- ---- as a world begins

  pub nothing_yet : (hooks : ℕ) → IsWell k n (empty hooks)
  nothing_yet hooks = record {
    open_ = tt;
    small = tt;
    calm = λ a. refl;
    paid = same_paid channel_id_of (record { links = record { sides = λ c. None; halted = λ c. false }; book = [] })
        (scene_of n (empty {K = K} hooks)) (record { sides = λ d. refl; halted = λ d. refl; book = refl })
        (begun channel_id_of);
    agrees = λ c X e. absurd (cc);
    past = λ q c i x o. absurd o.there;
  }

  -- ---- where neither the channels nor what a payment is read off change

  pub well_as : (w v : World K) → v.dispatchers.channels.channels ≡ w.dispatchers.channels.channels
      → (table_of (book_in n v)).htlcs ≡ (table_of (book_in n w)).htlcs → IsCalm (book_in n v) → IsWell k n w
      → IsWell k n v
  well_as w v cs htlcs calm h =
      let same : IsSame (scene_of n w) (scene_of n v) = record {
        sides = λ d. ap (λ xs. (links_of n xs).sides d) cs;
        halted = λ d. ap (λ xs. (links_of n xs).halted d) cs;
        book = htlcs;
      } in
      record {
        open_ = subst (Each (IsOpen k.signer)) (sym cs) h.open_;
        small = subst AreSmall (sym cs) h.small;
        calm = calm;
        paid = same_paid channel_id_of (scene_of n w) (scene_of n v) same h.paid;
        agrees = same_agrees channel_id_of (scene_of n w) (scene_of n v) same h.agrees;
        past = same_past channel_id_of (scene_of n w) (scene_of n v) same h.past;
      }

  pub same_well : (w v : World K) → v.dispatchers.channels.channels ≡ w.dispatchers.channels.channels
      → IsAlike (book_in n w) (book_in n v) → IsWell k n w → IsWell k n v
  same_well w v cs b h = well_as w v cs b.htlcs (calm_alike (book_in n w) (book_in n v) b h.calm) h

  -- a node's book that changes so stays alike
  pub changed_alike : (m : Node) (f : NodeBook → NodeBook) → ((x : NodeBook) → (f x).node ≡ x.node)
      → ((x : NodeBook) → IsAlike x.book (f x).book) → (xs : List NodeBook)
      → IsAlike (node_at n xs).book (node_at n (changed m f xs)).book
  changed_alike m f same to xs = cases (is_node m n) refl
    where
      cases : (b : Bool) → is_node m n ≡ b → IsAlike (node_at n xs).book (node_at n (changed m f xs)).book
      cases false e = subst (λ (x : NodeBook). IsAlike (node_at n xs).book x.book) (sym (other_book f same m n e xs))
          (alike (node_at n xs).book)
      cases true e = subst (λ z. IsAlike (node_at n xs).book (node_at n (changed z f xs)).book) (sym (letters m n e))
          (subst (λ (x : NodeBook). IsAlike (node_at n xs).book x.book) (sym (own_book f same n xs))
          (to (node_at n xs)))

  -- ---- what is set for nodes, and what dispatchers do

  module _ (v : Verdict) (w : World K) where
    abbrev cs : List (WorldChannel K)
    cs = w.dispatchers.channels.channels

    pub set_alike : (m : Node) (f : NodeBook → NodeBook) → ((x : NodeBook) → (f x).node ≡ x.node)
        → ((x : NodeBook) → IsAlike x.book (f x).book)
        → IsAlike (book_in n w) (node_at n (changed m (followed cs) (changed m f w.nodes))).book
    set_alike m f same to = alike_then (book_in n w) (node_at n (changed m f w.nodes)).book
        (node_at n (changed m (followed cs) (changed m f w.nodes))).book (changed_alike m f same to w.nodes)
        (changed_alike m (followed cs) (λ x. refl) (follow_alike cs) (changed m f w.nodes))

    pub policy_well : (m : Node) (p : Policy) → IsWell k n w → IsWell k n (happens k v (step.Policy m p) w)
    policy_well m p h = same_well w (happens k v (step.Policy m p) w) refl
        (set_alike m (with_policy p) (λ x. refl) (λ x. alike x.book)) h

    pub expect_well : (m : Node) (i : Invoice) → IsWell k n w → IsWell k n (happens k v (step.Expect m i) w)
    expect_well m i h = same_well w (happens k v (step.Expect m i) w) refl
        (set_alike m (λ b. with_book (with_entry (entry.Expect i) b.book) b) (λ x. refl)
        (λ x. entry_alike (entry.Expect i) x.book refl refl refl)) h

    pub height_by : (m : Node) (height : ℕ) (b : Bool) → is_height height ≡ b
        → IsAlike (book_in n w) (book_in n (happens k v (step.Height m height) w))
    height_by m height true e = subst (λ t. IsAlike (book_in n w) (node_at n (concluded
        (cond t (follow_up.Set m) follow_up.None) (lines_by k v None w.dispatchers) w.dispatchers
        (cond t (entered m (entry.Height height) w.nodes) w.nodes))).book) (sym e)
        (set_alike m (λ b. with_book (with_entry (entry.Height height) b.book) b) (λ x. refl)
        (λ x. entry_alike (entry.Height height) x.book refl refl refl))
    height_by m height false e = subst (λ t. IsAlike (book_in n w) (node_at n (concluded
        (cond t (follow_up.Set m) follow_up.None) (lines_by k v None w.dispatchers) w.dispatchers
        (cond t (entered m (entry.Height height) w.nodes) w.nodes))).book) (sym e) (alike (book_in n w))

    pub height_well : (m : Node) (height : ℕ) → IsWell k n w → IsWell k n (happens k v (step.Height m height) w)
    height_well m height h =
        same_well w (happens k v (step.Height m height) w) refl (height_by m height (is_height height) refl) h

    pub fees_well : (m : Node) (f : Fees) → IsWell k n w → IsWell k n (happens k v (step.Fees m f) w)
    fees_well m f h = same_well w (happens k v (step.Fees m f) w) refl (alike (book_in n w)) h

    pub limits_well : (m : Node) (l : Limits) → IsWell k n w → IsWell k n (happens k v (step.Limits m l) w)
    limits_well m l h = same_well w (happens k v (step.Limits m l) w) refl (alike (book_in n w)) h

    pub dispatch_well : (e : End) → IsWell k n w → IsWell k n (happens k v (step.Dispatch e) w)
    dispatch_well e h = same_well w (happens k v (step.Dispatch e) w) refl (alike (book_in n w)) h

    pub register_well : (e : End) (hook : ℕ) → IsWell k n w → IsWell k n (happens k v (step.Register e hook) w)
    register_well e hook h = same_well w (happens k v (step.Register e hook) w) refl (alike (book_in n w)) h
