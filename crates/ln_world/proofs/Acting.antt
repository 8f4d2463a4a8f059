-- An act of an end of the node, in a world: what it leaves of the node's links, and what the node's book hears.
use Rattle.std.proofs.Common.{◌≡◌, inl, inr, ℕ, ◌≤◌, List, [], ◌∷◌, refl, sym, ap, ◌∙◌, subst, arith}
use Rattle.std.proofs.Common.{Bool, true, false, cond, ◌==◌, Option, Some, None, Result, Ok, Err}
use Rattle.std.specs.Prelude.{option_map}
use Rattle.std.proofs.lemmas.Bool.{eqb-true}
use Rattle.ln_keys.specs.declared.keys.ChannelKeys.{Ghosts}
use Rattle.ln_refusals.specs.declared.refusal.Refusal.{Refusal}
use Rattle.ln_hooks.specs.declared.verdict.Verdict.{Verdict}
use Rattle.ln_log.specs.declared.update.Update.{Update}
use Rattle.ln_log.specs.declared.update.Update.TheVariants as update
use Rattle.ln_log.specs.Log.{Log}
use Rattle.ln_channel.specs.declared.command.Command.{Command}
use Rattle.ln_channel.specs.declared.command.Command.TheVariants as command
use Rattle.ln_channel.specs.End.{End as ChannelEnd}
use Rattle.ln_channel.specs.Ledger.{Ledger, first_htlc, forgotten}
use Rattle.ln_channel.specs.Record.{saved_end}
use Rattle.ln_channel.specs.State.{State}
use Rattle.ln_channel.specs.Step.{Done}
use Rattle.ln_book_tables.specs.declared.htlc.Htlc.{Htlc}
use Rattle.ln_book_tables.specs.Replay.{table_of}
use Rattle.ln_world_channels.specs.declared.line.Line.{Line}
use Rattle.ln_world_channels.specs.declared.step.Act.{Act as ChannelAct}
use Rattle.ln_world_channels.specs.declared.step.Node.{Node}
use Rattle.ln_world_channels.specs.declared.step.End.{End}
use Rattle.ln_world_channels.specs.declared.step.Step.TheVariants as channel_step
use Rattle.ln_world_channels.specs.Settings.{channel_id_of}
use Rattle.ln_world_channels.specs.WorldChannel.{WorldChannel, place_of, act_moves}
use Rattle.ln_world_channels.specs.Promises.{Each}
use Rattle.ln_world_channels.proofs.Kept.{IsOpen, act_kept}
use Rattle.ln_world_channels.proofs.Promised.{moved_so}
use Rattle.ln_world_channels.specs.World.{moved_if}
use Rattle.ln_world_dispatch.specs.declared.step.Step.TheVariants as dispatcher_step
use Rattle.ln_world_dispatch.specs.World.{is_dispatched, moved_by as dispatcher_moved_by}
use Rattle.ln_world.specs.declared.node.NodeBook.{NodeBook}
use Rattle.ln_world.specs.Node.{Book, node_at, with_book}
use Rattle.ln_world.specs.Follow.{followed}
use Rattle.ln_book.specs.Answers.{next_id}
use Rattle.ln_world.specs.BookReports.{with_held, event_count}
use Rattle.ln_world.specs.World.{World, moved_by, lines_by, concluded, acting, asks_by, reported, answered, id_of}
use Rattle.ln_world.specs.World.{end_at}
use Rattle.ln_world.specs.World.{saved_of}
use Rattle.ln_payment_circuits.specs.Shift.{Shift, Stays, Takes, Proposes, Signs, Accepts, Learns, Closes, Notes}
use Rattle.ln_payment_circuits.specs.Shift.{IsPlain}
use Rattle.ln_payment_circuits.specs.Shift.{IsPlainUpdate}
use Rattle.ln_payment_circuits.specs.Snapshot.{Incoming, IsIn}
use Rattle.ln_payment_circuits.proofs.Links.{Links}
use Rattle.ln_payment_circuits.proofs.Tidy.{decides_so, resumes_so}
use Rattle.ln_payment_circuits.proofs.Shifts.{side_of as read_side}
use Rattle.ln_payment_circuits.proofs.Scenes.{HavePayments}
use Rattle.ln_payment_circuits.proofs.Resumed.{HoldAlike}
use Rattle.ln_payment_circuits.proofs.Past.{IsPast, IsOffer, WasOffer, past_on}
use Rattle.ln_world.specs.Circuit.{has_halted}
use Rattle.ln_world.proofs.Answering.{RowSteps}
use Rattle.ln_world.proofs.Moving.{row_of}
use Rattle.ln_world.proofs.Scene.{link_in, links_of, scene_of, same_number, elsewhere, either}
use Rattle.ln_world.proofs.Same.{IsSame, same_paid, same_agrees, same_past}
use Rattle.ln_world.proofs.PendingCommands.{IsCalm, calm_alike}
use Rattle.ln_world.proofs.Keeping.{Holds}
use Rattle.ln_world.proofs.Lost.{place, link_is, side_is}
use Rattle.ln_world.proofs.Books.{own_book, follow_alike, itself, IsAlike}
use Rattle.ln_world.proofs.Anew.{AreSmall, small_all}
use Rattle.ln_world.proofs.Doing.{Turns, turns, new}
use Rattle.ln_world.proofs.Wells.{book_in}
use Rattle.ln_world.proofs.Orderly.{IsOrderly, view_at, order_at, OneLater, AllName, Names, stays_later, Any}
use Rattle.ln_world.proofs.Orderly.{later_same}
use Rattle.ln_world.proofs.Orderly.{later_as, dispatchers_stay}
use Rattle.ln_world.proofs.Orderly.{ends_later}
use Rattle.ln_world.proofs.Orderly.{names_more}

-- ---- what a shift leaves of an end's count of decided events, and of what its adds name

pub shift_decided : (x f : ChannelEnd) → Shift x f → x.ledger.decided ≤ f.ledger.decided
shift_decided x f s = cases s
  where
    same : f.ledger.decided ≡ x.ledger.decided → x.ledger.decided ≤ f.ledger.decided
    same e = omega (arith, e)

    cases : Shift x f → x.ledger.decided ≤ f.ledger.decided
    cases (Stays l g) = same (ap (λ (z : Ledger). z.decided) g)
    cases (Takes u may l g) = same (ap (λ (z : Ledger). z.decided) g)
    cases (Proposes u may next l g) = same (ap (λ (z : Ledger). z.decided) g)
    cases (Signs l g) = same (ap (λ (z : Ledger). z.decided) g)
    cases (Accepts l g) = same (ap (λ (z : Ledger). z.decided) g)
    cases (Learns l g) = same (ap (λ (z : Ledger). z.decided) g)
    cases (Closes l g) = same (ap (λ (z : Ledger). z.decided) g)
    cases (Notes (command.Decide event m) l g) =
        let d = (decides_so event m (first_htlc x.dance.log x.ledger.undecided) x.ledger f.ledger g).decided in
        omega (arith, d)
    cases (Notes (command.Forget i) l g) = let is : forgotten i x.ledger ≡ f.ledger = cc in
        same (ap (λ (z : Ledger). z.decided) (sym is))
    cases (Notes (command.Resume event m) l g) =
        same (ap (λ (z : Ledger). z.decided) (resumes_so event m x.ledger f.ledger g).is)
    cases (Notes (command.Confirm i) l g) = absurd (cc)
    cases (Notes (command.Add amount hash expiry onion origin) l g) = absurd (cc)
    cases (Notes (command.Fulfil i preimage) l g) = absurd (cc)
    cases (Notes (command.Fail i reason) l g) = absurd (cc)
    cases (Notes (command.Malformed i sha code) l g) = absurd (cc)
    cases (Notes (command.Fee feerate) l g) = absurd (cc)
    cases (Notes command.Sign l g) = absurd (cc)
    cases (Notes (command.Shutdown script) l g) = absurd (cc)

abbrev pub NewNames : {x f : ChannelEnd} → Shift x f → Type 0
NewNames (Stays l g) = Unit {0}
NewNames (Takes u may l g) = Unit {0}
NewNames (Proposes u may next l g) = AllName (u ∷ [])
NewNames (Signs l g) = Unit {0}
NewNames (Accepts l g) = Unit {0}
NewNames (Learns l g) = Unit {0}
NewNames (Closes l g) = Unit {0}
NewNames (Notes c l g) = Unit {0}

pub shift_names : (x f : ChannelEnd) (s : Shift x f) → NewNames s → AllName x.dance.log.own → AllName f.dance.log.own
shift_names x f (Stays l g) n h = subst (λ (m : Log). AllName m.own) (sym l) h
shift_names x f (Takes u may l g) n h = subst (λ (m : Log). AllName m.own) (sym l) h
shift_names x f (Proposes u may next l g) n h =
    subst (λ (m : Log). AllName m.own) (sym l) (names_more x.dance.log.own u h n)
shift_names x f (Signs l g) n h = subst (λ (m : Log). AllName m.own) (sym l) h
shift_names x f (Accepts l g) n h = subst (λ (m : Log). AllName m.own) (sym l) h
shift_names x f (Learns l g) n h = subst (λ (m : Log). AllName m.own) (sym l) h
shift_names x f (Closes l g) n h = subst (λ (m : Log). AllName m.own) (sym l) h
shift_names x f (Notes c l g) n h = subst (λ (m : Log). AllName m.own) (sym l) h

-- what goes out by links that have halted went out before
abbrev pub OffersAwake : Links → List Htlc → List Htlc → Type 0
OffersAwake l xs ys = (h : Incoming) (c i : ℕ) (y : Htlc) → l.halted c ≡ true → IsOffer channel_id_of ys h c i y
    → WasOffer channel_id_of xs h c i

-- an add that forwards none
plain_name : (u : Update) → IsPlainUpdate u → AllName (u ∷ [])
plain_name (update.Add a) p i = cases (a.id == i)
  where
    cases : (b : Bool) → Names (cond b (Some a) None)
    cases true = λ o e. absurd (let no : None ≡ Some o = sym p ∙ e in cc)
    cases false = tt
plain_name (update.Fulfil f) p i = absurd p
plain_name (update.Fail f) p i = absurd p
plain_name (update.Malformed m) p i = absurd p
plain_name (update.Fee f) p i = tt

pub plain_names : (x f : ChannelEnd) (s : Shift x f) → IsPlain s → NewNames s
plain_names x f (Stays l g) n = tt
plain_names x f (Takes u may l g) n = tt
plain_names x f (Proposes u may next l g) n = plain_name u n
plain_names x f (Signs l g) n = tt
plain_names x f (Accepts l g) n = tt
plain_names x f (Learns l g) n = tt
plain_names x f (Closes l g) n = tt
plain_names x f (Notes c l g) n = absurd n

-- ---- the world after an act

module _ {K : Type 0} (k : Ghosts K) (e : End) (v : Verdict) (w : World K) where
  -- where the book has given this command, which makes this act, or none
  abbrev pub done_by : Option Command → Option ChannelAct → Option ℕ → List NodeBook → World K
  done_by c o r xs =
      let s = option_map (λ x. dispatcher_step.Do e x) o in
      let new = moved_by k v s w.dispatchers in
      record {
        dispatchers = new;
        nodes = concluded (acting e c o r w.dispatchers)
            (lines_by k v s w.dispatchers) new xs;
      }

  abbrev pub lines_of : ChannelAct → List Line
  lines_of a = lines_by k v (Some (dispatcher_step.Do e a)) w.dispatchers

  module _ (open_ : Each (IsOpen k.signer) w.dispatchers.channels.channels) (a : ChannelAct)
      (may : is_dispatched e a w.dispatchers ≡ true) (s : State K)
      (there : link_in e.node e.channel w.dispatchers.channels.channels ≡ Some s) (row : Result Done Refusal)
      (is : row_of k.signer a (place_of (place e.node e.channel w.dispatchers.channels.channels s there).side
      (place e.node e.channel w.dispatchers.channels.channels s there).found.both) ≡ Some row) where
    abbrev pub n : Node
    n = e.node

    abbrev pub cs : List (WorldChannel K)
    cs = w.dispatchers.channels.channels

    abbrev pub turn : Turns k.signer n n (itself n) cs open_ e.channel a s there row
    turn = turns k.signer n n (itself n) cs open_ e.channel a s there row is

    abbrev pub ds : List (WorldChannel K)
    ds = new k.signer n n (itself n) cs open_ e.channel a s there

    abbrev pub x : ChannelEnd
    x = (link_is k.signer n cs open_ e.channel s there).end

    abbrev pub y : ChannelEnd
    y = turn.end

    x_saved : saved_of (link_in n e.channel cs) ≡ Some x
    x_saved =
        ap saved_of there ∙ ap (λ (z : State K). saved_end z.stage) (link_is k.signer n cs open_ e.channel s there).link

    pub act_channels : (moved_by k v (Some (dispatcher_step.Do e a)) w.dispatchers).channels.channels ≡ ds
    act_channels = ap (λ b. (dispatcher_moved_by k (cond b (Some
        (channel_step.Do e a)) None) w.dispatchers.channels).channels) may

    pub act_open : Each (IsOpen k.signer) ds
    act_open = moved_so k (IsOpen k.signer) e.channel (act_moves n a) (act_kept k.signer n a) cs open_

    pub act_small : AreSmall cs → AreSmall ds
    act_small h =
        small_all (moved_if k.signer e.channel (act_moves n a)) (same_number k.signer n e.channel (act_moves n a)) cs h

    -- what the book hears
    abbrev pub book_then : Option Command → List NodeBook → Book
    book_then c xs = with_held (id_of e) (event_count (Some x)) (Some y)
        (answered e (asks_by c (next_id (Some x))) (lines_of a) (node_at n xs).book)

    pub act_book : (c : Option Command) (r : Option ℕ) (xs : List NodeBook)
        → IsAlike (book_then c xs) (book_in n (done_by c (Some a) r xs))
    act_book c r xs =
        let new_dispatchers = moved_by k v (Some (dispatcher_step.Do e a)) w.dispatchers in
        let f =
        reported e (event_count (end_at e w.dispatchers)) (asks_by c (next_id (end_at e w.dispatchers)))
        (lines_of a) new_dispatchers in
        let y_saved : end_at e new_dispatchers ≡ Some y =
        ap (λ zs. saved_of (link_in n e.channel zs)) act_channels ∙ turn.saved in
        let same : f (node_at n xs).book ≡ book_then c xs =
        ap (λ o. reported e (event_count o) (asks_by c (next_id o)) (lines_of a) new_dispatchers
        (node_at n xs).book) x_saved
        ∙ ap (λ o. with_held (id_of e) (event_count (Some x)) o
        (answered e (asks_by c (next_id (Some x))) (lines_of a) (node_at n xs).book)) y_saved in
        subst (λ b. IsAlike b (book_in n (done_by c (Some a) r xs))) same
        (subst (λ (z : NodeBook). IsAlike (f (node_at n xs).book) z.book)
        (sym (own_book (λ z. followed new_dispatchers.channels.channels (with_book (f z.book) z)) (λ z. refl) n xs))
        (follow_alike new_dispatchers.channels.channels (with_book (f (node_at n xs).book) (node_at n xs))))

    -- its link
    pub act_later : (AllName x.dance.log.own → AllName y.dance.log.own) → (d : ℕ)
        → OneLater (link_in n d cs) (link_in n d ds)
    act_later names d = elim (either (d == e.channel)) [
      | inr isnt ↦ stays_later (link_in n d cs) (link_in n d ds)
          (elsewhere k.signer n e.channel (act_moves n a) d isnt cs)
      | inl it ↦ subst (λ j. OneLater (link_in n j cs) (link_in n j ds)) (sym (eqb-true d e.channel it))
          (ends_later (link_in n e.channel cs) (link_in n e.channel ds) x y x_saved turn.saved
          (counted row turn.steps) names)
    ]
      where
        counted : (r : Result Done Refusal) → RowSteps x y r → x.ledger.decided ≤ y.ledger.decided
        counted (Err r) same = subst (λ (z : ChannelEnd). x.ledger.decided ≤ z.ledger.decided) (sym same) (omega arith)
        counted (Ok d) t =
            subst (λ (z : ChannelEnd). x.ledger.decided ≤ z.ledger.decided) (sym t.3) (shift_decided x t.0 t.2)

    -- ---- what is kept, where this is left of payments, and of a book like the node's

    pub concludes : (u : World K) → u.dispatchers.channels.channels ≡ ds
        → u.dispatchers.dispatchers ≡ w.dispatchers.dispatchers → (b : Book)
        → IsAlike b (book_in n u) → AreSmall cs → IsCalm b
        → HavePayments channel_id_of (record { links = links_of n ds; book = (table_of b).htlcs })
        → HoldAlike channel_id_of (record { links = links_of n ds; book = (table_of b).htlcs })
        → IsPast channel_id_of (record { links = links_of n ds; book = (table_of b).htlcs })
        → IsOrderly (view_at n ds w.dispatchers.dispatchers b) → Holds k n u
    concludes u channels dispatchers b alike small calm paid agrees past order =
        let same : IsSame (record { links = links_of n ds; book = (table_of b).htlcs }) (scene_of n u) = record {
          sides = λ d. ap (λ zs. (links_of n zs).sides d) channels;
          halted = λ d. ap (λ zs. (links_of n zs).halted d) channels;
          book = alike.htlcs;
        } in
        record {
          well = record {
            open_ = subst (Each (IsOpen k.signer)) (sym channels) act_open;
            small = subst AreSmall (sym channels) (act_small small);
            calm = calm_alike b (book_in n u) alike calm;
            paid =
                same_paid channel_id_of (record { links = links_of n ds; book = (table_of b).htlcs }) (scene_of n u)
                same paid;
            agrees =
                same_agrees channel_id_of (record { links = links_of n ds; book = (table_of b).htlcs }) (scene_of n u)
                same agrees;
            past = same_past channel_id_of (record { links = links_of n ds; book = (table_of b).htlcs })
                (scene_of n u) same past;
          };
          order = subst (λ zs. IsOrderly (view_at n zs u.dispatchers.dispatchers (book_in n u))) (sym channels)
              (subst (λ es. IsOrderly (view_at n ds es (book_in n u))) (sym dispatchers)
              (order_at n ds ds w.dispatchers.dispatchers w.dispatchers.dispatchers b (book_in n u)
              (λ c. stays_later (link_in n c ds) (link_in n c ds) refl) (λ q m. subst (IsIn q) alike.queue m)
              (later_as Any (table_of b).htlcs (table_of b).htlcs (table_of (book_in n u)).htlcs alike.htlcs
              (later_same Any (table_of b).htlcs)) (dispatchers_stay n w.dispatchers.dispatchers) order));
        }

    -- one that hasn't halted
    pub awake_now : s.halted ≡ false → (links_of n ds).halted e.channel ≡ false
    awake_now is = turn.changed.halted e.channel ∙ ap has_halted there ∙ is

    -- the side that it was
    pub side_was : (links_of n cs).sides e.channel ≡ Some (read_side x)
    side_was = side_is k.signer n cs open_ e.channel s there

    -- where the end stays as it was
    pub refused_sides : y ≡ x → (d : ℕ) → (links_of n ds).sides d ≡ (links_of n cs).sides d
    refused_sides same d = elim (either (d == e.channel)) [
      | inr isnt ↦ turn.changed.others d isnt
      | inl it ↦ ap (links_of n ds).sides (eqb-true d e.channel it) ∙ turn.changed.behind
          ∙ ap (λ z. Some (read_side z)) same
          ∙ sym side_was ∙ sym (ap (links_of n cs).sides (eqb-true d e.channel it))
    ]

    -- a link that has halted stays as it is
    halted_stays : ((d : Done) → row ≡ Ok d → s.halted ≡ false) → (d : ℕ) → (links_of n ds).halted d ≡ true
        → ((links_of n cs).halted d ≡ true) × ((links_of n ds).sides d ≡ (links_of n cs).sides d)
    halted_stays awake d halted = (
      was,
      elim (either (d == e.channel)) [
        | inr isnt ↦ turn.changed.others d isnt
        | inl it ↦ by_row row refl turn.steps (sym (ap has_halted there)
            ∙ sym (ap (links_of n cs).halted (eqb-true d e.channel it)) ∙ was)
      ],
    )
      where
        was : (links_of n cs).halted d ≡ true
        was = sym (turn.changed.halted d) ∙ halted

        by_row : (r : Result Done Refusal) → row ≡ r → RowSteps x y r → s.halted ≡ true
            → (links_of n ds).sides d ≡ (links_of n cs).sides d
        by_row (Err r) is same it = refused_sides same d
        by_row (Ok q) is steps it = absurd (let no : true ≡ false = sym it ∙ awake q is in cc)

    -- by what the book offers
    pub past_now : ((d : Done) → row ≡ Ok d → s.halted ≡ false) → (xs ys : List Htlc) → OffersAwake (links_of n ds) xs
        ys
        → IsPast channel_id_of (record { links = links_of n cs; book = xs })
        → IsPast channel_id_of (record { links = links_of n ds; book = ys })
    past_now awake xs ys offers past = past_on channel_id_of (record { links = links_of n cs; book = xs })
        (record { links = links_of n ds; book = ys }) (halted_stays awake) offers past

    pub refused_later : y ≡ x → (d : ℕ) → OneLater (link_in n d cs) (link_in n d ds)
    refused_later same = act_later (λ h. subst (λ (z : ChannelEnd). AllName z.dance.log.own) (sym same) h)
