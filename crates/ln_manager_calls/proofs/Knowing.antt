-- The ids of other links, in the records that a message is taken over.
use Rattle.std.proofs.Common.{◌≡◌, ◌⊎◌, inl, inr, ℕ, List, [], ◌∷◌, slice_get, refl, sym, ap, ◌∙◌, Bool, true}
use Rattle.std.proofs.Common.{false, cond, ◌||◌, not, ◌&&◌, is_some, Option, Some, None, IfSome}
use Rattle.std.specs.FinMap as map
use Rattle.std.specs.FinMap.{get-insert}
use Rattle.std.proofs.lemmas.Cmp.{nat_list_cmp_total}
use Rattle.std.specs.Cmp.Lexicographic.{slice_cmp}
use Rattle.std.specs.Ordering.{nat_cmp, is_eq}
use Rattle.std.proofs.lemmas.Map.Text.{is_eq-slice_cmp}
use Rattle.std.proofs.lemmas.Slice.Eq.{bytes_eq-Decides}
use Rattle.ln_channel.specs.Asking.{agreed_end}
use Rattle.ln_channel.specs.End.{End}
use Rattle.ln_channel.specs.declared.machine.Stage.{Stage}
use Rattle.ln_channel.specs.declared.machine.Stage.TheVariants as stage
use Rattle.ln_channel.specs.Naming.{channel_of}
use Rattle.ln_channel.specs.Record.{saved_end}
use Rattle.ln_channel.specs.State.{kept_channel}
use Rattle.ln_store.specs.Store.{Records}
use Rattle.ln_link.specs.Saving.{is_known}
use Rattle.ln_payment_circuits.specs.Snapshot.{All}
use Rattle.ln_payment_circuits.proofs.Entries.{is_same}
use Rattle.ln_manager_laws.specs.Calls.{Seat}
use Rattle.ln_manager_laws.specs.Manager.{Manager, seat_id, id_by}
use Rattle.ln_manager_laws.specs.Steps.{Knows}
use Rattle.ln_manager_laws.proofs.Hosted.{works_id, halted_id}
use Rattle.ln_manager_laws.proofs.Seats.{IsSound}
use Rattle.ln_manager_channels.specs.Links.{has_id, is_of, number_if, number_in}
use Rattle.ln_manager_calls.specs.Standing.{link_of}
use Rattle.ln_manager_calls.proofs.Kept.{View, Stands, IsFaithful}
use Rattle.ln_manager_calls.proofs.Places.{is_among, mapped_got}

-- ---- an id is known

abbrev know : List ℕ → Records → Records
know id rs = map.insert rs id []

pub known_own : (id : List ℕ) (rs : Records) (bytes : List ℕ) → is_known (Some id) (map.insert rs id bytes) ≡ true
known_own id rs bytes = ap is_some (get-insert nat_list_cmp_total rs id bytes id
    ∙ ap (λ b. cond b (Some bytes) (map.get rs id)) (is_eq-slice_cmp id id ∙ (bytes_eq-Decides id id).1 refl))

either : (b : Bool) → (b ≡ true) ⊎ (b ≡ false)
either true = inl refl
either false = inr refl

known_more : (id new : List ℕ) (rs : Records) → is_known (Some id) rs ≡ true → is_known (Some id) (know new rs) ≡ true
known_more id new rs is =
    ap is_some (get-insert nat_list_cmp_total rs new [] id) ∙ cases (is_eq (slice_cmp nat_cmp id new))
  where
    cases : (b : Bool) → is_some (cond b (Some []) (map.get rs id)) ≡ true
    cases true = refl
    cases false = is

known_still : (id new : List ℕ) (rs : Records) → (new ≡ id → ⊥)
    → is_known (Some id) (know new rs) ≡ is_known (Some id) rs
known_still id new rs apart =
    ap is_some (get-insert nat_list_cmp_total rs new [] id) ∙ cases (is_eq (slice_cmp nat_cmp id new)) refl
  where
    cases : (b : Bool) → is_eq (slice_cmp nat_cmp id new) ≡ b
        → is_some (cond b (Some []) (map.get rs id)) ≡ is_known (Some id) rs
    cases true is = absurd (apart (sym ((bytes_eq-Decides id new).0 (sym (is_eq-slice_cmp id new) ∙ is))))
    cases false is = refl

abbrev know_one : Option (List ℕ) → Records → Records
know_one None rs = rs
know_one (Some id) rs = know id rs

one_more_known : (o : Option (List ℕ)) (id : List ℕ) (rs : Records) → is_known (Some id) rs ≡ true
    → is_known (Some id) (know_one o rs) ≡ true
one_more_known None id rs is = is
one_more_known (Some new) id rs is = known_more id new rs is

has_own : (id : List ℕ) (e : End) → e.dance.channel ≡ id → has_id id (Some e) ≡ true
has_own id e is = is_same id e.dance.channel (sym is)

of_stage : (id : List ℕ) (s : Stage) → channel_of s ≡ Some id
    → has_id id (saved_end s) || (not false && has_id id (agreed_end s)) ≡ true
of_stage id (stage.AwaitsSigned e) is = has_own id e (cc)
of_stage id (stage.Funded e) is = ap (λ b. b || (not false && b)) (has_own id e (cc))
of_stage id (stage.AwaitsOpen c) is = absurd (cc)
of_stage id (stage.AwaitsAccept s) is = absurd (cc)
of_stage id (stage.AwaitsCreated a) is = absurd (cc)
of_stage id stage.Gone is = absurd (cc)

of_kept : (id : List ℕ) (s : Stage) → kept_channel s ≡ Some id
    → has_id id (saved_end s) || (not true && has_id id (agreed_end s)) ≡ true
of_kept id (stage.Funded e) is = ap (λ b. b || (not true && b)) (has_own id e (cc))
of_kept id (stage.AwaitsSigned e) is = absurd (cc)
of_kept id (stage.AwaitsOpen c) is = absurd (cc)
of_kept id (stage.AwaitsAccept s) is = absurd (cc)
of_kept id (stage.AwaitsCreated a) is = absurd (cc)
of_kept id stage.Gone is = absurd (cc)

module _ {K : Type 0} where
  -- those of these links, too
  abbrev pub knowing_all : List (Seat K) → Records → Records
  knowing_all [] rs = rs
  knowing_all (x ∷ xs) rs = know_one (seat_id x) (knowing_all xs rs)

  pub all_more : (xs : List (Seat K)) (id : List ℕ) (rs : Records) → is_known (Some id) rs ≡ true
      → is_known (Some id) (knowing_all xs rs) ≡ true
  all_more [] id rs is = is
  all_more (x ∷ xs) id rs is = one_more_known (seat_id x) id (knowing_all xs rs) (all_more xs id rs is)

  pub all_still : (xs : List (Seat K)) (id : List ℕ) (rs : Records) → All (λ x. seat_id x ≡ Some id → ⊥) xs
      → is_known (Some id) (knowing_all xs rs) ≡ is_known (Some id) rs
  all_still [] id rs h = refl
  all_still (x ∷ xs) id rs h = cases (seat_id x) h.0 ∙ all_still xs id rs h.1
    where
      cases : (o : Option (List ℕ)) → (o ≡ Some id → ⊥)
          → is_known (Some id) (know_one o (knowing_all xs rs)) ≡ is_known (Some id) (knowing_all xs rs)
      cases None apart = refl
      cases (Some new) apart = known_still id new (knowing_all xs rs) (λ same. apart (ap Some same))

  knows_more : (o : Option (List ℕ)) (xs : List (Seat K)) (rs : Records) → All (Knows rs) xs
      → All (Knows (know_one o rs)) xs
  knows_more o [] rs h = tt
  knows_more o (x ∷ xs) rs h = (cases (seat_id x) h.0, knows_more o xs rs h.1)
    where
      cases : (i : Option (List ℕ)) → IfSome i (λ id. is_known (Some id) rs ≡ true)
          → IfSome i (λ id. is_known (Some id) (know_one o rs) ≡ true)
      cases None k = tt
      cases (Some id) k = one_more_known o id rs k

  pub knows_all : (xs : List (Seat K)) (rs : Records) → All (Knows (knowing_all xs rs)) xs
  knows_all [] rs = tt
  knows_all (x ∷ xs) rs =
      (cases (seat_id x), knows_more (seat_id x) xs (knowing_all xs rs) (knows_all xs rs))
    where
      cases : (o : Option (List ℕ))
          → IfSome o (λ id. is_known (Some id) (know_one o (knowing_all xs rs)) ≡ true)
      cases None = tt
      cases (Some id) = known_own id (knowing_all xs rs) []

  -- ---- each link is found by its id

  of_seat : (x : Seat K) → IsSound x → IsFaithful x → (id : List ℕ) → seat_id x ≡ Some id
      → is_of id (Some x.link) ≡ true
  of_seat x s f id is = by_halted x.link.halted refl
    where
      by_end : (o : Option End) → x.end ≡ o → id_by o None ≡ Some id → kept_channel x.link.stage ≡ Some id
      by_end None at its = absurd (cc)
      by_end (Some e) at its = f.held e at ∙ its

      by_halted : (b : Bool) → x.link.halted ≡ b
          → has_id id (saved_end x.link.stage) || (not b && has_id id (agreed_end x.link.stage)) ≡ true
      by_halted true halted =
          of_kept id x.link.stage (by_end x.end refl (sym (halted_id x halted) ∙ is))
      by_halted false works = of_stage id x.link.stage (sym (works_id x s works) ∙ is)

  pub number_found : (v : View K) (m : Manager K) → Stands v m → (k : ℕ) (x : Seat K) → slice_get m.seats k ≡ Some x
      → (id : List ℕ) → seat_id x ≡ Some id → number_in v.numbers v.links id ≡ Some k
  number_found v m h k x at id is =
      let x_in = is_among m.seats k x at in
      let link : slice_get v.links k ≡ Some x.link =
      ap (λ ls. slice_get ls k) (sym h.links) ∙ mapped_got link_of m.seats k x at in
      ap (number_if id v.links) (h.numbered k x at id is)
      ∙ ap (λ o. cond (is_of id o) (Some k) None) link
      ∙ ap (λ b. cond b (Some k) None) (of_seat x (h.sound x x_in) (h.faithful x x_in) id is)
