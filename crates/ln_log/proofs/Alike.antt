-- Lists that the same kept value stands for give the same answers, and stay alike.
use Rattle.std.proofs.Common.{◌≡◌, ℕ, ◌+◌, ◌-◌, ◌≤◌, List, [], ◌∷◌, ◌++◌, length, take, drop, refl, sym, ap, ◌∙◌}
use Rattle.std.proofs.Common.{subst, arith, Bool, cond, Option, Some, None, option_map, not, inl, inr, nat_le}
use Rattle.std.proofs.Common.{◌==◌}
use Rattle.std.specs.Prelude.{is_none}
use Rattle.std.proofs.lemmas.Bool.Decides.{leb_tells}
use Rattle.ln_refusals.specs.declared.refusal.Refusal.{Refusal}
use Rattle.ln_refusals.specs.declared.refusal.Refusal.TheVariants as refusal
use Rattle.ln_refusals.specs.declared.peer_rule.PeerRule.TheVariants as rule
use Rattle.ln_keys.specs.declared.role.Role.{Role}
use Rattle.ln_keys.specs.declared.role.Role.TheVariants.{Funder, Fundee}
use Rattle.ln_keys.specs.Role.{other_role}
use Rattle.ln_log.specs.declared.log.Pair.{Pair}
use Rattle.ln_log.specs.declared.log.Pair.TheVariants as pair
use Rattle.ln_log.specs.declared.log.Side.TheVariants as side
use Rattle.ln_log.specs.declared.standing.Standing.{Standing}
use Rattle.ln_log.specs.declared.update.Removal.{Removal}
use Rattle.ln_log.specs.declared.update.Update.{Update}
use Rattle.ln_log.specs.Opening.{limits_of}
use Rattle.ln_log.specs.Updates.{removed, next_id, add_with, outcome, is_live}
use Rattle.ln_log.specs.Limits.{HasNextId, fault_at, update_fault, id_fault, most_updates}
use Rattle.ln_log.specs.Limits.{first_fault}
use Rattle.ln_log.specs.Standing.{with_own, with_all}
use Rattle.ln_log.specs.Log.{Log, Counts, between, counts_of, covered, view_for, same_counts, sign_fault, removal_fault}
use Rattle.ln_log.specs.Log.{peer_limit, length_fault, proposal_fault, taken_fault, unacknowledged, after_propose}
use Rattle.ln_log.specs.Log.{after_receive, after_sign, after_accept, after_learn, after_drop, AreNumbered}
use Rattle.ln_log.specs.Window.{role_balances_of}
use Rattle.ln_log.specs.Kept.{Kept, IsWindowOf, pair_counts, front_of}
use Rattle.ln_log.specs.Alike.{AreAlike}
use Rattle.ln_log.proofs.Removing.{numbered-take}
use Rattle.ln_log.proofs.Fronts.{cut_off}
use Rattle.ln_log.proofs.Stands.{own_length, peer_length, between_is, same_counts_by, stands_signed, stands_accepted}
use Rattle.ln_log.proofs.Stands.{stands_learned, stands_proposed, stands_received, stands_dropped}
use Rattle.ln_log.proofs.Handed.{own_between, peer_between, own_front, peer_front, next_is, live_is, offered_not}
use Rattle.ln_log.proofs.Handed.{offered_is, fault_none}
use Rattle.ln_log.proofs.Calls.{own_call_fault, got_call_fault, peer_due}
use Rattle.ln_log.proofs.Viewed.{Viewing, funder_call, fundee_call, first_in}

-- ---- parts of what is kept

own_part : Kept → ℕ → List Update
own_part k n = take (k.live.own + (n - k.first.own)) k.own

peer_part : Kept → ℕ → List Update
peer_part k n = take (k.live.peer + (n - k.first.peer)) k.received

own_rest : Kept → ℕ → ℕ → List Update
own_rest k m n = between (k.live.own + (m - k.first.own)) (k.live.own + (n - k.first.own)) k.own

peer_rest : Kept → ℕ → ℕ → List Update
peer_rest k m n = between (k.live.peer + (m - k.first.peer)) (k.live.peer + (n - k.first.peer)) k.received

-- ---- how many updates there are, and which ids are due

same_length : (k : Kept) (l m : Log) → IsWindowOf k l → IsWindowOf k m → length l.own ≡ length m.own
same_length k l m s t = sym (own_length k l s) ∙ own_length k m t

same_peer_length : (k : Kept) (l m : Log) → IsWindowOf k l → IsWindowOf k m → length l.received ≡ length m.received
same_peer_length k l m s t = sym (peer_length k l s) ∙ peer_length k m t

same_next : (k : Kept) (l m : Log) → IsWindowOf k l → IsWindowOf k m → next_id l.received ≡ next_id m.received
same_next k l m s t = sym (peer_due k k l refl s) ∙ peer_due k k m refl t

pub same_own_next : (k : Kept) (l m : Log) → IsWindowOf k l → IsWindowOf k m → next_id l.own ≡ next_id m.own
same_own_next k l m s t = ap (λ (y : Standing). y.next_id) (sym s.is_kept.own_stands ∙ t.is_kept.own_stands)

next_held : (k : Kept) (l : Log) → IsWindowOf k l
    → k.balances.next_peer + next_id (peer_rest k k.first.peer k.acknowledged.peer)
    ≡ next_id (take l.acknowledged.peer l.received)
unfolding peer_rest
next_held k l s =
    let le : k.first.peer ≤ k.acknowledged.peer =
    subst (λ (c : Counts). k.first.peer ≤ c.peer) (sym s.acknowledged) s.first_peer in
    next_is k l k.acknowledged.peer (peer_rest k k.first.peer k.acknowledged.peer) s le
    (peer_between k l k.first.peer k.acknowledged.peer k.received s (omega arith) le refl)
    ∙ ap (λ (c : Counts). next_id (take c.peer l.received)) s.acknowledged

-- ---- what keeps a side from it

none_same : (us vs : List Update) (id : ℕ) → AreNumbered 0 us → AreNumbered 0 vs → next_id us ≡ next_id vs
    → is_none (add_with id us) ≡ is_none (add_with id vs)
none_same us vs id h g e = elim (leb_tells (next_id us) id) [
  | inl y ↦ (let le = y.1 in offered_not us id h le ∙ sym (offered_not vs id g (omega (arith, le, e))))
  | inr y ↦ (let lt = y.1 in offered_is us id h lt ∙ sym (offered_is vs id g (omega (arith, lt, e))))
]

abbrev fault_by : Bool → Bool → Bool → Option Refusal
fault_by none live unheld = cond none (Some (refusal.PeerLimit rule.NoSuchHtlc))
    (cond (not live) (Some refusal.AlreadyRemoved) (cond unheld (Some refusal.NotCommitted) None))

same_removal : (k : Kept) (l m : Log) (o : Option Removal) → IsWindowOf k l → IsWindowOf k m
    → removal_fault l o ≡ removal_fault m o
same_removal k l m None s t = refl
same_removal k l m (Some r) s t =
    let ids = s.is_kept.peer_ids in
    let got = t.is_kept.peer_ids in
    let next = same_next k l m s t in
    elim (leb_tells (next_id l.received) r.id) [
      | inl y ↦ (let le = y.1 in fault_none l r (offered_not l.received r.id ids le)
          ∙ sym (fault_none m r (offered_not m.received r.id got (omega (arith, le, next)))))
      | inr y ↦ (
          let lt = y.1 in
          let there = none_same l.received m.received r.id ids got next in
          let live : is_live (outcome r.id l.own) ≡ is_live (outcome r.id m.own) =
          live_is k l r.id s lt ∙ sym (live_is k m r.id t (omega (arith, lt, next))) in
          let held = none_same (take l.acknowledged.peer l.received) (take m.acknowledged.peer m.received) r.id
          (numbered-take 0 l.acknowledged.peer l.received ids) (numbered-take 0 m.acknowledged.peer m.received got)
          (sym (next_held k l s) ∙ next_held k m t) in
          ap (λ b. fault_by b (is_live (outcome r.id l.own))
          (is_none (add_with r.id (take l.acknowledged.peer l.received)))) there
          ∙ ap (λ b. fault_by (is_none (add_with r.id m.received)) b
          (is_none (add_with r.id (take l.acknowledged.peer l.received)))) live
          ∙ ap (fault_by (is_none (add_with r.id m.received)) (is_live (outcome r.id m.own))) held)
    ]

own_fault_by : (k : Kept) (l : Log) (u : Update) → IsWindowOf k l
    → fault_at (limits_of k.opening k.role) k.own_standing k.role k.own (peer_part k k.acknowledged.peer) u
    ≡ update_fault l.opening l.role l.own (take l.current.peer l.received) (take l.acknowledged.peer l.received) u
unfolding peer_part
own_fault_by k l u s =
    own_call_fault k k l u (limits_of k.opening k.role) k.own (peer_part k k.acknowledged.peer) _ refl s refl refl
    (peer_front k l k.acknowledged.peer k.received s
    (subst (λ (c : Counts). k.first.peer ≤ c.peer) (sym s.acknowledged) s.first_peer) refl) refl

got_fault_by : (k : Kept) (l : Log) (u : Update) → IsWindowOf k l
    → fault_at (limits_of k.opening (other_role k.role)) k.peer_standing (other_role k.role) k.received
    (own_part k k.current.own) u
    ≡ update_fault l.opening (other_role l.role) l.received (take l.acknowledged.own l.own)
    (take l.current.own l.own) u
unfolding own_part
got_fault_by k l u s =
    got_call_fault k k l u (limits_of k.opening (other_role k.role)) (other_role k.role) k.received
    (own_part k k.current.own) _ refl s refl refl refl
    (own_front k l k.current.own k.own s
    (subst (λ (c : Counts). k.first.own ≤ c.own) (sym s.current) s.first_own) refl) refl

same_id : (us vs : List Update) (u : Update) → next_id us ≡ next_id vs → id_fault us u ≡ id_fault vs u
same_id us vs (Update.Add a) e = ap (λ n. cond (a.id == n) None (Some refusal.BadId)) e
same_id us vs (Update.Fulfil f) e = refl
same_id us vs (Update.Fail f) e = refl
same_id us vs (Update.Malformed f) e = refl
same_id us vs (Update.Fee f) e = refl

pub same_signing : (k : Kept) (l m : Log) → IsWindowOf k l → IsWindowOf k m → sign_fault l ≡ sign_fault m
same_signing k l m s t =
    let fault : Counts → Counts → Counts → Option Refusal = λ a g n. cond (same_counts a g)
    (cond (same_counts g n) (Some refusal.NothingToSign) None) (Some refusal.SignatureOutstanding) in
    let next : (after_sign l).signed ≡ (after_sign m).signed =
    same_counts_by (after_sign l).signed (after_sign m).signed
    (same_length k l m s t) (ap (λ (c : Counts). c.peer) (sym s.current ∙ t.current)) in
    ap (λ a. fault a l.signed (after_sign l).signed) (sym s.acknowledged ∙ t.acknowledged)
    ∙ ap (λ g. fault m.acknowledged g (after_sign l).signed) (sym s.signed ∙ t.signed)
    ∙ ap (fault m.acknowledged m.signed) next

pub same_proposal : (k : Kept) (l m : Log) (u : Update) → IsWindowOf k l → IsWindowOf k m
    → proposal_fault l u ≡ proposal_fault m u
same_proposal k l m u s t =
    let fault : ℕ → Option Refusal → Option Refusal → Option Refusal = λ n r f.
    first_fault (cond (nat_le most_updates n) (Some refusal.NumbersSpent) None)
    (first_fault r (first_fault (option_map peer_limit f) (length_fault u))) in
    let limits = sym (own_fault_by k l u s) ∙ own_fault_by k m u t in
    ap (λ n. fault n (removal_fault l (removed u)) (update_fault l.opening l.role l.own (take l.current.peer l.received)
    (take l.acknowledged.peer l.received) u)) (same_length k l m s t)
    ∙ ap (λ r. fault (length m.own) r (update_fault l.opening l.role l.own (take l.current.peer l.received)
    (take l.acknowledged.peer l.received) u)) (same_removal k l m (removed u) s t)
    ∙ ap (fault (length m.own) (removal_fault m (removed u))) limits

pub same_taking : (k : Kept) (l m : Log) (u : Update) → IsWindowOf k l → IsWindowOf k m
    → taken_fault l u ≡ taken_fault m u
same_taking k l m u s t =
    let fault : ℕ → Option Refusal → Option Refusal → Option Refusal = λ n i f.
    first_fault (cond (nat_le most_updates n) (Some refusal.OutOfPlace) None) (first_fault i f) in
    let limits = sym (got_fault_by k l u s) ∙ got_fault_by k m u t in
    ap (λ n. fault n (id_fault l.received u) (update_fault l.opening (other_role l.role) l.received
    (take l.acknowledged.own l.own) (take l.current.own l.own) u)) (same_peer_length k l m s t)
    ∙ ap (λ i. fault (length m.received) i (update_fault l.opening (other_role l.role) l.received
    (take l.acknowledged.own l.own) (take l.current.own l.own) u))
    (same_id l.received m.received u (same_next k l m s t))
    ∙ ap (fault (length m.received) (id_fault m.received u)) limits

-- ---- views

pair_is : (p : Pair) (k : Kept) (l : Log) → IsWindowOf k l → pair_counts p k ≡ counts_of p l
pair_is (pair.Current side.Own) k l s = s.current
pair_is (pair.Current side.Peer) k l s = s.acknowledged
pair_is pair.Signed k l s = s.signed
pair_is pair.ToSign k l s = same_counts_by (pair_counts pair.ToSign k) (after_sign l).signed (own_length k l s)
    (ap (λ (c : Counts). c.peer) s.current)
pair_is pair.ToAccept k l s = same_counts_by (pair_counts pair.ToAccept k) (after_accept l).current
    (ap (λ (c : Counts). c.own) s.acknowledged) (peer_length k l s)

viewing : (p : Pair) (k : Kept) (l : Log) → IsWindowOf k l
    → Viewing k k l p (role_balances_of k.balances k.role) (own_part k (pair_counts p k).own)
    (own_rest k k.first.own (pair_counts p k).own) (peer_part k (pair_counts p k).peer)
    (peer_rest k k.first.peer (pair_counts p k).peer) (pair_counts p k).own (pair_counts p k).peer
unfolding own_part own_rest peer_part peer_rest
viewing p k l s =
    let c = pair_counts p k in
    let e = pair_is p k l s in
    let le = first_in p l k.first.own k.first.peer s.is_kept.within s.first_own s.first_peer in
    let own : k.first.own ≤ c.own = subst (λ (x : Counts). k.first.own ≤ x.own) (sym e) le.0 in
    let peer : k.first.peer ≤ c.peer = subst (λ (x : Counts). k.first.peer ≤ x.peer) (sym e) le.1 in
    record {
      kept = refl;
      stands = s;
      own_count = ap (λ (x : Counts). x.own) e;
      peer_count = ap (λ (x : Counts). x.peer) e;
      own_list = own_front k l c.own k.own s own refl;
      peer_list = peer_front k l c.peer k.received s peer refl;
      own_rest = own_between k l k.first.own c.own k.own s (omega arith) own refl;
      peer_rest = peer_between k l k.first.peer c.peer k.received s (omega arith) peer refl;
      base = refl;
    }

view_by : (x : Role) (p : Pair) (k : Kept) (l m : Log) → k.role ≡ x → IsWindowOf k l → IsWindowOf k m
    → view_for l.opening l.role (covered l (counts_of p l)) ≡ view_for m.opening m.role (covered m (counts_of p m))
view_by Funder p k l m e s t =
    sym (funder_call k k l p _ _ _ _ _ _ _ e (viewing p k l s)).1 ∙ (funder_call k k m p _ _ _ _ _ _ _ e
    (viewing p k m t)).1
view_by Fundee p k l m e s t =
    sym (fundee_call k k l p _ _ _ _ _ _ _ e (viewing p k l s)).1 ∙ (fundee_call k k m p _ _ _ _ _ _ _ e
    (viewing p k m t)).1

pub same_view : (p : Pair) (k : Kept) (l m : Log) → IsWindowOf k l → IsWindowOf k m
    → view_for l.opening l.role (covered l (counts_of p l)) ≡ view_for m.opening m.role (covered m (counts_of p m))
same_view p k l m s t = view_by k.role p k l m refl s t

-- ---- what is sent again

unacked_by : (k : Kept) (l : Log) → IsWindowOf k l → own_rest k k.acknowledged.own k.signed.own ≡ unacknowledged l
unfolding own_rest
unacked_by k l s =
    let w = s.is_kept.within in
    let le : k.first.own ≤ k.acknowledged.own = subst (λ (c : Counts). k.first.own ≤ c.own) (sym s.acknowledged)
    (omega (arith, s.first_own, w.own_current)) in
    let lt : k.acknowledged.own ≤ k.signed.own =
    subst (λ (c : Counts). c.own ≤ k.signed.own) (sym s.acknowledged)
    (subst (λ (c : Counts). l.acknowledged.own ≤ c.own) (sym s.signed) w.own_acknowledged) in
    own_between k l k.acknowledged.own k.signed.own k.own s le lt refl
    ∙ ap (λ (c : Counts). between c.own k.signed.own l.own) s.acknowledged
    ∙ ap (λ (c : Counts). between l.acknowledged.own c.own l.own) s.signed
    ∙ between_is l.acknowledged.own l.signed.own l.own w.own_acknowledged

pub same_unacknowledged : (k : Kept) (l m : Log) → IsWindowOf k l → IsWindowOf k m → unacknowledged l ≡ unacknowledged m
same_unacknowledged k l m s t = sym (unacked_by k l s) ∙ unacked_by k m t

-- ---- they stay alike

held_part : (k : Kept) (l : Log) → IsWindowOf k l
    → own_part k k.current.own ≡ front_of side.Own k l l.current.own
unfolding own_part
held_part k l s =
    own_front k l k.current.own k.own s (subst (λ (c : Counts). k.first.own ≤ c.own) (sym s.current) s.first_own) refl
    ∙ ap (λ (c : Counts). front_of side.Own k l c.own) s.current

seen_part : (k : Kept) (l : Log) → IsWindowOf k l
    → peer_part k k.current.peer ≡ front_of side.Peer k l l.current.peer
unfolding peer_part
seen_part k l s =
    let w = s.is_kept.within in
    peer_front k l k.current.peer k.received s (subst (λ (c : Counts). k.first.peer ≤ c.peer) (sym s.current)
    (omega (arith, s.first_peer, w.peer_acknowledged, w.peer_signed))) refl
    ∙ ap (λ (c : Counts). front_of side.Peer k l c.peer) s.current

acknowledged_part : (k : Kept) (l : Log) → IsWindowOf k l
    → own_part k k.acknowledged.own ≡ front_of side.Own k l l.acknowledged.own
unfolding own_part
acknowledged_part k l s =
    own_front k l k.acknowledged.own k.own s (subst (λ (c : Counts). k.first.own ≤ c.own) (sym s.acknowledged)
    (omega (arith, s.first_own, s.is_kept.within.own_current))) refl
    ∙ ap (λ (c : Counts). front_of side.Own k l c.own) s.acknowledged

signed_part : (k : Kept) (l : Log) → IsWindowOf k l
    → peer_part k k.signed.peer ≡ front_of side.Peer k l l.signed.peer
unfolding peer_part
signed_part k l s =
    let w = s.is_kept.within in
    peer_front k l k.signed.peer k.received s (subst (λ (c : Counts). k.first.peer ≤ c.peer) (sym s.signed)
    (omega (arith, s.first_peer, w.peer_acknowledged))) refl
    ∙ ap (λ (c : Counts). front_of side.Peer k l c.peer) s.signed

new_part : Kept → List Update
new_part k = drop (k.live.peer + (k.current.peer - k.first.peer)) k.received

new_is : (k : Kept) (l : Log) → IsWindowOf k l → new_part k ≡ drop l.current.peer l.received
unfolding new_part
new_is k l s =
    let w = s.is_kept.within in
    ap (λ (c : Counts). drop (k.live.peer + (c.peer - k.first.peer)) k.received) s.current
    ∙ ap (drop (k.live.peer + (l.current.peer - k.first.peer))) s.received
    ∙ cut_off k.live.peer k.first.peer l.current.peer _ l.received s.live_peer
    (omega (arith, s.first_peer, w.peer_acknowledged, w.peer_signed))

proposed : (k : Kept) (l : Log) (u : Update) → IsWindowOf k l → proposal_fault l u ≡ None → HasNextId l.own u
    → IsWindowOf (record k {
      own = k.own ++ u ∷ [];
      own_standing = with_own k.own_standing (peer_part k k.current.peer) u;
    }) (after_propose u l)
proposed k l u s none next = stands_proposed k l u _ (k.own ++ u ∷ []) (peer_part k k.current.peer) s none next
    (seen_part k l s) (λ f. refl) refl

taken : (k : Kept) (l : Log) (u : Update) → IsWindowOf k l → taken_fault l u ≡ None
    → IsWindowOf (record k {
      received = k.received ++ u ∷ [];
      peer_standing = with_own k.peer_standing (own_part k k.acknowledged.own) u;
    }) (after_receive u l)
taken k l u s none = stands_received k l u _ (k.received ++ u ∷ []) (own_part k k.acknowledged.own) s none
    (acknowledged_part k l s) (λ f. refl) refl

signs : (k : Kept) (l : Log) → IsWindowOf k l
    → IsWindowOf (record k { signed = pair_counts pair.ToSign k; own_signed = k.own_standing }) (after_sign l)
signs k l s = stands_signed k l (pair_counts pair.ToSign k) s (own_length k l s) (ap (λ (c : Counts). c.peer) s.current)

accepts : (k : Kept) (l : Log) → IsWindowOf k l → IsWindowOf (record k {
  current = pair_counts pair.ToAccept k;
  own_standing = with_all k.own_standing (own_part k k.current.own) (new_part k);
  own_signed = with_all k.own_signed (own_part k k.current.own) (new_part k);
  peer_current = k.peer_standing;
}) (after_accept l)
accepts k l s = stands_accepted k l (pair_counts pair.ToAccept k) _ _ (new_part k) (own_part k k.current.own) s
    (ap (λ (c : Counts). c.own) s.acknowledged) (peer_length k l s) (new_is k l s) (held_part k l s) (λ f. refl)
    (λ f. refl)

learns : (k : Kept) (l : Log) → IsWindowOf k l → IsWindowOf (record k {
  acknowledged = k.signed;
  peer_standing = with_all k.peer_standing (peer_part k k.signed.peer) (own_rest k k.acknowledged.own k.signed.own);
  peer_current = with_all k.peer_current (peer_part k k.signed.peer) (own_rest k k.acknowledged.own k.signed.own);
}) (after_learn l)
learns k l s = stands_learned k l _ _ (own_rest k k.acknowledged.own k.signed.own) (peer_part k k.signed.peer) s
    (unacked_by k l s) (signed_part k l s) (λ f. refl) (λ f. refl)

drops : (k : Kept) (l : Log) → IsWindowOf k l → IsWindowOf (record k {
  own = own_part k k.signed.own;
  received = peer_part k k.current.peer;
  own_standing = k.own_signed;
  peer_standing = k.peer_current;
}) (after_drop l)
unfolding own_part peer_part
drops k l s = stands_dropped k l (own_part k k.signed.own) (peer_part k k.current.peer) s refl refl

same_due : (us vs : List Update) (u : Update) → next_id us ≡ next_id vs → HasNextId us u → HasNextId vs u
same_due us vs (Update.Add a) e h = h ∙ e
same_due us vs (Update.Fulfil f) e h = tt
same_due us vs (Update.Fail f) e h = tt
same_due us vs (Update.Malformed f) e h = tt
same_due us vs (Update.Fee f) e h = tt

pub alike_proposed : (l m : Log) (u : Update) → AreAlike l m → proposal_fault l u ≡ None → HasNextId l.own u
    → AreAlike (after_propose u l) (after_propose u m)
alike_proposed l m u h none next = (
  _,
  (
    proposed h.0 l u h.1.0 none next,
    proposed h.0 m u h.1.1 (sym (same_proposal h.0 l m u h.1.0 h.1.1) ∙ none)
        (same_due l.own m.own u (same_own_next h.0 l m h.1.0 h.1.1) next),
  ),
)

pub alike_taken : (l m : Log) (u : Update) → AreAlike l m → taken_fault l u ≡ None
    → AreAlike (after_receive u l) (after_receive u m)
alike_taken l m u h none =
    (_, (taken h.0 l u h.1.0 none, taken h.0 m u h.1.1 (sym (same_taking h.0 l m u h.1.0 h.1.1) ∙ none)))

pub alike_signed : (l m : Log) → AreAlike l m → AreAlike (after_sign l) (after_sign m)
alike_signed l m h = (_, (signs h.0 l h.1.0, signs h.0 m h.1.1))

pub alike_accepted : (l m : Log) → AreAlike l m → AreAlike (after_accept l) (after_accept m)
alike_accepted l m h = (_, (accepts h.0 l h.1.0, accepts h.0 m h.1.1))

pub alike_learned : (l m : Log) → AreAlike l m → AreAlike (after_learn l) (after_learn m)
alike_learned l m h = (_, (learns h.0 l h.1.0, learns h.0 m h.1.1))

pub alike_dropped : (l m : Log) → AreAlike l m → AreAlike (after_drop l) (after_drop m)
alike_dropped l m h = (_, (drops h.0 l h.1.0, drops h.0 m h.1.1))
