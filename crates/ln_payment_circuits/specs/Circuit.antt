-- What goes out of a node for an HTLC that came in, over all its channels (BOLT 2, "Forwarding HTLCs"): by what its
-- ends
-- have proposed, what their signatures cover, and what they hold as irrevocably committed.
use Rattle.std.specs.Prelude.{◌≡◌, ℕ, List, [], ◌∷◌, take, false, Option, Some, None}
use Rattle.ln_keys.specs.Hash.{payment_hash}
use Rattle.ln_log.specs.declared.outcome.Outcome.{Outcome}
use Rattle.ln_log.specs.declared.outcome.Outcome.TheVariants.{Live}
use Rattle.ln_log.specs.declared.update.Add.{Add}
use Rattle.ln_log.specs.declared.update.Update.{Update}
use Rattle.ln_log.specs.declared.update.Update.TheVariants as update
use Rattle.ln_log.specs.Updates.{add_with, outcome, is_live}
use Rattle.ln_channel.specs.End.{End}
use Rattle.ln_payment_circuits.specs.Snapshot.{Snapshot, Incoming, origin}

-- ---- an HTLC that goes out for it

-- an add says that it forwards what has this origin
abbrev pub Forwards : List ℕ × ℕ → Option Add → Type 0
Forwards o None = ⊥
Forwards o (Some a) = a.origin ≡ Some o

-- the own add of this id does, and a signature covers it: the peer may have it for good
abbrev pub IsCoveredAt : List ℕ × ℕ → ℕ → Option End → Type 0
IsCoveredAt o i None = ⊥
IsCoveredAt o i (Some e) = Forwards o (add_with i (take e.dance.log.signed.own e.dance.log.own))

-- ---- what becomes of both

-- what the own updates, signed or not, make of the peer's HTLC of this id
abbrev pub removed_at : ℕ → Option End → Outcome
removed_at id None = Live
removed_at id (Some e) = outcome id e.dance.log.own

-- what the peer's updates that are held as irrevocably committed make of the own HTLC of this id
abbrev pub fate_at : ℕ → Option End → Outcome
fate_at i None = Live
fate_at i (Some e) = outcome i (take e.dance.log.acknowledged.peer e.dance.log.received)

-- ---- a fulfilment has the preimage

abbrev pub PaysFor : List ℕ → Option Add → Type 0
PaysFor preimage None = ⊥
PaysFor preimage (Some a) = payment_hash preimage ≡ a.hash

-- of the HTLC that these updates offer
abbrev pub IsPaidFor : List Update → Update → Type 0
IsPaidFor us (update.Fulfil f) = PaysFor f.preimage (add_with f.id us)
IsPaidFor us (update.Add a) = Unit {0}
IsPaidFor us (update.Fail f) = Unit {0}
IsPaidFor us (update.Malformed m) = Unit {0}
IsPaidFor us (update.Fee f) = Unit {0}

abbrev pub ArePaidFor : List Update → List Update → Type 0
ArePaidFor us [] = Unit {0}
ArePaidFor us (u ∷ vs) = IsPaidFor us u × ArePaidFor us vs

abbrev pub ArePaidAt : Option End → Type 0
ArePaidAt None = Unit {0}
ArePaidAt (Some e) = ArePaidFor e.dance.log.received e.dance.log.own

-- ---- what is promised

module _ (id_of : ℕ → List ℕ) (h : Incoming) (s : Snapshot) where
  abbrev pub IsCovered : ℕ → ℕ → Type 0
  IsCovered c i = IsCoveredAt (origin id_of h) i (s.ends c)

  pub record PaysOnce : Type 0 where
    -- of the HTLCs that forward it, over all channels, a signature covers one at most
    pub at_most_one : (c d i j : ℕ) → IsCovered c i → IsCovered d j → (c ≡ d) × (i ≡ j)
    -- where it has a removal, even one that no signature covers, each that is covered has been removed likewise,
    -- irrevocably committed
    pub removed_alike : (c i : ℕ) → IsCovered c i → is_live (removed_at h.id (s.ends h.channel)) ≡ false
        → fate_at i (s.ends c) ≡ removed_at h.id (s.ends h.channel)
    -- a fulfilment of it carries a preimage of its hash
    pub fulfilled : ArePaidAt (s.ends h.channel)
