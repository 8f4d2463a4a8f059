-- The end of a channel in a node: a link with its store, which begins anew while no signature of its opening has left
-- it (BOLT 2, "Message Retransmission": such a channel isn't remembered).
use Rattle.std.specs.Prelude.{◌≡◌, ◌&&◌, List, [], Bool, true, false, not, is_none, Result, Ok, Err}
use Rattle.std.specs.Prelude.{if◌then◌else◌}
use Rattle.ln_msgs.specs.declared.messages.message.Message.{Message}
use Rattle.ln_msgs.specs.declared.messages.message.Message.TheVariants as message
use Rattle.ln_refusals.specs.declared.refusal.Refusal.{Refusal}
use Rattle.ln_refusals.specs.declared.refusal.Refusal.TheVariants as refusal
use Rattle.ln_keys.specs.Signer.{Signer}
use Rattle.ln_channel.specs.declared.output.Output.{Output}
use Rattle.ln_channel.specs.declared.machine.Stage.TheVariants as stage
use Rattle.ln_channel.specs.Record.{saved_end}
use Rattle.ln_channel.specs.State.{State, StandsFor, begun, is_down}
use Rattle.ln_node_loops.specs.Act.{Act, Handles, Obeys, Connects, Drops, Loads}
use Rattle.ln_node_loops.specs.Sent.{loaded}
use Rattle.ln_node_loops.specs.Saved.{Saved}
use Rattle.ln_node_loops.specs.Saved as saved
use Rattle.ln_node.specs.declared.opening.Beginning.{Beginning}
use Rattle.ln_node.specs.declared.opening.Beginning.TheVariants.{Fundee, Funder, Over}

-- a link with its store, and what a new one in its place begins with
pub record Held (K : Type 0) : Type 0 where
  pub saved : Saved K
  pub beginning : Beginning

-- ---- a new link

abbrev pub IsNew : {K : Type 0} → State K → Result (State K) Refusal → Type 0
IsNew l (Ok l') = StandsFor l' l
IsNew l (Err e) = e ≡ refusal.Memory

-- the new link that begins so, or 60; 40 where there is none
abbrev pub Begins : {K : Type 0} → K → Beginning → Result (State K) Refusal → Type 0
Begins keys (Fundee c) r = IsNew (begun keys (stage.AwaitsOpen c)) r
Begins keys (Funder s) r = IsNew (begun keys (stage.AwaitsAccept s)) r
Begins keys Over r = r ≡ Err refusal.NotReady

-- it is in the place of the one that there was, with its keys; where there is none, that stays
abbrev pub BeginsAnew : {K : Type 0} → Beginning → Result (List Output) Refusal → State K → State K → Type 0
BeginsAnew b (Ok os) l l' = (os ≡ []) × Begins l.keys b (Ok l')
BeginsAnew b (Err e) l l' = Begins l.keys b (Err e) × (l' ≡ l)

-- and nothing else changes
pub record Renews {K : Type 0} (h : Held K) (said : Result (List Output) Refusal) (h' : Held K) : Type 0 where
  pub link : BeginsAnew h.beginning said h.saved.link h'.saved.link
  pub store_view : h'.saved.store_view ≡ h.saved.store_view
  pub beginning : h'.beginning ≡ h.beginning

-- ---- what becomes of it

-- it has no connection, and no opening that both have signed
abbrev pub is_unopened : {K : Type 0} → State K → Bool
is_unopened l = is_down l.connection && (not l.halted && is_none (saved_end l.stage))

-- what answers it has a signature of the opening
abbrev pub asks_to_sign : Message → Bool
asks_to_sign (message.AcceptChannel m) = true
asks_to_sign (message.FundingCreated m) = true
asks_to_sign m = false

-- a load found no record (40)
abbrev pub lacks_record : Result (Unit {0}) Refusal → Bool
lacks_record (Err refusal.NotReady) = true
lacks_record r = false

-- where it has signed the opening, there is no new link any more
abbrev pub behind : Message → Result (List Output) Refusal → Beginning → Beginning
behind m (Ok os) b = if asks_to_sign m then Over else b
behind m (Err e) b = b

module _ {K : Type 0} (signer : K → Signer) where
  -- the link with its store does it, and it begins as before
  abbrev pub Keeps : Held K → Act → Result (List Output) Refusal → Held K → Type 0
  Keeps h a said h' = saved.acts signer h.saved a said h'.saved × (h'.beginning ≡ h.beginning)

  abbrev pub ConnectsNew : Held K → Result (List Output) Refusal → Result (List Output) Refusal → Held K → Type 0
  ConnectsNew h (Ok os) said h' = Keeps h Connects said h'
  ConnectsNew h (Err e) said h' = (said ≡ Err e) × (h' ≡ h)

  -- a connection of one that isn't opened is a new link's
  pub record ConnectsAnew (h : Held K) (said : Result (List Output) Refusal) (h' : Held K) : Type 0 where
    pub anew : Result (List Output) Refusal
    pub between : Held K
    pub renews : Renews h anew between
    pub connects : ConnectsNew between anew said h'

  abbrev pub ConnectsBy : Bool → Held K → Result (List Output) Refusal → Held K → Type 0
  ConnectsBy true h said h' = ConnectsAnew h said h'
  ConnectsBy false h said h' = Keeps h Connects said h'

  abbrev pub LoadsNew : Bool → Held K → Result (Unit {0}) Refusal → Result (List Output) Refusal → Held K → Type 0
  LoadsNew true h answer said h' = Renews h said h'
  LoadsNew false h answer said h' = (said ≡ loaded answer) × (h' ≡ h)

  -- where there is no record, a new link is in its place
  pub record LoadsOrRenews (h : Held K) (said : Result (List Output) Refusal) (h' : Held K) : Type 0 where
    pub answer : Result (Unit {0}) Refusal
    pub between : Held K
    pub loads : Keeps h Loads (loaded answer) between
    pub renews : LoadsNew (lacks_record answer) between answer said h'

  -- an act may be answered so, and leave it so
  abbrev pub acts : Held K → Act → Result (List Output) Refusal → Held K → Type 0
  acts h (Handles m) said h' =
      saved.acts signer h.saved (Handles m) said h'.saved × (h'.beginning ≡ behind m said h.beginning)
  acts h (Obeys c) said h' = Keeps h (Obeys c) said h'
  acts h Connects said h' = ConnectsBy (is_unopened h.saved.link) h said h'
  acts h Drops said h' = Keeps h Drops said h'
  acts h Loads said h' = LoadsOrRenews h said h'
