-- Turns, by what was written.
use Rattle.std.proofs.Common.{append-nil, ◌++◌, ◌∷◌, ◌≡◌, [], ℕ, List, Result, Ok, Err}
use Rattle.std.proofs.Common.{IfErr, OnOk, refl, sym, ap, ◌∙◌, inl, inr, true, false, subst}
use Rattle.std.proofs.KnownBytes.{Appends-nil}
use Rattle.ln_msgs.specs.declared.messages.message.Message.{Message}
use Rattle.ln_refusals.specs.declared.refusal.Refusal.{Refusal}
use Rattle.ln_refusals.specs.declared.refusal.Refusal.TheVariants as refusal
use Rattle.ln_msgs.specs.Messages.Message.{Wire}
use Rattle.ln_channel.specs.declared.command.Command.{Command}
use Rattle.ln_channel.specs.declared.output.Output.{Output}
use Rattle.ln_node_loops.specs.declared.item.Item.{Item}
use Rattle.ln_node_loops.specs.declared.item.Item.TheVariants as item
use Rattle.ln_node_loops.specs.declared.kind.Kind.TheVariants.{OfConnection, Ping, OfFailure, OfChannel}
use Rattle.ln_node_loops.specs.Reserved.{is_reserved}
use Rattle.ln_node_loops.specs.Act.{Act, Handles, Connects}
use Rattle.ln_node_loops.specs.Kind.{kind_of}
use Rattle.ln_msgs.specs.Messages.Typed.{wire}
use Rattle.ln_node_loops.specs.Connection.{Latest, NoneYet, Open, Closed, Wrote}
use Rattle.ln_node_loops.specs.Sent.{outputs_of, answer_of, sent, sent_for, pongs}
use Rattle.ln_node_loops.specs.Turn.{IsTurn, IsObeyed, Serves, HearsOf, ObeysOrder, Writes, Goes, due, due_for}

-- what goes out is what is written, and a failed write comes before what was answered
pub goes-over : (ws : List Wire) (said written answer : Result (Unit {0}) Refusal)
    (connection connection' : Latest)
    → Goes ws written connection connection' → IfErr written (λ e. answer ≡ Err e) → OnOk written (answer ≡ said)
    → Writes ws said answer connection connection'
goes-over ws said (Ok u) answer connection connection' all failed same = inl (same, all)
goes-over ws said (Err e) answer connection connection' lost failed same = inr (e, failed, lost)

-- the same, by the outputs and the answer that were taken apart
pub goes-apart : (said : Result (List Output) Refusal) (outputs : List Output)
    (answered written answer : Result (Unit {0}) Refusal) (connection connection' : Latest)
    → outputs ≡ outputs_of said
    → answered ≡ answer_of said → Goes (sent outputs) written connection connection'
    → IfErr written (λ e. answer ≡ Err e) → OnOk written (answer ≡ answered)
    → Writes (sent (outputs_of said)) (answer_of said) answer connection connection'
goes-apart said outputs answered written answer connection connection' out is goes_out failed same =
    goes-over (sent (outputs_of said)) (answer_of said) written answer connection connection'
    (subst (λ os. Goes (sent os) written connection connection') out goes_out)
    failed (subst (λ a. OnOk written (answer ≡ a)) is same)

-- where nothing was refused before
pub goes : (ws : List Wire) (written : Result (Unit {0}) Refusal) (connection connection' : Latest)
    → Goes ws written connection connection' → Writes ws (Ok tt) written connection connection'
goes ws (Ok u) connection connection' all = inl (refl, all)
goes ws (Err e) connection connection' lost = inr (e, refl, lost)

wrote-none : (connection : Latest) → Wrote connection connection []
wrote-none NoneYet = refl
wrote-none (Open l) = Appends-nil l.bytes
wrote-none Closed = refl

module _ {S : Type 0} (acts : S → Act → Result (List Output) Refusal → S → Type 0) where
  -- a turn that hands out and writes nothing
  pub idles : (s : S) (i : Item Message) (outputs : List Output) (answer : Result (Unit {0}) Refusal) (s' : S)
      (connection : Latest) → (outputs ≡ []) × (answer ≡ Ok tt) → Serves acts s i (Ok []) s'
      → due i (Ok []) ≡ []
      → IsTurn acts s i outputs answer s' connection connection
  idles s i outputs answer s' connection nothing serves quiet = record {
    said = Ok [];
    serves = serves;
    hands_out = nothing.0;
    writes = rw quiet (inl (nothing.1, wrote-none connection));
  }

  -- a connection
  pub joins : (s : S) (own_init : Message) (said : Result (List Output) Refusal) (outputs : List Output)
      (answered written answer : Result (Unit {0}) Refusal) (s' : S) (connection connection' : Latest)
      → acts s Connects said s' → outputs ≡ outputs_of said → answered ≡ answer_of said
      → Goes (wire own_init ∷ sent outputs) written connection connection'
      → IfErr written (λ e. answer ≡ Err e) → OnOk written (answer ≡ answered)
      → IsTurn acts s (item.Joined own_init) outputs answer s' connection connection'
  joins s own_init said outputs answered written answer s' connection connection' act out is goes_out failed
      same = record {
        said = said;
        serves = act;
        hands_out = out;
        writes = goes-over
            (wire own_init ∷ sent (outputs_of said)) (answer_of said) written answer connection connection'
            (subst (λ os. Goes (wire own_init ∷ sent os) written connection connection') out goes_out)
            failed (subst (λ a. OnOk written (answer ≡ a)) is same);
      }

  -- a message of a connection
  pub passes : (s : S) (m : Message) (outputs : List Output) (answer : Result (Unit {0}) Refusal)
      (connection : Latest) → kind_of m ≡ OfConnection → (outputs ≡ []) × (answer ≡ Ok tt)
      → IsTurn acts s (item.Read m) outputs answer s connection connection
  passes s m outputs answer connection of nothing =
      idles s (item.Read m) outputs answer s connection nothing
      (subst (λ k. HearsOf acts k s m (Ok []) s) (sym of) (refl, refl)) (ap (λ k. due_for k (Ok [])) of)

  -- a ping
  pub answers : (s : S) (m : Message) (n : ℕ) (outputs : List Output) (answer : Result (Unit {0}) Refusal)
      (connection connection' : Latest) → kind_of m ≡ Ping n → outputs ≡ []
      → Goes (pongs n) answer connection connection'
      → IsTurn acts s (item.Read m) outputs answer s connection connection'
  answers s m n outputs answer connection connection' of none out = record {
    said = Ok [];
    serves = subst (λ k. HearsOf acts k s m (Ok []) s) (sym of) (refl, refl);
    hands_out = none;
    writes = subst (λ k. Writes (due_for k (Ok [])) (Ok tt) answer connection connection') (sym of)
        (goes (pongs n) answer connection connection' out);
  }

  -- a message of a channel
  pub hands : (s : S) (m : Message) (id : List ℕ) (said : Result (List Output) Refusal) (outputs : List Output)
      (answer : Result (Unit {0}) Refusal) (s' : S) (connection connection' : Latest)
      → kind_of m ≡ OfChannel id
      → acts s (Handles m) said s' → outputs ≡ outputs_of said
      → Writes (sent_for id said) (answer_of said) answer connection connection'
      → IsTurn acts s (item.Read m) outputs answer s' connection connection'
  hands s m id said outputs answer s' connection connection' of act out writes = record {
    said = said;
    serves = subst (λ k. HearsOf acts k s m said s') (sym of) act;
    hands_out = out;
    writes = subst (λ k. Writes (due_for k said) (answer_of said) answer connection connection') (sym of) writes;
  }

  -- what the peer tells of a failure
  pub learns : (s : S) (m : Message) (said : Result (List Output) Refusal) (outputs : List Output)
      (answer : Result (Unit {0}) Refusal) (s' : S) (connection connection' : Latest) → kind_of m ≡ OfFailure
      → acts s (Handles m) said s' → outputs ≡ outputs_of said
      → Writes (sent (outputs_of said)) (answer_of said) answer connection connection'
      → IsTurn acts s (item.Read m) outputs answer s' connection connection'
  learns s m said outputs answer s' connection connection' of act out writes = record {
    said = said;
    serves = subst (λ k. HearsOf acts k s m said s') (sym of) act;
    hands_out = out;
    writes = subst (λ k. Writes (due_for k said) (answer_of said) answer connection connection') (sym of) writes;
  }

  -- an order that is passed over
  pub declines : (s : S) (c : Command) (outputs : List Output) (answer : Result (Unit {0}) Refusal)
      (connection : Latest) → is_reserved c ≡ true
      → (outputs ≡ []) × (answer ≡ Err refusal.NotReady)
      → IsTurn acts s (item.Order c) outputs answer s connection connection
  declines s c outputs answer connection of nothing = record {
    said = Err refusal.NotReady;
    serves = subst (λ b. ObeysOrder acts b s c (Err refusal.NotReady) s) (sym of) (refl, refl);
    hands_out = nothing.0;
    writes = inl (nothing.1, wrote-none connection);
  }

  -- and one that is obeyed
  pub obeys : (s : S) (c : Command) (outputs : List Output) (said written answer : Result (Unit {0}) Refusal) (s' : S)
      (connection connection' : Latest) → is_reserved c ≡ false
      → IsObeyed acts s c outputs said written s' connection connection'
      → IfErr written (λ e. answer ≡ Err e) → OnOk written (answer ≡ said)
      → IsTurn acts s (item.Order c) outputs answer s' connection connection'
  obeys s c outputs said written answer s' connection connection' of o failed same = record {
    said = o.said;
    serves = subst (λ b. ObeysOrder acts b s c o.said s') (sym of) o.obeys;
    hands_out = o.hands_out;
    writes = goes-over (sent (outputs_of o.said)) (answer_of o.said) written answer connection connection' o.goes failed
        (subst (λ a. OnOk written (answer ≡ a)) o.answers same);
  }

-- a message alone
pub sends_only : (us ws : List Wire) (written : Result (Unit {0}) Refusal)
    (connection connection' : Latest) → us ≡ ws
    → Goes (us ++ []) written connection connection' → Goes ws written connection connection'
sends_only us ws written connection connection' same out =
    subst (λ l. Goes l written connection connection') (append-nil us ∙ same) out
