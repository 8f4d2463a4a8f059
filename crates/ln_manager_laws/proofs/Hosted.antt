-- What a call that a host makes for a peer or a user leaves of a link beside others: its end goes on as a payment may
-- see it, and no other link has its id.
use Rattle.std.proofs.Common.{◌≡◌, ◌⊎◌, inl, inr, ℕ, List, [], ◌∷◌, refl, sym, ap, ◌∙◌, subst, Bool, true, false, cond}
use Rattle.std.proofs.Common.{Option, Some, None, IfSome}
use Rattle.ln_keys.specs.Signer.{Signer}
use Rattle.ln_channel.specs.declared.command.Command as declared
use Rattle.ln_channel.specs.declared.command.Command.TheVariants as command
use Rattle.ln_channel.specs.declared.machine.Stage.{Stage}
use Rattle.ln_channel.specs.declared.machine.Stage.TheVariants as stage
use Rattle.ln_channel.specs.Naming.{channel_of}
use Rattle.ln_channel.specs.Record.{saved_end}
use Rattle.ln_channel.specs.State.{State}
use Rattle.ln_channel.specs.Step.{is_of_records}
use Rattle.ln_store.specs.Store.{Records}
use Rattle.ln_link.specs.Saving.{is_known}
use Rattle.ln_payment_circuits.specs.Snapshot.{All}
use Rattle.ln_payment_circuits.proofs.Calls.{IsPlainCommand}
use Rattle.ln_manager_laws.specs.Calls.{Seat, working, Call, SetKeys, NameFunding, Handle, Command, Connect}
use Rattle.ln_manager_laws.specs.Calls.{DropConnection, Halt, Load, made, seated, called}
use Rattle.ln_manager_laws.specs.Manager.{agreed_id, id_by, seat_id}
use Rattle.ln_manager_laws.specs.Steps.{is_users, Knows, IsHosts}
use Rattle.ln_manager_laws.proofs.Turns.{Becomes, Stays, Goes, IsReady, stays_there, message_goes}
use Rattle.ln_manager_laws.proofs.Turns.{command_goes, connection_goes, naming_goes, IdGoes, Keeps, Loses, Agrees}
use Rattle.ln_manager_laws.proofs.Seats.{IsSound, called_sound, made_halted}
use Rattle.ln_manager_laws.proofs.Apart.{Other, ids}

-- ---- ids

-- a link that works has the id of its stage
stage_id : (s : Stage) → id_by (saved_end s) (channel_of s) ≡ channel_of s
stage_id (stage.AwaitsOpen c) = refl
stage_id (stage.AwaitsAccept s) = refl
stage_id (stage.AwaitsCreated a) = refl
stage_id (stage.AwaitsSigned e) = refl
stage_id (stage.Funded e) = refl
stage_id stage.Gone = refl

-- ---- what a user commands

plain_users : (c : declared.Command) → is_users c ≡ true → (is_of_records c ≡ false) × IsPlainCommand c
plain_users (command.Confirm id) is = (refl, tt)
plain_users (command.Add amount hash expiry onion None) is = (refl, refl)
plain_users (command.Add amount hash expiry onion (Some origin)) is = absurd (cc)
plain_users (command.Fulfil id preimage) is = absurd (cc)
plain_users (command.Fail id reason) is = absurd (cc)
plain_users (command.Malformed id sha code) is = absurd (cc)
plain_users (command.Fee feerate) is = (refl, tt)
plain_users command.Sign is = (refl, tt)
plain_users (command.Shutdown script) is = (refl, tt)
plain_users (command.Decide event mark) is = absurd (cc)
plain_users (command.Forget id) is = absurd (cc)
plain_users (command.Resume event mark) is = absurd (cc)

-- ---- links

module _ {K : Type 0} where
  pub works_id : (x : Seat K) → IsSound x → x.link.halted ≡ false → seat_id x ≡ channel_of x.link.stage
  works_id x s works =
      ap (λ o. id_by o (agreed_id x.link)) (s.works works).0
      ∙ ap (λ b. id_by (saved_end x.link.stage) (cond b None (channel_of x.link.stage))) works
      ∙ stage_id x.link.stage

  pub halted_id : (x : Seat K) → x.link.halted ≡ true → seat_id x ≡ id_by x.end None
  halted_id x halted = ap (λ b. id_by x.end (cond b None (channel_of x.link.stage))) halted

  -- no other link has this id
  abbrev pub IsAlone : Option (List ℕ) → List (Seat K) → Type 0
  IsAlone a xs = All (Other a) (ids xs)

  pub none_alone : (xs : List (Seat K)) → IsAlone None xs
  none_alone [] = tt
  none_alone (x ∷ xs) = (tt, none_alone xs)

  new_alone : (known : Records) (id : List ℕ) → is_known (Some id) known ≡ false → (xs : List (Seat K))
      → All (Knows known) xs → IsAlone (Some id) xs
  new_alone known id new [] h = tt
  new_alone known id new (x ∷ xs) h = (cases (seat_id x) h.0, new_alone known id new xs h.1)
    where
      cases : (o : Option (List ℕ)) → IfSome o (λ id. is_known (Some id) known ≡ true) → Other (Some id) o
      cases None k = tt
      cases (Some other) k = λ same. let no : true ≡ false =
          sym k ∙ ap (λ i. is_known (Some i) known) (sym same) ∙ new in absurd (cc)

  -- ---- what is left

  -- plainly where this holds
  pub record IsHosted (P : Type 0) (x y : Seat K) (xs : List (Seat K)) : Type 0 where
    pub sound : IsSound y
    pub halted : y.link.halted ≡ x.link.halted
    pub becomes : Becomes P x.end y.end
    pub works : (y.end ≡ x.end) ⊎ (x.link.halted ≡ false)
    pub alone : IsAlone (seat_id x) xs → IsAlone (seat_id y) xs

  goes_alone : (O : List ℕ → Type 0) (xs : List (Seat K)) → ((id : List ℕ) → O id → IsAlone (Some id) xs)
      → (s t : Stage) → IdGoes O s t → IsAlone (channel_of s) xs → IsAlone (channel_of t) xs
  goes_alone O xs new s t (Keeps is) h = subst (λ a. IsAlone a xs) (sym is) h
  goes_alone O xs new s t (Loses is) h = subst (λ a. IsAlone a xs) (sym is) (none_alone xs)
  goes_alone O xs new s t (Agrees id o is) h = subst (λ a. IsAlone a xs) (sym is) (new id o)

  seated_so : (P : Type 0) (O : List ℕ → Type 0) (xs : List (Seat K)) → ((id : List ℕ) → O id → IsAlone (Some id) xs)
      → (x : Seat K) (l : State K) → IsSound x → IsSound (seated x l) → l.halted ≡ x.link.halted
      → (x.link.halted ≡ false → Goes P O x.link l) → IsHosted P x (seated x l) xs
  seated_so P O xs new x l s sound same goes = by_halted x.link.halted refl sound
    where
      by_halted : (b : Bool) → x.link.halted ≡ b → IsSound (cond b (record x { link = l }) (working l))
          → IsHosted P x (cond b (record x { link = l }) (working l)) xs
      by_halted true is t = record {
        sound = t;
        halted = same;
        becomes = Stays refl;
        works = inl refl;
        alone = subst (λ a. IsAlone a xs) (halted_id x is ∙ sym (halted_id (record x { link = l }) (same ∙ is)));
      }
      by_halted false is t =
          let g = goes is in
          let w = s.works is in
          record {
            sound = t;
            halted = same;
            becomes = subst (λ o. Becomes P o (saved_end l.stage)) (sym w.0) g.becomes;
            works = inr is;
            alone = λ h. subst (λ a. IsAlone a xs) (sym (works_id (working l) t (same ∙ is)))
                (goes_alone O xs new x.link.stage l.stage g.id
                (subst (λ a. IsAlone a xs) (works_id x s is) h));
          }

  never : (xs : List (Seat K)) (id : List ℕ) → ⊥ → IsAlone (Some id) xs
  never xs id o = absurd o

  module _ (signer : K → Signer) (x : Seat K) (s : IsSound x) where
    made_so : (P : Type 0) (k : Call K) (O : List ℕ → Type 0) (xs : List (Seat K)) → ((id : List ℕ) → O id
        → IsAlone (Some id) xs)
        → IsSound (seated x (made signer k x.link))
        → (IsReady x.link.stage → Goes P O x.link (made signer k x.link))
        → IsHosted P x (seated x (made signer k x.link)) xs
    made_so P k O xs new sound goes =
        seated_so P O xs new x (made signer k x.link) s sound (made_halted signer k x.link)
        (λ works. goes (s.works works).1)

    pub hosted : (k : Call K) (xs : List (Seat K)) → IsHosts xs k → IsHosted (Unit {0}) x (called signer k x) xs
    hosted (SetKeys keys) xs h =
        made_so (Unit {0}) (SetKeys keys) (λ id. ⊥) xs (never xs) (called_sound signer (SetKeys keys) x s)
        (λ ready. stays_there (Unit {0}) (λ id. ⊥) x.link (record x.link { keys = keys }) ready refl)
    hosted (NameFunding txid output) xs h =
        made_so (Unit {0}) (NameFunding txid output) (λ id. ⊥) xs (never xs) (called_sound signer
        (NameFunding txid output) x s)
        (naming_goes (Unit {0}) (λ id. ⊥) txid output x.link)
    hosted (Handle known m) xs h =
        made_so (Unit {0}) (Handle known m) (λ id. is_known (Some id) known ≡ false) xs
        (λ id new. new_alone known id new xs h)
        (called_sound signer (Handle known m) x s)
        (λ ready. message_goes (Unit {0}) (λ id. is_known (Some id) known ≡ false) (signer x.link.keys) known m x.link
        ready (λ new id is. ap (λ o. is_known o known) (sym is) ∙ new))
    hosted (Command c) xs h =
        made_so (Unit {0}) (Command c) (λ id. ⊥) xs (never xs) (called_sound signer (Command c) x s)
        (λ ready. command_goes (Unit {0}) (λ id. ⊥) (signer x.link.keys) c x.link ready (λ p. plain_users c h))
    hosted Connect xs h =
        made_so (Unit {0}) Connect (λ id. ⊥) xs (never xs) (called_sound signer Connect x s)
        (connection_goes (Unit {0}) (λ id. ⊥) (signer x.link.keys) x.link)
    hosted DropConnection xs h = absurd h
    hosted (Halt left) xs h = absurd h
    hosted (Load keys failure) xs h = absurd h

    -- a command of the book
    pub bidden : (c : declared.Command) (xs : List (Seat K)) → IsHosted ⊥ x (called signer (Command c) x) xs
    bidden c xs =
        made_so ⊥ (Command c) (λ id. ⊥) xs (never xs) (called_sound signer (Command c) x s)
        (λ ready. command_goes ⊥ (λ id. ⊥) (signer x.link.keys) c x.link ready (λ p. absurd p))
