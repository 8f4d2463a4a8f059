-- What is known of a seat after a call of its link, and after its link has halted.
use Rattle.std.proofs.Common.{◌≡◌, ℕ, List, refl, sym, ap, ◌∙◌, subst, Bool, true, false, cond, Option, Some, None}
use Rattle.std.specs.Prelude.{option_map}
use Rattle.ln_refusals.specs.declared.refusal.Refusal.{Refusal}
use Rattle.ln_channel.specs.End.{End, end_dropped}
use Rattle.ln_channel.specs.declared.machine.Stage.{Stage}
use Rattle.ln_channel.specs.declared.machine.Stage.TheVariants as stage
use Rattle.ln_channel.specs.Failing.{fails}
use Rattle.ln_channel.specs.Naming.{channel_of}
use Rattle.ln_channel.specs.Record.{saved_end}
use Rattle.ln_channel.specs.Asking.{with_named}
use Rattle.ln_channel.specs.declared.machine.ConnectionState.TheVariants as connection
use Rattle.ln_channel.specs.State.{State, KeepsChannel, kept_channel, cut, drops, is_down}
use Rattle.ln_manager_laws.specs.Calls.{Seat, working, seated}
use Rattle.ln_manager_laws.specs.Manager.{seat_id, id_by}
use Rattle.ln_manager_laws.proofs.Hosted.{works_id, halted_id}
use Rattle.ln_manager_laws.proofs.Seats.{IsSound}
use Rattle.ln_manager_laws.proofs.Turns.{IdGoes, Keeps, Loses, Agrees}
use Rattle.ln_manager_calls.specs.Standing.{IsStuck}
use Rattle.ln_manager_calls.proofs.Kept.{IsFaithful}

pub saved_kept : (s : Stage) (e : End) → saved_end s ≡ Some e → kept_channel s ≡ Some e.dance.channel
saved_kept (stage.Funded f) e is = let same : f ≡ e = cc in ap (λ (z : End). Some z.dance.channel) same
saved_kept (stage.AwaitsOpen c) e is = absurd (cc)
saved_kept (stage.AwaitsAccept s) e is = absurd (cc)
saved_kept (stage.AwaitsCreated a) e is = absurd (cc)
saved_kept (stage.AwaitsSigned f) e is = absurd (cc)
saved_kept stage.Gone e is = absurd (cc)

pub cut_keeps : (s : Stage) → KeepsChannel s (cut s)
cut_keeps (stage.Funded e) channel is = is
cut_keeps (stage.AwaitsOpen c) channel is = absurd (cc)
cut_keeps (stage.AwaitsAccept s) channel is = absurd (cc)
cut_keeps (stage.AwaitsCreated a) channel is = absurd (cc)
cut_keeps (stage.AwaitsSigned e) channel is = absurd (cc)
cut_keeps stage.Gone channel is = absurd (cc)

pub named_keeps : (txid : List ℕ) (output : ℕ) (s : Stage) → KeepsChannel s (with_named txid output s)
named_keeps txid output (stage.Funded e) channel is = is
named_keeps txid output (stage.AwaitsOpen c) channel is = absurd (cc)
named_keeps txid output (stage.AwaitsAccept s) channel is = absurd (cc)
named_keeps txid output (stage.AwaitsCreated a) channel is = absurd (cc)
named_keeps txid output (stage.AwaitsSigned e) channel is = absurd (cc)
named_keeps txid output stage.Gone channel is = absurd (cc)

pub drops_keeps : {K : Type 0} (l : State K) → KeepsChannel l.stage (drops l).stage
drops_keeps l = by_line (is_down l.connection)
  where
    by_line : (b : Bool) → KeepsChannel l.stage
        (cond b l (record l { connection = connection.Down; stage = cut l.stage })).stage
    by_line true = λ channel is. is
    by_line false = cut_keeps l.stage

-- an id that it has is one of these
goes_id : (O : List ℕ → Type 0) (s t : Stage) → IdGoes O s t → ((id : List ℕ) → channel_of s ≡ Some id → O id)
    → (id : List ℕ) → channel_of t ≡ Some id → O id
goes_id O s t (Keeps same) old id is = old id (sym same ∙ is)
goes_id O s t (Loses none) old id is = absurd (let no : None ≡ Some id = sym none ∙ is in cc)
goes_id O s t (Agrees new o now) old id is =
    let some : Some new ≡ Some id = sym now ∙ is in let same : new ≡ id = cc in subst O same o

-- the id of a link that halts
dropped_id : (o : Option End) (agreed : Option (List ℕ)) (id : List ℕ)
    → id_by (option_map end_dropped o) None ≡ Some id → id_by o agreed ≡ Some id
dropped_id None agreed id is = absurd (cc)
dropped_id (Some e) agreed id is = is

ended_id : (o : Option End) (id : List ℕ) → id_by o None ≡ Some id → id_by (option_map end_dropped o) None ≡ Some id
ended_id None id is = absurd (cc)
ended_id (Some e) id is = is

module _ {K : Type 0} where
  abbrev pub FailsOnly : State K → Type 0
  FailsOnly l = (r : Refusal) → l.failure ≡ Some r → fails r ≡ true

  -- ---- a call makes a link of another one

  module _ (x : Seat K) (l : State K) (same : l.halted ≡ x.link.halted) where
    pub seated_link : (seated x l).link ≡ l
    seated_link = by_halted x.link.halted
      where
        by_halted : (b : Bool) → (cond b (record x { link = l }) (working l)).link ≡ l
        by_halted true = refl
        by_halted false = refl

    pub seated_faithful : IsFaithful x → (x.link.halted ≡ true → KeepsChannel x.link.stage l.stage)
        → (x.link.halted ≡ false → FailsOnly x.link → FailsOnly l) → IsFaithful (seated x l)
    seated_faithful f keeps fails_so = by_halted x.link.halted refl
      where
        by_halted : (b : Bool) → x.link.halted ≡ b → IsFaithful (cond b (record x { link = l }) (working l))
        by_halted true is = record {
          held = λ e at. keeps is e.dance.channel (f.held e at);
          failed = λ works. absurd (let no : true ≡ false = sym is ∙ sym same ∙ works in cc);
        }
        by_halted false is = record {
          held = λ e at. saved_kept l.stage e at;
          failed = λ works. fails_so is (f.failed is);
        }

    pub seated_number : (O : List ℕ → Type 0) → IsSound x → IsSound (seated x l)
        → (x.link.halted ≡ false → IdGoes O x.link.stage l.stage) → ((id : List ℕ) → seat_id x ≡ Some id → O id)
        → (id : List ℕ) → seat_id (seated x l) ≡ Some id → O id
    seated_number O s sound goes old = by_halted x.link.halted refl sound
      where
        by_halted : (b : Bool) → x.link.halted ≡ b → IsSound (cond b (record x { link = l }) (working l))
            → (id : List ℕ) → seat_id (cond b (record x { link = l }) (working l)) ≡ Some id → O id
        by_halted true is t id at =
            old id (halted_id x is ∙ sym (halted_id (record x { link = l }) (same ∙ is)) ∙ at)
        by_halted false is t id at =
            goes_id O x.link.stage l.stage (goes is) (λ i its. old i (works_id x s is ∙ its)) id
            (sym (works_id (working l) t (same ∙ is)) ∙ at)

    pub seated_stuck : (id : List ℕ) → IsStuck id x → IsStuck id (seated x l)
    seated_stuck id s = by_halted x.link.halted refl
      where
        by_halted : (b : Bool) → x.link.halted ≡ b → IsStuck id (cond b (record x { link = l }) (working l))
        by_halted true is =
            (same ∙ is, halted_id (record x { link = l }) (same ∙ is) ∙ sym (halted_id x is) ∙ s.1)
        by_halted false isnt = absurd (let no : true ≡ false = sym s.0 ∙ isnt in cc)

  -- ---- it halts

  abbrev pub halted_seat : Seat K → State K → Seat K
  halted_seat x left = record { link = record left { halted = true }; end = option_map end_dropped x.end }

  pub halted_link : (left : State K) → left.halted ≡ true → record left { halted = true } ≡ left
  halted_link left is = ap (λ b. record left { halted = b }) (sym is)

  module _ (x : Seat K) (left : State K) where
    pub halted_faithful : IsFaithful x → KeepsChannel x.link.stage left.stage → IsFaithful (halted_seat x left)
    halted_faithful f keeps = record {
      held = λ e at. by_end x.end refl e at;
      failed = λ works. absurd (let no : true ≡ false = works in cc);
    }
      where
        by_end : (o : Option End) → x.end ≡ o → (e : End) → option_map end_dropped o ≡ Some e
            → kept_channel left.stage ≡ Some e.dance.channel
        by_end None was e at = absurd (cc)
        by_end (Some d) was e at =
            let same : end_dropped d ≡ e = cc in
            keeps d.dance.channel (f.held d was) ∙ ap (λ (z : End). Some z.dance.channel) same

    pub halted_number : (id : List ℕ) → seat_id (halted_seat x left) ≡ Some id → seat_id x ≡ Some id
    halted_number id is = dropped_id x.end _ id (sym (halted_id (halted_seat x left) refl) ∙ is)

    pub halted_stuck : (id : List ℕ) → IsStuck id x → IsStuck id (halted_seat x left)
    halted_stuck id s = (refl, halted_id (halted_seat x left) refl ∙ ended_id x.end id (sym (halted_id x s.0) ∙ s.1))

    -- one with an end is stuck so then
    pub now_stuck : (e : End) → x.end ≡ Some e → IsStuck e.dance.channel (halted_seat x left)
    now_stuck e is = (refl, halted_id (halted_seat x left) refl ∙ ap (λ o. id_by (option_map end_dropped o) None) is)
