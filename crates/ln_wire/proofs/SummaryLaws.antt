-- Summaries are read as they are written, and nothing else is.
use Rattle.std.proofs.Common.{◌≡◌, ◌∙◌, ℕ, true, List, ◌++◌, Option, Some, None, ◌==◌, cond, refl, sym, ap, inl, inr}
use Rattle.std.proofs.lemmas.Bool.{eqb-true}
use Rattle.ln_bytes.proofs.Reading.{chosen}
use Rattle.ln_channel.specs.declared.machine.ConnectionState.{ConnectionState}
use Rattle.ln_channel.specs.declared.machine.ConnectionState.TheVariants as connection
use Rattle.ln_refusals.specs.declared.lost_data.LostData.{LostData}
use Rattle.ln_refusals.specs.declared.lost_data.LostData.TheVariants as lost_data
use Rattle.ln_store.specs.Format.{number}
use Rattle.ln_store.specs.Items.{no_number}
use Rattle.ln_store.proofs.Formats.{IsLawful, number_is_lawful, fixed_is_lawful, list_is_lawful, optional_is_lawful}
use Rattle.ln_store.proofs.Formats.{made_is_lawful, code_is_lawful}
use Rattle.ln_store.proofs.Laws.{numbers_are_lawful}
use Rattle.ln_wire.specs.declared.summary.LinkStatus.{LinkStatus}
use Rattle.ln_wire.specs.declared.summary.LinkStatus.TheVariants as status
use Rattle.ln_wire.specs.Summary as it
use Rattle.ln_wire.specs.Summary.{connection_number, connection_of, lost_data_number, lost_data_of}
use Rattle.ln_wire.specs.Summary.{status_told, status_at}
use Rattle.ln_wire.proofs.Wholes.{also, IsReadAlone, alone, ReadsKind, kind_read, no_kind, kind_or, kinds_are_lawful}
use Rattle.ln_wire.proofs.Wholes.{made_again}
use Rattle.ln_wire.proofs.EventLaws.{bit_is_lawful}

n8 : IsLawful (number 8)
n8 = number_is_lawful 8

abbrev here : {A : Type 0} → A → Option A
here x = Some x

some_is : {A : Type 0} (x y : A) → here x ≡ here y → x ≡ y
some_is x y e = cc

-- ---- one of three

three_back : {A : Type 0} (number_of : A → ℕ) (x y z : A) → number_of x ≡ 0 → number_of y ≡ 1 → number_of z ≡ 2
    → (n : ℕ) (a : A) → cond (n == 0) (Some x) (cond (n == 1) (Some y) (cond (n == 2) (Some z) None)) ≡ Some a
    → number_of a ≡ n
three_back number_of x y z ex ey ez n a e = elim (chosen (n == 0) (Some x) _ (Some a) e) [
  | inl h ↦ ap number_of (sym (some_is x a h.1)) ∙ (ex ∙ sym (eqb-true n 0 h.0))
  | inr h ↦ elim (chosen (n == 1) (Some y) _ (Some a) h.1) [
    | inl g ↦ ap number_of (sym (some_is y a g.1)) ∙ (ey ∙ sym (eqb-true n 1 g.0))
    | inr g ↦ elim (chosen (n == 2) (Some z) None (Some a) g.1) [
      | inl k ↦ ap number_of (sym (some_is z a k.1)) ∙ (ez ∙ sym (eqb-true n 2 k.0))
      | inr k ↦ absurd cc
    ]
  ]
]

-- ---- the connection

connection_forth : (x y : ConnectionState) → connection_of (connection_number x) ≡ Some y → y ≡ x
connection_forth connection.Down y e = sym (some_is connection.Down y e)
connection_forth connection.AwaitingReestablish y e = sym (some_is connection.AwaitingReestablish y e)
connection_forth connection.Connected y e = sym (some_is connection.Connected y e)

connection_is_lawful : IsLawful it.connection_form
unfolding it.connection_form
connection_is_lawful = code_is_lawful 1 connection_number connection_of
    (λ n x b e. three_back connection_number connection.Down connection.AwaitingReestablish connection.Connected refl
    refl refl n x e)
    connection_forth

-- ---- whose data is lost

lost_data_forth : (x y : LostData) → lost_data_of (lost_data_number x) ≡ Some y → y ≡ x
lost_data_forth lost_data.Unproved y e = sym (some_is lost_data.Unproved y e)
lost_data_forth lost_data.Own y e = sym (some_is lost_data.Own y e)
lost_data_forth lost_data.Peer y e = sym (some_is lost_data.Peer y e)

lost_data_is_lawful : IsLawful it.lost_data_form
unfolding it.lost_data_form
lost_data_is_lawful = code_is_lawful 1 lost_data_number lost_data_of
    (λ n x b e. three_back lost_data_number lost_data.Unproved lost_data.Own lost_data.Peer refl refl refl n x e)
    lost_data_forth

-- ---- the status

zero_back : (n : ℕ) (u : Unit {0}) → cond (n == 0) (Some tt) None ≡ Some u → 0 ≡ n
zero_back n u e = elim (chosen (n == 0) (Some tt) None (Some u) e) [
  | inl h ↦ sym (eqb-true n 0 h.0)
  | inr h ↦ absurd cc
]

no_number_is_lawful : IsLawful no_number
unfolding no_number
no_number_is_lawful = code_is_lawful 8 _ _ (λ n u b e. zero_back n u e) (λ x y e. refl)

status_kinds : (n : ℕ) → ReadsKind status_told n (status_at n)
status_kinds n = kind_or n 0 (kind_read status_told 0 (λ u. status.Open) (alone _ no_number_is_lawful) (λ y. refl))
    (kind_or n 1 (kind_read status_told 1 (λ u. status.Ready) (alone _ no_number_is_lawful) (λ y. refl))
    (kind_or n 2 (kind_read status_told 2 (λ u. status.Shut) (alone _ no_number_is_lawful) (λ y. refl))
    (kind_or n 3 (kind_read status_told 3 status.Closed (alone _ n8) (λ y. refl))
    (kind_or n 4 (kind_read status_told 4 status.Failed (alone _ n8) (λ y. refl)) (no_kind status_told n)))))

status_again : (s : LinkStatus) (rest : List ℕ) → (status_told s).fits ≡ true
    → status_at (status_told s).tag ((status_told s).fields ++ rest) ≡ Some (s, rest)
status_again status.Open rest h = made_again (λ (u : Unit {0}). status.Open) no_number_is_lawful tt rest h
status_again status.Ready rest h = made_again (λ (u : Unit {0}). status.Ready) no_number_is_lawful tt rest h
status_again status.Shut rest h = made_again (λ (u : Unit {0}). status.Shut) no_number_is_lawful tt rest h
status_again (status.Closed fee) rest h = made_again status.Closed n8 fee rest h
status_again (status.Failed refusal) rest h = made_again status.Failed n8 refusal rest h

status_is_lawful : IsLawful it.status_form
unfolding it.status_form
status_is_lawful = kinds_are_lawful status_told status_at status_kinds status_again

-- ---- the summary

summary_is_lawful : IsLawful it.summary
unfolding it.summary
summary_is_lawful = made_is_lawful _ _ _ (also connection_is_lawful (also bit_is_lawful
    (also (optional_is_lawful _ (fixed_is_lawful 32)) (also status_is_lawful (also lost_data_is_lawful
    (also numbers_are_lawful (also n8 (also n8 (also n8 (also n8 (list_is_lawful _ n8))))))))))) (λ y. refl) (λ x. refl)

pub summary_is_read_alone : IsReadAlone it.summary
summary_is_read_alone = alone it.summary summary_is_lawful
