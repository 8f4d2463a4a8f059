-- What stands in a link's line is read as it is written, and nothing else is.
use Rattle.std.proofs.Common.{◌≡◌, ℕ, true, List, [], ◌++◌, Option, Some, ◌==◌, refl}
use Rattle.ln_host.specs.declared.blank.Blank.{Blank}
use Rattle.ln_host.specs.declared.blank.Blank.TheVariants as blank
use Rattle.ln_store.specs.Format.{number, fixed, ◌&◌}
use Rattle.ln_store.specs.Items.{role}
use Rattle.ln_store.proofs.Formats.{IsLawful, number_is_lawful, fixed_is_lawful, sized_is_lawful, list_is_lawful}
use Rattle.ln_store.proofs.Formats.{made_is_lawful, optional_is_lawful}
use Rattle.ln_store.proofs.Laws.{role_is_lawful}
use Rattle.ln_wire.specs.declared.items.Item.{Item}
use Rattle.ln_wire.specs.declared.items.Item.TheVariants as item
use Rattle.ln_wire.specs.Items as it
use Rattle.ln_wire.specs.Items.{blank_told, blank_at, item_told, item_at}
use Rattle.ln_wire.specs.Questions.{view_form}
use Rattle.ln_wire.specs.Events.{event_form}
use Rattle.ln_wire.proofs.Wholes.{also, IsReadAlone, alone, ReadsKind, kind_read, no_kind, kind_or, kinds_are_lawful}
use Rattle.ln_wire.proofs.Wholes.{made_again, made_alone, kinds_are_read_alone, all_bytes_are_read_alone}
use Rattle.ln_wire.proofs.QuestionLaws.{view_is_lawful, closing_is_lawful}
use Rattle.ln_wire.proofs.EventLaws.{event_is_lawful}

n8 : IsLawful (number 8)
n8 = number_is_lawful 8

signatures_are_lawful : IsLawful (role & number 8 & fixed 33 & view_form)
signatures_are_lawful = also role_is_lawful (also n8 (also (fixed_is_lawful 33) view_is_lawful))

blank_kinds : (n : ℕ) → ReadsKind blank_told n (blank_at n)
blank_kinds n = kind_or n 1 (kind_read blank_told 1 _ (alone _ signatures_are_lawful) (λ y. refl))
    (kind_or n 2 (kind_read blank_told 2 _ (alone _ (also n8 n8)) (λ y. refl))
    (kind_or n 3 (kind_read blank_told 3 blank.Point (alone _ n8) (λ y. refl))
    (kind_or n 4 (kind_read blank_told 4 blank.Close (alone _ closing_is_lawful) (λ y. refl)) (no_kind blank_told n))))

blank_again : (x : Blank) (rest : List ℕ) → (blank_told x).fits ≡ true
    → blank_at (blank_told x).tag ((blank_told x).fields ++ rest) ≡ Some (x, rest)
blank_again (blank.Signatures side n point view) rest h =
    made_again _ signatures_are_lawful (side, (n, (point, view))) rest h
blank_again (blank.Revocation secret point) rest h = made_again _ (also n8 n8) (secret, point) rest h
blank_again (blank.Point n) rest h = made_again blank.Point n8 n rest h
blank_again (blank.Close terms) rest h = made_again blank.Close closing_is_lawful terms rest h

blank_is_lawful : IsLawful it.blank_form
unfolding it.blank_form
blank_is_lawful = kinds_are_lawful blank_told blank_at blank_kinds blank_again

held_are_lawful : IsLawful it.held
unfolding it.held
held_are_lawful = made_is_lawful _ _ _ (also n8 (also (fixed_is_lawful 64) (list_is_lawful _ (fixed_is_lawful 64))))
    (λ y. refl) (λ x. refl)

peer_secret_is_lawful : IsLawful it.peer_secret
unfolding it.peer_secret
peer_secret_is_lawful = made_is_lawful _ _ _ (also n8 (fixed_is_lawful 32)) (λ y. refl) (λ x. refl)

saved_is_lawful : IsLawful it.saved
unfolding it.saved
saved_is_lawful = made_is_lawful _ _ _ (also (fixed_is_lawful 32) (also (optional_is_lawful _ held_are_lawful)
    (also (list_is_lawful _ peer_secret_is_lawful) (sized_is_lawful 8)))) (λ y. refl) (λ x. refl)

pub saved_is_read_alone : IsReadAlone it.saved
saved_is_read_alone = alone it.saved saved_is_lawful

told_event_is_lawful : IsLawful (number 8 & event_form)
told_event_is_lawful = also n8 event_is_lawful

item_kinds : (n : ℕ) → ReadsKind item_told n (item_at n)
item_kinds n = kind_or n 1 (kind_read item_told 1 item.Record saved_is_read_alone (λ y. refl))
    (kind_or n 2 (kind_read item_told 2 item.Blank (alone _ blank_is_lawful) (λ y. refl))
    (kind_or n 3 (kind_read item_told 3 item.Send all_bytes_are_read_alone (λ y. refl))
    (kind_or n 4 (kind_read item_told 4 _ (alone _ told_event_is_lawful) (λ y. refl))
    (kind_or n 5 (kind_read item_told 5 item.Closed (alone _ n8) (λ y. refl)) (no_kind item_told n)))))

item_again : (x : Item) → (item_told x).fits ≡ true → item_at (item_told x).tag (item_told x).fields ≡ Some (x, [])
item_again (item.Record r) h = made_alone item.Record saved_is_read_alone r h
item_again (item.Blank b) h = made_alone item.Blank (alone _ blank_is_lawful) b h
item_again (item.Send message) h = refl
item_again (item.Event n e) h = made_alone _ (alone _ told_event_is_lawful) (n, e) h
item_again (item.Closed fee) h = made_alone item.Closed (alone _ n8) fee h

pub item_is_read_alone : IsReadAlone it.item_form
unfolding it.item_form
item_is_read_alone = kinds_are_read_alone item_told item_at item_kinds item_again
