-- Views, closing transactions and questions are read as they are written, and nothing else is.
use Rattle.std.proofs.Common.{◌≡◌, ℕ, true, List, ◌++◌, Option, Some, ◌==◌, refl}
use Rattle.ln_host.specs.declared.question.Question.{Question}
use Rattle.ln_host.specs.declared.question.Question.TheVariants as question
use Rattle.ln_store.specs.Format.{number, fixed, ◌&◌}
use Rattle.ln_store.specs.Items.{role}
use Rattle.ln_store.proofs.Formats.{IsLawful, number_is_lawful, fixed_is_lawful, sized_is_lawful, list_is_lawful}
use Rattle.ln_store.proofs.Formats.{made_is_lawful}
use Rattle.ln_store.proofs.Laws.{role_is_lawful}
use Rattle.ln_wire.specs.Questions as it
use Rattle.ln_wire.specs.Questions.{question_told, question_at}
use Rattle.ln_wire.proofs.Wholes.{also, IsReadAlone, alone, ReadsKind, kind_read, no_kind, kind_or, kinds_are_lawful}
use Rattle.ln_wire.proofs.Wholes.{made_again}

n8 : IsLawful (number 8)
n8 = number_is_lawful 8

htlc_is_lawful : IsLawful it.htlc
unfolding it.htlc
htlc_is_lawful = made_is_lawful _ _ _ (also role_is_lawful (also n8 (also n8 (also (fixed_is_lawful 32)
    (number_is_lawful 4))))) (λ y. refl) (λ x. refl)

pub view_is_lawful : IsLawful it.view_form
unfolding it.view_form
view_is_lawful = made_is_lawful _ _ _ (also n8 (also n8 (also (number_is_lawful 4) (list_is_lawful _ htlc_is_lawful))))
    (λ y. refl) (λ x. refl)

pub closing_is_lawful : IsLawful it.closing
unfolding it.closing
closing_is_lawful = made_is_lawful _ _ _ (also role_is_lawful (also n8 (also n8 (also n8 (also (sized_is_lawful 2)
    (sized_is_lawful 2)))))) (λ y. refl) (λ x. refl)

signatures_are_lawful : IsLawful (role & number 8 & it.view_form)
signatures_are_lawful = also role_is_lawful (also n8 view_is_lawful)

question_kinds : (n : ℕ) → ReadsKind question_told n (question_at n)
question_kinds n = kind_or n 1 (kind_read question_told 1 _ (alone _ signatures_are_lawful) (λ y. refl))
    (kind_or n 2 (kind_read question_told 2 _ (alone _ (also n8 (fixed_is_lawful 33))) (λ y. refl))
    (kind_or n 3 (kind_read question_told 3 question.Close (alone _ closing_is_lawful) (λ y. refl))
    (kind_or n 4 (kind_read question_told 4 question.OwnSecret (alone _ n8) (λ y. refl))
    (kind_or n 5 (kind_read question_told 5 question.New (alone _ (fixed_is_lawful 32)) (λ y. refl))
    (kind_or n 6 (kind_read question_told 6 _ (alone _ (also (fixed_is_lawful 32) view_is_lawful)) (λ y. refl))
    (no_kind question_told n))))))

question_again : (q : Question) (rest : List ℕ) → (question_told q).fits ≡ true
    → question_at (question_told q).tag ((question_told q).fields ++ rest) ≡ Some (q, rest)
question_again (question.New channel) rest h = made_again question.New (fixed_is_lawful 32) channel rest h
question_again (question.First channel view) rest h =
    made_again _ (also (fixed_is_lawful 32) view_is_lawful) (channel, view) rest h
question_again (question.Signatures side n view) rest h =
    made_again _ signatures_are_lawful (side, (n, view)) rest h
question_again (question.Secret n point) rest h = made_again _ (also n8 (fixed_is_lawful 33)) (n, point) rest h
question_again (question.Close terms) rest h = made_again question.Close closing_is_lawful terms rest h
question_again (question.OwnSecret n) rest h = made_again question.OwnSecret n8 n rest h

question_is_lawful : IsLawful it.question_form
unfolding it.question_form
question_is_lawful = kinds_are_lawful question_told question_at question_kinds question_again

pub question_is_read_alone : IsReadAlone it.question_form
question_is_read_alone = alone it.question_form question_is_lawful

pub view_is_read_alone : IsReadAlone it.view_form
view_is_read_alone = alone it.view_form view_is_lawful
