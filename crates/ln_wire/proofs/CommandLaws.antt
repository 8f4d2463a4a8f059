-- Commands are read as they are written, and nothing else is.
use Rattle.std.proofs.Common.{◌≡◌, ◌∙◌, ◌<◌, ◌^◌, ◌%◌, ℕ, List, ◌++◌, Option, Some, ◌==◌, true, refl, sym, ap, subst}
use Rattle.std.proofs.Common.{mod-eq_of_lt, arith}
use Rattle.std.specs.Coded.{le_prop}
use Rattle.std.proofs.lemmas.Bool.{ltb-true}
use Rattle.ln_bytes.specs.declared.short_id.ShortId.{ShortId}
use Rattle.ln_log.specs.declared.mark.Mark.{Mark}
use Rattle.ln_log.specs.declared.mark.Mark.TheVariants as mark
use Rattle.ln_channel.specs.declared.command.Command.{Command}
use Rattle.ln_channel.specs.declared.command.Command.TheVariants as command
use Rattle.ln_store.specs.Format.{number, fixed, sized, ◌&◌, kind, nothing}
use Rattle.ln_store.specs.Items.{mark_form, forward_of, reason_of, code_of, preimage_of, event_held}
use Rattle.ln_store.proofs.Formats.{IsLawful, number_is_lawful, fixed_is_lawful, sized_is_lawful, optional_is_lawful}
use Rattle.ln_store.proofs.Formats.{both_true}
use Rattle.ln_wire.specs.Commands as it
use Rattle.ln_wire.specs.Commands.{id_of, cut_below, mark_told, mark_at, command_told, command_at, add_form}
use Rattle.ln_wire.proofs.Wholes.{also, IsReadAlone, alone, ReadsKind, kind_read, no_kind, kind_or, kinds_are_lawful}
use Rattle.ln_wire.proofs.Wholes.{form_or, made_again, empty_is_lawful, made_where_it_fits}

n8 : IsLawful (number 8)
n8 = number_is_lawful 8

-- ---- short channel ids

abbrev as_id : (b t o : ℕ) → b < 2 ^ 24 → t < 2 ^ 24 → ShortId
as_id b t o p q = record { block = b; tx = t; output = o; block_fits = p; tx_fits = q }

-- ids of the same numbers are the same: that numbers fit is shown in one way
from_block : (b c t o : ℕ) (p : b < 2 ^ 24) (q : t < 2 ^ 24) → b ≡ c → (r : c < 2 ^ 24)
    → as_id b t o p q ≡ as_id c t o r q
from_block b c t o p q e = subst (λ (x : ℕ). (r : x < 2 ^ 24) → as_id b t o p q ≡ as_id x t o r q) e
    (λ r. ap (λ (s : b < 2 ^ 24). as_id b t o s q) (le_prop p r))

from_tx : (b t u o : ℕ) (p : b < 2 ^ 24) (q : t < 2 ^ 24) → t ≡ u → (r : u < 2 ^ 24)
    → as_id b t o p q ≡ as_id b u o p r
from_tx b t u o p q e = subst (λ (x : ℕ). (r : x < 2 ^ 24) → as_id b t o p q ≡ as_id b x o p r) e
    (λ r. ap (λ (s : t < 2 ^ 24). as_id b t o p s) (le_prop q r))

pub id_is : (b t o : ℕ) (p : b < 2 ^ 24) (q : t < 2 ^ 24) → as_id b t o p q ≡ id_of b t o
unfolding id_of
id_is b t o p q =
    from_block b (b % 2 ^ 24) t o p q (sym (mod-eq_of_lt p)) (cut_below b)
    ∙ from_tx (b % 2 ^ 24) t (t % 2 ^ 24) o (cut_below b) q (sym (mod-eq_of_lt q)) (cut_below t)

abbrev parts_of : ShortId → ℕ × (ℕ × ℕ)
parts_of i = (i.block, (i.tx, i.output))

parts_again : (b t o : ℕ) → (number 3 & number 3 & number 2).fits (b, (t, o)) ≡ true
    → parts_of (id_of b t o) ≡ (b, (t, o))
unfolding id_of
parts_again b t o h =
    let f = both_true _ _ h in
    let g = both_true _ _ f.1 in
    let p : b < 2 ^ 24 = ltb-true b (256 ^ 3) f.0 in
    let q : t < 2 ^ 24 = ltb-true t (256 ^ 3) g.0 in
    ap (λ (n : ℕ). (n, (t % 2 ^ 24, o))) (mod-eq_of_lt p) ∙ ap (λ (n : ℕ). (b, (n, o))) (mod-eq_of_lt q)

short_id_is_lawful : IsLawful it.short_id
unfolding it.short_id
short_id_is_lawful = made_where_it_fits _ parts_of _ (also (number_is_lawful 3) (also (number_is_lawful 3)
    (number_is_lawful 2))) (λ y h. parts_again y.0 y.1.0 y.1.1 h)
    (λ x. sym (id_is x.block x.tx x.output x.block_fits x.tx_fits))

-- ---- marks

abbrev forward : List ℕ × (ℕ × ℕ) → Mark
forward p = mark.Forward p.0 p.1.0 p.1.1

forward_is_lawful : IsLawful (fixed 32 & number 8 & number 4)
forward_is_lawful = also (fixed_is_lawful 32) (also n8 (number_is_lawful 4))

mark_forms : (n : ℕ) → ReadsKind mark_told n (mark_form n).at
mark_forms n = form_or n 1 (kind forward forward_of (fixed 32 & number 8 & number 4)) _
    (kind_read mark_told 1 forward (alone _ forward_is_lawful) (λ y. refl))
    (form_or n 2 (kind mark.Fail reason_of (sized 8)) _
    (kind_read mark_told 2 mark.Fail (alone _ (sized_is_lawful 8)) (λ y. refl))
    (form_or n 3 (kind mark.Malformed code_of (number 2)) _
    (kind_read mark_told 3 mark.Malformed (alone _ (number_is_lawful 2)) (λ y. refl))
    (form_or n 4 (kind mark.Fulfil preimage_of (fixed 32)) _
    (kind_read mark_told 4 mark.Fulfil (alone _ (fixed_is_lawful 32)) (λ y. refl))
    (form_or n 5 (kind mark.Held event_held (number 8)) nothing
    (kind_read mark_told 5 mark.Held (alone _ n8) (λ y. refl)) (no_kind mark_told n)))))

mark_kinds : (n : ℕ) → ReadsKind mark_told n (mark_at n)
mark_kinds n = kind_or n 0 (kind_read mark_told 0 (λ u. mark.None) (alone _ empty_is_lawful) (λ y. refl)) (mark_forms n)

mark_again : (m : Mark) (rest : List ℕ) → (mark_told m).fits ≡ true
    → mark_at (mark_told m).tag ((mark_told m).fields ++ rest) ≡ Some (m, rest)
mark_again mark.None rest h = refl
mark_again (mark.Forward channel amount expiry) rest h =
    made_again forward forward_is_lawful (channel, (amount, expiry)) rest h
mark_again (mark.Fail reason) rest h = made_again mark.Fail (sized_is_lawful 8) reason rest h
mark_again (mark.Malformed code) rest h = made_again mark.Malformed (number_is_lawful 2) code rest h
mark_again (mark.Fulfil preimage) rest h = made_again mark.Fulfil (fixed_is_lawful 32) preimage rest h
mark_again (mark.Held told) rest h = made_again mark.Held n8 told rest h

any_mark_is_lawful : IsLawful it.any_mark
unfolding it.any_mark
any_mark_is_lawful = kinds_are_lawful mark_told mark_at mark_kinds mark_again

-- ---- commands

add_is_lawful : IsLawful add_form
add_is_lawful = also n8 (also (fixed_is_lawful 32) (also (number_is_lawful 4) (also (fixed_is_lawful 1366)
    (optional_is_lawful _ (also (fixed_is_lawful 32) n8)))))

malformed_is_lawful : IsLawful (number 8 & fixed 32 & number 2)
malformed_is_lawful = also n8 (also (fixed_is_lawful 32) (number_is_lawful 2))

decision_is_lawful : IsLawful (number 8 & it.any_mark)
decision_is_lawful = also n8 any_mark_is_lawful

command_kinds : (n : ℕ) → ReadsKind command_told n (command_at n)
command_kinds n = kind_or n 0 (kind_read command_told 0 command.Confirm (alone _ short_id_is_lawful) (λ y. refl))
    (kind_or n 1 (kind_read command_told 1 _ (alone _ add_is_lawful) (λ y. refl))
    (kind_or n 2 (kind_read command_told 2 _ (alone _ (also n8 (fixed_is_lawful 32))) (λ y. refl))
    (kind_or n 3 (kind_read command_told 3 _ (alone _ (also n8 (sized_is_lawful 2))) (λ y. refl))
    (kind_or n 4 (kind_read command_told 4 _ (alone _ malformed_is_lawful) (λ y. refl))
    (kind_or n 5 (kind_read command_told 5 command.Fee (alone _ (number_is_lawful 4)) (λ y. refl))
    (kind_or n 6 (kind_read command_told 6 (λ u. command.Sign) (alone _ empty_is_lawful) (λ y. refl))
    (kind_or n 7 (kind_read command_told 7 command.Shutdown (alone _ (sized_is_lawful 2)) (λ y. refl))
    (kind_or n 8 (kind_read command_told 8 _ (alone _ decision_is_lawful) (λ y. refl))
    (kind_or n 9 (kind_read command_told 9 command.Forget (alone _ n8) (λ y. refl))
    (kind_or n 10 (kind_read command_told 10 _ (alone _ decision_is_lawful) (λ y. refl))
    (no_kind command_told n)))))))))))

command_again : (c : Command) (rest : List ℕ) → (command_told c).fits ≡ true
    → command_at (command_told c).tag ((command_told c).fields ++ rest) ≡ Some (c, rest)
command_again (command.Confirm id) rest h = made_again command.Confirm short_id_is_lawful id rest h
command_again (command.Add amount hash expiry onion origin) rest h =
    made_again _ add_is_lawful (amount, (hash, (expiry, (onion, origin)))) rest h
command_again (command.Fulfil id preimage) rest h =
    made_again _ (also n8 (fixed_is_lawful 32)) (id, preimage) rest h
command_again (command.Fail id reason) rest h = made_again _ (also n8 (sized_is_lawful 2)) (id, reason) rest h
command_again (command.Malformed id sha code) rest h = made_again _ malformed_is_lawful (id, (sha, code)) rest h
command_again (command.Fee feerate) rest h = made_again command.Fee (number_is_lawful 4) feerate rest h
command_again command.Sign rest h = refl
command_again (command.Shutdown script) rest h = made_again command.Shutdown (sized_is_lawful 2) script rest h
command_again (command.Decide event m) rest h = made_again _ decision_is_lawful (event, m) rest h
command_again (command.Forget id) rest h = made_again command.Forget n8 id rest h
command_again (command.Resume event m) rest h = made_again _ decision_is_lawful (event, m) rest h

command_is_lawful : IsLawful it.command_form
unfolding it.command_form
command_is_lawful = kinds_are_lawful command_told command_at command_kinds command_again

pub command_is_read_alone : IsReadAlone it.command_form
command_is_read_alone = alone it.command_form command_is_lawful
