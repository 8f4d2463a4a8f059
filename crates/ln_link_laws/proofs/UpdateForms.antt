-- Updates have their form in a record where they are as wide as their types.
use Rattle.std.proofs.Common.{◌≡◌, ◌<◌, ◌^◌, ℕ, List, [], ◌∷◌, length, refl}
use Rattle.std.proofs.Common.{Bool, true, ◌&&◌, Option, Some, None}
use Rattle.std.proofs.lemmas.Bool.{lt-ltb, eq-eqb, and_from}
use Rattle.std.specs.List.{list_all}
use Rattle.ln_log.specs.declared.update.Add.{Add}
use Rattle.ln_log.specs.declared.update.Fulfil.{Fulfil}
use Rattle.ln_log.specs.declared.update.Fail.{Fail}
use Rattle.ln_log.specs.declared.update.Malformed.{Malformed}
use Rattle.ln_log.specs.declared.update.Update.{Update}
use Rattle.ln_log.specs.declared.update.Update.TheVariants as kinds
use Rattle.ln_store.specs.Format.{number, fixed, optional, ◌&◌, list}
use Rattle.ln_store.specs.Items as it
use Rattle.ln_channel_laws.specs.Widths.{IsOrigin, IsAdd, IsFulfil, IsFail, IsMalformed, IsUpdate}
use Rattle.ln_channel_laws.proofs.Offered.{All}

-- one form after another
pub also : {a b : Bool} → a ≡ true → b ≡ true → (a && b) ≡ true
also {a} {b} p q = and_from a b p q

-- ---- updates

origin_fits : (o : Option (List ℕ × ℕ)) → IsOrigin o → (optional (fixed 32 & number 8)).fits o ≡ true
origin_fits None h = refl
origin_fits (Some o) h = also (eq-eqb (length o.0) 32 h.0) (lt-ltb o.1 (2 ^ 64) h.1)

pub add_fits : (a : Add) → IsAdd a → it.add.fits a ≡ true
unfolding it.add
add_fits a h =
    also (lt-ltb a.id (2 ^ 64) h.id) (also (lt-ltb a.amount (2 ^ 64) h.amount) (also (eq-eqb (length a.hash) 32 h.hash)
    (also (lt-ltb a.expiry (2 ^ 32) h.expiry) (also (eq-eqb (length a.onion) 1366 h.onion)
    (origin_fits a.origin h.origin)))))

fulfil_fits : (f : Fulfil) → IsFulfil f → it.fulfil.fits f ≡ true
unfolding it.fulfil
fulfil_fits f h = also (lt-ltb f.id (2 ^ 64) h.id) (eq-eqb (length f.preimage) 32 h.preimage)

fail_fits : (f : Fail) → IsFail f → it.fail.fits f ≡ true
unfolding it.fail
fail_fits f h = also (lt-ltb f.id (2 ^ 64) h.id) (lt-ltb (length f.reason) (2 ^ 16) h.reason)

malformed_fits : (m : Malformed) → IsMalformed m → it.malformed.fits m ≡ true
unfolding it.malformed
malformed_fits m h =
    also (lt-ltb m.id (2 ^ 64) h.id) (also (eq-eqb (length m.sha256_of_onion) 32 h.sha256_of_onion)
    (lt-ltb m.failure_code (2 ^ 16) h.failure_code))

pub update_fits : (u : Update) → IsUpdate u → it.update.fits u ≡ true
unfolding it.update it.fee
update_fits (kinds.Add a) h = add_fits a h
update_fits (kinds.Fulfil f) h = fulfil_fits f h
update_fits (kinds.Fail f) h = fail_fits f h
update_fits (kinds.Malformed m) h = malformed_fits m h
update_fits (kinds.Fee f) h = lt-ltb f.feerate (2 ^ 32) h

each_fits : (us : List Update) → All IsUpdate us → list_all it.update.fits us ≡ true
each_fits [] h = refl
each_fits (u ∷ us) h = also (update_fits u h.0) (each_fits us h.1)

pub list_fits : (us : List Update) → length us < 2 ^ 64 → All IsUpdate us → (list it.update).fits us ≡ true
list_fits us short h = also (lt-ltb (length us) (2 ^ 64) short) (each_fits us h)
