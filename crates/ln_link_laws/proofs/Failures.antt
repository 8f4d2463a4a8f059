-- A failure of a channel has a number in its record, and none is 70.
use Rattle.std.proofs.Common.{◌≡◌, refl, true, Option, Some, None}
use Rattle.ln_refusals.specs.declared.lost_data.LostData.TheVariants as lost_data
use Rattle.ln_refusals.specs.declared.refusal.Refusal.{Refusal}
use Rattle.ln_refusals.specs.declared.refusal.Refusal.TheVariants as refusal
use Rattle.ln_channel.specs.Failing.{fails}
use Rattle.ln_store.specs.Items as it
use Rattle.ln_link_laws.proofs.Other.{IsOther}

abbrev pub IsFailure : Option Refusal → Type 0
IsFailure None = Unit {0}
IsFailure (Some r) = (it.failure.fits (Some r) ≡ true) × IsOther r

pub failing : (r : Refusal) → fails r ≡ true → IsFailure (Some r)
unfolding it.failure
failing refusal.Truncated e = absurd (cc)
failing refusal.NotMinimal e = absurd (cc)
failing refusal.TlvOrder e = absurd (cc)
failing refusal.TlvUnknownEven e = absurd (cc)
failing refusal.TlvLength e = absurd (cc)
failing refusal.UnknownEvenType e = absurd (cc)
failing refusal.TooLong e = absurd (cc)
failing refusal.FieldLength e = absurd (cc)
failing refusal.UnknownFeature e = absurd (cc)
failing refusal.UnknownChannel e = absurd (cc)
failing refusal.OutOfPlace e = (refl, refl)
failing refusal.BadId e = (refl, refl)
failing refusal.AmountBelowMinimum e = (refl, refl)
failing refusal.TooManyHtlcs e = (refl, refl)
failing refusal.InFlightOver e = (refl, refl)
failing refusal.CannotAfford e = (refl, refl)
failing refusal.ExpiryRange e = (refl, refl)
failing refusal.NoSuchHtlc e = (refl, refl)
failing refusal.PreimageWrong e = (refl, refl)
failing refusal.NotFunder e = (refl, refl)
failing refusal.SignatureWrong e = (refl, refl)
failing refusal.SecretWrong e = (refl, refl)
failing refusal.NothingToRevoke e = (refl, refl)
failing (refusal.ReestablishNumber lost_data.Unproved) e = (refl, refl)
failing (refusal.ReestablishNumber lost_data.Own) e = (refl, refl)
failing (refusal.ReestablishNumber lost_data.Peer) e = (refl, refl)
failing refusal.AddAfterShutdown e = (refl, refl)
failing refusal.FeeOutside e = absurd (cc)
failing refusal.PeerError e = (refl, refl)
failing refusal.NotReady e = absurd (cc)
failing refusal.SignatureOutstanding e = absurd (cc)
failing refusal.NothingToSign e = absurd (cc)
failing refusal.Shut e = absurd (cc)
failing (refusal.PeerLimit n) e = absurd (cc)
failing refusal.UpdatesPending e = absurd (cc)
failing refusal.NumbersSpent e = absurd (cc)
failing refusal.Disconnected e = absurd (cc)
failing refusal.NotCommitted e = absurd (cc)
failing refusal.AlreadyRemoved e = absurd (cc)
failing refusal.Memory e = absurd (cc)
failing refusal.Store e = absurd (cc)
failing refusal.Halted e = absurd (cc)
failing refusal.Io e = absurd (cc)
failing (refusal.BadScript n) e = absurd (cc)
failing refusal.GaveUp e = absurd (cc)
failing refusal.Damaged e = absurd (cc)
failing refusal.Version e = absurd (cc)

pub fits_of : (f : Option Refusal) → IsFailure f → it.failure.fits f ≡ true
unfolding it.failure
fits_of None h = refl
fits_of (Some r) h = h.0
