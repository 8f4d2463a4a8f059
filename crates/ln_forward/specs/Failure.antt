-- Why a hop fails a payment (BOLT 4, "Failure Messages").
use Rattle.std.specs.Prelude.{ℕ, List, [], ◌++◌}
use Rattle.ln_bytes.specs.Endian.{big_bytes}
use Rattle.ln_bytes.specs.Bigsize.{bigsize}
use Rattle.ln_forward.specs.declared.failure.Failure.{Failure}
use Rattle.ln_forward.specs.declared.failure.Failure.TheVariants.{TemporaryChannelFailure, UnknownNextPeer}
use Rattle.ln_forward.specs.declared.failure.Failure.TheVariants.{AmountBelowMinimum, FeeInsufficient}
use Rattle.ln_forward.specs.declared.failure.Failure.TheVariants.{IncorrectCltvExpiry, ExpiryTooSoon}
use Rattle.ln_forward.specs.declared.failure.Failure.TheVariants.{IncorrectOrUnknownPaymentDetails}
use Rattle.ln_forward.specs.declared.failure.Failure.TheVariants.{FinalIncorrectCltvExpiry, FinalIncorrectHtlcAmount}
use Rattle.ln_forward.specs.declared.failure.Failure.TheVariants.{ExpiryTooFar, InvalidOnionPayload}

-- PERM is 0x4000 = 16384, UPDATE is 0x1000 = 4096
abbrev pub failure_code : Failure → ℕ
failure_code TemporaryChannelFailure = 4103
failure_code UnknownNextPeer = 16394
failure_code (AmountBelowMinimum amount) = 4107
failure_code (FeeInsufficient amount) = 4108
failure_code (IncorrectCltvExpiry expiry) = 4109
failure_code ExpiryTooSoon = 4110
failure_code (IncorrectOrUnknownPaymentDetails amount height) = 16399
failure_code (FinalIncorrectCltvExpiry expiry) = 18
failure_code (FinalIncorrectHtlcAmount amount) = 19
failure_code ExpiryTooFar = 21
failure_code (InvalidOnionPayload typ) = 16406

-- the length of a channel_update that is left out
abbrev pub no_update : List ℕ
no_update = big_bytes 2 0

abbrev pub failure_data : Failure → List ℕ
failure_data TemporaryChannelFailure = no_update
failure_data UnknownNextPeer = []
failure_data (AmountBelowMinimum amount) = big_bytes 8 amount ++ no_update
failure_data (FeeInsufficient amount) = big_bytes 8 amount ++ no_update
failure_data (IncorrectCltvExpiry expiry) = big_bytes 4 expiry ++ no_update
failure_data ExpiryTooSoon = no_update
failure_data (IncorrectOrUnknownPaymentDetails amount height) = big_bytes 8 amount ++ big_bytes 4 height
failure_data (FinalIncorrectCltvExpiry expiry) = big_bytes 4 expiry
failure_data (FinalIncorrectHtlcAmount amount) = big_bytes 8 amount
failure_data ExpiryTooFar = []
failure_data (InvalidOnionPayload typ) = bigsize typ ++ big_bytes 2 0

-- the code, and its data
abbrev pub failure_bytes : Failure → List ℕ
failure_bytes f = big_bytes 2 (failure_code f) ++ failure_data f
