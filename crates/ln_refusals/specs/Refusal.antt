-- The number and the name of each refusal, and the refusal by which a fault of bytes is told.
use Rattle.std.specs.Prelude.{ℕ, List, codes}
use Rattle.ln_bytes.specs.declared.fault.Fault.{Fault}
use Rattle.ln_bytes.specs.declared.fault.Fault.TheVariants as fault
use Rattle.ln_refusals.specs.declared.refusal.Refusal.{Refusal}
use Rattle.ln_refusals.specs.declared.refusal.Refusal.TheVariants as refusal

abbrev pub refusal_number : Refusal → ℕ
refusal_number refusal.Truncated = 1
refusal_number refusal.NotMinimal = 2
refusal_number refusal.TlvOrder = 3
refusal_number refusal.TlvUnknownEven = 4
refusal_number refusal.TlvLength = 5
refusal_number refusal.UnknownEvenType = 6
refusal_number refusal.TooLong = 7
refusal_number refusal.FieldLength = 8
refusal_number refusal.UnknownFeature = 9
refusal_number refusal.UnknownChannel = 20
refusal_number refusal.OutOfPlace = 21
refusal_number refusal.BadId = 22
refusal_number refusal.AmountBelowMinimum = 23
refusal_number refusal.TooManyHtlcs = 24
refusal_number refusal.InFlightOver = 25
refusal_number refusal.CannotAfford = 26
refusal_number refusal.ExpiryRange = 27
refusal_number refusal.NoSuchHtlc = 28
refusal_number refusal.PreimageWrong = 29
refusal_number refusal.NotFunder = 30
refusal_number refusal.SignatureWrong = 31
refusal_number refusal.SecretWrong = 32
refusal_number refusal.NothingToRevoke = 33
refusal_number (refusal.ReestablishNumber lost) = 34
refusal_number refusal.AddAfterShutdown = 35
refusal_number refusal.FeeOutside = 36
refusal_number refusal.PeerError = 37
refusal_number refusal.NotReady = 40
refusal_number refusal.SignatureOutstanding = 41
refusal_number refusal.NothingToSign = 42
refusal_number refusal.Shut = 43
refusal_number (refusal.PeerLimit inner) = 44
refusal_number refusal.UpdatesPending = 45
refusal_number refusal.NumbersSpent = 46
refusal_number refusal.Disconnected = 47
refusal_number refusal.NotCommitted = 48
refusal_number refusal.AlreadyRemoved = 49
refusal_number refusal.Memory = 60
refusal_number refusal.Store = 61
refusal_number refusal.Halted = 62
refusal_number refusal.Io = 63
refusal_number (refusal.BadScript line) = 64
refusal_number refusal.GaveUp = 65
refusal_number refusal.Damaged = 70
refusal_number refusal.Version = 71

abbrev pub refusal_name : Refusal → List ℕ
refusal_name refusal.Truncated = codes "Truncated"
refusal_name refusal.NotMinimal = codes "NotMinimal"
refusal_name refusal.TlvOrder = codes "TlvOrder"
refusal_name refusal.TlvUnknownEven = codes "TlvUnknownEven"
refusal_name refusal.TlvLength = codes "TlvLength"
refusal_name refusal.UnknownEvenType = codes "UnknownEvenType"
refusal_name refusal.TooLong = codes "TooLong"
refusal_name refusal.FieldLength = codes "FieldLength"
refusal_name refusal.UnknownFeature = codes "UnknownFeature"
refusal_name refusal.UnknownChannel = codes "UnknownChannel"
refusal_name refusal.OutOfPlace = codes "OutOfPlace"
refusal_name refusal.BadId = codes "BadId"
refusal_name refusal.AmountBelowMinimum = codes "AmountBelowMinimum"
refusal_name refusal.TooManyHtlcs = codes "TooManyHtlcs"
refusal_name refusal.InFlightOver = codes "InFlightOver"
refusal_name refusal.CannotAfford = codes "CannotAfford"
refusal_name refusal.ExpiryRange = codes "ExpiryRange"
refusal_name refusal.NoSuchHtlc = codes "NoSuchHtlc"
refusal_name refusal.PreimageWrong = codes "PreimageWrong"
refusal_name refusal.NotFunder = codes "NotFunder"
refusal_name refusal.SignatureWrong = codes "SignatureWrong"
refusal_name refusal.SecretWrong = codes "SecretWrong"
refusal_name refusal.NothingToRevoke = codes "NothingToRevoke"
refusal_name (refusal.ReestablishNumber lost) = codes "ReestablishNumber"
refusal_name refusal.AddAfterShutdown = codes "AddAfterShutdown"
refusal_name refusal.FeeOutside = codes "FeeOutside"
refusal_name refusal.PeerError = codes "PeerError"
refusal_name refusal.NotReady = codes "NotReady"
refusal_name refusal.SignatureOutstanding = codes "SignatureOutstanding"
refusal_name refusal.NothingToSign = codes "NothingToSign"
refusal_name refusal.Shut = codes "Shut"
refusal_name (refusal.PeerLimit inner) = codes "PeerLimit"
refusal_name refusal.UpdatesPending = codes "UpdatesPending"
refusal_name refusal.NumbersSpent = codes "NumbersSpent"
refusal_name refusal.Disconnected = codes "Disconnected"
refusal_name refusal.NotCommitted = codes "NotCommitted"
refusal_name refusal.AlreadyRemoved = codes "AlreadyRemoved"
refusal_name refusal.Memory = codes "Memory"
refusal_name refusal.Store = codes "Store"
refusal_name refusal.Halted = codes "Halted"
refusal_name refusal.Io = codes "Io"
refusal_name (refusal.BadScript line) = codes "BadScript"
refusal_name refusal.GaveUp = codes "GaveUp"
refusal_name refusal.Damaged = codes "Damaged"
refusal_name refusal.Version = codes "Version"

abbrev pub refusal_of : Fault → Refusal
refusal_of fault.Truncated = refusal.Truncated
refusal_of fault.NotMinimal = refusal.NotMinimal
refusal_of fault.TlvOrder = refusal.TlvOrder
refusal_of fault.TlvUnknownEven = refusal.TlvUnknownEven
refusal_of fault.TlvLength = refusal.TlvLength
refusal_of fault.UnknownEvenType = refusal.UnknownEvenType
refusal_of fault.TooLong = refusal.TooLong
refusal_of fault.FieldLength = refusal.FieldLength
refusal_of fault.UnknownFeature = refusal.UnknownFeature
refusal_of fault.Memory = refusal.Memory
refusal_of fault.Io = refusal.Io
