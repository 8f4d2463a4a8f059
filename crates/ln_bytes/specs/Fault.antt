-- The number of each fault, and the text by which it is told.
use Rattle.std.specs.Prelude.{ℕ, List, ◌++◌, codes}
use Rattle.std.specs.Fmt.{decimal}
use Rattle.ln_bytes.specs.declared.fault.Fault.{Fault}
use Rattle.ln_bytes.specs.declared.fault.Fault.TheVariants.{Truncated, NotMinimal, TlvOrder, TlvUnknownEven, TlvLength}
use Rattle.ln_bytes.specs.declared.fault.Fault.TheVariants.{UnknownEvenType, TooLong, FieldLength, UnknownFeature}
use Rattle.ln_bytes.specs.declared.fault.Fault.TheVariants.{Memory, Io}

abbrev pub fault_number : Fault → ℕ
fault_number Truncated = 1
fault_number NotMinimal = 2
fault_number TlvOrder = 3
fault_number TlvUnknownEven = 4
fault_number TlvLength = 5
fault_number UnknownEvenType = 6
fault_number TooLong = 7
fault_number FieldLength = 8
fault_number UnknownFeature = 9
fault_number Memory = 60
fault_number Io = 63

-- `refused` and the number
abbrev pub fault_text : Fault → List ℕ
fault_text f = codes "refused " ++ decimal (fault_number f)
