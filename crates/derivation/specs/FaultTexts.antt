-- The numbers and the words of faults: for their `Display`, and for the line that refuses a certificate.
use Rattle.std.specs.Prelude.{ℕ, List, codes}
use Rattle.derivation.specs.declared.fault.FaultKind.{FaultKind}
use Rattle.derivation.specs.declared.fault.FaultKind.TheVariants as fault

-- the number of a fault
abbrev pub fault_number : FaultKind → ℕ
fault_number fault.NoSuchGiven = 1
fault_number fault.NotWithin = 2
fault_number fault.WrongKind = 3
fault_number fault.MiddleDiffers = 4
fault_number fault.NotDisjoint = 5

-- why a rule does not apply
abbrev pub fault_text : FaultKind → List ℕ
fault_text fault.NoSuchGiven = codes "no such given"
fault_text fault.NotWithin = codes "not within"
fault_text fault.WrongKind = codes "wrong kind"
fault_text fault.MiddleDiffers = codes "middle differs"
fault_text fault.NotDisjoint = codes "not disjoint"
