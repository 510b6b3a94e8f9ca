-- A kind of diagnostic is its number.
use Rattle.std.proofs.Common.{◌≡◌, refl, ap}
use Rattle.schema_grammar.specs.DiagnosticKinds.{DiagnosticKind, strange_byte, bad_name, number_of}

pub same_number : (k l : DiagnosticKind) → k ≡ l → number_of k ≡ number_of l
same_number k l e = ap number_of e

pub kind_from_number : (k l : DiagnosticKind) → number_of k ≡ number_of l → k ≡ l
kind_from_number strange_byte strange_byte e = refl
kind_from_number k bad_name e = cc
kind_from_number k l e = cc
