-- Why a certificate is refused, as a kind and a line: for the readings and refusals of
-- certificates, and for their texts (`desk_refusals/ProofTexts`).
use Rattle.std.specs.Prelude.{Err, Result, ℕ, ⊤, ◌≡◌}
use Rattle.attr_sets.specs.Attributes.{Attributes}
use Rattle.dep_model.specs.Dependencies.{Dependency}
use Rattle.dep_model.specs.Deps.{dependency_of, IsDepWithin}
use Rattle.derivation.specs.declared.fault.Fault.{Fault}
use Rattle.schema_grammar.specs.declared.refusal.SchemaRefusal.{SchemaRefusal}
use Rattle.proof_grammar.specs.declared.refusal.ProofRefusalKind.{ProofRefusalKind}
use Rattle.proof_grammar.specs.declared.refusal.ProofRefusalKind.TheVariants as kind
use Rattle.proof_grammar.specs.declared.refusal.ProofRefusal.{ProofRefusal}

-- why a certificate is refused
pub data Diagnostic : Type 0 where
  bad_line : SchemaRefusal → Diagnostic
  wrong_number : Diagnostic
  no_such_line : Diagnostic
  used_twice : Diagnostic
  never_used : Diagnostic
  too_many_lines : Diagnostic
  too_deep : Diagnostic
  unsound : Fault → Diagnostic
  states_other : Dependency → Dependency → Diagnostic
  empty_proof : Diagnostic

-- a diagnostic at a line of the text
pub record LineDiagnostic : Type 0 where
  pub line : ℕ
  pub diagnostic : Diagnostic

-- the diagnostic that a refusal is
abbrev pub diagnostic_of : ProofRefusalKind → Diagnostic
diagnostic_of (kind.BadLine e) = bad_line e
diagnostic_of kind.WrongNumber = wrong_number
diagnostic_of kind.NoSuchLine = no_such_line
diagnostic_of kind.UsedTwice = used_twice
diagnostic_of kind.NeverUsed = never_used
diagnostic_of kind.TooManyLines = too_many_lines
diagnostic_of kind.TooDeep = too_deep
diagnostic_of (kind.Unsound fault) = unsound fault
diagnostic_of (kind.StatesOther stated concluded) = states_other (dependency_of stated) (dependency_of concluded)
diagnostic_of kind.EmptyProof = empty_proof

-- and at its line
abbrev pub line_diagnostic_of : ProofRefusal → LineDiagnostic
line_diagnostic_of refusal = record { line = refusal.line; diagnostic = diagnostic_of refusal.kind }

-- the dependencies that a refusal names lie within a set
abbrev pub IsRefusalWithin : Attributes → ProofRefusalKind → Type 0
IsRefusalWithin u (kind.StatesOther stated concluded) = IsDepWithin u stated × IsDepWithin u concluded
IsRefusalWithin u _ = ⊤

-- the refusal is what is found
abbrev pub IsFound : {X : Type 0} → ProofRefusalKind → Result X Diagnostic → Type 0
IsFound why found = found ≡ Err (diagnostic_of why)

-- and so is its line
abbrev pub IsFoundAt : {X : Type 0} → ProofRefusal → Result X LineDiagnostic → Type 0
IsFoundAt refusal found = found ≡ Err (line_diagnostic_of refusal)
