-- The kinds of files that are texts of their own grammars: schemas, certificates and derivations.
use Rattle.std.specs.Prelude.{List, codes}
use Rattle.schema_model.specs.Schemas.{Schema}
use Rattle.schema_printer.specs.Spelling.{printed_names_of}
use Rattle.derivation.specs.Trees.{Tree}
use Rattle.schema_reader.specs.declared.text.TheConstants.{MOST_TEXT_BYTES}
use Rattle.schema_grammar.specs.declared.refusal.SchemaRefusal.{SchemaRefusal}
use Rattle.schema_grammar.specs.Schemas.{MeansSchema, RefusesSchema}
use Rattle.schema_grammar.specs.Texts.{declarations_of}
use Rattle.proof_text.specs.declared.text.TheConstants.{MOST_PROOF_BYTES}
use Rattle.proof_grammar.specs.Diagnostics.{LineDiagnostic}
use Rattle.proof_grammar.specs.Spelling.{SpellsWithin}
use Rattle.proof_grammar.specs.Refusals.{IsRefusedCertificate}
use Rattle.derivation_grammar.specs.Lines.{DerivationLine}
use Rattle.derivation_grammar.specs.Meanings.{MeansDerivation}
use Rattle.derivation_grammar.specs.Refusals.{IsRefusedDerivation}
use Rattle.desk_inputs.specs.FileKinds.{FileKind}
use Rattle.desk_refusals.specs.ProofTexts.{proof_refusal_text, derivation_refusal_text}
use Rattle.desk_refusals.specs.Refusals.{refusal_text}

-- schemas
abbrev pub schema_file : FileKind Schema SchemaRefusal
schema_file = record {
  limit = MOST_TEXT_BYTES;
  means = λ bytes schema. MeansSchema bytes (declarations_of schema);
  refuses = RefusesSchema;
  refusal_text = refusal_text (codes "schema");
}

-- certificates over a schema, as the trees that they spell
abbrev pub proof_file : Schema → FileKind Tree LineDiagnostic
proof_file schema = record {
  limit = MOST_PROOF_BYTES;
  means = SpellsWithin schema;
  refuses = IsRefusedCertificate schema;
  refusal_text = proof_refusal_text (printed_names_of schema);
}

-- derivations over a schema, as their lines
abbrev pub derivation_file : Schema → FileKind (List DerivationLine) LineDiagnostic
derivation_file schema = record {
  limit = MOST_PROOF_BYTES;
  means = MeansDerivation schema;
  refuses = IsRefusedDerivation schema;
  refusal_text = derivation_refusal_text (printed_names_of schema);
}
