-- The law of printed derivations: for the function of `laws.rt`. `Desk` does not cite it.
use Rattle.std.specs.Prelude.{◌≤◌, List, [], ◌++◌, codes, length, All}
use Rattle.schema_model.specs.Schemas.{Schema, names_of, naming_of, theory_in}
use Rattle.dep_model.specs.Dependencies.{Dependency}
use Rattle.derivation.specs.declared.measures.TheConstants.{MOST_NODES}
use Rattle.schema_grammar.specs.declared.format.Format.TheVariants as format
use Rattle.schema_grammar.specs.Printed.{IsReadBack}
use Rattle.derivation_grammar.specs.Derivations.{Derives}
use Rattle.short_derivations.specs.declared.inference.Inference.{Inference}
use Rattle.short_derivations.specs.Inferences.{AreGiven}
use Rattle.short_derivations.specs.Short.{Concludes}
use Rattle.short_derivations.specs.Views.{lines_of}
use Rattle.derivation_printer.specs.Printing.{derivation_text}

-- the text of a derivation after the answer `yes` derives what its last line states, where the names of the
-- schema are read back
abbrev pub PrintedDerives : Type 0
PrintedDerives = (s : Schema) (lines : List Inference) (d : Dependency)
    → All (IsReadBack format.Plain (naming_of s)) (names_of s)
    → AreGiven (theory_in s) [] (lines_of lines) → Concludes (lines_of lines) d → length lines ≤ MOST_NODES
    → Derives s (codes "yes\n" ++ derivation_text s (lines_of lines)) d
