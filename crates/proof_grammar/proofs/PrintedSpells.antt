-- What is printed of a derivation spells its tree, also after the answer `yes`.
use Rattle.std.proofs.Common.{◌≡◌, ◌≤◌, Bool, true, ◌++◌, length, arith}
use Rattle.std.specs.Prelude.{All, codes}
use Rattle.schema_model.specs.Schemas.{Schema, theory_in}
use Rattle.dep_model.specs.Dependencies.{Dependency}
use Rattle.schema_model.specs.Schemas.{names_of, naming_of}
use Rattle.derivation.specs.declared.deriv.Deriv.{Deriv}
use Rattle.derivation.specs.declared.measures.TheConstants.{MOST_NODES}
use Rattle.derivation.specs.Conclusions.{Proves}
use Rattle.derivation.specs.Derivs.{tree_of}
use Rattle.derivation.specs.Trees.{nodes}
use Rattle.derivation.proofs.WithinLemmas.{tree_of-attributes}
use Rattle.schema_grammar.specs.declared.format.Format.TheVariants as format
use Rattle.schema_printer.specs.Spelling.{printed_names_of}
use Rattle.proof_grammar.specs.Printing.{node_lines_after, canonical_certificate}
use Rattle.schema_grammar.specs.Printed.{IsReadBack}
use Rattle.proof_grammar.specs.Spelling.{Spells}
use Rattle.proof_grammar.proofs.CountLaws.{lines_count}
use Rattle.proof_grammar.proofs.PrintedCertificates.{answer_text, printed_lines_mean}
use Rattle.proof_grammar.proofs.PrintedNodes.{printed_nodes}
use Rattle.proof_grammar.proofs.PrintedWithin.{tree_printable}

pub printed_spells : (answered : Bool) (s : Schema) (p : Deriv) (d : Dependency)
    → All (IsReadBack format.Plain (naming_of s)) (names_of s) → Proves (theory_in s) (tree_of p) d
    → nodes (tree_of p) ≤ MOST_NODES
    → Spells s (answer_text answered ++ canonical_certificate s (tree_of p)) (tree_of p)
unfolding printed_names_of
printed_spells answered s p d are proves within_limit =
    let lines = node_lines_after s 0 (tree_of p) in
    record {
      lines = lines;
      mean = printed_lines_mean answered (naming_of s) (names_of s) lines
          (record { each = are; differ = s.valid.names_differ })
          (tree_printable s (tree_of p) d 0 (tree_of-attributes p) proves (omega (arith, within_limit)));
      nodes = printed_nodes s (tree_of p) d proves;
    }

pub answered_spells : (s : Schema) (p : Deriv) (d : Dependency)
    → All (IsReadBack format.Plain (naming_of s)) (names_of s) → Proves (theory_in s) (tree_of p) d
    → nodes (tree_of p) ≤ MOST_NODES
    → (w : Spells s (codes "yes\n" ++ canonical_certificate s (tree_of p)) (tree_of p)) × (length w.lines ≡ nodes (tree_of p))
answered_spells s p d are proves within_limit =
    let w = printed_spells true s p d are proves within_limit in (w, lines_count s w.lines (tree_of p) w.nodes)
