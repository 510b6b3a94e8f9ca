-- What is printed of a derivation within the limits is read again as its tree.
use Rattle.std.proofs.Common.{◌≡◌, ◌≤◌, ◌++◌, Bool, Ok, arith}
use Rattle.std.specs.Prelude.{All}
use Rattle.schema_model.specs.Schemas.{Schema, theory_in}
use Rattle.dep_model.specs.Dependencies.{Dependency}
use Rattle.schema_model.specs.Schemas.{names_of, naming_of}
use Rattle.derivation.specs.declared.deriv.Deriv.{Deriv}
use Rattle.derivation.specs.declared.measures.TheConstants.{MOST_NODES, MOST_LEVELS}
use Rattle.derivation.specs.Conclusions.{Proves}
use Rattle.derivation.specs.Derivs.{tree_of}
use Rattle.derivation.specs.Trees.{nodes, depth}
use Rattle.schema_grammar.specs.declared.format.Format.TheVariants as format
use Rattle.schema_grammar.specs.Printed.{IsReadBack}
use Rattle.proof_grammar.specs.Printing.{canonical_certificate}
use Rattle.proof_grammar.specs.Texts.{read_proof}
use Rattle.proof_grammar.proofs.CertificateLaws.{spelled_back}
use Rattle.proof_grammar.proofs.CountLaws.{lines_count}
use Rattle.proof_grammar.proofs.PrintedCertificates.{answer_text}
use Rattle.proof_grammar.proofs.PrintedSpells.{printed_spells}

pub printed_is_read : (answered : Bool) (s : Schema) (p : Deriv) (d : Dependency)
    → All (IsReadBack format.Plain (naming_of s)) (names_of s) → Proves (theory_in s) (tree_of p) d
    → nodes (tree_of p) ≤ MOST_NODES
    → depth (tree_of p) ≤ MOST_LEVELS
    → read_proof s (answer_text answered ++ canonical_certificate s (tree_of p)) ≡ Ok (tree_of p)
printed_is_read answered s p d are proves within_limit flat =
    let w = printed_spells answered s p d are proves within_limit in
    spelled_back s (answer_text answered ++ canonical_certificate s (tree_of p)) (tree_of p)
    (record {
      spells = w;
      lines_fit = omega (arith, lines_count s w.lines (tree_of p) w.nodes, within_limit);
      levels_fit = flat;
    })
