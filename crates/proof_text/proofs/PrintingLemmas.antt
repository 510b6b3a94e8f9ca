-- What the lines of a tree add to a text, by those of its premises; and what is stated is of the universe.
use Rattle.std.proofs.Common.{◌≡◌, ℕ, ◌+◌, List, [], ◌∷◌, ◌++◌, append_assoc}
use Rattle.std.specs.Prelude.{Ok}
use Rattle.std.proofs.lemmas.Grind.{flat_map-append}
use Rattle.std.proofs.lemmas.List.{append-nil}
use Rattle.schema_model.specs.Schemas.{Schema, theory_in}
use Rattle.dep_model.specs.Dependencies.{Dependency, IsWithin}
use Rattle.schema_model.specs.Schemas.{universe_of}
use Rattle.schema_printer.specs.Spelling.{printed_names_of}
use Rattle.derivation.specs.declared.deriv.Deriv.{Deriv}
use Rattle.derivation.specs.Trees.{Step, Pair, Tree, step, pair, nodes}
use Rattle.derivation.specs.Derivs.{tree_of}
use Rattle.derivation.specs.Conclusions.{Proves, conclusion_after}
use Rattle.derivation.proofs.ConclusionLemmas.{conclusion_after-from}
use Rattle.derivation.proofs.WithinLemmas.{tree_of-attributes, conclusion_within}
use Rattle.proof_grammar.specs.Lines.{by_step, by_pair}
use Rattle.proof_grammar.specs.Printing.{certificate_line_text, numbered_line, node_lines_after, certificate_lines_text}

pub stated_within : (s : Schema) (p : Deriv) (d : Dependency) → Proves (theory_in s) (tree_of p) d → IsWithin (universe_of s) d
stated_within s p d proves = conclusion_within (theory_in s) (tree_of p) d (tree_of-attributes p) proves

pub step_added : (s : Schema) (t : Tree) (rule : Step) (u : Tree) (d : Dependency) (n p : ℕ)
    (old mid new : List ℕ)
    → t ≡ step rule u → Proves (theory_in s) (step rule u) d → p ≡ n + nodes u
    → mid ≡ old ++ certificate_lines_text (printed_names_of s) (node_lines_after s n u) → new ≡ mid ++ certificate_line_text (printed_names_of s) (numbered_line (p + 1) d (by_step rule p))
    → new ≡ old ++ certificate_lines_text (printed_names_of s) (node_lines_after s n t)
step_added s t rule u d n p old mid new e proves count before last =
    let concludes : conclusion_after (theory_in s) 0 (step rule u) ≡ Ok d = conclusion_after-from (theory_in s) 0 (step rule u) d proves in
    let line = certificate_line_text (printed_names_of s) in
    let whole = flat_map-append line (node_lines_after s n u)
    (numbered_line (n + nodes u + 1) d (by_step rule (n + nodes u)) ∷ []) in
    rw (e, concludes, whole, last, before, count) (simp (append-nil, append_assoc))

pub pair_added : (s : Schema) (t : Tree) (rule : Pair) (u v : Tree) (d : Dependency) (n p q : ℕ)
    (old mid more new : List ℕ)
    → t ≡ pair rule u v → Proves (theory_in s) (pair rule u v) d
    → p ≡ n + nodes u → q ≡ p + nodes v
    → mid ≡ old ++ certificate_lines_text (printed_names_of s) (node_lines_after s n u)
    → more ≡ mid ++ certificate_lines_text (printed_names_of s) (node_lines_after s p v)
    → new ≡ more ++ certificate_line_text (printed_names_of s) (numbered_line (q + 1) d (by_pair rule p q))
    → new ≡ old ++ certificate_lines_text (printed_names_of s) (node_lines_after s n t)
pair_added s t rule u v d n p q old mid more new e proves first_count second_count first second last =
    let concludes : conclusion_after (theory_in s) 0 (pair rule u v) ≡ Ok d = conclusion_after-from (theory_in s) 0 (pair rule u v) d proves in
    let line = certificate_line_text (printed_names_of s) in
    let xs = node_lines_after s n u in
    let ys = node_lines_after s (n + nodes u) v in
    let end = numbered_line (n + nodes u + nodes v + 1) d
    (by_pair rule (n + nodes u) (n + nodes u + nodes v)) ∷ [] in
    rw (e, concludes, flat_map-append line (xs ++ ys) end, flat_map-append line xs ys, last, second, first)
    (rw (second_count, first_count) (simp (append-nil, append_assoc)))
