-- The lines of a printed derivation are printable.
use Rattle.std.proofs.Common.{◌≡◌, ◌<◌, ◌^◌, ℕ, ◌+◌, ◌&&◌, List, [], ◌∷◌, ◌++◌, arith}
use Rattle.std.specs.Prelude.{Ok, slice_get}
use Rattle.std.proofs.lemmas.Bool.{and_parts}
use Rattle.std.proofs.lemmas.List.{length-map}
use Rattle.std.proofs.lemmas.Option.{slice_get_within}
use Rattle.attr_sets.specs.Attributes.{union}
use Rattle.attr_sets.specs.Sets.{is_subset}
use Rattle.attr_sets.proofs.AttributesLemmas.{is_subset-true}
use Rattle.schema_model.specs.Schemas.{Schema, theory_in}
use Rattle.dep_model.specs.Dependencies.{Dependency, fd, mvd, IsWithin}
use Rattle.dep_model.specs.Deps.{dependency_of}
use Rattle.schema_model.specs.Schemas.{deps_of, names_of, theory_of, universe_of}
use Rattle.derivation.specs.declared.fault.FaultKind.TheVariants.{NoSuchGiven, NotWithin}
use Rattle.derivation.specs.Trees.{Leaf, given, reflexivity, mreflexivity, Step, augmentation, complementation, maugmentation, replication, Tree, leaf, step, pair, nodes}
use Rattle.derivation.specs.Table.{leaf_conclusion, step_conclusion}
use Rattle.derivation.specs.Conclusions.{Proves, conclusion_after}
use Rattle.derivation.proofs.ConclusionLemmas.{conclusion_after-from}
use Rattle.derivation.proofs.RuleTableLemmas.{some_of_ok, cond-ok}
use Rattle.derivation.proofs.WithinLemmas.{StepOfAttributes, TreeOfAttributes, conclusion_within}
use Rattle.proof_grammar.specs.Lines.{by_step, by_pair, Line}
use Rattle.proof_grammar.specs.Printable.{IsPrintableLine, ArePrintableLines}
use Rattle.proof_grammar.specs.Printing.{leaf_body, numbered_line, node_lines_after, IsStepWithin}

printable_append : (names : List (List ℕ)) (xs ys : List Line) → ArePrintableLines names xs
    → ArePrintableLines names ys → ArePrintableLines names (xs ++ ys)
printable_append names [] ys first second = second
printable_append names (x ∷ xs) ys first second = (first.0, printable_append names xs ys first.1 second)

-- ---- a line
leaf_printable : (s : Schema) (n : ℕ) (rule : Leaf) (d : Dependency) → IsWithin (universe_of s) d
    → leaf_conclusion (theory_in s) rule ≡ Ok d → n < 10 ^ 9
    → IsPrintableLine (names_of s) (numbered_line n d (leaf_body rule))
leaf_printable s n (given k) d within h within_limit =
    let inside = slice_get_within (theory_of s) k d (some_of_ok (slice_get (theory_of s) k) NoSuchGiven d h) in
    record {
      stated = within;
      body = tt {0};
      number = within_limit;
      digits_fit = omega (arith, inside, length-map (deps_of s) dependency_of, s.valid.deps_within_limit);
    }
leaf_printable s n (reflexivity x y) d within h within_limit =
    record { stated = within; body = tt {0}; number = within_limit; digits_fit = tt {0} }
leaf_printable s n (mreflexivity x y) d within h within_limit =
    record { stated = within; body = tt {0}; number = within_limit; digits_fit = tt {0} }

pub step_within : (s : Schema) (rule : Step) (x d : Dependency) → StepOfAttributes rule
    → step_conclusion (theory_in s) rule x ≡ Ok d → IsStepWithin (universe_of s) rule
step_within s (augmentation z) (fd x y) d own h =
    is_subset-true z (universe_of s) own (cond-ok (is_subset z (universe_of s)) NotWithin (fd (union x z) (union y z)) d h).0
step_within s (augmentation z) (mvd x y) d own h = cc
step_within s complementation x d own h = tt {0}
step_within s (maugmentation w z) (fd x y) d own h = cc
step_within s (maugmentation w z) (mvd x y) d own h =
    let passed = cond-ok (is_subset w (universe_of s) && is_subset z w) NotWithin (mvd (union x w) (union y z)) d h in
    let both = and_parts (is_subset w (universe_of s)) (is_subset z w) passed.0 in
    let wide = is_subset-true w (universe_of s) own.0 both.0 in
    (wide, (λ k m. wide k (is_subset-true z w own.1 both.1 k m)))
step_within s replication x d own h = tt {0}

-- ---- the lines
pub tree_printable : (s : Schema) (t : Tree) (d : Dependency) (n : ℕ) → TreeOfAttributes t → Proves (theory_in s) t d
    → n + nodes t < 10 ^ 9 → ArePrintableLines (names_of s) (node_lines_after s n t)
tree_printable s (leaf rule) d n own proves within_limit =
    let concludes : conclusion_after (theory_in s) 0 (leaf rule) ≡ Ok d = conclusion_after-from (theory_in s) 0 (leaf rule) d proves in
    rw concludes (
      leaf_printable s (n + 1) rule d (conclusion_within (theory_in s) (leaf rule) d own proves) proves within_limit,
      tt {0},
    )
tree_printable s (step rule t) d n own proves within_limit =
    let last : IsPrintableLine (names_of s)
    (numbered_line (n + nodes t + 1) d (by_step rule (n + nodes t))) = record {
      stated = conclusion_within (theory_in s) (step rule t) d own proves;
      body = step_within s rule proves.0 d own.0 proves.2;
      number = omega (arith, within_limit);
      digits_fit = omega (arith, within_limit);
    } in
    let concludes : conclusion_after (theory_in s) 0 (step rule t) ≡ Ok d = conclusion_after-from (theory_in s) 0 (step rule t) d proves in
    rw concludes (printable_append (names_of s) (node_lines_after s n t) _
    (tree_printable s t proves.0 n own.1 proves.1 (omega (arith, within_limit))) (last, tt {0}))
tree_printable s (pair rule t u) d n own proves within_limit =
    let xs = node_lines_after s n t in
    let ys = node_lines_after s (n + nodes t) u in
    let last : IsPrintableLine (names_of s)
    (numbered_line (n + nodes t + nodes u + 1) d (by_pair rule (n + nodes t) (n + nodes t + nodes u))) =
    record {
      stated = conclusion_within (theory_in s) (pair rule t u) d own proves;
      body = tt {0};
      number = omega (arith, within_limit);
      digits_fit = (omega (arith, within_limit), omega (arith, within_limit));
    } in
    let first = tree_printable s t proves.0 n own.0 proves.2 (omega (arith, within_limit)) in
    let second = tree_printable s u proves.1 (n + nodes t) own.1 proves.3 (omega (arith, within_limit)) in
    let concludes : conclusion_after (theory_in s) 0 (pair rule t u) ≡ Ok d = conclusion_after-from (theory_in s) 0 (pair rule t u) d proves in
    rw concludes (printable_append (names_of s) (xs ++ ys) _
    (printable_append (names_of s) xs ys first second) (last, tt {0}))
