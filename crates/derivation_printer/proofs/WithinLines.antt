-- The lines of a derivation can be printed: their sets lie within the universe, and their numbers fit. And
-- they are derived, by the grammar of derivations.
use Rattle.std.proofs.Common.{◌≡◌, ◌<◌, ◌≤◌, ℕ, ◌+◌, ◌-◌, ◌==◌, ◌&&◌, false, List, [], ◌∷◌, ◌++◌, length, refl, ap, sym, ◌∙◌, subst, arith, get_or, length-append}
use Rattle.std.specs.Prelude.{Some, Ok, slice_get, All}
use Rattle.std.proofs.lemmas.Bool.Decides.{nat_tests}
use Rattle.std.proofs.Math.ListN.{get_or-map}
use Rattle.std.proofs.lemmas.List.{length-map}
use Rattle.std.proofs.lemmas.Option.{slice_get_within, get_or_from_slice_get}
use Rattle.std.proofs.lemmas.List.Elements.{All-push, All-nil, All-cons, All-contains}
use Rattle.attr_sets.specs.Sets.{is_subset}
use Rattle.attr_sets.proofs.AttributesLemmas.{attributes_below}
use Rattle.schema_model.specs.Schemas.{Schema, theory_in, universe_of}
use Rattle.dep_model.specs.declared.dep.Dep.{Dep}
use Rattle.dep_model.specs.declared.dep.Dep.TheVariants.{Fd, Mvd}
use Rattle.dep_model.specs.Dependencies.{Dependency, fd, mvd, right_of, IsWithin}
use Rattle.dep_model.specs.Deps.{dependency_of}
use Rattle.derivation.specs.declared.measures.TheConstants.{MOST_NODES}
use Rattle.derivation.specs.declared.fault.FaultKind.TheVariants.{NotWithin}
use Rattle.derivation.specs.declared.rule.LeafRule.{LeafRule}
use Rattle.derivation.specs.declared.rule.LeafRule.TheVariants as leaves
use Rattle.derivation.specs.declared.rule.StepRule.{StepRule}
use Rattle.derivation.specs.declared.rule.StepRule.TheVariants as steps
use Rattle.derivation.specs.Derivs.{leaf_of, step_of}
use Rattle.derivation.specs.Trees.{given, reflexivity, mreflexivity}
use Rattle.derivation.proofs.RuleTableLemmas.{cond-ok}
use Rattle.derivation.proofs.WithinLemmas.{OfAttributes, LeafOfAttributes, StepOfAttributes, leaf_within, step_within, pair_within}
use Rattle.derivation_rules.proofs.WithinLemmas.{further_within, decomposition_within}
use Rattle.proof_grammar.specs.Printing.{leaf_body, IsBodyWithin}
use Rattle.proof_grammar.proofs.PrintedWithin as printed
use Rattle.derivation_grammar.specs.Derivations.{stated_at, outcome_of_rule, outcome_of_line, AreDerived}
use Rattle.short_derivations.specs.declared.inference.Inference.{Inference}
use Rattle.short_derivations.specs.declared.inference.Reason.{Reason}
use Rattle.short_derivations.specs.declared.inference.Reason.TheVariants as reasons
use Rattle.short_derivations.specs.Inferences.{Why, by_leaf, by_step, by_pair, by_decomposition, by_further, Line, Gives, AreGiven}
use Rattle.short_derivations.specs.Views.{why_of, line_of, lines_of}
use Rattle.derivation_printer.specs.Printing.{body_of, numbered_after, IsLineWithin}

-- ---- within the universe
leaf_own : (rule : LeafRule) → LeafOfAttributes (leaf_of rule)
leaf_own (leaves.Given k) = tt {0}
leaf_own (leaves.Reflexivity x y) = (attributes_below x, attributes_below y)
leaf_own (leaves.MReflexivity x y) = (attributes_below x, attributes_below y)

step_own : (rule : StepRule) → StepOfAttributes (step_of rule)
step_own (steps.Augmentation z) = attributes_below z
step_own steps.Complementation = tt {0}
step_own (steps.MAugmentation w z) = (attributes_below w, attributes_below z)
step_own steps.Replication = tt {0}

right_own : (d : Dep) → OfAttributes (right_of (dependency_of d))
right_own (Fd x y) = attributes_below y
right_own (Mvd x y) = attributes_below y

leaf_body_within : (s : Schema) (rule : LeafRule) → IsBodyWithin (universe_of s) (leaf_body (leaf_of rule))
leaf_body_within s (leaves.Given k) = tt {0}
leaf_body_within s (leaves.Reflexivity x y) = tt {0}
leaf_body_within s (leaves.MReflexivity x y) = tt {0}

holds_at : (P : Dependency → Type 0) (before : List Dependency) (p : ℕ) (x : Dependency) → All P before → slice_get before p ≡ Some x → P x
holds_at P before p x all stands =
    All-contains P before x all (p, slice_get_within before p x stands, get_or_from_slice_get before p x x stands)

line_within : (s : Schema) (before : List Dependency) (stated : Dep) (reason : Reason) → All (IsWithin (universe_of s)) before
    → length before ≤ MOST_NODES → Gives (theory_in s) before (why_of reason) (dependency_of stated)
    → IsLineWithin (universe_of s) (line_of (record { stated = stated; reason = reason }))
line_within s before stated (reasons.Leaf rule) all fit gives = record {
  stated = leaf_within (theory_in s) (leaf_of rule) (dependency_of stated) (leaf_own rule) gives;
  body = leaf_body_within s rule;
  numbers = tt {0};
}
line_within s before stated (reasons.Step rule p) all fit (x, stands, gives) = record {
  stated = step_within (theory_in s) (step_of rule) x (dependency_of stated) (step_own rule) (holds_at (IsWithin (universe_of s)) before p x all stands) gives;
  body = printed.step_within s (step_of rule) x (dependency_of stated) (step_own rule) gives;
  numbers = omega (arith, fit, slice_get_within before p x stands);
}
line_within s before stated (reasons.Pair rule p q) all fit (x, y, first, second, gives) = record {
  stated = pair_within (theory_in s) _ x y (dependency_of stated) (holds_at (IsWithin (universe_of s)) before p x all first) (holds_at (IsWithin (universe_of s)) before q y all second) gives;
  body = tt {0};
  numbers = (omega (arith, fit, slice_get_within before p x first), omega (arith, fit, slice_get_within before q y second));
}
line_within s before stated (reasons.Decomposition p) all fit (x, stands, gives) = record {
  stated = decomposition_within (universe_of s) (dependency_of stated) x (dependency_of stated) (right_own stated) (holds_at (IsWithin (universe_of s)) before p x all stands) gives;
  body = tt {0};
  numbers = omega (arith, fit, slice_get_within before p x stands);
}
line_within s before stated (reasons.Further rule p q) all fit (x, y, first, second, gives) = record {
  stated = further_within (universe_of s) _ x y (dependency_of stated) (holds_at (IsWithin (universe_of s)) before p x all first) (holds_at (IsWithin (universe_of s)) before q y all second) gives;
  body = tt {0};
  numbers = (omega (arith, fit, slice_get_within before p x first), omega (arith, fit, slice_get_within before q y second));
}

lines_within_after : (s : Schema) (before : List Dependency) (items : List Inference) → All (IsWithin (universe_of s)) before
    → length before + length items ≤ MOST_NODES → AreGiven (theory_in s) before (lines_of items)
    → All (IsLineWithin (universe_of s)) (lines_of items)
lines_within_after s before [] all fit gives = All-nil (IsLineWithin (universe_of s))
lines_within_after s before (i ∷ is) all fit (gives, rest) =
    let one = line_within s before i.stated i.reason all (omega (arith, fit)) gives in
    let d = dependency_of i.stated in
    All-cons (IsLineWithin (universe_of s)) (line_of i) (lines_of is) one
    (lines_within_after s (before ++ d ∷ []) is (All-push (IsWithin (universe_of s)) before d all one.stated)
    (omega (arith, fit, length-append before (d ∷ []))) rest)

pub lines_within : (s : Schema) (items : List Inference) → length items ≤ MOST_NODES → AreGiven (theory_in s) [] (lines_of items)
    → All (IsLineWithin (universe_of s)) (lines_of items)
lines_within s items fit gives = lines_within_after s [] items (All-nil (IsWithin (universe_of s))) (omega (arith, fit)) gives

-- ---- derived, by the grammar
stated_next : (before : List Dependency) (p : ℕ) (x : Dependency) → slice_get before p ≡ Some x → stated_at before (p + 1) ≡ Some x
stated_next before p x stands =
    let no : (p + 1 == 0) ≡ false = grind (arith, nat_tests) in
    let back : p + 1 - 1 ≡ p = omega arith in
    rw (no, back) stands

gives_outcome : (s : Schema) (before : List Dependency) (d : Dependency) (w : Why) → Gives (theory_in s) before w d
    → outcome_of_line s before d (body_of w) ≡ Some (Ok d)
unfolding outcome_of_line outcome_of_rule
gives_outcome s before d (by_leaf (given k)) gives =
    let no : (k + 1 == 0) ≡ false = grind (arith, nat_tests) in
    let back : k + 1 - 1 ≡ k = omega arith in
    rw (no, back) (ap Some gives)
gives_outcome s before d (by_leaf (reflexivity x y)) gives =
    let passed = cond-ok (is_subset x (universe_of s) && is_subset y x) NotWithin (fd x y) d gives in
    subst (λ (e : Dependency). outcome_of_line s before e (body_of (by_leaf (reflexivity x y))) ≡ Some (Ok e)) passed.1
    (ap Some (gives ∙ ap Ok (sym passed.1)))
gives_outcome s before d (by_leaf (mreflexivity x y)) gives =
    let passed = cond-ok (is_subset x (universe_of s) && is_subset y x) NotWithin (mvd x y) d gives in
    subst (λ (e : Dependency). outcome_of_line s before e (body_of (by_leaf (mreflexivity x y))) ≡ Some (Ok e)) passed.1
    (ap Some (gives ∙ ap Ok (sym passed.1)))
gives_outcome s before d (by_step rule p) (x, stands, gives) = rw (stated_next before p x stands) (ap Some gives)
gives_outcome s before d (by_pair rule p q) (x, y, first, second, gives) =
    rw (stated_next before p x first, stated_next before q y second) (ap Some gives)
gives_outcome s before d (by_decomposition p) (x, stands, gives) = rw (stated_next before p x stands) (ap Some gives)
gives_outcome s before d (by_further rule p q) (x, y, first, second, gives) =
    rw (stated_next before p x first, stated_next before q y second) (ap Some gives)

pub lines_derived : (s : Schema) (before : List Dependency) (lines : List Line) → AreGiven (theory_in s) before lines
    → AreDerived s before (numbered_after (length before) lines)
lines_derived s before [] gives = tt {0}
lines_derived s before (l ∷ ls) (gives, rest) = (
  record { number = refl; states = gives_outcome s before l.stated l.why gives },
  subst (λ (n : ℕ). AreDerived s (before ++ l.stated ∷ []) (numbered_after n ls)) (length-append before (l.stated ∷ []))
      (lines_derived s (before ++ l.stated ∷ []) ls rest),
)

pub line_at : (P : Line → Type 0) (items : List Inference) (k : ℕ) (d : Inference) → k < length items → All P (lines_of items)
    → P (line_of (get_or items k d))
line_at P items k d low all =
    let short : k < length (lines_of items) = omega (arith, low, length-map items line_of) in
    subst P (get_or-map line_of items k d) (all k (line_of d) short)
