-- What the rule of a line of the code gives: something, where it names earlier lines; and what lies within the
-- universe.
use Rattle.std.proofs.Common.{◌≡◌, ◌⊎◌, inl, inr, ◌<◌, ◌≤◌, ◌-◌, ◌==◌, ℕ, Bool, true, false, cond, List, [], ◌∷◌, length, get_or, Option, Some, None, Result, Ok, refl, sym, ◌∙◌, arith}
use Rattle.std.specs.Prelude.{All, slice_get}
use Rattle.std.proofs.lemmas.Bool.Decides.{nat_tests}
use Rattle.std.proofs.lemmas.List.Elements.{All-head, All-tail}
use Rattle.std.proofs.lemmas.Option.{none-some, slice_get_cases}
use Rattle.attr_sets.proofs.AttributesLemmas.{attributes_below}
use Rattle.schema_model.specs.Schemas.{Schema, theory_in, universe_of}
use Rattle.dep_model.specs.declared.dep.Dep.{Dep}
use Rattle.dep_model.specs.Dependencies.{Dependency, IsWithin, left_of, right_of}
use Rattle.dep_model.specs.Deps.{dependency_of, IsDepWithin}
use Rattle.derivation.specs.declared.fault.FaultKind.{FaultKind}
use Rattle.derivation.specs.declared.rule.StepRule as steps
use Rattle.derivation.specs.Derivs.{step_of}
use Rattle.derivation.specs.Table.{step_conclusion, pair_conclusion}
use Rattle.derivation.proofs.WithinLemmas.{StepOfAttributes}
use Rattle.proof_grammar.specs.Lines.{by_given, by_reflexivity, by_mreflexivity, by_step, by_pair}
use Rattle.proof_grammar.proofs.PreparedLaws.{BodyOfAttributes}
use Rattle.proof_text.specs.declared.line.Body as rules
use Rattle.proof_text.specs.Views.{body_of}
use Rattle.derivation_rules.specs.FurtherTable.{further_conclusion, decomposition_conclusion}
use Rattle.derivation_grammar.specs.Derivations.{stated_at, over_one, over_two, outcome_of_rule, outcome_of_line}
use Rattle.derivation_grammar.specs.Lines.{DerivationBody, by_rule, by_decomposition, by_further}
use Rattle.derivation_grammar.specs.Meanings.{premises_of, IsEarlier}
use Rattle.derivation_grammar.proofs.OutcomeLemmas.{BodyOfLine, outcome_within}
use Rattle.derivation_grammar.proofs.SchemaLines.{of_attributes}
use Rattle.derivation_text.specs.declared.line.DerivationBody as bodies
use Rattle.derivation_text.specs.Views.{body_of_line}

-- ---- a rule that names earlier lines gives something
stated_there : (before : List Dependency) (p : ℕ) → IsEarlier (length before) p → stated_at before p ≡ None → ⊥
stated_there before p is e = by_zero (p == 0) refl e
  where
    by_place : (slice_get before (p - 1) ≡ None)
        → ((x : Dependency) × (p - 1 < length before) × (slice_get before (p - 1) ≡ Some x) × (get_or before (p - 1) x ≡ x))
        ⊎ ((length before ≤ p - 1) × (slice_get before (p - 1) ≡ None))
        → ⊥
    by_place none (inl found) = none-some _ (sym none ∙ found.2)
    by_place none (inr past) = omega (arith, past.0, is.0, is.1)

    by_zero : (b : Bool) → (p == 0) ≡ b → cond b None (slice_get before (p - 1)) ≡ None → ⊥
    by_zero true zero h =
        let none : p ≡ 0 = grind (arith, nat_tests, zero) in
        omega (arith, is.0, none)
    by_zero false some h = by_place h (slice_get_cases before (p - 1)).1

over_one_none : (f : Dependency → Result Dependency FaultKind) (o : Option Dependency) → over_one f o ≡ None → o ≡ None
over_one_none f None e = refl
over_one_none f (Some x) e = cc

over_two_none : (f : Dependency → Dependency → Result Dependency FaultKind) (o u : Option Dependency)
    → over_two f o u ≡ None → (o ≡ None) ⊎ (u ≡ None)
over_two_none f None u e = inl refl
over_two_none f (Some x) None e = inr refl
over_two_none f (Some x) (Some y) e = cc

-- of two premises
two_there : (before : List Dependency) (p q : ℕ) → All (IsEarlier (length before)) (p ∷ q ∷ [])
    → (stated_at before p ≡ None) ⊎ (stated_at before q ≡ None) → ⊥
two_there before p q all (inl none) =
    stated_there before p (All-head (IsEarlier (length before)) p (q ∷ []) all) none
two_there before p q all (inr none) =
    let rest = All-tail (IsEarlier (length before)) p (q ∷ []) all in
    stated_there before q (All-head (IsEarlier (length before)) q [] rest) none

pub has_outcome : (s : Schema) (before : List Dependency) (stated : Dependency) (b : DerivationBody)
    → All (IsEarlier (length before)) (premises_of b) → outcome_of_line s before stated b ≡ None → ⊥
unfolding outcome_of_line outcome_of_rule
has_outcome s before stated (by_rule (by_given k)) all e = cc
has_outcome s before stated (by_rule by_reflexivity) all e = cc
has_outcome s before stated (by_rule by_mreflexivity) all e = cc
has_outcome s before stated (by_rule (by_step rule p)) all e =
    stated_there before p (All-head (IsEarlier (length before)) p [] all)
    (over_one_none (step_conclusion (theory_in s) rule) (stated_at before p) e)
has_outcome s before stated (by_rule (by_pair rule p q)) all e =
    two_there before p q all (over_two_none (pair_conclusion rule) (stated_at before p) (stated_at before q) e)
has_outcome s before stated (by_decomposition p) all e =
    stated_there before p (All-head (IsEarlier (length before)) p [] all)
    (over_one_none (decomposition_conclusion stated) (stated_at before p) e)
has_outcome s before stated (by_further rule p q) all e =
    two_there before p q all (over_two_none (further_conclusion rule) (stated_at before p) (stated_at before q) e)

-- ---- what it gives lies within the universe
-- the sets of a rule of the code are of attributes
step_own : (r : steps.StepRule) → StepOfAttributes (step_of r)
step_own (steps.TheVariants.Augmentation z) = attributes_below z
step_own steps.TheVariants.Complementation = tt {0}
step_own (steps.TheVariants.MAugmentation w z) = (attributes_below w, attributes_below z)
step_own steps.TheVariants.Replication = tt {0}

rule_own : (b : rules.Body) → BodyOfAttributes (body_of b)
rule_own (rules.TheVariants.Given k) = tt {0}
rule_own rules.TheVariants.Reflexivity = tt {0}
rule_own rules.TheVariants.MReflexivity = tt {0}
rule_own (rules.TheVariants.Step r p) = step_own r
rule_own (rules.TheVariants.Pair r p q) = tt {0}

body_own : (b : bodies.DerivationBody) → BodyOfLine (body_of_line b)
body_own (bodies.TheVariants.Rule b) = rule_own b
body_own (bodies.TheVariants.Decomposition p) = tt {0}
body_own (bodies.TheVariants.Further r p q) = tt {0}

pub given_within : (s : Schema) (before : List Dependency) (stated : Dependency) (body : bodies.DerivationBody) (d : Dep)
    → All (IsWithin (universe_of s)) before → IsWithin (universe_of s) stated
    → outcome_of_line s before stated (body_of_line body) ≡ Some (Ok (dependency_of d)) → IsDepWithin (universe_of s) d
given_within s before stated body d all inside is =
    outcome_within s before stated (body_of_line body) (dependency_of d) all (of_attributes s (left_of stated) inside.0)
    (of_attributes s (right_of stated) inside.1) (body_own body) is
