-- The reason that a fault stands for is the first.
use Rattle.std.proofs.Common.{◌≡◌, ◌&&◌, ℕ, Bool, true, false, cond, List, [], ◌∷◌, Option, Some, Ok, Err, refl, sym, ◌∙◌, ap, subst, arith}
use Rattle.std.specs.Prelude.{if◌then◌else◌}
use Rattle.std.proofs.lemmas.Bool.{true≢false}
use Rattle.std.proofs.lemmas.Option.{same_Some}
use Rattle.attr_sets.specs.Sets.{is_same, is_subset, is_disjoint}
use Rattle.schema_model.specs.Schemas.{Schema, theory_in}
use Rattle.dep_model.specs.Dependencies.{Dependency, fd, mvd, left_of, right_of}
use Rattle.derivation.specs.declared.fault.FaultKind.{FaultKind}
use Rattle.derivation.specs.declared.fault.FaultKind.TheVariants.{NotWithin, WrongKind, MiddleDiffers, NotDisjoint}
use Rattle.derivation.specs.Table.{step_conclusion, pair_conclusion}
use Rattle.derivation.specs.Trees.{Step, augmentation, complementation, maugmentation, replication, Pair, transitivity, mtransitivity, coalescence}
use Rattle.proof_grammar.specs.Lines.{by_given, by_reflexivity, by_mreflexivity, by_step, by_pair}
use Rattle.derivation_rules.specs.FurtherRules.{Further}
use Rattle.derivation_rules.specs.FurtherRules as further
use Rattle.derivation_rules.specs.FurtherTable.{further_conclusion, decomposition_conclusion}
use Rattle.derivation_grammar.specs.Derivations.{stated_at, outcome_of_rule, outcome_of_line}
use Rattle.derivation_grammar.specs.Lines.{DerivationBody, by_rule, by_decomposition, by_further}
use Rattle.derivation_grammar.proofs.OutcomeLemmas.{over_one_some, over_two_some}
use Rattle.derivation_mistakes.specs.declared.misuse.Misuse.TheVariants.{NotTheLeftSide, LeftSidesDiffer, NotWithinLeftSide, AnotherLeftSide, NotWithinRightSide, Fault}
use Rattle.derivation_mistakes.specs.FaultReasons.{step_misuse, takes_first, pair_misuse, part_misuse, side_misuse, takes_first_of, further_misuse, misuse_of}
use Rattle.derivation_mistakes.specs.Misuses.{functional, multivalued, kind_at, IsFirstOfAnotherKind, Hinders, IsMisuse}
use Rattle.derivation_mistakes.proofs.MisuseLemmas.{kind_of, functional_differs, multivalued_differs, none_of_one, none_of_two, first_wrong, first_of_two, second_of_two, side_wrong, right_wrong, fault_wrong}

-- what is refused under a test
cond_err : (b : Bool) (why kind : FaultKind) (d : Dependency) → cond b (Ok d) (Err why) ≡ Err kind → (b ≡ false) × (why ≡ kind)
cond_err true why kind d h = cc
cond_err false why kind d h = (refl, cc)

-- the kinds that a union takes differ
union_differs : (before : List Dependency) (p q : ℕ) (b c : Bool) → kind_at before p ≡ Some b → kind_at before q ≡ Some c
    → (c ≡ b → ⊥) → kind_at before q ≡ kind_at before p → ⊥
union_differs before p q b c first second differ same =
    let both : ◌≡◌ {A = Option Bool} (Some c) (Some b) = sym second ∙ same ∙ first in
    differ (same_Some c b both)

union_same : (before : List Dependency) (p q : ℕ) (b : Bool) → kind_at before p ≡ Some b → kind_at before q ≡ Some b
    → kind_at before q ≡ kind_at before p
union_same before p q b first second = second ∙ sym first

module _ (s : Schema) (before : List Dependency) (stated : Dependency) where
  abbrev Gives : DerivationBody → FaultKind → Type 0
  Gives body kind = outcome_of_line s before stated body ≡ Some (Err kind)

  -- ---- rules with one premise
  step_case : (r : Step) (p : ℕ) (x : Dependency) (kind : FaultKind) → Gives (by_rule (by_step r p)) kind
      → stated_at before p ≡ Some x → step_conclusion (theory_in s) r x ≡ Err kind
      → IsMisuse s before stated (by_rule (by_step r p)) (step_misuse p kind)
  step_case (augmentation z) p (fd x y) kind e at h =
      let body = by_rule (by_step (augmentation z) p) in
      let passed = cond_err _ NotWithin kind _ h in
      subst (λ k. IsMisuse s before stated body (step_misuse p k)) passed.1
      (fault_wrong s before stated body NotWithin (e ∙ ap (λ k. Some (Err k)) (sym passed.1)) refl
      (none_of_one before (functional p) (kind_of before p (fd x y) at)))
  step_case (augmentation z) p (mvd x y) kind e at h =
      let body = by_rule (by_step (augmentation z) p) in
      let same : WrongKind ≡ kind = cc in
      subst (λ k. IsMisuse s before stated body (step_misuse p k)) same
      (first_wrong s before stated body kind e (functional p) [] refl (multivalued_differs before p x y at))
  step_case complementation p (fd x y) kind e at h =
      let body = by_rule (by_step complementation p) in
      let same : WrongKind ≡ kind = cc in
      subst (λ k. IsMisuse s before stated body (step_misuse p k)) same
      (first_wrong s before stated body kind e (multivalued p) [] refl (functional_differs before p x y at))
  step_case complementation p (mvd x y) kind e at h = cc
  step_case (maugmentation w z) p (mvd x y) kind e at h =
      let body = by_rule (by_step (maugmentation w z) p) in
      let passed = cond_err _ NotWithin kind _ h in
      subst (λ k. IsMisuse s before stated body (step_misuse p k)) passed.1
      (fault_wrong s before stated body NotWithin (e ∙ ap (λ k. Some (Err k)) (sym passed.1)) refl
      (none_of_one before (multivalued p) (kind_of before p (mvd x y) at)))
  step_case (maugmentation w z) p (fd x y) kind e at h =
      let body = by_rule (by_step (maugmentation w z) p) in
      let same : WrongKind ≡ kind = cc in
      subst (λ k. IsMisuse s before stated body (step_misuse p k)) same
      (first_wrong s before stated body kind e (multivalued p) [] refl (functional_differs before p x y at))
  step_case replication p (fd x y) kind e at h = cc
  step_case replication p (mvd x y) kind e at h =
      let body = by_rule (by_step replication p) in
      let same : WrongKind ≡ kind = cc in
      subst (λ k. IsMisuse s before stated body (step_misuse p k)) same
      (first_wrong s before stated body kind e (functional p) [] refl (multivalued_differs before p x y at))

  part_case : (p : ℕ) (x : Dependency) (kind : FaultKind) → Gives (by_decomposition p) kind
      → stated_at before p ≡ Some x → decomposition_conclusion stated x ≡ Err kind
      → IsMisuse s before stated (by_decomposition p) (part_misuse before stated p kind)
  part_case p (mvd x y) kind e at h =
      let body = by_decomposition p in
      let same : WrongKind ≡ kind = cc in
      subst (λ k. IsMisuse s before stated body (part_misuse before stated p k)) same
      (first_wrong s before stated body kind e (functional p) [] refl (multivalued_differs before p x y at))
  part_case p (fd x y) kind e at h =
      let passed = cond_err (is_same (left_of stated) x && is_subset (right_of stated) y) NotWithin kind _ h in
      subst (λ k. IsMisuse s before stated (by_decomposition p) (part_misuse before stated p k)) passed.1
      (subst (λ o. IsMisuse s before stated (by_decomposition p) (side_misuse stated p o)) (sym at)
      (by_left (is_same (left_of stated) x) refl passed.0))
    where
      none : (m : ℕ) → IsFirstOfAnotherKind before (functional p ∷ []) m → ⊥
      none = none_of_one before (functional p) (kind_of before p (fd x y) at)

      -- another premise would state the same
      left_holds : is_same (left_of stated) x ≡ true → (m : ℕ)
          → Hinders s before stated (by_decomposition p) (AnotherLeftSide m) → ⊥
      left_holds holds m fails =
          let same : ◌≡◌ {A = Option Dependency} (Some (fd x y)) (Some fails.1.0) = sym at ∙ fails.1.1 in
          let one : fd x y ≡ fails.1.0 = same_Some (fd x y) fails.1.0 same in
          true≢false (sym holds ∙ ap (λ d. is_same (left_of stated) (left_of d)) one ∙ fails.1.2)

      by_left : (b : Bool) → is_same (left_of stated) x ≡ b → (b && is_subset (right_of stated) y) ≡ false
          → IsMisuse s before stated (by_decomposition p) (if b then NotWithinRightSide p else AnotherLeftSide p)
      by_left true holds right =
          right_wrong s before stated (by_decomposition p) kind e p refl (refl, (fd x y, at, right)) none (left_holds holds)
      by_left false fails right =
          side_wrong s before stated (by_decomposition p) kind e (AnotherLeftSide p) (omega arith) (refl, (fd x y, at, fails)) none

  -- ---- rules with two premises
  pair_case : (r : Pair) (p q : ℕ) (x y : Dependency) (kind : FaultKind) → Gives (by_rule (by_pair r p q)) kind
      → stated_at before p ≡ Some x → stated_at before q ≡ Some y → pair_conclusion r x y ≡ Err kind
      → IsMisuse s before stated (by_rule (by_pair r p q)) (pair_misuse before r p q kind)
  pair_case transitivity p q (fd x y) (fd v z) kind e first second h =
      let body = by_rule (by_pair transitivity p q) in
      let passed = cond_err _ MiddleDiffers kind _ h in
      subst (λ k. IsMisuse s before stated body (pair_misuse before transitivity p q k)) passed.1
      (side_wrong s before stated body kind e (NotTheLeftSide p q) (omega arith)
      (refl, refl, (fd x y, fd v z, first, second, passed.0))
      (none_of_two before (functional p) (functional q) (kind_of before p (fd x y) first)
      (kind_of before q (fd v z) second)))
  pair_case transitivity p q (fd x y) (mvd v z) kind e first second h =
      let body = by_rule (by_pair transitivity p q) in
      let same : WrongKind ≡ kind = cc in
      subst (λ k. IsMisuse s before stated body (pair_misuse before transitivity p q k)) same
      (second_of_two s before stated body kind e (takes_first transitivity (stated_at before p)) (functional p) (functional q) refl
      (ap (takes_first transitivity) first) (kind_of before p (fd x y) first) (multivalued_differs before q v z second))
  pair_case transitivity p q (mvd x y) (fd v z) kind e first second h =
      let body = by_rule (by_pair transitivity p q) in
      let same : WrongKind ≡ kind = cc in
      subst (λ k. IsMisuse s before stated body (pair_misuse before transitivity p q k)) same
      (first_of_two s before stated body kind e (takes_first transitivity (stated_at before p)) (functional p) (functional q) refl
      (ap (takes_first transitivity) first) (multivalued_differs before p x y first))
  pair_case transitivity p q (mvd x y) (mvd v z) kind e first second h =
      let body = by_rule (by_pair transitivity p q) in
      let same : WrongKind ≡ kind = cc in
      subst (λ k. IsMisuse s before stated body (pair_misuse before transitivity p q k)) same
      (first_of_two s before stated body kind e (takes_first transitivity (stated_at before p)) (functional p) (functional q) refl
      (ap (takes_first transitivity) first) (multivalued_differs before p x y first))
  pair_case mtransitivity p q (fd x y) (fd v z) kind e first second h =
      let body = by_rule (by_pair mtransitivity p q) in
      let same : WrongKind ≡ kind = cc in
      subst (λ k. IsMisuse s before stated body (pair_misuse before mtransitivity p q k)) same
      (first_of_two s before stated body kind e (takes_first mtransitivity (stated_at before p)) (multivalued p) (multivalued q) refl
      (ap (takes_first mtransitivity) first) (functional_differs before p x y first))
  pair_case mtransitivity p q (fd x y) (mvd v z) kind e first second h =
      let body = by_rule (by_pair mtransitivity p q) in
      let same : WrongKind ≡ kind = cc in
      subst (λ k. IsMisuse s before stated body (pair_misuse before mtransitivity p q k)) same
      (first_of_two s before stated body kind e (takes_first mtransitivity (stated_at before p)) (multivalued p) (multivalued q) refl
      (ap (takes_first mtransitivity) first) (functional_differs before p x y first))
  pair_case mtransitivity p q (mvd x y) (fd v z) kind e first second h =
      let body = by_rule (by_pair mtransitivity p q) in
      let same : WrongKind ≡ kind = cc in
      subst (λ k. IsMisuse s before stated body (pair_misuse before mtransitivity p q k)) same
      (second_of_two s before stated body kind e (takes_first mtransitivity (stated_at before p)) (multivalued p) (multivalued q) refl
      (ap (takes_first mtransitivity) first) (kind_of before p (mvd x y) first) (functional_differs before q v z second))
  pair_case mtransitivity p q (mvd x y) (mvd v z) kind e first second h =
      let body = by_rule (by_pair mtransitivity p q) in
      let passed = cond_err _ MiddleDiffers kind _ h in
      subst (λ k. IsMisuse s before stated body (pair_misuse before mtransitivity p q k)) passed.1
      (side_wrong s before stated body kind e (NotTheLeftSide p q) (omega arith)
      (refl, refl, (mvd x y, mvd v z, first, second, passed.0))
      (none_of_two before (multivalued p) (multivalued q) (kind_of before p (mvd x y) first)
      (kind_of before q (mvd v z) second)))
  pair_case coalescence p q (fd x y) (fd v z) kind e first second h =
      let body = by_rule (by_pair coalescence p q) in
      let same : WrongKind ≡ kind = cc in
      subst (λ k. IsMisuse s before stated body (pair_misuse before coalescence p q k)) same
      (first_of_two s before stated body kind e (takes_first coalescence (stated_at before p)) (multivalued p) (functional q) refl
      (ap (takes_first coalescence) first) (functional_differs before p x y first))
  pair_case coalescence p q (fd x y) (mvd v z) kind e first second h =
      let body = by_rule (by_pair coalescence p q) in
      let same : WrongKind ≡ kind = cc in
      subst (λ k. IsMisuse s before stated body (pair_misuse before coalescence p q k)) same
      (first_of_two s before stated body kind e (takes_first coalescence (stated_at before p)) (multivalued p) (functional q) refl
      (ap (takes_first coalescence) first) (functional_differs before p x y first))
  pair_case coalescence p q (mvd x y) (fd v z) kind e first second h = by_within (is_subset z y) h
    where
      body : DerivationBody
      body = by_rule (by_pair coalescence p q)

      none : (m : ℕ) → IsFirstOfAnotherKind before (multivalued p ∷ functional q ∷ []) m → ⊥
      none = none_of_two before (multivalued p) (functional q) (kind_of before p (mvd x y) first) (kind_of before q (fd v z) second)

      -- both faults are neither of kinds nor of a middle
      fault : (why : FaultKind) → why ≡ kind → pair_misuse before coalescence p q why ≡ Fault why
          → IsMisuse s before stated body (pair_misuse before coalescence p q kind)
      fault why same is =
          subst (λ k. IsMisuse s before stated body (pair_misuse before coalescence p q k)) same
          (rw is (fault_wrong s before stated body why (e ∙ ap (λ k. Some (Err k)) (sym same)) refl none))

      by_within : (b : Bool) → cond b (cond (is_disjoint v y) (Ok (fd x z)) (Err NotDisjoint)) (Err NotWithin) ≡ Err kind
          → IsMisuse s before stated body (pair_misuse before coalescence p q kind)
      by_within true inner = fault NotDisjoint (cond_err (is_disjoint v y) NotDisjoint kind (fd x z) inner).1 refl
      by_within false refused = let same : NotWithin ≡ kind = cc in fault NotWithin same refl
  pair_case coalescence p q (mvd x y) (mvd v z) kind e first second h =
      let body = by_rule (by_pair coalescence p q) in
      let same : WrongKind ≡ kind = cc in
      subst (λ k. IsMisuse s before stated body (pair_misuse before coalescence p q k)) same
      (second_of_two s before stated body kind e (takes_first coalescence (stated_at before p)) (multivalued p) (functional q) refl
      (ap (takes_first coalescence) first) (kind_of before p (mvd x y) first) (multivalued_differs before q v z second))

  further_case : (r : Further) (p q : ℕ) (x y : Dependency) (kind : FaultKind) → Gives (by_further r p q) kind
      → stated_at before p ≡ Some x → stated_at before q ≡ Some y → further_conclusion r x y ≡ Err kind
      → IsMisuse s before stated (by_further r p q) (further_misuse before r p q kind)
  further_case further.union p q (fd x y) (fd v z) kind e first second h =
      let body = by_further further.union p q in
      let passed = cond_err _ MiddleDiffers kind _ h in
      subst (λ k. IsMisuse s before stated body (further_misuse before further.union p q k)) passed.1
      (side_wrong s before stated body kind e (LeftSidesDiffer p q) (omega arith)
      (refl, refl, (fd x y, fd v z, first, second, passed.0))
      (none_of_one before (record { line = q; kind = kind_at before p })
      (kind_of before q (fd v z) second ∙ sym (kind_of before p (fd x y) first))))
  further_case further.union p q (fd x y) (mvd v z) kind e first second h =
      let body = by_further further.union p q in
      let same : WrongKind ≡ kind = cc in
      subst (λ k. IsMisuse s before stated body (further_misuse before further.union p q k)) same
      (first_wrong s before stated body kind e (record { line = q; kind = kind_at before p }) [] refl
      (union_differs before p q true false (kind_of before p (fd x y) first) (kind_of before q (mvd v z) second) (λ e. true≢false (sym e))))
  further_case further.union p q (mvd x y) (fd v z) kind e first second h =
      let body = by_further further.union p q in
      let same : WrongKind ≡ kind = cc in
      subst (λ k. IsMisuse s before stated body (further_misuse before further.union p q k)) same
      (first_wrong s before stated body kind e (record { line = q; kind = kind_at before p }) [] refl
      (union_differs before p q false true (kind_of before p (mvd x y) first) (kind_of before q (fd v z) second) (λ e. true≢false e)))
  further_case further.union p q (mvd x y) (mvd v z) kind e first second h =
      let body = by_further further.union p q in
      let passed = cond_err _ MiddleDiffers kind _ h in
      subst (λ k. IsMisuse s before stated body (further_misuse before further.union p q k)) passed.1
      (side_wrong s before stated body kind e (LeftSidesDiffer p q) (omega arith)
      (refl, refl, (mvd x y, mvd v z, first, second, passed.0))
      (none_of_one before (record { line = q; kind = kind_at before p })
      (kind_of before q (mvd v z) second ∙ sym (kind_of before p (mvd x y) first))))
  further_case further.pseudotransitivity p q (fd x y) (fd v z) kind e first second h =
      let body = by_further further.pseudotransitivity p q in
      let passed = cond_err _ MiddleDiffers kind _ h in
      subst (λ k. IsMisuse s before stated body (further_misuse before further.pseudotransitivity p q k)) passed.1
      (side_wrong s before stated body kind e (NotWithinLeftSide p q) (omega arith)
      (refl, refl, (fd x y, fd v z, first, second, passed.0))
      (none_of_two before (functional p) (functional q) (kind_of before p (fd x y) first)
      (kind_of before q (fd v z) second)))
  further_case further.pseudotransitivity p q (fd x y) (mvd v z) kind e first second h =
      let body = by_further further.pseudotransitivity p q in
      let same : WrongKind ≡ kind = cc in
      subst (λ k. IsMisuse s before stated body (further_misuse before further.pseudotransitivity p q k)) same
      (second_of_two s before stated body kind e (takes_first_of further.pseudotransitivity (stated_at before p)) (functional p) (functional q) refl
      (ap (takes_first_of further.pseudotransitivity) first) (kind_of before p (fd x y) first) (multivalued_differs before q v z second))
  further_case further.pseudotransitivity p q (mvd x y) (fd v z) kind e first second h =
      let body = by_further further.pseudotransitivity p q in
      let same : WrongKind ≡ kind = cc in
      subst (λ k. IsMisuse s before stated body (further_misuse before further.pseudotransitivity p q k)) same
      (first_of_two s before stated body kind e (takes_first_of further.pseudotransitivity (stated_at before p)) (functional p) (functional q) refl
      (ap (takes_first_of further.pseudotransitivity) first) (multivalued_differs before p x y first))
  further_case further.pseudotransitivity p q (mvd x y) (mvd v z) kind e first second h =
      let body = by_further further.pseudotransitivity p q in
      let same : WrongKind ≡ kind = cc in
      subst (λ k. IsMisuse s before stated body (further_misuse before further.pseudotransitivity p q k)) same
      (first_of_two s before stated body kind e (takes_first_of further.pseudotransitivity (stated_at before p)) (functional p) (functional q) refl
      (ap (takes_first_of further.pseudotransitivity) first) (multivalued_differs before p x y first))
  further_case further.intersection p q (fd x y) (fd v z) kind e first second h =
      let body = by_further further.intersection p q in
      let same : WrongKind ≡ kind = cc in
      subst (λ k. IsMisuse s before stated body (further_misuse before further.intersection p q k)) same
      (first_of_two s before stated body kind e (takes_first_of further.intersection (stated_at before p)) (multivalued p) (multivalued q) refl
      (ap (takes_first_of further.intersection) first) (functional_differs before p x y first))
  further_case further.intersection p q (fd x y) (mvd v z) kind e first second h =
      let body = by_further further.intersection p q in
      let same : WrongKind ≡ kind = cc in
      subst (λ k. IsMisuse s before stated body (further_misuse before further.intersection p q k)) same
      (first_of_two s before stated body kind e (takes_first_of further.intersection (stated_at before p)) (multivalued p) (multivalued q) refl
      (ap (takes_first_of further.intersection) first) (functional_differs before p x y first))
  further_case further.intersection p q (mvd x y) (fd v z) kind e first second h =
      let body = by_further further.intersection p q in
      let same : WrongKind ≡ kind = cc in
      subst (λ k. IsMisuse s before stated body (further_misuse before further.intersection p q k)) same
      (second_of_two s before stated body kind e (takes_first_of further.intersection (stated_at before p)) (multivalued p) (multivalued q) refl
      (ap (takes_first_of further.intersection) first) (kind_of before p (mvd x y) first) (functional_differs before q v z second))
  further_case further.intersection p q (mvd x y) (mvd v z) kind e first second h =
      let body = by_further further.intersection p q in
      let passed = cond_err _ MiddleDiffers kind _ h in
      subst (λ k. IsMisuse s before stated body (further_misuse before further.intersection p q k)) passed.1
      (side_wrong s before stated body kind e (LeftSidesDiffer p q) (omega arith)
      (refl, refl, (mvd x y, mvd v z, first, second, passed.0))
      (none_of_two before (multivalued p) (multivalued q) (kind_of before p (mvd x y) first)
      (kind_of before q (mvd v z) second)))
  further_case further.difference p q (fd x y) (fd v z) kind e first second h =
      let body = by_further further.difference p q in
      let same : WrongKind ≡ kind = cc in
      subst (λ k. IsMisuse s before stated body (further_misuse before further.difference p q k)) same
      (first_of_two s before stated body kind e (takes_first_of further.difference (stated_at before p)) (multivalued p) (multivalued q) refl
      (ap (takes_first_of further.difference) first) (functional_differs before p x y first))
  further_case further.difference p q (fd x y) (mvd v z) kind e first second h =
      let body = by_further further.difference p q in
      let same : WrongKind ≡ kind = cc in
      subst (λ k. IsMisuse s before stated body (further_misuse before further.difference p q k)) same
      (first_of_two s before stated body kind e (takes_first_of further.difference (stated_at before p)) (multivalued p) (multivalued q) refl
      (ap (takes_first_of further.difference) first) (functional_differs before p x y first))
  further_case further.difference p q (mvd x y) (fd v z) kind e first second h =
      let body = by_further further.difference p q in
      let same : WrongKind ≡ kind = cc in
      subst (λ k. IsMisuse s before stated body (further_misuse before further.difference p q k)) same
      (second_of_two s before stated body kind e (takes_first_of further.difference (stated_at before p)) (multivalued p) (multivalued q) refl
      (ap (takes_first_of further.difference) first) (kind_of before p (mvd x y) first) (functional_differs before q v z second))
  further_case further.difference p q (mvd x y) (mvd v z) kind e first second h =
      let body = by_further further.difference p q in
      let passed = cond_err _ MiddleDiffers kind _ h in
      subst (λ k. IsMisuse s before stated body (further_misuse before further.difference p q k)) passed.1
      (side_wrong s before stated body kind e (LeftSidesDiffer p q) (omega arith)
      (refl, refl, (mvd x y, mvd v z, first, second, passed.0))
      (none_of_two before (multivalued p) (multivalued q) (kind_of before p (mvd x y) first)
      (kind_of before q (mvd v z) second)))
  further_case further.mpseudotransitivity p q (fd x y) (fd v z) kind e first second h =
      let body = by_further further.mpseudotransitivity p q in
      let same : WrongKind ≡ kind = cc in
      subst (λ k. IsMisuse s before stated body (further_misuse before further.mpseudotransitivity p q k)) same
      (first_of_two s before stated body kind e (takes_first_of further.mpseudotransitivity (stated_at before p)) (multivalued p) (multivalued q) refl
      (ap (takes_first_of further.mpseudotransitivity) first) (functional_differs before p x y first))
  further_case further.mpseudotransitivity p q (fd x y) (mvd v z) kind e first second h =
      let body = by_further further.mpseudotransitivity p q in
      let same : WrongKind ≡ kind = cc in
      subst (λ k. IsMisuse s before stated body (further_misuse before further.mpseudotransitivity p q k)) same
      (first_of_two s before stated body kind e (takes_first_of further.mpseudotransitivity (stated_at before p)) (multivalued p) (multivalued q) refl
      (ap (takes_first_of further.mpseudotransitivity) first) (functional_differs before p x y first))
  further_case further.mpseudotransitivity p q (mvd x y) (fd v z) kind e first second h =
      let body = by_further further.mpseudotransitivity p q in
      let same : WrongKind ≡ kind = cc in
      subst (λ k. IsMisuse s before stated body (further_misuse before further.mpseudotransitivity p q k)) same
      (second_of_two s before stated body kind e (takes_first_of further.mpseudotransitivity (stated_at before p)) (multivalued p) (multivalued q) refl
      (ap (takes_first_of further.mpseudotransitivity) first) (kind_of before p (mvd x y) first) (functional_differs before q v z second))
  further_case further.mpseudotransitivity p q (mvd x y) (mvd v z) kind e first second h =
      let body = by_further further.mpseudotransitivity p q in
      let passed = cond_err _ MiddleDiffers kind _ h in
      subst (λ k. IsMisuse s before stated body (further_misuse before further.mpseudotransitivity p q k)) passed.1
      (side_wrong s before stated body kind e (NotWithinLeftSide p q) (omega arith)
      (refl, refl, (mvd x y, mvd v z, first, second, passed.0))
      (none_of_two before (multivalued p) (multivalued q) (kind_of before p (mvd x y) first)
      (kind_of before q (mvd v z) second)))

  -- ---- any rule
  pub misuse_first : (body : DerivationBody) (kind : FaultKind) → Gives body kind
      → IsMisuse s before stated body (misuse_of before stated body kind)
  unfolding outcome_of_line outcome_of_rule
  misuse_first (by_rule (by_given k)) kind e =
      fault_wrong s before stated (by_rule (by_given k)) kind e refl (λ m h. h)
  misuse_first (by_rule by_reflexivity) kind e =
      fault_wrong s before stated (by_rule by_reflexivity) kind e refl (λ m h. h)
  misuse_first (by_rule by_mreflexivity) kind e =
      fault_wrong s before stated (by_rule by_mreflexivity) kind e refl (λ m h. h)
  misuse_first (by_rule (by_step r p)) kind e =
      let x = over_one_some (step_conclusion (theory_in s) r) (stated_at before p) (Err kind) e in
      step_case r p x.0 kind e x.1 x.2
  misuse_first (by_rule (by_pair r p q)) kind e =
      let x = over_two_some (pair_conclusion r) (stated_at before p) (stated_at before q) (Err kind) e in
      pair_case r p q x.0 x.1 kind e x.2 x.3 x.4
  misuse_first (by_decomposition p) kind e =
      let x = over_one_some (decomposition_conclusion stated) (stated_at before p) (Err kind) e in
      part_case p x.0 kind e x.1 x.2
  misuse_first (by_further r p q) kind e =
      let x = over_two_some (further_conclusion r) (stated_at before p) (stated_at before q) (Err kind) e in
      further_case r p q x.0 x.1 kind e x.2 x.3 x.4
