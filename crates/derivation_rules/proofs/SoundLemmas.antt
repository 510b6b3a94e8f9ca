-- The further rules are sound. What a relation over n attributes obeys depends on the attributes below n
-- alone, so each rule is taken on sets that are cut to these.
use Rattle.std.proofs.Common.{◌≡◌, ℕ, ◌<◌, ◌≤◌, true, not, ◌&&◌, ◌||◌, sym, ◌∙◌, ap, arith, refl, subst}
use Rattle.std.specs.Prelude.{Ok}
use Rattle.std.proofs.lemmas.Bool.{and_parts}
use Rattle.std.proofs.lemmas.Bool.Decides.{nat_tests}
use Rattle.attr_sets.specs.declared.set.TheConstants.{MOST_ATTRIBUTES}
use Rattle.attr_sets.specs.Attributes.{Attributes, below, union, intersection, difference, IsSubset}
use Rattle.attr_sets.specs.Sets.{is_subset, is_same}
use Rattle.attr_sets.proofs.AttributesLemmas.{all_below-true}
use Rattle.dep_model.specs.Theories.{Theory}
use Rattle.dep_model.specs.Tuples.{Relation, IsOver}
use Rattle.dep_model.specs.Dependencies.{Dependency, fd, mvd, Obeys, ObeysFd, ObeysMvd, left_of, right_of}
use Rattle.dep_model.specs.Theories.{width_of, ImpliedBy}
use Rattle.dep_model.proofs.RuleLemmas.{fd_union_obeyed, fd_weaker_obeyed, mvd_union_obeyed, mvd_intersection_obeyed}
use Rattle.derivation.specs.declared.fault.FaultKind.TheVariants.{MiddleDiffers, NotWithin}
use Rattle.derivation.proofs.RuleTableLemmas.{cond-ok}
use Rattle.derivation.proofs.SoundnessLemmas.{WithinBelow, SameBelow, fd_below, mvd_below}
use Rattle.derivation_rules.specs.FurtherRules.{Further}
use Rattle.derivation_rules.specs.FurtherRules as rule
use Rattle.derivation_rules.specs.FurtherTable.{functional_conclusion, multivalued_conclusion, further_conclusion, decomposition_conclusion}
use Rattle.derivation_rules.proofs.RelationLemmas.{pseudotransitivity_obeyed, mvd_difference_obeyed, mpseudotransitivity_obeyed}

-- ---- tests of sets, below n
subset_below : (n : ℕ) (x y : Attributes) → n ≤ MOST_ATTRIBUTES → is_subset x y ≡ true → WithinBelow n x y
subset_below n x y within_limit passes k low m =
    grind (arith, nat_tests, m, all_below-true MOST_ATTRIBUTES (λ j. not (x j) || y j) passes k (omega arith))

same_below : (n : ℕ) (x y : Attributes) → n ≤ MOST_ATTRIBUTES → is_same x y ≡ true → SameBelow n x y
same_below n x y within_limit passes k low =
    let both = and_parts (is_subset x y) (is_subset y x) passes in
    grind (
      arith,
      all_below-true MOST_ATTRIBUTES (λ j. not (x j) || y j) both.0 k (omega arith),
      all_below-true MOST_ATTRIBUTES (λ j. not (y j) || x j) both.1 k (omega arith),
    )

-- ---- sets that are cut to the attributes below n
cut : ℕ → Attributes → Attributes
cut n x = intersection x (below n)

cut-same : (n : ℕ) (x : Attributes) → SameBelow n x (cut n x)
unfolding cut
cut-same n x k low = grind (arith, nat_tests)

cut-within : (n : ℕ) (x : Attributes) → IsSubset (cut n x) (below n)
unfolding cut
cut-within n x k m = grind (arith, m)

cut-subset : (n : ℕ) (x y : Attributes) → n ≤ MOST_ATTRIBUTES → is_subset x y ≡ true → IsSubset (cut n x) (cut n y)
unfolding cut
cut-subset n x y within_limit passes k m =
    let low : k < n = grind (arith, nat_tests, m) in
    grind (arith, nat_tests, m, subset_below n x y within_limit passes k low)

-- the same left side in other words
fd_left : (n : ℕ) (x v z : Attributes) (r : Relation) → n ≤ MOST_ATTRIBUTES → IsOver n r → is_same x v ≡ true
    → ObeysFd v z r → ObeysFd x z r
fd_left n x v z r within_limit over same obeys =
    fd_below n v z x z r over (λ k low m. same_below n x v within_limit same k low ∙ m) (λ k low m. m) obeys

mvd_left : (n : ℕ) (x v z : Attributes) (r : Relation) → n ≤ MOST_ATTRIBUTES → IsOver n r → is_same x v ≡ true
    → ObeysMvd (below n) v z r → ObeysMvd (below n) x z r
mvd_left n x v z r within_limit over same obeys =
    mvd_below n v z x z r over (λ k low. sym (same_below n x v within_limit same k low)) (λ k low. refl) obeys

-- the right side is cut
mvd_cut : (n : ℕ) (x y : Attributes) (r : Relation) → IsOver n r → ObeysMvd (below n) x y r
    → ObeysMvd (below n) (cut n x) (cut n y) r
mvd_cut n x y r over obeys = mvd_below n x y (cut n x) (cut n y) r over (cut-same n x) (cut-same n y) obeys

mvd_right_cut : (n : ℕ) (x y : Attributes) (r : Relation) → IsOver n r → ObeysMvd (below n) x y r
    → ObeysMvd (below n) x (cut n y) r
mvd_right_cut n x y r over obeys = mvd_below n x y x (cut n y) r over (λ k low. refl) (cut-same n y) obeys

-- ---- each rule, on any sets
pseudotransitivity_sound : (n : ℕ) (x y v z : Attributes) (r : Relation) → n ≤ MOST_ATTRIBUTES → IsOver n r
    → ObeysFd x y r → ObeysFd v z r → ObeysFd (union x (difference v y)) z r
pseudotransitivity_sound n x y v z r within_limit over first second = pseudotransitivity_obeyed x y v z r first second

mvd_union_sound : (n : ℕ) (x y z : Attributes) (r : Relation) → IsOver n r → ObeysMvd (below n) x y r
    → ObeysMvd (below n) x z r → ObeysMvd (below n) x (union y z) r
mvd_union_sound n x y z r over first second =
    mvd_below n x (union (cut n y) z) x (union y z) r over (λ k low. refl)
    (λ k low. ap (λ b. b || z k) (sym (cut-same n y k low)))
    (mvd_union_obeyed (below n) x (cut n y) z r (cut-within n y) (mvd_right_cut n x y r over first) second)

mvd_difference_sound : (n : ℕ) (x y z : Attributes) (r : Relation) → IsOver n r → ObeysMvd (below n) x y r
    → ObeysMvd (below n) x z r → ObeysMvd (below n) x (difference y z) r
mvd_difference_sound n x y z r over first second =
    mvd_below n x (difference (cut n y) z) x (difference y z) r over (λ k low. refl)
    (λ k low. ap (λ b. b && not (z k)) (sym (cut-same n y k low)))
    (mvd_difference_obeyed (below n) x (cut n y) z r (cut-within n y) (mvd_right_cut n x y r over first) second)

mpseudotransitivity_sound : (n : ℕ) (x y v z : Attributes) (r : Relation) → n ≤ MOST_ATTRIBUTES → IsOver n r
    → is_subset y v ≡ true → ObeysMvd (below n) x y r → ObeysMvd (below n) v z r
    → ObeysMvd (below n) (union x (difference v y)) (difference z v) r
mpseudotransitivity_sound n x y v z r within_limit over inside first second =
    mvd_below n (union (cut n x) (difference (cut n v) (cut n y))) (difference (cut n z) (cut n v))
    (union x (difference v y)) (difference z v) r over
    (λ k low. grind (arith, cut-same n x k low, cut-same n v k low, cut-same n y k low))
    (λ k low. grind (arith, cut-same n z k low, cut-same n v k low))
    (mpseudotransitivity_obeyed (below n) (cut n x) (cut n y) (cut n v) (cut n z) r (cut-within n x) (cut-within n v)
    (cut-within n z) (cut-subset n y v within_limit inside) (mvd_cut n x y r over first) (mvd_cut n v z r over second))

-- ---- the table
functional_sound : (n : ℕ) (r : Relation) → n ≤ MOST_ATTRIBUTES → IsOver n r → (f : Further) (x y v z : Attributes)
    (d : Dependency) → ObeysFd x y r → ObeysFd v z r → functional_conclusion f x y v z ≡ Ok d → Obeys n d r
functional_sound n r within_limit over rule.union x y v z d first second h =
    let passed = cond-ok (is_same x v) MiddleDiffers (fd x (union y z)) d h in
    let P : Dependency → Type 0 = λ e. Obeys n e r in
    subst P passed.1 (fd_union_obeyed x y z r first (fd_left n x v z r within_limit over passed.0 second))
functional_sound n r within_limit over rule.pseudotransitivity x y v z d first second h =
    let passed = cond-ok (is_subset y v) MiddleDiffers (fd (union x (difference v y)) z) d h in
    let P : Dependency → Type 0 = λ e. Obeys n e r in
    subst P passed.1 (pseudotransitivity_obeyed x y v z r first second)
functional_sound n r within_limit over rule.intersection x y v z d first second h = cc
functional_sound n r within_limit over rule.difference x y v z d first second h = cc
functional_sound n r within_limit over rule.mpseudotransitivity x y v z d first second h = cc

multivalued_sound : (n : ℕ) (r : Relation) → n ≤ MOST_ATTRIBUTES → IsOver n r → (f : Further) (x y v z : Attributes)
    (d : Dependency) → ObeysMvd (below n) x y r → ObeysMvd (below n) v z r → multivalued_conclusion f x y v z ≡ Ok d
    → Obeys n d r
multivalued_sound n r within_limit over rule.union x y v z d first second h =
    let passed = cond-ok (is_same x v) MiddleDiffers (mvd x (union y z)) d h in
    let P : Dependency → Type 0 = λ e. Obeys n e r in
    subst P passed.1 (mvd_union_sound n x y z r over first (mvd_left n x v z r within_limit over passed.0 second))
multivalued_sound n r within_limit over rule.intersection x y v z d first second h =
    let passed = cond-ok (is_same x v) MiddleDiffers (mvd x (intersection y z)) d h in
    let P : Dependency → Type 0 = λ e. Obeys n e r in
    subst P passed.1 (mvd_intersection_obeyed (below n) x y z r first (mvd_left n x v z r within_limit over passed.0 second))
multivalued_sound n r within_limit over rule.difference x y v z d first second h =
    let passed = cond-ok (is_same x v) MiddleDiffers (mvd x (difference y z)) d h in
    let P : Dependency → Type 0 = λ e. Obeys n e r in
    subst P passed.1 (mvd_difference_sound n x y z r over first (mvd_left n x v z r within_limit over passed.0 second))
multivalued_sound n r within_limit over rule.mpseudotransitivity x y v z d first second h =
    let passed = cond-ok (is_subset y v) MiddleDiffers (mvd (union x (difference v y)) (difference z v)) d h in
    let P : Dependency → Type 0 = λ e. Obeys n e r in
    subst P passed.1 (mpseudotransitivity_sound n x y v z r within_limit over passed.0 first second)
multivalued_sound n r within_limit over rule.pseudotransitivity x y v z d first second h = cc

pub further_sound : (s : Theory) (f : Further) (x y d : Dependency) → ImpliedBy s x → ImpliedBy s y
    → further_conclusion f x y ≡ Ok d → ImpliedBy s d
further_sound s f (fd x y) (fd v z) d first second h r legal =
    functional_sound (width_of s) r s.valid.within_limit legal.over f x y v z d (first r legal) (second r legal) h
further_sound s f (mvd x y) (mvd v z) d first second h r legal =
    multivalued_sound (width_of s) r s.valid.within_limit legal.over f x y v z d (first r legal) (second r legal) h
further_sound s f (fd x y) (mvd v z) d first second h r legal = cc
further_sound s f (mvd x y) (fd v z) d first second h r legal = cc

pub decomposition_sound : (s : Theory) (stated x d : Dependency) → ImpliedBy s x
    → decomposition_conclusion stated x ≡ Ok d → ImpliedBy s d
decomposition_sound s stated (fd x y) d implied h r legal =
    let n = width_of s in
    let z = right_of stated in
    let passed = cond-ok (is_same (left_of stated) x && is_subset z y) NotWithin (fd x z) d h in
    let both = and_parts (is_same (left_of stated) x) (is_subset z y) passed.0 in
    let P : Dependency → Type 0 = λ e. Obeys n e r in
    subst P passed.1 (fd_below n x y x z r legal.over (λ k low m. m)
    (subset_below n z y s.valid.within_limit both.1) (implied r legal))
decomposition_sound s stated (mvd x y) d implied h r legal = cc
