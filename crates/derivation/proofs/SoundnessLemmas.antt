-- What a tree proves is implied. What a relation over n attributes obeys depends on the attributes
-- below n alone, so each rule is taken on sets that are cut to these.
use Rattle.std.proofs.Common.{◌≡◌, ℕ, ◌<◌, ◌≤◌, true, not, ◌&&◌, ◌||◌, ⊎_elim, sym, ◌∙◌, ap, arith, [], refl, subst}
use Rattle.std.specs.Prelude.{Ok, slice_get, length}
use Rattle.std.proofs.lemmas.List.{get_or_past}
use Rattle.std.proofs.lemmas.Option.{slice_get_within, get_or_from_slice_get}
use Rattle.std.proofs.lemmas.List.Elements.{All-contains}
use Rattle.std.proofs.lemmas.Bool.{cases_lt, and_parts}
use Rattle.std.proofs.lemmas.Bool.Decides.{nat_tests}
use Rattle.attr_sets.specs.declared.set.TheConstants.{MOST_ATTRIBUTES}
use Rattle.attr_sets.specs.Attributes.{Attributes, below, union, intersection, difference, IsSubset, Disjoint}
use Rattle.attr_sets.specs.Sets.{is_subset, is_same, is_disjoint}
use Rattle.attr_sets.proofs.AttributesLemmas.{all_below-true}
use Rattle.dep_model.specs.Theories.{Theory}
use Rattle.dep_model.specs.Tuples.{Tuple, Relation, IsOver, AgreeOn}
use Rattle.dep_model.specs.Dependencies.{Dependency, fd, mvd, Obeys, ObeysFd, ObeysMvd}
use Rattle.dep_model.specs.Theories.{width_of, theory_of, universe_of, LegalFor, ImpliedBy}
use Rattle.dep_model.proofs.RuleLemmas.{reflexivity_obeyed, augmentation_obeyed, transitivity_obeyed, complementation_obeyed, mreflexivity_obeyed, maugmentation_obeyed, replication_obeyed, mtransitivity_obeyed, coalescence_obeyed}
use Rattle.dep_model.proofs.TupleLemmas.{IsOver-length}
use Rattle.derivation.specs.declared.fault.FaultKind.TheVariants.{NoSuchGiven, NotWithin, MiddleDiffers, NotDisjoint}
use Rattle.derivation.specs.Trees.{Leaf, given, reflexivity, mreflexivity, Step, augmentation, complementation, maugmentation, replication, Pair, transitivity, mtransitivity, coalescence, Tree, leaf, step, pair}
use Rattle.derivation.specs.Table.{leaf_conclusion, step_conclusion, pair_conclusion}
use Rattle.derivation.specs.Conclusions.{Proves}
use Rattle.derivation.proofs.RuleTableLemmas.{some_of_ok, the_ok, cond-ok, cond-ok_two}

-- ---- only attributes below n matter to a relation over n attributes
-- each attribute of x below n is in y
abbrev pub WithinBelow : ℕ → Attributes → Attributes → Type 0
WithinBelow n x y = (k : ℕ) → k < n → x k ≡ true → y k ≡ true

agree_below : (n : ℕ) (x y : Attributes) (t u : Tuple) → length t ≡ n → length u ≡ n → WithinBelow n x y → AgreeOn y t u → AgreeOn x t u
agree_below n x y t u t_long u_long inside agree k m =
    ⊎_elim (λ (low : k < n). agree k (inside k low m))
    (λ (past : n ≤ k). get_or_past t k [] (omega arith) ∙ sym (get_or_past u k [] (omega arith)))
    (cases_lt k n)

pub fd_below : (n : ℕ) (x y v w : Attributes) (r : Relation) → IsOver n r → WithinBelow n x v → WithinBelow n w y → ObeysFd x y r → ObeysFd v w r
fd_below n x y v w r over left right obeys t u t_in u_in agree =
    let t_long = IsOver-length n r t over t_in in
    let u_long = IsOver-length n r u over u_in in
    agree_below n w y t u t_long u_long right (obeys t u t_in u_in (agree_below n x v t u t_long u_long left agree))

-- the same attributes below n
abbrev pub SameBelow : ℕ → Attributes → Attributes → Type 0
SameBelow n x y = (k : ℕ) → k < n → x k ≡ y k

pub mvd_below : (n : ℕ) (x y v w : Attributes) (r : Relation) → IsOver n r → SameBelow n x v → SameBelow n y w → ObeysMvd (below n) x y r → ObeysMvd (below n) v w r
mvd_below n x y v w r over left right obeys t u t_in u_in agree =
    let t_long = IsOver-length n r t over t_in in
    let u_long = IsOver-length n r u over u_in in
    let found = obeys t u t_in u_in (agree_below n x v t u t_long u_long (λ k low m. sym (left k low) ∙ m) agree) in
    let found_long = IsOver-length n r found.0 over found.1 in (
      found.0,
      found.1,
      agree_below n (union v w) (union x y) found.0 t found_long t_long (λ k low m. grind (arith, left k low, right k low, m)) found.2,
      agree_below n (difference (below n) (union v w)) (difference (below n) (union x y)) found.0 u found_long u_long (λ k low m. grind (arith, left k low, right k low, m)) found.3,
    )

-- ---- sets that are cut to the attributes below n
restrict_below : ℕ → Attributes → Attributes
restrict_below n x = intersection x (below n)

restrict_below-same : (n : ℕ) (x : Attributes) → SameBelow n x (restrict_below n x)
unfolding restrict_below
restrict_below-same n x k low = grind (arith, nat_tests)

restrict_below-back : (n : ℕ) (x : Attributes) → SameBelow n (restrict_below n x) x
restrict_below-back n x k low = sym (restrict_below-same n x k low)

restrict_below-within : (n : ℕ) (x : Attributes) → IsSubset (restrict_below n x) (below n)
unfolding restrict_below
restrict_below-within n x k m = grind (arith, m)

-- a test of two sets, as a fact of the sets that are cut
is_within-restrict_below : (n : ℕ) (x y : Attributes) → n ≤ MOST_ATTRIBUTES → is_subset x y ≡ true → IsSubset (restrict_below n x) (restrict_below n y)
unfolding restrict_below
is_within-restrict_below n x y within_limit passes k m =
    let low : k < n = grind (arith, nat_tests, m) in
    grind (arith, nat_tests, m, all_below-true MOST_ATTRIBUTES (λ j. not (x j) || y j) passes k (omega arith))

is_same-restrict_below : (n : ℕ) (x y : Attributes) → n ≤ MOST_ATTRIBUTES → is_same x y ≡ true → SameBelow n x y
is_same-restrict_below n x y within_limit passes k low =
    let both = and_parts (is_subset x y) (is_subset y x) passes in
    grind (arith, all_below-true MOST_ATTRIBUTES (λ j. not (x j) || y j) both.0 k (omega arith), all_below-true MOST_ATTRIBUTES (λ j. not (y j) || x j) both.1 k (omega arith))

is_apart-restrict_below : (n : ℕ) (x y : Attributes) → n ≤ MOST_ATTRIBUTES → is_disjoint x y ≡ true → Disjoint (restrict_below n x) (restrict_below n y)
unfolding restrict_below
is_apart-restrict_below n x y within_limit passes k m =
    let low : k < n = grind (arith, nat_tests, m) in
    grind (arith, nat_tests, m, all_below-true MOST_ATTRIBUTES (λ j. not (x j && y j)) passes k (omega arith))

-- a dependency may be read with other attributes from n on
fd_same : (n : ℕ) (x y v w : Attributes) (r : Relation) → IsOver n r → SameBelow n x v → SameBelow n y w → ObeysFd x y r → ObeysFd v w r
fd_same n x y v w r over left right obeys = fd_below n x y v w r over (λ k low m. sym (left k low) ∙ m) (λ k low m. right k low ∙ m) obeys

SameBelow-refl : (n : ℕ) (x : Attributes) → SameBelow n x x
SameBelow-refl n x k low = refl

-- ---- each rule, on any sets
pub leaf_sound : (s : Theory) (r : Relation) → LegalFor s r → (rule : Leaf) (d : Dependency) → leaf_conclusion s rule ≡ Ok d → Obeys (width_of s) d r
leaf_sound s r legal (given k) d h =
    let found = some_of_ok (slice_get (theory_of s) k) NoSuchGiven d h in
    All-contains (λ (e : Dependency). Obeys (width_of s) e r) (theory_of s) d legal.obeys
    (k, slice_get_within (theory_of s) k d found, get_or_from_slice_get (theory_of s) k d d found)
leaf_sound s r legal (reflexivity x y) d h =
    let n = width_of s in
    let passed = cond-ok (is_subset x (universe_of s) && is_subset y x) NotWithin (fd x y) d h in
    let inside = is_within-restrict_below n y x s.valid.within_limit (and_parts (is_subset x (universe_of s)) (is_subset y x) passed.0).1 in
    let P : Dependency → Type 0 = λ e. Obeys n e r in
    subst P passed.1 (fd_same n (restrict_below n x) (restrict_below n y) x y r legal.over (restrict_below-back n x) (restrict_below-back n y) (reflexivity_obeyed (restrict_below n x) (restrict_below n y) r inside))
leaf_sound s r legal (mreflexivity x y) d h =
    let n = width_of s in
    let passed = cond-ok (is_subset x (universe_of s) && is_subset y x) NotWithin (mvd x y) d h in
    let inside = is_within-restrict_below n y x s.valid.within_limit (and_parts (is_subset x (universe_of s)) (is_subset y x) passed.0).1 in
    let P : Dependency → Type 0 = λ e. Obeys n e r in
    subst P passed.1 (mvd_below n (restrict_below n x) (restrict_below n y) x y r legal.over (restrict_below-back n x) (restrict_below-back n y) (mreflexivity_obeyed (below n) (restrict_below n x) (restrict_below n y) r inside))

maugmentation_sound : (n : ℕ) (r : Relation) (x y w z : Attributes) → n ≤ MOST_ATTRIBUTES → IsOver n r → is_subset z w ≡ true → ObeysMvd (below n) x y r → ObeysMvd (below n) (union x w) (union y z) r
maugmentation_sound n r x y w z within_limit over narrow obeys =
    mvd_below n (union x (restrict_below n w)) (union y (restrict_below n z)) (union x w) (union y z) r over
    (λ k low. ap (λ b. x k || b) (restrict_below-back n w k low))
    (λ k low. ap (λ b. y k || b) (restrict_below-back n z k low))
    (maugmentation_obeyed (below n) x y (restrict_below n w) (restrict_below n z) r (is_within-restrict_below n z w within_limit narrow) (restrict_below-within n w) obeys)

pub step_sound : (s : Theory) (r : Relation) → LegalFor s r → (rule : Step) (x d : Dependency) → Obeys (width_of s) x r → step_conclusion s rule x ≡ Ok d → Obeys (width_of s) d r
step_sound s r legal (augmentation z) (fd x y) d obeys h =
    let P : Dependency → Type 0 = λ e. Obeys (width_of s) e r in
    subst P (cond-ok (is_subset z (universe_of s)) NotWithin (fd (union x z) (union y z)) d h).1 (augmentation_obeyed x y z r obeys)
step_sound s r legal (augmentation z) (mvd x y) d obeys h = cc
step_sound s r legal complementation (fd x y) d obeys h = cc
step_sound s r legal complementation (mvd x y) d obeys h =
    let P : Dependency → Type 0 = λ e. Obeys (width_of s) e r in
    subst P (the_ok (mvd x (difference (universe_of s) (union x y))) d h) (complementation_obeyed (universe_of s) x y r obeys)
step_sound s r legal (maugmentation w z) (fd x y) d obeys h = cc
step_sound s r legal (maugmentation w z) (mvd x y) d obeys h =
    let passed = cond-ok (is_subset w (universe_of s) && is_subset z w) NotWithin (mvd (union x w) (union y z)) d h in
    let P : Dependency → Type 0 = λ e. Obeys (width_of s) e r in
    subst P passed.1 (maugmentation_sound (width_of s) r x y w z s.valid.within_limit legal.over (and_parts (is_subset w (universe_of s)) (is_subset z w) passed.0).1 obeys)
step_sound s r legal replication (fd x y) d obeys h =
    let P : Dependency → Type 0 = λ e. Obeys (width_of s) e r in
    subst P (the_ok (mvd x y) d h) (replication_obeyed (universe_of s) x y r obeys)
step_sound s r legal replication (mvd x y) d obeys h = cc

transitivity_sound : (n : ℕ) (r : Relation) (x y v z : Attributes) → n ≤ MOST_ATTRIBUTES → IsOver n r → is_same y v ≡ true → ObeysFd x y r → ObeysFd v z r → ObeysFd x z r
transitivity_sound n r x y v z within_limit over middle first second =
    transitivity_obeyed x y z r first (fd_same n v z y z r over (λ k low. sym (is_same-restrict_below n y v within_limit middle k low)) (SameBelow-refl n z) second)

mtransitivity_sound : (n : ℕ) (r : Relation) (x y v z : Attributes) → n ≤ MOST_ATTRIBUTES → IsOver n r → is_same y v ≡ true → ObeysMvd (below n) x y r → ObeysMvd (below n) v z r → ObeysMvd (below n) x (difference z y) r
mtransitivity_sound n r x y v z within_limit over middle first second =
    mvd_below n (restrict_below n x) (difference (restrict_below n z) y) x (difference z y) r over (restrict_below-back n x) (λ k low. ap (λ b. b && not (y k)) (restrict_below-back n z k low))
    (mtransitivity_obeyed (below n) (restrict_below n x) y (restrict_below n z) r (restrict_below-within n x) (restrict_below-within n z)
    (mvd_below n x y (restrict_below n x) y r over (restrict_below-same n x) (SameBelow-refl n y) first)
    (mvd_below n v z y (restrict_below n z) r over (λ k low. sym (is_same-restrict_below n y v within_limit middle k low)) (restrict_below-same n z) second))

coalescence_sound : (n : ℕ) (r : Relation) (x y z w : Attributes) → n ≤ MOST_ATTRIBUTES → IsOver n r → is_subset w y ≡ true → is_disjoint z y ≡ true → ObeysMvd (below n) x y r → ObeysFd z w r → ObeysFd x w r
coalescence_sound n r x y z w within_limit over inside apart first second =
    fd_same n x (restrict_below n w) x w r over (SameBelow-refl n x) (restrict_below-back n w)
    (coalescence_obeyed (below n) x (restrict_below n y) (restrict_below n z) (restrict_below n w) r (restrict_below-within n z) (is_within-restrict_below n w y within_limit inside) (is_apart-restrict_below n z y within_limit apart)
    (mvd_below n x y x (restrict_below n y) r over (SameBelow-refl n x) (restrict_below-same n y) first)
    (fd_same n z w (restrict_below n z) (restrict_below n w) r over (restrict_below-same n z) (restrict_below-same n w) second))

pub pair_sound : (s : Theory) (r : Relation) → LegalFor s r → (rule : Pair) (x y d : Dependency) → Obeys (width_of s) x r → Obeys (width_of s) y r → pair_conclusion rule x y ≡ Ok d → Obeys (width_of s) d r
pair_sound s r legal transitivity (fd x y) (fd v z) d first second h =
    let passed = cond-ok (is_same y v) MiddleDiffers (fd x z) d h in
    let P : Dependency → Type 0 = λ e. Obeys (width_of s) e r in
    subst P passed.1 (transitivity_sound (width_of s) r x y v z s.valid.within_limit legal.over passed.0 first second)
pair_sound s r legal transitivity (fd x y) (mvd v z) d first second h = cc
pair_sound s r legal transitivity (mvd x y) e d first second h = cc
pair_sound s r legal mtransitivity (mvd x y) (mvd v z) d first second h =
    let passed = cond-ok (is_same y v) MiddleDiffers (mvd x (difference z y)) d h in
    let P : Dependency → Type 0 = λ e. Obeys (width_of s) e r in
    subst P passed.1 (mtransitivity_sound (width_of s) r x y v z s.valid.within_limit legal.over passed.0 first second)
pair_sound s r legal mtransitivity (mvd x y) (fd v z) d first second h = cc
pair_sound s r legal mtransitivity (fd x y) e d first second h = cc
pair_sound s r legal coalescence (mvd x y) (fd z w) d first second h =
    let passed = cond-ok_two (is_subset w y) (is_disjoint z y) NotDisjoint NotWithin (fd x w) d h in
    let P : Dependency → Type 0 = λ e. Obeys (width_of s) e r in
    subst P passed.2 (coalescence_sound (width_of s) r x y z w s.valid.within_limit legal.over passed.0 passed.1 first second)
pair_sound s r legal coalescence (mvd x y) (mvd z w) d first second h = cc
pair_sound s r legal coalescence (fd x y) e d first second h = cc

-- ---- a tree
tree_sound : (s : Theory) (r : Relation) → LegalFor s r → (t : Tree) (d : Dependency) → Proves s t d → Obeys (width_of s) d r
tree_sound s r legal (leaf rule) d proves = leaf_sound s r legal rule d proves
tree_sound s r legal (step rule t) d proves = step_sound s r legal rule proves.0 d (tree_sound s r legal t proves.0 proves.1) proves.2
tree_sound s r legal (pair rule t u) d proves =
    pair_sound s r legal rule proves.0 proves.1 d (tree_sound s r legal t proves.0 proves.2) (tree_sound s r legal u proves.1 proves.3) proves.4

-- what a tree proves is implied
pub proved_is_implied : (s : Theory) (t : Tree) (d : Dependency) → Proves s t d → ImpliedBy s d
proved_is_implied s t d proves r legal = tree_sound s r legal t d proves
