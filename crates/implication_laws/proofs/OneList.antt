-- There is one list of differences, one of minimal functional dependencies, one of those that nearly hold, one of all
-- that holds, and one of keys of rows.
use Rattle.std.proofs.Common.{◌≡◌, ◌<◌, ℕ, List, sym, subst, ◌∙◌, inl, inr, ⊎_elim, arith}
use Rattle.std.specs.Prelude.{Contains}
use Rattle.std.proofs.lemmas.Bool.{cases_lt, true≢false}
use Rattle.std.proofs.lemmas.List.Elements.{All-contains}
use Rattle.attr_sets.specs.Attributes.{Attributes, IsBefore, IsFirstFrom}
use Rattle.attr_sets.proofs.OrderLemmas.{IsBefore-irrefl, IsBefore-trans}
use Rattle.dep_model.specs.Dependencies.{Dependency, left_of, right_of}
use Rattle.dep_model.specs.Tuples.{Relation}
use Rattle.schema_model.specs.Schemas.{Schema}
use Rattle.fd_discovery.specs.Minimal.{AreAllMinimal, IsMinimalFd, Precedes}
use Rattle.fd_search.specs.Small.{AreAllSmall, IsSmallFd}
use Rattle.min_cover.specs.Covers.{IsThinned}
use Rattle.mvd_discovery.specs.Finding.{AreAllRules}
use Rattle.mvd_laws.specs.Reduced.{AreAllReduced, BeginsBefore, IsReducedMvd, PrecedesByBlock}
use Rattle.near_rules.specs.NearRules.{AreErrors, AreNearRules, IsNearFd}
use Rattle.near_rules.proofs.RightLemmas.{same_errors}
use Rattle.fd_search.specs.Keys.{AreRowKeys, IsRowKey}
use Rattle.schema_match.specs.Differences.{AreDifferences}
use Rattle.implication_laws.proofs.OneCover.{one_thinned}
use Rattle.implication_laws.proofs.OneKey.{before_one_way}
use Rattle.dep_model.proofs.OrderedLists.{HoldsAll, IsOneWay, one_ordered_list}

-- ---- differences
numbers_one_way : (P : ℕ → Type 0) → IsOneWay P (λ (j k : ℕ). j < k)
numbers_one_way P j k j_is k_is there back = omega (arith, there, back)

differences_held : (schema other : Schema) (first second : List ℕ)
    → AreDifferences schema other first → AreDifferences schema other second
    → HoldsAll first second
differences_held schema other first second one two k has =
    let (d, at, differs) = one.each k has in
    ⊎_elim (λ there. there) (λ follows. absurd (differs follows)) (two.all k d at)

pub one_differences : (schema other : Schema) (first second : List ℕ)
    → AreDifferences schema other first → AreDifferences schema other second
    → first ≡ second
one_differences schema other first second one two =
    one_ordered_list (λ (k : ℕ). Unit {0}) (λ (j k : ℕ). j < k) first second (numbers_one_way (λ (k : ℕ). Unit {0}))
    (λ i d l. tt) (λ i d l. tt) one.ascending two.ascending
    (differences_held schema other first second one two) (differences_held schema other second first two one)

-- ---- minimal dependencies
pub precedes_one_way : (P : Dependency → Type 0) → IsOneWay P Precedes
precedes_one_way P d e d_is e_is (inl there) (inl back) =
    IsBefore-irrefl (left_of d) (IsBefore-trans (left_of d) (left_of e) (left_of d) there back)
precedes_one_way P d e d_is e_is (inl there) (inr (same, right)) =
    IsBefore-irrefl (left_of d) (subst (λ (x : Attributes). IsBefore (left_of d) x) same there)
precedes_one_way P d e d_is e_is (inr (same, right)) (inl back) =
    IsBefore-irrefl (left_of e) (subst (λ (x : Attributes). IsBefore (left_of e) x) same back)
precedes_one_way P d e d_is e_is (inr (same, there)) (inr (also, back)) =
    IsBefore-irrefl (right_of d) (IsBefore-trans (right_of d) (right_of e) (right_of d) there back)

rules_held : (n : ℕ) (rows : Relation) (one other : List Dependency) → AreAllMinimal n rows one
    → AreAllMinimal n rows other → HoldsAll one other
rules_held n rows one other first second d has =
    let (x, a, is, minimal) = All-contains (IsMinimalFd n rows) one d first.each has in
    subst (λ (e : Dependency). Contains other e) (sym is) (second.all x a minimal)

pub one_rules : (n : ℕ) (rows : Relation) (one other : List Dependency) → AreAllMinimal n rows one
    → AreAllMinimal n rows other → one ≡ other
one_rules n rows one other first second =
    one_ordered_list (IsMinimalFd n rows) Precedes one other (precedes_one_way (IsMinimalFd n rows))
    first.each second.each
    first.ascending second.ascending (rules_held n rows one other first second)
    (rules_held n rows other one second first)

small_held : (n most : ℕ) (rows : Relation) (one other : List Dependency) → AreAllSmall n most rows one
    → AreAllSmall n most rows other → HoldsAll one other
small_held n most rows one other first second d has =
    let (x, a, is, small) = All-contains (IsSmallFd n most rows) one d first.each has in
    subst (λ (e : Dependency). Contains other e) (sym is) (second.all x a small)

pub one_small_rules : (n most : ℕ) (rows : Relation) (one other : List Dependency) → AreAllSmall n most rows one
    → AreAllSmall n most rows other → one ≡ other
one_small_rules n most rows one other first second =
    one_ordered_list (IsSmallFd n most rows) Precedes one other (precedes_one_way (IsSmallFd n most rows))
    first.each second.each
    first.ascending second.ascending (small_held n most rows one other first second)
    (small_held n most rows other one second first)

-- ---- dependencies that nearly hold
near_held : (n most limit : ℕ) (rows : Relation) (one other : List Dependency) (es fs : List ℕ) → AreNearRules n most limit rows one es
    → AreNearRules n most limit rows other fs → HoldsAll one other
near_held n most limit rows one other es fs first second d has =
    let (x, a, is, near) = All-contains (IsNearFd n most limit rows) one d first.each has in
    subst (λ (e : Dependency). Contains other e) (sym is) (second.all x a near)

pub one_near_rules : (n most limit : ℕ) (rows : Relation) (one other : List Dependency) (es fs : List ℕ)
    → AreNearRules n most limit rows one es → AreNearRules n most limit rows other fs → (one ≡ other) × (es ≡ fs)
one_near_rules n most limit rows one other es fs first second =
    let same : one ≡ other = one_ordered_list (IsNearFd n most limit rows) Precedes one other (precedes_one_way (IsNearFd n most limit rows))
    first.each second.each
    first.ascending second.ascending (near_held n most limit rows one other es fs first second)
    (near_held n most limit rows other one fs es second first) in
    (same, same_errors n rows other es fs (subst (λ (ds : List Dependency). AreErrors n rows ds es) same first.numbers) second.numbers)

-- ---- all that holds
begins_one_way : (x y : Attributes) → BeginsBefore x y → BeginsBefore y x → ⊥
begins_one_way x y (i, j, x_first, y_first, less) (k, l, y_also, x_also, more) =
    omega (arith, less, more, one_first x i l x_first x_also, one_first y j k y_first y_also)
  where
    one_first : (z : Attributes) (m p : ℕ) → IsFirstFrom z 0 m → IsFirstFrom z 0 p → m ≡ p
    one_first z m p first second = elim (cases_lt m p) [
      | inl before ↦ absurd (true≢false (sym first.member ∙ second.least m (omega arith) before))
      | inr on ↦ elim (cases_lt p m) [
        | inl back ↦ absurd (true≢false (sym second.member ∙ first.least p (omega arith) back))
        | inr here ↦ let same : m ≡ p = omega (arith, on, here) in same
      ]
    ]

precedes_by_block_one_way : (P : Dependency → Type 0) → IsOneWay P PrecedesByBlock
precedes_by_block_one_way P d e d_is e_is (inl there) (inl back) =
    IsBefore-irrefl (left_of d) (IsBefore-trans (left_of d) (left_of e) (left_of d) there back)
precedes_by_block_one_way P d e d_is e_is (inl there) (inr (same, right)) =
    IsBefore-irrefl (left_of d) (subst (λ (x : Attributes). IsBefore (left_of d) x) same there)
precedes_by_block_one_way P d e d_is e_is (inr (same, right)) (inl back) =
    IsBefore-irrefl (left_of e) (subst (λ (x : Attributes). IsBefore (left_of e) x) same back)
precedes_by_block_one_way P d e d_is e_is (inr (same, there)) (inr (also, back)) =
    begins_one_way (right_of d) (right_of e) there back

reduced_held : (n : ℕ) (rows : Relation) (one other : List Dependency) → AreAllReduced n rows one
    → AreAllReduced n rows other → HoldsAll one other
reduced_held n rows one other first second d has =
    let (x, y, is, reduced) = All-contains (IsReducedMvd n rows) one d first.each has in
    subst (λ (e : Dependency). Contains other e) (sym is) (second.all x y reduced)

one_reduced : (n : ℕ) (rows : Relation) (one other : List Dependency) → AreAllReduced n rows one
    → AreAllReduced n rows other → one ≡ other
one_reduced n rows one other first second =
    one_ordered_list (IsReducedMvd n rows) PrecedesByBlock one other (precedes_by_block_one_way (IsReducedMvd n rows))
    first.each second.each
    first.ascending second.ascending (reduced_held n rows one other first second)
    (reduced_held n rows other one second first)

pub one_list_of_all : (n : ℕ) (rows : Relation) (one other : List Dependency) → AreAllRules n rows one
    → AreAllRules n rows other → one ≡ other
one_list_of_all n rows one other first second =
    let functional = one_rules n rows first.functional second.functional first.minimal second.minimal in
    let multivalued = one_reduced n rows first.multivalued second.multivalued first.reduced second.reduced in
    one_thinned n second.functional second.multivalued one other
    (subst (λ (ds : List Dependency). IsThinned n ds second.multivalued one) functional
    (subst (λ (ds : List Dependency). IsThinned n first.functional ds one) multivalued first.thinned))
    second.thinned

-- ---- keys of rows
row_keys_held : (n : ℕ) (rows : Relation) (one other : List Attributes) → AreRowKeys n rows one
    → AreRowKeys n rows other → HoldsAll one other
row_keys_held n rows one other first second x has = second.all x (All-contains (IsRowKey n rows) one x first.each has)

pub one_row_keys : (n : ℕ) (rows : Relation) (one other : List Attributes) → AreRowKeys n rows one
    → AreRowKeys n rows other → one ≡ other
one_row_keys n rows one other first second =
    one_ordered_list (IsRowKey n rows) IsBefore one other (before_one_way (IsRowKey n rows)) first.each second.each
    first.ascending second.ascending (row_keys_held n rows one other first second)
    (row_keys_held n rows other one second first)
