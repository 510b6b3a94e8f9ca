-- A list whose multivalued dependencies stand last, and the same with its left sides merged.
use Rattle.std.proofs.Common.{◌≡◌, ℕ, Bool, true, false, not, ◌&&◌, ◌||◌, if◌then◌else◌, List, [], ◌∷◌, ◌++◌, filter, refl, sym, ap, ap₂, subst, ◌∙◌, ⊎_elim, inl, inr, append-nil, append_assoc}
use mathlib.Core.Path.{fun_ext}
use Rattle.std.specs.Prelude.{All}
use Rattle.std.specs.List.{list_any}
use Rattle.std.proofs.lemmas.Bool.{true≢false, false≢true, not-true}
use Rattle.std.proofs.lemmas.List.Elements.{All-nil, All-cons, All-head, All-tail, All-append, All-filter, filter-append, filter_passes, All-weaker}
use Rattle.std.proofs.lemmas.List.Folds.{list_any-append, list_any_none}
use Rattle.attr_sets.specs.Attributes.{Attributes, below}
use Rattle.dep_model.specs.Dependencies.{Dependency, fd, mvd, is_fd, functional_part, right_of, IsWithin}
use Rattle.dep_model.specs.Implication.{Implies}
use Rattle.min_cover.specs.Covers.{IsThinned, IsFixedWholeCover, IsMinimalCover, IsSingle, multivalued_part}
use Rattle.min_cover.proofs.CoverLemmas.{fixed_is_minimal}
use Rattle.canonical_cover.specs.Merging.{have_same_left, merge_left_sides, with_right_sides}

-- each of a list is functional, or none is
abbrev pub AreFunctional : List Dependency → Type 0
AreFunctional ds = All (λ d. is_fd d ≡ true) ds

abbrev pub AreMultivalued : List Dependency → Type 0
AreMultivalued ds = All (λ d. is_fd d ≡ false) ds

-- ---- filters that all pass, or none
filter-passed : {X : Type 0} (p : X → Bool) (xs : List X) → All (λ x. p x ≡ true) xs → filter p xs ≡ xs
filter-passed p [] all = refl
filter-passed {X = X} p (x ∷ xs) all =
    ap (λ (b : Bool). if b then x ∷ filter p xs else filter p xs) (All-head (λ y. p y ≡ true) x xs all)
    ∙ ap (λ (ys : List X). x ∷ ys) (filter-passed p xs (All-tail (λ y. p y ≡ true) x xs all))

filter-failed : {X : Type 0} (p : X → Bool) (xs : List X) → All (λ x. p x ≡ false) xs → filter p xs ≡ []
filter-failed p [] all = refl
filter-failed {X = X} p (x ∷ xs) all =
    ap (λ (b : Bool). if b then x ∷ filter p xs else filter p xs) (All-head (λ y. p y ≡ false) x xs all)
    ∙ filter-failed p xs (All-tail (λ y. p y ≡ false) x xs all)

-- the functional part of functional ones before multivalued ones
pub functional_front : (fs ms : List Dependency) → AreFunctional fs → AreMultivalued ms → functional_part (fs ++ ms) ≡ fs
functional_front fs ms functional multivalued =
    filter-append is_fd fs ms
    ∙ ap₂ ◌++◌ (filter-passed is_fd fs functional) (filter-failed is_fd ms multivalued)
    ∙ append-nil fs

-- ---- the fixed whole cover
-- what is left of multivalued ones beside a cover stands after it
thinned_parts : (n : ℕ) (kept ds rest : List Dependency) → IsThinned n kept ds rest → AreMultivalued ds
    → (left : List Dependency) × (rest ≡ kept ++ left) × AreMultivalued left
thinned_parts n kept [] rest is multivalued = ([], is ∙ sym (append-nil kept), All-nil (λ d. is_fd d ≡ false))
thinned_parts n kept (d ∷ later) rest is multivalued =
    let others = All-tail (λ e. is_fd e ≡ false) d later multivalued in
    ⊎_elim
    (λ (out : Implies n (kept ++ later) d × IsThinned n kept later rest). thinned_parts n kept later rest out.1 others)
    (λ (stays : (Implies n (kept ++ later) d → ⊥) × IsThinned n (kept ++ d ∷ []) later rest).
    let parts = thinned_parts n (kept ++ d ∷ []) later rest stays.1 others in (
      d ∷ parts.0,
      parts.1 ∙ append_assoc kept (d ∷ []) parts.0,
      All-cons (λ e. is_fd e ≡ false) d parts.0 (All-head (λ e. is_fd e ≡ false) d later multivalued) parts.2,
    ))
    is

-- a list whose functional dependencies stand before its multivalued ones
pub record IsParted (whole : List Dependency) : Type 0 where
  pub front : List Dependency
  pub back : List Dependency
  pub functional : AreFunctional front
  pub multivalued : AreMultivalued back
  pub all : whole ≡ front ++ back

pub fixed_parted : (n : ℕ) (ds whole : List Dependency) → All (IsWithin (below n)) ds → IsFixedWholeCover n ds whole → IsParted whole
fixed_parted n ds whole within is =
    let minimal : IsMinimalCover n ds is.cover = fixed_is_minimal n ds is.cover within is.fixed in
    let others : AreMultivalued (multivalued_part ds) =
    All-weaker (λ (d : Dependency). not (is_fd d) ≡ true) (λ (d : Dependency). is_fd d ≡ false)
    (λ d passes. not-true (is_fd d) passes) (multivalued_part ds) (filter_passes (λ d. not (is_fd d)) ds) in
    let parts = thinned_parts n is.cover (multivalued_part ds) whole is.thinned others in
    record {
      front = is.cover;
      back = parts.0;
      functional = All-weaker IsSingle (λ (d : Dependency). is_fd d ≡ true) (λ d single. ap is_fd single.2) is.cover minimal.single;
      multivalued = parts.2;
      all = parts.1;
    }

-- ---- merged
-- functional ones stay functional
grown_functional : (ds : List Dependency) (d : Dependency) → is_fd d ≡ true → is_fd (with_right_sides ds d) ≡ true
grown_functional ds (fd x y) is = refl
grown_functional ds (mvd x y) is = is

pub merged_functional : (fs : List Dependency) → AreFunctional fs → AreFunctional (merge_left_sides fs)
merged_functional [] functional = All-nil (λ d. is_fd d ≡ true)
merged_functional (d ∷ later) functional =
    All-cons (λ e. is_fd e ≡ true) (with_right_sides (d ∷ later) d) (filter (λ e. not (have_same_left d e)) (merge_left_sides later))
    (grown_functional (d ∷ later) d (All-head (λ e. is_fd e ≡ true) d later functional))
    (All-filter (λ e. not (have_same_left d e)) (λ e. is_fd e ≡ true) (merge_left_sides later)
    (merged_functional later (All-tail (λ e. is_fd e ≡ true) d later functional)))

-- no functional one has the left side of a multivalued one
apart : (d e : Dependency) → is_fd e ≡ false → have_same_left d e ≡ false
apart (fd x y) (fd v w) is = absurd (true≢false is)
apart (fd x y) (mvd v w) is = refl
apart (mvd x y) e is = refl

beside_multivalued : (d : Dependency) (ms : List Dependency) → AreMultivalued ms → filter (λ e. not (have_same_left d e)) ms ≡ ms
beside_multivalued d ms multivalued =
    filter-passed (λ e. not (have_same_left d e)) ms
    (All-weaker (λ e. is_fd e ≡ false) (λ e. not (have_same_left d e) ≡ true) (λ e is. ap not (apart d e is)) ms multivalued)

grown_front : (d : Dependency) (fs ms : List Dependency) → AreMultivalued ms → with_right_sides (d ∷ (fs ++ ms)) d ≡ with_right_sides (d ∷ fs) d
grown_front (mvd x y) fs ms multivalued = refl
grown_front (fd x y) fs ms multivalued = ap (λ (z : Attributes). fd x z) (fun_ext (λ k.
    let test : Dependency → Bool = λ e. have_same_left (fd x y) e && right_of e k in
    list_any-append test (fd x y ∷ fs) ms
    ∙ ap (λ (b : Bool). list_any test (fd x y ∷ fs) || b)
    (list_any_none test ms (All-weaker (λ e. is_fd e ≡ false) (λ e. test e ≡ false)
    (λ e is. ap (λ (b : Bool). b && right_of e k) (apart (fd x y) e is)) ms multivalued))
    ∙ or-nothing (list_any test (fd x y ∷ fs))))
  where
    or-nothing : (b : Bool) → (b || false) ≡ b
    or-nothing true = refl
    or-nothing false = refl

merged_multivalued : (ms : List Dependency) → AreMultivalued ms → merge_left_sides ms ≡ ms
merged_multivalued [] multivalued = refl
merged_multivalued (fd x y ∷ ms) multivalued = absurd (true≢false (All-head (λ e. is_fd e ≡ false) (fd x y) ms multivalued))
merged_multivalued (mvd x y ∷ ms) multivalued =
    let rest = All-tail (λ e. is_fd e ≡ false) (mvd x y) ms multivalued in
    ap (λ (es : List Dependency). mvd x y ∷ filter (λ e. not (have_same_left (mvd x y) e)) es) (merged_multivalued ms rest)
    ∙ ap (λ (es : List Dependency). mvd x y ∷ es) (beside_multivalued (mvd x y) ms rest)

pub merged_parts : (fs ms : List Dependency) → AreMultivalued ms → merge_left_sides (fs ++ ms) ≡ merge_left_sides fs ++ ms
merged_parts [] ms multivalued = merged_multivalued ms multivalued
merged_parts (d ∷ fs) ms multivalued =
    let q : Dependency → Bool = λ e. not (have_same_left d e) in
    ap₂ ◌∷◌ (grown_front d fs ms multivalued)
    (ap (filter q) (merged_parts fs ms multivalued)
    ∙ filter-append q (merge_left_sides fs) ms
    ∙ ap (λ (es : List Dependency). filter q (merge_left_sides fs) ++ es) (beside_multivalued d ms multivalued))
