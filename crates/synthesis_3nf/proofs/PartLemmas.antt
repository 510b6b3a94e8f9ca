-- The functional part of a list, one dependency after the other, and that of the fixed whole cover, which is the
-- fixed cover.
use Rattle.std.proofs.Common.{◌≡◌, ℕ, ◌+◌, ◌<◌, true, false, inl, inr, List, [], ◌∷◌, ◌++◌, length, get_or, take, refl, sym, ◌∙◌, subst, ap, append-nil}
use Rattle.std.proofs.lemmas.Bool.{true≢false, not-true}
use Rattle.std.proofs.lemmas.List.{map_more}
use Rattle.std.proofs.lemmas.List.Elements.{All-head, All-tail, All-weaker, filter-append, filter_passes}
use Rattle.std.specs.Prelude.{All, filter, not}
use Rattle.attr_sets.specs.Attributes.{below}
use Rattle.dep_model.specs.declared.dep.Dep.{Dep}
use Rattle.dep_model.specs.Dependencies.{Dependency, fd, mvd, is_fd, functional_part, IsWithin}
use Rattle.dep_model.specs.Deps.{dependency_of, dependencies_of}
use Rattle.min_cover.specs.Covers.{IsFixedCover, IsFixedWholeCover, IsSingle, IsThinned, multivalued_part}
use Rattle.min_cover.proofs.CoverLemmas.{fixed_is_minimal}

-- ---- one dependency more
functional_one : (d : Dependency) → is_fd d ≡ true → functional_part (d ∷ []) ≡ d ∷ []
functional_one (fd x y) is = refl
functional_one (mvd x y) is = absurd (true≢false (sym is))

multivalued_one : (d : Dependency) → is_fd d ≡ false → functional_part (d ∷ []) ≡ []
multivalued_one (fd x y) is = absurd (true≢false is)
multivalued_one (mvd x y) is = refl

part_take : (deps : List Dep) (i : ℕ) (first : Dep) → i < length deps
    → functional_part (dependencies_of (take (i + 1) deps))
    ≡ functional_part (dependencies_of (take i deps)) ++ functional_part (dependency_of (get_or deps i first) ∷ [])
part_take deps i first lt =
    ap (λ (ds : List Dependency). filter is_fd ds) (map_more dependency_of deps i first lt)
    ∙ filter-append is_fd (dependencies_of (take i deps)) (dependency_of (get_or deps i first) ∷ [])

pub functional_more : (deps : List Dep) (i : ℕ) (first : Dep) → i < length deps
    → is_fd (dependency_of (get_or deps i first)) ≡ true
    → functional_part (dependencies_of (take (i + 1) deps))
    ≡ functional_part (dependencies_of (take i deps)) ++ dependency_of (get_or deps i first) ∷ []
functional_more deps i first lt is =
    part_take deps i first lt
    ∙ ap (λ (ds : List Dependency). functional_part (dependencies_of (take i deps)) ++ ds)
    (functional_one (dependency_of (get_or deps i first)) is)

pub functional_no_more : (deps : List Dep) (i : ℕ) (first : Dep) → i < length deps
    → is_fd (dependency_of (get_or deps i first)) ≡ false
    → functional_part (dependencies_of (take (i + 1) deps)) ≡ functional_part (dependencies_of (take i deps))
functional_no_more deps i first lt is =
    part_take deps i first lt
    ∙ ap (λ (ds : List Dependency). functional_part (dependencies_of (take i deps)) ++ ds)
    (multivalued_one (dependency_of (get_or deps i first)) is)
    ∙ append-nil (functional_part (dependencies_of (take i deps)))

-- ---- the fixed whole cover
-- multivalued dependencies that are kept are no functional ones
functional_kept : (n : ℕ) (kept later whole : List Dependency) → All (λ (d : Dependency). is_fd d ≡ false) later
    → IsThinned n kept later whole → functional_part whole ≡ functional_part kept
functional_kept n kept [] whole multivalued is = ap functional_part is
functional_kept n kept (d ∷ later) whole multivalued is =
    let rest = All-tail (λ (e : Dependency). is_fd e ≡ false) d later multivalued in
    let first : is_fd d ≡ false = All-head (λ (e : Dependency). is_fd e ≡ false) d later multivalued in
    elim is [
      | inl left_out ↦ functional_kept n kept later whole rest left_out.1
      | inr needed ↦
          functional_kept n (kept ++ d ∷ []) later whole rest needed.1
          ∙ filter-append is_fd kept (d ∷ [])
          ∙ ap (λ (ds : List Dependency). functional_part kept ++ ds) (multivalued_one d first)
          ∙ append-nil (functional_part kept)
    ]

all_functional : (ds : List Dependency) → All (λ (d : Dependency). is_fd d ≡ true) ds → functional_part ds ≡ ds
all_functional [] all = refl
all_functional (d ∷ ds) all =
    let first : is_fd d ≡ true = All-head (λ (e : Dependency). is_fd e ≡ true) d ds all in
    rw first (ap (λ (es : List Dependency). d ∷ es) (all_functional ds (All-tail (λ (e : Dependency). is_fd e ≡ true) d ds all)))

pub part_is_fixed : (n : ℕ) (ds whole : List Dependency) → All (IsWithin (below n)) ds → IsFixedWholeCover n ds whole
    → IsFixedCover n ds (functional_part whole)
part_is_fixed n ds whole within is =
    let single = (fixed_is_minimal n ds is.cover within is.fixed).single in
    let functional = All-weaker IsSingle (λ (d : Dependency). is_fd d ≡ true) (λ d single. ap is_fd single.2) is.cover single in
    let multivalued = All-weaker (λ (d : Dependency). not (is_fd d) ≡ true) (λ (d : Dependency). is_fd d ≡ false)
    (λ d passes. not-true (is_fd d) passes) (multivalued_part ds) (filter_passes (λ d. not (is_fd d)) ds) in
    subst (λ (es : List Dependency). IsFixedCover n ds es)
    (sym (functional_kept n is.cover (multivalued_part ds) whole multivalued is.thinned ∙ all_functional is.cover functional)) is.fixed
