-- A list without a member, and why a minimal cover has no diagnostic.
use Rattle.std.proofs.Common.{◌≡◌, ℕ, ◌<◌, ◌≤◌, suc, List, ◌∷◌, ◌++◌, take, drop, refl, sym, subst, ◌∙◌, ap, ⊎_elim, arith}
use Rattle.std.proofs.lemmas.Bool.{cases_order}
use Rattle.std.proofs.lemmas.List.{take-append-drop, take-map, drop-map, map-append}
use Rattle.std.proofs.lemmas.List.Elements.{All-append, All-take, All-drop, All-contains, Contains-get_or, filter-append}
use Rattle.std.proofs.lemmas.Option.{slice_get_within, get_or_from_slice_get}
use Rattle.std.proofs.Math.Seq.{drop-cons}
use Rattle.std.specs.List.{remove}
use Rattle.std.specs.Prelude.{All, Contains, Some, slice_get}
use Rattle.attr_sets.specs.Attributes.{Attributes, only, difference, count_below}
use Rattle.attr_sets.specs.declared.set.TheConstants.{MOST_ATTRIBUTES}
use Rattle.attr_sets.proofs.AttributesLemmas.{count_below-only, count_below-none}
use Rattle.dep_model.specs.declared.dep.Dep.{Dep}
use Rattle.dep_model.specs.Dependencies.{Dependency, fd, mvd, is_fd, functional_part, right_of}
use Rattle.dep_model.specs.Deps.{dependency_of, dependencies_of}
use Rattle.dep_model.specs.Implication.{Implies}
use Rattle.dep_model.proofs.DistinctLemmas.{filter-keeps}
use Rattle.min_cover.specs.Covers.{HaveSameLegal, IsSingle, IsMinimalCover, IsWholeCover}
use Rattle.cover_accounts.specs.declared.diagnostic.CoverDiagnostic.{CoverDiagnostic}
use Rattle.cover_accounts.specs.declared.diagnostic.CoverDiagnostic.TheVariants.{SeveralOnRight, SameLeft, NotNeededOnLeft, NotNeededOnRight, Follows}
use Rattle.cover_accounts.specs.declared.diagnostic.CoverForm.TheVariants.{Minimal}
use Rattle.cover_accounts.proofs.GatheringLemmas.{several_not_same}
use Rattle.cover_accounts.specs.CoverDiagnostics.{FollowsFrom, HasSeveralOnRight, IsNotNeededOnLeft, IsCoverDiagnostic}

-- ---- a list without a member
pub remove_map : (ds : List Dep) (k : ℕ) → dependencies_of (remove ds k) ≡ remove (dependencies_of ds) k
remove_map ds k =
    map-append dependency_of (take k ds) (drop (suc k) ds)
    ∙ ap (λ (es : List Dependency). es ++ dependencies_of (drop (suc k) ds)) (sym (take-map dependency_of k ds))
    ∙ ap (λ (es : List Dependency). take k (dependencies_of ds) ++ es) (sym (drop-map dependency_of (suc k) ds))

pub remove_all : (P : Dep → Type 0) (ds : List Dep) (k : ℕ) → All P ds → All P (remove ds k)
remove_all P ds k all = All-append P (take k ds) (drop (suc k) ds) (All-take P k ds all) (All-drop P (suc k) ds all)

-- the list is what stands before the member, the member, and what stands after it
pub parted : (ds : List Dependency) (k : ℕ) (d : Dependency) → slice_get ds k ≡ Some d → ds ≡ take k ds ++ d ∷ drop (suc k) ds
parted ds k d read =
    sym (take-append-drop k ds)
    ∙ ap (λ (es : List Dependency). take k ds ++ es) (drop-cons ds k d (slice_get_within ds k d read))
    ∙ ap (λ (e : Dependency). take k ds ++ e ∷ drop (suc k) ds) (get_or_from_slice_get ds k d d read)

-- ---- a minimal cover
pub contained : (ds : List Dependency) (k : ℕ) (d : Dependency) → slice_get ds k ≡ Some d → Contains ds d
contained ds k d read =
    subst (λ (e : Dependency). Contains ds e) (get_or_from_slice_get ds k d d read) (Contains-get_or ds k d (slice_get_within ds k d read))

same_implied : (n : ℕ) (ds es : List Dependency) (d : Dependency) → HaveSameLegal n ds es → Implies n ds d → Implies n es d
same_implied n ds es d same implied r legal = implied r ((same r).1 legal)

few_members : (a : ℕ) → 1 < count_below (only a) MOST_ATTRIBUTES → ⊥
few_members a many = ⊎_elim
    (λ (is : a ≡ MOST_ATTRIBUTES). omega (arith, many, none_of (omega (arith, is))))
    (⊎_elim
    (λ low. omega (arith, many, count_below-only MOST_ATTRIBUTES a low))
    (λ high. omega (arith, many, none_of (omega (arith, high)))))
    (cases_order a MOST_ATTRIBUTES)
  where
    none_of : MOST_ATTRIBUTES ≤ a → count_below (only a) MOST_ATTRIBUTES ≡ 0
    none_of high = count_below-none MOST_ATTRIBUTES (only a) (λ k low. grind (arith, low, high))

single_right : (d : Dependency) → IsSingle d → HasSeveralOnRight d → ⊥
single_right (fd x y) single many = few_members single.1 (subst (λ (z : Attributes). 1 < count_below z MOST_ATTRIBUTES) (ap right_of single.2) many)
single_right (mvd x y) single many = absurd many

no_several : (n : ℕ) (ds whole : List Dependency) (d : Dependency) → IsMinimalCover n ds (functional_part whole) → Contains whole d → HasSeveralOnRight d → ⊥
no_several n ds whole (mvd x y) minimal given many = absurd many
no_several n ds whole (fd x y) minimal given many =
    single_right (fd x y) (All-contains IsSingle (functional_part whole) (fd x y) minimal.single (filter-keeps is_fd whole (fd x y) given refl)) many

all_needed : (n : ℕ) (ds whole : List Dependency) (d : Dependency) (a : ℕ) → IsMinimalCover n ds (functional_part whole) → Contains whole d → IsNotNeededOnLeft n whole d a → ⊥
all_needed n ds whole (mvd x y) a minimal given is = absurd is
all_needed n ds whole (fd x y) a minimal given is =
    minimal.short (fd x y) (filter-keeps is_fd whole (fd x y) given refl) a is.0
    (same_implied n (functional_part whole) (functional_part ds) (fd (difference x (only a)) y) minimal.same_legal is.1)

none_follows : (n : ℕ) (ds whole : List Dependency) (k : ℕ) (d : Dependency) → IsMinimalCover n ds (functional_part whole) → IsWholeCover n ds whole → slice_get whole k ≡ Some d
    → FollowsFrom n (remove whole k) d → ⊥
none_follows n ds whole k (fd x y) minimal cover read follows =
    let before = take k whole in
    let after = drop (suc k) whole in
    let split : functional_part whole ≡ functional_part before ++ fd x y ∷ functional_part after =
    ap functional_part (parted whole k (fd x y) read) ∙ filter-append is_fd before (fd x y ∷ after) in
    minimal.needed (functional_part before) (functional_part after) (fd x y) split
    (subst (λ (es : List Dependency). Implies n es (fd x y)) (filter-append is_fd before after) follows)
none_follows n ds whole k (mvd x y) minimal cover read follows =
    cover.needed (take k whole) (drop (suc k) whole) (mvd x y) (parted whole k (mvd x y) read) refl follows

pub no_diagnostic : (n : ℕ) (ds whole : List Dependency) (one : CoverDiagnostic) → IsMinimalCover n ds (functional_part whole) → IsWholeCover n ds whole → IsCoverDiagnostic Minimal n whole one → ⊥
no_diagnostic n ds whole (SeveralOnRight k) minimal cover is = no_several n ds whole is.1.0 minimal (contained whole k is.1.0 is.1.1) is.1.2
no_diagnostic n ds whole (SameLeft k j) minimal cover is = several_not_same Minimal refl is.0
no_diagnostic n ds whole (NotNeededOnLeft k a) minimal cover is = all_needed n ds whole is.0 a minimal (contained whole k is.0 is.1) is.2
no_diagnostic n ds whole (NotNeededOnRight k a) minimal cover is = several_not_same Minimal refl is.0
no_diagnostic n ds whole (Follows k) minimal cover is = none_follows n ds whole k is.0 minimal cover is.1 is.3
