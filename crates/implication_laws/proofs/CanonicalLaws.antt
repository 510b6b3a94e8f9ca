-- Nothing is said of exactly the schemas that are canonical by kind.
use Rattle.std.proofs.Common.{◌≡◌, ◌+◌, ◌<◌, ◌≤◌, ◌↔◌, ℕ, zero, suc, Bool, true, false, List, [], ◌∷◌, ◌++◌, length, get_or, take, drop, cond, inl, inr, refl, sym, subst, ap, ap₂, ◌∙◌, ◌⊎◌, ⊎_elim, arith}
use Rattle.std.specs.Prelude.{All, AllPairs, Contains, Some, filter, slice_get, slice_set}
use Rattle.std.proofs.Math.Seq.{set-append_seam}
use Rattle.std.proofs.lemmas.Bool.{true≢false, false≢true, cases_Bool, cases_eq, lt-ltb, ltb-true}
use Rattle.std.proofs.lemmas.List.{length-take}
use Rattle.std.specs.List.{remove}
use Rattle.std.proofs.lemmas.List.Elements.{All-contains, All-contains_itself, All-weaker, filter-append, filter_passes}
use Rattle.std.proofs.lemmas.List.Kept.{AllPairs-filter}
use Rattle.std.proofs.lemmas.Option.{slice_get-get_or, slice_get_within, get_or_from_slice_get}
use Rattle.attr_sets.specs.Attributes.{Attributes, below, only, difference, IsSubset, IsEmpty}
use Rattle.attr_sets.specs.declared.set.TheConstants.{MOST_ATTRIBUTES}
use Rattle.attr_sets.proofs.AttributesLemmas.{is_same-true, is_same-from}
use Rattle.canonical_cover.specs.Canonical.{IsCanonicalCover}
use Rattle.canonical_cover.specs.Merging.{have_same_left}
use Rattle.cover_accounts.specs.CoverDiagnostics.{HasLeftOf, IsCoverDiagnostic, FollowsFrom, IsAskedToFollow, IsNotNeededOnLeft, IsNotNeededOnRight}
use Rattle.cover_accounts.specs.declared.diagnostic.CoverDiagnostic.{CoverDiagnostic}
use Rattle.cover_accounts.specs.declared.diagnostic.CoverDiagnostic.TheVariants.{SeveralOnRight, SameLeft, NotNeededOnLeft, NotNeededOnRight, Follows}
use Rattle.cover_accounts.specs.declared.diagnostic.CoverForm.TheVariants.{Canonical}
use Rattle.cover_accounts.proofs.CoverLemmas.{contained, parted}
use Rattle.cover_accounts.proofs.GatheringLemmas.{several_not_same}
use Rattle.dep_model.specs.Dependencies.{Dependency, fd, mvd, is_fd, functional_part, left_of, right_of, IsWithin}
use Rattle.dep_model.specs.Implication.{Implies}
use Rattle.dep_model.proofs.DistinctLemmas.{filter-member, filter-keeps}
use Rattle.dep_model.proofs.ListLemmas.{Contains-nil, Contains-head, Contains-later}
use Rattle.dep_model.proofs.PairLemmas.{first_pairs, later_pairs}
use Rattle.min_cover.specs.Covers.{IsWholeCover}
use Rattle.proof_grammar.proofs.NodeLemmas.{slice_get-append}
use Rattle.schema_model.specs.Schemas.{Schema, width_of, theory_of}
use Rattle.implication_laws.specs.Minimality.{IsCanonicalByKind}
use Rattle.implication_laws.proofs.MinimalLaws.{HasNone, at_place, empty_told, itself, left_needed, multivalued_without, none_multivalued, schema_within}
use Rattle.implication_laws.proofs.PartedLists.{middle_holds, parted_with_filtered}

-- ---- each left side once
-- of the numbers below one the first that passes, if one does
first_passing : (p : ℕ → Bool) (m : ℕ)
    → ((i : ℕ) → i < m → p i ≡ true → ⊥) ⊎ ((i : ℕ) × (i < m) × (p i ≡ true) × ((h : ℕ) → h < i → p h ≡ true → ⊥))
first_passing p zero = inl (λ i less passes. absurd (omega (arith, less)))
first_passing p (suc m) =
    ⊎_elim
    (λ none. elim (cases_Bool (p m)) [
      | inl passes ↦ inr (m, omega arith, passes, none)
      | inr fails ↦ inl (λ i less passes. elim (cases_eq i m) [
        | inl same ↦ true≢false (sym passes ∙ ap p same ∙ fails)
        | inr other ↦ none i (omega (arith, less, other)) passes
      ])
    ])
    (λ found. inr (found.0, omega (arith, found.1), found.2, found.3))
    (first_passing p m)

-- a functional dependency with the left side of an earlier one has that of a first one
first_of : (ds : List Dependency) (i j : ℕ) (d : Dependency) → i < j → j < length ds
    → have_same_left (get_or ds i d) (get_or ds j d) ≡ true → (h : ℕ) × HasLeftOf ds j h
first_of ds i j d less short same =
    let e = get_or ds j d in
    ⊎_elim
    (λ none. absurd (none i less same))
    (λ found. (
      found.0,
      record {
        dependency = e;
        here = slice_get-get_or ds j d short;
        other = get_or ds found.0 d;
        there = slice_get-get_or ds found.0 d (omega (arith, found.1, short));
        before = found.1;
        same = found.2;
        first = λ k f before read also.
            found.3 k before (ap (λ (g : Dependency). have_same_left g e) (get_or_from_slice_get ds k f d read) ∙ also);
      },
    ))
    (first_passing (λ k. have_same_left (get_or ds k d) e) j)

same_lefts : (d e : Dependency) → is_fd d ≡ true → is_fd e ≡ true → left_of d ≡ left_of e → have_same_left d e ≡ true
same_lefts (fd x y) (fd v w) d_is e_is same = is_same-from x v same
same_lefts (fd x y) (mvd v w) d_is e_is same = absurd (false≢true e_is)
same_lefts (mvd x y) e d_is e_is same = absurd (false≢true d_is)

all_once : (n : ℕ) (ds : List Dependency) → HasNone Canonical n ds
    → AllPairs (λ d e. left_of d ≡ left_of e → ⊥) (functional_part ds)
all_once n ds none i j d less short same =
    let apart : AllPairs (λ e f. have_same_left e f ≡ true → ⊥) ds =
    λ h k e before in_it told. let first = first_of ds h k e before in_it told in none (SameLeft k first.0) (refl, first.1) in
    AllPairs-filter (λ e f. have_same_left e f ≡ true → ⊥) is_fd ds apart i j d less short
    (same_lefts _ _ (filter_passes is_fd ds i d (omega (arith, less, short))) (filter_passes is_fd ds j d short) same)

-- and back: two functional dependencies of a list stand so among its functional ones
pairs_of_filter : {X : Type 0} (R : X → X → Type 0) (p : X → Bool) (xs : List X) (i j : ℕ) (x y : X) → AllPairs R (filter p xs) → i < j
    → slice_get xs i ≡ Some x → slice_get xs j ≡ Some y → p x ≡ true → p y ≡ true → R x y
pairs_of_filter R p [] i j x y pairs less read there x_is y_is = absurd (omega (arith, slice_get_within [] i x read))
pairs_of_filter {X = X} R p (z ∷ zs) zero zero x y pairs less read there x_is y_is = absurd (omega (arith, less))
pairs_of_filter {X = X} R p (z ∷ zs) zero (suc j) x y pairs less read there x_is y_is =
    let here : z ≡ x = get_or_from_slice_get (z ∷ zs) 0 x x read in
    let passes : p z ≡ true = ap p here ∙ x_is in
    let kept : AllPairs R (z ∷ filter p zs) = subst (λ (b : Bool). AllPairs R (cond b (z ∷ filter p zs) (filter p zs))) passes pairs in
    subst (λ (w : X). R w y) here (first_pairs R z (filter p zs) y kept (filter-keeps p zs y (contained_at zs j y there) y_is))
  where
    contained_at : (ws : List X) (k : ℕ) (w : X) → slice_get ws k ≡ Some w → Contains ws w
    contained_at ws k w at = (k, slice_get_within ws k w at, get_or_from_slice_get ws k w w at)
pairs_of_filter R p (z ∷ zs) (suc i) zero x y pairs less read there x_is y_is = absurd (omega (arith, less))
pairs_of_filter {X = X} R p (z ∷ zs) (suc i) (suc j) x y pairs less read there x_is y_is =
    pairs_of_filter R p zs i j x y
    (elim (cases_Bool (p z)) [
      | inl passes ↦ later_pairs R z (filter p zs) (subst (λ (b : Bool). AllPairs R (cond b (z ∷ filter p zs) (filter p zs))) passes pairs)
      | inr fails ↦ subst (λ (b : Bool). AllPairs R (cond b (z ∷ filter p zs) (filter p zs))) fails pairs
    ])
    (omega (arith, less)) read there x_is y_is

low : (n : ℕ) (x : Attributes) → n ≤ MOST_ATTRIBUTES → IsSubset x (below n) → IsSubset x (below MOST_ATTRIBUTES)
low n x limit x_in k m = lt-ltb k MOST_ATTRIBUTES (omega (arith, limit, ltb-true k n (x_in k m)))

left_same : (n : ℕ) (d e : Dependency) → n ≤ MOST_ATTRIBUTES → IsWithin (below n) d → IsWithin (below n) e → have_same_left d e ≡ true
    → (is_fd d ≡ true) × (is_fd e ≡ true) × (left_of d ≡ left_of e)
left_same n (fd x y) (fd v w) limit d_in e_in same =
    (refl, refl, is_same-true x v (low n x limit d_in.0) (low n v limit e_in.0) same)
left_same n (fd x y) (mvd v w) limit d_in e_in same = absurd (false≢true same)
left_same n (mvd x y) e limit d_in e_in same = absurd (false≢true same)

none_again : (n : ℕ) (ds : List Dependency) (k j : ℕ) → n ≤ MOST_ATTRIBUTES → All (IsWithin (below n)) ds
    → AllPairs (λ d e. left_of d ≡ left_of e → ⊥) (functional_part ds) → HasLeftOf ds k j → ⊥
none_again n ds k j limit within once has =
    let other_in = All-contains (IsWithin (below n)) ds has.other within (contained ds j has.other has.there) in
    let own_in = All-contains (IsWithin (below n)) ds has.dependency within (contained ds k has.dependency has.here) in
    let same = left_same n has.other has.dependency limit other_in own_in has.same in
    pairs_of_filter (λ d e. left_of d ≡ left_of e → ⊥) is_fd ds j k has.other has.dependency once has.before has.there has.here same.0 same.1 same.2

-- ---- what is not needed on the right
-- the functional part, where one of it is replaced by another
replaced : (front back : List Dependency) (x y z : Attributes)
    → functional_part (slice_set (front ++ fd x y ∷ back) (length front) (fd x z)) ≡ functional_part front ++ fd x z ∷ functional_part back
replaced front back x y z =
    ap functional_part (set-append_seam front (fd x y) back (fd x z)) ∙ filter-append is_fd front (fd x z ∷ back)

right_needed : (n : ℕ) (ds before after : List Dependency) (x y : Attributes) (i : ℕ) → HasNone Canonical n ds
    → functional_part ds ≡ before ++ fd x y ∷ after → y i ≡ true
    → Implies n (before ++ fd x (difference y (only i)) ∷ after) (fd x (only i)) → ⊥
right_needed n ds before after x y i none split member implied =
    let parts = parted_with_filtered is_fd ds before after (fd x y) split in
    let k = length parts.front in
    let short = difference y (only i) in
    let less : functional_part (slice_set ds k (fd x short)) ≡ before ++ fd x short ∷ after =
    ap (λ (es : List Dependency). functional_part (slice_set es k (fd x short))) parts.split
    ∙ replaced parts.front parts.back x y short
    ∙ ap₂ (λ (es fs : List Dependency). es ++ fd x short ∷ fs) parts.passed_before parts.passed_after in
    none (NotNeededOnRight k i) (
      refl,
      (
        fd x y,
        subst (λ (es : List Dependency). slice_get es k ≡ Some (fd x y)) (sym parts.split) (slice_get-append parts.front (fd x y) parts.back),
        (member, subst (λ (es : List Dependency). Implies n es (fd x (only i))) (sym less) implied),
      ),
    )

right_not_told : (n : ℕ) (ds : List Dependency) (k : ℕ) (d : Dependency) (a : ℕ) → IsCanonicalCover n ds (functional_part ds)
    → slice_get ds k ≡ Some d → IsNotNeededOnRight n ds k d a → ⊥
right_not_told n ds k (mvd x y) a canonical read is = is
right_not_told n ds k (fd x y) a canonical read is =
    let front = take k ds in
    let back = drop (suc k) ds in
    let short = difference y (only a) in
    let whole : ds ≡ front ++ fd x y ∷ back = parted ds k (fd x y) read in
    let size : length front ≡ k = omega (arith, length-take k ds, slice_get_within ds k (fd x y) read) in
    let less : functional_part (slice_set ds k (fd x short)) ≡ functional_part front ++ fd x short ∷ functional_part back =
    ap (λ (es : List Dependency). functional_part (slice_set es k (fd x short))) whole
    ∙ ap (λ (j : ℕ). functional_part (slice_set (front ++ fd x y ∷ back) j (fd x short))) (sym size)
    ∙ replaced front back x y short in
    canonical.short_right (functional_part front) (functional_part back) x y a
    (ap functional_part whole ∙ filter-append is_fd front (fd x y ∷ back)) is.0
    (subst (λ (es : List Dependency). Implies n es (fd x (only a))) less is.1)

-- ---- both ways
pub canonical_without : (schema : Schema) → HasNone Canonical (width_of schema) (theory_of schema) → IsCanonicalByKind schema
canonical_without schema none =
    let n = width_of schema in
    let ds = theory_of schema in
    record {
      functional = record {
        functional = filter_passes is_fd ds;
        same_legal = itself n (functional_part ds);
        once = all_once n ds none;
        some_right = All-weaker (Contains (functional_part ds)) (λ d. IsEmpty (right_of d) → ⊥) (some n ds none) (functional_part ds)
            (All-contains_itself (functional_part ds));
        short_left = λ d given i. left_needed Canonical n ds d i none given;
        short_right = λ before after x y i. right_needed n ds before after x y i none;
      };
      multivalued = multivalued_without Canonical schema none;
    }
  where
    some : (n : ℕ) (ds : List Dependency) → HasNone Canonical n ds → (d : Dependency) → Contains (functional_part ds) d → IsEmpty (right_of d) → ⊥
    some n ds none (fd x y) has empty = empty_told Canonical n ds x y none (filter-member is_fd ds (fd x y) has).0 empty
    some n ds none (mvd x y) has empty = false≢true (filter-member is_fd ds (mvd x y) has).1

left_not_told : (n : ℕ) (ds : List Dependency) (d : Dependency) (a : ℕ) → IsCanonicalCover n ds (functional_part ds) → Contains ds d
    → IsNotNeededOnLeft n ds d a → ⊥
left_not_told n ds (mvd x y) a canonical has is = is
left_not_told n ds (fd x y) a canonical has is =
    canonical.short_left (fd x y) (filter-keeps is_fd ds (fd x y) has refl) a is.0 is.1

following_not_told : (n : ℕ) (ds : List Dependency) (k : ℕ) (d : Dependency) → IsCanonicalCover n ds (functional_part ds) → IsWholeCover n ds ds
    → slice_get ds k ≡ Some d → IsAskedToFollow Canonical d → FollowsFrom n (remove ds k) d → ⊥
following_not_told n ds k (fd x y) canonical whole read asked follows =
    All-contains (λ d. IsEmpty (right_of d) → ⊥) (functional_part ds) (fd x y) canonical.some_right
    (filter-keeps is_fd ds (fd x y) (contained ds k (fd x y) read) refl) asked
following_not_told n ds k (mvd x y) canonical whole read asked follows =
    whole.needed (take k ds) (drop (suc k) ds) (mvd x y) (parted ds k (mvd x y) read) refl follows

pub none_of_canonical : (schema : Schema) → IsCanonicalByKind schema → HasNone Canonical (width_of schema) (theory_of schema)
none_of_canonical schema canonical (SeveralOnRight k) is = several_not_same Canonical is.0 refl
none_of_canonical schema canonical (SameLeft k j) is =
    none_again (width_of schema) (theory_of schema) k j schema.valid.names_within_limit (schema_within schema) canonical.functional.once is.1
none_of_canonical schema canonical (NotNeededOnLeft k a) is =
    left_not_told (width_of schema) (theory_of schema) is.0 a canonical.functional (contained (theory_of schema) k is.0 is.1) is.2
none_of_canonical schema canonical (NotNeededOnRight k a) is =
    right_not_told (width_of schema) (theory_of schema) k is.1.0 a canonical.functional is.1.1 is.1.2
none_of_canonical schema canonical (Follows k) is =
    following_not_told (width_of schema) (theory_of schema) k is.0 canonical.functional canonical.multivalued is.1 is.2 is.3

-- ---- functional dependencies alone
pub canonical_of_functional : (schema : Schema) → functional_part (theory_of schema) ≡ theory_of schema
    → IsCanonicalByKind schema ↔ IsCanonicalCover (width_of schema) (theory_of schema) (theory_of schema)
canonical_of_functional schema same =
    let n = width_of schema in
    let ds = theory_of schema in (
      (λ canonical. subst (λ (es : List Dependency). IsCanonicalCover n ds es) same canonical.functional),
      (λ canonical. record {
        functional = subst (λ (es : List Dependency). IsCanonicalCover n ds es) (sym same) canonical;
        multivalued = none_multivalued n ds same;
      }),
    )
