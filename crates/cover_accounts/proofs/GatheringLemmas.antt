-- The diagnostics of a list, gathered one place after the other.
use Rattle.std.proofs.Common.{◌≡◌, ℕ, ◌+◌, ◌<◌, ◌≤◌, ◌⊎◌, true, List, [], ◌∷◌, ◌++◌, length, get_or, refl, sym, subst, ◌∙◌, ap, inl, inr, ⊎_elim, arith}
use Rattle.std.proofs.lemmas.Bool.{cases_eq, cases_lt, ltb-true}
use Rattle.std.proofs.lemmas.List.Elements.{Contains-append_left, Contains-push, Contains-push_cases, Contains-get_or}
use Rattle.std.proofs.lemmas.List.Quantifiers.{all_pairs_push}
use Rattle.std.proofs.lemmas.Option.{slice_get_within, get_or_from_slice_get, slice_get-map, slice_get-get_or, same_Some}
use Rattle.std.specs.List.{remove}
use Rattle.std.specs.Prelude.{All, Contains, Some, slice_get, option_map}
use Rattle.attr_sets.specs.Attributes.{below}
use Rattle.attr_sets.specs.declared.set.TheConstants.{MOST_ATTRIBUTES}
use Rattle.canonical_cover.specs.Merging.{have_same_left}
use Rattle.dep_model.specs.Dependencies.{Dependency, fd, mvd, IsWithin}
use Rattle.dep_model.specs.Deps.{dependency_of, IsDepWithin}
use Rattle.dep_model.specs.Theories.{deps_of, width_of, universe_of, theory_of}
use Rattle.dep_model.specs.declared.dep.Dep.{Dep}
use Rattle.dep_model.specs.Theories.{Theory}
use Rattle.dep_model.proofs.DepLemmas.{dependencies_all-from}
use Rattle.cover_accounts.specs.declared.diagnostic.CoverDiagnostic.{CoverDiagnostic}
use Rattle.cover_accounts.specs.declared.diagnostic.CoverDiagnostic.TheVariants.{SeveralOnRight, SameLeft, NotNeededOnLeft, NotNeededOnRight, Follows}
use Rattle.cover_accounts.specs.declared.diagnostic.CoverForm.{CoverForm}
use Rattle.cover_accounts.specs.declared.diagnostic.CoverForm.TheVariants.{Minimal, Canonical}
use Rattle.cover_accounts.specs.CoverDiagnostics.{FollowsFrom, HasLeftOf, HasSeveralOnRight, IsAskedToFollow, IsNotNeededOnLeft, IsNotNeededOnRight, IsCoverDiagnostic, IsBeforePlace, NamesAttribute, AreCoverDiagnostics, position_of, rank_of}
use Rattle.cover_accounts.specs.CheckGathering.{AreCoverDiagnosticsBefore}

-- ---- the attribute of a diagnostic is one
left_low : (n : ℕ) (ds : List Dependency) (d : Dependency) (a : ℕ) → IsWithin (below n) d → IsNotNeededOnLeft n ds d a → a < n
left_low n ds (fd x y) a within is = ltb-true a n (within.0 a is.0)
left_low n ds (mvd x y) a within is = absurd is

right_low : (n : ℕ) (ds : List Dependency) (k : ℕ) (d : Dependency) (a : ℕ) → IsWithin (below n) d → IsNotNeededOnRight n ds k d a → a < n
right_low n ds k (fd x y) a within is = ltb-true a n (within.1 a is.0)
right_low n ds k (mvd x y) a within is = absurd is

pub read_within : (n : ℕ) (ds : List Dependency) (k : ℕ) (d : Dependency) → All (IsWithin (below n)) ds → slice_get ds k ≡ Some d → IsWithin (below n) d
read_within n ds k d within read =
    subst (IsWithin (below n)) (get_or_from_slice_get ds k d d read) (within k d (slice_get_within ds k d read))

pub names_attribute : (form : CoverForm) (n : ℕ) (ds : List Dependency) (one : CoverDiagnostic) → n ≤ MOST_ATTRIBUTES → All (IsWithin (below n)) ds → IsCoverDiagnostic form n ds one → NamesAttribute one
names_attribute form n ds (SeveralOnRight k) most within is = tt
names_attribute form n ds (SameLeft k j) most within is = tt
names_attribute form n ds (NotNeededOnLeft k a) most within is =
    omega (arith, most, left_low n ds is.0 a (read_within n ds k is.0 within is.1) is.2)
names_attribute form n ds (NotNeededOnRight k a) most within is =
    omega (arith, most, right_low n ds k is.1.0 a (read_within n ds k is.1.0 within is.1.1) is.1.2)
names_attribute form n ds (Follows k) most within is = tt

pub rank_low : (one : CoverDiagnostic) → NamesAttribute one → rank_of one < 2 + (MOST_ATTRIBUTES + MOST_ATTRIBUTES)
rank_low (SeveralOnRight k) names = omega arith
rank_low (SameLeft k j) names = omega arith
rank_low (NotNeededOnLeft k a) names = omega (arith, names)
rank_low (NotNeededOnRight k a) names = omega (arith, names)
rank_low (Follows k) names = omega arith

-- ---- one diagnostic at most stands at a place
-- the first one with the left side of another is one
one_first : (ds : List Dependency) (k i j : ℕ) → HasLeftOf ds k i → HasLeftOf ds k j → i ≡ j
one_first ds k i j one other =
    let same : other.dependency ≡ one.dependency = same_Some other.dependency one.dependency (sym other.here ∙ one.here) in
    elim (cases_lt i j) [
      | inl less ↦ absurd (other.first i one.other less one.there (subst (λ (d : Dependency). have_same_left one.other d ≡ true) (sym same) one.same))
      | inr not_less ↦
          elim (cases_lt j i) [
            | inl less ↦ absurd (one.first j other.other less other.there (subst (λ (d : Dependency). have_same_left other.other d ≡ true) same other.same))
            | inr none ↦ omega (arith, not_less, none)
          ]
    ]

pub several_not_same : (form : CoverForm) → form ≡ Minimal → form ≡ Canonical → ⊥
several_not_same form one other = cc

pub same_diagnostic : (form : CoverForm) (n : ℕ) (ds : List Dependency) (one other : CoverDiagnostic) → NamesAttribute one → NamesAttribute other
    → IsCoverDiagnostic form n ds one → IsCoverDiagnostic form n ds other → position_of one ≡ position_of other → rank_of one ≡ rank_of other → one ≡ other
same_diagnostic form n ds (SeveralOnRight j) (SeveralOnRight k) names others is is_other at rank = ap SeveralOnRight at
same_diagnostic form n ds (SeveralOnRight j) (SameLeft k b) names others is is_other at rank = absurd (several_not_same form is.0 is_other.0)
same_diagnostic form n ds (SeveralOnRight j) (NotNeededOnLeft k b) names others is is_other at rank = absurd (omega (arith, rank, others))
same_diagnostic form n ds (SeveralOnRight j) (NotNeededOnRight k b) names others is is_other at rank = absurd (omega (arith, rank, others))
same_diagnostic form n ds (SeveralOnRight j) (Follows k) names others is is_other at rank = absurd (omega (arith, rank))
same_diagnostic form n ds (SameLeft j a) (SeveralOnRight k) names others is is_other at rank = absurd (several_not_same form is_other.0 is.0)
same_diagnostic form n ds (SameLeft j a) (SameLeft k b) names others is is_other at rank =
    let first = one_first ds k a b (subst (λ (i : ℕ). HasLeftOf ds i a) at is.1) is_other.1 in
    ap (λ (i : ℕ). SameLeft i a) at ∙ ap (λ (i : ℕ). SameLeft k i) first
same_diagnostic form n ds (SameLeft j a) (NotNeededOnLeft k b) names others is is_other at rank = absurd (omega (arith, rank, others))
same_diagnostic form n ds (SameLeft j a) (NotNeededOnRight k b) names others is is_other at rank = absurd (omega (arith, rank, others))
same_diagnostic form n ds (SameLeft j a) (Follows k) names others is is_other at rank = absurd (omega (arith, rank))
same_diagnostic form n ds (NotNeededOnLeft j a) (SeveralOnRight k) names others is is_other at rank = absurd (omega (arith, rank, names))
same_diagnostic form n ds (NotNeededOnLeft j a) (SameLeft k b) names others is is_other at rank = absurd (omega (arith, rank, names))
same_diagnostic form n ds (NotNeededOnLeft j a) (NotNeededOnLeft k b) names others is is_other at rank =
    let attribute : a ≡ b = omega (arith, rank) in
    ap (λ (i : ℕ). NotNeededOnLeft i a) at ∙ ap (λ (c : ℕ). NotNeededOnLeft k c) attribute
same_diagnostic form n ds (NotNeededOnLeft j a) (NotNeededOnRight k b) names others is is_other at rank = absurd (omega (arith, rank, names, others))
same_diagnostic form n ds (NotNeededOnLeft j a) (Follows k) names others is is_other at rank = absurd (omega (arith, rank, names))
same_diagnostic form n ds (NotNeededOnRight j a) (SeveralOnRight k) names others is is_other at rank = absurd (omega (arith, rank, names))
same_diagnostic form n ds (NotNeededOnRight j a) (SameLeft k b) names others is is_other at rank = absurd (omega (arith, rank, names))
same_diagnostic form n ds (NotNeededOnRight j a) (NotNeededOnLeft k b) names others is is_other at rank = absurd (omega (arith, rank, names, others))
same_diagnostic form n ds (NotNeededOnRight j a) (NotNeededOnRight k b) names others is is_other at rank =
    let attribute : a ≡ b = omega (arith, rank) in
    ap (λ (i : ℕ). NotNeededOnRight i a) at ∙ ap (λ (c : ℕ). NotNeededOnRight k c) attribute
same_diagnostic form n ds (NotNeededOnRight j a) (Follows k) names others is is_other at rank = absurd (omega (arith, rank, names))
same_diagnostic form n ds (Follows j) (SeveralOnRight k) names others is is_other at rank = absurd (omega (arith, rank))
same_diagnostic form n ds (Follows j) (SameLeft k b) names others is is_other at rank = absurd (omega (arith, rank))
same_diagnostic form n ds (Follows j) (NotNeededOnLeft k b) names others is is_other at rank = absurd (omega (arith, rank, others))
same_diagnostic form n ds (Follows j) (NotNeededOnRight k b) names others is is_other at rank = absurd (omega (arith, rank, others))
same_diagnostic form n ds (Follows j) (Follows k) names others is is_other at rank = ap Follows at

-- ---- the next place
one_later : (k rank : ℕ) (one : CoverDiagnostic) → IsBeforePlace k rank one → IsBeforePlace k (rank + 1) one
one_later k rank one (inl before) = inl before
one_later k rank one (inr here) = inr (here.0, omega (arith, here.1))

at_most : (k rank : ℕ) (one : CoverDiagnostic) → IsBeforePlace k (rank + 1) one → IsBeforePlace k rank one ⊎ ((position_of one ≡ k) × (rank_of one ≡ rank))
at_most k rank one (inl before) = inl (inl before)
at_most k rank one (inr here) = elim (cases_eq (rank_of one) rank) [
  | inl same ↦ inr (here.0, same)
  | inr other ↦ inl (inr (here.0, omega (arith, here.1, other)))
]

-- a diagnostic stands there
pub gather_push : (form : CoverForm) (n : ℕ) (ds : List Dependency) (k rank : ℕ) (found : List CoverDiagnostic) (one : CoverDiagnostic) → n ≤ MOST_ATTRIBUTES → All (IsWithin (below n)) ds
    → AreCoverDiagnosticsBefore form n ds k rank found → IsCoverDiagnostic form n ds one → position_of one ≡ k → rank_of one ≡ rank → AreCoverDiagnosticsBefore form n ds k (rank + 1) (found ++ one ∷ [])
gather_push form n ds k rank found one most within before is at rank_is = record {
  each = λ c h. ⊎_elim (λ old. before.each c old) (λ (new : one ≡ c). subst (IsCoverDiagnostic form n ds) new is) (Contains-push_cases found one c h);
  earlier = λ c h. ⊎_elim (λ old. one_later k rank c (before.earlier c old))
      (λ (new : one ≡ c). subst (IsBeforePlace k (rank + 1)) new (inr (at, omega (arith, rank_is))))
      (Contains-push_cases found one c h);
  all = λ c is_c early. ⊎_elim
      (λ old. Contains-append_left found (one ∷ []) c (before.all c is_c old))
      (λ here. subst (λ (e : CoverDiagnostic). Contains (found ++ one ∷ []) e)
      (same_diagnostic form n ds one c (names_attribute form n ds one most within is) (names_attribute form n ds c most within is_c) is is_c (at ∙ sym here.0) (rank_is ∙ sym here.1)) (Contains-push found one))
      (at_most k rank c early);
  ordered = all_pairs_push (λ c d. IsBeforePlace (position_of d) (rank_of d) c) found one before.ordered
      (λ i c low. subst (λ (r : ℕ). IsBeforePlace (position_of one) r (get_or found i c)) (sym rank_is)
      (subst (λ (p : ℕ). IsBeforePlace p rank (get_or found i c)) (sym at) (before.earlier (get_or found i c) (Contains-get_or found i c low))));
}

-- none does
pub gather_skip : (form : CoverForm) (n : ℕ) (ds : List Dependency) (k rank : ℕ) (found : List CoverDiagnostic) → AreCoverDiagnosticsBefore form n ds k rank found
    → ((one : CoverDiagnostic) → IsCoverDiagnostic form n ds one → position_of one ≡ k → rank_of one ≡ rank → ⊥) → AreCoverDiagnosticsBefore form n ds k (rank + 1) found
gather_skip form n ds k rank found before none = record {
  each = before.each;
  earlier = λ c h. one_later k rank c (before.earlier c h);
  all = λ c is_c early. ⊎_elim (λ old. before.all c is_c old) (λ here. absurd (none c is_c here.0 here.1)) (at_most k rank c early);
  ordered = before.ordered;
}

-- past the last place of a dependency the next one comes
pub gather_next : (form : CoverForm) (n : ℕ) (ds : List Dependency) (k : ℕ) (found : List CoverDiagnostic) → n ≤ MOST_ATTRIBUTES → All (IsWithin (below n)) ds
    → AreCoverDiagnosticsBefore form n ds k (2 + (MOST_ATTRIBUTES + MOST_ATTRIBUTES)) found → AreCoverDiagnosticsBefore form n ds (k + 1) 0 found
gather_next form n ds k found most within before = record {
  each = before.each;
  earlier = λ c h. inl (past c (before.earlier c h));
  all = λ c is_c early. before.all c is_c (back c is_c early);
  ordered = before.ordered;
}
  where
    past : (c : CoverDiagnostic) → IsBeforePlace k (2 + (MOST_ATTRIBUTES + MOST_ATTRIBUTES)) c → position_of c < k + 1
    past c (inl less) = omega (arith, less)
    past c (inr here) = omega (arith, here.0)

    back : (c : CoverDiagnostic) → IsCoverDiagnostic form n ds c → IsBeforePlace (k + 1) 0 c → IsBeforePlace k (2 + (MOST_ATTRIBUTES + MOST_ATTRIBUTES)) c
    back c is_c (inr here) = absurd (omega (arith, here.1))
    back c is_c (inl less) = elim (cases_eq (position_of c) k) [
      | inl same ↦ inr (same, rank_low c (names_attribute form n ds c most within is_c))
      | inr other ↦ inl (omega (arith, less, other))
    ]

-- nothing comes before the first place
pub gather_none : (form : CoverForm) (n : ℕ) (ds : List Dependency) → AreCoverDiagnosticsBefore form n ds 0 0 []
gather_none form n ds = record {
  each = λ c h. absurd (nothing c h);
  earlier = λ c h. absurd (nothing c h);
  all = λ c is_c early. absurd (no_place c early);
  ordered = λ i j d less low. absurd (omega (arith, low));
}
  where
    nothing : (c : CoverDiagnostic) → Contains [] c → ⊥
    nothing c h = omega (arith, h.1)

    no_place : (c : CoverDiagnostic) → IsBeforePlace 0 0 c → ⊥
    no_place c (inl less) = omega (arith, less)
    no_place c (inr here) = omega (arith, here.1)

-- past the last dependency all are had
position_low : (form : CoverForm) (n : ℕ) (ds : List Dependency) (one : CoverDiagnostic) → IsCoverDiagnostic form n ds one → position_of one < length ds
position_low form n ds (SeveralOnRight k) is = slice_get_within ds k is.1.0 is.1.1
position_low form n ds (SameLeft k j) is = slice_get_within ds k is.1.dependency is.1.here
position_low form n ds (NotNeededOnLeft k a) is = slice_get_within ds k is.0 is.1
position_low form n ds (NotNeededOnRight k a) is = slice_get_within ds k is.1.0 is.1.1
position_low form n ds (Follows k) is = slice_get_within ds k is.0 is.1

pub gather_done : (form : CoverForm) (n : ℕ) (ds : List Dependency) (k : ℕ) (found : List CoverDiagnostic) → length ds ≤ k → AreCoverDiagnosticsBefore form n ds k 0 found → AreCoverDiagnostics form n ds found
gather_done form n ds k found past before = record {
  each = before.each;
  all = λ c is_c. before.all c is_c (inl (omega (arith, past, position_low form n ds c is_c)));
  ordered = before.ordered;
}

-- ---- the dependency at a position of a schema
pub schema_within : (s : Theory) → All (IsWithin (below (width_of s))) (theory_of s)
schema_within s = dependencies_all-from (IsWithin (below (width_of s))) (deps_of s) s.valid.deps_within

pub schema_narrow : (s : Theory) → width_of s ≤ MOST_ATTRIBUTES
schema_narrow s = s.valid.within_limit

pub read_at : (s : Theory) (deps : List Dep) (k : ℕ) (e : Dep) → deps ≡ deps_of s → k < length (deps_of s) → slice_get (theory_of s) k ≡ Some (dependency_of (get_or deps k e))
read_at s deps k e same short =
    slice_get-map dependency_of (deps_of s) k
    ∙ ap (option_map dependency_of) (slice_get-get_or (deps_of s) k e short)
    ∙ ap (λ (ds : List Dep). Some (dependency_of (get_or ds k e))) (sym same)

pub within_at : (s : Theory) (deps : List Dep) (k : ℕ) (e : Dep) → deps ≡ deps_of s → k < length (deps_of s) → IsDepWithin (universe_of s) (get_or deps k e)
within_at s deps k e same short =
    subst (λ (ds : List Dep). IsDepWithin (universe_of s) (get_or ds k e)) (sym same) (s.valid.deps_within k e short)

-- past places at which none stands
pub gather_past : (form : CoverForm) (n : ℕ) (ds : List Dependency) (k rank later : ℕ) (found : List CoverDiagnostic) → rank ≤ later
    → AreCoverDiagnosticsBefore form n ds k rank found
    → ((one : CoverDiagnostic) → IsCoverDiagnostic form n ds one → position_of one ≡ k → rank ≤ rank_of one → rank_of one < later → ⊥)
    → AreCoverDiagnosticsBefore form n ds k later found
gather_past form n ds k rank later found on before none = record {
  each = before.each;
  earlier = λ c h. onward c (before.earlier c h);
  all = λ c is_c early. before.all c is_c (back c is_c early);
  ordered = before.ordered;
}
  where
    onward : (c : CoverDiagnostic) → IsBeforePlace k rank c → IsBeforePlace k later c
    onward c (inl less) = inl less
    onward c (inr here) = inr (here.0, omega (arith, here.1, on))

    back : (c : CoverDiagnostic) → IsCoverDiagnostic form n ds c → IsBeforePlace k later c → IsBeforePlace k rank c
    back c is_c (inl less) = inl less
    back c is_c (inr here) = elim (cases_lt (rank_of c) rank) [
      | inl lower ↦ inr (here.0, lower)
      | inr higher ↦ absurd (none c is_c here.0 (omega (arith, higher)) here.1)
    ]

-- ---- where a diagnostic is none
-- the dependency at a position is one
pub there_is : (ds : List Dependency) (j k : ℕ) (e d : Dependency) → slice_get ds j ≡ Some e → j ≡ k → slice_get ds k ≡ Some d → e ≡ d
there_is ds j k e d read at there = same_Some e d (sym read ∙ ap (λ (i : ℕ). slice_get ds i) at ∙ there)

pub no_several_on_right : (n : ℕ) (ds : List Dependency) (k : ℕ) (d : Dependency) → slice_get ds k ≡ Some d → (HasSeveralOnRight d → ⊥)
    → (one : CoverDiagnostic) → IsCoverDiagnostic Minimal n ds one → position_of one ≡ k → rank_of one ≡ 0 → ⊥
no_several_on_right n ds k d read none (SeveralOnRight j) is at rank = none (subst HasSeveralOnRight (there_is ds j k is.1.0 d is.1.1 at read) is.1.2)
no_several_on_right n ds k d read none (SameLeft j i) is at rank = several_not_same Minimal refl is.0
no_several_on_right n ds k d read none (NotNeededOnLeft j a) is at rank = omega (arith, rank)
no_several_on_right n ds k d read none (NotNeededOnRight j a) is at rank = omega (arith, rank)
no_several_on_right n ds k d read none (Follows j) is at rank = omega (arith, rank)

pub no_same_left : (n : ℕ) (ds : List Dependency) (k : ℕ) → ((j : ℕ) → HasLeftOf ds k j → ⊥)
    → (one : CoverDiagnostic) → IsCoverDiagnostic Canonical n ds one → position_of one ≡ k → rank_of one ≡ 0 → ⊥
no_same_left n ds k none (SeveralOnRight j) is at rank = several_not_same Canonical is.0 refl
no_same_left n ds k none (SameLeft j i) is at rank = none i (subst (λ (p : ℕ). HasLeftOf ds p i) at is.1)
no_same_left n ds k none (NotNeededOnLeft j a) is at rank = omega (arith, rank)
no_same_left n ds k none (NotNeededOnRight j a) is at rank = omega (arith, rank)
no_same_left n ds k none (Follows j) is at rank = omega (arith, rank)

pub no_such_left : (form : CoverForm) (n : ℕ) (ds : List Dependency) (k a : ℕ) (d : Dependency) → a < MOST_ATTRIBUTES → slice_get ds k ≡ Some d → (IsNotNeededOnLeft n ds d a → ⊥)
    → (one : CoverDiagnostic) → IsCoverDiagnostic form n ds one → position_of one ≡ k → rank_of one ≡ 1 + a → ⊥
no_such_left form n ds k a d low read none (SeveralOnRight j) is at rank = omega (arith, rank)
no_such_left form n ds k a d low read none (SameLeft j i) is at rank = omega (arith, rank)
no_such_left form n ds k a d low read none (NotNeededOnLeft j b) is at rank =
    let same : b ≡ a = omega (arith, rank) in
    none (subst (λ (c : ℕ). IsNotNeededOnLeft n ds d c) same
    (subst (λ (e : Dependency). IsNotNeededOnLeft n ds e b) (there_is ds j k is.0 d is.1 at read) is.2))
no_such_left form n ds k a d low read none (NotNeededOnRight j b) is at rank = omega (arith, rank, low)
no_such_left form n ds k a d low read none (Follows j) is at rank = omega (arith, rank, low)

pub no_such_right : (form : CoverForm) (n : ℕ) (ds : List Dependency) (k a : ℕ) (d : Dependency) → n ≤ MOST_ATTRIBUTES → All (IsWithin (below n)) ds → a < MOST_ATTRIBUTES
    → slice_get ds k ≡ Some d → (IsNotNeededOnRight n ds k d a → ⊥)
    → (one : CoverDiagnostic) → IsCoverDiagnostic form n ds one → position_of one ≡ k → rank_of one ≡ 1 + (MOST_ATTRIBUTES + a) → ⊥
no_such_right form n ds k a d most within low read none (SeveralOnRight j) is at rank = omega (arith, rank)
no_such_right form n ds k a d most within low read none (SameLeft j i) is at rank = omega (arith, rank)
no_such_right form n ds k a d most within low read none (NotNeededOnLeft j b) is at rank =
    omega (arith, rank, names_attribute form n ds (NotNeededOnLeft j b) most within is)
no_such_right form n ds k a d most within low read none (NotNeededOnRight j b) is at rank =
    let same : b ≡ a = omega (arith, rank) in
    none (subst (λ (c : ℕ). IsNotNeededOnRight n ds k d c) same
    (subst (λ (i : ℕ). IsNotNeededOnRight n ds i d b) at
    (subst (λ (e : Dependency). IsNotNeededOnRight n ds j e b) (there_is ds j k is.1.0 d is.1.1 at read) is.1.2)))
no_such_right form n ds k a d most within low read none (Follows j) is at rank = omega (arith, rank, low)

-- a minimal cover is asked nothing of what is not needed on the right
pub no_right_of_minimal : (n : ℕ) (ds : List Dependency) (k : ℕ) → n ≤ MOST_ATTRIBUTES → All (IsWithin (below n)) ds
    → (one : CoverDiagnostic) → IsCoverDiagnostic Minimal n ds one → position_of one ≡ k → 1 + MOST_ATTRIBUTES ≤ rank_of one
    → rank_of one < 1 + (MOST_ATTRIBUTES + MOST_ATTRIBUTES) → ⊥
no_right_of_minimal n ds k most within (SeveralOnRight j) is at from to = omega (arith, from)
no_right_of_minimal n ds k most within (SameLeft j i) is at from to = omega (arith, from)
no_right_of_minimal n ds k most within (NotNeededOnLeft j a) is at from to =
    omega (arith, from, names_attribute Minimal n ds (NotNeededOnLeft j a) most within is)
no_right_of_minimal n ds k most within (NotNeededOnRight j a) is at from to = several_not_same Minimal refl is.0
no_right_of_minimal n ds k most within (Follows j) is at from to = omega (arith, to)

pub no_following : (form : CoverForm) (n : ℕ) (ds : List Dependency) (k : ℕ) (d : Dependency) → n ≤ MOST_ATTRIBUTES → All (IsWithin (below n)) ds → slice_get ds k ≡ Some d
    → (IsAskedToFollow form d × FollowsFrom n (remove ds k) d → ⊥)
    → (one : CoverDiagnostic) → IsCoverDiagnostic form n ds one → position_of one ≡ k → rank_of one ≡ 1 + (MOST_ATTRIBUTES + MOST_ATTRIBUTES) → ⊥
no_following form n ds k d most within read none (SeveralOnRight j) is at rank = omega (arith, rank)
no_following form n ds k d most within read none (SameLeft j i) is at rank = omega (arith, rank)
no_following form n ds k d most within read none (NotNeededOnLeft j a) is at rank =
    omega (arith, rank, names_attribute form n ds (NotNeededOnLeft j a) most within is)
no_following form n ds k d most within read none (NotNeededOnRight j a) is at rank =
    omega (arith, rank, names_attribute form n ds (NotNeededOnRight j a) most within is)
no_following form n ds k d most within read none (Follows j) is at rank =
    let same = there_is ds j k is.0 d is.1 at read in
    none (
      subst (λ (e : Dependency). IsAskedToFollow form e) same is.2,
      subst (λ (i : ℕ). FollowsFrom n (remove ds i) d) at (subst (λ (e : Dependency). FollowsFrom n (remove ds j) e) same is.3),
    )
