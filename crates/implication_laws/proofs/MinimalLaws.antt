-- Nothing is said of exactly the schemas that are minimal by kind.
use Rattle.std.proofs.Common.{◌≡◌, ◌<◌, ◌≤◌, ◌↔◌, ℕ, true, false, List, ◌∷◌, ◌++◌, length, refl, sym, subst, ap, ap₂, ◌∙◌, ⊎_elim, arith}
use Rattle.std.specs.List.{remove}
use Rattle.std.specs.Prelude.{All, Contains, Some, slice_get}
use Rattle.std.proofs.lemmas.Bool.{true≢false, false≢true, cases_eq, ltb-true, eqb-true}
use Rattle.std.proofs.lemmas.Bool.Decides.{nat_tests}
use Rattle.std.proofs.lemmas.List.Elements.{All-contains, All-contains_itself, All-weaker, filter-append, filter_passes}
use Rattle.std.proofs.lemmas.Option.{slice_get_read}
use Rattle.attr_sets.specs.Attributes.{Attributes, below, only, difference, count_below, IsSubset, IsEmpty}
use Rattle.attr_sets.specs.declared.set.TheConstants.{MOST_ATTRIBUTES}
use Rattle.attr_sets.proofs.AttributesLemmas.{same_from_within, tell_empty, count_below-lt, count_below-only}
use Rattle.cover_accounts.specs.CoverDiagnostics.{FollowsFrom, IsAskedToFollow, IsCoverDiagnostic}
use Rattle.cover_accounts.specs.declared.diagnostic.CoverDiagnostic.{CoverDiagnostic}
use Rattle.cover_accounts.specs.declared.diagnostic.CoverDiagnostic.TheVariants.{SeveralOnRight, NotNeededOnLeft, Follows}
use Rattle.cover_accounts.specs.declared.diagnostic.CoverForm.{CoverForm}
use Rattle.cover_accounts.specs.declared.diagnostic.CoverForm.TheVariants.{Minimal, Canonical}
use Rattle.cover_accounts.proofs.CoverLemmas.{no_diagnostic}
use Rattle.dep_model.specs.Dependencies.{Dependency, fd, mvd, is_fd, functional_part, left_of, right_of, IsWithin}
use Rattle.dep_model.specs.Implication.{Implies}
use Rattle.dep_model.proofs.DepLemmas.{dependencies_all-from}
use Rattle.dep_model.proofs.DistinctLemmas.{filter-member}
use Rattle.fd_closure.proofs.ClosedSets.{all_functional}
use Rattle.min_cover.specs.Covers.{HaveSameLegal, IsSingle, IsMinimalCover, IsWholeCover}
use Rattle.proof_grammar.proofs.NodeLemmas.{slice_get-append}
use Rattle.schema_model.specs.Schemas.{Schema, deps_of, width_of, theory_of, universe_of}
use Rattle.implication_laws.specs.Minimality.{IsMinimalByKind}
use Rattle.implication_laws.proofs.PartedLists.{without_middle, middle_holds, parted_with_filtered}

-- ---- a list without a diagnostic
-- nothing is said of any of its dependencies
abbrev pub HasNone : CoverForm → ℕ → List Dependency → Type 0
HasNone form n ds = (one : CoverDiagnostic) → IsCoverDiagnostic form n ds one → ⊥

-- the dependency at the place of a member
pub at_place : (ds : List Dependency) (d : Dependency) (given : Contains ds d) → slice_get ds given.0 ≡ Some d
at_place ds d given = slice_get_read ds (length ds) given.0 d refl given.1 (sym given.2)

-- one that is asked does not follow from the others
none_follows : (form : CoverForm) (n : ℕ) (ds before after : List Dependency) (d : Dependency) → HasNone form n ds → ds ≡ before ++ d ∷ after
    → IsAskedToFollow form d → FollowsFrom n (before ++ after) d → ⊥
none_follows form n ds before after d none split asked follows =
    let left : remove ds (length before) ≡ before ++ after =
    ap (λ (es : List Dependency). remove es (length before)) split ∙ without_middle before after d in
    none (Follows (length before)) (
      d,
      subst (λ (es : List Dependency). slice_get es (length before) ≡ Some d) (sym split) (slice_get-append before d after),
      asked,
      subst (λ (es : List Dependency). FollowsFrom n es d) (sym left) follows,
    )

functional_needed : (n : ℕ) (ds before after : List Dependency) (d : Dependency) → HasNone Minimal n ds
    → functional_part ds ≡ before ++ d ∷ after → Implies n (before ++ after) d → ⊥
functional_needed n ds before after (fd x y) none split implied =
    let parted = parted_with_filtered is_fd ds before after (fd x y) split in
    let others : functional_part (parted.front ++ parted.back) ≡ before ++ after =
    filter-append is_fd parted.front parted.back ∙ ap₂ ◌++◌ parted.passed_before parted.passed_after in
    none_follows Minimal n ds parted.front parted.back (fd x y) none parted.split tt
    (subst (λ (es : List Dependency). Implies n es (fd x y)) (sym others) implied)
functional_needed n ds before after (mvd x y) none split implied =
    absurd (false≢true (middle_holds (λ (e : Dependency). is_fd e ≡ true) (functional_part ds) before after (mvd x y) split (filter_passes is_fd ds)))

-- every form asks a multivalued one
asked_multivalued : (form : CoverForm) (x y : Attributes) → IsAskedToFollow form (mvd x y)
asked_multivalued Minimal x y = tt
asked_multivalued Canonical x y = tt

pub multivalued_needed : (form : CoverForm) (n : ℕ) (ds before after : List Dependency) (d : Dependency) → HasNone form n ds → ds ≡ before ++ d ∷ after
    → is_fd d ≡ false → Implies n (before ++ after) d → ⊥
multivalued_needed form n ds before after (fd x y) none split kind implied = absurd (true≢false kind)
multivalued_needed form n ds before after (mvd x y) none split kind implied =
    none_follows form n ds before after (mvd x y) none split (asked_multivalued form x y) implied

-- no attribute of a left side can be left out
pub left_needed : (form : CoverForm) (n : ℕ) (ds : List Dependency) (d : Dependency) (i : ℕ) → HasNone form n ds → Contains (functional_part ds) d → left_of d i ≡ true
    → Implies n (functional_part ds) (fd (difference (left_of d) (only i)) (right_of d)) → ⊥
left_needed form n ds (fd x y) i none given member implied =
    let held = (filter-member is_fd ds (fd x y) given).0 in
    none (NotNeededOnLeft held.0 i) (fd x y, at_place ds (fd x y) held, (member, implied))
left_needed form n ds (mvd x y) i none given member implied = absurd (false≢true (filter-member is_fd ds (mvd x y) given).1)

-- nor has a functional one nothing on the right, which would follow from the others
pub empty_told : (form : CoverForm) (n : ℕ) (ds : List Dependency) (x y : Attributes) → HasNone form n ds → Contains ds (fd x y) → IsEmpty y → ⊥
empty_told form n ds x y none held empty =
    none (Follows held.0) (
      fd x y,
      at_place ds (fd x y) held,
      asked form,
      λ r legal t u t_in u_in agree k member. absurd (true≢false (sym member ∙ empty k)),
    )
  where
    asked : (form : CoverForm) → IsAskedToFollow form (fd x y)
    asked Minimal = tt
    asked Canonical = empty

-- ---- one attribute on the right
-- a second attribute makes two
two_members : (y : Attributes) (a k : ℕ) → a < MOST_ATTRIBUTES → k < MOST_ATTRIBUTES → y a ≡ true → y k ≡ true → (k ≡ a → ⊥)
    → 1 < count_below y MOST_ATTRIBUTES
two_members y a k a_low k_low first second other =
    let alone : IsSubset (only a) y = λ j is. ap y (eqb-true j a is) ∙ first in
    let more = count_below-lt MOST_ATTRIBUTES (only a) y k alone k_low (grind (arith, nat_tests, other)) second in
    omega (arith, more, count_below-only MOST_ATTRIBUTES a a_low)

one_member : (n : ℕ) (y : Attributes) (a : ℕ) → n ≤ MOST_ATTRIBUTES → IsSubset y (below n) → (1 < count_below y MOST_ATTRIBUTES → ⊥) → a < n
    → y a ≡ true → y ≡ only a
one_member n y a limit within few low member =
    same_from_within y (only a)
    (λ k is. ⊎_elim
    (λ (same : k ≡ a). grind (arith, nat_tests, same))
    (λ (other : k ≡ a → ⊥).
    let k_low : k < n = ltb-true k n (within k is) in
    absurd (few (two_members y a k (omega (arith, low, limit)) (omega (arith, k_low, limit)) member is other)))
    (cases_eq k a))
    (λ k is. ap y (eqb-true k a is) ∙ member)

single_right : (n : ℕ) (ds : List Dependency) (d : Dependency) → HasNone Minimal n ds → n ≤ MOST_ATTRIBUTES → IsWithin (below n) d
    → Contains ds d → is_fd d ≡ true → IsSingle d
single_right n ds (fd x y) none limit within held kind =
    ⊎_elim
    (λ found.
    let alone = one_member n y found.0 limit within.1 (λ many. none (SeveralOnRight held.0) (refl, (fd x y, at_place ds (fd x y) held, many))) found.1 found.2 in
    (x, found.0, ap (λ (z : Attributes). fd x z) alone))
    (λ (empty : IsEmpty y). absurd (empty_told Minimal n ds x y none held empty))
    (tell_empty n y within.1)
single_right n ds (mvd x y) none limit within held kind = absurd (false≢true kind)

all_single : (n : ℕ) (ds : List Dependency) → HasNone Minimal n ds → n ≤ MOST_ATTRIBUTES → All (IsWithin (below n)) ds → All IsSingle (functional_part ds)
all_single n ds none limit within =
    All-weaker (Contains (functional_part ds)) IsSingle
    (λ d given.
    let found = filter-member is_fd ds d given in
    single_right n ds d none limit (All-contains (IsWithin (below n)) ds d within found.0) found.0 found.1)
    (functional_part ds) (All-contains_itself (functional_part ds))

-- ---- both ways
pub itself : (n : ℕ) (ds : List Dependency) → HaveSameLegal n ds ds
itself n ds r = ((λ legal. legal), (λ legal. legal))

pub schema_within : (schema : Schema) → All (IsWithin (universe_of schema)) (theory_of schema)
schema_within schema = dependencies_all-from (IsWithin (universe_of schema)) (deps_of schema) schema.valid.deps_within

pub multivalued_without : (form : CoverForm) (schema : Schema) → HasNone form (width_of schema) (theory_of schema)
    → IsWholeCover (width_of schema) (theory_of schema) (theory_of schema)
multivalued_without form schema none =
    let n = width_of schema in
    let ds = theory_of schema in
    record { same_legal = itself n ds; needed = λ before after d. multivalued_needed form n ds before after d none }

pub minimal_without : (schema : Schema) → HasNone Minimal (width_of schema) (theory_of schema) → IsMinimalByKind schema
minimal_without schema none =
    let n = width_of schema in
    let ds = theory_of schema in
    record {
      functional = record {
        single = all_single n ds none schema.valid.names_within_limit (schema_within schema);
        same_legal = itself n (functional_part ds);
        needed = λ before after d. functional_needed n ds before after d none;
        short = λ d given i. left_needed Minimal n ds d i none given;
      };
      multivalued = multivalued_without Minimal schema none;
    }

pub none_of_minimal : (schema : Schema) → IsMinimalByKind schema → HasNone Minimal (width_of schema) (theory_of schema)
none_of_minimal schema minimal one is =
    no_diagnostic (width_of schema) (theory_of schema) (theory_of schema) one minimal.functional minimal.multivalued is

-- ---- functional dependencies alone
-- none of them is multivalued
pub none_multivalued : (n : ℕ) (ds : List Dependency) → functional_part ds ≡ ds → IsWholeCover n ds ds
none_multivalued n ds same = record {
  same_legal = itself n ds;
  needed = λ before after d split kind implied.
      true≢false (sym (middle_holds (λ (e : Dependency). is_fd e ≡ true) ds before after d split (all_functional ds same)) ∙ kind);
}

pub minimal_of_functional : (schema : Schema) → functional_part (theory_of schema) ≡ theory_of schema
    → IsMinimalByKind schema ↔ IsMinimalCover (width_of schema) (theory_of schema) (theory_of schema)
minimal_of_functional schema same =
    let n = width_of schema in
    let ds = theory_of schema in (
      (λ minimal. subst (λ (es : List Dependency). IsMinimalCover n ds es) same minimal.functional),
      (λ minimal. record {
        functional = subst (λ (es : List Dependency). IsMinimalCover n ds es) (sym same) minimal;
        multivalued = none_multivalued n ds same;
      }),
    )
