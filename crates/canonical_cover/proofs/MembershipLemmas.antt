-- Where the dependencies of a merged list come from, and where those of a list go.
use Rattle.std.proofs.Common.{◌≡◌, ℕ, Bool, true, false, not, ◌&&◌, List, [], ◌∷◌, filter, refl, sym, ap, subst, ◌∙◌, ⊎_elim}
use Rattle.std.specs.Prelude.{AllPairs, Contains}
use Rattle.std.specs.List.{list_any}
use Rattle.std.proofs.lemmas.Bool.{and_parts, and_from, true≢false, false≢true, not-true}
use Rattle.std.proofs.lemmas.List.Folds.{Any-from_list_any, list_any-from_Any}
use Rattle.std.proofs.lemmas.List.Kept.{AllPairs-filter}
use Rattle.attr_sets.specs.Attributes.{Attributes, IsSubset}
use Rattle.attr_sets.proofs.AttributesLemmas.{is_same-from}
use Rattle.dep_model.specs.Dependencies.{Dependency, fd, mvd, right_of}
use Rattle.dep_model.proofs.DistinctLemmas.{filter-member, filter-keeps}
use Rattle.dep_model.proofs.ListLemmas.{Contains-nil, Contains-head, Contains-later, Contains-cases, Any-from}
use Rattle.dep_model.proofs.PairLemmas.{no_pairs, all_pairs_cons}
use Rattle.canonical_cover.specs.Merging.{have_same_left, merge_left_sides, with_right_sides}
use Rattle.canonical_cover.proofs.MergeLemmas.{same_left-trans, same_left-grown}

pub same_left-itself : (x y z : Attributes) → have_same_left (fd x y) (fd x z) ≡ true
same_left-itself x y z = is_same-from x x refl

-- ---- all right sides
-- one of the list with the left side gives its right side
grown_holds : (ds : List Dependency) (x y : Attributes) (e : Dependency) → Contains ds e → have_same_left (fd x y) e ≡ true
    → IsSubset (right_of e) (right_of (with_right_sides ds (fd x y)))
grown_holds ds x y e has same k member =
    let test : Dependency → Bool = λ f. have_same_left (fd x y) f && right_of f k in
    list_any-from_Any test ds (Any-from (λ f. test f ≡ true) ds e has (and_from (have_same_left (fd x y) e) (right_of e k) same member))

-- and each attribute comes from one
pub record GivesRight (ds : List Dependency) (e : Dependency) (k : ℕ) : Type 0 where
  pub giver : Dependency
  pub held : Contains ds giver
  pub same : have_same_left e giver ≡ true
  pub right : right_of giver k ≡ true

grown_given : (ds : List Dependency) (x y : Attributes) (k : ℕ) → right_of (with_right_sides ds (fd x y)) k ≡ true
    → GivesRight ds (with_right_sides ds (fd x y)) k
grown_given ds x y k member =
    let found = Any-from_list_any (λ f. have_same_left (fd x y) f && right_of f k) ds member in
    let both = and_parts (have_same_left (fd x y) found.1) (right_of found.1 k) found.4 in
    record { giver = found.1; held = (found.0, found.2, found.3); same = both.0; right = both.1 }

later_gives : (d : Dependency) (later : List Dependency) (e : Dependency) (k : ℕ) → GivesRight later e k → GivesRight (d ∷ later) e k
later_gives d later e k gives =
    record { giver = gives.giver; held = Contains-later d later gives.giver gives.held; same = gives.same; right = gives.right }

-- ---- where one of a merged list comes from
-- a multivalued one stands in the list; a functional one has the left side of one there, whose right side lies
-- within its own, and each attribute of its right side comes from one with its left side
pub record IsMadeOf (ds : List Dependency) (x y : Attributes) : Type 0 where
  pub first : Attributes
  pub held : Contains ds (fd x first)
  pub inside : IsSubset first y
  pub given : (k : ℕ) → y k ≡ true → GivesRight ds (fd x y) k

abbrev pub ComesFrom : List Dependency → Dependency → Type 0
ComesFrom ds (fd x y) = IsMadeOf ds x y
ComesFrom ds (mvd x y) = Contains ds (mvd x y)

comes_later : (d : Dependency) (later : List Dependency) (e : Dependency) → ComesFrom later e → ComesFrom (d ∷ later) e
comes_later d later (fd x y) from = record {
  first = from.first;
  held = Contains-later d later (fd x from.first) from.held;
  inside = from.inside;
  given = λ k member. later_gives d later (fd x y) k (from.given k member);
}
comes_later d later (mvd x y) from = Contains-later d later (mvd x y) from

comes_first : (d : Dependency) (later : List Dependency) → ComesFrom (d ∷ later) (with_right_sides (d ∷ later) d)
comes_first (fd x y) later = record {
  first = y;
  held = Contains-head (fd x y) later;
  inside = grown_holds (fd x y ∷ later) x y (fd x y) (Contains-head (fd x y) later) (same_left-itself x y y);
  given = grown_given (fd x y ∷ later) x y;
}
comes_first (mvd x y) later = Contains-head (mvd x y) later

pub comes_from : (ds : List Dependency) (e : Dependency) → Contains (merge_left_sides ds) e → ComesFrom ds e
comes_from [] e has = absurd (Contains-nil e has)
comes_from (d ∷ later) e has =
    let q : Dependency → Bool = λ f. not (have_same_left d f) in
    ⊎_elim
    (λ (here : e ≡ with_right_sides (d ∷ later) d). subst (ComesFrom (d ∷ later)) (sym here) (comes_first d later))
    (λ there. comes_later d later e (comes_from later e (filter-member q (merge_left_sides later) e there).0))
    (Contains-cases (with_right_sides (d ∷ later) d) (filter q (merge_left_sides later)) e has)

-- ---- where one of a list goes
-- a multivalued one stays; a functional one goes into one with its left side
pub record GoesInto (ds : List Dependency) (d : Dependency) : Type 0 where
  pub target : Dependency
  pub held : Contains (merge_left_sides ds) target
  pub same : have_same_left target d ≡ true
  pub inside : IsSubset (right_of d) (right_of target)

goes_first : (ds : List Dependency) (x y : Attributes) (e : Dependency) → Contains (fd x y ∷ ds) e → have_same_left (fd x y) e ≡ true
    → GoesInto (fd x y ∷ ds) e
goes_first ds x y e has same = record {
  target = with_right_sides (fd x y ∷ ds) (fd x y);
  held = Contains-head (with_right_sides (fd x y ∷ ds) (fd x y)) (filter (λ f. not (have_same_left (fd x y) f)) (merge_left_sides ds));
  same = same;
  inside = grown_holds (fd x y ∷ ds) x y e has same;
}

goes_later : (d : Dependency) (later : List Dependency) (e : Dependency) → Contains later e → GoesInto later e → GoesInto (d ∷ later) e
goes_later d later e has goes = by d (have_same_left d goes.target) refl
  where
    kept : (d : Dependency) → have_same_left d goes.target ≡ false → GoesInto (d ∷ later) e
    kept d apart =
        let q : Dependency → Bool = λ f. not (have_same_left d f) in record {
          target = goes.target;
          held = Contains-later (with_right_sides (d ∷ later) d) (filter q (merge_left_sides later)) goes.target
              (filter-keeps q (merge_left_sides later) goes.target goes.held (ap not apart));
          same = goes.same;
          inside = goes.inside;
        }

    by : (d : Dependency) (b : Bool) → have_same_left d goes.target ≡ b → GoesInto (d ∷ later) e
    by d false apart = kept d apart
    by (fd x y) true same =
        goes_first later x y e (Contains-later (fd x y) later e has) (same_left-trans (fd x y) goes.target e same goes.same)
    by (mvd x y) true same = absurd (false≢true same)

pub goes_into : (ds : List Dependency) (x y : Attributes) → Contains ds (fd x y) → GoesInto ds (fd x y)
goes_into [] x y has = absurd (Contains-nil (fd x y) has)
goes_into (d ∷ later) x y has =
    ⊎_elim
    (λ (here : fd x y ≡ d).
    subst (λ (e : Dependency). GoesInto (e ∷ later) (fd x y)) here
    (goes_first later x y (fd x y) (Contains-head (fd x y) later) (same_left-itself x y y)))
    (λ there. goes_later d later (fd x y) there (goes_into later x y there))
    (Contains-cases d later (fd x y) has)

no_same_left : (d : Dependency) (x y : Attributes) → have_same_left d (mvd x y) ≡ false
no_same_left (fd v w) x y = refl
no_same_left (mvd v w) x y = refl

pub multivalued_stays : (ds : List Dependency) (x y : Attributes) → Contains ds (mvd x y) → Contains (merge_left_sides ds) (mvd x y)
multivalued_stays [] x y has = absurd (Contains-nil (mvd x y) has)
multivalued_stays (d ∷ later) x y has =
    let q : Dependency → Bool = λ f. not (have_same_left d f) in
    let rest = filter q (merge_left_sides later) in
    ⊎_elim
    (λ (here : mvd x y ≡ d).
    subst (λ (e : Dependency). Contains (merge_left_sides (e ∷ later)) (mvd x y)) here
    (Contains-head (mvd x y) (filter (λ f. not (have_same_left (mvd x y) f)) (merge_left_sides later))))
    (λ there.
    Contains-later (with_right_sides (d ∷ later) d) rest (mvd x y)
    (filter-keeps q (merge_left_sides later) (mvd x y) (multivalued_stays later x y there) (ap not (no_same_left d x y))))
    (Contains-cases d later (mvd x y) has)

-- ---- each left side once
pub merged_once : (ds : List Dependency) → AllPairs (λ d e. have_same_left d e ≡ true → ⊥) (merge_left_sides ds)
merged_once [] = no_pairs (λ d e. have_same_left d e ≡ true → ⊥)
merged_once (d ∷ later) =
    let q : Dependency → Bool = λ f. not (have_same_left d f) in
    let R : Dependency → Dependency → Type 0 = λ e f. have_same_left e f ≡ true → ⊥ in
    all_pairs_cons R (with_right_sides (d ∷ later) d) (filter q (merge_left_sides later))
    (λ e has same.
    let passes = (filter-member q (merge_left_sides later) e has).1 in
    true≢false (sym same ∙ same_left-grown (d ∷ later) d e ∙ not-true (have_same_left d e) passes))
    (AllPairs-filter R q (merge_left_sides later) (merged_once later))
