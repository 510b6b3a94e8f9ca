-- A search over the subsets of a set, in their order, for the first of which something holds.
use Rattle.std.proofs.Common.{◌≡◌, ℕ, ◌-◌, ◌^◌, ◌<◌, ◌≤◌, refl, sym, subst, ◌∙◌, ◌⊎◌, ⊎_elim, inl, inr, arith}
use Rattle.std.proofs.lemmas.Bool.{true≢false, cases_lt}
use Rattle.std.specs.Prelude.{Option, Some, None, IsNone, IfSome}
use Rattle.attr_sets.specs.declared.set.AttrSet.{AttrSet}
use Rattle.attr_sets.specs.declared.set.TheConstants.{MOST_ATTRIBUTES}
use Rattle.attr_sets.specs.Sets.{attributes}
use Rattle.attr_sets.specs.Attributes.{Attributes, below, none, intersection, IsSubset, IsBefore, IsNextSubset}
use Rattle.attr_sets.proofs.OrderLemmas.{before_from_lt, IsBefore-irrefl, IsBefore-trans, tell_before, next_subset-before, none-first, whole-last}
use Rattle.attr_sets.proofs.AttributesLemmas.{same_at}
use Rattle.normal_forms.specs.Passing.{PassesOver}

-- a set comes before the next one to try; where there is no next, each does
abbrev pub IsPassed : Attributes → Option AttrSet → Type 0
IsPassed x (Some next) = IsBefore x (attributes next)
IsPassed x None = Unit {0}

-- the next set is a subset, and P holds of none that was passed
pub record IsSearched (P : Attributes → Type 0) (whole : Attributes) (next : Option AttrSet) : Type 0 where
  pub within : IfSome next (λ set. IsSubset (attributes set) whole)
  pub none : (x : Attributes) → IsSubset x whole → IsPassed x next → P x → ⊥

pub search_start : (P : Attributes → Type 0) (whole : Attributes) (set : AttrSet) → attributes set ≡ none → IsSearched P whole (Some set)
search_start P whole set empty = record {
  within = λ k m. absurd (true≢false (sym m ∙ same_at empty k));
  none = λ x x_in before _. none-first x (subst (λ (v : Attributes). IsBefore x v) empty before);
}

-- what holds of fewer sets
pub search_weaker : (P Q : Attributes → Type 0) (whole : Attributes) (next : Option AttrSet) → ((x : Attributes) → Q x → P x) → IsSearched P whole next → IsSearched Q whole next
search_weaker P Q whole next gives before = record {
  within = before.within;
  none = λ x x_in passed q. before.none x x_in passed (gives x q);
}

-- the set that was tried, and what comes before it
fails_up_to : (n : ℕ) (P : Attributes → Type 0) (whole : Attributes) (set : AttrSet) (x : Attributes) → IsSubset whole (below n) → IsSearched P whole (Some set) → (P (attributes set) → ⊥) → IsSubset x whole
    → (x ≡ attributes set) ⊎ IsBefore x (attributes set) → P x → ⊥
fails_up_to n P whole set x low before not x_in up p =
    ⊎_elim
    (λ (same : x ≡ attributes set). not (subst P same p))
    (λ (earlier : IsBefore x (attributes set)). before.none x x_in earlier p)
    up

-- the search goes on after what is passed over
pub search_past : (n : ℕ) (P : Attributes → Type 0) (whole : Attributes) (set last : AttrSet) → IsSubset whole (below n) → IsSearched P whole (Some set) → (P (attributes set) → ⊥)
    → IsSubset (attributes set) (attributes last) → IsSubset (attributes last) whole → PassesOver P whole (attributes set) (attributes last) → IsSearched P whole (Some last) × (P (attributes last) → ⊥)
search_past n P whole set last low before not holds within passes = (
  record {
    within = within;
    none = λ x x_in earlier p. ⊎_elim
        (λ (same : x ≡ attributes set). not (subst P same p))
        (⊎_elim
        (λ (first : IsBefore x (attributes set)). before.none x x_in first p)
        (λ (after : IsBefore (attributes set) x). passes x x_in after (λ later. IsBefore-irrefl x (IsBefore-trans x (attributes last) x earlier later)) p))
        (tell_before n x (attributes set) (λ k m. low k (x_in k m)) (λ k m. low k (before.within k m)));
  },
  (λ p. ⊎_elim
      (λ (same : attributes last ≡ attributes set). not (subst P same p))
      (⊎_elim
      (λ (first : IsBefore (attributes last) (attributes set)). true≢false (sym (holds first.0 first.2) ∙ first.1))
      (λ (after : IsBefore (attributes set) (attributes last)). passes (attributes last) within after (IsBefore-irrefl (attributes last)) p))
      (tell_before n (attributes last) (attributes set) (λ k m. low k (within k m)) (λ k m. low k (before.within k m)))),
)

-- the search goes on, or ends
pub search_on : (n : ℕ) (P : Attributes → Type 0) (whole : Attributes) (set : AttrSet) (next : Option AttrSet) → IsSubset whole (below n) → IsSearched P whole (Some set) → (P (attributes set) → ⊥)
    → (IsNone next → attributes set ≡ whole) → IfSome next (λ y. IsNextSubset whole (attributes set) (attributes y)) → IsSearched P whole next
search_on n P whole set None low before not last is = record {
  within = tt;
  none = λ x x_in _ p. fails_up_to n P whole set x low before not x_in
      (⊎_elim inl (⊎_elim inr (λ after. absurd (whole-last whole x x_in (subst (λ (v : Attributes). IsBefore v x) (last refl) after))))
      (tell_before n x (attributes set) (λ k m. low k (x_in k m)) (λ k m. low k (before.within k m)))) p;
}
search_on n P whole set (Some next) low before not last is = record {
  within = is.within;
  none = λ x x_in passed p. fails_up_to n P whole set x low before not x_in (next_subset-before n whole (attributes set) (attributes next) x low before.within is x_in passed) p;
}

pub search_end : (P : Attributes → Type 0) (whole : Attributes) → IsSearched P whole None → (x : Attributes) → IsSubset x whole → P x → ⊥
search_end P whole searched x x_in p = searched.none x x_in tt p

-- ---- how far the search is from its end
abbrev pub subsets_left : Option AttrSet → ℕ
subsets_left (Some set) = 2 ^ MOST_ATTRIBUTES - set.0
subsets_left None = 0

less_from : (set : AttrSet) (next : Option AttrSet) → set.0 < 2 ^ MOST_ATTRIBUTES → IfSome next (λ y. set.0 < y.0) → subsets_left next < subsets_left (Some set)
less_from set None fits more = omega (arith, fits)
less_from set (Some next) fits more = omega (arith, fits, more)

less_after : (set last : AttrSet) (next : Option AttrSet) → set.0 < 2 ^ MOST_ATTRIBUTES → last.0 < 2 ^ MOST_ATTRIBUTES → set.0 ≤ last.0 → IfSome next (λ y. last.0 < y.0)
    → subsets_left next < subsets_left (Some set)
less_after set last None fits last_fits on more = omega (arith, fits)
less_after set last (Some next) fits last_fits on more = omega (arith, fits, last_fits, on, more)

pub subsets_left-less : (set : AttrSet) (now next : Option AttrSet) → now ≡ Some set → set.0 < 2 ^ MOST_ATTRIBUTES → IfSome next (λ y. set.0 < y.0) → subsets_left next < subsets_left now
subsets_left-less set now next is fits more = subst (λ (o : Option AttrSet). subsets_left next < subsets_left o) (sym is) (less_from set next fits more)

-- what comes after a set that the last one passed over has is nearer to the end
pub passed_less : (set last : AttrSet) (now next : Option AttrSet) → now ≡ Some set → set.0 < 2 ^ MOST_ATTRIBUTES → last.0 < 2 ^ MOST_ATTRIBUTES → IsSubset (attributes set) (attributes last)
    → IfSome next (λ y. last.0 < y.0) → subsets_left next < subsets_left now
passed_less set last now next is fits last_fits holds more =
    let on : set.0 ≤ last.0 = ⊎_elim
    (λ (back : last.0 < set.0). let before = before_from_lt last set fits back in absurd (true≢false (sym (holds before.0 before.2) ∙ before.1)))
    (λ (up : set.0 ≤ last.0). up)
    (cases_lt last.0 set.0) in
    subst (λ (o : Option AttrSet). subsets_left next < subsets_left o) (sym is) (less_after set last next fits last_fits on more)

-- ---- what a subset has of a set
-- it comes before what the subset comes before
pub intersection_before : (n : ℕ) (whole v x : Attributes) → IsSubset v (below n) → IsBefore v x → IsBefore (intersection v whole) x
intersection_before n whole v x low before =
    ⊎_elim
    (λ (same : intersection v whole ≡ v). subst (λ (u : Attributes). IsBefore u x) (sym same) before)
    (⊎_elim
    (λ (first : IsBefore (intersection v whole) v). IsBefore-trans (intersection v whole) v x first before)
    (λ (back : IsBefore v (intersection v whole)). absurd (true≢false (sym (grind (arith, back.2)) ∙ back.1))))
    (tell_before n (intersection v whole) v (λ k m. low k (grind (arith, m))) low)
