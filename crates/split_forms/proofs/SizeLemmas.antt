-- Splitting ends: a scheme of m attributes ends in at most 2 to the power m - 1 schemes.
use Rattle.std.proofs.Common.{◌≡◌, ℕ, zero, suc, ◌+◌, ◌-◌, ◌^◌, ◌≤◌, ◌<◌, true, List, [], ◌∷◌, ◌++◌, length, sym, ap, ◌∙◌, subst, ⊎_elim, arith}
use Rattle.std.proofs.Math.Pow.{pow_mono}
use Rattle.std.proofs.lemmas.Nat.{pow_pos}
use Rattle.std.proofs.lemmas.Bool.{true≢false, ltb-true, lt-ltb}
use Rattle.std.proofs.lemmas.List.Elements.{All-cons, All-head, All-tail, All-nil, All-append}
use Rattle.std.specs.Prelude.{All}
use Rattle.attr_sets.specs.Attributes.{Attributes, below, union, difference, IsSubset, IsEmpty, count_below}
use Rattle.attr_sets.proofs.AttributesLemmas.{tell_empty, count_below-lt, count_below-pos, count_below-below}
use Rattle.dep_model.specs.Dependencies.{Dependency}
use Rattle.dep_model.specs.Projections.{IsLossless}
use Rattle.dep_model.proofs.JoinLemmas.{split_lossless}
use Rattle.dep_model.proofs.SchemeLemmas.{whole_lossless}
use Rattle.normal_forms.specs.Cuts.{IsCut}
use Rattle.split_forms.specs.Lists.{IsSplitStep, ReachedIn}

-- ---- the schemes of a list lie within the universe and are not empty
pub record IsProper (n : ℕ) (scheme : Attributes) : Type 0 where
  pub within : IsSubset scheme (below n)
  pub not_empty : IsEmpty scheme → ⊥

module _ (n : ℕ) (ds : List Dependency) (scheme x y : Attributes) (proper : IsProper n scheme)
    (cut : IsCut n ds scheme x y) where
  one_within : IsSubset (union x y) scheme
  one_within k m = grind (arith, m, cut.implied.within.0 k, cut.implied.within.1 k)

  pub one_proper : IsProper n (union x y)
  one_proper = record {
    within = λ k m. proper.within k (one_within k m);
    not_empty = λ none. true≢false (sym (grind (arith, cut.not_empty.2)) ∙ none cut.not_empty.0);
  }

  pub other_proper : IsProper n (difference scheme y)
  other_proper = record {
    within = λ k m. proper.within k (grind (arith, m));
    not_empty = λ none. true≢false (sym (grind (arith, cut.rest.1, cut.rest.2)) ∙ none cut.rest.0);
  }

  low : (k : ℕ) → scheme k ≡ true → k < n
  low k m = ltb-true k n (proper.within k m)

  pub one_smaller : count_below (union x y) n < count_below scheme n
  one_smaller = count_below-lt n (union x y) scheme cut.rest.0 one_within (low cut.rest.0 cut.rest.1)
      (grind (arith, cut.rest.2)) cut.rest.1

  pub other_smaller : count_below (difference scheme y) n < count_below scheme n
  other_smaller = count_below-lt n (difference scheme y) scheme cut.not_empty.0 (λ k m. grind (arith, m))
      (low cut.not_empty.0 cut.not_empty.1) (grind (arith, cut.not_empty.2)) cut.not_empty.1

pub proper_count : (n : ℕ) (scheme : Attributes) → IsProper n scheme → 0 < count_below scheme n
proper_count n scheme proper =
    ⊎_elim
    (λ found. count_below-pos n scheme found.0 found.1 found.2)
    (λ (none : IsEmpty scheme). absurd (proper.not_empty none))
    (tell_empty n scheme proper.within)

-- ---- the bound
-- how many schemes a list ends in at most
pub most_schemes : ℕ → List Attributes → ℕ
most_schemes n [] = 0
most_schemes n (scheme ∷ schemes) = 2 ^ (count_below scheme n - 1) + most_schemes n schemes

pub most_schemes-append : (n : ℕ) (a b : List Attributes) → most_schemes n (a ++ b) ≡ most_schemes n a + most_schemes n b
unfolding most_schemes
most_schemes-append n [] b = omega arith
most_schemes-append n (scheme ∷ a) b = omega (arith, most_schemes-append n a b)

pub most_schemes-length : (n : ℕ) (l : List Attributes) → length l ≤ most_schemes n l
unfolding most_schemes
most_schemes-length n [] = omega arith
most_schemes-length n (scheme ∷ l) = omega (arith, most_schemes-length n l, pow_pos (count_below scheme n - 1))

two_halves : (a b c : ℕ) → 0 < a → 0 < b → a < c → b < c → 2 ^ (a - 1) + 2 ^ (b - 1) ≤ 2 ^ (c - 1)
two_halves a b c some_a some_b less_a less_b =
    let half : 2 ^ (a - 1) ≤ 2 ^ (c - 2) = pow_mono (omega arith) in
    let other : 2 ^ (b - 1) ≤ 2 ^ (c - 2) = pow_mono (omega arith) in
    let next : c - 1 ≡ suc (c - 2) = omega arith in
    let double : 2 ^ (c - 1) ≡ 2 ^ suc (c - 2) = ap (λ (m : ℕ). 2 ^ m) next in
    omega (arith, half, other, double)

-- ---- the parts of a list
pub All-append_left : {X : Type 0} (P : X → Type 0) (a b : List X) → All P (a ++ b) → All P a
All-append_left P [] b all = All-nil P
All-append_left P (x ∷ a) b all = All-cons P x a (All-head P x (a ++ b) all) (All-append_left P a b (All-tail P x (a ++ b) all))

pub All-append_right : {X : Type 0} (P : X → Type 0) (a b : List X) → All P (a ++ b) → All P b
All-append_right P [] b all = all
All-append_right P (x ∷ a) b all = All-append_right P a b (All-tail P x (a ++ b) all)

-- ---- a step keeps both
module _ (n : ℕ) (ds : List Dependency) (Whole : Attributes → Type 0) (Cut : Attributes → Attributes → Attributes → Type 0)
    (parts : (s x y : Attributes) → IsProper n s → Cut s x y → IsCut n ds s x y) where
  module _ (l a : List Attributes) (all : All (IsProper n) l) (step : IsSplitStep Whole Cut l a) where
    whole_list : All (IsProper n) (step.earlier ++ step.scheme ∷ step.later)
    whole_list = subst (λ (s : List Attributes). All (IsProper n) s) step.list all

    from_scheme : All (IsProper n) (step.scheme ∷ step.later)
    from_scheme = All-append_right (IsProper n) step.earlier (step.scheme ∷ step.later) whole_list

    scheme_proper : IsProper n step.scheme
    scheme_proper = All-head (IsProper n) step.scheme step.later from_scheme

    halves : IsCut n ds step.scheme step.x step.y
    halves = parts step.scheme step.x step.y scheme_proper step.cut

    abbrev first : Attributes
    first = union step.x step.y

    abbrev second : Attributes
    second = difference step.scheme step.y

    pub step_proper : All (IsProper n) a
    step_proper =
        let later = All-tail (IsProper n) step.scheme step.later from_scheme in
        let one = one_proper n ds step.scheme step.x step.y scheme_proper halves in
        let other = other_proper n ds step.scheme step.x step.y scheme_proper halves in
        subst (λ (s : List Attributes). All (IsProper n) s) (sym step.replaced)
        (All-append (IsProper n) step.earlier (first ∷ second ∷ step.later)
        (All-append_left (IsProper n) step.earlier (step.scheme ∷ step.later) whole_list)
        (All-cons (IsProper n) first (second ∷ step.later) one (All-cons (IsProper n) second step.later other later)))

    pub step_most : most_schemes n a ≤ most_schemes n l
    unfolding most_schemes
    step_most =
        let one = one_proper n ds step.scheme step.x step.y scheme_proper halves in
        let other = other_proper n ds step.scheme step.x step.y scheme_proper halves in
        let shared = two_halves (count_below first n) (count_below second n) (count_below step.scheme n)
        (proper_count n first one) (proper_count n second other)
        (one_smaller n ds step.scheme step.x step.y scheme_proper halves)
        (other_smaller n ds step.scheme step.x step.y scheme_proper halves) in
        omega (
          arith,
          shared,
          ap (λ (s : List Attributes). most_schemes n s) step.list,
          ap (λ (s : List Attributes). most_schemes n s) step.replaced,
          most_schemes-append n step.earlier (step.scheme ∷ step.later),
          most_schemes-append n step.earlier (first ∷ second ∷ step.later),
        )

  -- of the reached lists
  pub reached_proper : 0 < n → (count : ℕ) (l : List Attributes) → ReachedIn n Whole Cut count l → All (IsProper n) l
  reached_proper not_empty zero l p =
      subst (λ (s : List Attributes). All (IsProper n) s) (sym p)
      (All-cons (IsProper n) (below n) [] universe (All-nil (IsProper n)))
    where
      universe : IsProper n (below n)
      universe = record {
        within = λ k m. m;
        not_empty = λ none. true≢false (sym (lt-ltb 0 n not_empty) ∙ none 0);
      }
  reached_proper not_empty (suc count) l p = step_proper p.0 l (reached_proper not_empty count p.0 p.1) p.2

  pub reached_most : 0 < n → (count : ℕ) (l : List Attributes) → ReachedIn n Whole Cut count l → most_schemes n l ≤ 2 ^ (n - 1)
  unfolding most_schemes
  reached_most not_empty zero l p =
      omega (
        arith,
        ap (λ (s : List Attributes). most_schemes n s) p,
        ap (λ (m : ℕ). 2 ^ (m - 1))
            (count_below-below n n (omega arith)),
      )
  reached_most not_empty (suc count) l p =
      omega (arith, reached_most not_empty count p.0 p.1, step_most p.0 l (reached_proper not_empty count p.0 p.1) p.2)

  pub reached_within_limit : 0 < n → (count : ℕ) (l : List Attributes) → ReachedIn n Whole Cut count l → length l ≤ 2 ^ (n - 1)
  reached_within_limit not_empty count l p = omega (arith, most_schemes-length n l, reached_most not_empty count l p)

  -- and they are lossless
  pub reached_lossless : 0 < n → (count : ℕ) (l : List Attributes) → ReachedIn n Whole Cut count l → IsLossless n ds l
  reached_lossless not_empty zero l p = subst (λ (s : List Attributes). IsLossless n ds s) (sym p) (whole_lossless n ds)
  reached_lossless not_empty (suc count) l p =
      let step = p.2 in
      let cut = halves p.0 l (reached_proper not_empty count p.0 p.1) step in
      subst (λ (s : List Attributes). IsLossless n ds s) (sym step.replaced)
      (split_lossless n ds step.earlier step.later step.scheme step.x step.y cut.implied cut.apart
      (subst (λ (s : List Attributes). IsLossless n ds s) step.list (reached_lossless not_empty count p.0 p.1)))
