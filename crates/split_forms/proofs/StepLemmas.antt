-- A list of schemes has at most one successor, so the reached lists are one sequence, each longer
-- by one.
use Rattle.std.proofs.Common.{◌≡◌, ℕ, zero, suc, ◌+◌, ◌≤◌, List, [], ◌∷◌, ◌++◌, length, length-append, refl, sym, ap, ◌∙◌, subst, ⊎_elim, arith}
use Rattle.std.proofs.lemmas.Bool.{cases_eq}
use Rattle.std.proofs.lemmas.List.Elements.{All-head, All-tail}
use Rattle.std.specs.Prelude.{All}
use Rattle.attr_sets.specs.Attributes.{Attributes, union, difference}
use Rattle.split_forms.specs.Lists.{IsSplitStep, ReachedIn}
use Rattle.split_forms.proofs.SizeLemmas.{IsProper, All-append_right}

-- ---- lists with a first element
first_or : {X : Type 0} → X → List X → X
first_or d [] = d
first_or d (x ∷ xs) = x

tail_of : {X : Type 0} → List X → List X
tail_of [] = []
tail_of (x ∷ xs) = xs

pub cons-head : {X : Type 0} (x y : X) (xs ys : List X) → x ∷ xs ≡ y ∷ ys → x ≡ y
unfolding first_or
cons-head x y xs ys e = ap (first_or x) e

pub cons-tail : {X : Type 0} (x y : X) (xs ys : List X) → x ∷ xs ≡ y ∷ ys → xs ≡ ys
unfolding tail_of
cons-tail x y xs ys e = ap tail_of e

-- ---- the first element that is not such
pub split_at_first-unique : {X : Type 0} (P : X → Type 0) (a b : List X) (s t : X) (c d : List X) → a ++ s ∷ c ≡ b ++ t ∷ d
    → All P a → All P b → (P s → ⊥) → (P t → ⊥) → (a ≡ b) × (s ≡ t) × (c ≡ d)
split_at_first-unique P [] [] s t c d e all_a all_b not_s not_t = (refl, cons-head s t c d e, cons-tail s t c d e)
split_at_first-unique P [] (z ∷ b) s t c d e all_a all_b not_s not_t =
    absurd (not_s (subst P (sym (cons-head s z c (b ++ t ∷ d) e)) (All-head P z b all_b)))
split_at_first-unique P (z ∷ a) [] s t c d e all_a all_b not_s not_t =
    absurd (not_t (subst P (cons-head z t (a ++ s ∷ c) d e) (All-head P z a all_a)))
split_at_first-unique {X} P (z ∷ a) (w ∷ b) s t c d e all_a all_b not_s not_t =
    let head = cons-head z w (a ++ s ∷ c) (b ++ t ∷ d) e in
    let later = split_at_first-unique P a b s t c d (cons-tail z w (a ++ s ∷ c) (b ++ t ∷ d) e) (All-tail P z a all_a)
    (All-tail P w b all_b) not_s not_t in
    (ap (λ (u : X). u ∷ a) head ∙ ap (λ (l : List X). w ∷ l) later.0, later.1, later.2)

-- ---- steps
module _ (n : ℕ) (Whole : Attributes → Type 0) (Cut : Attributes → Attributes → Attributes → Type 0)
    (not_whole : (s x y : Attributes) → IsProper n s → Cut s x y → Whole s → ⊥)
    (one_cut : (s x y v w : Attributes) → IsProper n s → Cut s x y → Cut s v w → (x ≡ v) × (y ≡ w)) where
  step_scheme : (l a : List Attributes) → All (IsProper n) l → (step : IsSplitStep Whole Cut l a) → IsProper n step.scheme
  step_scheme l a proper step =
      All-head (IsProper n) step.scheme step.later
      (All-append_right (IsProper n) step.earlier (step.scheme ∷ step.later)
      (subst (λ (s : List Attributes). All (IsProper n) s) step.list proper))

  pub one_successor : (l a b : List Attributes) → All (IsProper n) l → IsSplitStep Whole Cut l a
      → IsSplitStep Whole Cut l b → a ≡ b
  one_successor l a b proper p q =
      let same = split_at_first-unique Whole p.earlier q.earlier p.scheme q.scheme p.later q.later (sym p.list ∙ q.list) p.whole
      q.whole
      (not_whole p.scheme p.x p.y (step_scheme l a proper p) p.cut)
      (not_whole q.scheme q.x q.y (step_scheme l b proper q) q.cut) in
      let sides = one_cut q.scheme p.x p.y q.x q.y (step_scheme l b proper q)
      (subst (λ (s : Attributes). Cut s p.x p.y) same.1 p.cut) q.cut in
      p.replaced
      ∙ ap (λ (e : List Attributes). e ++ union p.x p.y ∷ difference p.scheme p.y ∷ p.later) same.0
      ∙ ap (λ (s : Attributes). q.earlier ++ union p.x p.y ∷ difference s p.y ∷ p.later) same.1
      ∙ ap (λ (c : List Attributes). q.earlier ++ union p.x p.y ∷ difference q.scheme p.y ∷ c) same.2
      ∙ ap (λ (x : Attributes). q.earlier ++ union x p.y ∷ difference q.scheme p.y ∷ q.later) sides.0
      ∙ ap (λ (y : Attributes). q.earlier ++ union q.x y ∷ difference q.scheme y ∷ q.later) sides.1
      ∙ sym q.replaced

  -- two steps from a list cut the same scheme by the same sides
  pub one_cutting : (l a b : List Attributes) → All (IsProper n) l → (p : IsSplitStep Whole Cut l a)
      → (q : IsSplitStep Whole Cut l b) → (p.scheme ≡ q.scheme) × ((p.x ≡ q.x) × (p.y ≡ q.y))
  one_cutting l a b proper p q =
      let same = split_at_first-unique Whole p.earlier q.earlier p.scheme q.scheme p.later q.later (sym p.list ∙ q.list) p.whole
      q.whole
      (not_whole p.scheme p.x p.y (step_scheme l a proper p) p.cut)
      (not_whole q.scheme q.x q.y (step_scheme l b proper q) q.cut) in
      (same.1, one_cut q.scheme p.x p.y q.x q.y (step_scheme l b proper q) (subst (λ (s : Attributes). Cut s p.x p.y) same.1 p.cut) q.cut)

  -- a list all of whose schemes stay whole has no successor
  pub whole_is_last : (l a : List Attributes) → All (IsProper n) l → All Whole l → IsSplitStep Whole Cut l a → ⊥
  whole_is_last l a proper all step =
      let whole : All Whole (step.earlier ++ step.scheme ∷ step.later) =
      subst (λ (s : List Attributes). All Whole s) step.list all in
      not_whole step.scheme step.x step.y (step_scheme l a proper step) step.cut
      (All-head Whole step.scheme step.later (All-append_right Whole step.earlier (step.scheme ∷ step.later) whole))

  -- nor has one whose first scheme that does not stay whole can't be cut
  pub stuck_is_last : (l a earlier later : List Attributes) (scheme : Attributes) → All (IsProper n) l
      → l ≡ earlier ++ scheme ∷ later → All Whole earlier → (Whole scheme → ⊥)
      → ((x y : Attributes) → Cut scheme x y → ⊥) → IsSplitStep Whole Cut l a → ⊥
  stuck_is_last l a earlier later scheme proper list whole not none step =
      let same = split_at_first-unique Whole earlier step.earlier scheme step.scheme later step.later (sym list ∙ step.list)
      whole step.whole not
      (not_whole step.scheme step.x step.y (step_scheme l a proper step) step.cut) in
      none step.x step.y (subst (λ (s : Attributes). Cut s step.x step.y) (sym same.1) step.cut)

  -- ---- reached lists
  module _ (proper : (count : ℕ) (l : List Attributes) → ReachedIn n Whole Cut count l → All (IsProper n) l) where
    pub reached_once : (count : ℕ) (a b : List Attributes) → ReachedIn n Whole Cut count a → ReachedIn n Whole Cut count b
        → a ≡ b
    reached_once zero a b p q = p ∙ sym q
    reached_once (suc count) a b p q =
        one_successor q.0 a b (proper count q.0 q.1)
        (subst (λ (l : List Attributes). IsSplitStep Whole Cut l a) (reached_once count p.0 q.0 p.1 q.1) p.2) q.2

    -- a list without a successor is the last
    pub last_reached : (count : ℕ) (last : List Attributes) → ReachedIn n Whole Cut count last
        → ((a : List Attributes) → IsSplitStep Whole Cut last a → ⊥)
        → (steps : ℕ) (l : List Attributes) → ReachedIn n Whole Cut steps l → steps ≤ count
    last_reached count last reached none zero l p = omega arith
    last_reached count last reached none (suc steps) l p =
        let earlier : steps ≤ count = last_reached count last reached none steps p.0 p.1 in
        ⊎_elim
        (λ (same : steps ≡ count).
        let before : p.0 ≡ last =
        reached_once count p.0 last (subst (λ (m : ℕ). ReachedIn n Whole Cut m p.0) same p.1) reached in
        absurd (none l (subst (λ (b : List Attributes). IsSplitStep Whole Cut b l) before p.2)))
        (λ (other : steps ≡ count → ⊥). omega arith)
        (cases_eq steps count)

    -- two lists without successors are one
    pub same_last : (count steps : ℕ) (a b : List Attributes) → ReachedIn n Whole Cut count a
        → ((l : List Attributes) → IsSplitStep Whole Cut a l → ⊥)
        → ReachedIn n Whole Cut steps b → ((l : List Attributes) → IsSplitStep Whole Cut b l → ⊥) → a ≡ b
    same_last count steps a b p p_last q q_last =
        let there : steps ≤ count = last_reached count a p p_last steps b q in
        let back : count ≤ steps = last_reached steps b q q_last count a p in
        let same : count ≡ steps = omega arith in
        reached_once steps a b (subst (λ (m : ℕ). ReachedIn n Whole Cut m a) same p) q

-- ---- each step makes the list longer by one
pub step_length : (Whole : Attributes → Type 0) (Cut : Attributes → Attributes → Attributes → Type 0) (l a : List Attributes)
    → IsSplitStep Whole Cut l a → length a ≡ length l + 1
step_length Whole Cut l a step =
    omega (
      arith,
      ap (λ (s : List Attributes). length s) step.list,
      ap (λ (s : List Attributes). length s) step.replaced,
      length-append step.earlier (step.scheme ∷ step.later),
      length-append step.earlier (union step.x step.y ∷ difference step.scheme step.y ∷ step.later),
    )

pub reached_length : (Whole : Attributes → Type 0) (Cut : Attributes → Attributes → Attributes → Type 0) (n count : ℕ)
    (l : List Attributes) → ReachedIn n Whole Cut count l → length l ≡ count + 1
reached_length Whole Cut n zero l p = omega (arith, ap (λ (s : List Attributes). length s) p)
reached_length Whole Cut n (suc count) l p =
    omega (arith, reached_length Whole Cut n count p.0 p.1, step_length Whole Cut p.0 l p.2)
