-- The minimal dependencies inside a set that were found so far, one after the other and one left side
-- after the other.
use Rattle.std.proofs.Common.{◌≡◌, ◌+◌, ◌<◌, ◌⊎◌, ℕ, true, false, List, [], ◌∷◌, ◌++◌, length, refl, sym, ap, subst, ◌∙◌, inl, inr, ⊎_elim, arith}
use Rattle.std.proofs.lemmas.Bool.{true≢false, cases_eq}
use Rattle.std.proofs.lemmas.Bool.Decides.{nat_tests}
use Rattle.std.proofs.lemmas.List.Elements.{All-nil, All-push, All-weaker, Contains-append_left, Contains-push}
use Rattle.std.proofs.lemmas.List.Quantifiers.{all_pairs_push}
use Rattle.std.specs.Prelude.{All, Contains, Option, Some, None, IsNone, IfSome}
use Rattle.attr_sets.specs.declared.set.AttrSet.{AttrSet}
use Rattle.attr_sets.specs.Attributes.{Attributes, below, only, none, IsSubset, IsBefore, IsNextSubset}
use Rattle.attr_sets.specs.Sets.{attributes}
use Rattle.attr_sets.proofs.AttributesLemmas.{same_at}
use Rattle.attr_sets.proofs.OrderLemmas.{IsBefore-trans, tell_before, next_subset-before, none-first, whole-last}
use Rattle.dep_model.specs.Dependencies.{Dependency, fd}
use Rattle.normal_forms.proofs.SearchLemmas.{IsPassed}
use Rattle.fd_projection.specs.declared.refusal.TheConstants.{MOST_LISTED}
use Rattle.fd_projection.specs.Projections.{IsMinimalWithin, IsMinimalFd, Precedes}
use Rattle.fd_projection.specs.Closures.{IsTriedMinimal, AreTriedMinimal, AreFoundWithin, TriedBefore, TriedUpTo}

-- ---- one more
pub found_none : (n : ℕ) (ds : List Dependency) (set : Attributes) (T : Attributes → ℕ → Type 0) → ((v : Attributes) (b : ℕ) → T v b → ⊥) → AreTriedMinimal n ds set T []
found_none n ds set T nothing = record {
  each = All-nil (IsTriedMinimal n ds set T);
  all = λ x a minimal tried. absurd (nothing x a tried);
  ascending = λ i j d before l. absurd (omega (arith, l));
}

-- the same list, where what was tried beside has nothing minimal
pub found_more : (n : ℕ) (ds : List Dependency) (set : Attributes) (T U : Attributes → ℕ → Type 0) (found : List Dependency) → AreTriedMinimal n ds set T found
    → ((v : Attributes) (b : ℕ) → T v b → U v b) → ((v : Attributes) (b : ℕ) → IsMinimalWithin n ds set v b → U v b → T v b)
    → AreTriedMinimal n ds set U found
found_more n ds set T U found before on back = record {
  each = λ k d l. let one = before.each k d l in record {
    left = one.left;
    attribute = one.attribute;
    is = one.is;
    minimal = one.minimal;
    tried = on one.left one.attribute one.tried;
  };
  all = λ x a minimal tried. before.all x a minimal (back x a minimal tried);
  ascending = before.ascending;
}

pub found_push : (n : ℕ) (ds : List Dependency) (set : Attributes) (T U : Attributes → ℕ → Type 0) (found : List Dependency) (x : Attributes) (a : ℕ)
    → AreTriedMinimal n ds set T found → IsMinimalWithin n ds set x a
    → ((v : Attributes) (b : ℕ) → T v b → Precedes (fd v (only b)) (fd x (only a)))
    → ((v : Attributes) (b : ℕ) → T v b → U v b) → U x a
    → ((v : Attributes) (b : ℕ) → U v b → T v b ⊎ ((v ≡ x) × (b ≡ a)))
    → AreTriedMinimal n ds set U (found ++ fd x (only a) ∷ [])
found_push n ds set T U found x a before is earlier on here cases =
    let new : Dependency = fd x (only a) in
    record {
      each = All-push (IsTriedMinimal n ds set U) found new
          (λ k d l. let one = before.each k d l in record {
            left = one.left;
            attribute = one.attribute;
            is = one.is;
            minimal = one.minimal;
            tried = on one.left one.attribute one.tried;
          })
          (record { left = x; attribute = a; is = refl; minimal = is; tried = here });
      all = λ v b minimal tried. ⊎_elim
          (λ old. Contains-append_left found (new ∷ []) (fd v (only b)) (before.all v b minimal old))
          (λ (same : (v ≡ x) × (b ≡ a)).
          subst (λ (d : Dependency). Contains (found ++ new ∷ []) d)
          (ap (λ (y : Attributes). fd y (only a)) (sym same.0) ∙ ap (λ (c : ℕ). fd v (only c)) (sym same.1))
          (Contains-push found new))
          (cases v b tried);
      ascending = all_pairs_push Precedes found new before.ascending
          (λ k d l. let one = before.each k d l in subst (λ (e : Dependency). Precedes e new) (sym one.is) (earlier one.left one.attribute one.tried));
    }

-- ---- the right sides of one left side
-- the left sides before x were tried, and x with the right sides below m
abbrev pub TriedTo : Attributes → ℕ → Attributes → ℕ → Type 0
TriedTo x m v b = IsBefore v x ⊎ ((v ≡ x) × (b < m))

only_before : (b m : ℕ) → b < m → IsBefore (only b) (only m)
only_before b m less = (m, grind (arith, nat_tests, less), grind (arith, nat_tests), λ j above. grind (arith, nat_tests, less, above))

pub tried_begin : (n : ℕ) (ds : List Dependency) (set x : Attributes) (found : List Dependency) → AreTriedMinimal n ds set (TriedBefore x) found
    → AreTriedMinimal n ds set (TriedTo x 0) found
tried_begin n ds set x found before =
    found_more n ds set (TriedBefore x) (TriedTo x 0) found before (λ v b earlier. inl earlier)
    (λ v b minimal tried. ⊎_elim (λ (earlier : IsBefore v x). earlier) (λ (no : (v ≡ x) × (b < 0)). absurd (omega (arith, no.1))) tried)

pub tried_push : (n : ℕ) (ds : List Dependency) (set x : Attributes) (m : ℕ) (found : List Dependency) → IsMinimalWithin n ds set x m
    → AreTriedMinimal n ds set (TriedTo x m) found → AreTriedMinimal n ds set (TriedTo x (m + 1)) (found ++ fd x (only m) ∷ [])
tried_push n ds set x m found is before =
    found_push n ds set (TriedTo x m) (TriedTo x (m + 1)) found x m before is
    (λ v b tried. ⊎_elim
    (λ (earlier : IsBefore v x). inl earlier)
    (λ (same : (v ≡ x) × (b < m)). inr (same.0, only_before b m same.1))
    tried)
    (λ v b tried. ⊎_elim
    (λ (earlier : IsBefore v x). inl earlier)
    (λ (same : (v ≡ x) × (b < m)). inr (same.0, omega (arith, same.1)))
    tried)
    (inr (refl, omega arith))
    (λ v b tried. ⊎_elim
    (λ (earlier : IsBefore v x). inl (inl earlier))
    (λ (same : (v ≡ x) × (b < m + 1)). ⊎_elim
    (λ (here : b ≡ m). inr (same.0, here))
    (λ (other : b ≡ m → ⊥). inl (inr (same.0, omega (arith, same.1, other))))
    (cases_eq b m))
    tried)

pub tried_skip : (n : ℕ) (ds : List Dependency) (set x : Attributes) (m : ℕ) (found : List Dependency) → (IsMinimalWithin n ds set x m → ⊥)
    → AreTriedMinimal n ds set (TriedTo x m) found → AreTriedMinimal n ds set (TriedTo x (m + 1)) found
tried_skip n ds set x m found not before =
    found_more n ds set (TriedTo x m) (TriedTo x (m + 1)) found before
    (λ v b tried. ⊎_elim
    (λ (earlier : IsBefore v x). inl earlier)
    (λ (same : (v ≡ x) × (b < m)). inr (same.0, omega (arith, same.1)))
    tried)
    (λ v b minimal tried. ⊎_elim
    (λ (earlier : IsBefore v x). inl earlier)
    (λ (same : (v ≡ x) × (b < m + 1)). ⊎_elim
    (λ (here : b ≡ m). absurd (not (subst (λ (c : ℕ). IsMinimalWithin n ds set x c) here (subst (λ (y : Attributes). IsMinimalWithin n ds set y b) same.0 minimal))))
    (λ (other : b ≡ m → ⊥). inr (same.0, omega (arith, same.1, other)))
    (cases_eq b m))
    tried)

pub tried_done : (n : ℕ) (ds : List Dependency) (set x : Attributes) (m : ℕ) (found : List Dependency) → ((a : ℕ) → set a ≡ true → a < m)
    → AreTriedMinimal n ds set (TriedTo x m) found → AreTriedMinimal n ds set (TriedUpTo x) found
tried_done n ds set x m found low before =
    found_more n ds set (TriedTo x m) (TriedUpTo x) found before
    (λ v b tried. ⊎_elim
    (λ (earlier : IsBefore v x). inl earlier)
    (λ (same : (v ≡ x) × (b < m)). inr same.0)
    tried)
    (λ v b minimal tried. ⊎_elim
    (λ (earlier : IsBefore v x). inl earlier)
    (λ (same : v ≡ x). inr (same, low b minimal.right))
    tried)

-- ---- one left side after the other
-- the left side that comes lies within a whole, and those before it were tried
pub record IsWalked (n : ℕ) (ds : List Dependency) (set whole : Attributes) (next : Option AttrSet) (found : List Dependency) : Type 0 where
  pub within : IfSome next (λ x. IsSubset (attributes x) whole)
  pub listed : AreTriedMinimal n ds set (λ v b. IsPassed v next) found

pub walk_start : (n : ℕ) (ds : List Dependency) (set whole : Attributes) (first : AttrSet) → attributes first ≡ none → IsWalked n ds set whole (Some first) []
walk_start n ds set whole first empty = record {
  within = λ k m. absurd (true≢false (sym m ∙ same_at empty k));
  listed = found_none n ds set (λ v b. IsPassed v (Some first))
      (λ v b before. none-first v (subst (λ (y : Attributes). IsBefore v y) empty before));
}

pub walk_at : (n : ℕ) (ds : List Dependency) (set whole : Attributes) (x : AttrSet) (next : Option AttrSet) (found : List Dependency) → next ≡ Some x
    → IsWalked n ds set whole next found → IsWalked n ds set whole (Some x) found
walk_at n ds set whole x next found is walked = subst (λ (o : Option AttrSet). IsWalked n ds set whole o found) is walked

pub walk_on : (n : ℕ) (ds : List Dependency) (set whole : Attributes) (x : AttrSet) (next : Option AttrSet) (found : List Dependency)
    → IsSubset whole (below n) → IsSubset (attributes x) whole
    → ((v : Attributes) (b : ℕ) → IsMinimalWithin n ds set v b → IsSubset v whole)
    → (IsNone next → attributes x ≡ whole) → IfSome next (λ y. IsNextSubset whole (attributes x) (attributes y))
    → AreTriedMinimal n ds set (TriedUpTo (attributes x)) found → IsWalked n ds set whole next found
walk_on n ds set whole x None found low x_in lefts last is before = record {
  within = tt;
  listed = found_more n ds set (TriedUpTo (attributes x)) (λ v b. IsPassed v None) found before (λ v b tried. tt)
      (λ v b minimal tried.
      let v_in = lefts v b minimal in
      ⊎_elim
      (λ (same : v ≡ attributes x). inr same)
      (⊎_elim
      (λ (earlier : IsBefore v (attributes x)). inl earlier)
      (λ (after : IsBefore (attributes x) v). absurd (whole-last whole v v_in (subst (λ (y : Attributes). IsBefore y v) (last refl) after))))
      (tell_before n v (attributes x) (λ k m. low k (v_in k m)) (λ k m. low k (x_in k m))));
}
walk_on n ds set whole x (Some next) found low x_in lefts last is before = record {
  within = is.within;
  listed = found_more n ds set (TriedUpTo (attributes x)) (λ v b. IsPassed v (Some next)) found before
      (λ v b tried. ⊎_elim
      (λ (earlier : IsBefore v (attributes x)). IsBefore-trans v (attributes x) (attributes next) earlier is.after)
      (λ (same : v ≡ attributes x). subst (λ (y : Attributes). IsBefore y (attributes next)) (sym same) is.after)
      tried)
      (λ v b minimal passed. ⊎_elim
      (λ (same : v ≡ attributes x). inr same)
      (λ (earlier : IsBefore v (attributes x)). inl earlier)
      (next_subset-before n whole (attributes x) (attributes next) v low x_in is (lefts v b minimal) passed));
}

-- ---- the end
minimal_each : (n : ℕ) (ds : List Dependency) (set : Attributes) (T : Attributes → ℕ → Type 0) (found : List Dependency) → AreTriedMinimal n ds set T found
    → All (IsMinimalFd n ds set) found
minimal_each n ds set T found before k d l = let one = before.each k d l in (one.left, one.attribute, one.is, one.minimal)

pub walk_end : (n : ℕ) (ds : List Dependency) (set whole : Attributes) (next : Option AttrSet) (found : List Dependency) → next ≡ None
    → IsWalked n ds set whole next found → AreFoundWithin n ds set found
walk_end n ds set whole next found is walked =
    let all : AreTriedMinimal n ds set (λ v b. IsPassed v None) found = subst (λ (o : Option AttrSet). AreTriedMinimal n ds set (λ v b. IsPassed v o) found) is walked.listed in
    record {
      each = minimal_each n ds set (λ v b. IsPassed v None) found all;
      ascending = all.ascending;
      all = λ _ x a minimal. all.all x a minimal tt;
    }

pub walk_cut : (n : ℕ) (ds : List Dependency) (set x : Attributes) (found : List Dependency) → MOST_LISTED < length found
    → AreTriedMinimal n ds set (TriedUpTo x) found → AreFoundWithin n ds set found
walk_cut n ds set x found many before = record {
  each = minimal_each n ds set (TriedUpTo x) found before;
  ascending = before.ascending;
  all = λ few. absurd (omega (arith, few, many));
}
