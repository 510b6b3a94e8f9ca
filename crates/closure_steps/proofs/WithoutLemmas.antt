-- The attributes of a set with the closed sets of the others, gathered one after the other.
use Rattle.std.proofs.Common.{◌≡◌, ℕ, ◌+◌, ◌<◌, true, false, List, [], ◌∷◌, ◌++◌, get_or, sym, subst, ◌∙◌, ap, ⊎_elim, arith}
use Rattle.std.proofs.lemmas.Bool.{true≢false, cases_eq}
use Rattle.std.proofs.lemmas.List.Elements.{All-push, Contains-push}
use Rattle.std.proofs.lemmas.List.Quantifiers.{all_pairs_push}
use Rattle.std.specs.Prelude.{All, AllPairs, Any}
use Rattle.attr_sets.specs.Attributes.{Attributes}
use Rattle.dep_model.specs.Dependencies.{Dependency}
use Rattle.dep_model.proofs.ListLemmas.{Any-from, Any-left}
use Rattle.closure_steps.specs.declared.without.Without.{Without}
use Rattle.closure_steps.specs.Without.{IsClosureWithout, AreClosuresWithout}

-- those of the attributes below m
pub record AreWithoutBelow (n : ℕ) (ds : List Dependency) (x : Attributes) (m : ℕ) (found : List Without) : Type 0 where
  pub each : All (IsClosureWithout n ds x) found
  pub earlier : All (λ one. one.attribute < m) found
  pub all : (a : ℕ) → a < m → x a ≡ true → Any (λ one. one.attribute ≡ a) found
  pub ascending : AllPairs (λ one other. one.attribute < other.attribute) found

-- the next attribute is a member
pub without_push : (n : ℕ) (ds : List Dependency) (x : Attributes) (m : ℕ) (found : List Without) (w : Without) → AreWithoutBelow n ds x m found → IsClosureWithout n ds x w → w.attribute ≡ m
    → AreWithoutBelow n ds x (m + 1) (found ++ w ∷ [])
without_push n ds x m found w before is at = record {
  each = All-push (IsClosureWithout n ds x) found w before.each is;
  earlier = All-push (λ (one : Without). one.attribute < m + 1) found w
      (λ k d l. omega (arith, before.earlier k d l)) (omega (arith, at));
  all = λ a less member. ⊎_elim
      (λ (same : a ≡ m). Any-from (λ (one : Without). one.attribute ≡ a) (found ++ w ∷ []) w (Contains-push found w) (at ∙ sym same))
      (λ (other : a ≡ m → ⊥). Any-left (λ (one : Without). one.attribute ≡ a) found w (before.all a (omega (arith, less, other)) member))
      (cases_eq a m);
  ascending = all_pairs_push (λ (one : Without) (two : Without). one.attribute < two.attribute) found w before.ascending
      (λ k d l. omega (arith, before.earlier k d l, at));
}

-- it is none
pub without_skip : (n : ℕ) (ds : List Dependency) (x : Attributes) (m : ℕ) (found : List Without) → AreWithoutBelow n ds x m found → x m ≡ false → AreWithoutBelow n ds x (m + 1) found
without_skip n ds x m found before outside = record {
  each = before.each;
  earlier = λ k d l. omega (arith, before.earlier k d l);
  all = λ a less member. ⊎_elim
      (λ (same : a ≡ m). absurd (true≢false (sym member ∙ ap x same ∙ outside)))
      (λ (other : a ≡ m → ⊥). before.all a (omega (arith, less, other)) member)
      (cases_eq a m);
  ascending = before.ascending;
}

-- all are had
pub without_done : (n : ℕ) (ds : List Dependency) (x : Attributes) (m : ℕ) (found : List Without) → AreWithoutBelow n ds x m found → ((a : ℕ) → x a ≡ true → a < m) → AreClosuresWithout n ds x found
without_done n ds x m found before inside = record {
  each = before.each;
  all = λ a member. before.all a (inside a member) member;
  ascending = before.ascending;
}
