-- The rows that no functional dependency removes, dependency by dependency.
use Rattle.std.proofs.Common.{◌≡◌, ◌<◌, ◌&&◌, ℕ, Bool, true, false, List, [], ◌∷◌, ◌++◌, length, replicate, refl, sym, ap, subst, ◌∙◌, arith}
use Rattle.std.proofs.lemmas.Bool.{and_parts}
use Rattle.std.proofs.lemmas.List.{get_or_append_left, get_or_push, get_or-replicate, length-append, length-replicate}
use Rattle.std.proofs.lemmas.List.Elements.{All-nil, All-push}
use Rattle.std.specs.Prelude.{All}
use Rattle.attr_sets.specs.Attributes.{Attributes}
use Rattle.dep_model.specs.Dependencies.{Dependency, fd, mvd}
use Rattle.dep_model.specs.Tuples.{Relation}
use Rattle.legality.specs.Parts.{flag_at}
use Rattle.removal_laws.specs.Classes.{in_chosen}
use Rattle.row_measures.specs.Answers.{AreKeptFlags, IsKeptRow}
use Rattle.row_measures.specs.Sorted.{Classes}
use Rattle.row_measures.proofs.UniqueLemmas.{same_of_classes}

before_last : {X : Type 0} (P : X → Type 0) (xs : List X) (x : X) → All P (xs ++ x ∷ []) → All P xs
before_last P xs x all k d low = subst P (get_or_append_left xs (x ∷ []) d k low) (all k d (omega (arith, low, length-append xs (x ∷ []))))

last_one : {X : Type 0} (P : X → Type 0) (xs : List X) (x : X) → All P (xs ++ x ∷ []) → P x
last_one P xs x all = subst P (get_or_push xs x x (length xs) refl) (all (length xs) x (omega (arith, length-append xs (x ∷ []))))

pub all_kept : (r : Relation) (kept : List Bool) → kept ≡ replicate (length r) true → AreKeptFlags [] r kept
all_kept r kept is = record {
  one_each = ap length is ∙ length-replicate (length r) true;
  told = λ i low. (
    λ set. All-nil (IsKeptRow r i),
    λ all. ap (λ (flags : List Bool). flag_at flags i) is ∙ get_or-replicate (length r) i true false low,
  );
}

pub kept_by_classes : (ds : List Dependency) (r : Relation) (kept new : List Bool) (x y : Attributes) (c : Classes x y r) → AreKeptFlags ds r kept
    → length new ≡ length kept
    → ((i : ℕ) → i < length r → flag_at new i ≡ (flag_at kept i && in_chosen c.groups c.classes c.chosen i))
    → AreKeptFlags (ds ++ fd x y ∷ []) r new
kept_by_classes ds r kept new x y c old size is = record {
  one_each = size ∙ old.one_each;
  told = λ i low. (
    λ set.
        let both = and_parts (flag_at kept i) (in_chosen c.groups c.classes c.chosen i) (sym (is i low) ∙ set) in
        All-push (IsKeptRow r i) ds (fd x y) ((old.told i low).0 both.0) (c, both.1),
    λ all.
        let before = (old.told i low).1 (before_last (IsKeptRow r i) ds (fd x y) all) in
        let last = last_one (IsKeptRow r i) ds (fd x y) all in
        let same : in_chosen c.groups c.classes c.chosen i ≡ in_chosen last.0.groups last.0.classes last.0.chosen i =
        same_of_classes (λ groups firsts classes class_firsts chosen broken. in_chosen groups classes chosen i) c last.0 in
        is i low ∙ ap (λ (b : Bool). b && in_chosen c.groups c.classes c.chosen i) before ∙ same ∙ last.1,
  );
}

pub kept_beside : (ds : List Dependency) (r : Relation) (kept : List Bool) (x y : Attributes) → AreKeptFlags ds r kept → AreKeptFlags (ds ++ mvd x y ∷ []) r kept
kept_beside ds r kept x y old = record {
  one_each = old.one_each;
  told = λ i low. (
    λ set. All-push (IsKeptRow r i) ds (mvd x y) ((old.told i low).0 set) tt,
    λ all. (old.told i low).1 (before_last (IsKeptRow r i) ds (mvd x y) all),
  );
}
