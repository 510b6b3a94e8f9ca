-- Lists that are parted at an element: what is left without it, and where what passes a test is parted.
use Rattle.std.proofs.Common.{◌≡◌, Bool, true, false, List, [], ◌∷◌, ◌++◌, length, filter, cond, remove, refl, subst, ap, ◌∙◌, inl, inr}
use Rattle.std.specs.Prelude.{All}
use Rattle.std.proofs.lemmas.Bool.{cases_Bool}
use Rattle.std.proofs.lemmas.List.Elements.{All-head}
use Rattle.dep_model.proofs.ListLemmas.{cons_parts}
use Rattle.min_cover.proofs.ListLemmas.{All-right, nil_not_split}

-- what is left without the element are the two parts
pub without_middle : {X : Type 0} (before after : List X) (x : X) → remove (before ++ x ∷ after) (length before) ≡ before ++ after
without_middle [] after x = refl
without_middle {X = X} (b ∷ before) after x = ap (λ (l : List X). b ∷ l) (without_middle before after x)

-- what holds of each element holds of this one
pub middle_holds : {X : Type 0} (P : X → Type 0) (xs before after : List X) (x : X) → xs ≡ before ++ x ∷ after → All P xs → P x
middle_holds {X = X} P xs before after x split all =
    All-head P x after (All-right P before (x ∷ after) (subst (λ (l : List X). All P l) split all))

-- a list that begins with what passes a test, or with what does not
passed : {X : Type 0} (p : X → Bool) (y : X) (xs : List X) → p y ≡ true → filter p (y ∷ xs) ≡ y ∷ filter p xs
passed {X = X} p y xs passes = ap (λ (b : Bool). cond b (y ∷ filter p xs) (filter p xs)) passes

failed : {X : Type 0} (p : X → Bool) (y : X) (xs : List X) → p y ≡ false → filter p (y ∷ xs) ≡ filter p xs
failed {X = X} p y xs fails = ap (λ (b : Bool). cond b (y ∷ filter p xs) (filter p xs)) fails

-- a list is parted where what passes a test is
pub record IsPartedAt {X : Type 0} (p : X → Bool) (xs before after : List X) (x : X) : Type 0 where
  pub front : List X
  pub back : List X
  pub split : xs ≡ front ++ x ∷ back
  pub passed_before : filter p front ≡ before
  pub passed_after : filter p back ≡ after

pub parted_with_filtered : {X : Type 0} (p : X → Bool) (xs before after : List X) (x : X) → filter p xs ≡ before ++ x ∷ after
    → IsPartedAt p xs before after x
parted_with_filtered p [] before after x same = absurd (nil_not_split before x after same)
parted_with_filtered {X = X} p (y ∷ xs) [] after x same = elim (cases_Bool (p y)) [
  | inl passes ↦
      let kept : y ∷ filter p xs ≡ x ∷ after = subst (λ (b : Bool). cond b (y ∷ filter p xs) (filter p xs) ≡ x ∷ after) passes same in
      let parts = cons_parts y x (filter p xs) after kept in
      record { front = []; back = xs; split = ap (λ (z : X). z ∷ xs) parts.0; passed_before = refl; passed_after = parts.1 }
  | inr fails ↦
      let kept : filter p xs ≡ x ∷ after = subst (λ (b : Bool). cond b (y ∷ filter p xs) (filter p xs) ≡ x ∷ after) fails same in
      let rest = parted_with_filtered p xs [] after x kept in
      record { front = y ∷ rest.front; back = rest.back; split = ap (λ (l : List X). y ∷ l) rest.split; passed_before = failed p y rest.front fails ∙ rest.passed_before; passed_after = rest.passed_after }
]
parted_with_filtered {X = X} p (y ∷ xs) (b ∷ before) after x same = elim (cases_Bool (p y)) [
  | inl passes ↦
      let kept : y ∷ filter p xs ≡ b ∷ (before ++ x ∷ after) = subst (λ (t : Bool). cond t (y ∷ filter p xs) (filter p xs) ≡ b ∷ (before ++ x ∷ after)) passes same in
      let parts = cons_parts y b (filter p xs) (before ++ x ∷ after) kept in
      let rest = parted_with_filtered p xs before after x parts.1 in
      record {
        front = y ∷ rest.front;
        back = rest.back;
        split = ap (λ (l : List X). y ∷ l) rest.split;
        passed_before = passed p y rest.front passes ∙ ap (λ (l : List X). y ∷ l) rest.passed_before ∙ ap (λ (z : X). z ∷ before) parts.0;
        passed_after = rest.passed_after;
      }
  | inr fails ↦
      let kept : filter p xs ≡ b ∷ (before ++ x ∷ after) = subst (λ (t : Bool). cond t (y ∷ filter p xs) (filter p xs) ≡ b ∷ (before ++ x ∷ after)) fails same in
      let rest = parted_with_filtered p xs (b ∷ before) after x kept in
      record { front = y ∷ rest.front; back = rest.back; split = ap (λ (l : List X). y ∷ l) rest.split; passed_before = failed p y rest.front fails ∙ rest.passed_before; passed_after = rest.passed_after }
]
