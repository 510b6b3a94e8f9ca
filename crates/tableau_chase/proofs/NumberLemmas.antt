-- The numbers of lists of symbols: what a look-up says, and a list more.
use Rattle.std.proofs.Common.{◌≡◌, ℕ, ◌<◌, Bool, true, false, cond, List, [], ◌∷◌, ◌++◌, length, Some, None, refl, sym, ap, subst, ◌∙◌, inl, inr, ⊎_elim, arith, length-append, Vec, Global}
use Rattle.std.proofs.lemmas.Bool.{cases_Bool, true≢false}
use Rattle.std.proofs.lemmas.Bool.Decides.{Decides-eqb}
use Rattle.std.proofs.lemmas.List.{get_or_append_left, get_or_push, get_or_default}
use Rattle.std.proofs.lemmas.List.Elements.{Contains-push_cases}
use Rattle.std.proofs.lemmas.Slice.Eq.{slice_eq-Decides}
use Rattle.std.specs.Prelude.{Contains, IsSome, Option, nat_eq}
use borrow.Author.Rules.{rules}
use Rattle.std.specs.HashMap.{get}
use Rattle.std.specs.Cmp.Lexicographic.{pointwise}
use Rattle.tableau_chase.specs.declared.numbers.RowNumbers.{RowNumbers}
use Rattle.tableau_chase.specs.Numbers.{IsFirstPosition, IsNumbering}

-- the number of a list of symbols
abbrev pub number_of : RowNumbers → Vec ℕ Global → Option ℕ
number_of numbers q = get (λ x y. pointwise nat_eq x.items y.items) numbers.firsts q

first_contains : (keys : List (List ℕ)) (key : List ℕ) (number : ℕ) → IsFirstPosition keys key number → Contains keys key
first_contains keys key number at = (number, at.low, get_or_default keys number key [] at.low ∙ at.here)

first_longer : (keys : List (List ℕ)) (more key : List ℕ) (number : ℕ) → IsFirstPosition keys key number → IsFirstPosition (keys ++ more ∷ []) key number
first_longer keys more key number at = record {
  low = omega (arith, at.low, length-append keys (more ∷ []));
  here = get_or_append_left keys (more ∷ []) [] number at.low ∙ at.here;
  first = λ j lt e. at.first j lt (sym (get_or_append_left keys (more ∷ []) [] j (omega (arith, lt, at.low))) ∙ e);
}

-- a list that has a number
pub numbering_known : (keys : List (List ℕ)) (numbers : RowNumbers) (key : List ℕ) (number : ℕ) → IsNumbering keys numbers → IsFirstPosition keys key number → IsNumbering (keys ++ key ∷ []) numbers
numbering_known keys numbers key number before at = record {
  sound = λ q other e. first_longer keys key q.items other (before.sound q other e);
  complete = λ q h. ⊎_elim
      (λ old. before.complete q old)
      (λ (e : key ≡ q.items). before.complete q (subst (λ (k : List ℕ). Contains keys k) e (first_contains keys key number at)))
      (Contains-push_cases keys key q.items h);
}

-- none has it
pub numbering_fresh : (keys : List (List ℕ)) (numbers : RowNumbers) (key : Vec ℕ Global) → IsNumbering keys numbers → number_of numbers key ≡ None → Contains keys key.items → ⊥
numbering_fresh keys numbers key before none h = let not_empty : IsSome {T = ℕ} None = subst (λ (o : Option ℕ). IsSome o) none (before.complete key h) in true≢false (sym not_empty)

same_items : (key q : Vec ℕ Global) → pointwise nat_eq key.items q.items ≡ true → key.items ≡ q.items
same_items key q h = (slice_eq-Decides Decides-eqb key.items q.items (pointwise nat_eq key.items q.items) refl).0 h

items_same : (key q : Vec ℕ Global) → key.items ≡ q.items → pointwise nat_eq key.items q.items ≡ true
items_same key q e = (slice_eq-Decides Decides-eqb key.items q.items (pointwise nat_eq key.items q.items) refl).1 e

module _ (keys : List (List ℕ)) (old new : RowNumbers) (key : Vec ℕ Global) (before : IsNumbering keys old) (none : number_of old key ≡ None)
    (updates : (q : Vec ℕ Global) → number_of new q ≡ cond (pointwise nat_eq key.items q.items) (Some (length keys)) (number_of old q)) where
  at_key : (q : Vec ℕ Global) → key.items ≡ q.items → number_of new q ≡ Some (length keys)
  at_key q e = updates q ∙ ap (λ (b : Bool). cond b (Some (length keys)) (number_of old q)) (items_same key q e)

  elsewhere : (q : Vec ℕ Global) → pointwise nat_eq key.items q.items ≡ false → number_of new q ≡ number_of old q
  elsewhere q e = updates q ∙ ap (λ (b : Bool). cond b (Some (length keys)) (number_of old q)) e

  sound_at : (q : Vec ℕ Global) (number : ℕ) → number_of new q ≡ Some number → IsFirstPosition (keys ++ key.items ∷ []) q.items number
  sound_at q number e = elim (cases_Bool (pointwise nat_eq key.items q.items)) [
    | inr differ ↦ first_longer keys key.items q.items number (before.sound q number (sym (elsewhere q differ) ∙ e))
    | inl same ↦
        let items : key.items ≡ q.items = same_items key q same in
        let not_empty : Some (length keys) ≡ Some number = sym (at_key q items) ∙ e in
        let is : length keys ≡ number = cc in
        record {
          low = omega (arith, is, length-append keys (key.items ∷ []));
          here = get_or_push keys key.items [] number is ∙ items;
          first = λ j lt h. numbering_fresh keys old key before none
              (let low : j < length keys = omega (arith, lt, is) in
              (j, low, get_or_default keys j key.items [] low ∙ sym (get_or_append_left keys (key.items ∷ []) [] j low) ∙ h ∙ sym items));
        }
  ]

  pub numbering_more : IsNumbering (keys ++ key.items ∷ []) new
  numbering_more = record {
    sound = sound_at;
    complete = λ q h. elim (cases_Bool (pointwise nat_eq key.items q.items)) [
      | inl same ↦ subst (λ (o : Option ℕ). IsSome o) (sym (at_key q (same_items key q same))) (search rules)
      | inr differ ↦ ⊎_elim
          (λ held. subst (λ (o : Option ℕ). IsSome o) (sym (elsewhere q differ)) (before.complete q held))
          (λ (e : key.items ≡ q.items). absurd (true≢false (sym (items_same key q e) ∙ differ)))
          (Contains-push_cases keys key.items q.items h)
    ];
  }
