-- What is left to prove of `sets_apart`: that the invariant of its loop stays.
use Rattle.std.proofs.Common.{◌≡◌, ◌+◌, ◌<◌, ◌^◌, ◌++◌, ◌∷◌, [], ℕ, Bool, List, Vec, Global, not, true, false, cond, filter, get_or, take, length, append-nil, sym, ap, subst, ◌∙◌}
use Rattle.std.proofs.lemmas.List.Elements.{All-push, All-same, filter_more}
use Rattle.attr_sets.specs.declared.set.AttrSet.{AttrSet}
use Rattle.attr_sets.specs.declared.set.TheConstants.{MOST_ATTRIBUTES}
use Rattle.attr_sets.specs.Sets.{attributes}
use Rattle.candidate_sets.specs.Growing.{is_apart}
use Rattle.candidate_sets.proofs.parting.sets_apart.Goals as goal
use Rattle.candidate_sets.proofs.parting.sets_apart.Goals.{then-not-is_subset+in_ok-push, else-not-is_subset}

-- the element at i passes the test, or it does not
passes : (p : AttrSet → Bool) (xs done new : List AttrSet) (i : ℕ) (d : AttrSet) → i < length xs
    → done ≡ filter p (take i xs) → p (get_or xs i d) ≡ true → new ≡ done ++ get_or xs i d ∷ []
    → new ≡ filter p (take (i + 1) xs)
passes p xs done new i d l before pass items =
    items ∙ ap (λ (ys : List AttrSet). ys ++ get_or xs i d ∷ []) before
    ∙ ap (λ (b : Bool). filter p (take i xs) ++ cond b (get_or xs i d ∷ []) []) (sym pass)
    ∙ sym (filter_more p xs i d l)

fails : (p : AttrSet → Bool) (xs done new : List AttrSet) (i : ℕ) (d : AttrSet) → i < length xs
    → done ≡ filter p (take i xs) → p (get_or xs i d) ≡ false → new ≡ done → new ≡ filter p (take (i + 1) xs)
fails p xs done new i d l before fail items =
    items ∙ before ∙ sym (append-nil (filter p (take i xs)))
    ∙ ap (λ (b : Bool). filter p (take i xs) ++ cond b (get_or xs i d ∷ []) []) (sym fail)
    ∙ sym (filter_more p xs i d l)

pub loop-set-preserved : goal.loop-set-preserved
loop-set-preserved c =
    let none : AttrSet = record { 0 = 0 } in
    let p : AttrSet → Bool = is_apart (attributes c.args.bound) in
    let i : ℕ = c.loop-set.set-index in
    let set : AttrSet = get_or c.args.sets.now i none in
    elim c.if-not-is_subset.branch [
      | then-not-is_subset+in_ok-push w ↦
          let items : c.if-not-is_subset.apart.items ≡ c.loop-set.apart.items ++ set ∷ [] =
          ap (λ (v : Vec AttrSet Global). v.items) w.apart-is ∙ w.in_ok-push.ensures.items
          ∙ ap (λ (s : AttrSet). c.loop-set.apart.items ++ s ∷ []) w.with_number.ensures.same in
          let fits : set.0 < 2 ^ MOST_ATTRIBUTES =
          subst (λ (s : AttrSet). s.0 < 2 ^ MOST_ATTRIBUTES) w.with_number.ensures.same w.with_number.ensures.number in
          record {
            apart = passes p c.args.sets.now c.loop-set.apart.items c.if-not-is_subset.apart.items i none
                c.loop-set-test.true c.loop-set.invariant.apart
                (ap not (sym c.is_subset.ensures.test ∙ w.if-not-is_subset.true)) items;
            numbers = All-same (λ (s : AttrSet). s.0 < 2 ^ MOST_ATTRIBUTES) c.if-not-is_subset.apart.items
                (c.loop-set.apart.items ++ set ∷ []) items
                (All-push (λ (s : AttrSet). s.0 < 2 ^ MOST_ATTRIBUTES) c.loop-set.apart.items set
                c.loop-set.invariant.numbers fits);
          }
      | else-not-is_subset w ↦
          let items : c.if-not-is_subset.apart.items ≡ c.loop-set.apart.items =
          ap (λ (v : Vec AttrSet Global). v.items) w.apart-is in
          record {
            apart = fails p c.args.sets.now c.loop-set.apart.items c.if-not-is_subset.apart.items i none
                c.loop-set-test.true c.loop-set.invariant.apart
                (ap not (sym c.is_subset.ensures.test ∙ w.if-not-is_subset.false)) items;
            numbers = All-same (λ (s : AttrSet). s.0 < 2 ^ MOST_ATTRIBUTES) c.if-not-is_subset.apart.items
                c.loop-set.apart.items items c.loop-set.invariant.numbers;
          }
    ]
