-- Leaders of rows, bucket by bucket, and the numbers that leaders give.
use Rattle.std.proofs.Common.{inl, inr, ◌≡◌, ◌≢◌, ◌+◌, ◌<◌, ℕ, List, [], ◌∷◌, ◌++◌, length, length-append, Some, refl, sym, ap, subst, ◌∙◌, arith}
use Rattle.std.specs.List.{slice_get}
use Rattle.std.proofs.lemmas.Option.{slice_get_within}
use Rattle.row_groups.specs.Buckets.{AreLeaders}
use Rattle.row_groups.specs.Numberings.{number_at, AreNumbered}
use Rattle.row_groups.proofs.NumberingLemmas.{numbered_more, some_inj}

-- ---- numbers by leaders
pub record LedSoFar {X : Type 0} (value : ℕ → X) (n count : ℕ) (numbers : List ℕ) : Type 0 where
  pub seen : List X
  pub counted : count ≡ length seen
  pub numbered : AreNumbered value n seen numbers

pub none_led : {X : Type 0} (value : ℕ → X) (numbers : List ℕ) → numbers ≡ [] → LedSoFar value 0 0 numbers
none_led value numbers none = record {
  seen = [];
  counted = refl;
  numbered = subst (AreNumbered value 0 []) (sym none) (record {
    one_each = refl;
    read = λ i l. absurd (omega (arith, l));
    once = λ g h v a b. absurd (omega (arith, slice_get_within [] g v a));
    within_count = omega arith;
    used = λ g l. absurd (omega (arith, l));
    in_order = λ i g l m. absurd (omega (arith, l));
  });
}

module _ {X : Type 0} (value : ℕ → X) (leaders : List ℕ) (led : AreLeaders value leaders) where
  -- a row that leads gets the next number
  pub first_led : (row count : ℕ) (numbers items : List ℕ) → row < length leaders → number_at leaders row ≡ row
      → LedSoFar value row count numbers → items ≡ numbers ++ count ∷ [] → LedSoFar value (row + 1) (count + 1) items
  first_led row count numbers items low leads old pushed = record {
    seen = old.seen ++ value row ∷ [];
    counted = ap (λ (k : ℕ). k + 1) old.counted ∙ sym (length-append old.seen (value row ∷ []));
    numbered = subst (AreNumbered value (row + 1) (old.seen ++ value row ∷ [])) (sym pushed)
        (numbered_more value row old.seen (old.seen ++ value row ∷ []) numbers count old.numbered
        (record { number = inr (refl, old.counted, fresh) }));
  }
    where
      fresh : (g : ℕ) → slice_get old.seen g ≡ Some (value row) → ⊥
      fresh g at =
          let (j, below, number) = old.numbered.used g (slice_get_within old.seen g (value row) at) in
          (led.each row low).least j (omega (arith, below, leads))
          (some_inj (value j) (value row) (sym (old.numbered.read j below) ∙ ap (slice_get old.seen) number ∙ at))

  -- any other gets that of its leader
  pub later_led : (row count : ℕ) (numbers items : List ℕ) → row < length leaders → number_at leaders row ≢ row
      → LedSoFar value row count numbers → items ≡ numbers ++ number_at numbers (number_at leaders row) ∷ []
      → LedSoFar value (row + 1) count items
  later_led row count numbers items low follows old pushed =
      let leader = led.each row low in
      let before : number_at leaders row < row = omega (arith, leader.no_later, follows) in
      record {
        seen = old.seen;
        counted = old.counted;
        numbered = subst (AreNumbered value (row + 1) old.seen) (sym pushed)
            (numbered_more value row old.seen old.seen numbers (number_at numbers (number_at leaders row)) old.numbered
            (record { number = inl (refl, old.numbered.read (number_at leaders row) before ∙ ap Some leader.equal) }));
      }
