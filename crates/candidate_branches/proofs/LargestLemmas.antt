-- The largest evidence without an attribute, one piece after the other.
use Rattle.std.proofs.Common.{inl, inr, ◌≡◌, ◌+◌, ◌<◌, ◌≤◌, ℕ, true, false, List, [], ◌∷◌, ◌++◌, length, get_or, sym, ap, subst, ◌∙◌, arith}
use Rattle.std.specs.Prelude.{All, Contains}
use Rattle.std.proofs.lemmas.Bool.{cases_lt}
use Rattle.std.proofs.lemmas.List.{map-append}
use Rattle.std.proofs.lemmas.List.Elements.{All-push, All-same, Contains-append_left, Contains-append_right, Contains-get_or, All-nil}
use Rattle.attr_sets.specs.Attributes.{Attributes}
use Rattle.attr_sets.specs.Sets.{attributes}
use Rattle.attr_sets.specs.declared.set.AttrSet.{AttrSet}
use Rattle.dep_model.specs.Plans.{schemes_of}
use Rattle.dep_model.proofs.ListLemmas.{Contains-head, Contains-map, map-member}
use Rattle.candidate_branches.specs.Largest.{AreLargest, IsHeldBy}

pub record AreLargestUpTo (a : ℕ) (evidence : List AttrSet) (bound : ℕ) (largest : List AttrSet) : Type 0 where
  pub each : All (λ (e : Attributes). Contains (schemes_of evidence) e × (e a ≡ false)) (schemes_of largest)
  pub all : (i : ℕ) (d : AttrSet) → i < bound → attributes (get_or evidence i d) a ≡ false → IsHeldBy (schemes_of largest) (attributes (get_or evidence i d))

pub largest_first : (a : ℕ) (evidence largest : List AttrSet) → largest ≡ [] → AreLargestUpTo a evidence 0 largest
largest_first a evidence largest is = subst (λ (sets : List AttrSet). AreLargestUpTo a evidence 0 sets) (sym is) (record {
  each = All-nil (λ (e : Attributes). Contains (schemes_of evidence) e × (e a ≡ false));
  all = λ i d less. absurd (omega (arith, less));
})

module _ (a : ℕ) (evidence : List AttrSet) (i : ℕ) (one : AttrSet) (low : i < length evidence) (at : (d : AttrSet) → get_or evidence i d ≡ one) (largest : List AttrSet)
    (before : AreLargestUpTo a evidence i largest) where
  -- what lies within a listed set, or has the attribute, is passed over
  pub largest_same : (attributes one a ≡ false → IsHeldBy (schemes_of largest) (attributes one)) → AreLargestUpTo a evidence (i + 1) largest
  largest_same held = record {
    each = before.each;
    all = λ j d less lacks. elim (cases_lt j i) [
      | inl lt ↦ before.all j d lt lacks
      | inr ge ↦
          let here : j ≡ i = omega (arith, less, ge) in
          let is : get_or evidence j d ≡ one = ap (λ (p : ℕ). get_or evidence p d) here ∙ at d in
          subst (λ (s : AttrSet). IsHeldBy (schemes_of largest) (attributes s)) (sym is) (held (subst (λ (s : AttrSet). attributes s a ≡ false) is lacks))
    ];
  }

  pub largest_more : (next : List AttrSet) → next ≡ largest ++ one ∷ [] → attributes one a ≡ false → AreLargestUpTo a evidence (i + 1) next
  largest_more next is out = subst (λ (sets : List AttrSet). AreLargestUpTo a evidence (i + 1) sets) (sym is) (record {
    each = All-same (λ (e : Attributes). Contains (schemes_of evidence) e × (e a ≡ false)) (schemes_of (largest ++ one ∷ [])) (schemes_of largest ++ attributes one ∷ [])
        (map-append attributes largest (one ∷ []))
        (All-push (λ (e : Attributes). Contains (schemes_of evidence) e × (e a ≡ false)) (schemes_of largest) (attributes one) before.each
        (Contains-map attributes evidence one (subst (λ (s : AttrSet). Contains evidence s) (at one) (Contains-get_or evidence i one low)), out));
    all = λ j d less lacks. elim (cases_lt j i) [
      | inl lt ↦
          let held = before.all j d lt lacks in
          (held.0, subst (λ (xs : List Attributes). Contains xs held.0) (sym (map-append attributes largest (one ∷ []))) (Contains-append_left (schemes_of largest) (attributes one ∷ []) held.0 held.1), held.2)
      | inr ge ↦
          let here : j ≡ i = omega (arith, less, ge) in
          let is_one : get_or evidence j d ≡ one = ap (λ (p : ℕ). get_or evidence p d) here ∙ at d in (
            attributes one,
            subst (λ (xs : List Attributes). Contains xs (attributes one)) (sym (map-append attributes largest (one ∷ [])))
                (Contains-append_right (schemes_of largest) (attributes one ∷ []) (attributes one) (Contains-head (attributes one) [])),
            λ k m. subst (λ (s : AttrSet). attributes s k ≡ true) is_one m,
          )
    ];
  })

pub largest_all : (a : ℕ) (evidence largest : List AttrSet) (bound : ℕ) → length evidence ≤ bound → AreLargestUpTo a evidence bound largest → AreLargest a (schemes_of evidence) (schemes_of largest)
largest_all a evidence largest bound long before = record {
  each = before.each;
  all = λ e listed lacks.
      let (s, s_in, is) = map-member attributes evidence e listed in
      let here : attributes (get_or evidence s_in.0 s) ≡ e = ap attributes s_in.2 ∙ is in
      subst (λ (x : Attributes). IsHeldBy (schemes_of largest) x) here
      (before.all s_in.0 s (omega (arith, s_in.1, long)) (subst (λ (x : Attributes). x a ≡ false) (sym here) lacks));
}
