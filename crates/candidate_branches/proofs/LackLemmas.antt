-- The members of a set that listed evidence with a column lacks, one piece after the other.
use Rattle.std.proofs.Common.{inl, inr, ◌≡◌, ◌+◌, ◌<◌, ◌≤◌, ℕ, true, false, List, length, get_or, sym, ap, subst, ◌∙◌, arith}
use Rattle.std.specs.Prelude.{Contains}
use Rattle.std.proofs.lemmas.Bool.{cases_Bool, cases_lt, false≢true}
use Rattle.std.proofs.lemmas.List.Elements.{Contains-get_or}
use Rattle.attr_sets.specs.Attributes.{Attributes, IsSubset, difference, none, union}
use Rattle.attr_sets.specs.Sets.{attributes}
use Rattle.attr_sets.specs.declared.set.AttrSet.{AttrSet}
use Rattle.attr_sets.proofs.AttributesLemmas.{same_at}
use Rattle.dep_model.specs.Plans.{schemes_of}
use Rattle.dep_model.proofs.ListLemmas.{Contains-map, map-member}
use Rattle.candidate_branches.specs.Branches.{IsEachLacked, IsWitnessed}
use Rattle.candidate_branches.proofs.BranchLemmas.{or_cases, or_left, or_right, outside_from, outside_to}

-- the members of a set that the first of listed sets lack that have a column
pub record AreLackedUpTo (sets : List AttrSet) (set : Attributes) (column bound : ℕ) (lacked : Attributes) : Type 0 where
  pub each : (k : ℕ) → lacked k ≡ true → IsWitnessed (schemes_of sets) column k
  pub all : (i k : ℕ) (d : AttrSet) → i < bound → set k ≡ true → attributes (get_or sets i d) column ≡ true → attributes (get_or sets i d) k ≡ false → lacked k ≡ true

pub lacked_first : (sets : List AttrSet) (set : Attributes) (column : ℕ) (lacked : Attributes) → lacked ≡ none → AreLackedUpTo sets set column 0 lacked
lacked_first sets set column lacked is = record {
  each = λ k m. absurd (false≢true (sym (same_at is k) ∙ m));
  all = λ i k d less. absurd (omega (arith, less));
}

module _ (sets : List AttrSet) (set : Attributes) (column i : ℕ) (one : AttrSet) (low : i < length sets) (at : (d : AttrSet) → get_or sets i d ≡ one) (lacked next : Attributes)
    (before : AreLackedUpTo sets set column i lacked)
    (without : attributes one column ≡ false → next ≡ lacked) (having : attributes one column ≡ true → next ≡ union lacked (difference set (attributes one))) where
  each_next : (k : ℕ) → next k ≡ true → IsWitnessed (schemes_of sets) column k
  each_next k m = elim (cases_Bool (attributes one column)) [
    | inr out ↦ before.each k (sym (same_at (without out) k) ∙ m)
    | inl has ↦ elim (or_cases (lacked k) (difference set (attributes one) k) (sym (same_at (having has) k) ∙ m)) [
      | inl old ↦ before.each k old
      | inr new ↦ (
        attributes one,
        Contains-map attributes sets one (subst (λ (s : AttrSet). Contains sets s) (at one) (Contains-get_or sets i one low)),
        has,
        (outside_to set (attributes one) k new).1,
      )
    ]
  ]

  kept_next : (k : ℕ) → lacked k ≡ true → next k ≡ true
  kept_next k m = elim (cases_Bool (attributes one column)) [
    | inr out ↦ same_at (without out) k ∙ m
    | inl has ↦ same_at (having has) k ∙ or_left (lacked k) (difference set (attributes one) k) m
  ]

  pub lacked_more : AreLackedUpTo sets set column (i + 1) next
  lacked_more = record {
    each = each_next;
    all = λ j k d less m has lacks. elim (cases_lt j i) [
      | inl lt ↦ kept_next k (before.all j k d lt m has lacks)
      | inr ge ↦
          let here : j ≡ i = omega (arith, less, ge) in
          let is : get_or sets j d ≡ one = ap (λ (p : ℕ). get_or sets p d) here ∙ at d in
          let one_has : attributes one column ≡ true = subst (λ (s : AttrSet). attributes s column ≡ true) is has in
          same_at (having one_has) k
          ∙ or_right (lacked k) (difference set (attributes one) k) (outside_from set (attributes one) k m (subst (λ (s : AttrSet). attributes s k ≡ false) is lacks))
    ];
  }

pub lacked_each : (sets : List AttrSet) (set : Attributes) (column bound : ℕ) (lacked : Attributes) → AreLackedUpTo sets set column bound lacked → IsSubset set lacked
    → IsEachLacked (schemes_of sets) set column
lacked_each sets set column bound lacked are inside k m = are.each k (inside k m)

pub lacked_all : (sets : List AttrSet) (set : Attributes) (column bound : ℕ) (lacked : Attributes) → length sets ≤ bound → AreLackedUpTo sets set column bound lacked
    → IsEachLacked (schemes_of sets) set column → IsSubset set lacked
lacked_all sets set column bound lacked long are each k m =
    let found = each k m in
    let (s, s_in, is) = map-member attributes sets found.0 found.1 in
    are.all s_in.0 k s (omega (arith, s_in.1, long)) m
    (subst (λ (t : AttrSet). attributes t column ≡ true) (sym s_in.2) (subst (λ (x : Attributes). x column ≡ true) (sym is) found.2))
    (subst (λ (t : AttrSet). attributes t k ≡ false) (sym s_in.2) (subst (λ (x : Attributes). x k ≡ false) (sym is) found.3))
