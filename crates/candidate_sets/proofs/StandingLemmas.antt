-- Which sets stand, that each of them holds a candidate, and what it means that all candidates are obeyed.
use Rattle.std.proofs.Common.{inl, inr, ◌≡◌, ◌<◌, ◌≤◌, ◌⊎◌, ◌↔◌, ℕ, zero, suc, true, false, List, [], ◌∷◌, refl, sym, ap, subst, ◌∙◌, arith}
use Rattle.std.specs.Prelude.{All, Contains}
use Rattle.std.proofs.lemmas.Bool.{cases_Bool, cases_eq, eq-eqb, true≢false}
use Rattle.std.proofs.lemmas.Bool.Decides.{nat_tests}
use Rattle.std.proofs.lemmas.List.Elements.{All-contains}
use Rattle.attr_sets.specs.Attributes.{Attributes, IsSubset, below, count_below, difference, only}
use Rattle.attr_sets.proofs.AttributesLemmas.{count_below-difference_only, count_below-pos, count_below-within, same_from_within, tell_subset}
use Rattle.dep_model.specs.Tuples.{Relation, AgreeOn, value_at}
use Rattle.dep_model.specs.Dependencies.{ObeysFd}
use Rattle.dep_model.proofs.ListLemmas.{Contains-nil, Contains-cases, Contains-head, Contains-later}
use Rattle.dep_model.proofs.TwoRowLemmas.{agree-from}
use Rattle.fd_discovery.specs.Minimal.{IsMinimalWithin}
use Rattle.candidate_sets.specs.Evidence.{AreEvidence, IsEvidence}
use Rattle.candidate_sets.specs.Standing.{AreCandidates, IsCandidate, IsMinimalStanding, Stands}

-- ---- what stands
-- what rows obey stands against their evidence
pub obeyed_stands : (n : ℕ) (r : Relation) (es : List Attributes) (x : Attributes) (a : ℕ) → a < n
    → AreEvidence n r es → ObeysFd x (only a) r → Stands es a x
obeyed_stands n r es x a a_in are obeys e listed lacks inside =
    let pair : IsEvidence n r e = All-contains (IsEvidence n r) es e are listed in
    let agree : AgreeOn x pair.one pair.other =
    agree-from n e x pair.one pair.other pair.agree (λ k m. pair.within k (inside k m)) inside in
    let same : value_at pair.one a ≡ value_at pair.other a =
    obeys pair.one pair.other pair.one_row pair.other_row agree a (eq-eqb a a refl) in
    true≢false (sym ((pair.agree.equal a a_in).1 same) ∙ lacks)

pub stands_more : (es : List Attributes) (a : ℕ) (e x : Attributes) → Stands es a x
    → (e a ≡ false → IsSubset x e → ⊥) → Stands (e ∷ es) a x
stands_more es a e x stands against f listed lacks inside = elim (Contains-cases e es f listed) [
  | inl same ↦ against (sym (ap (λ (g : Attributes). g a) same) ∙ lacks)
      (subst (λ (g : Attributes). IsSubset x g) same inside)
  | inr later ↦ stands f later lacks inside
]

pub stands_less : (es : List Attributes) (a : ℕ) (e x : Attributes) → Stands (e ∷ es) a x → Stands es a x
stands_less es a e x stands f listed lacks inside = stands f (Contains-later e es f listed) lacks inside

pub stands_larger : (es : List Attributes) (a : ℕ) (x y : Attributes) → IsSubset x y → Stands es a x → Stands es a y
stands_larger es a x y within stands f listed lacks inside = stands f listed lacks (λ k m. inside k (within k m))

-- a set stands, or some evidence without the attribute holds it
abbrev IsRefuted : List Attributes → ℕ → Attributes → Type 0
IsRefuted es a x = (e : Attributes) × Contains es e × (e a ≡ false) × IsSubset x e

refuted_later : (es : List Attributes) (a : ℕ) (e x : Attributes) → IsRefuted es a x → IsRefuted (e ∷ es) a x
refuted_later es a e x found = (found.0, Contains-later e es found.0 found.1, found.2, found.3)

pub tell_stands : (n : ℕ) (es : List Attributes) (a : ℕ) (x : Attributes) → IsSubset x (below n)
    → Stands es a x ⊎ IsRefuted es a x
tell_stands n [] a x low = inl (λ e listed lacks inside. Contains-nil e listed)
tell_stands n (e ∷ es) a x low = elim (tell_stands n es a x low) [
  | inr found ↦ inr (refuted_later es a e x found)
  | inl stands ↦ elim (cases_Bool (e a)) [
    | inl has ↦ inl (stands_more es a e x stands (λ lacks inside. true≢false (sym has ∙ lacks)))
    | inr lacks ↦ elim (tell_subset n x e low) [
      | inl apart ↦ inl (stands_more es a e x stands
          (λ out inside. true≢false (sym (inside apart.0 apart.2) ∙ apart.3)))
      | inr inside ↦ inr (e, Contains-head e es, lacks, inside)
    ]
  ]
]

-- ---- what stands holds a minimal standing set
-- some member below m can be left out, or none
tell_spare : (m n : ℕ) (es : List Attributes) (a : ℕ) (x : Attributes) → IsSubset x (below n)
    → ((k : ℕ) × (k < m) × (x k ≡ true) × Stands es a (difference x (only k)))
    ⊎ ((k : ℕ) → k < m → x k ≡ true → Stands es a (difference x (only k)) → ⊥)
tell_spare zero n es a x low = inr (λ k l. absurd (omega (arith, l)))
tell_spare (suc m) n es a x low = elim (tell_spare m n es a x low) [
  | inl found ↦ inl (found.0, omega (arith, found.1), found.2, found.3)
  | inr before ↦ elim (cases_Bool (x m)) [
    | inr out ↦ inr (λ k l has stands. elim (cases_eq k m) [
      | inl same ↦ true≢false (sym has ∙ ap x same ∙ out)
      | inr other ↦ before k (omega (arith, l, other)) has stands
    ])
    | inl member ↦ elim (tell_stands n es a (difference x (only m)) (λ k l. low k (from_difference k l))) [
      | inl stands ↦ inl (m, omega arith, member, stands)
      | inr refuted ↦ inr (λ k l has stands. elim (cases_eq k m) [
        | inl same ↦ subst (λ (j : ℕ). Stands es a (difference x (only j))) same stands refuted.0 refuted.1
            refuted.2 refuted.3
        | inr other ↦ before k (omega (arith, l, other)) has stands
      ])
    ]
  ]
]
  where
    from_difference : (k : ℕ) → difference x (only m) k ≡ true → x k ≡ true
    from_difference k l = grind (arith, l)

-- where no member can be left out, the set is minimal
spared_none : (n : ℕ) (es : List Attributes) (a : ℕ) (x : Attributes) → IsSubset x (below n) → Stands es a x
    → ((k : ℕ) → k < n → x k ≡ true → Stands es a (difference x (only k)) → ⊥) → IsMinimalStanding es a x
spared_none n es a x low stands none_spare = record {
  stands = stands;
  minimal = λ v inside v_stands k member. elim (cases_Bool (v k)) [
    | inl has ↦ has
    | inr out ↦ absurd (none_spare k (grind (arith, nat_tests, low k member)) member
        (stands_larger es a v (difference x (only k)) (without v k inside out) v_stands))
  ];
}
  where
    without : (v : Attributes) (k : ℕ) → IsSubset v x → v k ≡ false → IsSubset v (difference x (only k))
    without v k inside out j m = elim (cases_eq j k) [
      | inl same ↦ absurd (true≢false (sym m ∙ ap v same ∙ out))
      | inr other ↦ grind (arith, nat_tests, inside j m, other)
    ]

within_whole : (x : Attributes) (k : ℕ) → IsSubset (difference x (only k)) x
within_whole x k j l = grind (arith, l)

-- what is found in a smaller set
from_smaller : (es : List Attributes) (a : ℕ) (x : Attributes) (k : ℕ)
    → (y : Attributes) × IsSubset y (difference x (only k)) × IsMinimalStanding es a y
    → (y : Attributes) × IsSubset y x × IsMinimalStanding es a y
from_smaller es a x k found = (found.0, (λ j l. within_whole x k j (found.1 j l)), found.2)

minimal_within : (m n : ℕ) (es : List Attributes) (a : ℕ) (x : Attributes) → count_below x n ≤ m → IsSubset x (below n)
    → Stands es a x → (y : Attributes) × IsSubset y x × IsMinimalStanding es a y
minimal_within zero n es a x few low stands = elim (tell_spare n n es a x low) [
  | inr none_spare ↦ (x, (λ k l. l), spared_none n es a x low stands none_spare)
  | inl spare ↦ absurd (omega (arith, few, count_below-pos n x spare.0 spare.1 spare.2))
]
minimal_within (suc m) n es a x few low stands = elim (tell_spare n n es a x low) [
  | inr none_spare ↦ (x, (λ k l. l), spared_none n es a x low stands none_spare)
  | inl spare ↦ from_smaller es a x spare.0
      (minimal_within m n es a (difference x (only spare.0))
      (omega (arith, few, count_below-difference_only n x spare.0 spare.1 spare.2))
      (λ j l. low j (within_whole x spare.0 j l)) spare.3)
]

pub candidate_within : (n most : ℕ) (es : List Attributes) (x : Attributes) (a : ℕ) → IsSubset x (below n)
    → x a ≡ false → count_below x n ≤ most → Stands es a x
    → (y : Attributes) × IsSubset y x × IsCandidate n most es a y
candidate_within n most es x a low lacks few stands =
    let found = minimal_within (count_below x n) n es a x (omega arith) low stands in (
      found.0,
      found.1,
      record {
        within = λ k m. low k (found.1 k m);
        outside = elim (cases_Bool (found.0 a)) [
          | inl has ↦ absurd (true≢false (sym (found.1 a has) ∙ lacks))
          | inr out ↦ out
        ];
        within_limit = omega (arith, few, count_below-within n found.0 x found.1);
        minimal = found.2;
      },
    )

-- the only candidate within a candidate is that one
pub candidate_alone : (n most : ℕ) (es : List Attributes) (a : ℕ) (x y : Attributes) → IsCandidate n most es a x
    → IsCandidate n most es a y → IsSubset x y → x ≡ y
candidate_alone n most es a x y one other inside =
    same_from_within x y inside (other.minimal.minimal x inside one.minimal.stands)

-- ---- where all candidates are obeyed
module _ (n most : ℕ) (r : Relation) (es : List Attributes) (a : ℕ) (xs : List Attributes) (a_in : a < n)
    (are : AreEvidence n r es) (listed : AreCandidates n most es a xs) (obey : All (λ x. ObeysFd x (only a) r) xs) where
  listed_minimal : (x : Attributes) → Contains xs x → IsMinimalWithin n r x a × (count_below x n ≤ most)
  listed_minimal x has =
      let one : IsCandidate n most es a x = All-contains (IsCandidate n most es a) xs x listed.each has in (
        record {
          left = one.within;
          right = a_in;
          minimal = record {
            outside = one.outside;
            obeys = All-contains (λ (v : Attributes). ObeysFd v (only a) r) xs x obey has;
            minimal = λ v inside obeys. one.minimal.minimal v inside (obeyed_stands n r es v a a_in are obeys);
          };
        },
        one.within_limit,
      )

  minimal_listed : (x : Attributes) → IsMinimalWithin n r x a × (count_below x n ≤ most) → Contains xs x
  minimal_listed x (is, few) =
      let found = candidate_within n most es x a is.left is.minimal.outside few
      (obeyed_stands n r es x a a_in are is.minimal.obeys) in
      let has : Contains xs found.0 = listed.all found.0 found.2 in
      let obeys : ObeysFd found.0 (only a) r = All-contains (λ (v : Attributes). ObeysFd v (only a) r) xs found.0 obey has in
      subst (λ (v : Attributes). Contains xs v)
      (same_from_within found.0 x found.1 (is.minimal.minimal found.0 found.1 obeys)) has

  pub obeyed_minimal : (x : Attributes) → Contains xs x ↔ (IsMinimalWithin n r x a × (count_below x n ≤ most))
  obeyed_minimal x = (listed_minimal x, minimal_listed x)
