-- One step of the candidates: what evidence without the right side makes of them.
use Rattle.std.proofs.Common.{inl, inr, ◌≡◌, ◌<◌, ◌⊎◌, ◌||◌, ◌==◌, ℕ, Bool, true, false, List, [], ◌∷◌, refl, sym, ap, subst, ◌∙◌, arith}
use Rattle.std.specs.Prelude.{Contains}
use Rattle.std.proofs.lemmas.Bool.{cases_Bool, eqb-true, false≢true, true≢false}
use Rattle.std.proofs.lemmas.Bool.Decides.{nat_tests}
use Rattle.std.proofs.lemmas.List.Elements.{All-contains, All-cons, All-nil, All-weaker}
use Rattle.attr_sets.specs.Attributes.{Attributes, IsSubset, below, none, only, union}
use Rattle.attr_sets.proofs.AttributesLemmas.{count_below-none, count_below-within, same_at, same_from_within, tell_subset}
use Rattle.dep_model.proofs.ListLemmas.{Contains-nil, Contains-head}
use Rattle.candidate_sets.specs.Standing.{AreCandidates, IsCandidate, Stands}
use Rattle.candidate_sets.specs.Steps.{IsGrown, IsHit, IsNotHit, IsNew, IsCandidateStep}
use Rattle.candidate_sets.proofs.StandingLemmas.{candidate_alone, candidate_within, stands_larger, stands_less, stands_more}

-- ---- no evidence, and evidence with the right side
pub none_candidate : (n most a : ℕ) → IsCandidate n most [] a none
none_candidate n most a = record {
  within = λ k m. absurd (false≢true m);
  outside = refl;
  within_limit = omega (arith, count_below-none n none (λ k l. refl));
  minimal = record {
    stands = λ e listed. absurd (Contains-nil e listed);
    minimal = λ v inside stands k m. absurd (false≢true m);
  };
}

pub first_candidates : (n most a : ℕ) → AreCandidates n most [] a (none ∷ [])
first_candidates n most a = record {
  each = All-cons (IsCandidate n most [] a) none [] (none_candidate n most a) (All-nil (IsCandidate n most [] a));
  all = λ x is.
      let same : none ≡ x = same_from_within none x (λ k m. absurd (false≢true m))
      (is.minimal.minimal none (λ k m. absurd (false≢true m)) (λ e listed. absurd (Contains-nil e listed))) in
      subst (λ (v : Attributes). Contains (none ∷ []) v) same (Contains-head none []);
  ascending = λ i j d before l. absurd (omega (arith, before, l));
}

-- evidence with the right side refutes nothing
module _ (n most : ℕ) (es : List Attributes) (a : ℕ) (e : Attributes) (has : e a ≡ true) where
  stands_still : (x : Attributes) → Stands es a x → Stands (e ∷ es) a x
  stands_still x stands = stands_more es a e x stands (λ lacks inside. true≢false (sym has ∙ lacks))

  candidate_still : (x : Attributes) → IsCandidate n most es a x → IsCandidate n most (e ∷ es) a x
  candidate_still x is = record {
    within = is.within;
    outside = is.outside;
    within_limit = is.within_limit;
    minimal = record {
      stands = stands_still x is.minimal.stands;
      minimal = λ v inside stands. is.minimal.minimal v inside (stands_less es a e v stands);
    };
  }

  candidate_before : (x : Attributes) → IsCandidate n most (e ∷ es) a x → IsCandidate n most es a x
  candidate_before x is = record {
    within = is.within;
    outside = is.outside;
    within_limit = is.within_limit;
    minimal = record {
      stands = stands_less es a e x is.minimal.stands;
      minimal = λ v inside stands. is.minimal.minimal v inside (stands_still v stands);
    };
  }

  pub candidates_still : (xs : List Attributes) → AreCandidates n most es a xs → AreCandidates n most (e ∷ es) a xs
  candidates_still xs are = record {
    each = All-weaker (IsCandidate n most es a) (IsCandidate n most (e ∷ es) a) candidate_still xs are.each;
    all = λ x is. are.all x (candidate_before x is);
    ascending = are.ascending;
  }

-- ---- one column more
-- a member of a grown set is one of the hit set or the column
pub grown_cases : (n a : ℕ) (e hit : Attributes) (b : ℕ) (y : Attributes) (k : ℕ) → IsGrown n a e hit b y → y k ≡ true
    → (hit k ≡ true) ⊎ (k ≡ b)
grown_cases n a e hit b y k grown member = elim (cases_Bool (hit k)) [
  | inl has ↦ inl has
  | inr out ↦ inr (eqb-true k b (sym (ap (λ (c : Bool). c || (k == b)) out) ∙ sym (same_at grown.is k) ∙ member))
]

pub grown_holds : (n a : ℕ) (e hit : Attributes) (b : ℕ) (y : Attributes) → IsGrown n a e hit b y → IsSubset hit y
grown_holds n a e hit b y grown k m = same_at grown.is k ∙ grind (arith, m)

pub grown_has : (n a : ℕ) (e hit : Attributes) (b : ℕ) (y : Attributes) → IsGrown n a e hit b y → y b ≡ true
grown_has n a e hit b y grown = same_at grown.is b ∙ with_column (hit b)
  where
    with_column : (c : Bool) → (c || (b == b)) ≡ true
    with_column c = grind (arith, nat_tests)

-- ---- the step
module _ (n most : ℕ) (es : List Attributes) (a : ℕ) (e : Attributes) (xs : List Attributes)
    (are : AreCandidates n most es a xs) where
  pub listed_candidate : (x : Attributes) → Contains xs x → IsCandidate n most es a x
  listed_candidate x listed = All-contains (IsCandidate n most es a) xs x are.each listed

  -- where one grown set holds another, they are one, from one set by one column
  module _ (hit other : Attributes) (b c : ℕ) (y z : Attributes) (is_hit : IsHit xs e hit)
      (is_other : IsHit xs e other) (one : IsGrown n a e hit b y) (two : IsGrown n a e other c z)
      (inside : IsSubset y z) where
    same_column : b ≡ c
    same_column = elim (grown_cases n a e other c z b two (inside b (grown_has n a e hit b y one))) [
      | inl has ↦ absurd (true≢false (sym (is_other.1 b has) ∙ one.outside))
      | inr same ↦ same
    ]

    hit_within : IsSubset hit other
    hit_within k m = elim (grown_cases n a e other c z k two (inside k (grown_holds n a e hit b y one k m))) [
      | inl has ↦ has
      | inr same ↦ absurd (true≢false (sym (is_hit.1 k m) ∙ ap e same ∙ two.outside))
    ]

    pub grown_once : (hit ≡ other) × (b ≡ c)
    grown_once = (
      candidate_alone n most es a hit other (listed_candidate hit is_hit.0) (listed_candidate other is_other.0)
          hit_within,
      same_column,
    )

  module _ (lacks : e a ≡ false) where
    stands_apart : (x : Attributes) → Stands es a x → (IsSubset x e → ⊥) → Stands (e ∷ es) a x
    stands_apart x stands apart = stands_more es a e x stands (λ out. apart)

    -- what stands against the evidence is not within it
    apart_now : (x : Attributes) → Stands (e ∷ es) a x → IsSubset x e → ⊥
    apart_now x stands inside = stands e (Contains-head e es) lacks inside

    pub kept_candidate : (x : Attributes) → IsNotHit xs e x → IsCandidate n most (e ∷ es) a x
    kept_candidate x kept =
        let old : IsCandidate n most es a x = listed_candidate x kept.0 in
        record {
          within = old.within;
          outside = old.outside;
          within_limit = old.within_limit;
          minimal = record {
            stands = stands_apart x old.minimal.stands kept.1;
            minimal = λ v inside stands. old.minimal.minimal v inside (stands_less es a e v stands);
          };
        }

    module _ (y : Attributes) (new : IsNew n most a e xs y) where
      old_hit : IsCandidate n most es a new.hit
      old_hit = listed_candidate new.hit new.is_hit.0

      new_within : IsSubset y (below n)
      new_within k m = elim (grown_cases n a e new.hit new.by y k new.grown m) [
        | inl has ↦ old_hit.within k has
        | inr same ↦ let low = new.grown.column in grind (arith, nat_tests, same, low)
      ]

      new_outside : y a ≡ false
      new_outside = elim (cases_Bool (y a)) [
        | inr out ↦ out
        | inl has ↦ absurd (elim (grown_cases n a e new.hit new.by y a new.grown has) [
          | inl in_hit ↦ true≢false (sym in_hit ∙ old_hit.outside)
          | inr same ↦ new.grown.other (sym same)
        ])
      ]

      new_apart : IsSubset y e → ⊥
      new_apart inside = true≢false
          (sym (inside new.by (grown_has n a e new.hit new.by y new.grown)) ∙ new.grown.outside)

      new_stands : Stands (e ∷ es) a y
      new_stands = stands_apart y
          (stands_larger es a new.hit y (grown_holds n a e new.hit new.by y new.grown) old_hit.minimal.stands) new_apart

      -- a member of it within the evidence is one of the hit set
      in_hit : (k : ℕ) → y k ≡ true → e k ≡ true → new.hit k ≡ true
      in_hit k m inside = elim (grown_cases n a e new.hit new.by y k new.grown m) [
        | inl has ↦ has
        | inr same ↦ absurd (true≢false (sym inside ∙ ap e same ∙ new.grown.outside))
      ]

      module _ (v : Attributes) (v_inside : IsSubset v y) (v_stands : Stands (e ∷ es) a v) where
        v_outside : v a ≡ false
        v_outside = elim (cases_Bool (v a)) [
          | inl has ↦ absurd (true≢false (sym (v_inside a has) ∙ new_outside))
          | inr out ↦ out
        ]

        v_by : v new.by ≡ true
        v_by = elim (cases_Bool (v new.by)) [
          | inl has ↦ has
          | inr out ↦ absurd (apart_now v v_stands (λ k m. elim
              (grown_cases n a e new.hit new.by y k new.grown (v_inside k m)) [
                | inl has ↦ new.is_hit.1 k has
                | inr same ↦ absurd (true≢false (sym m ∙ ap v same ∙ out))
              ]))
        ]

        -- the hit set is the old candidate within it
        v_hit : IsSubset new.hit v
        v_hit =
            let found = candidate_within n most es v a (λ k m. new_within k (v_inside k m)) v_outside
            (omega (arith, count_below-within n v y v_inside, new.within_limit)) (stands_less es a e v v_stands) in
            let listed : Contains xs found.0 = are.all found.0 found.2 in
            elim (tell_subset n found.0 e found.2.within) [
              | inl apart ↦ absurd (new.holds_none found.0
                  (listed, (λ inside. true≢false (sym (inside apart.0 apart.2) ∙ apart.3)))
                  (λ k m. v_inside k (found.1 k m)))
              | inr inside ↦
                  let in_it : IsSubset found.0 new.hit = λ k m. in_hit k (v_inside k (found.1 k m)) (inside k m) in
                  λ k m. found.1 k (old_hit.minimal.minimal found.0 in_it found.2.minimal.stands k m)
            ]

        v_holds : IsSubset y v
        v_holds k m = elim (grown_cases n a e new.hit new.by y k new.grown m) [
          | inl has ↦ v_hit k has
          | inr same ↦ ap v same ∙ v_by
        ]

      pub new_candidate : IsCandidate n most (e ∷ es) a y
      new_candidate = record {
        within = new_within;
        outside = new_outside;
        within_limit = new.within_limit;
        minimal = record { stands = new_stands; minimal = v_holds };
      }

    -- a candidate of the evidence with the rest is kept or new
    module _ (x : Attributes) (is : IsCandidate n most (e ∷ es) a x) where
      kept_or_new : IsNotHit xs e x ⊎ IsNew n most a e xs x
      kept_or_new =
          let found = candidate_within n most es x a is.within is.outside is.within_limit
          (stands_less es a e x is.minimal.stands) in
          let listed : Contains xs found.0 = are.all found.0 found.2 in
          elim (tell_subset n found.0 e found.2.within) [
            | inl apart ↦
                let away : IsSubset found.0 e → ⊥ = λ inside. true≢false (sym (inside apart.0 apart.2) ∙ apart.3) in
                let same : found.0 ≡ x = same_from_within found.0 x found.1
                (is.minimal.minimal found.0 found.1 (stands_apart found.0 found.2.minimal.stands away)) in
                inl (subst (λ (v : Attributes). IsNotHit xs e v) same (listed, away))
            | inr inside ↦ elim (tell_subset n x e is.within) [
              | inr within ↦ absurd (apart_now x is.minimal.stands within)
              | inl apart ↦ inr (new_from found.0 listed found.1 found.2 inside apart.0 apart.1 apart.2 apart.3)
            ]
          ]
        where
          new_from : (w : Attributes) → Contains xs w → IsSubset w x → IsCandidate n most es a w → IsSubset w e
              → (b : ℕ) → b < n → x b ≡ true → e b ≡ false → IsNew n most a e xs x
          new_from w listed w_in w_is inside b b_in has out = record {
            hit = w;
            is_hit = (listed, inside);
            by = b;
            grown = record {
              column = b_in;
              other = λ same. true≢false (sym has ∙ ap x same ∙ is.outside);
              outside = out;
              is = same_from_within x (union w (only b)) back there;
            };
            within_limit = is.within_limit;
            holds_none = λ z kept z_in.
                let z_is : IsCandidate n most es a z = listed_candidate z kept.0 in
                let x_in : IsSubset x z = is.minimal.minimal z z_in (stands_apart z z_is.minimal.stands kept.1) in
                let z_low : IsSubset z w = z_is.minimal.minimal w (λ k m. x_in k (w_in k m)) w_is.minimal.stands in
                kept.1 (λ k m. inside k (z_low k m));
          }
            where
              there : IsSubset (union w (only b)) x
              there k m = elim (cases_Bool (w k)) [
                | inl member ↦ w_in k member
                | inr away ↦ ap x (eqb-true k b (sym (ap (λ (c : Bool). c || (k == b)) away) ∙ m)) ∙ has
              ]

              grown_stands : Stands (e ∷ es) a (union w (only b))
              grown_stands = stands_apart (union w (only b))
                  (stands_larger es a w (union w (only b)) (λ k m. grind (arith, m)) w_is.minimal.stands)
                  (λ within. true≢false (sym (within b (grind (arith, nat_tests))) ∙ out))

              back : IsSubset x (union w (only b))
              back = is.minimal.minimal (union w (only b)) there grown_stands

    pub step_candidates : (ys : List Attributes) → IsCandidateStep n most a e xs ys → AreCandidates n most (e ∷ es) a ys
    step_candidates ys step = record {
      each = All-weaker (λ y. IsNotHit xs e y ⊎ IsNew n most a e xs y) (IsCandidate n most (e ∷ es) a)
          (λ y h. elim h [ inl kept ↦ kept_candidate y kept | inr new ↦ new_candidate y new ]) ys step.each;
      all = λ x is. elim (kept_or_new x is) [ inl kept ↦ step.kept x kept | inr new ↦ step.new x new ];
      ascending = step.ascending;
    }
