-- The search for minimal dependencies, set by set and attribute by attribute.
use Rattle.std.proofs.Common.{inl, inr, ◌≡◌, ◌+◌, ◌<◌, ◌≤◌, ◌↔◌, ◌||◌, ◌==◌, nat_lt, ℕ, Bool, true, false, List, [], ◌∷◌, ◌++◌, get_or, refl, sym, ap, subst, ◌∙◌, arith}
use mathlib.Core.Path.{fun_ext}
use Rattle.std.specs.Prelude.{All, Contains}
use Rattle.std.proofs.lemmas.Bool.{cases_lt, cases_Bool, cases_order, true≢false, ltb-true, eqb-true}
use Rattle.std.proofs.lemmas.Bool.Decides.{nat_tests}
use Rattle.std.proofs.lemmas.List.Elements.{All-push, All-weaker, All-contains}
use Rattle.std.proofs.lemmas.List.Quantifiers.{all_pairs_push}
use Rattle.attr_sets.specs.Attributes.{Attributes, IsSubset, IsEmpty, IsBefore, IsFirstFrom, IsNextSubset, below, only, difference, union}
use Rattle.attr_sets.proofs.AttributesLemmas.{same_from_within, same_at}
use Rattle.attr_sets.proofs.OrderLemmas.{IsBefore-trans, tell_before, next_subset-is, next_subset-before}
use Rattle.attr_sets.proofs.UpToLemmas.{IsUpTo, before_up_to, filled_in, holds_after, only_before, subset_up_to, up_to_before}
use Rattle.dep_model.specs.Tuples.{Relation, IsOver}
use Rattle.dep_model.specs.Dependencies.{Dependency, fd, left_of, right_of, ObeysFd, Obeys, IsWithin}
use Rattle.dep_model.specs.Implication.{IsLegal, Implies}
use Rattle.dep_model.proofs.RuleLemmas.{fd_weaker_obeyed}
use Rattle.fd_discovery.specs.Minimal.{IsMinimalWithin, IsMinimalFd, Precedes, AreAllMinimal}
use Rattle.fd_discovery.specs.Searching.{IsListedFrom, AreUndetermined, IsTried, IsFoundBefore, AreFound}
use Rattle.fd_discovery.proofs.GivenLemmas.{given_still, given_now, given_cases, given_more}

-- ---- one attribute of a set after the other
-- minimal dependencies that were tried before y -> a, where `wanted` has the attributes that were not
-- given from y before the first of them was tried
pub record AreAdded (n : ℕ) (r : Relation) (y wanted : Attributes) (a : ℕ) (ds : List Dependency) : Type 0 where
  pub found : AreFound n r y a ds
  pub outside : (b : ℕ) → wanted b ≡ true → y b ≡ false
  pub none : (b : ℕ) → a ≤ b → wanted b ≡ true → IsListedFrom ds y b → ⊥
  pub rest : (b : ℕ) → b < n → wanted b ≡ false → y b ≡ false → IsListedFrom ds y b

pub added_none : (n : ℕ) (r : Relation) (y wanted : Attributes) (ds : List Dependency) → AreFound n r y 0 ds
    → AreUndetermined n ds y wanted → AreAdded n r y wanted 0 ds
added_none n r y wanted ds found given = record {
  found = found;
  outside = given.outside;
  none = λ b from has. given.none b has;
  rest = given.rest;
}

pub tried_more : (y x : Attributes) (a b : ℕ) → IsTried y a x b → IsTried y (a + 1) x b
tried_more y x a b tried = elim tried [
  | inl before ↦ inl before
  | inr same ↦ inr (same.0, omega (arith, same.1))
]

found_more : (n : ℕ) (r : Relation) (y : Attributes) (a : ℕ) (d : Dependency) → IsFoundBefore n r y a d
    → IsFoundBefore n r y (a + 1) d
found_more n r y a d (x, b, is, minimal, tried) = (x, b, is, minimal, tried_more y x a b tried)

module _ (n : ℕ) (r : Relation) (y wanted : Attributes) (a : ℕ) (ds : List Dependency) (y_in : IsSubset y (below n))
    (a_in : a < n) (old : AreAdded n r y wanted a ds) where
  -- nothing is to be added where the attribute is given already, or the rows do not obey the dependency
  found_same : ((x : Attributes) → x ≡ y → x a ≡ false → ObeysFd x (only a) r → IsListedFrom ds x a)
      → AreFound n r y (a + 1) ds
  found_same here = record {
    each = All-weaker (IsFoundBefore n r y a) (IsFoundBefore n r y (a + 1)) (λ d. found_more n r y a d) ds old.found.each;
    ascending = old.found.ascending;
    given = λ x b x_in b_in out tried obeys. elim tried [
      | inl before ↦ old.found.given x b x_in b_in out (inl before) obeys
      | inr same ↦ elim (cases_lt b a) [
        | inl less ↦ old.found.given x b x_in b_in out (inr (same.0, less)) obeys
        | inr last ↦
            let at : a ≡ b = omega (arith, same.1, last) in
            subst (λ (c : ℕ). IsListedFrom ds x c) at
            (here x same.0 (ap x at ∙ out) (subst (λ (c : ℕ). ObeysFd x (only c) r) (sym at) obeys))
      ]
    ];
  }

  added_same : ((x : Attributes) → x ≡ y → x a ≡ false → ObeysFd x (only a) r → IsListedFrom ds x a)
      → AreAdded n r y wanted (a + 1) ds
  added_same here = record {
    found = found_same here;
    outside = old.outside;
    none = λ b from has. old.none b (omega (arith, from)) has;
    rest = old.rest;
  }

  pub added_given : wanted a ≡ false → AreAdded n r y wanted (a + 1) ds
  added_given lacks = added_same (λ x same out obeys. given_more ds y x a (λ k m. same_at same k ∙ m)
      (old.rest a a_in lacks (sym (same_at same a) ∙ out)))

  pub added_broken : (ObeysFd y (only a) r → ⊥) → AreAdded n r y wanted (a + 1) ds
  added_broken breaks = added_same (λ x same out obeys. absurd
      (breaks (subst (λ (v : Attributes). ObeysFd v (only a) r) same obeys)))

  -- an attribute that is not given, of which the rows obey the dependency
  module _ (has : wanted a ≡ true) (obeys : ObeysFd y (only a) r) where
    new_minimal : IsMinimalWithin n r y a
    new_minimal = record {
      left = y_in;
      right = a_in;
      minimal = record {
        outside = old.outside a has;
        obeys = obeys;
        minimal = λ v inside v_obeys. elim (tell_before n v y (λ k m. y_in k (inside k m)) y_in) [
          | inl same ↦ λ k m. same_at same k ∙ m
          | inr other ↦ elim other [
            | inl before ↦
                let out : v a ≡ false = without v inside in
                absurd (old.none a (omega arith) has
                (given_more ds v y a inside (old.found.given v a (λ k m. y_in k (inside k m)) a_in out
                (inl before) v_obeys)))
            | inr back ↦ absurd (true≢false (sym (inside back.0 back.2) ∙ back.1))
          ]
        ];
      };
    }
      where
        without : (v : Attributes) → IsSubset v y → v a ≡ false
        without v inside = elim (cases_Bool (v a)) [
          | inl member ↦ absurd (true≢false (sym (inside a member) ∙ old.outside a has))
          | inr out ↦ out
        ]

    precedes_new : (d : Dependency) → IsFoundBefore n r y a d → Precedes d (fd y (only a))
    precedes_new d (x, b, is, minimal, tried) =
        subst (λ (e : Dependency). Precedes e (fd y (only a))) (sym is) (elim tried [
          | inl before ↦ inl before
          | inr same ↦ inr (same.0, only_before b a same.1)
        ])

    pub added_new : AreAdded n r y wanted (a + 1) (ds ++ fd y (only a) ∷ [])
    added_new = record {
      found = record {
        each = All-push (IsFoundBefore n r y (a + 1)) ds (fd y (only a))
            (All-weaker (IsFoundBefore n r y a) (IsFoundBefore n r y (a + 1)) (λ d. found_more n r y a d) ds old.found.each)
            (y, a, refl, new_minimal, inr (refl, omega arith));
        ascending = all_pairs_push Precedes ds (fd y (only a)) old.found.ascending
            (λ k d l. precedes_new (get_or ds k d) (old.found.each k d l));
        given = λ x b x_in b_in out tried x_obeys. elim tried [
          | inl before ↦ given_still ds (fd y (only a)) x b (old.found.given x b x_in b_in out (inl before) x_obeys)
          | inr same ↦ elim (cases_lt b a) [
            | inl less ↦ given_still ds (fd y (only a)) x b
                (old.found.given x b x_in b_in out (inr (same.0, less)) x_obeys)
            | inr last ↦
                let at : b ≡ a = omega (arith, same.1, last) in
                given_now ds (fd y (only a)) x b (λ k m. same_at same.0 k ∙ m) (grind (arith, nat_tests, at))
          ]
        ];
      };
      outside = old.outside;
      none = λ b from b_has h. elim (given_cases ds (fd y (only a)) y b h) [
        | inl before ↦ old.none b (omega (arith, from)) b_has before
        | inr now ↦ absurd (omega (arith, from, eqb-true b a now.1))
      ];
      rest = λ b b_in lacks out. given_still ds (fd y (only a)) y b (old.rest b b_in lacks out);
    }

pub added_all : (n : ℕ) (r : Relation) (y wanted : Attributes) (a : ℕ) (ds : List Dependency) → a ≡ n
    → AreAdded n r y wanted a ds → AreFound n r y n ds
added_all n r y wanted a ds end added = subst (λ (m : ℕ). AreFound n r y m ds) end added.found

-- ---- one set after the other
-- a set whose attributes are all tried, and the next one
pub found_next : (n : ℕ) (r : Relation) (x y : Attributes) (ds : List Dependency) → IsSubset x (below n)
    → IsNextSubset (below n) x y → AreFound n r x n ds → AreFound n r y 0 ds
found_next n r x y ds x_in next found = record {
  each = All-weaker (IsFoundBefore n r x n) (IsFoundBefore n r y 0) (λ d h. moved d h) ds found.each;
  ascending = found.ascending;
  given = λ v a v_in a_in out tried obeys. elim tried [
    | inl before ↦ elim (next_subset-before n (below n) x y v (λ k m. m) x_in next v_in before) [
      | inl same ↦ found.given v a v_in a_in out (inr (same, a_in)) obeys
      | inr earlier ↦ found.given v a v_in a_in out (inl earlier) obeys
    ]
    | inr same ↦ absurd (omega (arith, same.1))
  ];
}
  where
    moved : (d : Dependency) → IsFoundBefore n r x n d → IsFoundBefore n r y 0 d
    moved d (v, a, is, minimal, tried) = (
      v,
      a,
      is,
      minimal,
      inl (elim tried [
        | inl before ↦ IsBefore-trans v x y before next.after
        | inr same ↦ up_to_before v x y (inl same.0) next.after
      ]),
    )

pub found_same_set : (n : ℕ) (r : Relation) (x y : Attributes) (b : ℕ) (ds : List Dependency) → x ≡ y
    → AreFound n r x b ds → AreFound n r y b ds
found_same_set n r x y b ds same found = subst (λ (v : Attributes). AreFound n r v b ds) same found

-- a set with members from `bound` on, one attribute more below them, and the attributes below that
module _ (n bound i : ℕ) (set : Attributes) (set_in : IsSubset set (below n)) (above : (k : ℕ) → set k ≡ true → bound ≤ k)
    (bound_in : bound ≤ n) (i_in : i < bound) (larger : Attributes) (is : larger ≡ union set (only i)) where
  pub larger_in : IsSubset larger (below n)
  larger_in k m = elim (cases_Bool (set k)) [
    | inl member ↦ set_in k member
    | inr out ↦
        let at : k ≡ i = eqb-true k i (sym (ap (λ (b : Bool). b || (k == i)) out) ∙ sym (same_at is k) ∙ m) in
        grind (arith, nat_tests, at, i_in, bound_in)
  ]

  pub larger_above : (k : ℕ) → larger k ≡ true → i ≤ k
  larger_above k m = elim (cases_Bool (set k)) [
    | inl member ↦ omega (arith, above k member, i_in)
    | inr out ↦
        let at : k ≡ i = eqb-true k i (sym (ap (λ (b : Bool). b || (k == i)) out) ∙ sym (same_at is k) ∙ m) in
        omega (arith, at)
  ]

  before_in : IsSubset (union set (below i)) (below n)
  before_in = filled_in n i set set_in (omega (arith, i_in, bound_in))

  -- the set with all attributes below i is followed by the set with i
  pub larger_next : IsNextSubset (below n) (union set (below i)) larger
  larger_next = next_subset-is (below n) (union set (below i)) larger i before_in least next
    where
      lacks : (k : ℕ) → k < i + 1 → set k ≡ false
      lacks k l = elim (cases_Bool (set k)) [
        | inl member ↦ absurd
            (omega (arith, above k member, i_in, l))
        | inr out ↦ out
      ]

      least : IsFirstFrom (difference (below n) (union set (below i))) 0 i
      least = record {
        from_on = omega arith;
        member = (let out : set i ≡ false = lacks i (omega arith) in grind (arith, nat_tests, out, i_in, bound_in));
        least = λ k from l. grind (arith, nat_tests, l);
      }

      next : larger ≡ union (difference (union set (below i)) (below i)) (only i)
      next = fun_ext (λ k. same_at is k ∙ elim (cases_lt k i) [
        | inl low ↦ let out : set k ≡ false = lacks k (omega (arith, low)) in grind (arith, nat_tests, low, out)
        | inr high ↦ grind (arith, nat_tests, high)
      ])

  -- the set with i and all attributes below it is the set with all attributes up to i
  pub larger_filled : union larger (below i) ≡ union set (below (i + 1))
  larger_filled = fun_ext (λ k. ap (λ (b : Bool). b || nat_lt k i) (same_at is k) ∙ elim (cases_order k i) [
    | inl same ↦ grind (arith, nat_tests, same)
    | inr other ↦ elim other [ inl low ↦ grind (arith, nat_tests, low) | inr high ↦ grind (arith, nat_tests, high) ]
  ])

  top_in : IsSubset (union set (below (i + 1))) (below n)
  top_in = filled_in n (i + 1) set set_in (omega (arith, i_in, bound_in))

  larger_up : IsUpTo larger (union set (below (i + 1)))
  larger_up = subset_up_to n larger (union set (below (i + 1))) top_in
      (λ k m. sym (same_at larger_filled k) ∙ ap (λ (b : Bool). b || nat_lt k i) m)

  -- a set after the set with i, up to the one with all attributes up to i, holds the set with i
  holds : (v : Attributes) → IsBefore larger v → IsUpTo v (union set (below (i + 1))) → IsSubset larger v
  holds v after up = holds_after i larger v larger_above after (subst (IsUpTo v) (sym larger_filled) up)

  pub found_at_larger : (r : Relation) (ds : List Dependency) → AreFound n r (union set (below i)) n ds
      → AreFound n r larger 0 ds
  found_at_larger r ds found = found_next n r (union set (below i)) larger ds before_in larger_next found

  -- where every attribute is given from the set with i, the sets up to the last that holds it are passed over
  module _ (r : Relation) (ds : List Dependency) (wanted : Attributes) (found : AreFound n r (union set (below i)) n ds)
      (given : AreUndetermined n ds larger wanted) (empty : IsEmpty wanted) where
    given_above : (v : Attributes) (a : ℕ) → IsSubset larger v → a < n → v a ≡ false → IsListedFrom ds v a
    given_above v a inside a_in out = given_more ds larger v a inside
        (given.rest a a_in (empty a) (without (larger a) refl))
      where
        without : (b : Bool) → larger a ≡ b → larger a ≡ false
        without true e = absurd (true≢false (sym (inside a e) ∙ out))
        without false e = e

    moved : (d : Dependency) → IsFoundBefore n r larger 0 d → IsFoundBefore n r (union set (below (i + 1))) n d
    moved d (v, a, is, minimal, tried) = (
      v,
      a,
      is,
      minimal,
      elim tried [
        | inl before ↦ inl (before_up_to v larger (union set (below (i + 1))) before larger_up)
        | inr same ↦ absurd (omega (arith, same.1))
      ],
    )

    pub found_past : AreFound n r (union set (below (i + 1))) n ds
    found_past =
        let at = found_at_larger r ds found in
        record {
          each = All-weaker (IsFoundBefore n r larger 0) (IsFoundBefore n r (union set (below (i + 1))) n) moved ds at.each;
          ascending = at.ascending;
          given = λ v a v_in a_in out tried obeys.
              let up : IsUpTo v (union set (below (i + 1))) =
              elim tried [ inl before ↦ inr before | inr same ↦ inl same.0 ] in
              elim (tell_before n v larger v_in larger_in) [
                | inl same ↦ given_above v a (λ k m. same_at same k ∙ m) a_in out
                | inr other ↦ elim other [
                  | inl before ↦ at.given v a v_in a_in out (inl before) obeys
                  | inr after ↦ given_above v a (holds v after up) a_in out
                ]
              ];
        }

  pub found_through : (r : Relation) (ds : List Dependency) → AreFound n r (union larger (below i)) n ds
      → AreFound n r (union set (below (i + 1))) n ds
  found_through r ds found = found_same_set n r (union larger (below i))
      (union set (below (i + 1))) n ds larger_filled found

-- ---- the whole search
pub found_start : (n : ℕ) (r : Relation) (set : Attributes) → IsEmpty set → AreFound n r set 0 []
found_start n r set empty = record {
  each = λ k d l. absurd (omega (arith, l));
  ascending = λ i j d less l. absurd (omega (arith, l));
  given = λ x a x_in a_in out tried obeys. elim tried [
    | inl before ↦ absurd (true≢false (sym before.2 ∙ empty before.0))
    | inr same ↦ absurd (omega (arith, same.1))
  ];
}

pub not_given_start : (n : ℕ) (set all : Attributes) → IsEmpty set → all ≡ below n → AreUndetermined n [] set all
not_given_start n set all empty whole = record {
  within = λ k m. sym (same_at whole k) ∙ m;
  outside = λ a m. empty a;
  none = λ a m h. omega (arith, h.2);
  rest = λ a l lacks out. absurd (true≢false (grind (arith, nat_tests, l, same_at whole a, lacks)));
}

pub found_up_to : (n : ℕ) (r : Relation) (set : Attributes) (ds : List Dependency) → AreFound n r set n ds
    → AreFound n r (union set (below 0)) n ds
found_up_to n r set ds found = found_same_set n r set (union set (below 0)) n ds (fun_ext (λ k. grind (arith, nat_tests))) found

pub found_whole : (n : ℕ) (r : Relation) (set : Attributes) (ds : List Dependency) → IsEmpty set
    → AreFound n r (union set (below n)) n ds → AreFound n r (below n) n ds
found_whole n r set ds empty found = found_same_set n r (union set (below n)) (below n) n ds
    (fun_ext (λ k. ap (λ (b : Bool). b || nat_lt k n) (empty k))) found

-- the search from the empty set on, by what its two steps say
pub search_whole : (w n : ℕ) (r : Relation) (set all : Attributes) (ds added whole : List Dependency) → w ≡ n
    → IsEmpty set → all ≡ below n → ds ≡ []
    → (IsSubset set (below w) → AreUndetermined w ds set all → AreFound w r set 0 ds → AreFound w r set w added)
    → (AreFound w r set w added → AreFound w r (union set (below n)) w whole)
    → AreFound n r (below n) n whole
search_whole w n r set all ds added whole width empty full nothing first rest =
    let inside : IsSubset set (below w) = λ k m. absurd (true≢false (sym m ∙ empty k)) in
    let start : AreFound w r set 0 ds = subst (λ (es : List Dependency). AreFound w r set 0 es) (sym nothing)
    (found_start w r set empty) in
    let given : AreUndetermined w ds set all =
    subst (λ (es : List Dependency). AreUndetermined w es set all) (sym nothing)
    (subst (λ (m : ℕ). AreUndetermined m [] set all) (sym width) (not_given_start n set all empty full)) in
    let found : AreFound w r (union set (below n)) w whole = rest (first inside given start) in
    found_whole n r set whole empty (subst (λ (m : ℕ). AreFound m r (union set (below n)) m whole) width found)

-- what gives an attribute is listed, and minimal
minimal_giver : (n : ℕ) (r : Relation) (y : Attributes) (b : ℕ) (ds : List Dependency) (x : Attributes) (a : ℕ) → AreFound n r y b ds
    → IsListedFrom ds x a
    → (v : Attributes) × Contains ds (fd v (only a)) × IsSubset v x × IsMinimalWithin n r v a
minimal_giver n r y b ds x a found (k, d, l, is_d, gives) =
    let (v, c, is, minimal, tried) = found.each k d l in
    let of : d ≡ fd v (only c) = sym is_d ∙ is in
    let same : a ≡ c = eqb-true a c (sym (ap (λ (e : Dependency). right_of e a) of) ∙ gives.1) in
    let listed : Contains ds (fd v (only c)) = subst (λ (e : Dependency). Contains ds e) of (k, l, is_d) in (
      v,
      subst (λ (e : ℕ). Contains ds (fd v (only e))) (sym same) listed,
      subst (λ (e : Dependency). IsSubset (left_of e) x) of gives.0,
      subst (λ (e : ℕ). IsMinimalWithin n r v e) (sym same) minimal,
    )

module _ (n : ℕ) (r : Relation) (ds : List Dependency) (found : AreFound n r (below n) n ds) where
  -- all that the rows obey is given
  all_given : (x : Attributes) (a : ℕ) → IsSubset x (below n) → a < n → x a ≡ false → ObeysFd x (only a) r → IsListedFrom ds x a
  all_given x a x_in a_in out obeys =
      found.given x a x_in a_in out (elim (subset_up_to n x (below n) (λ k m. m) x_in)
      [ inl same ↦ inr (same, a_in) | inr before ↦ inl before ]) obeys

  pub all_minimal : AreAllMinimal n r ds
  all_minimal = record {
    each = All-weaker (IsFoundBefore n r (below n) n) (IsMinimalFd n r) (λ d h. (h.0, h.1, h.2, h.3)) ds found.each;
    all = λ x a m.
        let (v, listed, inside, minimal) = minimal_giver n r (below n) n ds x a found
        (all_given x a m.left m.right m.minimal.outside m.minimal.obeys) in
        let same : v ≡ x = same_from_within v x inside
        (m.minimal.minimal v inside minimal.minimal.obeys) in
        subst (λ (w : Attributes). Contains ds (fd w (only a))) same listed;
    ascending = found.ascending;
  }

  legal : IsOver n r → IsLegal n ds r
  legal over = record {
    over = over;
    obeys = All-weaker (IsFoundBefore n r (below n) n) (λ d. Obeys n d r)
        (λ d h. subst (λ (e : Dependency). Obeys n e r) (sym h.2) h.3.minimal.obeys) ds found.each;
  }

  pub implied_by_rows : IsOver n r → (x y : Attributes) → IsSubset x (below n) → IsSubset y (below n)
      → Implies n ds (fd x y) ↔ ObeysFd x y r
  implied_by_rows over x y x_in y_in = ((λ implied. implied r (legal over)), (λ obeys. implies obeys))
    where
      implies : ObeysFd x y r → Implies n ds (fd x y)
      implies obeys other other_legal t u t_in u_in agree k y_k = elim (cases_Bool (x k)) [
        | inl member ↦ agree k member
        | inr out ↦
            let one : ObeysFd x (only k) r = fd_weaker_obeyed x y x (only k) r (λ j m. m)
            (λ j m. subst (λ (i : ℕ). y i ≡ true) (sym (eqb-true j k m)) y_k) obeys in
            let (v, listed, inside, minimal) =
            minimal_giver n r (below n) n ds x k found (all_given x k x_in (ltb-true k n (y_in k y_k)) out one) in
            All-contains (λ d. Obeys n d other) ds (fd v (only k)) other_legal.obeys listed t u t_in u_in
            (λ j m. agree j (inside j m)) k (grind (arith, nat_tests))
      ]

-- the sets of the minimal dependencies lie within the columns
pub all_within : (n : ℕ) (r : Relation) (ds : List Dependency) → AreAllMinimal n r ds → All (IsWithin (below n)) ds
all_within n r ds minimal = All-weaker (IsMinimalFd n r) (IsWithin (below n)) (λ d h. within d h) ds minimal.each
  where
    within : (d : Dependency) → IsMinimalFd n r d → IsWithin (below n) d
    within d (x, a, is, m) = subst (λ (e : Dependency). IsWithin (below n) e) (sym is) (
      m.left,
      (λ k has. subst (λ (i : ℕ). below n i ≡ true) (sym (eqb-true k a has))
          (let small : a < n = m.right in grind (arith, nat_tests, small))),
    )
