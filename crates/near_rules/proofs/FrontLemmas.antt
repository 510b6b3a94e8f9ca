-- What was tried: from one place in the order of sets and right sides to a later one.
use Rattle.std.proofs.Common.{inl, inr, ◌≡◌, ◌<◌, ◌≤◌, ◌+◌, ◌⊎◌, ◌||◌, nat_lt, ℕ, Bool, true, false, List, ◌++◌, length, get_or, sym, ap, subst, ◌∙◌, arith}
use Rattle.std.specs.Prelude.{Contains}
use Rattle.std.proofs.lemmas.Bool.{cases_lt, cases_Bool, true≢false, ltb-true, eqb-true}
use Rattle.std.proofs.lemmas.List.{get_or_append_left, length-append, map-append}
use Rattle.std.proofs.lemmas.List.Elements.{All-weaker}
use Rattle.attr_sets.specs.Attributes.{Attributes, IsSubset, IsEmpty, IsBefore, IsNextSubset, below, count_below, only, union}
use Rattle.attr_sets.proofs.AttributesLemmas.{count_below-lt, count_below-union_only, count_below-within, same_at}
use Rattle.attr_sets.proofs.OrderLemmas.{IsBefore-trans, tell_before, next_subset-before}
use Rattle.attr_sets.proofs.UpToLemmas.{IsUpTo, before_up_to, filled_in, holds_after, subset_up_to, up_to_before}
use Rattle.row_groups.specs.Numberings.{number_at}
use Rattle.dep_model.specs.Tuples.{Relation}
use Rattle.dep_model.specs.Dependencies.{Dependency, fd, left_of, right_of}
use Rattle.dep_model.specs.Deps.{dependencies_of, dependency_of}
use Rattle.dep_model.specs.declared.dep.Dep.{Dep}
use Rattle.fd_discovery.specs.Searching.{AreUndetermined, IsListedFrom, IsTried}
use Rattle.fd_discovery.proofs.GivenLemmas.{given_more}
use Rattle.fd_discovery.proofs.SearchLemmas.{larger_above, larger_filled, larger_in, larger_next, tried_more}
use Rattle.near_rules.specs.NearRules.{IsMinimalNear, MustBeTried}
use Rattle.near_rules.specs.Searching.{AreNearFoundBefore, AreTriedFor, IsNearFoundBefore}
use Rattle.near_rules.specs.declared.found.Found.{Found}
use Rattle.near_rules.specs.declared.found.Sought.{Sought}

-- ---- the order
-- what is listed stays listed
pub kept_listed : (old more new : List Dep) → new ≡ old ++ more → (x : Attributes) (a : ℕ)
    → IsListedFrom (dependencies_of old) x a → IsListedFrom (dependencies_of new) x a
kept_listed old more new is x a (k, d, l, at, gives) = (
  k,
  d,
  omega (
    arith,
    l,
    ap (λ (ds : List Dep). length (dependencies_of ds)) is,
    ap length (map-append dependency_of old more),
    length-append (dependencies_of old) (dependencies_of more),
  ),
  ap (λ (ds : List Dep). get_or (dependencies_of ds) k d) is ∙ ap (λ (es : List Dependency). get_or es k d) (map-append dependency_of old more)
      ∙ get_or_append_left (dependencies_of old) (dependencies_of more) d k l ∙ at,
  gives,
)

-- a set is not before itself, nor before one within it
not_before : (x y : Attributes) → IsBefore x y → IsSubset y x → ⊥
not_before x y before inside = true≢false (sym (inside before.0 before.2) ∙ before.1)

-- ---- from a place to a later one
module _ (s : Sought) (r : Relation) where
  abbrev Must : Attributes → ℕ → Type 0
  Must x a = MustBeTried s.width s.most s.limit r x a

  -- a set has nothing to be tried for a: a near set in it was found
  abbrev IsPassedOver : Found → Attributes → ℕ → Type 0
  IsPassedOver found x a = (Must x a → ⊥) × IsListedFrom (dependencies_of found.deps.items) x a

  module _ (y z : Attributes) (b c : ℕ) (found : Found) (old : AreNearFoundBefore s r y b found)
      (into : (x : Attributes) (a : ℕ) → a < s.rights → IsTried y b x a → IsTried z c x a)
      (out : (x : Attributes) (a : ℕ) → IsSubset x (below s.width) → count_below x s.width ≤ s.most → a < s.rights
      → x a ≡ false → IsTried z c x a → IsTried y b x a ⊎ IsPassedOver found x a)
      (low : (d : Dependency) → IsNearFoundBefore s r y b d → IsNearFoundBefore s r z c d) where
    advance_tried : (a : ℕ) → a < s.rights → AreTriedFor s r z c a (number_at found.tried.items a)
    advance_tried a a_in =
        let are = old.tried a a_in in
        record {
          sets = are.sets;
          each = All-weaker (λ x. Must x a × IsTried y b x a) (λ x. Must x a × IsTried z c x a)
              (λ x h. (h.0, into x a a_in h.1)) are.sets are.each;
          all = λ x must tried. elim (out x a must.within must.few a_in must.outside tried) [
            | inl before ↦ are.all x must before
            | inr passed ↦ absurd (passed.0 must)
          ];
          differ = are.differ;
          size = are.size;
        }

    pub advance : AreNearFoundBefore s r z c found
    advance = record {
      each = All-weaker (IsNearFoundBefore s r y b) (IsNearFoundBefore s r z c) low (dependencies_of found.deps.items) old.each;
      ascending = old.ascending;
      given = λ x a x_in few a_in lacks tried near. elim (out x a x_in few a_in lacks tried) [
        | inl before ↦ old.given x a x_in few a_in lacks before near
        | inr passed ↦ passed.1
      ];
      errors = old.errors;
      one_each = old.one_each;
      within_limit = old.within_limit;
      tried = advance_tried;
    }

  -- what is listed was found: it is near, and was tried before
  giver : (y : Attributes) (b : ℕ) (found : Found) → AreNearFoundBefore s r y b found → (x : Attributes) (a : ℕ)
      → IsListedFrom (dependencies_of found.deps.items) x a
      → (v : Attributes) × IsSubset v x × IsMinimalNear s.width s.most s.limit r v a × IsTried y b v a
      × Contains (dependencies_of found.deps.items) (fd v (only a))
  giver y b found old x a (k, d, l, is_d, gives) =
      let (v, c, is, minimal, tried) = old.each k d l in
      let of : d ≡ fd v (only c) = sym is_d ∙ is in
      let same : a ≡ c = eqb-true a c (sym (ap (λ (e : Dependency). right_of e a) of) ∙ gives.1) in
      let listed : Contains (dependencies_of found.deps.items) (fd v (only c)) =
      subst (λ (e : Dependency). Contains (dependencies_of found.deps.items) e) of (k, l, is_d) in (
        v,
        subst (λ (e : Dependency). IsSubset (left_of e) x) of gives.0,
        subst (λ (e : ℕ). IsMinimalNear s.width s.most s.limit r v e) (sym same) minimal,
        subst (λ (e : ℕ). IsTried y b v e) (sym same) tried,
        subst (λ (e : ℕ). Contains (dependencies_of found.deps.items) (fd v (only e))) (sym same) listed,
      )

  pub listed_near : (y : Attributes) (b : ℕ) (found : Found) → AreNearFoundBefore s r y b found → (x : Attributes) (a : ℕ)
      → IsListedFrom (dependencies_of found.deps.items) x a
      → (v : Attributes) × Contains (dependencies_of found.deps.items) (fd v (only a)) × IsSubset v x
      × IsMinimalNear s.width s.most s.limit r v a
  listed_near y b found old x a listed =
      let (v, inside, minimal, tried, there) = giver y b found old x a listed in (v, there, inside, minimal)

  -- what is given from a set before its right sides are tried need not be tried, nor larger sets
  given_passes : (y : Attributes) (found : Found) → AreNearFoundBefore s r y 0 found → (x : Attributes) (a : ℕ) → IsSubset y x
      → IsListedFrom (dependencies_of found.deps.items) y a → IsPassedOver found x a
  given_passes y found old x a inside listed =
      let (v, within, minimal, tried, there) = giver y 0 found old y a listed in (
        λ must. elim tried [
          | inl before ↦ not_before v y before
              (λ k m. must.apart v (λ j h. inside j (within j h)) minimal.near k (inside k m))
          | inr same ↦ omega (arith, same.1)
        ],
        given_more (dependencies_of found.deps.items) y x a inside listed,
      )

  -- ---- one right side of a set
  -- what is wanted has to be tried
  pub wanted_must : (y wanted : Attributes) (found : Found) (a : ℕ) → AreNearFoundBefore s r y 0 found
      → AreUndetermined s.rights (dependencies_of found.deps.items) y wanted → IsSubset y (below s.width)
      → count_below y s.width ≤ s.most → a < s.rights → wanted a ≡ true → Must y a
  wanted_must y wanted found a old given y_in few a_in has = record {
    within = y_in;
    few = few;
    outside = given.outside a has;
    apart = λ v inside near. elim (tell_before s.width v y (λ k m. y_in k (inside k m)) y_in) [
      | inl same ↦ λ k m. same_at same k ∙ m
      | inr other ↦ elim other [
        | inl before ↦ absurd (given.none a has (given_more (dependencies_of found.deps.items) v y a inside
            (old.given v a (λ k m. y_in k (inside k m)) (few_within v inside) a_in (lacks v inside) (inl before) near)))
        | inr back ↦ absurd (not_before y v back inside)
      ]
    ];
  }
    where
      few_within : (v : Attributes) → IsSubset v y → count_below v s.width ≤ s.most
      few_within v inside = omega (arith, count_below-within s.width v y inside, few)

      lacks : (v : Attributes) → IsSubset v y → v a ≡ false
      lacks v inside = elim (cases_Bool (v a)) [
        | inl member ↦ absurd (true≢false (sym (inside a member) ∙ given.outside a has))
        | inr out ↦ out
      ]

  -- what is not wanted need not be
  pub unwanted : (y wanted : Attributes) (found : Found) (a : ℕ) → AreNearFoundBefore s r y 0 found
      → AreUndetermined s.rights (dependencies_of found.deps.items) y wanted → a < s.rights → wanted a ≡ false
      → (Must y a → ⊥) × (y a ≡ false → IsListedFrom (dependencies_of found.deps.items) y a)
  unwanted y wanted found a old given a_in lacks = (
    λ must. (given_passes y found old y a (λ k m. m) (given.rest a a_in lacks must.outside)).0 must,
    λ out. given.rest a a_in lacks out,
  )

  -- it is passed over
  pub passed : (y : Attributes) (a : ℕ) (found : Found) → AreNearFoundBefore s r y a found → (Must y a → ⊥)
      → (y a ≡ false → IsListedFrom (dependencies_of found.deps.items) y a) → AreNearFoundBefore s r y (a + 1) found
  passed y a found old closed listed = advance y y a (a + 1) found old (λ x b b_in. tried_more y x a b) out
      (λ d h. (h.0, h.1, h.2, h.3, tried_more y h.0 a h.1 h.4))
    where
      out : (x : Attributes) (b : ℕ) → IsSubset x (below s.width) → count_below x s.width ≤ s.most → b < s.rights
          → x b ≡ false → IsTried y (a + 1) x b → IsTried y a x b ⊎ IsPassedOver found x b
      out x b x_in few b_in lacks tried = elim tried [
        | inl before ↦ inl (inl before)
        | inr same ↦ elim (cases_lt b a) [
          | inl less ↦ inl (inr (same.0, less))
          | inr last ↦
              let at : a ≡ b = omega (arith, same.1, last) in
              inr (subst (λ (v : Attributes). IsPassedOver found v b) (sym same.0) (subst (IsPassedOver found y) at
              (closed, listed (subst (λ (e : ℕ). y e ≡ false) (sym at) (sym (same_at same.0 b) ∙ lacks)))))
        ]
      ]

  -- ---- one set after the other
  module _ (bound i : ℕ) (set : Attributes) (set_in : IsSubset set (below s.width)) (above : (k : ℕ) → set k ≡ true → bound ≤ k)
      (bound_in : bound ≤ s.width) (i_in : i < bound) (larger : Attributes) (is : larger ≡ union set (only i)) (found : Found) where
    abbrev first : Attributes
    first = union set (below i)

    abbrev last : Attributes
    last = union set (below (i + 1))

    inside : IsSubset larger (below s.width)
    inside = larger_in s.width bound i set set_in above bound_in i_in larger is

    filled : union larger (below i) ≡ last
    filled = larger_filled s.width bound i set set_in above bound_in i_in larger is

    up : IsUpTo larger last
    up = subset_up_to s.width larger last (filled_in s.width (i + 1) set set_in (omega (arith, i_in, bound_in)))
        (λ k m. sym (same_at filled k) ∙ ap (λ (b : Bool). b || nat_lt k i) m)

    -- the set with i comes next
    pub at_larger : AreNearFoundBefore s r first s.rights found → AreNearFoundBefore s r larger 0 found
    at_larger old = advance first larger s.rights 0 found old into out (λ d h. (h.0, h.1, h.2, h.3, earlier h.0 h.1 h.4))
      where
        next : IsNextSubset (below s.width) first larger
        next = larger_next s.width bound i set set_in above bound_in i_in larger is

        earlier : (x : Attributes) (a : ℕ) → IsTried first s.rights x a → IsTried larger 0 x a
        earlier x a tried = inl (elim tried [
          | inl before ↦ IsBefore-trans x first larger before next.after
          | inr same ↦ up_to_before x first larger (inl same.0) next.after
        ])

        into : (x : Attributes) (a : ℕ) → a < s.rights → IsTried first s.rights x a → IsTried larger 0 x a
        into x a a_in = earlier x a

        out : (x : Attributes) (a : ℕ) → IsSubset x (below s.width) → count_below x s.width ≤ s.most → a < s.rights
            → x a ≡ false → IsTried larger 0 x a → IsTried first s.rights x a ⊎ IsPassedOver found x a
        out x a x_in few a_in lacks tried = inl (elim tried [
          | inl before ↦ elim (next_subset-before s.width (below s.width) first larger x (λ k m. m)
              (filled_in s.width i set set_in (omega (arith, i_in, bound_in))) next x_in before) [
                | inl same ↦ inr (same, a_in)
                | inr before_first ↦ inl before_first
              ]
          | inr same ↦ absurd (omega (arith, same.1))
        ])

    -- where every right side is given from it, the sets up to the last that holds it are passed over
    pub past_larger : (wanted : Attributes) → AreNearFoundBefore s r larger 0 found
        → AreUndetermined s.rights (dependencies_of found.deps.items) larger wanted → IsEmpty wanted
        → AreNearFoundBefore s r last s.rights found
    past_larger wanted old given empty = advance larger last 0 s.rights found old (λ x a a_in. moved x a) out
        (λ d h. (h.0, h.1, h.2, h.3, moved h.0 h.1 h.4))
      where
        moved : (x : Attributes) (a : ℕ) → IsTried larger 0 x a → IsTried last s.rights x a
        moved x a tried = elim tried [
          | inl before ↦ inl (before_up_to x larger last before up)
          | inr same ↦ absurd (omega (arith, same.1))
        ]

        passes : (x : Attributes) (a : ℕ) → IsSubset larger x → a < s.rights → x a ≡ false → IsPassedOver found x a
        passes x a holds a_in lacks = given_passes larger found old x a holds (given.rest a a_in (empty a) (elim (cases_Bool (larger a)) [
          | inl member ↦ absurd (true≢false (sym (holds a member) ∙ lacks))
          | inr out_of ↦ out_of
        ]))

        out : (x : Attributes) (a : ℕ) → IsSubset x (below s.width) → count_below x s.width ≤ s.most → a < s.rights
            → x a ≡ false → IsTried last s.rights x a → IsTried larger 0 x a ⊎ IsPassedOver found x a
        out x a x_in few a_in lacks tried = elim (tell_before s.width x larger x_in inside) [
          | inl same ↦ inr (passes x a (λ k m. same_at same k ∙ m) a_in lacks)
          | inr other ↦ elim other [
            | inl before ↦ inl (inl before)
            | inr after ↦ inr (passes x a (holds_after i larger x
                (larger_above s.width bound i set set_in above bound_in i_in larger is) after
                (subst (IsUpTo x) (sym filled) (elim tried [ inl before ↦ inr before | inr same ↦ inl same.0 ]))) a_in lacks)
          ]
        ]

    -- the set with i has one column more
    pub larger_few : count_below set s.width < s.most → count_below larger s.width ≤ s.most
    larger_few room = omega (
      arith,
      room,
      ap (λ (v : Attributes). count_below v s.width) is,
      count_below-union_only s.width set i (omega (arith, i_in, bound_in)) lacks,
    )
      where
        lacks : set i ≡ false
        lacks = elim (cases_Bool (set i)) [
          | inl member ↦ absurd (omega (arith, above i member, i_in))
          | inr out_of ↦ out_of
        ]

    pub through_larger : AreNearFoundBefore s r (union larger (below i)) s.rights found → AreNearFoundBefore s r last s.rights found
    through_larger = subst (λ (v : Attributes). AreNearFoundBefore s r v s.rights found) filled

  -- where a set has as many columns as are asked for, larger ones are passed over
  pub past_full : (bound : ℕ) (set : Attributes) (found : Found) → IsSubset set (below s.width) → bound ≤ s.width
      → ((k : ℕ) → set k ≡ true → bound ≤ k) → s.most ≤ count_below set s.width → AreNearFoundBefore s r set s.rights found
      → AreNearFoundBefore s r (union set (below bound)) s.rights found
  past_full bound set found set_in bound_in above full old =
      advance set (union set (below bound)) s.rights s.rights found old (λ x a a_in. moved x a) out
      (λ d h. (h.0, h.1, h.2, h.3, moved h.0 h.1 h.4))
    where
      whole : IsUpTo set (union set (below bound))
      whole = subset_up_to s.width set (union set (below bound)) (filled_in s.width bound set set_in bound_in) (λ k m. ap (λ (b : Bool). b || nat_lt k bound) m)

      moved : (x : Attributes) (a : ℕ) → IsTried set s.rights x a → IsTried (union set (below bound)) s.rights x a
      moved x a tried = elim tried [
        | inl before ↦ inl (before_up_to x set (union set (below bound)) before whole)
        | inr same ↦ elim whole [
          | inl equal ↦ inr (same.0 ∙ equal, same.1)
          | inr less ↦ inl (subst (λ (v : Attributes). IsBefore v (union set (below bound))) (sym same.0) less)
        ]
      ]

      out : (x : Attributes) (a : ℕ) → IsSubset x (below s.width) → count_below x s.width ≤ s.most → a < s.rights
          → x a ≡ false → IsTried (union set (below bound)) s.rights x a → IsTried set s.rights x a ⊎ IsPassedOver found x a
      out x a x_in few a_in lacks tried = inl (elim (tell_before s.width x set x_in set_in) [
        | inl same ↦ inr (same, a_in)
        | inr other ↦ elim other [
          | inl before ↦ inl before
          | inr after ↦
              let holds = holds_after bound set x above after (elim tried [ inl before ↦ inr before | inr same ↦ inl same.0 ]) in
              absurd (omega (
                arith,
                few,
                full,
                count_below-lt s.width set x after.0 holds
                    (ltb-true after.0 s.width (x_in after.0 after.2)) after.1 after.2,
              ))
        ]
      ])
