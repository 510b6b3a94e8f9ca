-- Sets of columns by their sizes, and their columns.
use Rattle.std.specs.Prelude.{All, Any, Contains}
use Rattle.std.proofs.Common.{inl, inr, ◌≡◌, ◌+◌, ◌<◌, ◌==◌, ◌⊎◌, ◌||◌, ◌&&◌, ℕ, zero, suc, Bool, true, false, true≢false, not, List, [], ◌∷◌, ◌++◌, length, take, get_or, refl, sym, ap, subst, ◌∙◌, ⊎_elim, arith, eqb-true, eq-eqb, ltb-true, lt-ltb}
use Rattle.std.proofs.lemmas.Bool.{cases_Bool, cases_lt, cases_order}
use Rattle.std.proofs.lemmas.List.{take_more}
use Rattle.std.proofs.lemmas.List.Elements.{All-contains, Contains-append_left, Contains-push, Contains-push_cases}
use Rattle.attr_sets.specs.Attributes.{Attributes, IsSubset, below, count_below, difference, only, union}
use Rattle.attr_sets.specs.Sets.{attributes}
use Rattle.attr_sets.specs.declared.set.AttrSet.{AttrSet}
use Rattle.attr_sets.specs.declared.set.TheConstants.{MOST_ATTRIBUTES}
use Rattle.attr_sets.proofs.AttributesLemmas.{count_below-before_member, count_below-difference_only, count_below-lt, count_below-none, count_below-only, count_below-union_only, same_from_within, tell_member}
use Rattle.dep_model.specs.Projections.{members_below}
use Rattle.dep_model.proofs.ListLemmas.{All-members, Any-from, Any-left}
use Rattle.dep_model.proofs.SchemeLemmas.{count_below-no_more, count_below-start, length-members_below, member_at, members_below-at}
use Rattle.file_references.specs.Keys.{AddsLarger, AddsLargerUpTo, AreAllOfSize, IsLarger}

-- ---- members
pub only_member : (a k : ℕ) → only a k ≡ true → k ≡ a
only_member a k h = eqb-true k a h

pub only_itself : (a : ℕ) → only a a ≡ true
only_itself a = eq-eqb a a refl

pub only_within : (x : Attributes) (a : ℕ) → x a ≡ true → IsSubset (only a) x
only_within x a has k member = subst (λ (j : ℕ). x j ≡ true) (sym (only_member a k member)) has

pub left_out : (x : Attributes) (a k : ℕ) → difference x (only a) k ≡ true → (x k ≡ true) × (k ≡ a → ⊥)
left_out x a k h = by (x k) (k == a) refl refl h
  where
    by : (b c : Bool) → x k ≡ b → (k == a) ≡ c → (b && not c) ≡ true → (x k ≡ true) × (k ≡ a → ⊥)
    by true false is other h = (is, λ same. true≢false (sym (eq-eqb k a same) ∙ other))
    by true true is other h = cc
    by false c is other h = cc

pub left_in : (x : Attributes) (a k : ℕ) → x k ≡ true → (k ≡ a → ⊥) → difference x (only a) k ≡ true
left_in x a k has other = elim (cases_Bool (k == a)) [
  | inl same ↦ absurd (other (eqb-true k a same))
  | inr differ ↦ rw (has, differ) refl
]

pub without_within : (x : Attributes) (a : ℕ) → IsSubset (difference x (only a)) x
without_within x a k h = (left_out x a k h).0

pub union_cases : (x : Attributes) (a k : ℕ) → union x (only a) k ≡ true → (x k ≡ true) ⊎ (k ≡ a)
union_cases x a k h = by (x k) refl h
  where
    by : (b : Bool) → x k ≡ b → (b || (k == a)) ≡ true → (x k ≡ true) ⊎ (k ≡ a)
    by true is h = inl is
    by false is h = inr (eqb-true k a h)

pub union_left : (x : Attributes) (a k : ℕ) → x k ≡ true → union x (only a) k ≡ true
union_left x a k has = rw has refl

pub union_last : (x : Attributes) (a : ℕ) → union x (only a) a ≡ true
union_last x a = by (x a) refl
  where
    by : (b : Bool) → x a ≡ b → (b || (a == a)) ≡ true
    by true is = refl
    by false is = only_itself a

-- beyond a set
pub outside : (x : Attributes) (a : ℕ) → IsSubset x (below a) → x a ≡ false
outside x a within = elim (cases_Bool (x a)) [
  | inl has ↦ absurd (let low = ltb-true a a (within a has) in omega (arith, low))
  | inr lacks ↦ lacks
]

-- the greatest member
pub greatest : (n : ℕ) (x : Attributes) → 0 < count_below x n
    → (a : ℕ) × (a < n) × (x a ≡ true) × ((k : ℕ) → a < k → k < n → x k ≡ false)
greatest zero x some = absurd (omega (arith, some, count_below-start x))
greatest (suc n) x some = elim (cases_Bool (x n)) [
  | inl has ↦ (n, omega arith, has, λ k above low. absurd (omega (arith, above, low)))
  | inr lacks ↦
      let (a, low, member, none) = greatest n x (omega (arith, some, count_below-no_more n x lacks)) in (
        a,
        omega (arith, low),
        member,
        λ k above l. elim (cases_lt k n) [
          | inl less ↦ none k above less
          | inr other ↦ let last : k ≡ n = omega (arith, l, other) in subst (λ (j : ℕ). x j ≡ false) (sym last) lacks
        ],
      )
]

-- a set of one member
pub one_member : (x : Attributes) → IsSubset x (below MOST_ATTRIBUTES) → count_below x MOST_ATTRIBUTES ≡ 1
    → (a : ℕ) × (a < MOST_ATTRIBUTES) × (x a ≡ true) × (only a ≡ x)
one_member x within one = elim (tell_member MOST_ATTRIBUTES x) [
  | inl (a, low, has) ↦ (
    a,
    low,
    has,
    same_from_within (only a) x (only_within x a has) (λ k member.
        elim (cases_Bool (only a k)) [
          | inl is ↦ is
          | inr differ ↦
              let less = count_below-lt MOST_ATTRIBUTES (only a) x k (only_within x a has) (ltb-true k MOST_ATTRIBUTES (within k member)) differ member in
              absurd (omega (arith, less, one, count_below-only MOST_ATTRIBUTES a low))
        ]),
  )
  | inr none ↦ absurd (omega (arith, one, count_below-none MOST_ATTRIBUTES x none))
]

-- ---- sets of one member
pub each_of_one : (whole : Attributes) (sets : List AttrSet) (s : AttrSet) (a : ℕ) → a < MOST_ATTRIBUTES → whole a ≡ true
    → attributes s ≡ only a → IsSubset (attributes s) whole × (count_below (attributes s) MOST_ATTRIBUTES ≡ 1)
each_of_one whole sets s a low has is = (
  subst (λ (x : Attributes). IsSubset x whole) (sym is) (only_within whole a has),
  ap (λ (x : Attributes). count_below x MOST_ATTRIBUTES) is ∙ count_below-only MOST_ATTRIBUTES a low,
)

pub one_more_of_one : (whole : Attributes) (a : ℕ) (sets : List AttrSet) (s : AttrSet)
    → ((b : ℕ) → b < a → whole b ≡ true → Any (λ (t : AttrSet). attributes t ≡ only b) sets) → attributes s ≡ only a
    → (b : ℕ) → b < a + 1 → whole b ≡ true → Any (λ (t : AttrSet). attributes t ≡ only b) (sets ++ s ∷ [])
one_more_of_one whole a sets s before is b low member = elim (cases_lt b a) [
  | inl less ↦ Any-left (λ (t : AttrSet). attributes t ≡ only b) sets s (before b less member)
  | inr other ↦
      let last : b ≡ a = omega (arith, low, other) in
      Any-from (λ (t : AttrSet). attributes t ≡ only b) (sets ++ s ∷ []) s (Contains-push sets s) (is ∙ ap only (sym last))
]

pub no_more_of_one : (whole : Attributes) (a : ℕ) (sets : List AttrSet)
    → ((b : ℕ) → b < a → whole b ≡ true → Any (λ (t : AttrSet). attributes t ≡ only b) sets) → whole a ≡ false
    → (b : ℕ) → b < a + 1 → whole b ≡ true → Any (λ (t : AttrSet). attributes t ≡ only b) sets
no_more_of_one whole a sets before lacks b low member = elim (cases_lt b a) [
  | inl less ↦ before b less member
  | inr other ↦
      let last : b ≡ a = omega (arith, low, other) in absurd (true≢false (sym member ∙ ap whole last ∙ lacks))
]

pub all_of_one : (whole : Attributes) (sets : List AttrSet) → IsSubset whole (below MOST_ATTRIBUTES)
    → All (λ (s : AttrSet). IsSubset (attributes s) whole × (count_below (attributes s) MOST_ATTRIBUTES ≡ 1)) sets
    → ((a : ℕ) → a < MOST_ATTRIBUTES → whole a ≡ true → Any (λ (s : AttrSet). attributes s ≡ only a) sets)
    → AreAllOfSize whole 1 sets
all_of_one whole sets low each all = record {
  each = each;
  all = λ x within one.
      let (a, l, has, is) = one_member x (λ k h. low k (within k h)) one in
      subst (λ (y : Attributes). Any (λ (s : AttrSet). attributes s ≡ y) sets) is (all a l (within a has));
}

-- ---- one member more
-- one attribute more was looked at
pub none_larger : (whole x : Attributes) (old : List AttrSet) → AddsLargerUpTo whole x 0 old old
none_larger whole x old = record {
  kept = λ s has. has;
  no_other = λ s has. inl has;
  all = λ a low. absurd (omega (arith, low));
}

larger_still : (whole x : Attributes) (a : ℕ) (s : AttrSet) → ((b : ℕ) × IsLarger whole x a b s) → (b : ℕ) × IsLarger whole x (a + 1) b s
larger_still whole x a s (b, (low, has, within, is)) = (b, (omega (arith, low), has, within, is))

pub one_larger : (whole x : Attributes) (a : ℕ) (old now : List AttrSet) (s : AttrSet) → whole a ≡ true → IsSubset x (below a)
    → attributes s ≡ union x (only a) → AddsLargerUpTo whole x a old now → AddsLargerUpTo whole x (a + 1) old (now ++ s ∷ [])
one_larger whole x a old now s has within is before = record {
  kept = λ t t_in. Contains-append_left now (s ∷ []) t (before.kept t t_in);
  no_other = λ t t_in. ⊎_elim
      (λ earlier. ⊎_elim (λ first. inl first) (λ more. inr (larger_still whole x a t more)) (before.no_other t earlier))
      (λ same. inr (a, (omega arith, has, within, ap attributes (sym same) ∙ is)))
      (Contains-push_cases now s t t_in);
  all = λ b low member beyond. elim (cases_lt b a) [
    | inl less ↦
        let (t, t_in, t_is) = before.all b less member beyond in (t, Contains-append_left now (s ∷ []) t t_in, t_is)
    | inr other ↦
        let last : b ≡ a = omega (arith, low, other) in
        (s, Contains-push now s, is ∙ ap (λ (c : ℕ). union x (only c)) (sym last))
  ];
}

pub no_larger : (whole x : Attributes) (a : ℕ) (old now : List AttrSet) → (whole a ≡ true → IsSubset x (below a) → ⊥)
    → AddsLargerUpTo whole x a old now → AddsLargerUpTo whole x (a + 1) old now
no_larger whole x a old now not before = record {
  kept = before.kept;
  no_other = λ t t_in. ⊎_elim (λ first. inl first) (λ more. inr (larger_still whole x a t more)) (before.no_other t t_in);
  all = λ b low member beyond. elim (cases_lt b a) [
    | inl less ↦ before.all b less member beyond
    | inr other ↦
        let last : b ≡ a = omega (arith, low, other) in
        absurd (not (subst (λ (c : ℕ). whole c ≡ true) last member) (subst (λ (c : ℕ). IsSubset x (below c)) last beyond))
  ];
}

-- what was made of some sets
pub record AreLarger (whole : Attributes) (sets larger : List AttrSet) : Type 0 where
  pub no_other : (t : AttrSet) → Contains larger t
      → (s : AttrSet) × Contains sets s × ((a : ℕ) × IsLarger whole (attributes s) MOST_ATTRIBUTES a t)
  pub all : (s : AttrSet) → Contains sets s → (a : ℕ) → a < MOST_ATTRIBUTES → whole a ≡ true
      → IsSubset (attributes s) (below a) → (t : AttrSet) × Contains larger t × (attributes t ≡ union (attributes s) (only a))

pub larger_none : (whole : Attributes) (sets : List AttrSet) (larger : List AttrSet) → larger ≡ [] → AreLarger whole (take 0 sets) larger
larger_none whole sets larger none = record {
  no_other = λ t t_in. absurd (omega (arith, t_in.1, ap length none));
  all = λ s s_in. absurd (omega (arith, s_in.1));
}

pub larger_more : (whole : Attributes) (sets old new : List AttrSet) (i : ℕ) (d : AttrSet) → i < length sets
    → AreLarger whole (take i sets) old → AddsLarger whole (attributes (get_or sets i d)) old new
    → AreLarger whole (take (i + 1) sets) new
larger_more whole sets old new i d low before adds =
    subst (λ (ss : List AttrSet). AreLarger whole ss new) (sym (take_more sets i d low)) (record {
      no_other = λ t t_in. ⊎_elim
          (λ earlier.
          let (s, s_in, more) = before.no_other t earlier in
          (s, Contains-append_left (take i sets) (get_or sets i d ∷ []) s s_in, more))
          (λ more. (get_or sets i d, Contains-push (take i sets) (get_or sets i d), more))
          (adds.no_other t t_in);
      all = λ s s_in a l has beyond. ⊎_elim
          (λ earlier. let (t, t_in, is) = before.all s earlier a l has beyond in (t, adds.kept t t_in, is))
          (λ (same : get_or sets i d ≡ s).
          let (t, t_in, is) = adds.all a l has (subst (λ (r : AttrSet). IsSubset (attributes r) (below a)) (sym same) beyond) in
          (t, t_in, is ∙ ap (λ (r : AttrSet). union (attributes r) (only a)) same))
          (Contains-push_cases (take i sets) (get_or sets i d) s s_in);
    })

pub all_larger : (whole : Attributes) (size : ℕ) (sets larger : List AttrSet) → IsSubset whole (below MOST_ATTRIBUTES)
    → AreAllOfSize whole size sets → AreLarger whole sets larger → AreAllOfSize whole (size + 1) larger
all_larger whole size sets larger low all are = record {
  each = All-members (λ (t : AttrSet). IsSubset (attributes t) whole × (count_below (attributes t) MOST_ATTRIBUTES ≡ size + 1)) larger
      (λ t t_in. let (s, s_in, (a, more)) = are.no_other t t_in in each s t a s_in more);
  all = every;
}
  where
    each : (s t : AttrSet) (a : ℕ) → Contains sets s → IsLarger whole (attributes s) MOST_ATTRIBUTES a t
        → IsSubset (attributes t) whole × (count_below (attributes t) MOST_ATTRIBUTES ≡ size + 1)
    each s t a s_in (a_low, has, beyond, is) =
        let of = All-contains (λ (r : AttrSet). IsSubset (attributes r) whole × (count_below (attributes r) MOST_ATTRIBUTES ≡ size)) sets s all.each s_in in (
          subst (λ (x : Attributes). IsSubset x whole) (sym is) (λ k member. ⊎_elim (λ old. of.0 k old)
              (λ (last : k ≡ a). subst (λ (j : ℕ). whole j ≡ true) (sym last) has) (union_cases (attributes s) a k member)),
          ap (λ (x : Attributes). count_below x MOST_ATTRIBUTES) is
              ∙ count_below-union_only MOST_ATTRIBUTES (attributes s) a a_low (outside (attributes s) a beyond)
              ∙ ap (λ (m : ℕ). m + 1) of.1,
        )

    every : (x : Attributes) → IsSubset x whole → count_below x MOST_ATTRIBUTES ≡ size + 1 → Any (λ (s : AttrSet). attributes s ≡ x) larger
    every x within count =
        let (a, a_low, member, none) = greatest MOST_ATTRIBUTES x (omega (arith, count)) in
        let y : Attributes = difference x (only a) in
        let less = count_below-difference_only MOST_ATTRIBUTES x a a_low member in
        let (i, s, s_low, s_at, s_is) = all.all y (λ k h. within k (without_within x a k h)) (omega (arith, less, count)) in
        let beyond : IsSubset (attributes s) (below a) = subst (λ (z : Attributes). IsSubset z (below a)) (sym s_is) (λ k h.
        let out = left_out x a k h in
        elim (cases_order k a) [
          | inl same ↦ absurd (out.1 same)
          | inr (inl before) ↦ lt-ltb k a before
          | inr (inr after) ↦ absurd (true≢false (sym out.0 ∙ none k after (ltb-true k MOST_ATTRIBUTES (low k (within k out.0)))))
        ]) in
        let (t, t_in, t_is) = are.all s (i, s_low, s_at) a a_low (within a member) beyond in
        let whole_again : union y (only a) ≡ x = same_from_within (union y (only a)) x
        (λ k h. ⊎_elim (λ old. without_within x a k old) (λ (last : k ≡ a). subst (λ (j : ℕ). x j ≡ true) (sym last) member) (union_cases y a k h))
        (λ k h. elim (cases_Bool (k == a)) [
          | inl same ↦ subst (λ (j : ℕ). union y (only a) j ≡ true) (sym (eqb-true k a same)) (union_last y a)
          | inr differ ↦ union_left y a k (rw (h, differ) refl)
        ]) in
        Any-from (λ (r : AttrSet). attributes r ≡ x) larger t t_in
        (t_is ∙ ap (λ (z : Attributes). union z (only a)) s_is ∙ whole_again)

-- ---- the columns of a set
pub member_of : (n : ℕ) (x : Attributes) (k : ℕ) → Contains (members_below n x) k → (k < n) × (x k ≡ true)
member_of n x k (i, low, is) = let at = member_at n x i k low (sym is) in (at.0, at.1)

pub has_member : (n : ℕ) (x : Attributes) (k : ℕ) → k < n → x k ≡ true → Contains (members_below n x) k
has_member n x k low has = (
  count_below x k,
  omega (arith, count_below-before_member n k x low has, length-members_below n x),
  members_below-at n x k k low has,
)

pub members_low : (n : ℕ) (x : Attributes) → All (λ (k : ℕ). k < n) (members_below n x)
members_low n x = All-members (λ (k : ℕ). k < n) (members_below n x) (λ k has. (member_of n x k has).0)
