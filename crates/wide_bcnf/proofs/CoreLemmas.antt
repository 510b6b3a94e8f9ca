-- Cores: what a scheme shrinks to, and what the last pair on the way says.
use Rattle.std.proofs.Common.{◌≡◌, ℕ, ◌<◌, ◌==◌, zero, suc, Bool, true, false, not, ◌&&◌, ◌||◌, List, refl, sym, subst, ◌∙◌, arith}
use mathlib.Core.Path.{fun_ext}
use Rattle.std.proofs.lemmas.Bool.{true≢false, ltb-true}
use Rattle.std.proofs.lemmas.Bool.Decides.{nat_tests}
use Rattle.attr_sets.specs.Attributes.{Attributes, only, union, difference, IsSubset, count_below}
use Rattle.attr_sets.specs.declared.set.AttrSet.{AttrSet}
use Rattle.attr_sets.specs.declared.set.TheConstants.{MOST_ATTRIBUTES}
use Rattle.attr_sets.specs.Sets.{attributes}
use Rattle.attr_sets.proofs.AttributesLemmas.{attributes_below, count_below-lt, same_at}
use Rattle.dep_model.specs.Dependencies.{Dependency, fd}
use Rattle.dep_model.specs.Implication.{Implies}
use Rattle.wide_bcnf.specs.Pairs.{IsFirstPair, NoneBefore}
use Rattle.wide_bcnf.specs.WideSplits.{ShrinksBy, ShrinksTo, IsCore}
use Rattle.wide_bcnf.proofs.PairLemmas.{none_before_first, none_before_part}

-- what is left out leaves a part
pub left_within : (n : ℕ) (ds : List Dependency) (p q : Attributes) (a : ℕ) → ShrinksBy n ds p q a → IsSubset q p
left_within n ds p q a out k m = let e = same_at out.rest k in grind (arith, e, m)

pub shrunk_within : (n : ℕ) (ds : List Dependency) (steps : ℕ) (scheme q : Attributes) → ShrinksTo n ds steps scheme q
    → IsSubset q scheme
shrunk_within n ds zero scheme q same k m = sym (same_at same k) ∙ m
shrunk_within n ds (suc steps) scheme q shrinks k m =
    let p = shrinks.0 in
    shrunk_within n ds steps scheme p shrinks.1 k (left_within n ds p q shrinks.2.0 shrinks.2.1 k m)

-- ---- what is known of a set on the way to the core: it was left out of one before it by a first pair
pub record IsOnTheWay (n : ℕ) (ds : List Dependency) (scheme rest : Attributes) (a b : ℕ) : Type 0 where
  pub steps : ℕ
  pub before : Attributes
  pub shrinks : ShrinksTo n ds steps scheme before
  pub pair : IsFirstPair n ds before a b
  pub left : rest ≡ difference before (only b)

pub way_begins : (n : ℕ) (ds : List Dependency) (scheme rest : Attributes) (a b : ℕ) → IsFirstPair n ds scheme a b
    → rest ≡ difference scheme (only b) → IsOnTheWay n ds scheme rest a b
way_begins n ds scheme rest a b pair is = record {
  steps = 0;
  before = scheme;
  shrinks = refl;
  pair = pair;
  left = is;
}

pub way_goes_on : (n : ℕ) (ds : List Dependency) (scheme rest next : Attributes) (a b c d : ℕ)
    → IsOnTheWay n ds scheme rest a b → IsFirstPair n ds rest c d → next ≡ difference rest (only d)
    → IsOnTheWay n ds scheme next c d
way_goes_on n ds scheme rest next a b c d way pair is = record {
  steps = suc way.steps;
  before = rest;
  shrinks = (way.before, way.shrinks, (a, record { second = b; pair = way.pair; rest = way.left }));
  pair = pair;
  left = is;
}

pub way_within : (n : ℕ) (ds : List Dependency) (scheme rest : Attributes) (a b : ℕ) → IsOnTheWay n ds scheme rest a b
    → IsSubset rest scheme
way_within n ds scheme rest a b way k m =
    let e = same_at way.left k in
    shrunk_within n ds way.steps scheme way.before way.shrinks k (grind (arith, e, m))

-- no pair of it comes before the last one
pub way_none_before : (n : ℕ) (ds : List Dependency) (scheme rest : Attributes) (a b : ℕ)
    → IsOnTheWay n ds scheme rest a b → NoneBefore n ds rest a b
way_none_before n ds scheme rest a b way =
    none_before_part n ds way.before rest a b (λ (k : ℕ) m. let e = same_at way.left k in grind (arith, e, m))
    (none_before_first n ds way.before a b way.pair)

and-not_or : (before q one other : Bool) → q ≡ (before && not other) → (before && not (one || other)) ≡ (q && not one)
and-not_or true true true true e = refl
and-not_or true true true false e = refl
and-not_or true true false true e = absurd (true≢false e)
and-not_or true true false false e = refl
and-not_or true false true true e = refl
and-not_or true false true false e = refl
and-not_or true false false true e = refl
and-not_or true false false false e = absurd (true≢false (sym e))
and-not_or false true true true e = absurd (true≢false e)
and-not_or false true true false e = absurd (true≢false e)
and-not_or false true false true e = absurd (true≢false e)
and-not_or false true false false e = absurd (true≢false e)
and-not_or false false true true e = refl
and-not_or false false true false e = refl
and-not_or false false false true e = refl
and-not_or false false false false e = refl

-- ---- the core
module _ (n : ℕ) (ds : List Dependency) (scheme q : Attributes) (a : ℕ) (core : IsCore n ds scheme q a) where
  pub core_within : IsSubset q scheme
  core_within k m = shrunk_within n ds core.steps scheme core.before core.shrinks k
      (left_within n ds core.before q a core.last k m)

  -- the attribute lies in the core
  pub core_member : q a ≡ true
  core_member = let e = same_at core.last.rest a in let pair = core.last.pair.pair in grind
      (arith, nat_tests, e, pair.first, pair.differ)

  -- so it lies in the scheme
  pub scheme_member : scheme a ≡ true
  scheme_member = core_within a core_member

  -- and so does another one
  pub scheme_other : (b : ℕ) × (scheme b ≡ true) × (b ≡ a → ⊥)
  scheme_other = (
    core.last.second,
    shrunk_within n ds core.steps scheme core.before core.shrinks core.last.second core.last.pair.pair.second,
    λ same. core.last.pair.pair.differ (sym same),
  )

  -- the others of the core determine it
  pub core_determined : Implies n ds (fd (difference q (only a)) (only a))
  core_determined = subst (λ (x : Attributes). Implies n ds (fd x (only a)))
      same
      core.last.pair.pair.determined
    where
      same : difference core.before (union (only a) (only core.last.second)) ≡ difference q (only a)
      same = fun_ext (λ k. and-not_or (core.before k) (q k) (k == a) (k == core.last.second) (same_at core.last.rest k))

-- ---- a set without one of its members has fewer
pub count_left : (s left : AttrSet) (k : ℕ) → attributes s k ≡ true → attributes left ≡ difference (attributes s) (only k)
    → count_below (attributes left) MOST_ATTRIBUTES < count_below (attributes s) MOST_ATTRIBUTES
count_left s left k member is =
    let here = same_at is k in
    count_below-lt MOST_ATTRIBUTES (attributes left) (attributes s) k (λ (j : ℕ) m. let e = same_at is j in grind (arith, e, m))
    (ltb-true k MOST_ATTRIBUTES (attributes_below s k member)) (grind (arith, nat_tests, here)) member
