-- The values of a row at the members of a scheme, one after the other.
use Rattle.std.proofs.Common.{arith, ◌≡◌, ◌+◌, ◌≤◌, ℕ, Bool, true, false, List, [], ◌∷◌, ◌++◌, length, map, sym, ap, ◌∙◌, add-one}
use Rattle.std.proofs.lemmas.Bool.{false_from_ne_true, ltb-true}
use Rattle.std.proofs.lemmas.List.{map-append}
use Rattle.attr_sets.specs.Attributes.{Attributes}
use Rattle.attr_sets.specs.Sets.{attributes}
use Rattle.attr_sets.specs.declared.set.AttrSet.{AttrSet}
use Rattle.attr_sets.specs.declared.set.TheConstants.{MOST_ATTRIBUTES}
use Rattle.attr_sets.proofs.AttributesLemmas.{attributes_below}
use Rattle.dep_model.specs.Tuples.{Tuple, value_at}
use Rattle.dep_model.specs.Projections.{members_below, project_tuple}
use Rattle.dep_model.proofs.SchemeLemmas.{members_below-member, members_below-outside, members_below-none}

-- no attribute from the most on is a member
pub no_member_past : (s : AttrSet) (k : ℕ) → MOST_ATTRIBUTES ≤ k → attributes s k ≡ false
no_member_past s k past = false_from_ne_true (attributes s k) (λ member. omega (arith, past, ltb-true k MOST_ATTRIBUTES (attributes_below s k member)))

-- the values of a tuple at the members of a scheme below n
unfoldable pub values_below : Attributes → Tuple → ℕ → Tuple
values_below x t n = map (λ k. value_at t k) (members_below n x)

pub no_values : (x : Attributes) (t : Tuple) → values_below x t 0 ≡ []
unfolding values_below
no_values x t = ap (map (λ k. value_at t k)) (members_below-none x)

pub value_taken : (x : Attributes) (t : Tuple) (n : ℕ) (v : List ℕ) → v ≡ value_at t n → x n ≡ true
    → values_below x t (n + 1) ≡ values_below x t n ++ v ∷ []
unfolding values_below
value_taken x t n v is member =
    rw add-one
    (ap (map (λ k. value_at t k)) (members_below-member n x member)
    ∙ map-append (λ k. value_at t k) (members_below n x) (n ∷ []))
    ∙ ap (λ (w : List ℕ). map (λ k. value_at t k) (members_below n x) ++ w ∷ []) (sym is)

pub value_passed : (x : Attributes) (t : Tuple) (n : ℕ) → x n ≡ false → values_below x t (n + 1) ≡ values_below x t n
unfolding values_below
value_passed x t n outside = rw add-one (ap (map (λ k. value_at t k)) (members_below-outside n x outside))

pub all_values : (x : Attributes) (t : Tuple) (n : ℕ) → n ≡ length t → values_below x t n ≡ project_tuple x t
unfolding values_below
all_values x t n whole = ap (λ (m : ℕ). map (λ k. value_at t k) (members_below m x)) whole

pub ruleset value_steps = (no_values, value_taken, value_passed, all_values)
