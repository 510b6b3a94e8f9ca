-- The values of a row, one attribute after the other.
use Rattle.std.proofs.Common.{◌≡◌, ◌+◌, ℕ, suc, [], ◌∷◌, ◌++◌, refl, subst, arith}
use Rattle.std.specs.Prelude.{if◌then◌else◌}
use Rattle.attr_sets.specs.Attributes.{Attributes}
use Rattle.dep_model.specs.Tuples.{Tuple, value_at}
use Rattle.desk_measures.specs.Offences.{values_below}

pub no_values : (shown : Attributes) (t : Tuple) → values_below 0 shown t ≡ []
unfolding values_below
no_values shown t = refl

value_after : (k : ℕ) (shown : Attributes) (t : Tuple)
    → values_below (suc k) shown t ≡ values_below k shown t ++ (if shown k then value_at t k else []) ∷ []
unfolding values_below
value_after k shown t = refl

pub value_next : (k : ℕ) (shown : Attributes) (t : Tuple)
    → values_below (k + 1) shown t ≡ values_below k shown t ++ (if shown k then value_at t k else []) ∷ []
value_next k shown t =
    let e : suc k ≡ k + 1 = omega arith in
    subst (λ (m : ℕ). values_below m shown t ≡ values_below k shown t ++ (if shown k then value_at t k else []) ∷ [])
    e (value_after k shown t)

pub ruleset values_steps = (no_values, value_next)
