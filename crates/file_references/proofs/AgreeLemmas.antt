-- Rows that agree on a set of columns have the same values there, and miss as many.
use Rattle.std.specs.Prelude.{Contains}
use Rattle.std.proofs.Common.{inl, inr, ◌≡◌, ◌<◌, ℕ, true, List, [], ◌∷◌, length, map, get_or, refl, sym, ap, ◌∙◌, arith, ltb-true}
use Rattle.std.proofs.lemmas.Bool.{and_parts}
use Rattle.std.proofs.lemmas.List.{get_or-map}
use Rattle.attr_sets.specs.Attributes.{Attributes, IsSubset, below, count_below}
use Rattle.attr_sets.proofs.AttributesLemmas.{count_below-before_member}
use Rattle.dep_model.specs.Projections.{members_below}
use Rattle.dep_model.specs.Tuples.{Tuple, AgreeOn, value_at}
use Rattle.dep_model.proofs.ListLemmas.{Contains-cases, Contains-head, Contains-later}
use Rattle.dep_model.proofs.SchemeLemmas.{length-members_below, members_below-at}
use Rattle.file_references.specs.Columns.{is_there, misses_none, values_on}
use Rattle.file_references.proofs.SetLemmas.{member_of}

-- functions that are equal at each member
map_same : {X : Type 0} (f g : ℕ → X) (xs : List ℕ) → ((k : ℕ) → Contains xs k → f k ≡ g k) → map f xs ≡ map g xs
map_same f g [] same = refl
map_same {X} f g (x ∷ xs) same =
    ap (λ (y : X). y ∷ map f xs) (same x (Contains-head x xs))
    ∙ ap (λ (ys : List X). g x ∷ ys) (map_same f g xs (λ k has. same k (Contains-later x xs k has)))

pub values_from_agree : (n : ℕ) (x : Attributes) (t u : Tuple) → AgreeOn x t u
    → values_on (members_below n x) t ≡ values_on (members_below n x) u
values_from_agree n x t u agree =
    map_same (value_at t) (value_at u) (members_below n x) (λ k has. agree k (member_of n x k has).1)

pub agree_from_values : (n : ℕ) (x : Attributes) (t u : Tuple) → IsSubset x (below n)
    → values_on (members_below n x) t ≡ values_on (members_below n x) u → AgreeOn x t u
agree_from_values n x t u within same k has =
    let low : k < n = ltb-true k n (within k has) in
    let place : ℕ = count_below x k in
    let inside : place < length (members_below n x) =
    omega (arith, count_below-before_member n k x low has, length-members_below n x) in
    let at : (w : Tuple) → get_or (values_on (members_below n x) w) place [] ≡ value_at w k =
    λ w. get_or-map (value_at w) (members_below n x) place k [] inside ∙ ap (value_at w) (members_below-at n x k k low has) in
    sym (at t) ∙ ap (λ (values : Tuple). get_or values place []) same ∙ at u

-- ---- missing values
pub whole_to : (columns : List ℕ) (t : Tuple) → misses_none columns t ≡ true → (k : ℕ) → Contains columns k → is_there (value_at t k) ≡ true
whole_to [] t whole k has = absurd (omega (arith, has.1))
whole_to (c ∷ columns) t whole k has =
    let both = and_parts (is_there (value_at t c)) (misses_none columns t) whole in
    elim (Contains-cases c columns k has) [
      | inl same ↦ ap (λ (j : ℕ). is_there (value_at t j)) same ∙ both.0
      | inr later ↦ whole_to columns t both.1 k later
    ]

pub whole_from : (columns : List ℕ) (t : Tuple) → ((k : ℕ) → Contains columns k → is_there (value_at t k) ≡ true) → misses_none columns t ≡ true
whole_from [] t all = refl
whole_from (c ∷ columns) t all =
    rw (all c (Contains-head c columns)) (whole_from columns t (λ k has. all k (Contains-later c columns k has)))
