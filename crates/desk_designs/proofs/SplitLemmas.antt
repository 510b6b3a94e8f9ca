-- The scheme at which a split is stuck lies within the universe.
use Rattle.std.proofs.Common.{◌≡◌, ◌<◌, ℕ, List, ◌∷◌, subst, sym, refl, arith}
use Rattle.std.proofs.lemmas.List.Elements.{All-contains, Contains-append_right}
use Rattle.std.specs.Prelude.{All, Contains}
use Rattle.attr_sets.specs.Attributes.{Attributes, below, IsSubset}
use Rattle.dep_model.specs.Dependencies.{Dependency}
use Rattle.dep_model.specs.declared.form.Form.{Form}
use Rattle.dep_model.specs.declared.form.Form.TheVariants.{Third}
use Rattle.split_forms.specs.Splitting.{IsTooWideAt}
use Rattle.split_forms.proofs.WalkLemmas.{reached_plan}

pub stuck_within : (n : ℕ) (ds : List Dependency) (form : Form) (limit : ℕ) (scheme : Attributes) → 0 < n → (form ≡ Third → ⊥)
    → IsTooWideAt n ds form limit scheme → IsSubset scheme (below n)
stuck_within n ds form limit scheme not_empty other wide =
    let plan = reached_plan n ds form wide.schemes not_empty other wide.reached in
    let at : Contains wide.schemes scheme = subst (λ (l : List Attributes). Contains l scheme) (sym wide.stuck.list)
    (Contains-append_right wide.stuck.earlier (scheme ∷ wide.stuck.later) scheme (0, omega arith, refl)) in
    All-contains (λ (x : Attributes). IsSubset x (below n)) wide.schemes scheme plan.within at
