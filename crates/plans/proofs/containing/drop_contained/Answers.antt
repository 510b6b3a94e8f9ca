-- What is left to prove of `drop_contained`: its clauses `lossless`, `among` and `held` and what
-- `new` requires, by `schemes_are_plan` and `kept_among_held`.
use Rattle.std.proofs.Common.{◌≡◌, ℕ, true, List, sym, subst, ◌∙◌, ap}
use Rattle.std.specs.Prelude.{All, Contains}
use Rattle.std.specs.List.{list_any}
use Rattle.attr_sets.specs.declared.set.AttrSet.{AttrSet}
use Rattle.dep_model.specs.Projections.{IsLossless}
use Rattle.dep_model.specs.Plans.{schemes_of}
use Rattle.dep_model.specs.Theories.{width_of}
use Rattle.plans.specs.Schemes.{AreSchemes}
use Rattle.plans.specs.Containing.{lies_within, without_contained}
use Rattle.plans.proofs.PlanLemmas.{schemes_are_plan}
use Rattle.plans.proofs.ContainingLemmas.{kept_among_held}
use Rattle.plans.proofs.containing.drop_contained.Goals as goal

pub new-requires : goal.new-requires
new-requires c =
    let n = width_of c.args.theory.now in
    record {
      plan = schemes_are_plan n c.without_contained.result.items
          (c.without_contained.ensures.plan n (subst (λ (xs : List AttrSet). AreSchemes n xs) (sym c.into_schemes.ensures.schemes) (subst (λ (m : ℕ). AreSchemes m c.args.plan.schemes.items) c.requires.universe c.args.plan.valid)));
    }

pub returns-clause-lossless : goal.returns-clause-lossless
returns-clause-lossless c ds lossless =
    let n = width_of c.args.theory.now in
    subst (λ (xs : List AttrSet). IsLossless n ds (schemes_of xs)) (sym c.new.ensures.schemes)
    (c.without_contained.ensures.lossless n ds (subst (λ (xs : List AttrSet). IsLossless n ds (schemes_of xs)) (sym c.into_schemes.ensures.schemes) lossless))

pub returns-clause-among : goal.returns-clause-among
returns-clause-among c =
    let old = c.args.plan.schemes.items in
    let kept : c.new.result.schemes.items ≡ without_contained old = c.new.ensures.schemes ∙ c.without_contained.ensures.schemes ∙ ap (λ (xs : List AttrSet). without_contained xs) c.into_schemes.ensures.schemes in
    subst (λ (xs : List AttrSet). All (λ (k : AttrSet). Contains old k) xs) (sym kept) (kept_among_held old).0

pub returns-clause-held : goal.returns-clause-held
returns-clause-held c =
    let old = c.args.plan.schemes.items in
    let kept : c.new.result.schemes.items ≡ without_contained old = c.new.ensures.schemes ∙ c.without_contained.ensures.schemes ∙ ap (λ (xs : List AttrSet). without_contained xs) c.into_schemes.ensures.schemes in
    subst (λ (xs : List AttrSet). All (λ (s : AttrSet). list_any (lies_within s) xs ≡ true) old) (sym kept) (kept_among_held old).1
