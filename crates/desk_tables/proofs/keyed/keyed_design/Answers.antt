-- What is left to prove of `keyed_design`: its clauses `keyed`, `schemes_within` and `lossless`, since the schemes
-- are those of the plan in its order.
use Rattle.std.proofs.Common.{◌≡◌, ℕ, List, map, sym, subst, ◌∙◌}
use Rattle.std.specs.Prelude.{All}
use Rattle.std.proofs.lemmas.Result.{IfOk-weaker}
use Rattle.attr_sets.specs.Attributes.{Attributes, IsSubset, below}
use Rattle.attr_sets.specs.Sets.{attributes}
use Rattle.attr_sets.specs.declared.set.AttrSet.{AttrSet}
use Rattle.dep_model.specs.Projections.{IsLossless}
use Rattle.design_order.specs.Order.{IsInDesignOrder}
use Rattle.optional_tables.specs.LookUps.{schemes_of_tables}
use Rattle.optional_tables.specs.declared.keyed.KeyedScheme.{KeyedScheme}
use Rattle.plans.specs.Plans.{plan_of, scheme_sets}
use Rattle.schema_model.specs.Schemas.{theory_of, universe_of, width_of}
use Rattle.desk_tables.specs.Tidiness.{HasPrimaryKey, IsKeyedDesign}
use Rattle.desk_tables.proofs.DesigningLemmas.{all_unmapped, both_ok, keyed_plan}
use Rattle.desk_tables.proofs.keyed.keyed_design.Goals as goal

pub returns-clause-keyed : goal.returns-clause-keyed
returns-clause-keyed c =
    let s = c.args.schema.now in
    let plan = plan_of c.args.plan.now in
    both_ok c.keyed_schemes.result (λ v. map (λ (t : KeyedScheme). t.scheme) v.items ≡ c.schemes-2.result.now)
    (λ v. All (HasPrimaryKey s) v.items) (λ v. IsKeyedDesign s plan v.items)
    (λ v is keys. record {
      order =
          subst (λ (l : List Attributes). IsInDesignOrder (width_of s) (theory_of s) plan l)
          (sym (keyed_plan (scheme_sets c.in_ok-ordered.ordered) c.schemes-2.result.now v.items c.schemes-2.ensures.schemes is))
          (rw (c.theory.ensures.theory) at c.in_ok-ordered.ensures.order);
      keys = keys;
    })
    c.keyed_schemes.ensures.schemes c.keyed_schemes.ensures.keys

pub returns-clause-schemes_within : goal.returns-clause-schemes_within
returns-clause-schemes_within c =
    let s = c.args.schema.now in
    let sets = scheme_sets c.in_ok-ordered.ordered in
    let wide : c.in_ok-ordered.ordered.width ≡ width_of s = rw (c.theory.ensures.theory) at c.in_ok-ordered.ensures.universe in
    let within : All (λ (x : AttrSet). IsSubset (attributes x) (universe_of s)) sets =
    subst (λ (m : ℕ). All (λ (x : AttrSet). IsSubset (attributes x) (below m)) sets) wide c.in_ok-ordered.ordered.valid.within in
    IfOk-weaker c.keyed_schemes.result (λ v. map (λ (t : KeyedScheme). t.scheme) v.items ≡ c.schemes-2.result.now)
    (λ v. All (λ (t : KeyedScheme). IsSubset (attributes t.scheme) (universe_of s)) v.items)
    (λ v is.
    all_unmapped (λ (x : AttrSet). IsSubset (attributes x) (universe_of s)) (λ (t : KeyedScheme). t.scheme) v.items
    (subst (All (λ (x : AttrSet). IsSubset (attributes x) (universe_of s))) (sym (is ∙ c.schemes-2.ensures.schemes)) within))
    c.keyed_schemes.ensures.schemes

pub returns-clause-lossless : goal.returns-clause-lossless
returns-clause-lossless c = λ lossless.
    let s = c.args.schema.now in
    IfOk-weaker c.keyed_schemes.result (λ v. map (λ (t : KeyedScheme). t.scheme) v.items ≡ c.schemes-2.result.now)
    (λ v. IsLossless (width_of s) (theory_of s) (schemes_of_tables v.items))
    (λ v is.
    subst (λ (l : List Attributes). IsLossless (width_of s) (theory_of s) l)
    (sym (keyed_plan (scheme_sets c.in_ok-ordered.ordered) c.schemes-2.result.now v.items c.schemes-2.ensures.schemes is))
    ((rw (c.theory.ensures.theory) at c.in_ok-ordered.ensures.lossless) (theory_of s) lossless))
    c.keyed_schemes.ensures.schemes
