-- What is left to prove of `print_plan`: what `add_schemes` requires.
use Rattle.std.proofs.Common.{ℕ, List, sym, subst}
use Rattle.std.specs.Prelude.{All}
use Rattle.attr_sets.specs.declared.set.AttrSet.{AttrSet}
use Rattle.attr_sets.specs.Attributes.{below, IsSubset, IsEmpty}
use Rattle.attr_sets.specs.Sets.{attributes}
use Rattle.schema_model.specs.Schemas.{width_of}
use Rattle.plan_printer.proofs.printing.print_plan.Goals as goal

pub add_schemes-requires : goal.add_schemes-requires
add_schemes-requires c =
    let plan = c.args.plan.now in
    record {
      within = subst (λ (xs : List AttrSet). All (λ (s : AttrSet). IsSubset (attributes s) (below (width_of c.args.schema.now))) xs) (sym c.schemes.ensures.schemes)
          (subst (λ (m : ℕ). All (λ (s : AttrSet). IsSubset (attributes s) (below m)) plan.schemes.items) c.requires.universe plan.valid.within);
      nonempty = subst (λ (xs : List AttrSet). All (λ (s : AttrSet). IsEmpty (attributes s) → ⊥) xs) (sym c.schemes.ensures.schemes) plan.valid.not_empty;
    }
