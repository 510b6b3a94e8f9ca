-- What is left to prove of `put_attribute_of`: its clause `added`.
use Rattle.std.proofs.Common.{ℕ, [], refl, subst}
use Rattle.std.specs.Prelude.{◌==◌, if◌then◌else◌}
use Rattle.attr_sets.specs.Attributes.{Attributes, only}
use Rattle.attr_sets.specs.Sets.{attributes}
use Rattle.dep_model.specs.Dependencies.{fd}
use Rattle.row_measures.specs.Answers.{IsMeasure}
use Rattle.desk_measures.specs.Measures.{attribute_text}
use Rattle.desk_measures.proofs.measures.put_attribute_of.Goals as goal

pub returns : goal.returns
returns c =
    let found = c.in_ok-found.found in
    let rows = c.args.rows.now in
    record {
      added = (
        (if found.groups == 0 then [] else attribute_text c.args.schema.now c.args.attribute found),
        record {
          measure = found;
          is = subst (λ (n : ℕ). IsMeasure n rows (fd (attributes c.args.lhs) (only c.args.attribute)) found) c.width.ensures.count
              (subst (λ (y : Attributes). IsMeasure c.width.result rows (fd (attributes c.args.lhs) y) found)
              c.single-rhs.ensures.members c.in_ok-found.ensures.measure);
          none = refl;
          says = refl;
        },
        c.in_ok-put_attribute_where.ensures.added,
      );
    }
