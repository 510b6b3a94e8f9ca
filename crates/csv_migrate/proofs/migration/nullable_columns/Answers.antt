-- What is left to prove of `nullable_columns`: that the invariant of its loop holds at first and stays, by
-- `flag_taken` and `flag_passed`.
use Rattle.std.proofs.Common.{Bool, List, [], ◌∷◌, ◌++◌, sym, ap, ap₂, ◌∙◌}
use Rattle.attr_sets.specs.Attributes.{Attributes, difference}
use Rattle.attr_sets.specs.Sets.{attributes}
use Rattle.attr_sets.proofs.AttributesLemmas.{same_at}
use Rattle.schema_model.specs.Schemas.{nullable_of}
use Rattle.dep_model.proofs.SchemeLemmas.{members_below-none}
use Rattle.csv_migrate.proofs.ProjectionLemmas.{flag_taken, flag_passed}
use Rattle.csv_migrate.proofs.migration.nullable_columns.Goals as goal

pub loop-attribute-init : goal.loop-attribute-init
loop-attribute-init c = rw (members_below-none (attributes c.args.keyed.scheme)) (record { flags = c.in_ok-flags.ensures.items })

pub loop-attribute-preserved-then-not-contains : goal.loop-attribute-preserved-then-not-contains
loop-attribute-preserved-then-not-contains c =
    let n = c.loop-attribute.attribute in
    record {
      flags = c.loop-attribute.invariant.flags
          ∙ sym (flag_passed (difference (nullable_of c.args.schema.now) (attributes c.args.keyed.key)) (attributes c.args.keyed.scheme) n
          (sym c.if-not-contains.ensures.member));
    }

pub loop-attribute-preserved : goal.loop-attribute-preserved
loop-attribute-preserved c =
    let n = c.loop-attribute.attribute in
    let key = attributes c.args.keyed.key in
    let may = c.difference-nullable.ensures.members ∙ ap (λ (x : Attributes). difference x key) c.nullable.ensures.nullable in
    record {
      flags = c.in_ok-push.ensures.items
          ∙ ap₂ (λ (flags : List Bool) (flag : Bool). flags ++ flag ∷ []) c.loop-attribute.invariant.flags
          (c.contains-may_be_missing.ensures.member ∙ same_at may n)
          ∙ sym (flag_taken (difference (nullable_of c.args.schema.now) key) (attributes c.args.keyed.scheme) n
          (sym c.if-not-contains.ensures.member));
    }
