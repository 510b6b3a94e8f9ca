-- What is left to prove of `Schema::new`: its clause `columns` and the invariant of its type, by
-- `slice_get-texts`.
use Rattle.std.proofs.Common.{List, arith, length, subst, All}
use Rattle.attr_sets.specs.Sets.{attributes}
use Rattle.attr_sets.proofs.AttributesLemmas.{same_at}
use Rattle.dep_model.specs.declared.dep.Dep.{Dep}
use Rattle.schema_model.specs.Validity.{HasSetNumbers}
use Rattle.schema_model.proofs.ColumnLemmas.{AreDeclared-text, slice_get-texts}
use Rattle.schema_model.proofs.schema.Schema.new.Goals as goal

pub invariant_of-result : goal.invariant_of-result
invariant_of-result c =
    let sets = subst (λ (l : List Dep). All HasSetNumbers l) c.deref.ensures.value c.see_sets_of_all.ensures.numbers in
    (c.requires.schema, (AreDeclared-text c.args.names.items (attributes c.empty.result) c.requires.bare (same_at c.empty.ensures.members), (record { of_nullable = omega arith; of_deps = sets }, tt)))

pub returns-clause-columns : goal.returns-clause-columns
returns-clause-columns c i low = slice_get-texts (length c.args.names.items) i low
