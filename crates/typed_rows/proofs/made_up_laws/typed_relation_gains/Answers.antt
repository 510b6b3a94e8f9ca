-- The law `typed_relation_gains`, by what typed_rows says of legal relations, joins and tuples.
use Rattle.std.proofs.Common.{List, length}
use Rattle.attr_sets.specs.Attributes.{Attributes}
use Rattle.schema_model.specs.declared.column_type.ColumnType.{ColumnType}
use Rattle.dep_model.specs.Tuples.{Relation}
use Rattle.dep_model.specs.Dependencies.{Dependency}
use Rattle.dep_model.specs.TwoTuples.{all_zeros}
use Rattle.dep_model.proofs.TwoTupleLemmas.{length-all_zeros}
use Rattle.chase_laws.specs.Answers.{IsGaining}
use Rattle.typed_rows.specs.Typed.{HoldsNumerals}
use Rattle.typed_rows.proofs.NumeralLemmas.{zeros_are_numerals}
use Rattle.typed_rows.proofs.RelationLemmas.{IsMadeUp, legal-to, joins-to, contains-from}
use Rattle.typed_rows.proofs.made_up_laws.typed_relation_gains.Goals as goal

made_up : (columns : List ColumnType) (ds : List Dependency) (plan : List Attributes) (r : Relation)
    → HoldsNumerals r → IsGaining (length columns) ds plan r → IsMadeUp columns r
made_up columns ds plan r numerals gaining = record { over = gaining.legal.over; numerals = numerals }

pub returns : goal.returns
returns c = record {
  legal = λ columns ds plan r numerals gaining. legal-to columns ds r (made_up columns ds plan r numerals gaining) gaining.legal;
  joined = λ columns ds plan r numerals gaining. joins-to columns plan r (all_zeros (length columns)) (made_up columns ds plan r numerals gaining) (length-all_zeros (length columns)) gaining.joined;
  gained = λ columns ds plan r numerals gaining gained. gaining.gained
      (contains-from columns r (all_zeros (length columns)) (made_up columns ds plan r numerals gaining) (length-all_zeros (length columns)) (zeros_are_numerals (length columns)) gained);
}
