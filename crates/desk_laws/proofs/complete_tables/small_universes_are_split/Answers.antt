-- What is left to prove of `small_universes_are_split`: its clauses `bcnf` and `fourth`, by
-- `small_is_splittable`.
use Rattle.std.proofs.Common.{inl, inr, refl}
use Rattle.dep_model.specs.declared.form.Form.TheVariants.{Bcnf, Fourth}
use Rattle.desk_laws.proofs.TableLaws.{small_is_splittable}
use Rattle.desk_laws.proofs.complete_tables.small_universes_are_split.Goals as goal

pub returns : goal.returns
returns c = record {
  bcnf = λ schema within_limit. small_is_splittable schema Bcnf within_limit (inl refl);
  fourth = λ schema within_limit. small_is_splittable schema Fourth within_limit (inr refl);
}
