-- What is left to prove of `missing_exit`: its clause `says`, and what `print_refusal` requires.
use Rattle.std.proofs.Common.{List, length, subst, sym}
use Rattle.schema_model.specs.Schemas.{width_of}
use Rattle.ddl_text.specs.declared.table.TableDesign.{TableDesign}
use Rattle.missing_values.specs.Refusals.{IsWithin, refusal_text}
use Rattle.desk_responses.specs.ResponseValues.{Says}
use Rattle.desk_responses.specs.Responses.{response_value}
use Rattle.desk_responses.specs.declared.status.Status.TheVariants.{Refused}
use Rattle.desk_designs.proofs.missing.missing_exit.Goals as goal

pub print_refusal-requires : goal.print_refusal-requires
print_refusal-requires c = record {
  within = subst (λ (tables : List TableDesign). IsWithin (width_of c.args.schema.now) (length tables) c.args.refusal)
      (sym c.tables.ensures.tables) c.requires.within;
}

pub returns : goal.returns
returns c = record {
  says = λ response is.
      subst (λ (tables : List TableDesign). Says Refused (refusal_text c.args.schema.now tables c.args.refusal) (response_value response))
      c.tables.ensures.tables (c.with_text.ensures.says _ c.print_refusal.ensures.text response is);
}
