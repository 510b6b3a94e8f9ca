-- What is left to prove of `test_design`: what `missing_exit` requires, and its clauses, by what `missing_refusal`
-- finds.
use Rattle.std.proofs.Common.{◌≡◌, ◌∙◌, ℕ, List, Some, length, map, subst, ap}
use Rattle.std.proofs.lemmas.List.{length-map}
use Rattle.schema_model.specs.Schemas.{nullable_of, width_of}
use Rattle.ddl_text.specs.Designs.{keyed}
use Rattle.ddl_text.specs.declared.table.TableDesign.{TableDesign}
use Rattle.optional_tables.specs.Hindrances.{IsUnhindered}
use Rattle.optional_tables.specs.declared.keyed.KeyedScheme.{KeyedScheme}
use Rattle.missing_values.specs.Missing.{FindsMissing}
use Rattle.missing_values.specs.Refusals.{IsWithin}
use Rattle.desk_designs.proofs.MissingLemmas.{design_of_schemes}
use Rattle.desk_designs.proofs.missing.test_design.Goals as goal

pub missing_exit-requires : goal.missing_exit-requires
missing_exit-requires c =
    let tables = c.args.tables.now in
    let are : c.deref.result.now ≡ map keyed tables =
    c.deref.ensures.value ∙ c.in_ok-with_keys.ensures.keyed ∙ ap (map keyed) c.tables.ensures.tables in
    let many : length c.deref.result.now ≡ length tables =
    ap (λ (ts : List KeyedScheme). length ts) are ∙ length-map tables keyed in
    record {
      within = subst (λ (n : ℕ). IsWithin (width_of c.args.schema.now) n c.in-Some.refusal) many c.in-Some.ensures.within;
    }

pub returns-in-None-clause-unhindered : goal.returns-in-None-clause-unhindered
returns-in-None-clause-unhindered c =
    let are : c.deref.result.now ≡ map keyed c.args.tables.now =
    c.deref.ensures.value ∙ c.in_ok-with_keys.ensures.keyed ∙ ap (map keyed) c.tables.ensures.tables in
    subst (IsUnhindered (nullable_of c.args.schema.now)) are c.in-None.ensures.finds

pub returns-clause-exit : goal.returns-clause-exit
returns-clause-exit c = λ names plan sound response is.
    let s = c.args.schema.now in
    let tables = c.args.tables.now in
    let are : c.deref.result.now ≡ map keyed tables =
    c.deref.ensures.value ∙ c.in_ok-with_keys.ensures.keyed ∙ ap (map keyed) c.tables.ensures.tables in
    let finds : FindsMissing (nullable_of s) (map keyed tables) (Some c.in-Some.refusal) =
    subst (λ (ts : List KeyedScheme). FindsMissing (nullable_of s) ts (Some c.in-Some.refusal)) are c.in-Some.ensures.finds in (
      tables,
      design_of_schemes s names plan tables sound,
      (c.in-Some.refusal, finds, c.missing_exit.ensures.says response is),
    )
