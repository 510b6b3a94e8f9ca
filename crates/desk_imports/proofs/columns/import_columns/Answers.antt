-- What is left to prove of `import_columns`: its clause, by `text_without_dependencies`.
use Rattle.std.proofs.Common.{ap, ◌∙◌}
use Rattle.desk_imports.proofs.SchemaLemmas.{text_without_dependencies}
use Rattle.desk_responses.specs.ResponseValues.{text_only}
use Rattle.desk_responses.specs.declared.status.Status.TheVariants.{Yes}
use Rattle.desk_imports.proofs.columns.import_columns.Goals as goal

pub returns : goal.returns
returns c =
    let schema = c.in_ok-schema.schema in
    let is = c.in_ok-schema.ensures.schema in
    let text = c.in_ok-text.ensures.text ∙ text_without_dependencies schema _ c.deps.ensures.deps is.deps in
    record { response = (schema, is, c.with_text.ensures.says ∙ ap (text_only Yes) text) }
