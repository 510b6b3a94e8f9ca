-- The text of a schema without dependencies.
use Rattle.std.proofs.Common.{◌≡◌, List, [], ap, ◌∙◌}
use Rattle.dep_model.specs.Deps.{dependencies_of}
use Rattle.schema_model.specs.Schemas.{deps_of}
use Rattle.dep_model.specs.declared.dep.Dep.{Dep}
use Rattle.schema_model.specs.Schemas.{Schema}
use Rattle.schema_printer.specs.Printing.{schema_text}

pub text_without_dependencies : (s : Schema) (deps : List Dep) → deps ≡ deps_of s → deps_of s ≡ []
    → schema_text s (dependencies_of deps) ≡ schema_text s []
text_without_dependencies s deps same none =
    ap (λ (ds : List Dep). schema_text s (dependencies_of ds)) (same ∙ none)
