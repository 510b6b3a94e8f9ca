-- The text of the schema of the columns of a file means it.
use Rattle.std.proofs.Common.{◌≡◌, ℕ, List, [], length, sym, ap, subst, arith}
use Rattle.std.proofs.lemmas.List.{get_or_default}
use Rattle.std.specs.Prelude.{All}
use Rattle.attr_sets.specs.declared.set.TheConstants.{MOST_ATTRIBUTES}
use Rattle.dep_model.specs.Deps.{dependencies_of}
use Rattle.schema_model.specs.Names.{IsName}
use Rattle.schema_model.specs.Schemas.{names_of, naming_of, nullable_of, theory_of, types_of}
use Rattle.schema_model.specs.declared.naming.Naming.{Naming}
use Rattle.schema_model.specs.declared.naming.Naming.TheVariants.{Any}
use Rattle.schema_model.specs.Schemas.{Schema}
use Rattle.headed_rows.specs.Headers.{IsHeaderWithin}
use Rattle.headed_rows.specs.Headings.{HeadedRows}
use Rattle.schema_grammar.proofs.PrintedSchemas.{printed-schema-law}
use Rattle.schema_grammar.specs.Declarations.{Declarations}
use Rattle.schema_grammar.specs.Printed.{IsReadBack}
use Rattle.schema_grammar.specs.Schemas.{MeansSchema}
use Rattle.schema_grammar.specs.declared.format.Format.TheVariants as format
use Rattle.schema_printer.specs.Printing.{schema_text}
use Rattle.desk_imports.specs.Columns.{IsSchemaOf}

-- the names of a header are read again
names_back : (names : List (List ℕ)) → IsHeaderWithin MOST_ATTRIBUTES names → All (IsReadBack format.Plain Any) names
names_back names header i d within = subst IsName (get_or_default names i [] d within) (header.named i within).0

pub text_means : (headed : HeadedRows) (s : Schema) → IsHeaderWithin MOST_ATTRIBUTES headed.names → IsSchemaOf headed s
    → (lines : List ℕ) × MeansSchema (schema_text s [])
    (record { names = headed.names; columns = types_of s; deps = []; lines = lines; naming = Any; nullable = nullable_of s })
text_means headed s header is =
    let none : theory_of s ≡ [] = ap dependencies_of is.deps in
    let back : All (IsReadBack format.Plain (naming_of s)) (names_of s) =
    subst (λ (naming : Naming). All (IsReadBack format.Plain naming) (names_of s)) (sym is.naming)
    (subst (λ (names : List (List ℕ)). All (IsReadBack format.Plain Any) names) (sym is.names) (names_back headed.names header)) in
    let (lines, means) = printed-schema-law s (omega (arith, ap length is.deps)) back in
    let whole : Declarations = record { names = names_of s; columns = types_of s; deps = theory_of s; lines = lines; naming = naming_of s; nullable = nullable_of s } in
    let stated : Declarations = record { names = headed.names; columns = types_of s; deps = []; lines = lines; naming = Any; nullable = nullable_of s } in
    let same : whole ≡ stated = (λ i. record { names = is.names i; columns = types_of s; deps = none i; lines = lines; naming = is.naming i; nullable = nullable_of s }) in (
      lines,
      subst (λ (text : List ℕ). MeansSchema text stated) (ap (schema_text s) none)
          (subst (λ (d : Declarations). MeansSchema (schema_text s (theory_of s)) d) same means),
    )
