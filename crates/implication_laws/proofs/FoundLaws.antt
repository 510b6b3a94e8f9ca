-- What `discover` prints is the text of a schema, and means it.
use Rattle.std.proofs.Common.{◌≡◌, ◌≤◌, ◌<◌, ℕ, Bool, true, false, if◌then◌else◌, List, [], ◌++◌, length, get_or, replicate, refl, sym, ap, subst, ◌∙◌, arith}
use Rattle.std.specs.List.{list_all}
use Rattle.std.specs.Prelude.{All, not}
use Rattle.std.proofs.lemmas.Bool.{and_parts}
use Rattle.std.proofs.lemmas.List.{length-map, get_or_default}
use Rattle.std.proofs.lemmas.List.Sums.{AllPass-from_list_all}
use Rattle.attr_sets.specs.Attributes.{none}
use Rattle.dep_model.specs.Dependencies.{Dependency}
use Rattle.dep_model.specs.Deps.{dependency_of}
use Rattle.schema_model.specs.Names.{IsName, is_bare_name}
use Rattle.schema_model.specs.Schemas.{names_of, naming_of, types_of, nullable_of, deps_of, theory_of}
use Rattle.schema_model.specs.declared.column_type.ColumnType.TheVariants.{Text}
use Rattle.schema_model.specs.declared.naming.Naming.{Naming}
use Rattle.schema_model.specs.declared.naming.Naming.TheVariants.{Bare, Any}
use Rattle.schema_model.specs.Schemas.{Schema}
use Rattle.headed_rows.specs.Headers.{IsColumnHeader, is_plain_name, naming_under}
use Rattle.schema_grammar.specs.Declarations.{Declarations}
use Rattle.schema_grammar.specs.Printed.{IsReadBack}
use Rattle.schema_grammar.specs.Schemas.{MeansSchema}
use Rattle.schema_grammar.specs.Words.{is_reserved}
use Rattle.schema_grammar.specs.declared.format.Format.TheVariants as format
use Rattle.schema_grammar.specs.declared.format.TheConstants.{MOST_DEPENDENCY_LINES}
use Rattle.schema_grammar.proofs.PrintedSchemas.{printed-schema-law}
use Rattle.schema_printer.specs.Printing.{schema_text}
use Rattle.desk_discovery.specs.Discoveries.{HasTextColumns, found_text, rules_text}
use Rattle.desk_discovery.proofs.RuleLemmas.{schema_found}
use Rattle.desk_texts.specs.Texts.{overlong_text}
use Rattle.desk_texts.proofs.OverlongLemmas.{not_overlong}

-- ---- the text
rules_printed : (header : List (List ℕ)) (s : Schema) (ds : List Dependency) → HasTextColumns header s
    → schema_text s ds ≡ rules_text header ds
rules_printed header s ds has =
    let some = s.valid.names_not_empty in
    schema_found header s ds (subst (λ (names : List (List ℕ)). 0 < length names) has.names some) has

pub found_printed : (header : List (List ℕ)) (s : Schema) (ds : List Dependency) → HasTextColumns header s
    → overlong_text ds ++ schema_text s ds ≡ found_text header ds
found_printed header s ds has = ap (λ (text : List ℕ). overlong_text ds ++ text) (rules_printed header s ds has)

-- no comment stands before so few
few_printed : (header : List (List ℕ)) (s : Schema) (ds : List Dependency) → HasTextColumns header s
    → length ds ≤ MOST_DEPENDENCY_LINES → schema_text s ds ≡ found_text header ds
few_printed header s ds has few =
    ap (λ (comment : List ℕ). comment ++ schema_text s ds) (sym (not_overlong ds (omega (arith, few))))
    ∙ found_printed header s ds has

-- ---- names
not_true : (b : Bool) → not b ≡ true → b ≡ false
not_true true h = cc
not_true false h = refl

-- the names of a header are read again
names_back : (header : List (List ℕ)) → IsColumnHeader header → All (IsReadBack format.Plain (naming_under header)) header
names_back header is = by (list_all is_plain_name header) refl
  where
    by : (plain : Bool) → list_all is_plain_name header ≡ plain
        → All (IsReadBack format.Plain (if plain then Bare else Any)) header
    by true all = λ i d within.
        let name = get_or header i d in
        let parts = and_parts (is_bare_name name) (not (is_reserved format.Plain name))
        (AllPass-from_list_all is_plain_name header all i d within) in
        (parts.0, not_true (is_reserved format.Plain name) parts.1)
    by false some = λ i d within. subst IsName (get_or_default header i [] d within) (is.named i within).0

-- so are those of a schema of its columns
pub names_read_again : (header : List (List ℕ)) (s : Schema) → IsColumnHeader header → HasTextColumns header s
    → All (IsReadBack format.Plain (naming_of s)) (names_of s)
names_read_again header s is has =
    subst (λ (naming : Naming). All (IsReadBack format.Plain naming) (names_of s)) (sym has.naming)
    (subst (λ (names : List (List ℕ)). All (IsReadBack format.Plain (naming_under header)) names) (sym has.names) (names_back header is))

-- ---- the meaning
pub same_declarations : (header : List (List ℕ)) (s : Schema) → HasTextColumns header s → (lines : List ℕ)
    → ◌≡◌ {A = Declarations}
    (record { names = names_of s; columns = types_of s; deps = theory_of s; lines = lines; naming = naming_of s; nullable = nullable_of s })
    (record { names = header; columns = replicate (length header) Text; deps = theory_of s; lines = lines; naming = naming_under header; nullable = none })
same_declarations header s has lines =
    (λ i. record { names = has.names i; columns = has.types i; deps = theory_of s; lines = lines; naming = has.naming i; nullable = has.nullable i })

pub found_means : (header : List (List ℕ)) (s : Schema) → IsColumnHeader header → HasTextColumns header s
    → length (theory_of s) ≤ MOST_DEPENDENCY_LINES
    → (lines : List ℕ) × MeansSchema (found_text header (theory_of s))
    (record { names = header; columns = replicate (length header) Text; deps = theory_of s; lines = lines; naming = naming_under header; nullable = none })
found_means header s is has few =
    let size : length (theory_of s) ≡ length (deps_of s) = length-map (deps_of s) dependency_of in
    let (lines, means) = printed-schema-law s (omega (arith, size, few)) (names_read_again header s is has) in
    let stated : Declarations = record { names = header; columns = replicate (length header) Text; deps = theory_of s; lines = lines; naming = naming_under header; nullable = none } in (
      lines,
      subst (λ (text : List ℕ). MeansSchema text stated) (few_printed header s (theory_of s) has few)
          (subst (λ (d : Declarations). MeansSchema (schema_text s (theory_of s)) d) (same_declarations header s has lines) means),
    )
