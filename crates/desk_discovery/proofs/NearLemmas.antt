-- Lines of dependencies that nearly hold, each with its error.
use Rattle.std.proofs.Common.{◌≡◌, ◌<◌, ◌++◌, ℕ, Bool, false, List, [], ◌∷◌, length, map, ap, sym, ◌∙◌, append-nil, append_assoc, if◌then◌else◌}
use Rattle.std.proofs.lemmas.Bool.{ne_eqb}
use Rattle.std.proofs.lemmas.Grind.{flat_map-append}
use Rattle.std.specs.Prelude.{codes, ◌==◌}
use Rattle.std.specs.Fmt.{decimal}
use Rattle.dep_model.specs.Deps.{dependencies_of, dependency_of}
use Rattle.dep_model.specs.declared.dep.Dep.{Dep}
use Rattle.schema_model.specs.Schemas.{Schema}
use Rattle.headed_rows.specs.Headers.{naming_under}
use Rattle.schema_printer.specs.Printing.{dependency_text, lines_text, schema_text}
use Rattle.schema_printer.specs.Spelling.{spelling, printed_names_of}
use Rattle.desk_discovery.specs.Discoveries.{HasTextColumns, column_lines, rules_text}
use Rattle.desk_discovery.specs.NearDiscoveries.{change_text, near_columns_text, near_lines}
use Rattle.desk_discovery.proofs.KeyLemmas.{names_printed}
use Rattle.desk_discovery.proofs.RuleLemmas.{schema_found}

-- what is added where some rows must change
pub change_added : (old one two new : List ℕ) (error : ℕ) → (error ≡ 0 → ⊥) → one ≡ old ++ codes " # "
    → two ≡ one ++ decimal error → new ≡ two ++ codes " must change" → new ≡ old ++ change_text error
change_added old one two new error some first second third =
    let some_must : (error == 0) ≡ false = ne_eqb error 0 some in
    third ∙ ap (λ (t : List ℕ). t ++ codes " must change") (second ∙ ap (λ (t : List ℕ). t ++ decimal error) first)
    ∙ append_assoc (old ++ codes " # ") (decimal error) (codes " must change")
    ∙ append_assoc old (codes " # ") (decimal error ++ codes " must change")
    ∙ ap (λ (t : List ℕ). old ++ t) (sym (ap (λ (none : Bool). if none then [] else codes " # " ++ decimal error ++ codes " must change") some_must))

-- the lines of dependencies and their errors
abbrev pub near_text_of : List (List ℕ) → List Dep → List ℕ → List ℕ
near_text_of printed deps errors = lines_text (near_lines printed (dependencies_of deps) errors)

-- one line more is added, and fewer are left
pub line_added : (printed : List (List ℕ)) (deps more : List Dep) (errors fewer : List ℕ) (d : Dep) (error : ℕ)
    (text one two new : List ℕ) → deps ≡ d ∷ more → errors ≡ error ∷ fewer
    → one ≡ text ++ dependency_text printed (dependency_of d) → two ≡ one ++ change_text error → new ≡ two ++ 10 ∷ []
    → new ++ near_text_of printed more fewer ≡ text ++ near_text_of printed deps errors
line_added printed deps more errors fewer d error text one two new here also first second third =
    let dep = dependency_text printed (dependency_of d) in
    let change = change_text error in
    let rest = near_text_of printed more fewer in
    let whole : new ≡ text ++ ((dep ++ change) ++ 10 ∷ []) =
    third ∙ ap (λ (t : List ℕ). t ++ 10 ∷ []) (second ∙ ap (λ (t : List ℕ). t ++ change) first ∙ append_assoc text dep change)
    ∙ append_assoc text (dep ++ change) (10 ∷ []) in
    ap (λ (t : List ℕ). t ++ rest) whole
    ∙ append_assoc text ((dep ++ change) ++ 10 ∷ []) rest
    ∙ ap (λ (t : List ℕ). text ++ t)
    (sym (ap (λ (ds : List Dep). near_text_of printed ds errors) here ∙ ap (near_text_of printed (d ∷ more)) also))

-- the lines that declare the columns, and those of the dependencies
pub near_whole : (names : List (List ℕ)) (s : Schema) (deps : List Dep) (errors : List ℕ) → 0 < length names
    → HasTextColumns names s
    → schema_text s [] ++ near_text_of (printed_names_of s) deps errors
    ≡ near_columns_text (naming_under names) (map (spelling (naming_under names)) names) (dependencies_of deps) errors
near_whole names s deps errors some has =
    let printed = map (spelling (naming_under names)) names in
    let columns = column_lines (naming_under names) printed in
    let lines = near_lines printed (dependencies_of deps) errors in
    ap (λ (t : List ℕ). t ++ near_text_of (printed_names_of s) deps errors) (schema_found names s [] some has)
    ∙ ap (λ (ys : List (List ℕ)). rules_text names [] ++ near_text_of ys deps errors) (names_printed names s has)
    ∙ ap (λ (ls : List (List ℕ)). lines_text ls ++ lines_text lines) (append-nil columns)
    ∙ sym (flat_map-append (λ line. line ++ 10 ∷ []) columns lines)
