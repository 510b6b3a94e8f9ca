-- What `discover near` prints means the schema of the dependencies that it found.
use Rattle.std.proofs.Common.{◌≡◌, ◌+◌, ◌<◌, ◌≤◌, ◌==◌, ◌/◌, ◌%◌, ℕ, zero, suc, Bool, true, false, cond, if◌then◌else◌, List, [], ◌∷◌, ◌++◌, length, replicate, append-nil, refl, sym, ap, subst, ◌∙◌, arith}
use Rattle.std.specs.Prelude.{All, codes, map, nat_lt}
use Rattle.std.specs.Fmt.{decimal, digit_glyph, digits, digits_onto}
use Rattle.std.proofs.lemmas.Bool.{ne_eqb}
use Rattle.std.proofs.lemmas.Grind.{flat_map-append}
use Rattle.std.proofs.lemmas.List.{length-map}
use Rattle.std.proofs.lemmas.List.Elements.{All-nil, All-cons}
use Rattle.attr_sets.specs.Attributes.{none}
use Rattle.dep_model.specs.Dependencies.{Dependency}
use Rattle.dep_model.specs.Deps.{dependency_of}
use Rattle.schema_model.specs.Schemas.{Schema, names_of, naming_of, types_of, nullable_of, deps_of, theory_of}
use Rattle.schema_model.specs.declared.column_type.ColumnType.TheVariants.{Text}
use Rattle.headed_rows.specs.Headers.{IsColumnHeader, naming_under}
use Rattle.schema_grammar.specs.Declarations.{Declarations}
use Rattle.schema_grammar.specs.Schemas.{MeansSchema}
use Rattle.schema_grammar.specs.declared.format.TheConstants.{MOST_DEPENDENCY_LINES}
use Rattle.schema_grammar.proofs.PrintedDependencies.{AreEnds, ended_lines}
use Rattle.schema_grammar.proofs.PrintedSchemas.{ended-schema-law}
use Rattle.schema_grammar.proofs.PrintedTexts.{Bytes, bytes_both, is_line_byte}
use Rattle.schema_grammar.proofs.SpelledWords.{EndsLine, comment_ends, nothing_ends}
use Rattle.schema_printer.specs.Printing.{dependency_text, lines_text, schema_lines, schema_text}
use Rattle.schema_printer.specs.Spelling.{printed_names_of, spelling}
use Rattle.desk_discovery.specs.Discoveries.{HasTextColumns}
use Rattle.desk_discovery.specs.NearDiscoveries.{change_text, near_columns_text, near_lines, near_text}
use Rattle.desk_discovery.proofs.NearLemmas.{near_whole}
use Rattle.desk_texts.proofs.OverlongLemmas.{not_overlong}
use Rattle.implication_laws.proofs.FoundLaws.{names_read_again, same_declarations}

-- ---- a number has no line end
above_ends : (b : ℕ) → 13 < b → is_line_byte b ≡ true
above_ends b above =
    let feed : (b == 10) ≡ false = ne_eqb b 10 (λ same. omega (arith, same, above)) in
    let return : (b == 13) ≡ false = ne_eqb b 13 (λ same. omega (arith, same, above)) in
    rw (feed, return) refl

glyph_byte : (d : ℕ) → is_line_byte (digit_glyph false d) ≡ true
glyph_byte d = by (nat_lt d 10)
  where
    by : (low : Bool) → is_line_byte (cond low (48 + d) (87 + d)) ≡ true
    by true = above_ends (48 + d) (omega arith)
    by false = above_ends (87 + d) (omega arith)

either_bytes : (b : Bool) (one other : List ℕ) → Bytes one → Bytes other → Bytes (cond b one other)
either_bytes true one other first second = first
either_bytes false one other first second = second

digits_bytes : (most n : ℕ) (later : List ℕ) → Bytes later → Bytes (digits_onto most 10 false n later)
digits_bytes zero n later bytes = bytes
digits_bytes (suc most) n later bytes =
    let glyph : ℕ = digit_glyph false (n % 10) in
    let byte : is_line_byte glyph ≡ true = glyph_byte (n % 10) in
    let led : Bytes (glyph ∷ later) = rw byte bytes in
    either_bytes (n / 10 == 0) (glyph ∷ later) (digits_onto most 10 false (n / 10) (glyph ∷ later)) led
    (digits_bytes most (n / 10) (glyph ∷ later) led)

decimal_bytes : (n : ℕ) → Bytes (decimal n)
unfolding digits
decimal_bytes n = digits_bytes 64 n [] refl

-- ---- what stands after a dependency
-- is nothing or a comment
change_ends : (error : ℕ) → EndsLine (change_text error)
change_ends error = by (error == 0)
  where
    by : (none : Bool) → EndsLine (if none then [] else codes " # " ++ decimal error ++ codes " must change")
    by true = nothing_ends
    by false =
        comment_ends (32 ∷ (decimal error ++ codes " must change"))
        (bytes_both (32 ∷ []) (decimal error ++ codes " must change") refl
        (bytes_both (decimal error) (codes " must change") (decimal_bytes error) refl))

changes_end : (ds : List Dependency) (errors : List ℕ) → length errors ≡ length ds → AreEnds ds (map change_text errors)
changes_end ds errors one_each = record { one_each = length-map errors change_text ∙ one_each; each = each errors }
  where
    each : (es : List ℕ) → All EndsLine (map change_text es)
    each [] = All-nil EndsLine
    each (e ∷ es) = All-cons EndsLine (change_text e) (map change_text es) (change_ends e) (each es)

near_ended : (printed : List (List ℕ)) (ds : List Dependency) (errors : List ℕ)
    → ended_lines printed ds (map change_text errors) ≡ near_lines printed ds errors
near_ended printed [] errors = refl
near_ended printed (d ∷ ds) [] = refl
near_ended printed (d ∷ ds) (e ∷ es) =
    ap (λ (ls : List (List ℕ)). (dependency_text printed d ++ change_text e) ∷ ls) (near_ended printed ds es)

-- ---- the text
near_printed : (header : List (List ℕ)) (s : Schema) (errors : List ℕ) → HasTextColumns header s
    → length (theory_of s) ≤ MOST_DEPENDENCY_LINES
    → lines_text (schema_lines (naming_of s) (types_of s) (map (spelling (naming_of s)) (names_of s)) (nullable_of s)
    ++ ended_lines (map (spelling (naming_of s)) (names_of s)) (theory_of s) (map change_text errors))
    ≡ near_text header (theory_of s) errors
unfolding schema_text printed_names_of
near_printed header s errors has few =
    let printed = map (spelling (naming_of s)) (names_of s) in
    let heading = schema_lines (naming_of s) (types_of s) printed (nullable_of s) in
    let ended = ended_lines printed (theory_of s) (map change_text errors) in
    let some : 0 < length header = subst (λ (names : List (List ℕ)). 0 < length names) has.names s.valid.names_not_empty in
    flat_map-append (λ line. line ++ 10 ∷ []) heading ended
    ∙ ap (λ (ls : List (List ℕ)). lines_text ls ++ lines_text ended) (sym (append-nil heading))
    ∙ ap (λ (ls : List (List ℕ)). schema_text s [] ++ lines_text ls) (near_ended printed (theory_of s) errors)
    ∙ near_whole header s (deps_of s) errors some has
    ∙ ap (λ (comment : List ℕ). comment ++ near_columns_text (naming_under header) (map (spelling (naming_under header)) header) (theory_of s) errors)
    (sym (not_overlong (theory_of s) (omega (arith, few))))

-- ---- the meaning
pub near_means : (header : List (List ℕ)) (s : Schema) (errors : List ℕ) → IsColumnHeader header → HasTextColumns header s
    → length errors ≡ length (theory_of s) → length (theory_of s) ≤ MOST_DEPENDENCY_LINES
    → (lines : List ℕ) × MeansSchema (near_text header (theory_of s) errors)
    (record { names = header; columns = replicate (length header) Text; deps = theory_of s; lines = lines; naming = naming_under header; nullable = none })
near_means header s errors is has one_each few =
    let size : length (theory_of s) ≡ length (deps_of s) = length-map (deps_of s) dependency_of in
    let (lines, means) = ended-schema-law s (map change_text errors) (omega (arith, size, few)) (names_read_again header s is has)
    (changes_end (theory_of s) errors one_each) in
    let stated : Declarations = record { names = header; columns = replicate (length header) Text; deps = theory_of s; lines = lines; naming = naming_under header; nullable = none } in
    let text = lines_text (schema_lines (naming_of s) (types_of s) (map (spelling (naming_of s)) (names_of s)) (nullable_of s)
    ++ ended_lines (map (spelling (naming_of s)) (names_of s)) (theory_of s) (map change_text errors)) in (
      lines,
      subst (λ (bytes : List ℕ). MeansSchema bytes stated) (near_printed header s errors has few)
          (subst (λ (d : Declarations). MeansSchema text d) (same_declarations header s has lines) means),
    )
