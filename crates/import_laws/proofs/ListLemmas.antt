-- Lists of names in brackets are read back, and none of their lexemes ends an element of a table.
use Rattle.std.proofs.Common.{◌≡◌, ◌+◌, ◌&&◌, ℕ, true, false, All, List, [], ◌∷◌, ◌++◌, map, take, length, refl, sym, ap, ◌∙◌, Option, Some, Result, Ok, append-nil, append_assoc}
use Rattle.std.proofs.lemmas.List.{map-append}
use Rattle.std.proofs.lemmas.List.Elements.{All-head, All-tail}
use Rattle.schema_model.specs.Names.{IsName}
use Rattle.sql_syntax.specs.Names.{quoted_name}
use Rattle.sql_lexemes.specs.declared.dialect.Dialect.{Dialect}
use Rattle.sql_lexemes.specs.declared.lexeme.LexemeKind.TheVariants as kind
use Rattle.sql_lexemes.specs.Lexemes.{Lexed}
use Rattle.sql_definitions.specs.declared.refusal.Refusal.{Refusal}
use Rattle.sql_definitions.specs.Facts.{StatedPart}
use Rattle.sql_definitions.specs.Lists.{are_columns, ends_column, list_parts, lists_columns, part_length, part_of, read_list}
use Rattle.ddl_pieces.proofs.Cutting.{depth_past}
use Rattle.ddl_pieces.proofs.Designed.{name_pieces, names_after}
use Rattle.ddl_pieces.specs.Pieces.{TextPiece, lexeme_at, lexemes_from, mark}
use Rattle.import_laws.specs.StatedTypes.{stay_within}
use Rattle.import_laws.proofs.NameLemmas.{name_known}

-- names in brackets
abbrev pub bracketed : List (List ℕ) → List TextPiece
bracketed names = mark 40 ∷ (name_pieces names ++ mark 41 ∷ [])

-- a list is read as parts of these names
abbrev pub ReadsParts : Result (List StatedPart) Refusal → List (Option (List ℕ)) → Type 0
ReadsParts read names = (parts : List StatedPart) × (read ≡ Ok parts) × (map (λ part. part.name) parts ≡ names)

after_read : (d : Dialect) (end place : ℕ) (before : List StatedPart) (names : List (List ℕ)) → All IsName names
    → ReadsParts (list_parts d end 1 false before (lexemes_from place 2 (names_after names ++ mark 41 ∷ [])))
    (map (λ part. part.name) before ++ map Some names)
unfolding lexemes_from list_parts
after_read d end place before [] all = (before, refl, sym (append-nil (map (λ part. part.name) before)))
after_read d end place before (name ∷ names) all =
    let at = (place + 1) + 1 in
    let part = part_of d (lexeme_at at 2 kind.Quoted (quoted_name name)) in
    let is : part.name ≡ Some name = name_known d at 2 name (All-head IsName name names all) in
    let (parts, read, same) = after_read d end (at + length (quoted_name name)) (before ++ part ∷ []) names
    (All-tail IsName name names all) in (
      parts,
      read,
      same ∙ ap (λ (xs : List (Option (List ℕ))). xs ++ map Some names)
          (map-append (λ (p : StatedPart). p.name) before (part ∷ []))
          ∙ append_assoc (map (λ (p : StatedPart). p.name) before) (part.name ∷ []) (map Some names)
          ∙ ap (λ (x : Option (List ℕ)). map (λ (p : StatedPart). p.name) before ++ x ∷ map Some names) is,
    )

pub list_read : (d : Dialect) (end place : ℕ) (name : List ℕ) (names : List (List ℕ)) → All IsName (name ∷ names)
    → ReadsParts (read_list d end (lexemes_from place 1 (bracketed (name ∷ names)))) (map Some (name ∷ names))
unfolding lexemes_from list_parts
list_read d end place name names all =
    let at = place + 1 in
    let part = part_of d (lexeme_at at 2 kind.Quoted (quoted_name name)) in
    let is : part.name ≡ Some name = name_known d at 2 name (All-head IsName name names all) in
    let (parts, read, same) = after_read d end (at + length (quoted_name name)) (part ∷ []) names
    (All-tail IsName name names all) in
    (parts, read, same ∙ ap (λ (x : Option (List ℕ)). x ∷ map Some names) is)

-- ---- the parts of a list are columns
columns_after : (place : ℕ) (names : List (List ℕ))
    → (take (part_length 1 (lexemes_from place 2 (names_after names ++ mark 41 ∷ [])))
    (lexemes_from place 2 (names_after names ++ mark 41 ∷ [])) ≡ [])
    × (are_columns 1 false (lexemes_from place 2 (names_after names ++ mark 41 ∷ [])) ≡ true)
unfolding lexemes_from are_columns
columns_after place [] = (refl, refl)
columns_after place (name ∷ names) =
    let at = ((place + 1) + 1) + length (quoted_name name) in
    let (nothing, more) = columns_after at names in
    let rest = lexemes_from at 2 (names_after names ++ mark 41 ∷ []) in (
      refl,
      ap (λ (ls : List Lexed). ends_column ls && are_columns 1 false rest) nothing ∙ more,
    )

pub list_columns : (place : ℕ) (name : List ℕ) (names : List (List ℕ))
    → lists_columns (lexemes_from place 1 (bracketed (name ∷ names))) ≡ true
unfolding lexemes_from are_columns
list_columns place name names =
    let at = (place + 1) + length (quoted_name name) in
    let (nothing, more) = columns_after at names in
    let rest = lexemes_from at 2 (names_after names ++ mark 41 ∷ []) in
    ap (λ (ls : List Lexed). ends_column ls && are_columns 1 false rest) nothing ∙ more

-- ---- lists within an element
names_inside : (place : ℕ) (names : List (List ℕ))
    → stay_within 1 (lexemes_from place 2 (names_after names ++ mark 41 ∷ [])) ≡ true
unfolding lexemes_from stay_within
names_inside place [] = refl
names_inside place (name ∷ names) = names_inside (((place + 1) + 1) + length (quoted_name name)) names

pub list_inside : (place : ℕ) (names : List (List ℕ))
    → stay_within 0 (lexemes_from place 1 (bracketed names)) ≡ true
unfolding lexemes_from stay_within
list_inside place [] = refl
list_inside place (name ∷ names) = names_inside ((place + 1) + length (quoted_name name)) names

names_end : (names : List (List ℕ)) → depth_past 2 (names_after names ++ mark 41 ∷ []) ≡ 1
names_end [] = refl
names_end (name ∷ names) = names_end names

pub list_end : (names : List (List ℕ)) → depth_past 1 (bracketed names) ≡ 1
list_end [] = refl
list_end (name ∷ names) = names_end names
