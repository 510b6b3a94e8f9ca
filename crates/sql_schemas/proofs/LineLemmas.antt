-- The lines of keys: what they mean, and that they are lines.
use Rattle.std.proofs.Common.{◌≡◌, ◌<◌, ◌≤◌, ◌+◌, inl, inr, ℕ, Bool, true, false, cond, not, All, List, [], ◌∷◌, ◌++◌, length, refl, sym, ap, subst, ◌∙◌, arith, append-nil, append_assoc, length-append}
use Rattle.std.specs.Prelude.{codes, filter, map}
use Rattle.std.proofs.lemmas.Bool.{and_parts}
use Rattle.std.proofs.lemmas.List.{length-map}
use Rattle.std.proofs.lemmas.List.Elements.{All-head, All-tail}
use Rattle.attr_sets.specs.Attributes.{Attributes, IsSubset, below, difference}
use Rattle.dep_model.specs.Dependencies.{Dependency}
use Rattle.schema_model.specs.declared.naming.Naming.TheVariants.{Any}
use Rattle.lexer.specs.Modes as mode
use Rattle.lexer.specs.Pieces.{front_piece}
use Rattle.lexer.proofs.Steps.{at_comment}
use Rattle.schema_printer.specs.Printing.{dependency_text, members_from, set_text, side_text}
use Rattle.schema_printer.specs.Spelling.{spelling}
use Rattle.schema_grammar.specs.declared.format.TheConstants.{MOST_DEPENDENCY_LINES}
use Rattle.schema_grammar.specs.declared.format.Format.TheVariants as format
use Rattle.schema_grammar.specs.Declarations.{Declarations, add_dependency}
use Rattle.schema_grammar.specs.LineTokens.{lex_line}
use Rattle.schema_grammar.specs.Meanings.{HasTokens}
use Rattle.schema_grammar.specs.Printed.{AreReadBack}
use Rattle.schema_grammar.specs.Schemas.{MeansLines, MeansTextLine}
use Rattle.schema_grammar.proofs.BlankLemmas.{blank_line}
use Rattle.schema_grammar.proofs.PrintedDependencies.{each_dependency, printed_line, with_dependencies}
use Rattle.schema_grammar.proofs.PrintedTexts.{Bytes, EachBytes, bytes_both}
use Rattle.schema_grammar.proofs.SpelledSides.{printed_names}
use Rattle.schema_grammar.proofs.SpelledWords.{members_spelled, nothing_left, side_bytes}
use Rattle.sql_schemas.specs.Keys.{KeyColumns, is_dependency, is_primary, key_dependency}
use Rattle.sql_schemas.specs.Texts.{comment_front, comment_text, key_line}

-- ---- comments
comment_blank : (text : List ℕ) → HasTokens (lex_line format.Full (35 ∷ text)) []
unfolding front_piece
comment_blank text =
    blank_line format.Full (35 ∷ text) (at_comment (mode.plain Any) 1 (35 ∷ text) (omega arith) refl)

front_bytes : (primary : Bool) → Bytes (comment_front primary)
front_bytes true = refl
front_bytes false = refl

set_bytes : (names : List (List ℕ)) (x : Attributes) → AreReadBack format.Full Any names
    → Bytes (set_text (map (spelling Any) names) x)
unfolding set_text
set_bytes names x are =
    subst (λ (ns : List (List ℕ)). Bytes (side_text ns)) (sym (members_spelled Any x 0 names))
    (side_bytes format.Full Any (members_from x 0 names) (printed_names format.Full Any names x are))

comment_bytes : (names : List (List ℕ)) (key : KeyColumns) → AreReadBack format.Full Any names
    → Bytes (comment_text (map (spelling Any) names) key)
comment_bytes names key are =
    let front = comment_front (is_primary key.kind) in
    let set = set_text (map (spelling Any) names) key.columns in
    bytes_both (front ++ set) (codes ": missing values are not compared")
    (bytes_both front set (front_bytes (is_primary key.kind)) (set_bytes names key.columns are)) refl

-- ---- the line of a key, by whether it states a dependency
-- how many names are printed
spelled_count : (names : List (List ℕ)) → length (map (spelling Any) names) ≡ length names
spelled_count names = length-map names (spelling Any)

whole_line : (names : List (List ℕ)) (missing : Attributes) (key : KeyColumns) → is_dependency missing key ≡ true
    → key_line (map (spelling Any) names) missing key
    ≡ dependency_text (map (spelling Any) names) (key_dependency (length names) key)
unfolding key_line
whole_line names missing key whole =
    (rw whole refl)
    ∙ ap (λ (n : ℕ). dependency_text (map (spelling Any) names) (key_dependency n key)) (spelled_count names)

left_line : (names : List (List ℕ)) (missing : Attributes) (key : KeyColumns) → is_dependency missing key ≡ false
    → key_line (map (spelling Any) names) missing key ≡ comment_text (map (spelling Any) names) key
unfolding key_line
left_line names missing key left = rw left refl

pub each_key : (names : List (List ℕ)) (missing : Attributes) (keys : List KeyColumns) → AreReadBack format.Full Any names
    → EachBytes (map (key_line (map (spelling Any) names) missing) keys)
each_key names missing [] are = tt
each_key names missing (key ∷ keys) are = (by_cases (is_dependency missing key) refl, each_key names missing keys are)
  where
    by_cases : (b : Bool) → is_dependency missing key ≡ b → Bytes (key_line (map (spelling Any) names) missing key)
    by_cases true whole =
        subst Bytes (sym (whole_line names missing key whole))
        (each_dependency format.Full Any names (key_dependency (length names) key ∷ []) are).0
    by_cases false left = subst Bytes (sym (left_line names missing key left)) (comment_bytes names key are)

-- ---- what the lines mean
-- the numbers of the lines of dependencies among those of keys, of which the first has this number
abbrev pub key_numbers : Attributes → ℕ → List KeyColumns → List ℕ
key_numbers missing number [] = []
key_numbers missing number (key ∷ keys) =
    cond (is_dependency missing key) (number ∷ key_numbers missing (number + 1) keys) (key_numbers missing (number + 1) keys)

abbrev pub stated : ℕ → Attributes → List KeyColumns → List Dependency
stated n missing keys = map (key_dependency n) (filter (is_dependency missing) keys)

-- the columns of a key lie within n
abbrev pub IsKeyWithin : ℕ → KeyColumns → Type 0
IsKeyWithin n key = IsSubset key.columns (below n)

others_within : (n : ℕ) (x : Attributes) → IsSubset (difference (below n) x) (below n)
others_within n x k member = (and_parts (below n k) (not (x k)) member).0

-- the line of a key means what is declared next: with its dependency, or as before
comment_line : (primary : Bool) (rest : List ℕ) → HasTokens (lex_line format.Full (comment_front primary ++ rest)) []
comment_line true rest = comment_blank (codes " PRIMARY KEY " ++ rest)
comment_line false rest = comment_blank (codes " UNIQUE " ++ rest)

key_means : (number : ℕ) (d : Declarations) (missing : Attributes) (key : KeyColumns) (keys : List KeyColumns)
    → AreReadBack format.Full Any d.names → IsKeyWithin (length d.names) key → length d.deps < MOST_DEPENDENCY_LINES
    → MeansLines format.Full (number + 1) (add_dependency d (key_dependency (length d.names) key) number)
    (map (key_line (map (spelling Any) d.names) missing) keys ++ [] ∷ [])
    (with_dependencies (add_dependency d (key_dependency (length d.names) key) number) (stated (length d.names) missing keys) (key_numbers missing (number + 1) keys))
    → MeansLines format.Full (number + 1) d (map (key_line (map (spelling Any) d.names) missing) keys ++ [] ∷ [])
    (with_dependencies d (stated (length d.names) missing keys) (key_numbers missing (number + 1) keys))
    → (b : Bool) → is_dependency missing key ≡ b
    → MeansLines format.Full number d (key_line (map (spelling Any) d.names) missing key ∷ (map (key_line (map (spelling Any) d.names) missing) keys ++ [] ∷ []))
    (with_dependencies d (map (key_dependency (length d.names)) (cond b (key ∷ filter (is_dependency missing) keys) (filter (is_dependency missing) keys)))
    (cond b (number ∷ key_numbers missing (number + 1) keys) (key_numbers missing (number + 1) keys)))
key_means number d missing key keys are within room more later true whole =
    let n = length d.names in
    let dep = key_dependency n key in
    let printed = map (spelling Any) d.names in
    let rest = map (key_line printed missing) keys ++ [] ∷ [] in
    let line = printed_line format.Full d.names dep are (within, others_within n key.columns) in
    let of : Declarations → Type 0 = λ w. MeansLines format.Full (number + 1) (add_dependency d dep number) rest w in
    let same : with_dependencies (add_dependency d dep number) (stated n missing keys) (key_numbers missing (number + 1) keys) ≡ with_dependencies d (dep ∷ stated n missing keys) (number ∷ key_numbers missing (number + 1) keys) =
    (λ i. record d { deps = append_assoc d.deps (dep ∷ []) (stated n missing keys) i; lines = append_assoc d.lines (number ∷ []) (key_numbers missing (number + 1) keys) i }) in
    let here : MeansTextLine format.Full number d (dependency_text printed dep) (add_dependency d dep number) =
    inr (inr (record { head = line.head; others = line.others; dep = dep; tokens = line.tokens; stating = line.stating; dependency = line.dependency; room = room; adds = refl })) in (
      add_dependency d dep number,
      subst (λ (l : List ℕ). MeansTextLine format.Full number d l (add_dependency d dep number)) (sym (whole_line d.names missing key whole)) here,
      subst of same more,
    )
key_means number d missing key keys are within room more later false left =
    let printed = map (spelling Any) d.names in
    let rest = set_text printed key.columns ++ codes ": missing values are not compared" in
    let tokens : HasTokens (lex_line format.Full (comment_text printed key)) [] =
    subst (λ (l : List ℕ). HasTokens (lex_line format.Full l) [])
    (sym (append_assoc (comment_front (is_primary key.kind)) (set_text printed key.columns) (codes ": missing values are not compared")))
    (comment_line (is_primary key.kind) rest) in
    let here : MeansTextLine format.Full number d (comment_text printed key) d =
    inl (inl (record { tokens = tokens; same = refl })) in (
      d,
      subst (λ (l : List ℕ). MeansTextLine format.Full number d l d) (sym (left_line d.names missing key left)) here,
      later,
    )

-- the lines of keys, and the empty line after the last line feed
pub keys_mean : (number : ℕ) (d : Declarations) (missing : Attributes) (keys : List KeyColumns)
    → AreReadBack format.Full Any d.names → All (IsKeyWithin (length d.names)) keys
    → length d.deps + length keys ≤ MOST_DEPENDENCY_LINES
    → MeansLines format.Full number d (map (key_line (map (spelling Any) d.names) missing) keys ++ [] ∷ [])
    (with_dependencies d (stated (length d.names) missing keys) (key_numbers missing number keys))
keys_mean number d missing [] are within room = (
  d,
  inl (inl (record { tokens = blank_line format.Full [] (nothing_left (mode.plain Any) 1); same = refl })),
  λ i. record d { deps = append-nil d.deps i; lines = append-nil d.lines i },
)
keys_mean number d missing (key ∷ keys) are within room =
    let n = length d.names in
    let dep = key_dependency n key in
    let later = All-tail (IsKeyWithin n) key keys within in
    let size : length (d.deps ++ dep ∷ []) ≡ length d.deps + 1 = length-append d.deps (dep ∷ []) in
    let whole = key_means number d missing key keys are (All-head (IsKeyWithin n) key keys within) (omega arith)
    (keys_mean (number + 1) (add_dependency d dep number) missing keys are later (omega arith))
    (keys_mean (number + 1) d missing keys are later (omega arith)) in
    whole (is_dependency missing key) refl
