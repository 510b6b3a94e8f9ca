-- Names of columns and of tables are read back from their texts.
use Rattle.std.proofs.Common.{◌≡◌, ℕ, Bool, true, false, not, Some, None, List, [], ◌∷◌, ◌++◌, drop, refl, sym, ap, ◌∙◌, arith, append_assoc}
use Rattle.std.specs.Prelude.{◌==◌, if◌then◌else◌}
use Rattle.std.specs.Char.{is_ascii_lowercase}
use Rattle.std.specs.List.{list_all}
use Rattle.std.proofs.lemmas.Bool.{and_from, and_parts, eqb-true, not-true, or_left, true≢false}
use Rattle.std.proofs.lemmas.Bool.Decides.{nat_tests}
use Rattle.schema_model.specs.Names.{quoted, quotes_doubled}
use Rattle.sql_syntax.specs.Printing.{name_text, column_text}
use Rattle.sql_syntax.specs.Syntax.{ColumnName, attribute, helper, Column}
use Rattle.script_texts.specs.Queries.{is_bare_byte, is_bare, is_column_name, is_column}
use Rattle.script_texts.proofs.Follows.{head, is_parted, Read, and_then, read_while, while_reads}

-- ---- names in quotes
-- what stands up to the quote that ends it, after a quote that may end it or not
abbrev pub unquote : Bool → List ℕ → Read (List ℕ)
unquote false [] = None
unquote true [] = Some ([], [])
unquote false (b ∷ bytes) =
    if b == 34 then unquote true bytes else and_then (unquote false bytes) (λ name rest. Some (b ∷ name, rest))
unquote true (b ∷ bytes) =
    if b == 34 then and_then (unquote false bytes) (λ name rest. Some (34 ∷ name, rest)) else Some ([], b ∷ bytes)

at_end : (rest : List ℕ) → (head rest == 34) ≡ false → unquote true rest ≡ Some ([], rest)
at_end [] no_quote = refl
at_end (b ∷ rest) no_quote = rw no_quote refl

unquoted_byte : (b : ℕ) (name more rest : List ℕ) (quote : Bool) → (b == 34) ≡ quote
    → unquote false more ≡ Some (name, rest)
    → unquote false ((if quote then 34 ∷ 34 ∷ [] else b ∷ []) ++ more) ≡ Some (b ∷ name, rest)
unquoted_byte b name more rest true is later =
    ap (λ (t : Read (List ℕ)). and_then t (λ found after. Some (34 ∷ found, after))) later
    ∙ ap (λ (a : ℕ). Some (a ∷ name, rest)) (sym (eqb-true b 34 is))
unquoted_byte b name more rest false is later =
    ap (λ (quote : Bool). if quote then unquote true more else and_then (unquote false more) (λ found after. Some (b ∷ found, after))) is
    ∙ ap (λ (t : Read (List ℕ)). and_then t (λ found after. Some (b ∷ found, after))) later

doubled_reads : (name rest : List ℕ) → (head rest == 34) ≡ false
    → unquote false (quotes_doubled name ++ 34 ∷ rest) ≡ Some (name, rest)
unfolding quotes_doubled
doubled_reads [] rest no_quote = at_end rest no_quote
doubled_reads (b ∷ name) rest no_quote =
    ap (unquote false) (append_assoc (if b == 34 then 34 ∷ 34 ∷ [] else b ∷ []) (quotes_doubled name) (34 ∷ rest))
    ∙ unquoted_byte b name (quotes_doubled name ++ 34 ∷ rest) rest (b == 34) refl (doubled_reads name rest no_quote)

abbrev pub read_quoted : List ℕ → Read (List ℕ)
read_quoted text = unquote false (drop 1 text)

pub quoted_reads : (name rest : List ℕ) → (head rest == 34) ≡ false
    → read_quoted (quoted name ++ rest) ≡ Some (name, rest)
quoted_reads name rest no_quote =
    ap (unquote false) (append_assoc (quotes_doubled name) (34 ∷ []) rest) ∙ doubled_reads name rest no_quote

-- ---- names without quotes
bare_bytes : (name : List ℕ) → is_bare name ≡ true → list_all is_bare_byte name ≡ true
bare_bytes [] is = refl
bare_bytes (b ∷ name) is =
    let parts = and_parts (is_ascii_lowercase b) (list_all is_bare_byte name) is in
    and_from (is_bare_byte b) (list_all is_bare_byte name) (or_left (is_ascii_lowercase b) _ parts.0) parts.1

pub bare_head : (name rest : List ℕ) → is_bare name ≡ true → is_ascii_lowercase (head (name ++ rest)) ≡ true
bare_head [] rest is = absurd (true≢false (sym is))
bare_head (b ∷ name) rest is = (and_parts (is_ascii_lowercase b) (list_all is_bare_byte name) is).0

abbrev pub read_bare : List ℕ → Read (List ℕ)
read_bare text = read_while is_bare_byte text

pub parted_parts : (text : List ℕ) → is_parted text ≡ true → (is_bare_byte (head text) ≡ false) × ((head text == 34) ≡ false)
parted_parts text parted =
    let parts = and_parts (not (is_bare_byte (head text))) (not (head text == 34)) parted in
    (not-true (is_bare_byte (head text)) parts.0, not-true (head text == 34) parts.1)

pub bare_reads : (name rest : List ℕ) → is_bare name ≡ true → is_parted rest ≡ true → read_bare (name ++ rest) ≡ Some (name, rest)
bare_reads name rest is parted = while_reads is_bare_byte name rest (bare_bytes name is) (parted_parts rest parted).0

-- ---- names of columns
abbrev pub read_name : List ℕ → Read ColumnName
read_name text =
    if head text == 34 then and_then (read_quoted text) (λ name rest. Some (attribute name, rest))
    else and_then (read_bare text) (λ name rest. Some (helper name, rest))

no_quote_byte : (b : ℕ) → is_ascii_lowercase b ≡ true → (b == 34) ≡ false
no_quote_byte b is = grind (arith, nat_tests, is)

pub name_reads : (name : ColumnName) (rest : List ℕ) → is_column_name name ≡ true → is_parted rest ≡ true
    → read_name (name_text name ++ rest) ≡ Some (name, rest)
name_reads (attribute name) rest is parted =
    ap (λ (t : Read (List ℕ)). and_then t (λ found after. Some (attribute found, after)))
    (quoted_reads name rest (parted_parts rest parted).1)
name_reads (helper name) rest is parted =
    ap (λ (quote : Bool). if quote then and_then (read_quoted (name ++ rest)) (λ found after. Some (attribute found, after))
    else and_then (read_bare (name ++ rest)) (λ found after. Some (helper found, after)))
    (no_quote_byte (head (name ++ rest)) (bare_head name rest is))
    ∙ ap (λ (t : Read (List ℕ)). and_then t (λ found after. Some (helper found, after))) (bare_reads name rest is parted)

-- ---- columns
abbrev pub read_column : List ℕ → Read Column
read_column text =
    and_then (read_bare text) (λ alias rest. and_then (read_name (drop 1 rest))
    (λ name after. Some (record { alias = alias; name = name }, after)))

pub column_reads : (c : Column) (rest : List ℕ) → is_column c ≡ true → is_parted rest ≡ true
    → read_column (column_text c ++ rest) ≡ Some (c, rest)
column_reads c rest is parted =
    let parts = and_parts (is_bare c.alias) (is_column_name c.name) is in
    let go = λ (alias after : List ℕ). and_then (read_name (drop 1 after)) (λ name later. Some (record { alias = alias; name = name }, later)) in
    ap read_column (append_assoc c.alias (46 ∷ name_text c.name) rest)
    ∙ ap (λ (t : Read (List ℕ)). and_then t go) (bare_reads c.alias (46 ∷ (name_text c.name ++ rest)) parts.0 refl)
    ∙ ap (λ (t : Read ColumnName). and_then t (λ name later. Some (record { alias = c.alias; name = name }, later)))
    (name_reads c.name rest parts.1 parted)

pub column_head : (c : Column) (rest : List ℕ) → is_column c ≡ true → is_ascii_lowercase (head (column_text c ++ rest)) ≡ true
column_head c rest is =
    ap (λ (t : List ℕ). is_ascii_lowercase (head t)) (append_assoc c.alias (46 ∷ name_text c.name) rest)
    ∙ bare_head c.alias (46 ∷ (name_text c.name ++ rest)) (and_parts (is_bare c.alias) (is_column_name c.name) is).0
