-- The name of a table by its number has no dot and no quote, so as a word it asks for that table.
use Rattle.std.proofs.Common.{◌≡◌, ◌+◌, ◌<◌, ◌≤◌, ◌^◌, ◌%◌, ◌∙◌, ℕ, List, [], ◌∷◌, ◌++◌, length, Bool, true, false, not, ◌&&◌, Some, refl, ap, sym, arith}
use Rattle.std.specs.Fmt.{decimal}
use Rattle.std.specs.Prelude.{All, nat_eq, option_and_then}
use Rattle.std.specs.List.{list_any, starts_with}
use Rattle.std.proofs.lemmas.Bool.{ne_eqb, lt-ltb}
use Rattle.std.proofs.lemmas.Fmt.{decimal_by_steps}
use Rattle.std.proofs.lemmas.List.{append-nil}
use Rattle.std.proofs.lemmas.List.Elements.{All-append, All-cons, All-nil}
use Rattle.std.proofs.lemmas.List.Folds.{list_any_none}
use Rattle.import_laws.specs.ReadTables.{named}
use Rattle.sql_definitions.specs.Wanted.{name_by_parts, wanted_table}
use Rattle.table_names.specs.TableNames.{table_name}
use Rattle.table_words.proofs.SpellingLemmas.{parts_read}
use Rattle.table_words.specs.Laws.{is_bare}
use Rattle.table_words.specs.Parts.{Part, is_dot, table_parts}

abbrev NoDots : List ℕ → Type 0
NoDots bytes = All (λ b. is_dot b ≡ false) bytes

digit_no_dot : (d : ℕ) → is_dot (48 + d) ≡ false
digit_no_dot d = ne_eqb (48 + d) 46 (λ same. omega (arith, same))

digits_no_dot : (n : ℕ) → n < 2 ^ 64 → NoDots (decimal n)
digits_no_dot = decimal_by_steps (λ n ds. NoDots ds) one more
  where
    one : (n : ℕ) → n < 10 → NoDots ((48 + n) ∷ [])
    one n small = All-cons (λ b. is_dot b ≡ false) (48 + n) [] (digit_no_dot n) (All-nil (λ b. is_dot b ≡ false))

    more : (n : ℕ) (ds : List ℕ) → 10 ≤ n → NoDots ds → NoDots (ds ++ ((48 + n % 10) ∷ []))
    more n ds large all =
        All-append (λ b. is_dot b ≡ false) ds ((48 + n % 10) ∷ []) all
        (All-cons (λ b. is_dot b ≡ false) (48 + n % 10) [] (digit_no_dot (n % 10)) (All-nil (λ b. is_dot b ≡ false)))

-- it is a part that needs no quotes
is_bare_name : (number : ℕ) → number < 2 ^ 64 → is_bare (table_name number) ≡ true
is_bare_name number small =
    let name = table_name number in
    let some = lt-ltb 0 (length name) (omega arith) in
    let none = list_any_none is_dot name (All-cons (λ b. is_dot b ≡ false) 116 (decimal number) refl (digits_no_dot number small)) in
    ap (λ (b : Bool). (b && not (starts_with nat_eq name (34 ∷ []))) && not (list_any is_dot name)) some
    ∙ ap (λ (b : Bool). (true && not (starts_with nat_eq name (34 ∷ []))) && not b) none

one_part : (number : ℕ) → number < 2 ^ 64 → table_parts (table_name number) ≡ Some (record { name = table_name number; quoted = false } ∷ [])
one_part number small =
    let part : Part = record { name = table_name number; quoted = false } in
    ap table_parts (sym (append-nil (table_name number)))
    ∙ parts_read (part ∷ []) (omega arith) (omega arith) (ap (λ (b : Bool). b && true) (is_bare_name number small))

pub number_asks : (number : ℕ) → number < 2 ^ 64 → wanted_table (table_name number) ≡ Some (named (table_name number))
number_asks number small = ap (option_and_then name_by_parts) (one_part number small)
