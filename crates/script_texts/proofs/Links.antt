-- Tables that are joined are read back from their texts.
use Rattle.std.proofs.Common.{◌≡◌, ◌≤◌, ◌+◌, ◌||◌, ℕ, zero, suc, Bool, true, false, Some, None, List, [], ◌∷◌, ◌++◌, length, drop, refl, ap, ◌∙◌, arith, append_assoc}
use Rattle.std.specs.Prelude.{◌==◌, if◌then◌else◌, All, codes}
use Rattle.std.specs.List.{flat_map, list_all}
use Rattle.sql_syntax.specs.Printing.{names_text, link_text}
use Rattle.sql_syntax.specs.Syntax.{ColumnName, Link, by_columns, left_by_columns, crosswise}
use Rattle.script_texts.specs.Queries.{is_column_name, IsTableName, IsLink}
use Rattle.script_texts.proofs.Follows.{after_blank, next, stops, stops_first, stops_some, four_parts, Read, and_then}
use Rattle.script_texts.proofs.Lists.{Each, Reads, by_fuel, dot, read_table, table_reads}
use Rattle.script_texts.proofs.Items.{read_names, names_read}

-- what holds of all members holds of each
pub each_of_all : {X : Type 0} (P : X → Type 0) (xs : List X) → All P xs → Each P xs
each_of_all P [] all = tt
each_of_all P (x ∷ xs) all =
    (all 0 x (omega arith), each_of_all P xs (λ k d within. all (suc k) d (omega (arith, within))))

abbrev pub links_stops : List ℕ
links_stops = after_blank 74 ∷ after_blank 76 ∷ after_blank 67 ∷ dot ∷ []

-- ---- readers
abbrev read_using : (List ℕ → List ColumnName → Link) → ℕ → List ℕ → Read Link
read_using link n text =
    and_then (read_table n text)
    (λ name rest. and_then (read_names n (drop 8 rest)) (λ columns after. Some (link name columns, drop 1 after)))

abbrev read_link : ℕ → List ℕ → Read Link
read_link n text =
    if next text == after_blank 74 then read_using by_columns n (drop 6 text)
    else if next text == after_blank 76 then read_using left_by_columns n (drop 11 text)
    else and_then (read_table n (drop 12 text)) (λ name rest. Some (crosswise name, rest))

abbrev is_joined : List ℕ → Bool
is_joined text = (next text == after_blank 74) || (next text == after_blank 76) || (next text == after_blank 67)

abbrev pub read_links : ℕ → List ℕ → Read (List Link)
read_links zero text = None
read_links (suc n) text =
    if is_joined text then
    and_then (read_link n text) (λ l rest. and_then (read_links n rest) (λ ls after. Some (l ∷ ls, after)))
    else Some ([], text)

-- ---- one table
abbrev using_text : List ℕ → List ColumnName → List ℕ
using_text name columns = name ++ codes " USING (" ++ names_text columns ++ codes ")"

using_reads : (link : List ℕ → List ColumnName → Link) (name : List ℕ) (columns : List ColumnName) (is : IsTableName name)
    → list_all is_column_name columns ≡ true → (n : ℕ) → length is.0 + length columns ≤ n → (rest : List ℕ)
    → read_using link n (using_text name columns ++ rest) ≡ Some (link name columns, rest)
using_reads link name columns is are n fuel rest =
    let go = λ (found later : List ℕ). and_then (read_names n (drop 8 later)) (λ names after. Some (link found names, drop 1 after)) in
    ap (read_using link n) (four_parts name (codes " USING (") (names_text columns) (codes ")") rest)
    ∙ ap (λ (t : Read (List ℕ)). and_then t go)
    (table_reads name is n (codes " USING (" ++ (names_text columns ++ (codes ")" ++ rest))) (omega (arith, fuel)) refl)
    ∙ ap (λ (t : Read (List ColumnName)). and_then t (λ names after. Some (link name names, drop 1 after)))
    (names_read columns are n (omega (arith, fuel)) rest)

link_reads : (l : Link) → IsLink l → Reads Link read_link (dot ∷ []) (link_text l) l
link_reads (by_columns name columns) is = record {
  least = length is.0.0 + length columns;
  back = λ n fuel rest ends. using_reads by_columns name columns is.0 is.1 n fuel rest;
}
link_reads (left_by_columns name columns) is = record {
  least = length is.0.0 + length columns;
  back = λ n fuel rest ends. using_reads left_by_columns name columns is.0 is.1 n fuel rest;
}
link_reads (crosswise name) is = record {
  least = length is.0;
  back = λ n fuel rest ends.
      ap (λ (t : Read (List ℕ)). and_then t (λ found after. Some (crosswise found, after))) (table_reads name is n rest fuel ends);
}

-- ---- all of them
joined_begins : (l : Link) (rest : List ℕ) → is_joined (link_text l ++ rest) ≡ true
joined_begins (by_columns name columns) rest = refl
joined_begins (left_by_columns name columns) rest = refl
joined_begins (crosswise name) rest = refl

pub link_after : (l : Link) (rest : List ℕ) → stops (dot ∷ []) (link_text l ++ rest) ≡ true
link_after (by_columns name columns) rest = refl
link_after (left_by_columns name columns) rest = refl
link_after (crosswise name) rest = refl

pub links_after : (ls : List Link) (rest : List ℕ) → stops links_stops rest ≡ true → stops (dot ∷ []) (flat_map link_text ls ++ rest) ≡ true
links_after [] rest ends = stops_some links_stops (dot ∷ []) rest refl ends
links_after (l ∷ ls) rest ends =
    ap (λ (t : List ℕ). stops (dot ∷ []) t) (append_assoc (link_text l) (flat_map link_text ls) rest)
    ∙ link_after l (flat_map link_text ls ++ rest)

none_joined : (rest : List ℕ) → stops links_stops rest ≡ true → is_joined rest ≡ false
none_joined rest ends =
    let no_join : (next rest == after_blank 74) ≡ false =
    stops_first (after_blank 74) [] rest (stops_some links_stops (after_blank 74 ∷ []) rest refl ends) in
    let no_left : (next rest == after_blank 76) ≡ false =
    stops_first (after_blank 76) [] rest (stops_some links_stops (after_blank 76 ∷ []) rest refl ends) in
    let no_cross : (next rest == after_blank 67) ≡ false =
    stops_first (after_blank 67) [] rest (stops_some links_stops (after_blank 67 ∷ []) rest refl ends) in
    rw no_join (rw no_left no_cross)

abbrev pub LinksRead : List Link → Type 0
LinksRead ls = Reads (List Link) read_links links_stops (flat_map link_text ls) ls

pub links_read : (ls : List Link) → Each IsLink ls → LinksRead ls
links_read [] each = by_fuel read_links links_stops [] [] 0 (λ n fuel rest ends.
    ap (λ (t : Bool). if t then and_then (read_link n rest) (λ l later. and_then (read_links n later) (λ ls after. Some (l ∷ ls, after)))
    else Some ([], rest)) (none_joined rest ends))
links_read (l ∷ ls) each =
    let one = link_reads l each.0 in
    let others = links_read ls each.1 in
    by_fuel read_links links_stops (flat_map link_text (l ∷ ls)) (l ∷ ls) (one.least + others.least) (λ n fuel rest ends.
    let tail = flat_map link_text ls ++ rest in
    let go = λ (m : Link) (later : List ℕ). and_then (read_links n later) (λ ms after. Some (m ∷ ms, after)) in
    ap (read_links (suc n)) (append_assoc (link_text l) (flat_map link_text ls) rest)
    ∙ ap (λ (t : Bool). if t then and_then (read_link n (link_text l ++ tail)) go else Some ([], link_text l ++ tail)) (joined_begins l tail)
    ∙ ap (λ (t : Read Link). and_then t go) (one.back n (omega (arith, fuel)) tail (links_after ls rest ends))
    ∙ ap (λ (t : Read (List Link)). and_then t (λ ms after. Some (l ∷ ms, after))) (others.back n (omega (arith, fuel)) rest ends))
