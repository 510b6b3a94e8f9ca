-- What stands after a source is read back from its text, beside what is selected.
use Rattle.std.proofs.Common.{◌≡◌, ◌+◌, ℕ, true, false, not, Option, Some, None, List, [], ◌∷◌, ◌++◌, drop, refl, ap, subst, ◌∙◌, arith, append_assoc}
use Rattle.std.specs.Prelude.{◌==◌, if◌then◌else◌, codes}
use Rattle.std.specs.List.{list_all}
use Rattle.std.proofs.lemmas.Bool.{and_parts, not-true}
use Rattle.sql_syntax.specs.Names.{comma_list}
use Rattle.sql_syntax.specs.Printing.{column_text, condition_text, having_text, clause_text}
use Rattle.sql_syntax.specs.Syntax.{Column, Condition, Item, Clause, each_row, rows_where, group_where, groups_by}
use Rattle.script_texts.specs.Queries.{is_column, is_condition, is_having, are_one_group, is_clause}
use Rattle.script_texts.proofs.Follows.{after_blank, next, is_parted, stops, stops_first, stops_parted, stops_some, Read, and_then}
use Rattle.script_texts.proofs.Lists.{ReadsBack, Reads}
use Rattle.script_texts.proofs.Conditions.{condition_stops, read_condition, condition_reads}
use Rattle.script_texts.proofs.Items.{comma, read_columns, columns_read}

abbrev pub clause_stops : List ℕ
clause_stops = after_blank 87 ∷ after_blank 71 ∷ after_blank 72 ∷ comma ∷ condition_stops

-- ---- readers
abbrev read_having : ℕ → List ℕ → Read (Option Condition)
read_having n text =
    if next text == after_blank 72 then and_then (read_condition n (drop 8 text)) (λ p rest. Some (Some p, rest))
    else Some (None, text)

abbrev taken_where : List Item → Condition → Clause
taken_where items p = if are_one_group items then group_where p else rows_where p

abbrev nothing_said : List Item → Clause
nothing_said items = if are_one_group items then groups_by [] None else each_row

abbrev pub read_clause : List Item → ℕ → List ℕ → Read Clause
read_clause items n text =
    if next text == after_blank 87 then
    and_then (read_condition n (drop 7 text)) (λ p rest. Some (taken_where items p, rest))
    else if next text == after_blank 71 then
    and_then (read_columns n (drop 10 text))
    (λ columns rest. and_then (read_having n rest) (λ having after. Some (groups_by columns having, after)))
    else if next text == after_blank 72 then
    and_then (read_condition n (drop 8 text)) (λ p rest. Some (groups_by [] (Some p), rest))
    else Some (nothing_said items, text)

-- ---- one clause
abbrev pub ClauseReads : List Item → Clause → Type 0
ClauseReads items clause = Reads Clause (read_clause items) clause_stops (clause_text clause) clause

nothing_reads : (items : List Item) (n : ℕ) (rest : List ℕ) → stops clause_stops rest ≡ true
    → read_clause items n rest ≡ Some (nothing_said items, rest)
nothing_reads items n rest ends =
    let no_where : (next rest == after_blank 87) ≡ false =
    stops_first (after_blank 87) (after_blank 71 ∷ after_blank 72 ∷ comma ∷ condition_stops) rest ends in
    let no_group : (next rest == after_blank 71) ≡ false =
    stops_first (after_blank 71) [] rest (stops_some clause_stops (after_blank 71 ∷ []) rest refl ends) in
    let no_having : (next rest == after_blank 72) ≡ false =
    stops_first (after_blank 72) [] rest (stops_some clause_stops (after_blank 72 ∷ []) rest refl ends) in
    rw no_where (rw no_group (rw no_having refl))

nothing_back : (items : List Item) (clause : Clause) (n : ℕ) → nothing_said items ≡ clause
    → ReadsBack (read_clause items n) clause_stops [] clause
nothing_back items clause n is rest ends = nothing_reads items n rest ends ∙ ap (λ (c : Clause). Some (c, rest)) is

where_back : (items : List Item) (p : Condition) (clause : Clause) (n : ℕ) → taken_where items p ≡ clause
    → ReadsBack (read_condition n) condition_stops (condition_text p) p
    → ReadsBack (read_clause items n) clause_stops (codes " WHERE " ++ condition_text p) clause
where_back items p clause n is back rest ends =
    ap (λ (t : Read Condition). and_then t (λ q after. Some (taken_where items q, after)))
    (back rest (stops_some clause_stops condition_stops rest refl ends))
    ∙ ap (λ (c : Clause). Some (c, rest)) is

having_back : (items : List Item) (p : Condition) (n : ℕ) → ReadsBack (read_condition n) condition_stops (condition_text p) p
    → ReadsBack (read_clause items n) clause_stops (codes " HAVING " ++ condition_text p) (groups_by [] (Some p))
having_back items p n back rest ends =
    ap (λ (t : Read Condition). and_then t (λ q after. Some (groups_by [] (Some q), after)))
    (back rest (stops_some clause_stops condition_stops rest refl ends))

-- ---- groups
abbrev with_having : ℕ → List Column → List ℕ → Read Clause
with_having n columns rest = and_then (read_having n rest) (λ having after. Some (groups_by columns having, after))

having_reads : (having : Option Condition) (n : ℕ) (rest : List ℕ)
    → ((p : Condition) → having ≡ Some p → ReadsBack (read_condition n) condition_stops (condition_text p) p)
    → stops clause_stops rest ≡ true → read_having n (having_text having ++ rest) ≡ Some (having, rest)
having_reads None n rest back ends =
    let no_having : (next rest == after_blank 72) ≡ false =
    stops_first (after_blank 72) [] rest (stops_some clause_stops (after_blank 72 ∷ []) rest refl ends) in
    rw no_having refl
having_reads (Some p) n rest back ends =
    ap (λ (t : Read Condition). and_then t (λ q after. Some (Some q, after)))
    (back p refl rest (stops_some clause_stops condition_stops rest refl ends))

having_stops : (having : Option Condition) (rest : List ℕ) → stops clause_stops rest ≡ true
    → stops (comma ∷ []) (having_text having ++ rest) ≡ true
having_stops None rest ends = stops_some clause_stops (comma ∷ []) rest refl ends
having_stops (Some p) rest ends = refl

groups_back : (items : List Item) (c : Column) (cs : List Column) (having : Option Condition) (n : ℕ)
    → ReadsBack (read_columns n) (comma ∷ []) (comma_list column_text (c ∷ cs)) (c ∷ cs)
    → ((p : Condition) → having ≡ Some p → ReadsBack (read_condition n) condition_stops (condition_text p) p)
    → ReadsBack (read_clause items n) clause_stops (clause_text (groups_by (c ∷ cs) having)) (groups_by (c ∷ cs) having)
groups_back items c cs having n columns back rest ends =
    let listed = comma_list column_text (c ∷ cs) in
    ap (λ (t : List ℕ). and_then (read_columns n t) (with_having n)) (append_assoc listed (having_text having) rest)
    ∙ ap (λ (t : Read (List Column)). and_then t (with_having n)) (columns (having_text having ++ rest) (having_stops having rest ends))
    ∙ ap (λ (t : Read (Option Condition)). and_then t (λ h after. Some (groups_by (c ∷ cs) h, after)))
    (having_reads having n rest back ends)

-- ---- all clauses
one_group : (items : List Item) (yes_so other : Clause) → are_one_group items ≡ true → (if are_one_group items then yes_so else other) ≡ yes_so
one_group items yes_so other is = rw is refl

no_group_of : (items : List Item) (yes_so other : Clause) → not (are_one_group items) ≡ true
    → (if are_one_group items then yes_so else other) ≡ other
no_group_of items yes_so other is = rw (not-true (are_one_group items) is) refl

with_condition : (items : List Item) (p : Condition) (clause : Clause) → is_condition p ≡ true
    → ((n : ℕ) → ReadsBack (read_condition n) condition_stops (condition_text p) p → ReadsBack (read_clause items n) clause_stops (clause_text clause) clause)
    → ClauseReads items clause
with_condition items p clause is step =
    let inner = condition_reads p is in
    record { least = inner.least; back = λ n fuel. step n (inner.back n fuel) }

grouped : (items : List Item) (c : Column) (cs : List Column) (having : Option Condition) → list_all is_column (c ∷ cs) ≡ true
    → is_having having ≡ true → ClauseReads items (groups_by (c ∷ cs) having)
grouped items c cs None are is =
    let columns = columns_read c cs are in
    record {
      least = columns.least;
      back = λ n fuel. groups_back items c cs None n (columns.back n fuel) (λ p (e : None ≡ Some p). cc);
    }
grouped items c cs (Some p) are is =
    let columns = columns_read c cs are in
    let inner = condition_reads p is in
    record {
      least = columns.least + inner.least;
      back = λ n fuel. groups_back items c cs (Some p) n (columns.back n (omega (arith, fuel)))
          (λ q e. subst (λ (r : Condition). ReadsBack (read_condition n) condition_stops (condition_text r) r)
          (the_same p q e) (inner.back n (omega (arith, fuel))));
    }
  where
    the_same : (a b : Condition) → Some a ≡ Some b → a ≡ b
    the_same a b e = cc

pub clause_reads : (items : List Item) (clause : Clause) → is_clause items clause ≡ true → ClauseReads items clause
clause_reads items each_row is =
    record { least = 0; back = λ n fuel. nothing_back items each_row n (no_group_of items (groups_by [] None) each_row is) }
clause_reads items (rows_where p) is =
    let parts = and_parts (is_condition p) (not (are_one_group items)) is in
    with_condition items p (rows_where p) parts.0
    (λ n back. where_back items p (rows_where p) n (no_group_of items (group_where p) (rows_where p) parts.1) back)
clause_reads items (group_where p) is =
    let parts = and_parts (is_condition p) (are_one_group items) is in
    with_condition items p (group_where p) parts.0
    (λ n back. where_back items p (group_where p) n (one_group items (group_where p) (rows_where p) parts.1) back)
clause_reads items (groups_by [] None) is =
    record { least = 0; back = λ n fuel. nothing_back items (groups_by [] None) n (one_group items (groups_by [] None) each_row is) }
clause_reads items (groups_by [] (Some p)) is = with_condition items p (groups_by [] (Some p)) is (λ n back. having_back items p n back)
clause_reads items (groups_by (c ∷ cs) having) is =
    let parts = and_parts (list_all is_column (c ∷ cs)) (is_having having) is in
    grouped items c cs having parts.0 parts.1

-- what stands before a clause ends there
pub clause_parted : (clause : Clause) (rest : List ℕ) → stops clause_stops rest ≡ true → is_parted (clause_text clause ++ rest) ≡ true
clause_parted each_row rest ends = stops_parted clause_stops rest ends
clause_parted (rows_where p) rest ends = refl
clause_parted (group_where p) rest ends = refl
clause_parted (groups_by [] None) rest ends = stops_parted clause_stops rest ends
clause_parted (groups_by [] (Some p)) rest ends = refl
clause_parted (groups_by (c ∷ cs) having) rest ends = refl
