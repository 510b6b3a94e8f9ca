-- Statements are read back from their texts, and so are scripts: so a text has one script.
use Rattle.std.proofs.Common.{◌≡◌, ◌≤◌, ◌+◌, ℕ, zero, suc, Bool, true, false, not, ◌&&◌, Some, None, List, [], ◌∷◌, ◌++◌, length, drop, refl, sym, ap, ◌∙◌, arith, append_assoc}
use Rattle.std.specs.Prelude.{◌==◌, if◌then◌else◌, codes}
use Rattle.std.specs.List.{list_all}
use Rattle.std.proofs.lemmas.Bool.{true≢false}
use Rattle.sql_syntax.specs.Printing.{name_text, names_text, joined_text, selected_text, text_at, query_text}
use Rattle.sql_syntax.specs.Syntax.{ColumnName, Query, stored, select, union_all, except, joined, all_columns, one_row}
use Rattle.sql_syntax.specs.Statements.{Element, element_lines, Statement, remark, begin, commit, create_table, create_zeros, create_from, create_view, insert_into, insert_all, drop_table, ask, statement_text, script_text}
use Rattle.script_texts.specs.Queries.{is_column_name, IsTableName, IsQueryAt, IsQuery}
use Rattle.script_texts.specs.Scripts.{is_line, IsElement, IsStatement, IsScript}
use Rattle.script_texts.proofs.Follows.{head, after_blank, next, stops, three_parts, four_parts, six_parts, Read, and_then, read_while, while_reads}
use Rattle.script_texts.proofs.Names.{read_name, name_reads}
use Rattle.script_texts.proofs.Lists.{Each, dot, read_table, table_reads}
use Rattle.script_texts.proofs.Items.{read_names, names_read}
use Rattle.script_texts.proofs.Links.{each_of_all}
use Rattle.script_texts.proofs.Queries.{read_query, query_reads}
use Rattle.script_texts.proofs.Elements.{goes_on, read_elements, elements_read}

-- ---- readers
abbrev read_view : ℕ → List ℕ → Read Statement
read_view n text =
    and_then (read_table n text) (λ name rest. and_then (read_query n (drop 4 rest)) (λ q after. Some (create_view name q, drop 2 after)))

abbrev read_created : ℕ → List ℕ → Read Statement
read_created n text =
    and_then (read_table n text) (λ name rest. and_then (read_elements n (drop 3 rest)) (λ es after. Some (create_table name es, drop 4 after)))

abbrev zeros_of : List ℕ → List ℕ → Read Statement
zeros_of name text =
    and_then (read_name text) (λ column rest. and_then (read_name (drop 15 rest)) (λ again after. Some (create_zeros name column, drop 8 after)))

abbrev temporary_of : ℕ → List ℕ → List ℕ → Read Statement
temporary_of n name text =
    if next text == after_blank 65 then and_then (read_query n (drop 4 text)) (λ q after. Some (create_from name q, drop 2 after))
    else zeros_of name (drop 2 text)

abbrev read_create : ℕ → List ℕ → Read Statement
read_create n text =
    if head text == 86 then read_view n (drop 5 text)
    else if head (drop 1 text) == 65 then read_created n (drop 6 text)
    else and_then (read_table n (drop 16 text)) (temporary_of n)

abbrev rows_into : ℕ → ℕ → List ℕ → List ℕ → Read Statement
rows_into first n name text =
    if first == 40 then
    and_then (read_names n (drop 1 text))
    (λ columns rest. and_then (read_query n (drop 2 rest)) (λ q after. Some (insert_into name columns q, drop 2 after)))
    else and_then (read_query n text) (λ q after. Some (insert_all name q, drop 2 after))

abbrev inserted : ℕ → List ℕ → List ℕ → Read Statement
inserted n name rest = rows_into (head (drop 1 rest)) n name (drop 1 rest)

abbrev statement_of : ℕ → ℕ → List ℕ → Read Statement
statement_of first n text =
    if first == 45 then and_then (read_while goes_on (drop 3 text)) (λ words rest. Some (remark words, drop 1 rest))
    else if first == 66 then Some (begin, drop 7 text)
    else if first == 68 then and_then (read_table n (drop 11 text)) (λ name rest. Some (drop_table name, drop 2 rest))
    else if first == 83 then and_then (read_query n text) (λ q rest. Some (ask q, drop 2 rest))
    else if first == 73 then and_then (read_table n (drop 12 text)) (inserted n)
    else if head (drop 1 text) == 79 then Some (commit, drop 8 text)
    else read_create n (drop 7 text)

abbrev read_statement : ℕ → List ℕ → Read Statement
read_statement n text = statement_of (head text) n text

abbrev read_script : ℕ → List ℕ → Read (List Statement)
read_script zero text = None
read_script (suc n) text =
    if head text == 0 then Some ([], text)
    else and_then (read_statement n text) (λ x rest. and_then (read_script n rest) (λ xs after. Some (x ∷ xs, after)))

-- ---- queries
query_head : (q : Query) (rest : List ℕ) → IsQueryAt false q → head (text_at false q ++ rest) ≡ 83
unfolding selected_text joined_text
query_head (stored name) rest is = absurd (true≢false (sym is.0))
query_head (select distinct items source alias clause) rest is = refl
query_head (union_all p q) rest is =
    ap head (three_parts (text_at false p) (codes " UNION ALL ") (text_at false q) rest)
    ∙ query_head p (codes " UNION ALL " ++ (text_at false q ++ rest)) is.0
query_head (except p q) rest is =
    ap head (three_parts (text_at false p) (codes " EXCEPT ") (text_at false q) rest)
    ∙ query_head p (codes " EXCEPT " ++ (text_at false q ++ rest)) is.0
query_head (joined names first links) rest is = refl
query_head (all_columns source alias) rest is = refl
query_head (one_row values) rest is = refl

-- ---- one statement
record StatementReads (x : Statement) : Type 0 where
  pub least : ℕ
  pub back : (n : ℕ) → least ≤ n → (rest : List ℕ) → read_statement n (statement_text x ++ rest) ≡ Some (x, rest)

-- a query at the end of a statement
abbrev QueryBack : ℕ → Query → Type 0
QueryBack n q = (rest : List ℕ) → read_query n (query_text q ++ (codes ";\n" ++ rest)) ≡ Some (q, codes ";\n" ++ rest)

query_back : (q : Query) (is : IsQuery q) (n : ℕ) → (query_reads q is).least ≤ n → QueryBack n q
query_back q is n fuel rest = (query_reads q is).back n fuel (codes ";\n" ++ rest) refl

remark_back : (words : List ℕ) (n : ℕ) (rest : List ℕ) → is_line words ≡ true
    → read_statement n (statement_text (remark words) ++ rest) ≡ Some (remark words, rest)
unfolding statement_text
remark_back words n rest is =
    ap (λ (t : List ℕ). and_then (read_while goes_on t) (λ found after. Some (remark found, drop 1 after))) (append_assoc words (codes "\n") rest)
    ∙ ap (λ (t : Read (List ℕ)). and_then t (λ found after. Some (remark found, drop 1 after)))
    (while_reads goes_on words (codes "\n" ++ rest) is refl)

created_back : (name : List ℕ) (es : List Element) (is : IsTableName name) (n : ℕ) (rest : List ℕ) → length is.0 ≤ n
    → ((more : List ℕ) → read_elements n (element_lines false es ++ 10 ∷ 41 ∷ more) ≡ Some (es, 10 ∷ 41 ∷ more))
    → read_statement n (statement_text (create_table name es) ++ rest) ≡ Some (create_table name es, rest)
unfolding statement_text
created_back name es is n rest fuel elements =
    let go = λ (found later : List ℕ). and_then (read_elements n (drop 3 later)) (λ xs after. Some (create_table found xs, drop 4 after)) in
    ap (read_created n) (four_parts name (codes " (\n") (element_lines false es) (codes "\n);\n") rest)
    ∙ ap (λ (t : Read (List ℕ)). and_then t go)
    (table_reads name is n (codes " (\n" ++ (element_lines false es ++ (codes "\n);\n" ++ rest))) fuel refl)
    ∙ ap (λ (t : Read (List Element)). and_then t (λ xs after. Some (create_table name xs, drop 4 after))) (elements (codes ";\n" ++ rest))

zeros_back : (name : List ℕ) (column : ColumnName) (is : IsTableName name) (n : ℕ) (rest : List ℕ) → length is.0 ≤ n
    → is_column_name column ≡ true
    → read_statement n (statement_text (create_zeros name column) ++ rest) ≡ Some (create_zeros name column, rest)
unfolding statement_text
zeros_back name column is n rest fuel named =
    let last = codes " = 0));\n" ++ rest in
    let again = codes " BIGINT CHECK (" ++ (name_text column ++ last) in
    ap (λ (t : List ℕ). and_then (read_table n t) (temporary_of n))
    (six_parts name (codes " (") (name_text column) (codes " BIGINT CHECK (") (name_text column) (codes " = 0));\n") rest)
    ∙ ap (λ (t : Read (List ℕ)). and_then t (temporary_of n)) (table_reads name is n (codes " (" ++ (name_text column ++ again)) fuel (zeros_stop column again))
    ∙ temporary_zeros n name column again
    ∙ ap (λ (t : Read ColumnName). and_then t (λ c later. and_then (read_name (drop 15 later)) (λ d after. Some (create_zeros name c, drop 8 after))))
    (name_reads column again named refl)
    ∙ ap (λ (t : Read ColumnName). and_then t (λ d after. Some (create_zeros name column, drop 8 after))) (name_reads column last named refl)
  where
    zeros_stop : (c : ColumnName) (more : List ℕ) → stops (dot ∷ []) (codes " (" ++ (name_text c ++ more)) ≡ true
    zeros_stop c more = refl

    temporary_zeros : (k : ℕ) (table : List ℕ) (c : ColumnName) (more : List ℕ)
        → temporary_of k table (codes " (" ++ (name_text c ++ more)) ≡ zeros_of table (name_text c ++ more)
    temporary_zeros k table c more = refl

from_back : (name : List ℕ) (q : Query) (is : IsTableName name) (n : ℕ) (rest : List ℕ) → length is.0 ≤ n → QueryBack n q
    → read_statement n (statement_text (create_from name q) ++ rest) ≡ Some (create_from name q, rest)
unfolding statement_text
from_back name q is n rest fuel back =
    ap (λ (t : List ℕ). and_then (read_table n t) (temporary_of n)) (four_parts name (codes " AS ") (query_text q) (codes ";\n") rest)
    ∙ ap (λ (t : Read (List ℕ)). and_then t (temporary_of n)) (table_reads name is n (codes " AS " ++ (query_text q ++ (codes ";\n" ++ rest))) fuel refl)
    ∙ ap (λ (t : Read Query). and_then t (λ found after. Some (create_from name found, drop 2 after))) (back rest)

view_back : (name : List ℕ) (q : Query) (is : IsTableName name) (n : ℕ) (rest : List ℕ) → length is.0 ≤ n → QueryBack n q
    → read_statement n (statement_text (create_view name q) ++ rest) ≡ Some (create_view name q, rest)
unfolding statement_text
view_back name q is n rest fuel back =
    let go = λ (found later : List ℕ). and_then (read_query n (drop 4 later)) (λ p after. Some (create_view found p, drop 2 after)) in
    ap (read_view n) (four_parts name (codes " AS ") (query_text q) (codes ";\n") rest)
    ∙ ap (λ (t : Read (List ℕ)). and_then t go) (table_reads name is n (codes " AS " ++ (query_text q ++ (codes ";\n" ++ rest))) fuel refl)
    ∙ ap (λ (t : Read Query). and_then t (λ found after. Some (create_view name found, drop 2 after))) (back rest)

into_back : (name : List ℕ) (columns : List ColumnName) (q : Query) (is : IsTableName name) (n : ℕ) (rest : List ℕ)
    → length is.0 + length columns ≤ n → list_all is_column_name columns ≡ true → QueryBack n q
    → read_statement n (statement_text (insert_into name columns q) ++ rest) ≡ Some (insert_into name columns q, rest)
unfolding statement_text
into_back name columns q is n rest fuel are back =
    let last = codes ";\n" ++ rest in
    let rows = query_text q ++ last in
    ap (λ (t : List ℕ). and_then (read_table n t) (inserted n))
    (six_parts name (codes " (") (names_text columns) (codes ") ") (query_text q) (codes ";\n") rest)
    ∙ ap (λ (t : Read (List ℕ)). and_then t (inserted n))
    (table_reads name is n (codes " (" ++ (names_text columns ++ (codes ") " ++ rows))) (omega (arith, fuel)) refl)
    ∙ ap (λ (t : Read (List ColumnName)). and_then t (λ cs later. and_then (read_query n (drop 2 later)) (λ p after. Some (insert_into name cs p, drop 2 after))))
    (names_read columns are n (omega (arith, fuel)) (32 ∷ rows))
    ∙ ap (λ (t : Read Query). and_then t (λ p after. Some (insert_into name columns p, drop 2 after))) (back rest)

blank_stops : (text : List ℕ) → head text ≡ 83 → stops (dot ∷ []) (32 ∷ text) ≡ true
blank_stops text is = ap (λ (b : ℕ). not (after_blank b == dot) && true) is

all_back : (name : List ℕ) (q : Query) (is : IsTableName name) (n : ℕ) (rest : List ℕ) → length is.0 ≤ n → IsQuery q → QueryBack n q
    → read_statement n (statement_text (insert_all name q) ++ rest) ≡ Some (insert_all name q, rest)
unfolding statement_text
all_back name q is n rest fuel written back =
    let rows = query_text q ++ (codes ";\n" ++ rest) in
    let first : head rows ≡ 83 = query_head q (codes ";\n" ++ rest) written in
    ap (λ (t : List ℕ). and_then (read_table n t) (inserted n)) (append_assoc name (32 ∷ (query_text q ++ codes ";\n")) rest)
    ∙ ap (λ (t : List ℕ). and_then (read_table n (name ++ 32 ∷ t)) (inserted n)) (append_assoc (query_text q) (codes ";\n") rest)
    ∙ ap (λ (t : Read (List ℕ)). and_then t (inserted n)) (table_reads name is n (32 ∷ rows) fuel (blank_stops rows first))
    ∙ ap (λ (b : ℕ). rows_into b n name rows) first
    ∙ ap (λ (t : Read Query). and_then t (λ p after. Some (insert_all name p, drop 2 after))) (back rest)

drop_back : (name : List ℕ) (is : IsTableName name) (n : ℕ) (rest : List ℕ) → length is.0 ≤ n
    → read_statement n (statement_text (drop_table name) ++ rest) ≡ Some (drop_table name, rest)
unfolding statement_text
drop_back name is n rest fuel =
    ap (λ (t : List ℕ). and_then (read_table n t) (λ found after. Some (drop_table found, drop 2 after))) (append_assoc name (codes ";\n") rest)
    ∙ ap (λ (t : Read (List ℕ)). and_then t (λ found after. Some (drop_table found, drop 2 after)))
    (table_reads name is n (codes ";\n" ++ rest) fuel refl)

ask_back : (q : Query) (n : ℕ) (rest : List ℕ) → IsQuery q → QueryBack n q → read_statement n (statement_text (ask q) ++ rest) ≡ Some (ask q, rest)
unfolding statement_text
ask_back q n rest written back =
    let text = query_text q ++ (codes ";\n" ++ rest) in
    ap (read_statement n) (append_assoc (query_text q) (codes ";\n") rest)
    ∙ ap (λ (b : ℕ). statement_of b n text) (query_head q (codes ";\n" ++ rest) written)
    ∙ ap (λ (t : Read Query). and_then t (λ p after. Some (ask p, drop 2 after))) (back rest)

begin_back : (n : ℕ) (rest : List ℕ) → read_statement n (statement_text begin ++ rest) ≡ Some (begin, rest)
unfolding statement_text
begin_back n rest = refl

commit_back : (n : ℕ) (rest : List ℕ) → read_statement n (statement_text commit ++ rest) ≡ Some (commit, rest)
unfolding statement_text
commit_back n rest = refl

statement_reads : (x : Statement) → IsStatement x → StatementReads x
statement_reads (remark words) is = record { least = 0; back = λ n fuel rest. remark_back words n rest is }
statement_reads begin is = record { least = 0; back = λ n fuel rest. begin_back n rest }
statement_reads commit is = record { least = 0; back = λ n fuel rest. commit_back n rest }
statement_reads (create_table name es) is =
    let all = elements_read es (each_of_all IsElement es is.1) in
    record {
      least = length is.0.0 + all.least;
      back = λ n fuel rest. created_back name es is.0 n rest (omega (arith, fuel)) (λ more. all.back n (omega (arith, fuel)) more);
    }
statement_reads (create_zeros name column) is =
    record { least = length is.0.0; back = λ n fuel rest. zeros_back name column is.0 n rest fuel is.1 }
statement_reads (create_from name q) is = record {
  least = length is.0.0 + (query_reads q is.1).least;
  back = λ n fuel rest. from_back name q is.0 n rest (omega (arith, fuel)) (query_back q is.1 n (omega (arith, fuel)));
}
statement_reads (create_view name q) is = record {
  least = length is.0.0 + (query_reads q is.1).least;
  back = λ n fuel rest. view_back name q is.0 n rest (omega (arith, fuel)) (query_back q is.1 n (omega (arith, fuel)));
}
statement_reads (insert_into name columns q) is = record {
  least = length is.0.0 + length columns + (query_reads q is.2).least;
  back = λ n fuel rest. into_back name columns q is.0 n rest (omega (arith, fuel)) is.1 (query_back q is.2 n (omega (arith, fuel)));
}
statement_reads (insert_all name q) is = record {
  least = length is.0.0 + (query_reads q is.1).least;
  back = λ n fuel rest. all_back name q is.0 n rest (omega (arith, fuel)) is.1 (query_back q is.1 n (omega (arith, fuel)));
}
statement_reads (drop_table name) is = record { least = length is.0; back = λ n fuel rest. drop_back name is n rest fuel }
statement_reads (ask q) is =
    record { least = (query_reads q is).least; back = λ n fuel rest. ask_back q n rest is (query_back q is n fuel) }

-- ---- scripts
begins_something : (x : Statement) (rest : List ℕ) → IsStatement x → (head (statement_text x ++ rest) == 0) ≡ false
unfolding statement_text
begins_something (remark words) rest is = refl
begins_something begin rest is = refl
begins_something commit rest is = refl
begins_something (create_table name es) rest is = refl
begins_something (create_zeros name column) rest is = refl
begins_something (create_from name q) rest is = refl
begins_something (create_view name q) rest is = refl
begins_something (insert_into name columns q) rest is = refl
begins_something (insert_all name q) rest is = refl
begins_something (drop_table name) rest is = refl
begins_something (ask q) rest is =
    ap (λ (t : List ℕ). head t == 0) (append_assoc (query_text q) (codes ";\n") rest)
    ∙ ap (λ (b : ℕ). b == 0) (query_head q (codes ";\n" ++ rest) is)

record ScriptReads (script : List Statement) : Type 0 where
  pub least : ℕ
  pub back : (n : ℕ) → least ≤ n → read_script n (script_text script) ≡ Some (script, [])

script_by_fuel : (script : List Statement) (least : ℕ)
    → ((n : ℕ) → least ≤ n → read_script (suc n) (script_text script) ≡ Some (script, [])) → ScriptReads script
script_by_fuel script least back = record { least = suc least; back = go }
  where
    go : (n : ℕ) → suc least ≤ n → read_script n (script_text script) ≡ Some (script, [])
    go zero fuel = absurd (omega (arith, fuel))
    go (suc n) fuel = back n (omega (arith, fuel))

script_reads : (script : List Statement) → Each IsStatement script → ScriptReads script
script_reads [] each = script_by_fuel [] 0 (λ n fuel. refl)
script_reads (x ∷ script) each =
    let one = statement_reads x each.0 in
    let others = script_reads script each.1 in
    script_by_fuel (x ∷ script) (one.least + others.least) (λ n fuel.
    let rest = script_text script in
    let text = statement_text x ++ rest in
    let go = λ (y : Statement) (later : List ℕ). and_then (read_script n later) (λ ys after. Some (y ∷ ys, after)) in
    ap (λ (t : Bool). if t then Some ([], text) else and_then (read_statement n text) go) (begins_something x rest each.0)
    ∙ ap (λ (t : Read Statement). and_then t go) (one.back n (omega (arith, fuel)) rest)
    ∙ ap (λ (t : Read (List Statement)). and_then t (λ ys after. Some (x ∷ ys, after))) (others.back n (omega (arith, fuel))))

-- ---- one script
abbrev script_of : Read (List Statement) → List Statement
script_of None = []
script_of (Some p) = p.0

pub one_script : (script other : List Statement) → IsScript script → IsScript other → script_text script ≡ script_text other → script ≡ other
one_script script other is other_is same =
    let first = script_reads script (each_of_all IsStatement script is) in
    let second = script_reads other (each_of_all IsStatement other other_is) in
    let n = first.least + second.least in
    ap script_of (sym (first.back n (omega arith)) ∙ ap (read_script n) same ∙ second.back n (omega arith))
