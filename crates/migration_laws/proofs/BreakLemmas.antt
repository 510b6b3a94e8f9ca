-- The tests of a strict engine say whether a table is broken.
use Rattle.std.proofs.Common.{◌≡◌, ◌<◌, ◌⊎◌, ℕ, zero, suc, Bool, true, false, not, ◌&&◌, ◌||◌, List, [], ◌∷◌, Option, Some, None, refl, sym, ap, ◌∙◌, inl, inr, ⊎_elim, arith}
use Rattle.std.proofs.lemmas.Bool.{cases_Bool, true≢false, and_parts, and_from}
use Rattle.std.specs.Prelude.{◌↔◌, Contains, is_some, slice_get}
use Rattle.std.specs.List.{list_any}
use Rattle.dep_model.proofs.ListLemmas.{Contains-head, Contains-later, Contains-cases}
use Rattle.optional_tables.proofs.HomeLemmas.{get_contained}
use Rattle.sql_syntax.specs.Syntax.{ColumnName}
use Rattle.sql_syntax.specs.Statements.{Element, column_definition, primary_key, unique_key, foreign_key, Statement, remark, begin, commit, create_table, create_zeros, create_from, create_view, insert_into, insert_all, drop_table, ask}
use Rattle.sql_evaluation.specs.Cells.{Cell, same_row}
use Rattle.sql_evaluation.specs.Evaluation.{Rows}
use Rattle.sql_evaluation.specs.Rules.{cells_in, is_any_missing, HasMissing, HasRepeated, HasUnmatched, Breaks, IsBroken}
use Rattle.sql_evaluation.specs.Running.{Held, table, view, State, Cast, rows_of_table, done}
use Rattle.sql_check_laws.proofs.CellLemmas.{same_row-decides}
use Rattle.sql_check_laws.proofs.RowLemmas.{none_is_not_some, some_is}
use Rattle.sql_migrate_laws.proofs.FullLemmas.{got_member}
use Rattle.migration_laws.specs.Strict.{there_and, has_missing, has_values, has_repeated, has_match, has_unmatched, breaks, held_breaks, created_breaks, leaves_broken, refuses_broken}

-- ---- tests
any_member : {X : Type 0} (p : X → Bool) (xs : List X) → list_any p xs ≡ true → (x : X) × Contains xs x × (p x ≡ true)
any_member p [] e = absurd (true≢false (sym e))
any_member p (x ∷ xs) e = elim (cases_Bool (p x)) [
  | inl passes ↦ (x, Contains-head x xs, passes)
  | inr fails ↦
      let later = any_member p xs (sym (ap (λ (b : Bool). b || list_any p xs) fails) ∙ e) in
      (later.0, Contains-later x xs later.0 later.1, later.2)
]

or_true : (b : Bool) → (b || true) ≡ true
or_true true = refl
or_true false = refl

any_from : {X : Type 0} (p : X → Bool) (xs : List X) (x : X) → Contains xs x → p x ≡ true → list_any p xs ≡ true
any_from p [] x h e = absurd (omega (arith, h.1))
any_from p (y ∷ xs) x h e = ⊎_elim
    (λ (same : x ≡ y). ap (λ (b : Bool). b || list_any p xs) (ap p (sym same) ∙ e))
    (λ later. ap (λ (b : Bool). p y || b) (any_from p xs x later e) ∙ or_true (p y))
    (Contains-cases y xs x h)

either_of : (a b : Bool) → (a || b) ≡ true → (a ≡ true) ⊎ (b ≡ true)
either_of true b e = inl refl
either_of false b e = inr e

not_false : (b : Bool) → not b ≡ true → b ≡ false
not_false true e = absurd (true≢false (sym e))
not_false false e = refl

there_to : (found : Option (List Cell)) (test : List Cell → Bool) → there_and found test ≡ true
    → (cells : List Cell) × (found ≡ Some cells) × (test cells ≡ true)
there_to None test e = absurd (true≢false (sym e))
there_to (Some cells) test e = (cells, refl, e)

there_from : (found : Option (List Cell)) (test : List Cell → Bool) (cells : List Cell) → found ≡ Some cells → test cells ≡ true → there_and found test ≡ true
there_from found test cells is e = ap (λ (f : Option (List Cell)). there_and f test) is ∙ e

-- ---- rows
missing_to : (given : Rows) (columns : List ColumnName) → has_missing given columns ≡ true → HasMissing given columns
missing_to given columns e =
    let row = any_member (λ r. there_and (cells_in given columns r) is_any_missing) given.rows e in
    let found = there_to (cells_in given columns row.0) is_any_missing row.2 in
    record { row = row.0; member = row.1; cells = found.0; are = found.1; missing = found.2 }

missing_from : (given : Rows) (columns : List ColumnName) → HasMissing given columns → has_missing given columns ≡ true
missing_from given columns has =
    any_from (λ r. there_and (cells_in given columns r) is_any_missing) given.rows has.row has.member
    (there_from (cells_in given columns has.row) is_any_missing has.cells has.are has.missing)

-- a row has these values
values_to : (given : Rows) (columns : List ColumnName) (cells row : List Cell) → has_values given columns cells row ≡ true → cells_in given columns row ≡ Some cells
values_to given columns cells row e =
    let found = there_to (cells_in given columns row) (same_row cells) e in
    found.1 ∙ ap (λ (c : List Cell). Some c) (sym ((same_row-decides cells found.0).0 found.2))

values_from : (given : Rows) (columns : List ColumnName) (cells row : List Cell) → cells_in given columns row ≡ Some cells → has_values given columns cells row ≡ true
values_from given columns cells row is = there_from (cells_in given columns row) (same_row cells) cells is ((same_row-decides cells cells).1 refl)

-- two of some rows have the same values
record IsRepeated (given : Rows) (columns : List ColumnName) (rows : List (List Cell)) : Type 0 where
  i : ℕ
  j : ℕ
  before : i < j
  first : List Cell
  second : List Cell
  at_first : slice_get rows i ≡ Some first
  at_second : slice_get rows j ≡ Some second
  cells : List Cell
  are_first : cells_in given columns first ≡ Some cells
  are_second : cells_in given columns second ≡ Some cells
  none_missing : is_any_missing cells ≡ false

abbrev repeats : Rows → List ColumnName → List (List Cell) → List Cell → Bool
repeats given columns rows cells = not (is_any_missing cells) && list_any (has_values given columns cells) rows

repeated_to : (given : Rows) (columns : List ColumnName) (rows : List (List Cell)) → has_repeated given columns rows ≡ true → IsRepeated given columns rows
repeated_to given columns [] e = absurd (true≢false (sym e))
repeated_to given columns (row ∷ rows) e = ⊎_elim
    (λ here.
    let found = there_to (cells_in given columns row) (repeats given columns rows) here in
    let both = and_parts (not (is_any_missing found.0)) (list_any (has_values given columns found.0) rows) found.2 in
    let other = any_member (has_values given columns found.0) rows both.1 in
    record {
      i = 0;
      j = suc other.1.0;
      before = omega arith;
      first = row;
      second = other.0;
      at_first = refl;
      at_second = get_contained rows other.0 other.1;
      cells = found.0;
      are_first = found.1;
      are_second = values_to given columns found.0 other.0 other.2;
      none_missing = not_false (is_any_missing found.0) both.0;
    })
    (λ later.
    let rest = repeated_to given columns rows later in
    record {
      i = suc rest.i;
      j = suc rest.j;
      before = let less = rest.before in omega (arith, less);
      first = rest.first;
      second = rest.second;
      at_first = rest.at_first;
      at_second = rest.at_second;
      cells = rest.cells;
      are_first = rest.are_first;
      are_second = rest.are_second;
      none_missing = rest.none_missing;
    })
    (either_of (there_and (cells_in given columns row) (repeats given columns rows)) (has_repeated given columns rows) e)

repeated_from : (given : Rows) (columns : List ColumnName) (rows : List (List Cell)) (i j : ℕ) (first second cells : List Cell) → i < j
    → slice_get rows i ≡ Some first → slice_get rows j ≡ Some second → cells_in given columns first ≡ Some cells
    → cells_in given columns second ≡ Some cells → is_any_missing cells ≡ false → has_repeated given columns rows ≡ true
repeated_from given columns [] i j first second cells before at_first at_second are_first are_second none = absurd (none_is_not_some first at_first)
repeated_from given columns (row ∷ rows) i zero first second cells before at_first at_second are_first are_second none = absurd (omega (arith, before))
repeated_from given columns (row ∷ rows) zero (suc j) first second cells before at_first at_second are_first are_second none =
    let is : cells_in given columns row ≡ Some cells = ap (cells_in given columns) (some_is row first at_first) ∙ are_first in
    let other = any_from (has_values given columns cells) rows second (got_member rows j second at_second) (values_from given columns cells second are_second) in
    ap (λ (b : Bool). b || has_repeated given columns rows)
    (there_from (cells_in given columns row) (repeats given columns rows) cells is (and_from (not (is_any_missing cells)) (list_any (has_values given columns cells) rows) (ap not none) other))
repeated_from given columns (row ∷ rows) (suc i) (suc j) first second cells before at_first at_second are_first are_second none =
    ap (λ (b : Bool). there_and (cells_in given columns row) (repeats given columns rows) || b)
    (repeated_from given columns rows i j first second cells (omega (arith, before)) at_first at_second are_first are_second none)
    ∙ or_true (there_and (cells_in given columns row) (repeats given columns rows))

twice_to : (given : Rows) (columns : List ColumnName) → has_repeated given columns given.rows ≡ true → HasRepeated given columns
twice_to given columns e =
    let is = repeated_to given columns given.rows e in
    record {
      i = is.i;
      j = is.j;
      before = is.before;
      first = is.first;
      second = is.second;
      at_first = is.at_first;
      at_second = is.at_second;
      cells = is.cells;
      are_first = is.are_first;
      are_second = is.are_second;
      none_missing = is.none_missing;
    }

twice_from : (given : Rows) (columns : List ColumnName) → HasRepeated given columns → has_repeated given columns given.rows ≡ true
twice_from given columns has =
    repeated_from given columns given.rows has.i has.j has.first has.second has.cells has.before has.at_first has.at_second has.are_first has.are_second has.none_missing

-- a row of another table has these values
match_to : (other : Option Rows) (columns : List ColumnName) (cells : List Cell) → has_match other columns cells ≡ true
    → (found : Rows) × (other ≡ Some found) × ((match : List Cell) × Contains found.rows match × (cells_in found columns match ≡ Some cells))
match_to None columns cells e = absurd (true≢false (sym e))
match_to (Some found) columns cells e =
    let row = any_member (has_values found columns cells) found.rows e in
    (found, refl, (row.0, row.1, values_to found columns cells row.0 row.2))

match_from : (other : Option Rows) (columns : List ColumnName) (cells : List Cell) (found : Rows) (match : List Cell) → other ≡ Some found
    → Contains found.rows match → cells_in found columns match ≡ Some cells → has_match other columns cells ≡ true
match_from other columns cells found match is h e =
    ap (λ (o : Option Rows). has_match o columns cells) is ∙ any_from (has_values found columns cells) found.rows match h (values_from found columns cells match e)

abbrev lacks : List ColumnName → Option Rows → List Cell → Bool
lacks columns other cells = not (is_any_missing cells) && not (has_match other columns cells)

unmatched_to : (given : Rows) (columns : List ColumnName) (other : Option Rows) → has_unmatched given columns other ≡ true → HasUnmatched given columns other
unmatched_to given columns other e =
    let row = any_member (λ r. there_and (cells_in given columns r) (lacks columns other)) given.rows e in
    let found = there_to (cells_in given columns row.0) (lacks columns other) row.2 in
    let both = and_parts (not (is_any_missing found.0)) (not (has_match other columns found.0)) found.2 in
    record {
      row = row.0;
      member = row.1;
      cells = found.0;
      are = found.1;
      none_missing = not_false (is_any_missing found.0) both.0;
      none_there = λ there is match h same.
          true≢false (sym (match_from other columns found.0 there match is h same) ∙ not_false (has_match other columns found.0) both.1);
    }

unmatched_from : (given : Rows) (columns : List ColumnName) (other : Option Rows) → HasUnmatched given columns other → has_unmatched given columns other ≡ true
unmatched_from given columns other has =
    let none : has_match other columns has.cells ≡ false = elim (cases_Bool (has_match other columns has.cells)) [
      | inl matched ↦ let it = match_to other columns has.cells matched in absurd (has.none_there it.0 it.1 it.2.0 it.2.1 it.2.2)
      | inr lacking ↦ lacking
    ] in
    any_from (λ r. there_and (cells_in given columns r) (lacks columns other)) given.rows has.row has.member
    (there_from (cells_in given columns has.row) (lacks columns other) has.cells has.are
    (and_from (not (is_any_missing has.cells)) (not (has_match other columns has.cells)) (ap not has.none_missing) (ap not none)))

-- ---- elements
none_there : {X : Type 0} (found : Option X) → not (is_some found) ≡ true → found ≡ None
none_there None e = refl
none_there (Some x) e = absurd (true≢false (sym e))

breaks_to : (state : State) (given : Rows) (e : Element) → breaks state given e ≡ true → Breaks state given e
breaks_to state given (column_definition name type nullable) is =
    let both = and_parts (not nullable) (has_missing given (name ∷ [])) is in
    (not_false nullable both.0, missing_to given (name ∷ []) both.1)
breaks_to state given (primary_key columns) is = ⊎_elim
    (λ missing. inl (missing_to given columns missing))
    (λ twice. inr (twice_to given columns twice))
    (either_of (has_missing given columns) (has_repeated given columns given.rows) is)
breaks_to state given (unique_key columns) is = twice_to given columns is
breaks_to state given (foreign_key columns other) is = ⊎_elim
    (λ gone. inl (none_there (state other) gone))
    (λ unmatched. inr (unmatched_to given columns (rows_of_table (state other)) unmatched))
    (either_of (not (is_some (state other))) (has_unmatched given columns (rows_of_table (state other))) is)

breaks_from : (state : State) (given : Rows) (e : Element) → Breaks state given e → breaks state given e ≡ true
breaks_from state given (column_definition name type nullable) is =
    and_from (not nullable) (has_missing given (name ∷ [])) (ap not is.0) (missing_from given (name ∷ []) is.1)
breaks_from state given (primary_key columns) is = ⊎_elim
    (λ missing. ap (λ (b : Bool). b || has_repeated given columns given.rows) (missing_from given columns missing))
    (λ twice. ap (λ (b : Bool). has_missing given columns || b) (twice_from given columns twice) ∙ or_true (has_missing given columns))
    is
breaks_from state given (unique_key columns) is = twice_from given columns is
breaks_from state given (foreign_key columns other) is = ⊎_elim
    (λ (gone : state other ≡ None). ap (λ (h : Option Held). not (is_some h) || has_unmatched given columns (rows_of_table (state other))) gone)
    (λ unmatched. ap (λ (b : Bool). not (is_some (state other)) || b) (unmatched_from given columns (rows_of_table (state other)) unmatched)
    ∙ or_true (not (is_some (state other))))
    is

-- ---- tables
record IsBrokenAs (state : State) (name : List ℕ) (elements : List Element) : Type 0 where
  element : Element
  stated : Contains elements element
  zeros : Bool
  given : Rows
  held : state name ≡ Some (table zeros given)
  breaks_it : Breaks state given element

held_to : (state : State) (name : List ℕ) (elements : List Element) (held : Option Held) → state name ≡ held → held_breaks state held elements ≡ true
    → IsBrokenAs state name elements
held_to state name elements None at e = absurd (true≢false (sym e))
held_to state name elements (Some (view q)) at e = absurd (true≢false (sym e))
held_to state name elements (Some (table zeros given)) at e =
    let found = any_member (breaks state given) elements e in
    record { element = found.0; stated = found.1; zeros = zeros; given = given; held = at; breaks_it = breaks_to state given found.0 found.2 }

broken_by : (script : List Statement) (next : State) (x : Statement) → Contains script x → created_breaks next x ≡ true → IsBroken script next
broken_by script next (create_table name elements) h e =
    let is = held_to next name elements (next name) refl e in
    record {
      name = name;
      elements = elements;
      created = h;
      element = is.element;
      stated = is.stated;
      zeros = is.zeros;
      given = is.given;
      held = is.held;
      breaks = is.breaks_it;
    }
broken_by script next (remark words) h e = absurd (true≢false (sym e))
broken_by script next begin h e = absurd (true≢false (sym e))
broken_by script next commit h e = absurd (true≢false (sym e))
broken_by script next (create_zeros name column) h e = absurd (true≢false (sym e))
broken_by script next (create_from name q) h e = absurd (true≢false (sym e))
broken_by script next (create_view name q) h e = absurd (true≢false (sym e))
broken_by script next (insert_into name columns q) h e = absurd (true≢false (sym e))
broken_by script next (insert_all name q) h e = absurd (true≢false (sym e))
broken_by script next (drop_table name) h e = absurd (true≢false (sym e))
broken_by script next (ask q) h e = absurd (true≢false (sym e))

-- a statement that can be done is refused exactly where it would leave a broken table
pub refused_exactly : (cast : Cast) (script : List Statement) (x : Statement) (state next : State) → done cast x state ≡ Some next
    → (refuses_broken cast script x state ≡ true) ↔ IsBroken script next
refused_exactly cast script x state next is = (
  λ e.
      let found = any_member (created_breaks next) script (sym (ap (leaves_broken script) is) ∙ e) in
      broken_by script next found.0 found.1 found.2,
  λ broken.
      let element = any_from (breaks next broken.given) broken.elements broken.element broken.stated (breaks_from next broken.given broken.element broken.breaks) in
      let there : created_breaks next (create_table broken.name broken.elements) ≡ true =
      ap (λ (held : Option Held). held_breaks next held broken.elements) broken.held ∙ element in
      ap (leaves_broken script) is ∙ any_from (created_breaks next) script (create_table broken.name broken.elements) broken.created there,
)
