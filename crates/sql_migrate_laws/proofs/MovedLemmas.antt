-- After a run without an error the tables hold the projections, and the view the relation; and all else is as it was.
use Rattle.std.proofs.Common.{◌≡◌, ℕ, true, false, List, [], ◌∷◌, ◌++◌, length, map, Some, None, Option, sym, ap, subst, ◌∙◌, inl, inr, arith}
use Rattle.std.proofs.lemmas.Bool.{cases_Bool, true≢false}
use Rattle.std.specs.Prelude.{Contains, if◌then◌else◌, option_and_then, codes, is_some}
use Rattle.std.specs.Str.{bytes_eq}
use Rattle.attr_sets.specs.Sets.{attributes}
use Rattle.schema_model.specs.Schemas.{Schema}
use Rattle.schema_model.specs.Schemas.{width_of, universe_of}
use Rattle.dep_model.specs.Tuples.{Relation}
use Rattle.dep_model.proofs.ListLemmas.{Contains-map, map-member}
use Rattle.ddl_text.specs.declared.table.TableDesign.{TableDesign}
use Rattle.sql_syntax.specs.Names.{quoted_name}
use Rattle.sql_syntax.specs.Syntax.{helper, Query, except}
use Rattle.sql_syntax.specs.Statements.{Statement, remark, create_from, create_view, create_zeros, insert_all, drop_table}
use Rattle.sql_evaluation.specs.Cells.{Cell}
use Rattle.sql_evaluation.specs.Evaluation.{Rows, excepted, evaluate}
use Rattle.sql_evaluation.specs.Running.{Held, table, view, State, Cast, Fails, all_zeros, tried, done, made, with_name, inserted, engine_at, ended, outcome}
use Rattle.sql_check_laws.specs.HeldRelations.{Holds}
use Rattle.sql_check_laws.proofs.ColumnLemmas.{bytes_same}
use Rattle.sql_check_laws.proofs.RowLemmas.{none_is_not_some, some_is}
use Rattle.sql_check_laws.proofs.ValuesLemmas.{cells_on}
use Rattle.ddl_text.specs.Ddl.{tables_made}
use Rattle.sql_migrate.specs.Script.{copy_name, view_name, test_name, copy_query, fill, view_query, width_query, table_rows, viewed_rows, count_of, lacked, gained, testing, migration}
use Rattle.sql_migrate_laws.specs.Moved.{complete_for, AreProjection, HoldsProjection, HasMoved, LeavesOthers}
use Rattle.sql_migrate_laws.proofs.RunLemmas.{steps, work_done}
use Rattle.sql_migrate_laws.proofs.StepLemmas.{bind_some, when_some, apart, at_name, past_name, was_done, was_made, steps_after, was_inserted, checked, Keeps, HasCopy, tables_created, tables_filled}
use Rattle.sql_migrate_laws.proofs.GrowingLemmas.{still-known, still-holds, was_free, keeps_past}
use Rattle.sql_migrate_laws.proofs.RowLemmas.{copied, IsCopied, copy-known, table-known, width-known, none_counted, nothing_beyond}
use Rattle.sql_migrate_laws.proofs.CompleteLemmas.{projection-known}
use Rattle.sql_migrate_laws.proofs.ViewLemmas.{viewed-same}

abbrev Cells : Type 0
Cells = ℕ → List ℕ → Cell

-- ---- the statements that follow one another
abbrev after_fills : Schema → List ℕ → List TableDesign → List Statement
after_fills s name designs = create_view view_name (view_query s designs) ∷ testing s name

abbrev after_copy : Schema → List ℕ → List TableDesign → List Statement
after_copy s name designs = tables_made s designs designs ++ (map (fill s) designs ++ after_fills s name designs)

abbrev drops : List Statement
drops = drop_table test_name ∷ drop_table copy_name ∷ []

abbrev from_gained : Schema → List ℕ → List Statement
from_gained s name = insert_all test_name (count_of (gained s name)) ∷ drops

abbrev from_lacked : Schema → List ℕ → List Statement
from_lacked s name = insert_all test_name (count_of (lacked s name)) ∷ from_gained s name

abbrev test_words : List ℕ
test_words = codes "an error here undoes all: the view would lack a row of the table, or have one more"

abbrev width_words : List ℕ
width_words = codes "an error here: the table has other columns than the schema"

abbrev after_width : Schema → List ℕ → List Statement
after_width s name = remark test_words ∷ from_lacked s name

abbrev from_width : Schema → List ℕ → List Statement
from_width s name = insert_all test_name (width_query s name) ∷ after_width s name

abbrev after_zeros : Schema → List ℕ → List Statement
after_zeros s name = remark width_words ∷ from_width s name

-- ---- one statement
next_of : (fails : Fails) (cast : Cast) (x : Statement) (xs : List Statement) (state last : State) → steps fails cast (x ∷ xs) state ≡ Some last
    → (next : State) × (done cast x state ≡ Some next) × (steps fails cast xs next ≡ Some last)
next_of fails cast x xs state last e =
    let first = bind_some (steps fails cast xs) (tried fails cast x state) last e in
    (first.0, was_done fails cast x state first.0 first.1, first.2)

past_remark : (fails : Fails) (cast : Cast) (words : List ℕ) (xs : List Statement) (state last : State)
    → steps fails cast (remark words ∷ xs) state ≡ Some last → steps fails cast xs state ≡ Some last
past_remark fails cast words xs state last e =
    let said = next_of fails cast (remark words) xs state last e in
    subst (λ (z : State). steps fails cast xs z ≡ Some last) (sym (some_is state said.0 said.1)) said.2

was_dropped : (name : List ℕ) (state next : State) → (if is_some (state name) then Some (with_name name None state) else None) ≡ Some next
    → next ≡ with_name name None state
was_dropped name state next e =
    let found = when_some (is_some (state name)) (Some (with_name name None state)) next e in
    sym (some_is (with_name name None state) next found.1)

elsewhere : (name : List ℕ) (held : Option Held) (state next : State) (other : List ℕ) → next ≡ with_name name held state → (other ≡ name → ⊥)
    → next other ≡ state other
elsewhere name held state next other is differ = ap (λ (z : State). z other) is ∙ past_name name other held state differ

no_name : (b : ℕ) (name : List ℕ) → [] ≡ b ∷ name → ⊥
no_name b name e = let long = ap (λ (bytes : List ℕ). length bytes) e in omega (arith, long)

-- ---- a test that was passed
-- zeros went into the table of the test, if any, and the state is as before but for that table
pub record HasTaken (cast : Cast) (q : Query) (state next : State) : Type 0 where
  pub old : Rows
  pub there : next test_name ≡ Some (table true old)
  pub others : (name : List ℕ) → (name ≡ test_name → ⊥) → next name ≡ state name
  pub given : Rows
  pub evaluates : evaluate (engine_at cast state) q ≡ Some given
  pub zeros : all_zeros given.rows ≡ true

test_taken : (cast : Cast) (q : Query) (state next : State) (old : Rows) → state test_name ≡ Some (table true old)
    → done cast (insert_all test_name q) state ≡ Some next → HasTaken cast q state next
test_taken cast q state next old is e =
    let new = bind_some (inserted test_name state) (evaluate (engine_at cast state) q) next e in
    let put = was_inserted test_name state next true old new.0 is new.2 in
    let rows : Rows = record { names = old.names; rows = old.rows ++ new.0.rows } in
    record {
      old = rows;
      there = ap (λ (z : State). z test_name) put.1 ∙ at_name test_name (Some (table true rows)) state;
      others = λ name differ. elsewhere test_name (Some (table true rows)) state next name put.1 differ;
      given = new.0;
      evaluates = new.1;
      zeros = checked old new.0 _ put.0;
    }

-- what the first query of a difference without rows gives is given by the second
pub record IsCovered (cast : Cast) (p q : Query) (state : State) : Type 0 where
  pub first : Rows
  pub second : Rows
  pub first_is : evaluate (engine_at cast state) p ≡ Some first
  pub second_is : evaluate (engine_at cast state) q ≡ Some second
  pub covered : (row : List Cell) → Contains first.rows row → Contains second.rows row

covers : (cast : Cast) (p q : Query) (state : State) (given : Rows) → evaluate (engine_at cast state) (except p q) ≡ Some given → given.rows ≡ []
    → IsCovered cast p q state
covers cast p q state given e none =
    let a = bind_some (λ (a : Rows). option_and_then (excepted a) (evaluate (engine_at cast state) q)) (evaluate (engine_at cast state) p) given e in
    let b = bind_some (excepted a.0) (evaluate (engine_at cast state) q) given a.2 in
    record { first = a.0; second = b.0; first_is = a.1; second_is = b.1; covered = nothing_beyond a.0 b.0 given b.2 none }

-- the first query of an empty difference, of which the rows were counted
covers_counted : (cast : Cast) (p q : Query) (state next : State) → HasTaken cast (count_of (except p q)) state next → IsCovered cast p q state
covers_counted cast p q state next taken =
    let none = none_counted (engine_at cast state) (except p q) taken.given taken.evaluates taken.zeros in
    covers cast p q state none.0 none.1 none.2

-- ---- the first statement
-- the copy is there, under a name that was free, and nothing else is another
record IsCopyMade (s : Schema) (cell : Cells) (r : Relation) (start next : State) : Type 0 where
  copy : IsCopied next s cell r
  free : start copy_name ≡ None
  others : (other : List ℕ) → (other ≡ copy_name → ⊥) → next other ≡ start other

copy_made : (fails : Fails) (cast : Cast) (s : Schema) (name : List ℕ) (cell : Cells) (r : Relation) (start next : State)
    → Holds (engine_at cast start) name s cell r → done cast (create_from copy_name (copy_query s name)) start ≡ Some next → IsCopyMade s cell r start next
copy_made fails cast s name cell r start next holds e =
    let found = bind_some (λ (rows : Rows). made copy_name (table false rows) start) (evaluate (engine_at cast start) (copy_query s name)) next e in
    let put = was_made copy_name (table false found.0) start next found.2 in
    let same = some_is found.0 (copied s cell r) (sym found.1 ∙ copy-known (engine_at cast start) name s cell r holds) in
    record {
      copy = ap (λ (z : State). z copy_name) put.1 ∙ at_name copy_name (Some (table false found.0)) start ∙ ap (λ (z : Rows). Some (table false z)) same;
      free = put.0;
      others = λ other differ. elsewhere copy_name (Some (table false found.0)) start next other put.1 differ;
    }

-- ---- the tables
-- the tables hold the projections, the copy is there, and nothing else is another
pub record AreMade (cast : Cast) (s : Schema) (cell : Cells) (r : Relation) (designs : List TableDesign) (start state : State) : Type 0 where
  pub copy : IsCopied state s cell r
  pub copy_free : start copy_name ≡ None
  pub apart : (t : TableDesign) → Contains designs t → copy_name ≡ quoted_name t.name → ⊥
  pub each : (t : TableDesign) → Contains designs t → HoldsProjection s cast cell r state t
  pub keeps : Keeps start state
  pub others : (other : List ℕ) → (other ≡ copy_name → ⊥) → ((t : TableDesign) → Contains designs t → other ≡ quoted_name t.name → ⊥) → state other ≡ start other

tables_moved : (fails : Fails) (cast : Cast) (s : Schema) (cell : Cells) (r : Relation) (designs : List TableDesign) (start first second third : State)
    → IsCopyMade s cell r start first → steps fails cast (tables_made s designs designs) first ≡ Some second
    → steps fails cast (map (fill s) designs) second ≡ Some third → AreMade cast s cell r designs start third
tables_moved fails cast s cell r designs start first second third is create fills =
    let made = tables_created fails cast s designs designs first second create in
    let away : (t : TableDesign) → Contains designs t → copy_name ≡ quoted_name t.name → ⊥ =
    λ t h. apart first copy_name (quoted_name t.name) (table false (copied s cell r)) is.copy (made.free t h) in
    let has : HasCopy second copy_name (copied s cell r) designs = record { there = made.keeps copy_name (table false (copied s cell r)) is.copy; apart = away } in
    let filled = tables_filled fails cast s copy_name (copied s cell r) (λ t new. AreProjection s cast cell (attributes t.scheme) (complete_for s cell t r) new.rows)
    (λ z t new there found. projection-known s cast cell r z t new there found) designs second third fills has made.apart made.new in
    let keeps_first = keeps_past start start first copy_name (λ name held there. there) is.free is.others in
    record {
      copy = filled.others copy_name away ∙ has.there;
      copy_free = is.free;
      apart = away;
      each = λ t h. let new = filled.filled t h in record {
        found = record { names = new.2.0; rows = new.0.rows };
        held = new.2.1;
        projection = new.1;
      };
      keeps = λ name held there.
          filled.others name (λ t h same. none_is_not_some held (sym (was_free start first (quoted_name t.name) keeps_first (made.free t h)) ∙ ap start (sym same) ∙ there))
          ∙ made.keeps name held (keeps_first name held there);
      others = λ other not_copy away'. filled.others other away' ∙ made.others other away' ∙ is.others other not_copy;
    }

-- ---- the view and the test
-- all that a run without an error leaves
pub record IsMoved (cast : Cast) (s : Schema) (name : List ℕ) (cell : Cells) (r : Relation) (designs : List TableDesign) (start last : State)
    (holds : Holds (engine_at cast start) name s cell r) : Type 0 where
  pub moved : HasMoved s cast cell r designs last
  pub leaves : LeavesOthers designs start last
  pub whole : length holds.given.names ≡ width_of s

view_moved : (fails : Fails) (cast : Cast) (s : Schema) (name : List ℕ) (cell : Cells) (r : Relation) (designs : List TableDesign) (start state last : State)
    (holds : Holds (engine_at cast start) name s cell r) → AreMade cast s cell r designs start state
    → steps fails cast (create_view view_name (view_query s designs) ∷ testing s name) state ≡ Some last
    → IsMoved cast s name cell r designs start last holds
view_moved fails cast s name cell r designs start third last holds are e =
    let shown = next_of fails cast (create_view view_name (view_query s designs)) (testing s name) third last e in
    let fourth = shown.0 in
    let show = was_made view_name (view (view_query s designs)) third fourth shown.1 in
    let zeros = next_of fails cast (create_zeros test_name (helper (codes "n"))) (after_zeros s name) fourth last shown.2 in
    let fifth = zeros.0 in
    let empty : Rows = record { names = codes "n" ∷ []; rows = [] } in
    let zero_put = was_made test_name (table true empty) fourth fifth zeros.1 in
    let test_free : fourth test_name ≡ None = zero_put.0 in
    let test_there : fifth test_name ≡ Some (table true empty) =
    ap (λ (z : State). z test_name) zero_put.1 ∙ at_name test_name (Some (table true empty)) fourth in
    let widths = next_of fails cast (insert_all test_name (width_query s name)) (after_width s name) fifth last
    (past_remark fails cast width_words (from_width s name) fifth last zeros.2) in
    let sixth = widths.0 in
    let wide = test_taken cast (width_query s name) fifth sixth empty test_there widths.1 in
    let lacks = next_of fails cast (insert_all test_name (count_of (lacked s name))) (from_gained s name) sixth last
    (past_remark fails cast test_words (from_lacked s name) sixth last widths.2) in
    let seventh = lacks.0 in
    let one = test_taken cast (count_of (lacked s name)) sixth seventh wide.old wide.there lacks.1 in
    let gains = next_of fails cast (insert_all test_name (count_of (gained s name))) drops seventh last lacks.2 in
    let eighth = gains.0 in
    let two = test_taken cast (count_of (gained s name)) seventh eighth one.old one.there gains.1 in
    let drop_test = next_of fails cast (drop_table test_name) (drop_table copy_name ∷ []) eighth last gains.2 in
    let ninth = drop_test.0 in
    let drop_copy = next_of fails cast (drop_table copy_name) [] ninth last drop_test.2 in
    let tenth = drop_copy.0 in
    let end : tenth ≡ last = some_is tenth last drop_copy.2 in
    let view_there : fourth view_name ≡ Some (view (view_query s designs)) =
    ap (λ (z : State). z view_name) show.1 ∙ at_name view_name (Some (view (view_query s designs))) third in
    -- names that are not those of the view, the test and the copy
    let from_third : (other : List ℕ) → (other ≡ view_name → ⊥) → fourth other ≡ third other =
    λ other differ. elsewhere view_name (Some (view (view_query s designs))) third fourth other show.1 differ in
    let from_fourth : (other : List ℕ) → (other ≡ test_name → ⊥) → fifth other ≡ fourth other =
    λ other differ. elsewhere test_name (Some (table true empty)) fourth fifth other zero_put.1 differ in
    let to_sixth : (other : List ℕ) → (other ≡ test_name → ⊥) → sixth other ≡ fourth other =
    λ other differ. wide.others other differ ∙ from_fourth other differ in
    let to_seventh : (other : List ℕ) → (other ≡ test_name → ⊥) → seventh other ≡ fourth other =
    λ other differ. one.others other differ ∙ to_sixth other differ in
    let to_last : (other : List ℕ) → (other ≡ test_name → ⊥) → (other ≡ copy_name → ⊥) → last other ≡ fourth other =
    λ other differ away.
    ap (λ (z : State). z other) (sym end)
    ∙ elsewhere copy_name None ninth tenth other (was_dropped copy_name ninth tenth drop_copy.1) away
    ∙ elsewhere test_name None eighth ninth other (was_dropped test_name eighth ninth drop_test.1) differ
    ∙ two.others other differ ∙ to_seventh other differ in
    -- what was there before
    let view_free = was_free start third view_name are.keeps show.0 in
    let keeps_fourth = keeps_past start third fourth view_name are.keeps view_free from_third in
    let test_start = was_free start fourth test_name keeps_fourth test_free in
    let keeps_fifth = keeps_past start fourth fifth test_name keeps_fourth test_start from_fourth in
    let keeps_sixth = keeps_past start fourth sixth test_name keeps_fourth test_start to_sixth in
    let keeps_seventh = keeps_past start fourth seventh test_name keeps_fourth test_start to_seventh in
    let away : (other : List ℕ) (held : Held) → start other ≡ Some held → (gone : List ℕ) → start gone ≡ None → other ≡ gone → ⊥ =
    λ other held there gone free same. none_is_not_some held (sym free ∙ ap start (sym same) ∙ there) in
    -- the tables of the design and the view
    let design_view : (t : TableDesign) → Contains designs t → quoted_name t.name ≡ view_name → ⊥ =
    λ t h. let held = are.each t h in apart third (quoted_name t.name) view_name (table false held.found) held.held show.0 in
    let in_fourth : (t : TableDesign) → Contains designs t → fourth (quoted_name t.name) ≡ third (quoted_name t.name) =
    λ t h. from_third (quoted_name t.name) (design_view t h) in
    let design_test : (t : TableDesign) → Contains designs t → quoted_name t.name ≡ test_name → ⊥ =
    λ t h. let held = are.each t h in
    apart fourth (quoted_name t.name) test_name (table false held.found) (in_fourth t h ∙ held.held) test_free in
    let view_test : view_name ≡ test_name → ⊥ = apart fourth view_name test_name (view (view_query s designs)) view_there test_free in
    let copy_view : copy_name ≡ view_name → ⊥ = apart third copy_name view_name (table false (copied s cell r)) are.copy show.0 in
    let copy_fourth : fourth copy_name ≡ Some (table false (copied s cell r)) = from_third copy_name copy_view ∙ are.copy in
    let copy_test : copy_name ≡ test_name → ⊥ = apart fourth copy_name test_name (table false (copied s cell r)) copy_fourth test_free in
    let view_sixth = to_sixth view_name view_test ∙ view_there in
    let view_seventh = to_seventh view_name view_test ∙ view_there in
    let view_last = to_last view_name view_test (λ same. copy_view (sym same)) ∙ view_there in
    let fewer = covers_counted cast (table_rows s name) (viewed_rows s) sixth seventh one in
    let more = covers_counted cast (viewed_rows s) (table_rows s name) seventh eighth two in
    let last_is : evaluate (engine_at cast last) (viewed_rows s) ≡ Some fewer.second =
    viewed-same cast s designs last sixth view_last view_sixth
    (to_last [] (no_name 34 (codes "t00\"")) (no_name 34 (codes "t0\"")) ∙ sym (to_sixth [] (no_name 34 (codes "t00\""))))
    (λ t h. to_last (quoted_name t.name) (design_test t h) (λ same. are.apart t h (sym same)) ∙ sym (to_sixth (quoted_name t.name) (design_test t h)))
    ∙ fewer.second_is in
    let seventh_is : evaluate (engine_at cast seventh) (viewed_rows s) ≡ Some fewer.second =
    viewed-same cast s designs seventh sixth view_seventh view_sixth (one.others [] (no_name 34 (codes "t00\"")))
    (λ t h. one.others (quoted_name t.name) (design_test t h))
    ∙ fewer.second_is in
    let same_view : more.first ≡ fewer.second = some_is more.first fewer.second (sym more.first_is ∙ seventh_is) in
    let table_first = table-known (engine_at cast sixth) name s cell r fewer.first
    (still-holds cast name s cell r start sixth keeps_sixth holds) fewer.first_is in
    let table_second = table-known (engine_at cast seventh) name s cell r more.second
    (still-holds cast name s cell r start seventh keeps_seventh holds) more.second_is in
    let copy_gone : last copy_name ≡ None =
    ap (λ (z : State). z copy_name) (sym end ∙ was_dropped copy_name ninth tenth drop_copy.1) ∙ at_name copy_name None ninth in
    let test_gone : last test_name ≡ None =
    ap (λ (z : State). z test_name) (sym end)
    ∙ elsewhere copy_name None ninth tenth test_name (was_dropped copy_name ninth tenth drop_copy.1) (λ same. copy_test (sym same))
    ∙ ap (λ (z : State). z test_name) (was_dropped test_name eighth ninth drop_test.1) ∙ at_name test_name None eighth in
    record {
      moved = record {
        tables = λ t h. let held = are.each t h in record {
          found = held.found;
          held = to_last (quoted_name t.name) (design_test t h) (λ same. are.apart t h (sym same)) ∙ in_fourth t h ∙ held.held;
          projection = held.projection;
        };
        view = record {
          found = fewer.second;
          evaluates = last_is;
          all = λ t h. fewer.covered (cells_on s cell (universe_of s) t)
              (subst (λ (rows : List (List Cell)). Contains rows (cells_on s cell (universe_of s) t)) (sym table_first)
              (Contains-map (cells_on s cell (universe_of s)) r t h));
          no_more = λ row h.
              map-member (cells_on s cell (universe_of s)) r row
              (subst (λ (rows : List (List Cell)). Contains rows row) table_second
              (more.covered row (subst (λ (z : Rows). Contains z.rows row) (sym same_view) h)));
        };
      };
      leaves = record {
        kept = λ other held there.
            to_last other (away other held there test_name test_start) (away other held there copy_name are.copy_free) ∙ keeps_fourth other held there;
        nothing_more = λ other free not_view not_designed. elim (cases_Bool (bytes_eq other test_name)) [
          | inl is_test ↦ ap last ((bytes_same other test_name).0 is_test) ∙ test_gone
          | inr not_test ↦ elim (cases_Bool (bytes_eq other copy_name)) [
            | inl is_copy ↦ ap last ((bytes_same other copy_name).0 is_copy) ∙ copy_gone
            | inr not_copy ↦
                let past_test = λ (same : other ≡ test_name). true≢false (sym ((bytes_same other test_name).1 same) ∙ not_test) in
                let past_copy = λ (same : other ≡ copy_name). true≢false (sym ((bytes_same other copy_name).1 same) ∙ not_copy) in
                to_last other past_test past_copy ∙ from_third other not_view ∙ are.others other past_copy not_designed ∙ free
          ]
        ];
        copy_gone = copy_gone;
        test_gone = test_gone;
      };
      whole = width-known (engine_at cast fifth) name s holds.given wide.given
          (still-known cast name start fifth holds.given keeps_fifth holds.known) wide.evaluates;
    }

-- ---- the whole run
pub all_moved : (fails : Fails) (cast : Cast) (s : Schema) (name : List ℕ) (cell : Cells) (r : Relation) (designs : List TableDesign) (start last : State)
    (holds : Holds (engine_at cast start) name s cell r) → outcome fails cast (migration s name designs) start ≡ ended last
    → IsMoved cast s name cell r designs start last holds
all_moved fails cast s name cell r designs start last holds e =
    let copies = next_of fails cast (create_from copy_name (copy_query s name)) (after_copy s name designs) start last (work_done fails cast s name designs start last e) in
    let is = copy_made fails cast s name cell r start copies.0 holds copies.1 in
    let creates = steps_after fails cast (tables_made s designs designs) (map (fill s) designs ++ after_fills s name designs) copies.0 last copies.2 in
    let fills = steps_after fails cast (map (fill s) designs) (after_fills s name designs) creates.0 last creates.2 in
    view_moved fails cast s name cell r designs start fills.0 last holds
    (tables_moved fails cast s cell r designs start copies.0 creates.0 fills.0 is creates.1 fills.1) fills.2
