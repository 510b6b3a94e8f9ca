-- A sound run of the script ends without an error.
use Rattle.std.proofs.Common.{◌≡◌, ℕ, zero, suc, Bool, true, false, not, List, [], ◌∷◌, ◌++◌, length, map, replicate, Some, None, Option, refl, sym, ap, subst, ◌∙◌, ⊎_elim, arith}
use Rattle.std.proofs.lemmas.Bool.{eq-eqb}
use Rattle.std.proofs.lemmas.List.{length-map, length-replicate}
use Rattle.std.specs.Prelude.{Contains, slice_get, pos, if◌then◌else◌, is_some, option_map, option_and_then, codes}
use Rattle.std.specs.Set.{unique_keys}
use Rattle.schema_model.specs.Schemas.{Schema}
use Rattle.dep_model.specs.Projections.{members_below}
use Rattle.schema_model.specs.Schemas.{width_of, universe_of}
use Rattle.dep_model.specs.Tuples.{Relation}
use Rattle.dep_model.proofs.ListLemmas.{Contains-cases, Contains-map, map-member}
use Rattle.ddl_text.specs.declared.table.TableDesign.{TableDesign}
use Rattle.sql_syntax.specs.Names.{quoted_name}
use Rattle.sql_syntax.specs.Syntax.{Scalar, number_zero, number_one, missing_value, helper, count, equals, unnamed, groups_by, rows_where, each_row, Query}
use Rattle.sql_syntax.specs.Statements.{Statement, remark, begin, commit, create_from, create_view, create_zeros, insert_all, drop_table}
use Rattle.sql_evaluation.specs.Cells.{Cell, missing, number, same_row}
use Rattle.sql_evaluation.specs.Values.{each, look_at, View, value, holds}
use Rattle.sql_evaluation.specs.Evaluation.{Rows, Engine, taken, row_view, item_value, with_items, selected, no_view, row_of_values, appended, is_among, without, excepted, evaluate}
use Rattle.sql_evaluation.specs.Running.{Held, table, view, State, Cast, Fails, rows_of_table, rows_found, engine_at, with_name, made, filled, inserted, tried, done, ended, unless_error, run, outcome}
use Rattle.sql_check.specs.Columns.{name_at}
use Rattle.sql_check_laws.specs.HeldRelations.{Holds}
use Rattle.sql_check_laws.proofs.CellLemmas.{same_row-decides}
use Rattle.sql_check_laws.proofs.RowLemmas.{filter-none, none_is_not_some}
use Rattle.sql_check_laws.proofs.EachLemmas.{filter-known}
use Rattle.sql_check_laws.proofs.ValuesLemmas.{cells_on, names_on}
use Rattle.sql_migrate.specs.declared.moving.Move.TheVariants.{Returning}
use Rattle.sql_migrate.specs.Moving.{moved_on}
use Rattle.ddl_text.specs.Ddl.{tables_made}
use Rattle.sql_migrate.specs.Script.{copy_name, view_name, test_name, copy_query, fill, view_query, width_query, table_rows, viewed_rows, count_of, lacked, gained, testing, work, migration}
use Rattle.sql_migrate_laws.proofs.RunLemmas.{steps, closed, run_steps, no_commit_work}
use Rattle.sql_migrate_laws.proofs.StepLemmas.{at_name, past_name, Keeps}
use Rattle.sql_migrate_laws.proofs.GrowingLemmas.{still-known, still-holds, keeps_past}
use Rattle.sql_migrate_laws.proofs.RowLemmas.{copied, IsCopied, copy-known, table-gives}
use Rattle.sql_migrate_laws.specs.Ending.{IsSoundRun}
use Rattle.sql_migrate_laws.proofs.EnteredLemmas.{Cells}
use Rattle.sql_migrate_laws.proofs.FullLemmas.{got_member}
use Rattle.sql_migrate_laws.proofs.JoinedLemmas.{with_names}
use Rattle.sql_migrate_laws.proofs.JoinedViewLemmas.{HasDesign}
use Rattle.sql_migrate_laws.proofs.EndedViewLemmas.{GivesRelation, viewed-known}
use Rattle.sql_migrate_laws.proofs.StageLemmas.{IsAt, got_at, goes_on}
use Rattle.sql_migrate_laws.proofs.MakingLemmas.{follow_all, step_next, steps_append, made_free, tables_make, tables_fill}

-- ---- names
copy_not_view : copy_name ≡ view_name → ⊥
copy_not_view e = let long = ap (λ (bytes : List ℕ). length bytes) e in omega (arith, long)

copy_not_test : copy_name ≡ test_name → ⊥
copy_not_test e = let long = ap (λ (bytes : List ℕ). length bytes) e in omega (arith, long)

view_not_test : view_name ≡ test_name → ⊥
view_not_test e = let long = ap (λ (bytes : List ℕ). length bytes) e in omega (arith, long)

-- ---- an empty difference
among : (rows : List (List Cell)) (row : List Cell) → Contains rows row → is_among rows row ≡ true
among [] row h = absurd (omega (arith, h.1))
among (first ∷ rows) row h = ⊎_elim
    (λ (same : row ≡ first). let here : same_row row first ≡ true = (same_row-decides row first).1 same in grind (arith, here))
    (λ later. let there : is_among rows row ≡ true = among rows row later in grind (arith, there))
    (Contains-cases first rows row h)

none_beyond : (rows others : List (List Cell)) → ((row : List Cell) → Contains rows row → Contains others row) → without rows others ≡ []
none_beyond rows others within =
    ap (unique_keys same_row)
    (filter-known (λ row. not (is_among others row)) (λ row. false) rows (λ row h. ap not (among others row (within row h))) ∙ filter-none rows)

-- ---- a test of the columns
-- a row of missing values
missing_row : (cast : Cast) (n : ℕ) → each (value cast no_view) (replicate n missing_value) ≡ Some (replicate n missing)
missing_row cast zero = refl
missing_row cast (suc n) = ap (option_map (λ (row : List Cell). missing ∷ row)) (missing_row cast n)

none_taken : (cast : Cast) (views : List View) → taken (λ v. holds cast v (equals number_one number_zero)) views ≡ Some []
none_taken cast [] = refl
none_taken cast (v ∷ views) = ap (option_map (λ (rest : List View). rest)) (none_taken cast views)

-- no row, but of as many columns
abbrev no_row : Rows
no_row = record { names = [] ∷ []; rows = [] }

width-gives : (e : Engine) (name : List ℕ) (s : Schema) (given : Rows) → e.tables name ≡ Some given → length given.names ≡ width_of s
    → evaluate e (width_query s name) ≡ Some no_row
unfolding width_query
width-gives e name s given known wide =
    let n = width_of s in
    let values = replicate n missing_value in
    let row : Rows = record { names = map (λ (x : Scalar). []) values; rows = replicate n missing ∷ [] } in
    let both : Rows = record { names = given.names; rows = given.rows ++ row.rows } in
    let items = unnamed number_zero ∷ [] in
    let go = selected e.cast false items (codes "d") (rows_where (equals number_one number_zero)) in
    let names_are : length given.names ≡ length row.names = wide ∙ sym (length-map values (λ (x : Scalar). []) ∙ length-replicate n missing_value) in
    ap (λ (found : Option Rows). option_and_then go (option_and_then (λ (a : Rows). option_and_then (appended a) (row_of_values e.cast values)) found)) known
    ∙ ap (λ (cells : Option (List Cell)). option_and_then go (option_and_then (appended given)
    (option_map (λ (row' : List Cell). record { names = map (λ (x : Scalar). []) values; rows = row' ∷ [] }) cells))) (missing_row e.cast n)
    ∙ ap (λ (b : Bool). option_and_then go (if b then Some both else None)) (eq-eqb (length given.names) (length row.names) names_are)
    ∙ ap (λ (views : Option (List View)). option_map (with_items false items) (option_and_then (each (λ (v : View). each (item_value e.cast v) items)) views))
    (none_taken e.cast (map row_view (map (look_at (codes "d") both.names) both.rows)))

-- ---- a count of no row
abbrev zero_row : Rows
zero_row = record { names = [] ∷ []; rows = (number (pos 0) ∷ []) ∷ [] }

none-counted : (e : Engine) (q : Query) (given : Rows) → evaluate e q ≡ Some given → given.rows ≡ [] → evaluate e (count_of q) ≡ Some zero_row
unfolding count_of
none-counted e q given is none =
    ap (option_and_then (selected e.cast false (unnamed count ∷ []) (codes "d") (groups_by [] None))) is
    ∙ ap (λ (rows : List (List Cell)). selected e.cast false (unnamed count ∷ []) (codes "d") (groups_by [] None) (with_names given.names rows)) none

module _ (fails : Fails) (cast : Cast) (s : Schema) (name : List ℕ) (cell : Cells) (r : Relation) (designs : List TableDesign) (start : State)
    (sound : IsSoundRun fails cast s name cell r designs start) where
  abbrev whole : ℕ
  whole = length designs

  -- all tables are filled, and the copy and the view are there
  record IsReady (z : State) : Type 0 where
    stage : IsAt s cast cell r designs whole whole z
    copy : IsCopied z s cell r
    view_is : z view_name ≡ Some (view (view_query s designs))
    keeps : Keeps start z

  -- what is no table of the design may change
  still_at : (m f : ℕ) (other : List ℕ) (held : Option Held) (z : State) → ((t : TableDesign) → Contains designs t → quoted_name t.name ≡ other → ⊥)
      → IsAt s cast cell r designs m f z → IsAt s cast cell r designs m f (with_name other held z)
  still_at m f other held z free at =
      let same : (k : ℕ) (t : TableDesign) → slice_get designs k ≡ Some t → with_name other held z (quoted_name t.name) ≡ z (quoted_name t.name) =
      λ k t got. past_name other (quoted_name t.name) held z (free t (got_member designs k t got)) in
      record {
        none = λ k t got low. same k t got ∙ at.none k t got low;
        new = λ k t got low still. same k t got ∙ at.new k t got low still;
        full = λ k t got low. same k t got ∙ at.full k t got low;
      }

  still_ready : (other : List ℕ) (held : Option Held) (z : State) → ((t : TableDesign) → Contains designs t → quoted_name t.name ≡ other → ⊥)
      → (copy_name ≡ other → ⊥) → (view_name ≡ other → ⊥) → start other ≡ None → IsReady z → IsReady (with_name other held z)
  still_ready other held z free not_copy not_view was_none ready = record {
    stage = still_at whole whole other held z free ready.stage;
    copy = past_name other copy_name held z not_copy ∙ ready.copy;
    view_is = past_name other view_name held z not_view ∙ ready.view_is;
    keeps = keeps_past start z (with_name other held z) other ready.keeps was_none (λ name' differ. past_name other name' held z differ);
  }

  -- the user's table is there
  still_held : (z : State) → IsReady z → Holds (engine_at cast z) name s cell r
  still_held z ready = still-holds cast name s cell r start z ready.keeps sound.holds

  -- ---- the two queries of the test
  viewed-gives : (z : State) → IsReady z → GivesRelation s cell r (evaluate (engine_at cast z) (viewed_rows s))
  unfolding viewed_rows
  viewed-gives z ready =
      let e : Engine = record { tables = λ other. rows_of_table (z other); cast = cast } in
      let known : HasDesign e s cast cell r designs = λ t h. ap rows_of_table (ready.stage.full h.0 t (got_at designs t h) h.1) in
      let gives = viewed-known cast s cell r sound.casts sound.integers sound.holds.apart sound.none_missing sound.comparable e designs sound.fits sound.legal
      sound.tidy sound.lossless known in
      let same = ap (λ (held : Option Held). option_and_then (selected cast false (moved_on s Returning (universe_of s)) (codes "j") each_row) (rows_found cast z held)) ready.view_is in
      record { rows = gives.rows; is = same ∙ gives.is; long = gives.long; from = gives.from; to = gives.to }

  -- none of the table is lacked, and none is gained
  differs_none : (z : State) → IsReady z
      → (evaluate (engine_at cast z) (count_of (lacked s name)) ≡ Some zero_row) × (evaluate (engine_at cast z) (count_of (gained s name)) ≡ Some zero_row)
  differs_none z ready =
      let e = engine_at cast z in
      let seen = viewed-gives z ready in
      let kept = table-gives e name s cell r (still_held z ready) in
      let all = map (cells_on s cell (universe_of s)) r in
      let held : Rows = record { names = names_on s (universe_of s); rows = all } in
      let long : length held.names ≡ length seen.rows.names =
      length-map (members_below (width_of s) (universe_of s)) (name_at s) ∙ sym seen.long in
      let first = λ (row : List Cell) (h : Contains all row).
      let of = map-member (cells_on s cell (universe_of s)) r row h in subst (Contains seen.rows.rows) of.2 (seen.to of.0 of.1) in
      let second = λ (row : List Cell) (h : Contains seen.rows.rows row).
      let of = seen.from row h in subst (Contains all) (sym of.2) (Contains-map (cells_on s cell (universe_of s)) r of.0 of.1) in
      let lacks : evaluate e (lacked s name) ≡ Some (with_names held.names (without all seen.rows.rows)) =
      ap (option_and_then (λ a. option_and_then (excepted a) (evaluate e (viewed_rows s)))) kept
      ∙ ap (option_and_then (excepted held)) seen.is
      ∙ ap (λ (b : Bool). if b then Some (with_names held.names (without all seen.rows.rows)) else None) (eq-eqb (length held.names) (length seen.rows.names) long) in
      let gains : evaluate e (gained s name) ≡ Some (with_names seen.rows.names (without seen.rows.rows all)) =
      ap (option_and_then (λ a. option_and_then (excepted a) (evaluate e (table_rows s name)))) seen.is
      ∙ ap (option_and_then (excepted seen.rows)) kept
      ∙ ap (λ (b : Bool). if b then Some (with_names seen.rows.names (without seen.rows.rows all)) else None) (eq-eqb (length seen.rows.names) (length held.names) (sym long)) in
      (none-counted e (lacked s name) _ lacks (none_beyond all seen.rows.rows first), none-counted e (gained s name) _ gains (none_beyond seen.rows.rows all second))

  -- ---- the test
  -- a zero more in the table of the test
  abbrev zeros_and : List (List Cell) → Rows
  zeros_and rows = record { names = codes "n" ∷ []; rows = rows ++ (number (pos 0) ∷ []) ∷ [] }

  test_passes : (q : Query) (z : State) (rows : List (List Cell)) → IsReady z → z test_name ≡ Some (table true (with_names (codes "n" ∷ []) rows))
      → evaluate (engine_at cast z) (count_of q) ≡ Some zero_row
      → (tried fails cast (insert_all test_name (count_of q)) z ≡ Some (with_name test_name (Some (table true (zeros_and rows))) z))
      × IsReady (with_name test_name (Some (table true (zeros_and rows))) z)
  test_passes q z rows ready there counts =
      let held = Some (table true (zeros_and rows)) in
      let next = still_ready test_name held z sound.free.not_test copy_not_test view_not_test sound.free.test ready in
      let is : done cast (insert_all test_name (count_of q)) z ≡ Some (with_name test_name held z) =
      ap (option_and_then (inserted test_name z)) counts
      ∙ ap (λ (old : Option Held). option_map (λ h. with_name test_name (Some h) z) (filled old zero_row)) there in
      (goes_on fails cast s name cell r designs start sound whole whole (insert_all test_name (count_of q)) z (with_name test_name held z) (omega arith) next.stage is, next)

  -- the test of the columns puts nothing into its table
  width_passes : (z : State) → IsReady z → z test_name ≡ Some (table true (with_names (codes "n" ∷ []) []))
      → (tried fails cast (insert_all test_name (width_query s name)) z ≡ Some (with_name test_name (Some (table true (with_names (codes "n" ∷ []) []))) z))
      × IsReady (with_name test_name (Some (table true (with_names (codes "n" ∷ []) []))) z)
  width_passes z ready there =
      let held = Some (table true (with_names (codes "n" ∷ []) [])) in
      let next = still_ready test_name held z sound.free.not_test copy_not_test view_not_test sound.free.test ready in
      let is : done cast (insert_all test_name (width_query s name)) z ≡ Some (with_name test_name held z) =
      ap (option_and_then (inserted test_name z)) (width-gives (engine_at cast z) name s sound.holds.given
      (still-known cast name start z sound.holds.given ready.keeps sound.holds.known) sound.whole)
      ∙ ap (λ (old : Option Held). option_map (λ h. with_name test_name (Some h) z) (filled old no_row)) there in
      (goes_on fails cast s name cell r designs start sound whole whole (insert_all test_name (width_query s name)) z (with_name test_name held z) (omega arith) next.stage is, next)

  -- from the view on
  abbrev words : List ℕ
  words = codes "an error here undoes all: the view would lack a row of the table, or have one more"

  abbrev width_words : List ℕ
  width_words = codes "an error here: the table has other columns than the schema"

  tested : (z : State) → IsReady z → z test_name ≡ None → (last : State) × (steps fails cast (testing s name) z ≡ Some last) × IsAt s cast cell r designs whole whole last
  tested z ready free =
      let go = goes_on fails cast s name cell r designs start sound whole whole in
      let empty : Rows = record { names = codes "n" ∷ []; rows = [] } in
      let one = with_name test_name (Some (table true empty)) z in
      let ready_one = still_ready test_name (Some (table true empty)) z sound.free.not_test copy_not_test view_not_test sound.free.test ready in
      let zeros = go (create_zeros test_name (helper (codes "n"))) z one (omega arith) ready_one.stage (made_free test_name (table true empty) z free) in
      let wide = with_name test_name (Some (table true empty)) one in
      let width = width_passes one ready_one (at_name test_name (Some (table true empty)) z) in
      let two = with_name test_name (Some (table true (zeros_and []))) wide in
      let first = test_passes (lacked s name) wide [] width.1 (at_name test_name (Some (table true empty)) one) (differs_none wide width.1).0 in
      let three = with_name test_name (Some (table true (zeros_and ((number (pos 0) ∷ []) ∷ [])))) two in
      let second = test_passes (gained s name) two ((number (pos 0) ∷ []) ∷ []) first.1 (at_name test_name (Some (table true (zeros_and []))) wide) (differs_none two first.1).1 in
      let four = with_name test_name None three in
      let ready_four = still_ready test_name None three sound.free.not_test copy_not_test view_not_test sound.free.test second.1 in
      let there = at_name test_name (Some (table true (zeros_and ((number (pos 0) ∷ []) ∷ [])))) two in
      let drop_test = go (drop_table test_name) three four (omega arith) ready_four.stage
      (ap (λ (held : Option Held). if is_some held then Some four else None) there) in
      let five = with_name copy_name None four in
      let stage_five = still_at whole whole copy_name None four sound.free.not_copy ready_four.stage in
      let drop_copy = go (drop_table copy_name) four five (omega arith) stage_five
      (ap (λ (held : Option Held). if is_some held then Some five else None) ready_four.copy) in
      let drops : List Statement = drop_table test_name ∷ drop_table copy_name ∷ [] in
      let from_gained : List Statement = insert_all test_name (count_of (gained s name)) ∷ drops in
      let from_lacked : List Statement = insert_all test_name (count_of (lacked s name)) ∷ from_gained in
      let after_width : List Statement = remark words ∷ from_lacked in
      let from_width : List Statement = insert_all test_name (width_query s name) ∷ after_width in (
        five,
        step_next fails cast (create_zeros test_name (helper (codes "n"))) (remark width_words ∷ from_width) z one (Some five) zeros
            (step_next fails cast (remark width_words) from_width one one (Some five) (go (remark width_words) one one (omega arith) ready_one.stage refl)
            (step_next fails cast (insert_all test_name (width_query s name)) after_width one wide (Some five) width.0
            (step_next fails cast (remark words) from_lacked wide wide (Some five) (go (remark words) wide wide (omega arith) width.1.stage refl)
            (step_next fails cast (insert_all test_name (count_of (lacked s name))) from_gained wide two (Some five) first.0
            (step_next fails cast (insert_all test_name (count_of (gained s name))) drops two three (Some five) second.0
            (step_next fails cast (drop_table test_name) (drop_table copy_name ∷ []) three four (Some five) drop_test
            (step_next fails cast (drop_table copy_name) [] four five (Some five) drop_copy refl))))))),
        stage_five,
      )

  -- ---- the work
  worked : (last : State) × (steps fails cast (work s name designs) start ≡ Some last) × IsAt s cast cell r designs whole whole last
  worked =
      let free = sound.free in
      let copy = Some (table false (copied s cell r)) in
      let one = with_name copy_name copy start in
      let at_start : IsAt s cast cell r designs 0 0 start = record {
        none = λ k t got low. free.each t (got_member designs k t got);
        new = λ k t got low still. absurd (omega (arith, low));
        full = λ k t got low. absurd (omega (arith, low));
      } in
      let at_one = still_at 0 0 copy_name copy start free.not_copy at_start in
      let copies : done cast (create_from copy_name (copy_query s name)) start ≡ Some one =
      ap (option_and_then (λ rows. made copy_name (table false rows) start)) (copy-known (engine_at cast start) name s cell r sound.holds)
      ∙ made_free copy_name (table false (copied s cell r)) start free.copy in
      let two = tables_make fails cast s name cell r designs start sound designs 0 one (follow_all designs) (omega arith) at_one in
      let copy_two : IsCopied two.0 s cell r = two.3 copy_name free.not_copy ∙ at_name copy_name copy start in
      let three = tables_fill fails cast s name cell r designs start sound designs 0 two.0 (follow_all designs) (omega arith) two.2 copy_two in
      let show = Some (view (view_query s designs)) in
      let four = with_name view_name show three.0 in
      let keeps : (other : List ℕ) → ((t : TableDesign) → Contains designs t → quoted_name t.name ≡ other → ⊥) → (other ≡ copy_name → ⊥) → three.0 other ≡ start other =
      λ other away differ. three.3 other away ∙ two.3 other away ∙ past_name copy_name other copy start differ in
      let shows : done cast (create_view view_name (view_query s designs)) three.0 ≡ Some four =
      made_free view_name (view (view_query s designs)) three.0 (keeps view_name free.not_view (λ e. copy_not_view (sym e)) ∙ free.view) in
      let ready : IsReady four = record {
        stage = still_at whole whole view_name show three.0 free.not_view three.2;
        copy = past_name view_name copy_name show three.0 copy_not_view ∙ three.3 copy_name free.not_copy ∙ copy_two;
        view_is = at_name view_name show three.0;
        keeps = λ other held there.
            let differs : (gone : List ℕ) → start gone ≡ None → gone ≡ other → ⊥ =
            λ gone none same. none_is_not_some held (sym none ∙ ap start same ∙ there) in
            past_name view_name other show three.0 (λ same. differs view_name free.view (sym same))
            ∙ keeps other (λ t h same. differs (quoted_name t.name) (free.each t h) same) (λ same. differs copy_name free.copy (sym same)) ∙ there;
      } in
      let test_free : four test_name ≡ None =
      past_name view_name test_name show three.0 (λ e. view_not_test (sym e)) ∙ keeps test_name free.not_test (λ e. copy_not_test (sym e)) ∙ free.test in
      let end = tested four ready test_free in
      let after_fills : List Statement = create_view view_name (view_query s designs) ∷ testing s name in
      let after_tables : List Statement = map (fill s) designs ++ after_fills in
      let after_copy : List Statement = tables_made s designs designs ++ after_tables in (
        end.0,
        step_next fails cast (create_from copy_name (copy_query s name)) after_copy start one (Some end.0)
            (goes_on fails cast s name cell r designs start sound 0 0 (create_from copy_name (copy_query s name)) start one (omega arith) at_one copies)
            (steps_append fails cast (tables_made s designs designs) after_tables one two.0 end.0 two.1
            (steps_append fails cast (map (fill s) designs) after_fills two.0 three.0 end.0 three.1
            (step_next fails cast (create_view view_name (view_query s designs)) (testing s name) three.0 four (Some end.0)
            (goes_on fails cast s name cell r designs start sound whole whole (create_view view_name (view_query s designs)) three.0 four (omega arith) ready.stage shows)
            end.1))),
        end.2,
      )

  -- ---- the run
  pub run_ends : (last : State) × (outcome fails cast (migration s name designs) start ≡ ended last)
  run_ends =
      let go = goes_on fails cast s name cell r designs start sound in
      let at_start : IsAt s cast cell r designs 0 0 start = record {
        none = λ k t got low. sound.free.each t (got_member designs k t got);
        new = λ k t got low still. absurd (omega (arith, low));
        full = λ k t got low. absurd (omega (arith, low));
      } in
      let all = work s name designs in
      let opening = codes "all of it or nothing, where the first error ends it: psql -v ON_ERROR_STOP=1, sqlite3 -bail" in
      let end = worked in (
        end.0,
        ap (unless_error start (λ next. run fails cast (begin ∷ (all ++ commit ∷ [])) false next next)) (go 0 0 (remark opening) start start (omega arith) at_start refl)
            ∙ ap (unless_error start (λ next. run fails cast (all ++ commit ∷ []) true next next)) (go 0 0 begin start start (omega arith) at_start refl)
            ∙ run_steps fails cast all start start (no_commit_work s name designs)
            ∙ ap (unless_error start (closed fails cast start)) end.1
            ∙ ap (unless_error start (λ n. ended n)) (go whole whole commit end.0 end.0 (omega arith) end.2 refl),
      )
