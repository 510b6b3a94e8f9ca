-- The rows of the view of the script, as they are compared.
use Rattle.std.proofs.Common.{◌≡◌, ◌<◌, ℕ, zero, suc, false, List, [], ◌∷◌, length, map, Some, Option, refl, sym, ap, subst, ◌∙◌, arith}
use Rattle.std.proofs.lemmas.Bool.Decides.{nat_tests}
use Rattle.std.proofs.lemmas.List.{length-map}
use Rattle.std.specs.Prelude.{Contains, option_map, option_and_then, codes}
use Rattle.attr_sets.specs.Attributes.{IsSubset}
use Rattle.attr_sets.specs.Sets.{attributes}
use Rattle.schema_model.specs.declared.column_type.ColumnType.TheVariants.{Integer}
use Rattle.schema_model.specs.Schemas.{Schema}
use Rattle.dep_model.specs.Projections.{members_below, IsLossless}
use Rattle.schema_model.specs.Schemas.{width_of, universe_of, theory_of, LegalFor}
use Rattle.dep_model.specs.Tuples.{Tuple, Relation, value_at}
use Rattle.dep_model.proofs.JoinLemmas.{IsProjected, in_join-from, projected-from}
use Rattle.dep_model.proofs.ListLemmas.{Contains-map, map-member}
use Rattle.optional_tables.specs.LookUps.{IsTidyFor}
use Rattle.ddl_text.specs.declared.table.TableDesign.{TableDesign}
use Rattle.ddl_text.specs.Designs.{keyed}
use Rattle.sql_syntax.specs.Syntax.{each_row}
use Rattle.sql_check.specs.Columns.{name_at, type_at}
use Rattle.sql_evaluation.specs.Cells.{Cell, text_of, followed_by}
use Rattle.sql_evaluation.specs.Values.{each, Look, look_at, View}
use Rattle.sql_evaluation.specs.Evaluation.{Rows, Engine, row_view, item_name, item_value, with_items, selected, evaluate}
use Rattle.sql_evaluation.specs.Running.{Cast}
use Rattle.sql_check_laws.specs.HeldRelations.{compared_cell, AreApart, CastsIntegers}
use Rattle.sql_check_laws.specs.CheckedRules.{NoneMissing, AreIntegers}
use Rattle.sql_check_laws.proofs.CellLemmas.{names_on_apart, member_of}
use Rattle.sql_check_laws.proofs.ColumnLemmas.{named_cell-member}
use Rattle.sql_check_laws.proofs.EachLemmas.{each-known, each-map, map-known}
use Rattle.sql_check_laws.proofs.RowLemmas.{each-some, some_is}
use Rattle.sql_check_laws.proofs.ValuesLemmas.{cells_on, names_on, followed_by_none}
use Rattle.sql_migrate.specs.declared.joining.JoinedTable.{JoinedTable}
use Rattle.sql_migrate.specs.declared.moving.Move.TheVariants.{Returning}
use Rattle.sql_migrate.specs.Moving.{moved_at, moved_on}
use Rattle.sql_migrate.specs.Script.{joined_tables, view_query}
use Rattle.sql_migrate_laws.specs.Ending.{AreComparable, FitsRelations}
use Rattle.sql_migrate_laws.specs.Moved.{missing_cells}
use Rattle.sql_migrate_laws.proofs.RowLemmas.{each-all, each-from}
use Rattle.sql_migrate_laws.proofs.EnteredLemmas.{Cells, entered, returned-known}
use Rattle.sql_migrate_laws.proofs.JoinedLemmas.{row_at, InEach}
use Rattle.sql_migrate_laws.proofs.JoinedViewLemmas.{HasDesign, view-known}
use Rattle.sql_migrate_laws.proofs.LookedUpLemmas.{as_joined}

-- ---- tuples of values
tuple_to : ℕ → (ℕ → List ℕ) → Tuple
tuple_to zero w = []
tuple_to (suc n) w = w 0 ∷ tuple_to n (λ k. w (suc k))

tuple_value : (n k : ℕ) (w : ℕ → List ℕ) → k < n → value_at (tuple_to n w) k ≡ w k
unfolding tuple_to
tuple_value zero k w low = absurd (omega (arith, low))
tuple_value (suc n) zero w low = refl
tuple_value (suc n) (suc k) w low = tuple_value n k (λ i. w (suc i)) (omega (arith, low))

tuple_long : (n : ℕ) (w : ℕ → List ℕ) → length (tuple_to n w) ≡ n
unfolding tuple_to
tuple_long zero w = refl
tuple_long (suc n) w = ap (λ (m : ℕ). suc m) (tuple_long n (λ k. w (suc k)))

-- what a query gives: exactly the rows of the relation, as they are compared
pub record GivesRelation (s : Schema) (cell : Cells) (r : Relation) (found : Option Rows) : Type 0 where
  pub rows : Rows
  pub is : found ≡ Some rows
  pub long : length rows.names ≡ length (members_below (width_of s) (universe_of s))
  pub from : (o : List Cell) → Contains rows.rows o → (t : Tuple) × Contains r t × (o ≡ cells_on s cell (universe_of s) t)
  pub to : (t : Tuple) → Contains r t → Contains rows.rows (cells_on s cell (universe_of s) t)

module _ (cast : Cast) (s : Schema) (cell : Cells) (r : Relation) (casts : CastsIntegers cast)
    (integers : (k : ℕ) → k < width_of s → type_at s k ≡ Integer → AreIntegers (compared_cell cell) r k)
    (apart : AreApart s cell r) (there : NoneMissing s cell r) (comparable : AreComparable s cell r) where
  -- ---- all attributes
  abbrev all_of : List ℕ
  all_of = members_below (width_of s) (universe_of s)

  -- ---- the rows of the view, as they are compared
  -- a tuple that has the values of a row
  row_tuple : (designs : List TableDesign) (w : ℕ → List ℕ) → LegalFor s r → ((x : JoinedTable) → Contains (joined_tables designs) x → IsSubset (attributes x.scheme) (universe_of s))
      → IsLossless (width_of s) (theory_of s) (map (λ design. attributes design.scheme) designs) → InEach s r (joined_tables designs) w
      → (t : Tuple) × Contains r t × ((k : ℕ) → k < width_of s → w k ≡ value_at t k)
  row_tuple designs w legal within lossless each =
      let t = tuple_to (width_of s) w in
      let long = tuple_long (width_of s) w in (
        t,
        lossless.gains_none r legal t (in_join-from (width_of s) (map (λ design. attributes design.scheme) designs) r t long (λ scheme h.
            let of = map-member (λ (design : TableDesign). attributes design.scheme) designs scheme h in
            let x = as_joined of.0 in
            let there = Contains-map as_joined designs of.0 of.1 in
            let u = each x there in
            subst (IsProjected r t) of.2 (projected-from (width_of s) r t u.0 (attributes x.scheme) legal.over long u.1 (λ k m.
            let inside = within x there k m in
            let low : k < width_of s = grind (arith, nat_tests, inside) in
            sym (tuple_value (width_of s) k w low ∙ u.2 k low m))))),
        λ k low. sym (tuple_value (width_of s) k w low),
      )

  -- a row of the view by its texts
  abbrev row_of_view : (ℕ → List ℕ) → View
  row_of_view w = row_view (look_at (codes "j") (names_on s (universe_of s)) (row_at s cast cell all_of w))

  item-returned : (w : ℕ → List ℕ) (k : ℕ) → Contains all_of k
      → item_value cast (row_of_view w) (moved_at s Returning k) ≡ Some (text_of (entered s cast cell k (w k)))
  item-returned w k h =
      ap (λ (found : Option Cell). option_map (followed_by []) (option_map text_of found))
      (named_cell-member (name_at s) (λ (i : ℕ). entered s cast cell i (w i)) all_of k (names_on_apart s (universe_of s)) h)
      ∙ ap (λ (c : Cell). Some c) (followed_by_none (entered s cast cell k (w k)))

  row-returned : (w : ℕ → List ℕ) (t : Tuple) → Contains r t → ((k : ℕ) → k < width_of s → w k ≡ value_at t k)
      → each (item_value cast (row_of_view w)) (moved_on s Returning (universe_of s)) ≡ Some (cells_on s cell (universe_of s) t)
  row-returned w t h same =
      each-map (item_value cast (row_of_view w)) (moved_at s Returning) all_of
      ∙ each-known (λ (k : ℕ). item_value cast (row_of_view w) (moved_at s Returning k)) (λ (k : ℕ). text_of (entered s cast cell k (w k))) all_of (λ k m. item-returned w k m)
      ∙ ap (λ (cells : List Cell). Some cells)
      (map-known (λ (k : ℕ). text_of (entered s cast cell k (w k))) (λ (k : ℕ). compared_cell cell k (value_at t k)) all_of (λ k m.
      let low = (member_of (width_of s) (universe_of s) k m).0 in
      ap (λ (v : List ℕ). text_of (entered s cast cell k v)) (same k low) ∙ returned-known cast s cell r casts integers k t low h))

  pub viewed-known : (e : Engine) (designs : List TableDesign) → FitsRelations s designs → LegalFor s r
      → ((design : TableDesign) → Contains designs design → IsTidyFor (missing_cells s cell) r (keyed design))
      → IsLossless (width_of s) (theory_of s) (map (λ design. attributes design.scheme) designs) → HasDesign e s cast cell r designs
      → GivesRelation s cell r (option_and_then (selected cast false (moved_on s Returning (universe_of s)) (codes "j") each_row) (evaluate e (view_query s designs)))
  viewed-known e designs fits legal tidy lossless known =
      let v = view-known cast s cell r casts integers apart there comparable designs fits legal tidy lossless e known in
      let items = moved_on s Returning (universe_of s) in
      let cells = λ (o : List Cell). each (item_value cast (row_view (look_at (codes "j") (names_on s (universe_of s)) o))) items in
      let row : (o : List Cell) → Contains v.rows.rows o → (t : Tuple) × Contains r t × (cells o ≡ Some (cells_on s cell (universe_of s) t)) =
      λ o h.
      let w = v.from o h in
      let t = row_tuple designs w.0 legal (λ x m. let of = map-member as_joined designs x m in
      subst (λ (y : JoinedTable). IsSubset (attributes y.scheme) (universe_of s)) of.2 (fits.within of.0 of.1)) lossless w.2 in
      (t.0, t.1, ap cells w.1 ∙ row-returned w.0 t.0 t.1 t.2) in
      let found = each-some cells v.rows.rows (λ o h. let t = row o h in (cells_on s cell (universe_of s) t.0, t.2)) in
      let is : each (λ (x : View). each (item_value cast x) items) (map row_view (map (look_at (codes "j") v.rows.names) v.rows.rows)) ≡ Some found.0 =
      ap (λ (names : List (List ℕ)). each (λ (x : View). each (item_value cast x) items) (map row_view (map (look_at (codes "j") names) v.rows.rows))) v.names
      ∙ each-map (λ (x : View). each (item_value cast x) items) row_view (map (look_at (codes "j") (names_on s (universe_of s))) v.rows.rows)
      ∙ each-map (λ (x : Look). each (item_value cast (row_view x)) items) (look_at (codes "j") (names_on s (universe_of s))) v.rows.rows
      ∙ found.1 in
      record {
        rows = with_items false items found.0;
        is = ap (option_and_then (selected cast false items (codes "j") each_row)) v.is ∙ ap (option_map (with_items false items)) is;
        long = length-map items item_name ∙ length-map all_of (moved_at s Returning);
        from = λ o h.
            let of = each-from cells v.rows.rows found.0 o found.1 h in
            let t = row of.0 of.1 in
            (t.0, t.1, some_is o (cells_on s cell (universe_of s) t.0) (sym of.2 ∙ t.2));
        to = λ t h.
            let o = row_at s cast cell all_of (value_at t) in
            let of = each-all cells v.rows.rows found.0 o found.1 (v.to t h) in
            subst (Contains found.0) (some_is of.0 (cells_on s cell (universe_of s) t) (sym of.2 ∙ row-returned (value_at t) t h (λ k low. refl))) of.1;
      }
