-- The query of a functional dependency.
use Rattle.std.proofs.Common.{◌≡◌, ◌<◌, ℕ, Bool, true, false, List, [], ◌∷◌, length, get_or, map, filter, Some, Option, refl, sym, ap, subst, ◌∙◌, arith}
use Rattle.std.proofs.lemmas.Bool.{ltb-true}
use Rattle.std.proofs.lemmas.Bool.Decides.{nat_tests}
use Rattle.std.proofs.lemmas.List.{get_or-map, length-map}
use Rattle.std.specs.Int.Signed.{lt_z}
use Rattle.std.specs.Prelude.{◌↔◌, ℤ, pos, nat_lt, Contains, option_map, option_and_then, codes}
use Rattle.attr_sets.specs.Attributes.{Attributes, count_below, IsSubset}
use Rattle.schema_model.specs.Schemas.{Schema}
use Rattle.dep_model.specs.Projections.{members_below, project_tuple}
use Rattle.schema_model.specs.Schemas.{width_of, universe_of}
use Rattle.dep_model.specs.Tuples.{Tuple, Relation, value_at, AgreeOn, IsOver}
use Rattle.dep_model.proofs.DistinctLemmas.{filter-member, filter-keeps}
use Rattle.dep_model.proofs.ListLemmas.{Contains-head, Contains-map, map-member}
use Rattle.dep_model.proofs.SchemeLemmas.{members_below-at}
use Rattle.dep_model.proofs.TupleLemmas.{IsOver-length}
use Rattle.dep_model.proofs.TwoRowLemmas.{AgreeOn-refl}
use Rattle.sql_check_laws.proofs.CountLemmas.{two_of, of_two}
use Rattle.sql_syntax.specs.Names.{is_not_empty}
use Rattle.sql_syntax.specs.Syntax.{count, number_one, exceeds, Condition, groups_by}
use Rattle.relation_queries.specs.Queries.{several}
use Rattle.relation_queries.specs.Meanings.{GivesNone}
use Rattle.sql_check.specs.Columns.{columns_on, items_on}
use Rattle.sql_check.specs.Checks.{line_item, groups_of_several}
use Rattle.sql_evaluation.specs.Cells.{Cell, missing, number, same_row}
use Rattle.sql_evaluation.specs.Values.{each, Look, View, holds}
use Rattle.sql_evaluation.specs.Evaluation.{Engine, group_view, having_true, item_name, item_value, with_items, selected, evaluate}
use Rattle.sql_check_laws.specs.HeldRelations.{compared_cell, Holds}
use Rattle.sql_check_laws.proofs.EachLemmas.{each-known, each-map, taken-known, map-known}
use Rattle.sql_check_laws.proofs.CellLemmas.{same_row-decides, member_of, place_low}
use Rattle.sql_check_laws.proofs.ValuesLemmas.{cells_on, values_of, values-known}
use Rattle.sql_check_laws.proofs.GroupLemmas.{Cells, look, pick, pick-cells, row-value, class_of, looks_of, groups-known, class-known, items-shown, taken-map}

-- ---- tuples that agree
pub agree-cells : (s : Schema) (cell : Cells) (x : Attributes) (t u : Tuple) → AgreeOn x t u → cells_on s cell x t ≡ cells_on s cell x u
agree-cells s cell x t u agree =
    map-known (λ (k : ℕ). compared_cell cell k (value_at t k)) (λ (k : ℕ). compared_cell cell k (value_at u k)) (members_below (width_of s) x)
    (λ k h. ap (compared_cell cell k) (agree k (member_of (width_of s) x k h).1))

pub cells-agree : (e : Engine) (table : List ℕ) (s : Schema) (cell : Cells) (r : Relation) (x : Attributes) (t u : Tuple) → Holds e table s cell r
    → IsSubset x (universe_of s) → Contains r t → Contains r u → cells_on s cell x t ≡ cells_on s cell x u → AgreeOn x t u
cells-agree e table s cell r x t u held within ht hu same k inside =
    let low : k < width_of s = ltb-true k (width_of s) (within k inside) in
    let at = λ (v : Tuple). get_or-map (λ (j : ℕ). compared_cell cell j (value_at v j)) (members_below (width_of s) x) (count_below x k) k missing (place_low (width_of s) x k low inside) in
    let here = members_below-at (width_of s) x k k low inside in
    held.apart k low t u ht hu
    (sym (at t ∙ ap (λ (j : ℕ). compared_cell cell j (value_at t j)) here)
    ∙ ap (λ (row : List Cell). get_or row (count_below x k) missing) same
    ∙ at u ∙ ap (λ (j : ℕ). compared_cell cell j (value_at u j)) here)

-- ---- the query
abbrev pub more_than_one : Schema → Cells → Attributes → Attributes → Relation → List Cell → Bool
more_than_one s cell w x r key = nat_lt 1 (length (class_of s cell w x r key))

abbrev pub test_of_several : Condition
test_of_several = exceeds count number_one

group-tested : (s : Schema) (cast : List ℕ → Option ℤ) (cell : Cells) (w x : Attributes) (r : Relation) (key : List Cell) → IsSubset x w
    → holds cast (group_view (columns_on s (codes "d") x) (looks_of s cell w r) key) test_of_several ≡ Some (more_than_one s cell w x r key)
group-tested s cast cell w x r key within =
    ap (λ (rows : List Look). Some (lt_z (pos 1) (pos (length rows)))) (class-known s cell w x r key within)
    ∙ ap (λ (n : ℕ). Some (lt_z (pos 1) (pos n))) (length-map (class_of s cell w x r key) (look s w))

-- a row after the line of a dependency
abbrev pub after_line : ℕ → List Cell → List Cell
after_line line row = number (pos line) ∷ row

pub several-known : (e : Engine) (table : List ℕ) (s : Schema) (cell : Cells) (r : Relation) (line : ℕ) (x w : Attributes) → Holds e table s cell r
    → IsSubset x w → is_not_empty (columns_on s (codes "d") x) ≡ true
    → evaluate e (groups_of_several s table line x w)
    ≡ Some (record {
      names = codes "line" ∷ map item_name (items_on s (codes "d") x);
      rows = map (after_line line) (filter (more_than_one s cell w x r) (values_of s cell x r));
    })
unfolding groups_of_several
several-known e table s cell r line x w held within not_empty =
    let columns = columns_on s (codes "d") x in
    let items = line_item line ∷ items_on s (codes "d") x in
    let looks = looks_of s cell w r in
    let keys = values_of s cell x r in
    let test = more_than_one s cell w x r in
    let shown = λ (v : View). each (item_value e.cast v) items in
    ap (option_and_then (selected e.cast false items (codes "d") (groups_by columns (Some test_of_several)))) (values-known e table s cell r w held)
    ∙ ap (λ (views : Option (List View)). option_map (with_items false items) (option_and_then (each shown) (option_and_then (having_true e.cast (Some test_of_several)) views)))
    (groups-known s cell w x r within not_empty)
    ∙ ap (λ (views : Option (List View)). option_map (with_items false items) (option_and_then (each shown) views))
    (taken-map (λ (v : View). holds e.cast v test_of_several) (group_view columns looks) keys
    ∙ ap (option_map (map (group_view columns looks))) (taken-known (λ (key : List Cell). holds e.cast (group_view columns looks key) test_of_several) test keys
    (λ key h. group-tested s e.cast cell w x r key within)))
    ∙ ap (option_map (with_items false items))
    (each-map shown (group_view columns looks) (filter test keys)
    ∙ each-known (λ (key : List Cell). shown (group_view columns looks key)) (after_line line) (filter test keys)
    (λ key h. ap (option_map (after_line line)) (items-shown s e.cast cell x looks r key (filter-member test keys key h).0)))

-- ---- what it shows
pub nil_from_none : {X : Type 0} (xs : List X) → ((x : X) → Contains xs x → ⊥) → xs ≡ []
nil_from_none [] none = refl
nil_from_none (x ∷ xs) none = absurd (none x (Contains-head x xs))

pub shows_none : {X : Type 0} (xs : List X) (x : X) → xs ≡ [] → Contains xs x → ⊥
shows_none xs x empty h = let h' = subst (λ (ys : List _). Contains ys x) empty h in omega (arith, h'.1)

pub several-none : (e : Engine) (table : List ℕ) (s : Schema) (cell : Cells) (r : Relation) (x w : Attributes) → Holds e table s cell r → IsOver (width_of s) r
    → IsSubset x w → IsSubset w (universe_of s)
    → (filter (more_than_one s cell w x r) (values_of s cell x r) ≡ []) ↔ GivesNone (width_of s) (several x w) r
several-none e table s cell r x w held over within low = (to, from)
  where
    keys : List (List Cell)
    keys = values_of s cell x r

    rows : List (List Cell)
    rows = map (cells_on s cell w) r

    in_class : List Cell → List Cell → Bool
    in_class key row = same_row (pick s w x row) key

    to : filter (more_than_one s cell w x r) keys ≡ [] → GivesNone (width_of s) (several x w) r
    to empty a given =
        let u = given.gives.0 in
        let v = given.gives.1 in
        let found = given.gives.2 in
        let key = cells_on s cell x given.tuple in
        let of_u : cells_on s cell x u ≡ key = agree-cells s cell x u given.tuple found.first_agrees in
        let of_v : cells_on s cell x v ≡ key = agree-cells s cell x v given.tuple found.second_agrees in
        let more : 1 < length (class_of s cell w x r key) = of_two same_row same_row-decides (in_class key) rows (cells_on s cell w u) (cells_on s cell w v)
        (Contains-map (cells_on s cell w) r u found.first) (Contains-map (cells_on s cell w) r v found.second)
        ((same_row-decides (pick s w x (cells_on s cell w u)) key).1 (pick-cells s cell w x u within ∙ of_u))
        ((same_row-decides (pick s w x (cells_on s cell w v)) key).1 (pick-cells s cell w x v within ∙ of_v))
        (λ same. found.differ (cells-agree e table s cell r w u v held low found.first found.second same)) in
        let there : Contains keys key = subst (λ (z : List Cell). Contains keys z) of_u (row-value s cell x r u found.first) in
        shows_none (filter (more_than_one s cell w x r) keys) key empty
        (filter-keeps (more_than_one s cell w x r) keys key there (grind (arith, nat_tests, more)))

    from : GivesNone (width_of s) (several x w) r → filter (more_than_one s cell w x r) keys ≡ []
    from none = nil_from_none (filter (more_than_one s cell w x r) keys) (λ key h.
        let at = filter-member (more_than_one s cell w x r) keys key h in
        let two = two_of same_row same_row-decides (in_class key) rows (ltb-true 1 (length (class_of s cell w x r key)) at.1) in
        let u = map-member (cells_on s cell w) r two.0 two.2 in
        let v = map-member (cells_on s cell w) r two.1 two.3 in
        let of_u : cells_on s cell x u.0 ≡ key = sym (pick-cells s cell w x u.0 within) ∙ ap (pick s w x) u.2 ∙ (same_row-decides (pick s w x two.0) key).0 two.4 in
        let of_v : cells_on s cell x v.0 ≡ key = sym (pick-cells s cell w x v.0 within) ∙ ap (pick s w x) v.2 ∙ (same_row-decides (pick s w x two.1) key).0 two.5 in
        let x_low : IsSubset x (universe_of s) = λ k m. low k (within k m) in
        none (project_tuple x u.0) (record {
          tuple = u.0;
          over = IsOver-length (width_of s) r u.0 over u.1;
          gives = (
            u.0,
            v.0,
            record {
              first = u.1;
              second = v.1;
              first_agrees = AgreeOn-refl x u.0;
              second_agrees = cells-agree e table s cell r x v.0 u.0 held x_low v.1 u.1 (of_v ∙ sym of_u);
              differ = λ agree. two.6 (sym u.2 ∙ agree-cells s cell w u.0 v.0 agree ∙ v.2);
            },
          );
          values = refl;
        }))
