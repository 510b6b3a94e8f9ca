-- The tables that hold the projections of a relation break nothing that is stated of them.
use Rattle.std.proofs.Common.{◌≡◌, ◌<◌, ℕ, Bool, true, false, ◌||◌, List, [], ◌∷◌, length, map, Some, refl, sym, ap, ◌∙◌, inl, inr, ⊎_elim, arith}
use Rattle.std.proofs.lemmas.Bool.{cases_Bool, true≢false}
use Rattle.std.proofs.lemmas.Bool.Decides.{nat_tests}
use Rattle.std.proofs.lemmas.Map.Made.{AllPairs-from_IsDistinct, IsDistinct-from_count}
use Rattle.std.proofs.lemmas.Option.{get_or_from_slice_get, slice_get_within}
use Rattle.std.specs.List.{list_any}
use Rattle.std.specs.Prelude.{Contains, slice_get, option_map, option_and_then}
use Rattle.std.specs.Set.{unique_keys}
use Rattle.attr_sets.specs.Attributes.{Attributes, IsSubset}
use Rattle.sql_check_laws.proofs.CountLemmas.{equivalence, unique-unique}
use Rattle.ddl_text.specs.KeysAndReferences.{KeyHolds}
use Rattle.schema_model.specs.declared.column_type.ColumnType.TheVariants.{Integer}
use Rattle.schema_model.specs.Schemas.{Schema}
use Rattle.dep_model.specs.Projections.{members_below, project_tuple, ordered_projection}
use Rattle.schema_model.specs.Schemas.{width_of, universe_of}
use Rattle.dep_model.specs.Tuples.{Tuple, Relation, value_at}
use Rattle.dep_model.proofs.DistinctLemmas.{ordered_projection-same}
use Rattle.dep_model.proofs.JoinLemmas.{agree-from_projections}
use Rattle.dep_model.proofs.ListLemmas.{Contains-head, Contains-later, Contains-cases, Contains-map, cons_parts}
use Rattle.dep_model.proofs.SchemeLemmas.{AgreeIn-from}
use Rattle.sql_syntax.specs.Syntax.{attribute}
use Rattle.sql_check.specs.Columns.{name_at, type_at}
use Rattle.sql_evaluation.specs.Cells.{Cell, same_row, is_none}
use Rattle.sql_evaluation.specs.Values.{each, named_cell}
use Rattle.sql_evaluation.specs.Running.{Cast}
use Rattle.sql_evaluation.specs.Rules.{cells_in, is_any_missing, HasMissing, HasRepeated, HasUnmatched}
use Rattle.sql_check_laws.specs.HeldRelations.{compared_cell, AreApart, CastsIntegers}
use Rattle.sql_check_laws.specs.CheckedRules.{AreIntegers}
use Rattle.sql_check_laws.proofs.CellLemmas.{same_row-decides, names_on_apart, member_of, is_member_of}
use Rattle.sql_check_laws.proofs.ColumnLemmas.{named_cell-member}
use Rattle.sql_check_laws.proofs.EachLemmas.{each-known, each-map, map-known}
use Rattle.sql_check_laws.proofs.RowLemmas.{some_is}
use Rattle.sql_check_laws.proofs.ValuesLemmas.{names_on}
use Rattle.sql_syntax.specs.Names.{attribute_names}
use Rattle.sql_migrate_laws.proofs.EnteredLemmas.{Cells, entered, entered-apart, entered-none}
use Rattle.sql_migrate_laws.proofs.JoinedLemmas.{row_at, projected, row-projected, projected-row}
use Rattle.sql_migrate_laws.proofs.NameLemmas.{attribute_names-are}

-- ---- lists
none_missing_of : (f : ℕ → Cell) (ks : List ℕ) → ((k : ℕ) → Contains ks k → is_none (f k) ≡ false) → is_any_missing (map f ks) ≡ false
none_missing_of f [] there = refl
none_missing_of f (k ∷ ks) there =
    let here = there k (Contains-head k ks) in
    let later : list_any is_none (map f ks) ≡ false = none_missing_of f ks (λ m h. there m (Contains-later k ks m h)) in
    grind (arith, here, later)

none_missing_from : (f : ℕ → Cell) (ks : List ℕ) → is_any_missing (map f ks) ≡ false → (k : ℕ) → Contains ks k → is_none (f k) ≡ false
none_missing_from f [] none k h = absurd (omega (arith, h.1))
none_missing_from f (m ∷ ks) none k h = elim (cases_Bool (is_none (f m))) [
  | inl missing ↦ absurd (true≢false (sym (ap (λ (b : Bool). b || list_any is_none (map f ks)) missing) ∙ none))
  | inr there ↦
      let later : list_any is_none (map f ks) ≡ false = sym (ap (λ (b : Bool). b || list_any is_none (map f ks)) there) ∙ none in
      ⊎_elim (λ (is : k ≡ m). ap (λ (i : ℕ). is_none (f i)) is ∙ there) (λ after. none_missing_from f ks later k after) (Contains-cases m ks k h)
]

same_at : {X : Type 0} (f g : ℕ → X) (ks : List ℕ) (k : ℕ) → map f ks ≡ map g ks → Contains ks k → f k ≡ g k
same_at f g [] k same h = absurd (omega (arith, h.1))
same_at {X} f g (m ∷ ks) k same h =
    let parts = cons_parts (f m) (g m) (map f ks) (map g ks) same in
    ⊎_elim
    (λ (is : k ≡ m). ap f is ∙ parts.0 ∙ ap g (sym is))
    (λ later. same_at f g ks k parts.1 later)
    (Contains-cases m ks k h)

pub got_member : {X : Type 0} (xs : List X) (i : ℕ) (x : X) → slice_get xs i ≡ Some x → Contains xs x
got_member xs i x e = (i, slice_get_within xs i x e, get_or_from_slice_get xs i x x e)

-- no two of the rows that are each given once are the same
once_apart : (xs : List (List Cell)) (i j : ℕ) (a b : List Cell) → i < j → slice_get (unique_keys same_row xs) i ≡ Some a
    → slice_get (unique_keys same_row xs) j ≡ Some b → a ≡ b → ⊥
once_apart xs i j a b before at_i at_j same =
    let all = unique_keys same_row xs in
    let differ = AllPairs-from_IsDistinct same_row-decides all
    (IsDistinct-from_count (equivalence same_row same_row-decides) all (ap (λ (rows : List (List Cell)). length rows) (unique-unique same_row same_row-decides xs))) in
    differ i j a before (slice_get_within all j b at_j)
    (get_or_from_slice_get all i a a at_i ∙ same ∙ sym (get_or_from_slice_get all j b a at_j))

module _ (cast : Cast) (s : Schema) (cell : Cells) (r : Relation) (casts : CastsIntegers cast)
    (integers : (k : ℕ) → k < width_of s → type_at s k ≡ Integer → AreIntegers (compared_cell cell) r k)
    (apart : AreApart s cell r) where
  abbrev members : Attributes → List ℕ
  members x = members_below (width_of s) x

  -- ---- the values of a row
  cells-known : (x y : Attributes) (t : Tuple) → IsSubset y x
      → cells_in (projected s cast cell r x) (attribute_names s y) (row_at s cast cell (members x) (value_at t)) ≡ Some (row_at s cast cell (members y) (value_at t))
  cells-known x y t within =
      let row = row_at s cast cell (members x) (value_at t) in
      ap (each (named_cell (names_on s x) row)) (attribute_names-are s y)
      ∙ each-map (named_cell (names_on s x) row) (name_at s) (members y)
      ∙ each-known (λ (k : ℕ). named_cell (names_on s x) row (name_at s k)) (λ (k : ℕ). entered s cast cell k (value_at t k)) (members y)
      (λ k h.
      let m = member_of (width_of s) y k h in
      named_cell-member (name_at s) (λ (i : ℕ). entered s cast cell i (value_at t i)) (members x) k (names_on_apart s x)
      (is_member_of (width_of s) x k m.0 (within k m.1)))

  cells-of : (x y : Attributes) (row cells : List Cell) → IsSubset y x → Contains (projected s cast cell r x).rows row
      → cells_in (projected s cast cell r x) (attribute_names s y) row ≡ Some cells
      → (t : Tuple) × Contains r t × (row_at s cast cell (members x) (value_at t) ≡ row) × (row_at s cast cell (members y) (value_at t) ≡ cells)
  cells-of x y row cells within h e =
      let t = row-projected s cast cell r x row h in (
        t.0,
        t.1,
        t.2,
        some_is (row_at s cast cell (members y) (value_at t.0)) cells
            (sym (cells-known x y t.0 within) ∙ ap (cells_in (projected s cast cell r x) (attribute_names s y)) t.2 ∙ e),
      )

  -- ---- no value is missing that may not be
  pub column-there : (x : Attributes) (k : ℕ) → k < width_of s → x k ≡ true → ((t : Tuple) → Contains r t → is_none (cell k (value_at t k)) ≡ false)
      → HasMissing (projected s cast cell r x) (attribute (name_at s k) ∷ []) → ⊥
  column-there x k low inside present has =
      let t = row-projected s cast cell r x has.row has.member in
      let found = named_cell-member (name_at s) (λ (i : ℕ). entered s cast cell i (value_at t.0 i)) (members x) k (names_on_apart s x) (is_member_of (width_of s) x k low inside) in
      let cells : cells_in (projected s cast cell r x) (attribute (name_at s k) ∷ []) has.row ≡ Some (entered s cast cell k (value_at t.0 k) ∷ []) =
      ap (λ (row : List Cell). cells_in (projected s cast cell r x) (attribute (name_at s k) ∷ []) row) (sym t.2)
      ∙ ap (option_and_then (λ (y : Cell). option_map (λ (ys : List Cell). y ∷ ys) (Some []))) found in
      let are = some_is has.cells (entered s cast cell k (value_at t.0 k) ∷ []) (sym has.are ∙ cells) in
      let there = entered-none cast s cell r casts integers k t.0 low t.1 ∙ present t.0 t.1 in
      let missing : is_none (entered s cast cell k (value_at t.0 k)) || false ≡ true = ap is_any_missing (sym are) ∙ has.missing in
      absurd (grind (arith, missing, there))

  pub key-there : (x key : Attributes) → IsSubset key x
      → ((k : ℕ) → k < width_of s → key k ≡ true → (t : Tuple) → Contains r t → is_none (cell k (value_at t k)) ≡ false)
      → HasMissing (projected s cast cell r x) (attribute_names s key) → ⊥
  key-there x key within present has =
      let t = cells-of x key has.row has.cells within has.member has.are in
      let there = none_missing_of (λ k. entered s cast cell k (value_at t.0 k)) (members key) (λ k h.
      let m = member_of (width_of s) key k h in
      entered-none cast s cell r casts integers k t.0 m.0 t.1 ∙ present k m.0 m.1 t.0 t.1) in
      true≢false (sym has.missing ∙ ap is_any_missing (sym t.3) ∙ there)

  -- ---- keys hold
  pub key-once : (x key : Attributes) → IsSubset x (universe_of s) → IsSubset key x → KeyHolds x (ordered_projection x r) key
      → HasRepeated (projected s cast cell r x) (attribute_names s key) → ⊥
  key-once x key low within holds has =
      let all = projected s cast cell r x in
      let t = cells-of x key has.first has.cells within (got_member all.rows has.i has.first has.at_first) has.are_first in
      let u = cells-of x key has.second has.cells within (got_member all.rows has.j has.second has.at_second) has.are_second in
      let agree : (k : ℕ) → key k ≡ true → value_at t.0 k ≡ value_at u.0 k = λ k e.
      let inside = low k (within k e) in
      let short : k < width_of s = grind (arith, nat_tests, inside) in
      entered-apart cast s cell r casts integers apart k t.0 u.0 short t.1 u.1
      (same_at (λ (i : ℕ). entered s cast cell i (value_at t.0 i)) (λ (i : ℕ). entered s cast cell i (value_at u.0 i)) (members key) k (t.3 ∙ sym u.3)
      (is_member_of (width_of s) key k short e)) in
      let in_rows : (v : Tuple) → Contains r v → Contains (ordered_projection x r) (project_tuple x v) =
      λ v h. (ordered_projection-same x r (project_tuple x v)).0 (Contains-map (project_tuple x) r v h) in
      let same = holds (project_tuple x t.0) (project_tuple x u.0) (in_rows t.0 t.1) (in_rows u.0 u.1) (AgreeIn-from x key t.0 u.0 within agree) in
      let whole = agree-from_projections x t.0 u.0 same in
      once_apart (map (λ v. row_at s cast cell (members x) (value_at v)) r) has.i has.j has.first has.second has.before has.at_first has.at_second
      (sym t.2
      ∙ map-known (λ (k : ℕ). entered s cast cell k (value_at t.0 k)) (λ (k : ℕ). entered s cast cell k (value_at u.0 k)) (members x)
      (λ k h. ap (λ (v : List ℕ). entered s cast cell k v) (whole k (member_of (width_of s) x k h).1))
      ∙ u.2)

  -- ---- references hold
  -- of a tuple that misses none of the key the other table has a row
  pub key-matched : (other : Relation) (x y key : Attributes) → IsSubset key x → IsSubset key y
      → ((t : Tuple) → Contains r t → ((k : ℕ) → k < width_of s → key k ≡ true → is_none (cell k (value_at t k)) ≡ false) → Contains other t)
      → HasUnmatched (projected s cast cell r x) (attribute_names s key) (Some (projected s cast cell other y)) → ⊥
  key-matched other x y key in_x in_y there has =
      let t = cells-of x key has.row has.cells in_x has.member has.are in
      let present = none_missing_from (λ k. entered s cast cell k (value_at t.0 k)) (members key) (ap is_any_missing t.3 ∙ has.none_missing) in
      has.none_there (projected s cast cell other y) refl (row_at s cast cell (members y) (value_at t.0))
      (projected-row s cast cell other y t.0 (there t.0 t.1 (λ k low inside.
      sym (entered-none cast s cell r casts integers k t.0 low t.1) ∙ present k (is_member_of (width_of s) key k low inside))))
      (cells-known y key t.0 in_y ∙ ap (λ (cells : List Cell). Some cells) t.3)
