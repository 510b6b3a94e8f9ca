-- The rows of the copy that a table of the design is filled with: those that miss no value of its key.
use Rattle.std.proofs.Common.{◌≡◌, ◌<◌, ℕ, Bool, true, false, not, ◌&&◌, List, [], ◌∷◌, map, filter, cond, Some, Option, refl, sym, ap, subst, ◌∙◌, inl, inr, ⊎_elim, arith}
use Rattle.std.proofs.lemmas.Bool.{cases_Bool, true≢false, and_parts, and_from}
use Rattle.std.proofs.lemmas.Bool.Decides.{nat_tests}
use Rattle.std.specs.Prelude.{Contains, length, if◌then◌else◌, option_map, option_and_then, codes}
use Rattle.std.proofs.lemmas.List.Elements.{All-contains}
use Rattle.std.specs.List.{list_all}
use Rattle.std.specs.Set.{unique_keys}
use Rattle.attr_sets.specs.Attributes.{Attributes, intersection}
use Rattle.attr_sets.specs.Sets.{attributes}
use Rattle.attr_sets.proofs.AttributesLemmas.{same_truth}
use Rattle.schema_model.specs.Schemas.{Schema}
use Rattle.dep_model.specs.Projections.{members_below}
use Rattle.schema_model.specs.Schemas.{width_of, universe_of, nullable_of, LegalFor}
use Rattle.dep_model.specs.Tuples.{Tuple, Relation, value_at}
use Rattle.dep_model.proofs.DistinctLemmas.{filter-member}
use Rattle.dep_model.proofs.ListLemmas.{Contains-head, Contains-later, Contains-cases}
use Rattle.optional_tables.specs.LookUps.{misses_none, complete_tuples}
use Rattle.ddl_text.specs.Designs.{keyed}
use Rattle.ddl_text.specs.declared.table.TableDesign.{TableDesign}
use Rattle.sql_check_laws.specs.CheckedRules.{NoneMissing}
use Rattle.sql_check_laws.proofs.CountLemmas.{in_unique, from_unique}
use Rattle.sql_check_laws.proofs.CellLemmas.{same_row-decides, member_of, is_member_of}
use Rattle.sql_check_laws.proofs.EachLemmas.{each-map, filter-known}
use Rattle.sql_check_laws.proofs.ValuesLemmas.{names_on}
use Rattle.sql_evaluation.specs.Cells.{Cell, is_none, same_row}
use Rattle.sql_evaluation.specs.Values.{each, look_at, View, holds, of_both}
use Rattle.sql_evaluation.specs.Evaluation.{Rows, taken, row_view, views_of, item_value, with_items, selected, evaluate}
use Rattle.sql_evaluation.specs.Running.{Held, State, Cast, rows_found, engine_at}
use Rattle.sql_syntax.specs.Syntax.{Item}
use Rattle.sql_migrate.specs.declared.moving.Move.TheVariants.{Entering}
use Rattle.sql_migrate.specs.Moving.{moved_on}
use Rattle.sql_migrate.specs.Script.{has_value, have_values, rows_with, complete_rows, fill_query}
use Rattle.sql_migrate_laws.specs.Moved.{missing_cells, is_complete, complete_for, AreProjection}
use Rattle.sql_migrate_laws.proofs.StepLemmas.{map_some}
use Rattle.sql_migrate_laws.proofs.RowLemmas.{each-all, each-from, copied_on_set, copied, row_of_copy, cell-known, in_universe, entered-row, copy_views, IsCopied}
use Rattle.sql_migrate_laws.proofs.EnteredLemmas.{Cells, copied_none}

-- ---- tests of each member
pub all_pass : {X : Type 0} (p : X → Bool) (xs : List X) → list_all p xs ≡ true → (x : X) → Contains xs x → p x ≡ true
all_pass p [] e x h = absurd (omega (arith, h.1))
all_pass p (y ∷ ys) e x h =
    let both = and_parts (p y) (list_all p ys) e in
    ⊎_elim (λ (same : x ≡ y). ap p same ∙ both.0) (λ later. all_pass p ys both.1 x later) (Contains-cases y ys x h)

pub passes_all : {X : Type 0} (p : X → Bool) (xs : List X) → ((x : X) → Contains xs x → p x ≡ true) → list_all p xs ≡ true
passes_all p [] all = refl
passes_all p (y ∷ ys) all =
    and_from (p y) (list_all p ys) (all y (Contains-head y ys)) (passes_all p ys (λ x h. all x (Contains-later y ys x h)))

filter-all : {X : Type 0} (xs : List X) → filter (λ x. true) xs ≡ xs
filter-all [] = refl
filter-all (x ∷ xs) = ap (λ (rest : List _). x ∷ rest) (filter-all xs)

and_true : (b : Bool) → (b && true) ≡ b
and_true true = refl
and_true false = refl

not_true : (b : Bool) → not b ≡ true → b ≡ false
not_true true e = absurd (true≢false (sym e))
not_true false e = refl

-- ---- complete tuples
module _ (s : Schema) (cell : Cells) (key : Attributes) where
  abbrev there : Tuple → ℕ → Bool
  there t k = not (missing_cells s cell k (value_at t k))

  -- no value of the key is missing
  pub complete-present : (t : Tuple) → is_complete s cell key t ≡ true → (k : ℕ) → k < width_of s → key k ≡ true → nullable_of s k ≡ true
      → is_none (cell k (value_at t k)) ≡ false
  complete-present t e k low inside nullable =
      not_true (is_none (cell k (value_at t k)))
      (ap (λ (b : Bool). not (b && is_none (cell k (value_at t k)))) (sym nullable)
      ∙ all_pass (there t) (members_below (width_of s) key) e k (is_member_of (width_of s) key k low inside))

  pub complete-from : (t : Tuple) → ((k : ℕ) → k < width_of s → key k ≡ true → nullable_of s k ≡ true → is_none (cell k (value_at t k)) ≡ false)
      → is_complete s cell key t ≡ true
  complete-from t present = passes_all (there t) (members_below (width_of s) key) (λ k h.
      let m = member_of (width_of s) key k h in
      elim (cases_Bool (nullable_of s k)) [
        | inl nullable ↦ let is = present k m.0 m.1 nullable in grind (arith, nullable, is)
        | inr required ↦ grind (arith, required)
      ])

  -- a tuple with the same values of the key is complete too
  pub complete-same : (t u : Tuple) → is_complete s cell key u ≡ true → ((k : ℕ) → k < width_of s → key k ≡ true → value_at t k ≡ value_at u k)
      → is_complete s cell key t ≡ true
  complete-same t u e same = complete-from t (λ k low inside nullable.
      ap (λ (v : List ℕ). is_none (cell k v)) (same k low inside) ∙ complete-present u e k low inside nullable)

pub complete-within : (s : Schema) (cell : Cells) (design : TableDesign) (r : Relation) (t : Tuple) → Contains (complete_for s cell design r) t → Contains r t
complete-within s cell design r t h = (filter-member (is_complete s cell (attributes design.key)) r t h).0

pub complete-is : (s : Schema) (cell : Cells) (design : TableDesign) (r : Relation) (t : Tuple) → Contains (complete_for s cell design r) t
    → is_complete s cell (attributes design.key) t ≡ true
complete-is s cell design r t h = (filter-member (is_complete s cell (attributes design.key)) r t h).1

-- by the tuples' own lengths they are the same
pub misses-complete : (s : Schema) (cell : Cells) (key : Attributes) (t : Tuple) → length t ≡ width_of s → misses_none (missing_cells s cell) key t ≡ is_complete s cell key t
misses-complete s cell key t long = ap (λ (n : ℕ). list_all (λ k. not (missing_cells s cell k (value_at t k))) (members_below n key)) long

pub complete-tuples : (s : Schema) (cell : Cells) (design : TableDesign) (r : Relation) → LegalFor s r
    → complete_tuples (missing_cells s cell) (keyed design) r ≡ complete_for s cell design r
complete-tuples s cell design r legal =
    filter-known (misses_none (missing_cells s cell) (attributes design.key)) (is_complete s cell (attributes design.key)) r
    (λ t h. misses-complete s cell (attributes design.key) t (All-contains (λ (u : Tuple). length u ≡ width_of s) r t legal.over h))

-- and it has each value of the key
pub key-present : (s : Schema) (cell : Cells) (r : Relation) → NoneMissing s cell r → (design : TableDesign) (t : Tuple) → Contains (complete_for s cell design r) t
    → (k : ℕ) → k < width_of s → attributes design.key k ≡ true → is_none (cell k (value_at t k)) ≡ false
key-present s cell r none design t h k low inside = elim (cases_Bool (nullable_of s k)) [
  | inl nullable ↦ complete-present s cell (attributes design.key) t (complete-is s cell design r t h) k low inside nullable
  | inr required ↦ none k (grind (arith, nat_tests, low, required)) t (complete-within s cell design r t h)
]

-- where no value of the key may be missing all tuples are complete
pub complete-all : (s : Schema) (cell : Cells) (design : TableDesign) (r : Relation)
    → ((k : ℕ) → attributes design.key k ≡ true → nullable_of s k ≡ false) → complete_for s cell design r ≡ r
complete-all s cell design r required =
    let key = attributes design.key in
    filter-known (is_complete s cell key) (λ t. true) r (λ t h. complete-from s cell key t (λ k low inside nullable.
    absurd (true≢false (sym nullable ∙ required k inside))))
    ∙ filter-all r

-- ---- the test of a row of the copy
module _ (cast : Cast) (s : Schema) (cell : Cells) where
  abbrev present : Tuple → ℕ → Bool
  present t k = not (is_none (cell k (value_at t k)))

  value-present : (t : Tuple) (k : ℕ) → Contains (members_below (width_of s) (universe_of s)) k
      → holds cast (row_of_copy s cell t) (has_value s k) ≡ Some (present t k)
  value-present t k h =
      ap (option_map (λ (c : Cell). not (is_none c))) (cell-known s cell t k h)
      ∙ ap (λ (b : Bool). Some (not b)) (copied_none s cell k (value_at t k))

  values-present : (t : Tuple) (k : ℕ) (ks : List ℕ) → ((j : ℕ) → Contains (k ∷ ks) j → Contains (members_below (width_of s) (universe_of s)) j)
      → holds cast (row_of_copy s cell t) (have_values s k ks) ≡ Some (list_all (present t) (k ∷ ks))
  values-present t k [] inside =
      value-present t k (inside k (Contains-head k [])) ∙ ap (λ (b : Bool). Some b) (sym (and_true (present t k)))
  values-present t k (j ∷ ks) inside =
      ap (λ (a : Option Bool). of_both (λ x y. Some (x && y)) a (holds cast (row_of_copy s cell t) (have_values s j ks)))
      (value-present t k (inside k (Contains-head k (j ∷ ks))))
      ∙ ap (λ (b : Option Bool). of_both (λ (x y : Bool). Some (x && y)) (Some (present t k)) b)
      (values-present t j ks (λ i h. inside i (Contains-later k (j ∷ ks) i h)))

  taken-mapped : (f : View → Option Bool) (g : Tuple → Bool) (r : Relation) → ((t : Tuple) → f (row_of_copy s cell t) ≡ Some (g t))
      → taken f (map (row_of_copy s cell) r) ≡ Some (map (row_of_copy s cell) (filter g r))
  taken-mapped f g [] known = refl
  taken-mapped f g (t ∷ r) known =
      ap (option_and_then (λ (b : Bool). option_map (λ (rest : List View). if b then row_of_copy s cell t ∷ rest else rest) (taken f (map (row_of_copy s cell) r)))) (known t)
      ∙ ap (option_map (λ (rest : List View). if g t then row_of_copy s cell t ∷ rest else rest)) (taken-mapped f g r known)
      ∙ by_test (g t)
    where
      by_test : (b : Bool) → Some (if b then row_of_copy s cell t ∷ map (row_of_copy s cell) (filter g r) else map (row_of_copy s cell) (filter g r))
          ≡ Some (map (row_of_copy s cell) (cond b (t ∷ filter g r) (filter g r)))
      by_test true = refl
      by_test false = refl

  -- the rows of the copy, as they are looked at
  abbrev views : Relation → List View
  views r = map row_view (map (look_at (codes "o") (names_on s (universe_of s))) (map (copied_on_set s cell (universe_of s)) r))

  views-with : (ms : List ℕ) (r : Relation) → ((k : ℕ) → Contains ms k → Contains (members_below (width_of s) (universe_of s)) k)
      → views_of cast (rows_with s ms) (map (look_at (codes "o") (names_on s (universe_of s))) (map (copied_on_set s cell (universe_of s)) r))
      ≡ Some (map (row_of_copy s cell) (filter (λ t. list_all (present t) ms) r))
  views-with [] r inside =
      ap (λ (vs : List View). Some vs) (copy_views s cell r)
      ∙ ap (λ (ts : Relation). Some (map (row_of_copy s cell) ts)) (sym (filter-all r))
  views-with (k ∷ ms) r inside =
      ap (taken (λ (v : View). holds cast v (have_values s k ms))) (copy_views s cell r)
      ∙ taken-mapped (λ (v : View). holds cast v (have_values s k ms)) (λ t. list_all (present t) (k ∷ ms)) r (λ t. values-present t k ms inside)

  -- those that are taken are complete
  taken-complete : (key : Attributes) (t : Tuple) → list_all (present t) (members_below (width_of s) (intersection key (nullable_of s))) ≡ is_complete s cell key t
  taken-complete key t =
      let ms = members_below (width_of s) (intersection key (nullable_of s)) in
      same_truth (list_all (present t) ms) (is_complete s cell key t)
      (λ e. complete-from s cell key t (λ k low inside nullable.
      not_true (is_none (cell k (value_at t k)))
      (all_pass (present t) ms e k (is_member_of (width_of s) (intersection key (nullable_of s)) k low (and_from (key k) (nullable_of s k) inside nullable)))))
      (λ e. passes_all (present t) ms (λ k h.
      let m = member_of (width_of s) (intersection key (nullable_of s)) k h in
      let both = and_parts (key k) (nullable_of s k) m.1 in
      ap not (complete-present s cell key t e k m.0 both.0 both.1)))

  pub fill-selected : (design : TableDesign) (r : Relation) (items : List Item)
      → selected cast true items (codes "o") (complete_rows s (attributes design.key)) (copied s cell r)
      ≡ option_map (with_items true items) (each (λ t. each (item_value cast (row_of_copy s cell t)) items) (complete_for s cell design r))
  fill-selected design r items =
      let key = attributes design.key in
      let ms = members_below (width_of s) (intersection key (nullable_of s)) in
      let go = λ (found : Option (List View)). option_map (with_items true items) (option_and_then (each (λ (v : View). each (item_value cast v) items)) found) in
      ap go (views-with ms r (λ k h. in_universe s (intersection key (nullable_of s)) k h))
      ∙ ap (λ (ts : Relation). go (Some (map (row_of_copy s cell) ts)))
      (filter-known (λ t. list_all (present t) ms) (is_complete s cell key) r (λ t h. taken-complete key t))
      ∙ ap (option_map (with_items true items)) (each-map (λ (v : View). each (item_value cast v) items) (row_of_copy s cell) (complete_for s cell design r))

-- ---- what a table is filled with
pub projection-known : (s : Schema) (cast : Cast) (cell : Cells) (r : Relation) (state : State) (design : TableDesign) (new : Rows) → IsCopied state s cell r
    → evaluate (engine_at cast state) (fill_query s design) ≡ Some new
    → AreProjection s cast cell (attributes design.scheme) (complete_for s cell design r) new.rows
unfolding fill_query
projection-known s cast cell r state design new is e =
    let x = attributes design.scheme in
    let complete = complete_for s cell design r in
    let items = moved_on s Entering x in
    let clause = complete_rows s (attributes design.key) in
    let go : selected cast true items (codes "o") clause (copied s cell r) ≡ Some new =
    sym (ap (λ (held : Option Held). option_and_then (selected cast true items (codes "o") clause) (rows_found cast state held)) is) ∙ e in
    let rows = map_some (with_items true items) (each (λ t. each (item_value cast (row_of_copy s cell t)) items) complete) new
    (sym (fill-selected cast s cell design r items) ∙ go) in
    let same : unique_keys same_row rows.0 ≡ new.rows = ap (λ (z : Rows). z.rows) rows.2 in
    record {
      all = λ t h.
          let row = each-all (λ (u : Tuple). each (item_value cast (row_of_copy s cell u)) items) complete rows.0 t rows.1 h in (
            row.0,
            subst (λ (all : List (List Cell)). Contains all row.0) same (in_unique same_row same_row-decides rows.0 row.0 row.1),
            sym (entered-row s cast cell x t) ∙ row.2,
          );
      no_more = λ row h.
          let t = each-from (λ (u : Tuple). each (item_value cast (row_of_copy s cell u)) items) complete rows.0 row rows.1
          (from_unique same_row same_row-decides rows.0 row (subst (λ (all : List (List Cell)). Contains all row) (sym same) h)) in
          (t.0, t.1, sym (entered-row s cast cell x t.0) ∙ t.2);
    }
