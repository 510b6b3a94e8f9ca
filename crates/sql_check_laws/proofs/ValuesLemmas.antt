-- The values of a user's table on a set, each once.
use Rattle.std.proofs.Common.{◌≡◌, ◌<◌, ℕ, ◌⊎◌, zero, suc, Bool, true, false, List, [], ◌∷◌, ◌++◌, map, Some, Option, refl, ap, subst, ◌∙◌, inl, inr, ⊎_elim, arith, append-nil}
use Rattle.std.proofs.lemmas.Bool.{cases_Bool}
use Rattle.std.specs.Prelude.{ℤ, Contains, if◌then◌else◌, option_map, option_and_then, codes}
use Rattle.std.specs.Set.{unique_keys}
use Rattle.attr_sets.specs.Attributes.{Attributes}
use Rattle.schema_model.specs.Schemas.{Schema}
use Rattle.dep_model.specs.Projections.{members_below}
use Rattle.schema_model.specs.Schemas.{width_of}
use Rattle.dep_model.specs.Tuples.{Tuple, Relation, value_at}
use Rattle.dep_model.proofs.ListLemmas.{Contains-head, Contains-later, Contains-cases}
use Rattle.dep_model.proofs.SchemeLemmas.{members_below-none, members_below-member, members_below-outside}
use Rattle.sql_syntax.specs.Syntax.{Item, each_row}
use Rattle.sql_check.specs.Columns.{name_at, compared_at, compared_on}
use Rattle.sql_check.specs.Checks.{values_query}
use Rattle.sql_evaluation.specs.Cells.{Cell, missing, text, number, integer_text, text_of, followed_by, same_row}
use Rattle.sql_evaluation.specs.Values.{each, bytes_of, named_cell, look_at}
use Rattle.sql_evaluation.specs.Evaluation.{Engine, row_view, item_name, item_value, with_items, selected, evaluate}
use Rattle.sql_check_laws.specs.HeldRelations.{RowHolds, RowsHold, compared_cell, Holds}
use Rattle.sql_check_laws.proofs.EachLemmas.{each-known, each-map, map-known, map-map}

-- the values of a tuple on a set, as they are compared
abbrev pub cells_on : Schema → (ℕ → List ℕ → Cell) → Attributes → Tuple → List Cell
cells_on s cell w t = map (λ k. compared_cell cell k (value_at t k)) (members_below (width_of s) w)

abbrev pub names_on : Schema → Attributes → List (List ℕ)
names_on s w = map (name_at s) (members_below (width_of s) w)

-- the values of a relation on a set, each once
abbrev pub values_of : Schema → (ℕ → List ℕ → Cell) → Attributes → Relation → List (List Cell)
values_of s cell w r = unique_keys same_row (map (cells_on s cell w) r)

-- ---- members
push-member : {X : Type 0} (xs : List X) (y x : X) → Contains (xs ++ y ∷ []) x → Contains xs x ⊎ (x ≡ y)
push-member [] y x h = ⊎_elim (λ first. inr first) (λ later. inl later) (Contains-cases y [] x h)
push-member (z ∷ xs) y x h = ⊎_elim
    (λ (first : x ≡ z). inl (subst (λ (w : _). Contains (w ∷ xs) x) first (Contains-head x xs)))
    (λ later. ⊎_elim (λ front. inl (Contains-later z xs x front)) (λ last. inr last) (push-member xs y x later))
    (Contains-cases z (xs ++ y ∷ []) x h)

pub member-low : (n : ℕ) (x : Attributes) (k : ℕ) → Contains (members_below n x) k → k < n
member-low zero x k h = absurd (let h' = subst (λ (ms : List ℕ). Contains ms k) (members_below-none x) h in omega (arith, h'.1))
member-low (suc n) x k h = elim (cases_Bool (x n)) [
  | inl inside ↦ ⊎_elim
      (λ before. let low = member-low n x k before in omega (arith, low))
      (λ (last : k ≡ n). omega (arith, last))
      (push-member (members_below n x) n k (subst (λ (ms : List ℕ). Contains ms k) (members_below-member n x inside) h))
  | inr outside ↦ let low = member-low n x k (subst (λ (ms : List ℕ). Contains ms k) (members_below-outside n x outside) h) in omega (arith, low)
]

-- ---- one row
-- the empty text after a text changes nothing
pub followed_by_none : (c : Cell) → followed_by [] (text_of c) ≡ text_of c
followed_by_none missing = refl
followed_by_none (text t) = ap text (append-nil t)
followed_by_none (number n) = ap text (append-nil (integer_text n))

-- a function gives what an item of the user's table shows of each value
abbrev pub ShowsOf : Schema → (List ℕ → Option ℤ) → (ℕ → List ℕ → Cell) → (ℕ → Item) → (ℕ → List ℕ → Cell) → Type 0
ShowsOf s cast cell item shown =
    (names : List (List ℕ)) (row : List Cell) (t : Tuple) (k : ℕ) → named_cell names row (name_at s k) ≡ Some (cell k (value_at t k))
    → item_value cast (row_view (look_at (codes "r") names row)) (item k) ≡ Some (shown k (value_at t k))

pub item-known : (s : Schema) (cast : List ℕ → Option ℤ) (cell : ℕ → List ℕ → Cell) → ShowsOf s cast cell (compared_at s) (compared_cell cell)
item-known s cast cell names row t k known =
    ap (λ (found : Option Cell). option_map (followed_by []) (option_map text_of found)) known
    ∙ ap (λ (c : Cell). Some c) (followed_by_none (cell k (value_at t k)))

module _ (s : Schema) (cast : List ℕ → Option ℤ) (cell : ℕ → List ℕ → Cell) (item : ℕ → Item) (shown : ℕ → List ℕ → Cell)
    (known : ShowsOf s cast cell item shown) (w : Attributes) where
  abbrev items : List Item
  items = map item (members_below (width_of s) w)

  abbrev shown_of : Tuple → List Cell
  shown_of t = map (λ k. shown k (value_at t k)) (members_below (width_of s) w)

  row-shown : (names : List (List ℕ)) (row : List Cell) (t : Tuple) → RowHolds s cell names row t
      → each (item_value cast (row_view (look_at (codes "r") names row))) items ≡ Some (shown_of t)
  row-shown names row t held =
      each-map (item_value cast (row_view (look_at (codes "r") names row))) item (members_below (width_of s) w)
      ∙ each-known (λ (k : ℕ). item_value cast (row_view (look_at (codes "r") names row)) (item k)) (λ (k : ℕ). shown k (value_at t k))
      (members_below (width_of s) w) (λ k h. known names row t k (held k (member-low (width_of s) w k h)))

  -- ---- all rows
  pub rows-shown : (names : List (List ℕ)) (rows : List (List Cell)) (r : Relation) → RowsHold s cell names rows r
      → each (λ v. each (item_value cast v) items) (map row_view (map (look_at (codes "r") names) rows)) ≡ Some (map shown_of r)
  rows-shown names [] [] held = refl
  rows-shown names [] (t ∷ r) held = absurd held
  rows-shown names (row ∷ rows) [] held = absurd held
  rows-shown names (row ∷ rows) (t ∷ r) held =
      let rest = rows-shown names rows r held.1 in
      ap (λ (found : Option (List Cell)). option_and_then (λ (y : List Cell). option_map (λ (ys : List (List Cell)). y ∷ ys)
      (each (λ v. each (item_value cast v) items) (map row_view (map (look_at (codes "r") names) rows)))) found)
      (row-shown names row t held.0)
      ∙ ap (option_map (λ (ys : List (List Cell)). shown_of t ∷ ys)) rest

pub rows-known : (s : Schema) (cast : List ℕ → Option ℤ) (cell : ℕ → List ℕ → Cell) (w : Attributes) (names : List (List ℕ)) (rows : List (List Cell)) (r : Relation)
    → RowsHold s cell names rows r
    → each (λ v. each (item_value cast v) (compared_on s w)) (map row_view (map (look_at (codes "r") names) rows)) ≡ Some (map (cells_on s cell w) r)
rows-known s cast cell w = rows-shown s cast cell (compared_at s) (compared_cell cell) (item-known s cast cell) w

pub values-known : (e : Engine) (table : List ℕ) (s : Schema) (cell : ℕ → List ℕ → Cell) (r : Relation) (w : Attributes) → Holds e table s cell r
    → evaluate e (values_query s table w) ≡ Some (record { names = names_on s w; rows = values_of s cell w r })
unfolding values_query
values-known e table s cell r w holds =
    ap (option_and_then (selected e.cast true (compared_on s w) (codes "r") each_row)) holds.known
    ∙ ap (option_map (with_items true (compared_on s w))) (rows-known s e.cast cell w holds.given.names holds.given.rows r holds.held)
    ∙ ap (λ (names : List (List ℕ)). Some (record { names = names; rows = values_of s cell w r }))
    (map-map item_name (compared_at s) (members_below (width_of s) w)
    ∙ map-known (λ (k : ℕ). item_name (compared_at s k)) (name_at s) (members_below (width_of s) w)
    (λ k h. refl))
