-- The query of missing values decides whether one is missing.
use Rattle.std.proofs.Common.{◌≡◌, ◌<◌, ℕ, Bool, true, false, ◌||◌, List, [], ◌∷◌, map, filter, Some, None, Option, sym, ap, ◌∙◌, inl, inr, ⊎_elim, arith}
use Rattle.std.proofs.lemmas.Bool.{cases_Bool, true≢false, ltb-true}
use Rattle.std.specs.Prelude.{◌↔◌, ℤ, Contains, option_map, option_and_then, codes}
use Rattle.attr_sets.specs.Attributes.{Attributes}
use Rattle.schema_model.specs.Schemas.{Schema}
use Rattle.dep_model.specs.Projections.{members_below}
use Rattle.schema_model.specs.Schemas.{width_of, universe_of}
use Rattle.dep_model.specs.Tuples.{Tuple, Relation, value_at}
use Rattle.dep_model.proofs.DistinctLemmas.{filter-member, filter-keeps}
use Rattle.dep_model.proofs.ListLemmas.{Contains-head, Contains-later, Contains-cases}
use Rattle.sql_syntax.specs.Syntax.{Condition, Item, own}
use Rattle.sql_check.specs.Columns.{column_at, items_on}
use Rattle.sql_check.specs.Checks.{required_of, some_missing, missing_query, missing_among, required_query}
use Rattle.sql_evaluation.specs.Cells.{Cell, is_none}
use Rattle.sql_evaluation.specs.Values.{each, of_both, View, holds}
use Rattle.sql_evaluation.specs.Evaluation.{Engine, item_value, with_items}
use Rattle.sql_check_laws.specs.HeldRelations.{RowHolds, Holds}
use Rattle.sql_check_laws.specs.CheckedRules.{GivesNoRowWhere, Tells, NoneMissing}
use Rattle.sql_check_laws.proofs.CellLemmas.{member_of, is_member_of}
use Rattle.sql_check_laws.proofs.EachLemmas.{each-known, each-map, taken-known}
use Rattle.sql_check_laws.proofs.GroupLemmas.{Cells}
use Rattle.sql_check_laws.proofs.RowLemmas.{row-tuple, tuple-row, row_look, views_of_rows, view-row, row-looked, each-some, found-of_table}
use Rattle.sql_check_laws.proofs.SeveralLemmas.{nil_from_none, shows_none}

-- ---- one row
-- whether the value of one of these attributes is missing, the first of which is k
abbrev any_missing : Cells → Tuple → ℕ → List ℕ → Bool
any_missing cell t k [] = is_none (cell k (value_at t k))
any_missing cell t k (m ∷ ms) = is_none (cell k (value_at t k)) || any_missing cell t m ms

abbrev AreLow : Schema → List ℕ → Type 0
AreLow s ks = (k : ℕ) → Contains ks k → k < width_of s

missing-tested : (s : Schema) (cast : List ℕ → Option ℤ) (cell : Cells) (names : List (List ℕ)) (row : List Cell) (t : Tuple) (k : ℕ) (ms : List ℕ)
    → RowHolds s cell names row t → AreLow s (k ∷ ms) → holds cast (row_look names row) (some_missing s k ms) ≡ Some (any_missing cell t k ms)
missing-tested s cast cell names row t k [] held low = ap (option_map is_none) (held k (low k (Contains-head k [])))
missing-tested s cast cell names row t k (m ∷ ms) held low =
    ap (λ (found : Option Cell). of_both (λ (a b : Bool). Some (a || b)) (option_map is_none found) (holds cast (row_look names row) (some_missing s m ms)))
    (held k (low k (Contains-head k (m ∷ ms))))
    ∙ ap (option_and_then (λ (b : Bool). Some (is_none (cell k (value_at t k)) || b)))
    (missing-tested s cast cell names row t m ms held (λ j h. low j (Contains-later k (m ∷ ms) j h)))

any_missing-false : (cell : Cells) (t : Tuple) (k : ℕ) (ms : List ℕ)
    → (any_missing cell t k ms ≡ false) ↔ ((j : ℕ) → Contains (k ∷ ms) j → is_none (cell j (value_at t j)) ≡ false)
any_missing-false cell t k [] = (
  λ none j h. ⊎_elim (λ (is : j ≡ k). ap (λ (i : ℕ). is_none (cell i (value_at t i))) is ∙ none) (λ later. absurd (omega (arith, later.1))) (Contains-cases k [] j h),
  λ none. none k (Contains-head k []),
)
any_missing-false cell t k (m ∷ ms) =
    let rest = any_missing-false cell t m ms in
    elim (cases_Bool (is_none (cell k (value_at t k)))) [
      | inl here ↦ (
        λ none. absurd (true≢false (sym (ap (λ (b : Bool). b || any_missing cell t m ms) here) ∙ none)),
        λ none. absurd (true≢false (sym here ∙ none k (Contains-head k (m ∷ ms)))),
      )
      | inr there ↦ (
        λ none j h. ⊎_elim (λ (is : j ≡ k). ap (λ (i : ℕ). is_none (cell i (value_at t i))) is ∙ there)
            (λ later. rest.0 (sym (ap (λ (b : Bool). b || any_missing cell t m ms) there) ∙ none) j later) (Contains-cases k (m ∷ ms) j h),
        λ none. ap (λ (b : Bool). b || any_missing cell t m ms) there ∙ rest.1 (λ j h. none j (Contains-later k (m ∷ ms) j h)),
      )
    ]

-- what is shown of a row
shown-row : (s : Schema) (cast : List ℕ → Option ℤ) (cell : Cells) (names : List (List ℕ)) (row : List Cell) (t : Tuple) (x : Attributes) → RowHolds s cell names row t
    → each (item_value cast (row_look names row)) (items_on s (codes "r") x) ≡ Some (map (λ k. cell k (value_at t k)) (members_below (width_of s) x))
shown-row s cast cell names row t x held =
    each-map (item_value cast (row_look names row)) (λ (k : ℕ). own (column_at s (codes "r") k)) (members_below (width_of s) x)
    ∙ each-known (λ (k : ℕ). item_value cast (row_look names row) (own (column_at s (codes "r") k))) (λ (k : ℕ). cell k (value_at t k)) (members_below (width_of s) x)
    (λ k h. held k (member_of (width_of s) x k h).0)

-- ---- all rows
truth : Option Bool → Bool
truth None = false
truth (Some b) = b

pub missing-decides : (e : Engine) (table : List ℕ) (s : Schema) (cell : Cells) (r : Relation) (k : ℕ) (ms : List ℕ) → Holds e table s cell r → AreLow s (k ∷ ms)
    → GivesNoRowWhere e (missing_query s table k ms)
    ((j : ℕ) → Contains (k ∷ ms) j → (t : Tuple) → Contains r t → is_none (cell j (value_at t j)) ≡ false)
unfolding missing_query truth
missing-decides e table s cell r k ms held low = record {
  result = with_items false items found.0;
  evaluates = found-of_table e table items p held.given held.known
      ∙ ap (λ (vs : Option (List View)). option_map (with_items false items) (option_and_then (each shown) vs))
      (taken-known test (λ v. truth (test v)) views tested)
      ∙ ap (option_map (with_items false items)) found.1;
  exact = (λ none. to (found.2.0 none), λ none. found.2.1 (from none));
}
  where
    items : List Item
    items = items_on s (codes "r") (universe_of s)

    p : Condition
    p = some_missing s k ms

    views : List View
    views = views_of_rows held.given.names held.given.rows

    test : View → Option Bool
    test v = holds e.cast v p

    shown : View → Option (List Cell)
    shown v = each (item_value e.cast v) items

    tuple_of : (v : View) → Contains views v
        → (t : Tuple) × Contains r t × (test v ≡ Some (any_missing cell t k ms)) × ((cells : List Cell) × (shown v ≡ Some cells))
    tuple_of v h =
        let at = view-row held.given.names held.given.rows v h in
        let of = row-tuple s cell held.given.names held.given.rows r at.0 held.held at.1 in (
          of.0,
          of.1,
          ap test (sym at.2) ∙ missing-tested s e.cast cell held.given.names at.0 of.0 k ms of.2 low,
          (_, ap shown (sym at.2) ∙ shown-row s e.cast cell held.given.names at.0 of.0 (universe_of s) of.2),
        )

    tested : (v : View) → Contains views v → test v ≡ Some (truth (test v))
    tested v h = let of = tuple_of v h in of.2 ∙ ap (λ (found : Option Bool). Some (truth found)) (sym of.2)

    some : List View
    some = filter (λ v. truth (test v)) views

    found : (rows : List (List Cell)) × (each shown some ≡ Some rows) × ((rows ≡ []) ↔ (some ≡ []))
    found = each-some shown some (λ v h. (tuple_of v (filter-member (λ w. truth (test w)) views v h).0).3)

    to : some ≡ [] → (j : ℕ) → Contains (k ∷ ms) j → (t : Tuple) → Contains r t → is_none (cell j (value_at t j)) ≡ false
    to none j hj t ht =
        let at = tuple-row s cell held.given.names held.given.rows r t held.held ht in
        let v = row_look held.given.names at.0 in
        let is : test v ≡ Some (any_missing cell t k ms) = missing-tested s e.cast cell held.given.names at.0 t k ms at.2 low in
        elim (cases_Bool (any_missing cell t k ms)) [
          | inl misses ↦ absurd (shows_none some v none
              (filter-keeps (λ w. truth (test w)) views v (row-looked held.given.names held.given.rows at.0 at.1) (ap truth is ∙ misses)))
          | inr none_here ↦ (any_missing-false cell t k ms).0 none_here j hj
        ]

    from : ((j : ℕ) → Contains (k ∷ ms) j → (t : Tuple) → Contains r t → is_none (cell j (value_at t j)) ≡ false) → some ≡ []
    from none = nil_from_none some (λ v h.
        let at = filter-member (λ w. truth (test w)) views v h in
        let of = tuple_of v at.0 in
        true≢false (sym at.1 ∙ ap truth of.2 ∙ (any_missing-false cell of.0 k ms).1 (λ j hj. none j hj of.0 of.1)))

-- ---- those of which none may be missing
among-decides : (e : Engine) (table : List ℕ) (s : Schema) (cell : Cells) (r : Relation) (ks : List ℕ) → Holds e table s cell r → AreLow s ks
    → Tells e (missing_among s table ks) ((j : ℕ) → Contains ks j → (t : Tuple) → Contains r t → is_none (cell j (value_at t j)) ≡ false)
among-decides e table s cell r [] held low = λ j h. absurd (omega (arith, h.1))
among-decides e table s cell r (k ∷ ms) held low = missing-decides e table s cell r k ms held low

tells_same : (e : Engine) (found : Option _) {P Q : Type 0} → Tells e found P → P ↔ Q → Tells e found Q
tells_same e None decides same = same.0 decides
tells_same e (Some q) decides same = record {
  result = decides.result;
  evaluates = decides.evaluates;
  exact = (λ none. same.0 (decides.exact.0 none), λ all. decides.exact.1 (same.1 all));
}

pub missing_told : (e : Engine) (table : List ℕ) (s : Schema) (cell : Cells) (r : Relation) → Holds e table s cell r → Tells e (required_query s table) (NoneMissing s cell r)
missing_told e table s cell r held =
    let ks = members_below (width_of s) (required_of s) in
    tells_same e (missing_among s table ks) (among-decides e table s cell r ks held (λ k h. (member_of (width_of s) (required_of s) k h).0)) (
      λ none k required t ht. none k (is_member_of (width_of s) (required_of s) k (ltb-true k (width_of s) (is_low k required)) required) t ht,
      λ none k h t ht. none k (member_of (width_of s) (required_of s) k h).1 t ht,
    )
  where
    is_low : (k : ℕ) → required_of s k ≡ true → universe_of s k ≡ true
    is_low k required = grind (arith, required)
