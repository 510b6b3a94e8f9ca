-- Columns to which others may refer: sets of lent values, and rows that miss nothing.
use Rattle.std.specs.Prelude.{All, Contains}
use Rattle.std.specs.List.{list_any, position_or_len}
use Rattle.std.specs.Cmp.Lexicographic.{pointwise}
use Rattle.std.proofs.Common.{◌≡◌, ◌+◌, ◌<◌, ℕ, zero, suc, nat_eq, Bool, true, false, true≢false, inl, inr, List, [], ◌∷◌, ◌++◌, Bor, Some, length, get_or, refl, sym, ap, subst, ◌∙◌, ⊎_elim, arith}
use Rattle.std.proofs.lemmas.Bool.{and_parts, cases_lt}
use Rattle.std.proofs.lemmas.List.{get_or-map}
use Rattle.std.proofs.lemmas.List.Elements.{All-contains, Contains-append_left, Contains-push}
use Rattle.std.proofs.lemmas.List.Folds.{Any-from_list_any, list_any-from_Any}
use Rattle.std.proofs.lemmas.Option.{get_or_from_slice_get, slice_get_within}
use Rattle.std.proofs.lemmas.Slice.Eq.{bytes_eq-Decides}
use Rattle.dep_model.specs.Tuples.{Tuple, Relation, IsOver, value_at}
use Rattle.dep_model.proofs.ListLemmas.{Contains-map, map-member}
use Rattle.headed_rows.specs.Headings.{HeadedRows}
use Rattle.indexmap.specs.IndexSet.{insert_key}
use Rattle.row_groups.proofs.NumberingLemmas.{insert_full-Gets}
use Rattle.row_store.specs.Rows.{row_at}
use Rattle.schema_model.specs.Schemas.{attribute_named}
use Rattle.table_join.specs.Lent.{lent_values}
use Rattle.file_references.specs.Columns.{file_at, is_there, misses_none, misses_nothing, name_at}
use Rattle.file_references.specs.Finds.{AreAmong, HasColumn, MayRefer}
use Rattle.file_references.specs.References.{Includes}
use Rattle.file_references.proofs.AgreeLemmas.{whole_from}
use Rattle.file_references.proofs.ValueLemmas.{row_of}

-- ---- sets of values
-- a set keeps its values, and has one more
pub value_added : (keys after : List (Bor (List ℕ))) (key : Bor (List ℕ)) (v : List ℕ) → key.now ≡ v
    → after ≡ insert_key (λ (x y : Bor (List ℕ)). pointwise nat_eq x.now y.now) keys key
    → ((w : List ℕ) → Contains (lent_values keys) w → Contains (lent_values after) w) × Contains (lent_values after) v
value_added keys after key v is grown =
    let place : ℕ = position_or_len (λ (y : Bor (List ℕ)). pointwise nat_eq key.now y.now) keys in
    let gets = insert_full-Gets (λ (x y : Bor (List ℕ)). pointwise nat_eq x.now y.now) (λ (s : Bor (List ℕ)). s.now)
    (λ x y. (bytes_eq-Decides x.now y.now).0) (λ x y. (bytes_eq-Decides x.now y.now).1) keys after key place grown refl in
    ⊎_elim
    (λ (same, at). (
      λ w has. subst (λ (vs : Tuple). Contains vs w) (sym same) has,
      subst (λ (vs : Tuple). Contains vs v) (sym same) (subst (Contains (lent_values keys)) is
          (place, slice_get_within (lent_values keys) place key.now at, get_or_from_slice_get (lent_values keys) place key.now key.now at)),
    ))
    (λ (grew, at, none). (
      λ w has. subst (λ (vs : Tuple). Contains vs w) (sym grew) (Contains-append_left (lent_values keys) (key.now ∷ []) w has),
      subst (λ (vs : Tuple). Contains vs v) (sym grew) (subst (Contains (lent_values keys ++ key.now ∷ [])) is (Contains-push (lent_values keys) key.now)),
    )) gets.number

-- what a test finds is there, and what it does not find is not
pub found_value : (keys : List (Bor (List ℕ))) (v : List ℕ) → list_any (λ (y : Bor (List ℕ)). pointwise nat_eq v y.now) keys ≡ true
    → Contains (lent_values keys) v
found_value keys v h =
    let (i, y, low, at, same) = Any-from_list_any (λ (y : Bor (List ℕ)). pointwise nat_eq v y.now) keys h in
    subst (Contains (lent_values keys)) (sym ((bytes_eq-Decides v y.now).0 same)) (Contains-map (λ (s : Bor (List ℕ)). s.now) keys y (i, low, at))

pub lacking_value : (keys : List (Bor (List ℕ))) (v : List ℕ) → list_any (λ (y : Bor (List ℕ)). pointwise nat_eq v y.now) keys ≡ false
    → Contains (lent_values keys) v → ⊥
lacking_value keys v lacks has =
    let (y, (i, low, at), is) = map-member (λ (s : Bor (List ℕ)). s.now) keys v has in
    true≢false (sym (list_any-from_Any (λ (y : Bor (List ℕ)). pointwise nat_eq v y.now) keys (i, y, low, at, (bytes_eq-Decides v y.now).1 (sym is))) ∙ lacks)

-- ---- the values of a column, row by row
pub column_more : (r : Relation) (column i : ℕ) (old new : Tuple) → ((w : List ℕ) → Contains old w → Contains new w)
    → Contains new (value_at (row_at r i) column) → ((j : ℕ) → j < i → Contains old (value_at (row_at r j) column))
    → (j : ℕ) → j < i + 1 → Contains new (value_at (row_at r j) column)
column_more r column i old new kept here before j low = elim (cases_lt j i) [
  | inl less ↦ kept _ (before j less)
  | inr other ↦
      let last : j ≡ i = omega (arith, low, other) in
      subst (λ (k : ℕ). Contains new (value_at (row_at r k) column)) (sym last) here
]

pub column_all : (r : Relation) (column i : ℕ) (values : Tuple) → length r ≡ i
    → ((j : ℕ) → j < i → Contains values (value_at (row_at r j) column)) → HasColumn r column values
column_all r column i values all each t t_in =
    let (j, low, at) = row_of r t t_in in
    subst (λ (u : Tuple). Contains values (value_at u column)) at (each j (omega (arith, low, all)))

-- ---- rows that miss nothing
nothing_missed : (t : Tuple) (k : ℕ) → k < length t → misses_nothing t ≡ true → is_there (value_at t k) ≡ true
nothing_missed [] k low whole = absurd (omega (arith, low))
nothing_missed (v ∷ t) zero low whole = (and_parts (is_there v) (misses_nothing t) whole).0
nothing_missed (v ∷ t) (suc k) low whole = nothing_missed t k (omega (arith, low)) (and_parts (is_there v) (misses_nothing t) whole).1

-- where lists of columns are included, each column is, as far as such rows go
pub may_refer : (n : ℕ) (r : Relation) (columns : List ℕ) (s : Relation) (key : List ℕ) (i : ℕ) → IsOver n r
    → All (λ (k : ℕ). k < n) columns → length columns ≡ length key → i < length key → Includes r columns s key
    → MayRefer r (get_or columns i 0) s (get_or key i 0)
may_refer n r columns s key i over low size inside includes t t_in whole =
    let long : length t ≡ n = All-contains (λ (u : Tuple). length u ≡ n) r t over t_in in
    let none : misses_none columns t ≡ true = whole_from columns t (λ k has.
    let within : k < n = All-contains (λ (j : ℕ). j < n) columns k low has in
    nothing_missed t k (omega (arith, within, long)) whole) in
    let (u, u_in, same) = includes t t_in none in (
      u,
      u_in,
      sym (get_or-map (value_at u) key i 0 [] inside)
          ∙ ap (λ (values : Tuple). get_or values i []) same
          ∙ get_or-map (value_at t) columns i 0 [] (omega (arith, inside, size)),
    )

-- ---- files, one after the other
module _ (files : List HeadedRows) (target column : ℕ) where
  -- no other file of the first i may refer to the column
  abbrev pub NoneMay : ℕ → Type 0
  NoneMay i = (file x : ℕ) → file < i → (file ≡ target → ⊥)
      → attribute_named (file_at files file).names (name_at (file_at files target).names column) ≡ Some x
      → MayRefer (file_at files file).rows x (file_at files target).rows column → ⊥

  pub none_itself : (i : ℕ) → i ≡ target → NoneMay i → NoneMay (i + 1)
  none_itself i is before file x low other named may = elim (cases_lt file i) [
    | inl less ↦ before file x less other named may
    | inr more ↦ other (omega (arith, low, more, is))
  ]

  pub none_more : (i : ℕ) (names : List (List ℕ)) (rows r : Relation) (name : List ℕ) (values : Tuple) (among : Bool)
      → (file_at files i).names ≡ names → (file_at files i).rows ≡ rows → (file_at files target).rows ≡ r
      → name_at (file_at files target).names column ≡ name → HasColumn r column values
      → ((x : ℕ) → attribute_named names name ≡ Some x → AreAmong rows x values → among ≡ true) → among ≡ false
      → NoneMay i → NoneMay (i + 1)
  none_more i names rows r name values among names_are rows_are target_is name_is has test fails before file x low other named may =
      elim (cases_lt file i) [
        | inl less ↦ before file x less other named may
        | inr more ↦
            let last : file ≡ i = omega (arith, low, more) in
            let here : attribute_named names name ≡ Some x =
            sym (ap (λ (ns : List (List ℕ)). attribute_named ns name) (ap (λ (f : ℕ). (file_at files f).names) last ∙ names_are))
            ∙ sym (ap (attribute_named (file_at files file).names) name_is) ∙ named in
            let may_here : MayRefer rows x r column = subst (λ (s : Relation). MayRefer rows x s column) target_is
            (subst (λ (s : Relation). MayRefer s x (file_at files target).rows column)
            (ap (λ (f : ℕ). (file_at files f).rows) last ∙ rows_are) may) in
            true≢false (sym (test x here (λ t t_in whole.
            let (u, u_in, same) = may_here t t_in whole in subst (Contains values) same (has u u_in))) ∙ fails)
      ]
