-- The values of a relation on a set, and the numbers of its rows by what they have there.
use Rattle.std.proofs.Common.{◌≡◌, ◌<◌, ◌==◌, ℕ, List, [], ◌∷◌, length, map, filter, sym, ap, ◌∙◌, arith}
use Rattle.std.proofs.lemmas.Bool.{eqb-true, eq-eqb}
use Rattle.std.specs.Prelude.{Contains}
use Rattle.attr_sets.specs.Attributes.{Attributes, count_below}
use Rattle.attr_sets.proofs.AttributesLemmas.{count_below-equal, same_truth}
use Rattle.schema_model.specs.Schemas.{Schema}
use Rattle.dep_model.specs.Tuples.{Tuple, Relation, AgreeOn}
use Rattle.dep_model.proofs.ListLemmas.{Contains-map}
use Rattle.legality.proofs.PairLemmas.{member_of}
use Rattle.removal_laws.specs.Classes.{rows_of}
use Rattle.removal_laws.specs.Counts.{total}
use Rattle.row_groups.specs.Numberings.{number_at, AreGroups, AreFirsts}
use Rattle.row_groups.proofs.NumberingLemmas.{row_of}
use Rattle.row_store.specs.Rows.{row_at}
use Rattle.sql_evaluation.specs.Cells.{Cell, same_row}
use Rattle.sql_check_laws.proofs.CellLemmas.{same_row-decides}
use Rattle.sql_check_laws.proofs.CountLemmas.{filter-once}
use Rattle.sql_check_laws.proofs.GroupLemmas.{Cells, value-row}
use Rattle.sql_check_laws.proofs.SeveralLemmas.{agree-cells}
use Rattle.sql_check_laws.proofs.ValuesLemmas.{cells_on, values_of}
use Rattle.sql_measure_laws.proofs.SumLemmas.{sum_over, sum-total, times, count_rows}

-- tuples of a relation with the same values on a set agree on it
abbrev pub AreSeparate : Schema → Cells → Relation → Attributes → Type 0
AreSeparate s cell r x = (t u : Tuple) → Contains r t → Contains r u → cells_on s cell x t ≡ cells_on s cell x u → AgreeOn x t u

module _ (s : Schema) (cell : Cells) (r : Relation) (x : Attributes) (numbers firsts : List ℕ)
    (apart : AreSeparate s cell r x) (are : AreGroups r x numbers) (first : AreFirsts numbers firsts) where
  -- the values of a row
  abbrev pub cells_at : ℕ → List Cell
  cells_at i = cells_on s cell x (row_at r i)

  -- the values of a number
  abbrev pub key_at : ℕ → List Cell
  key_at h = cells_at (number_at firsts h)

  pub first_in : (h : ℕ) → h < length firsts → number_at firsts h < length r
  first_in h low = omega (arith, first.within h low, are.one_each)

  pub number_in : (i : ℕ) → i < length r → number_at numbers i < length firsts
  number_in i low = first.each i (omega (arith, low, are.one_each))

  pub same-number : (i j : ℕ) → i < length r → j < length r → cells_at i ≡ cells_at j → number_at numbers i ≡ number_at numbers j
  same-number i j i_in j_in same =
      (are.equal i j i_in j_in).1 (apart (row_at r i) (row_at r j) (member_of r i i_in) (member_of r j j_in) same)

  pub same-cells : (i j : ℕ) → i < length r → j < length r → number_at numbers i ≡ number_at numbers j → cells_at i ≡ cells_at j
  same-cells i j i_in j_in same = agree-cells s cell x (row_at r i) (row_at r j) ((are.equal i j i_in j_in).0 same)

  -- a row has the values of its number
  pub key-of-row : (i : ℕ) → i < length r → cells_at i ≡ key_at (number_at numbers i)
  key-of-row i i_in =
      let h_in = number_in i i_in in
      same-cells i (number_at firsts (number_at numbers i)) i_in (first_in (number_at numbers i) h_in) (sym (first.number (number_at numbers i) h_in))

  pub number-of-key : (i h : ℕ) → i < length r → h < length firsts → cells_at i ≡ key_at h → number_at numbers i ≡ h
  number-of-key i h i_in h_in same =
      same-number i (number_at firsts h) i_in (first_in h h_in) same ∙ first.number h h_in

  -- the row of a tuple
  pub row-of-tuple : (t : Tuple) → Contains r t → (i : ℕ) × (i < length r) × (cells_at i ≡ cells_on s cell x t)
  row-of-tuple t h = let w = row_of r t h in (w.0, w.1, ap (cells_on s cell x) w.2)

  -- ---- a sum over the values is one over their numbers
  key-once : (h : ℕ) → h < length firsts → filter (λ k. same_row k (key_at h)) (values_of s cell x r) ≡ key_at h ∷ []
  key-once h h_in =
      filter-once same_row same_row-decides (map (cells_on s cell x) r) (key_at h)
      (Contains-map (cells_on s cell x) r (row_at r (number_at firsts h)) (member_of r (number_at firsts h) (first_in h h_in)))

  keys-apart : (g h : ℕ) → g < length firsts → h < length firsts → key_at g ≡ key_at h → g ≡ h
  keys-apart g h g_in h_in same =
      sym (first.number g g_in) ∙ number-of-key (number_at firsts g) h (first_in g g_in) h_in same

  pub every-value : (k : List Cell) → Contains (values_of s cell x r) k → (h : ℕ) × (h < length firsts) × (k ≡ key_at h)
  every-value k h =
      let v = value-row s cell x r k h in
      let w = row-of-tuple v.0 v.1 in
      (number_at numbers w.0, number_in w.0 w.1, sym v.2 ∙ sym w.2 ∙ key-of-row w.0 w.1)

  pub values-total : (f : List Cell → ℕ) → sum_over f (values_of s cell x r) ≡ total (λ h. f (key_at h)) (length firsts)
  values-total f = sum-total same_row same_row-decides key_at (values_of s cell x r) f (length firsts) key-once keys-apart every-value

  -- ---- as many tuples have a value as rows its number
  pub key-decides : (i h : ℕ) → i < length r → h < length firsts → same_row (cells_at i) (key_at h) ≡ (number_at numbers i == h)
  key-decides i h i_in h_in =
      same_truth (same_row (cells_at i) (key_at h)) (number_at numbers i == h)
      (λ is. eq-eqb (number_at numbers i) h (number-of-key i h i_in h_in ((same_row-decides (cells_at i) (key_at h)).0 is)))
      (λ is. (same_row-decides (cells_at i) (key_at h)).1
      (key-of-row i i_in ∙ ap key_at (eqb-true (number_at numbers i) h is)))

  pub stands-rows : (h : ℕ) → h < length firsts → times same_row (cells_on s cell x) r (key_at h) ≡ rows_of numbers h
  stands-rows h h_in =
      count_rows (λ (t : Tuple). same_row (cells_on s cell x t) (key_at h)) r
      ∙ count_below-equal (length r) (λ (i : ℕ). same_row (cells_at i) (key_at h)) (λ (i : ℕ). number_at numbers i == h) (λ i i_in. key-decides i h i_in h_in)
      ∙ ap (count_below (λ (i : ℕ). number_at numbers i == h)) (sym are.one_each)
