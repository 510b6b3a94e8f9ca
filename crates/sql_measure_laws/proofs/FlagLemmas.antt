-- Values that pass a test, and the groups of rows that have a flag.
use Rattle.std.proofs.Common.{◌≡◌, ◌<◌, ◌==◌, ◌&&◌, ℕ, Bool, true, false, List, length, filter, sym, ap, ◌∙◌, inl, inr, refl}
use Rattle.std.proofs.lemmas.Bool.{cases_Bool, eqb-true}
use Rattle.attr_sets.specs.Attributes.{Attributes, count_below}
use Rattle.attr_sets.proofs.AttributesLemmas.{count_below-equal, count_below-none}
use Rattle.schema_model.specs.Schemas.{Schema}
use Rattle.dep_model.specs.Tuples.{Relation}
use Rattle.legality.specs.Parts.{flag_at}
use Rattle.removal_laws.specs.Classes.{rows_of}
use Rattle.removal_laws.specs.Counts.{total}
use Rattle.removal_laws.proofs.CountLemmas.{in_group, count_by_groups, total-same}
use Rattle.row_groups.specs.Numberings.{number_at, AreGroups, AreFirsts}
use Rattle.row_measures.specs.Broken.{flagged_groups, flagged_rows}
use Rattle.row_store.specs.Rows.{row_at}
use Rattle.sql_evaluation.specs.Cells.{Cell}
use Rattle.sql_check_laws.proofs.GroupLemmas.{Cells}
use Rattle.sql_check_laws.proofs.ValuesLemmas.{cells_on, values_of}
use Rattle.sql_measure_laws.proofs.SumLemmas.{when, sum_over, sum-filter, length-sum, total-count}
use Rattle.sql_measure_laws.proofs.NumberLemmas.{AreSeparate, values-total}

-- the rows of a group that has a flag
and_last : (a b : Bool) → b ≡ false → (a && b) ≡ false
and_last true b e = e
and_last false b e = refl

flagged_where : (flags : List Bool) (g h : ℕ) → (flag_at flags g && (g == h)) ≡ (flag_at flags h && (g == h))
flagged_where flags g h = elim (cases_Bool (g == h)) [
  | inl is ↦ ap (λ (k : ℕ). flag_at flags k && (g == h)) (eqb-true g h is)
  | inr other ↦ and_last (flag_at flags g) (g == h) other ∙ sym (and_last (flag_at flags h) (g == h) other)
]

count_when : (b : Bool) (x : Attributes) (n : ℕ) → count_below (λ i. b && x i) n ≡ when b (count_below x n)
count_when true x n = refl
count_when false x n = count_below-none n (λ i. false) (λ i low. refl)

pub flagged-group : (numbers : List ℕ) (flags : List Bool) (h : ℕ)
    → count_below (in_group (λ i. flag_at flags (number_at numbers i)) (number_at numbers) h) (length numbers) ≡ when (flag_at flags h) (rows_of numbers h)
flagged-group numbers flags h =
    count_below-equal (length numbers) (in_group (λ (i : ℕ). flag_at flags (number_at numbers i)) (number_at numbers) h) (λ (i : ℕ). flag_at flags h && (number_at numbers i == h))
    (λ i low. flagged_where flags (number_at numbers i) h)
    ∙ count_when (flag_at flags h) (λ (i : ℕ). number_at numbers i == h) (length numbers)

module _ (s : Schema) (cell : Cells) (r : Relation) (x : Attributes) (numbers firsts : List ℕ)
    (apart : AreSeparate s cell r x) (are : AreGroups r x numbers) (first : AreFirsts numbers firsts)
    (flags : List Bool) (one_each : length flags ≡ length firsts) (passes : List Cell → Bool)
    (decides : (h : ℕ) → h < length firsts → passes (cells_on s cell x (row_at r (number_at firsts h))) ≡ flag_at flags h) where
  abbrev key_at : ℕ → List Cell
  key_at h = cells_on s cell x (row_at r (number_at firsts h))

  -- a sum over the values that pass
  pub passing-sum : (f : List Cell → ℕ) → sum_over f (filter passes (values_of s cell x r)) ≡ total (λ h. when (flag_at flags h) (f (key_at h))) (length firsts)
  passing-sum f =
      sum-filter f passes (values_of s cell x r)
      ∙ values-total s cell r x numbers firsts apart are first (λ (key : List Cell). when (passes key) (f key))
      ∙ total-same (λ (h : ℕ). when (passes (key_at h)) (f (key_at h))) (λ (h : ℕ). when (flag_at flags h) (f (key_at h))) (length firsts)
      (λ h h_in. ap (λ (b : Bool). when b (f (key_at h))) (decides h h_in))

  -- how many pass
  pub passing-count : length (filter passes (values_of s cell x r)) ≡ flagged_groups flags
  passing-count =
      length-sum passes (values_of s cell x r)
      ∙ values-total s cell r x numbers firsts apart are first (λ (key : List Cell). when (passes key) 1)
      ∙ total-same (λ (h : ℕ). when (passes (key_at h)) 1) (λ (h : ℕ). when (flag_at flags h) 1) (length firsts)
      (λ h h_in. ap (λ (b : Bool). when b 1) (decides h h_in))
      ∙ total-count (flag_at flags) (length firsts)
      ∙ ap (count_below (flag_at flags)) (sym one_each)

  -- the rows in their groups
  pub passing-rows : (f : List Cell → ℕ) → ((h : ℕ) → h < length firsts → f (key_at h) ≡ rows_of numbers h)
      → sum_over f (filter passes (values_of s cell x r)) ≡ flagged_rows numbers flags
  passing-rows f sizes =
      passing-sum f
      ∙ total-same (λ (h : ℕ). when (flag_at flags h) (f (key_at h)))
      (λ (h : ℕ). count_below (in_group (λ (i : ℕ). flag_at flags (number_at numbers i)) (number_at numbers) h) (length numbers)) (length firsts)
      (λ h h_in. ap (when (flag_at flags h)) (sizes h h_in) ∙ sym (flagged-group numbers flags h))
      ∙ sym (count_by_groups (λ (i : ℕ). flag_at flags (number_at numbers i)) (number_at numbers) (length firsts) (length numbers) first.each)
