-- The ordered projection of rows, by the first rows of their groups; and the columns of its table.
use Rattle.std.proofs.Common.{inl, inr, ◌≡◌, ◌+◌, ◌<◌, ◌≤◌, ℕ, zero, suc, true, false, List, [], ◌∷◌, ◌++◌, length, get_or, map, take, sym, ap, subst, ◌∙◌, arith, add-one}
use Rattle.std.specs.Prelude.{All, Some, slice_get}
use Rattle.std.proofs.lemmas.Bool.{cases_Bool}
use Rattle.std.proofs.lemmas.List.{map-append, length-map, length-append, take_all}
use Rattle.std.proofs.lemmas.Option.{get_or_from_slice_get, slice_get-get_or, slice_get_within}
use Rattle.std.proofs.Math.ListN.{get_or-map}
use Rattle.attr_sets.specs.Attributes.{Attributes, count_below}
use Rattle.attr_sets.proofs.AttributesLemmas.{count_below-member, count_below-outside, count_below-none}
use Rattle.dep_model.specs.Tuples.{Tuple, Relation, IsOver}
use Rattle.dep_model.specs.Projections.{members_below, project_tuple, projection, ordered_projection}
use Rattle.dep_model.proofs.SchemeLemmas.{members_below-member, members_below-outside, length-project_tuple}
use Rattle.dep_model.proofs.JoinLemmas.{project_tuple-same, agree-from_projections}
use Rattle.schema_printer.specs.Printing.{members_from}
use Rattle.schema_printer.proofs.MemberLemmas.{names_inside, names_outside}
use Rattle.row_groups.specs.Numberings.{AreGroups, AreFirsts}
use Rattle.row_store.specs.Rows.{row_at}
use Rattle.dep_model.proofs.ListLemmas.{same_default}
use Rattle.csv_migrate.proofs.DistinctLemmas.{AreClasses, distinct_values}

-- ---- rows by the groups of a scheme
abbrev pub projected_row : Attributes → Relation → ℕ → Tuple
projected_row scheme rows i = project_tuple scheme (row_at rows i)

pub row_width : (n : ℕ) (rows : Relation) (i : ℕ) → IsOver n rows → i < length rows → length (row_at rows i) ≡ n
row_width n rows i over l = over i [] l

classes_of : (n : ℕ) (rows : Relation) (scheme : Attributes) (numbers : List ℕ) → IsOver n rows
    → AreGroups rows scheme numbers → AreClasses (projection scheme rows) (projected_row scheme rows) numbers
classes_of n rows scheme numbers over groups = record {
  one_each = groups.one_each ∙ sym count;
  at = λ i l.
      let low : i < length rows = omega (arith, l, count) in
      same_default (projection scheme rows) i [] (project_tuple scheme []) l
      ∙ get_or-map (project_tuple scheme) rows i [];
  equal = λ i j li lj same.
      let low : i < length rows = omega (arith, li, count) in
      let low' : j < length rows = omega (arith, lj, count) in
      project_tuple-same scheme (row_at rows i) (row_at rows j)
      (row_width n rows i over low ∙ sym (row_width n rows j over low')) ((groups.equal i j low low').0 same);
  back = λ i j li lj same.
      (groups.equal i j (omega (arith, li, count)) (omega (arith, lj, count))).1
      (agree-from_projections scheme (row_at rows i) (row_at rows j) same);
  in_order = groups.in_order;
}
  where
    count : length (projection scheme rows) ≡ length rows
    count = length-map rows (project_tuple scheme)

-- the projections at the first rows of the groups are the ordered projection
pub first_projections : (n : ℕ) (rows : Relation) (scheme : Attributes) (numbers firsts : List ℕ) → IsOver n rows
    → AreGroups rows scheme numbers → AreFirsts numbers firsts
    → map (projected_row scheme rows) firsts ≡ ordered_projection scheme rows
first_projections n rows scheme numbers firsts over groups are =
    sym (distinct_values (projection scheme rows) (projected_row scheme rows) numbers firsts
    (classes_of n rows scheme numbers over groups) are)

-- ---- the names of the columns
pub name_taken : (x : Attributes) (names : List (List ℕ)) (n : ℕ) (name : List ℕ) → slice_get names n ≡ Some name
    → x n ≡ true
    → members_from x 0 (take (n + 1) names) ≡ members_from x 0 (take n names) ++ name ∷ []
name_taken x names n name is member =
    names_inside x names n (slice_get_within names n name is) member
    ∙ ap (λ (last : List ℕ). members_from x 0 (take n names) ++ last ∷ []) (get_or_from_slice_get names n name [] is)

pub name_passed : (x : Attributes) (names : List (List ℕ)) (n : ℕ) → n < length names → x n ≡ false
    → members_from x 0 (take (n + 1) names) ≡ members_from x 0 (take n names)
name_passed = names_outside

pub ruleset name_steps = (name_taken, name_passed)

names_counted : (x : Attributes) (names : List (List ℕ)) (n : ℕ) → n ≤ length names
    → length (members_from x 0 (take n names)) ≡ count_below x n
names_counted x names zero l = sym (count_below-none 0 x (λ k low. absurd (omega (arith, low))))
names_counted x names (suc n) l =
    let e : suc n ≡ n + 1 = omega arith in
    let low : n < length names = omega (arith, l) in
    let rest = names_counted x names n (omega (arith, l)) in
    elim (cases_Bool (x n)) [
      | inl member ↦ ap (λ (m : ℕ). length (members_from x 0 (take m names))) e
          ∙ ap length (name_taken x names n (get_or names n []) (slice_get-get_or names n [] low) member)
          ∙ length-append (members_from x 0 (take n names)) (get_or names n [] ∷ []) ∙ ap (λ (m : ℕ). m + 1) rest
          ∙ sym (count_below-member n x member) ∙ ap (count_below x) (sym e)
      | inr outside ↦ ap (λ (m : ℕ). length (members_from x 0 (take m names))) e
          ∙ ap length (name_passed x names n low outside)
          ∙ rest ∙ sym (count_below-outside n x outside) ∙ ap (count_below x) (sym e)
    ]

-- as many columns as there are members
pub column_count : (x : Attributes) (names : List (List ℕ)) → length (members_from x 0 names) ≡ count_below x (length names)
column_count x names =
    ap (λ (l : List (List ℕ)). length (members_from x 0 l)) (sym (take_all (length names) names (omega arith)))
    ∙ names_counted x names (length names) (omega arith)

-- ---- the first rows of the groups
-- they are there, and have a value for each column
pub firsts_even : (names : List (List ℕ)) (rows : Relation) (x : Attributes) (numbers firsts : List ℕ)
    (columns : List (List ℕ)) → IsOver (length names) rows → AreGroups rows x numbers → AreFirsts numbers firsts
    → columns ≡ members_from x 0 names
    → All (λ i. (i < length rows) × (length (projected_row x rows i) ≡ length columns)) firsts
firsts_even names rows x numbers firsts columns over groups are is_columns g d l =
    let within : get_or firsts g d < length rows = omega (arith, same_default firsts g d 0 l, are.within g l, groups.one_each) in (
      within,
      length-project_tuple x (row_at rows (get_or firsts g d))
          ∙ ap (count_below x) (row_width (length names) rows (get_or firsts g d) over within)
          ∙ sym (ap length is_columns ∙ column_count x names),
    )

pub firsts_there : (rows : Relation) (x : Attributes) (numbers firsts chosen : List ℕ) → AreGroups rows x numbers
    → AreFirsts numbers firsts → chosen ≡ firsts → All (λ i. i < length rows) chosen
firsts_there rows x numbers firsts chosen groups are same =
    subst (All (λ i. i < length rows)) (sym same)
    (λ g d l. omega (arith, same_default firsts g d 0 l, are.within g l, groups.one_each))

-- ---- whether values of a scheme's attributes may be missing
pub flag_taken : (nullable x : Attributes) (n : ℕ) → x n ≡ true
    → map nullable (members_below (n + 1) x) ≡ map nullable (members_below n x) ++ nullable n ∷ []
flag_taken nullable x n member =
    rw add-one (ap (map nullable) (members_below-member n x member)
    ∙ map-append nullable (members_below n x) (n ∷ []))

pub flag_passed : (nullable x : Attributes) (n : ℕ) → x n ≡ false
    → map nullable (members_below (n + 1) x) ≡ map nullable (members_below n x)
flag_passed nullable x n outside = rw add-one (ap (map nullable) (members_below-outside n x outside))
