-- Facts of rows that are sorted, for the functions that count and list them.
use Rattle.std.proofs.Common.{◌≡◌, ◌<◌, ℕ, Bool, List, length, map, sym, ap, subst, ◌∙◌, arith}
use Rattle.attr_sets.specs.Attributes.{Attributes}
use Rattle.row_groups.specs.Interning.{firsts_of, groups_of}
use Rattle.row_groups.specs.Numberings.{AreFirsts, number_at}
use Rattle.dep_model.specs.Tuples.{Relation}
use Rattle.dep_model.specs.Projections.{members_below}
use Rattle.legality.specs.Parts.{AreBelow, flag_at}
use Rattle.removal_laws.specs.Classes.{rows_of}
use Rattle.row_measures.specs.Answers.{group_parts_of, group_rows_of}
use Rattle.row_measures.specs.Broken.{in_flagged, ordinal}
use Rattle.row_measures.specs.ByClass.{AreSorted}
use Rattle.row_measures.specs.ByPart.{ArePartsSorted, group_by, group_row_by}
use Rattle.row_measures.specs.declared.breach.BrokenPart.{BrokenPart}
use Rattle.row_measures.specs.declared.breach.BrokenRow.{BrokenRow}
use Rattle.row_measures.specs.declared.breach.RowMark.{RowMark}
use Rattle.row_measures.specs.declared.breach.RowMark.TheVariants as mark
use Rattle.row_measures.specs.declared.breach.Measure.{Measure}
use Rattle.row_measures.specs.declared.by_class.ByClass.{ByClass}
use Rattle.row_measures.specs.declared.by_part.ByPart.{ByPart}
use Rattle.legality.proofs.CountLemmas.{few_firsts}

-- each row's group is one of so many
pub groups_below : {X : Type 0} (numbers firsts ns : List ℕ) (flags fs : List X) → AreFirsts numbers firsts → length flags ≡ length firsts
    → ns ≡ numbers → fs ≡ flags → AreBelow ns (length fs)
groups_below numbers firsts ns flags fs are size same_numbers same_flags i low =
    let inside : i < length numbers = omega (arith, low, ap length same_numbers) in
    omega (arith, ap (λ (l : List ℕ). number_at l i) same_numbers, are.each i inside, ap length same_flags, size)

-- no more flags than rows
pub few_flags : {X : Type 0} (numbers firsts : List ℕ) (flags fs : List X) (most : ℕ) → AreFirsts numbers firsts → length flags ≡ length firsts
    → fs ≡ flags → length numbers < most → length fs < most
few_flags numbers firsts flags fs most are size same few = omega (arith, ap length same, size, few_firsts numbers firsts are, few)

-- rows have as many classes as groups
pub even : (x y : Attributes) (r : Relation) (s : ByClass) (cs ns : List ℕ) → AreSorted x y r s → cs ≡ groups_of s.classes → ns ≡ groups_of s.groups
    → length cs ≡ length ns
even x y r s cs ns are same_classes same_groups =
    ap length same_classes ∙ are.by_both.one_each ∙ sym are.by_left.one_each ∙ sym (ap length same_groups)

pub measure_is : (g h r s a b : ℕ) → g ≡ h → r ≡ s → a ≡ b
    → ◌≡◌ {A = Measure} (record { groups = g; rows = r; amount = a }) (record { groups = h; rows = s; amount = b })
measure_is g h r s a b e f k = cc

-- ---- rows against a multivalued dependency
pub part_firsts : (n : ℕ) (x y : Attributes) (r : Relation) (s : ByPart) → ArePartsSorted n x y r s → AreFirsts (groups_of s.groups) (firsts_of s.groups)
part_firsts n x y r s are =
    subst (λ (l : List ℕ). AreFirsts l (firsts_of s.groups)) (sym are.groups)
    (subst (λ (l : List ℕ). AreFirsts are.parts.groups l) (sym are.firsts) are.parts.group_rows)

pub part_flags : (n : ℕ) (x y : Attributes) (r : Relation) (s : ByPart) → ArePartsSorted n x y r s → length s.broken.items ≡ length (firsts_of s.groups)
part_flags n x y r s are = ap length are.broken ∙ are.parts.flags.one_each ∙ sym (ap length are.firsts)

pub group_rows_are : (n : ℕ) (x y : Attributes) (r : Relation) (s : ByPart) (are : ArePartsSorted n x y r s)
    → map (group_row_by s) (in_flagged (groups_of s.groups) s.broken.items (length s.broken.items)) ≡ group_rows_of are.parts
group_rows_are n x y r s are =
    let by : List ℕ → List Bool → List BrokenRow = λ groups broken.
    map (λ (i : ℕ). record { group = ordinal broken (number_at groups i); row = i; mark = mark.Unmarked }) (in_flagged groups broken (length broken)) in
    ap (λ (l : List ℕ). by l s.broken.items) are.groups ∙ ap (by are.parts.groups) are.broken

pub group_parts_are : (n : ℕ) (x y : Attributes) (r : Relation) (s : ByPart) (are : ArePartsSorted n x y r s)
    → map (group_by s) (members_below (length s.broken.items) (flag_at s.broken.items)) ≡ group_parts_of are.parts
group_parts_are n x y r s are =
    let by : List ℕ → List ℕ → List Bool → List BrokenPart = λ groups firsts broken.
    map (λ (group : ℕ). record { group = ordinal broken group; rows = rows_of groups group; first = number_at firsts group; mark = mark.Unmarked })
    (members_below (length broken) (flag_at broken)) in
    ap (λ (l : List ℕ). by l (firsts_of s.groups) s.broken.items) are.groups
    ∙ ap (λ (l : List ℕ). by are.parts.groups l s.broken.items) are.firsts
    ∙ ap (by are.parts.groups are.parts.firsts) are.broken

-- ---- what is listed
pub part_is : (g h r s f k : ℕ) (m p : RowMark) → g ≡ h → r ≡ s → f ≡ k → m ≡ p
    → ◌≡◌ {A = BrokenPart} (record { group = g; rows = r; first = f; mark = m }) (record { group = h; rows = s; first = k; mark = p })
part_is g h r s f k m p a b d e = cc

pub row_is : (g h i : ℕ) (m p : RowMark) → g ≡ h → m ≡ p
    → ◌≡◌ {A = BrokenRow} (record { group = g; row = i; mark = m }) (record { group = h; row = i; mark = p })
row_is g h i m p a e = cc
