-- Rows beside rows, where no test of two rows is an error.
use Rattle.std.proofs.Common.{◌≡◌, ℕ, Bool, true, false, not, ◌&&◌, List, [], ◌∷◌, ◌++◌, map, filter, Some, Option, refl, sym, ap, subst, ◌∙◌, inl, inr, ⊎_elim, arith}
use Rattle.std.proofs.lemmas.Bool.{cases_Bool, true≢false, and_parts, and_from}
use Rattle.std.proofs.lemmas.List.Elements.{Contains-append_cases, Contains-append_left, Contains-append_right}
use Rattle.std.specs.Prelude.{Contains, if◌then◌else◌}
use Rattle.dep_model.proofs.ListLemmas.{Contains-head, Contains-later, Contains-cases}
use Rattle.sql_evaluation.specs.Cells.{Cell, equal}
use Rattle.sql_evaluation.specs.Values.{of_both, named_cell}
use Rattle.sql_evaluation.specs.Joins.{is_name_of, agree_by, cells_beside, row_joined, rows_joined}
use Rattle.sql_check_laws.proofs.ColumnLemmas.{NamesApart, named_cell-member}
use Rattle.sql_check_laws.proofs.RowLemmas.{some_is}

-- ---- one row
-- what comes of a row beside others
pub record AreBeside (by names others : List (List ℕ)) (row : List Cell) (more found : List (List Cell)) : Type 0 where
  pub from : (x : List Cell) → Contains found x → (other : List Cell) × Contains more other
      × (agree_by by names others row other ≡ Some true) × (x ≡ row ++ cells_beside by others other)
  pub to : (other : List Cell) → Contains more other → agree_by by names others row other ≡ Some true
      → Contains found (row ++ cells_beside by others other)

pub beside-known : (by names others : List (List ℕ)) (row : List Cell) (more : List (List Cell))
    → ((other : List Cell) → Contains more other → (b : Bool) × (agree_by by names others row other ≡ Some b))
    → (found : List (List Cell)) × (row_joined by names others row more ≡ Some found) × AreBeside by names others row more found
beside-known by names others row [] known =
    ([], refl, record { from = λ x h. absurd (omega (arith, h.1)); to = λ other h e. absurd (omega (arith, h.1)) })
beside-known by names others row (other ∷ rest) known =
    let here = known other (Contains-head other rest) in
    let later = beside-known by names others row rest (λ o h. known o (Contains-later other rest o h)) in
    let new = row ++ cells_beside by others other in
    let put = λ (agree : Bool) (all : List (List Cell)). if agree then new ∷ all else all in
    let is : row_joined by names others row (other ∷ rest) ≡ Some (put here.0 later.0) =
    ap (λ (a : Option Bool). of_both (λ agree all. Some (put agree all)) a (row_joined by names others row rest)) here.1
    ∙ ap (λ (m : Option (List (List Cell))). of_both (λ agree all. Some (put agree all)) (Some here.0) m) later.1 in
    (put here.0 later.0, is, by_test here.0 here.1 later.0 later.2)
  where
    by_test : (b : Bool) → agree_by by names others row other ≡ Some b → (found : List (List Cell)) → AreBeside by names others row rest found
        → AreBeside by names others row (other ∷ rest) (if b then (row ++ cells_beside by others other) ∷ found else found)
    by_test true e found all = record {
      from = λ x h. ⊎_elim
          (λ (is : x ≡ row ++ cells_beside by others other). (other, Contains-head other rest, e, is))
          (λ later. let it = all.from x later in (it.0, Contains-later other rest it.0 it.1, it.2, it.3))
          (Contains-cases (row ++ cells_beside by others other) found x h);
      to = λ o h agrees. ⊎_elim
          (λ (is : o ≡ other). subst (λ (z : List Cell). Contains ((row ++ cells_beside by others other) ∷ found) (row ++ cells_beside by others z)) (sym is)
          (Contains-head (row ++ cells_beside by others other) found))
          (λ later. Contains-later (row ++ cells_beside by others other) found (row ++ cells_beside by others o) (all.to o later agrees))
          (Contains-cases other rest o h);
    }
    by_test false e found all = record {
      from = λ x h. let it = all.from x h in (it.0, Contains-later other rest it.0 it.1, it.2, it.3);
      to = λ o h agrees. ⊎_elim
          (λ (is : o ≡ other). absurd (true≢false (some_is true false (sym agrees ∙ ap (agree_by by names others row) is ∙ e))))
          (λ later. all.to o later agrees)
          (Contains-cases other rest o h);
    }

-- ---- all rows
-- what comes of rows beside others
pub record AreJoined (by names others : List (List ℕ)) (rows more found : List (List Cell)) : Type 0 where
  pub from : (x : List Cell) → Contains found x → (row other : List Cell) × Contains rows row × Contains more other
      × (agree_by by names others row other ≡ Some true) × (x ≡ row ++ cells_beside by others other)
  pub to : (row other : List Cell) → Contains rows row → Contains more other → agree_by by names others row other ≡ Some true
      → Contains found (row ++ cells_beside by others other)

pub joined-known : (by names others : List (List ℕ)) (rows more : List (List Cell))
    → ((row other : List Cell) → Contains rows row → Contains more other → (b : Bool) × (agree_by by names others row other ≡ Some b))
    → (found : List (List Cell)) × (rows_joined by names others rows more ≡ Some found) × AreJoined by names others rows more found
joined-known by names others [] more known =
    ([], refl, record { from = λ x h. absurd (omega (arith, h.1)); to = λ row other h m e. absurd (omega (arith, h.1)) })
joined-known by names others (row ∷ rows) more known =
    let here = beside-known by names others row more (λ other h. known row other (Contains-head row rows) h) in
    let later = joined-known by names others rows more (λ o other h m. known o other (Contains-later row rows o h) m) in
    let is : rows_joined by names others (row ∷ rows) more ≡ Some (here.0 ++ later.0) =
    ap (λ (a : Option (List (List Cell))). of_both (λ first rest. Some (first ++ rest)) a (rows_joined by names others rows more)) here.1
    ∙ ap (λ (m : Option (List (List Cell))). of_both (λ (first rest : List (List Cell)). Some (first ++ rest)) (Some here.0) m) later.1 in
    let one = here.2 in
    let rest = later.2 in (
      here.0 ++ later.0,
      is,
      record {
        from = λ x h. ⊎_elim
            (λ first. let it = one.from x first in (row, it.0, Contains-head row rows, it.1, it.2, it.3))
            (λ second. let it = rest.from x second in (it.0, it.1, Contains-later row rows it.0 it.2, it.3, it.4, it.5))
            (Contains-append_cases here.0 later.0 x h);
        to = λ o other h m agrees. ⊎_elim
            (λ (same : o ≡ row). Contains-append_left here.0 later.0 (o ++ cells_beside by others other)
            (subst (λ (z : List Cell). Contains here.0 (z ++ cells_beside by others other)) (sym same)
            (one.to other m (subst (λ (z : List Cell). agree_by by names others z other ≡ Some true) same agrees))))
            (λ after. Contains-append_right here.0 later.0 (o ++ cells_beside by others other) (rest.to o other after m agrees))
            (Contains-cases row rows o h);
      },
    )

-- ---- the values of a row under other names
pub cells_beside-known : (name : ℕ → List ℕ) (cell : ℕ → Cell) (by : List (List ℕ)) (ms : List ℕ)
    → cells_beside by (map name ms) (map cell ms) ≡ map cell (filter (λ m. not (is_name_of by (name m))) ms)
cells_beside-known name cell by [] = refl
cells_beside-known name cell by (m ∷ ms) = elim (cases_Bool (is_name_of by (name m))) [
  | inl is ↦ rw is (cells_beside-known name cell by ms)
  | inr other ↦ rw other (ap (λ (cells : List Cell). cell m ∷ cells) (cells_beside-known name cell by ms))
]

-- ---- whether two rows agree
-- two rows have equal values in columns
abbrev pub AllEqual : (ℕ → Cell) → (ℕ → Cell) → List ℕ → Type 0
AllEqual c d ks = (k : ℕ) → Contains ks k → equal (c k) (d k) ≡ Some true

pub record AgreesWhere (by names others : List (List ℕ)) (row other : List Cell) (P : Type 0) : Type 0 where
  pub test : Bool
  pub is : agree_by by names others row other ≡ Some test
  pub to : test ≡ true → P
  pub from : P → test ≡ true

module _ (name : ℕ → List ℕ) (c d : ℕ → Cell) (ks ms : List ℕ) (apart_ks : NamesApart name ks) (apart_ms : NamesApart name ms) where
  pub agree-known : (sh : List ℕ) → ((k : ℕ) → Contains sh k → Contains ks k) → ((k : ℕ) → Contains sh k → Contains ms k)
      → ((k : ℕ) → Contains sh k → (b : Bool) × (equal (c k) (d k) ≡ Some b))
      → AgreesWhere (map name sh) (map name ks) (map name ms) (map c ks) (map d ms) (AllEqual c d sh)
  agree-known [] in_ks in_ms compared = record { test = true; is = refl; to = λ e k h. absurd (omega (arith, h.1)); from = λ all. refl }
  agree-known (k ∷ sh) in_ks in_ms compared =
      let here = compared k (Contains-head k sh) in
      let rest = agree-known sh (λ m h. in_ks m (Contains-later k sh m h)) (λ m h. in_ms m (Contains-later k sh m h)) (λ m h. compared m (Contains-later k sh m h)) in
      let left = named_cell-member name c ks k apart_ks (in_ks k (Contains-head k sh)) in
      let right = named_cell-member name d ms k apart_ms (in_ms k (Contains-head k sh)) in
      let first : of_both equal (named_cell (map name ks) (map c ks) (name k)) (named_cell (map name ms) (map d ms) (name k)) ≡ Some here.0 =
      ap (λ (a : Option Cell). of_both equal a (named_cell (map name ms) (map d ms) (name k))) left
      ∙ ap (λ (b : Option Cell). of_both equal (Some (c k)) b) right ∙ here.1 in
      let later = agree_by (map name sh) (map name ks) (map name ms) (map c ks) (map d ms) in
      record {
        test = here.0 && rest.test;
        is = ap (λ (a : Option Bool). of_both (λ x y. Some (x && y)) a later) first
            ∙ ap (λ (b : Option Bool). of_both (λ (x y : Bool). Some (x && y)) (Some here.0) b) rest.is;
        to = λ e m h. let both = and_parts here.0 rest.test e in ⊎_elim
            (λ (same : m ≡ k). subst (λ (z : ℕ). equal (c z) (d z) ≡ Some true) (sym same) (here.1 ∙ ap (λ (b : Bool). Some b) both.0))
            (λ after. rest.to both.1 m after)
            (Contains-cases k sh m h);
        from = λ all. and_from here.0 rest.test
            (some_is here.0 true (sym here.1 ∙ all k (Contains-head k sh))) (rest.from (λ m h. all m (Contains-later k sh m h)));
      }
