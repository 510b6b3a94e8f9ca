-- Rows beside others, of which those stay that none agrees with.
use Rattle.std.proofs.Common.{◌≡◌, ℕ, ◌⊎◌, Bool, true, not, List, [], ◌∷◌, ◌++◌, map, filter, Some, Option, refl, sym, ap, subst, ◌∙◌, inl, inr, ⊎_elim, arith}
use Rattle.std.proofs.lemmas.List.Elements.{Contains-append_cases, Contains-append_left, Contains-append_right}
use Rattle.std.specs.Prelude.{Contains}
use Rattle.dep_model.proofs.ListLemmas.{Contains-head, Contains-later, Contains-cases}
use Rattle.sql_evaluation.specs.Cells.{Cell, missing}
use Rattle.sql_evaluation.specs.Values.{of_both}
use Rattle.sql_evaluation.specs.Joins.{is_name_of, agree_by, cells_beside, missing_beside, or_alone, rows_left_joined}
use Rattle.sql_check_laws.proofs.EachLemmas.{filter-map, map-map}
use Rattle.sql_migrate_laws.proofs.BesideLemmas.{AreBeside, beside-known}

-- ---- one row
-- a row beside one that agrees with it
abbrev pub IsMatched : List (List ℕ) → List (List ℕ) → List (List ℕ) → List Cell → List (List Cell) → List Cell → Type 0
IsMatched by names others row more x =
    (other : List Cell) × Contains more other × (agree_by by names others row other ≡ Some true) × (x ≡ row ++ cells_beside by others other)

-- none agrees with a row
abbrev pub HasNone : List (List ℕ) → List (List ℕ) → List (List ℕ) → List Cell → List (List Cell) → Type 0
HasNone by names others row more = (other : List Cell) → Contains more other → agree_by by names others row other ≡ Some true → ⊥

-- a row that stays
abbrev pub IsAlone : List (List ℕ) → List (List ℕ) → List (List ℕ) → List Cell → List (List Cell) → List Cell → Type 0
IsAlone by names others row more x = HasNone by names others row more × (x ≡ row ++ missing_beside by others)

record IsPut (by names others : List (List ℕ)) (row : List Cell) (more found : List (List Cell)) : Type 0 where
  from : (x : List Cell) → Contains found x → IsMatched by names others row more x ⊎ IsAlone by names others row more x
  to : (other : List Cell) → Contains more other → agree_by by names others row other ≡ Some true → Contains found (row ++ cells_beside by others other)
  alone : HasNone by names others row more → Contains found (row ++ missing_beside by others)

put-known : (by names others : List (List ℕ)) (row : List Cell) (more found : List (List Cell)) → AreBeside by names others row more found
    → IsPut by names others row more (or_alone by others row found)
put-known by names others row more [] all = record {
  from = λ x h. ⊎_elim
      (λ (is : x ≡ row ++ missing_beside by others). inr ((λ other m e. let none = all.to other m e in absurd (omega (arith, none.1))), is))
      (λ later. absurd (omega (arith, later.1)))
      (Contains-cases (row ++ missing_beside by others) [] x h);
  to = λ other m e. let none = all.to other m e in absurd (omega (arith, none.1));
  alone = λ none. Contains-head (row ++ missing_beside by others) [];
}
put-known by names others row more (first ∷ found) all = record {
  from = λ x h. inl (all.from x h);
  to = all.to;
  alone = λ none. let it = all.from first (Contains-head first found) in absurd (none it.0 it.1 it.2);
}

-- ---- all rows
pub record AreLeftJoined (by names others : List (List ℕ)) (rows more found : List (List Cell)) : Type 0 where
  pub from : (x : List Cell) → Contains found x
      → (row : List Cell) × Contains rows row × (IsMatched by names others row more x ⊎ IsAlone by names others row more x)
  pub to : (row other : List Cell) → Contains rows row → Contains more other → agree_by by names others row other ≡ Some true
      → Contains found (row ++ cells_beside by others other)
  pub alone : (row : List Cell) → Contains rows row → HasNone by names others row more → Contains found (row ++ missing_beside by others)

pub left-known : (by names others : List (List ℕ)) (rows more : List (List Cell))
    → ((row other : List Cell) → Contains rows row → Contains more other → (b : Bool) × (agree_by by names others row other ≡ Some b))
    → (found : List (List Cell)) × (rows_left_joined by names others rows more ≡ Some found) × AreLeftJoined by names others rows more found
left-known by names others [] more known = (
  [],
  refl,
  record {
    from = λ x h. absurd (omega (arith, h.1));
    to = λ row other h m e. absurd (omega (arith, h.1));
    alone = λ row h none. absurd (omega (arith, h.1));
  },
)
left-known by names others (row ∷ rows) more known =
    let here = beside-known by names others row more (λ other h. known row other (Contains-head row rows) h) in
    let later = left-known by names others rows more (λ o other h m. known o other (Contains-later row rows o h) m) in
    let put = or_alone by others row here.0 in
    let is : rows_left_joined by names others (row ∷ rows) more ≡ Some (put ++ later.0) =
    ap (λ (a : Option (List (List Cell))). of_both (λ first rest. Some (or_alone by others row first ++ rest)) a (rows_left_joined by names others rows more)) here.1
    ∙ ap (λ (m : Option (List (List Cell))). of_both (λ (first rest : List (List Cell)). Some (or_alone by others row first ++ rest)) (Some here.0) m) later.1 in
    let one = put-known by names others row more here.0 here.2 in
    let rest = later.2 in (
      put ++ later.0,
      is,
      record {
        from = λ x h. ⊎_elim
            (λ first. (row, Contains-head row rows, one.from x first))
            (λ second. let it = rest.from x second in (it.0, Contains-later row rows it.0 it.1, it.2))
            (Contains-append_cases put later.0 x h);
        to = λ o other h m agrees. ⊎_elim
            (λ (same : o ≡ row). Contains-append_left put later.0 (o ++ cells_beside by others other)
            (subst (λ (z : List Cell). Contains put (z ++ cells_beside by others other)) (sym same)
            (one.to other m (subst (λ (z : List Cell). agree_by by names others z other ≡ Some true) same agrees))))
            (λ after. Contains-append_right put later.0 (o ++ cells_beside by others other) (rest.to o other after m agrees))
            (Contains-cases row rows o h);
        alone = λ o h none. ⊎_elim
            (λ (same : o ≡ row). Contains-append_left put later.0 (o ++ missing_beside by others)
            (subst (λ (z : List Cell). Contains put (z ++ missing_beside by others)) (sym same)
            (one.alone (subst (λ (z : List Cell). HasNone by names others z more) same none))))
            (λ after. Contains-append_right put later.0 (o ++ missing_beside by others) (rest.alone o after none))
            (Contains-cases row rows o h);
      },
    )

-- ---- the values that such a row misses
pub missing_beside-known : (name : ℕ → List ℕ) (by : List (List ℕ)) (ms : List ℕ)
    → missing_beside by (map name ms) ≡ map (λ m. missing) (filter (λ m. not (is_name_of by (name m))) ms)
missing_beside-known name by ms =
    ap (map (λ (n : List ℕ). missing)) (filter-map (λ n. not (is_name_of by n)) name ms)
    ∙ map-map (λ (n : List ℕ). missing) name (filter (λ m. not (is_name_of by (name m))) ms)
