-- Tables of a relation's projections that are joined, or looked up, one after the other.
use Rattle.std.proofs.Common.{◌≡◌, ◌<◌, ℕ, ◌⊎◌, Bool, true, false, not, List, [], ◌∷◌, ◌++◌, map, filter, Some, Option, refl, sym, ap, subst, ◌∙◌, inl, inr, ⊎_elim, arith}
use Rattle.std.proofs.lemmas.Bool.{cases_Bool, true≢false}
use Rattle.std.proofs.lemmas.List.{map-append}
use Rattle.std.proofs.lemmas.List.Elements.{Contains-append_cases, Contains-append_left, Contains-append_right}
use Rattle.std.proofs.lemmas.Map.Views.{Contains-from_any}
use Rattle.std.specs.Prelude.{Contains, if◌then◌else◌, option_map}
use Rattle.std.specs.Set.{unique_keys}
use Rattle.std.specs.Str.{bytes_eq}
use Rattle.attr_sets.specs.Attributes.{Attributes, union}
use Rattle.attr_sets.specs.Sets.{attributes}
use Rattle.sql_check_laws.proofs.CountLemmas.{in_unique, from_unique}
use Rattle.schema_model.specs.declared.column_type.ColumnType.TheVariants.{Integer}
use Rattle.schema_model.specs.Schemas.{Schema}
use Rattle.dep_model.specs.Projections.{members_below}
use Rattle.schema_model.specs.Schemas.{width_of}
use Rattle.dep_model.specs.Tuples.{Tuple, Relation, value_at}
use Rattle.dep_model.proofs.DistinctLemmas.{filter-member, filter-keeps}
use Rattle.dep_model.proofs.ListLemmas.{Contains-head, Contains-later, Contains-cases, Contains-map, map-member}
use Rattle.sql_check.specs.Columns.{name_at, type_at}
use Rattle.sql_evaluation.specs.Cells.{Cell, missing, same_row, is_none, equal}
use Rattle.sql_evaluation.specs.Evaluation.{Rows, joined_by, left_joined_by}
use Rattle.sql_evaluation.specs.Joins.{is_name_of, agree_by, cells_beside, rows_joined, missing_beside, rows_left_joined}
use Rattle.sql_evaluation.specs.Running.{Cast}
use Rattle.sql_check_laws.specs.HeldRelations.{compared_cell, AreApart, CastsIntegers}
use Rattle.sql_check_laws.specs.CheckedRules.{AreIntegers}
use Rattle.sql_check_laws.proofs.CellLemmas.{same_row-decides, names_apart, names_on_apart, member_of, is_member_of}
use Rattle.sql_check_laws.proofs.ColumnLemmas.{bytes_same}
use Rattle.sql_check_laws.proofs.EachLemmas.{map-known, filter-map}
use Rattle.sql_check_laws.proofs.RowLemmas.{some_is}
use Rattle.sql_check_laws.proofs.ValuesLemmas.{names_on}
use Rattle.sql_migrate.specs.declared.joining.JoinedTable.{JoinedTable}
use Rattle.sql_migrate_laws.specs.Ending.{AreComparable}
use Rattle.sql_migrate_laws.proofs.EnteredLemmas.{Cells, entered, entered-apart, entered-compared, equal-same, equal-self}
use Rattle.sql_migrate_laws.proofs.AloneLemmas.{HasNone, left-known, missing_beside-known}
use Rattle.sql_migrate_laws.proofs.BesideLemmas.{joined-known, cells_beside-known, AgreesWhere, agree-known}

-- ---- names
named : (names : List (List ℕ)) (name : List ℕ) → Contains names name → is_name_of names name ≡ true
named [] name h = absurd (omega (arith, h.1))
named (first ∷ names) name h = ⊎_elim
    (λ (same : name ≡ first). let here : bytes_eq name first ≡ true = (bytes_same name first).1 same in grind (arith, here))
    (λ later. let there : is_name_of names name ≡ true = named names name later in grind (arith, there))
    (Contains-cases first names name h)

-- ---- rows of values
abbrev pub with_names : List (List ℕ) → List (List Cell) → Rows
with_names names rows = record { names = names; rows = rows }

-- the row of values at attributes
abbrev pub row_at : Schema → Cast → Cells → List ℕ → (ℕ → List ℕ) → List Cell
row_at s cast cell ks w = map (λ k. entered s cast cell k (w k)) ks

-- the rows of a table of a scheme
abbrev pub projected : Schema → Cast → Cells → Relation → Attributes → Rows
projected s cast cell r x = record {
  names = names_on s x;
  rows = unique_keys same_row (map (λ t. row_at s cast cell (members_below (width_of s) x) (value_at t)) r);
}

-- values that each of these tables has
abbrev pub InEach : Schema → Relation → List JoinedTable → (ℕ → List ℕ) → Type 0
InEach s r done w =
    (x : JoinedTable) → Contains done x
    → (t : Tuple) × Contains r t × ((k : ℕ) → k < width_of s → attributes x.scheme k ≡ true → w k ≡ value_at t k)

-- rows are the join of these tables, with the attributes that are seen
pub record IsJoinOf (s : Schema) (cast : Cast) (cell : Cells) (r : Relation) (done : List JoinedTable) (seen : Attributes) (a : Rows) : Type 0 where
  pub ks : List ℕ
  pub names : a.names ≡ map (name_at s) ks
  pub inside : (k : ℕ) → Contains ks k → (k < width_of s) × (seen k ≡ true)
  pub has : (k : ℕ) → k < width_of s → seen k ≡ true → Contains ks k
  pub of_done : (k : ℕ) → seen k ≡ true → (x : JoinedTable) × Contains done x × (attributes x.scheme k ≡ true)
  pub seen_of : (x : JoinedTable) → Contains done x → (k : ℕ) → attributes x.scheme k ≡ true → seen k ≡ true
  pub from : (o : List Cell) → Contains a.rows o → (w : ℕ → List ℕ) × (o ≡ row_at s cast cell ks w) × InEach s r done w
  pub to : (t : Tuple) → Contains r t → Contains a.rows (row_at s cast cell ks (value_at t))

-- ---- rows of a table
pub row-projected : (s : Schema) (cast : Cast) (cell : Cells) (r : Relation) (x : Attributes) (o : List Cell) → Contains (projected s cast cell r x).rows o
    → (t : Tuple) × Contains r t × (row_at s cast cell (members_below (width_of s) x) (value_at t) ≡ o)
row-projected s cast cell r x o h =
    map-member (λ (t : Tuple). row_at s cast cell (members_below (width_of s) x) (value_at t)) r o
    (from_unique same_row same_row-decides (map (λ t. row_at s cast cell (members_below (width_of s) x) (value_at t)) r) o h)

pub projected-row : (s : Schema) (cast : Cast) (cell : Cells) (r : Relation) (x : Attributes) (t : Tuple) → Contains r t
    → Contains (projected s cast cell r x).rows (row_at s cast cell (members_below (width_of s) x) (value_at t))
projected-row s cast cell r x t h =
    in_unique same_row same_row-decides (map (λ t. row_at s cast cell (members_below (width_of s) x) (value_at t)) r) _
    (Contains-map (λ (t : Tuple). row_at s cast cell (members_below (width_of s) x) (value_at t)) r t h)

-- ---- one table more, of the projection of a part of the relation, by the attributes that it shares with those joined
module _ (cast : Cast) (s : Schema) (cell : Cells) (r : Relation) (casts : CastsIntegers cast)
    (integers : (k : ℕ) → k < width_of s → type_at s k ≡ Integer → AreIntegers (compared_cell cell) r k)
    (apart : AreApart s cell r) (comparable : AreComparable s cell r)
    (done : List JoinedTable) (seen : Attributes) (a : Rows) (x : JoinedTable) (j : IsJoinOf s cast cell r done seen a)
    (c : Relation) (part : (t : Tuple) → Contains c t → Contains r t)
    (shared : Attributes) (in_shared : (k : ℕ) → shared k ≡ true → (seen k ≡ true) × (attributes x.scheme k ≡ true))
    (is_shared : (k : ℕ) → k < width_of s → seen k ≡ true → attributes x.scheme k ≡ true → shared k ≡ true)
    (present : (t : Tuple) → Contains c t → (k : ℕ) → k < width_of s → shared k ≡ true → is_none (entered s cast cell k (value_at t k)) ≡ false) where
  abbrev scheme : Attributes
  scheme = attributes x.scheme

  abbrev ms : List ℕ
  ms = members_below (width_of s) scheme

  abbrev by : List (List ℕ)
  by = map (name_at s) (members_below (width_of s) shared)

  abbrev new : List ℕ
  new = filter (λ m. not (is_name_of by (name_at s m))) ms

  -- values of a row, and of a tuple where they are the same
  abbrev SameShared : (ℕ → List ℕ) → Tuple → Type 0
  SameShared w t = (k : ℕ) → k < width_of s → shared k ≡ true → w k ≡ value_at t k

  shared-named : (k : ℕ) → k < width_of s → shared k ≡ true → is_name_of by (name_at s k) ≡ true
  shared-named k low e = named by (name_at s k) (Contains-map (name_at s) (members_below (width_of s) shared) k (is_member_of (width_of s) shared k low e))

  named-shared : (k : ℕ) → k < width_of s → is_name_of by (name_at s k) ≡ true → shared k ≡ true
  named-shared k low e =
      let there = Contains-from_any (λ p q same. (bytes_same p q).0 same) (name_at s k) by e in
      let found = map-member (name_at s) (members_below (width_of s) shared) (name_at s k) there in
      let m = member_of (width_of s) shared found.0 found.1 in
      subst (λ (i : ℕ). shared i ≡ true) (names_apart s found.0 k m.0 low found.2) m.1

  -- a value of a row is one of the relation
  value_from : (w : ℕ → List ℕ) → InEach s r done w → (k : ℕ) → k < width_of s → seen k ≡ true → (t : Tuple) × Contains r t × (w k ≡ value_at t k)
  value_from w each k low e =
      let of = j.of_done k e in
      let t = each of.0 of.1 in
      (t.0, t.1, t.2 k low of.2)

  agrees : (w : ℕ → List ℕ) → InEach s r done w → (t : Tuple) → Contains c t
      → AgreesWhere by (map (name_at s) j.ks) (map (name_at s) ms) (row_at s cast cell j.ks w) (row_at s cast cell ms (value_at t)) (SameShared w t)
  agrees w each t h' =
      let h = part t h' in
      let sh = members_below (width_of s) shared in
      let law = agree-known (name_at s) (λ k. entered s cast cell k (w k)) (λ k. entered s cast cell k (value_at t k)) j.ks ms
      (λ k m hk hm same. names_apart s k m (j.inside k hk).0 (j.inside m hm).0 same) (names_on_apart s scheme) sh
      (λ k m. let is = member_of (width_of s) shared k m in j.has k is.0 (in_shared k is.1).0)
      (λ k m. let is = member_of (width_of s) shared k m in is_member_of (width_of s) scheme k is.0 (in_shared k is.1).1)
      (λ k m.
      let is = member_of (width_of s) shared k m in
      let of = value_from w each k is.0 (in_shared k is.1).0 in
      subst (λ (v : List ℕ). (b : Bool) × (equal (entered s cast cell k v) (entered s cast cell k (value_at t k)) ≡ Some b)) (sym of.2)
      (entered-compared cast s cell r casts integers comparable k of.0 t is.0 of.1 h)) in
      record {
        test = law.test;
        is = law.is;
        to = λ e k low m.
            let of = value_from w each k low (in_shared k m).0 in
            let same = equal-same (entered s cast cell k (w k)) (entered s cast cell k (value_at t k)) (law.to e k (is_member_of (width_of s) shared k low m)) in
            of.2 ∙ entered-apart cast s cell r casts integers apart k of.0 t low of.1 h
            (ap (λ (v : List ℕ). entered s cast cell k v) (sym of.2) ∙ same);
        from = λ all. law.from (λ k m.
            let is = member_of (width_of s) shared k m in
            let both = in_shared k is.1 in
            let of = value_from w each k is.0 both.0 in
            let there = present t h' k is.0 is.1 in
            ap (λ (v : List ℕ). equal (entered s cast cell k v) (entered s cast cell k (value_at t k))) (all k is.0 is.1)
            ∙ equal-self (entered s cast cell k (value_at t k)) there);
      }

  -- what of a row of the table is new
  pub in_new : (k : ℕ) → Contains new k → (k < width_of s) × (scheme k ≡ true) × (seen k ≡ false)
  in_new k h =
      let of = filter-member (λ m. not (is_name_of by (name_at s m))) ms k h in
      let m = member_of (width_of s) scheme k of.0 in
      let unnamed = of.1 in (
        m.0,
        m.1,
        elim (cases_Bool (seen k)) [
          | inl e ↦
              absurd (true≢false (sym unnamed ∙ ap not (shared-named k m.0 (is_shared k m.0 e m.1))))
          | inr e ↦ e
        ],
      )

  new_has : (k : ℕ) → k < width_of s → scheme k ≡ true → seen k ≡ false → Contains new k
  new_has k low in_scheme unseen =
      filter-keeps (λ m. not (is_name_of by (name_at s m))) ms k (is_member_of (width_of s) scheme k low in_scheme)
      (elim (cases_Bool (is_name_of by (name_at s k))) [
        | inl e ↦ absurd (true≢false (sym (in_shared k (named-shared k low e)).0 ∙ unseen))
        | inr e ↦ ap not e
      ])

  -- values of a row, and of a tuple where they are new
  abbrev both_values : (ℕ → List ℕ) → Tuple → ℕ → List ℕ
  both_values w t k = if seen k then w k else value_at t k

  joined_row : (w : ℕ → List ℕ) (t : Tuple) → row_at s cast cell j.ks w ++ row_at s cast cell new (value_at t) ≡ row_at s cast cell (j.ks ++ new) (both_values w t)
  joined_row w t =
      ap (λ (cells : List Cell). cells ++ row_at s cast cell new (value_at t))
      (map-known (λ (k : ℕ). entered s cast cell k (w k)) (λ (k : ℕ). entered s cast cell k (both_values w t k)) j.ks
      (λ k h. sym (ap (λ (b : Bool). entered s cast cell k (if b then w k else value_at t k)) (j.inside k h).1)))
      ∙ ap (λ (cells : List Cell). row_at s cast cell j.ks (both_values w t) ++ cells)
      (map-known (λ (k : ℕ). entered s cast cell k (value_at t k)) (λ (k : ℕ). entered s cast cell k (both_values w t k)) new
      (λ k h. sym (ap (λ (b : Bool). entered s cast cell k (if b then w k else value_at t k)) (in_new k h).2)))
      ∙ sym (map-append (λ (k : ℕ). entered s cast cell k (both_values w t k)) j.ks new)

  row_made : (w : ℕ → List ℕ) (t : Tuple)
      → row_at s cast cell j.ks w ++ cells_beside by (map (name_at s) ms) (row_at s cast cell ms (value_at t)) ≡ row_at s cast cell (j.ks ++ new) (both_values w t)
  row_made w t =
      ap (λ (cells : List Cell). row_at s cast cell j.ks w ++ cells) (cells_beside-known (name_at s) (λ k. entered s cast cell k (value_at t k)) by ms)
      ∙ joined_row w t

  -- a tuple that misses what is new
  abbrev MissesNew : Tuple → Type 0
  MissesNew t = (k : ℕ) → Contains new k → missing ≡ entered s cast cell k (value_at t k)

  alone_made : (w : ℕ → List ℕ) (t : Tuple) → MissesNew t
      → row_at s cast cell j.ks w ++ missing_beside by (map (name_at s) ms) ≡ row_at s cast cell (j.ks ++ new) (both_values w t)
  alone_made w t misses =
      ap (λ (cells : List Cell). row_at s cast cell j.ks w ++ cells)
      (missing_beside-known (name_at s) by ms ∙ map-known (λ (k : ℕ). missing) (λ (k : ℕ). entered s cast cell k (value_at t k)) new misses)
      ∙ joined_row w t

  own_row : (t : Tuple) → row_at s cast cell (j.ks ++ new) (both_values (value_at t) t) ≡ row_at s cast cell (j.ks ++ new) (value_at t)
  own_row t =
      map-known (λ (k : ℕ). entered s cast cell k (both_values (value_at t) t k)) (λ (k : ℕ). entered s cast cell k (value_at t k)) (j.ks ++ new)
      (λ k h. same (seen k) k)
    where
      same : (b : Bool) (k : ℕ) → entered s cast cell k (if b then value_at t k else value_at t k) ≡ entered s cast cell k (value_at t k)
      same true k = refl
      same false k = refl

  both_in_each : (w : ℕ → List ℕ) → InEach s r done w → (t : Tuple) → Contains r t → SameShared w t
      → InEach s r (x ∷ done) (both_values w t)
  both_in_each w each t h agree y m = ⊎_elim
      (λ (same : y ≡ x). subst (λ (z : JoinedTable). (u : Tuple) × Contains r u
      × ((k : ℕ) → k < width_of s → attributes z.scheme k ≡ true → both_values w t k ≡ value_at u k)) (sym same) (
        t,
        h,
        λ k low in_scheme. elim (cases_Bool (seen k)) [
          | inl e ↦ ap (λ (b : Bool). if b then w k else value_at t k) e ∙ agree k low (is_shared k low e in_scheme)
          | inr e ↦ ap (λ (b : Bool). if b then w k else value_at t k) e
        ],
      ))
      (λ later. let u = each y later in (
        u.0,
        u.1,
        λ k low in_scheme. ap (λ (b : Bool). if b then w k else value_at t k) (j.seen_of y later k in_scheme) ∙ u.2 k low in_scheme,
      ))
      (Contains-cases x done y m)

  -- ---- tests of two rows
  abbrev test_of : List Cell → List Cell → Option Bool
  test_of row other = agree_by by (map (name_at s) j.ks) (map (name_at s) ms) row other

  tests : (row other : List Cell) → Contains a.rows row → Contains (projected s cast cell c scheme).rows other → (b : Bool) × (test_of row other ≡ Some b)
  tests row other h m =
      let left = j.from row h in
      let right = row-projected s cast cell c scheme other m in
      let law = agrees left.0 left.2 right.0 right.1 in (
        law.test,
        ap (λ (p : List Cell). test_of p other) left.1 ∙ ap (test_of (row_at s cast cell j.ks left.0)) (sym right.2) ∙ law.is,
      )

  -- what they tell
  told : (w : ℕ → List ℕ) → InEach s r done w → (t : Tuple) → Contains c t → (row other : List Cell) → row ≡ row_at s cast cell j.ks w
      → row_at s cast cell ms (value_at t) ≡ other → test_of row other ≡ Some true → SameShared w t
  told w each t h row other is_row is_other e =
      let law = agrees w each t h in
      law.to (some_is law.test true (sym law.is ∙ ap (test_of (row_at s cast cell j.ks w)) is_other ∙ ap (λ (p : List Cell). test_of p other) (sym is_row) ∙ e))

  agreed : (w : ℕ → List ℕ) → InEach s r done w → (t : Tuple) → Contains c t → SameShared w t
      → test_of (row_at s cast cell j.ks w) (row_at s cast cell ms (value_at t)) ≡ Some true
  agreed w each t h same =
      let law = agrees w each t h in law.is ∙ ap (λ (b : Bool). Some b) (law.from same)

  own : (t : Tuple) → Contains r t → InEach s r done (value_at t)
  own t h y m = (t, h, λ k low e. refl)

  -- ---- the rows that are found
  abbrev names_made : List (List ℕ)
  names_made = a.names ++ filter (λ name. not (is_name_of by name)) (names_on s scheme)

  grown : (found : List (List Cell))
      → ((o : List Cell) → Contains found o → (w : ℕ → List ℕ) × (o ≡ row_at s cast cell (j.ks ++ new) w) × InEach s r (x ∷ done) w)
      → ((t : Tuple) → Contains r t → Contains found (row_at s cast cell (j.ks ++ new) (value_at t)))
      → IsJoinOf s cast cell r (x ∷ done) (union seen scheme) (with_names names_made found)
  grown found from to = record {
    ks = j.ks ++ new;
    names = ap (λ (ns : List (List ℕ)). ns ++ filter (λ name. not (is_name_of by name)) (names_on s scheme)) j.names
        ∙ ap (λ (ns : List (List ℕ)). map (name_at s) j.ks ++ ns) (filter-map (λ name. not (is_name_of by name)) (name_at s) ms)
        ∙ sym (map-append (name_at s) j.ks new);
    inside = λ k h. ⊎_elim
        (λ old. let i = j.inside k old in (i.0, let e = i.1 in grind (arith, e)))
        (λ fresh. let i = in_new k fresh in (i.0, let e = i.1 in grind (arith, e)))
        (Contains-append_cases j.ks new k h);
    has = λ k low e. elim (cases_Bool (seen k)) [
      | inl old ↦ Contains-append_left j.ks new k (j.has k low old)
      | inr fresh ↦ Contains-append_right j.ks new k (new_has k low (grind (arith, e, fresh)) fresh)
    ];
    of_done = λ k e. elim (cases_Bool (seen k)) [
      | inl old ↦ let of = j.of_done k old in (of.0, Contains-later x done of.0 of.1, of.2)
      | inr fresh ↦ (x, Contains-head x done, grind (arith, e, fresh))
    ];
    seen_of = λ y m k e. ⊎_elim
        (λ (same : y ≡ x). let here = subst (λ (z : JoinedTable). attributes z.scheme k ≡ true) same e in grind (arith, here))
        (λ later. let old = j.seen_of y later k e in grind (arith, old))
        (Contains-cases x done y m);
    from = from;
    to = to;
  }

  -- a row beside one of the table
  matched : (row : List Cell) → Contains a.rows row → (other : List Cell) → Contains (projected s cast cell c scheme).rows other → test_of row other ≡ Some true
      → (w : ℕ → List ℕ) × (row ++ cells_beside by (map (name_at s) ms) other ≡ row_at s cast cell (j.ks ++ new) w) × InEach s r (x ∷ done) w
  matched row h other m e =
      let left = j.from row h in
      let right = row-projected s cast cell c scheme other m in (
        both_values left.0 right.0,
        ap (λ (p : List Cell). p ++ cells_beside by (map (name_at s) ms) other) left.1
            ∙ ap (λ (q : List Cell). row_at s cast cell j.ks left.0 ++ cells_beside by (map (name_at s) ms) q) (sym right.2)
            ∙ row_made left.0 right.0,
        both_in_each left.0 left.2 right.0 (part right.0 right.1) (told left.0 left.2 right.0 right.1 row other left.1 right.2 e),
      )

  -- ---- where the table is joined, and no tuple is left out of it
  pub join_more : ((t : Tuple) → Contains r t → Contains c t)
      → (b : Rows) × (joined_by by a (projected s cast cell c scheme) ≡ Some b) × IsJoinOf s cast cell r (x ∷ done) (union seen scheme) b
  join_more whole =
      let table = projected s cast cell c scheme in
      let known = joined-known by (map (name_at s) j.ks) (map (name_at s) ms) a.rows table.rows tests in
      let all = known.2 in (
        with_names names_made known.0,
        ap (λ (ns : List (List ℕ)). option_map (with_names names_made) (rows_joined by ns table.names a.rows table.rows)) j.names
            ∙ ap (option_map (with_names names_made)) known.1,
        grown known.0
            (λ o h. let it = all.from o h in let of = matched it.0 it.2 it.1 it.3 it.4 in (of.0, it.5 ∙ of.1, of.2))
            (λ t h. subst (λ (o : List Cell). Contains known.0 o) (row_made (value_at t) t ∙ own_row t)
            (all.to (row_at s cast cell j.ks (value_at t)) (row_at s cast cell ms (value_at t)) (j.to t h) (projected-row s cast cell c scheme t (whole t h))
            (agreed (value_at t) (own t h) t (whole t h) (λ k low e. refl)))),
      )

  -- ---- where it is looked up
  -- a tuple is not in the table: none there has its values of what is shared, and it misses the others
  abbrev pub IsLeftOut : Tuple → Type 0
  IsLeftOut t = ((u : Tuple) → Contains c u → SameShared (value_at t) u → ⊥) × MissesNew t

  pub look_more : ((w : ℕ → List ℕ) → InEach s r done w → (t : Tuple) × Contains r t × SameShared w t)
      → ((t : Tuple) → Contains r t → Contains c t ⊎ IsLeftOut t)
      → (b : Rows) × (left_joined_by by a (projected s cast cell c scheme) ≡ Some b) × IsJoinOf s cast cell r (x ∷ done) (union seen scheme) b
  look_more home decide =
      let table = projected s cast cell c scheme in
      let known = left-known by (map (name_at s) j.ks) (map (name_at s) ms) a.rows table.rows tests in
      let all = known.2 in (
        with_names names_made known.0,
        ap (λ (ns : List (List ℕ)). option_map (with_names names_made) (rows_left_joined by ns table.names a.rows table.rows)) j.names
            ∙ ap (option_map (with_names names_made)) known.1,
        grown known.0
            (λ o h. let it = all.from o h in ⊎_elim
            (λ match. let of = matched it.0 it.1 match.0 match.1 match.2 in (of.0, match.3 ∙ of.1, of.2))
            (λ alone. stays it.0 it.1 o alone.0 alone.1)
            it.2)
            (λ t h. subst (λ (o : List Cell). Contains known.0 o) (own_row t) (⊎_elim
            (λ there. subst (λ (o : List Cell). Contains known.0 o) (row_made (value_at t) t)
            (all.to (row_at s cast cell j.ks (value_at t)) (row_at s cast cell ms (value_at t)) (j.to t h) (projected-row s cast cell c scheme t there)
            (agreed (value_at t) (own t h) t there (λ k low e. refl))))
            (λ out. subst (λ (o : List Cell). Contains known.0 o) (alone_made (value_at t) t out.1)
            (all.alone (row_at s cast cell j.ks (value_at t)) (j.to t h) (λ other m e.
            let right = row-projected s cast cell c scheme other m in
            out.0 right.0 right.1 (told (value_at t) (own t h) right.0 right.1 (row_at s cast cell j.ks (value_at t)) other refl right.2 e))))
            (decide t h))),
      )
    where
      stays : (row : List Cell) → Contains a.rows row → (o : List Cell)
          → HasNone by (map (name_at s) j.ks) (map (name_at s) ms) row (projected s cast cell c scheme).rows
          → o ≡ row ++ missing_beside by (map (name_at s) ms)
          → (w : ℕ → List ℕ) × (o ≡ row_at s cast cell (j.ks ++ new) w) × InEach s r (x ∷ done) w
      stays row h o none is =
          let left = j.from row h in
          let t = home left.0 left.2 in
          ⊎_elim
          (λ there. absurd (none (row_at s cast cell ms (value_at t.0)) (projected-row s cast cell c scheme t.0 there)
          (ap (λ (p : List Cell). test_of p (row_at s cast cell ms (value_at t.0))) left.1 ∙ agreed left.0 left.2 t.0 there t.2)))
          (λ out. (
            both_values left.0 t.0,
            is ∙ ap (λ (p : List Cell). p ++ missing_beside by (map (name_at s) ms)) left.1 ∙ alone_made left.0 t.0 out.1,
            both_in_each left.0 left.2 t.0 t.1 t.2,
          ))
          (decide t.0 t.1)
