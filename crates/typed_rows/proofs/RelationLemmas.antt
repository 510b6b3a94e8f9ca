-- Relations of numerals and the same with values of the columns' types: what they obey, whether they are
-- legal, and how they join.
use Rattle.std.proofs.Common.{◌≡◌, ℕ, zero, suc, ◌<◌, List, [], ◌∷◌, length, refl, sym, ap, subst, ◌∙◌, inr, arith}
use Rattle.std.specs.Prelude.{All, Contains, slice_get, slice_index_or, Some, IsTrue}
use Rattle.std.specs.Str.Parse.{digits_value}
use Rattle.std.proofs.lemmas.List.Elements.{All-head, All-tail, All-map, All-contains, All-weaker}
use Rattle.std.proofs.lemmas.Option.{slice_get_within}
use Rattle.attr_sets.specs.Attributes.{Attributes, below, union, difference}
use Rattle.schema_model.specs.declared.column_type.ColumnType.{ColumnType}
use Rattle.schema_model.specs.declared.column_type.ColumnType.TheVariants.{Text, Integer, Date, Timestamp, Decimal, Uuid, Other}
use Rattle.schema_model.specs.Schemas.{Schema}
use Rattle.schema_model.specs.Columns.{is_column_type}
use Rattle.dep_model.specs.Tuples.{Tuple, Relation, AgreeOn, IsOver, value_at}
use Rattle.dep_model.specs.Dependencies.{Dependency, fd, mvd, ObeysFd, ObeysMvd, Obeys}
use Rattle.dep_model.specs.Implication.{IsLegal}
use Rattle.dep_model.specs.Projections.{InJoin, projections}
use Rattle.schema_model.specs.Schemas.{types_of, width_of, nullable_of}
use Rattle.dep_model.proofs.ListLemmas.{Contains-map, map-member}
use Rattle.dep_model.proofs.TupleLemmas.{same_tuple-Contains, IsOver-length}
use Rattle.dep_model.proofs.JoinLemmas.{in_join-to, in_join-from, projected_tuple_agrees, projected-from}
use Rattle.column_values.specs.Values.{IsValueOf, FitsEach, FitsColumns}
use Rattle.column_values.specs.MadeUp.{made_up}
use Rattle.column_values.proofs.MadeUpLemmas.{made_up_is_value}
use Rattle.typed_rows.specs.Typed.{IsNumeral, AreNumerals, HoldsNumerals, typed_tuple, typed_relation, ShowsNumerals}
use Rattle.typed_rows.proofs.NumeralLemmas.{text_is, value_small}
use Rattle.typed_rows.proofs.TypedLemmas.{length-typed, value_at-typed, agree_from, AgreeOn-to, AgreeOn-from}

-- a relation of numerals over the columns
pub record IsMadeUp (columns : List ColumnType) (r : Relation) : Type 0 where
  pub over : IsOver (length columns) r
  pub numerals : HoldsNumerals r

of_length : (columns : List ColumnType) (r : Relation) (t : Tuple) → IsMadeUp columns r → Contains r t → length t ≡ length columns
of_length columns r t h member = IsOver-length (length columns) r t h.over member

of_numerals : (columns : List ColumnType) (r : Relation) (t : Tuple) → IsMadeUp columns r → Contains r t → AreNumerals t
of_numerals columns r t h member = All-contains AreNumerals r t h.numerals member

-- ---- which tuples there are
pub contains-to : (columns : List ColumnType) (r : Relation) (t : Tuple) → Contains r t → Contains (typed_relation columns r) (typed_tuple columns t)
contains-to columns r t member = Contains-map (typed_tuple columns) r t member

same_typed : (columns : List ColumnType) (t u : Tuple) → length t ≡ length columns → length u ≡ length columns
    → AreNumerals t → AreNumerals u → typed_tuple columns t ≡ typed_tuple columns u → t ≡ u
same_typed columns t u t_over u_over t_is u_is e =
    same_tuple-Contains (length columns) t u t_over u_over
    (λ k short. agree_from columns t u k t_over u_over t_is u_is (ap (λ (s : Tuple). value_at s k) e))

pub contains-from : (columns : List ColumnType) (r : Relation) (t : Tuple) → IsMadeUp columns r → length t ≡ length columns → AreNumerals t
    → Contains (typed_relation columns r) (typed_tuple columns t) → Contains r t
contains-from columns r t h over numerals member =
    let found = map-member (typed_tuple columns) r (typed_tuple columns t) member in
    let same : found.0 ≡ t =
    same_typed columns found.0 t (of_length columns r found.0 h found.1) over (of_numerals columns r found.0 h found.1) numerals found.2 in
    subst (Contains r) same found.1

-- ---- what they obey
fd-to : (columns : List ColumnType) (x y : Attributes) (r : Relation) → IsMadeUp columns r → ObeysFd x y r → ObeysFd x y (typed_relation columns r)
fd-to columns x y r h obeys t u t_in u_in agree =
    let first = map-member (typed_tuple columns) r t t_in in
    let second = map-member (typed_tuple columns) r u u_in in
    let first_over = of_length columns r first.0 h first.1 in
    let second_over = of_length columns r second.0 h second.1 in
    let before : AgreeOn x (typed_tuple columns first.0) (typed_tuple columns second.0) = rw (first.2, second.2) agree in
    let after : AgreeOn y (typed_tuple columns first.0) (typed_tuple columns second.0) =
    AgreeOn-to columns y first.0 second.0 first_over second_over (obeys first.0 second.0 first.1 second.1
    (AgreeOn-from columns x first.0 second.0 first_over second_over (of_numerals columns r first.0 h first.1) (of_numerals columns r second.0 h second.1) before)) in
    rw (← first.2, ← second.2) after

fd-from : (columns : List ColumnType) (x y : Attributes) (r : Relation) → IsMadeUp columns r → ObeysFd x y (typed_relation columns r) → ObeysFd x y r
fd-from columns x y r h obeys t u t_in u_in agree =
    let t_over = of_length columns r t h t_in in
    let u_over = of_length columns r u h u_in in
    AgreeOn-from columns y t u t_over u_over (of_numerals columns r t h t_in) (of_numerals columns r u h u_in)
    (obeys (typed_tuple columns t) (typed_tuple columns u) (contains-to columns r t t_in) (contains-to columns r u u_in)
    (AgreeOn-to columns x t u t_over u_over agree))

mvd-to : (columns : List ColumnType) (scheme x y : Attributes) (r : Relation) → IsMadeUp columns r → ObeysMvd scheme x y r → ObeysMvd scheme x y (typed_relation columns r)
mvd-to columns scheme x y r h obeys t u t_in u_in agree =
    let first = map-member (typed_tuple columns) r t t_in in
    let second = map-member (typed_tuple columns) r u u_in in
    let first_over = of_length columns r first.0 h first.1 in
    let second_over = of_length columns r second.0 h second.1 in
    let before : AgreeOn x (typed_tuple columns first.0) (typed_tuple columns second.0) = rw (first.2, second.2) agree in
    let third = obeys first.0 second.0 first.1 second.1
    (AgreeOn-from columns x first.0 second.0 first_over second_over (of_numerals columns r first.0 h first.1) (of_numerals columns r second.0 h second.1) before) in
    let third_over = of_length columns r third.0 h third.1 in
    let on_both : AgreeOn (union x y) (typed_tuple columns third.0) t =
    subst (λ (v : Tuple). AgreeOn (union x y) (typed_tuple columns third.0) v) first.2
    (AgreeOn-to columns (union x y) third.0 first.0 third_over first_over third.2) in
    let on_rest : AgreeOn (difference scheme (union x y)) (typed_tuple columns third.0) u =
    subst (λ (v : Tuple). AgreeOn (difference scheme (union x y)) (typed_tuple columns third.0) v) second.2
    (AgreeOn-to columns (difference scheme (union x y)) third.0 second.0 third_over second_over third.3) in
    (typed_tuple columns third.0, contains-to columns r third.0 third.1, on_both, on_rest)

mvd-from : (columns : List ColumnType) (scheme x y : Attributes) (r : Relation) → IsMadeUp columns r → ObeysMvd scheme x y (typed_relation columns r) → ObeysMvd scheme x y r
mvd-from columns scheme x y r h obeys t u t_in u_in agree =
    let t_over = of_length columns r t h t_in in
    let u_over = of_length columns r u h u_in in
    let third = obeys (typed_tuple columns t) (typed_tuple columns u) (contains-to columns r t t_in) (contains-to columns r u u_in) (AgreeOn-to columns x t u t_over u_over agree) in
    let found = map-member (typed_tuple columns) r third.0 third.1 in
    let found_over = of_length columns r found.0 h found.1 in
    let found_is = of_numerals columns r found.0 h found.1 in
    let on_both : AgreeOn (union x y) (typed_tuple columns found.0) (typed_tuple columns t) = rw (found.2) third.2 in
    let on_rest : AgreeOn (difference scheme (union x y)) (typed_tuple columns found.0) (typed_tuple columns u) = rw (found.2) third.3 in (
      found.0,
      found.1,
      AgreeOn-from columns (union x y) found.0 t found_over t_over found_is (of_numerals columns r t h t_in) on_both,
      AgreeOn-from columns (difference scheme (union x y)) found.0 u found_over u_over found_is (of_numerals columns r u h u_in) on_rest,
    )

pub obeys-to : (columns : List ColumnType) (d : Dependency) (r : Relation) → IsMadeUp columns r
    → Obeys (length columns) d r → Obeys (length columns) d (typed_relation columns r)
obeys-to columns (fd x y) r h obeys = fd-to columns x y r h obeys
obeys-to columns (mvd x y) r h obeys = mvd-to columns (below (length columns)) x y r h obeys

pub obeys-from : (columns : List ColumnType) (d : Dependency) (r : Relation) → IsMadeUp columns r
    → Obeys (length columns) d (typed_relation columns r) → Obeys (length columns) d r
obeys-from columns (fd x y) r h obeys = fd-from columns x y r h obeys
obeys-from columns (mvd x y) r h obeys = mvd-from columns (below (length columns)) x y r h obeys

-- ---- legality
pub over-typed : (columns : List ColumnType) (r : Relation) → IsOver (length columns) r → IsOver (length columns) (typed_relation columns r)
over-typed columns r over =
    All-map (λ (t : Tuple). length t ≡ length columns) (typed_tuple columns) r
    (All-weaker (λ (t : Tuple). length t ≡ length columns) (λ (t : Tuple). length (typed_tuple columns t) ≡ length columns)
    (λ t same. length-typed columns t same ∙ same) r over)

pub legal-to : (columns : List ColumnType) (ds : List Dependency) (r : Relation) → IsMadeUp columns r
    → IsLegal (length columns) ds r → IsLegal (length columns) ds (typed_relation columns r)
legal-to columns ds r h legal = record {
  over = over-typed columns r legal.over;
  obeys = All-weaker (λ (d : Dependency). Obeys (length columns) d r) (λ (d : Dependency). Obeys (length columns) d (typed_relation columns r))
      (λ d obeys. obeys-to columns d r h obeys) ds legal.obeys;
}

pub legal-from : (columns : List ColumnType) (ds : List Dependency) (r : Relation) → IsMadeUp columns r
    → IsLegal (length columns) ds (typed_relation columns r) → IsLegal (length columns) ds r
legal-from columns ds r h legal = record {
  over = h.over;
  obeys = All-weaker (λ (d : Dependency). Obeys (length columns) d (typed_relation columns r)) (λ (d : Dependency). Obeys (length columns) d r)
      (λ d obeys. obeys-from columns d r h obeys) ds legal.obeys;
}

-- ---- joins
pub joins-to : (columns : List ColumnType) (plan : List Attributes) (r : Relation) (t : Tuple) → IsMadeUp columns r → length t ≡ length columns
    → InJoin (length columns) plan (projections plan r) t
    → InJoin (length columns) plan (projections plan (typed_relation columns r)) (typed_tuple columns t)
joins-to columns plan r t h over joined =
    let typed_over : length (typed_tuple columns t) ≡ length columns = length-typed columns t over ∙ over in
    in_join-from (length columns) plan (typed_relation columns r) (typed_tuple columns t) typed_over
    (λ scheme planned.
    let found = projected_tuple_agrees r t scheme (in_join-to (length columns) plan r t joined scheme planned) in
    projected-from (length columns) (typed_relation columns r) (typed_tuple columns t) (typed_tuple columns found.0) scheme
    (over-typed columns r h.over) typed_over (contains-to columns r found.0 found.1)
    (AgreeOn-to columns scheme found.0 t (of_length columns r found.0 h found.1) over found.2))

pub joins-from : (columns : List ColumnType) (plan : List Attributes) (r : Relation) (t : Tuple) → IsMadeUp columns r → length t ≡ length columns → AreNumerals t
    → InJoin (length columns) plan (projections plan (typed_relation columns r)) (typed_tuple columns t)
    → InJoin (length columns) plan (projections plan r) t
joins-from columns plan r t h over numerals joined =
    in_join-from (length columns) plan r t over
    (λ scheme planned.
    let found = projected_tuple_agrees (typed_relation columns r) (typed_tuple columns t) scheme
    (in_join-to (length columns) plan (typed_relation columns r) (typed_tuple columns t) joined scheme planned) in
    let source = map-member (typed_tuple columns) r found.0 found.1 in
    let agree : AgreeOn scheme (typed_tuple columns source.0) (typed_tuple columns t) = rw (source.2) found.2 in
    projected-from (length columns) r t source.0 scheme h.over over source.1
    (AgreeOn-from columns scheme source.0 t (of_length columns r source.0 h source.1) over (of_numerals columns r source.0 h source.1) numerals agree))

-- ---- columns
at_column : (P : ColumnType → Type 0) (columns : List ColumnType) (k : ℕ) (column : ColumnType) → slice_get columns k ≡ Some column
    → All P columns → P column
at_column P [] k column at each = absurd (cc)
at_column P (first ∷ columns) zero column at each = let same : first ≡ column = cc in subst P same (All-head P first columns each)
at_column P (first ∷ columns) (suc k) column at each = at_column P columns k column at (All-tail P first columns each)

fits_each : (columns : List ColumnType) (nullable : Attributes) (t : Tuple) → All (λ column. IsTrue (is_column_type column)) columns
    → length t ≡ length columns → AreNumerals t → FitsEach columns nullable (typed_tuple columns t)
fits_each columns nullable t valid over numerals k column at =
    let short : k < length t = omega (arith, slice_get_within columns k column at, over) in
    let numeral : IsNumeral (value_at t k) = numerals k [] short in
    inr (subst (IsValueOf column) (sym (value_at-typed columns t k column at short))
    (made_up_is_value column (digits_value 10 (value_at t k))
    (at_column (λ (c : ColumnType). IsTrue (is_column_type c)) columns k column at valid) (value_small (value_at t k) numeral)))

pub fits_relation : (columns : List ColumnType) (nullable : Attributes) (r : Relation) → All (λ column. IsTrue (is_column_type column)) columns
    → IsMadeUp columns r → All (FitsEach columns nullable) (typed_relation columns r)
fits_relation columns nullable r valid h =
    All-map (FitsEach columns nullable) (typed_tuple columns) r
    (λ k t short. fits_each columns nullable (slice_index_or r k t) valid (h.over k t short) (h.numerals k t short))

pub made_up_for : (s : Schema) (r : Relation) → IsOver (width_of s) r → HoldsNumerals r → IsMadeUp (types_of s) r
made_up_for s r over numerals = record {
  over = subst (λ (n : ℕ). IsOver n r) (sym s.typed.one_each) over;
  numerals = numerals;
}

pub fits_schema : (s : Schema) (r : Relation) → IsOver (width_of s) r → HoldsNumerals r → FitsColumns s (typed_relation (types_of s) r)
fits_schema s r over numerals =
    fits_relation (types_of s) (nullable_of s) r s.typed.each (made_up_for s r over numerals)

-- ---- columns that show numerals as they are
shown_value : (column : ColumnType) (v : List ℕ) → ShowsNumerals column → IsNumeral v → made_up column (digits_value 10 v) ≡ v
shown_value Text v shows numeral = text_is v numeral
shown_value Integer v shows numeral = text_is v numeral
shown_value Date v shows numeral = absurd shows
shown_value Timestamp v shows numeral = absurd shows
shown_value (Decimal scale) v shows numeral = absurd shows
shown_value Uuid v shows numeral = absurd shows
shown_value (Other name) v shows numeral = text_is v numeral

shown_tuple : (columns : List ColumnType) (t : Tuple) → All ShowsNumerals columns → length t ≡ length columns → AreNumerals t
    → typed_tuple columns t ≡ t
shown_tuple [] [] shows over numerals = refl
shown_tuple [] (v ∷ t) shows over numerals = absurd (omega (arith, over))
shown_tuple (column ∷ columns) [] shows over numerals = refl
shown_tuple (column ∷ columns) (v ∷ t) shows over numerals =
    ap (λ (w : List ℕ). w ∷ typed_tuple columns t) (shown_value column v (All-head ShowsNumerals column columns shows) (All-head IsNumeral v t numerals))
    ∙ ap (λ (u : Tuple). v ∷ u) (shown_tuple columns t (All-tail ShowsNumerals column columns shows) (omega (arith, over)) (All-tail IsNumeral v t numerals))

pub shown_relation : (columns : List ColumnType) (r : Relation) → All ShowsNumerals columns → IsMadeUp columns r → typed_relation columns r ≡ r
shown_relation columns [] shows h = refl
shown_relation columns (t ∷ r) shows h =
    let over : length t ≡ length columns = All-head (λ (u : Tuple). length u ≡ length columns) t r h.over in
    ap (λ (u : Tuple). u ∷ typed_relation columns r) (shown_tuple columns t shows over (All-head AreNumerals t r h.numerals))
    ∙ ap (λ (s : Relation). t ∷ s) (shown_relation columns r shows (record {
      over = All-tail (λ (u : Tuple). length u ≡ length columns) t r h.over;
      numerals = All-tail AreNumerals t r h.numerals;
    }))
