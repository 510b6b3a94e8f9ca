-- Tuples of numerals and the same with values of the columns' types: that they agree alike.
use Rattle.std.proofs.Common.{◌≡◌, ℕ, zero, suc, ◌+◌, ◌<◌, List, [], ◌∷◌, ◌++◌, length, take, get_or, refl, ap, ◌∙◌, arith}
use Rattle.std.specs.Prelude.{slice_get, Some}
use Rattle.std.specs.Str.Parse.{digits_value}
use Rattle.std.proofs.lemmas.List.{take_more, map-append}
use Rattle.std.proofs.lemmas.List.Elements.{All-head, All-tail}
use Rattle.attr_sets.specs.Attributes.{Attributes}
use Rattle.schema_model.specs.declared.column_type.ColumnType.{ColumnType}
use Rattle.dep_model.specs.Tuples.{Tuple, Relation, AgreeOn, value_at}
use Rattle.column_values.specs.MadeUp.{made_up}
use Rattle.column_values.proofs.MadeUpLemmas.{made_up_differ}
use Rattle.typed_rows.specs.Typed.{IsNumeral, AreNumerals, typed_tuple, typed_relation}
use Rattle.typed_rows.proofs.NumeralLemmas.{value_small, same_numeral}

pub length-typed : (columns : List ColumnType) (t : Tuple) → length t ≡ length columns → length (typed_tuple columns t) ≡ length t
length-typed [] [] e = refl
length-typed [] (v ∷ t) e = absurd (omega (arith, e))
length-typed (column ∷ columns) [] e = refl
length-typed (column ∷ columns) (v ∷ t) e = omega (arith, length-typed columns t (omega (arith, e)))

-- the value of a column
pub value_at-typed : (columns : List ColumnType) (t : Tuple) (k : ℕ) (column : ColumnType)
    → slice_get columns k ≡ Some column → k < length t
    → value_at (typed_tuple columns t) k ≡ made_up column (digits_value 10 (value_at t k))
value_at-typed [] t k column at short = absurd (cc)
value_at-typed (first ∷ columns) [] k column at short = absurd (omega (arith, short))
value_at-typed (first ∷ columns) (v ∷ t) zero column at short = let same : first ≡ column = cc in ap (λ (c : ColumnType). made_up c (digits_value 10 v)) same
value_at-typed (first ∷ columns) (v ∷ t) (suc k) column at short = value_at-typed columns t k column at (omega (arith, short))

-- equal numerals have equal values, and unequal ones unequal values
pub same_made_up : (column : ColumnType) (v w : List ℕ) → IsNumeral v → IsNumeral w
    → made_up column (digits_value 10 v) ≡ made_up column (digits_value 10 w) → v ≡ w
same_made_up column v w v_is w_is e =
    same_numeral v w v_is w_is (made_up_differ column (digits_value 10 v) (digits_value 10 w) (value_small v v_is) (value_small w w_is) e)

pub agree_to : (columns : List ColumnType) (t u : Tuple) (k : ℕ) → length t ≡ length columns → length u ≡ length columns
    → value_at t k ≡ value_at u k → value_at (typed_tuple columns t) k ≡ value_at (typed_tuple columns u) k
agree_to [] t u k t_over u_over e = refl
agree_to (column ∷ columns) [] u k t_over u_over e = absurd (omega (arith, t_over))
agree_to (column ∷ columns) (v ∷ t) [] k t_over u_over e = absurd (omega (arith, u_over))
agree_to (column ∷ columns) (v ∷ t) (w ∷ u) zero t_over u_over e = ap (λ (x : List ℕ). made_up column (digits_value 10 x)) e
agree_to (column ∷ columns) (v ∷ t) (w ∷ u) (suc k) t_over u_over e =
    agree_to columns t u k (omega (arith, t_over)) (omega (arith, u_over)) e

pub agree_from : (columns : List ColumnType) (t u : Tuple) (k : ℕ) → length t ≡ length columns → length u ≡ length columns
    → AreNumerals t → AreNumerals u
    → value_at (typed_tuple columns t) k ≡ value_at (typed_tuple columns u) k → value_at t k ≡ value_at u k
agree_from [] [] [] k t_over u_over t_is u_is e = refl
agree_from [] [] (w ∷ u) k t_over u_over t_is u_is e = absurd (omega (arith, u_over))
agree_from [] (v ∷ t) u k t_over u_over t_is u_is e = absurd (omega (arith, t_over))
agree_from (column ∷ columns) [] u k t_over u_over t_is u_is e = absurd (omega (arith, t_over))
agree_from (column ∷ columns) (v ∷ t) [] k t_over u_over t_is u_is e = absurd (omega (arith, u_over))
agree_from (column ∷ columns) (v ∷ t) (w ∷ u) zero t_over u_over t_is u_is e =
    same_made_up column v w (All-head IsNumeral v t t_is) (All-head IsNumeral w u u_is) e
agree_from (column ∷ columns) (v ∷ t) (w ∷ u) (suc k) t_over u_over t_is u_is e =
    agree_from columns t u k (omega (arith, t_over)) (omega (arith, u_over)) (All-tail IsNumeral v t t_is) (All-tail IsNumeral w u u_is) e

-- a tuple of numerals and its values, as each stands at a position
pub AgreeOn-to : (columns : List ColumnType) (x : Attributes) (t u : Tuple) → length t ≡ length columns → length u ≡ length columns
    → AgreeOn x t u → AgreeOn x (typed_tuple columns t) (typed_tuple columns u)
AgreeOn-to columns x t u t_over u_over agree k member = agree_to columns t u k t_over u_over (agree k member)

pub AgreeOn-from : (columns : List ColumnType) (x : Attributes) (t u : Tuple) → length t ≡ length columns → length u ≡ length columns
    → AreNumerals t → AreNumerals u → AgreeOn x (typed_tuple columns t) (typed_tuple columns u) → AgreeOn x t u
AgreeOn-from columns x t u t_over u_over t_is u_is agree k member = agree_from columns t u k t_over u_over t_is u_is (agree k member)

-- one value more
pub typed_more : (columns : List ColumnType) (t : Tuple) (i : ℕ) (column : ColumnType)
    → slice_get columns i ≡ Some column → i < length t
    → typed_tuple (take (suc i) columns) (take (suc i) t)
    ≡ typed_tuple (take i columns) (take i t) ++ made_up column (digits_value 10 (value_at t i)) ∷ []
typed_more [] t i column at short = absurd (cc)
typed_more (first ∷ columns) [] i column at short = absurd (omega (arith, short))
typed_more (first ∷ columns) (v ∷ t) zero column at short = let same : first ≡ column = cc in ap (λ (c : ColumnType). made_up c (digits_value 10 v) ∷ []) same
typed_more (first ∷ columns) (v ∷ t) (suc i) column at short =
    ap (λ (later : Tuple). made_up first (digits_value 10 v) ∷ later) (typed_more columns t i column at (omega (arith, short)))

-- one tuple more
pub typed_relation_more : (columns : List ColumnType) (r : Relation) (i : ℕ) → i < length r
    → typed_relation columns (take (i + 1) r) ≡ typed_relation columns (take i r) ++ typed_tuple columns (get_or r i []) ∷ []
typed_relation_more columns r i short =
    ap (typed_relation columns) (take_more r i [] short)
    ∙ map-append (typed_tuple columns) (take i r) (get_or r i [] ∷ [])
