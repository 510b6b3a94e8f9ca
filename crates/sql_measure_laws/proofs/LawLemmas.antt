-- The query of each dependency counts what breaks it.
use Rattle.std.proofs.Common.{◌≡◌, ◌<◌, ℕ, Bool, true, false, ◌||◌, List, [], length, get_or, Some, None, refl, sym, subst, ◌∙◌, inl, inr, arith}
use Rattle.std.proofs.lemmas.Bool.{cases_Bool, true≢false, ltb-true}
use Rattle.std.proofs.lemmas.List.Elements.{All-contains, Contains-get_or}
use Rattle.std.specs.Prelude.{◌↔◌, All, Contains, MatchOption, if◌then◌else◌, codes}
use Rattle.attr_sets.specs.Attributes.{Attributes, below, union, difference, IsSubset}
use Rattle.attr_sets.specs.Sets.{is_subset}
use Rattle.attr_sets.proofs.AttributesLemmas.{is_subset-from, union_within}
use Rattle.schema_model.specs.Schemas.{Schema}
use Rattle.dep_model.specs.Dependencies.{Dependency, fd, mvd, IsWithin, Obeys}
use Rattle.dep_model.specs.Projections.{members_below}
use Rattle.schema_model.specs.Schemas.{width_of, theory_of, deps_of}
use Rattle.dep_model.specs.Tuples.{Relation, IsOver}
use Rattle.dep_model.proofs.DepLemmas.{dependencies_all-from}
use Rattle.dep_model.proofs.ListLemmas.{Contains-nil}
use Rattle.relation_queries.specs.Queries.{several, unpaired}
use Rattle.relation_queries.specs.Meanings.{GivesNone}
use Rattle.relation_queries.proofs.BreachLemmas.{breaches_tell}
use Rattle.sql_syntax.specs.Names.{is_not_empty}
use Rattle.sql_check.specs.Columns.{columns_on, column_at}
use Rattle.sql_measure.specs.Measures.{change_query, lack_query}
use Rattle.sql_evaluation.specs.Cells.{Cell}
use Rattle.sql_evaluation.specs.Evaluation.{Engine}
use Rattle.sql_check_laws.specs.HeldRelations.{Holds}
use Rattle.sql_check_laws.proofs.CellLemmas.{is_member_of}
use Rattle.sql_check_laws.proofs.GroupLemmas.{Cells}
use Rattle.sql_check_laws.proofs.LawLemmas.{nil_not_empty}
use Rattle.sql_check_laws.proofs.SeveralLemmas.{cells-agree, several-none}
use Rattle.sql_check_laws.proofs.UnpairedLemmas.{unpaired-none}
use Rattle.row_measures.specs.Answers.{measure_by_classes}
use Rattle.sql_measure_laws.specs.Measured.{GivesMeasure, MeasuresRule, MeasuresRules}
use Rattle.sql_measure_laws.proofs.GroupedLemmas.{rows_if, no-rows}
use Rattle.sql_measure_laws.proofs.KeyLemmas.{not_empty-map}
use Rattle.sql_measure_laws.proofs.NumberLemmas.{AreSeparate}
use Rattle.sql_measure_laws.proofs.ClassLemmas.{broken_values, change-known}
use Rattle.sql_measure_laws.proofs.ChangeLemmas.{change-measured}
use Rattle.sql_measure_laws.proofs.ChosenLemmas.{some_classes}
use Rattle.sql_measure_laws.proofs.FourLemmas.{uneven_values, lack-known}
use Rattle.sql_measure_laws.proofs.LackLemmas.{lack-measured}

both_ways : {A B C : Type 0} → A ↔ B → B ↔ C → A ↔ C
both_ways first second = (λ a. second.0 (first.0 a), λ c. first.1 (second.1 c))

-- values on the attributes of a table are separate
apart-on : (e : Engine) (table : List ℕ) (s : Schema) (cell : Cells) (r : Relation) → Holds e table s cell r
    → (v : Attributes) → IsSubset v (below (width_of s)) → AreSeparate s cell r v
apart-on e table s cell r held v within t u ht hu same = cells-agree e table s cell r v t u held within ht hu same

-- what a query shows where no value breaks anything
none-shown : {X : Type 0} (rows : List (List Cell)) (keys : List X) (b c : Cell) → rows ≡ rows_if (length keys) b c → (rows ≡ []) ↔ (keys ≡ [])
none-shown rows keys b c same = (λ e. (no-rows keys b c).0 (sym same ∙ e), λ e. same ∙ (no-rows keys b c).1 e)

-- ---- functional dependencies
-- a set that is not within another has a column
some-columns : (s : Schema) (x y : Attributes) → IsSubset y (below (width_of s)) → is_subset y x ≡ false → is_not_empty (columns_on s (codes "d") (union x y)) ≡ true
some-columns s x y y_in beyond = elim (cases_Bool (is_not_empty (members_below (width_of s) (union x y)))) [
  | inl some ↦ not_empty-map (column_at s (codes "d")) (members_below (width_of s) (union x y)) ∙ some
  | inr none ↦
      let empty = nil_not_empty (members_below (width_of s) (union x y)) none in
      absurd (true≢false (sym (is_subset-from y x (λ (k : ℕ) m.
      let in_y = y_in k m in
      let low : k < width_of s = ltb-true k (width_of s) in_y in
      absurd (Contains-nil k (subst (λ (ms : List ℕ). Contains ms k) empty (is_member_of (width_of s) (union x y) k low (grind (arith, m)))))))
      ∙ beyond))
]

fd-measured : (e : Engine) (table : List ℕ) (s : Schema) (cell : Cells) (r : Relation) (x y : Attributes) → Holds e table s cell r → IsOver (width_of s) r
    → IsSubset x (below (width_of s)) → IsSubset y (below (width_of s)) → is_subset y x ≡ false
    → GivesNone (width_of s) (several x (union x y)) r ↔ Obeys (width_of s) (fd x y) r
    → GivesMeasure e (change_query s table x (union x y)) (width_of s) (fd x y) r
fd-measured e table s cell r x y held over x_in y_in beyond law =
    let w = union x y in
    let both_in : IsSubset w (below (width_of s)) = union_within (width_of s) x y x_in y_in in
    let within : IsSubset x w = λ (k : ℕ) m. grind (arith, m) in
    let known = change-known e table s cell r x w held within (some-columns s x y y_in beyond) in
    let keys = broken_values s cell x w r in
    let apart_x = apart-on e table s cell r held x x_in in
    let apart_w = apart-on e table s cell r held w both_in in
    let classes = some_classes s cell r x y apart_x apart_w in
    record {
      result = known.0;
      evaluates = known.1;
      none = both_ways (none-shown known.0.rows keys _ _ known.2) (both_ways (several-none e table s cell r x w held over within both_in) law);
      measure = measure_by_classes classes;
      is = (classes, refl);
      shows = known.2 ∙ change-measured s cell r x y classes apart_x apart_w;
    }

-- ---- multivalued dependencies
mvd-measured : (e : Engine) (table : List ℕ) (s : Schema) (cell : Cells) (r : Relation) (x y : Attributes) → Holds e table s cell r → IsOver (width_of s) r
    → IsSubset x (below (width_of s)) → IsSubset y (below (width_of s))
    → GivesNone (width_of s) (unpaired x (difference y x) (difference (below (width_of s)) (union x y))) r ↔ Obeys (width_of s) (mvd x y) r
    → GivesMeasure e (lack_query s table x (difference y x) (difference (below (width_of s)) (union x y))) (width_of s) (mvd x y) r
mvd-measured e table s cell r x y held over x_in y_in law =
    let right = difference y x in
    let rest = difference (below (width_of s)) (union x y) in
    let all_in : IsSubset (union x (union right rest)) (below (width_of s)) = λ (k : ℕ) m. let in_x = x_in k in let in_y = y_in k in grind (arith, m, in_x, in_y) in
    let known = lack-known e table s cell r x right rest held in
    let keys = uneven_values s cell x right rest r in
    let measured = lack-measured s cell r x y x_in y_in (apart-on e table s cell r held) in
    record {
      result = known.0;
      evaluates = known.1;
      none = both_ways (none-shown known.0.rows keys _ _ known.2) (both_ways (unpaired-none e table s cell r x right rest held over all_in) law);
      measure = measured.0;
      is = measured.1;
      shows = known.2 ∙ measured.2;
    }

-- ---- dependencies
rule-measured : (e : Engine) (table : List ℕ) (s : Schema) (cell : Cells) (r : Relation) (d : Dependency) → Holds e table s cell r → IsOver (width_of s) r
    → IsWithin (below (width_of s)) d → MeasuresRule e s table r d
rule-measured e table s cell r (fd x y) held over inside =
    let n = width_of s in
    let law = breaches_tell n (fd x y) r s.valid.names_within_limit inside over in
    let stated = λ (b : Bool). MatchOption (if b then None else Some (several x (union x y))) (Obeys n (fd x y) r) (λ q. GivesNone n q r ↔ Obeys n (fd x y) r) in
    elim (cases_Bool (is_subset y x)) [
      | inl within ↦ rw within (subst stated within law)
      | inr beyond ↦ rw beyond (fd-measured e table s cell r x y held over inside.0 inside.1 beyond (subst stated beyond law))
    ]
rule-measured e table s cell r (mvd x y) held over inside =
    let n = width_of s in
    let law = breaches_tell n (mvd x y) r s.valid.names_within_limit inside over in
    let rest = difference (below n) (union x y) in
    let stated = λ (b : Bool). MatchOption (if b then None else Some (unpaired x (difference y x) rest)) (Obeys n (mvd x y) r) (λ q. GivesNone n q r ↔ Obeys n (mvd x y) r) in
    elim (cases_Bool (is_subset y x || is_subset (below n) (union x y))) [
      | inl always ↦ rw always (subst stated always law)
      | inr sometimes ↦ rw sometimes (mvd-measured e table s cell r x y held over inside.0 inside.1 (subst stated sometimes law))
    ]

pub rules_measured : (e : Engine) (table : List ℕ) (s : Schema) (cell : Cells) (r : Relation) → Holds e table s cell r → IsOver (width_of s) r
    → MeasuresRules e s table r
rules_measured e table s cell r held over i d lt =
    let within : All (IsWithin (below (width_of s))) (theory_of s) = dependencies_all-from (IsWithin (below (width_of s))) (deps_of s) s.valid.deps_within in
    let at = get_or (theory_of s) i d in
    rule-measured e table s cell r at held over
    (All-contains (IsWithin (below (width_of s))) (theory_of s) at within (Contains-get_or (theory_of s) i d lt))
