-- The parts that have the rows of a migration's tables are the ordered projections of the rows, and are joined
-- to them in whatever order.
use Rattle.std.proofs.Common.{◌≡◌, ◌+◌, ℕ, false, true, true≢false, List, [], ◌∷◌, map, refl, sym, ap, ap₂, subst, ◌∙◌, inl, inr, arith}
use Rattle.std.specs.Prelude.{All, Contains}
use Rattle.std.specs.List.{AllZip}
use Rattle.std.proofs.lemmas.List.Elements.{All-nil, All-cons, All-head, All-tail, All-weaker, All-contains, All-contains_itself}
use Rattle.std.proofs.lemmas.List.Folds.{Any-from_list_any}
use Rattle.attr_sets.specs.Attributes.{Attributes}
use Rattle.attr_sets.specs.Sets.{attributes}
use Rattle.csv_migrate.specs.Migration.{tables_from, relations_of}
use Rattle.dep_model.specs.Dependencies.{Dependency}
use Rattle.dep_model.specs.Projections.{ordered_projection, IsLossless}
use Rattle.schema_model.specs.Schemas.{nullable_of, width_of, theory_of, LegalFor}
use Rattle.dep_model.specs.Tuples.{Relation}
use Rattle.schema_model.specs.Schemas.{Schema}
use Rattle.dep_model.proofs.JoinLemmas.{lossless_from}
use Rattle.dep_model.proofs.ListLemmas.{Any-from, Contains-cases, Contains-head, Contains-later, Contains-map, map-member}
use Rattle.design_order.proofs.OrderLemmas.{one_order, order-lossless}
use Rattle.lookup_laws.proofs.MissingLemmas.{empty_is_missing, filled_has_all}
use Rattle.optional_tables.specs.Homes.{is_optional}
use Rattle.optional_tables.specs.LookUps.{empty_values, rows_for, schemes_of_tables}
use Rattle.optional_tables.specs.declared.keyed.KeyedScheme.{KeyedScheme}
use Rattle.optional_tables.proofs.AlikeLemmas.{AreAlike, optional_alike}
use Rattle.rejoin_laws.proofs.ZipLemmas.{from_grouped}
use Rattle.table_names.specs.TableNames.{GivenNames}
use Rattle.named_tables.specs.Tables.{TableValue}
use Rattle.table_join.specs.Answers.{AreProjections}
use Rattle.split_forms.proofs.StepLemmas.{cons-head, cons-tail}
use Rattle.table_join.specs.Tables.{PartialRelation, plan_of_tables, rows_of_tables}
use Rattle.table_join.specs.declared.refusal.JoinRefusal.TheVariants.{NotCovered, TooManyRows}
use Rattle.desk_designs.specs.Joins.{LosesNothing}
use Rattle.desk_tables.proofs.OneDesignLemmas.{same_key}
use Rattle.desk_tables.specs.Migrations.{AreTablesOf}
use Rattle.desk_tables.specs.Rejoining.{HaveLookUps, IsKeyedTable, in_order}
use Rattle.desk_tables.specs.Tidiness.{HasPrimaryKey}
use Rattle.plan_laws.specs.Rejoined.{GivesTheRows, HasNoOptional, HaveRowsOf, HaveRowsInAnyOrder}
use Rattle.plan_laws.proofs.TidyAnswers.{one_keyed}

-- ---- the rows of the tables
pub relations_from : (s : Schema) (names : GivenNames) (rows : Relation) (number : ℕ) (design : List KeyedScheme)
    → relations_of (tables_from s names rows number design) ≡ map (rows_for (empty_values (nullable_of s)) rows) design
relations_from s names rows number [] = refl
relations_from s names rows number (x ∷ design) =
    ap (λ (l : List Relation). rows_for (empty_values (nullable_of s)) rows x ∷ l) (relations_from s names rows (number + 1) design)

-- the schemes of parts are those of the design
pub same_schemes : (s : Schema) (names : GivenNames) (plan : List Attributes) (rows : Relation) (tables : List TableValue)
    (parts : List PartialRelation) → (are : AreTablesOf s names plan rows tables) → HaveRowsOf s plan tables parts
    → schemes_of_tables are.design ≡ plan_of_tables parts
same_schemes s names plan rows tables parts are have =
    one_order (width_of s) (theory_of s) plan (schemes_of_tables are.design) (plan_of_tables parts) are.keyed.order have.order

filled_rows : (s : Schema) (rows : Relation) (design : List KeyedScheme) → All (λ table. is_optional (nullable_of s) table ≡ false) design
    → map (rows_for (empty_values (nullable_of s)) rows) design ≡ map (λ scheme. ordered_projection scheme rows) (schemes_of_tables design)
filled_rows s rows [] filled = refl
filled_rows s rows (t ∷ ts) filled =
    ap₂ (λ (r : Relation) (rs : List Relation). r ∷ rs)
    (filled_has_all (nullable_of s) (empty_values (nullable_of s)) rows t (empty_is_missing (nullable_of s))
    (All-head (λ (k : KeyedScheme). is_optional (nullable_of s) k ≡ false) t ts filled))
    (filled_rows s rows ts (All-tail (λ (k : KeyedScheme). is_optional (nullable_of s) k ≡ false) t ts filled))

-- no table of the design is optional where none is of another with the same schemes
all_alike : (nullable : Attributes) (one other : List KeyedScheme) → AreAlike one other
    → All (λ table. is_optional nullable table ≡ false) one → All (λ table. is_optional nullable table ≡ false) other
all_alike nullable [] [] alike all = all
all_alike nullable [] (u ∷ us) alike all = absurd alike
all_alike nullable (t ∷ ts) [] alike all = absurd alike
all_alike nullable (t ∷ ts) (u ∷ us) alike all =
    All-cons (λ (k : KeyedScheme). is_optional nullable k ≡ false) u us
    (sym (optional_alike nullable t u alike.0) ∙ All-head (λ (k : KeyedScheme). is_optional nullable k ≡ false) t ts all)
    (all_alike nullable ts us alike.1 (All-tail (λ (k : KeyedScheme). is_optional nullable k ≡ false) t ts all))

none_optional : (s : Schema) (names : GivenNames) (plan : List Attributes) (rows : Relation) (tables : List TableValue)
    → (are : AreTablesOf s names plan rows tables) → HasNoOptional s plan
    → All (λ table. is_optional (nullable_of s) table ≡ false) are.design
none_optional s names plan rows tables are (design, keyed, none) =
    all_alike (nullable_of s) design are.design (one_keyed s plan design are.design keyed are.keyed) none

projected : (s : Schema) (names : GivenNames) (plan : List Attributes) (rows : Relation) (tables : List TableValue)
    (parts : List PartialRelation) → HasNoOptional s plan → AreTablesOf s names plan rows tables → HaveRowsOf s plan tables parts
    → AreProjections parts rows
projected s names plan rows tables parts none are have =
    have.rows
    ∙ ap relations_of are.projections
    ∙ relations_from s names rows 0 are.design
    ∙ filled_rows s rows are.design (none_optional s names plan rows tables are none)
    ∙ ap (λ (l : List Attributes). map (λ scheme. ordered_projection scheme rows) l) (same_schemes s names plan rows tables parts are have)

-- ---- no part is looked up
-- each part is over a scheme of the plan's design
pub keyed_of : (s : Schema) (parts : List PartialRelation) (keyed : List KeyedScheme) → AllZip (IsKeyedTable s) parts keyed
    → (k : KeyedScheme) → Contains keyed k → (part : PartialRelation) × Contains parts part × IsKeyedTable s part k
keyed_of s [] [] each k k_in = absurd (omega (arith, k_in.1))
keyed_of s [] (u ∷ us) each k k_in = absurd each
keyed_of s (p ∷ ps) [] each k k_in = absurd each
keyed_of s (p ∷ ps) (u ∷ us) each k k_in = elim (Contains-cases u us k k_in) [
  | inl same ↦ (p, Contains-head p ps, subst (IsKeyedTable s p) (sym same) each.0)
  | inr later ↦ let found = keyed_of s ps us each.1 k later in (found.0, Contains-later p ps found.0 found.1, found.2)
]

optional_false : (s : Schema) (design : List KeyedScheme) (part : PartialRelation) (k : KeyedScheme)
    → All (λ table. is_optional (nullable_of s) table ≡ false) design → All (HasPrimaryKey s) design
    → Contains (schemes_of_tables design) part.scheme → IsKeyedTable s part k → is_optional (nullable_of s) k ≡ false
optional_false s design part k none keys scheme_in is =
    let (t, t_in, same) = map-member (λ (u : KeyedScheme). attributes u.scheme) design part.scheme scheme_in in
    optional_alike (nullable_of s) k t
    (same_key s k t (is.scheme ∙ sym same) is.key (All-contains (HasPrimaryKey s) design t keys t_in))
    ∙ All-contains (λ (u : KeyedScheme). is_optional (nullable_of s) u ≡ false) design t none t_in

never_looked_up : (s : Schema) (design : List KeyedScheme) (parts : List PartialRelation)
    → All (λ table. is_optional (nullable_of s) table ≡ false) design → All (HasPrimaryKey s) design
    → ((part : PartialRelation) → Contains parts part → Contains (schemes_of_tables design) part.scheme)
    → (keyed : List KeyedScheme) (counts : List ℕ) → HaveLookUps s parts keyed counts → ⊥
never_looked_up s design parts none keys among keyed counts have =
    let (i, k, low, at, is) = Any-from_list_any (is_optional (nullable_of s)) (in_order s counts keyed) have.optional in
    let in_keyed = from_grouped (width_of s + 1) keyed counts k (i, low, at) in
    let (part, part_in, is_keyed) = keyed_of s parts keyed have.keys k in_keyed in
    true≢false (sym is ∙ optional_false s design part k none keys (among part part_in) is_keyed)

-- the ordered projections of legal rows, over schemes by which nothing is lost, are joined to the rows
joined_again : (s : Schema) (rows : Relation) (parts : List PartialRelation) → LosesNothing s (plan_of_tables parts)
    → LegalFor s rows → AreProjections parts rows
    → ((keyed : List KeyedScheme) (counts : List ℕ) → HaveLookUps s parts keyed counts → ⊥) → GivesTheRows s parts rows
joined_again s rows parts kept legal are none response (inl (keyed, (counts, have, looks_up))) = absurd (none keyed counts have)
joined_again s rows parts kept legal are none response (inr (not_so, inl (found, is, says))) =
    let back = is.gives_back rows legal kept are in
    inl (found, back.0, back.1, says)
joined_again s rows parts kept legal are none response (inr (not_so, inr (NotCovered a, refused, says))) =
    absurd (refused.uncovered (kept.covers a refused.within))
joined_again s rows parts kept legal are none response (inr (not_so, inr (TooManyRows k, refused, says))) = inr (k, says)

pub rejoined : (s : Schema) (names : GivenNames) (plan : List Attributes) (rows : Relation) (tables : List TableValue)
    (parts : List PartialRelation) → LosesNothing s plan → HasNoOptional s plan → LegalFor s rows → AreTablesOf s names plan rows tables
    → HaveRowsOf s plan tables parts → GivesTheRows s parts rows
rejoined s names plan rows tables parts lossless none legal are have =
    joined_again s rows parts
    (order-lossless (width_of s) (theory_of s) (theory_of s) plan (plan_of_tables parts) have.order lossless) legal
    (projected s names plan rows tables parts none are have)
    (never_looked_up s are.design parts (none_optional s names plan rows tables are none) are.keyed.keys
    (λ part part_in. subst (λ (l : List Attributes). Contains l part.scheme) (sym (same_schemes s names plan rows tables parts are have))
    (Contains-map (λ (p : PartialRelation). p.scheme) parts part part_in)))

-- ---- in any order
-- a part is the ordered projection of rows on its scheme
abbrev IsProjection : Relation → PartialRelation → Type 0
IsProjection rows part = part.rows ≡ ordered_projection part.scheme rows

each_projection : (rows : Relation) (parts : List PartialRelation) → AreProjections parts rows
    → All (IsProjection rows) parts
each_projection rows [] are = All-nil (IsProjection rows)
each_projection rows (part ∷ parts) are =
    All-cons (IsProjection rows) part parts
    (cons-head part.rows (ordered_projection part.scheme rows) (rows_of_tables parts)
    (map (λ scheme. ordered_projection scheme rows) (plan_of_tables parts)) are)
    (each_projection rows parts
    (cons-tail part.rows (ordered_projection part.scheme rows) (rows_of_tables parts)
    (map (λ scheme. ordered_projection scheme rows) (plan_of_tables parts)) are))

all_projections : (rows : Relation) (parts : List PartialRelation) → All (IsProjection rows) parts
    → AreProjections parts rows
all_projections rows [] each = refl
all_projections rows (part ∷ parts) each =
    ap (λ (r : Relation). r ∷ rows_of_tables parts) (All-head (IsProjection rows) part parts each)
    ∙ ap (λ (rs : List Relation). ordered_projection part.scheme rows ∷ rs)
    (all_projections rows parts (All-tail (IsProjection rows) part parts each))

-- a scheme of parts is the scheme of one of them
scheme_of_part : (parts : List PartialRelation) (scheme : Attributes) → Contains (plan_of_tables parts) scheme
    → (part : PartialRelation) × Contains parts part × (part.scheme ≡ scheme)
scheme_of_part [] scheme has = absurd (omega (arith, has.1))
scheme_of_part (part ∷ parts) scheme has = elim (Contains-cases part.scheme (plan_of_tables parts) scheme has) [
  | inl here ↦ (part, Contains-head part parts, sym here)
  | inr later ↦
      let found = scheme_of_part parts scheme later in
      (found.0, Contains-later part parts found.0 found.1, found.2)
]

-- the schemes of parts that are all among others are among the schemes of these
pub schemes_among : (parts others : List PartialRelation)
    → ((part : PartialRelation) → Contains parts part → Contains others part) → (scheme : Attributes)
    → Contains (plan_of_tables parts) scheme → Contains (plan_of_tables others) scheme
schemes_among parts others among scheme has =
    let found = scheme_of_part parts scheme has in
    subst (λ (x : Attributes). Contains (plan_of_tables others) x) found.2
    (Contains-map (λ (part : PartialRelation). part.scheme) others found.0 (among found.0 found.1))

-- a plan that loses nothing loses nothing where it has more schemes
pub more_lossless : (n : ℕ) (ds : List Dependency) (plan more : List Attributes)
    → ((scheme : Attributes) → Contains plan scheme → Contains more scheme) → IsLossless n ds plan
    → IsLossless n ds more
more_lossless n ds plan more among lossless =
    lossless_from n ds plan more lossless
    (λ k low. let has = lossless.covers k low in
    Any-from (λ (scheme : Attributes). scheme k ≡ true) more has.1 (among has.1 (has.0, has.2, has.3)) has.4)
    (λ r legal t long each scheme has. each scheme (among scheme has))

pub rejoined_in_any_order : (s : Schema) (names : GivenNames) (plan : List Attributes) (rows : Relation) (tables : List TableValue)
    (parts : List PartialRelation) → LosesNothing s plan → HasNoOptional s plan → LegalFor s rows → AreTablesOf s names plan rows tables
    → HaveRowsInAnyOrder s plan tables parts → GivesTheRows s parts rows
rejoined_in_any_order s names plan rows tables parts lossless none legal are have =
    joined_again s rows parts
    (more_lossless (width_of s) (theory_of s) (plan_of_tables have.in_order) (plan_of_tables parts)
    (schemes_among have.in_order parts (λ part has. (have.same part).1 has))
    (order-lossless (width_of s) (theory_of s) (theory_of s) plan (plan_of_tables have.in_order) have.are.order
    lossless))
    legal
    (all_projections rows parts
    (All-weaker (Contains parts) (IsProjection rows)
    (λ part has. All-contains (IsProjection rows) have.in_order part
    (each_projection rows have.in_order (projected s names plan rows tables have.in_order none are have.are))
    ((have.same part).0 has))
    parts (All-contains_itself parts)))
    (never_looked_up s are.design parts (none_optional s names plan rows tables are none) are.keyed.keys
    (λ part part_in. subst (λ (l : List Attributes). Contains l part.scheme)
    (sym (same_schemes s names plan rows tables have.in_order are have.are))
    (Contains-map (λ (p : PartialRelation). p.scheme) have.in_order part ((have.same part).0 part_in))))
