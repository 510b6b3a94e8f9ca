-- The tables of a migration and those of a design stand over the same schemes with the same keys, in the same order.
use Rattle.std.proofs.Common.{◌≡◌, ◌<◌, ◌+◌, ℕ, zero, suc, List, [], ◌∷◌, length, get_or, map, take, Some, refl, sym, ap, subst, ◌∙◌, arith}
use Rattle.std.specs.Prelude.{Contains, filter, slice_get}
use Rattle.std.proofs.Math.ListN.{get_or-map}
use Rattle.std.proofs.lemmas.List.{get_or_default, length-map, length-take-le}
use Rattle.std.proofs.lemmas.Option.{slice_get_within, get_or_from_slice_get}
use Rattle.attr_sets.specs.Attributes.{Attributes, difference}
use Rattle.attr_sets.specs.Sets.{attributes}
use Rattle.attr_sets.specs.declared.set.AttrSet.{AttrSet}
use Rattle.attr_sets.specs.declared.set.TheConstants.{MOST_ATTRIBUTES}
use Rattle.attr_sets.proofs.AttributesLemmas.{attributes_below}
use Rattle.csv_migrate.specs.Migration.{column_names, table_of, tables_from}
use Rattle.dep_model.specs.Plans.{schemes_of}
use Rattle.dep_model.specs.Projections.{members_below, ordered_projection}
use Rattle.schema_model.specs.Schemas.{width_of, theory_of, nullable_of, LegalFor}
use Rattle.dep_model.specs.Tuples.{Relation}
use Rattle.schema_model.specs.Schemas.{Schema}
use Rattle.optional_tables.specs.LookUps.{empty_values, misses_none, rows_for, schemes_of_tables}
use Rattle.optional_tables.specs.declared.keyed.KeyedScheme.{KeyedScheme}
use Rattle.optional_tables.proofs.AlikeLemmas.{AreAlike, IsAlike}
use Rattle.primary_keys.specs.PrimaryKeys.{IsPrimaryKey}
use Rattle.primary_keys.proofs.PrimaryLemmas.{one_primary_below}
use Rattle.ddl_text.specs.Designs.{IsTableOf, keyed}
use Rattle.ddl_text.specs.KeysAndReferences.{KeyHolds, ReferenceHolds}
use Rattle.ddl_text.specs.declared.table.TableDesign.{TableDesign}
use Rattle.design_order.proofs.OrderLemmas.{one_order}
use Rattle.named_tables.specs.Tables.{TableValue}
use Rattle.table_names.specs.TableNames.{GivenNames, name_of_table}
use Rattle.desk_designs.specs.Designs.{IsSoundDesign}
use Rattle.desk_tables.specs.Migrations.{AreTablesOf}
use Rattle.plan_laws.specs.Designed.{AreDesignedAs, KeysHoldIn, OtherKeysHoldIn, ReferencesHoldIn}

-- ---- the tables of schemes with their keys
pub tables_length : (s : Schema) (names : GivenNames) (rows : Relation) (number : ℕ) (design : List KeyedScheme)
    → length (tables_from s names rows number design) ≡ length design
tables_length s names rows number [] = refl
tables_length s names rows number (x ∷ design) = ap (λ (k : ℕ). suc k) (tables_length s names rows (number + 1) design)

-- the name of a table, counted from the first
pub from_zero : (names : GivenNames) (k : ℕ) → name_of_table names (0 + k) ≡ name_of_table names k
from_zero names k = let same : 0 + k ≡ k = omega arith in ap (name_of_table names) same

pub table_at : (s : Schema) (names : GivenNames) (rows : Relation) (number : ℕ) (design : List KeyedScheme) (k : ℕ)
    (x : KeyedScheme) (d : TableValue)
    → k < length design → get_or (tables_from s names rows number design) k d ≡ table_of s names rows (number + k) (get_or design k x)
table_at s names rows number [] k x d lt = absurd (omega (arith, lt))
table_at s names rows number (y ∷ design) zero x d lt =
    let same : number ≡ number + 0 = omega arith in ap (λ (m : ℕ). table_of s names rows m y) same
table_at s names rows number (y ∷ design) (suc k) x d lt =
    let same : (number + 1) + k ≡ number + suc k = omega arith in
    table_at s names rows (number + 1) design k x d (omega (arith, lt))
    ∙ ap (λ (m : ℕ). table_of s names rows m (get_or design k x)) same

-- a table rests on the attributes of its scheme and of its key
table_alike : (s : Schema) (names : GivenNames) (rows : Relation) (number : ℕ) (t u : KeyedScheme) → IsAlike t u
    → table_of s names rows number t ≡ table_of s names rows number u
table_alike s names rows number t u alike =
    ap (λ (scheme : Attributes). made scheme (attributes t.key)) alike.scheme ∙ ap (made (attributes u.scheme)) alike.key
  where
    made : Attributes → Attributes → TableValue
    made scheme key = record {
      name = name_of_table names number;
      columns = column_names s scheme;
      nullable = map (difference (nullable_of s) key) (members_below (width_of s) scheme);
      rows = ordered_projection scheme (filter (misses_none (empty_values (nullable_of s)) key) rows);
    }

pub tables_alike : (s : Schema) (names : GivenNames) (rows : Relation) (number : ℕ) (one other : List KeyedScheme)
    → AreAlike one other → tables_from s names rows number one ≡ tables_from s names rows number other
tables_alike s names rows number [] [] alike = refl
tables_alike s names rows number [] (u ∷ us) alike = absurd alike
tables_alike s names rows number (t ∷ ts) [] alike = absurd alike
tables_alike s names rows number (t ∷ ts) (u ∷ us) alike =
    ap (λ (first : TableValue). first ∷ tables_from s names rows (number + 1) ts) (table_alike s names rows number t u alike.0)
    ∙ ap (λ (rest : List TableValue). table_of s names rows number u ∷ rest)
    (tables_alike s names rows (number + 1) ts us alike.1)

-- schemes with keys that are those of designed tables at each position
alike_from : (one : List KeyedScheme) (designs : List TableDesign) → length one ≡ length designs
    → ((k : ℕ) (t : KeyedScheme) (design : TableDesign) → slice_get one k ≡ Some t → slice_get designs k ≡ Some design
    → IsAlike t (keyed design))
    → AreAlike one (map keyed designs)
alike_from [] [] long each = tt
alike_from [] (u ∷ us) long each = absurd (omega (arith, long))
alike_from (t ∷ ts) [] long each = absurd (omega (arith, long))
alike_from (t ∷ ts) (u ∷ us) long each =
    (each 0 t u refl refl, alike_from ts us (omega (arith, long)) (λ k. each (suc k)))

abbrev scheme_of : KeyedScheme → Attributes
scheme_of table = attributes table.scheme

module _ (s : Schema) (names : GivenNames) (plan : List AttrSet) (designs : List TableDesign) (rows : Relation) (tables : List TableValue)
    (sound : IsSoundDesign s names plan designs) (are : AreTablesOf s names (schemes_of plan) rows tables) where
  -- the designed table at a position
  design_at : (k : ℕ) (design : TableDesign) → slice_get designs k ≡ Some design
      → IsTableOf s names (take k designs) (get_or sound.ordered k design.scheme) design
  design_at k design at =
      subst (λ (t : TableDesign). IsTableOf s names (take k designs) (get_or sound.ordered k design.scheme) t)
      (get_or_from_slice_get designs k design design at)
      (sound.design.each k
      (omega (arith, slice_get_within designs k design at, sound.design.one_each)) design.scheme
      design)

  same_schemes : schemes_of_tables are.design ≡ schemes_of sound.ordered
  same_schemes =
      one_order (width_of s) (theory_of s) (schemes_of plan) (schemes_of_tables are.design) (schemes_of sound.ordered)
      are.keyed.order sound.order

  as_many : length are.design ≡ length designs
  as_many =
      sym (length-map are.design (λ (table : KeyedScheme). attributes table.scheme))
      ∙ ap (λ (schemes : List Attributes). length schemes) same_schemes
      ∙ length-map sound.ordered attributes ∙ sym sound.design.one_each

  -- the scheme with its key that is migrated at a position is that of the designed table there
  keyed_same : (k : ℕ) (t : KeyedScheme) (design : TableDesign) → slice_get are.design k ≡ Some t
      → slice_get designs k ≡ Some design → IsAlike t (keyed design)
  keyed_same k t design at there =
      let here = design_at k design there in
      let low : k < length are.design = slice_get_within are.design k t at in
      let is : get_or are.design k t ≡ t = get_or_from_slice_get are.design k t t at in
      let same : attributes t.scheme ≡ attributes design.scheme =
      ap scheme_of (sym is) ∙ sym (get_or-map scheme_of are.design k t)
      ∙ ap (λ (schemes : List Attributes). get_or schemes k (scheme_of t)) same_schemes
      ∙ get_or_default (schemes_of sound.ordered) k (scheme_of t) (attributes design.scheme)
      (omega (arith, low, as_many, sound.design.one_each, length-map sound.ordered attributes))
      ∙ get_or-map attributes sound.ordered k design.scheme
      ∙ ap attributes (sym here.columns) in
      let first : IsPrimaryKey (width_of s) (theory_of s) (nullable_of s) (attributes t.scheme) (attributes t.key) =
      subst (λ (table : KeyedScheme). IsPrimaryKey (width_of s) (theory_of s) (nullable_of s) (attributes table.scheme)
      (attributes table.key)) is (are.keyed.keys k t low) in
      let second : IsPrimaryKey (width_of s) (theory_of s) (nullable_of s) (attributes design.scheme) (attributes design.key) =
      subst (λ (x : AttrSet). IsPrimaryKey (width_of s) (theory_of s) (nullable_of s) (attributes x)
      (attributes design.key)) (sym here.columns) here.key in
      record {
        scheme = same;
        key = one_primary_below MOST_ATTRIBUTES (width_of s) (theory_of s) (nullable_of s) (attributes t.scheme)
            (attributes t.key) (attributes design.key) (attributes_below t.scheme) first
            (subst (λ (x : Attributes). IsPrimaryKey (width_of s) (theory_of s) (nullable_of s) x (attributes design.key))
            (sym same) second);
      }

  pub same_design : AreAlike are.design (map keyed designs)
  same_design = alike_from are.design designs as_many keyed_same

  same_tables : tables ≡ tables_from s names rows 0 (map keyed designs)
  same_tables = are.projections ∙ tables_alike s names rows 0 are.design (map keyed designs) same_design

  same_length : length tables ≡ length designs
  same_length =
      ap length same_tables ∙ tables_length s names rows 0 (map keyed designs) ∙ length-map designs keyed

  -- and the table there
  value_at : (k : ℕ) (design : TableDesign) (table : TableValue) → slice_get designs k ≡ Some design
      → slice_get tables k ≡ Some table → table ≡ table_of s names rows (0 + k) (keyed design)
  value_at k design table at here =
      let lt = slice_get_within designs k design at in
      let low : k < length (map keyed designs) = omega (arith, lt, length-map designs keyed) in
      sym (get_or_from_slice_get tables k table table here)
      ∙ ap (λ (l : List TableValue). get_or l k table) same_tables
      ∙ table_at s names rows 0 (map keyed designs) k (keyed design) table low
      ∙ ap (λ (x : KeyedScheme). table_of s names rows (0 + k) x)
      (get_or-map keyed designs k design ∙ ap keyed (get_or_from_slice_get designs k design design at))

  same_name : (k : ℕ) (design : TableDesign) → slice_get designs k ≡ Some design → design.name ≡ name_of_table names k
  same_name k design at =
      let lt = slice_get_within designs k design at in
      let count : length (take k designs) ≡ k =
      omega (arith, lt, length-take-le k designs (omega (arith, lt))) in
      (design_at k design at).name ∙ ap (name_of_table names) count

  pub designed : AreDesignedAs s designs tables
  designed = record {
    one_each = same_length;
    each = λ k design table at here. record {
      name =
          ap (λ (t : TableValue). t.name) (value_at k design table at here) ∙ from_zero names k
          ∙ sym (same_name k design at);
      columns = ap (λ (t : TableValue). t.columns) (value_at k design table at here);
    };
  }

  -- ---- keys and references
  rows_are : (k : ℕ) (design : TableDesign) (table : TableValue) → slice_get designs k ≡ Some design
      → slice_get tables k ≡ Some table → table.rows ≡ rows_for (empty_values (nullable_of s)) rows (keyed design)
  rows_are k design table at here = ap (λ (t : TableValue). t.rows) (value_at k design table at here)

  contained : (k : ℕ) (design : TableDesign) → slice_get designs k ≡ Some design → Contains designs design
  contained k design at = (k, slice_get_within designs k design at, get_or_from_slice_get designs k design design at)

  pub keys_hold : LegalFor s rows → KeysHoldIn designs tables
  keys_hold legal k design table at here =
      subst (λ (r : Relation). KeyHolds (attributes design.scheme) r (attributes design.key))
      (sym (rows_are k design table at here))
      (sound.keys_hold (empty_values (nullable_of s)) rows legal design (contained k design at))

  pub other_keys_hold : LegalFor s rows → OtherKeysHoldIn designs tables
  other_keys_hold legal k design table at here key named =
      subst (λ (r : Relation). KeyHolds (attributes design.scheme) r key)
      (sym (rows_are k design table at here))
      (sound.other_keys_hold (empty_values (nullable_of s)) rows legal design (contained k design at) key named)

  pub references_hold : LegalFor s rows → ReferencesHoldIn s designs tables
  references_hold legal k j design other table other_table at here refers other_at other_here =
      let missing = empty_values (nullable_of s) in
      subst (λ (r : Relation). ReferenceHolds missing (attributes design.scheme) r (attributes other.scheme)
      other_table.rows (attributes other.key))
      (sym (rows_are k design table at here))
      (subst (λ (r : Relation). ReferenceHolds missing (attributes design.scheme)
      (rows_for missing rows (keyed design)) (attributes other.scheme) r (attributes other.key))
      (sym (rows_are j other other_table other_at other_here))
      (sound.references_hold missing rows legal design other j (contained k design at) refers other_at))
