-- The references of a design in its order: what a table does not refer to comes later and determines the same.
use Rattle.std.proofs.Common.{◌≡◌, ◌<◌, ℕ, zero, suc, List, [], ◌∷◌, length, get_or, take, Option, Some, refl, sym, subst, ap, ◌∙◌, inl, inr, arith}
use Rattle.std.specs.Prelude.{Contains, slice_get, IsSomeAnd}
use Rattle.std.proofs.Math.ListN.{get_or-map}
use Rattle.std.proofs.lemmas.Bool.{cases_lt}
use Rattle.std.proofs.lemmas.List.{length-map}
use Rattle.std.proofs.lemmas.List.Elements.{All-contains, Contains-get_or}
use Rattle.std.proofs.lemmas.Option.{slice_get_within, get_or_from_slice_get}
use Rattle.attr_sets.specs.Attributes.{Attributes, below, only, IsSubset}
use Rattle.attr_sets.specs.Sets.{attributes}
use Rattle.attr_sets.specs.declared.set.AttrSet.{AttrSet}
use Rattle.dep_model.specs.Dependencies.{Dependency, fd}
use Rattle.dep_model.specs.Implication.{Implies}
use Rattle.dep_model.specs.Keys.{InClosure}
use Rattle.dep_model.specs.Plans.{IsPlan, schemes_of}
use Rattle.schema_model.specs.Schemas.{width_of, theory_of, nullable_of}
use Rattle.schema_model.specs.Schemas.{Schema}
use Rattle.dep_model.proofs.KeyLemmas.{fd_on-to}
use Rattle.dep_model.proofs.RuleLemmas.{transitivity_obeyed, fd_weaker_obeyed}
use Rattle.primary_keys.specs.PrimaryKeys.{IsPrimaryKey}
use Rattle.primary_keys.proofs.PrimaryLemmas.{primary_is_key}
use Rattle.ddl_text.specs.Designs.{IsDesign, IsTableOf, RefersTo}
use Rattle.table_names.specs.TableNames.{GivenNames}
use Rattle.ddl_text.specs.declared.table.TableDesign.{TableDesign}
use Rattle.design_order.specs.Order.{DetermineTheSame, IsInDesignOrder}
use Rattle.design_order.proofs.OrderLemmas.{order-plan, later_the_same}
use Rattle.table_laws.specs.References.{ReferencesAreStated}

get_in_front : {X : Type 0} (xs : List X) (i j : ℕ) → j < i → slice_get (take i xs) j ≡ slice_get xs j
get_in_front xs zero j lt = absurd (omega (arith, lt))
get_in_front [] (suc i) j lt = refl
get_in_front (x ∷ xs) (suc i) zero lt = refl
get_in_front (x ∷ xs) (suc i) (suc j) lt = get_in_front xs i j (omega (arith, lt))

table_at : (s : Schema) (names : GivenNames) (schemes : List AttrSet) (tables : List TableDesign) (k : ℕ) (table : TableDesign) (d : AttrSet)
    → IsDesign s names schemes tables → slice_get tables k ≡ Some table
    → IsTableOf s names (take k tables) (get_or schemes k d) table
table_at s names schemes tables k table d design at =
    let lt = slice_get_within tables k table at in
    subst (λ (t : TableDesign). IsTableOf s names (take k tables) (get_or schemes k d) t)
    (get_or_from_slice_get tables k table table at)
    (design.each k (omega (arith, lt, design.one_each)) d table)

-- the scheme at the position of a table is the table's
scheme_at : (s : Schema) (names : GivenNames) (schemes : List AttrSet) (tables : List TableDesign) (k : ℕ) (table : TableDesign) (d : AttrSet)
    → IsDesign s names schemes tables → slice_get tables k ≡ Some table
    → get_or (schemes_of schemes) k (attributes d) ≡ attributes table.scheme
scheme_at s names schemes tables k table d design at =
    get_or-map attributes schemes k d
    ∙ ap (λ (x : AttrSet). attributes x) (sym (table_at s names schemes tables k table d design at).columns)

-- what a key determines is determined by each scheme that holds it
key_determines : (n : ℕ) (ds : List Dependency) (nullable scheme other key : Attributes) → IsSubset other (below n)
    → IsPrimaryKey n ds nullable other key → IsSubset key scheme → (a : ℕ) → InClosure n ds other a → InClosure n ds scheme a
key_determines n ds nullable scheme other key inside primary held a has =
    let whole : Implies n ds (fd key other) =
    fd_on-to n ds other key other (primary_is_key n ds nullable other key inside primary).superkey in (
      has.0,
      λ r legal. transitivity_obeyed scheme other (only a) r
          (fd_weaker_obeyed key other scheme other r held (λ (k : ℕ) m. m) (whole r legal)) (has.1 r legal),
    )

earlier_stated : (s : Schema) (names : GivenNames) (schemes : List AttrSet) (tables : List TableDesign) (i j : ℕ) (table other : TableDesign)
    → IsDesign s names schemes tables → slice_get tables i ≡ Some table → slice_get tables j ≡ Some other → j < i
    → RefersTo (attributes table.scheme) other → Contains table.refs.items j
earlier_stated s names schemes tables i j table other design at other_at before refers =
    let is = table_at s names schemes tables i table table.scheme design at in
    let here : slice_get (take i tables) j ≡ Some other = get_in_front tables i j before ∙ other_at in
    let scheme = attributes (get_or schemes i table.scheme) in
    let named : RefersTo scheme other = subst (λ (x : AttrSet). RefersTo (attributes x) other) is.columns refers in
    (is.refs.exactly j).1 (subst (λ (found : Option TableDesign). IsSomeAnd found (RefersTo scheme)) (sym here) named)

later_same : (s : Schema) (names : GivenNames) (plan : List Attributes) (schemes : List AttrSet) (tables : List TableDesign) (i j : ℕ)
    (table other : TableDesign) → IsPlan (width_of s) plan
    → IsInDesignOrder (width_of s) (theory_of s) plan (schemes_of schemes) → IsDesign s names schemes tables
    → slice_get tables i ≡ Some table → slice_get tables j ≡ Some other → i < j
    → RefersTo (attributes table.scheme) other
    → DetermineTheSame (width_of s) (theory_of s) (attributes table.scheme) (attributes other.scheme)
later_same s names plan schemes tables i j table other valid order design at other_at before refers =
    let n = width_of s in
    let ds = theory_of s in
    let ordered = schemes_of schemes in
    let d = attributes table.scheme in
    let short : j < length ordered =
    omega (arith, slice_get_within tables j other other_at, design.one_each, length-map schemes attributes) in
    let first = scheme_at s names schemes tables i table table.scheme design at in
    let second = scheme_at s names schemes tables j other table.scheme design other_at in
    let is = table_at s names schemes tables j other table.scheme design other_at in
    let primary : IsPrimaryKey n ds (nullable_of s) (attributes other.scheme) (attributes other.key) =
    subst (λ (x : AttrSet). IsPrimaryKey n ds (nullable_of s) (attributes x) (attributes other.key)) (sym is.columns)
    is.key in
    let inside : IsSubset (attributes other.scheme) (below n) =
    subst (λ (x : Attributes). IsSubset x (below n)) second
    (All-contains (λ (x : Attributes). IsSubset x (below n)) ordered (get_or ordered j d)
    (order-plan n ds plan ordered order valid).within (Contains-get_or ordered j d short)) in
    let all = key_determines n ds (nullable_of s) (attributes table.scheme) (attributes other.scheme)
    (attributes other.key) inside primary refers.within in
    let same = later_the_same n ds plan ordered order i j d before short
    (subst (λ (y : Attributes). (a : ℕ) → InClosure n ds y a → InClosure n ds (get_or ordered i d) a) (sym second)
    (subst (λ (x : Attributes). (a : ℕ) → InClosure n ds (attributes other.scheme) a → InClosure n ds x a) (sym first)
    all)) in
    subst (λ (y : Attributes). DetermineTheSame n ds (attributes table.scheme) y) second
    (subst (λ (x : Attributes). DetermineTheSame n ds x (get_or ordered j d)) first same)

pub stated : (s : Schema) (names : GivenNames) (plan : List Attributes) (schemes : List AttrSet) (tables : List TableDesign)
    → IsPlan (width_of s) plan → IsInDesignOrder (width_of s) (theory_of s) plan (schemes_of schemes)
    → IsDesign s names schemes tables → ReferencesAreStated s tables
stated s names plan schemes tables valid order design i j table other at other_at apart refers = elim (cases_lt j i) [
  | inl before ↦ inl (earlier_stated s names schemes tables i j table other design at other_at before refers)
  | inr from_on ↦
      let later : i < j = omega (arith, from_on, apart) in
      inr (later, later_same s names plan schemes tables i j table other valid order design at other_at later refers)
]
