-- Each table of a design can be read: its scheme has attributes, and its keys lie within it and differ.
use Rattle.std.proofs.Common.{◌≡◌, ◌<◌, ◌≤◌, ℕ, inl, inr, Bool, true, false, cond, not, All, AllPairs, List, [], ◌∷◌, map, length, get_or, take, refl, sym, ap, subst, ◌∙◌, arith, Option, Some, None, Vec, Global}
use Rattle.std.specs.Prelude.{filter, slice_get}
use Rattle.std.proofs.lemmas.Bool.{cases_Bool, cases_eq, true≢false}
use Rattle.std.proofs.lemmas.Bool.Decides.{nat_tests}
use Rattle.std.proofs.lemmas.List.{length-map}
use Rattle.std.proofs.lemmas.List.Elements.{All-filter, All-map, All-nil, filter_passes}
use Rattle.std.proofs.lemmas.List.Kept.{AllPairs-filter}
use Rattle.std.proofs.lemmas.Option.{get_or_from_slice_get, slice_get_within}
use Rattle.attr_sets.proofs.AttributesLemmas.{count_below-pos, is_subset-from}
use Rattle.attr_sets.specs.Attributes.{Attributes, IsBefore, IsEmpty, IsSubset, below, count_below, none}
use Rattle.attr_sets.specs.Sets.{attributes, is_same}
use Rattle.attr_sets.specs.declared.set.AttrSet.{AttrSet}
use Rattle.dep_model.proofs.SchemeLemmas.{length-members_below}
use Rattle.dep_model.specs.Keys.{IsKey}
use Rattle.dep_model.specs.Plans.{schemes_of}
use Rattle.dep_model.specs.Projections.{members_below}
use Rattle.schema_model.specs.Schemas.{names_of, nullable_of, theory_of, width_of}
use Rattle.schema_model.specs.Schemas.{Schema}
use Rattle.key_listing.specs.Listing.{AreAllKeys}
use Rattle.key_listing.specs.declared.refusal.TheConstants.{MOST_KEYS}
use Rattle.primary_keys.proofs.PrimaryLemmas.{primary_is_key}
use Rattle.primary_keys.specs.PrimaryKeys.{IsPrimaryKey}
use Rattle.schema_printer.specs.Printing.{members_from}
use Rattle.schema_printer.proofs.MemberLemmas.{members_named}
use Rattle.table_names.specs.TableNames.{GivenNames}
use Rattle.ddl_text.specs.Ddl.{is_empty, is_never_missing}
use Rattle.ddl_text.specs.Designs.{AreOtherKeys, IsTableOf, known_keys, without_key}
use Rattle.ddl_text.specs.declared.table.TableDesign.{TableDesign}
use Rattle.sql_lexemes.specs.declared.dialect.Dialect.{Dialect}
use Rattle.import_laws.specs.PrintedDesigns.{IsPrintedDesign}
use Rattle.import_laws.specs.ReadTables.{read_column, read_columns}
use Rattle.import_laws.proofs.PairLemmas.{pairs_map}
use Rattle.import_laws.proofs.TableLemmas.{HasColumn, IsReadable}

-- a set that is not empty has a member
some_members : (n : ℕ) (x : Attributes) → IsSubset x (below n) → (IsEmpty x → ⊥) → 0 < length (members_below n x)
some_members n x within some = elim (cases_eq (count_below x n) 0) [
  | inl nothing ↦ absurd (some (λ k. elim (cases_Bool (x k)) [
    | inl member ↦
        let low : k < n = grind (arith, nat_tests, within k member) in
        let more = count_below-pos n x k low member in absurd (omega (arith, nothing, more))
    | inr outside ↦ outside
  ]))
  | inr other ↦ let size = length-members_below n x in omega (arith, other, size)
]

has_column : (s : Schema) (x : Attributes) → IsSubset x (below (width_of s)) → (IsEmpty x → ⊥) → HasColumn s x
has_column s x within some =
    let name = λ (k : ℕ). get_or (names_of s) k [] in
    let size = some_members (width_of s) x within some in
    let same : length (members_from x 0 (names_of s)) ≡ length (map name (members_below (width_of s) x)) =
    ap (λ (ns : List (List ℕ)). length ns) (members_named x (names_of s)) in
    let count : length (map name (members_below (width_of s) x)) ≡ length (members_below (width_of s) x) =
    length-map (members_below (width_of s) x) name in
    omega (arith, size, same, count)

-- ---- the parts of a table
-- another key of a table: within its scheme, not empty, and not its key
pub record IsOther (table : TableDesign) (x : Attributes) : Type 0 where
  pub within : IsSubset x (attributes table.scheme)
  pub some : IsEmpty x → ⊥
  pub apart : is_same x (attributes table.key) ≡ false

pub record IsFit (s : Schema) (table : TableDesign) : Type 0 where
  pub within : IsSubset (attributes table.scheme) (below (width_of s))
  pub some : IsEmpty (attributes table.scheme) → ⊥
  pub key : IsSubset (attributes table.key) (attributes table.scheme)
  pub others : All (IsOther table) (known_keys table.other_keys)
  pub differ : AllPairs (λ x y. x ≡ y → ⊥) (known_keys table.other_keys)
  pub few : length (known_keys table.other_keys) ≤ MOST_KEYS

-- ---- the other keys
fewer : {X : Type 0} (test : X → Bool) (xs : List X) → length (filter test xs) ≤ length xs
fewer test [] = omega arith
fewer test (x ∷ xs) = by_test (test x) (fewer test xs)
  where
    by_test : (b : Bool) → length (filter test xs) ≤ length xs
        → length (cond b (x ∷ filter test xs) (filter test xs)) ≤ length (x ∷ xs)
    by_test true less = omega (arith, less)
    by_test false less = omega (arith, less)

before_differ : (x y : Attributes) → IsBefore x y → x ≡ y → ⊥
before_differ x y before same =
    true≢false (sym before.2 ∙ sym (ap (λ (z : Attributes). z before.0) same) ∙ before.1)

module _ (s : Schema) (table : TableDesign) (within : IsSubset (attributes table.scheme) (below (width_of s)))
    (primary : IsPrimaryKey (width_of s) (theory_of s) (nullable_of s) (attributes table.scheme)
    (attributes table.key)) where
  is_key : IsKey (width_of s) (theory_of s) (attributes table.scheme) (attributes table.key)
  is_key = primary_is_key (width_of s) (theory_of s) (nullable_of s) (attributes table.scheme)
      (attributes table.key) within primary

  key_within : IsSubset (attributes table.key) (attributes table.scheme)
  key_within = is_key.superkey.within.0

  -- where the key has an attribute, so has each other key
  other_some : (IsEmpty (attributes table.key) → ⊥) → (x : Attributes)
      → IsKey (width_of s) (theory_of s) (attributes table.scheme) x
      → IsEmpty x → ⊥
  other_some some x other empty =
      some (λ k. elim (cases_Bool (attributes table.key k)) [
        | inl member ↦
            let inside = is_key.minimal x (λ i m. absurd (true≢false (sym m ∙ empty i))) other.superkey k member in
            absurd (true≢false (sym inside ∙ empty k))
        | inr outside ↦ outside
      ])

  pub record AreFit (keys : List Attributes) : Type 0 where
    pub others : All (IsOther table) keys
    pub differ : AllPairs (λ x y. x ≡ y → ⊥) keys
    pub few : length keys ≤ MOST_KEYS

  no_keys : AreFit []
  no_keys = record {
    others = All-nil (IsOther table);
    differ = λ i j d less low. absurd (omega (arith, low));
    few = omega arith;
  }

  -- the keys beside the key
  listed_fit : (IsEmpty (attributes table.key) → ⊥) → (all : List AttrSet)
      → AreAllKeys (width_of s) (theory_of s) (attributes table.scheme) all → length all ≤ MOST_KEYS
      → AreFit (schemes_of (without_key (attributes table.key) all))
  listed_fit some all are limit =
      let test = λ (k : AttrSet). not (is_same (attributes k) (attributes table.key)) in
      let keys = filter test all in
      let each = All-filter test (λ k. IsKey (width_of s) (theory_of s) (attributes table.scheme)
      (attributes k)) all are.each in
      let pass = filter_passes test all in
      let pairs = AllPairs-filter (λ j k. IsBefore (attributes j) (attributes k)) test all are.ascending in
      let same : length (map attributes keys) ≡ length keys = length-map keys attributes in
      let less = fewer test all in record {
        others = All-map (IsOther table) attributes keys (λ i d low. record {
          within = (each i d low).superkey.within.0;
          some = other_some some (attributes (get_or keys i d)) (each i d low);
          apart = turned (is_same (attributes (get_or keys i d)) (attributes table.key)) (pass i d low);
        });
        differ = pairs_map attributes (λ x y. x ≡ y → ⊥) keys
            (λ i j d less low. before_differ (attributes (get_or keys i d))
            (attributes (get_or keys j d)) (pairs i j d less low));
        few = omega (arith, same, less, limit);
      }
    where
      turned : (b : Bool) → not b ≡ true → b ≡ false
      turned true is = sym is
      turned false is = refl

  others_fit : (others : Option (Vec AttrSet Global))
      → AreOtherKeys s (attributes table.scheme) (attributes table.key) others
      → AreFit (known_keys others)
  others_fit None are = no_keys
  others_fit (Some keys) (inl only) = subst (λ (ks : List AttrSet). AreFit (schemes_of ks)) (sym only.1) no_keys
  others_fit (Some keys) (inr listed) =
      let (all, are, limit, same) = listed.all in
      subst (λ (ks : List AttrSet). AreFit (schemes_of ks)) (sym same) (listed_fit listed.not_empty all are limit)

-- ---- each table of a design
pub table_fits : (d : Dialect) (s : Schema) (names : GivenNames) (schemes : List AttrSet) (tables : List TableDesign)
    (k : ℕ) (table : TableDesign)
    → IsPrintedDesign d s names schemes tables → slice_get tables k ≡ Some table → IsFit s table
table_fits d s names schemes tables k table is here =
    let low = slice_get_within tables k table here in
    let bound : k < length schemes = let same = is.design.one_each in omega (arith, low, same) in
    let made : IsTableOf s names (take k tables) (get_or schemes k table.scheme) table =
    subst (λ (t : TableDesign). IsTableOf s names (take k tables) (get_or schemes k table.scheme) t)
    (get_or_from_slice_get tables k table table here) (is.design.each k bound table.scheme table) in
    let inside : IsSubset (attributes table.scheme) (below (width_of s)) =
    subst (λ (x : AttrSet). IsSubset (attributes x) (below (width_of s))) (sym made.columns)
    (is.plan.within k table.scheme bound) in
    let primary : IsPrimaryKey (width_of s) (theory_of s) (nullable_of s) (attributes table.scheme)
    (attributes table.key) =
    subst (λ (x : AttrSet). IsPrimaryKey (width_of s) (theory_of s) (nullable_of s) (attributes x)
    (attributes table.key)) (sym made.columns) made.key in
    let others = others_fit s table inside primary table.other_keys
    (subst (λ (x : AttrSet). AreOtherKeys s (attributes x) (attributes table.key) table.other_keys)
    (sym made.columns) made.other_keys) in
    record {
      within = inside;
      some = subst (λ (x : AttrSet). IsEmpty (attributes x) → ⊥) (sym made.columns)
          (is.plan.not_empty k table.scheme bound);
      key = key_within s table inside primary;
      others = others.others;
      differ = others.differ;
      few = others.few;
    }

not_empty : (x : Attributes) → is_empty x ≡ false → IsEmpty x → ⊥
not_empty x some empty = true≢false
    (sym (is_subset-from x none (λ k member. absurd (true≢false (sym member ∙ empty k)))) ∙ some)

-- so it can be read
pub fit_readable : (s : Schema) (table : TableDesign) → IsFit s table
    → IsReadable s table
fit_readable s table fit =
    let few = fit.few in
    let stated = fewer (is_never_missing s) (known_keys table.other_keys) in record {
      key = λ some. has_column s (attributes table.key) (λ k member. fit.within k (fit.key k member))
          (not_empty (attributes table.key) some);
      others = All-filter (is_never_missing s) (HasColumn s) (known_keys table.other_keys)
          (λ i d low. has_column s (get_or (known_keys table.other_keys) i d)
          (λ k member. fit.within k ((fit.others i d low).within k member)) (fit.others i d low).some);
      limit = omega (arith, few, stated);
    }

pub some_columns : (d : Dialect) (s : Schema) (table : TableDesign) → IsFit s table
    → 0 < length (read_columns d s table)
some_columns d s table fit =
    let some = some_members (width_of s) (attributes table.scheme) fit.within fit.some in
    let same : length (read_columns d s table)
    ≡ length (members_below (width_of s) (attributes table.scheme)) =
    length-map (members_below (width_of s) (attributes table.scheme)) (read_column d s table) in
    omega (arith, some, same)
