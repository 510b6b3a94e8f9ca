-- A plan has one design, field by field: the tables of a design are settled one after the other.
use Rattle.std.proofs.Common.{◌≡◌, ◌+◌, ◌<◌, ℕ, zero, suc, List, [], ◌∷◌, ◌++◌, length, take, filter, get_or, append_assoc, append-nil, Option, Some, None, inl, inr, refl, sym, subst, ap, ◌∙◌, arith}
use Rattle.std.specs.Prelude.{IsSomeAnd, slice_get, is_some, not, Vec}
use Rattle.std.specs.declared.alloc.Global.{Global}
use Rattle.attr_sets.specs.Attributes.{Attributes, IsEmpty, IsSubset}
use Rattle.attr_sets.specs.Sets.{attributes, is_same}
use Rattle.attr_sets.specs.declared.set.AttrSet.{AttrSet}
use Rattle.attr_sets.specs.declared.set.TheConstants.{MOST_ATTRIBUTES}
use Rattle.attr_sets.proofs.AttributesLemmas.{attributes_below}
use Rattle.dep_model.specs.Plans.{schemes_of}
use Rattle.schema_model.specs.Schemas.{width_of, theory_of, nullable_of}
use Rattle.schema_model.specs.Schemas.{Schema}
use Rattle.primary_keys.specs.PrimaryKeys.{IsPrimaryKey}
use Rattle.primary_keys.proofs.PrimaryLemmas.{one_primary_below}
use Rattle.ddl_text.specs.Designs.{RefersTo, without_key, AreListedBeside, IsBeyondListing, AreOtherKeys, known_keys, IsTableOf, IsDesign}
use Rattle.ddl_text.specs.declared.table.TableDesign.{TableDesign}
use Rattle.design_order.specs.Order.{IsInDesignOrder}
use Rattle.design_order.proofs.OrderLemmas.{one_order}
use Rattle.split_forms.proofs.StepLemmas.{cons-head, cons-tail}
use Rattle.table_names.specs.TableNames.{GivenNames, name_of_table}
use Rattle.sql_check_laws.proofs.EachLemmas.{filter-map}
use Rattle.implication_laws.proofs.OneAnswer.{all_or_many}
use Rattle.implication_laws.proofs.OneKey.{one_keys}
use Rattle.dep_model.proofs.OrderedLists.{HoldsAll, one_ordered_list}
use Rattle.desk_designs.specs.Designs.{IsSoundDesign}
use Rattle.plan_laws.specs.SameDesigns.{IsSameTable, AreSameTables}

-- ---- tables that are the same
table_back : (one other : TableDesign) → IsSameTable one other → IsSameTable other one
table_back one other same = record {
  number = sym same.number;
  name = sym same.name;
  columns = sym same.columns;
  key = sym same.key;
  other_keys = sym same.other_keys;
  are_known = sym same.are_known;
  references = sym same.references;
}

pub tables_back : (one other : List TableDesign) → AreSameTables one other → AreSameTables other one
tables_back [] [] same = tt
tables_back [] (u ∷ us) same = absurd same
tables_back (t ∷ ts) [] same = absurd same
tables_back (t ∷ ts) (u ∷ us) same = (table_back t u same.0, tables_back ts us same.1)

one_more : (one other : List TableDesign) (t u : TableDesign) → AreSameTables one other → IsSameTable t u
    → AreSameTables (one ++ t ∷ []) (other ++ u ∷ [])
one_more [] [] t u same last = (last, tt)
one_more [] (w ∷ ws) t u same last = absurd same
one_more (v ∷ vs) [] t u same last = absurd same
one_more (v ∷ vs) (w ∷ ws) t u same last = (same.0, one_more vs ws t u same.1 last)

pub as_many : (one other : List TableDesign) → AreSameTables one other → length one ≡ length other
as_many [] [] same = refl
as_many [] (u ∷ us) same = absurd same
as_many (t ∷ ts) [] same = absurd same
as_many (t ∷ ts) (u ∷ us) same = ap (λ (k : ℕ). suc k) (as_many ts us same.1)

-- what is said of the table at a position is said of the other there
pub some_there : (P Q : TableDesign → Type 0) → ((t u : TableDesign) → IsSameTable t u → P t → Q u)
    → (one other : List TableDesign) → AreSameTables one other → (j : ℕ) → IsSomeAnd (slice_get one j) P
    → IsSomeAnd (slice_get other j) Q
some_there P Q moves [] [] same j has = absurd has
some_there P Q moves [] (u ∷ us) same j has = absurd same
some_there P Q moves (t ∷ ts) [] same j has = absurd same
some_there P Q moves (t ∷ ts) (u ∷ us) same zero has = moves t u same.0 has
some_there P Q moves (t ∷ ts) (u ∷ us) same (suc j) has = some_there P Q moves ts us same.1 j has

refers_there : (x y : Attributes) → x ≡ y → (t u : TableDesign) → IsSameTable t u → RefersTo x t → RefersTo y u
refers_there x y at t u same refers = record {
  not_empty = λ empty. refers.not_empty (subst IsEmpty (sym same.key) empty);
  within = subst (λ (key : Attributes). IsSubset key y) same.key
      (subst (λ (z : Attributes). IsSubset (attributes t.key) z) at refers.within);
}

-- ---- other keys
-- a list without a key rests on the sets alone
without_same : (key : Attributes) (one other : List AttrSet) → schemes_of one ≡ schemes_of other
    → schemes_of (without_key key one) ≡ schemes_of (without_key key other)
without_same key one other same =
    sym (filter-map (λ (k : Attributes). not (is_same k key)) attributes one)
    ∙ ap (filter (λ (k : Attributes). not (is_same k key))) same
    ∙ filter-map (λ (k : Attributes). not (is_same k key)) attributes other

one_listing : (s : Schema) (scheme key : Attributes) (one other : List AttrSet) → AreListedBeside s scheme key one
    → AreListedBeside s scheme key other → schemes_of one ≡ schemes_of other
one_listing s scheme key one other first second =
    let all = first.all in
    let also = second.all in
    ap schemes_of all.3 ∙ without_same key all.0 also.0 (one_keys (width_of s) (theory_of s) scheme all.0 also.0 all.1 also.1)
    ∙ sym (ap schemes_of also.3)

listed_or_beyond : (s : Schema) (scheme key : Attributes) (keys : List AttrSet) → AreListedBeside s scheme key keys → IsBeyondListing s scheme → ⊥
listed_or_beyond s scheme key keys listed (inl wide) = listed.narrow wide
listed_or_beyond s scheme key keys listed (inr (found, many)) =
    let all = listed.all in
    all_or_many (width_of s) (theory_of s) scheme all.0 found all.1 all.2 many

one_list_beside : (s : Schema) (scheme key : Attributes) (one other : Option (Vec AttrSet Global)) → AreOtherKeys s scheme key one
    → AreOtherKeys s scheme key other → (known_keys one ≡ known_keys other) × (is_some one ≡ is_some other)
one_list_beside s scheme key None None first second = (refl, refl)
one_list_beside s scheme key None (Some keys) first (inl only) = absurd (first.0 only.0)
one_list_beside s scheme key None (Some keys) first (inr listed) = absurd (listed_or_beyond s scheme key keys.items listed first.1)
one_list_beside s scheme key (Some keys) None (inl only) second = absurd (second.0 only.0)
one_list_beside s scheme key (Some keys) None (inr listed) second = absurd (listed_or_beyond s scheme key keys.items listed second.1)
one_list_beside s scheme key (Some keys) (Some others) (inl only) (inl also) = (ap schemes_of (only.1 ∙ sym also.1), refl)
one_list_beside s scheme key (Some keys) (Some others) (inl only) (inr listed) = absurd (listed.not_empty only.0)
one_list_beside s scheme key (Some keys) (Some others) (inr listed) (inl only) = absurd (listed.not_empty only.0)
one_list_beside s scheme key (Some keys) (Some others) (inr listed) (inr also) =
    (one_listing s scheme key keys.items others.items listed also, refl)

-- ---- one table after the other
-- tables of schemes, after earlier ones
abbrev DesignFrom : Schema → GivenNames → List TableDesign → List AttrSet → List TableDesign → Type 0
DesignFrom s names earlier [] [] = Unit {0}
DesignFrom s names earlier [] (t ∷ ts) = ⊥
DesignFrom s names earlier (x ∷ xs) [] = ⊥
DesignFrom s names earlier (x ∷ xs) (t ∷ ts) = IsTableOf s names earlier x t × DesignFrom s names (earlier ++ t ∷ []) xs ts

design_from : (s : Schema) (names : GivenNames) (earlier : List TableDesign) (xs : List AttrSet) (ts : List TableDesign)
    → length ts ≡ length xs
    → ((k : ℕ) → k < length xs → (x : AttrSet) (t : TableDesign)
    → IsTableOf s names (earlier ++ take k ts) (get_or xs k x) (get_or ts k t))
    → DesignFrom s names earlier xs ts
design_from s names earlier [] [] same each = tt
design_from s names earlier [] (t ∷ ts) same each = absurd (omega (arith, same))
design_from s names earlier (x ∷ xs) [] same each = absurd (omega (arith, same))
design_from s names earlier (x ∷ xs) (t ∷ ts) same each = (
  subst (λ (before : List TableDesign). IsTableOf s names before x t) (append-nil earlier) (each 0 (omega arith) x t),
  design_from s names (earlier ++ t ∷ []) xs ts (omega (arith, same))
      (λ k l y u. subst (λ (before : List TableDesign). IsTableOf s names before (get_or xs k y) (get_or ts k u))
      (sym (append_assoc earlier (t ∷ []) (take k ts))) (each (suc k) (omega (arith, l)) y u)),
)

module _ (s : Schema) (names : GivenNames) (earlier before : List TableDesign) (x y : AttrSet) (t u : TableDesign)
    (same : AreSameTables earlier before) (at : attributes x ≡ attributes y)
    (first : IsTableOf s names earlier x t) (second : IsTableOf s names before y u) where
  held : HoldsAll t.refs.items u.refs.items
  held j has =
      (second.refs.exactly j).1
      (some_there (RefersTo (attributes x)) (RefersTo (attributes y)) (refers_there (attributes x) (attributes y) at)
      earlier before same j ((first.refs.exactly j).0 has))

  held_back : HoldsAll u.refs.items t.refs.items
  held_back j has =
      (first.refs.exactly j).1
      (some_there (RefersTo (attributes y)) (RefersTo (attributes x))
      (refers_there (attributes y) (attributes x) (sym at)) before earlier (tables_back earlier before same) j
      ((second.refs.exactly j).0 has))

  same_key : attributes t.key ≡ attributes u.key
  same_key = one_primary_below MOST_ATTRIBUTES (width_of s) (theory_of s) (nullable_of s) (attributes x)
      (attributes t.key) (attributes u.key) (attributes_below x) first.key
      (subst (λ (z : Attributes). IsPrimaryKey (width_of s) (theory_of s) (nullable_of s) z (attributes u.key)) (sym at)
      second.key)

  same_others : (known_keys t.other_keys ≡ known_keys u.other_keys) × (is_some t.other_keys ≡ is_some u.other_keys)
  same_others = one_list_beside s (attributes x) (attributes t.key) t.other_keys u.other_keys first.other_keys
      (subst (λ (key : Attributes). AreOtherKeys s (attributes x) key u.other_keys) (sym same_key)
      (subst (λ (z : Attributes). AreOtherKeys s z (attributes u.key) u.other_keys) (sym at) second.other_keys))

  one_table : IsSameTable t u
  one_table = record {
    number = first.number ∙ ap (λ (k : ℕ). k + 1) (as_many earlier before same) ∙ sym second.number;
    name = first.name ∙ ap (name_of_table names) (as_many earlier before same) ∙ sym second.name;
    columns = ap attributes first.columns ∙ at ∙ sym (ap attributes second.columns);
    key = same_key;
    other_keys = same_others.0;
    are_known = same_others.1;
    references = one_ordered_list (λ (k : ℕ). Unit {0}) (λ (j k : ℕ). j < k) t.refs.items u.refs.items
        (λ j k j_is k_is there back. omega (arith, there, back)) (λ i d l. tt) (λ i d l. tt) first.refs.ascending
        second.refs.ascending held held_back;
  }

same_from : (s : Schema) (names : GivenNames) (earlier before : List TableDesign) (xs ys : List AttrSet) (ts us : List TableDesign)
    → AreSameTables earlier before → schemes_of xs ≡ schemes_of ys → DesignFrom s names earlier xs ts
    → DesignFrom s names before ys us → AreSameTables ts us
same_from s names earlier before [] [] [] [] same at first second = tt
same_from s names earlier before [] [] [] (u ∷ us) same at first second = absurd second
same_from s names earlier before [] [] (t ∷ ts) us same at first second = absurd first
same_from s names earlier before [] (y ∷ ys) ts us same at first second = absurd (omega (arith, ap length at))
same_from s names earlier before (x ∷ xs) [] ts us same at first second = absurd (omega (arith, ap length at))
same_from s names earlier before (x ∷ xs) (y ∷ ys) [] us same at first second = absurd first
same_from s names earlier before (x ∷ xs) (y ∷ ys) (t ∷ ts) [] same at first second = absurd second
same_from s names earlier before (x ∷ xs) (y ∷ ys) (t ∷ ts) (u ∷ us) same at first second =
    let heads = cons-head (attributes x) (attributes y) (schemes_of xs) (schemes_of ys) at in
    let tails = cons-tail (attributes x) (attributes y) (schemes_of xs) (schemes_of ys) at in
    let table = one_table s names earlier before x y t u same heads first.0 second.0 in (
      table,
      same_from s names (earlier ++ t ∷ []) (before ++ u ∷ []) xs ys ts us (one_more earlier before t u same table) tails
          first.1 second.1,
    )

-- ---- designs
pub one_design : (s : Schema) (names : GivenNames) (plan others : List AttrSet) (one other : List TableDesign)
    → schemes_of plan ≡ schemes_of others → IsDesign s names plan one → IsDesign s names others other → AreSameTables one other
one_design s names plan others one other at first second =
    same_from s names [] [] plan others one other tt at (design_from s names [] plan one first.one_each first.each)
    (design_from s names [] others other second.one_each second.each)

pub one_sound_design : (s : Schema) (names : GivenNames) (plan others : List AttrSet) (one other : List TableDesign)
    → schemes_of plan ≡ schemes_of others → IsSoundDesign s names plan one → IsSoundDesign s names others other
    → AreSameTables one other
one_sound_design s names plan others one other at first second =
    one_design s names first.ordered second.ordered one other
    (one_order (width_of s) (theory_of s) (schemes_of plan) (schemes_of first.ordered) (schemes_of second.ordered)
    first.order
    (subst (λ (schemes : List Attributes).
    IsInDesignOrder (width_of s) (theory_of s) schemes (schemes_of second.ordered)) (sym at) second.order))
    first.design second.design
