-- A design grows by a table, its references name earlier tables, and its keys and references hold.
use Rattle.std.proofs.Common.{◌≡◌, ◌<◌, ◌+◌, ℕ, zero, suc, List, [], ◌∷◌, ◌++◌, length, get_or, take, drop, Option, Some, refl, sym, subst, ap, ◌∙◌, ◌⊎◌, inl, inr, ⊎_elim, arith}
use Rattle.std.specs.Prelude.{All, Contains, slice_get, IsSomeAnd, None, not, Vec}
use Rattle.std.specs.declared.alloc.Global.{Global}
use Rattle.std.proofs.lemmas.Bool.{cases_lt}
use Rattle.std.proofs.lemmas.Option.{slice_get_cases, slice_get_within, slice_get-get_or, get_or_from_slice_get}
use Rattle.std.proofs.lemmas.List.{length_push, length-take-le, take-append-le, take-append-drop, get_or_append_left, take_more}
use Rattle.std.proofs.Math.Seq.{get_or-append_seam, take-append_seam}
use Rattle.std.proofs.lemmas.List.Elements.{All-weaker, All-contains, All-contains_itself, Contains-get_or, Contains-append_left, Contains-push, Contains-push_cases}
use Rattle.std.proofs.lemmas.List.Quantifiers.{all_pairs_push}
use Rattle.attr_sets.specs.declared.set.AttrSet.{AttrSet}
use Rattle.attr_sets.specs.Attributes.{Attributes, IsSubset}
use Rattle.attr_sets.specs.Sets.{attributes, is_same}
use Rattle.schema_model.specs.Schemas.{Schema}
use Rattle.dep_model.specs.Keys.{IsKey}
use Rattle.dep_model.specs.Plans.{schemes_of}
use Rattle.schema_model.specs.Schemas.{width_of, universe_of, theory_of, nullable_of}
use Rattle.dep_model.proofs.DistinctLemmas.{filter-member}
use Rattle.dep_model.proofs.ListLemmas.{map-member}
use Rattle.primary_keys.specs.PrimaryKeys.{IsPrimaryKey}
use Rattle.table_names.specs.TableNames.{GivenNames}
use Rattle.ddl_text.specs.declared.table.TableDesign.{TableDesign}
use Rattle.ddl_text.specs.Designs.{RefersTo, AreReferences, AreOtherKeys, keyed, known_keys, IsTableOf, IsDesign, ReferToEarlier}
use Rattle.ddl_text.specs.Laws.{KeysHold, OtherKeysHold, ReferencesHold}
use Rattle.ddl_text.proofs.KeyReferenceLemmas.{key_holds, is_key_holds, reference_holds}

-- ---- lists
get_in_front : {X : Type 0} (xs ys : List X) (j : ℕ) → j < length xs → slice_get (xs ++ ys) j ≡ slice_get xs j
get_in_front [] ys j lt = absurd (omega arith)
get_in_front (x ∷ xs) ys zero lt = refl
get_in_front (x ∷ xs) ys (suc j) lt = get_in_front xs ys j (omega (arith, lt))

get_after : {X : Type 0} (xs : List X) (x : X) → slice_get (xs ++ x ∷ []) (length xs) ≡ Some x
get_after [] x = refl
get_after (y ∷ xs) x = get_after xs x

-- ---- references
-- the table at a position is one that a scheme refers to
abbrev RefersAt : Attributes → List TableDesign → ℕ → Type 0
RefersAt scheme tables j = IsSomeAnd (slice_get tables j) (RefersTo scheme)

abbrev IsReferred : Attributes → Option TableDesign → Type 0
IsReferred scheme found = IsSomeAnd found (RefersTo scheme)

refers_within : (scheme : Attributes) (tables : List TableDesign) (j : ℕ) → RefersAt scheme tables j → j < length tables
refers_within scheme tables j refers = ⊎_elim
    (λ found. found.1)
    (λ past. absurd (subst (IsReferred scheme) past.1 refers))
    (slice_get_cases tables j).1

refers_in_front : (scheme : Attributes) (tables more : List TableDesign) (j : ℕ) → RefersAt scheme tables j
    → RefersAt scheme (tables ++ more) j
refers_in_front scheme tables more j refers =
    subst (IsReferred scheme) (sym (get_in_front tables more j (refers_within scheme tables j refers))) refers

refers_last : (scheme : Attributes) (tables : List TableDesign) (table : TableDesign) → RefersTo scheme table
    → RefersAt scheme (tables ++ table ∷ []) (length tables)
refers_last scheme tables table refers = subst (IsReferred scheme) (sym (get_after tables table)) refers

-- of the tables and one more, one of the former or the latter
refers_cases : (scheme : Attributes) (tables : List TableDesign) (table : TableDesign) (j : ℕ)
    → RefersAt scheme (tables ++ table ∷ []) j
    → RefersAt scheme tables j ⊎ ((j ≡ length tables) × RefersTo scheme table)
refers_cases scheme tables table j refers = elim (cases_lt j (length tables)) [
  | inl before ↦ inl (subst (IsReferred scheme) (get_in_front tables (table ∷ []) j before) refers)
  | inr from_on ↦
      let within = refers_within scheme (tables ++ table ∷ []) j refers in
      let same : j ≡ length tables = omega (arith, from_on, within, length_push tables table) in
      inr (
        same,
        subst (IsReferred scheme) (ap (λ (i : ℕ). slice_get (tables ++ table ∷ []) i) same
            ∙ get_after tables table) refers,
      )
]

references_push : (tables : List TableDesign) (table : TableDesign) (scheme : Attributes) (refs : List ℕ)
    → AreReferences tables scheme refs → RefersTo scheme table
    → AreReferences (tables ++ table ∷ []) scheme (refs ++ length tables ∷ [])
references_push tables table scheme refs are refers = record {
  exactly = λ j. (to j, from j);
  ascending = all_pairs_push (λ (i j : ℕ). i < j) refs (length tables) are.ascending
      (λ k d lt. refers_within scheme tables (get_or refs k d)
      ((are.exactly (get_or refs k d)).0 (Contains-get_or refs k d lt)));
}
  where
    to : (j : ℕ) → Contains (refs ++ length tables ∷ []) j → RefersAt scheme (tables ++ table ∷ []) j
    to j has = ⊎_elim
        (λ old. refers_in_front scheme tables (table ∷ []) j ((are.exactly j).0 old))
        (λ last. subst (RefersAt scheme (tables ++ table ∷ [])) last (refers_last scheme tables table refers))
        (Contains-push_cases refs (length tables) j has)

    from : (j : ℕ) → RefersAt scheme (tables ++ table ∷ []) j → Contains (refs ++ length tables ∷ []) j
    from j there = ⊎_elim
        (λ old. Contains-append_left refs (length tables ∷ []) j ((are.exactly j).1 old))
        (λ last. subst (λ (i : ℕ). Contains (refs ++ length tables ∷ []) i) (sym last.0)
        (Contains-push refs (length tables)))
        (refers_cases scheme tables table j there)

references_same : (tables : List TableDesign) (table : TableDesign) (scheme : Attributes) (refs : List ℕ)
    → AreReferences tables scheme refs → (RefersTo scheme table → ⊥)
    → AreReferences (tables ++ table ∷ []) scheme refs
references_same tables table scheme refs are not = record {
  exactly = λ j. (
    λ has. refers_in_front scheme tables (table ∷ []) j ((are.exactly j).0 has),
    λ there. ⊎_elim (λ old. (are.exactly j).1 old) (λ last. absurd (not last.1))
        (refers_cases scheme tables table j there),
  );
  ascending = are.ascending;
}

-- the tables before a position and the one that is there
pub references_more : (tables : List TableDesign) (i : ℕ) (d : TableDesign) (scheme : Attributes) (refs : List ℕ)
    → i < length tables → AreReferences (take i tables) scheme refs
    → RefersTo scheme (get_or tables i d) → AreReferences (take (i + 1) tables) scheme (refs ++ i ∷ [])
references_more tables i d scheme refs lt are refers =
    let long : length (take i tables) ≡ i = length-take-le i tables (omega (arith, lt)) in
    rw (take_more tables i d lt) (subst (λ (n : ℕ). AreReferences (take i tables ++ get_or tables i d ∷ []) scheme
    (refs ++ n ∷ [])) long
    (references_push (take i tables) (get_or tables i d) scheme refs are refers))

pub references_passed : (tables : List TableDesign) (i : ℕ) (d : TableDesign) (scheme : Attributes) (refs : List ℕ)
    → i < length tables → AreReferences (take i tables) scheme refs
    → (RefersTo scheme (get_or tables i d) → ⊥) → AreReferences (take (i + 1) tables) scheme refs
references_passed tables i d scheme refs lt are not = rw (take_more tables i d lt)
    (references_same (take i tables) (get_or tables i d) scheme refs are not)

-- ---- tables

design_push : (s : Schema) (names : GivenNames) (schemes : List AttrSet) (tables : List TableDesign) (scheme : AttrSet)
    (table : TableDesign) → IsDesign s names schemes tables → IsTableOf s names tables scheme table
    → IsDesign s names (schemes ++ scheme ∷ []) (tables ++ table ∷ [])
design_push s names schemes tables scheme table design last = record {
  one_each = omega (arith, length_push tables table, length_push schemes scheme, design.one_each);
  each = λ k lt d t. elim (cases_lt k (length schemes)) [
    | inl before ↦
        let after : k < length tables = omega (arith, before, design.one_each) in
        rw (
          take-append-le k tables (table ∷ []) (omega (arith, after)),
          get_or_append_left schemes (scheme ∷ []) d
              k before,
          get_or_append_left tables (table ∷ []) t k after,
        )
        (design.each k before d t)
    | inr from_on ↦
        let at_end : k ≡ length schemes = omega (arith, from_on, lt, length_push schemes scheme) in
        let also : k ≡ length tables = omega (arith, at_end, design.one_each) in
        rw (
          ap (λ (i : ℕ). take i (tables ++ table ∷ [])) also ∙ take-append_seam tables (table ∷ []),
          ap (λ (i : ℕ). get_or (schemes ++ scheme ∷ []) i d) at_end ∙ get_or-append_seam schemes scheme [] d,
          ap (λ (i : ℕ). get_or (tables ++ table ∷ []) i t) also ∙ get_or-append_seam tables table [] t,
        ) last
  ];
}

-- the schemes before a position and the one that is there
pub design_more : (s : Schema) (names : GivenNames) (schemes : List AttrSet) (i : ℕ) (d : AttrSet) (tables : List TableDesign)
    (table : TableDesign) → i < length schemes → IsDesign s names (take i schemes) tables
    → IsTableOf s names tables (get_or schemes i d) table → IsDesign s names (take (i + 1) schemes) (tables ++ table ∷ [])
design_more s names schemes i d tables table lt design last = rw (take_more schemes i d lt)
    (design_push s names (take i schemes) tables (get_or schemes i d) table design last)

-- ---- other keys
pub other_key : (s : Schema) (scheme key : Attributes) (others : Option (Vec AttrSet Global)) (k : Attributes)
    → AreOtherKeys s scheme key others → Contains (known_keys others) k → IsKey (width_of s) (theory_of s) scheme k
other_key s scheme key None k are has = absurd (omega (arith, has.1))
other_key s scheme key (Some keys) k (inl only) has =
    absurd (let none = subst (λ (ks : List AttrSet). Contains (schemes_of ks) k) only.1 has in omega (arith, none.1))
other_key s scheme key (Some keys) k (inr listed) has =
    let all = listed.all in
    let from = map-member attributes keys.items k has in
    let at = filter-member (λ (j : AttrSet). not (is_same (attributes j) key)) all.0 from.0
    (subst (λ (ks : List AttrSet). Contains ks from.0) all.3 from.1) in
    subst (IsKey (width_of s) (theory_of s) scheme) from.2
    (All-contains (λ (j : AttrSet). IsKey (width_of s) (theory_of s) scheme (attributes j)) all.0 from.0 all.1.each at.0)

-- ---- each table of a design
pub table_at : (s : Schema) (names : GivenNames) (schemes : List AttrSet) (tables : List TableDesign) (k : ℕ) (table : TableDesign)
    → IsDesign s names schemes tables → slice_get tables k ≡ Some table
    → IsTableOf s names (take k tables) (get_or schemes k table.scheme) table
table_at s names schemes tables k table design at =
    let lt = slice_get_within tables k table at in
    subst (λ (t : TableDesign). IsTableOf s names (take k tables) (get_or schemes k table.scheme) t)
    (get_or_from_slice_get tables k table table at)
    (design.each k (omega (arith, lt, design.one_each)) table.scheme table)

pub design_earlier : (s : Schema) (names : GivenNames) (schemes : List AttrSet) (tables : List TableDesign) → IsDesign s names schemes tables
    → ReferToEarlier tables
design_earlier s names schemes tables design k table at =
    let refs = table.refs.items in
    let is = table_at s names schemes tables k table design at in
    let long : length (take k tables) ≡ k = length-take-le k tables
    (omega (arith, slice_get_within tables k table at)) in
    All-weaker (Contains refs) (λ (j : ℕ). j < k)
    (λ j has. omega (
      arith,
      refers_within (attributes (get_or schemes k table.scheme)) (take k tables) j
          ((is.refs.exactly j).0 has),
      long,
    ))
    refs (All-contains_itself refs)

pub slice_get-member : {X : Type 0} (xs : List X) (x : X) (has : Contains xs x) → slice_get xs has.0 ≡ Some x
slice_get-member xs x has = slice_get-get_or xs has.0 x has.1 ∙ ap Some has.2

pub design_keys : (s : Schema) (names : GivenNames) (schemes : List AttrSet) (tables : List TableDesign) → IsDesign s names schemes tables
    → All (λ (scheme : AttrSet). IsSubset (attributes scheme) (universe_of s)) schemes → KeysHold s tables
design_keys s names schemes tables design within missing r legal table has =
    let is = table_at s names schemes tables has.0 table design (slice_get-member tables table has) in
    let inside = within has.0 table.scheme (omega (arith, has.1, design.one_each)) in
    key_holds (width_of s) (theory_of s) (nullable_of s) missing (keyed table) r
    (subst (λ (x : AttrSet). IsSubset (attributes x) (universe_of s)) (sym is.columns) inside) legal
    (subst (λ (x : AttrSet). IsPrimaryKey (width_of s) (theory_of s) (nullable_of s) (attributes x)
    (attributes table.key)) (sym is.columns) is.key)

pub design_other_keys : (s : Schema) (names : GivenNames) (schemes : List AttrSet) (tables : List TableDesign) → IsDesign s names schemes tables → OtherKeysHold s tables
design_other_keys s names schemes tables design missing r legal table has key named =
    let is = table_at s names schemes tables has.0 table design (slice_get-member tables table has) in
    let is_key = other_key s (attributes (get_or schemes has.0 table.scheme)) (attributes table.key) table.other_keys key is.other_keys named in
    is_key_holds (width_of s) (theory_of s) missing (keyed table) key r legal
    (subst (λ (x : AttrSet). IsKey (width_of s) (theory_of s) (attributes x) key) (sym is.columns) is_key)

-- the table that a reference names
pub referred_table : (scheme : Attributes) (tables : List TableDesign) (k j : ℕ) (other : TableDesign)
    → RefersAt scheme (take k tables) j → slice_get tables j ≡ Some other → RefersTo scheme other
referred_table scheme tables k j other refers at =
    let lt = refers_within scheme (take k tables) j refers in
    let same : slice_get (take k tables) j ≡ Some other =
    sym (get_in_front (take k tables) (drop k tables) j lt)
    ∙ ap (λ (ts : List TableDesign). slice_get ts j) (take-append-drop k tables) ∙ at in
    subst (IsReferred scheme) same refers

pub design_references : (s : Schema) (names : GivenNames) (schemes : List AttrSet) (tables : List TableDesign)
    → IsDesign s names schemes tables → ReferencesHold s tables
design_references s names schemes tables design missing r legal table other j has named at =
    let is = table_at s names schemes tables has.0 table design (slice_get-member tables table has) in
    let other_is = table_at s names schemes tables j other design at in
    let refers = referred_table (attributes (get_or schemes has.0 table.scheme)) tables has.0 j other
    ((is.refs.exactly j).0 named) at in
    reference_holds missing (keyed table) (keyed other) r
    (subst (λ (x : AttrSet). IsSubset (attributes other.key) (attributes x)) (sym is.columns) refers.within)
    (subst (λ (x : AttrSet). IsSubset (attributes other.key) (attributes x)) (sym other_is.columns)
    (λ k member. other_is.key.nullable_first.within k (other_is.key.others_next.within k member)))
