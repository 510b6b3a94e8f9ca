-- The places of attributes among the columns of a table: those of a set, and that of the column of a name.
use Rattle.std.proofs.Common.{◌≡◌, ◌<◌, ◌≤◌, ◌==◌, ℕ, zero, suc, inl, inr, Bool, true, false, cond, All, AllPairs, List, [], map, length, get_or, refl, sym, ap, subst, ◌∙◌, arith, Option, Some, None}
use Rattle.std.specs.Prelude.{nat_lt, position, slice_get, slice_index_or}
use Rattle.std.specs.List.{list_any, position_or_len}
use Rattle.std.proofs.lemmas.Bool.{cases_Bool, cases_lt, false_from_ne_true, true≢false}
use Rattle.std.proofs.lemmas.Bool.Decides.{nat_tests}
use Rattle.std.proofs.lemmas.List.{get_or-map, length-map}
use Rattle.std.proofs.lemmas.List.Elements.{All-nil, All-push, All-weaker}
use Rattle.std.proofs.lemmas.List.Folds.{list_any_at, list_any_none}
use Rattle.std.proofs.lemmas.List.Quantifiers.{all_pairs_push}
use Rattle.std.proofs.lemmas.List.Sums.{position_or_len_is}
use Rattle.std.proofs.lemmas.Option.{slice_get-get_or, slice_get_cases}
use Rattle.attr_sets.proofs.AttributesLemmas.{count_below-before_member, count_below-le, is_same-true, is_subset-from, is_subset-true}
use Rattle.attr_sets.specs.Attributes.{Attributes, Disjoint, IsSubset, below, count_below}
use Rattle.attr_sets.specs.Sets.{is_same, is_subset}
use Rattle.attr_sets.specs.declared.set.TheConstants.{MOST_ATTRIBUTES}
use Rattle.dep_model.proofs.SchemeLemmas.{length-members_below, members_below-at, members_below-member, members_below-none, members_below-outside}
use Rattle.schema_model.specs.Names.{same_name}
use Rattle.dep_model.specs.Projections.{members_below}
use Rattle.schema_model.specs.Schemas.{names_of, width_of}
use Rattle.schema_model.specs.Schemas.{Schema}
use Rattle.sql_lexemes.specs.declared.dialect.Dialect.{Dialect}
use Rattle.sql_definitions.specs.Facts.{StatedColumn}
use Rattle.import_laws.specs.ImportedTables.{has, places_in}
use Rattle.ddl_text.specs.declared.table.TableDesign.{TableDesign}
use Rattle.import_laws.specs.ReadTables.{read_column}
use Rattle.import_laws.proofs.StatementLemmas.{same_itself}

-- ---- the members of a set, ascending
pub record IsMember (n : ℕ) (x : Attributes) (k : ℕ) : Type 0 where
  pub low : k < n
  pub inside : x k ≡ true

pub members_are : (n : ℕ) (x : Attributes) → All (IsMember n x) (members_below n x)
members_are zero x = subst (All (IsMember 0 x)) (sym (members_below-none x)) (All-nil (IsMember 0 x))
members_are (suc n) x =
    let wider = All-weaker (IsMember n x) (IsMember (suc n) x)
    (λ k is. let low = is.low in record { low = omega (arith, low); inside = is.inside }) (members_below n x)
    (members_are n x) in
    elim (cases_Bool (x n)) [
      | inl inside ↦ subst (All (IsMember (suc n) x)) (sym (members_below-member n x inside))
          (All-push (IsMember (suc n) x) (members_below n x) n wider (record { low = omega arith; inside = inside }))
      | inr outside ↦ subst (All (IsMember (suc n) x)) (sym (members_below-outside n x outside)) wider
    ]

members_rise : (n : ℕ) (x : Attributes) → AllPairs ◌<◌ (members_below n x)
members_rise zero x = subst (AllPairs ◌<◌) (sym (members_below-none x))
    (λ i j d less low. absurd (omega (arith, low)))
members_rise (suc n) x =
    elim (cases_Bool (x n)) [
      | inl inside ↦ subst (AllPairs ◌<◌) (sym (members_below-member n x inside))
          (all_pairs_push ◌<◌ (members_below n x) n (members_rise n x) (λ k d low. (members_are n x k d low).low))
      | inr outside ↦ subst (AllPairs ◌<◌) (sym (members_below-outside n x outside)) (members_rise n x)
    ]

-- ---- places
module _ (n : ℕ) (scheme : Attributes) where
  -- a member has a place, where it stands
  pub place_low : (a : ℕ) → IsMember n scheme a → count_below scheme a < length (members_below n scheme)
  place_low a is =
      let size = length-members_below n scheme in
      let less = count_below-before_member n a scheme is.low is.inside in omega (arith, size, less)

  pub place_at : (a : ℕ) → IsMember n scheme a → slice_get (members_below n scheme) (count_below scheme a) ≡ Some a
  place_at a is =
      slice_get-get_or (members_below n scheme) (count_below scheme a) 0 (place_low a is)
      ∙ ap Some (members_below-at n scheme a 0 is.low is.inside)

  -- what stands at a place has that place
  pub at_place : (j b : ℕ) → j < length (members_below n scheme) → get_or (members_below n scheme) j b ≡ b
      → IsMember n scheme b × (count_below scheme b ≡ j)
  at_place j b low here =
      let is : IsMember n scheme b = subst (IsMember n scheme) here (members_are n scheme j b low) in
      let other = place_low b is in
      let there = members_below-at n scheme b b is.low is.inside in (
        is,
        elim (cases_lt (count_below scheme b) j) [
          | inl before ↦
              let rise = members_rise n scheme (count_below scheme b) j b before low in
              absurd (omega (arith, rise, here, there))
          | inr from ↦ elim (cases_lt j (count_below scheme b)) [
            | inl after ↦
                let rise = members_rise n scheme j (count_below scheme b) b after other in
                absurd (omega (arith, rise, here, there))
            | inr upto ↦ omega (arith, from, upto)
          ]
        ],
      )

  -- the places of a set are those of its members
  pub places_any : (x : Attributes) → IsSubset x scheme → IsSubset x (below n) → (j : ℕ)
      → list_any (λ a. j == count_below scheme a) (members_below n x) ≡ places_in (members_below n scheme) x j
  places_any x within limit j = elim (slice_get_cases (members_below n scheme) j).1 [
    | inl found ↦ by_member found.0 found.1 found.2 found.3
    | inr past ↦
        list_any_none (λ a. j == count_below scheme a) (members_below n x)
        (All-weaker (IsMember n x) (λ a. (j == count_below scheme a) ≡ false)
        (λ a is. let low = place_low a (record { low = is.low; inside = within a is.inside }) in
        let far = past.0 in grind (arith, nat_tests, low, far)) (members_below n x) (members_are n x))
        ∙ ap (has x) (sym past.1)
  ]
    where
      by_member : (b : ℕ) → j < length (members_below n scheme) → slice_get (members_below n scheme) j ≡ Some b
          → get_or (members_below n scheme) j b ≡ b
          → list_any (λ a. j == count_below scheme a) (members_below n x)
          ≡ has x (slice_get (members_below n scheme) j)
      by_member b low found here =
          let (is, place) = at_place j b low here in
          elim (cases_Bool (x b)) [
            | inl member ↦
                let size = length-members_below n x in
                let less = count_below-before_member n b x is.low member in
                let at = members_below-at n x b 0 is.low member in
                let bound : count_below x b < length (members_below n x) = omega (arith, size, less) in
                let same : (j == count_below scheme (get_or (members_below n x) (count_below x b) 0)) ≡ true =
                ap (λ (a : ℕ). j == count_below scheme a) at ∙ grind (arith, nat_tests, place) in
                list_any_at (λ a. j == count_below scheme a) (members_below n x) (count_below x b) 0 bound same
                ∙ sym (ap (has x) found ∙ member)
            | inr outside ↦
                list_any_none (λ a. j == count_below scheme a) (members_below n x)
                (All-weaker (IsMember n x) (λ a. (j == count_below scheme a) ≡ false)
                (λ a m. false_from_ne_true (j == count_below scheme a) (λ same.
                let equal : count_below scheme a ≡ j = grind (arith, nat_tests, same) in
                let at = members_below-at n scheme a b m.low (within a m.inside) in
                let there : get_or (members_below n scheme) j b ≡ a =
                subst (λ (i : ℕ). get_or (members_below n scheme) i b ≡ a) equal at in
                true≢false (sym m.inside ∙ ap x (sym there ∙ here) ∙ outside)))
                (members_below n x) (members_are n x))
                ∙ sym (ap (has x) found ∙ outside)
          ]

  -- a set by its places
  pub placed : (x : Attributes) (a : ℕ) → IsMember n scheme a
      → places_in (members_below n scheme) x (count_below scheme a) ≡ x a
  placed x a is = ap (has x) (place_at a is)

  pub places_within : (x : Attributes) → n ≤ MOST_ATTRIBUTES
      → IsSubset (places_in (members_below n scheme) x) (below MOST_ATTRIBUTES)
  places_within x few j member = elim (slice_get_cases (members_below n scheme) j).1 [
    | inl found ↦
        let (is, place) = at_place j found.0 found.1 found.3 in
        let low = found.1 in
        let size = length-members_below n scheme in
        let less = count_below-le n scheme in grind (arith, nat_tests, low, size, less, few)
    | inr past ↦ absurd (true≢false (sym member ∙ ap (has x) past.1))
  ]

  -- different sets have different places
  pub places_apart : (x y : Attributes) → n ≤ MOST_ATTRIBUTES → IsSubset scheme (below n) → IsSubset x scheme
      → IsSubset y scheme
      → (x ≡ y → ⊥) → is_same (places_in (members_below n scheme) x) (places_in (members_below n scheme) y) ≡ false
  places_apart x y few limit in_x in_y differ =
      false_from_ne_true (is_same (places_in (members_below n scheme) x) (places_in (members_below n scheme) y))
      (λ same.
      differ (equal (is_same-true (places_in (members_below n scheme) x) (places_in (members_below n scheme) y)
      (places_within x few) (places_within y few) same)))
    where
      one : places_in (members_below n scheme) x ≡ places_in (members_below n scheme) y → (a : ℕ) → x a ≡ y a
      one same a = elim (cases_Bool (scheme a)) [
        | inl inside ↦
            let is : IsMember n scheme a =
            record { low = grind (arith, nat_tests, limit a inside); inside = inside } in
            sym (placed x a is) ∙ ap (λ (z : Attributes). z (count_below scheme a)) same ∙ placed y a is
        | inr outside ↦
            let no_x : x a ≡ false = false_from_ne_true (x a) (λ m. true≢false (sym (in_x a m) ∙ outside)) in
            let no_y : y a ≡ false = false_from_ne_true (y a) (λ m. true≢false (sym (in_y a m) ∙ outside)) in
            no_x ∙ sym no_y
      ]

      equal : places_in (members_below n scheme) x ≡ places_in (members_below n scheme) y → x ≡ y
      equal same = λ i a. one same a i

  -- sets without a common attribute have no common place
  pub places_disjoint : (x y : Attributes) → Disjoint x y
      → Disjoint (places_in (members_below n scheme) x) (places_in (members_below n scheme) y)
  places_disjoint x y apart j = by_column (slice_get (members_below n scheme) j)
    where
      by_column : (o : Option ℕ) → has x o ≡ true → has y o ≡ false
      by_column None member = refl
      by_column (Some b) member = apart b member

  -- a set has all columns exactly where its places are all places
  pub all_places : (x : Attributes) → n ≤ MOST_ATTRIBUTES → IsSubset scheme (below n)
      → is_subset (below (length (members_below n scheme))) (places_in (members_below n scheme) x)
      ≡ is_subset scheme x
  all_places x few limit = elim (cases_Bool (is_subset scheme x)) [
    | inl all ↦
        let whole = is_subset-true scheme x (λ k m. narrow k (limit k m)) all in
        is_subset-from (below (length (members_below n scheme))) (places_in (members_below n scheme) x) (λ j low.
        elim (slice_get_cases (members_below n scheme) j).1 [
          | inl found ↦
              let (is, place) = at_place j found.0 found.1 found.3 in ap (has x) found.2 ∙ whole found.0 is.inside
          | inr past ↦ let far = past.0 in absurd (grind (arith, nat_tests, low, far))
        ]) ∙ sym all
    | inr some ↦
        false_from_ne_true (is_subset (below (length (members_below n scheme)))
        (places_in (members_below n scheme) x)) (λ every.
        let whole = is_subset-true (below (length (members_below n scheme)))
        (places_in (members_below n scheme) x) wide every in
        true≢false (sym (is_subset-from scheme x (λ a inside.
        let is : IsMember n scheme a = record { low = grind (arith, nat_tests, limit a inside); inside = inside } in
        let low = place_low a is in
        sym (placed x a is) ∙ whole (count_below scheme a) (grind (arith, nat_tests, low)))) ∙ some)) ∙ sym some
  ]
    where
      narrow : (k : ℕ) → below n k ≡ true → below MOST_ATTRIBUTES k ≡ true
      narrow k low = grind (arith, nat_tests, low, few)

      wide : IsSubset (below (length (members_below n scheme))) (below MOST_ATTRIBUTES)
      wide k low =
          let size = length-members_below n scheme in
          let less = count_below-le n scheme in grind (arith, nat_tests, low, size, less, few)

-- ---- the column of a name
pub column_found : (d : Dialect) (s : Schema) (table : TableDesign) (scheme : Attributes) (a : ℕ) → IsMember (width_of s) scheme a
    → position (λ (c : StatedColumn). same_name c.name (slice_index_or (names_of s) a []))
    (map (read_column d s table) (members_below (width_of s) scheme))
    ≡ Some (count_below scheme a)
column_found d s table scheme a is =
    let yes : nat_lt place (length columns) ≡ true = grind (arith, nat_tests, low) in
    ap (λ (i : ℕ). cond (nat_lt i (length columns)) (Some i) None) first
    ∙ ap (λ (b : Bool). cond b (Some place) None) yes
  where
    members : List ℕ
    members = members_below (width_of s) scheme

    columns : List StatedColumn
    columns = map (read_column d s table) members

    place : ℕ
    place = count_below scheme a

    test : StatedColumn → Bool
    test c = same_name c.name (slice_index_or (names_of s) a [])

    bound : place < length members
    bound = place_low (width_of s) scheme a is

    low : place < length columns
    low = let size = length-map members (read_column d s table) in omega (arith, bound, size)

    at : get_or members place a ≡ a
    at = members_below-at (width_of s) scheme a a is.low is.inside

    got : (k : ℕ) → k < length members
        → test (get_or columns k (read_column d s table a))
        ≡ same_name (slice_index_or (names_of s) (get_or members k a) []) (slice_index_or (names_of s) a [])
    got k less = ap test (get_or-map (read_column d s table) members k a (read_column d s table a) less)

    first : position_or_len test columns ≡ place
    first =
        position_or_len_is test columns place (read_column d s table a) (omega (arith, low))
        (λ k before. got k (omega (arith, before, bound))
        ∙ s.valid.names_differ (get_or members k a) a [] (earlier k before) is.low)
        (λ within. got place bound ∙ ap
        (λ (b : ℕ). same_name (slice_index_or (names_of s) b []) (slice_index_or (names_of s) a [])) at
        ∙ same_itself (slice_index_or (names_of s) a []))
      where
        earlier : (k : ℕ) → k < place → get_or members k a < a
        earlier k before =
            let rise = members_rise (width_of s) scheme k place a before bound in omega (arith, rise, at)
