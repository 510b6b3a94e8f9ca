-- What is read back from the tables of legal rows are the rows; and where no table is optional, the natural join.
use Rattle.std.proofs.Common.{inl, inr, ◌≡◌, ◌<◌, ◌≤◌, ◌⊎◌, ◌↔◌, ℕ, Bool, true, false, List, [], ◌∷◌, length, map, refl, sym, subst, ◌∙◌, arith}
use Rattle.std.proofs.lemmas.Bool.{cases_Bool, cases_lt, true≢false}
use Rattle.std.proofs.lemmas.List.{get_or_past}
use Rattle.std.proofs.lemmas.List.Elements.{All-contains, All-head, All-tail}
use Rattle.std.specs.List.{AllZip}
use Rattle.std.specs.Prelude.{All, Contains}
use Rattle.attr_sets.specs.Attributes.{Attributes}
use Rattle.attr_sets.specs.Sets.{attributes}
use Rattle.dep_model.specs.Dependencies.{Dependency}
use Rattle.dep_model.specs.Implication.{IsLegal}
use Rattle.dep_model.specs.Projections.{project_tuple, Covers, InJoin}
use Rattle.dep_model.specs.Tuples.{Tuple, Relation, value_at}
use Rattle.dep_model.proofs.JoinLemmas.{project_tuple-same}
use Rattle.dep_model.proofs.ListLemmas.{map-member, Contains-nil, Contains-head, Contains-later, Contains-cases}
use Rattle.dep_model.proofs.SchemeLemmas.{project_tuple-whole}
use Rattle.optional_tables.specs.declared.keyed.KeyedScheme.{KeyedScheme}
use Rattle.optional_tables.specs.Homes.{is_optional}
use Rattle.optional_tables.specs.Order.{always_filled, look_up_order, members_at}
use Rattle.optional_tables.specs.LookUps.{Missing, AreMissingValues, misses_none, rows_for, schemes_of_tables, CanBeReadBack, FitsAs, FitsIn, IsFound, IsNotFound, IsReadBack, IsTidyFor}
use Rattle.lookup_laws.proofs.OrderLemmas.{AreOrdered, tables_are_ordered}
use Rattle.lookup_laws.proofs.MissingLemmas.{filled_misses_none, row_from, row_to}
use Rattle.lookup_laws.proofs.JoinedLemmas.{AgreeOnEach, HasRowIn, filled_join, with_all, with_all_left, with_all_right}
use Rattle.lookup_laws.proofs.FoundLemmas.{looked_up_agree}

-- ---- each table with its rows
pub zipped_at : {X Y : Type 0} (R : X → Y → Type 0) (f : X → Y) (xs : List X) → AllZip R xs (map f xs)
    → (x : X) → Contains xs x → R x (f x)
zipped_at R f [] each x h = absurd (Contains-nil x h)
zipped_at {X} R f (first ∷ xs) each x h = elim (Contains-cases first xs x h) [
  | inl is_first ↦ subst (λ (z : X). R z (f z)) (sym is_first) each.0
  | inr later ↦ zipped_at R f xs each.1 x later
]

pub zipped_from : {X Y : Type 0} (R : X → Y → Type 0) (f : X → Y) (xs : List X) → ((x : X) → Contains xs x → R x (f x))
    → AllZip R xs (map f xs)
zipped_from R f [] each = tt
zipped_from R f (first ∷ xs) each =
    (each first (Contains-head first xs), zipped_from R f xs (λ x h. each x (Contains-later first xs x h)))

-- ---- a tuple that agrees with a row on each table is the row
same_on_all : (n : ℕ) (tables : List KeyedScheme) (u t : Tuple) → Covers n (schemes_of_tables tables) → length u ≡ n → length t ≡ n
    → AgreeOnEach tables u t → u ≡ t
same_on_all n tables u t covers u_long t_long agree =
    sym (project_tuple-whole everything u (λ k low. refl))
    ∙ project_tuple-same everything u t (u_long ∙ sym t_long) (λ k m. elim (cases_lt k n) [ inl low ↦ at k low | inr high ↦ past k high ])
    ∙ project_tuple-whole everything t (λ k low. refl)
  where
    everything : Attributes
    everything k = true

    at : (k : ℕ) → k < n → value_at u k ≡ value_at t k
    at k low =
        let (i, scheme, within, is, has) = covers k low in
        let (table, table_in, same) = map-member (λ (table : KeyedScheme). attributes table.scheme) tables scheme (i, within, is) in
        agree table table_in k (subst (λ (x : Attributes). x k ≡ true) (sym same) has)

    past : (k : ℕ) → n ≤ k → value_at u k ≡ value_at t k
    past k high = get_or_past u k [] (omega (arith, high, u_long)) ∙ sym (get_or_past t k [] (omega (arith, high, t_long)))

module _ (n : ℕ) (ds : List Dependency) (nullable : Attributes) (missing : Missing) (tables : List KeyedScheme) (r : Relation)
    (are_missing : AreMissingValues nullable missing) (legal : IsLegal n ds r) (can : CanBeReadBack n ds nullable tables)
    (tidy : All (IsTidyFor missing r) tables) where
  -- a row is read back
  row_is_read_back : (t : Tuple) → Contains r t → IsReadBack n nullable missing tables (map (rows_for missing r) tables) t
  row_is_read_back t t_in = record {
    over = All-contains (λ (v : Tuple). length v ≡ n) r t legal.over t_in;
    in_each = zipped_from (FitsIn nullable missing t) (rows_for missing r) tables
        (λ table h. fits table (All-contains (IsTidyFor missing r) tables table tidy h) (is_optional nullable table) refl);
  }
    where
      found_or_not : (table : KeyedScheme) → IsTidyFor missing r table
          → IsFound missing table (rows_for missing r table) t ⊎ IsNotFound missing table (rows_for missing r table) t
      found_or_not table neat = elim (cases_Bool (misses_none missing (attributes table.key) t)) [
        | inl complete ↦ inl (record { complete = complete; stands = row_from missing r table t t_in complete })
        | inr lacking ↦ inr (record {
          none_there = λ complete row row_in has. true≢false (sym complete ∙ lacking);
          beside = neat t t_in lacking;
        })
      ]

      fits : (table : KeyedScheme) → IsTidyFor missing r table → (b : Bool) → is_optional nullable table ≡ b
          → FitsAs b missing table (rows_for missing r table) t
      fits table neat false not_so = row_from missing r table t t_in (filled_misses_none nullable missing table t are_missing not_so)
      fits table neat true so = found_or_not table neat

  -- what is read back is a row
  read_back_is_row : (t : Tuple) → IsReadBack n nullable missing tables (map (rows_for missing r) tables) t → Contains r t
  read_back_is_row t back =
      let (u, u_in, agree) = filled_join n ds r nullable tables joined order legal can.lossless can.readable are can.homes_first t back.over
      filled_rows in
      let u_long : length u ≡ n = All-contains (λ (v : Tuple). length v ≡ n) r u legal.over u_in in
      let all : AgreeOnEach (with_all joined order) u t =
      looked_up_agree n ds nullable missing r legal are_missing t u (back.over ∙ sym u_long) u_in order joined
      (λ table h. can.keys table (are.order_in table h))
      (λ table h. All-contains (IsTidyFor missing r) tables table tidy (are.order_in table h)) looked_up can.homes_first agree in
      subst (Contains r)
      (same_on_all n tables u t can.lossless.covers u_long back.over (λ table h. all table (elim (are.each table h) [
        | inl in_joined ↦ with_all_left joined order table in_joined
        | inr in_order ↦ with_all_right joined order table in_order
      ]))) u_in
    where
      joined : List KeyedScheme
      joined = members_at tables (always_filled nullable tables)

      order : List KeyedScheme
      order = members_at tables (look_up_order nullable tables)

      are : AreOrdered nullable tables joined order
      are = tables_are_ordered nullable tables

      fits : (table : KeyedScheme) → Contains tables table → FitsIn nullable missing t table (rows_for missing r table)
      fits = zipped_at (FitsIn nullable missing t) (rows_for missing r) tables back.in_each

      filled_rows : (table : KeyedScheme) → Contains joined table → HasRowIn r t table
      filled_rows table h =
          row_to missing r table t (subst (λ (b : Bool). FitsAs b missing table (rows_for missing r table) t)
          (are.not_optional table h) (fits table (are.joined_in table h)))

      looked_up : (table : KeyedScheme) → Contains order table
          → IsFound missing table (rows_for missing r table) t ⊎ IsNotFound missing table (rows_for missing r table) t
      looked_up table h =
          subst (λ (b : Bool). FitsAs b missing table (rows_for missing r table) t)
          (are.optional table h) (fits table (are.order_in table h))

  pub read_back_are_rows : (t : Tuple) → IsReadBack n nullable missing tables (map (rows_for missing r) tables) t ↔ Contains r t
  read_back_are_rows t = (read_back_is_row t, row_is_read_back t)

-- ---- no optional table
module _ (nullable : Attributes) (missing : Missing) (t : Tuple) where
  abbrev IsIn : Attributes → Relation → Type 0
  IsIn scheme relation = Contains relation (project_tuple scheme t)

  to_join : (tables : List KeyedScheme) (relations : List Relation) → All (λ table. is_optional nullable table ≡ false) tables
      → AllZip (FitsIn nullable missing t) tables relations → AllZip IsIn (schemes_of_tables tables) relations
  to_join [] [] filled each = tt
  to_join [] (relation ∷ relations) filled each = each
  to_join (table ∷ tables) [] filled each = each
  to_join (table ∷ tables) (relation ∷ relations) filled each = (
    subst (λ (b : Bool). FitsAs b missing table relation t) (All-head (λ other. is_optional nullable other ≡ false) table tables filled) each.0,
    to_join tables relations (All-tail (λ other. is_optional nullable other ≡ false) table tables filled) each.1,
  )

  from_join : (tables : List KeyedScheme) (relations : List Relation) → All (λ table. is_optional nullable table ≡ false) tables
      → AllZip IsIn (schemes_of_tables tables) relations → AllZip (FitsIn nullable missing t) tables relations
  from_join [] [] filled each = tt
  from_join [] (relation ∷ relations) filled each = each
  from_join (table ∷ tables) [] filled each = each
  from_join (table ∷ tables) (relation ∷ relations) filled each = (
    subst (λ (b : Bool). FitsAs b missing table relation t) (sym (All-head (λ other. is_optional nullable other ≡ false) table tables filled)) each.0,
    from_join tables relations (All-tail (λ other. is_optional nullable other ≡ false) table tables filled) each.1,
  )

  pub join_is_read_back : (n : ℕ) (tables : List KeyedScheme) (relations : List Relation)
      → All (λ table. is_optional nullable table ≡ false) tables
      → IsReadBack n nullable missing tables relations t ↔ InJoin n (schemes_of_tables tables) relations t
  join_is_read_back n tables relations filled = (
    (λ back. record { over = back.over; in_each = to_join tables relations filled back.in_each }),
    (λ joined. record { over = joined.over; in_each = from_join tables relations filled joined.in_each }),
  )
