-- The view of the script over tables of a design that hold the projections of a relation.
use Rattle.std.proofs.Common.{◌≡◌, ◌<◌, ◌⊎◌, ℕ, true, false, List, [], ◌∷◌, ◌++◌, length, map, get_or, Some, None, Option, refl, sym, ap, subst, ◌∙◌, inl, inr, ⊎_elim, arith}
use Rattle.std.proofs.lemmas.Bool.{cases_Bool, true≢false, and_parts, and_from}
use Rattle.std.proofs.lemmas.Bool.Decides.{nat_tests}
use Rattle.std.proofs.lemmas.List.Sorted.{Contains-permutation, IsPermutation-sym}
use Rattle.std.proofs.lemmas.Option.{slice_get-get_or}
use Rattle.std.specs.Prelude.{Contains, AllPairs, option_map, option_and_then}
use Rattle.std.specs.List.Sorted.{IsPermutation}
use Rattle.attr_sets.specs.Attributes.{Attributes, none, union, intersection, IsSubset}
use Rattle.attr_sets.specs.Sets.{attributes}
use Rattle.attr_sets.proofs.AttributesLemmas.{is_subset-true}
use Rattle.schema_model.specs.declared.column_type.ColumnType.TheVariants.{Integer}
use Rattle.schema_model.specs.Schemas.{Schema}
use Rattle.dep_model.specs.Projections.{members_below, IsLossless}
use Rattle.schema_model.specs.Schemas.{width_of, universe_of, theory_of, nullable_of, LegalFor}
use Rattle.dep_model.specs.Tuples.{Tuple, Relation, value_at}
use Rattle.dep_model.proofs.ListLemmas.{Contains-head, Contains-later, Contains-cases, Contains-map, map-member}
use Rattle.dep_model.proofs.PairLemmas.{first_pairs, later_pairs, pairs_map}
use Rattle.dep_model.proofs.PermutationLemmas.{AllPairs-permutation}
use Rattle.optional_tables.specs.declared.keyed.KeyedScheme.{KeyedScheme}
use Rattle.optional_tables.specs.Homes.{is_optional, has_outside_key}
use Rattle.optional_tables.specs.LookUps.{IsTidyFor}
use Rattle.optional_tables.specs.Order.{always_filled, look_up_order, members_at, HomesComeFirst}
use Rattle.optional_tables.proofs.HomeLemmas.{there_from, get_contained}
use Rattle.optional_tables.proofs.PositionLemmas.{member_at_position, position_of_member}
use Rattle.ddl_text.specs.declared.table.TableDesign.{TableDesign}
use Rattle.ddl_text.specs.Ddl.{is_empty}
use Rattle.ddl_text.specs.Designs.{keyed}
use Rattle.sql_syntax.specs.Names.{quoted_name}
use Rattle.sql_syntax.specs.Syntax.{Link}
use Rattle.sql_check.specs.Columns.{name_at, type_at}
use Rattle.sql_evaluation.specs.Cells.{Cell, is_none}
use Rattle.sql_evaluation.specs.Values.{each, named_cell}
use Rattle.sql_evaluation.specs.Evaluation.{Rows, Engine, joined_by, columns_of, linked, all_linked, evaluate}
use Rattle.sql_evaluation.specs.Running.{Cast}
use Rattle.sql_check_laws.specs.HeldRelations.{compared_cell, AreApart, CastsIntegers}
use Rattle.sql_check_laws.specs.CheckedRules.{NoneMissing, AreIntegers}
use Rattle.sql_check_laws.proofs.CellLemmas.{names_apart, member_of, is_member_of}
use Rattle.sql_check_laws.proofs.ColumnLemmas.{named_cell-member}
use Rattle.sql_check_laws.proofs.EachLemmas.{each-known, each-map}
use Rattle.sql_check_laws.proofs.RowLemmas.{each-some, some_is}
use Rattle.sql_check_laws.proofs.ValuesLemmas.{names_on}
use Rattle.sql_migrate.specs.declared.joining.JoinedTable.{JoinedTable}
use Rattle.sql_migrate.specs.Script.{link, links, look_up, join_of, joined_tables, filled_tables, looked_up_tables, view_order, view_query}
use Rattle.sql_migrate_laws.specs.Ending.{AreComparable, FitsRelations}
use Rattle.sql_migrate_laws.specs.Moved.{missing_cells, complete_for}
use Rattle.sql_migrate_laws.proofs.RowLemmas.{each-all, each-from}
use Rattle.sql_migrate_laws.proofs.EnteredLemmas.{Cells, entered, entered-there}
use Rattle.sql_migrate_laws.proofs.CompleteLemmas.{complete-all}
use Rattle.sql_migrate_laws.proofs.JoinedLemmas.{with_names, row_at, projected, InEach, IsJoinOf, join_more, row-projected, projected-row}
use Rattle.sql_migrate_laws.proofs.LookedUpLemmas.{as_joined, IsDone, AreLookedUp, all_looked_up}
use Rattle.sql_migrate_laws.proofs.NameLemmas.{attribute_names-are}
use Rattle.sql_migrate_laws.proofs.OrderLemmas.{order_moved}
use Rattle.sql_migrate_laws.proofs.PositionLemmas.{got_keyed, same_got, filled_position, filled_is, optional_position, optional_is, order_differs, filled_within, filled_not_optional, key_required, filled_pairs}

-- ---- one link
none_left : {X : Type 0} (xs : List X) → ((x : X) → Contains xs x → ⊥) → xs ≡ []
none_left [] none_in = refl
none_left (x ∷ xs) none_in = absurd (none_in x (Contains-head x xs))

no_members : (s : Schema) (x : Attributes) → IsSubset x (universe_of s) → is_empty x ≡ true → members_below (width_of s) x ≡ []
no_members s x within e = none_left (members_below (width_of s) x) (λ k h.
    let m = member_of (width_of s) x k h in
    let bound = s.valid.names_within_limit in
    let never = is_subset-true x none (λ j inside. let low = within j inside in grind (arith, nat_tests, low, bound)) e k m.1 in
    true≢false (sym never))

linked-is : (e : Engine) (s : Schema) (shared : Attributes) (a : Rows) (x : JoinedTable) → IsSubset shared (universe_of s)
    → linked e a (link s shared x) ≡ option_and_then (joined_by (names_on s shared) a) (e.tables (quoted_name x.name))
linked-is e s shared a x within = elim (cases_Bool (is_empty shared)) [
  | inl none ↦ rw none (ap (λ (by : List (List ℕ)). option_and_then (joined_by by a) (e.tables (quoted_name x.name)))
      (sym (ap (map (name_at s)) (no_members s shared within none))))
  | inr some ↦ rw some (ap (λ (by : List (List ℕ)). option_and_then (joined_by by a) (e.tables (quoted_name x.name))) (attribute_names-are s shared))
]

abbrev SharesRequired : Schema → JoinedTable → JoinedTable → Type 0
SharesRequired s y x = (k : ℕ) → attributes y.scheme k ≡ true → attributes x.scheme k ≡ true → nullable_of s k ≡ false

-- ---- the view
-- tables of an engine that are joined hold the projections
abbrev HasTables : Engine → Schema → Cast → Cells → Relation → List JoinedTable → Type 0
HasTables e s cast cell r ts =
    (x : JoinedTable) → Contains ts x
    → (e.tables (quoted_name x.name) ≡ Some (projected s cast cell r (attributes x.scheme))) × IsSubset (attributes x.scheme) (universe_of s)

-- the tables of a design hold those of the tuples that are complete for them
abbrev pub HasDesign : Engine → Schema → Cast → Cells → Relation → List TableDesign → Type 0
HasDesign e s cast cell r designs =
    (t : TableDesign) → Contains designs t
    → e.tables (quoted_name t.name) ≡ Some (projected s cast cell (complete_for s cell t r) (attributes t.scheme))

-- the join of tables
record AreLinked (e : Engine) (s : Schema) (cast : Cast) (cell : Cells) (r : Relation) (ts before : List JoinedTable) (seen : Attributes) (a : Rows) : Type 0 where
  rows : Rows
  is : all_linked e (links s seen ts) a ≡ Some rows
  done : List JoinedTable
  all_seen : Attributes
  join : IsJoinOf s cast cell r done all_seen rows
  has_before : (x : JoinedTable) → Contains before x → Contains done x
  has : (x : JoinedTable) → Contains ts x → Contains done x
  only : (x : JoinedTable) → Contains done x → Contains before x ⊎ Contains ts x

linked-append : (e : Engine) (ls ms : List Link) (a : Rows) → all_linked e (ls ++ ms) a ≡ option_and_then (all_linked e ms) (all_linked e ls a)
linked-append e [] ms a = refl
linked-append e (l ∷ ls) ms a = by_first (linked e a l) (linked-append e ls ms)
  where
    by_first : (found : Option Rows)
        → ((b : Rows) → all_linked e (ls ++ ms) b ≡ option_and_then (all_linked e ms) (all_linked e ls b))
        → option_and_then (all_linked e (ls ++ ms)) found
        ≡ option_and_then (all_linked e ms) (option_and_then (all_linked e ls) found)
    by_first None later = refl
    by_first (Some b) later = later b

-- what the view gives: values on all attributes that each table has
pub record IsView (e : Engine) (s : Schema) (cast : Cast) (cell : Cells) (r : Relation) (designs : List TableDesign) : Type 0 where
  pub rows : Rows
  pub is : evaluate e (view_query s designs) ≡ Some rows
  pub names : rows.names ≡ names_on s (universe_of s)
  pub from : (o : List Cell) → Contains rows.rows o → (w : ℕ → List ℕ) × (o ≡ row_at s cast cell (members_below (width_of s) (universe_of s)) w)
      × InEach s r (joined_tables designs) w
  pub to : (t : Tuple) → Contains r t → Contains rows.rows (row_at s cast cell (members_below (width_of s) (universe_of s)) (value_at t))

module _ (cast : Cast) (s : Schema) (cell : Cells) (r : Relation) (casts : CastsIntegers cast)
    (integers : (k : ℕ) → k < width_of s → type_at s k ≡ Integer → AreIntegers (compared_cell cell) r k)
    (apart : AreApart s cell r) (there : NoneMissing s cell r) (comparable : AreComparable s cell r) where
  all-linked : (e : Engine) (ts done : List JoinedTable) (seen : Attributes) (a : Rows) → IsJoinOf s cast cell r done seen a
      → HasTables e s cast cell r ts → AllPairs (SharesRequired s) ts
      → ((y x : JoinedTable) → Contains done y → Contains ts x → SharesRequired s y x) → AreLinked e s cast cell r ts done seen a
  all-linked e [] done seen a j tables pairs before = record {
    rows = a;
    is = refl;
    done = done;
    all_seen = seen;
    join = j;
    has_before = λ x h. h;
    has = λ x h. absurd (omega (arith, h.1));
    only = λ x h. inl h;
  }
  all-linked e (x ∷ ts) done seen a j tables pairs before =
      let here = tables x (Contains-head x ts) in
      let scheme = attributes x.scheme in
      let shared = intersection seen scheme in
      let in_both : (k : ℕ) → shared k ≡ true → (seen k ≡ true) × (scheme k ≡ true) = λ k e'. and_parts (seen k) (scheme k) e' in
      let present : (t : Tuple) → Contains r t → (k : ℕ) → k < width_of s → shared k ≡ true → is_none (entered s cast cell k (value_at t k)) ≡ false =
      λ t h k low e'.
      let both = in_both k e' in
      let of = j.of_done k both.0 in
      entered-there cast s cell r casts integers there k t low (before of.0 x of.1 (Contains-head x ts) k of.2 both.1) h in
      let next = join_more cast s cell r casts integers apart comparable done seen a x j r (λ t h. h) shared in_both
      (λ k low first second. and_from (seen k) (scheme k) first second) present (λ t h. h) in
      let one : linked e a (link s shared x) ≡ Some next.0 =
      linked-is e s shared a x (λ k m. here.1 k (in_both k m).1) ∙ ap (option_and_then (joined_by (names_on s shared) a)) here.0 ∙ next.1 in
      let rest = all-linked e ts (x ∷ done) (union seen scheme) next.0 next.2 (λ y h. tables y (Contains-later x ts y h)) (later_pairs (SharesRequired s) x ts pairs)
      (λ y z h m. ⊎_elim
      (λ (same : y ≡ x). subst (λ (v : JoinedTable). SharesRequired s v z) (sym same) (first_pairs (SharesRequired s) x ts z pairs m))
      (λ later. before y z later (Contains-later x ts z m))
      (Contains-cases x done y h)) in
      record {
        rows = rest.rows;
        is = ap (option_and_then (all_linked e (links s (union seen scheme) ts))) one ∙ rest.is;
        done = rest.done;
        all_seen = rest.all_seen;
        join = rest.join;
        has_before = λ y h. rest.has_before y (Contains-later x done y h);
        has = λ y h. ⊎_elim
            (λ (same : y ≡ x). subst (Contains rest.done) (sym same) (rest.has_before x (Contains-head x done)))
            (λ later. rest.has y later)
            (Contains-cases x ts y h);
        only = λ y h. ⊎_elim
            (λ old. ⊎_elim
            (λ (same : y ≡ x). inr (subst (Contains (x ∷ ts)) (sym same) (Contains-head x ts)))
            (λ before'. inl before')
            (Contains-cases x done y old))
            (λ later. inr (Contains-later x ts y later))
            (rest.only y h);
      }

  -- one table is the join of itself
  first_join : (x : JoinedTable) → IsJoinOf s cast cell r (x ∷ []) (attributes x.scheme) (projected s cast cell r (attributes x.scheme))
  first_join x = record {
    ks = members_below (width_of s) (attributes x.scheme);
    names = refl;
    inside = λ k h. member_of (width_of s) (attributes x.scheme) k h;
    has = λ k low e. is_member_of (width_of s) (attributes x.scheme) k low e;
    of_done = λ k e. (x, Contains-head x [], e);
    seen_of = λ y h k e. ⊎_elim
        (λ (same : y ≡ x). subst (λ (z : JoinedTable). attributes z.scheme k ≡ true) same e)
        (λ later. absurd (omega (arith, later.1)))
        (Contains-cases x [] y h);
    from = λ o h.
        let t = row-projected s cast cell r (attributes x.scheme) o h in (
          value_at t.0,
          sym t.2,
          λ y m. ⊎_elim
              (λ (same : y ≡ x). (t.0, t.1, λ k low e. refl))
              (λ later. absurd (omega (arith, later.1)))
              (Contains-cases x [] y m),
        );
    to = λ t h. projected-row s cast cell r (attributes x.scheme) t h;
  }

  -- ---- all attributes of the join
  abbrev all_of : List ℕ
  all_of = members_below (width_of s) (universe_of s)

  module _ (designs : List TableDesign) (fits : FitsRelations s designs) (legal : LegalFor s r)
      (tidy : (design : TableDesign) → Contains designs design → IsTidyFor (missing_cells s cell) r (keyed design))
      (lossless : IsLossless (width_of s) (theory_of s) (map (λ design. attributes design.scheme) designs)) where
    abbrev keyed_tables : List KeyedScheme
    keyed_tables = map keyed designs

    abbrev filled : List TableDesign
    filled = filled_tables s designs

    abbrev filled_places : List ℕ
    filled_places = always_filled (nullable_of s) keyed_tables

    abbrev order : List ℕ
    order = look_up_order (nullable_of s) keyed_tables

    covers : (k : ℕ) → k < width_of s → (t : TableDesign) × Contains designs t × (attributes t.scheme k ≡ true)
    covers k low =
        let any = lossless.covers k low in
        let of = map-member (λ (design : TableDesign). attributes design.scheme) designs any.1 (any.0, any.2, any.3) in
        (of.0, of.1, subst (λ (z : Attributes). z k ≡ true) (sym of.2) any.4)

    -- ---- the tables that are joined
    -- two of them share no attribute of which a value may be missing
    filled_share : AllPairs (λ t u. SharesRequired s (as_joined t) (as_joined u)) filled
    filled_share =
        filled_pairs s designs (λ t u. SharesRequired s (as_joined t) (as_joined u)) (λ i j d before low one other k in_t in_u.
        let at = λ (m : ℕ) (inside : m < length designs). slice_get-get_or designs m d inside in
        elim (cases_Bool (nullable_of s k)) [
          | inr required ↦ required
          | inl missing ↦
              let home = fits.readable.homes k missing in
              let outside : (m : ℕ) → m < length designs → is_optional (nullable_of s) (keyed (get_or designs m d)) ≡ false
              → attributes (get_or designs m d).scheme k ≡ true → m ≡ home.home =
              λ m inside plain has. home.only m (there_from (λ table. has_outside_key table k ≡ true) keyed_tables m (keyed (get_or designs m d))
              (got_keyed designs m (get_or designs m d) (at m inside))
              (outside_from (get_or designs m d) k has (not_in_key (get_or designs m d) plain k missing))) in
              let first = outside i (omega (arith, before, low)) one in_t in
              let second = outside j low other in_u in
              absurd (omega (arith, before, first, second))
        ])
      where
        not_in_key : (t : TableDesign) → is_optional (nullable_of s) (keyed t) ≡ false → (k : ℕ) → nullable_of s k ≡ true → attributes t.key k ≡ false
        not_in_key t plain k missing = elim (cases_Bool (attributes t.key k)) [
          | inl inside ↦ absurd (true≢false (sym missing ∙ key_required s designs t plain k inside))
          | inr other ↦ other
        ]

        outside_from : (t : TableDesign) (k : ℕ) → attributes t.scheme k ≡ true → attributes t.key k ≡ false → has_outside_key (keyed t) k ≡ true
        outside_from t k inside beside = grind (arith, inside, beside)

    filled_tables_in : (e : Engine) → HasDesign e s cast cell r designs → HasTables e s cast cell r (joined_tables filled)
    filled_tables_in e known x h =
        let of = map-member as_joined filled x h in
        let t = of.0 in
        let inside = filled_within s designs t of.1 in
        let all : complete_for s cell t r ≡ r = complete-all s cell t r (key_required s designs t (filled_not_optional s designs t of.1)) in
        subst (λ (y : JoinedTable). (e.tables (quoted_name y.name) ≡ Some (projected s cast cell r (attributes y.scheme))) × IsSubset (attributes y.scheme) (universe_of s)) of.2
        (known t inside ∙ ap (λ (ts : Relation). Some (projected s cast cell ts (attributes t.scheme))) all, fits.within t inside)

    query-is : (e : Engine) → evaluate e (view_query s designs) ≡ evaluate e (join_of s (view_order (joined_tables filled)) (looked_up_tables s designs))
    unfolding view_query
    query-is e = refl

    -- ---- where some table is joined
    module _ (e : Engine) (known : HasDesign e s cast cell r designs) (first : JoinedTable) (rest : List JoinedTable)
        (moved : IsPermutation (joined_tables filled) (first ∷ rest)) where
      from_filled : (x : JoinedTable) → Contains (joined_tables filled) x → Contains (first ∷ rest) x
      from_filled x h = Contains-permutation (joined_tables filled) (first ∷ rest) x moved h

      to_filled : (x : JoinedTable) → Contains (first ∷ rest) x → Contains (joined_tables filled) x
      to_filled x h = Contains-permutation (first ∷ rest) (joined_tables filled) x (IsPermutation-sym (joined_tables filled) (first ∷ rest) moved) h

      tables : HasTables e s cast cell r (first ∷ rest)
      tables x h = filled_tables_in e known x (to_filled x h)

      pairs : AllPairs (SharesRequired s) (first ∷ rest)
      pairs =
          AllPairs-permutation (SharesRequired s) (λ y x all k in_x in_y. all k in_y in_x) (joined_tables filled) (first ∷ rest) moved
          (pairs_map (SharesRequired s) as_joined filled filled_share)

      joined : AreLinked e s cast cell r rest (first ∷ []) (attributes first.scheme) (projected s cast cell r (attributes first.scheme))
      joined =
          all-linked e rest (first ∷ []) (attributes first.scheme) (projected s cast cell r (attributes first.scheme)) (first_join first)
          (λ y h. tables y (Contains-later first rest y h)) (later_pairs (SharesRequired s) first rest pairs)
          (λ y x h m. ⊎_elim
          (λ (is : y ≡ first). subst (λ (v : JoinedTable). SharesRequired s v x) (sym is) (first_pairs (SharesRequired s) first rest x pairs m))
          (λ later. absurd (omega (arith, later.1)))
          (Contains-cases first [] y h))

      in_done : (x : JoinedTable) → Contains (joined_tables filled) x → Contains joined.done x
      in_done x h = ⊎_elim
          (λ (is : x ≡ first). subst (Contains joined.done) (sym is) (joined.has_before first (Contains-head first [])))
          (λ later. joined.has x later)
          (Contains-cases first rest x (from_filled x h))

      places : IsDone cast s cell r casts integers apart there comparable designs fits legal tidy filled_places joined.done
      places = record {
        from = λ x h.
            let inside : Contains (first ∷ rest) x = ⊎_elim
            (λ before. ⊎_elim
            (λ (is : x ≡ first). subst (Contains (first ∷ rest)) (sym is) (Contains-head first rest))
            (λ later. absurd (omega (arith, later.1)))
            (Contains-cases first [] x before))
            (λ later. Contains-later first rest x later)
            (joined.only x h) in
            let of = map-member as_joined filled x (to_filled x inside) in
            let at = position_of_member designs filled_places of.0 of.1 in
            (at.0, at.1, of.0, at.2, sym of.2);
        to = λ k t h at. in_done (as_joined t) (Contains-map as_joined filled t (member_at_position designs filled_places k t at h));
        homes = λ k t h at optional.
            let of = filled_is s designs k h in
            absurd (true≢false (sym optional ∙ ap (λ (u : TableDesign). is_optional (nullable_of s) (keyed u)) (same_got designs k k t of.0 at of.1 refl) ∙ of.2));
      }

      looked : AreLookedUp cast s cell r casts integers apart there comparable designs fits legal tidy e order filled_places joined.rows
      looked =
          all_looked_up cast s cell r casts integers apart there comparable designs fits legal tidy e known order filled_places joined.done joined.all_seen joined.rows
          joined.join places (optional_is s designs) (order_differs s designs)
          (λ p h m.
          let one = optional_is s designs p h in
          let other = filled_is s designs p m in
          true≢false (sym one.2 ∙ ap (λ (u : TableDesign). is_optional (nullable_of s) (keyed u)) (same_got designs p p one.0 other.0 one.1 other.1 refl) ∙ other.2))
          fits.homes_first

      each_done : (t : TableDesign) → Contains designs t → Contains looked.done (as_joined t)
      each_done t h =
          let at = get_contained designs t h in
          elim (cases_Bool (is_optional (nullable_of s) (keyed t))) [
            | inl optional ↦ looked.has h.0 t (optional_position s designs h.0 t at optional) at
            | inr plain ↦ looked.has_before h.0 t (filled_position s designs h.0 t at plain) at
          ]

      abbrev cells : List Cell → Option (List Cell)
      cells o = each (named_cell looked.rows.names o) (names_on s (universe_of s))

      row : (w : ℕ → List ℕ) (o : List Cell) → o ≡ row_at s cast cell looked.join.ks w → cells o ≡ Some (row_at s cast cell all_of w)
      row w o is =
          let j = looked.join in
          ap (λ (names : List (List ℕ)). each (named_cell names o) (names_on s (universe_of s))) j.names
          ∙ ap (λ (p : List Cell). each (named_cell (map (name_at s) j.ks) p) (names_on s (universe_of s))) is
          ∙ each-map (named_cell (map (name_at s) j.ks) (row_at s cast cell j.ks w)) (name_at s) all_of
          ∙ each-known (λ (k : ℕ). named_cell (map (name_at s) j.ks) (row_at s cast cell j.ks w) (name_at s k)) (λ (k : ℕ). entered s cast cell k (w k)) all_of
          (λ k h.
          let m = member_of (width_of s) (universe_of s) k h in
          let of = covers k m.0 in
          named_cell-member (name_at s) (λ (i : ℕ). entered s cast cell i (w i)) j.ks k
          (λ i l hi hl same'. names_apart s i l (j.inside i hi).0 (j.inside l hl).0 same')
          (j.has k m.0 (j.seen_of (as_joined of.0) (each_done of.0 of.1) k of.2)))

      joined_is : evaluate e (join_of s (first ∷ rest) (looked_up_tables s designs)) ≡ option_and_then (columns_of (names_on s (universe_of s))) (Some looked.rows)
      joined_is =
          let ls = links s (attributes first.scheme) rest in
          let ms = map (look_up s) (looked_up_tables s designs) in
          let here = tables first (Contains-head first rest) in
          ap (λ (names : List (List ℕ)). option_and_then (columns_of names) (option_and_then (all_linked e (ls ++ ms)) (e.tables (quoted_name first.name))))
          (attribute_names-are s (universe_of s))
          ∙ ap (λ (a : Option Rows). option_and_then (columns_of (names_on s (universe_of s))) (option_and_then (all_linked e (ls ++ ms)) a)) here.0
          ∙ ap (option_and_then (columns_of (names_on s (universe_of s))))
          (linked-append e ls ms (projected s cast cell r (attributes first.scheme)) ∙ ap (option_and_then (all_linked e ms)) joined.is ∙ looked.is)

      found : (rows : List (List Cell)) × (each cells looked.rows.rows ≡ Some rows)
      found = let all = each-some cells looked.rows.rows (λ o h. let w = looked.join.from o h in (row_at s cast cell all_of w.0, row w.0 o w.1)) in (all.0, all.1)

      view_is : view_order (joined_tables filled) ≡ first ∷ rest → IsView e s cast cell r designs
      view_is same = record {
        rows = with_names (names_on s (universe_of s)) found.0;
        is = query-is e ∙ ap (λ (ts : List JoinedTable). evaluate e (join_of s ts (looked_up_tables s designs))) same ∙ joined_is
            ∙ ap (option_map (with_names (names_on s (universe_of s)))) found.1;
        names = refl;
        from = λ o h.
            let of = each-from cells looked.rows.rows found.0 o found.1 h in
            let w = looked.join.from of.0 of.1 in (
              w.0,
              some_is o (row_at s cast cell all_of w.0) (sym of.2 ∙ row w.0 of.0 w.1),
              λ x m.
                  let t = map-member as_joined designs x m in
                  w.2 x (subst (Contains looked.done) t.2 (each_done t.0 t.1)),
            );
        to = λ t h.
            let of = each-all cells looked.rows.rows found.0 (row_at s cast cell looked.join.ks (value_at t)) found.1 (looked.join.to t h) in
            subst (Contains found.0) (some_is of.0 (row_at s cast cell all_of (value_at t)) (sym of.2 ∙ row (value_at t) (row_at s cast cell looked.join.ks (value_at t)) refl)) of.1;
      }

    -- ---- some table is joined
    no_home : (left : List KeyedScheme) (t : KeyedScheme) → HomesComeFirst (nullable_of s) [] left → Contains left t → ⊥
    no_home [] t homes h = omega (arith, h.1)
    no_home (first ∷ left) t homes h = true≢false (sym homes.0)

    none_joined : joined_tables filled ≡ [] → ⊥
    none_joined none =
        let of = covers 0 s.valid.names_not_empty in
        let t = of.0 in
        let at = get_contained designs t of.1 in
        let no_place : (k : ℕ) → Contains filled_places k → ⊥ = λ k h.
        let found = filled_is s designs k h in
        let there = subst (λ (xs : List JoinedTable). Contains xs (as_joined found.0)) none
        (Contains-map as_joined filled found.0 (member_at_position designs filled_places k found.0 found.1 h)) in
        omega (arith, there.1) in
        elim (cases_Bool (is_optional (nullable_of s) (keyed t))) [
          | inr plain ↦ no_place of.1.0 (filled_position s designs of.1.0 t at plain)
          | inl optional ↦
              no_home (members_at keyed_tables order) (keyed t)
              (subst (λ (js : List ℕ). HomesComeFirst (nullable_of s) (members_at keyed_tables js) (members_at keyed_tables order)) (none_left filled_places no_place) fits.homes_first)
              (member_at_position keyed_tables order of.1.0 (keyed t) (got_keyed designs of.1.0 t at) (optional_position s designs of.1.0 t at optional))
        ]

    pub view-known : (e : Engine) → HasDesign e s cast cell r designs → IsView e s cast cell r designs
    view-known e known = by_order (view_order (joined_tables filled)) (order_moved (joined_tables filled)) refl
      where
        by_order : (order : List JoinedTable) → IsPermutation (joined_tables filled) order → view_order (joined_tables filled) ≡ order → IsView e s cast cell r designs
        by_order [] moved is = absurd (none_joined (none_left (joined_tables filled) (λ x h. let there = Contains-permutation (joined_tables filled) [] x moved h in omega (arith, there.1))))
        by_order (first ∷ rest) moved is = view_is e known first rest moved is
