-- What the tables of a design have in the course of the script, and that none of them is broken.
use Rattle.std.proofs.Common.{◌≡◌, ◌<◌, ◌≤◌, ℕ, Bool, true, false, List, [], ◌∷◌, ◌++◌, get_or, map, Some, None, Option, refl, sym, ap, subst, ◌∙◌, inl, inr, ⊎_elim, arith}
use Rattle.std.proofs.lemmas.Bool.{cases_Bool, cases_lt, cases_order}
use Rattle.std.proofs.lemmas.Bool.Decides.{nat_tests}
use Rattle.std.proofs.lemmas.List.Elements.{All-contains, Contains-append_cases}
use Rattle.std.proofs.lemmas.Option.{slice_get-get_or, get_or_from_slice_get, slice_get_within}
use Rattle.std.specs.Prelude.{Contains, AllPairs, if◌then◌else◌, slice_get}
use Rattle.attr_sets.specs.Attributes.{Attributes, difference}
use Rattle.attr_sets.specs.Sets.{attributes}
use Rattle.schema_model.specs.declared.column_type.ColumnType.TheVariants.{Integer}
use Rattle.schema_model.specs.Schemas.{Schema}
use Rattle.schema_model.specs.Schemas.{width_of, nullable_of}
use Rattle.dep_model.specs.Projections.{ordered_projection}
use Rattle.dep_model.specs.Tuples.{Tuple, Relation, value_at}
use Rattle.dep_model.proofs.DistinctLemmas.{filter-member, filter-keeps}
use Rattle.dep_model.proofs.ListLemmas.{Contains-head, Contains-later, Contains-cases, map-member}
use Rattle.optional_tables.specs.LookUps.{complete_tuples}
use Rattle.ddl_text.specs.declared.table.TableDesign.{TableDesign}
use Rattle.ddl_text.specs.Ddl.{is_empty, is_never_missing}
use Rattle.ddl_text.specs.Designs.{keyed, known_keys}
use Rattle.ddl_text.specs.KeysAndReferences.{KeyHolds}
use Rattle.sql_syntax.specs.Names.{quoted_name}
use Rattle.sql_syntax.specs.Statements.{Element, primary_key, unique_key, Statement, remark, begin, commit, create_table, create_zeros, create_from, create_view, insert_into, insert_all, drop_table, ask}
use Rattle.sql_evaluation.specs.Cells.{is_none}
use Rattle.sql_evaluation.specs.Evaluation.{Rows}
use Rattle.sql_evaluation.specs.Running.{Held, table, view, State, Cast, Fails, rows_of_table, tried, done}
use Rattle.sql_evaluation.specs.Rules.{HasMissing, HasRepeated, HasUnmatched, Breaks, IsBroken}
use Rattle.sql_check.specs.Columns.{type_at}
use Rattle.sql_check_laws.specs.CheckedRules.{AreIntegers}
use Rattle.sql_check_laws.specs.HeldRelations.{compared_cell, AreApart}
use Rattle.sql_check_laws.proofs.CellLemmas.{member_of}
use Rattle.sql_check_laws.proofs.RowLemmas.{none_is_not_some, some_is}
use Rattle.sql_check_laws.proofs.ValuesLemmas.{names_on}
use Rattle.sql_syntax.specs.Names.{attribute_names}
use Rattle.ddl_text.specs.Ddl.{column_made, columns_made, stated_keys, key_made, keys_made, reference_made, references_made, elements_made, said_of, remarks_made, table_made, tables_made}
use Rattle.sql_migrate.specs.Script.{fill, work, testing, view_name, view_query, migration}
use Rattle.sql_migrate_laws.proofs.OrderedLemmas.{Each, each_member, each_after}
use Rattle.sql_migrate_laws.specs.Ending.{NamesDiffer, IsSoundRun}
use Rattle.sql_migrate_laws.specs.Moved.{missing_cells, is_complete, complete_for}
use Rattle.sql_migrate_laws.proofs.CompleteLemmas.{key-present, complete-from, complete-within, complete-tuples}
use Rattle.sql_migrate_laws.proofs.EnteredLemmas.{Cells}
use Rattle.sql_migrate_laws.proofs.JoinedLemmas.{projected}
use Rattle.sql_migrate_laws.proofs.FullLemmas.{column-there, key-there, key-once, key-matched}

-- ---- what a script creates
abbrev table_of : Statement → Option (List ℕ × List Element)
table_of (remark words) = None
table_of begin = None
table_of commit = None
table_of (create_table name elements) = Some (name, elements)
table_of (create_zeros name column) = None
table_of (create_from name q) = None
table_of (create_view name q) = None
table_of (insert_into name columns q) = None
table_of (insert_all name q) = None
table_of (drop_table name) = None
table_of (ask q) = None

-- a table that a statement creates is one of a design
abbrev CreatesDesigned : Schema → List TableDesign → Statement → Type 0
CreatesDesigned s designs x =
    (name : List ℕ) (elements : List Element) → table_of x ≡ Some (name, elements)
    → (t : TableDesign) × Contains designs t × (name ≡ quoted_name t.name) × (elements ≡ elements_made s designs t)

creates_none : (s : Schema) (designs : List TableDesign) (x : Statement) → table_of x ≡ None → CreatesDesigned s designs x
creates_none s designs x e name elements is = absurd (none_is_not_some (name, elements) (sym e ∙ is))

creates_remarks : (s : Schema) (designs : List TableDesign) (words : List (List ℕ)) → Each (CreatesDesigned s designs) (map remark words)
creates_remarks s designs [] = tt
creates_remarks s designs (first ∷ words) = (creates_none s designs (remark first) refl, creates_remarks s designs words)

creates_tables : (s : Schema) (designs made : List TableDesign) → ((t : TableDesign) → Contains made t → Contains designs t)
    → Each (CreatesDesigned s designs) (tables_made s designs made)
creates_tables s designs [] within = tt
creates_tables s designs (t ∷ made) within =
    each_after (CreatesDesigned s designs) (table_made s designs t) (tables_made s designs made)
    (each_after (CreatesDesigned s designs) (remarks_made s t) _
    (creates_remarks s designs (said_of s t)) (
      λ name elements e.
          let same = some_is (quoted_name t.name, elements_made s designs t) (name, elements) e in
          (t, within t (Contains-head t made), sym (ap (λ (p : List ℕ × List Element). p.0) same), sym (ap (λ (p : List ℕ × List Element). p.1) same)),
      tt,
    ))
    (creates_tables s designs made (λ u h. within u (Contains-later t made u h)))

creates_fills : (s : Schema) (designs made : List TableDesign) → Each (CreatesDesigned s designs) (map (fill s) made)
unfolding fill
creates_fills s designs [] = tt
creates_fills s designs (t ∷ made) = (creates_none s designs (fill s t) refl, creates_fills s designs made)

abbrev Created : Type 0
Created = List ℕ × List Element

not_created : {A : Type 0} (p : Created) → None ≡ Some p → A
not_created p e = absurd (none_is_not_some p e)

creates_end : (s : Schema) (name : List ℕ) (designs : List TableDesign) → Each (CreatesDesigned s designs) (create_view view_name (view_query s designs) ∷ testing s name)
creates_end s name designs = (
  λ n es e. not_created (n, es) e,
  (
    λ n es e. not_created (n, es) e,
    (
      λ n es e. not_created (n, es) e,
      (
        λ n es e. not_created (n, es) e,
        (
          λ n es e. not_created (n, es) e,
          (
            λ n es e. not_created (n, es) e,
            (λ n es e. not_created (n, es) e, (λ n es e. not_created (n, es) e, (λ n es e. not_created (n, es) e, tt))),
          ),
        ),
      ),
    ),
  ),
)

creates_all : (s : Schema) (name : List ℕ) (designs : List TableDesign) → Each (CreatesDesigned s designs) (migration s name designs)
creates_all s name designs =
    let fills = each_after (CreatesDesigned s designs) (map (fill s) designs) (create_view view_name (view_query s designs) ∷ testing s name)
    (creates_fills s designs designs) (creates_end s name designs) in
    let tables = each_after (CreatesDesigned s designs) (tables_made s designs designs) _ (creates_tables s designs designs (λ t h. h)) fills in (
      λ n es e. not_created (n, es) e,
      (
        λ n es e. not_created (n, es) e,
        each_after (CreatesDesigned s designs) (work s name designs) (commit ∷ []) (λ n es e. not_created (n, es) e, tables) (λ n es e. not_created (n, es) e, tt),
      ),
    )

created_of : (s : Schema) (name : List ℕ) (designs : List TableDesign) (held : List ℕ) (elements : List Element) → Contains (migration s name designs) (create_table held elements)
    → (t : TableDesign) × Contains designs t × (held ≡ quoted_name t.name) × (elements ≡ elements_made s designs t)
created_of s name designs held elements h =
    each_member (CreatesDesigned s designs) (migration s name designs) (create_table held elements) (creates_all s name designs) h held elements refl

-- ---- the elements of a table
of_element : (s : Schema) (designs : List TableDesign) (t : TableDesign) (P : Element → Type 0)
    → ((k : ℕ) → k < width_of s → attributes t.scheme k ≡ true → P (column_made s (difference (nullable_of s) (attributes t.key)) k))
    → P (primary_key (attribute_names s (attributes t.key)))
    → ((key : Attributes) → Contains (known_keys t.other_keys) key → P (unique_key (attribute_names s key)))
    → ((j : ℕ) → Contains t.refs.items j → P (reference_made s (get_or designs j t)))
    → (e : Element) → Contains (elements_made s designs t) e → P e
of_element s designs t P column primary unique reference e h = ⊎_elim
    (λ front. ⊎_elim
    (λ first. let of = map-member (column_made s (difference (nullable_of s) (attributes t.key))) _ e first in
    let m = member_of (width_of s) (attributes t.scheme) of.0 of.1 in subst P of.2 (column of.0 m.0 m.1))
    (λ second. ⊎_elim
    (λ key. by_key (is_empty (attributes t.key)) key)
    (λ other. let of = map-member (λ (key : Attributes). unique_key (attribute_names s key)) (stated_keys s (known_keys t.other_keys)) e other in
    subst P of.2 (unique of.0 (filter-member (is_never_missing s) (known_keys t.other_keys) of.0 of.1).0))
    (Contains-append_cases (key_made s (attributes t.key)) (map (λ key. unique_key (attribute_names s key)) (stated_keys s (known_keys t.other_keys))) e second))
    (Contains-append_cases (columns_made s t) (keys_made s t) e front))
    (λ back. let of = map-member (λ (j : ℕ). reference_made s (get_or designs j t)) t.refs.items e back in subst P of.2 (reference of.0 of.1))
    (Contains-append_cases (columns_made s t ++ keys_made s t) (references_made s designs t) e h)
  where
    by_key : (empty : Bool) → Contains (if empty then [] else primary_key (attribute_names s (attributes t.key)) ∷ []) e → P e
    by_key true key = absurd (omega (arith, key.1))
    by_key false key = ⊎_elim
        (λ (same : e ≡ primary_key (attribute_names s (attributes t.key))). subst P (sym same) primary)
        (λ later. absurd (omega (arith, later.1)))
        (Contains-cases (primary_key (attribute_names s (attributes t.key))) [] e key)

-- ---- stages
rows_in : Held → Rows
rows_in (table zeros rows) = rows
rows_in (view q) = record { names = []; rows = [] }

same_rows : (a b : Bool) (rows given : Rows) → Some (table a rows) ≡ Some (table b given) → rows ≡ given
unfolding rows_in
same_rows a b rows given e = ap rows_in (some_is (table a rows) (table b given) e)

-- a table without rows, and one that is filled
abbrev pub new_table : Schema → TableDesign → Rows
new_table s t = record { names = names_on s (attributes t.scheme); rows = [] }

abbrev pub full_table : Schema → Cast → Cells → Relation → TableDesign → Rows
full_table s cast cell r t = projected s cast cell (complete_for s cell t r) (attributes t.scheme)

-- the first m tables are there, of which the first f are filled
pub record IsAt (s : Schema) (cast : Cast) (cell : Cells) (r : Relation) (designs : List TableDesign) (m f : ℕ) (z : State) : Type 0 where
  pub none : (k : ℕ) (t : TableDesign) → slice_get designs k ≡ Some t → m ≤ k → z (quoted_name t.name) ≡ None
  pub new : (k : ℕ) (t : TableDesign) → slice_get designs k ≡ Some t → k < m → f ≤ k → z (quoted_name t.name) ≡ Some (table false (new_table s t))
  pub full : (k : ℕ) (t : TableDesign) → slice_get designs k ≡ Some t → k < f → z (quoted_name t.name) ≡ Some (table false (full_table s cast cell r t))

pub got_at : (designs : List TableDesign) (t : TableDesign) (h : Contains designs t) → slice_get designs h.0 ≡ Some t
got_at designs t h = slice_get-get_or designs h.0 t h.1 ∙ ap (λ (u : TableDesign). Some u) h.2

-- two tables have two names
pub apart_at : (designs : List TableDesign) → AllPairs NamesDiffer designs → (i j : ℕ) (t u : TableDesign) → slice_get designs i ≡ Some t → slice_get designs j ≡ Some u
    → (i ≡ j → ⊥) → quoted_name t.name ≡ quoted_name u.name → ⊥
apart_at designs differ i j t u at_i at_j other same = ⊎_elim
    (λ (equal : i ≡ j). other equal)
    (⊎_elim
    (λ (before : i < j). named i j t u at_i at_j before same)
    (λ (after : j < i). named j i u t at_j at_i after (sym same)))
    (cases_order i j)
  where
    named : (i j : ℕ) (t u : TableDesign) → slice_get designs i ≡ Some t → slice_get designs j ≡ Some u → i < j → quoted_name t.name ≡ quoted_name u.name → ⊥
    named i j t u at_i at_j before same =
        differ i j t before (slice_get_within designs j u at_j)
        (ap (λ (d : TableDesign). quoted_name d.name) (get_or_from_slice_get designs i t t at_i)
        ∙ same ∙ sym (ap (λ (d : TableDesign). quoted_name d.name) (get_or_from_slice_get designs j u t at_j)))

module _ (fails : Fails) (cast : Cast) (s : Schema) (name : List ℕ) (cell : Cells) (r : Relation) (designs : List TableDesign) (start : State)
    (sound : IsSoundRun fails cast s name cell r designs start) where
  -- a table that is referred to
  referred : (k : ℕ) (t : TableDesign) (j : ℕ) → slice_get designs k ≡ Some t → Contains t.refs.items j
      → (j < k) × (slice_get designs j ≡ Some (get_or designs j t))
  referred k t j at h =
      let before : j < k = All-contains (λ (i : ℕ). i < k) t.refs.items j (sound.fits.earlier k t at) h in
      let low = slice_get_within designs k t at in
      (before, slice_get-get_or designs j t (omega (arith, before, low)))

  new-unbroken : (z : State) (k : ℕ) (t : TableDesign) → slice_get designs k ≡ Some t
      → ((j : ℕ) (other : TableDesign) → j < k → slice_get designs j ≡ Some other → z (quoted_name other.name) ≡ None → ⊥)
      → (e : Element) → Contains (elements_made s designs t) e → Breaks z (new_table s t) e → ⊥
  new-unbroken z k t at there e h =
      of_element s designs t (λ (x : Element). Breaks z (new_table s t) x → ⊥)
      (λ i low inside breaks. nothing_missing _ breaks.1)
      (λ breaks. ⊎_elim (λ missing. nothing_missing _ missing) (λ twice. nothing_twice _ twice) breaks)
      (λ key known breaks. nothing_twice _ breaks)
      (λ j refers breaks. ⊎_elim
      (λ gone. let of = referred k t j at refers in there j (get_or designs j t) of.0 of.1 gone)
      (λ unmatched. let m = unmatched.member in absurd (omega (arith, m.1)))
      breaks)
      e h
    where
      nothing_missing : (columns : _) → HasMissing (new_table s t) columns → ⊥
      nothing_missing columns has = let m = has.member in absurd (omega (arith, m.1))

      nothing_twice : (columns : _) → HasRepeated (new_table s t) columns → ⊥
      nothing_twice columns has = none_is_not_some has.first has.at_first

  -- the tuples of a table
  abbrev complete : TableDesign → Relation
  complete t = complete_for s cell t r

  -- what holds of the values of the relation holds of theirs
  integers_of : (t : TableDesign) (k : ℕ) → k < width_of s → type_at s k ≡ Integer → AreIntegers (compared_cell cell) (complete t) k
  integers_of t k low e u h = sound.integers k low e u (complete-within s cell t r u h)

  apart_of : (t : TableDesign) → AreApart s cell (complete t)
  apart_of t k low u v hu hv = sound.holds.apart k low u v (complete-within s cell t r u hu) (complete-within s cell t r v hv)

  -- a value is there where none may be missing
  required-there : (t : TableDesign) (k : ℕ) → k < width_of s → difference (nullable_of s) (attributes t.key) k ≡ false
      → (u : Tuple) → Contains (complete t) u → is_none (cell k (value_at u k)) ≡ false
  required-there t k low required u h = elim (cases_Bool (nullable_of s k)) [
    | inl nullable ↦ key-present s cell r sound.none_missing t u h k low (grind (arith, required, nullable))
    | inr never ↦ sound.none_missing k (grind (arith, nat_tests, low, never)) u (complete-within s cell t r u h)
  ]

  -- a key of the rows of a table holds
  key-holds : (t : TableDesign) (key : Attributes)
      → KeyHolds (attributes t.scheme) (ordered_projection (attributes t.scheme) (complete_tuples (missing_cells s cell) (keyed t) r)) key
      → KeyHolds (attributes t.scheme) (ordered_projection (attributes t.scheme) (complete t)) key
  key-holds t key holds =
      subst (λ (rows : Relation). KeyHolds (attributes t.scheme) (ordered_projection (attributes t.scheme) rows) key) (complete-tuples s cell t r sound.legal) holds

  full-unbroken : (z : State) (k : ℕ) (t : TableDesign) → slice_get designs k ≡ Some t
      → ((j : ℕ) (other : TableDesign) → j < k → slice_get designs j ≡ Some other → z (quoted_name other.name) ≡ Some (table false (full_table s cast cell r other)))
      → (e : Element) → Contains (elements_made s designs t) e → Breaks z (full_table s cast cell r t) e → ⊥
  full-unbroken z k t at there e h =
      let fits = sound.fits in
      let x = attributes t.scheme in
      let inside : Contains designs t = (k, slice_get_within designs k t at, get_or_from_slice_get designs k t t at) in
      let within = fits.within t inside in
      of_element s designs t (λ (x : Element). Breaks z (full_table s cast cell r t) x → ⊥)
      (λ i low has breaks. column-there cast s cell (complete t) sound.casts (integers_of t) (apart_of t) x i low has (required-there t i low breaks.0) breaks.1)
      (λ breaks. ⊎_elim
      (λ missing. key-there cast s cell (complete t) sound.casts (integers_of t) (apart_of t) x (attributes t.key) (fits.key_within t inside)
      (λ i low has u hu. key-present s cell r sound.none_missing t u hu i low has) missing)
      (λ twice. key-once cast s cell (complete t) sound.casts (integers_of t) (apart_of t) x (attributes t.key) within
      (fits.key_within t inside) (key-holds t (attributes t.key) (fits.keys_hold (missing_cells s cell) r sound.legal t inside)) twice)
      breaks)
      (λ key known breaks. key-once cast s cell (complete t) sound.casts (integers_of t) (apart_of t) x key within
      (fits.other_keys_within t inside key known) (key-holds t key (fits.other_keys_hold (missing_cells s cell) r sound.legal t inside key known)) breaks)
      (λ j refers breaks.
      let of = referred k t j at refers in
      let other = get_or designs j t in
      let held = there j other of.0 of.1 in
      let other_in : Contains designs other = (j, slice_get_within designs j other of.1, get_or_from_slice_get designs j other other of.1) in
      ⊎_elim
      (λ gone. none_is_not_some (table false (full_table s cast cell r other)) (sym gone ∙ held))
      (λ unmatched. key-matched cast s cell (complete t) sound.casts (integers_of t) (apart_of t) (complete other) x (attributes other.scheme) (attributes other.key)
      (fits.refers_within t other j inside refers of.1) (fits.key_within other other_in)
      (λ u hu present. filter-keeps (is_complete s cell (attributes other.key)) r u (complete-within s cell t r u hu)
      (complete-from s cell (attributes other.key) u (λ i low in_key nullable. present i low in_key)))
      (subst (λ (found : Option Rows). HasUnmatched (full_table s cast cell r t) (attribute_names s (attributes other.key)) found) (ap rows_of_table held) unmatched))
      breaks)
      e h

  pub unbroken : (m f : ℕ) (z : State) → f ≤ m → IsAt s cast cell r designs m f z → IsBroken (migration s name designs) z → ⊥
  unbroken m f z order at broken =
      let of = created_of s name designs broken.name broken.elements broken.created in
      let t = of.0 in
      let k = of.1.0 in
      let here = got_at designs t of.1 in
      let held : z (quoted_name t.name) ≡ Some (table broken.zeros broken.given) = ap z (sym of.2) ∙ broken.held in
      let stated = subst (λ (elements : List Element). Contains elements broken.element) of.3 broken.stated in
      elim (cases_lt k m) [
        | inr past ↦ none_is_not_some (table broken.zeros broken.given) (sym (at.none k t here (omega (arith, past))) ∙ held)
        | inl low ↦ elim (cases_lt k f) [
          | inl filled ↦
              let same = same_rows false broken.zeros (full_table s cast cell r t) broken.given (sym (at.full k t here filled) ∙ held) in
              full-unbroken z k t here (λ j other before got. at.full j other got (omega (arith, before, filled))) broken.element stated
              (subst (λ (rows : Rows). Breaks z rows broken.element) (sym same) broken.breaks)
          | inr empty ↦
              let same = same_rows false broken.zeros (new_table s t) broken.given (sym (at.new k t here low (omega (arith, empty))) ∙ held) in
              new-unbroken z k t here (λ j other before got gone. elim (cases_lt j f) [
                | inl filled ↦ none_is_not_some _ (sym gone ∙ at.full j other got filled)
                | inr still ↦ none_is_not_some _ (sym gone ∙ at.new j other got (omega (arith, before, low)) (omega (arith, still)))
              ]) broken.element stated
              (subst (λ (rows : Rows). Breaks z rows broken.element) (sym same) broken.breaks)
        ]
      ]

  -- so a statement that leaves such a stage is not refused
  pub goes_on : (m f : ℕ) (x : Statement) (z next : State) → f ≤ m → IsAt s cast cell r designs m f next → done cast x z ≡ Some next
      → tried fails cast x z ≡ Some next
  goes_on m f x z next order at is = elim (cases_Bool (fails x z)) [
    | inl refused ↦ absurd (unbroken m f next order at (sound.refuses x z next refused is))
    | inr passed ↦ ap (λ (b : Bool). if b then None else done cast x z) passed ∙ is
  ]
