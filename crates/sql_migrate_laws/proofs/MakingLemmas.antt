-- The statements that make and fill the tables of a design, none of which is refused.
use Rattle.std.proofs.Common.{◌≡◌, ◌≤◌, ◌+◌, ℕ, suc, Bool, true, false, not, List, [], ◌∷◌, ◌++◌, length, get_or, map, Some, None, Option, refl, sym, ap, subst, ◌∙◌, inl, inr, arith, append-nil}
use Rattle.std.proofs.lemmas.Bool.{cases_eq, eq-eqb}
use Rattle.std.proofs.lemmas.List.{length-map}
use Rattle.std.proofs.lemmas.Option.{slice_get_within}
use Rattle.std.specs.Cmp.Lexicographic.{pointwise, pointwise_decides}
use Rattle.std.specs.Prelude.{Contains, if◌then◌else◌, ◌==◌, slice_get, is_some, option_map, option_and_then, codes}
use Rattle.std.specs.Str.{bytes_eq}
use Rattle.attr_sets.specs.Attributes.{Attributes, difference}
use Rattle.attr_sets.specs.Sets.{attributes}
use Rattle.schema_model.specs.Schemas.{Schema}
use Rattle.dep_model.specs.Projections.{members_below}
use Rattle.schema_model.specs.Schemas.{width_of, nullable_of}
use Rattle.dep_model.specs.Tuples.{Tuple, Relation, value_at}
use Rattle.ddl_text.specs.declared.table.TableDesign.{TableDesign}
use Rattle.ddl_text.specs.Ddl.{is_empty}
use Rattle.ddl_text.specs.Designs.{known_keys}
use Rattle.sql_syntax.specs.Names.{quoted_name}
use Rattle.sql_syntax.specs.Statements.{Element, column_definition, primary_key, unique_key, foreign_key, Statement, remark, create_table}
use Rattle.sql_check.specs.Columns.{name_at}
use Rattle.sql_evaluation.specs.Values.{each, bytes_of}
use Rattle.sql_evaluation.specs.Evaluation.{item_name, item_value, with_items, selected, evaluate}
use Rattle.sql_evaluation.specs.Running.{Held, table, State, Cast, Fails, rows_found, engine_at, with_name, made, with_rows, both_rows, filled, inserted, has_columns, column_names, tried, done}
use Rattle.sql_check_laws.proofs.ColumnLemmas.{bytes_same}
use Rattle.sql_check_laws.proofs.EachLemmas.{each-known}
use Rattle.sql_check_laws.proofs.RowLemmas.{none_is_not_some, some_is}
use Rattle.sql_check_laws.proofs.CellLemmas.{member_of}
use Rattle.sql_check_laws.proofs.ValuesLemmas.{names_on}
use Rattle.sql_migrate.specs.declared.moving.Move.TheVariants.{Entering}
use Rattle.sql_migrate.specs.Moving.{moved_at, moved_on}
use Rattle.sql_syntax.specs.Names.{attribute_names}
use Rattle.ddl_text.specs.Ddl.{column_made, columns_made, stated_keys, key_made, keys_made, reference_made, references_made, elements_made, said_of, remarks_made, table_made, tables_made}
use Rattle.sql_migrate.specs.Script.{copy_name, complete_rows, fill, fill_query}
use Rattle.sql_migrate_laws.specs.Moved.{complete_for, entered_cell}
use Rattle.sql_migrate_laws.proofs.RunLemmas.{steps}
use Rattle.sql_migrate_laws.proofs.StepLemmas.{at_name, past_name}
use Rattle.sql_migrate_laws.proofs.RowLemmas.{IsCopied, row_of_copy, entered-row}
use Rattle.sql_migrate_laws.proofs.CompleteLemmas.{complete-within, fill-selected}
use Rattle.sql_migrate_laws.specs.Ending.{IsSoundRun}
use Rattle.sql_migrate_laws.proofs.EnteredLemmas.{Cells, entered, entered-known}
use Rattle.sql_migrate_laws.proofs.FullLemmas.{got_member}
use Rattle.sql_migrate_laws.proofs.JoinedLemmas.{with_names, row_at}
use Rattle.sql_migrate_laws.proofs.NameLemmas.{attribute_names-are}
use Rattle.sql_migrate_laws.proofs.StageLemmas.{new_table, full_table, IsAt, apart_at, goes_on}

-- ---- steps
pub step_next : (fails : Fails) (cast : Cast) (x : Statement) (xs : List Statement) (z next : State) (last : Option State) → tried fails cast x z ≡ Some next
    → steps fails cast xs next ≡ last → steps fails cast (x ∷ xs) z ≡ last
step_next fails cast x xs z next last first rest = ap (option_and_then (steps fails cast xs)) first ∙ rest

pub steps_append : (fails : Fails) (cast : Cast) (xs ys : List Statement) (z next last : State) → steps fails cast xs z ≡ Some next
    → steps fails cast ys next ≡ Some last → steps fails cast (xs ++ ys) z ≡ Some last
steps_append fails cast [] ys z next last first rest =
    ap (steps fails cast ys) (some_is z next first) ∙ rest
steps_append fails cast (x ∷ xs) ys z next last first rest =
    by_first (tried fails cast x z) first (λ z' e. steps_append fails cast xs ys z' next last e rest)
  where
    by_first : (found : Option State) → option_and_then (steps fails cast xs) found ≡ Some next
        → ((z' : State) → steps fails cast xs z' ≡ Some next → steps fails cast (xs ++ ys) z' ≡ Some last)
        → option_and_then (steps fails cast (xs ++ ys)) found ≡ Some last
    by_first None e later = absurd (none_is_not_some next e)
    by_first (Some z') e later = later z' e

pub made_free : (name : List ℕ) (held : Held) (z : State) → z name ≡ None → made name held z ≡ Some (with_name name (Some held) z)
made_free name held z free = ap (λ (h : Option Held). if is_some h then None else Some (with_name name (Some held) z)) free

-- ---- the columns of a table
names_append : (xs ys : List Element) → column_names (xs ++ ys) ≡ column_names xs ++ column_names ys
names_append [] ys = refl
names_append (column_definition name type nullable ∷ xs) ys = ap (λ (rest : List (List ℕ)). bytes_of name ∷ rest) (names_append xs ys)
names_append (primary_key names ∷ xs) ys = names_append xs ys
names_append (unique_key names ∷ xs) ys = names_append xs ys
names_append (foreign_key names other ∷ xs) ys = names_append xs ys

columns_named : (s : Schema) (nullable : Attributes) (ks : List ℕ) → column_names (map (column_made s nullable) ks) ≡ map (name_at s) ks
columns_named s nullable [] = refl
columns_named s nullable (k ∷ ks) = ap (λ (rest : List (List ℕ)). name_at s k ∷ rest) (columns_named s nullable ks)

uniques_unnamed : (s : Schema) (keys : List Attributes) → column_names (map (λ key. unique_key (attribute_names s key)) keys) ≡ []
uniques_unnamed s [] = refl
uniques_unnamed s (key ∷ keys) = uniques_unnamed s keys

key_unnamed : (s : Schema) (key : Attributes) → column_names (key_made s key) ≡ []
key_unnamed s key = by_key (is_empty key)
  where
    by_key : (empty : Bool) → column_names (if empty then [] else primary_key (attribute_names s key) ∷ []) ≡ []
    by_key true = refl
    by_key false = refl

references_unnamed : (s : Schema) (js : List ℕ) (of : ℕ → TableDesign) → column_names (map (λ j. reference_made s (of j)) js) ≡ []
references_unnamed s [] of = refl
references_unnamed s (j ∷ js) of = references_unnamed s js of

elements_named : (s : Schema) (designs : List TableDesign) (t : TableDesign) → column_names (elements_made s designs t) ≡ names_on s (attributes t.scheme)
elements_named s designs t =
    let columns = columns_made s t in
    let stated = stated_keys s (known_keys t.other_keys) in
    let uniques = map (λ key. unique_key (attribute_names s key)) stated in
    names_append (columns ++ keys_made s t) (references_made s designs t)
    ∙ ap (λ (rest : List (List ℕ)). column_names (columns ++ keys_made s t) ++ rest) (references_unnamed s t.refs.items (λ j. get_or designs j t))
    ∙ append-nil (column_names (columns ++ keys_made s t))
    ∙ names_append columns (keys_made s t)
    ∙ ap (λ (rest : List (List ℕ)). column_names columns ++ rest)
    (names_append (key_made s (attributes t.key)) uniques
    ∙ ap (λ (front : List (List ℕ)). front ++ column_names uniques) (key_unnamed s (attributes t.key)) ∙ uniques_unnamed s stated)
    ∙ append-nil (column_names columns)
    ∙ columns_named s (difference (nullable_of s) (attributes t.key)) (members_below (width_of s) (attributes t.scheme))

-- ---- the rest of a design
-- these are the tables from position k on
abbrev pub Follow : List TableDesign → ℕ → List TableDesign → Type 0
Follow designs k made = (i : ℕ) (t : TableDesign) → slice_get made i ≡ Some t → slice_get designs (k + i) ≡ Some t

pub follow_all : (designs : List TableDesign) → Follow designs 0 designs
follow_all designs i t got = let e : i ≡ 0 + i = omega arith in subst (λ (m : ℕ). slice_get designs m ≡ Some t) e got

first_of : (designs : List TableDesign) (k : ℕ) (t : TableDesign) (made : List TableDesign) → Follow designs k (t ∷ made) → slice_get designs k ≡ Some t
first_of designs k t made follow =
    let e : k + 0 ≡ k = omega arith in subst (λ (m : ℕ). slice_get designs m ≡ Some t) e (follow 0 t refl)

rest_of : (designs : List TableDesign) (k : ℕ) (t : TableDesign) (made : List TableDesign) → Follow designs k (t ∷ made) → Follow designs (suc k) made
rest_of designs k t made follow i u at =
    let e : k + suc i ≡ suc k + i = omega arith in subst (λ (m : ℕ). slice_get designs m ≡ Some u) e (follow (suc i) u at)

-- what has another name than the tables is as it was
abbrev pub KeepsOthers : List TableDesign → State → State → Type 0
KeepsOthers designs z next =
    (name : List ℕ) → ((t : TableDesign) → Contains designs t → quoted_name t.name ≡ name → ⊥) → next name ≡ z name

at_position : (designs : List TableDesign) (k : ℕ) (t : TableDesign) → slice_get designs k ≡ Some t → Contains designs t
at_position designs k t at = got_member designs k t at

module _ (fails : Fails) (cast : Cast) (s : Schema) (name : List ℕ) (cell : Cells) (r : Relation) (designs : List TableDesign) (start : State)
    (sound : IsSoundRun fails cast s name cell r designs start) where
  -- ---- tables that are made
  remark_passes : (words : List ℕ) (m f : ℕ) (z : State) → f ≤ m → IsAt s cast cell r designs m f z → tried fails cast (remark words) z ≡ Some z
  remark_passes words m f z order at = goes_on fails cast s name cell r designs start sound m f (remark words) z z order at refl

  remarks_pass : (words : List (List ℕ)) (k : ℕ) (z : State) → IsAt s cast cell r designs k 0 z → steps fails cast (map remark words) z ≡ Some z
  remarks_pass [] k z at = refl
  remarks_pass (first ∷ words) k z at =
      step_next fails cast (remark first) (map remark words) z z (Some z) (remark_passes first k 0 z (omega arith) at)
      (remarks_pass words k z at)

  after_made : (k : ℕ) (t : TableDesign) (z : State) → slice_get designs k ≡ Some t → IsAt s cast cell r designs k 0 z
      → IsAt s cast cell r designs (suc k) 0 (with_name (quoted_name t.name) (Some (table false (new_table s t))) z)
  after_made k t z at stage =
      let held = Some (table false (new_table s t)) in
      let past : (i : ℕ) (u : TableDesign) → slice_get designs i ≡ Some u → (i ≡ k → ⊥) → with_name (quoted_name t.name) held z (quoted_name u.name) ≡ z (quoted_name u.name) =
      λ i u got other. past_name (quoted_name t.name) (quoted_name u.name) held z (apart_at designs sound.free.differ i k u t got at other) in
      record {
        none = λ i u got low. past i u got (λ same. absurd (omega (arith, low, same))) ∙ stage.none i u got (omega (arith, low));
        new = λ i u got low zero_le. elim (cases_eq i k) [
          | inl same ↦
              let is = some_is u t (sym got ∙ ap (slice_get designs) same ∙ at) in
              subst (λ (v : TableDesign). with_name (quoted_name t.name) held z (quoted_name v.name) ≡ Some (table false (new_table s v))) (sym is)
              (at_name (quoted_name t.name) held z)
          | inr other ↦ past i u got other ∙ stage.new i u got (omega (arith, low, other)) (omega arith)
        ];
        full = λ i u got low. absurd (omega (arith, low));
      }

  pub tables_make : (ts : List TableDesign) (k : ℕ) (z : State) → Follow designs k ts → k + length ts ≡ length designs → IsAt s cast cell r designs k 0 z
      → (next : State) × (steps fails cast (tables_made s designs ts) z ≡ Some next) × IsAt s cast cell r designs (length designs) 0 next × KeepsOthers designs z next
  tables_make [] k z follow long stage =
      let is : k ≡ length designs = omega (arith, long) in
      (z, refl, subst (λ (m : ℕ). IsAt s cast cell r designs m 0 z) is stage, λ other free. refl)
  tables_make (t ∷ ts) k z follow long stage =
      let at = first_of designs k t ts follow in
      let own = quoted_name t.name in
      let next = with_name own (Some (table false (new_table s t))) z in
      let later = after_made k t z at stage in
      let is : done cast (create_table own (elements_made s designs t)) z ≡ Some next =
      ap (λ (names : List (List ℕ)). made own (table false (with_names names [])) z) (elements_named s designs t)
      ∙ made_free own (table false (new_table s t)) z (stage.none k t at (omega arith)) in
      let one : steps fails cast (table_made s designs t) z ≡ Some next =
      steps_append fails cast (remarks_made s t) (create_table own (elements_made s designs t) ∷ []) z z next
      (remarks_pass (said_of s t) k z stage)
      (step_next fails cast (create_table own (elements_made s designs t)) [] z next (Some next)
      (goes_on fails cast s name cell r designs start sound (suc k) 0 (create_table own (elements_made s designs t)) z next (omega arith) later is) refl) in
      let rest = tables_make ts (suc k) next (rest_of designs k t ts follow) (omega (arith, long)) later in (
        rest.0,
        steps_append fails cast (table_made s designs t) (tables_made s designs ts) z next rest.0 one rest.1,
        rest.2,
        λ other free. rest.3 other free
            ∙ past_name own other (Some (table false (new_table s t))) z (λ same. free t (at_position designs k t at) (sym same)),
      )

  -- ---- tables that are filled
  filled-known : (d : TableDesign) (z : State) → IsCopied z s cell r
      → evaluate (engine_at cast z) (fill_query s d)
      ≡ Some (with_items true (moved_on s Entering (attributes d.scheme)) (map (λ t. row_at s cast cell (members_below (width_of s) (attributes d.scheme)) (value_at t)) (complete_for s cell d r)))
  unfolding fill_query
  filled-known d z is =
      let x = attributes d.scheme in
      let items = moved_on s Entering x in
      ap (λ (held : Option Held). option_and_then (selected cast true items (codes "o") (complete_rows s (attributes d.key))) (rows_found cast z held)) is
      ∙ fill-selected cast s cell d r items
      ∙ ap (option_map (with_items true items))
      (each-known (λ (t : Tuple). each (item_value cast (row_of_copy s cell t)) items) (λ (t : Tuple). row_at s cast cell (members_below (width_of s) x) (value_at t)) (complete_for s cell d r)
      (λ t h. entered-row s cast cell x t
      ∙ each-known (λ (k : ℕ). entered_cell s cast cell k (value_at t k)) (λ (k : ℕ). entered s cast cell k (value_at t k)) (members_below (width_of s) x)
      (λ k m. entered-known cast s cell r sound.casts sound.integers k t (member_of (width_of s) x k m).0 (complete-within s cell d r t h))))

  into-known : (t : TableDesign) (z : State) → IsCopied z s cell r → z (quoted_name t.name) ≡ Some (table false (new_table s t))
      → done cast (fill s t) z ≡ Some (with_name (quoted_name t.name) (Some (table false (full_table s cast cell r t))) z)
  unfolding fill
  into-known t z is new =
      let own = quoted_name t.name in
      let x = attributes t.scheme in
      let items = moved_on s Entering x in
      let rows = with_items true items (map (λ u. row_at s cast cell (members_below (width_of s) x) (value_at u)) (complete_for s cell t r)) in
      let go = option_and_then (inserted own z) (evaluate (engine_at cast z) (fill_query s t)) in
      let full = full_table s cast cell r t in
      let fits : has_columns (map bytes_of (attribute_names s x)) (z own) ≡ true =
      ap (has_columns (map bytes_of (attribute_names s x))) new
      ∙ ap (pointwise bytes_eq (names_on s x)) (attribute_names-are s x)
      ∙ (pointwise_decides bytes_same (names_on s x) (names_on s x)).1 refl in
      let long : (length (names_on s x) == length rows.names) ≡ true =
      eq-eqb (length (names_on s x)) (length rows.names)
      (length-map (members_below (width_of s) x) (name_at s)
      ∙ sym (length-map items item_name ∙ length-map (members_below (width_of s) x) (moved_at s Entering))) in
      let put : with_rows false (new_table s t) rows ≡ Some (table false full) =
      ap (λ (b : Bool). if not b then None else Some (table false (both_rows (new_table s t) rows))) long in
      ap (λ (b : Bool). if b then go else None) fits
      ∙ ap (option_and_then (inserted own z)) (filled-known t z is)
      ∙ ap (λ (held : Option Held). option_map (λ h. with_name own (Some h) z) (filled held rows)) new
      ∙ ap (option_map (λ (h : Held). with_name own (Some h) z)) put

  after_filled : (k : ℕ) (t : TableDesign) (z : State) → slice_get designs k ≡ Some t → IsAt s cast cell r designs (length designs) k z
      → IsAt s cast cell r designs (length designs) (suc k) (with_name (quoted_name t.name) (Some (table false (full_table s cast cell r t))) z)
  after_filled k t z at stage =
      let held = Some (table false (full_table s cast cell r t)) in
      let past : (i : ℕ) (u : TableDesign) → slice_get designs i ≡ Some u → (i ≡ k → ⊥) → with_name (quoted_name t.name) held z (quoted_name u.name) ≡ z (quoted_name u.name) =
      λ i u got other. past_name (quoted_name t.name) (quoted_name u.name) held z (apart_at designs sound.free.differ i k u t got at other) in
      record {
        none = λ i u got past_end. let low = slice_get_within designs i u got in absurd (omega (arith, low, past_end));
        new = λ i u got low still. past i u got (λ same. absurd (omega (arith, still, same))) ∙ stage.new i u got low (omega (arith, still));
        full = λ i u got low. elim (cases_eq i k) [
          | inl same ↦
              let is = some_is u t (sym got ∙ ap (slice_get designs) same ∙ at) in
              subst (λ (v : TableDesign). with_name (quoted_name t.name) held z (quoted_name v.name) ≡ Some (table false (full_table s cast cell r v))) (sym is)
              (at_name (quoted_name t.name) held z)
          | inr other ↦ past i u got other ∙ stage.full i u got (omega (arith, low, other))
        ];
      }

  pub tables_fill : (ts : List TableDesign) (k : ℕ) (z : State) → Follow designs k ts → k + length ts ≡ length designs
      → IsAt s cast cell r designs (length designs) k z → IsCopied z s cell r
      → (next : State) × (steps fails cast (map (fill s) ts) z ≡ Some next) × IsAt s cast cell r designs (length designs) (length designs) next × KeepsOthers designs z next
  tables_fill [] k z follow long stage is =
      let end : k ≡ length designs = omega (arith, long) in
      (z, refl, subst (λ (f : ℕ). IsAt s cast cell r designs (length designs) f z) end stage, λ other free. refl)
  tables_fill (t ∷ ts) k z follow long stage is =
      let at = first_of designs k t ts follow in
      let low = slice_get_within designs k t at in
      let own = quoted_name t.name in
      let held = Some (table false (full_table s cast cell r t)) in
      let next = with_name own held z in
      let later = after_filled k t z at stage in
      let one = goes_on fails cast s name cell r designs start sound (length designs) (suc k) (fill s t) z next (omega (arith, low)) later
      (into-known t z is (stage.new k t at low (omega arith))) in
      let still : IsCopied next s cell r =
      past_name own copy_name held z (λ same. sound.free.not_copy t (at_position designs k t at) (sym same)) ∙ is in
      let rest = tables_fill ts (suc k) next (rest_of designs k t ts follow) (omega (arith, long)) later still in (
        rest.0,
        step_next fails cast (fill s t) (map (fill s) ts) z next (Some rest.0) one rest.1,
        rest.2,
        λ other free. rest.3 other free ∙ past_name own other held z (λ same. free t (at_position designs k t at) (sym same)),
      )
