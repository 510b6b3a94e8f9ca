-- What single statements of the script leave, where none is an error.
use Rattle.std.proofs.Common.{◌≡◌, ℕ, Bool, true, false, not, List, [], ◌∷◌, ◌++◌, length, map, Some, None, Option, refl, sym, ap, subst, ◌∙◌, inl, inr, ⊎_elim, arith}
use Rattle.std.proofs.lemmas.Bool.{cases_Bool, true≢false}
use Rattle.std.specs.Prelude.{Contains, ◌==◌, if◌then◌else◌, option_map, option_and_then, is_some}
use Rattle.std.specs.Str.{bytes_eq}
use Rattle.attr_sets.specs.Sets.{attributes}
use Rattle.schema_model.specs.Schemas.{Schema}
use Rattle.dep_model.proofs.ListLemmas.{Contains-head, Contains-later, Contains-cases}
use Rattle.ddl_text.specs.declared.table.TableDesign.{TableDesign}
use Rattle.sql_syntax.specs.Names.{quoted_name}
use Rattle.sql_syntax.specs.Statements.{Statement, remark, create_table}
use Rattle.sql_evaluation.specs.Values.{bytes_of}
use Rattle.sql_evaluation.specs.Evaluation.{Rows, evaluate}
use Rattle.sql_evaluation.specs.Running.{Held, table, State, Cast, Fails, tried, done, made, with_name, with_rows, filled, inserted, has_columns, all_zeros, column_names, engine_at}
use Rattle.sql_check_laws.proofs.ColumnLemmas.{bytes_same, bytes_self}
use Rattle.sql_check_laws.proofs.RowLemmas.{none_is_not_some, some_is}
use Rattle.sql_syntax.specs.Names.{attribute_names}
use Rattle.ddl_text.specs.Ddl.{elements_made, said_of, remarks_made, table_made, tables_made}
use Rattle.sql_migrate.specs.Script.{fill, fill_query}
use Rattle.sql_migrate_laws.proofs.RunLemmas.{steps}

-- ---- errors
pub bind_some : {X Y : Type 0} (f : X → Option Y) (found : Option X) (y : Y) → option_and_then f found ≡ Some y
    → (x : X) × (found ≡ Some x) × (f x ≡ Some y)
bind_some f None y e = absurd (none_is_not_some y e)
bind_some f (Some x) y e = (x, refl, e)

pub map_some : {X Y : Type 0} (f : X → Y) (found : Option X) (y : Y) → option_map f found ≡ Some y → (x : X) × (found ≡ Some x) × (f x ≡ y)
map_some f None y e = absurd (none_is_not_some y e)
map_some f (Some x) y e = (x, refl, some_is (f x) y e)

pub unless_some : {X : Type 0} (b : Bool) (found : Option X) (y : X) → (if b then None else found) ≡ Some y → (b ≡ false) × (found ≡ Some y)
unless_some true found y e = absurd (none_is_not_some y e)
unless_some false found y e = (refl, e)

pub when_some : {X : Type 0} (b : Bool) (found : Option X) (y : X) → (if b then found else None) ≡ Some y → (b ≡ true) × (found ≡ Some y)
when_some true found y e = (refl, e)
when_some false found y e = absurd (none_is_not_some y e)

none_from : {X : Type 0} (found : Option X) → is_some found ≡ false → found ≡ None
none_from None e = refl
none_from (Some x) e = absurd (true≢false e)

pub some_from : {X : Type 0} (found : Option X) → is_some found ≡ true → (x : X) × (found ≡ Some x)
some_from None e = absurd (true≢false (sym e))
some_from (Some x) e = (x, refl)

-- ---- names
pub not_same : (a b : List ℕ) → (a ≡ b → ⊥) → bytes_eq a b ≡ false
not_same a b differ = elim (cases_Bool (bytes_eq a b)) [
  | inl same ↦ absurd (differ ((bytes_same a b).0 same))
  | inr other ↦ other
]

pub apart : (state : State) (a b : List ℕ) (held : Held) → state a ≡ Some held → state b ≡ None → a ≡ b → ⊥
apart state a b held is free same = none_is_not_some held (sym free ∙ ap state (sym same) ∙ is)

pub at_name : (name : List ℕ) (held : Option Held) (state : State) → with_name name held state name ≡ held
at_name name held state = ap (λ (b : Bool). if b then held else state name) (bytes_self name)

pub past_name : (name other : List ℕ) (held : Option Held) (state : State) → (other ≡ name → ⊥) → with_name name held state other ≡ state other
past_name name other held state differ = ap (λ (b : Bool). if b then held else state other) (not_same other name differ)

-- ---- statements
pub was_done : (fails : Fails) (cast : Cast) (x : Statement) (state next : State) → tried fails cast x state ≡ Some next → done cast x state ≡ Some next
was_done fails cast x state next e = (unless_some (fails x state) (done cast x state) next e).1

pub was_made : (name : List ℕ) (held : Held) (state next : State) → made name held state ≡ Some next
    → (state name ≡ None) × (next ≡ with_name name (Some held) state)
was_made name held state next e =
    let found = unless_some (is_some (state name)) (Some (with_name name (Some held) state)) next e in
    (none_from (state name) found.0, sym (some_is (with_name name (Some held) state) next found.1))

pub steps_after : (fails : Fails) (cast : Cast) (xs ys : List Statement) (state last : State) → steps fails cast (xs ++ ys) state ≡ Some last
    → (next : State) × (steps fails cast xs state ≡ Some next) × (steps fails cast ys next ≡ Some last)
steps_after fails cast [] ys state last e = (state, refl, e)
steps_after fails cast (x ∷ xs) ys state last e =
    let first = bind_some (steps fails cast (xs ++ ys)) (tried fails cast x state) last e in
    let rest = steps_after fails cast xs ys first.0 last first.2 in
    (rest.0, ap (option_and_then (steps fails cast xs)) first.1 ∙ rest.1, rest.2)

-- ---- tables that are created
-- what stood there is there still
abbrev pub Keeps : State → State → Type 0
Keeps state next = (name : List ℕ) (held : Held) → state name ≡ Some held → next name ≡ Some held

-- a table without rows
abbrev pub IsNew : State → TableDesign → Type 0
IsNew state design = (names : List (List ℕ)) × (state (quoted_name design.name) ≡ Some (table false (record { names = names; rows = [] })))

-- no two have one name
abbrev pub Apart : List TableDesign → Type 0
Apart [] = Unit {0}
Apart (t ∷ ts) = ((u : TableDesign) → Contains ts u → quoted_name u.name ≡ quoted_name t.name → ⊥) × Apart ts

pub record AreCreated (state next : State) (made : List TableDesign) : Type 0 where
  pub keeps : Keeps state next
  pub new : (t : TableDesign) → Contains made t → IsNew next t
  pub free : (t : TableDesign) → Contains made t → state (quoted_name t.name) ≡ None
  pub apart : Apart made
  pub others : (name : List ℕ) → ((t : TableDesign) → Contains made t → name ≡ quoted_name t.name → ⊥) → next name ≡ state name

remarks_pass : (fails : Fails) (cast : Cast) (words : List (List ℕ)) (state next : State)
    → steps fails cast (map remark words) state ≡ Some next → state ≡ next
remarks_pass fails cast [] state next e = some_is state next e
remarks_pass fails cast (one ∷ words) state next e =
    let first = bind_some (steps fails cast (map remark words)) (tried fails cast (remark one) state) next e in
    some_is state first.0 (was_done fails cast (remark one) state first.0 first.1)
    ∙ remarks_pass fails cast words first.0 next first.2

table_created : (fails : Fails) (cast : Cast) (s : Schema) (tables : List TableDesign) (t : TableDesign) (state next : State)
    → steps fails cast (table_made s tables t) state ≡ Some next
    → (state (quoted_name t.name) ≡ None)
    × (next ≡ with_name (quoted_name t.name) (Some (table false (record { names = column_names (elements_made s tables t); rows = [] }))) state)
table_created fails cast s tables t state next e =
    let create = create_table (quoted_name t.name) (elements_made s tables t) in
    let parts = steps_after fails cast (remarks_made s t) (create ∷ []) state next e in
    let same = remarks_pass fails cast (said_of s t) state parts.0 parts.1 in
    let here = subst (λ (z : State). steps fails cast (create ∷ []) z ≡ Some next) (sym same) parts.2 in
    let first = bind_some (steps fails cast []) (tried fails cast create state) next here in
    let found = was_made (quoted_name t.name) (table false (record { names = column_names (elements_made s tables t); rows = [] })) state first.0
    (was_done fails cast create state first.0 first.1) in
    (found.0, sym (some_is first.0 next first.2) ∙ found.1)

pub tables_created : (fails : Fails) (cast : Cast) (s : Schema) (tables made : List TableDesign) (state next : State)
    → steps fails cast (tables_made s tables made) state ≡ Some next → AreCreated state next made
tables_created fails cast s tables [] state next e = record {
  keeps = λ name held is. subst (λ (z : State). z name ≡ Some held) (some_is state next e) is;
  new = λ t h. absurd (omega (arith, h.1));
  free = λ t h. absurd (omega (arith, h.1));
  apart = tt;
  others = λ name free. ap (λ (z : State). z name) (sym (some_is state next e));
}
tables_created fails cast s tables (t ∷ made) state next e =
    let parts = steps_after fails cast (table_made s tables t) (tables_made s tables made) state next e in
    let empty : Held = table false (record { names = column_names (elements_made s tables t); rows = [] }) in
    let first = table_created fails cast s tables t state parts.0 parts.1 in
    let rest = tables_created fails cast s tables made parts.0 next parts.2 in
    let here : parts.0 (quoted_name t.name) ≡ Some empty = ap (λ (z : State). z (quoted_name t.name)) first.1 ∙ at_name (quoted_name t.name) (Some empty) state in
    let before : (name : List ℕ) → (name ≡ quoted_name t.name → ⊥) → parts.0 name ≡ state name =
    λ name differ. ap (λ (z : State). z name) first.1 ∙ past_name (quoted_name t.name) name (Some empty) state differ in
    let other : (u : TableDesign) → Contains made u → quoted_name u.name ≡ quoted_name t.name → ⊥ =
    λ u h same. apart parts.0 (quoted_name t.name) (quoted_name u.name) empty here (rest.free u h) (sym same) in
    record {
      keeps = λ name held is. rest.keeps name held (before name (apart state name (quoted_name t.name) held is first.0) ∙ is);
      new = λ u h. ⊎_elim
          (λ (same : u ≡ t). subst (IsNew next) (sym same) (column_names (elements_made s tables t), rest.keeps (quoted_name t.name) empty here))
          (λ later. rest.new u later) (Contains-cases t made u h);
      free = λ u h. ⊎_elim
          (λ (same : u ≡ t). ap (λ (d : TableDesign). state (quoted_name d.name)) same ∙ first.0)
          (λ later. sym (before (quoted_name u.name) (other u later)) ∙ rest.free u later) (Contains-cases t made u h);
      apart = (other, rest.apart);
      others = λ name free. rest.others name (λ u h. free u (Contains-later t made u h)) ∙ before name (free t (Contains-head t made));
    }

-- ---- tables that are filled
-- rows that go into a table without a check
pub put_in : (zeros : Bool) (old new : Rows) (held : Held) → with_rows zeros old new ≡ Some held
    → held ≡ table zeros (record { names = old.names; rows = old.rows ++ new.rows })
put_in zeros old new held e =
    let rows : Held = table zeros (record { names = old.names; rows = old.rows ++ new.rows }) in
    let fits = unless_some (not (length old.names == length new.names)) (if zeros then (if all_zeros new.rows then Some rows else None) else Some rows) held e in
    by_check zeros (all_zeros new.rows) rows held fits.1
  where
    by_check : (check zero : Bool) (rows held : Held) → (if check then (if zero then Some rows else None) else Some rows) ≡ Some held → held ≡ rows
    by_check true true rows held e = sym (some_is rows held e)
    by_check true false rows held e = absurd (none_is_not_some held e)
    by_check false zero rows held e = sym (some_is rows held e)

pub checked : (old new : Rows) (held : Held) → with_rows true old new ≡ Some held → all_zeros new.rows ≡ true
checked old new held e =
    let rows : Held = table true (record { names = old.names; rows = old.rows ++ new.rows }) in
    let fits = unless_some (not (length old.names == length new.names)) (if all_zeros new.rows then Some rows else None) held e in
    (when_some (all_zeros new.rows) (Some rows) held fits.1).0

-- rows went into a table
pub was_inserted : (name : List ℕ) (state next : State) (zeros : Bool) (old new : Rows) → state name ≡ Some (table zeros old)
    → inserted name state new ≡ Some next
    → (with_rows zeros old new ≡ Some (table zeros (record { names = old.names; rows = old.rows ++ new.rows })))
    × (next ≡ with_name name (Some (table zeros (record { names = old.names; rows = old.rows ++ new.rows }))) state)
was_inserted name state next zeros old new is e =
    let found = map_some (λ held. with_name name (Some held) state) (filled (state name) new) next e in
    let fits : with_rows zeros old new ≡ Some found.0 = sym (ap (λ (h : Option Held). filled h new) is) ∙ found.1 in
    let rows = put_in zeros old new found.0 fits in
    (fits ∙ ap (λ (h : Held). Some h) rows, sym found.2 ∙ ap (λ (h : Held). with_name name (Some h) state) rows)

-- what a query gives, as it is seen by the tables
abbrev pub FillsFrom : Cast → Schema → State → TableDesign → Rows → Type 0
FillsFrom cast s state t new = evaluate (engine_at cast state) (fill_query s t) ≡ Some new

abbrev pub IsFilled : State → TableDesign → Rows → Type 0
IsFilled state t new = (names : List (List ℕ)) × (state (quoted_name t.name) ≡ Some (table false (record { names = names; rows = new.rows })))

pub table_filled : (fails : Fails) (cast : Cast) (s : Schema) (t : TableDesign) (state next : State) → IsNew state t
    → tried fails cast (fill s t) state ≡ Some next
    → (new : Rows) × FillsFrom cast s state t new × IsFilled next t new
    × ((name : List ℕ) → (name ≡ quoted_name t.name → ⊥) → next name ≡ state name)
unfolding fill
table_filled fails cast s t state next new e =
    let name = quoted_name t.name in
    let go = option_and_then (inserted name state) (evaluate (engine_at cast state) (fill_query s t)) in
    let fits = when_some (has_columns (map bytes_of (attribute_names s (attributes t.scheme))) (state name)) go next (was_done fails cast (fill s t) state next e) in
    let found = bind_some (inserted name state) (evaluate (engine_at cast state) (fill_query s t)) next fits.1 in
    let old : Rows = record { names = new.0; rows = [] } in
    let rows = was_inserted name state next false old found.0 new.1 found.2 in
    let held : Held = table false (record { names = new.0; rows = found.0.rows }) in (
      found.0,
      found.1,
      (new.0, ap (λ (z : State). z name) rows.1 ∙ at_name name (Some held) state),
      λ other differ. ap (λ (z : State). z other) rows.1 ∙ past_name name other (Some held) state differ,
    )

-- a table of the copy's name is there, and no table of the design has this name
pub record HasCopy (state : State) (name : List ℕ) (copied : Rows) (made : List TableDesign) : Type 0 where
  pub there : state name ≡ Some (table false copied)
  pub apart : (t : TableDesign) → Contains made t → name ≡ quoted_name t.name → ⊥

-- what each table is filled with, as `filling` says it
pub record AreFilled (filling : TableDesign → Rows → Type 0) (state next : State) (made : List TableDesign) : Type 0 where
  pub filled : (t : TableDesign) → Contains made t → (new : Rows) × filling t new × IsFilled next t new
  pub others : (name : List ℕ) → ((t : TableDesign) → Contains made t → name ≡ quoted_name t.name → ⊥) → next name ≡ state name

pub tables_filled : (fails : Fails) (cast : Cast) (s : Schema) (copy : List ℕ) (copied : Rows) (filling : TableDesign → Rows → Type 0)
    → ((z : State) (t : TableDesign) (new : Rows) → z copy ≡ Some (table false copied) → FillsFrom cast s z t new → filling t new)
    → (made : List TableDesign) (state next : State) → steps fails cast (map (fill s) made) state ≡ Some next
    → HasCopy state copy copied made → Apart made → ((t : TableDesign) → Contains made t → IsNew state t)
    → AreFilled filling state next made
tables_filled fails cast s copy copied filling read [] state next e has differ new = record {
  filled = λ t h. absurd (omega (arith, h.1));
  others = λ name free. ap (λ (z : State). z name) (sym (some_is state next e));
}
tables_filled fails cast s copy copied filling read (t ∷ made) state next e has differ new =
    let first = bind_some (steps fails cast (map (fill s) made)) (tried fails cast (fill s t) state) next e in
    let one = table_filled fails cast s t state first.0 (new t (Contains-head t made)) first.1 in
    let others = one.3 in
    let has' : HasCopy first.0 copy copied made = record {
      there = others copy (has.apart t (Contains-head t made)) ∙ has.there;
      apart = λ u h. has.apart u (Contains-later t made u h);
    } in
    let still : (u : TableDesign) → Contains made u → IsNew first.0 u =
    λ u h. let old = new u (Contains-later t made u h) in (old.0, others (quoted_name u.name) (differ.0 u h) ∙ old.1) in
    let rest = tables_filled fails cast s copy copied filling read made first.0 next first.2 has' differ.1 still in
    let names = one.2.0 in
    let kept : next (quoted_name t.name) ≡ first.0 (quoted_name t.name) =
    rest.others (quoted_name t.name) (λ u h same. differ.0 u h (sym same)) in
    record {
      filled = λ u h. ⊎_elim
          (λ (same : u ≡ t). subst (λ (d : TableDesign). (rows : Rows) × filling d rows × IsFilled next d rows) (sym same)
          (one.0, read state t one.0 has.there one.1, (names, kept ∙ one.2.1)))
          (λ later. rest.filled u later) (Contains-cases t made u h);
      others = λ name free. rest.others name (λ u h. free u (Contains-later t made u h)) ∙ others name (free t (Contains-head t made));
    }
