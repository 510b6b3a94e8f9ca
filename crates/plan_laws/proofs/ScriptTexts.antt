-- Two designs that are the same table by table have one script.
use Rattle.std.proofs.Common.{◌≡◌, ℕ, zero, suc, Bool, true, false, not, List, [], ◌∷◌, ◌++◌, length, map, refl, sym, ap, subst, ◌∙◌}
use Rattle.std.proofs.lemmas.List.{reverse-append}
use Rattle.std.specs.Prelude.{if◌then◌else◌, reverse, codes}
use Rattle.std.specs.List.{AllZip}
use Rattle.attr_sets.specs.Attributes.{Attributes, none, union, intersection}
use Rattle.attr_sets.specs.Sets.{attributes, is_disjoint}
use Rattle.dep_model.specs.JoinOrders.{put_first, of_first, joined_next}
use Rattle.schema_model.specs.Schemas.{Schema}
use Rattle.schema_model.specs.Schemas.{universe_of}
use Rattle.ddl_text.specs.Ddl.{tables_made}
use Rattle.ddl_text.specs.declared.table.TableDesign.{TableDesign}
use Rattle.sql_syntax.specs.Names.{attribute_names, quoted_name}
use Rattle.sql_syntax.specs.Syntax.{ColumnName, Link, Query, joined}
use Rattle.sql_syntax.specs.Statements.{Statement, remark, begin, commit, create_from, create_view, script_text}
use Rattle.sql_migrate.specs.declared.joining.JoinedTable.{JoinedTable}
use Rattle.sql_migrate.specs.Script.{copy_name, view_name, copy_query, fill, fill_query, filled_tables, link, links, look_up, looked_up_tables, join_of, joined_tables, scheme_of_joined, view_order, view_query, testing}
use Rattle.sql_scripts.specs.Migrating.{migrate_text}
use Rattle.plan_laws.proofs.DesignTexts.{tables_same}
use Rattle.plan_laws.proofs.LookUpTexts.{filled_same, look_ups_same}
use Rattle.plan_laws.specs.SameDesigns.{IsSameTable, AreSameTables}

-- ---- what fills them
fill_same : (s : Schema) (t u : TableDesign) → IsSameTable t u → fill s t ≡ fill s u
unfolding fill fill_query
fill_same s t u same = simp (same.name, same.columns, same.key)

fills_same : (s : Schema) (one other : List TableDesign) → AreSameTables one other → map (fill s) one ≡ map (fill s) other
fills_same s [] [] same = refl
fills_same s [] (u ∷ us) same = absurd same
fills_same s (t ∷ ts) [] same = absurd same
fills_same s (t ∷ ts) (u ∷ us) same =
    ap (λ (x : Statement). x ∷ map (fill s) ts) (fill_same s t u same.0)
    ∙ ap (λ (rest : List Statement). fill s u ∷ rest) (fills_same s ts us same.1)

-- ---- the view
-- two tables of one name and the same columns
record IsAlike (t u : JoinedTable) : Type 0 where
  name : t.name ≡ u.name
  columns : attributes t.scheme ≡ attributes u.scheme

abbrev AreAlike : List JoinedTable → List JoinedTable → Type 0
AreAlike one other = AllZip IsAlike one other

alike_joined : (one other : List TableDesign) → AreSameTables one other → AreAlike (joined_tables one) (joined_tables other)
alike_joined [] [] same = tt
alike_joined [] (u ∷ us) same = absurd same
alike_joined (t ∷ ts) [] same = absurd same
alike_joined (t ∷ ts) (u ∷ us) same = (record { name = same.0.name; columns = same.0.columns }, alike_joined ts us same.1)

alike_after : (one other more beyond : List JoinedTable) → AreAlike one other → AreAlike more beyond → AreAlike (one ++ more) (other ++ beyond)
alike_after [] [] more beyond same rest = rest
alike_after [] (u ∷ us) more beyond same rest = absurd same
alike_after (t ∷ ts) [] more beyond same rest = absurd same
alike_after (t ∷ ts) (u ∷ us) more beyond same rest = (same.0, alike_after ts us more beyond same.1 rest)

alike_reversed : (one other : List JoinedTable) → AreAlike one other → AreAlike (reverse one) (reverse other)
alike_reversed [] [] same = tt
alike_reversed [] (u ∷ us) same = absurd same
alike_reversed (t ∷ ts) [] same = absurd same
alike_reversed (t ∷ ts) (u ∷ us) same =
    subst (λ (z : List JoinedTable). AreAlike z (reverse (u ∷ us))) (sym (reverse-append (t ∷ []) ts))
    (subst (λ (z : List JoinedTable). AreAlike (reverse ts ++ t ∷ []) z) (sym (reverse-append (u ∷ []) us))
    (alike_after (reverse ts) (reverse us) (t ∷ []) (u ∷ []) (alike_reversed ts us same.1) (same.0, tt)))

length_same : (one other : List JoinedTable) → AreAlike one other → length one ≡ length other
length_same [] [] same = refl
length_same [] (u ∷ us) same = absurd same
length_same (t ∷ ts) [] same = absurd same
length_same (t ∷ ts) (u ∷ us) same = ap (λ (n : ℕ). suc n) (length_same ts us same.1)

abbrev shares : Attributes → JoinedTable → Bool
shares seen t = not (is_disjoint seen (attributes t.scheme))

alike_put : (seen : Attributes) (passed before one other : List JoinedTable) → AreAlike passed before → AreAlike one other
    → AreAlike (put_first (shares seen) passed one) (put_first (shares seen) before other)
alike_put seen passed before [] [] front same = front
alike_put seen passed before [] (u ∷ us) front same = absurd same
alike_put seen passed before (t ∷ ts) [] front same = absurd same
alike_put seen passed before (t ∷ ts) (u ∷ us) front same =
    subst (λ (b : Bool). AreAlike (put_first (shares seen) passed (t ∷ ts)) (if b then u ∷ (before ++ us) else put_first (shares seen) (before ++ u ∷ []) us))
    (ap (λ (x : Attributes). not (is_disjoint seen x)) same.0.columns)
    (by_test (shares seen t) (alike_put seen (passed ++ t ∷ []) (before ++ u ∷ []) ts us (alike_after passed before (t ∷ []) (u ∷ []) front (same.0, tt)) same.1))
  where
    by_test : (b : Bool) → AreAlike (put_first (shares seen) (passed ++ t ∷ []) ts) (put_first (shares seen) (before ++ u ∷ []) us)
        → AreAlike (if b then t ∷ (passed ++ ts) else put_first (shares seen) (passed ++ t ∷ []) ts)
        (if b then u ∷ (before ++ us) else put_first (shares seen) (before ++ u ∷ []) us)
    by_test true later = (same.0, alike_after passed before ts us front same.1)
    by_test false later = later

alike_next : (n : ℕ) (seen : Attributes) (one other : List JoinedTable) → AreAlike one other → AreAlike (joined_next scheme_of_joined n seen one) (joined_next scheme_of_joined n seen other)
alike_next zero seen one other same = tt
alike_next (suc n) seen one other same =
    first_of (put_first (shares seen) [] one) (put_first (shares seen) [] other) (alike_put seen [] [] one other tt same) (alike_next n)
  where
    first_of : (found found' : List JoinedTable) → AreAlike found found'
        → ((z : Attributes) (ts us : List JoinedTable) → AreAlike ts us → AreAlike (joined_next scheme_of_joined n z ts) (joined_next scheme_of_joined n z us))
        → AreAlike (of_first (λ table rest. table ∷ joined_next scheme_of_joined n (union seen (attributes table.scheme)) rest) found)
        (of_first (λ table rest. table ∷ joined_next scheme_of_joined n (union seen (attributes table.scheme)) rest) found')
    first_of [] [] alike later = tt
    first_of [] (u ∷ us) alike later = absurd alike
    first_of (t ∷ ts) [] alike later = absurd alike
    first_of (t ∷ ts) (u ∷ us) alike later = (
      alike.0,
      subst (λ (z : Attributes). AreAlike (joined_next scheme_of_joined n (union seen (attributes t.scheme)) ts) (joined_next scheme_of_joined n (union seen z) us)) alike.0.columns
          (later (union seen (attributes t.scheme)) ts us alike.1),
    )

alike_order : (one other : List JoinedTable) → AreAlike one other → AreAlike (view_order one) (view_order other)
alike_order one other same =
    subst (λ (n : ℕ). AreAlike (view_order one) (joined_next scheme_of_joined n none (reverse other))) (length_same one other same)
    (alike_next (length one) none (reverse one) (reverse other) (alike_reversed one other same))

links_same : (s : Schema) (seen : Attributes) (one other : List JoinedTable) → AreAlike one other → links s seen one ≡ links s seen other
links_same s seen [] [] same = refl
links_same s seen [] (u ∷ us) same = absurd same
links_same s seen (t ∷ ts) [] same = absurd same
links_same s seen (t ∷ ts) (u ∷ us) same =
    ap (λ (rest : List Link). link s (intersection seen (attributes t.scheme)) t ∷ rest) (links_same s (union seen (attributes t.scheme)) ts us same.1)
    ∙ ap (λ (x : Attributes). linked_by t.name x) same.0.columns ∙ ap (λ (name : List ℕ). linked_by name (attributes u.scheme)) same.0.name
  where
    linked_by : List ℕ → Attributes → List Link
    linked_by name x =
        link s (intersection seen x) (record { name = name; scheme = t.scheme }) ∷ links s (union seen x) us

join_same : (s : Schema) (one other : List JoinedTable) (ts us : List TableDesign) → AreAlike one other
    → map (look_up s) ts ≡ map (look_up s) us → join_of s one ts ≡ join_of s other us
join_same s [] [] ts us same looked_up =
    ap (λ (links : List Link). joined (attribute_names s (universe_of s)) [] links) looked_up
join_same s [] (v ∷ vs) ts us same looked_up = absurd same
join_same s (t ∷ ts') [] ts us same looked_up = absurd same
join_same s (t ∷ more) (u ∷ beyond) ts us same looked_up =
    ap (λ (front : List Link). joined all (quoted_name t.name) (front ++ map (look_up s) ts)) (links_same s (attributes t.scheme) more beyond same.1)
    ∙ ap (λ (last : List Link). joined all (quoted_name t.name) (links s (attributes t.scheme) beyond ++ last)) looked_up
    ∙ ap (λ (x : Attributes). joined all (quoted_name t.name) (links s x beyond ++ map (look_up s) us)) same.0.columns
    ∙ ap (λ (name : List ℕ). joined all (quoted_name name) (links s (attributes u.scheme) beyond ++ map (look_up s) us)) same.0.name
  where
    all : List ColumnName
    all = attribute_names s (universe_of s)

view_same : (s : Schema) (one other : List TableDesign) → AreSameTables one other → view_query s one ≡ view_query s other
unfolding view_query
view_same s one other same =
    join_same s (view_order (joined_tables (filled_tables s one))) (view_order (joined_tables (filled_tables s other)))
    (looked_up_tables s one) (looked_up_tables s other)
    (alike_order (joined_tables (filled_tables s one)) (joined_tables (filled_tables s other))
    (alike_joined (filled_tables s one) (filled_tables s other) (filled_same s one other same)))
    (look_ups_same s one other same)

-- ---- the script
pub script_same : (s : Schema) (table : List ℕ) (one other : List TableDesign) → AreSameTables one other
    → migrate_text s table one ≡ migrate_text s table other
script_same s table one other same =
    ap (λ (made : List Statement). whole made (map (fill s) one) (view_query s one)) (tables_same s one other one other same same)
    ∙ ap (λ (fills : List Statement). whole (tables_made s other other) fills (view_query s one)) (fills_same s one other same)
    ∙ ap (λ (q : Query). whole (tables_made s other other) (map (fill s) other) q) (view_same s one other same)
  where
    whole : List Statement → List Statement → Query → List ℕ
    whole made fills q =
        script_text (remark (codes "all of it or nothing, where the first error ends it: psql -v ON_ERROR_STOP=1, sqlite3 -bail")
        ∷ begin ∷ ((create_from copy_name (copy_query s table) ∷ (made ++ (fills ++ (create_view view_name q ∷ testing s table)))) ++ commit ∷ []))
