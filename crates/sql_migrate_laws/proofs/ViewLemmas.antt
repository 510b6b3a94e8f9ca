-- The view gives the same in states that have the same in the tables of the design.
use Rattle.std.proofs.Common.{◌≡◌, ℕ, Bool, true, false, List, [], ◌∷◌, ◌++◌, map, Some, None, Option, refl, sym, ap, ◌∙◌}
use Rattle.std.specs.Prelude.{Contains, if◌then◌else◌, option_and_then, codes}
use Rattle.attr_sets.specs.Attributes.{Attributes, union, intersection}
use Rattle.attr_sets.specs.Sets.{attributes}
use Rattle.schema_model.specs.Schemas.{Schema}
use Rattle.schema_model.specs.Schemas.{universe_of}
use Rattle.dep_model.proofs.ListLemmas.{Contains-head, Contains-later}
use Rattle.ddl_text.specs.Ddl.{is_empty}
use Rattle.ddl_text.specs.declared.table.TableDesign.{TableDesign}
use Rattle.sql_syntax.specs.Names.{attribute_names, quoted_name}
use Rattle.sql_syntax.specs.Syntax.{Link, by_columns, crosswise, each_row}
use Rattle.sql_evaluation.specs.Values.{bytes_of}
use Rattle.sql_evaluation.specs.Evaluation.{Rows, Engine, joined_by, left_joined_by, columns_of, linked, all_linked, selected, evaluate}
use Rattle.sql_evaluation.specs.Running.{Held, view, State, Cast, rows_of_table, rows_found, engine_at}
use Rattle.sql_migrate.specs.declared.joining.JoinedTable.{JoinedTable}
use Rattle.sql_migrate.specs.declared.moving.Move.TheVariants.{Returning}
use Rattle.sql_migrate.specs.Moving.{moved_on}
use Rattle.sql_migrate.specs.Script.{link, links, look_up, join_of, joined_tables, filled_tables, looked_up_tables, view_name, view_order, view_query, viewed_rows}
use Rattle.sql_migrate_laws.proofs.OrderedLemmas.{Each, each_after, each_ordered}
use Rattle.sql_migrate_laws.proofs.PositionLemmas.{filled_within, looked_up_within}

-- ---- engines that have the same
abbrev Agree : Engine → Engine → List ℕ → Type 0
Agree e f name = e.tables name ≡ f.tables name

-- a table is joined alike to whatever stands before it
abbrev LinkAgrees : Engine → Engine → Link → Type 0
LinkAgrees e f l = (a : Rows) → linked e a l ≡ linked f a l

link-same : (e f : Engine) (s : Schema) (shared : Attributes) (t : JoinedTable) → Agree e f (quoted_name t.name) → LinkAgrees e f (link s shared t)
link-same e f s shared t same a = by_test (is_empty shared)
  where
    by_test : (b : Bool)
        → linked e a (if b then crosswise (quoted_name t.name) else by_columns (quoted_name t.name) (attribute_names s shared))
        ≡ linked f a (if b then crosswise (quoted_name t.name) else by_columns (quoted_name t.name) (attribute_names s shared))
    by_test true = ap (option_and_then (joined_by [] a)) same
    by_test false = ap (option_and_then (joined_by (map bytes_of (attribute_names s shared)) a)) same

look_up-same : (e f : Engine) (s : Schema) (t : TableDesign) → Agree e f (quoted_name t.name) → LinkAgrees e f (look_up s t)
look_up-same e f s t same a = ap (option_and_then (left_joined_by (map bytes_of (attribute_names s (attributes t.key))) a)) same

links_agree : (e f : Engine) (s : Schema) (seen : Attributes) (ts : List JoinedTable) → Each (λ t. Agree e f (quoted_name t.name)) ts
    → Each (LinkAgrees e f) (links s seen ts)
links_agree e f s seen [] same = tt
links_agree e f s seen (t ∷ ts) same =
    (link-same e f s (intersection seen (attributes t.scheme)) t same.0, links_agree e f s (union seen (attributes t.scheme)) ts same.1)

look_ups_agree : (e f : Engine) (s : Schema) (ts : List TableDesign) → ((t : TableDesign) → Contains ts t → Agree e f (quoted_name t.name))
    → Each (LinkAgrees e f) (map (look_up s) ts)
look_ups_agree e f s [] same = tt
look_ups_agree e f s (t ∷ ts) same =
    (look_up-same e f s t (same t (Contains-head t ts)), look_ups_agree e f s ts (λ u h. same u (Contains-later t ts u h)))

after-same : {X Y : Type 0} (f g : X → Option Y) (found : Option X) → ((x : X) → f x ≡ g x) → option_and_then f found ≡ option_and_then g found
after-same f g None same = refl
after-same f g (Some x) same = same x

links-same : (e f : Engine) (ls : List Link) → Each (LinkAgrees e f) ls → (a : Rows) → all_linked e ls a ≡ all_linked f ls a
links-same e f [] same a = refl
links-same e f (l ∷ ls) same a =
    ap (option_and_then (all_linked e ls)) (same.0 a)
    ∙ after-same (all_linked e ls) (all_linked f ls) (linked f a l) (λ b. links-same e f ls same.1 b)

join-same : (e f : Engine) (s : Schema) (ts : List JoinedTable) (optional : List TableDesign) → Agree e f [] → Each (λ t. Agree e f (quoted_name t.name)) ts
    → ((t : TableDesign) → Contains optional t → Agree e f (quoted_name t.name)) → evaluate e (join_of s ts optional) ≡ evaluate f (join_of s ts optional)
join-same e f s [] optional empty same looked_up =
    let ls = map (look_up s) optional in
    let select = option_and_then (columns_of (map bytes_of (attribute_names s (universe_of s)))) in
    ap (λ (found : Option Rows). select (option_and_then (all_linked e ls) found)) empty
    ∙ ap select (after-same (all_linked e ls) (all_linked f ls) (f.tables []) (links-same e f ls (look_ups_agree e f s optional looked_up)))
join-same e f s (t ∷ ts) optional empty same looked_up =
    let ls = links s (attributes t.scheme) ts ++ map (look_up s) optional in
    let agree = each_after (LinkAgrees e f) (links s (attributes t.scheme) ts) (map (look_up s) optional)
    (links_agree e f s (attributes t.scheme) ts same.1) (look_ups_agree e f s optional looked_up) in
    let select = option_and_then (columns_of (map bytes_of (attribute_names s (universe_of s)))) in
    ap (λ (found : Option Rows). select (option_and_then (all_linked e ls) found)) same.0
    ∙ ap select (after-same (all_linked e ls) (all_linked f ls) (f.tables (quoted_name t.name)) (links-same e f ls agree))

-- ---- states that have the same
each_design : (P : List ℕ → Type 0) (tables : List TableDesign) → ((t : TableDesign) → Contains tables t → P (quoted_name t.name))
    → Each (λ t. P (quoted_name t.name)) (joined_tables tables)
each_design P [] all = tt
each_design P (t ∷ tables) all =
    (all t (Contains-head t tables), each_design P tables (λ u h. all u (Contains-later t tables u h)))

-- what the tables alone give
abbrev tables_at : Cast → State → Engine
tables_at cast state = record { tables = λ name. rows_of_table (state name); cast = cast }

pub viewed-same : (cast : Cast) (s : Schema) (tables : List TableDesign) (one other : State)
    → one view_name ≡ Some (view (view_query s tables)) → other view_name ≡ Some (view (view_query s tables)) → one [] ≡ other []
    → ((t : TableDesign) → Contains tables t → one (quoted_name t.name) ≡ other (quoted_name t.name))
    → evaluate (engine_at cast one) (viewed_rows s) ≡ evaluate (engine_at cast other) (viewed_rows s)
unfolding viewed_rows view_query
viewed-same cast s tables one other first second empty same =
    let select = option_and_then (selected cast false (moved_on s Returning (universe_of s)) (codes "j") each_row) in
    let e = tables_at cast one in
    let f = tables_at cast other in
    let seen = joined_tables (filled_tables s tables) in
    ap (λ (held : Option Held). select (rows_found cast one held)) first
    ∙ ap select (join-same e f s (view_order seen) (looked_up_tables s tables) (ap rows_of_table empty)
    (each_ordered (λ t. Agree e f (quoted_name t.name)) seen
    (each_design (Agree e f) (filled_tables s tables) (λ t h. ap rows_of_table (same t (filled_within s tables t h)))))
    (λ t h. ap rows_of_table (same t (looked_up_within s tables t h))))
    ∙ sym (ap (λ (held : Option Held). select (rows_found cast other held)) second)
