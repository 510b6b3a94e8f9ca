-- The text of a join: one table more at the end, and the link to a table.
use Rattle.std.proofs.Common.{◌≡◌, ◌<◌, ◌+◌, ℕ, Bool, List, [], ◌∷◌, ◌++◌, length, get_or, map, take, drop, refl, sym, ap, ◌∙◌, append-nil, append_assoc, arith}
use Rattle.std.specs.Prelude.{if◌then◌else◌, codes, slice_get}
use Rattle.std.specs.List.{flat_map}
use Rattle.std.proofs.lemmas.Grind.{flat_map-append}
use Rattle.std.proofs.lemmas.List.{map-append, take_more}
use Rattle.std.proofs.lemmas.Option.{slice_get_read}
use Rattle.optional_tables.specs.Order.{if_there, members_at}
use Rattle.ddl_text.specs.declared.table.TableDesign.{TableDesign}
use Rattle.attr_sets.specs.Attributes.{Attributes, union, intersection, IsEmpty}
use Rattle.attr_sets.specs.Sets.{attributes}
use Rattle.attr_sets.specs.declared.set.AttrSet.{AttrSet}
use Rattle.schema_model.specs.Schemas.{Schema}
use Rattle.schema_model.specs.Schemas.{universe_of}
use Rattle.ddl_text.proofs.TextLemmas.{empty_passes, empty_fails}
use Rattle.sql_syntax.specs.Names.{attribute_names, quoted_name}
use Rattle.sql_syntax.specs.Syntax.{by_columns, crosswise}
use Rattle.sql_syntax.specs.Printing.{link_text, names_text, joined_text, query_text}
use Rattle.sql_migrate.specs.declared.joining.JoinedTable.{JoinedTable}
use Rattle.sql_migrate.specs.Script.{link, links, look_up, join_of}

-- the attributes of tables, beside others
abbrev pub seen_with : Attributes → List JoinedTable → Attributes
seen_with seen [] = seen
seen_with seen (table ∷ tables) = seen_with (union seen (attributes table.scheme)) tables

seen_push : (seen : Attributes) (tables : List JoinedTable) (table : JoinedTable)
    → seen_with seen (tables ++ table ∷ []) ≡ union (seen_with seen tables) (attributes table.scheme)
seen_push seen [] table = refl
seen_push seen (first ∷ tables) table = seen_push (union seen (attributes first.scheme)) tables table

links_push : (s : Schema) (seen : Attributes) (tables : List JoinedTable) (table : JoinedTable)
    → flat_map link_text (links s seen (tables ++ table ∷ []))
    ≡ flat_map link_text (links s seen tables) ++ link_text (link s (intersection (seen_with seen tables) (attributes table.scheme)) table)
links_push s seen [] table = append-nil (link_text (link s (intersection seen (attributes table.scheme)) table))
links_push s seen (first ∷ tables) table =
    let here = link_text (link s (intersection seen (attributes first.scheme)) first) in
    let seen' = union seen (attributes first.scheme) in
    ap (λ (t : List ℕ). here ++ t) (links_push s seen' tables table)
    ∙ sym (append_assoc here (flat_map link_text (links s seen' tables)) (link_text (link s (intersection (seen_with seen' tables) (attributes table.scheme)) table)))

-- ---- one table more
pub seen_more : (scheme : Attributes) (tables : List JoinedTable) (i : ℕ) (table : JoinedTable) (seen next : Attributes) → i < length tables
    → table ≡ get_or tables i table → seen ≡ seen_with scheme (take i tables) → next ≡ union seen (attributes table.scheme)
    → next ≡ seen_with scheme (take (i + 1) tables)
seen_more scheme tables i table seen next lt at so_far is =
    is ∙ ap (λ (z : Attributes). union z (attributes table.scheme)) so_far
    ∙ ap (λ (t : JoinedTable). union (seen_with scheme (take i tables)) (attributes t.scheme)) at
    ∙ sym (seen_push scheme (take i tables) (get_or tables i table))
    ∙ ap (seen_with scheme) (sym (take_more tables i table lt))

pub links_more : (s : Schema) (scheme : Attributes) (tables : List JoinedTable) (i : ℕ) (table : JoinedTable)
    (seen shared : Attributes) (text next piece : List ℕ) → i < length tables → table ≡ get_or tables i table
    → seen ≡ seen_with scheme (take i tables) → shared ≡ intersection seen (attributes table.scheme)
    → text ≡ flat_map link_text (links s scheme (take i tables)) → piece ≡ link_text (link s shared table) → next ≡ text ++ piece
    → next ≡ flat_map link_text (links s scheme (take (i + 1) tables))
links_more s scheme tables i table seen shared text next piece lt at is_seen is_shared so_far is added =
    added ∙ ap (λ (front : List ℕ). front ++ piece) so_far
    ∙ ap (λ (p : List ℕ). flat_map link_text (links s scheme (take i tables)) ++ p) is
    ∙ ap (λ (z : Attributes). flat_map link_text (links s scheme (take i tables)) ++ link_text (link s z table))
    (is_shared ∙ ap (λ (z : Attributes). intersection z (attributes table.scheme)) is_seen)
    ∙ ap (λ (t : JoinedTable). flat_map link_text (links s scheme (take i tables))
    ++ link_text (link s (intersection (seen_with scheme (take i tables)) (attributes t.scheme)) t)) at
    ∙ sym (links_push s scheme (take i tables) (get_or tables i table))
    ∙ ap (λ (ts : List JoinedTable). flat_map link_text (links s scheme ts)) (sym (take_more tables i table lt))

-- ---- a link
pub link_crosswise : (s : Schema) (shared : Attributes) (table : JoinedTable) → IsEmpty shared
    → codes " CROSS JOIN " ++ quoted_name table.name ≡ link_text (link s shared table)
link_crosswise s shared table empty =
    sym (ap (λ (b : Bool). link_text (if b then crosswise (quoted_name table.name) else by_columns (quoted_name table.name) (attribute_names s shared)))
    (empty_passes shared empty))

pub link_by_columns : (s : Schema) (shared : AttrSet) (table : JoinedTable) → (IsEmpty (attributes shared) → ⊥)
    → codes " JOIN " ++ quoted_name table.name ++ codes " USING (" ++ names_text (attribute_names s (attributes shared)) ++ codes ")"
    ≡ link_text (link s (attributes shared) table)
link_by_columns s shared table some =
    sym (ap (λ (b : Bool). link_text (if b then crosswise (quoted_name table.name) else by_columns (quoted_name table.name) (attribute_names s (attributes shared))))
    (empty_fails shared some))

-- ---- look-ups
-- the links of looked-up tables
abbrev pub look_up_links : Schema → List TableDesign → List ℕ
look_up_links s tables = flat_map link_text (map (look_up s) tables)

pub look_ups_more : (s : Schema) (designs : List TableDesign) (positions : List ℕ) (i d : ℕ) (table : TableDesign) (text next piece : List ℕ)
    → i < length positions → get_or positions i d < length designs → table ≡ get_or designs (get_or positions i d) table
    → text ≡ look_up_links s (members_at designs (take i positions))
    → piece ≡ link_text (look_up s table) → next ≡ text ++ piece
    → next ≡ look_up_links s (members_at designs (take (i + 1) positions))
look_ups_more s designs positions i d table text next piece lt within at so_far is added =
    added ∙ ap (λ (t : List ℕ). t ++ piece) so_far
    ∙ ap (λ (p : List ℕ). look_up_links s (members_at designs (take i positions)) ++ p) (is ∙ sym (append-nil (link_text (look_up s table))))
    ∙ sym (flat_map-append link_text (map (look_up s) (members_at designs (take i positions))) (look_up s table ∷ []))
    ∙ ap (flat_map link_text) (sym (map-append (look_up s) (members_at designs (take i positions)) (table ∷ [])))
    ∙ ap (λ (ts : List TableDesign). look_up_links s (members_at designs (take i positions) ++ ts)) (sym here)
    ∙ ap (look_up_links s) (sym (flat_map-append (λ k. if_there (slice_get designs k)) (take i positions) (get_or positions i d ∷ [])))
    ∙ ap (λ (ks : List ℕ). look_up_links s (members_at designs ks)) (sym (take_more positions i d lt))
  where
    here : members_at designs (get_or positions i d ∷ []) ≡ table ∷ []
    here =
        append-nil (if_there (slice_get designs (get_or positions i d)))
        ∙ ap if_there (slice_get_read designs (length designs) (get_or positions i d) table refl within at)

-- ---- the whole join
pub no_tables : (s : Schema) (tables : List JoinedTable) (optional : List TableDesign) (names look_ups : List ℕ) → length tables ≡ 0
    → names ≡ names_text (attribute_names s (universe_of s)) → look_ups ≡ look_up_links s optional
    → joined_text names [] look_ups ≡ query_text (join_of s tables optional)
no_tables s [] optional names look_ups none is are =
    ap (λ (t : List ℕ). joined_text t [] look_ups) is
    ∙ ap (joined_text (names_text (attribute_names s (universe_of s))) []) are
no_tables s (first ∷ tables) optional names look_ups none is are = absurd (omega (arith, none))

pub some_tables : (s : Schema) (tables : List JoinedTable) (optional : List TableDesign) (d : JoinedTable) (names look_ups : List ℕ)
    → 0 < length tables → d ≡ get_or tables 0 d → names ≡ names_text (attribute_names s (universe_of s))
    → look_ups ≡ look_up_links s optional
    → joined_text names (quoted_name d.name) (flat_map link_text (links s (attributes d.scheme) (drop 1 tables)) ++ look_ups)
    ≡ query_text (join_of s tables optional)
some_tables s [] optional d names look_ups some at is are = absurd (omega (arith, some))
some_tables s (table ∷ tables) optional d names look_ups some at is are =
    ap (λ (t : List ℕ). joined_text t (quoted_name d.name) (flat_map link_text (links s (attributes d.scheme) tables) ++ look_ups)) is
    ∙ ap (λ (t : JoinedTable). joined_text listed (quoted_name t.name) (flat_map link_text (links s (attributes t.scheme) tables) ++ look_ups)) at
    ∙ ap (joined_text listed (quoted_name table.name))
    (ap (λ (t : List ℕ). flat_map link_text (links s (attributes table.scheme) tables) ++ t) are
    ∙ sym (flat_map-append link_text (links s (attributes table.scheme) tables) (map (look_up s) optional)))
  where
    listed : List ℕ
    listed = names_text (attribute_names s (universe_of s))
