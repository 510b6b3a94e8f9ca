-- Lists of quoted names: one more at the end.
use Rattle.std.proofs.Common.{◌≡◌, ℕ, Bool, true, false, ◌||◌, List, [], ◌∷◌, ◌++◌, get_or, Some, refl, sym, ap, ◌∙◌}
use Rattle.std.specs.Prelude.{if◌then◌else◌, slice_get}
use Rattle.std.proofs.lemmas.Option.{get_or_from_slice_get}
use Rattle.schema_model.specs.Schemas.{Schema}
use Rattle.schema_model.specs.Schemas.{names_of}
use Rattle.attr_sets.specs.Attributes.{Attributes}
use Rattle.schema_printer.specs.Printing.{members_from}
use Rattle.sql_syntax.specs.Names.{separator, comma_list, quoted_name, is_not_empty, attribute_names}
use Rattle.sql_syntax.specs.Printing.{name_text, names_text}
use Rattle.sql_syntax.specs.Syntax.{attribute}
use Rattle.sql_syntax.proofs.ListLemmas.{comma_list-push, comma_list-map, not_empty_pushed, append_two}

-- ---- names
pub or_true : (b : Bool) → (b || true) ≡ true
or_true true = refl
or_true false = refl

-- a name more
pub comma_list-next : (xs : List (List ℕ)) (x name : List ℕ) (any_written : Bool) (before text next : List ℕ)
    → text ≡ before ++ comma_list quoted_name xs → any_written ≡ is_not_empty xs → x ≡ name
    → next ≡ text ++ (if any_written then separator ++ quoted_name name else quoted_name name)
    → next ≡ before ++ comma_list quoted_name (xs ++ x ∷ [])
comma_list-next xs x name any_written before text next so_far is_some is added =
    append_two before (comma_list quoted_name xs) (if any_written then separator ++ quoted_name name else quoted_name name) text next
    so_far added
    ∙ ap (λ (b : Bool). before ++ (comma_list quoted_name xs ++
    (if b then separator ++ quoted_name name else quoted_name name))) is_some
    ∙ ap (λ (n : List ℕ). before ++ (comma_list quoted_name xs ++
    (if is_not_empty xs then separator ++ quoted_name n else quoted_name n))) (sym is)
    ∙ ap (λ (t : List ℕ). before ++ t) (sym (comma_list-push quoted_name xs x))

pub not_empty_more : {X : Type 0} (first : Bool) (xs : List X) (x : X) → true ≡ (first || is_not_empty (xs ++ x ∷ []))
not_empty_more first xs x = sym (ap (λ (b : Bool). first || b) (not_empty_pushed xs x) ∙ or_true first)

pub name_is : (s : Schema) (k : ℕ) (name : List ℕ) → slice_get (names_of s) k ≡ Some name
    → get_or (names_of s) k [] ≡ name
name_is s k name at = get_or_from_slice_get (names_of s) k name [] at

-- the names of a set's attributes, as names of columns, and quoted
pub names_listed : (s : Schema) (x : Attributes) → names_text (attribute_names s x) ≡ comma_list quoted_name (members_from x 0 (names_of s))
names_listed s x = comma_list-map name_text attribute (members_from x 0 (names_of s))
