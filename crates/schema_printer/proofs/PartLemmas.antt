-- The attributes of a set, as a schema has them, are a schema's; and what is printed of them.
use Rattle.std.proofs.Common.{◌≡◌, ◌<◌, ◌≤◌, ◌+◌, ℕ, suc, zero, true, false, List, [], ◌++◌, length, map, refl, sym, ap, subst, ◌∙◌, ◌⊎◌, ⊎_elim, append-nil, arith}
use Rattle.std.proofs.lemmas.Bool.{cases_Bool, true≢false, ltb-true, lt-ltb}
use Rattle.std.proofs.lemmas.List.{length-map}
use Rattle.std.proofs.lemmas.List.Elements.{All-nil, All-contains, Contains-get_or}
use Rattle.std.specs.Prelude.{All, AllPairs, Contains, IsTrue}
use Rattle.attr_sets.specs.Attributes.{Attributes, below, none, IsSubset, IsEmpty, count_below}
use Rattle.attr_sets.proofs.AttributesLemmas.{tell_empty, count_below-le, count_below-pos}
use Rattle.dep_model.specs.declared.dep.Dep.{Dep}
use Rattle.schema_model.specs.declared.column_type.ColumnType.{ColumnType}
use Rattle.schema_model.specs.declared.column_type.ColumnType.TheVariants.{Integer, Text}
use Rattle.schema_model.specs.declared.naming.Naming.{Naming}
use Rattle.schema_model.specs.declared.naming.Naming.TheVariants.{Bare}
use Rattle.schema_model.specs.Schemas.{Schema}
use Rattle.schema_model.specs.Columns.{is_column_type, is_plain_type}
use Rattle.dep_model.specs.Deps.{IsDepWithin}
use Rattle.dep_model.specs.Dependencies.{Dependency}
use Rattle.schema_model.specs.Names.{is_bare_name, is_type_name, same_name}
use Rattle.schema_model.specs.Schemas.{naming_of, names_of, width_of, types_of, nullable_of, universe_of}
use Rattle.schema_model.specs.Validity.{IsSchema, AreColumns, AreBare, AreDeclared}
use Rattle.schema_printer.specs.Printing.{schema_text, schema_lines, lines_text}
use Rattle.schema_printer.specs.Spelling.{spelling, printed_names_of}
use Rattle.schema_printer.specs.Parts.{chosen, part_names, part_types}
use Rattle.schema_printer.proofs.ChosenLemmas.{IsChosen, length-chosen, chosen_each, chosen_all, chosen_pairs}

-- ---- a schema
-- some are chosen, and no more than there are
count_some : (n : ℕ) (x : Attributes) → IsSubset x (below n) → (IsEmpty x → ⊥) → 0 < count_below x n
count_some n x low some = ⊎_elim
    (λ (one : (k : ℕ) × (k < n) × (x k ≡ true)). count_below-pos n x one.0 one.1 one.2)
    (λ (empty : IsEmpty x). absurd (some empty))
    (tell_empty n x low)

pub part_is_schema : (s : Schema) (x : Attributes) (names : List (List ℕ)) (deps : List Dep) (lines : List ℕ) → names ≡ part_names s x
    → IsSubset x (universe_of s) → (IsEmpty x → ⊥) → deps ≡ [] → lines ≡ [] → IsSchema names deps lines
part_is_schema s x names deps lines is low some no_deps no_lines =
    let n = width_of s in
    let count : length names ≡ count_below x n = ap length is ∙ length-chosen (names_of s) [] x n in
    let few = count_below-le n x in
    let any = count_some n x low some in
    let limit = s.valid.names_within_limit in
    let none_given : length deps ≡ 0 = ap length no_deps in
    let no_line : length lines ≡ 0 = ap length no_lines in
    record {
      names_not_empty = omega (arith, count, any);
      names_within_limit = omega (arith, count, few, limit);
      names_differ = subst (λ (ys : List (List ℕ)). AllPairs (λ (a b : List ℕ). same_name a b ≡ false) ys) (sym is)
          (chosen_pairs (names_of s) [] x (λ (a b : List ℕ). same_name a b ≡ false) n (omega arith) s.valid.names_differ);
      deps_within_limit = omega (arith, none_given);
      deps_within = subst (λ (ds : List Dep). All (IsDepWithin (below (length names))) ds) (sym no_deps) (All-nil (IsDepWithin (below (length names))));
      one_line_each = no_line ∙ sym none_given;
    }

-- a type that is chosen is one of a schema's
type_chosen : (s : Schema) (x : Attributes) (column : ColumnType) → Contains (part_types s x) column → Contains (types_of s) column
type_chosen s x column has =
    let n = width_of s in
    let one = All-contains (IsChosen (types_of s) Text x n) (part_types s x) column (chosen_each (types_of s) Text x n) has in
    let lt = one.short in
    let long = s.typed.one_each in
    subst (λ (c : ColumnType). Contains (types_of s) c) one.is (Contains-get_or (types_of s) one.at Text (omega (arith, lt, long)))

bare_part : (s : Schema) (x : Attributes) → AreBare (names_of s) (types_of s) (nullable_of s) → AreBare (part_names s x) (part_types s x) none
bare_part s x bare =
    let n = width_of s in
    let long : n ≤ length (types_of s) = omega (arith, s.typed.one_each) in
    record {
      each_bare = chosen_all (names_of s) [] x (λ (name : List ℕ). IsTrue (is_bare_name name)) n (omega arith) bare.each_bare;
      are_columns = record {
        one_each = length-chosen (types_of s) Text x n ∙ sym (length-chosen (names_of s) [] x n);
        plain = chosen_all (types_of s) Text x (λ (column : ColumnType). IsTrue (is_plain_type column)) n long bare.are_columns.plain;
        no_type_name = λ integer. chosen_all (names_of s) [] x (λ (name : List ℕ). is_type_name name ≡ false) n (omega arith)
            (bare.are_columns.no_type_name (type_chosen s x Integer integer));
      };
      none_nullable = λ k. refl;
    }

part_declared : (s : Schema) (x : Attributes) → All (λ column. IsTrue (is_column_type column)) (part_types s x)
    → AreDeclared (naming_of s) (part_names s x) (part_types s x) none
part_declared s x each =
    let n = width_of s in
    record {
      one_each = length-chosen (types_of s) Text x n ∙ sym (length-chosen (names_of s) [] x n);
      each = each;
      nullable_within = λ k m. absurd (true≢false (sym m));
      bare = λ is. bare_part s x (s.typed.bare is);
    }

pub part_is_declared : (s : Schema) (x : Attributes) (names : List (List ℕ)) (columns : List ColumnType) (nullable : Attributes) (naming : Naming)
    → names ≡ part_names s x → columns ≡ part_types s x → All (λ column. IsTrue (is_column_type column)) columns → nullable ≡ none → naming ≡ naming_of s
    → AreDeclared naming names columns nullable
part_is_declared s x names columns nullable naming names_is columns_is each empty naming_is =
    let declared = part_declared s x (subst (λ (ys : List ColumnType). All (λ column. IsTrue (is_column_type column)) ys) columns_is each) in
    subst (λ (m : Naming). AreDeclared m names columns nullable) (sym naming_is)
    (subst (λ (ys : List (List ℕ)). AreDeclared (naming_of s) ys columns nullable) (sym names_is)
    (subst (λ (ys : List ColumnType). AreDeclared (naming_of s) (part_names s x) ys nullable) (sym columns_is)
    (subst (λ (y : Attributes). AreDeclared (naming_of s) (part_names s x) (part_types s x) y) (sym empty) declared)))

-- ---- its text
pub part_declaring : (s part : Schema) (x : Attributes) → naming_of part ≡ naming_of s → names_of part ≡ part_names s x → types_of part ≡ part_types s x → nullable_of part ≡ none
    → schema_text part [] ≡ lines_text (schema_lines (naming_of s) (part_types s x) (map (spelling (naming_of s)) (part_names s x)) none)
unfolding schema_text printed_names_of
part_declaring s part x naming names columns nullable =
    ap lines_text (append-nil (schema_lines (naming_of part) (types_of part) (map (spelling (naming_of part)) (names_of part)) (nullable_of part)))
    ∙ ap (λ (m : Naming). lines_text (schema_lines m (types_of part) (map (spelling m) (names_of part)) (nullable_of part))) naming
    ∙ ap (λ (ys : List (List ℕ)). lines_text (schema_lines (naming_of s) (types_of part) (map (spelling (naming_of s)) ys) (nullable_of part))) names
    ∙ ap (λ (ys : List ColumnType). lines_text (schema_lines (naming_of s) ys (map (spelling (naming_of s)) (part_names s x)) (nullable_of part))) columns
    ∙ ap (λ (y : Attributes). lines_text (schema_lines (naming_of s) (part_types s x) (map (spelling (naming_of s)) (part_names s x)) y)) nullable
