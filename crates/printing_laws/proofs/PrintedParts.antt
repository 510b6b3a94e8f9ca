-- What is printed of the part of a schema means the part.
use Rattle.std.proofs.Common.{◌≡◌, ◌+◌, ◌<◌, ◌≤◌, ◌&&◌, ℕ, Bool, true, false, List, [], ◌∷◌, ◌++◌, length, map, if◌then◌else◌, refl, sym, ap, ap₂, subst, ◌∙◌, append-nil, append_assoc, arith}
use Rattle.std.specs.Prelude.{All, IsTrue, codes, nat_lt, slice_index_or}
use Rattle.std.specs.List.{flat_map}
use Rattle.std.proofs.lemmas.Bool.{and_parts, false≢true, true≢false}
use Rattle.std.proofs.lemmas.Grind.{flat_map-append}
use Rattle.std.proofs.lemmas.List.{length-map}
use Rattle.std.proofs.lemmas.List.Elements.{All-head, All-tail, All-map, All-weaker}
use Rattle.attr_sets.specs.Attributes.{Attributes, below, count_below, intersection, none, IsEmpty, IsSubset}
use Rattle.attr_sets.specs.Sets.{attributes}
use Rattle.attr_sets.specs.declared.set.TheConstants.{MOST_ATTRIBUTES}
use Rattle.attr_sets.proofs.AttributesLemmas.{count_below-le}
use Rattle.dep_model.specs.declared.dep.Dep.{Dep}
use Rattle.dep_model.specs.Dependencies.{Dependency, fd, mvd, IsWithin}
use Rattle.dep_model.specs.Deps.{dependency_of, dependencies_of}
use Rattle.dep_model.specs.Projections.{members_below}
use Rattle.dep_model.proofs.DepLemmas.{dependencies_all-to}
use Rattle.schema_model.specs.Columns.{is_column_type}
use Rattle.schema_model.specs.Schemas.{Schema, names_of, naming_of, nullable_of, theory_of, types_of, universe_of, width_of}
use Rattle.schema_model.specs.Validity.{AreDeclared}
use Rattle.schema_model.specs.declared.column_type.ColumnType.{ColumnType}
use Rattle.schema_model.specs.declared.column_type.ColumnType.TheVariants.{Text}
use Rattle.schema_model.specs.declared.naming.Naming.{Naming}
use Rattle.schema_model.specs.declared.naming.Naming.TheVariants.{Bare, Any}
use Rattle.schema_grammar.specs.Declarations.{Declarations}
use Rattle.schema_grammar.specs.Printed.{IsReadBack}
use Rattle.schema_grammar.specs.Schemas.{MeansSchema}
use Rattle.schema_grammar.specs.Texts.{declarations_of}
use Rattle.schema_grammar.specs.declared.format.Format.TheVariants as format
use Rattle.schema_grammar.specs.declared.format.TheConstants.{MOST_DEPENDENCY_LINES}
use Rattle.schema_grammar.proofs.DeclaredNames.{declared_read_back}
use Rattle.schema_grammar.proofs.PrintedSchemas.{printed-schema-law}
use Rattle.schema_printer.specs.Parts.{chosen, part_names, part_text, part_types}
use Rattle.schema_printer.specs.Printing.{declaring_lines, dependency_text, lines_text, members_from, nullable_lines, run_line, runs_of, schema_lines, schema_text, set_text, side_text}
use Rattle.schema_printer.specs.Spelling.{printed_names_of, spelling}
use Rattle.schema_printer.proofs.ChosenLemmas.{chosen_all, length-chosen}
use Rattle.schema_printer.proofs.PartLemmas.{part_is_declared, part_is_schema}
use Rattle.printing_laws.specs.Parts.{dependency_in, numbered_in, part_declared}
use Rattle.printing_laws.proofs.CodedLemmas.{coded_dependencies, coded_set}
use Rattle.printing_laws.proofs.NumberedMembers.{names_same}

-- ---- dependencies inside the set
-- the names of the members of a set, spelled
abbrev part_spelled : Naming → List (List ℕ) → Attributes → List (List ℕ)
part_spelled naming names x = map (spelling naming) (map (λ k. slice_index_or names k []) (members_below (length names) x))

same_set : (naming : Naming) (names : List (List ℕ)) (x z : Attributes) → IsSubset z x
    → set_text (part_spelled naming names x) (numbered_in (length names) x z) ≡ set_text (map (spelling naming) names) z
unfolding set_text
same_set naming names x z inside = ap side_text (names_same (spelling naming) names x z inside)

same_dependency : (naming : Naming) (names : List (List ℕ)) (x : Attributes) (d : Dependency) → IsWithin x d
    → dependency_text (part_spelled naming names x) (dependency_in (length names) x d) ≡ dependency_text (map (spelling naming) names) d
unfolding dependency_text
same_dependency naming names x (fd y z) within =
    ap₂ (λ (v w : List ℕ). v ++ codes " -> " ++ w) (same_set naming names x y within.0) (same_set naming names x z within.1)
same_dependency naming names x (mvd y z) within =
    ap₂ (λ (v w : List ℕ). v ++ codes " ->> " ++ w) (same_set naming names x y within.0) (same_set naming names x z within.1)

same_dependencies : (naming : Naming) (names : List (List ℕ)) (x : Attributes) (ds : List Dependency) → All (IsWithin x) ds
    → map (dependency_text (part_spelled naming names x)) (map (dependency_in (length names) x) ds)
    ≡ map (dependency_text (map (spelling naming) names)) ds
same_dependencies naming names x [] within = refl
same_dependencies naming names x (d ∷ ds) within =
    ap₂ ◌∷◌ (same_dependency naming names x d (All-head (IsWithin x) d ds within))
    (same_dependencies naming names x ds (All-tail (IsWithin x) d ds within))

-- they lie within the members' numbers
numbered_low : (n : ℕ) (x z : Attributes) → IsSubset (numbered_in n x z) (below (count_below x n))
numbered_low n x z j m = (and_parts (nat_lt j (count_below x n)) (z (slice_index_or (members_below n x) j 0)) m).0

dependency_low : (n : ℕ) (x : Attributes) (d : Dependency) → IsWithin (below (count_below x n)) (dependency_in n x d)
dependency_low n x (fd y z) = (numbered_low n x y, numbered_low n x z)
dependency_low n x (mvd y z) = (numbered_low n x y, numbered_low n x z)

dependencies_low : (n : ℕ) (x : Attributes) (ds : List Dependency) → All (IsWithin (below (count_below x n))) (map (dependency_in n x) ds)
dependencies_low n x ds =
    All-map (IsWithin (below (count_below x n))) (dependency_in n x) ds (λ k d l. dependency_low n x _)

-- ---- the text
no_members : (z : Attributes) (k : ℕ) (names : List (List ℕ)) → IsEmpty z → members_from z k names ≡ []
no_members z k [] empty = refl
no_members z k (name ∷ names) empty =
    ap (λ (b : Bool). if b then name ∷ members_from z (k + 1) names else members_from z (k + 1) names) (empty k)
    ∙ no_members z (k + 1) names empty

lines_both : (one other : List (List ℕ)) → lines_text (one ++ other) ≡ lines_text one ++ lines_text other
lines_both one other = flat_map-append (λ line. line ++ 10 ∷ []) one other

-- the heading, the nullable members and the dependencies of a part are the text of a schema's lines
same_text : (naming : Naming) (columns : List ColumnType) (names : List (List ℕ)) (x z : Attributes) (ds : List Dependency) → IsSubset z x
    → (naming ≡ Bare → IsEmpty z) → All (IsWithin x) ds
    → (lines_text (schema_lines naming columns (part_spelled naming names x) none)
    ++ lines_text (nullable_lines (members_from z 0 (map (spelling naming) names))))
    ++ lines_text (map (dependency_text (map (spelling naming) names)) ds)
    ≡ lines_text (schema_lines naming columns (part_spelled naming names x) (numbered_in (length names) x z)
    ++ map (dependency_text (part_spelled naming names x)) (map (dependency_in (length names) x) ds))
unfolding schema_lines nullable_lines
same_text Bare columns names x z ds inside empty within =
    let heading = declaring_lines columns (part_spelled Bare names x) in
    let given = map (dependency_text (map (spelling Bare) names)) ds in
    ap (λ (ms : List (List ℕ)). (lines_text heading ++ lines_text (nullable_lines ms)) ++ lines_text given)
    (no_members z 0 (map (spelling Bare) names) (empty refl))
    ∙ ap (λ (text : List ℕ). text ++ lines_text given) (append-nil (lines_text heading))
    ∙ sym (lines_both heading given)
    ∙ ap (λ (ls : List (List ℕ)). lines_text (heading ++ ls)) (sym (same_dependencies Bare names x ds within))
same_text Any columns names x z ds inside empty within =
    let spelled = map (spelling Any) names in
    let part = part_spelled Any names x in
    let runs = map run_line (runs_of columns part) in
    let given = map (dependency_text spelled) ds in
    let own = nullable_lines (members_from z 0 spelled) in
    let first = codes "version 3" ∷ runs in
    let nothing : codes "version 3" ∷ (runs ++ nullable_lines (members_from none 0 part)) ≡ first =
    ap (λ (ms : List (List ℕ)). codes "version 3" ∷ (runs ++ nullable_lines ms)) (no_members none 0 part (λ k. refl))
    ∙ ap (λ (ls : List (List ℕ)). codes "version 3" ∷ ls) (append-nil runs) in
    ap (λ (ls : List (List ℕ)). (lines_text ls ++ lines_text own) ++ lines_text given) nothing
    ∙ ap (λ (text : List ℕ). text ++ lines_text given) (sym (lines_both first own))
    ∙ sym (lines_both (first ++ own) given)
    ∙ ap₂ (λ (ms : List (List ℕ)) (ls : List (List ℕ)). lines_text ((first ++ nullable_lines ms) ++ ls))
    (sym (names_same (spelling Any) names x z inside)) (sym (same_dependencies Any names x ds within))

-- ---- the part as a schema
module _ (file : List ℕ) (s : Schema) (x : Attributes) (ds : List Dependency) (means : MeansSchema file (declarations_of s))
    (low : IsSubset x (universe_of s)) (some : IsEmpty x → ⊥) (within : All (IsWithin x) ds)
    (few : length ds ≤ MOST_DEPENDENCY_LINES) where
  abbrev n : ℕ
  n = width_of s

  abbrev missing : Attributes
  missing = intersection (nullable_of s) x

  abbrev numbers : Attributes
  numbers = numbered_in n x missing

  abbrev inside : List Dependency
  inside = map (dependency_in n x) ds

  size : length (part_names s x) ≡ count_below x n
  size = length-chosen (names_of s) [] x n

  limit : length (part_names s x) ≤ n
  limit = omega (arith, size, count_below-le n x)

  none_missing : naming_of s ≡ Bare → IsEmpty missing
  none_missing bare k = ap (λ (b : Bool). b && x k) ((s.typed.bare bare).none_nullable k)

  none_numbered : naming_of s ≡ Bare → IsEmpty numbers
  none_numbered bare j =
      ap (λ (b : Bool). nat_lt j (count_below x n) && b) (none_missing bare (slice_index_or (members_below n x) j 0)) ∙ and_nothing (nat_lt j (count_below x n))
    where
      and_nothing : (b : Bool) → (b && false) ≡ false
      and_nothing true = refl
      and_nothing false = refl

  each_type : All (λ column. IsTrue (is_column_type column)) (part_types s x)
  each_type = chosen_all (types_of s) Text x (λ column. IsTrue (is_column_type column)) n (omega (arith, s.typed.one_each)) s.typed.each

  declared : AreDeclared (naming_of s) (part_names s x) (part_types s x) none
  declared = part_is_declared s x (part_names s x) (part_types s x) none (naming_of s) refl refl each_type refl refl

  numbered_declared : AreDeclared (naming_of s) (part_names s x) (part_types s x) numbers
  numbered_declared = record {
    one_each = declared.one_each;
    each = declared.each;
    nullable_within = λ k m. subst (λ (c : ℕ). below c k ≡ true) (sym size) (numbered_low n x missing k m);
    bare = λ is. let parts = declared.bare is in record {
      each_bare = parts.each_bare;
      are_columns = parts.are_columns;
      none_nullable = none_numbered is;
    };
  }

  names_back : All (IsReadBack format.Plain (naming_of s)) (part_names s x)
  names_back = chosen_all (names_of s) [] x (IsReadBack format.Plain (naming_of s)) n (omega arith) (declared_read_back file (declarations_of s) means)

  pub part_means : (lines : List ℕ) × MeansSchema (part_text s x ds) (part_declared s x ds lines)
  unfolding schema_text printed_names_of
  part_means =
      let narrow : length (part_names s x) ≤ MOST_ATTRIBUTES = omega (arith, limit, s.valid.names_within_limit) in
      let all_in : All (IsWithin (below (length (part_names s x)))) inside =
      subst (λ (c : ℕ). All (IsWithin (below c)) inside) (sym size) (dependencies_low n x ds) in
      let code = coded_dependencies (length (part_names s x)) inside narrow all_in in
      let deps = code.0 in
      let set = coded_set (length (part_names s x)) numbers narrow numbered_declared.nullable_within in
      let base = part_is_schema s x (part_names s x) [] [] refl low some refl refl in
      let count : length deps ≡ length ds =
      sym (length-map deps dependency_of) ∙ ap (λ (es : List Dependency). length es) code.1 ∙ length-map ds (dependency_in n x) in
      let part : Schema = record {
        naming = naming_of s;
        names = part_names s x;
        columns = part_types s x;
        nullable = set.0;
        deps = deps;
        lines = map (λ (d : Dep). 1) deps;
        valid = record {
          names_not_empty = base.names_not_empty;
          names_within_limit = base.names_within_limit;
          names_differ = base.names_differ;
          deps_within_limit = omega (arith, count, few);
          deps_within = dependencies_all-to (IsWithin (below (length (part_names s x)))) deps
              (subst (λ (es : List Dependency). All (IsWithin (below (length (part_names s x)))) es) (sym code.1) all_in);
          one_line_each = length-map deps (λ (d : Dep). 1);
        };
        typed = subst (λ (z : Attributes). AreDeclared (naming_of s) (part_names s x) (part_types s x) z) (sym set.2) numbered_declared;
        numbers = record { of_nullable = set.1; of_deps = code.2 };
      } in
      let printed = printed-schema-law part (omega (arith, count, few)) names_back in
      let text : Attributes → List Dependency → List ℕ =
      λ z es. lines_text (schema_lines (naming_of s) (part_types s x) (part_spelled (naming_of s) (names_of s) x) z
      ++ map (dependency_text (part_spelled (naming_of s) (names_of s) x)) es) in
      let stated : Attributes → List Dependency → Declarations = λ z es. record {
        names = part_names s x;
        columns = part_types s x;
        deps = es;
        lines = printed.0;
        naming = naming_of s;
        nullable = z;
      } in
      let by_code : MeansSchema (text (attributes set.0) (dependencies_of deps)) (stated (attributes set.0) (dependencies_of deps)) = printed.1 in
      let by_set : MeansSchema (text numbers (dependencies_of deps)) (stated numbers (dependencies_of deps)) =
      subst (λ (z : Attributes). MeansSchema (text z (dependencies_of deps)) (stated z (dependencies_of deps))) set.2 by_code in
      let by_list : MeansSchema (text numbers inside) (stated numbers inside) =
      subst (λ (es : List Dependency). MeansSchema (text numbers es) (stated numbers es)) code.1 by_set in (
        printed.0,
        subst (λ (bytes : List ℕ). MeansSchema bytes (stated numbers inside))
            (sym (same_text (naming_of s) (part_types s x) (names_of s) x missing ds (λ k m. (and_parts (nullable_of s k) (x k) m).1) none_missing within))
            by_list,
      )
