-- What is printed of a schema with other dependencies in place of its own means a schema that has those.
use Rattle.std.proofs.Common.{◌≡◌, ◌<◌, ◌≤◌, ◌^◌, ℕ, List, [], ◌∷◌, ◌++◌, length, replicate, refl, sym, ap, ap₂, subst, ◌∙◌, arith}
use Rattle.std.specs.Prelude.{true, All, map}
use Rattle.std.proofs.lemmas.Bool.Decides.{nat_tests}
use Rattle.std.proofs.lemmas.List.{length-map, length-replicate}
use Rattle.std.proofs.lemmas.List.Elements.{All-cons, All-head, All-nil, All-tail}
use Rattle.attr_sets.specs.Attributes.{Attributes, below, IsSubset}
use Rattle.attr_sets.specs.Sets.{attributes}
use Rattle.attr_sets.specs.declared.set.AttrSet.{AttrSet}
use Rattle.attr_sets.specs.declared.set.TheConstants.{MOST_ATTRIBUTES}
use Rattle.attr_sets.proofs.AttributesLemmas.{set_of_attributes}
use Rattle.dep_model.specs.Dependencies.{Dependency, fd, mvd, IsWithin}
use Rattle.dep_model.specs.Deps.{dependency_of, dependencies_of}
use Rattle.dep_model.specs.declared.dep.Dep.{Dep}
use Rattle.dep_model.specs.declared.dep.Dep.TheVariants.{Fd, Mvd}
use Rattle.dep_model.proofs.DepLemmas.{dependencies_all-to}
use Rattle.lexer.specs.Lines.{line_texts, without_mark}
use Rattle.schema_model.specs.Schemas.{Schema, names_of, naming_of, nullable_of, types_of, theory_of, universe_of, width_of}
use Rattle.schema_model.specs.Validity.{HasSetNumbers}
use Rattle.schema_model.specs.declared.naming.Naming.{Naming}
use Rattle.schema_grammar.specs.Declarations.{Declarations}
use Rattle.schema_grammar.specs.Printed.{IsReadBack}
use Rattle.schema_grammar.specs.Schemas.{MeansSchema}
use Rattle.schema_grammar.specs.Texts.{declarations_of, read_text}
use Rattle.schema_grammar.specs.declared.format.Format.TheVariants as format
use Rattle.schema_grammar.specs.declared.format.TheConstants.{MOST_DEPENDENCY_LINES}
use Rattle.schema_grammar.proofs.PrintedSchemas.{printed-schema-law}
use Rattle.schema_grammar.proofs.RefusalLemmas.{ok_at}
use Rattle.schema_grammar.proofs.SchemaLaws.{schema-law}
use Rattle.schema_grammar.proofs.SoundLemmas.{IsWhole, opening_is_whole}
use Rattle.schema_printer.specs.Printing.{dependency_text, lines_text, schema_lines, schema_text}
use Rattle.schema_printer.specs.Spelling.{printed_names_of, spelling}
use Rattle.implication_laws.specs.Rewriting.{IsRewritten}

-- ---- a dependency of the code for each between sets that it can hold
-- a set within a width has a number of the code
set_for : (n : ℕ) (x : Attributes) → n ≤ MOST_ATTRIBUTES → IsSubset x (below n)
    → (s : AttrSet) × (s.0 < 2 ^ MOST_ATTRIBUTES) × (attributes s ≡ x)
set_for n x few within = set_of_attributes x (λ k has. lower k (within k has))
  where
    lower : (k : ℕ) → below n k ≡ true → below MOST_ATTRIBUTES k ≡ true
    lower k is = grind (arith, nat_tests, few)

dep_for : (n : ℕ) (d : Dependency) → n ≤ MOST_ATTRIBUTES → IsWithin (below n) d
    → (e : Dep) × HasSetNumbers e × (dependency_of e ≡ d)
dep_for n (fd x y) few within =
    let left = set_for n x few within.0 in
    let right = set_for n y few within.1 in
    (Fd left.0 right.0, (left.1, right.1), ap₂ (λ (v : Attributes) (w : Attributes). fd v w) left.2 right.2)
dep_for n (mvd x y) few within =
    let left = set_for n x few within.0 in
    let right = set_for n y few within.1 in
    (Mvd left.0 right.0, (left.1, right.1), ap₂ (λ (v : Attributes) (w : Attributes). mvd v w) left.2 right.2)

deps_for : (n : ℕ) (ds : List Dependency) → n ≤ MOST_ATTRIBUTES → All (IsWithin (below n)) ds
    → (es : List Dep) × All HasSetNumbers es × (dependencies_of es ≡ ds)
deps_for n [] few within = ([], All-nil HasSetNumbers, refl)
deps_for n (d ∷ ds) few within =
    let here = dep_for n d few (All-head (IsWithin (below n)) d ds within) in
    let rest = deps_for n ds few (All-tail (IsWithin (below n)) d ds within) in
    (here.0 ∷ rest.0, All-cons HasSetNumbers here.0 rest.0 here.1 rest.1, ap₂ (λ (e : Dependency) (es : List Dependency). e ∷ es) here.2 rest.2)

-- ---- a schema with other dependencies
-- a schema text has one line for each dependency
one_line : (text : List ℕ) (d : Declarations) → MeansSchema text d → length d.lines ≡ length d.deps
unfolding read_text
one_line text d means =
    let whole = ok_at IsWhole _ d ((schema-law text d).1 means) (opening_is_whole 1 (line_texts (without_mark text))) in
    whole.sound.one_line_each

-- what a schema declares, but for the lines
abbrev with_lines : Schema → List Dependency → List ℕ → Declarations
with_lines s ds lines =
    record {
      names = names_of s;
      columns = types_of s;
      deps = ds;
      lines = lines;
      naming = naming_of s;
      nullable = nullable_of s;
    }

-- what such a schema declares, and its text, by the parts of the other
same_declared : (s t : Schema) (ds : List Dependency) (lines : List ℕ) → IsRewritten s ds t
    → with_lines t (theory_of t) lines ≡ with_lines s ds lines
same_declared s t ds lines is =
    let naming = sym is.named.naming in
    let names = sym is.named.names in
    let columns = sym is.columns in
    let nullable = sym is.nullable in
    λ i. record {
      names = names i;
      columns = columns i;
      deps = is.named.theory i;
      lines = lines;
      naming = naming i;
      nullable = nullable i;
    }

same_text : (s t : Schema) (ds : List Dependency) → IsRewritten s ds t → schema_text t (theory_of t) ≡ schema_text s ds
unfolding schema_text printed_names_of
same_text s t ds is =
    let naming = sym is.named.naming in
    let names = sym is.named.names in
    let columns = sym is.columns in
    let nullable = sym is.nullable in
    λ i. lines_text (schema_lines (naming i) (columns i) (map (spelling (naming i)) (names i)) (nullable i)
    ++ map (dependency_text (map (spelling (naming i)) (names i))) (is.named.theory i))

module _ (s : Schema) (ds : List Dependency) (within : All (IsWithin (universe_of s)) ds)
    (few : length ds ≤ MOST_DEPENDENCY_LINES) where
  rewritten : (lines : List ℕ) → length lines ≡ length ds
      → (t : Schema) × IsRewritten s ds t × (declarations_of t ≡ with_lines s ds lines)
  rewritten lines each =
      let found = deps_for (width_of s) ds s.valid.names_within_limit within in
      let size : length found.0 ≡ length ds = sym (length-map found.0 dependency_of) ∙ ap length found.2 in
      let t : Schema = record {
        naming = s.naming;
        names = s.names;
        columns = s.columns;
        nullable = s.nullable;
        deps = found.0;
        lines = lines;
        valid = record {
          names_not_empty = s.valid.names_not_empty;
          names_within_limit = s.valid.names_within_limit;
          names_differ = s.valid.names_differ;
          deps_within_limit = omega (arith, size, few);
          deps_within = dependencies_all-to (IsWithin (universe_of s)) found.0
              (subst (λ (es : List Dependency). All (IsWithin (universe_of s)) es) (sym found.2) within);
          one_line_each = each ∙ sym size;
        };
        typed = s.typed;
        numbers = record { of_nullable = s.numbers.of_nullable; of_deps = found.1 };
      } in (
        t,
        record {
          named = record { naming = refl; names = refl; theory = found.2 };
          columns = refl;
          nullable = refl;
        },
        ap (λ (es : List Dependency). with_lines s es lines) found.2,
      )

  -- the text of these dependencies means such a schema
  pub written_means : All (IsReadBack format.Plain (naming_of s)) (names_of s)
      → (t : Schema) × IsRewritten s ds t × MeansSchema (schema_text s ds) (declarations_of t)
  written_means back =
      let first = rewritten (replicate (length ds) 0) (length-replicate (length ds) 0) in
      let t = first.0 in
      let named = first.1.named in
      let theory : theory_of t ≡ ds = named.theory in
      let size : length t.deps ≡ length ds = sym (length-map t.deps dependency_of) ∙ ap length theory in
      let again : All (IsReadBack format.Plain (naming_of t)) (names_of t) =
      subst (λ (n : Naming). All (IsReadBack format.Plain n) (names_of t)) named.naming
      (subst (λ (names : List (List ℕ)). All (IsReadBack format.Plain (naming_of s)) names) named.names back) in
      let law = printed-schema-law t (omega (arith, size, few)) again in
      let lines = law.0 in
      let each : length lines ≡ length ds = one_line (schema_text t (theory_of t)) _ law.1 ∙ ap length theory in
      let last = rewritten lines each in
      let declared : with_lines t (theory_of t) lines ≡ declarations_of last.0 =
      same_declared s t ds lines first.1 ∙ sym last.2 in (
        last.0,
        last.1,
        subst (λ (text : List ℕ). MeansSchema text (declarations_of last.0)) (same_text s t ds first.1)
            (subst (λ (d : Declarations). MeansSchema (schema_text t (theory_of t)) d) declared law.1),
      )
