-- What `cover` and `cover canonical` print means a schema with the dependencies of the cover.
use Rattle.std.proofs.Common.{◌≡◌, ◌≤◌, ℕ, List, [], ◌∷◌, ◌++◌, length, length-append, refl, sym, ap, subst, arith}
use Rattle.std.specs.List.{count_by}
use Rattle.std.specs.Prelude.{All, if◌then◌else◌, map, not}
use Rattle.std.proofs.lemmas.List.{length-map}
use Rattle.std.proofs.lemmas.List.Elements.{All-filter}
use Rattle.std.proofs.lemmas.List.Sums.{sum_by-append}
use Rattle.attr_sets.specs.Attributes.{below, difference, only}
use Rattle.canonical_cover.specs.Canonical.{IsCanonicalCover, IsFixedCanonicalCover}
use Rattle.canonical_cover.proofs.MergeLemmas.{merged_within}
use Rattle.cover_accounts.specs.declared.diagnostic.CoverForm.{CoverForm}
use Rattle.cover_accounts.specs.declared.diagnostic.CoverForm.TheVariants.{Canonical, Minimal}
use Rattle.dep_model.specs.Dependencies.{Dependency, IsWithin, fd, functional_part, is_fd, left_of, right_of}
use Rattle.dep_model.specs.Implication.{Implies}
use Rattle.dep_model.proofs.DepLemmas.{dependencies_all-from}
use Rattle.min_cover.specs.Covers.{HaveSameLegal, IsFixedWholeCover, IsMinimalCover, IsWholeCover, multivalued_part}
use Rattle.min_cover.proofs.CoverLemmas.{thinned_all}
use Rattle.synthesis_3nf.proofs.WithinLemmas.{cover_within}
use Rattle.schema_grammar.proofs.DeclaredNames.{declared_read_back}
use Rattle.schema_grammar.specs.Schemas.{MeansSchema}
use Rattle.schema_grammar.specs.Texts.{declarations_of}
use Rattle.schema_grammar.specs.declared.format.TheConstants.{MOST_DEPENDENCY_LINES}
use Rattle.lexer.specs.Lines.{is_line_feed}
use Rattle.schema_model.specs.Schemas.{Schema, deps_of, naming_of, nullable_of, theory_of, types_of, universe_of, width_of}
use Rattle.schema_printer.specs.Printing.{dependency_text, lines_text, schema_lines, schema_text}
use Rattle.schema_printer.specs.Spelling.{printed_names_of}
use Rattle.schema_match.specs.Carried.{HaveSameLegalRelations}
use Rattle.schema_match.specs.Columns.{SameNames}
use Rattle.desk_covers.specs.CoverChecks.{ChecksCanonicalCover, ChecksCover, ChecksCoverForm}
use Rattle.desk_covers.specs.Covering.{GivesCanonicalCover, GivesCover}
use Rattle.desk_responses.specs.ResponseValues.{ResponseValue, Says}
use Rattle.desk_responses.specs.declared.status.Status.TheVariants.{Yes}
use Rattle.implication_laws.specs.Minimality.{IsCoverByKind}
use Rattle.implication_laws.specs.Rewriting.{IsRewritten, MeansConfirmed}
use Rattle.implication_laws.proofs.AlikeLaws.{alike}
use Rattle.implication_laws.proofs.ConfirmedLaws.{yes-from}
use Rattle.implication_laws.proofs.SameNamesLemmas.{same_names}
use Rattle.implication_laws.proofs.WrittenSchemas.{written_means}

-- ---- covers lie within the universe
whole_within : (n : ℕ) (ds whole : List Dependency) → All (IsWithin (below n)) ds → IsFixedWholeCover n ds whole
    → All (IsWithin (below n)) whole
whole_within n ds whole within is =
    thinned_all n (IsWithin (below n)) is.cover (multivalued_part ds) whole is.thinned
    (cover_within n ds is.cover within is.fixed) (All-filter (λ d. not (is_fd d)) (IsWithin (below n)) ds within)

pub theory_within : (s : Schema) → All (IsWithin (universe_of s)) (theory_of s)
theory_within s = dependencies_all-from (IsWithin (universe_of s)) (deps_of s) s.valid.deps_within

canonical_within : (s : Schema) (cover : List Dependency) → IsFixedCanonicalCover (width_of s) (theory_of s) cover
    → All (IsWithin (universe_of s)) cover
canonical_within s cover is =
    subst (λ (ds : List Dependency). All (IsWithin (universe_of s)) ds) (sym is.once)
    (merged_within (universe_of s) is.whole (whole_within (width_of s) (theory_of s) is.whole (theory_within s) is.fixed))

-- ---- printed covers
-- a schema that is rewritten with dependencies for which the same relations are legal says the same
module _ (s t : Schema) (ds : List Dependency) (is : IsRewritten s ds t)
    (same : HaveSameLegal (width_of s) ds (theory_of s)) where
  names_stay : SameNames s t
  names_stay = same_names s t is.named.names

  legal_stay : HaveSameLegalRelations s t
  legal_stay =
      let own : HaveSameLegal (width_of s) (theory_of t) (theory_of s) =
      subst (λ (es : List Dependency). HaveSameLegal (width_of s) es (theory_of s)) (sym is.named.theory) same in
      (alike s t is.named.naming is.named.names own).there.legal

-- what is said of a width and dependencies is said of those of a rewritten schema
of_rewritten : (P : ℕ → List Dependency → Type 0) (s t : Schema) (ds : List Dependency) → IsRewritten s ds t
    → P (width_of s) ds → P (width_of t) (theory_of t)
of_rewritten P s t ds is holds =
    subst (λ (es : List Dependency). P (width_of t) es) (sym is.named.theory)
    (subst (λ (names : List (List ℕ)). P (length names) ds) is.named.names holds)

-- its functional dependencies are a cover of a form of themselves, and no multivalued one follows from the rest
abbrev IsCoverAlone : CoverForm → ℕ → List Dependency → Type 0
IsCoverAlone Minimal n ds = IsMinimalCover n ds (functional_part ds) × IsWholeCover n ds ds
IsCoverAlone Canonical n ds = IsCanonicalCover n ds (functional_part ds) × IsWholeCover n ds ds

by_kind : (form : CoverForm) (t : Schema) → IsCoverAlone form (width_of t) (theory_of t) → IsCoverByKind form t
by_kind Minimal t alone = record { functional = alone.0; multivalued = alone.1 }
by_kind Canonical t alone = record { functional = alone.0; multivalued = alone.1 }

same_itself : (n : ℕ) (ds : List Dependency) → HaveSameLegal n ds ds
same_itself n ds r = ((λ legal. legal), (λ legal. legal))

whole_alone : (n : ℕ) (ds whole : List Dependency) → IsWholeCover n ds whole → IsWholeCover n whole whole
whole_alone n ds whole covers = record { same_legal = same_itself n whole; needed = covers.needed }

-- what a cover implies the dependencies imply
implied_back : (n : ℕ) (es ds : List Dependency) (d : Dependency) → HaveSameLegal n es ds → Implies n es d → Implies n ds d
implied_back n es ds d same implied = λ r legal. implied r ((same r).1 legal)

-- a dependency without an attribute of its left side
abbrev without_left : Dependency → ℕ → Dependency
without_left d i = fd (difference (left_of d) (only i)) (right_of d)

minimal_alone : (n : ℕ) (ds whole : List Dependency) → IsMinimalCover n ds (functional_part whole) → IsWholeCover n ds whole
    → IsCoverAlone Minimal n whole
minimal_alone n ds whole minimal covers =
    let part = functional_part whole in (
      record {
        single = minimal.single;
        same_legal = same_itself n part;
        needed = minimal.needed;
        short = λ d has i left implied.
            minimal.short d has i left (implied_back n part (functional_part ds) (without_left d i) minimal.same_legal implied);
      },
      whole_alone n ds whole covers,
    )

canonical_alone : (n : ℕ) (ds cover : List Dependency) → IsCanonicalCover n ds (functional_part cover) → IsWholeCover n ds cover
    → IsCoverAlone Canonical n cover
canonical_alone n ds cover canonical covers =
    let part = functional_part cover in (
      record {
        functional = canonical.functional;
        same_legal = same_itself n part;
        once = canonical.once;
        some_right = canonical.some_right;
        short_left = λ d has i left implied.
            canonical.short_left d has i left (implied_back n part (functional_part ds) (without_left d i) canonical.same_legal implied);
        short_right = canonical.short_right;
      },
      whole_alone n ds cover covers,
    )

-- a printed text means such a schema, where its lines suffice, and the check says yes to it
module _ (form : CoverForm) (text : List ℕ) (s : Schema) (ds : List Dependency) (printed : ResponseValue)
    (means : MeansSchema text (declarations_of s)) (within : All (IsWithin (universe_of s)) ds)
    (same : HaveSameLegal (width_of s) ds (theory_of s)) (alone : IsCoverAlone form (width_of s) ds)
    (says : Says Yes (schema_text s ds) printed) where
  confirmed : length ds ≤ MOST_DEPENDENCY_LINES → MeansConfirmed (ChecksCoverForm form) s ds printed.text
  confirmed few =
      let found = written_means s ds within few (declared_read_back text (declarations_of s) means) in
      let t = found.0 in (
        t,
        found.1,
        subst (λ (bytes : List ℕ). MeansSchema bytes (declarations_of t))
            (sym (ap (λ (r : ResponseValue). r.text) says)) found.2,
        λ file other_file response checks. yes-from form s t file other_file response checks (
          names_stay s t ds found.1 same,
          legal_stay s t ds found.1 same,
          by_kind form t (of_rewritten (IsCoverAlone form) s t ds found.1 alone),
        ),
      )

pub cover_confirmed : (text : List ℕ) (s : Schema) (printed : ResponseValue) → MeansSchema text (declarations_of s)
    → GivesCover s printed
    → (whole : List Dependency) × Says Yes (schema_text s whole) printed
    × (length whole ≤ MOST_DEPENDENCY_LINES → MeansConfirmed ChecksCover s whole printed.text)
cover_confirmed text s printed means (whole, fixed, minimal, covers, says) =
    let n = width_of s in
    let ds = theory_of s in (
      whole,
      says,
      confirmed Minimal text s whole printed means (whole_within n ds whole (theory_within s) fixed) covers.same_legal
          (minimal_alone n ds whole minimal covers) says,
    )

pub canonical_confirmed : (text : List ℕ) (s : Schema) (printed : ResponseValue) → MeansSchema text (declarations_of s)
    → GivesCanonicalCover s printed
    → (cover : List Dependency) × Says Yes (schema_text s cover) printed
    × (length cover ≤ MOST_DEPENDENCY_LINES → MeansConfirmed ChecksCanonicalCover s cover printed.text)
canonical_confirmed text s printed means (cover, fixed, canonical, covers, says) =
    let n = width_of s in
    let ds = theory_of s in (
      cover,
      says,
      confirmed Canonical text s cover printed means (canonical_within s cover fixed) covers.same_legal
          (canonical_alone n ds cover canonical covers) says,
    )

-- ---- lines
-- a text of lines has a line feed for each
feeds_of_lines : (lines : List (List ℕ)) → length lines ≤ count_by is_line_feed (lines_text lines)
feeds_of_lines [] = omega arith
feeds_of_lines (line ∷ lines) =
    let weigh : ℕ → ℕ = λ b. if is_line_feed b then 1 else 0 in
    let rest = feeds_of_lines lines in
    let whole = sum_by-append weigh (line ++ 10 ∷ []) (lines_text lines) in
    let here = sum_by-append weigh line (10 ∷ []) in
    let one : count_by is_line_feed (10 ∷ []) ≡ 1 = refl in
    omega (arith, rest, whole, here, one)

-- so a printed schema has no more dependencies than lines
pub dependencies_on_lines : (s : Schema) (ds : List Dependency) → length ds ≤ count_by is_line_feed (schema_text s ds)
unfolding schema_text
dependencies_on_lines s ds =
    let names = printed_names_of s in
    let declared = schema_lines (naming_of s) (types_of s) names (nullable_of s) in
    let more = map (dependency_text names) ds in
    let size = length-append declared more in
    let each = length-map ds (dependency_text names) in
    let feeds = feeds_of_lines (declared ++ more) in
    omega (arith, size, each, feeds)
