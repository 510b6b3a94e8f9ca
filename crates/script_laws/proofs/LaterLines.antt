-- In a schema that a text means each dependency that may be broken stands after the first line: no name is declared
-- before that line, so its dependency has none.
use Rattle.std.proofs.Common.{◌≡◌, ◌<◌, ◌≤◌, ◌+◌, ◌^◌, ◌⊎◌, ℕ, true, None, IsSome, Option, List, [], ◌∷◌, ◌++◌, length, zip, refl, sym, ap, subst, ◌∙◌, inl, inr, arith, length-append}
use Rattle.std.specs.Prelude.{All, is_some}
use Rattle.std.proofs.lemmas.Bool.{and_from, lt-ltb, false≢true}
use Rattle.std.proofs.lemmas.List.Elements.{All-nil, All-cons, All-head, All-tail}
use Rattle.attr_sets.specs.Attributes.{Attributes, none}
use Rattle.attr_sets.proofs.AttributesLemmas.{is_subset-from}
use Rattle.dep_model.specs.Dependencies.{Dependency}
use Rattle.schema_model.specs.Schemas.{Schema, width_of}
use Rattle.relation_queries.specs.Queries.{breaches_of}
use Rattle.relation_queries.specs.Queries as terms
use Rattle.lexer.specs.Lines.{line_texts, without_mark}
use Rattle.lexer.specs.Tokens.{Mark}
use Rattle.schema_grammar.specs.Declarations.{Declarations, add_nullable, no_declaration}
use Rattle.schema_grammar.specs.Grammar.{dependency_of_sign}
use Rattle.schema_grammar.specs.LineTokens.{naming_in}
use Rattle.schema_grammar.specs.Meanings.{attributes_of_words, IsAttribute, IsSide, IsDependency}
use Rattle.schema_grammar.specs.Schemas.{DeclareNames, MeansTextLine, MeansLines, IsPlainText, IsVersionedText, MeansSchema}
use Rattle.schema_grammar.specs.Texts.{declarations_of}
use Rattle.schema_grammar.specs.declared.format.Format.{Format}
use Rattle.schema_grammar.specs.declared.format.Format.TheVariants as format
use Rattle.schema_grammar.specs.declared.symbol.Sign.{Sign}
use Rattle.schema_grammar.specs.declared.symbol.Sign.TheVariants as sign
use Rattle.schema_model.specs.declared.column_type.ColumnType.{ColumnType}
use Rattle.script_texts.specs.Queries.{is_number}
use Rattle.script_laws.specs.Premises.{HasLaterLines}

-- ---- dependencies without names
no_attribute : (f : Format) (m : Mark) → IsAttribute f [] m → ⊥
no_attribute f m is = false≢true (ap (λ (found : Option ℕ). is_some found) is.known)

no_side : (f : Format) (ms : List Mark) (x : Attributes) → IsSide f [] ms x → x ≡ none
no_side f ms x (inl empty) = empty.nothing
no_side f [] x (inr is) = absurd (omega (arith, is.not_empty))
no_side f (m ∷ ms) x (inr is) = absurd (no_attribute f m (All-head (IsAttribute f []) m ms is.each))

none_within : (n : ℕ) (s : Sign) → breaches_of n (dependency_of_sign s none none) ≡ None
none_within n sign.Functional = rw (is_subset-from none none (λ k member. member)) refl
none_within n sign.Multivalued = rw (is_subset-from none none (λ k member. member)) refl

never_broken : (n : ℕ) (f : Format) (ms : List Mark) (d : Dependency) → IsDependency f [] ms d → breaches_of n d ≡ None
never_broken n f ms d is =
    ap (breaches_of n) is.states
    ∙ ap (λ (x : Attributes). breaches_of n (dependency_of_sign is.sign x is.y)) (no_side f is.lhs is.x is.left_side)
    ∙ ap (λ (y : Attributes). breaches_of n (dependency_of_sign is.sign none y)) (no_side f is.rhs is.y is.right_side)
    ∙ none_within n is.sign

-- ---- rules
-- a dependency that may be broken stands in a line whose number is 2 or more
abbrev StandsLater : ℕ → ℕ → Dependency → Type 0
StandsLater n line d = IsSome (breaches_of n d) → is_number line ≡ true

abbrev AllLater : ℕ → List ℕ → List Dependency → Type 0
AllLater n lines ds = All (λ (rule : ℕ × Dependency). StandsLater n rule.0 rule.1) (zip lines ds)

one_more : (n : ℕ) (lines : List ℕ) (ds : List Dependency) (line : ℕ) (d : Dependency) → length lines ≡ length ds
    → AllLater n lines ds → StandsLater n line d → AllLater n (lines ++ line ∷ []) (ds ++ d ∷ [])
one_more n [] [] line d long all later =
    All-cons (λ (rule : ℕ × Dependency). StandsLater n rule.0 rule.1) (line, d) [] later
    (All-nil (λ (rule : ℕ × Dependency). StandsLater n rule.0 rule.1))
one_more n [] (e ∷ ds) line d long all later = absurd (omega (arith, long))
one_more n (l ∷ lines) [] line d long all later = absurd (omega (arith, long))
one_more n (l ∷ lines) (e ∷ ds) line d long all later =
    All-cons (λ (rule : ℕ × Dependency). StandsLater n rule.0 rule.1) (l, e) (zip (lines ++ line ∷ []) (ds ++ d ∷ []))
    (All-head (λ (rule : ℕ × Dependency). StandsLater n rule.0 rule.1) (l, e) (zip lines ds) all)
    (one_more n lines ds line d (omega (arith, long))
    (All-tail (λ (rule : ℕ × Dependency). StandsLater n rule.0 rule.1) (l, e) (zip lines ds) all) later)

-- ---- lines
-- a dependency for each line, and these stand later
record StandLater (n : ℕ) (d : Declarations) : Type 0 where
  pub long : length d.lines ≡ length d.deps
  pub later : AllLater n d.lines d.deps

-- what is declared has the same dependencies
record HasSame (d whole : Declarations) : Type 0 where
  pub lines : whole.lines ≡ d.lines
  pub deps : whole.deps ≡ d.deps

same_of : (d next whole : Declarations) → HasSame d next → whole ≡ next → HasSame d whole
same_of d next whole same is = subst (HasSame d) (sym is) same

kept_later : (n : ℕ) (d whole : Declarations) → HasSame d whole → StandLater n d → StandLater n whole
kept_later n d whole same is = record {
  long = ap (λ (ls : List ℕ). length ls) same.lines ∙ is.long
      ∙ sym (ap (λ (ds : List Dependency). length ds) same.deps);
  later = subst (λ (ls : List ℕ). AllLater n ls whole.deps) (sym same.lines)
      (subst (λ (ds : List Dependency). AllLater n d.lines ds) (sym same.deps) is.later);
}

declaring_keeps : (f : Format) (column : ColumnType) (d : Declarations) (ms : List Mark) (whole : Declarations)
    → DeclareNames f column d ms whole → HasSame d whole
declaring_keeps f column d [] whole is = same_of d d whole (record { lines = refl; deps = refl }) is
declaring_keeps f column d (m ∷ ms) whole is =
    let kept = declaring_keeps f column _ ms whole is.1 in
    record { lines = kept.lines; deps = kept.deps }

-- a line is the second or a later one, or nothing is declared before it
abbrev IsReady : ℕ → Declarations → Type 0
IsReady number d = (1 < number) ⊎ (d.names ≡ [])

dependency_later : (n : ℕ) (f : Format) (number : ℕ) (d : Declarations) (ms : List Mark) (dep : Dependency)
    → number < 2 ^ 64
    → IsReady number d → IsDependency f d.names ms dep → StandsLater n number dep
dependency_later n f number d ms dep small (inl second) is some =
    and_from _ _ (lt-ltb 1 number second) (lt-ltb number (2 ^ 64) small)
dependency_later n f number d ms dep small (inr nothing) is some =
    let without : IsDependency f [] ms dep =
    subst (λ (names : List (List ℕ)). IsDependency f names ms dep) nothing is in
    let none_found = ap (λ (found : Option terms.TableQuery). is_some found) (never_broken n f ms dep without) in
    absurd (false≢true (sym none_found ∙ some))

line_later : (n : ℕ) (f : Format) (number : ℕ) (d : Declarations) (line : List ℕ) (next : Declarations)
    → number < 2 ^ 64
    → IsReady number d → MeansTextLine f number d line next → StandLater n d → StandLater n next
line_later n f number d line next small ready (inl (inl blank)) is =
    kept_later n d next (same_of d d next (record { lines = refl; deps = refl }) blank.same) is
line_later n f number d line next small ready (inl (inr declares)) is =
    kept_later n d next (declaring_keeps f declares.column d declares.words next declares.names) is
line_later n f number d line next small ready (inr (inl allows)) is =
    let more : Declarations = add_nullable d (attributes_of_words d.names allows.words) in
    kept_later n d next (same_of d more next (record { lines = refl; deps = refl }) allows.adds) is
line_later n f number d line next small ready (inr (inr states)) is =
    subst (StandLater n) (sym states.adds) (record {
      long = length-append d.lines (number ∷ []) ∙ ap (λ (k : ℕ). k + 1) is.long
          ∙ sym (length-append d.deps (states.dep ∷ []));
      later = one_more n d.lines d.deps number states.dep is.long is.later
          (dependency_later n f number d (states.head ∷ states.others) states.dep small ready states.dependency);
    })

lines_later : (n : ℕ) (f : Format) (number : ℕ) (d : Declarations) (lines : List (List ℕ)) (whole : Declarations)
    → 1 ≤ number → number + length lines < 2 ^ 64 → IsReady number d → MeansLines f number d lines whole
    → StandLater n d → StandLater n whole
lines_later n f number d [] whole first small ready means is = subst (StandLater n) (sym means) is
lines_later n f number d (line ∷ lines) whole first small ready (next, this, rest) is =
    lines_later n f (number + 1) next lines whole (omega arith) (omega (arith, small)) (inl (omega (arith, first))) rest
    (line_later n f number d line next (omega (arith, small)) ready this is)

-- ---- texts
nothing_later : (n : ℕ) (f : Format) → StandLater n (no_declaration (naming_in f))
nothing_later n f = record { long = refl; later = All-nil (λ (rule : ℕ × Dependency). StandsLater n rule.0 rule.1) }

text_later : (n : ℕ) (lines : List (List ℕ)) (whole : Declarations) → length lines < 2 ^ 63
    → IsPlainText lines whole ⊎ IsVersionedText lines whole → StandLater n whole
text_later n lines whole small (inl plain) =
    lines_later n format.Plain 1 (no_declaration (naming_in format.Plain)) lines whole (omega arith)
    (omega (arith, small)) (inr refl) plain.declared
    (nothing_later n format.Plain)
text_later n lines whole small (inr versioned) =
    let long : length lines ≡ length versioned.before + length (versioned.version ∷ versioned.later) =
    ap (λ (ls : List (List ℕ)). length ls) versioned.cut
    ∙ length-append versioned.before (versioned.version ∷ versioned.later) in
    lines_later n versioned.format (length versioned.before + 2)
    (no_declaration (naming_in versioned.format)) versioned.later whole
    (omega arith) (omega (arith, small, long)) (inr refl) versioned.declared (nothing_later n versioned.format)

pub later_lines : (text : List ℕ) (s : Schema) → MeansSchema text (declarations_of s)
    → length (line_texts (without_mark text)) < 2 ^ 63
    → HasLaterLines s
later_lines text s means small =
    let lines : List (List ℕ) = line_texts (without_mark text) in
    let stand = text_later (width_of s) lines (declarations_of s) small means.lines in stand.later
