-- Judging the lines of a derivation one after another: what the loop of `mistaken_lines` keeps.
use Rattle.std.proofs.Common.{◌≡◌, ◌<◌, ◌≤◌, ◌+◌, ◌-◌, ℕ, zero, suc, List, [], ◌∷◌, ◌++◌, length, take, get_or, refl, sym, ◌∙◌, ap, subst, arith}
use Rattle.std.specs.Prelude.{All}
use Rattle.std.proofs.lemmas.List.{get_or-map, length-map, length-take-le, map-append, take-map, take_all, take_more}
use Rattle.std.proofs.lemmas.List.Elements.{All-map, All-take}
use Rattle.schema_model.specs.Schemas.{Schema, naming_of, universe_of}
use Rattle.dep_model.specs.declared.dep.Dep.{Dep}
use Rattle.dep_model.specs.Dependencies.{Dependency, IsWithin}
use Rattle.dep_model.specs.Deps.{dependency_of, dependencies_of}
use Rattle.proof_grammar.specs.Meanings.{certificate_lines}
use Rattle.derivation_grammar.specs.Derivations.{stated_by, LastStates}
use Rattle.derivation_grammar.specs.Lines.{DerivationLine}
use Rattle.derivation_grammar.specs.Meanings.{premises_of, IsEarlier, IsInTurn, AreInTurn, IsDerivation}
use Rattle.derivation_grammar.proofs.DerivedLines.{stated_push, stated_size}
use Rattle.derivation_grammar.proofs.SchemaLines.{IsOfSchema, lines_of_schema}
use Rattle.derivation_text.specs.declared.line.DerivationLine as lines
use Rattle.derivation_text.specs.Views.{derivation_line_of, derivation_lines_of}
use Rattle.derivation_mistakes.specs.declared.mistake.MistakenLine as code
use Rattle.derivation_mistakes.specs.Mistakes.{AreMistakenLines}
use Rattle.derivation_mistakes.specs.Views.{mistaken_lines_of, IsMistakenLineOf}

-- so many lines are judged
pub record HasJudged (s : Schema) (all : List lines.DerivationLine) (k : ℕ) (before : List Dep) (found : List code.MistakenLine)
    : Type 0 where
  pub judged : AreMistakenLines s [] (derivation_lines_of (take k all)) (mistaken_lines_of found)
  pub stated : dependencies_of before ≡ stated_by (derivation_lines_of (take k all))
  pub of_schema : All (IsMistakenLineOf s) found

-- ---- the lines before
of_schema : (s : Schema) (all : List lines.DerivationLine) → IsDerivation s (derivation_lines_of all)
    → All (IsOfSchema s) (derivation_lines_of all)
of_schema s all derivation =
    lines_of_schema s (certificate_lines (naming_of s) derivation.0) (derivation_lines_of all) derivation.1.mean

pub before_within : (s : Schema) (all : List lines.DerivationLine) (k : ℕ) (before : List Dep) (found : List code.MistakenLine)
    → IsDerivation s (derivation_lines_of all) → HasJudged s all k before found
    → All (IsWithin (universe_of s)) (dependencies_of before)
before_within s all k before found derivation so_far =
    let front = subst (All (IsOfSchema s)) (take-map derivation_line_of k all)
    (All-take (IsOfSchema s) k (derivation_lines_of all) (of_schema s all derivation)) in
    subst (All (IsWithin (universe_of s))) (sym so_far.stated)
    (All-map (IsWithin (universe_of s)) (λ (l : DerivationLine). l.stated) (derivation_lines_of (take k all))
    (λ i d low. (front i d low).stated))

before_size : (s : Schema) (all : List lines.DerivationLine) (k : ℕ) (before : List Dep) (found : List code.MistakenLine)
    → k ≤ length all → HasJudged s all k before found → length before ≡ k
before_size s all k before found low so_far =
    sym (length-map before dependency_of) ∙ ap length so_far.stated ∙ stated_size (derivation_lines_of (take k all))
    ∙ length-map (take k all) derivation_line_of ∙ length-take-le k all low

-- ---- the next line
pub next_within : (s : Schema) (all : List lines.DerivationLine) (k : ℕ) (d : lines.DerivationLine)
    → IsDerivation s (derivation_lines_of all) → k < length all → IsOfSchema s (derivation_line_of (get_or all k d))
next_within s all k d derivation low =
    subst (IsOfSchema s) (get_or-map derivation_line_of all k d (derivation_line_of d) low)
    (of_schema s all derivation k (derivation_line_of d) (omega (arith, low, length-map all derivation_line_of)))

turn_at : (n : ℕ) (ls : List DerivationLine) (k : ℕ) (d : DerivationLine) → AreInTurn n ls → k < length ls
    → IsInTurn (n + k) (get_or ls k d)
turn_at n [] k d are low = absurd (omega (arith, low))
turn_at n (l ∷ ls) zero d are low =
    let here : n ≡ n + zero = omega arith in subst (λ m. IsInTurn m l) here are.0
turn_at n (l ∷ ls) (suc k) d are low =
    let there : n + 1 + k ≡ n + suc k = omega arith in
    subst (λ m. IsInTurn m (get_or ls k d)) there (turn_at (n + 1) ls k d are.1 (omega (arith, low)))

pub next_earlier : (s : Schema) (all : List lines.DerivationLine) (k : ℕ) (d : lines.DerivationLine) (now before : List Dep)
    (found : List code.MistakenLine) → now ≡ before → IsDerivation s (derivation_lines_of all) → k < length all
    → HasJudged s all k before found → All (IsEarlier (length now)) (premises_of (derivation_line_of (get_or all k d)).body)
next_earlier s all k d now before found held derivation low so_far =
    let size = before_size s all k before found (omega (arith, low)) so_far in
    let turn = turn_at 0 (derivation_lines_of all) k (derivation_line_of d) derivation.1.in_turn
    (omega (arith, low, length-map all derivation_line_of)) in
    let count : 0 + k ≡ length now = omega (arith, size, ap length held) in
    subst (λ n. All (IsEarlier n) (premises_of (derivation_line_of (get_or all k d)).body)) count
    (subst (λ (l : DerivationLine). All (IsEarlier (0 + k)) (premises_of l.body))
    (get_or-map derivation_line_of all k d (derivation_line_of d) low) turn.premises)

-- one line more
one_longer : (all : List lines.DerivationLine) (k : ℕ) (d : lines.DerivationLine) → k < length all
    → derivation_lines_of (take (k + 1) all)
    ≡ derivation_lines_of (take k all) ++ derivation_line_of (get_or all k d) ∷ []
one_longer all k d low =
    ap derivation_lines_of (take_more all k d low)
    ∙ map-append derivation_line_of (take k all) (get_or all k d ∷ [])

pub one_judged : (s : Schema) (all : List lines.DerivationLine) (k : ℕ) (d : lines.DerivationLine) (before next : List Dep)
    (found more : List code.MistakenLine) → k < length all → HasJudged s all k before found
    → AreMistakenLines s [] (derivation_lines_of (take k all) ++ derivation_line_of (get_or all k d) ∷ []) (mistaken_lines_of more)
    → All (IsMistakenLineOf s) more → next ≡ before ++ (get_or all k d).stated ∷ [] → HasJudged s all (k + 1) next more
one_judged s all k d before next found more low so_far judged are_of grown =
    let longer = one_longer all k d low in
    record {
      judged = subst (λ (ls : List DerivationLine). AreMistakenLines s [] ls (mistaken_lines_of more)) (sym longer) judged;
      stated = ap dependencies_of grown ∙ map-append dependency_of before ((get_or all k d).stated ∷ [])
          ∙ ap (λ (ds : List Dependency). ds ++ dependency_of (get_or all k d).stated ∷ []) so_far.stated
          ∙ sym (stated_push (derivation_lines_of (take k all)) (derivation_line_of (get_or all k d)))
          ∙ ap stated_by (sym longer);
      of_schema = are_of;
    }

-- what the last line states
pub last_line : (all : List lines.DerivationLine) (d : lines.DerivationLine) → 0 < length all
    → LastStates (derivation_lines_of all) (dependency_of (get_or all (length all - 1) d).stated)
last_line all d some =
    let k = length all - 1 in
    let low : k < length all = omega (arith, some) in
    let whole : take (k + 1) all ≡ all = take_all (k + 1) all (omega (arith, some)) in
    record {
      before = derivation_lines_of (take k all);
      last = derivation_line_of (get_or all k d);
      whole = sym (ap derivation_lines_of whole) ∙ one_longer all k d low;
      states = refl;
    }
