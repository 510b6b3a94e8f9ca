-- The wrong ones of lines, line by line; and that there is none exactly where the lines are derived.
use Rattle.std.proofs.Common.{◌≡◌, inl, inr, ◌+◌, ℕ, List, [], ◌∷◌, ◌++◌, length, refl, sym, ap, subst, arith, length-append, append_assoc}
use Rattle.std.specs.Prelude.{◌↔◌, All}
use Rattle.std.proofs.lemmas.List.{append-nil}
use Rattle.std.proofs.lemmas.List.Elements.{All-head, All-tail}
use Rattle.schema_model.specs.Schemas.{Schema, naming_of, universe_of, ImpliedBy}
use Rattle.dep_model.specs.Dependencies.{Dependency, IsWithin}
use Rattle.proof_grammar.specs.Meanings.{certificate_lines}
use Rattle.derivation_grammar.specs.Derivations.{stated_by, AreDerived, LastStates, Derives}
use Rattle.derivation_grammar.specs.Lines.{DerivationLine}
use Rattle.derivation_grammar.specs.Meanings.{AreInTurn, MeansDerivation, IsDerivation}
use Rattle.derivation_grammar.proofs.Certificates.{derived_is_implied}
use Rattle.derivation_grammar.proofs.DerivedLines.{derives_by_lines}
use Rattle.derivation_grammar.proofs.SchemaLines.{IsOfSchema, lines_of_schema}
use Rattle.derivation_mistakes.specs.Mistakes.{IsRight, MistakenLine, IsMistakenLine, AreMistakenLines}

-- ---- one line more
pub right_more : (s : Schema) (before : List Dependency) (lines : List DerivationLine) (found : List MistakenLine)
    (l : DerivationLine) → AreMistakenLines s before lines found → IsRight s (before ++ stated_by lines) l
    → AreMistakenLines s before (lines ++ l ∷ []) found
right_more s before [] found l are is = inl (subst (λ (ds : List Dependency). IsRight s ds l) (append-nil before) is, are)
right_more s before (k ∷ ks) found l (inl h) is =
    let here = subst (λ (ds : List Dependency). IsRight s ds l) (sym (append_assoc before (k.stated ∷ []) (stated_by ks))) is in
    inl (h.0, right_more s (before ++ k.stated ∷ []) ks found l h.1 here)
right_more s before (k ∷ ks) found l (inr h) is =
    let here = subst (λ (ds : List Dependency). IsRight s ds l) (sym (append_assoc before (k.stated ∷ []) (stated_by ks))) is in
    inr (h.0, h.1, h.2, h.3, right_more s (before ++ k.stated ∷ []) ks h.1 l h.4 here)

pub mistaken_more : (s : Schema) (before : List Dependency) (lines : List DerivationLine) (found : List MistakenLine)
    (l : DerivationLine) (w : MistakenLine) → AreMistakenLines s before lines found
    → IsMistakenLine s (before ++ stated_by lines) l w → AreMistakenLines s before (lines ++ l ∷ []) (found ++ w ∷ [])
mistaken_more s before [] found l w are is =
    inr (
      w,
      [],
      subst (λ (ds : List Dependency). IsMistakenLine s ds l w) (append-nil before) is,
      ap (λ (fs : List MistakenLine). fs ++ w ∷ []) are,
      refl,
    )
mistaken_more s before (k ∷ ks) found l w (inl h) is =
    let here = subst (λ (ds : List Dependency). IsMistakenLine s ds l w) (sym (append_assoc before (k.stated ∷ []) (stated_by ks))) is in
    inl (h.0, mistaken_more s (before ++ k.stated ∷ []) ks found l w h.1 here)
mistaken_more s before (k ∷ ks) found l w (inr h) is =
    let here = subst (λ (ds : List Dependency). IsMistakenLine s ds l w) (sym (append_assoc before (k.stated ∷ []) (stated_by ks))) is in
    inr (
      h.0,
      h.1 ++ w ∷ [],
      h.2,
      ap (λ (fs : List MistakenLine). fs ++ w ∷ []) h.3,
      mistaken_more s (before ++ k.stated ∷ []) ks h.1 l w h.4 here,
    )

-- ---- lines are derived exactly where none is wrong
derived_none : (s : Schema) (before : List Dependency) (lines : List DerivationLine) → AreDerived s before lines
    → AreMistakenLines s before lines []
derived_none s before [] are = refl
derived_none s before (l ∷ ls) are = inl (are.0.states, derived_none s (before ++ l.stated ∷ []) ls are.1)

none_derived : (s : Schema) (before : List Dependency) (lines : List DerivationLine) → AreInTurn (length before) lines
    → AreMistakenLines s before lines [] → AreDerived s before lines
none_derived s before [] turned are = tt
none_derived s before (l ∷ ls) turned (inl h) =
    let size : length before + 1 ≡ length (before ++ l.stated ∷ []) = omega (arith, length-append before (l.stated ∷ [])) in (
      record { number = turned.0.number; states = h.0 },
      none_derived s (before ++ l.stated ∷ []) ls (subst (λ n. AreInTurn n ls) size turned.1) h.1,
    )
none_derived s before (l ∷ ls) turned (inr h) = let e = h.3 in cc

pub derives_without_mistakes : (s : Schema) (text : List ℕ) (d : Dependency)
    → Derives s text d
    ↔ ((lines : List DerivationLine) × MeansDerivation s text lines × AreMistakenLines s [] lines [] × LastStates lines d)
derives_without_mistakes s text d = (
  λ is.
      let by_lines = (derives_by_lines s text d).0 is in
      (by_lines.0, by_lines.1, derived_none s [] by_lines.0 by_lines.2, by_lines.3),
  λ by_lines.
      (derives_by_lines s text d).1
      (by_lines.0, by_lines.1, none_derived s [] by_lines.0 by_lines.1.in_turn by_lines.2, by_lines.3),
)

-- ---- what a derivation states
last_holds : (P : DerivationLine → Type 0) (before : List DerivationLine) (last : DerivationLine)
    → All P (before ++ last ∷ []) → P last
last_holds P [] last all = All-head P last [] all
last_holds P (l ∷ before) last all = last_holds P before last (All-tail P l (before ++ last ∷ []) all)

-- its last line states what lies within the universe
pub last_within : (s : Schema) (lines : List DerivationLine) (d : Dependency) → IsDerivation s lines → LastStates lines d
    → IsWithin (universe_of s) d
last_within s lines d derivation last =
    let all = lines_of_schema s (certificate_lines (naming_of s) derivation.0) lines derivation.1.mean in
    subst (IsWithin (universe_of s)) last.states
    (last_holds (IsOfSchema s) last.before last.last (subst (All (IsOfSchema s)) last.whole all)).stated

-- which is implied where no line is wrong
pub last_is_implied : (s : Schema) (lines : List DerivationLine) (d : Dependency) → IsDerivation s lines → LastStates lines d
    → AreMistakenLines s [] lines [] → ImpliedBy s d
last_is_implied s lines d derivation last none =
    derived_is_implied s derivation.0 d
    ((derives_without_mistakes s derivation.0 d).1 (lines, derivation.1, none, last))
