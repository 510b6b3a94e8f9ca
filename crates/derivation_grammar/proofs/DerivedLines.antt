-- A text derives what the last of its lines states, where each is derived.
use Rattle.std.proofs.Common.{◌≡◌, ◌<◌, ◌+◌, ◌-◌, ◌==◌, ℕ, Bool, true, false, cond, List, [], ◌∷◌, ◌++◌, length, Some, None, Result, Ok, refl, sym, ◌∙◌, ap, subst, arith, length-append}
use Rattle.std.specs.Prelude.{◌↔◌, All, slice_get}
use Rattle.std.proofs.lemmas.Bool.Decides.{nat_tests}
use Rattle.std.proofs.lemmas.List.{length-map, map-append}
use Rattle.std.proofs.lemmas.List.Elements.{All-cons}
use Rattle.std.proofs.lemmas.Option.{slice_get_within}
use Rattle.schema_model.specs.Schemas.{Schema, theory_in}
use Rattle.dep_model.specs.Dependencies.{Dependency}
use Rattle.derivation.specs.declared.fault.FaultKind.{FaultKind}
use Rattle.derivation.specs.Table.{step_conclusion, pair_conclusion}
use Rattle.proof_grammar.specs.Lines.{by_given, by_reflexivity, by_mreflexivity, by_step, by_pair}
use Rattle.derivation_rules.specs.FurtherTable.{further_conclusion, decomposition_conclusion}
use Rattle.derivation_grammar.specs.Derivations.{stated_by, stated_at, outcome_of_rule, outcome_of_line, AreDerived, LastStates, Derives}
use Rattle.derivation_grammar.specs.Lines.{DerivationBody, by_rule, by_decomposition, by_further, DerivationLine}
use Rattle.derivation_grammar.specs.Meanings.{premises_of, IsEarlier, AreInTurn, MeansDerivation}
use Rattle.derivation_grammar.proofs.OutcomeLemmas.{over_one_some, over_two_some}

-- ---- what lines state
pub stated_push : (lines : List DerivationLine) (l : DerivationLine)
    → stated_by (lines ++ l ∷ []) ≡ stated_by lines ++ l.stated ∷ []
stated_push lines l = map-append (λ (k : DerivationLine). k.stated) lines (l ∷ [])

pub stated_size : (lines : List DerivationLine) → length (stated_by lines) ≡ length lines
stated_size lines = length-map lines (λ (k : DerivationLine). k.stated)

-- ---- premises are earlier lines exactly where the rule has an outcome
stated_earlier : (before : List Dependency) (p : ℕ) (x : Dependency) → stated_at before p ≡ Some x
    → IsEarlier (length before) p
stated_earlier before p x e = by_cases (p == 0) refl e
  where
    by_cases : (b : Bool) → (p == 0) ≡ b → cond b None (slice_get before (p - 1)) ≡ Some x → IsEarlier (length before) p
    by_cases true zero h = cc
    by_cases false some h =
        let low = slice_get_within before (p - 1) x h in
        let positive : 0 < p = grind (arith, nat_tests, some) in
        (positive, omega (arith, low, positive))

one_premise : (count p : ℕ) → IsEarlier count p → All (IsEarlier count) (p ∷ [])
one_premise count p is = All-cons (IsEarlier count) p [] is (λ k d h. absurd (omega (arith, h)))

two_premises : (count p q : ℕ) → IsEarlier count p → IsEarlier count q → All (IsEarlier count) (p ∷ q ∷ [])
two_premises count p q first second = All-cons (IsEarlier count) p (q ∷ []) first (one_premise count q second)

pub outcome_earlier : (s : Schema) (before : List Dependency) (stated : Dependency) (b : DerivationBody)
    (r : Result Dependency FaultKind) → outcome_of_line s before stated b ≡ Some r
    → All (IsEarlier (length before)) (premises_of b)
unfolding outcome_of_line outcome_of_rule
outcome_earlier s before stated (by_rule (by_given k)) r e = λ k d h. absurd (omega (arith, h))
outcome_earlier s before stated (by_rule by_reflexivity) r e = λ k d h. absurd (omega (arith, h))
outcome_earlier s before stated (by_rule by_mreflexivity) r e = λ k d h. absurd (omega (arith, h))
outcome_earlier s before stated (by_rule (by_step rule p)) r e =
    let x = over_one_some (step_conclusion (theory_in s) rule) (stated_at before p) r e in
    one_premise (length before) p (stated_earlier before p x.0 x.1)
outcome_earlier s before stated (by_rule (by_pair rule p q)) r e =
    let x = over_two_some (pair_conclusion rule) (stated_at before p) (stated_at before q) r e in
    two_premises (length before) p q (stated_earlier before p x.0 x.2) (stated_earlier before q x.1 x.3)
outcome_earlier s before stated (by_decomposition p) r e =
    let x = over_one_some (decomposition_conclusion stated) (stated_at before p) r e in
    one_premise (length before) p (stated_earlier before p x.0 x.1)
outcome_earlier s before stated (by_further rule p q) r e =
    let x = over_two_some (further_conclusion rule) (stated_at before p) (stated_at before q) r e in
    two_premises (length before) p q (stated_earlier before p x.0 x.2) (stated_earlier before q x.1 x.3)

-- ---- derived lines stand in their turn
pub derived_in_turn : (s : Schema) (before : List Dependency) (lines : List DerivationLine)
    → AreDerived s before lines → AreInTurn (length before) lines
derived_in_turn s before [] are = tt
derived_in_turn s before (l ∷ ls) are =
    let size : length (before ++ l.stated ∷ []) ≡ length before + 1 = omega (arith, length-append before (l.stated ∷ [])) in (
      record {
        number = are.0.number;
        premises = outcome_earlier s before l.stated l.body (Ok l.stated) are.0.states;
      },
      subst (λ n. AreInTurn n ls) size (derived_in_turn s (before ++ l.stated ∷ []) ls are.1),
    )

-- ---- the last line
same_last : (xs ys : List DerivationLine) (x y : DerivationLine) → xs ++ x ∷ [] ≡ ys ++ y ∷ [] → x ≡ y
same_last [] [] x y e = cc
same_last [] (z ∷ zs) x y e = absurd (omega (arith, ap length e, length-append zs (y ∷ [])))
same_last (w ∷ ws) [] x y e = absurd (omega (arith, ap length e, length-append ws (x ∷ [])))
same_last (w ∷ ws) (z ∷ zs) x y e =
    let rest : ws ++ x ∷ [] ≡ zs ++ y ∷ [] = cc in same_last ws zs x y rest

-- the last of lines states one dependency
pub one_last : (lines : List DerivationLine) (d e : Dependency) → LastStates lines d → LastStates lines e → d ≡ e
one_last lines d e first second =
    let same = same_last first.before second.before first.last second.last (sym first.whole ∙ second.whole) in
    sym first.states ∙ ap (λ (l : DerivationLine). l.stated) same ∙ second.states

some_lines : (before : List DerivationLine) (last : DerivationLine) → 0 < length (before ++ last ∷ [])
some_lines before last = omega (arith, length-append before (last ∷ []))

pub derives_by_lines : (s : Schema) (text : List ℕ) (d : Dependency)
    → Derives s text d
    ↔ ((lines : List DerivationLine) × MeansDerivation s text lines × AreDerived s [] lines × LastStates lines d)
derives_by_lines s text d = (
  λ is. (
    is.before ++ is.last ∷ [],
    record {
      mean = is.mean;
      in_turn = derived_in_turn s [] (is.before ++ is.last ∷ []) is.derived;
      some = some_lines is.before is.last;
      lines_fit = is.lines_fit;
    },
    is.derived,
    record { before = is.before; last = is.last; whole = refl; states = is.states },
  ),
  λ by_lines. there by_lines.0 by_lines.1 by_lines.2 by_lines.3,
)
  where
    there : (lines : List DerivationLine) → MeansDerivation s text lines → AreDerived s [] lines → LastStates lines d
        → Derives s text d
    there lines means derived last =
        let read = subst (MeansDerivation s text) last.whole means in
        record {
          before = last.before;
          last = last.last;
          mean = read.mean;
          derived = subst (AreDerived s []) last.whole derived;
          lines_fit = read.lines_fit;
          states = last.states;
        }
