-- What `explain implies` answers is what `implies` answers, but for the derivation of a goal that is implied; and that
-- `check derivation` accepts.
use Rattle.std.proofs.Common.{◌≡◌, ◌⊎◌, ℕ, List, [], inl, inr, sym, ◌∙◌, refl, ap, subst}
use Rattle.dep_model.specs.Dependencies.{Dependency}
use Rattle.derivation_grammar.specs.Derivations.{Derives, LastStates}
use Rattle.derivation_grammar.specs.Lines.{DerivationLine}
use Rattle.derivation_grammar.proofs.DerivedLines.{one_last}
use Rattle.derivation_mistakes.specs.Mistakes.{AreMistakenLines, MistakenLine}
use Rattle.derivation_mistakes.proofs.MistakenLines.{derives_without_mistakes}
use Rattle.derivation_mistakes.proofs.OneMistake.{one_list}
use Rattle.schema_grammar.specs.Schemas.{MeansSchema}
use Rattle.schema_grammar.specs.Texts.{declarations_of}
use Rattle.schema_grammar.proofs.DeclaredNames.{declared_read_back}
use Rattle.schema_model.specs.Schemas.{Schema, ImpliedBy, names_of, naming_of}
use Rattle.desk_arguments.specs.Goals.{IsGoal}
use Rattle.desk_implication.specs.Derivations.{ChecksDerivation, DerivationChecked, DerivationJudged}
use Rattle.desk_implication.specs.Explanations.{ExplainsGoal, ExplainsImplication}
use Rattle.desk_implication.specs.Implication.{Decided, DecidesGoal}
use Rattle.desk_responses.specs.ResponseValues.{ResponseValue}
use Rattle.desk_responses.specs.declared.status.Status.TheVariants.{Yes, No}
use Rattle.implication_laws.specs.AcceptedDerivations.{IsAcceptedFor}
use Rattle.implication_laws.specs.OneAnswer.{AreBothYes}
use Rattle.implication_laws.proofs.GoalLemmas.{goal_goes, goal_stops-status, one_goal, says-status}
use Rattle.implication_laws.proofs.ImplyingLaws.{no_not_yes, refused_not_yes}
use Rattle.implication_laws.proofs.OneAnswer.{one_goal_stop}
use Rattle.implication_laws.proofs.OneDecision.{one_decision}

module _ (s : Schema) (goal : List ℕ) where
  -- a goal means one dependency
  same_goal : (d e : Dependency) → IsGoal s goal d → IsGoal s goal e → d ≡ e
  same_goal d e is also = one_goal (naming_of s) (names_of s) goal d e is.means also.means

  -- where a goal is not implied, the answer is fixed
  fixed_no : (d : Dependency) (one other : ResponseValue) → IsGoal s goal d → (ImpliedBy s d → ⊥)
      → Decided s d one → DecidesGoal s goal other → one ≡ other
  fixed_no d one other is broken (inl (implied, found)) second = absurd (broken implied)
  fixed_no d one other is broken (inr (also, found)) second =
      one_decision s goal d one other is (λ yes. absurd (no_not_yes one yes (says-status No _ one found.3)))
      (inr (d, is, inr (also, found))) second

  explained_yes : (d : Dependency) (response : ResponseValue) → ImpliedBy s d → ExplainsGoal s d response
      → response.status ≡ Yes
  explained_yes d response implied (inl (also, (lines, found, says))) = says-status Yes _ response says
  explained_yes d response implied (inr (broken, found)) = absurd (broken implied)

  decided_yes : (d : Dependency) (response : ResponseValue) → ImpliedBy s d → Decided s d response
      → response.status ≡ Yes
  decided_yes d response implied (inl (also, found)) = says-status Yes _ response found.4
  decided_yes d response implied (inr (broken, found)) = absurd (broken implied)

  -- ---- beside `implies`
  pub explained_as_decided : (explained decided : ResponseValue) → ExplainsImplication s goal explained
      → DecidesGoal s goal decided → (explained ≡ decided) ⊎ AreBothYes s goal explained decided
  explained_as_decided explained decided (inl stops) (inl also) = inl (one_goal_stop s goal explained decided stops also)
  explained_as_decided explained decided (inl stops) (inr (e, also, rest)) = absurd (goal_goes s goal e explained also stops)
  explained_as_decided explained decided (inr (d, is, found)) (inl stops) = absurd (goal_goes s goal d decided is stops)
  explained_as_decided explained decided (inr (d, is, inr (broken, found))) (inr second) =
      inl (fixed_no d explained decided is broken found (inr second))
  explained_as_decided explained decided (inr (d, is, inl (implied, found))) (inr (e, also, rest)) =
      let same : e ≡ d = same_goal e d also is in
      inr (record {
        dependency = d;
        means = is;
        implied = implied;
        one_says_yes = explained_yes d explained implied (inl (implied, found));
        other_says_yes = decided_yes d decided implied (subst (λ (g : Dependency). Decided s g decided) same rest);
      })

  -- ---- beside another of its own
  pub explained_twice : (one other : ResponseValue) → ExplainsImplication s goal one → ExplainsImplication s goal other
      → (one ≡ other) ⊎ AreBothYes s goal one other
  explained_twice one other (inl stops) (inl also) = inl (one_goal_stop s goal one other stops also)
  explained_twice one other (inl stops) (inr (e, also, rest)) = absurd (goal_goes s goal e one also stops)
  explained_twice one other (inr (d, is, found)) (inl stops) = absurd (goal_goes s goal d other is stops)
  explained_twice one other (inr (d, is, found)) (inr (e, also, rest)) =
      same_kind found (subst (λ (g : Dependency). ExplainsGoal s g other) (same_goal e d also is) rest)
    where
      same_kind : ExplainsGoal s d one → ExplainsGoal s d other → (one ≡ other) ⊎ AreBothYes s goal one other
      same_kind (inr (broken, first)) (inl (implied, second)) = absurd (broken implied)
      same_kind (inr (broken, first)) (inr (too, second)) = inl (fixed_no d one other is broken first (inr (d, is, second)))
      same_kind (inl (implied, first)) second =
          inr (record {
            dependency = d;
            means = is;
            implied = implied;
            one_says_yes = explained_yes d one implied (inl (implied, first));
            other_says_yes = explained_yes d other implied second;
          })

-- ---- beside `check derivation`
-- lines of which none is wrong are answered so
judged_yes : (s : Schema) (lines : List DerivationLine) (d : Dependency) (response : ResponseValue)
    → AreMistakenLines s [] lines [] → LastStates lines d → DerivationChecked s lines d response → response.status ≡ Yes
judged_yes s lines d response none last (found, concluded, are, states, judged) =
    by (one_list s [] lines found [] are none) (one_last lines concluded d states last) judged
  where
    by : found ≡ [] → concluded ≡ d → DerivationJudged s found concluded d response → response.status ≡ Yes
    by empty same (inl (right, agrees, implied, says)) = says-status Yes _ response says
    by empty same (inr (inl (some, agrees, says))) = absurd (some empty)
    by empty same (inr (inr (differs, says))) = absurd (differs same)

derives_accepted : (s : Schema) (goal text : List ℕ) (d : Dependency) → IsGoal s goal d → Derives s text d
    → IsAcceptedFor s goal text
derives_accepted s goal text d is derives =
    let right = (derives_without_mistakes s text d).0 derives in
    (right.0, right.1, λ checked answers. accepted right.0 right.2 right.3 checked answers)
  where
    accepted : (lines : List DerivationLine) → AreMistakenLines s [] lines [] → LastStates lines d
        → (checked : ResponseValue) → ChecksDerivation s lines goal checked → checked.status ≡ Yes
    accepted lines none last checked (inl stops) = absurd (goal_goes s goal d checked is stops)
    accepted lines none last checked (inr (e, also, rest)) =
        judged_yes s lines d checked none last
        (subst (λ (g : Dependency). DerivationChecked s lines g checked) (same_goal s goal e d also is) rest)

-- what is printed after yes, of the schema of a file, is accepted for the same goal
pub explained_accepted : (file : List ℕ) (s : Schema) (goal : List ℕ) (explained : ResponseValue)
    → MeansSchema file (declarations_of s) → ExplainsImplication s goal explained → explained.status ≡ Yes
    → IsAcceptedFor s goal explained.text
explained_accepted file s goal explained means (inl stops) says_yes =
    absurd (refused_not_yes explained says_yes (goal_stops-status s goal explained stops))
explained_accepted file s goal explained means (inr (d, is, inl (implied, (lines, found, says)))) says_yes =
    derives_accepted s goal explained.text d is
    (subst (λ (text : List ℕ). Derives s text d) (sym (ap (λ (r : ResponseValue). r.text) says))
    (found.derives (declared_read_back file (declarations_of s) means)))
explained_accepted file s goal explained means (inr (d, is, inr (broken, inl (implied, found)))) says_yes = absurd (broken implied)
explained_accepted file s goal explained means (inr (d, is, inr (broken, inr (also, found)))) says_yes =
    absurd (no_not_yes explained says_yes (says-status No _ explained found.3))
