-- The answer about a derivation is one.
use Rattle.std.proofs.Common.{◌≡◌, ℕ, List, [], sym, ◌∙◌, ap, inl, inr, subst}
use Rattle.dep_model.specs.Dependencies.{Dependency}
use Rattle.schema_model.specs.Schemas.{Schema}
use Rattle.derivation_grammar.specs.Lines.{DerivationLine}
use Rattle.derivation_grammar.proofs.DerivedLines.{one_last}
use Rattle.derivation_mistakes.specs.Mistakes.{MistakenLine}
use Rattle.derivation_mistakes.proofs.OneMistake.{one_list}
use Rattle.desk_implication.specs.Derivations.{DerivationJudged, DerivationChecked, ChecksDerivation}
use Rattle.implication_laws.specs.OneAnswer.{AllowsOne}
use Rattle.implication_laws.proofs.OneAnswer.{one_after_goal}

one_judged : (schema : Schema) (found : List MistakenLine) (concluded goal : Dependency)
    → AllowsOne (DerivationJudged schema found concluded goal)
one_judged schema found concluded goal one other (inl h) (inl g) = h.3 ∙ sym g.3
one_judged schema found concluded goal one other (inl h) (inr (inl g)) = absurd (g.0 h.0)
one_judged schema found concluded goal one other (inl h) (inr (inr g)) = absurd (g.0 h.1)
one_judged schema found concluded goal one other (inr (inl h)) (inl g) = absurd (h.0 g.0)
one_judged schema found concluded goal one other (inr (inl h)) (inr (inl g)) = h.2 ∙ sym g.2
one_judged schema found concluded goal one other (inr (inl h)) (inr (inr g)) = absurd (g.0 h.1)
one_judged schema found concluded goal one other (inr (inr h)) (inl g) = absurd (h.0 g.1)
one_judged schema found concluded goal one other (inr (inr h)) (inr (inl g)) = absurd (h.0 g.1)
one_judged schema found concluded goal one other (inr (inr h)) (inr (inr g)) = h.1 ∙ sym g.1

one_checked : (schema : Schema) (lines : List DerivationLine) (goal : Dependency)
    → AllowsOne (DerivationChecked schema lines goal)
one_checked schema lines goal one other h g =
    let found = one_list schema [] lines g.0 h.0 g.2 h.2 in
    let concluded = one_last lines g.1 h.1 g.3 h.3 in
    one_judged schema h.0 h.1 goal one other h.4
    (subst (λ (d : Dependency). DerivationJudged schema h.0 d goal other) concluded
    (subst (λ (fs : List MistakenLine). DerivationJudged schema fs g.1 goal other) found g.4))

pub one_derivation_answer : (schema : Schema) (lines : List DerivationLine) (goal : List ℕ)
    → AllowsOne (ChecksDerivation schema lines goal)
one_derivation_answer schema lines goal =
    one_after_goal schema goal (DerivationChecked schema lines) (λ d. one_checked schema lines d)
