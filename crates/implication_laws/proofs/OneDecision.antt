-- A goal has one answer, but for a derivation that is no functional chain and not given.
use Rattle.std.proofs.Common.{◌≡◌, ℕ, List, ◌++◌, inl, inr, sym, ap, ◌∙◌, subst}
use Rattle.attr_sets.specs.Attributes.{Attributes}
use Rattle.dep_model.specs.Dependencies.{Dependency, fd, mvd}
use Rattle.schema_model.specs.Schemas.{names_of, width_of, theory_of, naming_of, theory_in}
use Rattle.schema_model.specs.Schemas.{Schema}
use Rattle.derivation.specs.Derivs.{tree_of}
use Rattle.derivation.specs.Trees.{Tree}
use Rattle.derivation.proofs.ChainLemmas.{chain_one}
use Rattle.basis_proofs.specs.Proofs.{IsChainIfFunctional, IsDirectUnlessChain}
use Rattle.proof_grammar.specs.Printing.{canonical_certificate}
use Rattle.desk_responses.specs.ResponseValues.{ResponseValue}
use Rattle.desk_responses.specs.declared.status.Status.TheVariants.{Yes, No}
use Rattle.desk_texts.specs.Texts.{yes_text, no_text}
use Rattle.desk_arguments.specs.Goals.{IsGoal}
use Rattle.desk_implication.specs.Implication.{Decided, DecidesGoal}
use Rattle.typed_rows.specs.Shown.{shown_tuples}
use Rattle.implication_laws.specs.OneAnswer.{HasFixedProof}
use Rattle.implication_laws.proofs.GoalLemmas.{says-status, one_goal, goal_goes}
use Rattle.implication_laws.proofs.OneBasis.{one_refuted}
use Rattle.implication_laws.proofs.StepLaws.{same_says}

one_tree : (schema : Schema) (d : Dependency) (t u : Tree) → HasFixedProof schema d → IsChainIfFunctional (theory_in schema) d t
    → IsChainIfFunctional (theory_in schema) d u → IsDirectUnlessChain (theory_in schema) d t → IsDirectUnlessChain (theory_in schema) d u → t ≡ u
one_tree schema (fd x y) t u fixed first second direct also = chain_one (theory_in schema) x y t u (first fixed) (second fixed)
one_tree schema (mvd x y) t u (k, is) first second direct also = direct.1 k is ∙ sym (also.1 k is)

one_decided : (schema : Schema) (d : Dependency) (one other : ResponseValue)
    → (one.status ≡ Yes → HasFixedProof schema d)
    → Decided schema d one → Decided schema d other → one ≡ other
one_decided schema d one other fixed (inl (implied, (proof, proves, chain, direct, says)))
    (inl (also, (deriv, derives, run, short, said))) =
    same_says Yes _ _ one other says said
    (ap (λ (t : Tree). yes_text ++ canonical_certificate schema t)
    (one_tree schema d (tree_of proof) (tree_of deriv) (fixed (says-status Yes _ one says)) chain run direct.0 short.0))
one_decided schema d one other fixed (inl (implied, found)) (inr (broken, shown)) = absurd (broken implied)
one_decided schema d one other fixed (inr (broken, shown)) (inl (implied, found)) = absurd (broken implied)
one_decided schema d one other fixed (inr (broken, (agreement, is, shown, says))) (inr (also, (outside, shows, also_shown, said))) =
    same_says No _ _ one other says said
    (ap (λ (x : Attributes). no_text (names_of schema) (shown_tuples schema x))
    (one_refuted (width_of schema) (theory_of schema) d agreement outside is shows))

pub one_decision : (schema : Schema) (goal : List ℕ) (d : Dependency) (one other : ResponseValue) → IsGoal schema goal d
    → (one.status ≡ Yes → HasFixedProof schema d) → DecidesGoal schema goal one
    → DecidesGoal schema goal other → one ≡ other
one_decision schema goal d one other is fixed (inl stops) second = absurd (goal_goes schema goal d one is stops)
one_decision schema goal d one other is fixed (inr (e, read, rest)) (inl stops) =
    absurd (goal_goes schema goal d other is stops)
one_decision schema goal d one other is fixed (inr (e, read, rest)) (inr (f, reads, remains)) =
    let first : e ≡ d = one_goal (naming_of schema) (names_of schema) goal e d read.means is.means in
    let second : f ≡ d = one_goal (naming_of schema) (names_of schema) goal f d reads.means is.means in
    one_decided schema d one other fixed (subst (λ (g : Dependency). Decided schema g one) first rest)
    (subst (λ (g : Dependency). Decided schema g other) second remains)
