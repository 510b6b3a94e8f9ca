-- What is left to prove of `first_candidates`: its clause `candidates`.
use Rattle.std.proofs.Common.{◌≡◌, ◌∷◌, [], ◌++◌, List, sym, ap, subst, ◌∙◌}
use Rattle.attr_sets.specs.Attributes.{Attributes, none}
use Rattle.attr_sets.specs.declared.set.AttrSet.{AttrSet}
use Rattle.dep_model.specs.Plans.{schemes_of}
use Rattle.candidate_sets.specs.Standing.{AreCandidates}
use Rattle.candidate_sets.proofs.StepLemmas.{first_candidates}
use Rattle.candidate_sets.proofs.adding.first_candidates.Goals as goal

pub returns-clause-candidates : goal.returns-clause-candidates
returns-clause-candidates c = λ width most right.
    let items : c.push.new.self.items ≡ c.empty.result ∷ [] =
    c.in_ok-push.ensures.items ∙ ap (λ (sets : List AttrSet). sets ++ c.empty.result ∷ []) c.new-first.ensures.items in
    let schemes : schemes_of c.push.new.self.items ≡ none ∷ [] =
    ap schemes_of items ∙ ap (λ (x : Attributes). x ∷ []) c.empty.ensures.members in
    subst (λ (xs : List Attributes). AreCandidates width most [] right xs) (sym schemes)
    (first_candidates width most right)
