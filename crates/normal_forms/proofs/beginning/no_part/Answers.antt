-- What is left to prove of `no_part`: the empty set determines itself.
use Rattle.std.proofs.Common.{sym, ◌∙◌}
use Rattle.std.proofs.lemmas.Bool.{true≢false}
use Rattle.attr_sets.specs.Sets.{attributes}
use Rattle.attr_sets.proofs.AttributesLemmas.{same_at}
use Rattle.dep_model.proofs.RuleLemmas.{reflexivity_obeyed}
use Rattle.normal_forms.proofs.beginning.no_part.Goals as goal

pub returns : goal.returns
returns c = record {
  known = λ by s. record {
    within = λ k m. absurd (true≢false (sym m ∙ same_at c.empty-none.ensures.members k));
    determined = λ r legal. reflexivity_obeyed (attributes c.empty-none.result) (attributes c.empty-none.result) r (λ k m. m);
  };
}
