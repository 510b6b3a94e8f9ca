-- The law `explanations_leave_the_answer`, by the lemmas of `CoverTexts`, `FewestTexts` and `ReasonTexts`.
use Rattle.reason_laws.proofs.CoverTexts.{cover_leaves}
use Rattle.reason_laws.proofs.FewestTexts.{fewest_leaves}
use Rattle.reason_laws.proofs.ReasonTexts.{keys_leave, split_leaves, synthesis_leaves}
use Rattle.reason_laws.proofs.reasons.explanations_leave_the_answer.Goals as goal

pub returns : goal.returns
returns c = record {
  cover = λ schema response are_names. cover_leaves schema are_names response;
  keys = λ schema response are_names. keys_leave schema are_names response;
  synthesis = λ schema response are_names. synthesis_leaves schema are_names response;
  fewest = λ schema response are_names. fewest_leaves schema are_names response;
  split = λ schema form response are_names. split_leaves schema are_names form response;
}
