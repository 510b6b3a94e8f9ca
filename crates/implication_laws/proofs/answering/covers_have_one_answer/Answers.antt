-- The laws `covers_have_one_answer`, clause by clause.
use Rattle.implication_laws.proofs.OneAnswer.{one_canonical_answer, one_cover_answer, one_same_answer}
use Rattle.implication_laws.proofs.OneReasons.{one_explained_cover, one_explained_keys}
use Rattle.cover_accounts.specs.declared.diagnostic.CoverForm.TheVariants.{Canonical, Minimal}
use Rattle.implication_laws.proofs.OneStepsAnswer.{one_cover_check}
use Rattle.implication_laws.proofs.answering.covers_have_one_answer.Goals as goal

pub returns : goal.returns
returns c = record {
  cover = one_cover_answer;
  canonical = one_canonical_answer;
  explained_cover = one_explained_cover;
  explained_keys = one_explained_keys;
  check = one_cover_check Minimal;
  check_canonical = one_cover_check Canonical;
  same = one_same_answer;
}
