-- The laws `closed_tableaux_decide`, clause by clause.
use Rattle.chase_laws.proofs.SoundLemmas.{lossless_from_distinguished}
use Rattle.chase_laws.proofs.ClosedLemmas.{closed_gaining, gaining_lossy}
use Rattle.chase_laws.specs.Answers.{texts_of}
use Rattle.chase_laws.proofs.closed_tableaux_decide.Goals as goal

pub returns : goal.returns
returns c = record {
  lossless = lossless_from_distinguished;
  gains = closed_gaining;
  lossy = λ n ds plan s. gaining_lossy n ds plan (texts_of s);
}
