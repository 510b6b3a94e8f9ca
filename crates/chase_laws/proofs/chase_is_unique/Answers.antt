-- The laws `chase_is_unique`, clause by clause.
use Rattle.std.proofs.lemmas.List.Elements.{All-contains}
use Rattle.chase_laws.specs.Tableaux.{SymbolRow}
use Rattle.chase_laws.proofs.TableauLemmas.{Same-refl}
use Rattle.chase_laws.proofs.InvariantLemmas.{HasLength}
use Rattle.chase_laws.proofs.ClosingLemmas.{functional_closing_unique, closing_unique}
use Rattle.chase_laws.proofs.RoundLemmas.{rounds_unique}
use Rattle.chase_laws.proofs.UniqueLemmas.{closed_unique}
use Rattle.chase_laws.proofs.chase_is_unique.Goals as goal

pub returns : goal.returns
returns c = record {
  functional = λ n ds t s u over one other. functional_closing_unique n ds t t s u (λ (row : SymbolRow) h. All-contains (HasLength n) t row over h) (Same-refl t) one other;
  round = rounds_unique;
  closed = closing_unique;
  texts = closed_unique;
}
