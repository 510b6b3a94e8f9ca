-- What is left to prove of `has_chain`: a chain was found exactly where the functional dependencies imply the goal.
use Rattle.std.proofs.Common.{sym, ◌∙◌}
use Rattle.short_proofs.proofs.proving.has_chain.Goals as goal

pub returns : goal.returns
returns c = record {
  exact = (
    (λ some. c.in_ok-found.ensures.found_where_implied.0 (sym c.is_some.ensures ∙ some)),
    (λ implied. c.is_some.ensures ∙ c.in_ok-found.ensures.found_where_implied.1 implied),
  );
}
