-- What is left to prove of `keys`: its clauses `refused` and `not_too_wide`.
use Rattle.std.proofs.Common.{sym, ◌∙◌, arith}
use Rattle.std.proofs.lemmas.Bool.{false≢true}
use Rattle.std.proofs.lemmas.Result.{err_from_is_err_and}
use Rattle.key_listing.proofs.listing.keys.Goals as goal

pub returns-then-is_too_wide-clause-refused : goal.returns-then-is_too_wide-clause-refused
returns-then-is_too_wide-clause-refused c = c.is_too_wide.ensures.too_wide.0 c.if-is_too_wide.true

pub returns-in_err-found-clause-refused : goal.returns-in_err-found-clause-refused
returns-in_err-found-clause-refused c =
    let p = err_from_is_err_and c.from_residual.result c.from_residual.ensures.1 in
    rw (p.1, p.2) (λ wide. false≢true (sym c.if-is_too_wide.false ∙ c.is_too_wide.ensures.too_wide.1 wide))

pub returns-then-many-clause-refused : goal.returns-then-many-clause-refused
returns-then-many-clause-refused c = (
  (λ wide. false≢true (sym c.if-is_too_wide.false ∙ c.is_too_wide.ensures.too_wide.1 wide)),
  record {
    each = c.in_ok-found.ensures.keys.each;
    ascending = c.in_ok-found.ensures.keys.ascending;
    count = omega (arith, c.in_ok-found.ensures.keys.within_limit, c.if-many.true, c.len-many.ensures, c.in_ok-found.found.ok.0);
  },
)

pub returns-else-many-clause-not_too_wide : goal.returns-else-many-clause-not_too_wide
returns-else-many-clause-not_too_wide c wide = false≢true (sym c.if-is_too_wide.false ∙ c.is_too_wide.ensures.too_wide.1 wide)
