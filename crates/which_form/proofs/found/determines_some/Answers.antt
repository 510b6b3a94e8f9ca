-- What is left to prove of `determines_some`: its clause.
use Rattle.which_form.proofs.found.determines_some.Goals as goal

pub returns : goal.returns
returns c = record {
  determines = record {
    over = λ n within low.
        let exact = c.functional_closure.ensures.closure n within low in (
          (λ e. let both = c.intersects.ensures.intersects.0 e in (both.0, both.2, (exact both.0).0 both.1)),
          (λ d. c.intersects.ensures.intersects.1 (d.0, (exact d.0).1 d.2, d.1)),
        );
  };
}
