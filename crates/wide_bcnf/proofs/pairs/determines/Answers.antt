-- What is left to prove of `determines`: its clause `implied`.
use Rattle.std.proofs.Common.{not, ap, ◌∙◌, arith}
use Rattle.wide_bcnf.proofs.pairs.determines.Goals as goal

pub returns : goal.returns
returns c = record {
  implied = (
    (λ yes. (c.block.ensures.none.0 (c.is_none.ensures ∙ ap not yes)).1),
    (λ implied. grind (arith, c.is_none.ensures, c.block.ensures.none.1 (c.requires.attribute, implied))),
  );
}
