-- What is left to prove of `reaches`: what it answers where the sets do not fit.
use Rattle.std.proofs.Common.{sym, subst}
use Rattle.attr_sets.specs.Attributes.{Attributes}
use Rattle.attr_sets.specs.Sets.{attributes}
use Rattle.short_proofs.specs.Short.{Agrees}
use Rattle.short_proofs.proofs.fitting.reaches.Goals as goal

pub returns-then-not-is_one_sided : goal.returns-then-not-is_one_sided
returns-then-not-is_one_sided c = record { none = λ no fit. c.is_one_sided.ensures.none c.if-not-is_one_sided.true fit.0 }

pub returns-then-not-agrees : goal.returns-then-not-agrees
returns-then-not-agrees c = record {
  none = λ no fit. c.agrees.ensures.none c.if-not-agrees.true
      (subst (λ (r : Attributes). Agrees (attributes c.args.rest) (attributes c.args.rhs) r) (sym c.sides.ensures.right) fit.2);
}
