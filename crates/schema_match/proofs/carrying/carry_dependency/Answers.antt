-- What is left to prove of `carry_dependency`: what it answers in the cases `Fd` and `Mvd`, by
-- `carry_attributes-is`.
use Rattle.std.proofs.Common.{ap, ◌∙◌}
use Rattle.attr_sets.specs.Attributes.{Attributes}
use Rattle.attr_sets.specs.Sets.{attributes}
use Rattle.dep_model.specs.Dependencies.{fd, mvd}
use Rattle.schema_match.specs.Carried.{carry_attributes}
use Rattle.schema_match.proofs.CarryLemmas.{carry_attributes-is}
use Rattle.schema_match.proofs.carrying.carry_dependency.Goals as goal

pub returns-in-Fd : goal.returns-in-Fd
returns-in-Fd c = record {
  carried = λ schema other are within.
      let low = rw c.in-Fd.is at within in
      let left = carry_attributes-is schema other c.args.namesakes.now (attributes c.in-Fd.lhs)
      (attributes c.carry_set.result) are low.0 c.carry_set.ensures.members in
      let right = carry_attributes-is schema other c.args.namesakes.now (attributes c.in-Fd.rhs)
      (attributes c.carry_set-in-Fd.result) are low.1 c.carry_set-in-Fd.ensures.members in
      rw c.in-Fd.is (ap (λ (p : Attributes). fd p (attributes c.carry_set-in-Fd.result)) left
      ∙ ap (λ (p : Attributes). fd (carry_attributes schema other (attributes c.in-Fd.lhs)) p) right);
}

pub returns-in-Mvd : goal.returns-in-Mvd
returns-in-Mvd c = record {
  carried = λ schema other are within.
      let low = rw c.in-Mvd.is at within in
      let left = carry_attributes-is schema other c.args.namesakes.now (attributes c.in-Mvd.lhs)
      (attributes c.carry_set-in-Mvd.result) are low.0 c.carry_set-in-Mvd.ensures.members in
      let right = carry_attributes-is schema other c.args.namesakes.now (attributes c.in-Mvd.rhs)
      (attributes c.carry_set-in-Mvd-2.result) are low.1 c.carry_set-in-Mvd-2.ensures.members in
      rw c.in-Mvd.is (ap (λ (p : Attributes). mvd p (attributes c.carry_set-in-Mvd-2.result)) left
      ∙ ap (λ (p : Attributes). mvd (carry_attributes schema other (attributes c.in-Mvd.lhs)) p) right);
}
