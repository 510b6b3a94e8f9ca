-- What is left to prove of `is_far`: what a call requires, and its clause, by `FrontErrors`.
use Rattle.std.proofs.Common.{◌<◌, arith, take}
use Rattle.std.proofs.lemmas.Bool.Decides.{nat_tests}
use Rattle.attr_sets.specs.Attributes.{only}
use Rattle.attr_sets.specs.Sets.{attributes}
use Rattle.near_rules.proofs.FrontErrors.{error_of_front}
use Rattle.near_rules.proofs.front.is_far.Goals as goal

pub error_within-requires-clause-rows : goal.error_within-requires-clause-rows
error_within-requires-clause-rows c =
    let (r, sought) = c.requires.rows in
    let (count, low, interned) = sought.front in (
      c.args.sought.now.width,
      take count r,
      attributes c.args.set,
      interned,
      c.in_ok-groups.ensures.groups c.args.sought.now.width (take count r) interned,
      c.in_ok-groups.ensures.firsts c.args.sought.now.width (take count r) interned,
    )

pub returns : goal.returns
returns c = record {
  far = λ r sought far near.
      let (count, low, interned) = sought.front in
      let n = c.args.sought.now.width in
      let set = attributes c.args.set in
      let error = c.in_ok-error.ensures.error n (take count r) set interned
      (c.in_ok-groups.ensures.groups n (take count r) interned) (c.in_ok-groups.ensures.firsts n (take count r) interned) in
      let more : c.args.sought.now.limit < c.in_ok-error.error = grind (arith, nat_tests, far) in
      omega (
        arith,
        more,
        near.2,
        error_of_front n r count set (only c.args.attribute) near.0 c.in_ok-error.error low near.1 error,
      );
}
