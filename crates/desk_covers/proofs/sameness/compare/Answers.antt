-- What is left to prove of `compare`: its clause `response`, where the schemas differ.
use Rattle.std.proofs.Common.{ℕ, List, Option, Vec, Global, inr, subst}
use Rattle.std.specs.Prelude.{IfSome}
use Rattle.desk_responses.specs.ResponseValues.{Says}
use Rattle.desk_responses.specs.Responses.{response_value}
use Rattle.desk_responses.specs.declared.status.Status.TheVariants.{No}
use Rattle.desk_covers.specs.Sameness.{IsDifferenceText}
use Rattle.desk_covers.proofs.sameness.compare.Goals as goal

pub returns-in-Some : goal.returns-in-Some
returns-in-Some c =
    let found = subst
    (λ (lines : Option (Vec ℕ Global)). IfSome lines (λ text. IsDifferenceText c.args.schema.now c.args.other.now c.args.file.now c.args.other_file.now text.items))
    c.in-Some.is c.in_ok-lines.ensures.differ in
    record {
      response = inr (
        found.of_schema,
        found.of_other,
        found.differ,
        subst (λ (t : List ℕ). Says No t (response_value c.with_text-in-Some.result)) found.reads c.with_text-in-Some.ensures.says,
      );
    }
