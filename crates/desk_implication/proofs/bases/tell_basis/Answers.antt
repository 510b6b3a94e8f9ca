-- What is left to prove of `tell_basis`: its clause `response` and what `basis_lines` requires.
use Rattle.std.proofs.Common.{ℕ, List, subst}
use Rattle.std.proofs.lemmas.List.Elements.{All-weaker}
use Rattle.attr_sets.specs.declared.set.AttrSet.{AttrSet}
use Rattle.attr_sets.specs.Attributes.{IsSubset}
use Rattle.attr_sets.specs.Sets.{attributes}
use Rattle.dep_basis.specs.Traces.{blocks_of}
use Rattle.dep_model.specs.Keys.{IsBlock}
use Rattle.schema_model.specs.Schemas.{width_of, theory_of, universe_of}
use Rattle.desk_responses.specs.ResponseValues.{Says}
use Rattle.desk_responses.specs.Responses.{response_value}
use Rattle.desk_responses.specs.declared.status.Status.TheVariants.{Yes}
use Rattle.desk_implication.proofs.bases.tell_basis.Goals as goal

pub basis_lines-requires-clause-blocks : goal.basis_lines-requires-clause-blocks
basis_lines-requires-clause-blocks c =
    let s = c.args.schema.now in
    All-weaker (λ (p : AttrSet). IsBlock (width_of s) (theory_of s) (attributes c.args.lhs) (attributes p)) (λ (p : AttrSet). IsSubset (attributes p) (universe_of s))
    (λ p block. block.universe) (blocks_of c.basis-found.result) (rw (c.theory.ensures.theory) at c.basis-found.ensures.basis).each

pub returns : goal.returns
returns c = record {
  response = (
    c.basis-found.result,
    (rw (c.theory.ensures.theory) at c.basis-found.ensures.basis),
    subst (λ (text : List ℕ). Says Yes text (response_value c.with_text.result)) c.in_ok-basis_lines.ensures.text c.with_text.ensures.says,
  );
}
