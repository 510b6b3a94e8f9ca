-- What is left to prove of `end`: that the chain is a derivation of its goal.
use Rattle.std.proofs.Common.{◌-◌, ◌∙◌, sym, ap, subst, arith, [], ◌∷◌, length, length-append}
use Rattle.std.proofs.lemmas.Bool.{false≢true}
use Rattle.std.proofs.lemmas.List.{length-map}
use Rattle.std.proofs.lemmas.Result.{on_ok_weaker}
use Rattle.attr_sets.specs.Sets.{attributes}
use Rattle.short_derivations.specs.Links.{IsLinked}
use Rattle.dep_model.specs.Dependencies.{fd}
use Rattle.short_derivations.specs.Views.{line_of, lines_of}
use Rattle.short_derivations.proofs.ChainSteps.{ended_at_goal, ended_by_cut}
use Rattle.short_derivations.proofs.chaining.end.Goals as goal

pub returns-then-is_subset : goal.returns-then-is_subset
returns-then-is_subset c = record {
  linked = ended_at_goal c.args.theory.now c.args.links.now (attributes c.args.lhs) (attributes c.args.rhs) (attributes c.args.closed)
      (lines_of c.args.lines.now.items) c.requires.chain c.requires.reached (c.is_subset.ensures.subset.0 c.if-is_subset.true);
}

pub returns : goal.returns
returns c =
    let long = length-map c.args.lines.now.items line_of in
    record {
      linked = on_ok_weaker c.add_line.result
          (λ added. subst (IsLinked c.args.theory.now c.args.links.now (fd (attributes c.args.lhs) (attributes c.args.rhs))) (sym added) (ended_by_cut c.args.theory.now c.args.links.now (attributes c.args.lhs) (attributes c.args.rhs) (attributes c.args.closed)
          (lines_of c.args.lines.now.items) (c.len.result - 1) c.requires.chain c.requires.reached
          (λ outside. false≢true (sym c.if-is_subset.false ∙ c.is_subset.ensures.subset.1 outside))
          (omega (arith, c.len.ensures, long, ap length c.requires.chain.last.2, length-append c.requires.chain.last.0 (c.requires.chain.last.1 ∷ [])))))
          c.add_line.ensures.added;
    }
