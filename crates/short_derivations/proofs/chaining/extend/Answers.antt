-- What is left to prove of `extend`: that the chain goes on.
use Rattle.std.proofs.Common.{◌-◌, ◌∙◌, sym, ap, arith, [], ◌∷◌, length, length-append}
use Rattle.std.proofs.lemmas.Bool.{false≢true}
use Rattle.std.proofs.lemmas.List.{length-map}
use Rattle.std.proofs.lemmas.Result.{on_ok_weaker}
use Rattle.attr_sets.specs.Sets.{attributes}
use Rattle.short_derivations.specs.Views.{line_of, lines_of}
use Rattle.short_derivations.proofs.ChainSteps.{grows_at_once, grows_lifted}
use Rattle.short_derivations.proofs.chaining.extend.Goals as goal

pub returns-then-holds : goal.returns-then-holds
returns-then-holds c =
    let both = c.holds.ensures.both.0 c.if-holds.true in
    let long = length-map c.args.lines.now.items line_of in
    record {
      chain = on_ok_weaker c.add_line.result
          (λ added. grows_at_once c.args.theory.now c.args.links.now (attributes c.args.lhs) (attributes c.args.rhs) (attributes c.args.closed) c.args.link
          (c.len-next.result - 1) c.len-next.result (lines_of c.args.lines.now.items) (lines_of c.add_given.new.lines.items) (lines_of c.add_line.new.lines.items)
          c.requires.chain c.requires.one c.requires.link c.requires.out c.requires.new c.requires.missing c.requires.goes_on both.0 both.1
          (omega (arith, c.len-next.ensures, long)) (omega (arith, c.len-next.ensures, long, ap length c.requires.chain.last.2, length-append c.requires.chain.last.0 (c.requires.chain.last.1 ∷ [])))
          c.in_ok-add_given.ensures.added added)
          c.add_line.ensures.added;
    }

pub returns : goal.returns
returns c =
    let long = length-map c.args.lines.now.items line_of in
    record {
      chain = on_ok_weaker c.add_line-3.result
          (λ added. grows_lifted c.args.theory.now c.args.links.now (attributes c.args.lhs) (attributes c.args.rhs) (attributes c.args.closed)
          (attributes c.union-wide.result) c.args.link
          (c.len-next.result - 1) c.len-next.result (lines_of c.args.lines.now.items) (lines_of c.add_given.new.lines.items)
          (lines_of c.add_line-2.new.lines.items) (lines_of c.add_line-3.new.lines.items)
          c.requires.chain c.requires.one c.requires.link c.requires.out c.requires.new c.requires.missing c.requires.goes_on c.requires.closed
          (λ left right. false≢true (sym c.if-holds.false ∙ c.holds.ensures.both.1 (left, right)))
          (omega (arith, c.len-next.ensures, long)) (omega (arith, c.len-next.ensures, long, ap length c.requires.chain.last.2, length-append c.requires.chain.last.0 (c.requires.chain.last.1 ∷ [])))
          c.union-wide.ensures.members c.in_ok-add_given.ensures.added c.in_ok-add_line.ensures.added added)
          c.add_line-3.ensures.added;
    }
