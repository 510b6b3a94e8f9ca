-- What is left to prove of `begin`: that a chain has begun.
use Rattle.std.proofs.Common.{◌≡◌, ◌∙◌, sym, ap, List, [], ◌∷◌, ◌++◌}
use Rattle.std.proofs.lemmas.Bool.{false≢true}
use Rattle.std.proofs.lemmas.Result.{on_ok_weaker}
use Rattle.attr_sets.specs.Sets.{attributes}
use Rattle.short_derivations.specs.Links.{given_line}
use Rattle.short_derivations.specs.Views.{lines_of}
use Rattle.short_derivations.specs.declared.inference.Inference.{Inference}
use Rattle.short_derivations.proofs.ChainSteps.{begins_alone, begins_lifted}
use Rattle.short_derivations.proofs.chaining.begin.Goals as goal

pub returns-then-holds : goal.returns-then-holds
returns-then-holds c =
    let both = c.holds.ensures.both.0 c.if-holds.true in
    let link = c.args.link in
    let first : lines_of c.add_given.new.lines.items ≡ given_line link.position (attributes link.lhs) (attributes link.rhs) ∷ [] =
    c.in_ok-add_given.ensures.added
    ∙ ap (λ (items : List Inference). lines_of items ++ given_line link.position (attributes link.lhs) (attributes link.rhs) ∷ []) c.requires.empty in
    record {
      chain = begins_alone c.args.theory.now c.args.links.now (attributes c.args.lhs) (attributes c.args.rhs) c.args.link
          (lines_of c.add_given.new.lines.items) c.requires.one c.requires.link c.requires.out c.requires.new both.0 both.1 first;
    }

pub returns : goal.returns
returns c =
    let link = c.args.link in
    let first : lines_of c.add_given.new.lines.items ≡ given_line link.position (attributes link.lhs) (attributes link.rhs) ∷ [] =
    c.in_ok-add_given.ensures.added
    ∙ ap (λ (items : List Inference). lines_of items ++ given_line link.position (attributes link.lhs) (attributes link.rhs) ∷ []) c.requires.empty in
    record {
      chain = on_ok_weaker c.add_line.result
          (λ added. begins_lifted c.args.theory.now c.args.links.now (attributes c.args.lhs) (attributes c.args.rhs) (attributes c.union.result) c.args.link
          (lines_of c.add_given.new.lines.items) (lines_of c.add_line.new.lines.items) c.requires.one c.requires.link c.requires.out c.requires.new c.requires.lhs
          (λ left right. false≢true (sym c.if-holds.false ∙ c.holds.ensures.both.1 (left, right)))
          c.union.ensures.members first added)
          c.add_line.ensures.added;
    }
