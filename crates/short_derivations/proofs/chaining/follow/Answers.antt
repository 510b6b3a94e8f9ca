-- What is left to prove of `follow`: what `begin` and `extend` require, and that the chain has gone on.
use Rattle.std.proofs.Common.{◌∙◌, sym, subst}
use Rattle.std.proofs.lemmas.Bool.{false≢true}
use Rattle.std.proofs.lemmas.Result.{on_ok_weaker}
use Rattle.attr_sets.specs.Attributes.{Attributes}
use Rattle.attr_sets.specs.Sets.{attributes}
use Rattle.short_derivations.specs.Links.{IsChain}
use Rattle.short_derivations.specs.Views.{lines_of}
use Rattle.short_derivations.proofs.ChainSteps.{begun_holds, begun_chain, restarted}
use Rattle.short_derivations.proofs.chaining.follow.Goals as goal

pub begin-requires-clause-lhs : goal.begin-requires-clause-lhs
begin-requires-clause-lhs c =
    let holds = begun_holds c.args.theory.now c.args.links.now (attributes c.args.lhs) (attributes c.args.rhs) (attributes c.args.closed) (lines_of c.args.lines.now.items) c.requires.begun in
    λ j m. c.requires.closed j (holds j m)

pub begin-requires-clause-out : goal.begin-requires-clause-out
begin-requires-clause-out c =
    let holds = begun_holds c.args.theory.now c.args.links.now (attributes c.args.lhs) (attributes c.args.rhs) (attributes c.args.closed) (lines_of c.args.lines.now.items) c.requires.begun in
    record {
      inside = (c.replaces.ensures.replaces.0 c.if-replaces.true).0;
      past = λ all. c.requires.out.past (λ j m. holds j (all j m));
    }

pub returns-then-replaces : goal.returns-then-replaces
returns-then-replaces c =
    let s = c.args.theory.now in
    let links = c.args.links.now in
    let x = attributes c.args.lhs in
    let y = attributes c.args.rhs in
    let closed = attributes c.args.closed in
    let t = attributes c.args.link.rhs in
    let holds = begun_holds s links x y closed (lines_of c.args.lines.now.items) c.requires.begun in
    let same = restarted x closed t holds (c.replaces.ensures.replaces.0 c.if-replaces.true).1 in
    record {
      chain = on_ok_weaker c.begin.result
          (λ chain. subst (λ (w : Attributes). IsChain s links x y w (lines_of c.begin.new.lines.items)) same chain) c.begin.ensures.chain;
    }

pub extend-requires-clause-chain : goal.extend-requires-clause-chain
extend-requires-clause-chain c =
    begun_chain c.args.theory.now c.args.links.now (attributes c.args.lhs) (attributes c.args.rhs) (attributes c.args.closed)
    (attributes c.args.link.lhs) (attributes c.args.link.rhs) (lines_of c.args.lines.now.items) c.requires.begun c.requires.out.inside
    (λ left right. false≢true (sym c.if-replaces.false ∙ c.replaces.ensures.replaces.1 (left, right)))

pub extend-requires-clause-goes_on : goal.extend-requires-clause-goes_on
extend-requires-clause-goes_on c left right = false≢true (sym c.if-replaces.false ∙ c.replaces.ensures.replaces.1 (left, right))
