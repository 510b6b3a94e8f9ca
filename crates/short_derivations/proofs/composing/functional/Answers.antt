-- What is left to prove of `functional`: what is required, and that its lines are short.
use Rattle.std.proofs.Common.{◌≡◌, ◌∙◌, sym, refl, [], ◌∷◌}
use Rattle.std.proofs.lemmas.Bool.{false≢true}
use Rattle.std.proofs.lemmas.Result.{IfOk-weaker}
use Rattle.attr_sets.specs.Sets.{attributes}
use Rattle.attr_sets.proofs.AttributesLemmas.{attributes_below}
use Rattle.dep_model.specs.Dependencies.{fd}
use Rattle.dep_model.specs.Theories.{width_of, deps_of}
use Rattle.derivation.specs.Derivs.{tree_of}
use Rattle.derivation.specs.Trees.{reflexivity, nodes}
use Rattle.fd_closure.specs.Following.{SaysWhetherFollows}
use Rattle.short_derivations.specs.Emitted.{IsEmission}
use Rattle.short_derivations.specs.Inferences.{by_leaf, by_decomposition}
use Rattle.short_derivations.specs.Links.{given_line}
use Rattle.short_derivations.specs.Short.{FollowsFunctionally}
use Rattle.short_derivations.specs.Thrift.{IsThriftyOf, IsShortOf}
use Rattle.short_derivations.specs.Views.{lines_of}
use Rattle.short_derivations.proofs.ComposedLemmas.{short_reflexivity, short_cut, short_thrifty, short_mixed}
use Rattle.short_derivations.proofs.composing.functional.Goals as goal

pub returns-then-is_subset : goal.returns-then-is_subset
returns-then-is_subset c =
    let s = c.args.theory.now in
    let x = attributes c.args.lhs in
    let y = attributes c.args.rhs in
    let t = tree_of c.args.certificate.now in
    record {
      short = IfOk-weaker c.single.result
          (λ lines. lines_of lines.items ≡ record { stated = fd x y; why = by_leaf (reflexivity x y) } ∷ [])
          (λ lines. IsShortOf s (fd x y) (nodes t) (lines_of lines.items))
          (λ lines all. short_reflexivity s x y t (lines_of lines.items) c.requires.lhs (c.is_subset.ensures.subset.0 c.if-is_subset.true) c.requires.new all)
          c.single.ensures.line;
    }

pub returns-in-Some : goal.returns-in-Some
returns-in-Some c =
    let s = c.args.theory.now in
    let x = attributes c.args.lhs in
    let y = attributes c.args.rhs in
    let t = tree_of c.args.certificate.now in
    let link = c.in-Some.link in
    record {
      short = IfOk-weaker c.cut.result
          (λ lines. lines_of lines.items ≡ given_line link.position (attributes link.lhs) (attributes link.rhs)
          ∷ record { stated = fd x y; why = by_decomposition 0 } ∷ [])
          (λ lines. IsShortOf s (fd x y) (nodes t) (lines_of lines.items))
          (λ lines all. short_cut s x y (attributes link.lhs) (attributes link.rhs) t link.position (lines_of lines.items) c.requires.lhs c.requires.rhs
          (λ inside. false≢true (sym c.if-is_subset.false ∙ c.is_subset.ensures.subset.1 inside)) c.requires.new
          c.in-Some.ensures.link c.in-Some.ensures.left c.in-Some.ensures.right c.requires.proof.proves (attributes_below c.args.rhs) all)
          c.cut.ensures.lines;
    }

pub needed_chain-requires-clause-missing : goal.needed_chain-requires-clause-missing
needed_chain-requires-clause-missing c inside = false≢true (sym c.if-is_subset.false ∙ c.is_subset.ensures.subset.1 inside)

pub needed_chain-requires-clause-chain : goal.needed_chain-requires-clause-chain
needed_chain-requires-clause-chain c =
    let s = c.args.theory.now in
    let x = attributes c.args.lhs in
    let y = attributes c.args.rhs in
    let says : SaysWhetherFollows (deps_of s) x y c.follows.result = rw c.deps.ensures.deps at c.follows.ensures.implied in
    c.requires.chain ((says.over (width_of s) s.valid.deps_within c.requires.lhs c.requires.rhs).0 c.if-follows.true)

pub returns-then-follows : goal.returns-then-follows
returns-then-follows c =
    let s = c.args.theory.now in
    let x = attributes c.args.lhs in
    let y = attributes c.args.rhs in
    let most = nodes (tree_of c.args.certificate.now) in
    record {
      short = IfOk-weaker c.needed_chain.result
          (λ lines. IsThriftyOf s (fd x y) most (lines_of lines.items))
          (λ lines. IsShortOf s (fd x y) most (lines_of lines.items))
          (λ lines thrifty. short_thrifty s x y most (lines_of lines.items) c.requires.new (c.in_default.ensures.none refl) thrifty)
          c.needed_chain.ensures.thrifty;
    }

pub emitted-requires-clause-direct : goal.emitted-requires-clause-direct
emitted-requires-clause-direct c =
    let s = c.args.theory.now in
    let x = attributes c.args.lhs in
    let y = attributes c.args.rhs in
    let says : SaysWhetherFollows (deps_of s) x y c.follows.result = rw c.deps.ensures.deps at c.follows.ensures.implied in
    c.requires.direct (λ follows. false≢true (sym c.if-follows.false ∙ (says.over (width_of s) s.valid.deps_within c.requires.lhs c.requires.rhs).1 follows))

pub returns : goal.returns
returns c =
    let s = c.args.theory.now in
    let x = attributes c.args.lhs in
    let y = attributes c.args.rhs in
    let most = nodes (tree_of c.args.certificate.now) in
    let says : SaysWhetherFollows (deps_of s) x y c.follows.result = rw c.deps.ensures.deps at c.follows.ensures.implied in
    let mixed : FollowsFunctionally s (fd x y) → ⊥ =
    λ follows. false≢true (sym c.if-follows.false ∙ (says.over (width_of s) s.valid.deps_within c.requires.lhs c.requires.rhs).1 follows) in
    record {
      short = IfOk-weaker c.emitted.result
          (λ lines. IsEmission s (fd x y) most (lines_of lines.items))
          (λ lines. IsShortOf s (fd x y) most (lines_of lines.items))
          (λ lines emission. short_mixed s x y most (lines_of lines.items) c.requires.new (c.in_default.ensures.none refl) mixed emission) c.emitted.ensures.emission;
    }
