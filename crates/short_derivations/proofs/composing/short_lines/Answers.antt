-- What is left to prove of `short_lines`: that a goal that is given has one line.
use Rattle.std.proofs.Common.{◌≡◌, [], ◌∷◌}
use Rattle.std.proofs.lemmas.Result.{IfOk-weaker}
use Rattle.dep_model.specs.Deps.{dependency_of}
use Rattle.derivation.specs.Derivs.{tree_of}
use Rattle.derivation.specs.Trees.{given, nodes}
use Rattle.short_derivations.specs.Inferences.{by_leaf}
use Rattle.short_derivations.specs.Thrift.{IsShortOf}
use Rattle.short_derivations.specs.Views.{lines_of}
use Rattle.short_derivations.proofs.ComposedLemmas.{short_given}
use Rattle.short_derivations.proofs.composing.short_lines.Goals as goal

pub returns-in-Some : goal.returns-in-Some
returns-in-Some c =
    let s = c.args.theory.now in
    let d = dependency_of c.args.goal in
    let t = tree_of c.args.certificate.now in
    record {
      short = IfOk-weaker c.single.result
          (λ lines. lines_of lines.items ≡ record { stated = d; why = by_leaf (given c.in-Some.number) } ∷ [])
          (λ lines. IsShortOf s d (nodes t) (lines_of lines.items))
          (λ lines all. short_given s d t c.in-Some.number (lines_of lines.items) c.in-Some.ensures.given all)
          c.single.ensures.line;
    }
