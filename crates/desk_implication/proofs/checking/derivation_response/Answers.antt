-- What is left to prove of `derivation_response`: what it calls requires, and its clause `response`.
use Rattle.std.proofs.Common.{◌≡◌, ◌<◌, List, [], length, arith, subst, sym, ◌∙◌}
use Rattle.std.proofs.lemmas.List.{length-map}
use Rattle.std.specs.Prelude.{All}
use Rattle.dep_model.specs.Deps.{dependency_of}
use Rattle.derivation_text.specs.Views.{derivation_line_of, derivation_lines_of}
use Rattle.derivation_mistakes.specs.declared.mistake.MistakenLine.{MistakenLine}
use Rattle.derivation_mistakes.specs.Mistakes as mistakes
use Rattle.derivation_mistakes.specs.Views.{mistaken_lines_of, IsMistakenLineOf}
use Rattle.derivation_mistakes.proofs.MistakenLines.{last_within, last_is_implied}
use Rattle.desk_implication.proofs.checking.derivation_response.Goals as goal

pub last_stated-concluded-requires : goal.last_stated-concluded-requires
last_stated-concluded-requires c = record {
  some = omega (arith, c.requires.derivation.1.some, length-map c.args.lines.now derivation_line_of);
}

pub judged_response-requires-clause-found : goal.judged_response-requires-clause-found
judged_response-requires-clause-found c =
    subst (All (IsMistakenLineOf c.args.schema.now)) (sym c.deref.ensures.value) c.in_ok-found.ensures.of_schema

pub judged_response-requires-clause-concluded : goal.judged_response-requires-clause-concluded
judged_response-requires-clause-concluded c =
    last_within c.args.schema.now (derivation_lines_of c.args.lines.now) (dependency_of c.last_stated-concluded.result)
    c.requires.derivation c.last_stated-concluded.ensures.last

pub judged_response-requires-clause-implied : goal.judged_response-requires-clause-implied
judged_response-requires-clause-implied c = λ none.
    let s = c.args.schema.now in
    let lines = derivation_lines_of c.args.lines.now in
    let there = subst (λ (found : List MistakenLine). mistakes.AreMistakenLines s [] lines (mistaken_lines_of found)) (sym c.deref.ensures.value)
    c.in_ok-found.ensures.exact in
    last_is_implied s lines (dependency_of c.last_stated-concluded.result) c.requires.derivation
    c.last_stated-concluded.ensures.last
    (subst (λ (found : List mistakes.MistakenLine). mistakes.AreMistakenLines s [] lines found) none there)
