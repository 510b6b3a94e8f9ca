-- What is left to prove of `judge`: its clauses, by one line more.
use Rattle.std.proofs.Common.{List, [], ◌∷◌, ◌++◌, sym, subst}
use Rattle.std.proofs.lemmas.List.{map-append}
use Rattle.std.proofs.lemmas.List.Elements.{All-push}
use Rattle.std.specs.Prelude.{All}
use Rattle.dep_model.specs.Dependencies.{Dependency}
use Rattle.derivation_text.specs.Views.{derivation_line_of}
use Rattle.derivation_mistakes.specs.declared.mistake.MistakenLine as code
use Rattle.derivation_mistakes.specs.Mistakes.{IsRight, IsMistakenLine, MistakenLine, AreMistakenLines}
use Rattle.derivation_mistakes.specs.Views.{mistaken_line_of, mistaken_lines_of, IsMistakenLineOf}
use Rattle.derivation_mistakes.proofs.MistakenLines.{right_more, mistaken_more}
use Rattle.derivation_mistakes.proofs.judging.judge.Goals as goal

pub returns-in-None-clause-judged : goal.returns-in-None-clause-judged
returns-in-None-clause-judged c = λ lines same are.
    let s = c.args.schema.now in
    let line = derivation_line_of c.args.line.now in
    right_more s [] lines _ line are
    (subst (λ (ds : List Dependency). IsRight s ds line) same (c.mistaken_line.ensures.none c.in-None.is))

pub returns-in_ok-push-in-Some-clause-judged : goal.returns-in_ok-push-in-Some-clause-judged
returns-in_ok-push-in-Some-clause-judged c = λ lines same are.
    let s = c.args.schema.now in
    let line = derivation_line_of c.args.line.now in
    let longer = lines ++ line ∷ [] in
    let old = c.args.found.now.items in
    let mistaken = c.in-Some.mistaken in
    let is = subst (λ (ds : List Dependency). IsMistakenLine s ds line (mistaken_line_of mistaken)) same c.in-Some.ensures.some in
    subst (λ (items : List code.MistakenLine). AreMistakenLines s [] longer (mistaken_lines_of items))
    (sym c.in_ok-push-in-Some.ensures.items)
    (subst (λ (found : List MistakenLine). AreMistakenLines s [] longer found)
    (sym (map-append mistaken_line_of old (mistaken ∷ [])))
    (mistaken_more s [] lines (mistaken_lines_of old) line (mistaken_line_of mistaken) are is))

pub returns-in_ok-push-in-Some-clause-found : goal.returns-in_ok-push-in-Some-clause-found
returns-in_ok-push-in-Some-clause-found c =
    let P = IsMistakenLineOf c.args.schema.now in
    subst (All P) (sym c.in_ok-push-in-Some.ensures.items)
    (All-push P c.args.found.now.items c.in-Some.mistaken c.requires.found c.in-Some.ensures.of_schema)
