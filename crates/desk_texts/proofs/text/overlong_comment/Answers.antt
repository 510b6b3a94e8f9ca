-- What is left to prove of `overlong_comment`: its clause `comment`, by `OverlongLemmas`.
use Rattle.std.proofs.Common.{◌≡◌, ◌≤◌, ◌<◌, length, sym, ◌∙◌, arith}
use Rattle.std.proofs.lemmas.List.{length-map}
use Rattle.std.proofs.lemmas.Result.{IfOk-weaker}
use Rattle.std.specs.Prelude.{codes}
use Rattle.dep_model.specs.Deps.{dependency_of, dependencies_of}
use Rattle.dep_model.specs.declared.theory.TheConstants.{MOST_DEPENDENCIES}
use Rattle.desk_texts.specs.Texts.{line, overlong_text}
use Rattle.desk_texts.proofs.OverlongLemmas.{overlong, not_overlong}
use Rattle.desk_texts.proofs.text.overlong_comment.Goals as goal

pub returns-then-rules-gt-MOST_DEPENDENCIES : goal.returns-then-rules-gt-MOST_DEPENDENCIES
returns-then-rules-gt-MOST_DEPENDENCIES c =
    let rules = c.args.rules.now in
    let more : MOST_DEPENDENCIES < length (dependencies_of rules) = omega (arith, length-map rules dependency_of, c.if-rules-gt-MOST_DEPENDENCIES.true) in
    record {
      comment = IfOk-weaker c.line_of.result (λ text. text.items ≡ line (codes "# more than 4096 dependencies: no schema file takes so many"))
          (λ text. text.items ≡ overlong_text (dependencies_of rules)) (λ text is. is ∙ sym (overlong (dependencies_of rules) more)) c.line_of.ensures.line;
    }

pub returns : goal.returns
returns c =
    let rules = c.args.rules.now in
    let few : length (dependencies_of rules) ≤ MOST_DEPENDENCIES = omega (arith, length-map rules dependency_of, c.if-rules-gt-MOST_DEPENDENCIES.false) in
    record { comment = c.new.ensures.items ∙ sym (not_overlong (dependencies_of rules) few) }
