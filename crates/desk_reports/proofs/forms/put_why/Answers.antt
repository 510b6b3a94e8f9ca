-- What is left to prove of `put_why`: its clause, by `adds_folded`.
use Rattle.std.proofs.Common.{◌≡◌, ℕ, List, ap, subst, ◌∙◌, codes}
use Rattle.html_pages.specs.Pages.{title_with_words}
use Rattle.attr_sets.specs.Sets.{attributes}
use Rattle.desk_designs.specs.NormalForms.{tested_violation_of}
use Rattle.desk_implication.specs.Implication.{DecidesGoal}
use Rattle.desk_responses.specs.Responses.{RespondsAs}
use Rattle.desk_reports.specs.Forms.{goal_text, goal_words}
use Rattle.desk_reports.proofs.PieceLemmas.{adds_folded}
use Rattle.desk_reports.proofs.forms.put_why.Goals as goal

pub returns : goal.returns
returns c =
    let s = c.args.schema.now in
    let d = tested_violation_of c.args.form (attributes c.args.breach.lhs) (attributes c.args.breach.rhs) in
    let titled = λ (goal : List ℕ). title_with_words (codes "Why") (goal_words c.args.file.now goal) in
    let stated : c.in_ok-goal.goal ≡ goal_text s d = c.in_ok-goal.ensures.goal ∙ ap (goal_text s) c.tested_dependency.ensures.dep in
    record {
      added = adds_folded (DecidesGoal s (goal_text s d)) (titled (goal_text s d)) c.deref.result.now c.implies.result
          _ _ (c.deref.ensures.value ∙ c.in_ok-title.ensures.title ∙ ap titled stated)
          (subst (λ (goal : List ℕ). RespondsAs (DecidesGoal s goal) c.implies.result) stated c.implies.ensures.response)
          c.in_ok-put_folded.ensures.added;
    }
