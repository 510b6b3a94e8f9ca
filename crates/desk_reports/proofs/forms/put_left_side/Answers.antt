-- What is left to prove of `put_left_side`: what `is_implied` requires, and its clause, by `adds_folded`.
use Rattle.std.proofs.Common.{◌≡◌, ◌↔◌, ℕ, List, refl, ap, subst, ◌∙◌}
use Rattle.std.specs.Prelude.{IsTrue}
use Rattle.attr_sets.specs.Sets.{attributes}
use Rattle.dep_model.specs.Dependencies.{Dependency, fd}
use Rattle.schema_model.specs.Schemas.{ImpliedBy, universe_of}
use Rattle.desk_designs.specs.NormalForms.{tested_violation_of}
use Rattle.desk_implication.specs.Implication.{DecidesGoal}
use Rattle.desk_responses.specs.Responses.{RespondsAs}
use Rattle.desk_reports.specs.Answers.{Adds}
use Rattle.desk_reports.specs.Forms.{ShowsLeftSide, goal_text, left_side_title}
use Rattle.desk_reports.specs.Pieces.{Folds}
use Rattle.desk_reports.proofs.PieceLemmas.{adds_folded, adds_weaker}
use Rattle.desk_reports.proofs.forms.put_left_side.Goals as goal

pub is_implied-is_key-requires : goal.is_implied-is_key-requires
is_implied-is_key-requires c = record { within = rw (c.theory.ensures.theory) (c.determining_all-all.ensures.within c.requires.within) }

pub returns : goal.returns
returns c =
    let s = c.args.schema.now in
    let form = c.args.form in
    let x = attributes c.args.breach.lhs in
    let y = attributes c.args.breach.rhs in
    let d = fd x (universe_of s) in
    let is_key = c.is_implied-is_key.result in
    let title = left_side_title (tested_violation_of form x y) is_key in
    let decides = DecidesGoal s (goal_text s d) in
    let stated : c.in_ok-goal.goal ≡ goal_text s d = c.in_ok-goal.ensures.goal ∙ ap (goal_text s) c.determining_all-all.ensures.all in
    let told : IsTrue is_key ↔ ImpliedBy s d =
    subst (λ (e : Dependency). IsTrue is_key ↔ ImpliedBy s e) c.determining_all-all.ensures.all
    (rw (c.theory.ensures.theory) at c.is_implied-is_key.ensures.implied) in
    record {
      added = adds_weaker (Folds title decides) (ShowsLeftSide s form x y) _ _ (λ piece shown. (is_key, told, shown))
          (adds_folded decides title c.title_of_left_side-title.result.now c.implies.result _ _
          (c.title_of_left_side-title.ensures.title ∙ ap (λ (e : Dependency). left_side_title e is_key) c.tested_dependency.ensures.dep)
          (subst (λ (goal : List ℕ). RespondsAs (DecidesGoal s goal) c.implies.result) stated c.implies.ensures.response)
          c.in_ok-put_folded.ensures.added);
    }
