-- What is left to prove of `put_violation`: what is required of a violation, and its clause, where there is one,
-- none, or the universe is too wide.
use Rattle.std.proofs.Common.{Option, refl, subst, inl, inr}
use Rattle.std.proofs.lemmas.Result.{on_ok_weaker}
use Rattle.attr_sets.specs.Sets.{attributes}
use Rattle.schema_model.specs.Schemas.{theory_of, universe_of, width_of}
use Rattle.which_form.specs.declared.forms.SchemeForms.{SchemeForms}
use Rattle.desk_designs.specs.TestedSchemes.{AreFoundForms}
use Rattle.desk_reports.specs.Forms.{ShowsLeftSide, ShowsViolation, ShowsWhy}
use Rattle.desk_reports.specs.Pieces.{Then}
use Rattle.desk_reports.proofs.PieceLemmas.{adds_nothing, adds_weaker}
use Rattle.desk_reports.proofs.PlanLemmas.{left_side_within}
use Rattle.desk_reports.proofs.forms.put_violation.Goals as goal

pub put_breach-requires : goal.put_breach-requires
put_breach-requires c =
    let s = c.args.schema.now in
    let are = subst (λ (found : Option SchemeForms). AreFoundForms s found) c.in-Some.is c.requires.found in
    let verdict = c.in-Some-breach_of.ensures.verdict s (universe_of s) are in
    record { within = left_side_within (width_of s) (theory_of s) c.args.form (universe_of s) _ _ verdict.named }

pub returns-in-Some-breach_of : goal.returns-in-Some-breach_of
returns-in-Some-breach_of c =
    let s = c.args.schema.now in
    let file = c.args.file.now in
    let form = c.args.form in
    let x = attributes c.in-Some-breach_of.breach.lhs in
    let y = attributes c.in-Some-breach_of.breach.rhs in
    let are = subst (λ (found : Option SchemeForms). AreFoundForms s found) c.in-Some.is c.requires.found in
    let verdict = c.in-Some-breach_of.ensures.verdict s (universe_of s) are in
    record {
      added = on_ok_weaker c.put_breach.result
          (adds_weaker (Then (ShowsWhy file s form x y) (ShowsLeftSide s form x y)) (ShowsViolation file s form) _ _
          (λ piece shown. inr (are.testable, (x, y, verdict.named, shown))))
          c.put_breach.ensures.added;
    }

pub returns-in-None-breach_of : goal.returns-in-None-breach_of
returns-in-None-breach_of c =
    let s = c.args.schema.now in
    let are = subst (λ (found : Option SchemeForms). AreFoundForms s found) c.in-Some.is c.requires.found in
    let verdict = c.in-None-breach_of.ensures.verdict s (universe_of s) are in
    record { added = adds_nothing (ShowsViolation c.args.file.now s c.args.form) _ (inl (inr (verdict.none.0 refl), refl)) }

pub returns-in-None : goal.returns-in-None
returns-in-None c =
    let s = c.args.schema.now in
    let wide = subst (λ (found : Option SchemeForms). AreFoundForms s found) c.in-None.is c.requires.found in
    record { added = adds_nothing (ShowsViolation c.args.file.now s c.args.form) _ (inl (inl wide, refl)) }
