-- What is left to prove of `put_tables_section`: what is required of the cover and of the plan, and its clause,
-- where there is a plan and where it is refused.
use Rattle.std.proofs.Common.{◌≡◌, ℕ, List, [], ◌++◌, Err, codes, refl, sym, ap, subst, append-nil, ◌∙◌, inl, inr}
use Rattle.std.proofs.lemmas.Result.{on_ok_weaker}
use Rattle.std.specs.Prelude.{All}
use Rattle.dep_model.specs.Dependencies.{functional_part}
use Rattle.dep_model.specs.Deps.{IsDepWithin, dependencies_of}
use Rattle.dep_model.specs.declared.dep.Dep.{Dep}
use Rattle.html_pages.specs.Commands.{shell_word}
use Rattle.html_pages.specs.Pages.{title_with_words}
use Rattle.min_cover.specs.Covers.{IsFixedWholeCover, IsMinimalCover}
use Rattle.plans.specs.Plans.{scheme_sets}
use Rattle.schema_model.specs.Schemas.{theory_of, universe_of, width_of}
use Rattle.desk_responses.specs.Responses.{response_value}
use Rattle.desk_reports.specs.Answers.{Adds, OpensText}
use Rattle.desk_reports.specs.Pieces.{Opens, Then}
use Rattle.desk_reports.specs.Tables.{GivesPlan, ShowsPlan, ShowsTables, ShowsTablesIfAny, plan_words, tables_heading}
use Rattle.desk_reports.proofs.PieceLemmas.{adds_section, adds_weaker}
use Rattle.desk_reports.proofs.PlanLemmas.{refused_piece}
use Rattle.desk_reports.proofs.tables.put_tables_section.Goals.{In_ok-add_heading}
use Rattle.desk_reports.proofs.tables.put_tables_section.Goals as goal

titled : (c : In_ok-add_heading) → c.in_ok-title.title.items
    ≡ title_with_words (codes "The tables") (plan_words c.args.form ++ shell_word c.args.file.now)
titled c =
    c.in_ok-title.ensures.text
    ∙ ap (λ (w : List ℕ). title_with_words (codes "The tables") (w ++ shell_word c.args.file.now)) c.words_for_plan.ensures.words

pub explained_plan-requires : goal.explained_plan-requires
explained_plan-requires c =
    let s = c.args.schema.now in
    let n = width_of s in
    let ds = theory_of s in
    let cover = c.requires.cover in
    record {
      fixed = subst (λ (es : List Dep). IsFixedWholeCover n ds (dependencies_of es)) (sym c.deref.ensures.value) cover.fixed;
      minimal = subst (λ (es : List Dep). IsMinimalCover n ds (functional_part (dependencies_of es))) (sym c.deref.ensures.value) cover.minimal;
      within = subst (λ (es : List Dep). All (IsDepWithin (universe_of s)) es) (sym c.deref.ensures.value) cover.within;
    }

pub returns-in-Ok : goal.returns-in-Ok
returns-in-Ok c =
    let s = c.args.schema.now in
    let file = c.args.file.now in
    let form = c.args.form in
    let plan = scheme_sets c.in-Ok.found.plan in
    let at = (goal.at.returns-in-Ok c).In_ok-add_heading in
    let shown = Then (ShowsPlan file s form) (ShowsTablesIfAny file s form) in
    let title_is = c.deref-in-Ok.ensures.value ∙ titled at in
    record {
      added = on_ok_weaker c.put_tables.result
          (λ adds.
          adds_section (tables_heading form) c.heading_of.result.now shown _ _ _ c.heading_of.ensures.heading c.in_ok-add_heading.ensures.added
          (adds_weaker (Then (ShowsPlan file s form) (ShowsTables file s form plan)) shown _ _
          (λ piece parts. (parts.0, parts.1, parts.2, inr (plan, c.in-Ok.ensures.ok, parts.3), parts.4))
          (subst (λ (t : List ℕ). Adds (Then (Opens t (GivesPlan s form)) (ShowsTables file s form plan)) c.add_heading.new.text.items c.put_tables.new.text.items)
          title_is adds)))
          c.put_tables.ensures.added;
    }

pub returns : goal.returns
returns c =
    let s = c.args.schema.now in
    let file = c.args.file.now in
    let form = c.args.form in
    let at = (goal.at.returns c).In_ok-add_heading in
    let title = title_with_words (codes "The tables") (plan_words form ++ shell_word file) in
    let shown = Then (ShowsPlan file s form) (ShowsTablesIfAny file s form) in
    record {
      added = on_ok_weaker c.put_opened.result
          (λ adds.
          adds_section (tables_heading form) c.heading_of.result.now shown _ _ _ c.heading_of.ensures.heading c.in_ok-add_heading.ensures.added
          (adds_weaker (OpensText c.deref-in-Err.result.now (Err c.in-Err.exit)) shown _ _
          (refused_piece s file form title c.deref-in-Err.result.now c.in-Err.exit (c.deref-in-Err.ensures.value ∙ titled at) c.in-Err.ensures.exit)
          adds))
          c.put_opened.ensures.added;
    }
