-- What is left to prove of `read_plan`: its clauses `ok` and `err` and what `new` requires.
use Rattle.std.proofs.Common.{◌≡◌, ℕ, ◌≤◌, [], List, length, Ok, Err, refl, sym, ap, subst, ◌∙◌, inl, inr}
use Rattle.std.proofs.lemmas.List.{length-map}
use Rattle.attr_sets.specs.Sets.{attributes}
use Rattle.attr_sets.specs.declared.set.AttrSet.{AttrSet}
use Rattle.attr_sets.specs.Attributes.{Attributes, IsFirstFrom}
use Rattle.dep_model.proofs.FailureLemmas.{refuses_also}
use Rattle.dep_model.specs.Plans.{schemes_of}
use Rattle.dep_model.specs.Projections.{Covers}
use Rattle.schema_model.specs.Schemas.{naming_of, names_of, width_of}
use Rattle.schema_model.specs.declared.naming.Naming.{Naming}
use Rattle.lexer.specs.Lines.{line_texts, without_mark}
use Rattle.plans.specs.declared.bounds.TheConstants.{MOST_SCHEMES}
use Rattle.plan_grammar.specs.Diagnostics.{uncovered_attributes}
use Rattle.plan_grammar.specs.Meanings.{MeansTableLines, MeansPlan}
use Rattle.plan_grammar.specs.Reading.{read_table_lines}
use Rattle.plan_printer.specs.NamedPlans.{NamedSchemes, no_tables}
use Rattle.plan_reader.specs.Drafts.{drafted}
use Rattle.plan_grammar.proofs.LineLemmas.{lines_beside, read_means, refused_refuses}
use Rattle.plan_grammar.proofs.PlanLaws.{lines_within, lines_not_empty}
use Rattle.plan_reader.proofs.reading.read_plan.Goals as goal

meant : (naming : Naming) (names : List (List ℕ)) (text rest : List ℕ) (tables : NamedSchemes) → rest ≡ without_mark text → read_table_lines naming names 1 no_tables (line_texts rest) ≡ Ok tables
    → MeansTableLines naming names [] (line_texts (without_mark text)) tables × (length tables.schemes ≤ MOST_SCHEMES)
meant naming names text rest tables same is =
    read_means naming names (line_texts (without_mark text)) tables (subst (λ (t : List ℕ). read_table_lines naming names 1 no_tables (line_texts t) ≡ Ok tables) same is)

pub new-requires : goal.new-requires
new-requires c =
    let naming = naming_of c.args.schema.now in
    let names = names_of c.args.schema.now in
    let is = meant naming names c.args.text.now c.without_mark.result.now (drafted c.in-Ok.draft) c.without_mark.ensures.text c.in-Ok.ensures.ok in
    record {
      plan = rw (c.theory.ensures.theory) (record {
        within = lines_within naming names [] (line_texts (without_mark c.args.text.now)) (drafted c.in-Ok.draft) is.0;
        not_empty = lines_not_empty naming names [] (line_texts (without_mark c.args.text.now)) (drafted c.in-Ok.draft) is.0;
        covers = subst (λ (xs : List AttrSet). Covers (width_of c.args.schema.now) (schemes_of xs)) c.deref.ensures.value (c.in-None.ensures.covers refl);
      });
    }

pub returns-in-None-clause-ok : goal.returns-in-None-clause-ok
returns-in-None-clause-ok c =
    let naming = naming_of c.args.schema.now in
    let names = names_of c.args.schema.now in
    let is = meant naming names c.args.text.now c.without_mark.result.now (drafted c.in-Ok.draft) c.without_mark.ensures.text c.in-Ok.ensures.ok in
    subst (λ (xs : List AttrSet). MeansPlan naming names c.args.text.now (record { schemes = schemes_of xs; names = c.in-Ok.draft.names.items })) (sym c.new.ensures.schemes)
    (record { lines = is.0; schemes_fit = is.1; covers = subst (λ (xs : List AttrSet). Covers (width_of c.args.schema.now) (schemes_of xs)) c.deref.ensures.value (c.in-None.ensures.covers refl) })

pub returns-in-None-clause-beside : goal.returns-in-None-clause-beside
returns-in-None-clause-beside c =
    let naming = naming_of c.args.schema.now in
    let names = names_of c.args.schema.now in
    let is = meant naming names c.args.text.now c.without_mark.result.now (drafted c.in-Ok.draft) c.without_mark.ensures.text c.in-Ok.ensures.ok in
    lines_beside naming names [] (line_texts (without_mark c.args.text.now)) (drafted c.in-Ok.draft) is.0
    ∙ length-map c.in-Ok.draft.schemes.items attributes
    ∙ sym (ap (λ (xs : List AttrSet). length xs) c.new.ensures.schemes)

pub returns-in-Some-clause-err : goal.returns-in-Some-clause-err
returns-in-Some-clause-err c =
    let naming = naming_of c.args.schema.now in
    let names = names_of c.args.schema.now in
    let is = meant naming names c.args.text.now c.without_mark.result.now (drafted c.in-Ok.draft) c.without_mark.ensures.text c.in-Ok.ensures.ok in
    inr (record { tables = drafted c.in-Ok.draft; means = is.0; schemes_fit = is.1; attribute = c.in-Some.attribute; least = subst (λ (xs : List AttrSet). IsFirstFrom (uncovered_attributes (width_of c.args.schema.now) (schemes_of xs)) 0 c.in-Some.attribute) c.deref.ensures.value c.in-Some.ensures.least; is = refl })

pub returns-in-Err-clause-err : goal.returns-in-Err-clause-err
returns-in-Err-clause-err c =
    let naming = naming_of c.args.schema.now in
    let names = names_of c.args.schema.now in
    refuses_also _ _ c.in-Err.failure
    (λ refusal is. inl (refused_refuses naming names (line_texts (without_mark c.args.text.now)) refusal (subst (λ (t : List ℕ). read_table_lines naming names 1 no_tables (line_texts t) ≡ Err refusal) c.without_mark.ensures.text is)))
    c.in-Err.ensures.err
