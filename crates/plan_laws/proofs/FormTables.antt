-- The tables of a migration in a form are those of the design in it, since the plan is one.
use Rattle.std.proofs.Common.{◌≡◌, ◌∙◌, List, ap, sym, subst}
use Rattle.attr_sets.specs.Attributes.{Attributes}
use Rattle.attr_sets.specs.declared.set.AttrSet.{AttrSet}
use Rattle.dep_model.specs.Plans.{schemes_of}
use Rattle.schema_model.specs.Schemas.{width_of, theory_of, nullable_of}
use Rattle.dep_model.specs.Tuples.{Relation}
use Rattle.schema_model.specs.Schemas.{Schema}
use Rattle.ddl_text.specs.declared.table.TableDesign.{TableDesign}
use Rattle.named_tables.specs.Tables.{TableValue}
use Rattle.table_names.specs.TableNames.{GivenNames}
use Rattle.dep_model.specs.declared.form.Form.{Form}
use Rattle.dep_model.specs.declared.form.Form.TheVariants.{Third, Bcnf, Fourth}
use Rattle.plan_printer.specs.Printing.{plan_text}
use Rattle.schema_printer.specs.Spelling.{printed_names_of}
use Rattle.desk_responses.specs.declared.status.Status.TheVariants.{Yes}
use Rattle.desk_responses.specs.ResponseValues.{ResponseValue, text_only}
use Rattle.desk_designs.specs.Synthesis.{Synthesizes}
use Rattle.desk_designs.specs.Decompositions.{IsPlanInForm}
use Rattle.desk_designs.specs.Designs.{IsSoundDesign}
use Rattle.desk_tables.specs.Migrations.{AreTablesOf}
use Rattle.plan_laws.specs.Designed.{AreDesignedAs}
use Rattle.plan_laws.proofs.DesignedLaws.{designed}
use Rattle.plan_laws.proofs.UniqueLaws.{grouped_same, split_same}

pub same_schemes : (s : Schema) (form : Form) (plan other : List AttrSet) → IsPlanInForm s form plan
    → IsPlanInForm s form other → schemes_of plan ≡ schemes_of other
same_schemes s Third plan other one two = grouped_same (width_of s) (theory_of s) (nullable_of s) plan other one.grouped two.grouped
same_schemes s Bcnf plan other one two = split_same s Bcnf plan other (λ third. cc) one two
same_schemes s Fourth plan other one two = split_same s Fourth plan other (λ third. cc) one two

pub one_synthesis : (s : Schema) (one other : ResponseValue) → Synthesizes s one → Synthesizes s other → one ≡ other
one_synthesis s one other (plan, third, says) (also, third', says') =
    says
    ∙ ap (λ (schemes : List Attributes). text_only Yes (plan_text (printed_names_of s) schemes))
    (grouped_same (width_of s) (theory_of s) (nullable_of s) plan also third.grouped third'.grouped)
    ∙ sym says'

pub form_designed : (s : Schema) (names : GivenNames) (form : Form) (plan other : List AttrSet)
    (designs : List TableDesign) (rows : Relation)
    (tables : List TableValue) → IsPlanInForm s form plan → IsPlanInForm s form other
    → IsSoundDesign s names plan designs → AreTablesOf s names (schemes_of other) rows tables → AreDesignedAs s designs tables
form_designed s names form plan other designs rows tables one two sound are =
    designed s names plan designs rows tables sound
    (subst (λ (schemes : List Attributes). AreTablesOf s names schemes rows tables)
    (sym (same_schemes s form plan other one two)) are)
