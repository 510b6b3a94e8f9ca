-- A page that says of a schema, or of a schema and a plan, all that the commands say: for `report`.
use Rattle.std.specs.Prelude.{ℕ, List, ◌++◌, codes}
use Rattle.schema_model.specs.Schemas.{Schema}
use Rattle.plan_printer.specs.NamedPlans.{NamedSchemes}
use Rattle.html_pages.specs.Commands.{shell_word}
use Rattle.html_pages.specs.Pages.{page_text, title_with_words}
use Rattle.dep_model.specs.declared.form.Form.TheVariants.{Third, Bcnf, Fourth}
use Rattle.desk_covers.specs.CoverReasons.{ExplainsCover}
use Rattle.desk_covers.specs.Covering.{GivesCover}
use Rattle.desk_exhibits.specs.Exhibits.{Exhibits}
use Rattle.desk_keys.specs.KeyReasons.{ExplainsKeys}
use Rattle.desk_keys.specs.Keys.{ListsKeys}
use Rattle.desk_responses.specs.declared.status.Status.TheVariants.{Yes}
use Rattle.desk_responses.specs.ResponseValues.{Allowed, Says}
use Rattle.desk_reports.specs.Attributes.{AttributesSection}
use Rattle.desk_reports.specs.Forms.{FormsSection}
use Rattle.desk_reports.specs.Pieces.{Opens, OpensExplained, Section, Shown, Then}
use Rattle.desk_reports.specs.Rules.{RulesSection}
use Rattle.desk_reports.specs.Tables.{PlanSection, TablesSection}

-- what the rules come to, and how
abbrev pub CoverSection : List ℕ → Schema → Shown
CoverSection file s = Section (codes "Cover")
    (OpensExplained (title_with_words (codes "What the rules come to") (codes "cover " ++ shell_word file))
    (GivesCover s) (ExplainsCover s))

-- what identifies a row, and why
abbrev pub KeysSection : List ℕ → Schema → Shown
KeysSection file s = Section (codes "Keys")
    (OpensExplained (title_with_words (codes "What identifies a row") (codes "keys " ++ shell_word file))
    (ListsKeys s) (ExplainsKeys s))

-- rows that obey just what follows
abbrev pub ExampleSection : List ℕ → Schema → Shown
ExampleSection file s = Section (codes "Example rows")
    (Opens
    (title_with_words (codes "Rows that obey just what follows") (codes "exhibit " ++ shell_word file))
    (Exhibits s))

-- the sections before those of tables
abbrev pub FrontSections : List ℕ → Schema → Shown
FrontSections file s =
    Then (AttributesSection s) (Then (RulesSection s) (Then (CoverSection file s)
    (Then (KeysSection file s) (FormsSection file s))))

-- the sections of the tables in each of the normal forms
abbrev pub TablesSections : List ℕ → Schema → Shown
TablesSections file s =
    Then (TablesSection file s Third) (Then (TablesSection file s Bcnf) (TablesSection file s Fourth))

-- yes, with a page of the name of a file: these sections between those before tables and the example
abbrev pub ReportsWith : Shown → List ℕ → Schema → Allowed
ReportsWith tables file s response =
    (sections : List ℕ) × Then (FrontSections file s) (Then tables (ExampleSection file s)) sections
    × Says Yes (page_text file sections) response

-- the page of a schema, which is in a file of this name
abbrev pub ReportsSchema : List ℕ → Schema → Allowed
ReportsSchema file s = ReportsWith (TablesSections file s) file s

-- the page of a schema and a plan, which are in files of these names
abbrev pub ReportsPlan : List ℕ → List ℕ → Schema → NamedSchemes → Allowed
ReportsPlan file plan_file s planned = ReportsWith (PlanSection file plan_file s planned) file s
