-- The sections of a page on tables: of the plans of the normal forms, and of a plan of one's own.
use Rattle.std.specs.Prelude.{◌≡◌, ◌⊎◌, ℕ, List, [], ◌++◌, codes}
use Rattle.attr_sets.specs.Attributes.{Attributes}
use Rattle.attr_sets.specs.declared.set.AttrSet.{AttrSet}
use Rattle.dep_model.specs.Plans.{schemes_of}
use Rattle.schema_model.specs.Schemas.{Schema}
use Rattle.table_names.specs.TableNames.{GivenNames}
use Rattle.plan_printer.specs.NamedPlans.{NamedSchemes}
use Rattle.ddl_text.specs.declared.table.TableDesign.{TableDesign}
use Rattle.design_picture.specs.Picture.{picture_text}
use Rattle.html_pages.specs.Commands.{shell_word}
use Rattle.html_pages.specs.Pages.{title_with_words}
use Rattle.dep_model.specs.declared.form.Form.{Form}
use Rattle.dep_model.specs.declared.form.Form.TheVariants.{Third, Bcnf, Fourth}
use Rattle.which_form.specs.declared.forms.TestedForm.TheVariants.{Higher}
use Rattle.desk_designs.specs.Decompositions.{FormStops, IsPlanInForm, Splits}
use Rattle.desk_designs.specs.Designs.{IsSoundDesign, WritesForm, WritesPlan}
use Rattle.desk_designs.specs.Joins.{JudgesJoin}
use Rattle.desk_designs.specs.Keeping.{JudgesKeeping}
use Rattle.desk_designs.specs.NormalForms.{JudgesForm, form_word}
use Rattle.desk_designs.specs.SplitReasons.{ExplainsSplit}
use Rattle.desk_designs.specs.Synthesis.{Synthesizes}
use Rattle.desk_responses.specs.ResponseValues.{Allowed, ResponseValue}
use Rattle.desk_reports.specs.Forms.{form_title}
use Rattle.desk_reports.specs.Pieces.{Folds, FoldsReasons, Just, Opens, Section, Shown, Then}

-- ---- the plan of a normal form
-- the words that ask for the plan of a normal form
abbrev pub plan_words : Form → List ℕ
plan_words Third = codes "synthesize "
plan_words Bcnf = codes "split bcnf "
plan_words Fourth = codes "split 4nf "

-- the answer to them
abbrev pub GivesPlan : Schema → Form → Allowed
GivesPlan s Third = Synthesizes s
GivesPlan s Bcnf = Splits s Bcnf
GivesPlan s Fourth = Splits s Fourth

-- the plan of a normal form
abbrev pub ShowsPlan : List ℕ → Schema → Form → Shown
ShowsPlan file s form =
    Opens (title_with_words (codes "The tables") (plan_words form ++ shell_word file)) (GivesPlan s form)

-- the words that ask for the SQL tables of a normal form
abbrev pub ddl_words : Form → List ℕ
ddl_words form = codes "ddl " ++ form_word form ++ codes " "

-- the SQL tables of a normal form
abbrev pub ShowsSql : List ℕ → Schema → Form → Shown
ShowsSql file s form = Folds (title_with_words (codes "SQL") (ddl_words form ++ shell_word file)) (WritesForm s form)

-- the picture of a plan's tables, with the names that are given in the order of its design
abbrev pub ShowsPicture : Schema → GivenNames → List AttrSet → Shown
ShowsPicture s names plan text =
    (tables : List TableDesign) × IsSoundDesign s names plan tables × (text ≡ picture_text s tables)

-- of a plan of a normal form: how it comes about, the picture, the rules that are kept, and the SQL tables
abbrev pub ShowsTables : List ℕ → Schema → Form → List AttrSet → Shown
ShowsTables file s form plan =
    Then (FoldsReasons (ExplainsSplit s form)) (Then (ShowsPicture s [] plan)
    (Then (Opens (codes "Rules that they keep") (JudgesKeeping s (schemes_of plan))) (ShowsSql file s form)))

-- the same, where there is such a plan; nothing where it is refused
abbrev pub ShowsTablesIfAny : List ℕ → Schema → Form → Shown
ShowsTablesIfAny file s form text =
    ((response : ResponseValue) × FormStops s form response × Just [] text)
    ⊎ ((plan : List AttrSet) × IsPlanInForm s form plan × ShowsTables file s form plan text)

abbrev pub tables_heading : Form → List ℕ
tables_heading Third = codes "Tables in third normal form"
tables_heading Bcnf = codes "Tables in Boyce-Codd normal form"
tables_heading Fourth = codes "Tables in fourth normal form"

abbrev pub TablesSection : List ℕ → Schema → Form → Shown
TablesSection file s form = Section (tables_heading form)
    (Then (ShowsPlan file s form) (ShowsTablesIfAny file s form))

-- ---- a plan of one's own
-- the words of a command on a schema and a plan
abbrev pub two_files : List ℕ → List ℕ → List ℕ → List ℕ
two_files words file plan_file = words ++ shell_word file ++ codes " " ++ shell_word plan_file

-- the picture of a plan's tables, of its schemes as sets of attributes
abbrev pub ShowsPictureOf : Schema → NamedSchemes → Shown
ShowsPictureOf s planned text =
    (plan : List AttrSet) × (schemes_of plan ≡ planned.schemes) × ShowsPicture s planned.names plan text

-- the words that ask whether the schemes are in a normal form
abbrev pub check_words : Form → List ℕ
check_words form = codes "check form " ++ form_word form ++ codes " "

-- whether the schemes are in the form
abbrev pub ShowsFormOf : List ℕ → List ℕ → Schema → List Attributes → Form → Shown
ShowsFormOf file plan_file s schemes form = Opens
    (title_with_words (form_title form) (two_files (check_words form) file plan_file))
    (JudgesForm s (Higher form) schemes)

-- whether they are in each of the normal forms
abbrev pub ShowsFormsOf : List ℕ → List ℕ → Schema → List Attributes → Shown
ShowsFormsOf file plan_file s schemes =
    Then (ShowsFormOf file plan_file s schemes Third) (Then (ShowsFormOf file plan_file s schemes Bcnf)
    (ShowsFormOf file plan_file s schemes Fourth))

-- whether the rules are kept, and the SQL tables
abbrev pub ShowsUseOf : List ℕ → List ℕ → Schema → NamedSchemes → Shown
ShowsUseOf file plan_file s planned =
    Then (Opens (title_with_words (codes "Rules that they keep") (two_files (codes "check keeps ") file plan_file))
    (JudgesKeeping s planned.schemes))
    (Folds (title_with_words (codes "SQL") (two_files (codes "ddl plan ") file plan_file))
    (WritesPlan s planned.names planned.schemes))

-- whether the tables can be joined again, and their picture
abbrev pub ShowsJoinOf : List ℕ → List ℕ → Schema → NamedSchemes → Shown
ShowsJoinOf file plan_file s planned =
    Then (Opens (title_with_words (codes "Joined again") (two_files (codes "check join ") file plan_file))
    (JudgesJoin s planned.schemes)) (ShowsPictureOf s planned)

abbrev pub PlanSection : List ℕ → List ℕ → Schema → NamedSchemes → Shown
PlanSection file plan_file s planned = Section (codes "Your tables")
    (Then (ShowsJoinOf file plan_file s planned)
    (Then (ShowsFormsOf file plan_file s planned.schemes) (ShowsUseOf file plan_file s planned)))
