-- Files of rows under names of their own.
use Rattle.std.specs.Prelude.{ℕ, List, ◌++◌, codes}
use Rattle.std.specs.Fmt.{decimal}
use Rattle.attr_sets.specs.declared.set.TheConstants.{MOST_ATTRIBUTES}
use Rattle.headed_rows.specs.Headings.{HeadedRows, IsHeadedWithin, IsRefusedWithin, discovered}
use Rattle.headed_rows.specs.declared.headed_rows.Limits.{Limits}
use Rattle.row_store.specs.declared.limits.TheConstants.{MOST_HEADED_ROWS, MOST_ROWS_WITH_ALL, WIDEST_WITH_ALL}
use Rattle.headed_rows.specs.declared.refusal.HeaderRefusal.{HeaderRefusal}
use Rattle.headed_rows.specs.RefusalTexts.{headed_reason_text, headed_refusal_number}
use Rattle.desk_inputs.specs.declared.headed.Purpose.{Purpose}
use Rattle.desk_inputs.specs.declared.headed.Purpose.TheVariants as purpose
use Rattle.desk_inputs.specs.declared.rows.TheConstants.{MOST_CSV_BYTES}
use Rattle.desk_inputs.specs.FileKinds.{FileKind}
use Rattle.desk_texts.specs.Texts.{line}

-- a refusal of a file of rows under names of its own, in a command of this word
abbrev pub headed_refusal_text : List ℕ → List ℕ → HeaderRefusal → List ℕ
headed_refusal_text command file why =
    line (codes "refused: " ++ command ++ codes " " ++ decimal (headed_refusal_number why) ++ codes " at " ++ file
    ++ codes ": " ++ headed_reason_text why)

-- rows under names of their own, within these limits, for a command of this word
abbrev pub headed_file_for : List ℕ → Limits → FileKind HeadedRows HeaderRefusal
headed_file_for command limits = record {
  limit = MOST_CSV_BYTES;
  means = λ bytes headed. IsHeadedWithin limits bytes headed;
  refuses = λ bytes refusal. IsRefusedWithin limits bytes refusal;
  refusal_text = headed_refusal_text command;
}

-- ---- what they are read for
-- the limits of rows of which all that they obey is looked for
abbrev pub wholly_discovered : Limits
wholly_discovered = record { columns = WIDEST_WITH_ALL; rows = MOST_ROWS_WITH_ALL }

-- the limits of rows whose columns are made a schema
abbrev pub imported : Limits
imported = record { columns = MOST_ATTRIBUTES; rows = MOST_HEADED_ROWS }

-- within which limits, and for a command of which word
abbrev pub limits_for : Purpose → Limits
limits_for purpose.Rules = discovered
limits_for purpose.AllRules = wholly_discovered
limits_for purpose.Schema = imported

abbrev pub command_for : Purpose → List ℕ
command_for purpose.Rules = codes "discover"
command_for purpose.AllRules = codes "discover"
command_for purpose.Schema = codes "import"

abbrev pub file_for : Purpose → FileKind HeadedRows HeaderRefusal
file_for wanted = headed_file_for (command_for wanted) (limits_for wanted)

-- rows whose functional dependencies are looked for, rows of which all that they obey is, and rows whose columns are
-- made a schema
abbrev pub headed_file : FileKind HeadedRows HeaderRefusal
headed_file = file_for purpose.Rules

abbrev pub whole_file : FileKind HeadedRows HeaderRefusal
whole_file = file_for purpose.AllRules

abbrev pub imported_file : FileKind HeadedRows HeaderRefusal
imported_file = file_for purpose.Schema
