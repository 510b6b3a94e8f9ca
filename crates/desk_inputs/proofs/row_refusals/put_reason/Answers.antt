-- What is left to prove of `put_reason`: what it answers in the cases `UnknownColumn`,
-- `MissingColumn` and `NotOfType`.
use Rattle.desk_inputs.proofs.row_refusals.put_reason.Goals as goal

pub returns-in-UnknownColumn : goal.returns-in-UnknownColumn
returns-in-UnknownColumn c = record { added = rw c.in-UnknownColumn.is c.put_before_number.ensures.added }

pub returns-in-MissingColumn : goal.returns-in-MissingColumn
returns-in-MissingColumn c = record { added = rw c.in-MissingColumn.is c.put_missing_column.ensures.added }

pub returns-in-NotOfType : goal.returns-in-NotOfType
returns-in-NotOfType c = record { added = rw c.in-NotOfType.is c.put_not_of_type.ensures.added }
