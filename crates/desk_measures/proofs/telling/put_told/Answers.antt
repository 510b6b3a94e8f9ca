-- What is left to prove of `put_told`: that what each way tells is what is asked for.
use Rattle.desk_measures.proofs.telling.put_told.Goals as goal

pub returns-in-Measures : goal.returns-in-Measures
returns-in-Measures c = record { added = rw c.in-Measures.is c.put_measure_of.ensures.added }

pub returns-in-Classes : goal.returns-in-Classes
returns-in-Classes c = record { added = rw c.in-Classes.is c.put_parts_of.ensures.added }

pub returns-in-Rows : goal.returns-in-Rows
returns-in-Rows c = record { added = rw c.in-Rows.is c.put_rows_of.ensures.added }
