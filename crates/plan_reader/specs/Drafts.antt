-- What is read of a plan so far, as its definition has it: for `read_plan`. `Desk` does not cite it.
use Rattle.std.specs.Prelude.{ℕ, List, Option}
use Rattle.attr_sets.specs.Sets.{attributes}
use Rattle.attr_sets.specs.declared.set.AttrSet.{AttrSet}
use Rattle.dep_model.specs.Plans.{schemes_of}
use Rattle.plan_printer.specs.NamedPlans.{NamedSchemes, PlannedTable}
use Rattle.plan_reader.specs.declared.draft.Draft.{Draft}

abbrev pub drafted : Draft → NamedSchemes
drafted draft = record { schemes = schemes_of draft.schemes.items; names = draft.names.items }

-- a table: its name, where one is given, and its scheme
abbrev pub table_read : Option (List ℕ) → AttrSet → PlannedTable
table_read name scheme = record { name = name; scheme = attributes scheme }
