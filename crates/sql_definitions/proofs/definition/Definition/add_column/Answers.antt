-- What is left to prove of `add_column`: that its columns can be those of a schema, by `ColumnLemmas`.
use Rattle.sql_definitions.proofs.ColumnLemmas.{columns_with}
use Rattle.sql_definitions.proofs.definition.Definition.add_column.Goals as goal

pub invariant_of-self-2 : goal.invariant_of-self-2
invariant_of-self-2 c = rw c.in_ok-push.ensures.items (columns_with _ _ c.self.invariant (rw (← c.self.view_is) at c.requires.another) (rw (← c.self.view_is) at c.requires.within_limit) c.requires.kind c.requires.name)
