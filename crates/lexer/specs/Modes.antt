-- Which tokens the lines of each kind of text have, by the names of its schema: for the grammars and
-- their readers.
use Rattle.std.specs.Prelude.{Bool, true, false}
use Rattle.schema_model.specs.declared.naming.Naming.{Naming}
use Rattle.schema_model.specs.declared.naming.Naming.TheVariants.{Bare, Any}
use Rattle.lexer.specs.declared.mode.Mode.{Mode}

-- whether names may stand between quotes
abbrev pub has_quotes : Naming → Bool
has_quotes Bare = false
has_quotes Any = true

-- lines of schemas and plans
abbrev pub plain : Naming → Mode
plain naming = record { numbers = false; colon = false; comments = true; quotes = has_quotes naming }

-- lines of schemas that declare decimal columns
abbrev pub scaled : Naming → Mode
scaled naming = record { numbers = true; colon = false; comments = true; quotes = has_quotes naming }

-- lines of plans that name a table
abbrev pub labelled : Naming → Mode
labelled naming = record { numbers = false; colon = true; comments = true; quotes = has_quotes naming }

-- goals and sets
abbrev pub goal : Naming → Mode
goal naming = record { numbers = false; colon = false; comments = false; quotes = has_quotes naming }

-- certificates; and version lines, by bare names
abbrev pub numbered : Naming → Mode
numbered naming = record { numbers = true; colon = true; comments = true; quotes = has_quotes naming }
