-- The grammar of a dependency, one token after the other: for the reading of dependencies
-- (`Reading`). Their meaning cites only `dependency_of_sign`.
use Rattle.std.specs.Prelude.{◌<◌, Result, Ok, Err}
use Rattle.attr_sets.specs.Attributes.{Attributes, only, none, union}
use Rattle.attr_sets.specs.declared.set.TheConstants.{MOST_ATTRIBUTES}
use Rattle.dep_model.specs.Dependencies.{Dependency, fd, mvd}
use Rattle.schema_grammar.specs.declared.refusal.What.{What}
use Rattle.schema_grammar.specs.declared.refusal.What.TheVariants as what
use Rattle.schema_grammar.specs.declared.symbol.Sign.{Sign}
use Rattle.schema_grammar.specs.declared.symbol.Sign.TheVariants as sign
use Rattle.schema_grammar.specs.declared.symbol.Symbol.{Symbol}
use Rattle.schema_grammar.specs.declared.symbol.Symbol.TheVariants as symbol

-- how far a dependency is read: nothing; words of the left side, or `()`; the arrow; words of the
-- right side, or `()`
pub data Reached : Type 0 where
  start : Reached
  left : Attributes → Reached
  left_empty : Reached
  after_sign : Sign → Attributes → Reached
  right : Sign → Attributes → Attributes → Reached
  right_empty : Sign → Attributes → Reached

-- an attribute is one that a set can hold
abbrev pub IsInRange : Symbol → Type 0
IsInRange (symbol.Attribute a) = a < MOST_ATTRIBUTES
IsInRange (symbol.Arrow s) = Unit {0}
IsInRange symbol.Empty = Unit {0}
IsInRange symbol.Other = Unit {0}

-- where a token leads, or what stands in the grammar in its place
unfoldable pub advance : Reached → Symbol → Result Reached What
advance start (symbol.Attribute a) = Ok (left (only a))
advance start symbol.Empty = Ok left_empty
advance start _ = Err what.Side
advance (left x) (symbol.Attribute a) = Ok (left (union x (only a)))
advance (left x) (symbol.Arrow s) = Ok (after_sign s x)
advance (left x) _ = Err what.Arrow
advance left_empty (symbol.Arrow s) = Ok (after_sign s none)
advance left_empty _ = Err what.Arrow
advance (after_sign s x) (symbol.Attribute a) = Ok (right s x (only a))
advance (after_sign s x) symbol.Empty = Ok (right_empty s x)
advance (after_sign s x) _ = Err what.Side
advance (right s x y) (symbol.Attribute a) = Ok (right s x (union y (only a)))
advance (right s x y) _ = Err what.LineEnd
advance (right_empty s x) _ = Err what.LineEnd

abbrev pub dependency_of_sign : Sign → Attributes → Attributes → Dependency
dependency_of_sign sign.Functional x y = fd x y
dependency_of_sign sign.Multivalued x y = mvd x y

-- the dependency where the line ends, or what the line still wants
unfoldable pub finish_dependency : Reached → Result Dependency What
finish_dependency start = Err what.Side
finish_dependency (left x) = Err what.Arrow
finish_dependency left_empty = Err what.Arrow
finish_dependency (after_sign s x) = Err what.Side
finish_dependency (right s x y) = Ok (dependency_of_sign s x y)
finish_dependency (right_empty s x) = Ok (dependency_of_sign s x none)
