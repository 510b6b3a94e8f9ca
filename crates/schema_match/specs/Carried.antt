-- Dependencies carried over to another schema by names, and when they follow there: for
-- `differences` and `check same` (`desk_covers/Sameness`).
use Rattle.std.specs.Prelude.{◌&&◌, nat_lt, ◌↔◌, false, All, option_map, unwrap_or}
use Rattle.attr_sets.specs.Attributes.{Attributes}
use Rattle.schema_model.specs.Schemas.{Schema}
use Rattle.dep_model.specs.Tuples.{Relation, IsOver}
use Rattle.dep_model.specs.Dependencies.{Dependency, fd, mvd}
use Rattle.schema_model.specs.Schemas.{width_of, theory_of, LegalFor, ImpliedBy}
use Rattle.schema_match.specs.Columns.{namesake, reorder}

-- a set of a schema's attributes, carried over to another by names: the attributes there that have a
-- namesake in the set
abbrev pub carry_attributes : Schema → Schema → Attributes → Attributes
carry_attributes schema other x b =
    nat_lt b (width_of other) && unwrap_or (option_map x (namesake other schema b)) false

-- a dependency of a schema, carried over to another by names
abbrev pub carry_dependency : Schema → Schema → Dependency → Dependency
carry_dependency schema other (fd x y) = fd (carry_attributes schema other x) (carry_attributes schema other y)
carry_dependency schema other (mvd x y) = mvd (carry_attributes schema other x) (carry_attributes schema other y)

-- a dependency of a schema follows from another: carried over by names, it is implied there
abbrev pub FollowsInSchema : Schema → Schema → Dependency → Type 0
FollowsInSchema other schema d = ImpliedBy other (carry_dependency schema other d)

-- every dependency of a schema follows from another
abbrev pub IsImpliedBy : Schema → Schema → Type 0
IsImpliedBy other schema = All (FollowsInSchema other schema) (theory_of schema)

-- two schemas have the same legal relations, columns taken by their names
abbrev pub HaveSameLegalRelations : Schema → Schema → Type 0
HaveSameLegalRelations schema other =
    (r : Relation) → IsOver (width_of schema) r → LegalFor schema r
    ↔ LegalFor other (reorder schema other r)
