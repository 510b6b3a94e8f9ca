-- What the part of a schema inside a set of its attributes declares: for the law of printed parts. `Desk` does not
-- cite it.
use Rattle.std.specs.Prelude.{ℕ, ◌&&◌, nat_lt, List, map, slice_index_or}
use Rattle.attr_sets.specs.Attributes.{Attributes, count_below, intersection}
use Rattle.dep_model.specs.Dependencies.{Dependency, fd, mvd}
use Rattle.dep_model.specs.Projections.{members_below}
use Rattle.schema_model.specs.Schemas.{Schema, naming_of, nullable_of, width_of}
use Rattle.schema_grammar.specs.Declarations.{Declarations}
use Rattle.schema_printer.specs.Parts.{part_names, part_types}

-- the members of a set, by their numbers among those of another, x, within n attributes
abbrev pub numbered_in : ℕ → Attributes → Attributes → Attributes
numbered_in n x z j = nat_lt j (count_below x n) && z (slice_index_or (members_below n x) j 0)

abbrev pub dependency_in : ℕ → Attributes → Dependency → Dependency
dependency_in n x (fd y z) = fd (numbered_in n x y) (numbered_in n x z)
dependency_in n x (mvd y z) = mvd (numbered_in n x y) (numbered_in n x z)

-- the names and types of the members of a set, in their order, those of them of which a value may be missing, and
-- dependencies inside the set, at these lines
abbrev pub part_declared : Schema → Attributes → List Dependency → List ℕ → Declarations
part_declared s x ds lines = record {
  names = part_names s x;
  columns = part_types s x;
  deps = map (dependency_in (width_of s) x) ds;
  lines = lines;
  naming = naming_of s;
  nullable = numbered_in (width_of s) x (intersection (nullable_of s) x);
}
