-- What says the same as a schema, shortened: for `cover` and `cover canonical`.
use Rattle.std.specs.Prelude.{List}
use Rattle.dep_model.specs.Dependencies.{Dependency, functional_part}
use Rattle.schema_model.specs.Schemas.{width_of, theory_of}
use Rattle.schema_model.specs.Schemas.{Schema}
use Rattle.schema_printer.specs.Printing.{schema_text}
use Rattle.min_cover.specs.Covers.{IsFixedWholeCover, IsMinimalCover, IsWholeCover}
use Rattle.canonical_cover.specs.Canonical.{IsCanonicalCover, IsFixedCanonicalCover}
use Rattle.desk_responses.specs.declared.status.Status.TheVariants.{Yes}
use Rattle.desk_responses.specs.ResponseValues.{Allowed, Says}

-- yes, with the fixed whole cover as a schema text: the same relations are legal for it, its functional part
-- is a minimal cover of the functional dependencies, and none of its multivalued ones follows from the rest
abbrev pub GivesCover : Schema → Allowed
GivesCover schema response =
    (whole : List Dependency) × IsFixedWholeCover (width_of schema) (theory_of schema) whole
    × IsMinimalCover (width_of schema) (theory_of schema) (functional_part whole)
    × IsWholeCover (width_of schema) (theory_of schema) whole
    × Says Yes (schema_text schema whole) response

-- yes, with the fixed canonical cover as a schema text: the fixed whole cover, in which the functional
-- dependencies of one left side stand as one; its functional part is a canonical cover of the functional
-- dependencies
abbrev pub GivesCanonicalCover : Schema → Allowed
GivesCanonicalCover schema response =
    (cover : List Dependency) × IsFixedCanonicalCover (width_of schema) (theory_of schema) cover
    × IsCanonicalCover (width_of schema) (theory_of schema) (functional_part cover)
    × IsWholeCover (width_of schema) (theory_of schema) cover
    × Says Yes (schema_text schema cover) response
