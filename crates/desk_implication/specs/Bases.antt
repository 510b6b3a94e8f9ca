-- What a set of attributes determines, and the blocks of the others that it multidetermines: for
-- `basis`.
use Rattle.std.specs.Prelude.{ℕ, List, ◌++◌, codes}
use Rattle.std.specs.List.{flat_map}
use Rattle.attr_sets.specs.Attributes.{Attributes}
use Rattle.attr_sets.specs.Sets.{attributes}
use Rattle.attr_sets.specs.declared.set.AttrSet.{AttrSet}
use Rattle.dep_basis.specs.Bases.{IsBasis}
use Rattle.dep_basis.specs.Traces.{blocks_of}
use Rattle.dep_basis.specs.declared.gathering.Blocks.{Blocks}
use Rattle.schema_model.specs.Schemas.{width_of, theory_of}
use Rattle.schema_model.specs.Schemas.{Schema}
use Rattle.schema_printer.specs.Spelling.{printed_names_of}
use Rattle.desk_responses.specs.declared.status.Status.TheVariants.{Yes}
use Rattle.desk_responses.specs.ResponseValues.{Allowed, Says}
use Rattle.desk_arguments.specs.Goals.{WithSet}
use Rattle.desk_texts.specs.Texts.{set_line}

-- ---- texts
-- a line for each block
abbrev pub blocks_text : List (List ℕ) → List AttrSet → List ℕ
blocks_text names blocks = flat_map (λ block. set_line (codes "block ") names (attributes block)) blocks

-- the closed set, and then the blocks
abbrev pub basis_text : List (List ℕ) → Attributes → List AttrSet → List ℕ
basis_text names closed blocks = set_line (codes "closure ") names closed ++ blocks_text names blocks

-- ---- answers
-- yes, with the dependency basis of a set: its closed set by all dependencies, and exactly its blocks,
-- in the order of their least attributes
abbrev pub TellsBasis : Schema → Attributes → Allowed
TellsBasis schema x response =
    (found : Blocks) × IsBasis (width_of schema) (theory_of schema) x found
    × Says Yes (basis_text (printed_names_of schema) (attributes found.closed) (blocks_of found)) response

-- the same of a set that is given as a text
abbrev pub GivesBasis : Schema → List ℕ → Allowed
GivesBasis schema set = WithSet schema set (TellsBasis schema)
