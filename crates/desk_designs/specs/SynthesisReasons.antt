-- How a plan in third normal form comes about, as text: for `explain synthesize`.
use Rattle.std.specs.Prelude.{◌≡◌, ℕ, List, [], ◌++◌, codes, drop, length}
use Rattle.std.specs.List.{flat_map}
use Rattle.attr_sets.specs.Attributes.{Attributes}
use Rattle.attr_sets.specs.declared.set.AttrSet.{AttrSet}
use Rattle.dep_model.specs.Dependencies.{Dependency}
use Rattle.dep_model.specs.Plans.{schemes_of}
use Rattle.schema_model.specs.Schemas.{width_of, theory_of, nullable_of}
use Rattle.schema_model.specs.Schemas.{Schema}
use Rattle.schema_printer.specs.Printing.{dependency_text, set_text}
use Rattle.schema_printer.specs.Spelling.{printed_names_of}
use Rattle.synthesis_3nf.specs.GroupedPlans.{AreSynthesisSteps}
use Rattle.synthesis_3nf.specs.Groups.{group_scheme, left_sides_after}
use Rattle.desk_responses.specs.Reasons.{Explained}
use Rattle.desk_responses.specs.ResponseValues.{Allowed}
use Rattle.desk_designs.specs.Synthesis.{Synthesizes}
use Rattle.desk_designs.specs.LeftOut.{left_out_text}
use Rattle.desk_texts.specs.Texts.{line}

-- a line for each member of the cover
abbrev pub member_text : List (List ℕ) → Dependency → List ℕ
member_text names d = line (codes "# cover: " ++ dependency_text names d)

abbrev pub cover_text : List (List ℕ) → List Dependency → List ℕ
cover_text names cover = flat_map (member_text names) cover

-- a line for each left side of the cover, with its scheme
abbrev pub group_text : List (List ℕ) → List Dependency → Attributes → List ℕ
group_text names cover x =
    line (codes "# left side " ++ set_text names x ++ codes ": scheme "
    ++ set_text names (group_scheme cover x))

abbrev pub groups_text : List (List ℕ) → List Dependency → List ℕ
groups_text names cover = flat_map (group_text names cover) (left_sides_after [] cover)

-- a line for the key that comes after the schemes of the left sides, if one does
abbrev pub key_text : List (List ℕ) → Attributes → List ℕ
key_text names key = line (codes "# no scheme holds a key: scheme " ++ set_text names key)

abbrev pub added_text : List (List ℕ) → List Dependency → List Attributes → List ℕ
added_text names cover all = flat_map (key_text names) (drop (length (left_sides_after [] cover)) all)

-- the cover, the schemes of its left sides, which of all schemes are left out, and the key
abbrev pub synthesis_text : List (List ℕ) → List Dependency → List AttrSet → List ℕ
synthesis_text names cover all =
    cover_text names cover ++ groups_text names cover ++ left_out_text names all
    ++ added_text names cover (schemes_of all)

-- the steps that lead to the plan
pub record AreSynthesisReasons (schema : Schema) (text : List ℕ) : Type 0 where
  pub cover : List Dependency
  pub all : List AttrSet
  pub steps : AreSynthesisSteps (width_of schema) (theory_of schema) (nullable_of schema) cover (schemes_of all)
  pub reads : text ≡ synthesis_text (printed_names_of schema) cover all

-- the plan, below how it comes about
abbrev pub ExplainsSynthesis : Schema → Allowed
ExplainsSynthesis schema = Explained (AreSynthesisReasons schema) (Synthesizes schema)
