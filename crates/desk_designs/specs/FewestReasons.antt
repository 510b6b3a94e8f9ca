-- How the plan with the fewest schemes comes about, as text: for `explain synthesize fewest`.
use Rattle.std.specs.Prelude.{◌≡◌, ℕ, nat_lt, if◌then◌else◌, List, [], ◌∷◌, ◌++◌, codes, drop, length}
use Rattle.std.specs.List.{flat_map}
use Rattle.attr_sets.specs.Attributes.{Attributes}
use Rattle.attr_sets.specs.declared.set.AttrSet.{AttrSet}
use Rattle.dep_model.specs.Dependencies.{Dependency}
use Rattle.dep_model.specs.Plans.{schemes_of}
use Rattle.schema_model.specs.Schemas.{width_of, theory_of, nullable_of}
use Rattle.schema_model.specs.Schemas.{Schema}
use Rattle.schema_printer.specs.Printing.{dependency_text, set_text}
use Rattle.schema_printer.specs.Spelling.{printed_names_of}
use Rattle.plans.specs.Containing.{without_contained}
use Rattle.synthesis_3nf.specs.GroupedPlans.{AreSynthesisSteps}
use Rattle.fewest_tables.specs.MergedPlans.{AreMergedSteps, left_out, merged_scheme}
use Rattle.desk_responses.specs.Reasons.{Explained}
use Rattle.desk_responses.specs.ResponseValues.{Allowed}
use Rattle.desk_designs.specs.FewestTables.{SynthesizesFewest}
use Rattle.desk_designs.specs.LeftOut.{left_out_text}
use Rattle.desk_designs.specs.SynthesisReasons.{cover_text, key_text, synthesis_text}
use Rattle.desk_texts.specs.Texts.{line}

-- sets with ` and ` between them
abbrev pub next_set : List (List ℕ) → Attributes → List ℕ
next_set names x = codes " and " ++ set_text names x

abbrev pub joined_sets : List (List ℕ) → List Attributes → List ℕ
joined_sets names [] = []
joined_sets names (x ∷ more) = set_text names x ++ flat_map (next_set names) more

-- a line for a group of two left sides or more
abbrev pub alike_text : List (List ℕ) → List Attributes → List ℕ
alike_text names group =
    if nat_lt 1 (length group) then line (codes "# alike: " ++ joined_sets names group) else []

-- a line for a member of the cover that is left out
abbrev pub following_text : List (List ℕ) → Dependency → List ℕ
following_text names d =
    line (codes "# cover: " ++ dependency_text names d
    ++ codes " follows from the others and from what is alike")

-- a line for each group, with its scheme
abbrev pub left_sides_word : List Attributes → List ℕ
left_sides_word group = if nat_lt 1 (length group) then codes "# left sides " else codes "# left side "

abbrev pub merged_text : List (List ℕ) → List Dependency → List Attributes → List ℕ
merged_text names kept group =
    line (left_sides_word group ++ joined_sets names group ++ codes ": scheme "
    ++ set_text names (merged_scheme kept group))

-- the cover, what is alike, which members are left out, the schemes of the groups, which of all
-- schemes are left out, and the key
abbrev pub merging_text : List (List ℕ) → List Dependency → List (List Attributes)
    → List Dependency → List AttrSet → List ℕ
merging_text names cover groups kept all =
    cover_text names cover
    ++ flat_map (alike_text names) groups
    ++ flat_map (following_text names) (left_out kept cover)
    ++ flat_map (merged_text names kept) groups
    ++ left_out_text names all
    ++ flat_map (key_text names) (drop (length groups) (schemes_of all))

-- where `synthesize` comes to fewer schemes: that it does, and how
abbrev pub fewer_text : List (List ℕ) → List Dependency → List AttrSet → List AttrSet → List ℕ
fewer_text names cover all grouped =
    if nat_lt (length (without_contained grouped)) (length (without_contained all))
    then line (codes "# synthesize has fewer") ++ synthesis_text names cover grouped
    else []

-- the steps that lead to the plan
pub record AreFewestReasons (schema : Schema) (text : List ℕ) : Type 0 where
  pub cover : List Dependency
  pub groups : List (List Attributes)
  pub kept : List Dependency
  pub all : List AttrSet
  pub steps : AreMergedSteps (width_of schema) (theory_of schema) (nullable_of schema) cover groups
      kept (schemes_of all)
  pub grouped : List AttrSet
  pub plain : AreSynthesisSteps (width_of schema) (theory_of schema) (nullable_of schema) cover
      (schemes_of grouped)
  pub reads : text ≡ merging_text (printed_names_of schema) cover groups kept all
      ++ fewer_text (printed_names_of schema) cover all grouped

-- the plan, below how it comes about
abbrev pub ExplainsFewest : Schema → Allowed
ExplainsFewest schema = Explained (AreFewestReasons schema) (SynthesizesFewest schema)
