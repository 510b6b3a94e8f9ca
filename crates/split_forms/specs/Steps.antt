-- How a split comes about, cut by cut: for `split_steps` and the command `explain split`
-- (`desk_designs/SplitReasons`).
use Rattle.std.specs.Prelude.{◌≡◌, ℕ, List, [], ◌∷◌, map, All}
use Rattle.attr_sets.specs.Attributes.{Attributes, below}
use Rattle.attr_sets.specs.Sets.{attributes}
use Rattle.dep_model.specs.Dependencies.{Dependency}
use Rattle.dep_model.specs.declared.form.Form.{Form}
use Rattle.split_forms.specs.declared.steps.SchemeCut.{SchemeCut}
use Rattle.split_forms.specs.Splitting.{StaysWhole, IsNextList}

-- a scheme that is cut, and both sides of what it is cut by
pub record Cutting : Type 0 where
  pub scheme : Attributes
  pub x : Attributes
  pub y : Attributes

abbrev pub cutting : Attributes → Attributes → Attributes → Cutting
cutting scheme x y = record { scheme = scheme; x = x; y = y }

-- a list is cut once, and so comes the next
pub record IsCutOnce (n : ℕ) (ds : List Dependency) (form : Form) (schemes : List Attributes) (cut : Cutting)
    (after : List Attributes) : Type 0 where
  pub step : IsNextList n ds form schemes after
  pub is : cut ≡ cutting step.scheme step.x step.y

-- these cuts, in order, lead from a list to another
abbrev pub CutsLead : ℕ → List Dependency → Form → List Attributes → List Cutting → List Attributes → Type 0
CutsLead n ds form from [] to = from ≡ to
CutsLead n ds form from (cut ∷ cuts) to =
    (next : List Attributes) × IsCutOnce n ds form from cut next × CutsLead n ds form next cuts to

-- these cuts lead from the universe to a list in which all schemes stay whole
pub record AreSplitSteps (n : ℕ) (ds : List Dependency) (form : Form) (cuts : List Cutting)
    (schemes : List Attributes) : Type 0 where
  pub lead : CutsLead n ds form (below n ∷ []) cuts schemes
  pub whole : All (StaysWhole n ds form) schemes

-- ---- those of the code
abbrev pub cutting_of : SchemeCut → Cutting
cutting_of cut = cutting (attributes cut.scheme) (attributes cut.breach.lhs) (attributes cut.breach.rhs)

abbrev pub cuttings_of : List SchemeCut → List Cutting
cuttings_of cuts = map cutting_of cuts
