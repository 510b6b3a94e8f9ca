-- How a split in a normal form comes about, as text: for `explain split`.
use Rattle.std.specs.Prelude.{◌≡◌, ℕ, List, ◌++◌, codes}
use Rattle.std.specs.List.{flat_map}
use Rattle.attr_sets.specs.Attributes.{Attributes, union, difference}
use Rattle.attr_sets.specs.declared.set.AttrSet.{AttrSet}
use Rattle.dep_model.specs.Plans.{schemes_of}
use Rattle.schema_model.specs.Schemas.{width_of, theory_of}
use Rattle.schema_model.specs.Schemas.{Schema}
use Rattle.dep_model.specs.declared.form.Form.{Form}
use Rattle.dep_model.specs.declared.form.Form.TheVariants.{Third, Bcnf, Fourth}
use Rattle.schema_printer.specs.Printing.{dependency_text, set_text}
use Rattle.schema_printer.specs.Spelling.{printed_names_of}
use Rattle.split_forms.specs.Steps.{Cutting, AreSplitSteps}
use Rattle.desk_responses.specs.Reasons.{Explained}
use Rattle.desk_responses.specs.ResponseValues.{Allowed, With}
use Rattle.desk_designs.specs.Decompositions.{IsSplitInForm, ShowsPlan, SplitStops}
use Rattle.desk_designs.specs.NormalForms.{form_word, violation_of}
use Rattle.desk_designs.specs.LeftOut.{left_out_text}
use Rattle.desk_designs.specs.SynthesisReasons.{AreSynthesisReasons, ExplainsSynthesis}
use Rattle.desk_texts.specs.Texts.{line}

-- a scheme, and what violates the form on it
abbrev pub breach_text : List (List ℕ) → Form → Cutting → List ℕ
breach_text names form cut =
    line (codes "# scheme " ++ set_text names cut.scheme ++ codes ": "
    ++ dependency_text names (violation_of form cut.x cut.y) ++ codes " violates " ++ form_word form)

-- the two schemes that come in its place
abbrev pub pair_text : List (List ℕ) → Attributes → Attributes → List ℕ
pair_text names one other =
    line (codes "# so scheme " ++ set_text names one ++ codes " and scheme " ++ set_text names other)

abbrev pub parts_text : List (List ℕ) → Cutting → List ℕ
parts_text names cut = pair_text names (union cut.x cut.y) (difference cut.scheme cut.y)

abbrev pub cut_text : List (List ℕ) → Form → Cutting → List ℕ
cut_text names form cut = breach_text names form cut ++ parts_text names cut

-- both for each cut, and then which schemes of the last list are left out
abbrev pub split_text : List (List ℕ) → Form → List Cutting → List AttrSet → List ℕ
split_text names form cuts all = flat_map (cut_text names form) cuts ++ left_out_text names all

-- the cuts that lead to the finished list
pub record AreSplitReasons (schema : Schema) (form : Form) (text : List ℕ) : Type 0 where
  pub cuts : List Cutting
  pub all : List AttrSet
  pub steps : AreSplitSteps (width_of schema) (theory_of schema) form cuts (schemes_of all)
  pub reads : text ≡ split_text (printed_names_of schema) form cuts all

-- the plan of Boyce-Codd or fourth normal form, below how it comes about
abbrev pub ExplainsCuts : Schema → Form → Allowed
ExplainsCuts schema form =
    Explained (AreSplitReasons schema form)
    (With (SplitStops schema form) (IsSplitInForm schema form) (ShowsPlan schema))

-- how the plan of a normal form comes about
abbrev pub AreReasonsInForm : Schema → Form → List ℕ → Type 0
AreReasonsInForm schema Third text = AreSynthesisReasons schema text
AreReasonsInForm schema Bcnf text = AreSplitReasons schema Bcnf text
AreReasonsInForm schema Fourth text = AreSplitReasons schema Fourth text

-- the plan of a normal form, below how it comes about: third form is had by synthesis
abbrev pub ExplainsSplit : Schema → Form → Allowed
ExplainsSplit schema Third = ExplainsSynthesis schema
ExplainsSplit schema Bcnf = ExplainsCuts schema Bcnf
ExplainsSplit schema Fourth = ExplainsCuts schema Fourth
