-- How the cover of a schema comes about, as text: for `explain cover`.
use Rattle.std.specs.Prelude.{◌≡◌, ℕ, List, ◌++◌, codes, slice_get}
use Rattle.std.specs.List.{flat_map}
use Rattle.attr_sets.specs.Attributes.{Attributes, below, only, difference, intersection}
use Rattle.cover_accounts.specs.Steps.{Placed, Shortened, AreCoverSteps, placed}
use Rattle.dep_model.specs.Dependencies.{fd}
use Rattle.dep_model.specs.Projections.{members_below}
use Rattle.schema_model.specs.Schemas.{width_of, theory_of, lines_of}
use Rattle.schema_model.specs.Schemas.{Schema}
use Rattle.schema_printer.specs.Printing.{dependency_text, set_text}
use Rattle.schema_printer.specs.Spelling.{printed_names_of}
use Rattle.desk_responses.specs.Lines.{line_number_text}
use Rattle.desk_responses.specs.Reasons.{Explained}
use Rattle.desk_responses.specs.ResponseValues.{Allowed}
use Rattle.desk_covers.specs.Covering.{GivesCover}
use Rattle.desk_texts.specs.Texts.{line}

-- a dependency, with the line of the one that it comes from
abbrev pub placed_text : Schema → Placed → List ℕ
placed_text schema p =
    codes "# line " ++ line_number_text (slice_get (lines_of schema) p.position) ++ codes ": "
    ++ dependency_text (printed_names_of schema) p.dependency

-- the member as it is before an attribute goes: without those that went before
abbrev pub member_before : Shortened → ℕ → Placed
member_before m a =
    placed m.position (fd (difference m.whole (intersection (difference m.whole m.left) (below a))) m.right)

abbrev pub needless_text : Schema → Shortened → ℕ → List ℕ
needless_text schema m a =
    line (placed_text schema (member_before m a) ++ codes ": " ++ set_text (printed_names_of schema) (only a)
    ++ codes " is not needed on the left")

-- a line for each attribute that goes from the left side of a member, ascending
abbrev pub member_text : Schema → Shortened → List ℕ
member_text schema m = flat_map (needless_text schema m) (members_below (width_of schema) (difference m.whole m.left))

abbrev pub gone_text : Schema → Placed → List ℕ
gone_text schema p = line (placed_text schema p ++ codes " follows from the others")

abbrev pub members_text : Schema → List Shortened → List ℕ
members_text schema members = flat_map (member_text schema) members

abbrev pub all_gone_text : Schema → List Placed → List ℕ
all_gone_text schema gone = flat_map (gone_text schema) gone

-- which attributes go from the left sides, and then which dependencies
pub record AreCoverReasons (schema : Schema) (text : List ℕ) : Type 0 where
  pub members : List Shortened
  pub gone : List Placed
  pub steps : AreCoverSteps (width_of schema) (theory_of schema) members gone
  pub reads : text ≡ members_text schema members ++ all_gone_text schema gone

-- the cover, below how it comes about
abbrev pub ExplainsCover : Schema → Allowed
ExplainsCover schema = Explained (AreCoverReasons schema) (GivesCover schema)
