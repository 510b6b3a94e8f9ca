-- What `project` prints means the part of the schema inside the set.
use Rattle.std.proofs.Common.{◌≡◌, ◌≤◌, ℕ, List, ◌++◌, length, inl, inr, sym, ap, subst, ◌∙◌, arith}
use Rattle.attr_sets.specs.Attributes.{Attributes, IsSubset}
use Rattle.dep_model.specs.Dependencies.{Dependency}
use Rattle.schema_model.specs.Schemas.{Schema, universe_of}
use Rattle.schema_grammar.specs.Schemas.{MeansSchema}
use Rattle.schema_grammar.specs.Texts.{declarations_of}
use Rattle.schema_grammar.specs.declared.format.TheConstants.{MOST_DEPENDENCY_LINES}
use Rattle.schema_printer.specs.Parts.{part_text}
use Rattle.printing_laws.specs.Parts.{part_declared}
use Rattle.printing_laws.proofs.PrintedParts.{part_means}
use Rattle.desk_implication.specs.Projections.{IsProjected, ProjectsSet}
use Rattle.desk_responses.specs.ResponseValues.{ResponseValue}
use Rattle.desk_responses.specs.declared.status.Status.TheVariants.{Yes, Refused}
use Rattle.desk_texts.proofs.OverlongLemmas.{not_overlong}
use Rattle.implication_laws.proofs.GoalLemmas.{says-status}
use Rattle.implication_laws.proofs.ImplyingLaws.{refused_not_yes}

pub projection_means : (file : List ℕ) (s : Schema) (set : Attributes) (printed : ResponseValue) → MeansSchema file (declarations_of s)
    → IsSubset set (universe_of s) → ProjectsSet s set printed → printed.status ≡ Yes
    → (rules : List Dependency) × IsProjected s set rules
    × (length rules ≤ MOST_DEPENDENCY_LINES → (lines : List ℕ) × MeansSchema printed.text (part_declared s set rules lines))
projection_means file s set printed means low (inl (empty, says)) says_yes =
    absurd (refused_not_yes printed says_yes (says-status Refused _ printed says))
projection_means file s set printed means low (inr (inl (some, inl (wide, says)))) says_yes =
    absurd (refused_not_yes printed says_yes (says-status Refused _ printed says))
projection_means file s set printed means low (inr (inl (some, inr (many, says)))) says_yes =
    absurd (refused_not_yes printed says_yes (says-status Refused _ printed says))
projection_means file s set printed means low (inr (inr (rules, is, says))) says_yes = (
  rules,
  is,
  λ few.
      let part = part_means file s set rules means low is.not_empty is.cover.within few in
      let text : printed.text ≡ part_text s set rules =
      ap (λ (r : ResponseValue). r.text) says
      ∙ ap (λ (comment : List ℕ). comment ++ part_text s set rules) (not_overlong rules (omega (arith, few))) in (
        part.0,
        subst (λ (bytes : List ℕ). MeansSchema bytes (part_declared s set rules part.0)) (sym text) part.1,
      ),
)
