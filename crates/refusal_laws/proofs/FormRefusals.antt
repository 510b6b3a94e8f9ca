-- The refusals of `form`, and of `synthesize fewest` with its reasons.
use Rattle.std.proofs.Common.{ℕ, List, [], ◌∷◌, inl, inr}
use Rattle.std.specs.Prelude.{All}
use Rattle.attr_sets.specs.Attributes.{Attributes}
use Rattle.schema_model.specs.Names.{IsName}
use Rattle.schema_model.specs.Schemas.{Schema, names_of, universe_of}
use Rattle.desk_designs.specs.FewestReasons.{AreFewestReasons, ExplainsFewest}
use Rattle.desk_designs.specs.FewestTables.{SynthesizesFewest}
use Rattle.desk_designs.specs.FormsOfSchemes.{ListsFormOfAll, ListsFormsOfPlan}
use Rattle.refusal_laws.proofs.QuestionRefusals.{too_wide}
use Rattle.refusal_laws.proofs.RefusalLemmas.{RefusesSo, explained_refuses, says_yes}

module _ (names : List (List ℕ)) (s : Schema) (are_names : All IsName (names_of s)) where
  pub forms_refuse : (plan : List Attributes) → RefusesSo names (ListsFormsOfPlan s plan)
  forms_refuse plan response (inl (all, (text, are, said))) refused = says_yes names _ response said refused
  forms_refuse plan response (inr (scheme, first, wide, said)) refused = too_wide names s are_names scheme response said refused

  pub form_of_all_refuses : RefusesSo names (ListsFormOfAll s)
  form_of_all_refuses = forms_refuse (universe_of s ∷ [])

  pub fewest_refuses : RefusesSo names (SynthesizesFewest s)
  fewest_refuses response (plan, is, said) refused = says_yes names _ response said refused

  pub explained_fewest_refuses : RefusesSo names (ExplainsFewest s)
  explained_fewest_refuses = explained_refuses names (AreFewestReasons s) (SynthesizesFewest s) fewest_refuses
