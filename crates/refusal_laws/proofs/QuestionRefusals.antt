-- The refusals of what is asked of a schema, or of two: what it implies, its keys, its cover and rows that it allows.
use Rattle.std.proofs.Common.{◌≡◌, ℕ, List, [], ◌++◌, Option, refl, inl, inr}
use Rattle.std.specs.Prelude.{All, Contains, codes, slice_get}
use Rattle.attr_sets.specs.Attributes.{Attributes}
use Rattle.cover_accounts.specs.declared.diagnostic.CoverForm.{CoverForm}
use Rattle.derivation.specs.Trees.{Tree}
use Rattle.dep_model.specs.Dependencies.{Dependency}
use Rattle.schema_model.specs.Names.{IsName}
use Rattle.schema_model.specs.Schemas.{Schema, lines_of, names_of, universe_of}
use Rattle.schema_model.proofs.PlainLemmas.{IsPlain, plain_both}
use Rattle.schema_printer.specs.Printing.{set_text}
use Rattle.schema_printer.specs.Spelling.{printed_names_of}
use Rattle.schema_match.specs.Columns.{IsDeclaredBy, SameNames}
use Rattle.desk_covers.specs.CoverChecks.{ChecksCoverForm, TestsCover, TestsForm}
use Rattle.desk_covers.specs.CoverReasons.{AreCoverReasons, ExplainsCover}
use Rattle.desk_covers.specs.Covering.{GivesCanonicalCover, GivesCover}
use Rattle.desk_covers.specs.Sameness.{ChecksSame, Compares, LacksName, NameStops, WithSameNames, not_in_text}
use Rattle.desk_exhibits.specs.Exhibits.{Exhibits}
use Rattle.desk_implication.specs.Bases.{GivesBasis, TellsBasis}
use Rattle.desk_implication.specs.Certificates.{Checked, ChecksProof}
use Rattle.desk_implication.specs.Closures.{GivesClosure, TellsClosure}
use Rattle.derivation_grammar.specs.Lines.{DerivationLine}
use Rattle.derivation_mistakes.specs.Mistakes.{MistakenLine}
use Rattle.desk_implication.specs.Derivations.{ChecksDerivation, DerivationChecked, DerivationJudged}
use Rattle.desk_implication.specs.Explanations.{ExplainsGoal, ExplainsImplication}
use Rattle.desk_implication.specs.Implication.{Decided, DecidesGoal}
use Rattle.desk_implication.specs.Projections.{Projects, ProjectsSet}
use Rattle.desk_keys.specs.KeyChecks.{ChecksKey, TestsKey}
use Rattle.desk_keys.specs.KeyReasons.{AreKeyReasons, ExplainsKeys}
use Rattle.desk_keys.specs.Keys.{EndsKeys, ListsKeys, ListsKeysOfPlan}
use Rattle.desk_responses.specs.Lines.{attribute_name, line_number_text, too_wide_text}
use Rattle.desk_responses.specs.Multivalued.{multivalued_text}
use Rattle.desk_responses.specs.ResponseValues.{Allowed, Says}
use Rattle.desk_responses.specs.declared.status.Status.TheVariants.{Refused}
use Rattle.reason_laws.proofs.NameTexts.{names_printed, set_plain}
use Rattle.reason_laws.proofs.NumberTexts.{number_plain}
use Rattle.refusal_laws.specs.Refusals.{IsRefusal}
use Rattle.refusal_laws.proofs.FileRefusals.{after_goal, after_set}
use Rattle.refusal_laws.proofs.PlainTexts.{attribute_plain, plain_three}
use Rattle.refusal_laws.proofs.RefusalLemmas.{RefusesSo, explained_refuses, named, refusal, says_no, says_plain, says_refused, says_yes, unless_refuses}

module _ (names : List (List ℕ)) (s : Schema) (are_names : All IsName (names_of s)) where
  -- ---- refusals of several commands
  -- a word and a set of attributes
  set_said : (word : List ℕ) (set : Attributes) → IsPlain word → IsPlain (word ++ set_text (printed_names_of s) set)
  set_said word set plain =
      plain_both word (set_text (printed_names_of s) set) plain (set_plain (printed_names_of s) set (names_printed s are_names))

  pub too_wide : (set : Attributes) → RefusesSo names (Says Refused (too_wide_text (printed_names_of s) set))
  too_wide set =
      says_plain names (codes "too wide: scheme " ++ set_text (printed_names_of s) set) (set_said (codes "too wide: scheme ") set refl)

  pub multivalued : (dep : ℕ) → RefusesSo names (Says Refused (multivalued_text s dep))
  multivalued dep =
      let number = line_number_text (slice_get (lines_of s) dep) in
      says_plain names (codes "line " ++ number ++ codes " is multivalued")
      (plain_three (codes "line ") number (codes " is multivalued") refl (number_plain (slice_get (lines_of s) dep)) refl)

  -- ---- goals
  decided : (goal : Dependency) → RefusesSo names (Decided s goal)
  decided goal response (inl (implied, (proof, proves, chain, short, said))) refused = says_yes names _ response said refused
  decided goal response (inr (other, (agreement, broken, shown, said))) refused = says_no names _ response said refused

  pub implication_refuses : (goal : List ℕ) → RefusesSo names (DecidesGoal s goal)
  implication_refuses goal = after_goal names s goal (Decided s) decided

  explained : (goal : Dependency) → RefusesSo names (ExplainsGoal s goal)
  explained goal response (inl (implied, (lines, found, said))) refused = says_yes names _ response said refused
  explained goal response (inr (broken, found)) refused = decided goal response found refused

  pub explained_implication_refuses : (goal : List ℕ) → RefusesSo names (ExplainsImplication s goal)
  explained_implication_refuses goal = after_goal names s goal (ExplainsGoal s) explained

  checked : (tree : Tree) (goal : Dependency) → RefusesSo names (Checked s tree goal)
  checked tree goal response (inl (proves, implied, said)) refused = says_yes names _ response said refused
  checked tree goal response (inr (other, (concluded, proves, said))) refused = says_no names _ response said refused

  pub proof_refuses : (tree : Tree) (goal : List ℕ) → RefusesSo names (ChecksProof s tree goal)
  proof_refuses tree goal = after_goal names s goal (Checked s tree) (checked tree)

  derivation_judged : (found : List MistakenLine) (concluded goal : Dependency)
      → RefusesSo names (DerivationJudged s found concluded goal)
  derivation_judged found concluded goal response (inl h) refused = says_yes names _ response h.3 refused
  derivation_judged found concluded goal response (inr (inl h)) refused = says_no names _ response h.2 refused
  derivation_judged found concluded goal response (inr (inr h)) refused = says_no names _ response h.1 refused

  derivation_checked : (lines : List DerivationLine) (goal : Dependency) → RefusesSo names (DerivationChecked s lines goal)
  derivation_checked lines goal response h refused = derivation_judged h.0 h.1 goal response h.4 refused

  pub derivation_refuses : (lines : List DerivationLine) (goal : List ℕ) → RefusesSo names (ChecksDerivation s lines goal)
  derivation_refuses lines goal = after_goal names s goal (DerivationChecked s lines) (derivation_checked lines)

  -- ---- sets
  basis_told : (x : Attributes) → RefusesSo names (TellsBasis s x)
  basis_told x response (found, is, said) refused = says_yes names _ response said refused

  pub basis_refuses : (set : List ℕ) → RefusesSo names (GivesBasis s set)
  basis_refuses set = after_set names s set (TellsBasis s) basis_told

  closure_told : (x : Attributes) → RefusesSo names (TellsClosure s x)
  closure_told x response (text, comes, said) refused = says_yes names _ response said refused

  pub closure_refuses : (set : List ℕ) → RefusesSo names (GivesClosure s set)
  closure_refuses set = after_set names s set (TellsClosure s) closure_told

  projected : (set : Attributes) → RefusesSo names (ProjectsSet s set)
  projected set response (inl (empty, said)) refused = says_plain names (codes "set is empty") refl response said refused
  projected set response (inr (inl (some, inl (wide, said)))) refused = too_wide set response said refused
  projected set response (inr (inl (some, inr (many, said)))) refused =
      says_plain names (codes "too many dependencies") refl response said refused
  projected set response (inr (inr (rules, are, said))) refused = says_yes names _ response said refused

  pub projection_refuses : (set : List ℕ) → RefusesSo names (Projects s set)
  projection_refuses set = after_set names s set (ProjectsSet s) projected

  key_tested : (x : Attributes) → RefusesSo names (TestsKey s x)
  key_tested x response (text, inl (shown, said)) refused = says_yes names _ response said refused
  key_tested x response (text, inr (none, said)) refused = says_no names _ response said refused

  pub key_refuses : (set : List ℕ) → RefusesSo names (ChecksKey s set)
  key_refuses set = after_set names s set (TestsKey s) key_tested

  -- ---- keys
  pub keys_refuse : RefusesSo names (ListsKeys s)
  keys_refuse response (inl (keys, are, few, narrow, said)) refused = says_yes names _ response said refused
  keys_refuse response (inr (inl (wide, said))) refused = too_wide (universe_of s) response said refused
  keys_refuse response (inr (inr (narrow, many, said))) refused = says_plain names (codes "too many keys") refl response said refused

  keys_end : (scheme : Attributes) → RefusesSo names (EndsKeys s scheme)
  keys_end scheme response (inl (wide, said)) refused = too_wide scheme response said refused
  keys_end scheme response (inr (narrow, (found, many, said))) refused =
      says_plain names (codes "too many keys: scheme " ++ set_text (printed_names_of s) scheme)
      (set_said (codes "too many keys: scheme ") scheme refl) response said refused

  pub plan_keys_refuse : (plan : List Attributes) → RefusesSo names (ListsKeysOfPlan s plan)
  plan_keys_refuse plan response (inl (keyed, same, are, said)) refused = says_yes names _ response said refused
  plan_keys_refuse plan response (inr (scheme, first, ends)) refused = keys_end scheme response ends refused

  pub explained_keys_refuse : RefusesSo names (ExplainsKeys s)
  explained_keys_refuse = explained_refuses names (AreKeyReasons s) (ListsKeys s) keys_refuse

  -- ---- rows
  pub exhibit_refuses : RefusesSo names (Exhibits s)
  exhibit_refuses response (inl (rows, is, said)) refused = says_yes names _ response said refused
  exhibit_refuses response (inr (inl (dep, first, said))) refused = multivalued dep response said refused
  exhibit_refuses response (inr (inr (inl (wide, said)))) refused = too_wide (universe_of s) response said refused
  exhibit_refuses response (inr (inr (inr (many, said)))) refused = says_plain names (codes "too many rows") refl response said refused

  -- ---- covers
  pub cover_refuses : RefusesSo names (GivesCover s)
  cover_refuses response (whole, fixed, minimal, is, said) refused = says_yes names _ response said refused

  pub canonical_cover_refuses : RefusesSo names (GivesCanonicalCover s)
  canonical_cover_refuses response (cover, fixed, canonical, is, said) refused = says_yes names _ response said refused

  pub explained_cover_refuses : RefusesSo names (ExplainsCover s)
  explained_cover_refuses = explained_refuses names (AreCoverReasons s) (GivesCover s) cover_refuses

  -- a name that another file does not declare
  lacking : (other : Schema) (file : List ℕ) → Contains names file → RefusesSo names (LacksName s other file)
  lacking other file given response (a, first, said) refused =
      let name = attribute_name (printed_names_of s) a in
      says_refused names (not_in_text name file)
      (refusal names (name ++ codes " is not in " ++ file)
      (named names (name ++ codes " is not in ") file (plain_both name (codes " is not in ") (attribute_plain s are_names a) refl) given))
      response said refused

-- two schemas, in files of these names
module _ (names : List (List ℕ)) (s t : Schema) (are_names : All IsName (names_of s)) (others : All IsName (names_of t))
    (file other_file : List ℕ) (given : Contains names file) (other_given : Contains names other_file) where
  names_stop : RefusesSo names (NameStops s t file other_file)
  names_stop response (inl lacks) refused = lacking names s are_names t other_file other_given response lacks refused
  names_stop response (inr (declared, lacks)) refused = lacking names t others s file given response lacks refused

  same_names : (rest : Allowed) → RefusesSo names rest → RefusesSo names (WithSameNames s t file other_file rest)
  same_names rest later =
      unless_refuses names (NameStops s t file other_file) (SameNames s t) rest names_stop later

  compared : RefusesSo names (Compares s t file other_file)
  compared response (inl (same, said)) refused = says_yes names _ response said refused
  compared response (inr (of_schema, of_other, differ, said)) refused = says_no names _ response said refused

  pub same_refuses : RefusesSo names (ChecksSame s t file other_file)
  same_refuses = same_names (Compares s t file other_file) compared

  form_tested : (form : CoverForm) → RefusesSo names (TestsForm form t)
  form_tested form response (found, are, inl (none, said)) refused = says_yes names _ response said refused
  form_tested form response (found, are, inr (some, said)) refused = says_no names _ response said refused

  cover_tested : (form : CoverForm) → RefusesSo names (TestsCover form s t file other_file)
  cover_tested form response (inl (of_schema, of_other, differ, said)) refused = says_no names _ response said refused
  cover_tested form response (inr (same, tests)) refused = form_tested form response tests refused

  pub check_cover_refuses : (form : CoverForm) → RefusesSo names (ChecksCoverForm form s t file other_file)
  check_cover_refuses form = same_names (TestsCover form s t file other_file) (cover_tested form)
