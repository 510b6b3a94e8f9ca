-- A plan is refused in one way for what may be missing: its designs are the same, and one thing is found first.
use Rattle.std.proofs.Common.{◌≡◌, ℕ, List, [], ◌∷◌, map, Option, Some, None, sym, subst, ap, ◌∙◌, inl, inr}
use Rattle.std.specs.Prelude.{unwrap_or}
use Rattle.attr_sets.specs.Attributes.{Attributes}
use Rattle.attr_sets.specs.declared.set.AttrSet.{AttrSet}
use Rattle.dep_model.specs.Plans.{schemes_of}
use Rattle.schema_model.specs.Schemas.{nullable_of}
use Rattle.schema_model.specs.Schemas.{Schema}
use Rattle.ddl_text.specs.Designs.{keyed}
use Rattle.ddl_text.specs.declared.table.TableDesign.{TableDesign}
use Rattle.optional_tables.proofs.AlikeLemmas.{AreAlike}
use Rattle.missing_values.proofs.FindingLemmas.{finds_alike}
use Rattle.missing_values.proofs.OneMissing.{found_or_none, one_missing}
use Rattle.missing_values.specs.Missing.{FindsMissing}
use Rattle.missing_values.specs.Refusals.{in_key_text, in_two_text, name_at, refusal_text}
use Rattle.missing_values.specs.declared.refusal.MissingRefusal.{MissingRefusal}
use Rattle.missing_values.specs.declared.refusal.MissingRefusal.TheVariants.{InKey, InTwo}
use Rattle.table_names.specs.TableNames.{GivenNames}
use Rattle.implication_laws.specs.OneAnswer.{AllowsOne}
use Rattle.implication_laws.proofs.StepLaws.{same_says, Unless-one}
use Rattle.desk_responses.specs.ResponseValues.{Allowed, ResponseValue}
use Rattle.desk_responses.specs.declared.status.Status.TheVariants.{Refused}
use Rattle.desk_designs.specs.Designs.{AreReadable, IsDesignOf, MissingStops, WithoutMissing}
use Rattle.plan_laws.proofs.DesignTexts.{found_same}
use Rattle.plan_laws.proofs.OneDesign.{one_sound_design}
use Rattle.plan_laws.specs.SameDesigns.{AreSameTables}

-- ---- designs that are the same
-- their schemes and keys are alike
pub keyed_alike : (one other : List TableDesign) → AreSameTables one other → AreAlike (map keyed one) (map keyed other)
keyed_alike [] [] same = tt
keyed_alike [] (u ∷ us) same = absurd same
keyed_alike (t ∷ ts) [] same = absurd same
keyed_alike (t ∷ ts) (u ∷ us) same =
    (record { scheme = same.0.columns; key = same.0.key }, keyed_alike ts us same.1)

-- so the same is found in both, and said
module _ (nullable : Attributes) (one other : List TableDesign) (same : AreSameTables one other) where
  pub finds_there : (found : Option MissingRefusal) → FindsMissing nullable (map keyed one) found
      → FindsMissing nullable (map keyed other) found
  finds_there found = finds_alike nullable (map keyed one) (map keyed other) found (keyed_alike one other same)

  name_same : (k : ℕ) → name_at one k ≡ name_at other k
  name_same =
      found_same (λ (t : TableDesign). t.name) (λ (t : TableDesign). t.name) (λ t u alike. alike.name) one other same

  refusal_same : (s : Schema) (refusal : MissingRefusal) → refusal_text s one refusal ≡ refusal_text s other refusal
  refusal_same s (InKey a k) = ap (in_key_text s a) (name_same k)
  refusal_same s (InTwo a j k) =
      ap (λ (earlier : List ℕ). in_two_text s a earlier (name_at one k)) (name_same j)
      ∙ ap (in_two_text s a (name_at other j)) (name_same k)

-- ---- what stops
pub one_design_of : (s : Schema) (names : GivenNames) (schemes : List Attributes) (tables designs : List TableDesign)
    → IsDesignOf s names schemes tables → IsDesignOf s names schemes designs → AreSameTables tables designs
one_design_of s names schemes tables designs is also =
    one_sound_design s names is.plan also.plan tables designs (is.same ∙ sym also.same) is.sound also.sound

one_missing_stop : (s : Schema) (names : GivenNames) (schemes : List Attributes) → AllowsOne (MissingStops s names schemes)
one_missing_stop s names schemes one other (tables, is, (refusal, finds, says)) (designs, also, (another, found, said)) =
    let same = one_design_of s names schemes tables designs is also in
    let there = finds_there (nullable_of s) tables designs same (Some refusal) finds in
    let found_one = one_missing (nullable_of s) (map keyed designs) (Some refusal) (Some another) there found in
    same_says Refused _ _ one other says said
    (refusal_same (nullable_of s) tables designs same s refusal
    ∙ ap (λ (first : Option MissingRefusal). refusal_text s designs (unwrap_or first refusal)) found_one)

missing_goes : (s : Schema) (names : GivenNames) (schemes : List Attributes) (response : ResponseValue) → AreReadable s names schemes
    → MissingStops s names schemes response → ⊥
missing_goes s names schemes response (tables, is, never) (designs, also, (refusal, found, says)) =
    found_or_none (nullable_of s) (map keyed designs) refusal
    (finds_there (nullable_of s) tables designs (one_design_of s names schemes tables designs is also) None never) found

-- ---- answers
-- after the test for what may be missing there is one answer
pub one_without_missing : (s : Schema) (names : GivenNames) (schemes : List Attributes) (rest : Allowed) → AllowsOne rest
    → AllowsOne (WithoutMissing s names schemes rest)
one_without_missing s names schemes rest one_rest =
    Unless-one (MissingStops s names schemes) (AreReadable s names schemes) rest (one_missing_stop s names schemes)
    (λ response passed stops. missing_goes s names schemes response passed stops) (λ passed. one_rest)

-- the same of plans of the same schemes, where what follows rests on the sets of a plan alone
pub same_without_missing : (s : Schema) (names : GivenNames) (rest : List AttrSet → Allowed)
    → ((plan others : List AttrSet) (one other : ResponseValue) → schemes_of plan ≡ schemes_of others
    → rest plan one → rest others other → one ≡ other)
    → (plan others : List AttrSet) (one other : ResponseValue) → schemes_of plan ≡ schemes_of others
    → WithoutMissing s names (schemes_of plan) (rest plan) one → WithoutMissing s names (schemes_of others) (rest others) other
    → one ≡ other
same_without_missing s names rest alike plan others one other at (inl stops) (inl stopped) =
    one_missing_stop s names (schemes_of others) one other
    (subst (λ (schemes : List Attributes). MissingStops s names schemes one) at stops) stopped
same_without_missing s names rest alike plan others one other at (inl stops) (inr (passed, answers)) =
    absurd (missing_goes s names (schemes_of others) one passed
    (subst (λ (schemes : List Attributes). MissingStops s names schemes one) at stops))
same_without_missing s names rest alike plan others one other at (inr (passed, answers)) (inl stops) =
    absurd (missing_goes s names (schemes_of others) other
    (subst (λ (schemes : List Attributes). AreReadable s names schemes) at passed) stops)
same_without_missing s names rest alike plan others one other at (inr (passed, answers)) (inr (also, again)) =
    alike plan others one other at answers again
