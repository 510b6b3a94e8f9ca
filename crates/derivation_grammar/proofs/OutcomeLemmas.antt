-- What the rule of a line gives, where what lines before state is implied, or lies within the universe.
use Rattle.std.proofs.Common.{◌≡◌, ◌-◌, ◌==◌, ℕ, Bool, true, false, cond, List, Option, Some, None, Result, Ok, Err, refl}
use Rattle.std.specs.Prelude.{All, slice_get}
use Rattle.std.proofs.lemmas.List.Elements.{All-contains}
use Rattle.std.proofs.lemmas.Option.{same_Some, slice_get_within, get_or_from_slice_get}
use Rattle.schema_model.specs.Schemas.{Schema, theory_in}
use Rattle.dep_model.specs.Dependencies.{Dependency, left_of, right_of, IsWithin}
use Rattle.schema_model.specs.Schemas.{universe_of, ImpliedBy}
use Rattle.derivation.specs.declared.fault.FaultKind.{FaultKind}
use Rattle.derivation.specs.declared.fault.FaultKind.TheVariants.{NoSuchGiven}
use Rattle.derivation.specs.Trees.{given, reflexivity, mreflexivity}
use Rattle.derivation.specs.Table.{leaf_conclusion, step_conclusion, pair_conclusion}
use Rattle.derivation.proofs.SoundnessLemmas.{leaf_sound, step_sound, pair_sound}
use Rattle.derivation.proofs.WithinLemmas.{OfAttributes, leaf_within, step_within, pair_within}
use Rattle.proof_grammar.specs.Lines.{Body, by_given, by_reflexivity, by_mreflexivity, by_step, by_pair}
use Rattle.proof_grammar.proofs.PreparedLaws.{BodyOfAttributes}
use Rattle.derivation_rules.specs.FurtherTable.{further_conclusion, decomposition_conclusion}
use Rattle.derivation_rules.proofs.SoundLemmas.{further_sound, decomposition_sound}
use Rattle.derivation_rules.proofs.WithinLemmas.{further_within, decomposition_within}
use Rattle.derivation_grammar.specs.Derivations.{stated_at, given_conclusion, over_one, over_two, outcome_of_rule, outcome_of_line}
use Rattle.derivation_grammar.specs.Lines.{DerivationBody, by_rule, by_decomposition, by_further}

-- ---- premises
premise_holds : (P : Dependency → Type 0) (before : List Dependency) (p : ℕ) (x : Dependency) → All P before
    → stated_at before p ≡ Some x → P x
premise_holds P before p x all e = by_cases (p == 0) e
  where
    by_cases : (b : Bool) → cond b None (slice_get before (p - 1)) ≡ Some x → P x
    by_cases true h = cc
    by_cases false h =
        All-contains P before x all
        (p - 1, slice_get_within before (p - 1) x h, get_or_from_slice_get before (p - 1) x x h)

pub over_one_some : (f : Dependency → Result Dependency FaultKind) (o : Option Dependency) (r : Result Dependency FaultKind)
    → over_one f o ≡ Some r → (x : Dependency) × (o ≡ Some x) × (f x ≡ r)
over_one_some f None r e = cc
over_one_some f (Some x) r e = (x, refl, same_Some (f x) r e)

pub over_two_some : (f : Dependency → Dependency → Result Dependency FaultKind) (o u : Option Dependency)
    (r : Result Dependency FaultKind) → over_two f o u ≡ Some r
    → (x y : Dependency) × (o ≡ Some x) × (u ≡ Some y) × (f x y ≡ r)
over_two_some f None u r e = cc
over_two_some f (Some x) None r e = cc
over_two_some f (Some x) (Some y) r e = (x, y, refl, refl, same_Some (f x y) r e)

given_leaf : (s : Schema) (k : ℕ) (d : Dependency) → given_conclusion s k ≡ Ok d
    → leaf_conclusion (theory_in s) (given (k - 1)) ≡ Ok d
given_leaf s k d h = by_cases (k == 0) h
  where
    by_cases : (b : Bool) → cond b (Err NoSuchGiven) (leaf_conclusion (theory_in s) (given (k - 1))) ≡ Ok d
        → leaf_conclusion (theory_in s) (given (k - 1)) ≡ Ok d
    by_cases true h = cc
    by_cases false h = h

-- ---- what is implied
rule_implied : (s : Schema) (before : List Dependency) (stated : Dependency) (b : Body) (d : Dependency)
    → All (ImpliedBy s) before → outcome_of_rule s before stated b ≡ Some (Ok d) → ImpliedBy s d
unfolding outcome_of_rule
rule_implied s before stated (by_given k) d all e = λ r legal.
    leaf_sound (theory_in s) r legal (given (k - 1)) d (given_leaf s k d (same_Some (given_conclusion s k) (Ok d) e))
rule_implied s before stated by_reflexivity d all e = λ r legal.
    leaf_sound (theory_in s) r legal (reflexivity (left_of stated) (right_of stated)) d (same_Some _ (Ok d) e)
rule_implied s before stated by_mreflexivity d all e = λ r legal.
    leaf_sound (theory_in s) r legal (mreflexivity (left_of stated) (right_of stated)) d (same_Some _ (Ok d) e)
rule_implied s before stated (by_step rule p) d all e =
    let x = over_one_some (step_conclusion (theory_in s) rule) (stated_at before p) (Ok d) e in
    λ r legal. step_sound (theory_in s) r legal rule x.0 d (premise_holds (ImpliedBy s) before p x.0 all x.1 r legal) x.2
rule_implied s before stated (by_pair rule p q) d all e =
    let x = over_two_some (pair_conclusion rule) (stated_at before p) (stated_at before q) (Ok d) e in
    λ r legal. pair_sound (theory_in s) r legal rule x.0 x.1 d (premise_holds (ImpliedBy s) before p x.0 all x.2 r legal)
    (premise_holds (ImpliedBy s) before q x.1 all x.3 r legal) x.4

pub outcome_implied : (s : Schema) (before : List Dependency) (stated : Dependency) (b : DerivationBody) (d : Dependency)
    → All (ImpliedBy s) before → outcome_of_line s before stated b ≡ Some (Ok d) → ImpliedBy s d
unfolding outcome_of_line
outcome_implied s before stated (by_rule b) d all e = rule_implied s before stated b d all e
outcome_implied s before stated (by_decomposition p) d all e =
    let x = over_one_some (decomposition_conclusion stated) (stated_at before p) (Ok d) e in
    decomposition_sound (theory_in s) stated x.0 d (premise_holds (ImpliedBy s) before p x.0 all x.1) x.2
outcome_implied s before stated (by_further f p q) d all e =
    let x = over_two_some (further_conclusion f) (stated_at before p) (stated_at before q) (Ok d) e in
    further_sound (theory_in s) f x.0 x.1 d (premise_holds (ImpliedBy s) before p x.0 all x.2)
    (premise_holds (ImpliedBy s) before q x.1 all x.3) x.4

-- ---- what lies within the universe
-- the sets of a line are of attributes
abbrev pub BodyOfLine : DerivationBody → Type 0
BodyOfLine (by_rule b) = BodyOfAttributes b
BodyOfLine _ = Unit {0}

rule_within : (s : Schema) (before : List Dependency) (stated : Dependency) (b : Body) (d : Dependency)
    → All (IsWithin (universe_of s)) before → OfAttributes (left_of stated) → OfAttributes (right_of stated)
    → BodyOfAttributes b → outcome_of_rule s before stated b ≡ Some (Ok d) → IsWithin (universe_of s) d
unfolding outcome_of_rule
rule_within s before stated (by_given k) d all left right own e =
    leaf_within (theory_in s) (given (k - 1)) d (tt {0}) (given_leaf s k d (same_Some (given_conclusion s k) (Ok d) e))
rule_within s before stated by_reflexivity d all left right own e =
    leaf_within (theory_in s) (reflexivity (left_of stated) (right_of stated)) d (left, right) (same_Some _ (Ok d) e)
rule_within s before stated by_mreflexivity d all left right own e =
    leaf_within (theory_in s) (mreflexivity (left_of stated) (right_of stated)) d (left, right) (same_Some _ (Ok d) e)
rule_within s before stated (by_step rule p) d all left right own e =
    let x = over_one_some (step_conclusion (theory_in s) rule) (stated_at before p) (Ok d) e in
    step_within (theory_in s) rule x.0 d own (premise_holds (IsWithin (universe_of s)) before p x.0 all x.1) x.2
rule_within s before stated (by_pair rule p q) d all left right own e =
    let x = over_two_some (pair_conclusion rule) (stated_at before p) (stated_at before q) (Ok d) e in
    pair_within (theory_in s) rule x.0 x.1 d (premise_holds (IsWithin (universe_of s)) before p x.0 all x.2)
    (premise_holds (IsWithin (universe_of s)) before q x.1 all x.3) x.4

pub outcome_within : (s : Schema) (before : List Dependency) (stated : Dependency) (b : DerivationBody) (d : Dependency)
    → All (IsWithin (universe_of s)) before → OfAttributes (left_of stated) → OfAttributes (right_of stated)
    → BodyOfLine b → outcome_of_line s before stated b ≡ Some (Ok d) → IsWithin (universe_of s) d
unfolding outcome_of_line
outcome_within s before stated (by_rule b) d all left right own e = rule_within s before stated b d all left right own e
outcome_within s before stated (by_decomposition p) d all left right own e =
    let x = over_one_some (decomposition_conclusion stated) (stated_at before p) (Ok d) e in
    decomposition_within (universe_of s) stated x.0 d right
    (premise_holds (IsWithin (universe_of s)) before p x.0 all x.1) x.2
outcome_within s before stated (by_further f p q) d all left right own e =
    let x = over_two_some (further_conclusion f) (stated_at before p) (stated_at before q) (Ok d) e in
    further_within (universe_of s) f x.0 x.1 d (premise_holds (IsWithin (universe_of s)) before p x.0 all x.2)
    (premise_holds (IsWithin (universe_of s)) before q x.1 all x.3) x.4
