-- A goal is read as one dependency, or refused; the status of an answer is that of the allowed one.
use Rattle.std.proofs.Common.{◌≡◌, ℕ, List, Ok, Err, inl, inr, sym, ap, ◌∙◌, subst, arith}
use Rattle.dep_model.specs.Dependencies.{Dependency, IsWithin}
use Rattle.schema_model.specs.Schemas.{naming_of, names_of, universe_of}
use Rattle.schema_model.specs.declared.naming.Naming.{Naming}
use Rattle.schema_model.specs.Schemas.{Schema}
use Rattle.derivation.proofs.RuleTableLemmas.{the_ok}
use Rattle.schema_grammar.specs.declared.format.Format.{Format}
use Rattle.schema_grammar.specs.declared.format.Format.TheVariants as format
use Rattle.schema_grammar.specs.declared.symbol.Sign.{Sign}
use Rattle.schema_grammar.specs.declared.symbol.Sign.TheVariants as sign
use Rattle.schema_grammar.specs.Meanings.{MeansGoal}
use Rattle.schema_grammar.proofs.WithinLemmas.{side_within, stated_within}
use Rattle.schema_grammar.specs.Reading.{read_goal}
use Rattle.schema_grammar.specs.declared.refusal.SchemaRefusal.{SchemaRefusal}
use Rattle.schema_grammar.proofs.GoalLaws.{goal-law}
use Rattle.schema_grammar.proofs.OneTextRefusal.{goal-refusal-law}
use Rattle.desk_responses.specs.ResponseValues.{ResponseValue, Says}
use Rattle.desk_responses.specs.declared.status.Status.{Status}
use Rattle.desk_responses.specs.declared.status.Status.TheVariants.{Refused}
use Rattle.desk_arguments.specs.Goals.{IsGoal, GoalStops}

-- ---- statuses
pub says-status : (s : Status) (text : List ℕ) (response : ResponseValue) → Says s text response → response.status ≡ s
says-status s text response says = ap (λ (a : ResponseValue). a.status) says

pub same_status : (s : Status) (text other : List ℕ) (first second : ResponseValue)
    → Says s text first → Says s other second
    → first.status ≡ second.status
same_status s text other first second one two = says-status s text first one ∙ sym (says-status s other second two)

-- ---- goals
pub goal_stops-status : (schema : Schema) (goal : List ℕ) (response : ResponseValue) → GoalStops schema goal response
    → response.status ≡ Refused
goal_stops-status schema goal response (inl (long, says)) = says-status Refused _ response says
goal_stops-status schema goal response (inr (refusal, is, says)) = says-status Refused _ response says

-- a goal means one dependency at most
pub one_goal : (naming : Naming) (names : List (List ℕ)) (goal : List ℕ) (d e : Dependency)
    → MeansGoal naming names goal d → MeansGoal naming names goal e → d ≡ e
one_goal naming names goal d e first second =
    the_ok {A = Dependency} {E = SchemaRefusal} d e
    (sym ((goal-law naming names goal d).1 first) ∙ (goal-law naming names goal e).1 second)

-- a goal that is read does not stop
pub goal_goes : (schema : Schema) (goal : List ℕ) (d : Dependency) (response : ResponseValue) → IsGoal schema goal d
    → GoalStops schema goal response → ⊥
goal_goes schema goal d response is (inl (long, says)) = let within = is.within_limit in omega (arith, within, long)
goal_goes schema goal d response is (inr (refusal, refused, says)) =
    let reads = read_goal (naming_of schema) (names_of schema) goal in
    let read : reads ≡ Ok d = (goal-law (naming_of schema) (names_of schema) goal d).1 is.means in
    let not_read : reads ≡ Err refusal =
    (goal-refusal-law (naming_of schema) (names_of schema) goal refusal).1 refused.refused in cc

-- a schema with the same names, written alike, reads a goal as the same
pub goal_moved : (schema other : Schema) (goal : List ℕ) (d : Dependency)
    → naming_of schema ≡ naming_of other → names_of schema ≡ names_of other → IsGoal schema goal d
    → IsGoal other goal d
goal_moved schema other goal d naming names is = record {
  within_limit = is.within_limit;
  means = subst (λ (n : Naming). MeansGoal n (names_of other) goal d) naming
      (subst (λ (declared : List (List ℕ)). MeansGoal (naming_of schema) declared goal d) names is.means);
}

-- ---- what a goal means lies within the universe
pub goal_within : (schema : Schema) (goal : List ℕ) (d : Dependency) → IsGoal schema goal d
    → IsWithin (universe_of schema) d
goal_within schema goal d is =
    let read = is.means.dependency in
    subst (λ (e : Dependency). IsWithin (universe_of schema) e) (sym read.states)
    (stated_within (universe_of schema) read.sign read.x read.y
    (side_within format.Plain (names_of schema) read.lhs read.x read.left_side)
    (side_within format.Plain (names_of schema) read.rhs read.y read.right_side))
