-- Schemas with the same names that have the same legal relations answer a goal by the same status.
use Rattle.std.proofs.Common.{◌≡◌, ℕ, List, inl, inr, sym, ap, ◌∙◌, subst}
use Rattle.std.specs.Prelude.{Contains, length}
use Rattle.std.proofs.lemmas.List.Elements.{All-weaker, All-contains, All-contains_itself}
use Rattle.dep_model.specs.Dependencies.{Dependency, Obeys}
use Rattle.dep_model.specs.Implication.{IsLegal, Implies}
use Rattle.schema_model.specs.Schemas.{names_of, width_of, theory_of, ImpliedBy, naming_of}
use Rattle.dep_model.specs.Tuples.{Relation}
use Rattle.schema_model.specs.Schemas.{Schema}
use Rattle.derivation.specs.Trees.{Tree}
use Rattle.desk_responses.specs.ResponseValues.{ResponseValue}
use Rattle.desk_responses.specs.declared.status.Status.TheVariants.{Yes, No, Refused}
use Rattle.desk_implication.specs.Certificates.{Checked, ChecksProof}
use Rattle.desk_implication.specs.Implication.{Decided, DecidesGoal}
use Rattle.desk_tables.specs.Legality.{JudgesRows}
use Rattle.implication_laws.specs.Rewriting.{HaveSameDependencies}
use Rattle.implication_laws.proofs.GoalLemmas.{says-status, same_status, goal_stops-status, one_goal, goal_goes, goal_moved}

-- ---- the same dependencies
-- what is legal for a list is legal for one whose members it has
pub legal_for_members : (n : ℕ) (ds es : List Dependency) (r : Relation)
    → ((d : Dependency) → Contains es d → Contains ds d)
    → IsLegal n ds r → IsLegal n es r
legal_for_members n ds es r held legal = record {
  over = legal.over;
  obeys = All-weaker (Contains es) (λ d. Obeys n d r)
      (λ d has. All-contains (λ d. Obeys n d r) ds d legal.obeys (held d has)) es (All-contains_itself es);
}

-- a schema implies what another implies whose relations are legal for it
pub implied_by_other : (schema other : Schema) (d : Dependency) → names_of schema ≡ names_of other
    → ((r : Relation) → IsLegal (width_of other) (theory_of other) r → IsLegal (width_of other) (theory_of schema) r)
    → ImpliedBy schema d → ImpliedBy other d
implied_by_other schema other d names legal implied r is =
    subst (λ (n : ℕ). Implies n (theory_of schema) d) (ap length names) implied r (legal r is)

pub implied_alike : (schema other : Schema) (d : Dependency) → HaveSameDependencies schema other → ImpliedBy schema d
    → ImpliedBy other d
implied_alike schema other d same =
    implied_by_other schema other d same.names
    (λ r legal. legal_for_members (width_of other) (theory_of other) (theory_of schema) r (λ e has.
    (same.each e).0 has) legal)

turned : (schema other : Schema) → HaveSameDependencies schema other → HaveSameDependencies other schema
turned schema other same = record { naming = sym same.naming; names = sym same.names; each = λ d. ((same.each d).1, (same.each d).0) }

-- ---- the answers
decided-status : (schema other : Schema) (d : Dependency) (first second : ResponseValue)
    → (ImpliedBy schema d → ImpliedBy other d)
    → (ImpliedBy other d → ImpliedBy schema d) → Decided schema d first → Decided other d second
    → first.status ≡ second.status
decided-status schema other d first second there back (inl (implied, found)) (inl (also, printed)) =
    same_status Yes _ _ first second found.4 printed.4
decided-status schema other d first second there back (inl (implied, found)) (inr (broken, printed)) =
    absurd (broken (there implied))
decided-status schema other d first second there back (inr (broken, found)) (inl (implied, printed)) =
    absurd (broken (back implied))
decided-status schema other d first second there back (inr (broken, found)) (inr (also, printed)) =
    same_status No _ _ first second found.3 printed.3

pub goals-status : (schema other : Schema) (goal : List ℕ) (first second : ResponseValue)
    → naming_of schema ≡ naming_of other → names_of schema ≡ names_of other
    → ((d : Dependency) → ImpliedBy schema d → ImpliedBy other d)
    → ((d : Dependency) → ImpliedBy other d → ImpliedBy schema d)
    → DecidesGoal schema goal first → DecidesGoal other goal second → first.status ≡ second.status
goals-status schema other goal first second naming names there back (inl stops) (inl halts) =
    goal_stops-status schema goal first stops ∙ sym (goal_stops-status other goal second halts)
goals-status schema other goal first second naming names there back (inl stops) (inr (e, is, rest)) =
    absurd (goal_goes schema goal e first (goal_moved other schema goal e (sym naming) (sym names) is) stops)
goals-status schema other goal first second naming names there back (inr (d, is, rest)) (inl halts) =
    absurd (goal_goes other goal d second (goal_moved schema other goal d naming names is) halts)
goals-status schema other goal first second naming names there back (inr (d, is, rest)) (inr (e, also, more)) =
    let same : e ≡ d = one_goal (naming_of other) (names_of other) goal e d also.means (goal_moved schema other goal d naming names is).means in
    decided-status schema other d first second (there d) (back d) rest
    (subst (λ (f : Dependency). Decided other f second) same more)

pub lines-status : (schema other : Schema) (goal : List ℕ) (first second : ResponseValue)
    → HaveSameDependencies schema other
    → DecidesGoal schema goal first → DecidesGoal other goal second → first.status ≡ second.status
lines-status schema other goal first second same =
    goals-status schema other goal first second same.naming same.names (λ d. implied_alike schema other d same)
    (λ d. implied_alike other schema d (turned schema other same))

pub not_yes_and_no : (first second : ResponseValue) → first.status ≡ second.status
    → first.status ≡ Yes → second.status ≡ No → ⊥
not_yes_and_no first second same says_yes says_no = cc

-- ---- certificates
pub refused_not_yes : (response : ResponseValue) → response.status ≡ Yes → response.status ≡ Refused → ⊥
refused_not_yes response says_yes refused = cc

pub no_not_yes : (response : ResponseValue) → response.status ≡ Yes → response.status ≡ No → ⊥
no_not_yes response says_yes says_no = cc

checked_implied : (schema : Schema) (tree : Tree) (d : Dependency) (response : ResponseValue) → response.status ≡ Yes
    → Checked schema tree d response → ImpliedBy schema d
checked_implied schema tree d response says_yes (inl (proved, implied, says)) = implied
checked_implied schema tree d response says_yes (inr (unproved, (concluded, proved, says))) =
    absurd (no_not_yes response says_yes (says-status No _ response says))

pub decided_yes : (schema : Schema) (d : Dependency) (response : ResponseValue) → ImpliedBy schema d
    → Decided schema d response → response.status ≡ Yes
decided_yes schema d response implied (inl (also, found)) = says-status Yes _ response found.4
decided_yes schema d response implied (inr (broken, found)) = absurd (broken implied)

pub accepted_yes : (schema other : Schema) (tree : Tree) (goal : List ℕ)
    (accepted decided : ResponseValue) → HaveSameDependencies schema other
    → ChecksProof schema tree goal accepted → accepted.status ≡ Yes → DecidesGoal other goal decided
    → decided.status ≡ Yes
accepted_yes schema other tree goal accepted decided same (inl stops) says_yes decides =
    absurd (refused_not_yes accepted says_yes (goal_stops-status schema goal accepted stops))
accepted_yes schema other tree goal accepted decided same (inr (d, is, checked)) says_yes (inl stops) =
    absurd (goal_goes other goal d decided (goal_moved schema other goal d same.naming same.names is) stops)
accepted_yes schema other tree goal accepted decided same (inr (d, is, checked)) says_yes (inr (e, also, rest)) =
    let alike : d ≡ e =
    one_goal (naming_of other) (names_of other) goal d e (goal_moved schema other goal d same.naming same.names is).means
    also.means in
    decided_yes other e decided
    (subst (λ (f : Dependency). ImpliedBy other f) alike
    (implied_alike schema other d same (checked_implied schema tree d accepted says_yes checked)))
    rest

-- ---- rows
pub implied_obeyed : (schema : Schema) (goal : Dependency) (rows : Relation) (decided judged : ResponseValue)
    → Decided schema goal decided → decided.status ≡ Yes → JudgesRows schema rows judged → judged.status ≡ Yes
    → Obeys (width_of schema) goal rows
implied_obeyed schema goal rows decided judged (inl (implied, found)) says_yes (inr (legal, says)) also_yes =
    implied rows legal
implied_obeyed schema goal rows decided judged (inl (implied, found)) says_yes (inl (broken, shown)) also_yes =
    absurd (no_not_yes judged also_yes (says-status No _ judged shown.2))
implied_obeyed schema goal rows decided judged (inr (broken, found)) says_yes judges also_yes =
    absurd (no_not_yes decided says_yes (says-status No _ decided found.3))
