-- The relation that `exhibit` prints is legal, decides functional goals, and has rules that say what its
-- schema says.
use Rattle.std.proofs.Common.{◌≡◌, ◌⊎◌, ℕ, true, List, length, get_or, inl, inr, sym, subst, arith}
use Rattle.std.specs.Prelude.{◌↔◌, All}
use Rattle.std.proofs.lemmas.Bool.Decides.{nat_tests}
use Rattle.attr_sets.specs.Attributes.{below, only, IsSubset}
use Rattle.csv_text.specs.Rows.{rows_text}
use Rattle.dep_model.specs.Dependencies.{Dependency, is_fd, left_of, right_of, Obeys, IsWithin}
use Rattle.dep_model.specs.Implication.{Implies}
use Rattle.schema_model.specs.Schemas.{names_of, width_of, theory_of, universe_of, LegalFor, ImpliedBy, naming_of}
use Rattle.dep_model.specs.Tuples.{Relation}
use Rattle.schema_model.specs.Schemas.{Schema}
use Rattle.dep_model.proofs.ImplicationLemmas.{legal_for_implied}
use Rattle.dep_model.proofs.PreservationLemmas.{fd-obeys, fd-obeyed}
use Rattle.fd_closure.proofs.ClosedSets.{all_functional}
use Rattle.headed_rows.specs.Headings.{HeadedRows}
use Rattle.min_cover.specs.Covers.{HaveSameLegal}
use Rattle.schema_match.proofs.MatchLemmas.{theory_within}
use Rattle.desk_discovery.specs.Discoveries.{AreRulesOf, FindsRules, RefusesRules, found_text}
use Rattle.desk_exhibits.specs.Exhibits.{IsExample, Exhibits}
use Rattle.desk_arguments.specs.Goals.{IsGoal}
use Rattle.desk_implication.specs.Implication.{Decided, DecidesGoal}
use Rattle.desk_tables.specs.Legality.{JudgesRows}
use Rattle.desk_responses.specs.ResponseValues.{ResponseValue, Says}
use Rattle.desk_responses.specs.declared.status.Status.TheVariants.{Yes, No, Refused}
use Rattle.implication_laws.specs.Alike.{AnswersAlikeWith}
use Rattle.implication_laws.proofs.AlikeLaws.{alike_with}
use Rattle.implication_laws.proofs.GoalLemmas.{says-status, one_goal, goal_goes, goal_within}
use Rattle.implication_laws.proofs.ImplyingLaws.{refused_not_yes, no_not_yes}

-- ---- what is printed
shown_example : (schema : Schema) (shown : ResponseValue) → Exhibits schema shown → shown.status ≡ Yes
    → (rows : Relation) × IsExample schema rows × Says Yes (rows_text (names_of schema) rows) shown
shown_example schema shown (inl found) says_yes = found
shown_example schema shown (inr (inl (dep, refused, says))) says_yes =
    absurd (refused_not_yes shown says_yes (says-status Refused _ shown says))
shown_example schema shown (inr (inr (inl (refused, says)))) says_yes =
    absurd (refused_not_yes shown says_yes (says-status Refused _ shown says))
shown_example schema shown (inr (inr (inr (refused, says)))) says_yes =
    absurd (refused_not_yes shown says_yes (says-status Refused _ shown says))

-- legal rows are called so
legal_judged : (schema : Schema) (rows : Relation) (judged : ResponseValue) → LegalFor schema rows
    → JudgesRows schema rows judged
    → judged.status ≡ Yes
legal_judged schema rows judged legal (inl (broken, found)) = absurd (broken legal)
legal_judged schema rows judged legal (inr (passed, says)) = says-status Yes _ judged says

pub exhibit_legal : (schema : Schema) (shown : ResponseValue) → Exhibits schema shown → shown.status ≡ Yes
    → (rows : Relation) × Says Yes (rows_text (names_of schema) rows) shown × LegalFor schema rows
    × ((judged : ResponseValue) → JudgesRows schema rows judged → judged.status ≡ Yes)
exhibit_legal schema shown exhibits says_yes =
    let (rows, example, says) = shown_example schema shown exhibits says_yes in
    let legal = example.legal in
    (rows, says, legal, λ judged. legal_judged schema rows judged legal)

-- ---- functional goals
obeyed_implied : (schema : Schema) (rows : Relation) (d : Dependency) → IsExample schema rows
    → IsWithin (universe_of schema) d
    → is_fd d ≡ true → Obeys (width_of schema) d rows → ImpliedBy schema d
obeyed_implied schema rows d example within is obeys r legal =
    fd-obeys (width_of schema) d r is
    ((example.exact (left_of d) (right_of d) within.0 within.1).0 (fd-obeyed (width_of schema) d rows is obeys) r legal)

goal_decides : (schema : Schema) (rows : Relation) (goal : List ℕ) (d : Dependency)
    (decided : ResponseValue) → IsExample schema rows
    → IsGoal schema goal d → IsWithin (universe_of schema) d → is_fd d ≡ true → DecidesGoal schema goal decided
    → (decided.status ≡ Yes) ↔ Obeys (width_of schema) d rows
goal_decides schema rows goal d decided example is within functional (inl stops) =
    absurd (goal_goes schema goal d decided is stops)
goal_decides schema rows goal d decided example is within functional (inr (e, also, rest)) =
    let same : e ≡ d = one_goal (naming_of schema) (names_of schema) goal e d also.means is.means in
    by (subst (λ (f : Dependency). Decided schema f decided) same rest)
  where
    by : Decided schema d decided → (decided.status ≡ Yes) ↔ Obeys (width_of schema) d rows
    by (inl (implied, found)) = (
      λ says_yes. implied rows example.legal,
      λ obeys.
          says-status Yes _ decided found.4,
    )
    by (inr (broken, found)) = (
      λ says_yes. absurd (no_not_yes decided says_yes (says-status No _ decided found.3)),
      λ obeys. absurd (broken (obeyed_implied schema rows d example within functional obeys)),
    )

pub exhibit_decides : (schema : Schema) (shown : ResponseValue) → Exhibits schema shown → shown.status ≡ Yes
    → (rows : Relation) × Says Yes (rows_text (names_of schema) rows) shown
    × ((goal : List ℕ) (d : Dependency) (decided : ResponseValue) → IsGoal schema goal d → is_fd d ≡ true
    → DecidesGoal schema goal decided → (decided.status ≡ Yes) ↔ Obeys (width_of schema) d rows)
exhibit_decides schema shown exhibits says_yes =
    let (rows, example, says) = shown_example schema shown exhibits says_yes in (
      rows,
      says,
      λ goal d decided is. goal_decides schema rows goal d decided example is (goal_within schema goal d is),
    )

-- ---- the rules of the relation
theory_implied : (schema : Schema) (rows : Relation) (ds : List Dependency) → IsExample schema rows
    → AreRulesOf (width_of schema) rows ds → All (Implies (width_of schema) ds) (theory_of schema)
theory_implied schema rows ds example rules k d l r legal =
    let n = width_of schema in
    let e = get_or (theory_of schema) k d in
    let is : is_fd e ≡ true = all_functional (theory_of schema) example.functional k d l in
    let within = theory_within schema k d l in
    let obeyed =
    (example.exact (left_of e) (right_of e) within.0 within.1).1
    (λ s given. fd-obeyed n e s is (given.obeys k d l)) in
    fd-obeys n e r is ((rules.implied (left_of e) (right_of e) within.0 within.1).1 obeyed r legal)

rules_implied : (schema : Schema) (rows : Relation) (ds : List Dependency) → IsExample schema rows
    → AreRulesOf (width_of schema) rows ds → All (Implies (width_of schema) (theory_of schema)) ds
rules_implied schema rows ds example rules k d l =
    let n = width_of schema in
    let (x, a, is, minimal) = rules.minimal.each k d l in
    let right : IsSubset (only a) (below n) = λ (j : ℕ) member. grind (arith, nat_tests, member, minimal.right) in
    subst (Implies n (theory_of schema)) (sym is)
    ((example.exact x (only a) minimal.left right).0 minimal.minimal.obeys)

rules_same : (schema : Schema) (rows : Relation) (ds : List Dependency) → IsExample schema rows
    → AreRulesOf (width_of schema) rows ds → HaveSameLegal (width_of schema) ds (theory_of schema)
rules_same schema rows ds example rules r = (
  legal_for_implied (width_of schema) ds (theory_of schema) r (theory_implied schema rows ds example rules),
  legal_for_implied (width_of schema) (theory_of schema) ds r (rules_implied schema rows ds example rules),
)

found_alike : (schema : Schema) (rows : Relation) (file : List ℕ) (headed : HeadedRows) (found : ResponseValue)
    → IsExample schema rows → headed.names ≡ names_of schema → headed.rows ≡ rows
    → FindsRules file headed found → RefusesRules (length headed.names) file headed found
    ⊎ ((ds : List Dependency) × Says Yes (found_text (names_of schema) ds) found × AnswersAlikeWith schema ds)
found_alike schema rows file headed found example names read (inr refused) = inl refused
found_alike schema rows file headed found example names read (inl (ds, rules, says)) = inr (
  ds,
  subst (λ (declared : List (List ℕ)). Says Yes (found_text declared ds) found) names says,
  alike_with schema ds (rules_same schema rows ds example
      (subst (λ (r : Relation). AreRulesOf (width_of schema) r ds) read
      (subst (λ (declared : List (List ℕ)). AreRulesOf (length declared) headed.rows ds) names rules))),
)

pub rules_alike : (schema : Schema) (shown : ResponseValue) → Exhibits schema shown → shown.status ≡ Yes
    → (rows : Relation) × Says Yes (rows_text (names_of schema) rows) shown
    × ((file : List ℕ) (headed : HeadedRows) (found : ResponseValue) → headed.names ≡ names_of schema
    → headed.rows ≡ rows → FindsRules file headed found → RefusesRules (length headed.names) file headed found
    ⊎ ((ds : List Dependency) × Says Yes (found_text (names_of schema) ds) found × AnswersAlikeWith schema ds))
rules_alike schema shown exhibits says_yes =
    let (rows, example, says) = shown_example schema shown exhibits says_yes in
    (rows, says, λ file headed found. found_alike schema rows file headed found example)
