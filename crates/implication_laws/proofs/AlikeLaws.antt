-- Schemas with one list of names for which the same relations are legal are answered alike.
use Rattle.std.proofs.Common.{◌≡◌, ℕ, List, length, inl, inr, sym, ap, ◌∙◌, subst}
use Rattle.std.proofs.lemmas.Bool.{true≢false}
use Rattle.dep_model.specs.Dependencies.{Dependency}
use Rattle.schema_model.specs.Schemas.{names_of, width_of, theory_of, naming_of}
use Rattle.schema_model.specs.Schemas.{Schema}
use Rattle.min_cover.specs.Covers.{HaveSameLegal}
use Rattle.schema_match.specs.Columns.{IsDeclaredBy, SameNames}
use Rattle.desk_responses.specs.ResponseValues.{ResponseValue}
use Rattle.desk_responses.specs.declared.status.Status.TheVariants.{Yes}
use Rattle.desk_covers.specs.Sameness.{LacksName, NameStops, SayTheSame, Compares, ChecksSame}
use Rattle.desk_covers.proofs.SamenessLemmas.{say_the_same}
use Rattle.implication_laws.specs.Alike.{AnswerAlike, AnswersAlikeWith}
use Rattle.implication_laws.specs.Rewriting.{HaveSameDependencies}
use Rattle.implication_laws.proofs.GoalLemmas.{says-status}
use Rattle.implication_laws.proofs.ImplyingLaws.{legal_for_members, implied_by_other, goals-status}
use Rattle.implication_laws.proofs.SameNamesLemmas.{same_names, implied_there, implied_back}

-- ---- the same names stop nothing
pub none_lacking : (schema other : Schema) (file : List ℕ) (response : ResponseValue) → IsDeclaredBy other schema
    → LacksName schema other file response → ⊥
none_lacking schema other file response declared (a, first, says) = true≢false (sym first.member ∙ declared a)

pub names_go : (schema other : Schema) (file other_file : List ℕ) (response : ResponseValue) → SameNames schema other
    → NameStops schema other file other_file response → ⊥
names_go schema other file other_file response names (inl lacks) =
    none_lacking schema other other_file response names.0 lacks
names_go schema other file other_file response names (inr (declared, lacks)) =
    none_lacking other schema file response names.1 lacks

-- ---- `check same`
compares-yes : (schema other : Schema) (file other_file : List ℕ) (response : ResponseValue) → SayTheSame schema other
    → Compares schema other file other_file response → response.status ≡ Yes
compares-yes schema other file other_file response same (inl (also, says)) = says-status Yes _ response says
compares-yes schema other file other_file response same (inr (of_schema, of_other, differ, says)) =
    absurd (differ.legal same.legal)

compared-yes : (schema other : Schema) (file other_file : List ℕ) (response : ResponseValue) → SameNames schema other
    → SayTheSame schema other → ChecksSame schema other file other_file response → response.status ≡ Yes
compared-yes schema other file other_file response names same (inl stops) =
    absurd (names_go schema other file other_file response names stops)
compared-yes schema other file other_file response names same (inr (passed, rest)) =
    compares-yes schema other file other_file response same rest

-- ---- answered alike
-- what is legal over as many attributes
moved : (n m : ℕ) (ds es : List Dependency) → n ≡ m → HaveSameLegal n ds es → HaveSameLegal m ds es
moved n m ds es width = subst (λ (k : ℕ). HaveSameLegal k ds es) width

pub alike : (schema other : Schema) → naming_of schema ≡ naming_of other → names_of schema ≡ names_of other
    → HaveSameLegal (width_of schema) (theory_of other) (theory_of schema) → AnswerAlike schema other
alike schema other naming names same =
    let there = implied_there schema other names same in
    let back = implied_back schema other names same in
    let by_names = same_names schema other names in
    let first = say_the_same schema other by_names there back in
    let second = say_the_same other schema (by_names.1, by_names.0) back there in
    let width : width_of schema ≡ width_of other = ap length names in
    record {
      there = first;
      back = second;
      compared = λ file other_file response. compared-yes schema other file other_file response by_names first;
      compared_back =
          λ file other_file response. compared-yes other schema file other_file response
          (by_names.1, by_names.0) second;
      decided = λ goal one two. goals-status schema other goal one two naming names
          (λ d. implied_by_other schema other d names (λ r.
          (moved (width_of schema) (width_of other) (theory_of other) (theory_of schema) width same
          r).0))
          (λ d. implied_by_other other schema d (sym names) (λ r. (same r).1));
    }

-- the same dependencies in any order
pub reordered : (schema other : Schema) → HaveSameDependencies schema other → AnswerAlike schema other
reordered schema other same =
    alike schema other same.naming same.names (λ r. (
      legal_for_members (width_of schema) (theory_of other) (theory_of schema) r (λ d. (same.each d).0),
      legal_for_members (width_of schema) (theory_of schema) (theory_of other) r (λ d. (same.each d).1),
    ))

-- dependencies for which the same relations are legal
pub alike_with : (schema : Schema) (ds : List Dependency)
    → HaveSameLegal (width_of schema) ds (theory_of schema) → AnswersAlikeWith schema ds
alike_with schema ds same other is =
    alike schema other is.naming is.names (subst
    (λ (es : List Dependency). HaveSameLegal (width_of schema) es (theory_of schema))
    (sym is.theory) same)
