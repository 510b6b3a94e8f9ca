-- A list has one projection on a set, so `project` has one answer.
use Rattle.std.proofs.Common.{◌≡◌, ◌≤◌, ℕ, List, [], length, sym, subst, ap, ◌∙◌, inl, inr, arith}
use Rattle.std.specs.Prelude.{Contains}
use Rattle.std.proofs.lemmas.List.Elements.{All-contains}
use Rattle.attr_sets.specs.Attributes.{Attributes}
use Rattle.dep_model.specs.Dependencies.{Dependency}
use Rattle.schema_model.specs.Schemas.{names_of, width_of, theory_of, naming_of}
use Rattle.schema_model.specs.Schemas.{Schema}
use Rattle.fd_projection.specs.Projections.{IsMinimalFd, Precedes, AreMinimalWithin, IsProjection}
use Rattle.fd_projection.specs.Refusals.{AreTooMany}
use Rattle.min_cover.specs.Covers.{IsThinned}
use Rattle.desk_arguments.specs.Goals.{SetStops, IsSetText}
use Rattle.desk_implication.specs.Projections.{ProjectsSet, Projects, projection_text}
use Rattle.desk_responses.specs.declared.status.Status.TheVariants.{Yes}
use Rattle.implication_laws.specs.OneAnswer.{AllowsOne}
use Rattle.implication_laws.proofs.OneAnswer.{one_set_stop, set_goes, one_set}
use Rattle.implication_laws.proofs.OneCover.{one_thinned}
use Rattle.implication_laws.proofs.OneList.{precedes_one_way}
use Rattle.dep_model.proofs.OrderedLists.{HoldsAll, one_ordered_list, no_longer}
use Rattle.implication_laws.proofs.StepLaws.{same_says, With-one}

held : (n : ℕ) (ds : List Dependency) (set : Attributes) (one other : List Dependency) → AreMinimalWithin n ds set one
    → AreMinimalWithin n ds set other → HoldsAll one other
held n ds set one other first second d has =
    let (x, a, is, minimal) = All-contains (IsMinimalFd n ds set) one d first.each has in
    subst (λ (e : Dependency). Contains other e) (sym is) (second.all x a minimal)

one_minimal : (n : ℕ) (ds : List Dependency) (set : Attributes) (one other : List Dependency) → AreMinimalWithin n ds set one
    → AreMinimalWithin n ds set other → one ≡ other
one_minimal n ds set one other first second =
    one_ordered_list (IsMinimalFd n ds set) Precedes one other (precedes_one_way (IsMinimalFd n ds set)) first.each second.each
    first.ascending second.ascending (held n ds set one other first second) (held n ds set other one second first)

one_projection : (n : ℕ) (ds : List Dependency) (set : Attributes) (one other : List Dependency) → IsProjection n ds set one
    → IsProjection n ds set other → one ≡ other
one_projection n ds set one other first second =
    let same = one_minimal n ds set first.found second.found first.minimal second.minimal in
    one_thinned n [] second.found one other (subst (λ (found : List Dependency). IsThinned n [] found one) same first.thinned) second.thinned

-- all are listed, or there are too many
all_or_many : (n : ℕ) (ds : List Dependency) (set : Attributes) (rules found : List Dependency) → IsProjection n ds set rules
    → AreTooMany n ds set found → ⊥
all_or_many n ds set rules found is many =
    let fewer : length found ≤ length is.found =
    no_longer (IsMinimalFd n ds set) Precedes found is.found (precedes_one_way (IsMinimalFd n ds set)) many.each is.minimal.each many.ascending is.minimal.ascending
    (λ d has.
    let (x, a, same, minimal) = All-contains (IsMinimalFd n ds set) found d many.each has in
    subst (λ (e : Dependency). Contains is.found e) (sym same) (is.minimal.all x a minimal)) in
    let count = many.count in
    let within_limit = is.within_limit in
    omega (arith, fewer, count, within_limit)

one_projected : (s : Schema) (x : Attributes) → AllowsOne (ProjectsSet s x)
one_projected s x one other (inl (empty, says)) (inl (also, said)) = says ∙ sym said
one_projected s x one other (inl (empty, says)) (inr (inl (some, said))) = absurd (some empty)
one_projected s x one other (inl (empty, says)) (inr (inr (rules, is, said))) = absurd (is.not_empty empty)
one_projected s x one other (inr (inl (some, says))) (inl (empty, said)) = absurd (some empty)
one_projected s x one other (inr (inl (some, inl (wide, says)))) (inr (inl (also, inl (again, said)))) = says ∙ sym said
one_projected s x one other (inr (inl (some, inl (wide, says)))) (inr (inl (also, inr (many, said)))) = absurd (many.0 wide)
one_projected s x one other (inr (inl (some, inl (wide, says)))) (inr (inr (rules, is, said))) = absurd (is.narrow wide)
one_projected s x one other (inr (inl (some, inr (many, says)))) (inr (inl (also, inl (wide, said)))) = absurd (many.0 wide)
one_projected s x one other (inr (inl (some, inr (many, says)))) (inr (inl (also, inr (more, said)))) = says ∙ sym said
one_projected s x one other (inr (inl (some, inr (many, says)))) (inr (inr (rules, is, said))) =
    absurd (all_or_many (width_of s) (theory_of s) x rules many.1.0 is.projection many.1.1)
one_projected s x one other (inr (inr (rules, is, says))) (inl (empty, said)) = absurd (is.not_empty empty)
one_projected s x one other (inr (inr (rules, is, says))) (inr (inl (some, inl (wide, said)))) = absurd (is.narrow wide)
one_projected s x one other (inr (inr (rules, is, says))) (inr (inl (some, inr (many, said)))) =
    absurd (all_or_many (width_of s) (theory_of s) x rules many.1.0 is.projection many.1.1)
one_projected s x one other (inr (inr (rules, is, says))) (inr (inr (also, again, said))) =
    same_says Yes _ _ one other says said
    (ap (projection_text s x) (one_projection (width_of s) (theory_of s) x rules also is.projection again.projection))

pub one_projection_answer : (s : Schema) (set : List ℕ) → AllowsOne (Projects s set)
one_projection_answer s set =
    With-one (SetStops s set) (IsSetText s set) (ProjectsSet s) (one_set_stop s set)
    (λ x response is stops. set_goes s set x response is stops)
    (λ x y is also. one_set (naming_of s) (names_of s) set x y is.means also.means) (λ x is. one_projected s x)
