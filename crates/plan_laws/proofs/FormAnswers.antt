-- `form` has one answer: one form of each scheme, and one violation of each form that it is not in.
use Rattle.std.proofs.Common.{◌≡◌, ℕ, List, [], ◌∷◌, ◌++◌, Option, sym, ap, ◌∙◌, inl, inr}
use Rattle.std.specs.Prelude.{All}
use Rattle.std.proofs.lemmas.List.Elements.{All-cons, All-contains, All-head, All-nil, All-tail}
use Rattle.attr_sets.specs.Attributes.{Attributes, below, IsSubset}
use Rattle.dep_model.specs.Plans.{IsPlan}
use Rattle.dep_model.specs.declared.form.Form.TheVariants.{Third, Bcnf, Fourth}
use Rattle.schema_model.specs.Schemas.{Schema, theory_of, universe_of, width_of}
use Rattle.schema_printer.specs.Spelling.{printed_names_of}
use Rattle.fd_closure.specs.LeftSides.{IsWideScheme}
use Rattle.split_forms.proofs.StepLemmas.{split_at_first-unique}
use Rattle.which_form.specs.declared.forms.TestedForm.{TestedForm}
use Rattle.which_form.specs.declared.forms.TestedForm.TheVariants.{Second, Higher}
use Rattle.which_form.proofs.SecondLemmas.{one_last, one_named}
use Rattle.desk_responses.specs.Lines.{too_wide_text}
use Rattle.desk_responses.specs.ResponseValues.{IsFirstFailing, text_only}
use Rattle.desk_responses.specs.declared.status.Status.TheVariants.{Yes, Refused}
use Rattle.desk_designs.specs.FormsOfSchemes.{ArePlanTexts, IsSchemeText, IsTestable, IsViolationText, ListsFormOfAll, ListsFormsOfPlan, form_line, violation_line}
use Rattle.implication_laws.specs.OneAnswer.{AllowsOne}
use Rattle.implication_laws.proofs.OnePlanAnswer.{failing_in_plan}
use Rattle.implication_laws.proofs.StepLaws.{same_says}

-- ---- the lines of a scheme
one_violation : (s : Schema) (scheme : Attributes) (form : TestedForm) (text other : List ℕ)
    → IsSubset scheme (below (width_of s)) → IsViolationText s scheme form text → IsViolationText s scheme form other
    → text ≡ other
one_violation s scheme form text other low (inl (is, nothing)) (inl (also, empty)) = nothing ∙ sym empty
one_violation s scheme form text other low (inl (is, nothing)) (inr (fails, named)) = absurd (fails is)
one_violation s scheme form text other low (inr (fails, named)) (inl (is, nothing)) = absurd (fails is)
one_violation s scheme form text other low (inr (fails, (x, y, named, says))) (inr (lacks, (v, w, also, said))) =
    let names = printed_names_of s in
    let same = one_named (width_of s) (theory_of s) form scheme x y v w low named also in
    says
    ∙ ap (λ (z : Attributes). violation_line names form z y) same.0
    ∙ ap (λ (z : Attributes). violation_line names form v z) same.1
    ∙ sym said

one_scheme_text : (s : Schema) (scheme : Attributes) (text other : List ℕ) → IsSubset scheme (below (width_of s))
    → IsSchemeText s scheme text → IsSchemeText s scheme other → text ≡ other
one_scheme_text s scheme text other low here there =
    let front : Option TestedForm → List ℕ = λ last. form_line (printed_names_of s) scheme last in
    here.is
    ∙ ap (λ (last : Option TestedForm). front last ++ here.second ++ here.third ++ here.bcnf ++ here.fourth)
    (one_last (width_of s) (theory_of s) scheme here.last there.last here.is_last there.is_last)
    ∙ ap (λ (t : List ℕ). front there.last ++ t ++ here.third ++ here.bcnf ++ here.fourth)
    (one_violation s scheme Second here.second there.second low here.of_second there.of_second)
    ∙ ap (λ (t : List ℕ). front there.last ++ there.second ++ t ++ here.bcnf ++ here.fourth)
    (one_violation s scheme (Higher Third) here.third there.third low here.of_third there.of_third)
    ∙ ap (λ (t : List ℕ). front there.last ++ there.second ++ there.third ++ t ++ here.fourth)
    (one_violation s scheme (Higher Bcnf) here.bcnf there.bcnf low here.of_bcnf there.of_bcnf)
    ∙ ap (λ (t : List ℕ). front there.last ++ there.second ++ there.third ++ there.bcnf ++ t)
    (one_violation s scheme (Higher Fourth) here.fourth there.fourth low here.of_fourth there.of_fourth)
    ∙ sym there.is

-- ---- the lines of a plan
one_plan_text : (s : Schema) (plan : List Attributes) (text other : List ℕ)
    → All (λ scheme. IsSubset scheme (below (width_of s))) plan → ArePlanTexts s plan text → ArePlanTexts s plan other
    → text ≡ other
one_plan_text s [] text other low one another = one ∙ sym another
one_plan_text s (scheme ∷ plan) text other low (front, back, here, rest, is) (first, behind, there, more, also) =
    let within = All-head (λ (x : Attributes). IsSubset x (below (width_of s))) scheme plan low in
    let others = All-tail (λ (x : Attributes). IsSubset x (below (width_of s))) scheme plan low in
    is
    ∙ ap (λ (t : List ℕ). t ++ back) (one_scheme_text s scheme front first within here there)
    ∙ ap (λ (t : List ℕ). first ++ t) (one_plan_text s plan back behind others rest more)
    ∙ sym also

all_testable : (s : Schema) (plan : List Attributes) (scheme : Attributes) → All (IsTestable s) plan
    → IsFirstFailing (IsTestable s) plan scheme → IsWideScheme (theory_of s) scheme → ⊥
all_testable s plan scheme all first wide =
    All-contains (IsTestable s) plan scheme all (failing_in_plan (IsTestable s) plan scheme first) wide

-- ---- answers
one_of_forms : (s : Schema) (plan : List Attributes) → All (λ scheme. IsSubset scheme (below (width_of s))) plan
    → AllowsOne (ListsFormsOfPlan s plan)
one_of_forms s plan low one other (inl (all, (text, are, says))) (inl (each, (lines, too, said))) =
    same_says Yes text lines one other says said (one_plan_text s plan text lines low are too)
one_of_forms s plan low one other (inl (all, shown)) (inr (scheme, first, wide, says)) =
    absurd (all_testable s plan scheme all first wide)
one_of_forms s plan low one other (inr (scheme, first, wide, says)) (inl (all, shown)) =
    absurd (all_testable s plan scheme all first wide)
one_of_forms s plan low one other (inr (x, first, wide, says)) (inr (y, again, also, said)) =
    let same = split_at_first-unique (IsTestable s) first.earlier again.earlier x y first.later again.later
    (sym first.list ∙ again.list) first.passed again.passed (λ narrow. narrow wide) (λ narrow. narrow also) in
    says ∙ ap (λ (z : Attributes). text_only Refused (too_wide_text (printed_names_of s) z)) same.1 ∙ sym said

pub one_list_of_forms : (s : Schema) (plan : List Attributes) → IsPlan (width_of s) plan → AllowsOne (ListsFormsOfPlan s plan)
one_list_of_forms s plan valid = one_of_forms s plan valid.within

pub one_form_of_all : (s : Schema) → AllowsOne (ListsFormOfAll s)
one_form_of_all s =
    one_of_forms s (universe_of s ∷ [])
    (All-cons (λ (x : Attributes). IsSubset x (below (width_of s))) (universe_of s) [] (λ k member. member)
    (All-nil (λ (x : Attributes). IsSubset x (below (width_of s)))))
