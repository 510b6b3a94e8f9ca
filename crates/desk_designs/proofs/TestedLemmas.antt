-- The schemes that were tested, and the lines of what was found of each.
use Rattle.std.proofs.Common.{◌≡◌, ◌+◌, ◌<◌, ℕ, List, [], ◌∷◌, ◌++◌, length, get_or, take, refl, sym, ap, subst, ◌∙◌, inl, inr, append_assoc, append-nil}
use Rattle.std.proofs.lemmas.Bool.{true≢false}
use Rattle.std.proofs.lemmas.List.{map-append, take_more}
use Rattle.std.proofs.lemmas.List.Elements.{All-nil, All-cons, All-head, All-tail, All-map}
use Rattle.std.specs.Prelude.{Option, Some, None, All}
use Rattle.attr_sets.specs.Attributes.{Attributes}
use Rattle.attr_sets.specs.declared.set.AttrSet.{AttrSet}
use Rattle.attr_sets.specs.Sets.{attributes}
use Rattle.dep_model.specs.Plans.{schemes_of}
use Rattle.schema_model.specs.Schemas.{width_of, theory_of}
use Rattle.schema_model.specs.Schemas.{Schema}
use Rattle.schema_printer.specs.Spelling.{printed_names_of}
use Rattle.dep_model.specs.declared.form.Form.TheVariants.{Third, Bcnf, Fourth}
use Rattle.normal_forms.specs.declared.forms.Breach.{Breach}
use Rattle.which_form.specs.declared.forms.TestedForm.{TestedForm}
use Rattle.which_form.specs.declared.forms.TestedForm.TheVariants.{Second, Higher}
use Rattle.which_form.specs.declared.forms.SchemeForms.{SchemeForms}
use Rattle.which_form.specs.Verdicts.{AreVerdicts, IsLastForm, IsVerdict}
use Rattle.desk_designs.specs.declared.forms.TestedScheme.{TestedScheme}
use Rattle.desk_designs.specs.FormsOfSchemes.{ArePlanTexts, IsSchemeText, IsTestable, IsViolationText, form_line}
use Rattle.desk_designs.specs.TestedSchemes.{IsTestedScheme, breach_text, breaches_text, schemes_tested, tested_scheme}
use Rattle.desk_responses.specs.ResponseValues.{IsFirstFailing}
use Rattle.desk_responses.proofs.FormLemmas.{first_failing}

-- the line of a violation stands where the scheme is not in the form
breach_is_text : (s : Schema) (scheme : Attributes) (form : TestedForm) (found : Option Breach)
    → IsVerdict (width_of s) (theory_of s) scheme form found → IsViolationText s scheme form (breach_text (printed_names_of s) form found)
breach_is_text s scheme form None verdict = inl (verdict.none.0 refl, refl)
breach_is_text s scheme form (Some breach) verdict =
    inr ((λ formed. true≢false (verdict.none.1 formed)), (attributes breach.lhs, attributes breach.rhs, verdict.named, refl))

-- one text and four, one after the other
appended : (a b c d e : List ℕ) → a ++ (b ++ c ++ d ++ e) ≡ a ++ b ++ c ++ d ++ e
appended a b c d e =
    sym (append_assoc a (b ++ c ++ d) e)
    ∙ ap (λ (t : List ℕ). t ++ e) (sym (append_assoc a (b ++ c) d) ∙ ap (λ (t : List ℕ). t ++ d) (sym (append_assoc a b c)))

pub scheme_text : (s : Schema) (scheme : Attributes) (forms : SchemeForms) (last : Option TestedForm) (text : List ℕ)
    → AreVerdicts (width_of s) (theory_of s) scheme forms → IsLastForm (width_of s) (theory_of s) scheme last
    → text ≡ form_line (printed_names_of s) scheme last ++ breaches_text (printed_names_of s) forms → IsSchemeText s scheme text
scheme_text s scheme forms last text are is_last is =
    let names = printed_names_of s in
    record {
      last = last;
      second = breach_text names Second forms.second;
      third = breach_text names (Higher Third) forms.third;
      bcnf = breach_text names (Higher Bcnf) forms.bcnf;
      fourth = breach_text names (Higher Fourth) forms.fourth;
      is_last = is_last;
      of_second = breach_is_text s scheme Second forms.second are.second;
      of_third = breach_is_text s scheme (Higher Third) forms.third are.third;
      of_bcnf = breach_is_text s scheme (Higher Bcnf) forms.bcnf are.bcnf;
      of_fourth = breach_is_text s scheme (Higher Fourth) forms.fourth are.fourth;
      is = is ∙ appended (form_line names scheme last) (breach_text names Second forms.second) (breach_text names (Higher Third) forms.third)
          (breach_text names (Higher Bcnf) forms.bcnf) (breach_text names (Higher Fourth) forms.fourth);
    }

-- the lines of one scheme more
plan_texts_more : (s : Schema) (plan : List Attributes) (scheme : Attributes) (text one : List ℕ) → ArePlanTexts s plan text → IsSchemeText s scheme one
    → ArePlanTexts s (plan ++ scheme ∷ []) (text ++ one)
plan_texts_more s [] scheme text one empty is =
    (one, [], is, refl, ap (λ (t : List ℕ). t ++ one) empty ∙ sym (append-nil one))
plan_texts_more s (x ∷ plan) scheme text one (front, back, first, rest, whole) is = (
  front,
  back ++ one,
  first,
  plan_texts_more s plan scheme back one rest is,
  ap (λ (t : List ℕ). t ++ one) whole ∙ append_assoc front back one,
)

pub listed_more : (s : Schema) (found : List TestedScheme) (i : ℕ) (d : TestedScheme) (text one next : List ℕ) → i < length found
    → ArePlanTexts s (schemes_tested (take i found)) text → IsSchemeText s (attributes (get_or found i d).scheme) one → next ≡ text ++ one
    → ArePlanTexts s (schemes_tested (take (i + 1) found)) next
listed_more s found i d text one next short so_far is added =
    let x = get_or found i d in
    let list : schemes_tested (take (i + 1) found) ≡ schemes_tested (take i found) ++ attributes x.scheme ∷ [] =
    ap schemes_tested (take_more found i d short) ∙ map-append (λ (tested : TestedScheme). attributes tested.scheme) (take i found) (x ∷ []) in
    subst (λ (plan : List Attributes). ArePlanTexts s plan next) (sym list)
    (subst (λ (t : List ℕ). ArePlanTexts s (schemes_tested (take i found) ++ attributes x.scheme ∷ []) t) (sym added)
    (plan_texts_more s (schemes_tested (take i found)) (attributes x.scheme) text one so_far is))

-- the schemes that were tested are narrow enough
pub tested_testable : (s : Schema) (found : List TestedScheme) → All (IsTestedScheme s) found → All (IsTestable s) (schemes_tested found)
tested_testable s found all =
    All-map (IsTestable s) (λ (tested : TestedScheme). attributes tested.scheme) found (λ k d short. (all k d short).testable)

-- ---- the schemes that were tested, up to a position
pub one_more_tested : (found : List TestedScheme) (schemes : List AttrSet) (i : ℕ) (d : AttrSet) (forms : SchemeForms) → i < length schemes
    → schemes_tested found ≡ schemes_of (take i schemes)
    → schemes_tested (found ++ tested_scheme (get_or schemes i d) forms ∷ []) ≡ schemes_of (take (i + 1) schemes)
one_more_tested found schemes i d forms short list =
    let x = get_or schemes i d in
    map-append (λ (tested : TestedScheme). attributes tested.scheme) found (tested_scheme x forms ∷ [])
    ∙ ap (λ (l : List Attributes). l ++ attributes x ∷ []) list
    ∙ sym (ap schemes_of (take_more schemes i d short) ∙ map-append attributes (take i schemes) (x ∷ []))

-- a fact of sets, of the sets of a list
all_of_map : (P : Attributes → Type 0) (schemes : List AttrSet) → All P (schemes_of schemes) → All (λ scheme. P (attributes scheme)) schemes
all_of_map P [] all = All-nil (λ (scheme : AttrSet). P (attributes scheme))
all_of_map P (x ∷ schemes) all =
    All-cons (λ (scheme : AttrSet). P (attributes scheme)) x schemes (All-head P (attributes x) (schemes_of schemes) all)
    (all_of_map P schemes (All-tail P (attributes x) (schemes_of schemes) all))

-- the next one is the first that fails, where it is too wide
pub first_wide : (s : Schema) (found : List TestedScheme) (schemes : List AttrSet) (i : ℕ) (d : AttrSet) → i < length schemes
    → All (IsTestedScheme s) found → schemes_tested found ≡ schemes_of (take i schemes)
    → IsFirstFailing (IsTestable s) (schemes_of schemes) (attributes (get_or schemes i d))
first_wide s found schemes i d short all list =
    first_failing (IsTestable s) schemes i d short (all_of_map (IsTestable s) (take i schemes)
    (subst (λ (l : List Attributes). All (IsTestable s) l) list (tested_testable s found all)))

-- the only scheme of a plan is the first that fails
pub alone_fails : (P : Attributes → Type 0) (scheme : Attributes) → IsFirstFailing P (scheme ∷ []) scheme
alone_fails P scheme = record { earlier = []; later = []; list = refl; passed = All-nil P }
