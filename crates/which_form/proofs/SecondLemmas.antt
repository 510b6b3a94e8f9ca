-- Second form: third form gives it, what is named violates it, and there is one such violation.
use Rattle.std.proofs.Common.{◌≡◌, ℕ, ◌<◌, List, refl, sym, ap, subst, ◌∙◌, ⊎_elim}
use Rattle.std.proofs.lemmas.Bool.{cases_order}
use Rattle.std.specs.Prelude.{Option, Some, None, IsNone, IfSome}
use Rattle.attr_sets.specs.Attributes.{Attributes, below, only, IsSubset, IsBefore}
use Rattle.attr_sets.specs.Sets.{attributes}
use Rattle.attr_sets.proofs.OrderLemmas.{tell_before}
use Rattle.dep_model.specs.Dependencies.{Dependency, functional_part}
use Rattle.dep_model.specs.Forms.{IsThird}
use Rattle.dep_model.specs.Keys.{IsSuperkey}
use Rattle.dep_model.specs.declared.form.Form.TheVariants.{Third, Bcnf, Fourth}
use Rattle.normal_forms.specs.declared.forms.Breach.{Breach}
use Rattle.normal_forms.proofs.ViolationLemmas.{not_in_form}
use Rattle.normal_forms.proofs.UniqueLemmas.{one_chosen}
use Rattle.which_form.specs.declared.forms.TestedForm.{TestedForm}
use Rattle.which_form.specs.declared.forms.TestedForm.TheVariants.{Second, Higher}
use Rattle.which_form.specs.SecondForm.{IsProperPart, IsSecond, ViolatesSecond, IsFirstInSecond}
use Rattle.which_form.specs.Tested.{IsInTested, IsNamedViolation}
use Rattle.which_form.specs.Verdicts.{IsLastForm}

-- a proper part of a key is no superkey
pub proper_no_superkey : (n : ℕ) (ds : List Dependency) (scheme x : Attributes) → IsProperPart n ds scheme x → IsSuperkey n ds scheme x → ⊥
proper_no_superkey n ds scheme x part superkey = part.3 (part.1.minimal x part.2 superkey)

pub third_second : (n : ℕ) (ds : List Dependency) (scheme : Attributes) → IsThird n ds scheme → IsSecond n ds scheme
third_second n ds scheme third x a part on out =
    ⊎_elim
    (λ superkey. absurd (proper_no_superkey n (functional_part ds) scheme x part superkey))
    (λ prime. prime)
    (third x a on out)

-- ---- what is named
pub violates_not_second : (n : ℕ) (ds : List Dependency) (scheme x y : Attributes) → ViolatesSecond n (functional_part ds) scheme x y
    → IsSecond n ds scheme → ⊥
violates_not_second n ds scheme x y v second =
    v.determined.1 (second x v.attribute v.part v.determined.0.0 v.determined.0.1)

pub named_not_in_form : (n : ℕ) (ds : List Dependency) (form : TestedForm) (scheme x y : Attributes) → IsSubset scheme (below n)
    → IsNamedViolation n ds form scheme x y → IsInTested n ds form scheme → ⊥
named_not_in_form n ds Second scheme x y low named second = violates_not_second n ds scheme x y named.violates second
named_not_in_form n ds (Higher form) scheme x y low named formed = not_in_form n ds form scheme x y low named.violates formed

-- nothing is found where the scheme is in the form
pub none_in_second : (n : ℕ) (ds : List Dependency) (scheme : Attributes) (found : Option Breach)
    → IfSome found (λ breach. IsFirstInSecond n (functional_part ds) scheme (attributes breach.lhs) (attributes breach.rhs))
    → IsSecond n ds scheme → IsNone found
none_in_second n ds scheme None named second = refl
none_in_second n ds scheme (Some breach) named second =
    absurd (violates_not_second n ds scheme (attributes breach.lhs) (attributes breach.rhs) named.violates second)

-- ---- one violation
one_attribute : (n : ℕ) (ds : List Dependency) (scheme x y w : Attributes) (one : ViolatesSecond n ds scheme x y) (other : ViolatesSecond n ds scheme x w)
    → one.attribute ≡ other.attribute
one_attribute n ds scheme x y w one other =
    ⊎_elim
    (λ (same : one.attribute ≡ other.attribute). same)
    (⊎_elim
    (λ (less : one.attribute < other.attribute). absurd (other.least one.attribute less one.determined))
    (λ (more : other.attribute < one.attribute). absurd (one.least other.attribute more other.determined)))
    (cases_order one.attribute other.attribute)

one_right : (n : ℕ) (ds : List Dependency) (scheme x v y w : Attributes) → x ≡ v → ViolatesSecond n ds scheme x y → ViolatesSecond n ds scheme v w
    → y ≡ w
one_right n ds scheme x v y w same one other =
    let here : ViolatesSecond n ds scheme x w = subst (λ (u : Attributes). ViolatesSecond n ds scheme u w) (sym same) other in
    one.right ∙ ap only (one_attribute n ds scheme x y w one here) ∙ sym here.right

one_first : (n : ℕ) (ds : List Dependency) (scheme x y v w : Attributes) → IsSubset scheme (below n)
    → IsFirstInSecond n ds scheme x y → IsFirstInSecond n ds scheme v w → (x ≡ v) × (y ≡ w)
one_first n ds scheme x y v w low one other =
    ⊎_elim
    (λ (same : x ≡ v). (same, one_right n ds scheme x v y w same one.violates other.violates))
    (⊎_elim
    (λ (before : IsBefore x v). absurd (other.first x y before one.violates))
    (λ (after : IsBefore v x). absurd (one.first v w after other.violates)))
    (tell_before n x v (λ k m. low k (one.within k m)) (λ k m. low k (other.within k m)))

pub one_named : (n : ℕ) (ds : List Dependency) (form : TestedForm) (scheme x y v w : Attributes) → IsSubset scheme (below n)
    → IsNamedViolation n ds form scheme x y → IsNamedViolation n ds form scheme v w → (x ≡ v) × (y ≡ w)
one_named n ds Second scheme x y v w low one other = one_first n (functional_part ds) scheme x y v w low one other
one_named n ds (Higher form) scheme x y v w low one other = one_chosen n ds form scheme x y v w low one other

-- ---- one last form
-- of two forms each is the last, with all before it
pub one_last : (n : ℕ) (ds : List Dependency) (scheme : Attributes) (one other : Option TestedForm)
    → IsLastForm n ds scheme one → IsLastForm n ds scheme other → one ≡ other
one_last n ds scheme None None is has = refl
one_last n ds scheme None (Some Second) is has = absurd (is has.0)
one_last n ds scheme None (Some (Higher Third)) is has = absurd (is has.0)
one_last n ds scheme None (Some (Higher Bcnf)) is has = absurd (is has.0)
one_last n ds scheme None (Some (Higher Fourth)) is has = absurd (is has.0)
one_last n ds scheme (Some Second) None is has = absurd (has is.0)
one_last n ds scheme (Some Second) (Some Second) is has = refl
one_last n ds scheme (Some Second) (Some (Higher Third)) is has = absurd (is.1 has.1)
one_last n ds scheme (Some Second) (Some (Higher Bcnf)) is has = absurd (is.1 has.1)
one_last n ds scheme (Some Second) (Some (Higher Fourth)) is has = absurd (is.1 has.1)
one_last n ds scheme (Some (Higher Third)) None is has = absurd (has is.0)
one_last n ds scheme (Some (Higher Third)) (Some Second) is has = absurd (has.1 is.1)
one_last n ds scheme (Some (Higher Third)) (Some (Higher Third)) is has = refl
one_last n ds scheme (Some (Higher Third)) (Some (Higher Bcnf)) is has = absurd (is.2 has.2)
one_last n ds scheme (Some (Higher Third)) (Some (Higher Fourth)) is has = absurd (is.2 has.2)
one_last n ds scheme (Some (Higher Bcnf)) None is has = absurd (has is.0)
one_last n ds scheme (Some (Higher Bcnf)) (Some Second) is has = absurd (has.1 is.1)
one_last n ds scheme (Some (Higher Bcnf)) (Some (Higher Third)) is has = absurd (has.2 is.2)
one_last n ds scheme (Some (Higher Bcnf)) (Some (Higher Bcnf)) is has = refl
one_last n ds scheme (Some (Higher Bcnf)) (Some (Higher Fourth)) is has = absurd (is.3 has.3)
one_last n ds scheme (Some (Higher Fourth)) None is has = absurd (has is.0)
one_last n ds scheme (Some (Higher Fourth)) (Some Second) is has = absurd (has.1 is.1)
one_last n ds scheme (Some (Higher Fourth)) (Some (Higher Third)) is has = absurd (has.2 is.2)
one_last n ds scheme (Some (Higher Fourth)) (Some (Higher Bcnf)) is has = absurd (has.3 is.3)
one_last n ds scheme (Some (Higher Fourth)) (Some (Higher Fourth)) is has = refl
