-- A scheme has one chosen violation at most, and one visible violation.
use Rattle.std.proofs.Common.{◌≡◌, ℕ, ◌<◌, true, List, length, get_or, take, sym, ap, subst, ◌∙◌, ⊎_elim, arith}
use Rattle.std.proofs.lemmas.Bool.{cases_order, true≢false}
use Rattle.std.proofs.lemmas.List.{get_or-take, length-take}
use Rattle.std.proofs.lemmas.Option.{get_or_from_slice_get, slice_get_within}
use Rattle.attr_sets.specs.Attributes.{Attributes, below, only, difference, IsSubset}
use Rattle.attr_sets.proofs.AttributesLemmas.{same_from_within, tell_least}
use Rattle.attr_sets.proofs.OrderLemmas.{tell_before}
use Rattle.dep_model.specs.Dependencies.{Dependency, left_of, functional_part}
use Rattle.dep_model.proofs.PartLemmas.{parts_same}
use Rattle.dep_model.specs.declared.form.Form.{Form}
use Rattle.dep_model.specs.declared.form.Form.TheVariants.{Third, Bcnf, Fourth}
use Rattle.normal_forms.specs.Violations.{ViolatesThird, ViolatesFourth, Violates}
use Rattle.normal_forms.specs.Chosen.{IsNoViolation, IsChosenViolation, IsVisibleViolation}
use Rattle.normal_forms.proofs.ViolationLemmas.{bcnf_left_in, part_attribute}

-- ---- the right side of a left side
third_right : (n : ℕ) (ds : List Dependency) (scheme x y w : Attributes) → ViolatesThird n ds scheme x y → ViolatesThird n ds scheme x w → y ≡ w
third_right n ds scheme x y w one other =
    let same : one.attribute ≡ other.attribute =
    ⊎_elim (λ same. same)
    (⊎_elim
    (λ less. absurd (other.least one.attribute less one.determined))
    (λ more. absurd (one.least other.attribute more other.determined)))
    (cases_order one.attribute other.attribute) in
    one.right ∙ ap only same ∙ sym other.right

fourth_right : (n : ℕ) (ds : List Dependency) (scheme x y w : Attributes) → IsSubset scheme (below n) → ViolatesFourth n ds scheme x y → ViolatesFourth n ds scheme x w → y ≡ w
fourth_right n ds scheme x y w low one other =
    ⊎_elim
    (λ least. parts_same n ds scheme x y w one.part other.part (least.0, one.first least.0 least.2, other.first least.0 least.2))
    (λ nothing.
    let k = part_attribute n ds scheme x y low one.part in
    let member : difference scheme x k.0 ≡ true = grind (arith, one.part.implied.within.1 k.0 k.1, one.part.outside k.0 k.1) in
    absurd (true≢false (sym member ∙ nothing k.0 (omega arith))))
    (tell_least n (difference scheme x) 0 (λ k m. low k (grind (arith, m))))

same_right : (n : ℕ) (ds : List Dependency) (form : Form) (scheme x y w : Attributes) → IsSubset scheme (below n) → Violates n ds form scheme x y → Violates n ds form scheme x w → y ≡ w
same_right n ds Third scheme x y w low one other = third_right n (functional_part ds) scheme x y w one other
same_right n ds Bcnf scheme x y w low one other =
    same_from_within y w (λ k m. (other.right k).1 ((one.right k).0 m)) (λ k m. (one.right k).1 ((other.right k).0 m))
same_right n ds Fourth scheme x y w low one other = fourth_right n ds scheme x y w low one other

-- the left side lies within the scheme
pub violates_in : (n : ℕ) (ds : List Dependency) (form : Form) (scheme x y : Attributes) → IsSubset scheme (below n) → Violates n ds form scheme x y → IsSubset x scheme
violates_in n ds Third scheme x y low v = v.determined.0.0.within.0
violates_in n ds Bcnf scheme x y low v = bcnf_left_in n ds scheme x y low v
violates_in n ds Fourth scheme x y low v = v.part.implied.within.0

-- ---- one violation
both_same : (n : ℕ) (ds : List Dependency) (form : Form) (scheme x y v w : Attributes) → IsSubset scheme (below n) → x ≡ v → Violates n ds form scheme x y → Violates n ds form scheme v w → (x ≡ v) × (y ≡ w)
both_same n ds form scheme x y v w low same one other =
    (same, same_right n ds form scheme x y w low one (subst (λ (u : Attributes). Violates n ds form scheme u w) (sym same) other))

pub one_chosen : (n : ℕ) (ds : List Dependency) (form : Form) (scheme x y v w : Attributes) → IsSubset scheme (below n)
    → IsChosenViolation n ds form scheme x y → IsChosenViolation n ds form scheme v w → (x ≡ v) × (y ≡ w)
one_chosen n ds form scheme x y v w low one other =
    ⊎_elim
    (λ same. both_same n ds form scheme x y v w low same one.violates other.violates)
    (⊎_elim
    (λ before. absurd (other.first x y before one.violates))
    (λ after. absurd (one.first v w after other.violates)))
    (tell_before n x v (λ k m. low k (one.within k m)) (λ k m. low k (other.within k m)))

-- a violation that stands before the first one
no_earlier_violation : (n : ℕ) (ds : List Dependency) (form : Form) (scheme x y v w : Attributes) (one : IsVisibleViolation n ds form scheme x y) (other : IsVisibleViolation n ds form scheme v w)
    → one.position < other.position → ⊥
no_earlier_violation n ds form scheme x y v w one other less =
    let i = one.position in
    let d = one.given in
    let short : i < length (take other.position ds) = omega (arith, less, length-take other.position ds, slice_get_within ds i d one.stands, slice_get_within ds other.position other.given other.stands) in
    let is : get_or (take other.position ds) i d ≡ d = get_or-take other.position ds i d less ∙ get_or_from_slice_get ds i d d one.stands in
    let no_violation : IsNoViolation n ds form scheme d = subst (λ (e : Dependency). IsNoViolation n ds form scheme e) is (other.first i d short) in
    no_violation y (subst (λ (u : Attributes). Violates n ds form scheme u y) one.left one.violates)

pub one_visible : (n : ℕ) (ds : List Dependency) (form : Form) (scheme x y v w : Attributes) → IsSubset scheme (below n)
    → IsVisibleViolation n ds form scheme x y → IsVisibleViolation n ds form scheme v w → (x ≡ v) × (y ≡ w)
one_visible n ds form scheme x y v w low one other =
    ⊎_elim
    (λ (same : one.position ≡ other.position).
    let given : one.given ≡ other.given = sym (get_or_from_slice_get ds one.position one.given one.given one.stands)
    ∙ ap (λ (i : ℕ). get_or ds i one.given) same ∙ get_or_from_slice_get ds other.position other.given one.given other.stands in
    both_same n ds form scheme x y v w low (one.left ∙ ap left_of given ∙ sym other.left) one.violates other.violates)
    (⊎_elim
    (λ less. absurd (no_earlier_violation n ds form scheme x y v w one other less))
    (λ more. absurd (no_earlier_violation n ds form scheme v w x y other one more)))
    (cases_order one.position other.position)
