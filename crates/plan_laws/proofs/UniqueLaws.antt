-- The plan of a split is one, and so are the answers of `check form`, `check join` and `check keeps`.
use Rattle.std.proofs.Common.{◌≡◌, ◌+◌, ◌||◌, ◌&&◌, ◌++◌, ℕ, Bool, not, if◌then◌else◌, List, [], ◌∷◌, map, refl, sym, ap, subst, ◌∙◌, inl, inr}
use mathlib.Core.Path.{fun_ext}
use Rattle.std.specs.Prelude.{codes, All, Contains}
use Rattle.std.proofs.lemmas.List.Elements.{All-contains, Contains-append_right}
use Rattle.std.specs.List.{AllZip, list_any, flat_map}
use Rattle.std.proofs.lemmas.Bool.{cases_Bool}
use Rattle.std.proofs.lemmas.List.{map-append}
use Rattle.attr_sets.specs.Attributes.{Attributes, below, IsSubset}
use Rattle.attr_sets.specs.Sets.{attributes, is_subset}
use Rattle.attr_sets.specs.declared.set.AttrSet.{AttrSet}
use Rattle.attr_sets.proofs.AttributesLemmas.{same_truth}
use Rattle.csv_text.specs.Rows.{rows_text}
use Rattle.chase_laws.proofs.UniqueLemmas.{closed_unique}
use Rattle.dep_model.specs.Dependencies.{Dependency, fd, mvd, functional_part}
use Rattle.dep_model.specs.Plans.{IsPlan, schemes_of}
use Rattle.schema_model.specs.Schemas.{names_of, width_of, theory_of}
use Rattle.dep_model.specs.Tuples.{Relation}
use Rattle.dep_model.specs.TwoTuples.{two_tuples}
use Rattle.schema_model.specs.Schemas.{Schema}
use Rattle.dep_model.proofs.ListLemmas.{Contains-head}
use Rattle.dep_model.specs.declared.form.Form.{Form}
use Rattle.dep_model.specs.declared.form.Form.TheVariants.{Third}
use Rattle.which_form.specs.declared.forms.TestedForm.{TestedForm}
use Rattle.which_form.proofs.SecondLemmas.{named_not_in_form, one_named}
use Rattle.primary_keys.proofs.PrimaryLemmas.{one_primary}
use Rattle.plans.specs.Containing.{is_contained, without_contained_after, without_contained}
use Rattle.preservation.specs.Keeping.{IsPreserved, IsLostOn, LossesFrom}
use Rattle.preservation.specs.declared.losing.Loss.{Loss}
use Rattle.schema_printer.specs.Spelling.{printed_names_of}
use Rattle.synthesis_3nf.specs.Groups.{schemes_of_groups}
use Rattle.synthesis_3nf.specs.GroupedPlans.{AreSynthesisSteps, IsWithKey, IsGroupedPlan}
use Rattle.split_forms.proofs.StepLemmas.{split_at_first-unique}
use Rattle.split_forms.proofs.SplitLemmas.{one_finished}
use Rattle.wide_bcnf.proofs.OneSplit.{one_split}
use Rattle.implication_laws.proofs.OneCover.{one_cover}
use Rattle.implication_laws.proofs.StepLaws.{Unless-one}
use Rattle.desk_responses.specs.declared.status.Status.TheVariants.{Yes, No}
use Rattle.desk_responses.specs.ResponseValues.{ResponseValue, Says, text_only, IsFirstFailing}
use Rattle.desk_designs.specs.declared.join.TheConstants.{MOST_TABLEAU_ROWS}
use Rattle.desk_designs.specs.Decompositions.{IsSplitInForm, IsWideSplit}
use Rattle.desk_designs.specs.Joins.{IsShownLossless, JudgesJoin, LossStops, lossless_text, lossy_text}
use Rattle.desk_texts.specs.Texts.{line}
use Rattle.desk_designs.specs.NormalForms.{JudgesForm, EndsForm, PassesForm, violated_text}
use Rattle.desk_designs.specs.Keeping.{JudgesKeeping, loss_text, two_tuples_text}
use Rattle.typed_rows.specs.Shown.{shown_tuples}

-- ---- what is kept of a list rests on its sets alone
any_map : {X Y : Type 0} (f : X → Y) (p : Y → Bool) (xs : List X) → list_any (λ x. p (f x)) xs ≡ list_any p (map f xs)
any_map f p [] = refl
any_map f p (x ∷ xs) = ap (λ (b : Bool). p (f x) || b) (any_map f p xs)

-- whether a set is contained, of sets of attributes
pub contained : List Attributes → Attributes → List Attributes → Bool
contained earlier x later =
    list_any (λ y. is_subset x y) earlier || list_any (λ y. is_subset x y && not (is_subset y x)) later

pub contained_is : (earlier later : List AttrSet) (x : AttrSet)
    → is_contained earlier x later ≡ contained (schemes_of earlier) (attributes x) (schemes_of later)
unfolding contained
contained_is earlier later x =
    let near = any_map attributes (λ y. is_subset (attributes x) y) earlier in
    let far = any_map attributes (λ y. is_subset (attributes x) y && not (is_subset y (attributes x))) later in
    ap (λ (b : Bool). b || list_any (λ y. is_subset (attributes x) (attributes y) && not
    (is_subset (attributes y) (attributes x))) later) near
    ∙ ap (λ (b : Bool). list_any (λ y. is_subset (attributes x) y) (schemes_of earlier) || b) far

pub kept_after : List Attributes → List Attributes → List Attributes
kept_after earlier [] = []
kept_after earlier (x ∷ later) =
    if contained earlier x later then kept_after (earlier ++ x ∷ []) later
    else x ∷ kept_after (earlier ++ x ∷ []) later

pub kept_is : (earlier later : List AttrSet)
    → schemes_of (without_contained_after earlier later) ≡ kept_after (schemes_of earlier) (schemes_of later)
unfolding kept_after
kept_is earlier [] = refl
kept_is earlier (x ∷ later) =
    let rest = without_contained_after (earlier ++ x ∷ []) later in
    let those = kept_after (schemes_of earlier ++ attributes x ∷ []) (schemes_of later) in
    let same : schemes_of rest ≡ those =
    kept_is (earlier ++ x ∷ []) later
    ∙ ap (λ (l : List Attributes). kept_after l (schemes_of later)) (map-append attributes earlier (x ∷ [])) in
    let tests = contained_is earlier later x in
    ap (λ (b : Bool). schemes_of (if b then rest else (x ∷ rest))) tests
    ∙ (elim (cases_Bool (contained (schemes_of earlier) (attributes x) (schemes_of later))) [
      | inl spare ↦
          subst (λ (b : Bool). schemes_of (if b then rest else (x ∷ rest)) ≡ (if b then those else
          (attributes x ∷ those))) (sym spare) same
      | inr kept ↦
          subst (λ (b : Bool). schemes_of (if b then rest else (x ∷ rest)) ≡ (if b then those else
          (attributes x ∷ those))) (sym kept)
          (ap (λ (l : List Attributes). attributes x ∷ l) same)
    ])

pub kept_same : (all others plan other : List AttrSet) → plan ≡ without_contained all → other ≡ without_contained others
    → schemes_of all ≡ schemes_of others → schemes_of plan ≡ schemes_of other
kept_same all others plan other kept also same =
    ap schemes_of kept ∙ kept_is [] all ∙ ap (λ (l : List Attributes). kept_after [] l) same ∙ sym (kept_is [] others)
    ∙ sym (ap schemes_of also)

pub split_same : (s : Schema) (form : Form) (plan other : List AttrSet) → (form ≡ Third → ⊥) → IsSplitInForm s form plan
    → IsSplitInForm s form other → schemes_of plan ≡ schemes_of other
split_same s form plan other not_third one two =
    kept_same one.split.all two.split.all plan other one.split.kept two.split.kept
    (one_finished (width_of s) (theory_of s) form s.valid.names_not_empty not_third (schemes_of one.split.all)
    (schemes_of two.split.all) one.split.finished two.split.finished)

pub wide_split_same : (s : Schema) (plan other : List AttrSet) → IsWideSplit s plan → IsWideSplit s other
    → schemes_of plan ≡ schemes_of other
wide_split_same s plan other one two =
    kept_same one.split.all two.split.all plan other one.split.kept two.split.kept
    (one_split (width_of s) (theory_of s) (below (width_of s)) (schemes_of one.split.all) (schemes_of two.split.all)
    one.split.split two.split.split)

-- ---- the plan of third form
pub with_key_same : (n : ℕ) (ds : List Dependency) (nullable : Attributes) (schemes one other : List Attributes)
    → IsWithKey n ds nullable schemes one → IsWithKey n ds nullable schemes other → one ≡ other
with_key_same n ds nullable schemes one other (inl (held, first)) (inl (also, second)) = first ∙ sym second
with_key_same n ds nullable schemes one other (inl (held, first)) (inr second) = absurd (second.none held)
with_key_same n ds nullable schemes one other (inr first) (inl (held, second)) = absurd (first.none held)
with_key_same n ds nullable schemes one other (inr first) (inr second) =
    first.last
    ∙ ap (λ (key : Attributes). schemes ++ key ∷ [])
    (one_primary n (functional_part ds) nullable (below n) first.key second.key (λ k member. member) first.primary
    second.primary)
    ∙ sym second.last

-- a synthesis comes about in one way
pub steps_same : (n : ℕ) (ds : List Dependency) (nullable : Attributes) (cover others : List Dependency)
    (one other : List Attributes) → AreSynthesisSteps n ds nullable cover one
    → AreSynthesisSteps n ds nullable others other → (cover ≡ others) × (one ≡ other)
steps_same n ds nullable cover others one other first second =
    let covers : cover ≡ others = one_cover n ds cover others first.fixed second.fixed in (
      covers,
      with_key_same n ds nullable (schemes_of_groups others) one other
          (subst (λ (es : List Dependency). IsWithKey n ds nullable (schemes_of_groups es) one) covers first.completed)
          second.completed,
    )

pub grouped_same : (n : ℕ) (ds : List Dependency) (nullable : Attributes) (plan other : List AttrSet)
    → IsGroupedPlan n ds nullable plan → IsGroupedPlan n ds nullable other → schemes_of plan ≡ schemes_of other
grouped_same n ds nullable plan other one two =
    kept_same one.all two.all plan other one.kept two.kept
    (steps_same n ds nullable one.cover two.cover (schemes_of one.all) (schemes_of two.all) one.steps two.steps).1

-- ---- `check join`
pub one_loss_stop : (s : Schema) (plan : List Attributes) (one other : ResponseValue) → LossStops s plan one
    → LossStops s plan other → one ≡ other
one_loss_stop s plan one other (inl (fits, lossy, found)) (inl (fits', lossy', found')) =
    let same =
    closed_unique (width_of s) (theory_of s) plan MOST_TABLEAU_ROWS found.0 found'.0 found.1.closed found'.1.closed in
    found.2 ∙ ap (λ (rows : Relation). text_only No (lossy_text s rows)) same ∙ sym found'.2
one_loss_stop s plan one other (inl (fits, lossy, found)) (inr (large, says)) = absurd (fits large)
one_loss_stop s plan one other (inr (large, says)) (inl (fits, lossy, found)) = absurd (fits large)
one_loss_stop s plan one other (inr (large, says)) (inr (large', says')) = says ∙ sym says'

pub loss_goes : (s : Schema) (plan : List Attributes) (response : ResponseValue) → IsShownLossless s plan
    → LossStops s plan response → ⊥
loss_goes s plan response shown (inl (fits, lossy, found)) = lossy shown.lossless
loss_goes s plan response shown (inr (large, says)) = shown.within_limit large

pub one_join : (s : Schema) (plan : List Attributes) (one other : ResponseValue) → JudgesJoin s plan one
    → JudgesJoin s plan other → one ≡ other
one_join s plan =
    Unless-one (LossStops s plan) (IsShownLossless s plan) (Says Yes lossless_text) (one_loss_stop s plan)
    (λ response shown stops. loss_goes s plan response shown stops) (λ shown one other says said. says ∙ sym said)

-- ---- losses
one_agreement : (n : ℕ) (ds : List Dependency) (plan : List Attributes) (d : Dependency) (a b : Attributes)
    → IsLostOn n ds plan d a → IsLostOn n ds plan d b → a ≡ b
one_agreement n ds plan (fd x y) a b one other = fun_ext (λ k.
    same_truth (a k) (b k) (λ m. (other.closure k).1 ((one.closure k).0 m))
    (λ m. (one.closure k).1 ((other.closure k).0 m)))
one_agreement n ds plan (mvd x y) a b one other = absurd one

kept_not_lost : (n : ℕ) (ds : List Dependency) (plan : List Attributes) (d : Dependency) (a : Attributes)
    → IsPreserved n ds plan d → IsLostOn n ds plan d a → ⊥
kept_not_lost n ds plan (fd x y) a kept lost = lost.shows.breaks (kept (two_tuples n a) lost.shows.inside)
kept_not_lost n ds plan (mvd x y) a kept lost = lost

-- two losses are of one dependency, and their tuples agree on the same attributes
record SameLoss (l m : Loss) : Type 0 where
  dep : l.dep ≡ m.dep
  agreement : attributes l.agreement ≡ attributes m.agreement

one_list : (n : ℕ) (ds : List Dependency) (plan : List Attributes) (k : ℕ) (rest : List Dependency) (ls ms : List Loss)
    → LossesFrom n ds plan k rest ls → LossesFrom n ds plan k rest ms → AllZip SameLoss ls ms
unfolding LossesFrom
one_list n ds plan k [] ls ms one other =
    subst (λ (l : List Loss). AllZip SameLoss l ms) (sym one)
    (subst (λ (m : List Loss). AllZip SameLoss [] m) (sym other) tt)
one_list n ds plan k (d ∷ rest) ls ms (inl one) (inl other) = one_list n ds plan (k + 1) rest ls ms one.1 other.1
one_list n ds plan k (d ∷ rest) ls ms (inl one) (inr (m, more, at, number, is, later)) =
    absurd (kept_not_lost n ds plan d (attributes m.agreement) one.0 is)
one_list n ds plan k (d ∷ rest) ls ms (inr (l, more, at, number, is, later)) (inl other) =
    absurd (kept_not_lost n ds plan d (attributes l.agreement) other.0 is)
one_list n ds plan k (d ∷ rest) ls ms (inr (l, more, at, number, is, later))
    (inr (m, more', at', number', is', later')) =
    let zipped : AllZip SameLoss (l ∷ more) (m ∷ more') = (
      record {
        dep = number ∙ sym number';
        agreement = one_agreement n ds plan d (attributes
            l.agreement) (attributes m.agreement) is is';
      },
      one_list n ds plan (k + 1) rest more more' later later',
    ) in
    subst (λ (x : List Loss). AllZip SameLoss x ms) (sym at)
    (subst (λ (x : List Loss). AllZip SameLoss (l ∷ more) x) (sym at') zipped)

same_text : (s : Schema) (ls ms : List Loss) → AllZip SameLoss ls ms
    → flat_map (loss_text s) ls ≡ flat_map (loss_text s) ms
same_text s [] [] each = refl
same_text s [] (m ∷ ms) each = absurd each
same_text s (l ∷ ls) [] each = absurd each
same_text s (l ∷ ls) (m ∷ ms) each =
    ap (λ (text : List ℕ). text ++ flat_map (loss_text s) ls) (one_text s l m each.0)
    ∙ ap (λ (text : List ℕ). loss_text s m ++ text) (same_text s ls ms each.1)
  where
    one_text : (s : Schema) (l m : Loss) → SameLoss l m → loss_text s l ≡ loss_text s m
    one_text s l m same = ap (λ (d : ℕ). loss_text s (record { dep = d; agreement = l.agreement })) same.dep

pub one_keeping : (s : Schema) (plan : List Attributes) (one other : ResponseValue) → JudgesKeeping s plan one
    → JudgesKeeping s plan other → one ≡ other
one_keeping s plan one other (inl (keeps, says)) (inl (keeps', says')) = says ∙ sym says'
one_keeping s plan one other (inl (keeps, says)) (inr (lost, found)) = absurd (lost keeps)
one_keeping s plan one other (inr (lost, found)) (inl (keeps, says)) = absurd (lost keeps)
one_keeping s plan one other (inr (lost, found)) (inr (lost', found')) =
    let same =
    one_list (width_of s) (theory_of s) plan 0 (theory_of s) (found.0 ∷ found.1) (found'.0 ∷ found'.1) found.2
    found'.2 in
    let tuples : two_tuples_text s found.0 ≡ two_tuples_text s found'.0 =
    ap (λ (x : Attributes). line (codes "shown by") ++ rows_text (names_of s) (shown_tuples s x))
    same.0.agreement in
    found.4
    ∙ ap (λ (text : List ℕ). text_only No (text ++ two_tuples_text s found.0))
    (same_text s (found.0 ∷ found.1) (found'.0 ∷ found'.1) same)
    ∙ ap (λ (text : List ℕ). text_only No (flat_map (loss_text s) (found'.0 ∷ found'.1) ++ text)) tuples
    ∙ sym found'.4

-- ---- `check form`
ends_fails : (s : Schema) (form : TestedForm) (scheme : Attributes) (response : ResponseValue)
    → IsSubset scheme (below (width_of s)) → EndsForm s form scheme response → PassesForm s form scheme → ⊥
ends_fails s form scheme response low (inl (wide, says)) passes = passes.narrow wide
ends_fails s form scheme response low (inr (narrow, found)) passes =
    named_not_in_form (width_of s) (theory_of s) form scheme found.0 found.1 low found.2 passes.in_form

one_end : (s : Schema) (form : TestedForm) (scheme : Attributes) (one other : ResponseValue)
    → IsSubset scheme (below (width_of s)) → EndsForm s form scheme one → EndsForm s form scheme other → one ≡ other
one_end s form scheme one other low (inl (wide, says)) (inl (wide', says')) = says ∙ sym says'
one_end s form scheme one other low (inl (wide, says)) (inr (narrow, found)) = absurd (narrow wide)
one_end s form scheme one other low (inr (narrow, found)) (inl (wide, says)) = absurd (narrow wide)
one_end s form scheme one other low (inr (narrow, found)) (inr (narrow', found')) =
    let same =
    one_named (width_of s) (theory_of s) form scheme found.0 found.1 found'.0 found'.1 low found.2 found'.2 in
    found.3
    ∙ ap (λ (x : Attributes). text_only No (violated_text (printed_names_of s) form scheme x found.1)) same.0
    ∙ ap (λ (y : Attributes). text_only No (violated_text (printed_names_of s) form scheme found'.0 y)) same.1
    ∙ sym found'.3

first_low : (n : ℕ) (P : Attributes → Type 0) (plan : List Attributes) (scheme : Attributes)
    → All (λ x. IsSubset x (below n)) plan → IsFirstFailing P plan scheme → IsSubset scheme (below n)
first_low n P plan scheme low first =
    All-contains (λ (x : Attributes). IsSubset x (below n)) plan scheme low
    (subst (λ (l : List Attributes). Contains l scheme) (sym first.list)
    (Contains-append_right first.earlier (scheme ∷ first.later) scheme (Contains-head scheme first.later)))

passed_fails : (s : Schema) (form : TestedForm) (plan : List Attributes) (scheme : Attributes) (response : ResponseValue)
    → All (λ x. IsSubset x (below (width_of s))) plan → All (PassesForm s form) plan
    → IsFirstFailing (PassesForm s form) plan scheme → EndsForm s form scheme response → ⊥
passed_fails s form plan scheme response low passed first ends =
    ends_fails s form scheme response (first_low (width_of s) (PassesForm s form) plan scheme low first) ends
    (All-contains (PassesForm s form) plan scheme passed
    (subst (λ (l : List Attributes). Contains l scheme) (sym first.list)
    (Contains-append_right first.earlier (scheme ∷ first.later) scheme (Contains-head scheme first.later))))

pub one_form : (s : Schema) (form : TestedForm) (plan : List Attributes) (one other : ResponseValue)
    → IsPlan (width_of s) plan
    → JudgesForm s form plan one → JudgesForm s form plan other → one ≡ other
one_form s form plan one other valid (inl (passed, says)) (inl (passed', says')) = says ∙ sym says'
one_form s form plan one other valid (inl (passed, says)) (inr (scheme, first, ends)) =
    absurd (passed_fails s form plan scheme other valid.within passed first ends)
one_form s form plan one other valid (inr (scheme, first, ends)) (inl (passed, says)) =
    absurd (passed_fails s form plan scheme one valid.within passed first ends)
one_form s form plan one other valid (inr (x, first, ends)) (inr (y, first', ends')) =
    let n = width_of s in
    let low = first_low n (PassesForm s form) plan x valid.within first in
    let also = first_low n (PassesForm s form) plan y valid.within first' in
    let same = split_at_first-unique (PassesForm s form) first.earlier first'.earlier x y first.later first'.later
    (sym first.list ∙ first'.list) first.passed first'.passed (ends_fails s form x one low ends)
    (ends_fails s form y other also ends') in
    one_end s form x one other low ends (subst (λ (z : Attributes). EndsForm s form z other) (sym same.1) ends')
