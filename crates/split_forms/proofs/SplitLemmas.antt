-- Splitting by violations: the reached lists are lossless and short, and they end in one way.
use Rattle.std.proofs.Common.{◌≡◌, ℕ, ◌-◌, ◌^◌, ◌≤◌, ◌<◌, List, ◌∷◌, ◌++◌, length, sym, ◌∙◌, subst, ⊎_elim, arith}
use Rattle.std.specs.Prelude.{All}
use Rattle.std.proofs.lemmas.Option.{get_or_from_slice_get, slice_get_within}
use Rattle.std.proofs.lemmas.List.Elements.{All-head}
use Rattle.attr_sets.specs.Attributes.{Attributes}
use Rattle.dep_model.specs.Dependencies.{Dependency}
use Rattle.dep_model.specs.Projections.{IsLossless}
use Rattle.dep_model.specs.declared.form.Form.{Form}
use Rattle.dep_model.specs.declared.form.Form.TheVariants.{Third}
use Rattle.normal_forms.specs.Violations.{Violates}
use Rattle.normal_forms.specs.Chosen.{IsNoViolation, HasNoVisibleViolation, IsVisibleViolation}
use Rattle.normal_forms.specs.Cuts.{IsCut}
use Rattle.split_forms.specs.Lists.{IsSplitStep, ReachedIn}
use Rattle.split_forms.specs.Splitting.{StaysWhole, IsCutBy, IsStuckScheme, ReachedList, FinishedList, IsStuckAt, IsTooWideAt, HasTooManySchemes}
use Rattle.normal_forms.proofs.UniqueLemmas.{one_chosen, one_visible}
use Rattle.normal_forms.proofs.ViolationLemmas.{violation_cut, not_in_form}
use Rattle.split_forms.proofs.SizeLemmas.{IsProper, All-append_right, reached_proper, reached_within_limit, reached_lossless}
use Rattle.split_forms.proofs.StepLemmas.{split_at_first-unique, one_successor, whole_is_last, stuck_is_last, last_reached, same_last, reached_length}

-- a given left side that violates the form is one of those of which none does
pub visible_is_some : (n : ℕ) (ds : List Dependency) (form : Form) (scheme x y : Attributes)
    → HasNoVisibleViolation n ds form scheme → IsVisibleViolation n ds form scheme x y → ⊥
visible_is_some n ds form scheme x y none visible =
    let no_violation : IsNoViolation n ds form scheme visible.given =
    subst (IsNoViolation n ds form scheme)
    (get_or_from_slice_get ds visible.position visible.given visible.given visible.stands)
    (none visible.position visible.given (slice_get_within ds visible.position visible.given visible.stands)) in
    no_violation y (subst (λ (z : Attributes). Violates n ds form scheme z y)
    visible.left visible.violates)

pub stuck_not_whole : (n : ℕ) (ds : List Dependency) (form : Form) (scheme : Attributes) → IsStuckScheme n ds form scheme
    → StaysWhole n ds form scheme → ⊥
stuck_not_whole n ds form scheme stuck whole = whole.narrow stuck.wide

pub stuck_not_cut : (n : ℕ) (ds : List Dependency) (form : Form) (scheme x y : Attributes) → IsStuckScheme n ds form scheme
    → IsCutBy n ds form scheme x y → ⊥
stuck_not_cut n ds form scheme x y stuck cut =
    ⊎_elim (λ chosen. chosen.0 stuck.wide) (λ visible. visible_is_some n ds form scheme x y stuck.none visible.1) cut

pub cut_violates : (n : ℕ) (ds : List Dependency) (form : Form) (scheme x y : Attributes) → IsCutBy n ds form scheme x y
    → Violates n ds form scheme x y
cut_violates n ds form scheme x y cut = ⊎_elim (λ chosen. chosen.1.violates) (λ visible. visible.1.violates) cut

pub cut_not_whole : (n : ℕ) (ds : List Dependency) (form : Form) (scheme x y : Attributes) → IsProper n scheme
    → IsCutBy n ds form scheme x y → StaysWhole n ds form scheme → ⊥
cut_not_whole n ds form scheme x y proper cut whole =
    not_in_form n ds form scheme x y proper.within (cut_violates n ds form scheme x y cut) whole.in_form

pub one_cut : (n : ℕ) (ds : List Dependency) (form : Form) (scheme x y v w : Attributes) → IsProper n scheme
    → IsCutBy n ds form scheme x y → IsCutBy n ds form scheme v w → (x ≡ v) × (y ≡ w)
one_cut n ds form scheme x y v w proper p q =
    ⊎_elim
    (λ chosen. ⊎_elim (λ other. one_chosen n ds form scheme x y v w proper.within chosen.1 other.1)
    (λ wide. absurd (chosen.0 wide.0)) q)
    (λ visible. ⊎_elim (λ narrow. absurd (narrow.0 visible.0))
    (λ other. one_visible n ds form scheme x y v w proper.within visible.1 other.1) q)
    p

-- ---- the reached lists
module _ (n : ℕ) (ds : List Dependency) (form : Form) (not_empty : 0 < n) (split : form ≡ Third → ⊥) where
  abbrev Whole : Attributes → Type 0
  Whole = StaysWhole n ds form

  abbrev Cut : Attributes → Attributes → Attributes → Type 0
  Cut = IsCutBy n ds form

  parts : (s x y : Attributes) → IsProper n s → Cut s x y → IsCut n ds s x y
  parts s x y proper cut = violation_cut n ds form s x y proper.within split (cut_violates n ds form s x y cut)

  pub lists_proper : (l : List Attributes) → ReachedList n ds form l → All (IsProper n) l
  lists_proper l reached = reached_proper n ds Whole Cut parts not_empty reached.0 l reached.1

  pub lists_lossless : (l : List Attributes) → ReachedList n ds form l → IsLossless n ds l
  lists_lossless l reached = reached_lossless n ds Whole Cut parts not_empty reached.0 l reached.1

  pub lists_short : (l : List Attributes) → ReachedList n ds form l → length l ≤ 2 ^ (n - 1)
  lists_short l reached = reached_within_limit n ds Whole Cut parts not_empty reached.0 l reached.1

  pub too_many_short : (limit : ℕ) → HasTooManySchemes n ds form limit → limit < 2 ^ (n - 1)
  too_many_short limit many = omega (arith, many.many, lists_short many.schemes many.reached)

  pub next_once : (l a b : List Attributes) → ReachedList n ds form l → IsSplitStep Whole Cut l a
      → IsSplitStep Whole Cut l b → a ≡ b
  next_once l a b reached p q =
      one_successor n Whole Cut (cut_not_whole n ds form) (one_cut n ds form) l a b (lists_proper l reached) p q

  -- no successor
  pub finished_last : (l a : List Attributes) → FinishedList n ds form l → IsSplitStep Whole Cut l a → ⊥
  finished_last l a finished =
      whole_is_last n Whole Cut (cut_not_whole n ds form) (one_cut n ds form) l a (lists_proper l finished.reached)
      finished.whole

  stuck_last : (l a : List Attributes) (scheme : Attributes) → ReachedList n ds form l → IsStuckAt n ds form l scheme
      → IsSplitStep Whole Cut l a → ⊥
  stuck_last l a scheme reached at =
      stuck_is_last n Whole Cut (cut_not_whole n ds form) (one_cut n ds form) l a at.earlier at.later scheme
      (lists_proper l reached) at.list at.whole
      (stuck_not_whole n ds form scheme at.stuck) (λ x y. stuck_not_cut n ds form scheme x y at.stuck)

  proper_at : (count : ℕ) (l : List Attributes) → ReachedIn n Whole Cut count l → All (IsProper n) l
  proper_at count l p = lists_proper l (count, p)

  -- what has no successor and so many schemes at most leaves none with more
  last_within_limit : (l : List Attributes) (limit : ℕ) → ReachedList n ds form l
      → ((a : List Attributes) → IsSplitStep Whole Cut l a → ⊥) → length l ≤ limit → HasTooManySchemes n ds form limit → ⊥
  last_within_limit l limit reached none within_limit many =
      let more = many.reached in
      let before : more.0 ≤ reached.0 =
      last_reached n Whole Cut (cut_not_whole n ds form) (one_cut n ds form) proper_at reached.0 l reached.1 none
      more.0 many.schemes more.1 in
      absurd (omega (
        arith,
        before,
        within_limit,
        many.many,
        reached_length Whole Cut n reached.0 l reached.1,
        reached_length
            Whole Cut n more.0 many.schemes more.1,
      ))

  pub finished_within_limit : (l : List Attributes) (limit : ℕ) → FinishedList n ds form l → length l ≤ limit
      → HasTooManySchemes n ds form limit → ⊥
  finished_within_limit l limit finished within_limit many = last_within_limit l limit finished.reached (λ a. finished_last l a finished) within_limit many

  pub stuck_within_limit : (limit : ℕ) (scheme : Attributes) → IsTooWideAt n ds form limit scheme → HasTooManySchemes n ds form limit → ⊥
  stuck_within_limit limit scheme wide many =
      last_within_limit wide.schemes limit wide.reached (λ a. stuck_last wide.schemes a scheme wide.reached wide.stuck)
      wide.within_limit many

  -- a finished list is not stuck
  pub finished_not_stuck : (l : List Attributes) (limit : ℕ) (scheme : Attributes) → FinishedList n ds form l
      → IsTooWideAt n ds form limit scheme → ⊥
  finished_not_stuck l limit scheme finished wide =
      let p = finished.reached in
      let q = wide.reached in
      let at = wide.stuck in
      let same = same_last n Whole Cut (cut_not_whole n ds form) (one_cut n ds form) proper_at p.0 q.0 l wide.schemes
      p.1 (λ a. finished_last l a finished) q.1
      (λ a. stuck_last wide.schemes a scheme q at) in
      let whole : All Whole (at.earlier ++ scheme ∷ at.later) =
      subst (λ (s : List Attributes). All Whole s) (same ∙ at.list) finished.whole in
      stuck_not_whole n ds form scheme at.stuck
      (All-head Whole scheme at.later (All-append_right Whole at.earlier (scheme ∷ at.later) whole))

  pub one_finished : (a b : List Attributes) → FinishedList n ds form a → FinishedList n ds form b → a ≡ b
  one_finished a b p q =
      same_last n Whole Cut (cut_not_whole n ds form) (one_cut n ds form) proper_at p.reached.0 q.reached.0 a b
      p.reached.1 (λ l. finished_last a l p) q.reached.1
      (λ l. finished_last b l q)

  -- one scheme at most is stuck
  pub one_stuck : (limit : ℕ) (scheme other : Attributes) → IsTooWideAt n ds form limit scheme
      → IsTooWideAt n ds form limit other → scheme ≡ other
  one_stuck limit scheme other wide more =
      let p = wide.reached in
      let q = more.reached in
      let one = wide.stuck in
      let two = more.stuck in
      let same = same_last n Whole Cut (cut_not_whole n ds form) (one_cut n ds form) proper_at p.0 q.0 wide.schemes
      more.schemes p.1 (λ a. stuck_last wide.schemes a scheme p one) q.1 (λ a. stuck_last more.schemes a other q two) in
      let first = split_at_first-unique Whole one.earlier two.earlier scheme other one.later two.later
      (sym one.list ∙ same ∙ two.list) one.whole two.whole (stuck_not_whole n ds form scheme one.stuck)
      (stuck_not_whole n ds form other two.stuck) in
      first.1
