-- The walk over a list of schemes: what stands before a position stays whole, and what is cut there is a step.
use Rattle.std.proofs.Common.{◌≡◌, ℕ, suc, ◌+◌, ◌<◌, ◌≤◌, List, [], ◌∷◌, ◌++◌, length, take, drop, get_or, set, append_assoc, refl, sym, ap, ◌∙◌, subst, arith}
use Rattle.std.proofs.Math.Seq.{drop-cons}
use Rattle.std.specs.Prelude.{All}
use Rattle.std.specs.List.{insert}
use Rattle.std.proofs.lemmas.List.{take-append-drop, length-take, length-map, get_or-map, map-append, take_at, take_all, take_more_set, drop-set-lt}
use Rattle.std.proofs.lemmas.List.Elements.{All-more, All-get_or, All-weaker}
use Rattle.attr_sets.specs.Attributes.{Attributes, below, union, difference, IsSubset, IsEmpty}
use Rattle.attr_sets.specs.Sets.{attributes}
use Rattle.attr_sets.specs.declared.set.AttrSet.{AttrSet}
use Rattle.dep_model.specs.Dependencies.{Dependency}
use Rattle.dep_model.specs.Plans.{IsPlan, schemes_of}
use Rattle.dep_model.specs.declared.form.Form.{Form}
use Rattle.dep_model.specs.declared.form.Form.TheVariants.{Third}
use Rattle.split_forms.specs.Splitting.{StaysWhole, IsCutBy, IsStuckScheme, ReachedList, FinishedList, IsTooWideAt, HasTooManySchemes}
use Rattle.split_forms.proofs.SizeLemmas.{IsProper}
use Rattle.split_forms.specs.Lists.{IsSplitStep}
use Rattle.split_forms.specs.Steps.{Cutting, CutsLead, cutting}
use Rattle.split_forms.proofs.LeadLemmas.{lead_on}
use Rattle.split_forms.proofs.StepLemmas.{cons-head, cons-tail, step_length}
use Rattle.split_forms.proofs.SplitLemmas.{lists_proper, lists_lossless}

-- ---- the parts of a list about a position
pub take-item-drop : {X : Type 0} (xs : List X) (i : ℕ) (d : X) → i < length xs
    → xs ≡ take i xs ++ get_or xs i d ∷ drop (i + 1) xs
take-item-drop {X} xs i d lt =
    let next : suc i ≡ i + 1 = omega arith in
    sym (take-append-drop i xs) ∙ ap (λ (l : List X). take i xs ++ l) (drop-cons xs i d lt)
    ∙ ap (λ (m : ℕ). take i xs ++ get_or xs i d ∷ drop m xs) next

pub take-item-drop_unique : {X : Type 0} (a c b e : List X) (s t : X) → length a ≡ length b → a ++ s ∷ c ≡ b ++ t ∷ e
    → (a ≡ b) × (s ≡ t) × (c ≡ e)
take-item-drop_unique [] c [] e s t same parts = (refl, cons-head s t c e parts, cons-tail s t c e parts)
take-item-drop_unique [] c (w ∷ b) e s t same parts = absurd (omega (arith, same))
take-item-drop_unique (z ∷ a) c [] e s t same parts = absurd (omega (arith, same))
take-item-drop_unique {X} (z ∷ a) c (w ∷ b) e s t same parts =
    let head = cons-head z w (a ++ s ∷ c) (b ++ t ∷ e) parts in
    let count : length a ≡ length b = omega (arith, same) in
    let later = take-item-drop_unique a c b e s t count (cons-tail z w (a ++ s ∷ c) (b ++ t ∷ e) parts) in
    (ap (λ (u : X). u ∷ a) head ∙ ap (λ (l : List X). w ∷ l) later.0, later.1, later.2)

-- one element becomes two
insert-set : {X : Type 0} (xs : List X) (i : ℕ) (v w : X) → i < length xs
    → insert (set xs i v) (i + 1) w ≡ take i xs ++ v ∷ w ∷ drop (i + 1) xs
insert-set {X} xs i v w lt =
    ap (λ (l : List X). l ++ w ∷ drop (i + 1) (set xs i v)) (take_more_set xs i v lt)
    ∙ ap (λ (l : List X). (take i xs ++ v ∷ []) ++ w ∷ l) (drop-set-lt (i + 1) xs i v (omega arith))
    ∙ append_assoc (take i xs) (v ∷ []) (w ∷ drop (i + 1) xs)

schemes_of-split : (xs : List AttrSet) (i : ℕ) (d : AttrSet) → i < length xs
    → schemes_of xs ≡ schemes_of (take i xs) ++ attributes (get_or xs i d) ∷ schemes_of (drop (i + 1) xs)
schemes_of-split xs i d lt = ap (λ (l : List AttrSet). schemes_of l) (take-item-drop xs i d lt)
    ∙ map-append attributes (take i xs) (get_or xs i d ∷ drop (i + 1) xs)

pub cut_list : (xs ys : List AttrSet) (i : ℕ) (d first second : AttrSet) (x y : Attributes) → i < length xs
    → ys ≡ insert (set xs i first) (i + 1) second
    → attributes first ≡ union x y → attributes second ≡ difference (attributes (get_or xs i d)) y
    → (earlier later : List Attributes) (scheme : Attributes) → length earlier ≡ i → schemes_of xs ≡ earlier ++ scheme ∷ later
    → schemes_of ys ≡ earlier ++ union x y ∷ difference scheme y ∷ later
cut_list xs ys i d first second x y lt items one other earlier later scheme count list =
    let front = take i xs in
    let back = drop (i + 1) xs in
    let s = attributes (get_or xs i d) in
    let long : length earlier ≡ length (schemes_of front) =
    omega (arith, count, length-map front attributes, length-take i xs) in
    let parts = take-item-drop_unique earlier later (schemes_of front) (schemes_of back) scheme s long
    (sym list ∙ schemes_of-split xs i d lt) in
    ap (λ (l : List AttrSet). schemes_of l) (items ∙ insert-set xs i first second lt)
    ∙ map-append attributes front (first ∷ second ∷ back)
    ∙ ap (λ (z : Attributes). schemes_of front ++ z ∷ attributes second ∷ schemes_of back)
    one
    ∙ ap (λ (z : Attributes). schemes_of front ++ union x y ∷ z ∷ schemes_of back)
    other
    ∙ ap (λ (l : List Attributes). l ++ union x y ∷ difference s y ∷ schemes_of back) (sym parts.0)
    ∙ ap (λ (z : Attributes). earlier ++ union x y ∷ difference z y ∷ schemes_of back) (sym parts.1)
    ∙ ap (λ (l : List Attributes). earlier ++ union x y ∷ difference scheme y ∷ l) (sym parts.2)

-- ---- the walk
module _ (n : ℕ) (ds : List Dependency) (form : Form) where
  abbrev Whole : Attributes → Type 0
  Whole = StaysWhole n ds form

  -- what the walk knows of the list at a position
  pub record IsWalkedTo (xs : List AttrSet) (at : ℕ) : Type 0 where
    pub reached : ReachedList n ds form (schemes_of xs)
    pub whole : All Whole (take at (schemes_of xs))
    pub inside : at ≤ length xs

  pub walk_start : (xs : List AttrSet) (universe : AttrSet) → xs ≡ universe ∷ [] → attributes universe ≡ below n
      → IsWalkedTo xs 0
  walk_start xs universe items same = record {
    reached = (
      0,
      ap (λ (l : List AttrSet). schemes_of l) items
          ∙ ap (λ (u : Attributes). u ∷ []) same,
    );
    whole = λ k d l. absurd (omega (arith, l, length-take 0 (schemes_of xs)));
    inside = omega arith;
  }

  module _ (xs : List AttrSet) (at : ℕ) (scheme : AttrSet) (lt : at < length xs) (is : get_or xs at scheme ≡ scheme)
      (walked : IsWalkedTo xs at) where
    long : at < length (schemes_of xs)
    long = omega (arith, lt, length-map xs attributes)

    there : get_or (schemes_of xs) at (attributes scheme) ≡ attributes scheme
    there = get_or-map attributes xs at scheme (attributes scheme) lt ∙ ap attributes is

    abbrev earlier : List Attributes
    earlier = take at (schemes_of xs)

    abbrev later : List Attributes
    later = drop (at + 1) (schemes_of xs)

    count : length earlier ≡ at
    count = omega (arith, long, length-take at (schemes_of xs))

    list : schemes_of xs ≡ earlier ++ attributes scheme ∷ later
    list = take-item-drop (schemes_of xs) at (attributes scheme) long ∙ ap (λ (z : Attributes). earlier ++ z ∷ later) there

    -- the scheme there stays whole
    pub walk_on : Whole (attributes scheme) → IsWalkedTo xs (at + 1)
    walk_on stays = record {
      reached = walked.reached;
      whole = All-more Whole (schemes_of xs) at (attributes scheme) long walked.whole (subst Whole (sym there) stays);
      inside = omega (arith, lt);
    }

    -- it is cut
    module _ (x y : Attributes) (cut : IsCutBy n ds form (attributes scheme) x y) where
      abbrev after : List Attributes
      after = earlier ++ union x y ∷ difference (attributes scheme) y ∷ later

      next_step : IsSplitStep Whole (IsCutBy n ds form) (schemes_of xs) after
      next_step = record {
        earlier = earlier;
        scheme = attributes scheme;
        later = later;
        list = list;
        whole = walked.whole;
        x = x;
        y = y;
        cut = cut;
        replaced = refl;
      }

      next_reached : ReachedList n ds form after
      next_reached = (suc walked.reached.0, (schemes_of xs, walked.reached.1, next_step))

      next_length : length after ≡ length xs + 1
      next_length = omega (arith, length-map xs attributes, step_length Whole (IsCutBy n ds form) (schemes_of xs) after next_step)

      pub walk_many : (limit : ℕ) → length xs ≤ limit → limit ≤ length xs → HasTooManySchemes n ds form limit
      walk_many limit within_limit many =
          record { schemes = after; reached = next_reached; many = omega (arith, next_length, within_limit, many) }

      pub walk_cut : (ys : List AttrSet)
          → ((e l : List Attributes) (s : Attributes) → length e ≡ at → schemes_of xs ≡ e ++ s ∷ l
          → schemes_of ys ≡ e ++ union x y ∷ difference s y ∷ l)
          → IsWalkedTo ys at × (length ys ≡ length xs + 1)
      walk_cut ys made =
          let same : schemes_of ys ≡ after = made earlier later (attributes scheme) count list in
          let counted : length ys ≡ length xs + 1 =
          omega (arith, next_length, length-map ys attributes, ap (λ (l : List Attributes). length l) same) in (
            record {
              reached = subst (λ (l : List Attributes). ReachedList n ds form l) (sym same) next_reached;
              whole = subst (λ (l : List Attributes). All Whole l)
                  (sym (ap (λ (l : List Attributes). take at l) same
                  ∙ take_at earlier (union x y ∷ difference (attributes scheme) y ∷ later) at count)) walked.whole;
              inside = omega (arith, counted, lt);
            },
            counted,
          )

      -- and the cuts so far lead on to the list that comes of it
      pub walk_lead : (ys : List AttrSet) (cuts : List Cutting)
          → ((e l : List Attributes) (s : Attributes) → length e ≡ at → schemes_of xs ≡ e ++ s ∷ l
          → schemes_of ys ≡ e ++ union x y ∷ difference s y ∷ l)
          → CutsLead n ds form (below n ∷ []) cuts (schemes_of xs)
          → CutsLead n ds form (below n ∷ []) (cuts ++ cutting (attributes scheme) x y ∷ []) (schemes_of ys)
      unfolding next_step
      walk_lead ys cuts made lead =
          let same : schemes_of ys ≡ after = made earlier later (attributes scheme) count list in
          subst (λ (l : List Attributes). CutsLead n ds form (below n ∷ []) (cuts ++ cutting (attributes scheme) x y ∷ []) l) (sym same)
          (lead_on n ds form (below n ∷ []) cuts (schemes_of xs) after (cutting (attributes scheme) x y) lead (record { step = next_step; is = refl }))

    -- it is stuck
    pub walk_stuck : (limit : ℕ) → length xs ≤ limit → IsStuckScheme n ds form (attributes scheme)
        → IsTooWideAt n ds form limit (attributes scheme)
    walk_stuck limit within_limit stuck = record {
      schemes = schemes_of xs;
      reached = walked.reached;
      within_limit = omega (arith, within_limit, length-map xs attributes);
      stuck = record { earlier = earlier; later = later; list = list; whole = walked.whole; stuck = stuck };
    }

    pub walk_within : 0 < n → (form ≡ Third → ⊥) → IsSubset (attributes scheme) (below n)
    walk_within not_empty split =
        let proper = All-get_or (IsProper n) (schemes_of xs) at (attributes scheme) long
        (lists_proper n ds form not_empty split (schemes_of xs) walked.reached) in
        subst (λ (s : Attributes). IsSubset s (below n)) there proper.within

  pub walk_end : (xs : List AttrSet) (at : ℕ) → length xs ≤ at → IsWalkedTo xs at
      → FinishedList n ds form (schemes_of xs)
  walk_end xs at past walked = record {
    reached = walked.reached;
    whole = subst (λ (l : List Attributes). All Whole l)
        (take_all at (schemes_of xs) (omega (arith, past, length-map xs attributes))) walked.whole;
  }

-- a reached list is a plan
pub reached_plan : (n : ℕ) (ds : List Dependency) (form : Form) (l : List Attributes) → 0 < n → (form ≡ Third → ⊥)
    → ReachedList n ds form l → IsPlan n l
reached_plan n ds form l not_empty split reached =
    let proper = lists_proper n ds form not_empty split l reached in
    record {
      within = All-weaker (IsProper n) (λ (s : Attributes). IsSubset s (below n)) (λ s is. is.within) l proper;
      not_empty = All-weaker (IsProper n) (λ (s : Attributes). IsEmpty s → ⊥) (λ s is. is.not_empty) l proper;
      covers = (lists_lossless n ds form not_empty split l reached).covers;
    }
