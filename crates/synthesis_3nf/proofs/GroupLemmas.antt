-- A minimal cover grouped by left side: each scheme is that of a left side, and each member lies within one.
use Rattle.std.proofs.Common.{◌≡◌, ℕ, ◌≤◌, Bool, true, false, ◌&&◌, if◌then◌else◌, List, [], ◌∷◌, ◌++◌, refl, sym, subst, ap, ◌∙◌, ◌⊎◌, inl, inr, ⊎_elim, arith, append_assoc}
use Rattle.std.specs.Prelude.{All, Contains}
use Rattle.std.specs.List.{list_any}
use Rattle.std.proofs.lemmas.Bool.{cases_Bool, true≢false, eqb-true, eq-eqb, lt-ltb, ltb-true, or_cases, or_left, or_right, and_parts, and_from}
use Rattle.std.proofs.lemmas.List.Elements.{All-contains, Contains-append_left, Contains-append_right}
use Rattle.attr_sets.specs.declared.set.TheConstants.{MOST_ATTRIBUTES}
use Rattle.attr_sets.specs.Attributes.{Attributes, below, only, IsSubset}
use Rattle.attr_sets.specs.Sets.{is_same}
use Rattle.attr_sets.proofs.AttributesLemmas.{is_same-true, is_same-from}
use Rattle.dep_model.specs.Dependencies.{Dependency, fd, left_of, right_of, IsWithin}
use Rattle.dep_model.proofs.ListLemmas.{Contains-head, Contains-later, Contains-cases, Contains-map, map-member}
use Rattle.min_cover.specs.Covers.{IsSingle}
use Rattle.plans.proofs.ListLemmas.{any_from, any_some}
use Rattle.synthesis_3nf.specs.Groups.{left_sides_after, group_scheme, schemes_of_groups}
use Rattle.synthesis_3nf.proofs.GroupSchemes.{IsGroupScheme, LiesIn, AreHeld}

-- ---- left sides
-- a left side that stands among those before is passed over, and another one is added
pub left_passed : (earlier : List Attributes) (d : Dependency) (later : List Dependency) → list_any (λ x. is_same x (left_of d)) earlier ≡ true
    → left_sides_after earlier (d ∷ later) ≡ left_sides_after earlier later
left_passed earlier d later old = ap (λ (b : Bool). if b then left_sides_after earlier later else (left_of d ∷ left_sides_after (earlier ++ left_of d ∷ []) later)) old

pub left_added : (earlier : List Attributes) (d : Dependency) (later : List Dependency) → list_any (λ x. is_same x (left_of d)) earlier ≡ false
    → left_sides_after earlier (d ∷ later) ≡ left_of d ∷ left_sides_after (earlier ++ left_of d ∷ []) later
left_added earlier d later new = ap (λ (b : Bool). if b then left_sides_after earlier later else (left_of d ∷ left_sides_after (earlier ++ left_of d ∷ []) later)) new

-- each is that of a member
pub left_found : (earlier : List Attributes) (ds : List Dependency) (x : Attributes) → Contains (left_sides_after earlier ds) x → (d : Dependency) × Contains ds d × (left_of d ≡ x)
left_found earlier [] x has = absurd (omega (arith, has.1))
left_found earlier (d ∷ later) x has =
    ⊎_elim
    (λ old.
    let found = left_found earlier later x (subst (λ (xs : List Attributes). Contains xs x) (left_passed earlier d later old) has) in
    (found.0, Contains-later d later found.0 found.1, found.2))
    (λ new. ⊎_elim
    (λ here. (d, Contains-head d later, sym here))
    (λ there.
    let found = left_found (earlier ++ left_of d ∷ []) later x there in
    (found.0, Contains-later d later found.0 found.1, found.2))
    (Contains-cases (left_of d) (left_sides_after (earlier ++ left_of d ∷ []) later) x (subst (λ (xs : List Attributes). Contains xs x) (left_added earlier d later new) has)))
    (cases_Bool (list_any (λ y. is_same y (left_of d)) earlier))

-- a left side of these, the same as that of a dependency
abbrev HasLeft : List Attributes → Dependency → Type 0
HasLeft lefts d = (x : Attributes) × Contains lefts x × (is_same x (left_of d) ≡ true)

-- and the left side of each member is among them
left_holds : (earlier : List Attributes) (ds : List Dependency) (d : Dependency) → Contains ds d → HasLeft (earlier ++ left_sides_after earlier ds) d
left_holds earlier [] d has = absurd (omega (arith, has.1))
left_holds earlier (e ∷ later) d has =
    ⊎_elim
    (λ old.
    subst (λ (xs : List Attributes). HasLeft (earlier ++ xs) d) (sym (left_passed earlier e later old))
    (⊎_elim
    (λ here.
    let found = any_some (λ y. is_same y (left_of e)) earlier old in
    (found.0, Contains-append_left earlier (left_sides_after earlier later) found.0 found.1, subst (λ (f : Dependency). is_same found.0 (left_of f) ≡ true) (sym here) found.2))
    (λ there. left_holds earlier later d there)
    (Contains-cases e later d has)))
    (λ new.
    let more = left_sides_after (earlier ++ left_of e ∷ []) later in
    subst (λ (xs : List Attributes). HasLeft (earlier ++ xs) d) (sym (left_added earlier e later new))
    (⊎_elim
    (λ here. (left_of e, Contains-append_right earlier (left_of e ∷ more) (left_of e) (Contains-head (left_of e) more), subst (λ (f : Dependency). is_same (left_of e) (left_of f) ≡ true) (sym here) (is_same-from (left_of e) (left_of e) refl)))
    (λ there. subst (λ (xs : List Attributes). HasLeft xs d) (append_assoc earlier (left_of e ∷ []) more) (left_holds (earlier ++ left_of e ∷ []) later d there))
    (Contains-cases e later d has)))
    (cases_Bool (list_any (λ y. is_same y (left_of e)) earlier))

module _ (n : ℕ) (within_limit : n ≤ MOST_ATTRIBUTES) (cover : List Dependency) (single : All IsSingle cover) (within : All (IsWithin (below n)) cover) where
  wide : (x : Attributes) → IsSubset x (below n) → IsSubset x (below MOST_ATTRIBUTES)
  wide x x_in k m = lt-ltb k MOST_ATTRIBUTES (omega (arith, within_limit, ltb-true k n (x_in k m)))

  same_left : (x y : Attributes) → IsSubset x (below n) → IsSubset y (below n) → is_same x y ≡ true → x ≡ y
  same_left x y x_in y_in same = is_same-true x y (wide x x_in) (wide y y_in) same

  left_in : (d : Dependency) → Contains cover d → IsSubset (left_of d) (below n)
  left_in d has = (All-contains (IsWithin (below n)) cover d within has).0

  -- a member of a left side with an attribute is the one of both
  member_is : (x : Attributes) (a : ℕ) (d : Dependency) → Contains cover d → left_of d ≡ x → right_of d a ≡ true → Contains cover (fd x (only a))
  member_is x a d has left right =
      let one = All-contains IsSingle cover d single has in
      let attribute : a ≡ one.1 = eqb-true a one.1 (subst (λ (e : Dependency). right_of e a ≡ true) one.2 right) in
      let path : d ≡ fd x (only a) = one.2 ∙ ap (λ (y : Attributes). fd y (only one.1)) (sym (ap (λ (e : Dependency). left_of e) one.2) ∙ left) ∙ ap (λ (k : ℕ). fd x (only k)) (sym attribute) in
      subst (λ (e : Dependency). Contains cover e) path has

  -- a member that gives the scheme of a left side an attribute
  giver : (x : Attributes) (a : ℕ) → list_any (λ d. is_same x (left_of d) && right_of d a) cover ≡ true → (d : Dependency) × Contains cover d × (is_same x (left_of d) ≡ true) × (right_of d a ≡ true)
  giver x a not_empty =
      let found = any_some (λ d. is_same x (left_of d) && right_of d a) cover not_empty in
      let both = and_parts (is_same x (left_of found.0)) (right_of found.0 a) found.2 in
      (found.0, found.1, both.0, both.1)

  given : (x : Attributes) (a : ℕ) (d : Dependency) → Contains cover d → is_same x (left_of d) ≡ true → right_of d a ≡ true → group_scheme cover x a ≡ true
  given x a d has same right =
      or_right (x a) (list_any (λ e. is_same x (left_of e) && right_of e a) cover)
      (any_from (λ e. is_same x (left_of e) && right_of e a) cover d has (and_from (is_same x (left_of d)) (right_of d a) same right))

  -- an attribute of the scheme of a set is in the set, or a member gives it
  pub scheme_attribute : (x : Attributes) → IsSubset x (below n) → (a : ℕ) → group_scheme cover x a ≡ true → (x a ≡ true) ⊎ Contains cover (fd x (only a))
  scheme_attribute x x_in a in_scheme =
      ⊎_elim
      (λ own. inl own)
      (λ other.
      let found = giver x a other in
      inr (member_is x a found.0 found.1 (sym (same_left x (left_of found.0) x_in (left_in found.0 found.1) found.2)) found.3))
      (or_cases (x a) (list_any (λ e. is_same x (left_of e) && right_of e a) cover) in_scheme)

  -- a member lies within the scheme of its left side
  pub member_lies : (d : Dependency) → Contains cover d → LiesIn d (group_scheme cover (left_of d))
  member_lies d has k m =
      let x = left_of d in
      ⊎_elim
      (λ own. or_left (x k) (list_any (λ e. is_same x (left_of e) && right_of e k) cover) own)
      (λ right. given x k d has (is_same-from x x refl) right)
      (or_cases (left_of d k) (right_of d k) m)

  group_is : (x : Attributes) (d : Dependency) → Contains cover d → left_of d ≡ x → IsGroupScheme cover x (group_scheme cover x) × IsSubset (group_scheme cover x) (below n)
  group_is x d has left =
      let x_in : IsSubset x (below n) = subst (λ (y : Attributes). IsSubset y (below n)) left (left_in d has) in
      let one = All-contains IsSingle cover d single has in
      let right : right_of d one.1 ≡ true = subst (λ (e : Dependency). right_of e one.1 ≡ true) (sym one.2) (eq-eqb one.1 one.1 refl) in (
        record {
          left = λ k m. or_left (x k) (list_any (λ e. is_same x (left_of e) && right_of e k) cover) m;
          member = λ a in_scheme lacks. ⊎_elim
              (λ own. absurd (true≢false (sym own ∙ lacks)))
              (λ other. other)
              (scheme_attribute x x_in a in_scheme);
          first = one.1;
          not_empty = (member_is x one.1 d has left right, given x one.1 d has (is_same-from x (left_of d) (sym left)) right);
        },
        λ k m. ⊎_elim
            (λ own. x_in k own)
            (λ other.
            let found = giver x k other in
            (All-contains (IsWithin (below n)) cover found.0 within found.1).1 k found.3)
            (or_cases (x k) (list_any (λ e. is_same x (left_of e) && right_of e k) cover) m),
      )

  pub groups_are : (scheme : Attributes) → Contains (schemes_of_groups cover) scheme → (x : Attributes) × IsGroupScheme cover x scheme × IsSubset scheme (below n)
  groups_are scheme has =
      let named = map-member (group_scheme cover) (left_sides_after [] cover) scheme has in
      let found = left_found [] cover named.0 named.1 in
      let is = group_is named.0 found.0 found.1 found.2 in
      (named.0, subst (λ (s : Attributes). IsGroupScheme cover named.0 s) named.2 is.0, subst (λ (s : Attributes). IsSubset s (below n)) named.2 is.1)

  -- the left side of a member is among the left sides
  pub left_among : (d : Dependency) → Contains cover d → Contains (left_sides_after [] cover) (left_of d)
  left_among d has =
      let found = left_holds [] cover d has in
      let owner = left_found [] cover found.0 found.1 in
      let x_in : IsSubset found.0 (below n) = subst (λ (y : Attributes). IsSubset y (below n)) owner.2 (left_in owner.0 owner.1) in
      subst (λ (y : Attributes). Contains (left_sides_after [] cover) y) (same_left found.0 (left_of d) x_in (left_in d has) found.2) found.1

  pub groups_hold : AreHeld cover (schemes_of_groups cover)
  groups_hold d has = (
    group_scheme cover (left_of d),
    Contains-map (group_scheme cover) (left_sides_after [] cover) (left_of d) (left_among d has),
    member_lies d has,
  )
