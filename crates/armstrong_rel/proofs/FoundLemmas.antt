-- The walk over the parts of the left sides, and the irreducible closed sets that are found from them.
use Rattle.std.proofs.Common.{◌≡◌, ℕ, ◌+◌, ◌-◌, ◌^◌, ◌<◌, ◌≤◌, true, false, List, [], ◌∷◌, ◌++◌, length, get_or, refl, sym, subst, ap, ◌∙◌, ◌⊎◌, inl, inr, ⊎_elim, arith}
use Rattle.std.specs.Prelude.{All, AllPairs, Option, Some, None, IsNone, IfSome}
use Rattle.std.proofs.lemmas.Bool.{true≢false, cases_eq, cases_lt, cases_Bool, lt-ltb, false_from_ne_true}
use Rattle.std.proofs.lemmas.Bool.Decides.{nat_tests}
use Rattle.std.proofs.lemmas.List.{get_or-map, length-map, length_push}
use Rattle.std.proofs.lemmas.List.Elements.{All-nil, All-push, All-weaker, All-map, Contains-push}
use Rattle.std.proofs.lemmas.List.Quantifiers.{all_pairs_push}
use Rattle.std.proofs.lemmas.List.Sorted.{All-permutation, length_permutation}
use Rattle.std.specs.List.Sorted.{IsSorted, IsPermutation}
use Rattle.std.specs.Ordering.{nat_cmp}
use Rattle.attr_sets.specs.Attributes.{Attributes, below, none, union, intersection, IsSubset, IsBefore, IsNextSubset}
use Rattle.attr_sets.specs.Sets.{attributes}
use Rattle.attr_sets.specs.declared.set.AttrSet.{AttrSet}
use Rattle.attr_sets.specs.declared.set.TheConstants.{MOST_ATTRIBUTES}
use Rattle.attr_sets.proofs.AttributesLemmas.{same_at, same_from_within}
use Rattle.attr_sets.proofs.OrderLemmas.{sorted_ascend, IsBefore-irrefl, IsBefore-trans, tell_before, next_subset-before, none-first, whole-last}
use Rattle.dep_model.specs.Dependencies.{Dependency, functional_part, IsWithin}
use Rattle.dep_model.specs.Plans.{schemes_of}
use Rattle.dep_model.proofs.ListLemmas.{Any-from, Any-left}
use Rattle.fd_closure.specs.LeftSides.{left_sides}
use Rattle.armstrong_rel.specs.declared.refusal.TheConstants.{MOST_EXHIBITED_ROWS}
use Rattle.armstrong_rel.specs.ClosedSets.{IsIrreducible, AreIrreducible}
use Rattle.fd_closure.specs.Closures.{IsClosureOf}
use Rattle.armstrong_rel.specs.Parts.{IsClosedPart, IsLacking, in_no_left_side, filled_but}
use Rattle.armstrong_rel.specs.Searching.{AreTriedIrreducible, AreFoundSets, HasPartBefore, HasPartUpTo}
use Rattle.armstrong_rel.specs.Refusals.{AreTooMany}
use Rattle.armstrong_rel.proofs.ClosedLemmas.{closure_member, closure_holds}
use Rattle.dep_model.proofs.PermutationLemmas.{AllPairs-permutation, Any-permutation, Any-map}
use Rattle.armstrong_rel.proofs.PartLemmas.{left_sides_low, filled_part, filled_irreducible, irreducible_filled}

-- ---- sets that were found of those that were tried
-- none yet, where none was tried
pub found_none : (n : ℕ) (ds : List Dependency) (T : Attributes → Type 0) (found : List AttrSet) → found ≡ []
    → ((c : Attributes) → T c → ⊥) → AreTriedIrreducible n ds T found
found_none n ds T found none not = subst (AreTriedIrreducible n ds T) (sym none) (record {
  each = All-nil (λ (s : AttrSet). IsIrreducible n ds (attributes s));
  tried = All-nil (λ (s : AttrSet). T (attributes s));
  differ = λ i j d before l. absurd (omega (arith, l));
  numbers = All-nil (λ (s : AttrSet). s.0 < 2 ^ MOST_ATTRIBUTES);
  within_limit = omega arith;
  all = λ few c is tried. absurd (not c tried);
})

-- more were tried, and no more are irreducible
pub found_same : (n : ℕ) (ds : List Dependency) (T U : Attributes → Type 0) (found : List AttrSet) → ((c : Attributes) → T c → U c)
    → ((c : Attributes) → IsIrreducible n ds c → U c → T c) → AreTriedIrreducible n ds T found → AreTriedIrreducible n ds U found
found_same n ds T U found more back before = record {
  each = before.each;
  tried = All-weaker (λ (s : AttrSet). T (attributes s)) (λ (s : AttrSet). U (attributes s)) (λ s t. more (attributes s) t) found before.tried;
  differ = before.differ;
  numbers = before.numbers;
  within_limit = before.within_limit;
  all = λ few c is tried. before.all few c is (back c is tried);
}

-- more were tried, of which one is irreducible; it is added where there is room
pub found_added : (n : ℕ) (ds : List Dependency) (T U : Attributes → Type 0) (old new : List AttrSet) (s : AttrSet)
    → s.0 < 2 ^ MOST_ATTRIBUTES → AreTriedIrreducible n ds T old → IsIrreducible n ds (attributes s) → (T (attributes s) → ⊥)
    → ((c : Attributes) → T c → U c) → U (attributes s)
    → ((c : Attributes) → IsIrreducible n ds c → U c → T c ⊎ (c ≡ attributes s))
    → (length old < MOST_EXHIBITED_ROWS → new ≡ old ++ s ∷ []) → (MOST_EXHIBITED_ROWS ≤ length old → new ≡ old)
    → AreTriedIrreducible n ds U new
found_added n ds T U old new s fits before is not more now back room full = ⊎_elim
    (λ (few : length old < MOST_EXHIBITED_ROWS). subst (AreTriedIrreducible n ds U) (sym (room few)) (record {
      each = All-push (λ (t : AttrSet). IsIrreducible n ds (attributes t)) old s before.each is;
      tried = All-push (λ (t : AttrSet). U (attributes t)) old s old_tried now;
      differ = all_pairs_push (λ (t u : AttrSet). attributes t ≡ attributes u → ⊥) old s before.differ
          (λ i d l same. not (subst T same (before.tried i d l)));
      numbers = All-push (λ (t : AttrSet). t.0 < 2 ^ MOST_ATTRIBUTES) old s before.numbers fits;
      within_limit = omega (arith, length_push old s, few);
      all = λ _ c irreducible tried. ⊎_elim
          (λ earlier. Any-left (λ (t : AttrSet). attributes t ≡ c) old s (before.all few c irreducible earlier))
          (λ (same : c ≡ attributes s). Any-from (λ (t : AttrSet). attributes t ≡ c) (old ++ s ∷ []) s (Contains-push old s) (sym same))
          (back c irreducible tried);
    }))
    (λ (many : MOST_EXHIBITED_ROWS ≤ length old). subst (AreTriedIrreducible n ds U) (sym (full many)) (record {
      each = before.each;
      tried = old_tried;
      differ = before.differ;
      numbers = before.numbers;
      within_limit = before.within_limit;
      all = λ few c irreducible tried. absurd (omega (arith, few, many));
    }))
    (cases_lt (length old) MOST_EXHIBITED_ROWS)
  where
    old_tried : All (λ (t : AttrSet). U (attributes t)) old
    old_tried = All-weaker (λ (t : AttrSet). T (attributes t)) (λ (t : AttrSet). U (attributes t)) (λ t tried. more (attributes t) tried) old before.tried

-- ---- the sets with one part
-- a set has this part, and lacks an attribute below a that is in no left side
pub record LacksBelow (n : ℕ) (ds : List Dependency) (z : Attributes) (a : ℕ) (c : Attributes) : Type 0 where
  pub part : intersection c (left_sides ds) ≡ z
  pub attribute : ℕ
  pub low : attribute < a
  pub unused : in_no_left_side n ds attribute ≡ true
  pub out : c attribute ≡ false

-- the sets that were tried once the attributes below a were gone through
abbrev pub IsTriedBelow : ℕ → List Dependency → Attributes → ℕ → Attributes → Type 0
IsTriedBelow n ds z a c = HasPartBefore ds z c ⊎ LacksBelow n ds z a c

module _ (n : ℕ) (ds : List Dependency) (within : All (IsWithin (below n)) ds) (same : functional_part ds ≡ ds)
    (z : Attributes) (z_in : IsSubset z (left_sides ds)) where
  -- an irreducible closed set with this part is it, filled but for an attribute that it lacks
  with_part : (c : Attributes) → IsIrreducible n ds c → intersection c (left_sides ds) ≡ z
      → (a : ℕ) × IsLacking n ds z a × (c ≡ filled_but n ds z a)
  with_part c is part =
      let fact = irreducible_filled n ds within same c is in (
        is.attribute,
        subst (λ (y : Attributes). IsLacking n ds y is.attribute) part fact.1,
        subst (λ (y : Attributes). c ≡ filled_but n ds y is.attribute) part fact.2,
      )

  filled_lacks : (a : ℕ) → filled_but n ds z a a ≡ false
  filled_lacks a = grind (arith, nat_tests)

  lacking_out : (a : ℕ) → IsLacking n ds z a → z a ≡ false
  lacking_out a lacking = false_from_ne_true (z a) (λ m. lacking.lacks (closure_member n ds z a lacking.universe m))

  -- a part that determines more of the left sides is that of none
  pub part_not_closed : (t : Attributes) (found : List AttrSet) → IsClosureOf n ds z t → (intersection t (left_sides ds) ≡ z → ⊥)
      → AreTriedIrreducible n ds (HasPartBefore ds z) found → AreTriedIrreducible n ds (HasPartUpTo ds z) found
  part_not_closed t found closure other before =
      found_same n ds (HasPartBefore ds z) (HasPartUpTo ds z) found (λ c earlier. inl earlier)
      (λ c is up_to. ⊎_elim
      (λ earlier. earlier)
      (λ (part : intersection c (left_sides ds) ≡ z).
      let fact = irreducible_filled n ds within same c is in
      let closed = subst (λ (y : Attributes). IsClosedPart n ds y) part fact.0 in
      absurd (other (same_from_within (intersection t (left_sides ds)) z
      (λ k m.
      let in_t : t k ≡ true = grind (arith, m) in
      let in_l : left_sides ds k ≡ true = grind (arith, m) in
      closed k in_l ((closure k).0 in_t))
      (λ k m.
      let in_t = closure_holds n ds z t (λ j in_z. left_sides_low n ds within j (z_in j in_z)) closure k m in
      let in_l = z_in k m in
      grind (arith, in_t, in_l)))))
      up_to)
      before

  pub part_closed_from : (t : Attributes) → IsClosureOf n ds z t → intersection t (left_sides ds) ≡ z → IsClosedPart n ds z
  part_closed_from t closure is k used has =
      let in_t = (closure k).1 has in
      let both : intersection t (left_sides ds) k ≡ true = grind (arith, in_t, used) in
      sym (same_at is k) ∙ both

  pub lacking_start : (found : List AttrSet) → AreTriedIrreducible n ds (HasPartBefore ds z) found → AreTriedIrreducible n ds (IsTriedBelow n ds z 0) found
  lacking_start found before =
      found_same n ds (HasPartBefore ds z) (IsTriedBelow n ds z 0) found (λ c earlier. inl earlier)
      (λ c is tried. ⊎_elim (λ earlier. earlier) (λ lacks. let low = lacks.low in absurd (omega (arith, low))) tried) before

  below_more : (a : ℕ) (c : Attributes) → IsTriedBelow n ds z a c → IsTriedBelow n ds z (a + 1) c
  below_more a c tried = ⊎_elim
      (λ earlier. inl earlier)
      (λ lacks.
      let low = lacks.low in
      inr (record { part = lacks.part; attribute = lacks.attribute; low = omega (arith, low); unused = lacks.unused; out = lacks.out }))
      tried

  -- an irreducible set that lacks attribute a, in no left side, is filled but for it
  lacks_here : (a : ℕ) (c : Attributes) → IsIrreducible n ds c → intersection c (left_sides ds) ≡ z
      → in_no_left_side n ds a ≡ true → c a ≡ false → IsLacking n ds z a × (c ≡ filled_but n ds z a)
  lacks_here a c is part rest out =
      let fact = with_part c is part in
      elim (cases_eq a fact.0) [
        | inl here ↦ (
          subst (IsLacking n ds z) (sym here) fact.1,
          fact.2 ∙ ap (filled_but n ds z) (sym here),
        )
        | inr other ↦
            let filled : filled_but n ds z fact.0 a ≡ true = grind (arith, nat_tests, rest, other) in
            absurd (true≢false (sym filled ∙ sym (same_at fact.2 a) ∙ out))
      ]

  -- one attribute further: what lacks it was tried before, or is filled but for it
  below_back : (a : ℕ) (c : Attributes) → IsIrreducible n ds c → IsTriedBelow n ds z (a + 1) c
      → IsTriedBelow n ds z a c
      ⊎ ((in_no_left_side n ds a ≡ true) × IsLacking n ds z a × (c ≡ filled_but n ds z a))
  below_back a c is tried = ⊎_elim
      (λ earlier. inl (inl earlier))
      (λ lacks.
      let low = lacks.low in
      ⊎_elim
      (λ (here : lacks.attribute ≡ a).
      let rest : in_no_left_side n ds a ≡ true = subst (λ (b : ℕ). in_no_left_side n ds b ≡ true) here lacks.unused in
      let out : c a ≡ false = subst (λ (b : ℕ). c b ≡ false) here lacks.out in
      let fact = lacks_here a c is lacks.part rest out in
      inr (rest, fact.0, fact.1))
      (λ (other : lacks.attribute ≡ a → ⊥).
      inl (inr (record { part = lacks.part; attribute = lacks.attribute; low = omega (arith, low, other); unused = lacks.unused; out = lacks.out })))
      (cases_eq lacks.attribute a))
      tried

  -- attribute a is not one that is in no left side and lacking
  pub lacking_pass : (a : ℕ) (found : List AttrSet) → (in_no_left_side n ds a ≡ true → IsLacking n ds z a → ⊥)
      → AreTriedIrreducible n ds (IsTriedBelow n ds z a) found → AreTriedIrreducible n ds (IsTriedBelow n ds z (a + 1)) found
  lacking_pass a found not before =
      found_same n ds (IsTriedBelow n ds z a) (IsTriedBelow n ds z (a + 1)) found (below_more a)
      (λ c is tried. ⊎_elim (λ earlier. earlier) (λ fact. absurd (not fact.0 fact.1)) (below_back a c is tried)) before

  -- or it is, and the set that is filled but for it is added
  pub lacking_push : (a : ℕ) (old new : List AttrSet) (s : AttrSet) → IsClosedPart n ds z → s.0 < 2 ^ MOST_ATTRIBUTES
      → in_no_left_side n ds a ≡ true → IsLacking n ds z a → attributes s ≡ filled_but n ds z a
      → (length old < MOST_EXHIBITED_ROWS → new ≡ old ++ s ∷ []) → (MOST_EXHIBITED_ROWS ≤ length old → new ≡ old)
      → AreTriedIrreducible n ds (IsTriedBelow n ds z a) old → AreTriedIrreducible n ds (IsTriedBelow n ds z (a + 1)) new
  lacking_push a old new s closed fits rest lacking is room full before =
      let x = attributes s in
      let part : intersection x (left_sides ds) ≡ z = ap (λ (c : Attributes). intersection c (left_sides ds)) is ∙ filled_part n ds within same z a z_in (lacking_out a lacking) in
      found_added n ds (IsTriedBelow n ds z a) (IsTriedBelow n ds z (a + 1)) old new s fits before
      (subst (IsIrreducible n ds) (sym is) (filled_irreducible n ds within same z a z_in closed lacking))
      (λ tried. ⊎_elim
      (λ earlier. IsBefore-irrefl z (subst (λ (y : Attributes). IsBefore y z) part earlier))
      (λ lacks.
      let b = lacks.attribute in
      let low = lacks.low in
      let other : b ≡ a → ⊥ = λ here. omega (arith, low, here) in
      let unused = lacks.unused in
      let member : filled_but n ds z a b ≡ true = grind (arith, nat_tests, unused, other) in
      true≢false (sym member ∙ sym (same_at is b) ∙ lacks.out))
      tried)
      (below_more a)
      (inr (record { part = part; attribute = a; low = omega arith; unused = rest; out = same_at is a ∙ filled_lacks a }))
      (λ c irreducible tried. ⊎_elim
      (λ earlier. inl earlier)
      (λ fact. inr (fact.2 ∙ sym is))
      (below_back a c irreducible tried))
      room full

  -- where the attribute that is lacking stands in a left side, nothing more is left out
  filled_whole : (b : ℕ) → left_sides ds b ≡ true → z b ≡ false → filled_but n ds z b ≡ union z (in_no_left_side n ds)
  filled_whole b used out = same_from_within (filled_but n ds z b) (union z (in_no_left_side n ds))
      (λ k m. grind (arith, m))
      (λ k m. elim (cases_eq k b) [
        | inl here ↦
            let at : union z (in_no_left_side n ds) b ≡ true = subst (λ (j : ℕ). union z (in_no_left_side n ds) j ≡ true) here m in
            absurd (true≢false (sym at ∙ grind (arith, used, out)))
        | inr other ↦ grind (arith, nat_tests, m, other)
      ])

  -- all attributes were gone through: what has the part was tried, or lacks one of the left sides
  up_to_back : (c : Attributes) → IsIrreducible n ds c → HasPartUpTo ds z c
      → IsTriedBelow n ds z n c
      ⊎ ((b : ℕ) × (left_sides ds b ≡ true) × IsLacking n ds z b × (c ≡ union z (in_no_left_side n ds)))
  up_to_back c is up_to = ⊎_elim
      (λ earlier. inl (inl earlier))
      (λ (part : intersection c (left_sides ds) ≡ z).
      let fact = with_part c is part in
      let b = fact.0 in
      let lacking = fact.1 in
      ⊎_elim
      (λ (used : left_sides ds b ≡ true). inr (b, used, lacking, fact.2 ∙ filled_whole b used (lacking_out b lacking)))
      (λ (unused : left_sides ds b ≡ false).
      let low = lt-ltb b n lacking.universe in
      let rest : in_no_left_side n ds b ≡ true = grind (arith, low, unused) in
      inl (inr (record { part = part; attribute = b; low = lacking.universe; unused = rest; out = same_at fact.2 b ∙ filled_lacks b })))
      (cases_Bool (left_sides ds b)))
      up_to

  below_up_to : (c : Attributes) → IsTriedBelow n ds z n c → HasPartUpTo ds z c
  below_up_to c tried = ⊎_elim (λ earlier. inl earlier) (λ lacks. inr lacks.part) tried

  -- no attribute of the left sides is lacking
  pub last_pass : (found : List AttrSet) → ((b : ℕ) → left_sides ds b ≡ true → IsLacking n ds z b → ⊥)
      → AreTriedIrreducible n ds (IsTriedBelow n ds z n) found → AreTriedIrreducible n ds (HasPartUpTo ds z) found
  last_pass found not before =
      found_same n ds (IsTriedBelow n ds z n) (HasPartUpTo ds z) found below_up_to
      (λ c is up_to. ⊎_elim (λ earlier. earlier) (λ fact. absurd (not fact.0 fact.1 fact.2)) (up_to_back c is up_to)) before

  -- or one is, and the part with all attributes in no left side is added
  pub last_push : (b : ℕ) (old new : List AttrSet) (s : AttrSet) → IsClosedPart n ds z → s.0 < 2 ^ MOST_ATTRIBUTES
      → left_sides ds b ≡ true → IsLacking n ds z b → attributes s ≡ union z (in_no_left_side n ds)
      → (length old < MOST_EXHIBITED_ROWS → new ≡ old ++ s ∷ []) → (MOST_EXHIBITED_ROWS ≤ length old → new ≡ old)
      → AreTriedIrreducible n ds (IsTriedBelow n ds z n) old → AreTriedIrreducible n ds (HasPartUpTo ds z) new
  last_push b old new s closed fits used lacking is room full before =
      let x = attributes s in
      let out_z = lacking_out b lacking in
      let whole : x ≡ filled_but n ds z b = is ∙ sym (filled_whole b used out_z) in
      let part : intersection x (left_sides ds) ≡ z = ap (λ (c : Attributes). intersection c (left_sides ds)) whole ∙ filled_part n ds within same z b z_in out_z in
      found_added n ds (IsTriedBelow n ds z n) (HasPartUpTo ds z) old new s fits before
      (subst (IsIrreducible n ds) (sym whole) (filled_irreducible n ds within same z b z_in closed lacking))
      (λ tried. ⊎_elim
      (λ earlier. IsBefore-irrefl z (subst (λ (y : Attributes). IsBefore y z) part earlier))
      (λ lacks.
      let k = lacks.attribute in
      let unused = lacks.unused in
      let member : union z (in_no_left_side n ds) k ≡ true = grind (arith, unused) in
      true≢false (sym member ∙ sym (same_at is k) ∙ lacks.out))
      tried)
      below_up_to
      (inr part)
      (λ c irreducible up_to. ⊎_elim
      (λ earlier. inl earlier)
      (λ fact. inr (fact.3 ∙ sym is))
      (up_to_back c irreducible up_to))
      room full

-- ---- the walk over the parts
-- what a set has of the left sides comes before the next part; where there is none, each does
abbrev pub IsPassedPart : List Dependency → Option AttrSet → Attributes → Type 0
IsPassedPart ds (Some next) c = HasPartBefore ds (attributes next) c
IsPassedPart ds None c = Unit {0}

pub record IsWalk (n : ℕ) (ds : List Dependency) (next : Option AttrSet) (found : List AttrSet) : Type 0 where
  pub within : IfSome next (λ set. IsSubset (attributes set) (left_sides ds))
  pub passed : AreTriedIrreducible n ds (IsPassedPart ds next) found

pub walk_start : (n : ℕ) (ds : List Dependency) (set : AttrSet) (found : List AttrSet) → attributes set ≡ none → found ≡ []
    → IsWalk n ds (Some set) found
walk_start n ds set found empty nothing = record {
  within = λ k m. absurd (true≢false (sym m ∙ same_at empty k));
  passed = found_none n ds (HasPartBefore ds (attributes set)) found nothing
      (λ c earlier. none-first (intersection c (left_sides ds)) (subst (λ (y : Attributes). IsBefore (intersection c (left_sides ds)) y) empty earlier));
}

pub walk_on : (n : ℕ) (ds : List Dependency) (set : AttrSet) (next : Option AttrSet) (found : List AttrSet) → All (IsWithin (below n)) ds
    → IsSubset (attributes set) (left_sides ds)
    → (IsNone next → attributes set ≡ left_sides ds) → IfSome next (λ y. IsNextSubset (left_sides ds) (attributes set) (attributes y))
    → AreTriedIrreducible n ds (HasPartUpTo ds (attributes set)) found → IsWalk n ds next found
walk_on n ds set None found within set_in last is before = record {
  within = tt;
  passed = found_same n ds (HasPartUpTo ds (attributes set)) (IsPassedPart ds None) found (λ c _. tt)
      (λ c _ _.
      let x = intersection c (left_sides ds) in
      let x_in : IsSubset x (left_sides ds) = λ k m. grind (arith, m) in
      let low = left_sides_low n ds within in
      ⊎_elim inr
      (⊎_elim inl (λ after. absurd (whole-last (left_sides ds) x x_in (subst (λ (v : Attributes). IsBefore v x) (last refl) after))))
      (tell_before n x (attributes set) (λ k m. low k (x_in k m)) (λ k m. low k (set_in k m))))
      before;
}
walk_on n ds set (Some next) found within set_in last is before = record {
  within = is.within;
  passed = found_same n ds (HasPartUpTo ds (attributes set)) (IsPassedPart ds (Some next)) found
      (λ c up_to.
      let x = intersection c (left_sides ds) in
      ⊎_elim
      (λ earlier. IsBefore-trans x (attributes set) (attributes next) earlier is.after)
      (λ (same : x ≡ attributes set). subst (λ (v : Attributes). IsBefore v (attributes next)) (sym same) is.after)
      up_to)
      (λ c _ passed.
      let x = intersection c (left_sides ds) in
      let x_in : IsSubset x (left_sides ds) = λ k m. grind (arith, m) in
      ⊎_elim inr inl
      (next_subset-before n (left_sides ds) (attributes set) (attributes next) x (left_sides_low n ds within) set_in is x_in passed))
      before;
}

-- the next subset lies within the whole
pub next_within : (whole : Attributes) (set : AttrSet) (next : Option AttrSet) → IfSome next (λ y. IsNextSubset whole (attributes set) (attributes y))
    → IfSome next (λ y. IsSubset (attributes y) whole)
next_within whole set None is = tt
next_within whole set (Some next) is = is.within

-- ---- how far the walk is from its end
abbrev pub parts_left : Option AttrSet → ℕ
parts_left (Some set) = 2 ^ MOST_ATTRIBUTES - set.0
parts_left None = 0

less_from : (set : AttrSet) (next : Option AttrSet) → set.0 < 2 ^ MOST_ATTRIBUTES → IfSome next (λ y. set.0 < y.0) → parts_left next < parts_left (Some set)
less_from set None fits more = omega (arith, fits)
less_from set (Some next) fits more = omega (arith, fits, more)

pub parts_left-less : (set : AttrSet) (now next : Option AttrSet) → now ≡ Some set → set.0 < 2 ^ MOST_ATTRIBUTES
    → IfSome next (λ y. set.0 < y.0) → parts_left next < parts_left now
parts_left-less set now next is fits more = subst (λ (o : Option AttrSet). parts_left next < parts_left o) (sym is) (less_from set next fits more)

-- ---- the sets in their order
-- all parts were gone through, and what was found is sorted
pub found_sorted : (n : ℕ) (ds : List Dependency) (next : Option AttrSet) (found sorted : List AttrSet) → next ≡ None → IsWalk n ds next found
    → IsPermutation found sorted → IsSorted (λ (s t : AttrSet). nat_cmp s.0 t.0) sorted → AreFoundSets n ds sorted
found_sorted n ds next found sorted end walk moved in_order =
    let all : AreTriedIrreducible n ds (IsPassedPart ds None) found = subst (λ (o : Option AttrSet). AreTriedIrreducible n ds (IsPassedPart ds o) found) end walk.passed in
    let long = length_permutation found sorted moved in
    let differ = AllPairs-permutation (λ (s t : AttrSet). attributes s ≡ attributes t → ⊥) (λ s t other same. other (sym same)) found sorted moved all.differ in
    record {
      each = All-permutation (λ (s : AttrSet). IsIrreducible n ds (attributes s)) found sorted moved all.each;
      ascending = sorted_ascend sorted differ (All-permutation (λ (s : AttrSet). s.0 < 2 ^ MOST_ATTRIBUTES) found sorted moved all.numbers) in_order;
      within_limit = omega (arith, long, all.within_limit);
      all = λ few c is. Any-permutation (λ (s : AttrSet). attributes s ≡ c) found sorted moved (all.all (omega (arith, long, few)) c is tt);
    }

-- ---- the sets of attributes that were found
ascending_schemes : (sets : List AttrSet) → AllPairs (λ s t. IsBefore (attributes s) (attributes t)) sets → AllPairs IsBefore (schemes_of sets)
ascending_schemes sets ascending i j d before l =
    let within_limit : j < length sets = omega (arith, l, length-map sets attributes) in
    let e : AttrSet = record { 0 = 0 } in
    let first : get_or (schemes_of sets) i d ≡ attributes (get_or sets i e) = get_or-map attributes sets i e d (omega (arith, before, within_limit)) in
    let second : get_or (schemes_of sets) j d ≡ attributes (get_or sets j e) = get_or-map attributes sets j e d within_limit in
    subst (λ (x : Attributes). IsBefore x (get_or (schemes_of sets) j d)) (sym first)
    (subst (λ (y : Attributes). IsBefore (attributes (get_or sets i e)) y) (sym second) (ascending i j e before within_limit))

-- all of them, where they are few
pub found_all : (n : ℕ) (ds : List Dependency) (sets : List AttrSet) → AreFoundSets n ds sets → length sets < MOST_EXHIBITED_ROWS
    → AreIrreducible n ds (schemes_of sets)
found_all n ds sets found few = record {
  each = All-map (IsIrreducible n ds) attributes sets found.each;
  all = λ c is. Any-map (λ (x : Attributes). x ≡ c) sets (found.all few c is);
  ascending = ascending_schemes sets found.ascending;
}

-- too many, where they are as many as a relation has no rows for
pub found_too_many : (n : ℕ) (ds : List Dependency) (sets : List AttrSet) → AreFoundSets n ds sets → MOST_EXHIBITED_ROWS ≤ length sets
    → AreTooMany n ds (schemes_of sets)
found_too_many n ds sets found many = record {
  each = All-map (IsIrreducible n ds) attributes sets found.each;
  ascending = ascending_schemes sets found.ascending;
  count = omega (arith, many, length-map sets attributes);
}
