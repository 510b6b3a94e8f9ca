-- The fixed whole cover with its left sides merged: it says the same, and its functional part is a canonical
-- cover.
use Rattle.std.proofs.Common.{◌≡◌, ℕ, ◌≤◌, ◌<◌, suc, Bool, true, false, List, [], ◌∷◌, ◌++◌, take, drop, length, refl, sym, ap, subst, ◌∙◌, ⊎_elim, inl, inr, append_assoc, arith}
use Rattle.std.specs.Prelude.{All, AllPairs, Contains}
use Rattle.std.proofs.lemmas.Bool.{true≢false, false≢true, and_parts, eqb-true, eq-eqb, ltb-true, lt-ltb}
use Rattle.std.proofs.lemmas.Bool.Decides.{nat_tests}
use Rattle.std.proofs.lemmas.List.Elements.{All-nil, All-cons, All-head, All-tail, All-append, All-contains, Contains-append_left, Contains-append_right, Contains-append_cases}
use Rattle.attr_sets.specs.declared.set.TheConstants.{MOST_ATTRIBUTES}
use Rattle.attr_sets.specs.Attributes.{Attributes, below, only, difference, IsSubset, IsEmpty}
use Rattle.attr_sets.proofs.AttributesLemmas.{is_same-true, is_same-from}
use Rattle.dep_model.specs.Tuples.{Relation}
use Rattle.dep_model.specs.Dependencies.{Dependency, fd, mvd, Obeys, ObeysFd, is_fd, functional_part, left_of, right_of, IsWithin}
use Rattle.dep_model.specs.Implication.{IsLegal, Implies}
use Rattle.dep_model.proofs.ListLemmas.{Contains-head, Contains-later, Contains-cases, All-members, cons_parts}
use Rattle.dep_model.proofs.PairLemmas.{first_pairs, later_pairs}
use Rattle.dep_model.proofs.RuleLemmas.{fd_weaker_obeyed}
use Rattle.min_cover.specs.Covers.{HaveSameLegal, IsFixedWholeCover, IsMinimalCover, IsSingle, IsWholeCover}
use Rattle.min_cover.proofs.ListLemmas.{All-left, All-right, split_later}
use Rattle.canonical_cover.specs.Merging.{have_same_left, merge_left_sides}
use Rattle.canonical_cover.specs.Canonical.{IsCanonicalCover}
use Rattle.canonical_cover.proofs.MergeLemmas.{merged_within, same_left-sym}
use Rattle.canonical_cover.proofs.MembershipLemmas.{ComesFrom, GivesRight, comes_from, goes_into, merged_once, multivalued_stays}
use Rattle.canonical_cover.proofs.WholeLemmas.{AreFunctional, AreMultivalued, IsParted, functional_front, merged_functional, merged_parts}

-- ---- lists
-- a member stands between others
pub member_split : {X : Type 0} (xs : List X) (x : X) → Contains xs x
    → (before : List X) × (after : List X) × (xs ≡ before ++ x ∷ after)
member_split [] x has = absurd (omega (arith, has.1))
member_split {X = X} (y ∷ ys) x has =
    ⊎_elim
    (λ (here : x ≡ y). ([], ys, ap (λ (z : X). z ∷ ys) (sym here)))
    (λ there.
    let parts = member_split ys x there in
    (y ∷ parts.0, parts.1, ap (λ (zs : List X). y ∷ zs) parts.2))
    (Contains-cases y ys x has)

-- what holds of each two of a list holds of one and those beside it
pairs_beside : {X : Type 0} (R : X → X → Type 0) → ((x y : X) → R x y → R y x) → (before after : List X) (x : X) → AllPairs R (before ++ x ∷ after)
    → (y : X) → Contains (before ++ after) y → R x y
pairs_beside R turned [] after x pairs y has = first_pairs R x after y pairs has
pairs_beside R turned (b ∷ before) after x pairs y has =
    ⊎_elim
    (λ (here : y ≡ b).
    subst (λ z. R x z) (sym here)
    (turned b x (first_pairs R b (before ++ x ∷ after) x pairs (Contains-append_right before (x ∷ after) x (Contains-head x after)))))
    (λ there. pairs_beside R turned before after x (later_pairs R b (before ++ x ∷ after) pairs) y there)
    (Contains-cases b (before ++ after) y has)

-- ---- what a merged list says
module _ (n : ℕ) (within_limit : n ≤ MOST_ATTRIBUTES) (ds : List Dependency) (within : All (IsWithin (below n)) ds) where
  low : (x : Attributes) → IsSubset x (below n) → IsSubset x (below MOST_ATTRIBUTES)
  low x x_in k m = lt-ltb k MOST_ATTRIBUTES (omega (arith, within_limit, ltb-true k n (x_in k m)))

  left_in : (es : List Dependency) → All (IsWithin (below n)) es → (d : Dependency) → Contains es d → IsSubset (left_of d) (below n)
  left_in es all d has = (All-contains (IsWithin (below n)) es d all has).0

  -- those with the same left side have one left side
  one_left : (x y : Attributes) (d : Dependency) → IsSubset x (below n) → IsWithin (below n) d → have_same_left (fd x y) d ≡ true
      → d ≡ fd x (right_of d)
  one_left x y (fd v w) x_in d_in same =
      ap (λ (z : Attributes). fd z w) (sym (is_same-true x v (low x x_in) (low v d_in.0) same))
  one_left x y (mvd v w) x_in d_in same = absurd (false≢true same)

  merged_in : All (IsWithin (below n)) (merge_left_sides ds)
  merged_in = merged_within (below n) ds within

  -- one that gives a right side is a functional one of the list with this left side
  pub giver_is : (x y : Attributes) (k : ℕ) → IsSubset x (below n) → GivesRight ds (fd x y) k → (z : Attributes) × Contains ds (fd x z) × (z k ≡ true)
  giver_is x y k x_in gives =
      let d_in = All-contains (IsWithin (below n)) ds gives.giver within gives.held in
      let is = one_left x y gives.giver x_in d_in gives.same in (
        right_of gives.giver,
        subst (λ (d : Dependency). Contains ds d) is gives.held,
        gives.right,
      )

  -- a relation that obeys the list obeys the merged one
  pub merged_obeyed-from : (r : Relation) → All (λ d. Obeys n d r) ds → All (λ d. Obeys n d r) (merge_left_sides ds)
  merged_obeyed-from r all = All-members (λ d. Obeys n d r) (merge_left_sides ds) each
    where
      each : (e : Dependency) → Contains (merge_left_sides ds) e → Obeys n e r
      each (mvd x y) has = All-contains (λ d. Obeys n d r) ds (mvd x y) all (comes_from ds (mvd x y) has)
      each (fd x y) has = λ t u t_in u_in agree k member.
          let from = comes_from ds (fd x y) has in
          let found = giver_is x y k (left_in (merge_left_sides ds) merged_in (fd x y) has) (from.given k member) in
          All-contains (λ d. Obeys n d r) ds (fd x found.0) all found.1 t u t_in u_in agree k found.2

  -- and the other way round
  pub merged_obeyed-to : (r : Relation) → All (λ d. Obeys n d r) (merge_left_sides ds) → All (λ d. Obeys n d r) ds
  merged_obeyed-to r all = All-members (λ d. Obeys n d r) ds each
    where
      each : (d : Dependency) → Contains ds d → Obeys n d r
      each (mvd x y) has = All-contains (λ e. Obeys n e r) (merge_left_sides ds) (mvd x y) all (multivalued_stays ds x y has)
      each (fd x y) has =
          let into = goes_into ds x y has in
          let x_in = left_in ds within (fd x y) has in
          let target_in = All-contains (IsWithin (below n)) (merge_left_sides ds) into.target merged_in into.held in
          let is = one_left x y into.target x_in target_in (same_left-sym into.target (fd x y) into.same) in
          let obeyed : ObeysFd x (right_of into.target) r =
          All-contains (λ e. Obeys n e r) (merge_left_sides ds) (fd x (right_of into.target)) all
          (subst (λ (e : Dependency). Contains (merge_left_sides ds) e) is into.held) in
          fd_weaker_obeyed x (right_of into.target) x y r (λ k m. m) into.inside obeyed

  pub merged_legal : HaveSameLegal n (merge_left_sides ds) ds
  merged_legal r = (
    (λ legal. record { over = legal.over; obeys = merged_obeyed-to r legal.obeys }),
    (λ legal. record { over = legal.over; obeys = merged_obeyed-from r legal.obeys }),
  )

-- ---- a canonical cover
module _ (n : ℕ) (within_limit : n ≤ MOST_ATTRIBUTES) (ds fs : List Dependency) (within : All (IsWithin (below n)) fs) (minimal : IsMinimalCover n ds fs) where
  functional : AreFunctional fs
  functional = All-members (λ d. is_fd d ≡ true) fs (λ d has. ap is_fd (All-contains IsSingle fs d minimal.single has).2)

  abbrev merged : List Dependency
  merged = merge_left_sides fs

  each_left : (d : Dependency) → Contains merged d → IsSubset (left_of d) (below n)
  each_left d has = (All-contains (IsWithin (below n)) merged d (merged_within (below n) fs within) has).0

  -- each attribute on the right comes from a member of the minimal cover
  member_of : (x y : Attributes) (k : ℕ) → Contains merged (fd x y) → y k ≡ true → Contains fs (fd x (only k))
  member_of x y k has right =
      let found = giver_is n within_limit fs within x y k (each_left (fd x y) has) ((comes_from fs (fd x y) has).given k right) in
      let single = All-contains IsSingle fs (fd x found.0) minimal.single found.1 in
      let rights : found.0 ≡ only single.1 = ap (λ (d : Dependency). right_of d) single.2 in
      let attribute : k ≡ single.1 = eqb-true k single.1 (sym (ap (λ (z : Attributes). z k) rights) ∙ found.2) in
      subst (λ (z : Attributes). Contains fs (fd x z)) (rights ∙ ap only (sym attribute)) found.1

  -- there is one
  some_member : (x y : Attributes) → Contains merged (fd x y) → (k : ℕ) × (y k ≡ true)
  some_member x y has =
      let from = comes_from fs (fd x y) has in
      let single = All-contains IsSingle fs (fd x from.first) minimal.single from.held in
      let rights : from.first ≡ only single.1 = ap (λ (d : Dependency). right_of d) single.2 in
      (single.1, from.inside single.1 (ap (λ (z : Attributes). z single.1) rights ∙ eq-eqb single.1 single.1 refl))

  has_some : (d : Dependency) → Contains merged d → IsEmpty (right_of d) → ⊥
  has_some (fd x y) has empty = let some = some_member x y has in true≢false (sym some.1 ∙ empty some.0)
  has_some (mvd x y) has empty = absurd (false≢true (All-contains (λ d. is_fd d ≡ true) merged (mvd x y) (merged_functional fs functional) has))

  left_needed : (d : Dependency) → Contains merged d → (i : ℕ) → left_of d i ≡ true
      → Implies n (functional_part ds) (fd (difference (left_of d) (only i)) (right_of d)) → ⊥
  left_needed (mvd x y) has i member implied = absurd (false≢true (All-contains (λ d. is_fd d ≡ true) merged (mvd x y) (merged_functional fs functional) has))
  left_needed (fd x y) has i member implied =
      let some = some_member x y has in
      let short = difference x (only i) in
      minimal.short (fd x (only some.0)) (member_of x y some.0 has some.1) i member
      (λ r legal. fd_weaker_obeyed short y short (only some.0) r (λ k m. m)
      (λ k m. ap y (eqb-true k some.0 m) ∙ some.1) (implied r legal))

  same_functional : HaveSameLegal n merged (functional_part ds)
  same_functional r =
      let own = merged_legal n within_limit fs within r in
      let given = minimal.same_legal r in
      ((λ legal. given.0 (own.0 legal)), (λ legal. own.1 (given.1 legal)))

  -- a member of a split cover, other than the one in the middle
  other_member : (before after : List Dependency) (d e : Dependency) → Contains (before ++ d ∷ after) e → (e ≡ d → ⊥) → Contains (before ++ after) e
  other_member before after d e has other =
      ⊎_elim
      (λ front. Contains-append_left before after e front)
      (λ back. ⊎_elim (λ here. absurd (other here)) (λ there. Contains-append_right before after e there) (Contains-cases d after e back))
      (Contains-append_cases before (d ∷ after) e has)

  right_needed : (before after : List Dependency) (x y : Attributes) (i : ℕ) → merged ≡ before ++ fd x y ∷ after → y i ≡ true
      → Implies n (before ++ fd x (difference y (only i)) ∷ after) (fd x (only i)) → ⊥
  right_needed before after x y i split member implied =
      minimal.needed parts.0 parts.1 (fd x (only i)) parts.2
      (λ r legal. implied r (record {
        over = legal.over;
        obeys = All-append (λ d. Obeys n d r) before (fd x (difference y (only i)) ∷ after)
            (All-members (λ d. Obeys n d r) before (λ d has. beside_obeyed r legal.obeys d (Contains-append_left before after d has)))
            (All-cons (λ d. Obeys n d r) (fd x (difference y (only i))) after (rest_obeyed r legal.obeys)
            (All-members (λ d. Obeys n d r) after (λ d has. beside_obeyed r legal.obeys d (Contains-append_right before after d has))));
      }))
    where
      here : Contains merged (fd x y)
      here = subst (λ (es : List Dependency). Contains es (fd x y)) (sym split)
          (Contains-append_right before (fd x y ∷ after) (fd x y) (Contains-head (fd x y) after))

      parts : (front : List Dependency) × (back : List Dependency) × (fs ≡ front ++ fd x (only i) ∷ back)
      parts = member_split fs (fd x (only i)) (member_of x y i here member)

      -- what is left of the minimal cover obeys a member other than this one
      given : (r : Relation) → All (λ d. Obeys n d r) (parts.0 ++ parts.1) → (d : Dependency) → Contains fs d → (d ≡ fd x (only i) → ⊥) → Obeys n d r
      given r all d has other =
          All-contains (λ e. Obeys n e r) (parts.0 ++ parts.1) d all
          (other_member parts.0 parts.1 (fd x (only i)) d (subst (λ (es : List Dependency). Contains es d) parts.2 has) other)

      rest_obeyed : (r : Relation) → All (λ d. Obeys n d r) (parts.0 ++ parts.1) → ObeysFd x (difference y (only i)) r
      rest_obeyed r all t u t_in u_in agree k in_rest =
          let both = and_parts (y k) _ in_rest in
          given r all (fd x (only k)) (member_of x y k here both.0)
          (λ same.
          let is : only k k ≡ only i k = ap (λ (d : Dependency). right_of d k) same in
          true≢false (grind (arith, nat_tests, in_rest, is)))
          t u t_in u_in agree k (eq-eqb k k refl)

      apart : (e : Dependency) → Contains (before ++ after) e → have_same_left (fd x y) e ≡ true → ⊥
      apart e has = pairs_beside (λ d f. have_same_left d f ≡ true → ⊥) (λ d f other same. other (same_left-sym f d same)) before after (fd x y)
          (subst (λ (es : List Dependency). AllPairs (λ d f. have_same_left d f ≡ true → ⊥) es) split (merged_once fs)) e has

      held : (e : Dependency) → Contains (before ++ after) e → Contains merged e
      held e has = subst (λ (es : List Dependency). Contains es e) (sym split)
          (⊎_elim
          (λ front. Contains-append_left before (fd x y ∷ after) e front)
          (λ back. Contains-append_right before (fd x y ∷ after) e (Contains-later (fd x y) after e back))
          (Contains-append_cases before after e has))

      beside_obeyed : (r : Relation) → All (λ d. Obeys n d r) (parts.0 ++ parts.1) → (e : Dependency) → Contains (before ++ after) e → Obeys n e r
      beside_obeyed r all (mvd v w) has =
          absurd (false≢true (All-contains (λ d. is_fd d ≡ true) merged (mvd v w) (merged_functional fs functional) (held (mvd v w) has)))
      beside_obeyed r all (fd v w) has = λ t u t_in u_in agree k right.
          given r all (fd v (only k)) (member_of v w k (held (fd v w) has) right)
          (λ same. apart (fd v w) has (is_same-from x v (sym (ap (λ (d : Dependency). left_of d) same))))
          t u t_in u_in agree k (eq-eqb k k refl)

  pub merged_is_canonical : IsCanonicalCover n ds (merge_left_sides fs)
  merged_is_canonical = record {
    functional = merged_functional fs functional;
    same_legal = same_functional;
    once = λ i j d less short same.
        let j_is = merged_functional fs functional j d short in
        let i_is = merged_functional fs functional i d (omega (arith, less, short)) in
        merged_once fs i j d less short (same_lefts _ _ i_is j_is same);
    some_right = All-members (λ d. IsEmpty (right_of d) → ⊥) merged has_some;
    short_left = left_needed;
    short_right = right_needed;
  }
    where
      same_lefts : (d e : Dependency) → is_fd d ≡ true → is_fd e ≡ true → left_of d ≡ left_of e → have_same_left d e ≡ true
      same_lefts (fd x y) (fd v w) d_is e_is same = is_same-from x v same
      same_lefts (fd x y) (mvd v w) d_is e_is same = absurd (false≢true e_is)
      same_lefts (mvd x y) e d_is e_is same = absurd (false≢true d_is)

-- ---- the whole
-- the functional part of a whole cover with its left sides merged is a canonical cover
pub whole_canonical : (n : ℕ) (ds whole : List Dependency) → n ≤ MOST_ATTRIBUTES → All (IsWithin (below n)) whole → IsParted whole
    → IsMinimalCover n ds (functional_part whole) → IsCanonicalCover n ds (functional_part (merge_left_sides whole))
whole_canonical n ds whole within_limit within parted minimal =
    let fs = parted.front in
    let ms = parted.back in
    let first : functional_part whole ≡ fs = ap functional_part parted.all ∙ functional_front fs ms parted.functional parted.multivalued in
    let front_in = All-left (IsWithin (below n)) fs ms (subst (λ (es : List Dependency). All (IsWithin (below n)) es) parted.all within) in
    let canonical = merged_is_canonical n within_limit ds fs front_in (subst (λ (es : List Dependency). IsMinimalCover n ds es) first minimal) in
    let merged : functional_part (merge_left_sides whole) ≡ merge_left_sides fs =
    ap functional_part (ap merge_left_sides parted.all ∙ merged_parts fs ms parted.multivalued)
    ∙ functional_front (merge_left_sides fs) ms (merged_functional fs parted.functional) parted.multivalued in
    subst (λ (es : List Dependency). IsCanonicalCover n ds es) (sym merged) canonical

-- and none of its multivalued dependencies follows from the rest
pub whole_stays : (n : ℕ) (ds whole : List Dependency) → n ≤ MOST_ATTRIBUTES → All (IsWithin (below n)) whole → IsParted whole
    → IsWholeCover n ds whole → IsWholeCover n ds (merge_left_sides whole)
whole_stays n ds whole within_limit within parted cover = record {
  same_legal = λ r.
      let own = merged_legal n within_limit whole within r in
      let given = cover.same_legal r in
      ((λ legal. given.0 (own.0 legal)), (λ legal. own.1 (given.1 legal)));
  needed = λ before after d split kind implied.
      let fs = parted.front in
      let ms = parted.back in
      let P : Dependency → Type 0 = λ d. is_fd d ≡ true in
      let parts : merge_left_sides whole ≡ merge_left_sides fs ++ ms = ap merge_left_sides parted.all ∙ merged_parts fs ms parted.multivalued in
      let (middle, front, back) = split_later P (merge_left_sides fs) ms before after d (merged_functional fs parted.functional)
      (λ is. true≢false (sym is ∙ kind)) (sym parts ∙ split) in
      let whole_split : whole ≡ (fs ++ middle) ++ d ∷ after =
      parted.all ∙ ap (λ (es : List Dependency). fs ++ es) back ∙ sym (append_assoc fs middle (d ∷ after)) in
      let fs_in = All-left (IsWithin (below n)) fs ms (subst (λ (es : List Dependency). All (IsWithin (below n)) es) parted.all within) in
      cover.needed (fs ++ middle) after d whole_split kind
      (λ r legal.
      let O : Dependency → Type 0 = λ e. Obeys n e r in
      let front_obeyed = All-left O (fs ++ middle) after legal.obeys in
      let merged_front = merged_obeyed-from n within_limit fs fs_in r (All-left O fs middle front_obeyed) in
      implied r (record {
        over = legal.over;
        obeys = All-append O before after
            (subst (λ (es : List Dependency). All O es) (sym front) (All-append O (merge_left_sides fs) middle merged_front (All-right O fs middle front_obeyed)))
            (All-right O (fs ++ middle) after legal.obeys);
      }));
}
