-- The keys of a scheme, by those of its attributes in left sides.
use Rattle.std.proofs.Common.{◌≡◌, ℕ, ◌≤◌, ◌↔◌, Bool, true, false, ◌||◌, List, sym, subst, ◌∙◌, inl, inr, ⊎_elim, arith}
use Rattle.std.proofs.lemmas.Bool.{cases_Bool, or_cases, true≢false, false_from_ne_true, ltb-true}
use Rattle.std.proofs.lemmas.Bool.Decides.{nat_tests}
use Rattle.std.specs.Prelude.{All}
use Rattle.attr_sets.specs.declared.set.TheConstants.{MOST_ATTRIBUTES}
use Rattle.attr_sets.specs.Attributes.{Attributes, below, only, union, intersection, IsSubset, IsBefore, Disjoint}
use Rattle.attr_sets.proofs.AttributesLemmas.{same_from_within}
use Rattle.dep_model.specs.declared.dep.Dep.{Dep}
use Rattle.dep_model.specs.Dependencies.{Dependency, left_of}
use Rattle.dep_model.specs.Deps.{dependency_of, dependencies_of, IsDepWithin}
use Rattle.dep_model.specs.Keys.{IsSuperkey, IsKey, InClosure}
use Rattle.dep_model.proofs.DepLemmas.{dependencies_all-to}
use Rattle.dep_model.proofs.KeyLemmas.{superkey-from, fd_on-to}
use Rattle.dep_model.proofs.RuleLemmas.{reflexivity_obeyed, fd_weaker_obeyed}
use Rattle.fd_closure.specs.LeftSides.{left_sides}
use Rattle.fd_closure.proofs.ClosureLemmas.{fd_each-to, fd_each-from}
use Rattle.fd_closure.proofs.LeftSideLemmas.{left_sides_in, left_sides_each}
use Rattle.dep_basis.proofs.RestLemmas.{closure_rest, block_at}
use Rattle.key_listing.specs.Narrowing.{AreUndetermined}

module _ (n : ℕ) (ds : List Dep) (scheme rest : Attributes) (within_limit : n ≤ MOST_ATTRIBUTES) (within : All (IsDepWithin (below n)) ds)
    (low : IsSubset scheme (below n)) (is : AreUndetermined n (dependencies_of ds) scheme rest) where
  abbrev D : List Dependency
  D = dependencies_of ds

  abbrev l : Attributes
  l = left_sides D

  abbrev common : Attributes
  common = intersection scheme l

  lefts : All (λ d. IsSubset (left_of (dependency_of d)) l) ds
  lefts = dependencies_all-to (λ (d : Dependency). IsSubset (left_of d) l) ds (left_sides_each D l (λ a h. (left_sides_in D a).1 h))

  -- what a set determines of its members and of what a part determines
  member_closed : (x : Attributes) (a : ℕ) → scheme a ≡ true → x a ≡ true → InClosure n D x a
  member_closed x a in_scheme m = (ltb-true a n (low a in_scheme), λ r legal. reflexivity_obeyed x (only a) r (λ (k : ℕ) e. grind (arith, nat_tests, e, m)))

  closed_more : (x y : Attributes) (a : ℕ) → IsSubset x y → InClosure n D x a → InClosure n D y a
  closed_more x y a inside h = (h.0, λ r legal. fd_weaker_obeyed x (only a) y (only a) r inside (λ (k : ℕ) m. m) (h.1 r legal))

  -- a superkey determines each attribute, and what does is one
  each_closed : (part x : Attributes) (a : ℕ) → IsSubset part scheme → IsSuperkey n D part x → part a ≡ true → InClosure n D x a
  each_closed part x a part_in superkey m = (ltb-true a n (low a (part_in a m)), fd_each-to n D x part (fd_on-to n D part x part superkey) a m)

  superkey_each : (part x : Attributes) → IsSubset x part → ((a : ℕ) → part a ≡ true → InClosure n D x a) → IsSuperkey n D part x
  superkey_each part x inside each = superkey-from n D part x inside (fd_each-from n D x part (λ a m. (each a m).1))

  -- the attributes in left sides determine each other attribute but these
  common_closed : (a : ℕ) → scheme a ≡ true → rest a ≡ false → InClosure n D common a
  common_closed a member out = elim (cases_Bool (l a)) [
    | inl used ↦ member_closed common a member (grind (arith, member, used))
    | inr unused ↦
        ⊎_elim
        (λ closed. closed)
        (λ one. absurd (true≢false (sym ((is a).1 (record { member = member; unused = unused; undetermined = λ h. one.1.outside a one.2 h })) ∙ out)))
        (block_at n ds common a within_limit within (λ k m. low k (grind (arith, m))) (ltb-true a n (low a member)))
  ]

  -- a superkey of the scheme has these, and what it has in left sides determines all that is there
  rest_in : (x : Attributes) → IsSuperkey n D scheme x → IsSubset rest x
  rest_in x superkey a m =
      let one = (is a).0 m in
      ⊎_elim
      (λ here. here.1)
      (λ closed. absurd (one.undetermined (closed_more (intersection x l) common a (λ k h. let in_scheme = superkey.within.0 k (grind (arith, h)) in grind (arith, h, in_scheme)) closed)))
      ((closure_rest n ds l x within_limit within lefts (λ k h. low k (superkey.within.0 k h)) a).0 (each_closed scheme x a (λ k h. h) superkey one.member))

  part_superkey : (x : Attributes) → IsSuperkey n D scheme x → IsSuperkey n D common (intersection x l)
  part_superkey x superkey = superkey_each common (intersection x l) (λ k m. let in_scheme = superkey.within.0 k (grind (arith, m)) in grind (arith, m, in_scheme)) (λ a m.
      let in_scheme : scheme a ≡ true = grind (arith, m) in
      ⊎_elim
      (λ here. member_closed (intersection x l) a in_scheme (grind (arith, here.1, m)))
      (λ closed. closed)
      ((closure_rest n ds l x within_limit within lefts (λ k h. low k (superkey.within.0 k h)) a).0 (each_closed scheme x a (λ k h. h) superkey in_scheme)))

  -- and with these a superkey of what is in left sides is one of the scheme
  whole_superkey : (j : Attributes) → IsSuperkey n D common j → IsSuperkey n D scheme (union rest j)
  whole_superkey j superkey = superkey_each scheme (union rest j) union_in (λ a m. elim (cases_Bool (rest a)) [
    | inl needed ↦ member_closed (union rest j) a m (grind (arith, needed))
    | inr out ↦ (
      ltb-true a n (low a m),
      λ r legal t u t_in u_in agree.
          (common_closed a m out).1 r legal t u t_in u_in (λ k h. fd_on-to n D common j common superkey r legal t u t_in u_in (λ i e. agree i (grind (arith, e))) k h),
    )
  ])
    where
      union_in : IsSubset (union rest j) scheme
      union_in k m = elim (or_cases (rest k) (j k) m) [
        | inl needed ↦ ((is k).0 needed).member
        | inr in_j ↦ let inside = superkey.within.0 k in_j in grind (arith, inside)
      ]

  rest_beside : (k : ℕ) → l k ≡ true → rest k ≡ false
  rest_beside k used = false_from_ne_true (rest k) (λ m. true≢false (sym used ∙ ((is k).0 m).unused))

  -- what the set has in left sides
  part_of_union : (j : Attributes) → IsSubset j common → IsSubset (intersection (union rest j) l) j
  part_of_union j inside k m =
      let used : l k ≡ true = grind (arith, m) in
      let out = rest_beside k used in
      grind (arith, m, out)

  key_to : (k : Attributes) → IsKey n D scheme k → (j : Attributes) × IsKey n D common j × (k ≡ union rest j)
  key_to k key =
      let j = intersection k l in
      let j_superkey = part_superkey k key.superkey in
      let needed = rest_in k key.superkey in
      let back : (v : Attributes) → IsSubset v j → IsSuperkey n D common v → IsSubset k (union rest v) =
      λ v inside superkey. key.minimal (union rest v) (λ i m. elim (or_cases (rest i) (v i) m) [
        | inl here ↦ needed i here
        | inr in_v ↦ let both = inside i in_v in grind (arith, both)
      ]) (whole_superkey v superkey) in (
        j,
        record {
          superkey = j_superkey;
          minimal = λ v inside superkey i m.
              let both : (k i ≡ true) × (l i ≡ true) = (grind (arith, m), grind (arith, m)) in
              part_of_union v superkey.within.0 i (let all = back v inside superkey i both.0 in grind (arith, all, both.1));
        },
        same_from_within k (union rest j) (back j (λ i m. m) j_superkey) (λ i m. elim (or_cases (rest i) (j i) m) [
          | inl here ↦ needed i here
          | inr in_j ↦ grind (arith, in_j)
        ]),
      )

  key_from : (j : Attributes) → IsKey n D common j → IsKey n D scheme (union rest j)
  key_from j key = record {
    superkey = whole_superkey j key.superkey;
    minimal = λ v inside superkey i m.
        let part = key.minimal (intersection v l) (λ a e. part_of_union j key.superkey.within.0 a (let in_v : v a ≡ true = grind (arith, e) in let in_union = inside a in_v in grind (arith, e, in_union))) (part_superkey v superkey) in
        elim (or_cases (rest i) (j i) m) [
          | inl here ↦ rest_in v superkey i here
          | inr in_j ↦ let both = part i in_j in grind (arith, both)
        ];
  }

  pub keys_by_left_sides : (k : Attributes) → IsKey n D scheme k ↔ ((j : Attributes) × IsKey n D common j × (k ≡ union rest j))
  keys_by_left_sides k = (key_to k, (λ h. subst (λ (v : Attributes). IsKey n D scheme v) (sym h.2) (key_from h.0 h.1)))

-- ---- their order
beside_same : (r p q : Bool) → (p ≡ true → r ≡ false) → (q ≡ true → r ≡ false) → (r || p) ≡ (r || q) → p ≡ q
beside_same false p q p_out q_out same = same
beside_same true p q p_out q_out same = false_from_ne_true p (λ m. true≢false (p_out m)) ∙ sym (false_from_ne_true q (λ m. true≢false (q_out m)))

pub ascend_alike : (rest x y : Attributes) → Disjoint x rest → Disjoint y rest → IsBefore x y ↔ IsBefore (union rest x) (union rest y)
ascend_alike rest x y x_beside y_beside = (
  (λ b. (b.0, (let out = y_beside b.0 b.2 in grind (arith, out, b.1)), grind (arith, b.2), (λ j less. let same = b.3 j less in grind (arith, same)))),
  (λ b.
      let out : rest b.0 ≡ false = grind (arith, b.1) in (
        b.0,
        grind (arith, b.1),
        grind (arith, b.2, out),
        (λ j less. beside_same (rest j) (x j) (y j) (x_beside j) (y_beside j) (b.3 j less)),
      )),
)
