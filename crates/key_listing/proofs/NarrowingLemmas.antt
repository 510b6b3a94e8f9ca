-- Attributes of a scheme that are in each of its keys, and those that are in none; and the keys of what is
-- left of a scheme without the latter.
use Rattle.std.proofs.Common.{◌≡◌, ℕ, ◌+◌, ◌<◌, ◌≤◌, ◌↔◌, true, false, List, length, get_or, refl, sym, ap, subst, ◌∙◌, inl, inr, ⊎_elim, arith}
use Rattle.std.proofs.lemmas.Bool.{cases_Bool, cases_eq, true≢false, true_from_ne_false, false_from_ne_true, ltb-true}
use Rattle.std.proofs.lemmas.Bool.Decides.{nat_tests}
use Rattle.std.proofs.lemmas.List.Elements.{Contains-get_or}
use Rattle.std.specs.Prelude.{All}
use Rattle.attr_sets.specs.declared.set.AttrSet.{AttrSet}
use Rattle.attr_sets.specs.declared.set.TheConstants.{MOST_ATTRIBUTES}
use Rattle.attr_sets.specs.Attributes.{Attributes, below, only, union, intersection, difference, IsSubset}
use Rattle.attr_sets.specs.Sets.{attributes}
use Rattle.dep_model.specs.declared.dep.Dep.{Dep}
use Rattle.dep_model.specs.Dependencies.{Dependency, fd, left_of}
use Rattle.dep_model.specs.Deps.{dependency_of, dependencies_of, IsDepWithin}
use Rattle.dep_model.specs.Implication.{Implies}
use Rattle.dep_model.specs.Keys.{IsSuperkey, IsKey, InClosure}
use Rattle.dep_model.proofs.DepLemmas.{dependencies_all-to}
use Rattle.dep_model.proofs.ListLemmas.{Contains-map}
use Rattle.dep_model.proofs.KeyLemmas.{superkey-from, superkey_more, fd_on-to, key_of_superkey}
use Rattle.dep_model.proofs.RuleLemmas.{reflexivity_obeyed, transitivity_obeyed, fd_weaker_obeyed}
use Rattle.fd_closure.specs.LeftSides.{InLeftSide}
use Rattle.fd_closure.proofs.ClosureLemmas.{fd_each-to, fd_each-from}
use Rattle.fd_closure.proofs.LeftSideLemmas.{left_sides_each}
use Rattle.dep_basis.proofs.RestLemmas.{closure_rest}
use Rattle.key_listing.specs.Listing.{AreFoundKeys}
use Rattle.key_listing.specs.Narrowing.{IsInEveryKey, IsInNoKey, DropsAttributesInNoKey}
use Rattle.attr_sets.proofs.AttributesLemmas.{same_at}

-- ---- in each key
pub in_every_key_in_superkey : (n : ℕ) (ds : List Dependency) (scheme x : Attributes) (a : ℕ) → IsInEveryKey n ds scheme a → IsSuperkey n ds scheme x → x a ≡ true
in_every_key_in_superkey n ds scheme x a in_every_key superkey = true_from_ne_false (x a) (λ out. in_every_key.others (superkey_more n ds scheme x (difference scheme (only a)) (beside out) (λ k m. grind (arith, m)) superkey))
  where
    beside : x a ≡ false → IsSubset x (difference scheme (only a))
    beside out k m = elim (cases_eq k a) [
      | inl same ↦ absurd (true≢false (sym m ∙ ap x same ∙ out))
      | inr other ↦ grind (arith, nat_tests, superkey.within.0 k m)
    ]

-- the attributes before i with a property are in a set, and so is i
pub member_added : (P : ℕ → Type 0) (so_far more : Attributes) (i : ℕ) → ((a : ℕ) → (so_far a ≡ true) ↔ ((a < i) × P a)) → more ≡ union so_far (only i) → P i
    → (a : ℕ) → (more a ≡ true) ↔ ((a < i + 1) × P a)
member_added P so_far more i before is here a = elim (cases_eq a i) [
  | inl same ↦ ((λ _. (omega (arith, same), subst P (sym same) here)), (λ _. grind (arith, nat_tests, same_at is a, same)))
  | inr other ↦ (
    (λ m. let old = (before a).0 (grind (arith, nat_tests, same_at is a, m, other)) in (omega (arith, old.0), old.1)),
    (λ h. let old = (before a).1 (omega (arith, h.0, other), h.1) in grind (arith, same_at is a, old)),
  )
]

pub member_left_out : (P : ℕ → Type 0) (so_far : Attributes) (i : ℕ) → ((a : ℕ) → (so_far a ≡ true) ↔ ((a < i) × P a)) → (P i → ⊥) → (a : ℕ) → (so_far a ≡ true) ↔ ((a < i + 1) × P a)
member_left_out P so_far i before none a = (
  (λ m. let old = (before a).0 m in (omega (arith, old.0), old.1)),
  (λ h. elim (cases_eq a i) [
    | inl same ↦ absurd (none (subst P same h.1))
    | inr other ↦ (before a).1 (omega (arith, h.0, other), h.1)
  ]),
)

-- ---- in no key
module _ (n : ℕ) (ds : List Dep) (within_limit : n ≤ MOST_ATTRIBUTES) (within : All (IsDepWithin (below n)) ds) where
  -- what a set determines beyond itself, it determines without attributes that are in no left side
  determined_beyond : (l x rest : Attributes) (a : ℕ) → All (λ d. IsSubset (left_of (dependency_of d)) l) ds → IsSubset x (below n) → IsSubset (intersection x l) rest → x a ≡ false → a < n
      → Implies n (dependencies_of ds) (fd x (only a)) → Implies n (dependencies_of ds) (fd rest (only a))
  determined_beyond l x rest a lefts x_in inside out low implied =
      ⊎_elim
      (λ (here : (a < n) × (x a ≡ true)). absurd (true≢false (sym here.1 ∙ out)))
      (λ closed r legal. fd_weaker_obeyed (intersection x l) (only a) rest (only a) r inside (λ k m. m) (closed.1 r legal))
      ((closure_rest n ds l x within_limit within lefts x_in a).0 (low, implied))

  module _ (scheme : Attributes) (low : IsSubset scheme (below n)) where
    -- an attribute in no left side is in none of those within the rest
    unused_outside : (a : ℕ) (i : ℕ) (d : Dep) (k : ℕ) → IsInNoKey n (dependencies_of ds) scheme a → i < length ds → left_of (dependency_of (get_or ds i d)) k ≡ true → k ≡ a → ⊥
    unused_outside a i d k in_no_key short member same =
        in_no_key.unused (dependency_of (get_or ds i d), Contains-map dependency_of ds (get_or ds i d) (Contains-get_or ds i d short), sym (ap (left_of (dependency_of (get_or ds i d))) same) ∙ member)

    pub in_no_key_in_no_key : (a : ℕ) (k : Attributes) → IsInNoKey n (dependencies_of ds) scheme a → IsKey n (dependencies_of ds) scheme k → k a ≡ false
    in_no_key_in_no_key a k in_no_key key = false_from_ne_true (k a) (λ inside. true≢false (sym (key.minimal rest rest_in (superkey-from n (dependencies_of ds) scheme rest rest_within whole) a inside) ∙ grind (arith, nat_tests)))
      where
        rest : Attributes
        rest = difference k (only a)

        rest_in : IsSubset rest k
        rest_in j m = grind (arith, m)

        rest_within : IsSubset rest scheme
        rest_within j m = key.superkey.within.0 j (rest_in j m)

        lefts : All (λ d. IsSubset (left_of (dependency_of d)) (difference (below n) (only a))) ds
        lefts i d short j m = elim (cases_eq j a) [
          | inl same ↦ absurd (unused_outside a i d j in_no_key short m same)
          | inr other ↦ grind (arith, nat_tests, (within i d short).0 j m)
        ]

        each : (b : ℕ) → difference scheme (only a) b ≡ true → Implies n (dependencies_of ds) (fd rest (only b))
        each b m = elim (cases_Bool (k b)) [
          | inl member ↦ λ r legal. reflexivity_obeyed rest (only b) r (λ j e. grind (arith, nat_tests, e, m, member))
          | inr out ↦
              let in_scheme : scheme b ≡ true = grind (arith, m) in
              determined_beyond (difference (below n) (only a)) k rest b lefts (λ j h. low j (key.superkey.within.0 j h)) (λ j h. grind (arith, h)) out (ltb-true b n (low b in_scheme))
              (fd_each-to n (dependencies_of ds) k scheme (fd_on-to n (dependencies_of ds) scheme k scheme key.superkey) b in_scheme)
        ]

        whole : Implies n (dependencies_of ds) (fd rest scheme)
        whole r legal =
            transitivity_obeyed rest (difference scheme (only a)) scheme r (fd_each-from n (dependencies_of ds) rest (difference scheme (only a)) each r legal)
            (fd_on-to n (dependencies_of ds) scheme (difference scheme (only a)) scheme in_no_key.others r legal)

    -- what is in no left side, and follows from what is in some, is in no key; and nothing else
    pub without_attributes_in_no_key-is : (used determined rest : Attributes) → ((a : ℕ) → (used a ≡ true) ↔ InLeftSide (dependencies_of ds) a)
        → ((a : ℕ) → (determined a ≡ true) ↔ InClosure n (dependencies_of ds) (intersection scheme used) a) → rest ≡ difference scheme (difference determined used)
        → DropsAttributesInNoKey n (dependencies_of ds) scheme rest
    without_attributes_in_no_key-is used determined rest sides closed is = record {
      within = λ k m. grind (arith, m, same_at is k);
      left_out = λ a member. (
        (λ out. record {
          member = member;
          unused = λ h. let there : used a ≡ true = (sides a).1 h in absurd (grind (arith, same_at is a, member, out, there));
          others = superkey-from n (dependencies_of ds) scheme (difference scheme (only a)) (λ k m. grind (arith, m))
              (fd_each-from n (dependencies_of ds) (difference scheme (only a)) scheme
              (others_each a (grind (arith, same_at is a, member, out)) ((closed a).0 (grind (arith, same_at is a, member, out))).1));
        }),
        (λ in_no_key.
            let unused : used a ≡ false = false_from_ne_true (used a) (λ m. in_no_key.unused ((sides a).0 m)) in
            let others : Attributes = difference scheme (only a) in
            let implied : Implies n (dependencies_of ds) (fd (intersection scheme used) (only a)) =
            determined_beyond used others (intersection scheme used) a used_lefts (λ j h. low j (grind (arith, h))) (λ j h. grind (arith, h)) (grind (arith, nat_tests)) (ltb-true a n (low a member))
            (fd_each-to n (dependencies_of ds) others scheme (fd_on-to n (dependencies_of ds) scheme others scheme in_no_key.others) a member) in
            let so_far = (closed a).1 (ltb-true a n (low a member), implied) in
            grind (arith, same_at is a, so_far, unused)),
      );
    }
      where
        used_lefts : All (λ d. IsSubset (left_of (dependency_of d)) used) ds
        used_lefts i d short j m = dependencies_all-to (λ (e : Dependency). IsSubset (left_of e) used) ds (left_sides_each (dependencies_of ds) used (λ a h. (sides a).1 h)) i d short j m

        others_each : (a : ℕ) → used a ≡ false → Implies n (dependencies_of ds) (fd (intersection scheme used) (only a)) → (b : ℕ) → scheme b ≡ true → Implies n (dependencies_of ds) (fd (difference scheme (only a)) (only b))
        others_each a unused implied b member = elim (cases_eq b a) [
          | inl same ↦ λ r legal. fd_weaker_obeyed (intersection scheme used) (only a) (difference scheme (only a)) (only b) r (beside a unused) (λ j e. grind (arith, nat_tests, e, same)) (implied r legal)
          | inr other ↦ λ r legal. reflexivity_obeyed (difference scheme (only a)) (only b) r (λ j e. grind (arith, nat_tests, e, other, member))
        ]
          where
            beside : (a : ℕ) → used a ≡ false → IsSubset (intersection scheme used) (difference scheme (only a))
            beside a unused j m = elim (cases_eq j a) [
              | inl same ↦ absurd (true≢false (sym (grind (arith, m)) ∙ ap used same ∙ unused))
              | inr other ↦ grind (arith, nat_tests, m)
            ]

    -- ---- the scheme without them
    module _ (rest : Attributes) (is : DropsAttributesInNoKey n (dependencies_of ds) scheme rest) where
      left_out_unused : All (λ d. IsSubset (left_of (dependency_of d)) (difference (below n) (difference scheme rest))) ds
      left_out_unused i d short j m = elim (cases_Bool (difference scheme rest j)) [
        | inl out ↦ absurd (unused_outside j i d j ((is.left_out j (grind (arith, out))).0 (grind (arith, out))) short m refl)
        | inr beside ↦ grind (arith, nat_tests, beside, (within i d short).0 j m)
      ]

      rest_each : (b : ℕ) → scheme b ≡ true → Implies n (dependencies_of ds) (fd rest (only b))
      rest_each b member = elim (cases_Bool (rest b)) [
        | inl inside ↦ λ r legal. reflexivity_obeyed rest (only b) r (λ j e. grind (arith, nat_tests, e, inside))
        | inr out ↦
            let others = difference scheme (only b) in
            let superkey = ((is.left_out b member).0 out).others in
            determined_beyond (difference (below n) (difference scheme rest)) others rest b left_out_unused (λ j h. low j (grind (arith, h))) (λ j h. grind (arith, h)) (grind (arith, nat_tests)) (ltb-true b n (low b member))
            (fd_each-to n (dependencies_of ds) others scheme (fd_on-to n (dependencies_of ds) scheme others scheme superkey) b member)
      ]

      -- it is a superkey
      pub rest_superkey : IsSuperkey n (dependencies_of ds) scheme rest
      rest_superkey = superkey-from n (dependencies_of ds) scheme rest is.within (fd_each-from n (dependencies_of ds) rest scheme rest_each)

      -- it has each key of the scheme
      key_in_rest : (k : Attributes) → IsKey n (dependencies_of ds) scheme k → IsSubset k rest
      key_in_rest k key a m =
          true_from_ne_false (rest a) (λ out. true≢false (sym m ∙ in_no_key_in_no_key a k ((is.left_out a (key.superkey.within.0 a m)).0 out) key))

      -- of which each is one of its own
      pub key_of_rest : (k : Attributes) → IsKey n (dependencies_of ds) scheme k → IsKey n (dependencies_of ds) rest k
      key_of_rest k key = record {
        superkey = superkey-from n (dependencies_of ds) rest k (key_in_rest k key)
            (λ r legal. fd_weaker_obeyed k scheme k rest r (λ j m. m) is.within (fd_on-to n (dependencies_of ds) scheme k scheme key.superkey r legal));
        minimal = λ j inside superkey.
            key.minimal j inside
            (superkey-from n (dependencies_of ds) scheme j (λ i m. is.within i (superkey.within.0 i m))
            (λ r legal. transitivity_obeyed j rest scheme r (fd_on-to n (dependencies_of ds) rest j rest superkey r legal) (fd_on-to n (dependencies_of ds) scheme rest scheme rest_superkey r legal)));
      }

      -- so the keys of the one are those of the other
      pub found_of_rest : (found : List AttrSet) → AreFoundKeys n (dependencies_of ds) rest found → AreFoundKeys n (dependencies_of ds) scheme found
      found_of_rest found keys = record {
        each = λ i d l. key_of_superkey n (dependencies_of ds) scheme rest (attributes (get_or found i d)) rest_superkey (keys.each i d l);
        ascending = keys.ascending;
        within_limit = keys.within_limit;
        all = λ most k key. keys.all most k (key_of_rest k key);
      }
