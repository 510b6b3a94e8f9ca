-- What is in every key of a schema is what all other attributes do not determine.
use Rattle.std.proofs.Common.{◌≡◌, ◌⊎◌, ◌↔◌, ◌<◌, ◌≤◌, ℕ, zero, suc, true, false, List, sym, ap, subst, ◌∙◌, inl, inr, arith}
use Rattle.std.proofs.lemmas.Bool.{cases_Bool, cases_eq, true≢false, lt-ltb, ltb-true}
use Rattle.std.proofs.lemmas.Bool.Decides.{nat_tests}
use Rattle.attr_sets.specs.Attributes.{Attributes, below, only, difference, IsSubset}
use Rattle.dep_model.specs.Dependencies.{Dependency}
use Rattle.dep_model.specs.Keys.{IsKey, IsSuperkey}
use Rattle.schema_model.specs.Schemas.{width_of, theory_of, universe_of}
use Rattle.schema_model.specs.Schemas.{Schema}
use Rattle.dep_model.proofs.KeyLemmas.{superkey_more}
use Rattle.key_listing.proofs.NarrowingLemmas.{in_every_key_in_superkey}
use Rattle.desk_keys.specs.KeyReasons.{InEveryKey}

-- no refutation of a case distinction
distinguish : (P : Type 0) → ((P ⊎ (P → ⊥)) → ⊥) → ⊥
distinguish P neither = neither (inr (λ p. neither (inl p)))

-- attributes from i on that a superkey has are needed
abbrev AreNeeded : ℕ → List Dependency → ℕ → Attributes → Type 0
AreNeeded n ds i x = (a : ℕ) → i ≤ a → x a ≡ true → IsSuperkey n ds (below n) (difference x (only a)) → ⊥

module _ (n : ℕ) (ds : List Dependency) (s : Attributes) where
  all_needed : (x : Attributes) → IsSuperkey n ds (below n) x → AreNeeded n ds 0 x → IsKey n ds (below n) x
  all_needed x superkey needed = record {
    superkey = superkey;
    minimal = λ j within also a member. elim (cases_Bool (j a)) [
      | inl there ↦ there
      | inr out ↦
          absurd (needed a (omega arith) member
          (superkey_more n ds (below n) j (difference x (only a))
          (λ k m. elim (cases_eq k a) [
            | inl same ↦ absurd (true≢false (sym m ∙ ap j same ∙ out))
            | inr other ↦ grind (arith, nat_tests, within k m, other)
          ])
          (λ k m. superkey.within.0 k (grind (arith, m))) also))
    ];
  }

  -- a set within which no key lies is no superkey
  no_key_within : (i : ℕ) (x : Attributes) → IsSubset x s → IsSuperkey n ds (below n) x → AreNeeded n ds i x
      → ((k : Attributes) → IsSubset k s → IsKey n ds (below n) k → ⊥) → ⊥
  no_key_within zero x within superkey needed none = none x within (all_needed x superkey needed)
  no_key_within (suc i) x within superkey needed none =
      distinguish (IsSuperkey n ds (below n) (difference x (only i))) (λ decided. elim decided [
        | inl fewer ↦
            no_key_within i (difference x (only i)) (λ k m. within k (grind (arith, m))) fewer
            (λ a low m still. needed a (grind (arith, nat_tests, low, m)) (grind (arith, m))
            (superkey_more n ds (below n) (difference (difference x (only i)) (only a)) (difference x (only a))
            (λ k there. grind (arith, there)) (λ k there. superkey.within.0 k (grind (arith, there))) still))
            none
        | inr stays ↦
            no_key_within i x within superkey
            (λ a low m still. elim (cases_eq a i) [
              | inl same ↦ stays (subst (λ (j : ℕ). IsSuperkey n ds (below n) (difference x (only j))) same still)
              | inr other ↦ needed a (omega (arith, low, other)) m still
            ])
            none
      ])

pub in_every_key : (s : Schema) (a : ℕ)
    → InEveryKey s a ↔ ((a < width_of s) × (IsSuperkey (width_of s) (theory_of s) (universe_of s) (difference (universe_of s) (only a)) → ⊥))
in_every_key s a =
    let n = width_of s in
    let ds = theory_of s in
    let u = universe_of s in (
      (λ is. (
        is.0,
        λ superkey.
            no_key_within n ds (difference u (only a)) n (difference u (only a)) (λ k m. m) superkey
            (λ b low m still. let short = ltb-true b n (grind (arith, m)) in omega (arith, low, short))
            (λ k within key. true≢false (sym (is.1 k key) ∙ out k within)),
      )),
      (λ is. (is.0, λ k key. in_every_key_in_superkey n ds u k a (record { member = lt-ltb a n is.0; others = is.1 }) key.superkey)),
    )
  where
    out : (k : Attributes) → IsSubset k (difference (universe_of s) (only a)) → k a ≡ false
    out k within = elim (cases_Bool (k a)) [
      | inl member ↦ let here = within a member in grind (arith, nat_tests, here)
      | inr gone ↦ gone
    ]
