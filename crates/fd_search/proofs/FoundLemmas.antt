-- What all minimal dependencies give: they imply exactly what the rows obey.
use Rattle.std.proofs.Common.{inl, inr, ◌≡◌, ◌+◌, ◌<◌, ◌⊎◌, ℕ, true, false, zero, suc, List, [], ◌∷◌, sym, subst, ◌∙◌, arith}
use Rattle.std.specs.Prelude.{All}
use Rattle.std.proofs.lemmas.Bool.{cases_Bool, true≢false}
use Rattle.std.proofs.lemmas.Bool.Decides.{nat_tests}
use Rattle.std.proofs.lemmas.List.Elements.{All-head, All-tail, All-weaker}
use Rattle.attr_sets.specs.Attributes.{Attributes, IsSubset, below, count_below, only}
use Rattle.attr_sets.proofs.AttributesLemmas.{count_below-le, count_below-lt, tell_subset}
use Rattle.attr_sets.proofs.OrderLemmas.{tell_before}
use Rattle.dep_model.specs.Dependencies.{Dependency, fd, left_of, right_of, ObeysFd}
use Rattle.dep_model.specs.Tuples.{Relation}
use Rattle.dep_model.proofs.ListLemmas.{Any-from, Contains-cases, Contains-head, Contains-later}
use Rattle.fd_discovery.specs.Minimal.{AreAllMinimal, IsMinimalFd, IsMinimalWithin}
use Rattle.fd_discovery.specs.Searching.{AreFound, IsFoundBefore, IsListedFrom, IsTried}

-- a dependency gives attribute a from x
abbrev Gives : Attributes → ℕ → Dependency → Type 0
Gives x a d = IsSubset (left_of d) x × (right_of d a ≡ true)

tell_gives : (n : ℕ) (r : Relation) (x : Attributes) (a : ℕ) (d : Dependency) → IsMinimalFd n r d
    → Gives x a d ⊎ (Gives x a d → ⊥)
tell_gives n r x a d (v, b, is, minimal) =
    let left : IsSubset (left_of d) (below n) = subst (λ (e : Dependency). IsSubset (left_of e) (below n)) (sym is) minimal.left in
    elim (tell_subset n (left_of d) x left) [
      | inl missing ↦ inr (λ gives. true≢false (sym (gives.0 missing.0 missing.2) ∙ missing.3))
      | inr inside ↦ elim (cases_Bool (right_of d a)) [
        | inl has ↦ inl (inside, has)
        | inr lacks ↦ inr (λ gives. true≢false (sym gives.1 ∙ lacks))
      ]
    ]

tell_listed : (n : ℕ) (r : Relation) (x : Attributes) (a : ℕ) (ds : List Dependency) → All (IsMinimalFd n r) ds
    → IsListedFrom ds x a ⊎ (IsListedFrom ds x a → ⊥)
tell_listed n r x a [] each = inr (λ (k, d, l, is, gives). omega (arith, l))
tell_listed n r x a (d ∷ ds) each = elim (tell_gives n r x a d (All-head (IsMinimalFd n r) d ds each)) [
  | inl gives ↦ inl (Any-from (Gives x a) (d ∷ ds) d (Contains-head d ds) gives)
  | inr gives_not ↦ elim (tell_listed n r x a ds (All-tail (IsMinimalFd n r) d ds each)) [
    | inl (k, e, l, is, gives) ↦ inl (Any-from (Gives x a) (d ∷ ds) e (Contains-later d ds e (k, l, is)) gives)
    | inr none ↦ inr (λ (k, e, l, is, gives). elim (Contains-cases d ds e (k, l, is)) [
      | inl same ↦ gives_not (subst (Gives x a) same gives)
      | inr later ↦ none (later.0, e, later.1, later.2, gives)
    ])
  ]
]

module _ (n : ℕ) (r : Relation) (ds : List Dependency) (minimal : AreAllMinimal n r ds) where
  -- a set within x from which nothing is listed has no subset that determines the attribute
  none_obeyed : (m : ℕ) (x : Attributes) (a : ℕ) → IsSubset x (below n) → a < n → x a ≡ false
      → (IsListedFrom ds x a → ⊥) → (v : Attributes) → IsSubset v x → count_below v n < m → ObeysFd v (only a) r → ⊥
  none_obeyed zero x a x_in a_in out none v inside small obeys = omega (arith, small)
  none_obeyed (suc m) x a x_in a_in out none v inside small obeys =
      let v_in : IsSubset v (below n) = λ k has. x_in k (inside k has) in
      let lacks : v a ≡ false = elim (cases_Bool (v a)) [
        | inl has ↦ absurd (true≢false (sym (inside a has) ∙ out))
        | inr other ↦ other
      ] in
      let is : IsMinimalWithin n r v a = record {
        left = v_in;
        right = a_in;
        minimal = record {
          outside = lacks;
          obeys = obeys;
          minimal = λ w within w_obeys. elim (tell_subset n v w v_in) [
            | inl (k, l, has, misses) ↦ absurd (none_obeyed m x a x_in a_in out none w (λ j h. inside j (within j h))
                (omega (arith, small, count_below-lt n w v k within l misses has)) w_obeys)
            | inr all ↦ all
          ];
        };
      } in
      none (Any-from (Gives x a) ds (fd v (only a)) (minimal.all v a is) (inside, grind (arith, nat_tests)))

  given_all : (x : Attributes) (a : ℕ) → IsSubset x (below n) → a < n → x a ≡ false → ObeysFd x (only a) r
      → IsListedFrom ds x a
  given_all x a x_in a_in out obeys = elim (tell_listed n r x a ds minimal.each) [
    | inl listed ↦ listed
    | inr none ↦ absurd (none_obeyed (n + 1) x a x_in a_in out none x (λ k has. has)
        (omega (arith, count_below-le n x)) obeys)
  ]

  tried_all : (x : Attributes) (a : ℕ) → IsSubset x (below n) → a < n → IsTried (below n) n x a
  tried_all x a x_in a_in = elim (tell_before n x (below n) x_in (λ k has. has)) [
    | inl same ↦ inr (same, a_in)
    | inr other ↦ elim other [
      | inl before ↦ inl before
      | inr after ↦ absurd (true≢false (sym (x_in after.0 after.2) ∙ after.1))
    ]
  ]

  -- they are what a search has found once all was tried
  pub found_all : AreFound n r (below n) n ds
  found_all = record {
    each = All-weaker (IsMinimalFd n r) (IsFoundBefore n r (below n) n)
        (λ d (x, a, is, one). (x, a, is, one, tried_all x a one.left one.right)) ds minimal.each;
    ascending = minimal.ascending;
    given = λ x a x_in a_in out tried obeys. given_all x a x_in a_in out obeys;
  }
