-- A cover of the functional dependencies that a relation obeys, with the reduced multivalued ones, implies just
-- what the relation obeys.
use Rattle.std.proofs.Common.{◌≡◌, ◌+◌, ◌<◌, ◌≤◌, ◌⊎◌, ℕ, zero, suc, true, false, List, ◌++◌, refl, sym, ap, subst, ◌∙◌, inl, inr, ⊎_elim, arith}
use mathlib.Core.Path.{fun_ext}
use Rattle.std.specs.Prelude.{All, Contains, ◌↔◌}
use Rattle.std.proofs.lemmas.Bool.{cases_Bool, cases_eq, true≢false, ltb-true}
use Rattle.std.proofs.lemmas.Bool.Decides.{nat_tests}
use Rattle.std.proofs.lemmas.List.Elements.{All-append, All-contains, All-weaker}
use Rattle.attr_sets.specs.Attributes.{Attributes, below, count_below, difference, none, only, union, IsEmpty, IsSubset}
use Rattle.attr_sets.proofs.AttributesLemmas.{count_below-difference_only, tell_empty}
use Rattle.dep_model.specs.Tuples.{Tuple, Relation, IsOver}
use Rattle.dep_model.specs.Dependencies.{Dependency, fd, mvd, Obeys, ObeysFd, ObeysMvd, IsWithin}
use Rattle.dep_model.specs.Implication.{IsLegal, Implies}
use Rattle.dep_model.proofs.RuleLemmas.{maugmentation_obeyed, mreflexivity_obeyed, mvd_union_obeyed, replication_obeyed}
use Rattle.min_cover.specs.Covers.{IsThinned}
use Rattle.min_cover.proofs.CoverLemmas.{thinned_legal-to, thinned_legal-from}
use Rattle.min_cover.proofs.ListLemmas.{All-left, All-right}
use Rattle.mvd_laws.specs.Reduced.{AreAllReduced, HoldsWithLess, IsBlockOfRows, IsPartOfRows, IsReduced, IsReducedMvd}
use Rattle.mvd_laws.specs.Covers.{IsCoverOfFunctional}
use Rattle.mvd_laws.proofs.DecideLemmas.{IsDecidable, decide_both, decide_either, decide_fd, decide_mvd, find_below}
use Rattle.mvd_laws.proofs.BlockLemmas.{each_part, mvd_same}

-- x ->> the whole rest of the scheme
trivial_obeyed : (n : ℕ) (x y : Attributes) (r : Relation) → IsEmpty (difference (below n) (union x y)) → ObeysMvd (below n) x y r
trivial_obeyed n x y r empty t u t_in u_in agree = (t, t_in, (λ k m. refl), (λ k m. absurd (true≢false (sym m ∙ empty k))))

decide_member : (x : Attributes) (a : ℕ) → IsDecidable (x a ≡ true)
decide_member x a = ⊎_elim (λ (h : x a ≡ true). inl h) (λ (h : x a ≡ false). inr (λ m. true≢false (sym m ∙ h))) (cases_Bool (x a))

-- an attribute back to the left side
back_left : (x : Attributes) (a k : ℕ) → x a ≡ true → union (difference x (only a)) (only a) k ≡ x k
back_left x a k member = elim (cases_eq k a) [
  | inl same ↦ grind (arith, nat_tests, same, ap x same, member)
  | inr other ↦ grind (arith, nat_tests, other)
]

both_sides : (x y : Attributes) (a k : ℕ) → x a ≡ true → union x (union (union y (only a)) none) k ≡ union x y k
both_sides x y a k member = elim (cases_eq k a) [
  | inl same ↦ grind (arith, nat_tests, same, ap x same, member)
  | inr other ↦ grind (arith, nat_tests, other)
]

module _ (n : ℕ) (r : Relation) (fds mvds ds : List Dependency) (over : IsOver n r) (obeyed : All (λ d. Obeys n d r) fds)
    (cover : IsCoverOfFunctional n r fds) (reduced : AreAllReduced n r mvds) (thinned : IsThinned n fds mvds ds) where
  -- ---- what is left out is implied by the rest
  legal_fds : (s : Relation) → IsLegal n ds s → IsLegal n fds s
  legal_fds s legal =
      let both = thinned_legal-to n fds mvds ds s thinned legal in
      record { over = both.over; obeys = All-left (λ (d : Dependency). Obeys n d s) fds mvds both.obeys }

  implied_fd : (x y : Attributes) → IsSubset x (below n) → IsSubset y (below n) → ObeysFd x y r → Implies n ds (fd x y)
  implied_fd x y x_in y_in obeys s legal = (cover x y x_in y_in).1 obeys s (legal_fds s legal)

  implied_reduced : (x y : Attributes) → IsReduced n r x y → Implies n ds (mvd x y)
  implied_reduced x y is s legal =
      let both = thinned_legal-to n fds mvds ds s thinned legal in
      All-contains (λ (d : Dependency). Obeys n d s) mvds (mvd x y)
      (All-right (λ (d : Dependency). Obeys n d s) fds mvds both.obeys) (reduced.all x y is)

  -- ---- blocks
  abbrev IsImplied : Attributes → Attributes → Type 0
  IsImplied x y = Implies n ds (mvd x y)

  grown : (x y : Attributes) (a : ℕ) → IsSubset x (below n) → x a ≡ true → IsImplied (difference x (only a)) y
      → IsImplied x (union y none)
  grown x y a x_in member implied s legal =
      subst (λ (w : Attributes). ObeysMvd (below n) w (union y none) s) (fun_ext (λ k. back_left x a k member))
      (maugmentation_obeyed (below n) (difference x (only a)) y (only a) none s (λ k m. absurd (true≢false (sym m)))
      (λ k m. x_in k (at_a k m)) (implied s legal))
    where
      at_a : (k : ℕ) → only a k ≡ true → x k ≡ true
      at_a k m = elim (cases_eq k a) [
        | inl same ↦ ap x same ∙ member
        | inr other ↦ absurd (true≢false (grind (arith, nat_tests, m, other)))
      ]

  -- what smaller left sides multidetermine is implied
  abbrev AreSmallerImplied : Attributes → Type 0
  AreSmallerImplied x = (a : ℕ) → a < n → x a ≡ true → (y : Attributes) → IsSubset y (below n)
      → ObeysMvd (below n) (difference x (only a)) y r → IsImplied (difference x (only a)) y

  with_less : (x y : Attributes) (a : ℕ) → IsSubset x (below n) → IsSubset y (below n) → a < n → AreSmallerImplied x
      → HoldsWithLess n r x y a → IsImplied x y
  with_less x y a x_in y_in low smaller holds = ⊎_elim
      (λ less s legal.
      mvd_same (below n) x (union y none) y s (fun_ext (λ k. plain k))
      (grown x y a x_in holds.0 (smaller a low holds.0 y y_in less) s legal))
      (λ more s legal.
      mvd_same (below n) x (union (union y (only a)) none) y s (fun_ext (λ k. both_sides x y a k holds.0))
      (grown x (union y (only a)) a x_in holds.0 (smaller a low holds.0 (union y (only a)) more_in more) s legal))
      holds.1
    where
      plain : (k : ℕ) → union x (union y none) k ≡ union x y k
      plain k = grind arith

      more_in : IsSubset (union y (only a)) (below n)
      more_in k m = ⊎_elim (λ (h : y k ≡ true). y_in k h) (λ (h : y k ≡ false). x_in k (at_a k h m)) (cases_Bool (y k))
        where
          at_a : (k : ℕ) → y k ≡ false → union y (only a) k ≡ true → x k ≡ true
          at_a k h m = elim (cases_eq k a) [
            | inl same ↦ ap x same ∙ holds.0
            | inr other ↦ absurd (true≢false (grind (arith, nat_tests, m, h, other)))
          ]

  decide_less : (x y : Attributes) (a : ℕ) → IsSubset x (below n) → IsSubset y (below n) → a < n → IsDecidable (HoldsWithLess n r x y a)
  decide_less x y a x_in y_in low =
      ⊎_elim
      (λ (member : x a ≡ true). decide_both (decide_member x a)
      (decide_either (decide_mvd n (difference x (only a)) y r less_in y_in) (decide_mvd n (difference x (only a)) (union y (only a)) r less_in (more_in member))))
      (λ (lacks : x a ≡ false). inr (λ holds. true≢false (sym holds.0 ∙ lacks)))
      (cases_Bool (x a))
    where
      less_in : IsSubset (difference x (only a)) (below n)
      less_in k m = x_in k (grind (arith, m))

      more_in : x a ≡ true → IsSubset (union y (only a)) (below n)
      more_in member k m = ⊎_elim (λ (h : y k ≡ true). y_in k h) (λ (h : y k ≡ false). x_in k (at_a k h m)) (cases_Bool (y k))
        where
          at_a : (k : ℕ) → y k ≡ false → union y (only a) k ≡ true → x k ≡ true
          at_a k h m = elim (cases_eq k a) [
            | inl same ↦ ap x same ∙ member
            | inr other ↦ absurd (true≢false (grind (arith, nat_tests, m, h, other)))
          ]

  implied_block : (x y : Attributes) → IsSubset x (below n) → AreSmallerImplied x → IsBlockOfRows n r x y → IsImplied x y
  implied_block x y x_in smaller block =
      ⊎_elim
      (λ rest. ⊎_elim
      (λ (obeys : ObeysFd x y r). λ s legal. replication_obeyed (below n) x y s (implied_fd x y x_in y_in obeys s legal))
      (λ (free : ObeysFd x y r → ⊥). ⊎_elim
      (λ found. with_less x y found.0 x_in y_in found.1 smaller found.2)
      (λ never. implied_reduced x y (record {
        left = x_in;
        block = block;
        rest = λ empty. true≢false (sym rest.2 ∙ empty rest.0);
        free = free;
        short = λ a holds. never a (ltb-true a n (x_in a holds.0)) holds;
      }))
      (find_below n (HoldsWithLess n r x y) (λ a low. decide_less x y a x_in y_in low)))
      (decide_fd n x y r x_in y_in))
      (λ empty. λ s legal. trivial_obeyed n x y s empty)
      (tell_empty n (difference (below n) (union x y)) (λ k m. grind (arith, m)))
    where
      y_in : IsSubset y (below n)
      y_in = block.part.within

  -- ---- all that is obeyed, by the size of the left side
  implied_mvd : (m : ℕ) (x : Attributes) → IsSubset x (below n) → count_below x n < m → (y : Attributes) → IsSubset y (below n)
      → ObeysMvd (below n) x y r → IsImplied x y
  implied_mvd zero x x_in less y y_in obeys = absurd (omega (arith, less))
  implied_mvd (suc m) x x_in less y y_in obeys = ⊎_elim
      (λ some s legal.
      mvd_same (below n) x (difference y x) y s (fun_ext (λ k. beside k))
      (each_part n r x (IsImplied x) x_in (λ z block. implied_block x z x_in (λ a low member w w_in w_obeys.
      implied_mvd m (difference x (only a)) (λ k h. x_in k (grind (arith, h)))
      (omega (arith, less, count_below-difference_only n x a low member)) w w_in w_obeys) block)
      (λ v w v_in first second q q_legal. mvd_union_obeyed (below n) x v w q v_in (first q q_legal) (second q q_legal))
      (suc (count_below (difference y x) n)) (difference y x) (omega arith) (record {
        within = λ k h. y_in k (grind (arith, h));
        outside = λ k h. grind (arith, h);
        not_empty = λ empty. true≢false (sym some.2 ∙ empty some.0);
        obeyed = mvd_same (below n) x y (difference y x) r (fun_ext (λ k. sym (beside k))) obeys;
      }) s legal))
      (λ empty s legal. mreflexivity_obeyed (below n) x y s (λ k h. inside k h (empty k)))
      (tell_empty n (difference y x) (λ k h. y_in k (grind (arith, h))))
    where
      beside : (k : ℕ) → union x (difference y x) k ≡ union x y k
      beside k = grind arith

      inside : (k : ℕ) → y k ≡ true → difference y x k ≡ false → x k ≡ true
      inside k h e = grind (arith, h, e)

  -- ---- both ways
  legal_rows : IsLegal n ds r
  legal_rows = thinned_legal-from n fds mvds ds r thinned (record {
    over = over;
    obeys = All-append (λ (d : Dependency). Obeys n d r) fds mvds obeyed
        (All-weaker (IsReducedMvd n r) (λ (d : Dependency). Obeys n d r) (λ d is.
        subst (λ (e : Dependency). Obeys n e r) (sym is.2) is.3.block.part.obeyed) mvds reduced.each);
  })

  pub covers_all : (d : Dependency) → IsWithin (below n) d → Implies n ds d ↔ Obeys n d r
  covers_all (fd x y) within = ((λ implied. implied r legal_rows), (λ obeys. implied_fd x y within.0 within.1 obeys))
  covers_all (mvd x y) within =
      ((λ implied. implied r legal_rows), (λ obeys. implied_mvd (suc (count_below x n)) x within.0 (omega arith) y within.1 obeys))
