-- Each attribute is determined or in a block, and one that is in no given left side adds only itself to
-- what a left side determines.
use Rattle.std.proofs.Common.{◌≡◌, ℕ, zero, suc, ◌<◌, ◌≤◌, ◌↔◌, ◌⊎◌, true, false, List, [], ◌∷◌, get_or, refl, sym, subst, ◌∙◌, inl, inr, ⊎_elim, arith}
use Rattle.std.proofs.lemmas.Bool.{true≢false, cases_Bool, false_from_ne_true, lt-ltb}
use Rattle.std.proofs.lemmas.Bool.Decides.{nat_tests}
use Rattle.std.proofs.lemmas.List.Elements.{All-nil, All-cons, All-head, All-tail}
use Rattle.std.specs.Prelude.{All}
use Rattle.attr_sets.specs.Attributes.{Attributes, below, only, union, intersection, difference, IsSubset, IsEmpty, Disjoint, count_below}
use Rattle.attr_sets.proofs.AttributesLemmas.{tell_apart, tell_subset, tell_empty, count_below-pos, count_below-le, same_at}
use Rattle.dep_model.specs.declared.dep.Dep.{Dep}
use Rattle.dep_model.specs.declared.dep.Dep.TheVariants.{Fd, Mvd}
use Rattle.dep_model.specs.Tuples.{Relation}
use Rattle.dep_model.specs.Dependencies.{Dependency, fd, mvd, ObeysMvd, left_of}
use Rattle.dep_model.specs.Deps.{dependency_of, dependencies_of, IsDepWithin}
use Rattle.dep_model.specs.Implication.{IsLegal, Implies}
use Rattle.dep_model.specs.Keys.{InClosure, IsBlock}
use Rattle.attr_sets.specs.Sets.{attributes}
use Rattle.dep_model.specs.TwoTuples.{two_tuples}
use Rattle.dep_model.proofs.RuleLemmas.{reflexivity_obeyed, transitivity_obeyed}
use Rattle.dep_model.proofs.DepLemmas.{legal-to, dependencies_all-from}
use Rattle.dep_basis.specs.Refining.{LeavesWhole}
use Rattle.dep_basis.specs.Cuts.{IsCutting}
use Rattle.dep_basis.specs.Pieces.{CanRefine}
use Rattle.dep_basis.proofs.RefiningLemmas.{replication_implied, moves, LeavesWhole-intersects}
use Rattle.dep_basis.proofs.BlockLemmas.{outside_of, whole_legal, block_whole, block_disjoint, blocks_same, candidate_block}
use Rattle.dep_basis.proofs.PieceLemmas.{first_refined, outside_refined, inside_refined, outside_fewer, inside_fewer}

-- ---- whether a dependency cuts a set
tell_cut : (n : ℕ) (w : Attributes) (d : Dep) → IsSubset w (below n) → IsDepWithin (below n) d → IsCutting w (dependency_of d) ⊎ LeavesWhole w w (dependency_of d)
tell_cut n w (Fd lhs rhs) w_in within =
    ⊎_elim
    (λ common. inr (LeavesWhole-intersects w w (fd (attributes lhs) (attributes rhs)) common))
    (λ apart. ⊎_elim
    (λ shared. inl (record { apart = apart; shares = (shared.0, shared.2, shared.1); leaves = inl refl }))
    (λ out. inr (λ _ k m. false_from_ne_true (attributes rhs k) (λ in_t. true≢false (sym m ∙ out k in_t))))
    (tell_apart n (attributes rhs) w within.1))
    (tell_apart n (attributes lhs) w within.0)
tell_cut n w (Mvd lhs rhs) w_in within =
    ⊎_elim
    (λ common. inr (LeavesWhole-intersects w w (mvd (attributes lhs) (attributes rhs)) common))
    (λ apart. ⊎_elim
    (λ shared. ⊎_elim
    (λ beyond. inl (record { apart = apart; shares = (shared.0, shared.2, shared.1); leaves = inr (beyond.0, beyond.2, beyond.3) }))
    (λ inside. inr (λ _. inr inside))
    (tell_subset n w (attributes rhs) w_in))
    (λ out. inr (λ _. inl (λ k m. false_from_ne_true (attributes rhs k) (λ in_t. true≢false (sym m ∙ out k in_t)))))
    (tell_apart n (attributes rhs) w within.1))
    (tell_apart n (attributes lhs) w within.0)

record CutsIt (n : ℕ) (all : List Dependency) (w : Attributes) (d : Dep) : Type 0 where
  within : IsDepWithin (below n) d
  given : Implies n all (dependency_of d)
  cutting : IsCutting w (dependency_of d)

-- some dependency of a list cuts the set, or none does
tell_cuts : (n : ℕ) (all : List Dependency) (w : Attributes) (ds : List Dep) → IsSubset w (below n) → All (IsDepWithin (below n)) ds → All (λ d. Implies n all (dependency_of d)) ds
    → ((d : Dep) × CutsIt n all w d) ⊎ All (λ d. LeavesWhole w w (dependency_of d)) ds
tell_cuts n all w [] w_in within given = inr (All-nil (λ (d : Dep). LeavesWhole w w (dependency_of d)))
tell_cuts n all w (d ∷ ds) w_in within given =
    let here = All-head (IsDepWithin (below n)) d ds within in
    let is_given = All-head (λ (e : Dep). Implies n all (dependency_of e)) d ds given in
    ⊎_elim
    (λ cuts. inl (d, record { within = here; given = is_given; cutting = cuts }))
    (λ whole. ⊎_elim
    (λ found. inl found)
    (λ rest. inr (All-cons (λ (e : Dep). LeavesWhole w w (dependency_of e)) d ds whole rest))
    (tell_cuts n all w ds w_in (All-tail (IsDepWithin (below n)) d ds within) (All-tail (λ (e : Dep). Implies n all (dependency_of e)) d ds given)))
    (tell_cut n w d w_in here)

-- ---- each attribute is determined, or in a block
abbrev IsDeterminedOrIn : ℕ → List Dep → Attributes → ℕ → Type 0
IsDeterminedOrIn n ds x a = InClosure n (dependencies_of ds) x a ⊎ ((p : Attributes) × IsBlock n (dependencies_of ds) x p × (p a ≡ true))

all_implied : (n : ℕ) (ds : List Dep) → All (λ d. Implies n (dependencies_of ds) (dependency_of d)) ds
all_implied n ds k d l r legal = legal-to n ds r legal k d l

-- what is left once a dependency has cut
next_piece : (n : ℕ) (ds : List Dep) (x : Attributes) (a : ℕ) (w : Attributes) (d : Dep) → n ≤ 128 → a < n → CanRefine n ds x w → w a ≡ true → CutsIt n (dependencies_of ds) w d
    → InClosure n (dependencies_of ds) x a ⊎ ((rest : Attributes) × CanRefine n ds x rest × (rest a ≡ true) × (count_below rest 128 < count_below w 128))
next_piece n ds x a w (Fd lhs rhs) within_limit low can member cuts =
    let v = attributes lhs in
    let t = attributes rhs in
    let w_low : IsSubset w (below 128) = λ k m. grind (arith, nat_tests, can.universe k m, within_limit) in
    elim (cases_Bool (t a)) [
      | inl in_t ↦ inl (low, moves n (dependencies_of ds) x w v t can.lhs can.universe cuts.within.0 a cuts.cutting.apart member in_t can.implied cuts.given)
      | inr out ↦ inr (
        difference w t,
        outside_refined n ds x w v t can cuts.within.0 cuts.cutting.apart (replication_implied n (dependencies_of ds) v t cuts.given) (difference w t) refl,
        grind (arith, member, out),
        outside_fewer w t (difference w t) (fd v t) w_low cuts.cutting refl refl,
      )
    ]
next_piece n ds x a w (Mvd lhs rhs) within_limit low can member cuts =
    let v = attributes lhs in
    let t = attributes rhs in
    let w_low : IsSubset w (below 128) = λ k m. grind (arith, nat_tests, can.universe k m, within_limit) in
    elim (cases_Bool (t a)) [
      | inl in_t ↦ inr (
        intersection w t,
        inside_refined n ds x w v t can cuts.within.0 cuts.cutting.apart cuts.given (intersection w t) refl,
        grind (arith, member, in_t),
        inside_fewer w v t (intersection w t) w_low cuts.cutting refl,
      )
      | inr out ↦ inr (
        difference w t,
        outside_refined n ds x w v t can cuts.within.0 cuts.cutting.apart cuts.given (difference w t) refl,
        grind (arith, member, out),
        outside_fewer w t (difference w t) (mvd v t) w_low cuts.cutting refl refl,
      )
    ]

-- the part with a becomes smaller, until it is a block
block_from : (n : ℕ) (ds : List Dep) (x : Attributes) (a : ℕ) → n ≤ 128 → a < n → (left : ℕ) (w : Attributes) → CanRefine n ds x w → w a ≡ true → count_below w 128 ≤ left → IsDeterminedOrIn n ds x a
block_from n ds x a within_limit low zero w can member most = absurd (omega (arith, most, count_below-pos 128 w a (omega (arith, within_limit, low)) member))
block_from n ds x a within_limit low (suc left) w can member most =
    ⊎_elim
    (λ found. ⊎_elim
    (λ closed. inl closed)
    (λ next. block_from n ds x a within_limit low left next.0 next.1 next.2 (omega (arith, most, next.3)))
    (next_piece n ds x a w found.0 within_limit low can member found.1))
    (λ whole. inr (
      w,
      candidate_block n (dependencies_of ds) x w a can.lhs (whole_legal n ds w can.deps (dependencies_all-from (LeavesWhole w w) ds whole))
          (record {
            universe = can.universe;
            outside = can.outside;
            implied = can.implied;
            nothing = λ gone. absurd (true≢false (sym member ∙ gone));
            closed = λ gone. absurd (true≢false (sym member ∙ gone));
          }) member,
      member,
    ))
    (tell_cuts n (dependencies_of ds) w ds can.universe can.deps (all_implied n ds))

pub block_at : (n : ℕ) (ds : List Dep) (x : Attributes) (a : ℕ) → n ≤ 128 → All (IsDepWithin (below n)) ds → IsSubset x (below n) → a < n → IsDeterminedOrIn n ds x a
block_at n ds x a within_limit within x_in low = elim (cases_Bool (x a)) [
  | inl inside ↦ inl (low, λ r legal. reflexivity_obeyed x (only a) r (λ (k : ℕ) h. grind (arith, nat_tests, h, inside)))
  | inr out ↦
      let w = difference (below n) x in
      let can = first_refined n ds x w within x_in refl in
      block_from n ds x a within_limit low 128 w can (grind (arith, nat_tests, lt-ltb a n low, out)) (count_below-le 128 w)
]

-- ---- an attribute in no given left side
-- a left side that x has in common with l multidetermines a set: x multidetermines what it has beyond x
difference_obeyed : (n : ℕ) (x l q : Attributes) (r : Relation) → IsSubset x (below n) → ObeysMvd (below n) (intersection x l) q r → ObeysMvd (below n) x (difference q x) r
difference_obeyed n x l q r x_in obeys t u t_in u_in agree =
    let v = obeys t u t_in u_in (λ (k : ℕ) m. agree k (grind (arith, m))) in (
      v.0,
      v.1,
      (λ (k : ℕ) m. elim (cases_Bool (union (intersection x l) q k)) [
        | inl inside ↦ v.2 k inside
        | inr out ↦
            let in_x : x k ≡ true = grind (arith, m, out) in
            v.3 k (grind (arith, out, x_in k in_x)) ∙ sym (agree k in_x)
      ]),
      (λ (k : ℕ) m. v.3 k (grind (arith, m))),
    )

module _ (n : ℕ) (ds : List Dep) (l x : Attributes) (within_limit : n ≤ 128) (within : All (IsDepWithin (below n)) ds) (lefts : All (λ d. IsSubset (left_of (dependency_of d)) l) ds) (x_in : IsSubset x (below n)) where
  common_in : IsSubset (intersection x l) (below n)
  common_in k m = x_in k (grind (arith, m))

  wider : (a : ℕ) → InClosure n (dependencies_of ds) (intersection x l) a → InClosure n (dependencies_of ds) x a
  wider a h = (h.0, λ r legal. transitivity_obeyed x (intersection x l) (only a) r (reflexivity_obeyed x (intersection x l) r (λ (k : ℕ) m. grind (arith, m))) (h.1 r legal))

  -- a block of what x has in common with l, without x
  module _ (q : Attributes) (block : IsBlock n (dependencies_of ds) (intersection x l) q) where
    rest_left : (v : Attributes) → IsSubset v l → Disjoint v (difference q x) → Disjoint v q
    rest_left v in_l apart k m = elim (cases_Bool (q k)) [
      | inr out ↦ out
      | inl in_q ↦ elim (cases_Bool (x k)) [
        | inr out ↦ absurd (true≢false (sym (grind (arith, in_q, out)) ∙ apart k m))
        | inl in_x ↦ absurd (true≢false (sym (grind (arith, in_x, in_l k m)) ∙ block_disjoint n (dependencies_of ds) (intersection x l) q block k in_q))
      ]
    ]

    rest_whole_at : (d : Dep) → IsDepWithin (below n) d → Implies n (dependencies_of ds) (dependency_of d) → IsSubset (left_of (dependency_of d)) l → LeavesWhole (difference q x) (difference q x) (dependency_of d)
    rest_whole_at (Fd lhs rhs) inside given in_l = λ apart k m.
        block_whole n (dependencies_of ds) (intersection x l) q (fd (attributes lhs) (attributes rhs)) common_in inside given block (rest_left (attributes lhs) in_l apart) k (grind (arith, m))
    rest_whole_at (Mvd lhs rhs) inside given in_l = λ apart.
        ⊎_elim
        (λ out. inl (λ (k : ℕ) m. out k (grind (arith, m))))
        (λ all. inr (λ (k : ℕ) m. all k (grind (arith, m))))
        (block_whole n (dependencies_of ds) (intersection x l) q (mvd (attributes lhs) (attributes rhs)) common_in inside given block (rest_left (attributes lhs) in_l apart))

    rest_legal : IsLegal n (dependencies_of ds) (two_tuples n (outside_of n (difference q x)))
    rest_legal = whole_legal n ds (difference q x) within
        (dependencies_all-from (LeavesWhole (difference q x) (difference q x)) ds (λ k d short. rest_whole_at (get_or ds k d) (within k d short) (all_implied n ds k d short) (lefts k d short)))

    pub rest_block : (a : ℕ) → difference q x a ≡ true → IsBlock n (dependencies_of ds) x (difference q x)
    rest_block a member = candidate_block n (dependencies_of ds) x (difference q x) a x_in rest_legal
        (record {
          universe = λ k m. block.universe k (grind (arith, m));
          outside = λ k m. grind (arith, m);
          implied = λ r legal. difference_obeyed n x l q r x_in (block.implied r legal);
          nothing = λ gone. absurd (true≢false (sym member ∙ gone));
          closed = λ gone. absurd (true≢false (sym member ∙ gone));
        }) member

  pub closure_rest : (a : ℕ) → InClosure n (dependencies_of ds) x a ↔ ((a < n) × (x a ≡ true)) ⊎ InClosure n (dependencies_of ds) (intersection x l) a
  closure_rest a = (
    (λ h. ⊎_elim
        (λ closed. inr closed)
        (λ (one : (q : Attributes) × IsBlock n (dependencies_of ds) (intersection x l) q × (q a ≡ true)). elim (cases_Bool (x a)) [
          | inl inside ↦ inl (h.0, inside)
          | inr out ↦
              let member : difference one.0 x a ≡ true = grind (arith, one.2, out) in
              absurd ((rest_block one.0 one.1 a member).outside a member h)
        ])
        (block_at n ds (intersection x l) a within_limit within common_in h.0)),
    (λ h. ⊎_elim
        (λ (here : (a < n) × (x a ≡ true)). (here.0, λ r legal. reflexivity_obeyed x (only a) r (λ (k : ℕ) e. grind (arith, nat_tests, e, here.1))))
        (λ closed. wider a closed)
        h),
  )

  pub blocks_rest : (p : Attributes) → IsBlock n (dependencies_of ds) x p ↔ ((q : Attributes) × IsBlock n (dependencies_of ds) (intersection x l) q × (p ≡ difference q x) × (IsEmpty p → ⊥))
  blocks_rest p = (
    (λ block. ⊎_elim
        (λ not_empty.
        let a = not_empty.0 in
        let out : x a ≡ false = block_disjoint n (dependencies_of ds) x p block a not_empty.2 in
        ⊎_elim
        (λ closed. absurd (block.outside a not_empty.2 (wider a closed)))
        (λ (one : (q : Attributes) × IsBlock n (dependencies_of ds) (intersection x l) q × (q a ≡ true)).
        let member : difference one.0 x a ≡ true = grind (arith, one.2, out) in
        (one.0, one.1, blocks_same n (dependencies_of ds) x p (difference one.0 x) block (rest_block one.0 one.1 a member) (a, not_empty.2, member), block.not_empty))
        (block_at n ds (intersection x l) a within_limit within common_in not_empty.1))
        (λ nothing. absurd (block.not_empty nothing))
        (tell_empty n p block.universe)),
    (λ h. ⊎_elim
        (λ not_empty. subst (λ (w : Attributes). IsBlock n (dependencies_of ds) x w) (sym h.2) (rest_block h.0 h.1 not_empty.0 (sym (same_at h.2 not_empty.0) ∙ not_empty.2)))
        (λ nothing. absurd (h.3 nothing))
        (tell_empty n p (λ (k : ℕ) m. h.1.universe k (grind (arith, same_at h.2 k, m))))),
  )
