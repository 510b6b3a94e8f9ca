-- A plan with a key of the universe in one scheme and each member of a cover in some scheme is
-- lossless, and keeps the dependencies.
use Rattle.std.proofs.Common.{◌≡◌, ℕ, ◌<◌, true, List, [], ◌∷◌, length, sym, subst, ◌∙◌, ⊎_elim, arith}
use Rattle.std.specs.Prelude.{All, Contains}
use Rattle.std.proofs.lemmas.Bool.{lt-ltb, true≢false}
use Rattle.std.proofs.lemmas.List.{ext_get_or}
use Rattle.std.proofs.lemmas.List.Elements.{All-nil, All-cons, All-contains, All-contains_itself, All-weaker}
use Rattle.attr_sets.specs.Attributes.{Attributes, below, union, IsSubset}
use Rattle.dep_model.specs.Tuples.{Tuple, Relation, AgreeOn}
use Rattle.dep_model.specs.Dependencies.{Dependency, fd, mvd, Obeys, ObeysFd, is_fd, functional_part, left_of, right_of}
use Rattle.dep_model.specs.Implication.{IsLegal, Implies}
use Rattle.dep_model.specs.Projections.{InJoin, IsLossless, Covers, projections}
use Rattle.dep_model.specs.Preservation.{KeepsDependencies}
use Rattle.dep_model.proofs.DepLemmas.{functional_legal-weaker}
use Rattle.dep_model.proofs.ListLemmas.{Any-from}
use Rattle.dep_model.proofs.JoinLemmas.{in_join-to, projected_tuple_agrees}
use Rattle.dep_model.proofs.TwoRowLemmas.{Contains-two_first, Contains-two_second, Contains-two_cases, AgreeOn-refl, AgreeOn-sym, AgreeOn-within, AgreeOn-trans}
use Rattle.dep_model.proofs.PreservationLemmas.{fd-obeys, fd-obeyed}
use Rattle.min_cover.specs.Covers.{HaveSameLegal}
use Rattle.synthesis_3nf.proofs.GroupSchemes.{AreHeld}

module _ (n : ℕ) (ds cover : List Dependency) (same : HaveSameLegal n cover (functional_part ds)) (functional : All (λ d. is_fd d ≡ true) cover) (plan : List Attributes) (held : AreHeld cover plan) where
  -- a tuple of the join and one of the relation that agree on a left side agree on its right side
  pair_agrees : (r : Relation) (t u : Tuple) → IsLegal n cover r → InJoin n plan (projections plan r) t → Contains r u
      → (d : Dependency) → Contains cover d → AgreeOn (left_of d) u t → AgreeOn (right_of d) u t
  pair_agrees r t u legal joined u_in d has agree =
      let keeper = held d has in
      let scheme = keeper.0 in
      let found = projected_tuple_agrees r t scheme (in_join-to n plan r t joined scheme keeper.1) in
      let w = found.0 in
      let left : AgreeOn (left_of d) w t = AgreeOn-within (left_of d) scheme w t (λ k m. keeper.2 k (grind (arith, m))) found.2 in
      let right : AgreeOn (right_of d) w t = AgreeOn-within (right_of d) scheme w t (λ k m. keeper.2 k (grind (arith, m))) found.2 in
      let both : AgreeOn (left_of d) u w = AgreeOn-trans (left_of d) u t w agree (AgreeOn-sym (left_of d) w t left) in
      let obeyed : ObeysFd (left_of d) (right_of d) r = fd-obeyed n d r (All-contains (λ (e : Dependency). is_fd e ≡ true) cover d functional has) (All-contains (λ (e : Dependency). Obeys n e r) cover d legal.obeys has) in
      AgreeOn-trans (right_of d) u w t (obeyed u w u_in found.1 both) right

  -- so the two form a legal relation
  pair_legal : (r : Relation) (t u : Tuple) → IsLegal n cover r → InJoin n plan (projections plan r) t → Contains r u → IsLegal n cover (u ∷ t ∷ [])
  pair_legal r t u legal joined u_in = record {
    over = All-cons (λ (v : Tuple). length v ≡ n) u (t ∷ []) (All-contains (λ (v : Tuple). length v ≡ n) r u legal.over u_in)
        (All-cons (λ (v : Tuple). length v ≡ n) t [] joined.over (All-nil (λ (v : Tuple). length v ≡ n)));
    obeys = All-weaker (Contains cover) (λ (d : Dependency). Obeys n d (u ∷ t ∷ [])) each cover (All-contains_itself cover);
  }
    where
      each : (d : Dependency) → Contains cover d → Obeys n d (u ∷ t ∷ [])
      each d has = fd-obeys n d (u ∷ t ∷ []) (All-contains (λ (e : Dependency). is_fd e ≡ true) cover d functional has)
          (λ a b a_in b_in agree. ⊎_elim
          (λ a_is_u. ⊎_elim
          (λ b_is_u. subst (λ (v : Tuple). AgreeOn (right_of d) v b) (sym a_is_u) (subst (λ (v : Tuple). AgreeOn (right_of d) u v) (sym b_is_u) (AgreeOn-refl (right_of d) u)))
          (λ b_is_t. subst (λ (v : Tuple). AgreeOn (right_of d) v b) (sym a_is_u) (subst (λ (v : Tuple). AgreeOn (right_of d) u v) (sym b_is_t)
          (pair_agrees r t u legal joined u_in d has (subst (λ (v : Tuple). AgreeOn (left_of d) v t) a_is_u (subst (λ (v : Tuple). AgreeOn (left_of d) a v) b_is_t agree)))))
          (Contains-two_cases u t b b_in))
          (λ a_is_t. ⊎_elim
          (λ b_is_u. subst (λ (v : Tuple). AgreeOn (right_of d) v b) (sym a_is_t) (subst (λ (v : Tuple). AgreeOn (right_of d) t v) (sym b_is_u)
          (AgreeOn-sym (right_of d) u t (pair_agrees r t u legal joined u_in d has (AgreeOn-sym (left_of d) t u (subst (λ (v : Tuple). AgreeOn (left_of d) v u) a_is_t (subst (λ (v : Tuple). AgreeOn (left_of d) a v) b_is_u agree)))))))
          (λ b_is_t. subst (λ (v : Tuple). AgreeOn (right_of d) v b) (sym a_is_t) (subst (λ (v : Tuple). AgreeOn (right_of d) t v) (sym b_is_t) (AgreeOn-refl (right_of d) t)))
          (Contains-two_cases u t b b_in))
          (Contains-two_cases u t a a_in))

  -- a scheme that determines the universe makes the plan lossless
  pub lossless : Covers n plan → (scheme : Attributes) → Contains plan scheme → Implies n (functional_part ds) (fd scheme (below n)) → IsLossless n ds plan
  lossless covers scheme has determines = record {
    covers = covers;
    gains_none = λ r legal t joined.
        let legal_cover : IsLegal n cover r = (same r).1 (functional_legal-weaker n ds r legal) in
        let found = projected_tuple_agrees r t scheme (in_join-to n plan r t joined scheme has) in
        let u = found.0 in
        let pair = u ∷ t ∷ [] in
        let agree : AgreeOn (below n) u t = determines pair ((same pair).0 (pair_legal r t u legal_cover joined found.1)) u t (Contains-two_first u t) (Contains-two_second u t) found.2 in
        let u_long : length u ≡ n = All-contains (λ (v : Tuple). length v ≡ n) r u legal.over found.1 in
        let same : u ≡ t = ext_get_or [] u t (u_long ∙ sym joined.over) (λ k low. agree k (lt-ltb k n (subst (λ (m : ℕ). k < m) u_long low))) in
        subst (λ (v : Tuple). Contains r v) same found.1;
  }

  pub keeps : KeepsDependencies n ds plan
  keeps r over kept = (same r).0 (record {
    over = over;
    obeys = All-weaker (Contains cover) (λ (d : Dependency). Obeys n d r) (λ d has. member d has (All-contains (λ (e : Dependency). is_fd e ≡ true) cover d functional has)) cover (All-contains_itself cover);
  })
    where
      member : (d : Dependency) → Contains cover d → is_fd d ≡ true → Obeys n d r
      member (fd x y) has is =
          let keeper = held (fd x y) has in
          kept x y (Any-from (λ (scheme : Attributes). IsSubset (union x y) scheme) plan keeper.0 keeper.1 keeper.2)
          (λ s legal. All-contains (λ (e : Dependency). Obeys n e s) cover (fd x y) ((same s).1 legal).obeys has)
      member (mvd x y) has is = absurd (true≢false (sym is))
