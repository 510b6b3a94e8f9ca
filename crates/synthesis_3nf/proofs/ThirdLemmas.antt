-- The scheme of a group of a minimal cover is in third normal form, and so is a key of the universe.
use Rattle.std.proofs.Common.{◌≡◌, ℕ, true, false, List, [], ◌∷◌, ◌++◌, refl, sym, subst, ap, ◌∙◌, ◌⊎◌, inl, inr, ⊎_elim, arith}
use Rattle.std.specs.Prelude.{All, Contains}
use Rattle.std.proofs.lemmas.Bool.{cases_Bool, true≢false, eqb-true, eq-eqb, ltb-true}
use Rattle.std.proofs.lemmas.Bool.Decides.{nat_tests}
use Rattle.std.proofs.lemmas.List.Elements.{All-nil, All-head, All-tail, All-contains, All-weaker, Contains-append_left, Contains-append_right, Contains-append_cases, Contains-push_cases, All-contains_itself}
use Rattle.attr_sets.specs.Attributes.{Attributes, below, only, difference, IsSubset}
use Rattle.attr_sets.proofs.AttributesLemmas.{tell_member}
use Rattle.dep_model.specs.Dependencies.{Dependency, fd, mvd, Obeys, is_fd, functional_part, right_of, IsWithin}
use Rattle.dep_model.specs.Implication.{IsLegal, Implies}
use Rattle.dep_model.specs.TwoTuples.{two_tuples}
use Rattle.dep_model.specs.Keys.{IsSuperkey, IsKey}
use Rattle.dep_model.specs.Forms.{IsThird}
use Rattle.dep_model.proofs.KeyLemmas.{fd_on-to, superkey-from, scheme_superkey}
use Rattle.dep_model.proofs.RuleLemmas.{reflexivity_obeyed, transitivity_obeyed}
use Rattle.fd_closure.proofs.ClosureLemmas.{fd_each-from}
use Rattle.dep_model.proofs.TwoTupleLemmas.{two_tuples_fd-to, two_tuples_fd-from}
use Rattle.fd_closure.proofs.ClosedSets.{closure_set}
use Rattle.min_cover.specs.Covers.{IsMinimalCover, IsSingle}
use Rattle.synthesis_3nf.proofs.GroupSchemes.{AreRules, IsGroupScheme}

-- ---- lists of functional dependencies

pub functional_same : (ds : List Dependency) → All (λ d. is_fd d ≡ true) ds → functional_part ds ≡ ds
functional_same [] each = refl
functional_same (fd x y ∷ ds) each = ap (λ (rest : List Dependency). fd x y ∷ rest) (functional_same ds (All-tail (λ (d : Dependency). is_fd d ≡ true) (fd x y) ds each))
functional_same (mvd x y ∷ ds) each = absurd (true≢false (sym (All-head (λ (d : Dependency). is_fd d ≡ true) (mvd x y) ds each)))

-- ---- a member and the others
pub contains_split : (cover : List Dependency) (d : Dependency) → Contains cover d → (before : List Dependency) × (after : List Dependency) × (cover ≡ before ++ d ∷ after)
contains_split [] d has = absurd (All-contains (λ (e : Dependency). ⊥) [] d (All-nil (λ (e : Dependency). ⊥)) has)
contains_split (e ∷ cover) d has =
    ⊎_elim
    (λ here. ⊎_elim
    (λ nowhere. absurd (All-contains (λ (f : Dependency). ⊥) [] d (All-nil (λ (f : Dependency). ⊥)) nowhere))
    (λ same. ([], cover, ap (λ (f : Dependency). f ∷ cover) same))
    (Contains-push_cases [] e d here))
    (λ there. let found = contains_split cover d there in (e ∷ found.0, found.1, ap (λ (rest : List Dependency). e ∷ rest) found.2))
    (Contains-append_cases (e ∷ []) cover d has)

-- the members beside one
pub Contains-insert_cases : (before after : List Dependency) (d e : Dependency) → Contains (before ++ d ∷ after) e → Contains (before ++ after) e ⊎ (d ≡ e)
Contains-insert_cases before after d e has =
    ⊎_elim
    (λ near. inl (Contains-append_left before after e near))
    (λ far. ⊎_elim
    (λ here. ⊎_elim
    (λ nowhere. absurd (All-contains (λ (f : Dependency). ⊥) [] e (All-nil (λ (f : Dependency). ⊥)) nowhere))
    (λ same. inr same)
    (Contains-push_cases [] d e here))
    (λ later. inl (Contains-append_right before after e later))
    (Contains-append_cases (d ∷ []) after e far))
    (Contains-append_cases before (d ∷ after) e has)

part_of : (before after : List Dependency) (d e : Dependency) → Contains (before ++ after) e → Contains (before ++ d ∷ after) e
part_of before after d e has =
    ⊎_elim
    (λ near. Contains-append_left before (d ∷ after) e near)
    (λ far. Contains-append_right before (d ∷ after) e (Contains-append_right (d ∷ []) after e far))
    (Contains-append_cases before after e has)

-- what a list implies of a member of it
pub member_implied : (n : ℕ) (ds : List Dependency) (d : Dependency) → Contains ds d → Implies n ds d
member_implied n ds d has r legal = All-contains (λ (e : Dependency). Obeys n e r) ds d legal.obeys has

pub fd_trans : (n : ℕ) (ds : List Dependency) (x y z : Attributes) → Implies n ds (fd x y) → Implies n ds (fd y z) → Implies n ds (fd x z)
fd_trans n ds x y z first second r legal = transitivity_obeyed x y z r (first r legal) (second r legal)

pub fd_within : (n : ℕ) (ds : List Dependency) (x y : Attributes) → IsSubset y x → Implies n ds (fd x y)
fd_within n ds x y inside r legal = reflexivity_obeyed x y r inside

-- what holds of each member holds of each beside one
pub All-without : (P : Dependency → Type 0) (before after : List Dependency) (d : Dependency) → All P (before ++ d ∷ after) → All P (before ++ after)
All-without P before after d each =
    All-weaker (Contains (before ++ after)) P (λ e has. All-contains P (before ++ d ∷ after) e each (part_of before after d e has)) (before ++ after) (All-contains_itself (before ++ after))

-- and of all where it holds of the one too
whole_all : (P : Dependency → Type 0) (before after : List Dependency) (d : Dependency) → P d → All P (before ++ after) → All P (before ++ d ∷ after)
whole_all P before after d one each =
    All-weaker (Contains (before ++ d ∷ after)) P
    (λ e has. ⊎_elim (λ other. All-contains P (before ++ after) e each other) (λ same. subst P same one) (Contains-insert_cases before after d e has))
    (before ++ d ∷ after) (All-contains_itself (before ++ d ∷ after))

-- ---- a list that says what the functional part says
module _ (n : ℕ) (ds rules : List Dependency) (are : AreRules n ds rules) where
  pub rules_same : functional_part rules ≡ rules
  rules_same = functional_same rules are.functional

  -- what it implies, the functional part implies, and the other way round
  pub rules_implied : (d : Dependency) → Implies n rules d → Implies n (functional_part ds) d
  rules_implied d implied r legal = implied r ((are.same_legal r).1 legal)

  pub implied_by_rules : (d : Dependency) → Implies n (functional_part ds) d → Implies n rules d
  implied_by_rules d implied r legal = implied r ((are.same_legal r).0 legal)

  -- where a member follows from no others, and its left side determines a scheme: what determines the attribute that the
  -- member gives determines the scheme, if the others lead from the left side to it
  pub superkey_by_others : (x scheme v : Attributes) (b : ℕ) (before after : List Dependency) → IsSubset scheme (below n) → IsSubset x scheme → IsSubset v scheme → scheme b ≡ true
      → Implies n (functional_part ds) (fd x scheme) → rules ≡ before ++ fd x (only b) ∷ after → (Implies n (before ++ after) (fd x (only b)) → ⊥)
      → Implies n (before ++ after) (fd x v) → Implies n (functional_part ds) (fd v (only b)) → IsSuperkey n (functional_part ds) scheme v
  superkey_by_others x scheme v b before after scheme_in x_part v_part in_scheme determines parts needed to_rest gives =
      let d = fd x (only b) in
      let others = before ++ after in
      let others_in = All-without (λ (e : Dependency). IsWithin (below n) e) before after d (subst (λ (es : List Dependency). All (IsWithin (below n)) es) parts are.within) in
      let others_fd = All-without (λ (e : Dependency). is_fd e ≡ true) before after d (subst (λ (es : List Dependency). All (λ e. is_fd e ≡ true) es) parts are.functional) in
      let v_in : IsSubset v (below n) = λ (k : ℕ) m. scheme_in k (v_part k m) in
      let x_in : IsSubset x (below n) = λ (k : ℕ) m. scheme_in k (x_part k m) in
      let b_in : IsSubset (only b) (below n) = λ (k : ℕ) e. subst (λ (j : ℕ). below n j ≡ true) (sym (eqb-true k b e)) (scheme_in b in_scheme) in
      let found = closure_set n others v others_in (functional_same others others_fd) v_in in
      let c = found.0 in
      let closure = found.1 in
      ⊎_elim
      (λ reaches. absurd (needed (fd_trans n others x v (only b) to_rest ((closure.exact b).0 reaches).1)))
      (λ stops. ⊎_elim
      (λ gap.
      let legal : IsLegal n rules (two_tuples n c) = subst (λ (es : List Dependency). IsLegal n es (two_tuples n c)) (sym parts) (record {
        over = closure.legal.over;
        obeys = whole_all (λ (e : Dependency). Obeys n e (two_tuples n c)) before after d
            (two_tuples_fd-from n c x (only b) x_in b_in (λ all. absurd (true≢false (sym (all gap.0 (grind (arith, gap.2))) ∙ grind (arith, gap.2)))))
            closure.legal.obeys;
      }) in
      let held = two_tuples_fd-to n c v (only b) v_in b_in (implied_by_rules (fd v (only b)) gives (two_tuples n c) legal) closure.holds in
      absurd (true≢false (sym (held b (grind (arith, nat_tests))) ∙ stops)))
      (λ none.
      let v_to_x = fd_each-from n others v x (λ (k : ℕ) m. ((closure.exact k).0 (grind (arith, none k (ltb-true k n (x_in k m)), m))).1) in
      superkey-from n (functional_part ds) scheme v v_part
      (fd_trans n (functional_part ds) v x scheme
      (λ r legal. v_to_x r (record { over = legal.over; obeys = All-without (λ (e : Dependency). Obeys n e r) before after d (subst (λ (es : List Dependency). All (λ e. Obeys n e r) es) parts ((are.same_legal r).1 legal).obeys) }))
      determines))
      (tell_member n (difference x c)))
      (cases_Bool (c b))

-- a minimal cover is such a list
pub cover_rules : (n : ℕ) (ds cover : List Dependency) → IsMinimalCover n ds cover → All (IsWithin (below n)) cover → AreRules n ds cover
cover_rules n ds cover minimal within = record {
  same_legal = minimal.same_legal;
  functional = All-weaker IsSingle (λ (d : Dependency). is_fd d ≡ true) (λ d one. subst (λ (e : Dependency). is_fd e ≡ true) (sym one.2) refl) cover minimal.single;
  within = within;
}

-- ---- a minimal cover
module _ (n : ℕ) (ds cover : List Dependency) (minimal : IsMinimalCover n ds cover) (within : All (IsWithin (below n)) cover) where
  rules : AreRules n ds cover
  rules = cover_rules n ds cover minimal within

  -- what a member says
  pub member_holds : (d : Dependency) → Contains cover d → Implies n (functional_part ds) d
  member_holds d has = rules_implied n ds cover rules d (member_implied n cover d has)

  -- a left side that determines a scheme which has it: none of its attributes can be left out
  pub left_is_key : (x scheme : Attributes) (a : ℕ) → IsSubset x scheme → Implies n (functional_part ds) (fd x scheme) → Contains cover (fd x (only a)) → IsKey n (functional_part ds) scheme x
  left_is_key x scheme a inside determines has = record {
    superkey = superkey-from n (functional_part ds) scheme x inside determines;
    minimal = λ j part superkey k member. ⊎_elim
        (λ holds. holds)
        (λ lacks.
        let whole = fd_on-to n (functional_part ds) scheme j scheme superkey in
        let to_left = fd_trans n (functional_part ds) j scheme x whole (fd_within n (functional_part ds) scheme x inside) in
        absurd (minimal.short (fd x (only a)) has k member
        (fd_trans n (functional_part ds) (difference x (only k)) j (only a)
        (fd_within n (functional_part ds) (difference x (only k)) j (λ (i : ℕ) h. grind (arith, nat_tests, h, part i, lacks)))
        (fd_trans n (functional_part ds) j x (only a) to_left (member_holds (fd x (only a)) has)))))
        (cases_Bool (j k));
  }

  -- ---- a scheme of a group
  module _ (x scheme : Attributes) (scheme_in : IsSubset scheme (below n)) (group : IsGroupScheme cover x scheme) where
    -- the left side determines the scheme
    left_determines : Implies n (functional_part ds) (fd x scheme)
    left_determines =
        fd_each-from n (functional_part ds) x scheme
        (λ (a : ℕ) in_scheme. ⊎_elim
        (λ own. fd_within n (functional_part ds) x (only a) (λ (k : ℕ) e. grind (arith, nat_tests, own, e)))
        (λ other. member_holds (fd x (only a)) (group.member a in_scheme other))
        (cases_Bool (x a)))

    -- without the member of an attribute outside a set, the left side still determines the set
    left_to_rest : (v : Attributes) → IsSubset v scheme → {b : ℕ} → v b ≡ false → (before after : List Dependency) → cover ≡ before ++ fd x (only b) ∷ after → Implies n (before ++ after) (fd x v)
    left_to_rest v inside {b} lacks before after parts =
        fd_each-from n (before ++ after) x v
        (λ (k : ℕ) m. ⊎_elim
        (λ own. fd_within n (before ++ after) x (only k) (λ (i : ℕ) e. subst (λ (j : ℕ). x j ≡ true) (sym (eqb-true i k e)) own))
        (λ other. ⊎_elim
        (λ has. member_implied n (before ++ after) (fd x (only k)) has)
        (λ same. absurd (true≢false (sym m ∙ subst (λ (j : ℕ). v j ≡ false) (sym (same_attribute b k same)) lacks)))
        (Contains-insert_cases before after (fd x (only b)) (fd x (only k)) (subst (λ (es : List Dependency). Contains es (fd x (only k))) parts (group.member k (inside k m) other))))
        (cases_Bool (x k)))
      where
        same_attribute : (b k : ℕ) → fd x (only b) ≡ fd x (only k) → k ≡ b
        same_attribute b k same = eqb-true k b (ap (λ (e : Dependency). right_of e k) same ∙ eq-eqb k k refl)

    -- an attribute that members determine: what determines it on the scheme is a superkey
    right_third : (v : Attributes) (b : ℕ) → IsSubset v scheme → scheme b ≡ true → x b ≡ false → v b ≡ false → Implies n (functional_part ds) (fd v (only b)) → IsSuperkey n (functional_part ds) scheme v
    right_third v b inside in_scheme outside lacks determines =
        let split = contains_split cover (fd x (only b)) (group.member b in_scheme outside) in
        superkey_by_others n ds cover rules x scheme v b split.0 split.1 scheme_in group.left inside in_scheme left_determines split.2
        (minimal.needed split.0 split.1 (fd x (only b)) split.2) (left_to_rest v inside lacks split.0 split.1 split.2) determines

  -- the scheme of a group is in third normal form
  pub group_third : (x scheme : Attributes) → IsSubset scheme (below n) → IsGroupScheme cover x scheme → IsThird n ds scheme
  group_third x scheme scheme_in group v b on lacks =
      let in_scheme : scheme b ≡ true = on.within.1 b (grind (arith, nat_tests)) in
      ⊎_elim
      (λ own. inr (x, left_is_key x scheme group.first group.left (left_determines x scheme scheme_in group) group.not_empty.0, own))
      (λ other. inl (right_third x scheme scheme_in group v b on.within.0 in_scheme other lacks (fd_on-to n (functional_part ds) scheme v (only b) on)))
      (cases_Bool (x b))

-- ---- a key of the universe, as a scheme
pub key_third : (n : ℕ) (ds : List Dependency) (key : Attributes) → IsKey n (functional_part ds) (below n) key → IsThird n ds key
key_third n ds key is v b on lacks =
    inr (
      key,
      record {
        superkey = scheme_superkey n (functional_part ds) key;
        minimal = λ j inside superkey. is.minimal j inside
            (superkey-from n (functional_part ds) (below n) j (λ (k : ℕ) m. is.superkey.within.0 k (inside k m))
            (fd_trans n (functional_part ds) j key (below n) (fd_on-to n (functional_part ds) key j key superkey) (fd_on-to n (functional_part ds) (below n) key (below n) is.superkey)));
      },
      on.within.1 b (grind (arith, nat_tests)),
    )
