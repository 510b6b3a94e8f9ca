-- Projections on a scheme, attribute by attribute, and what they obey.
use Rattle.std.proofs.Common.{◌≡◌, ℕ, ◌+◌, ◌<◌, zero, suc, true, false, List, [], ◌∷◌, ◌++◌, length, get_or, refl, sym, ap, subst, ◌∙◌, inl, inr, arith, length-append, append-nil, Bool, if◌then◌else◌}
use Rattle.std.proofs.lemmas.Bool.{cases_Bool, cases_lt}
use Rattle.std.proofs.lemmas.Bool.Decides.{nat_tests}
use Rattle.std.proofs.lemmas.List.{get_or_past, get_or-map, get_or_append_left, length-map, same_lists, get_or_default}
use Rattle.std.proofs.lemmas.List.Elements.{All-contains}
use Rattle.std.proofs.Math.Seq.{get_or-append_seam}
use Rattle.std.specs.Prelude.{Contains}
use Rattle.attr_sets.specs.Attributes.{Attributes, below, union, difference, IsSubset, count_below}
use Rattle.attr_sets.proofs.AttributesLemmas.{count_below-mono, count_below-before_member, count_below-member, count_below-outside, count_below-below, count_below-equal}
use Rattle.dep_model.specs.Tuples.{Tuple, Relation, value_at, AgreeOn}
use Rattle.dep_model.specs.Dependencies.{Dependency, ObeysFd, ObeysMvd, fd, mvd}
use Rattle.dep_model.specs.Projections.{members_below, project_tuple, projection, IsLossless}
use Rattle.dep_model.specs.OnSchemes.{value_in, AgreeIn, ObeysIn}
use Rattle.dep_model.proofs.ListLemmas.{Contains-map, map-member}

-- ---- the members of a set, ascending
-- one attribute more
pub members_below-member : (n : ℕ) (x : Attributes) → x n ≡ true → members_below (suc n) x ≡ members_below n x ++ n ∷ []
unfolding members_below
members_below-member n x h = rw h refl

pub members_below-outside : (n : ℕ) (x : Attributes) → x n ≡ false → members_below (suc n) x ≡ members_below n x
unfolding members_below
members_below-outside n x h = rw h (append-nil (members_below n x))

pub members_below-none : (x : Attributes) → members_below 0 x ≡ []
unfolding members_below
members_below-none x = refl

-- the counts, at `suc n`
pub count_below-start : (x : Attributes) → count_below x 0 ≡ 0
unfolding count_below
count_below-start x = refl

pub count_below-one_more : (n : ℕ) (x : Attributes) → x n ≡ true → count_below x (suc n) ≡ count_below x n + 1
count_below-one_more n x h = let e : suc n ≡ n + 1 = omega arith in ap (λ (m : ℕ). count_below x m) e ∙ count_below-member n x h

pub count_below-no_more : (n : ℕ) (x : Attributes) → x n ≡ false → count_below x (suc n) ≡ count_below x n
count_below-no_more n x h = let e : suc n ≡ n + 1 = omega arith in ap (λ (m : ℕ). count_below x m) e ∙ count_below-outside n x h

pub length-members_below : (n : ℕ) (x : Attributes) → length (members_below n x) ≡ count_below x n
length-members_below zero x = rw (members_below-none x, count_below-start x) refl
length-members_below (suc n) x =
    elim (cases_Bool (x n)) [
      | inl h ↦ rw (members_below-member n x h) (omega (arith, length-append (members_below n x) (n ∷ []), length-members_below n x, count_below-one_more n x h))
      | inr h ↦ rw (members_below-outside n x h) (omega (arith, length-members_below n x, count_below-no_more n x h))
    ]

-- a member stands after those before it
pub members_below-at : (n : ℕ) (x : Attributes) (k d : ℕ) → k < n → x k ≡ true → get_or (members_below n x) (count_below x k) d ≡ k
members_below-at zero x k d l h = absurd (omega arith)
members_below-at (suc n) x k d l h =
    elim (cases_lt k n) [
      | inl before ↦
          let short : count_below x k < length (members_below n x) = omega (arith, length-members_below n x, count_below-before_member n k x before h) in
          elim (cases_Bool (x n)) [
            | inl m ↦ rw (members_below-member n x m) (get_or_append_left (members_below n x) (n ∷ []) d (count_below x k) short ∙ members_below-at n x k d before h)
            | inr m ↦ rw (members_below-outside n x m) (members_below-at n x k d before h)
          ]
      | inr from_n ↦
          let same : n ≡ k = omega arith in
          let m : x n ≡ true = ap x same ∙ h in
          let at_end : count_below x k ≡ length (members_below n x) = ap (λ (j : ℕ). count_below x j) (sym same) ∙ sym (length-members_below n x) in
          rw (members_below-member n x m, at_end) (get_or-append_seam (members_below n x) n [] d ∙ same)
    ]

-- ---- the value of a projection at an attribute of the scheme
pub length-project_tuple : (scheme : Attributes) (t : Tuple) → length (project_tuple scheme t) ≡ count_below scheme (length t)
length-project_tuple scheme t = length-map (members_below (length t) scheme) (λ (k : ℕ). value_at t k) ∙ length-members_below (length t) scheme

pub value_in-project_tuple : (scheme : Attributes) (t : Tuple) (k : ℕ) → scheme k ≡ true → value_in scheme (project_tuple scheme t) k ≡ value_at t k
value_in-project_tuple scheme t k h =
    elim (cases_lt k (length t)) [
      | inl before ↦
          let short : count_below scheme k < length (members_below (length t) scheme) = omega (arith, length-members_below (length t) scheme, count_below-before_member (length t) k scheme before h) in
          get_or-map (λ (j : ℕ). value_at t j) (members_below (length t) scheme) (count_below scheme k) 0 [] short
          ∙ ap (λ (j : ℕ). value_at t j) (members_below-at (length t) scheme k 0 before h)
      | inr past ↦
          get_or_past (project_tuple scheme t) (count_below scheme k) [] (omega (arith, length-project_tuple scheme t, count_below-mono k (length t) scheme past))
          ∙ sym (get_or_past t k [] past)
    ]

-- ---- agreement of projections is agreement of the tuples
pub AgreeIn-to : (scheme x : Attributes) (t u : Tuple) → IsSubset x scheme → AgreeIn scheme x (project_tuple scheme t) (project_tuple scheme u) → AgreeOn x t u
AgreeIn-to scheme x t u inside agree k m =
    sym (value_in-project_tuple scheme t k (inside k m)) ∙ agree k m ∙ value_in-project_tuple scheme u k (inside k m)

pub AgreeIn-from : (scheme x : Attributes) (t u : Tuple) → IsSubset x scheme → AgreeOn x t u → AgreeIn scheme x (project_tuple scheme t) (project_tuple scheme u)
AgreeIn-from scheme x t u inside agree k m =
    value_in-project_tuple scheme t k (inside k m) ∙ agree k m ∙ sym (value_in-project_tuple scheme u k (inside k m))

IsSubset-union : (x y scheme : Attributes) → IsSubset x scheme → IsSubset y scheme → IsSubset (union x y) scheme
IsSubset-union x y scheme x_in y_in k m = grind (arith, m, x_in k, y_in k)

-- ---- what a projection obeys is what the relation obeys with the rest taken in the scheme
pub fd_in-to : (scheme x y : Attributes) (r : Relation) → IsSubset x scheme → IsSubset y scheme → ObeysIn scheme (fd x y) (projection scheme r) → ObeysFd x y r
fd_in-to scheme x y r x_in y_in obeys t u t_in u_in agree =
    AgreeIn-to scheme y t u y_in
    (obeys (project_tuple scheme t) (project_tuple scheme u) (Contains-map (project_tuple scheme) r t t_in) (Contains-map (project_tuple scheme) r u u_in) (AgreeIn-from scheme x t u x_in agree))

pub fd_in-from : (scheme x y : Attributes) (r : Relation) → IsSubset x scheme → IsSubset y scheme → ObeysFd x y r → ObeysIn scheme (fd x y) (projection scheme r)
fd_in-from scheme x y r x_in y_in obeys p q p_in q_in agree =
    let t = map-member (project_tuple scheme) r p p_in in
    let u = map-member (project_tuple scheme) r q q_in in
    let on_x : AgreeOn x t.0 u.0 = AgreeIn-to scheme x t.0 u.0 x_in (rw (t.2, u.2) agree) in
    rw (← t.2, ← u.2) (AgreeIn-from scheme y t.0 u.0 y_in (obeys t.0 u.0 t.1 u.1 on_x))

pub mvd_in-to : (scheme x y : Attributes) (r : Relation) → IsSubset x scheme → IsSubset y scheme → ObeysIn scheme (mvd x y) (projection scheme r) → ObeysMvd scheme x y r
mvd_in-to scheme x y r x_in y_in obeys t u t_in u_in agree =
    let w = obeys (project_tuple scheme t) (project_tuple scheme u) (Contains-map (project_tuple scheme) r t t_in) (Contains-map (project_tuple scheme) r u u_in) (AgreeIn-from scheme x t u x_in agree) in
    let v = map-member (project_tuple scheme) r w.0 w.1 in (
      v.0,
      v.1,
      AgreeIn-to scheme (union x y) v.0 t (IsSubset-union x y scheme x_in y_in) (rw v.2 w.2),
      AgreeIn-to scheme (difference scheme (union x y)) v.0 u (λ (k : ℕ) m. grind (arith, m)) (rw v.2 w.3),
    )

pub mvd_in-from : (scheme x y : Attributes) (r : Relation) → IsSubset x scheme → IsSubset y scheme → ObeysMvd scheme x y r → ObeysIn scheme (mvd x y) (projection scheme r)
mvd_in-from scheme x y r x_in y_in obeys p q p_in q_in agree =
    let t = map-member (project_tuple scheme) r p p_in in
    let u = map-member (project_tuple scheme) r q q_in in
    let on_x : AgreeOn x t.0 u.0 = AgreeIn-to scheme x t.0 u.0 x_in (rw (t.2, u.2) agree) in
    let v = obeys t.0 u.0 t.1 u.1 on_x in (
      project_tuple scheme v.0,
      Contains-map (project_tuple scheme) r v.0 v.1,
      subst (λ (s : Tuple). AgreeIn scheme (union x y) (project_tuple scheme v.0) s) t.2
          (AgreeIn-from scheme (union x y) v.0 t.0 (IsSubset-union x y scheme x_in y_in) v.2),
      subst (λ (s : Tuple). AgreeIn scheme (difference scheme (union x y)) (project_tuple scheme v.0) s) u.2
          (AgreeIn-from scheme (difference scheme (union x y)) v.0 u.0 (λ (k : ℕ) m. grind (arith, m)) v.3),
    )

-- ---- the whole of a tuple
pub count_below-all : (n : ℕ) (x : Attributes) → ((k : ℕ) → k < n → x k ≡ true) → count_below x n ≡ n
count_below-all n x all = count_below-equal n x (below n) (λ (k : ℕ) l. grind (arith, nat_tests, all k l)) ∙ count_below-below n n (omega arith)

-- a tuple is its own projection on a scheme that has all its attributes
pub project_tuple-whole : (scheme : Attributes) (t : Tuple) → ((k : ℕ) → k < length t → scheme k ≡ true) → project_tuple scheme t ≡ t
project_tuple-whole scheme t all =
    let count : count_below scheme (length t) ≡ length t = count_below-all (length t) scheme all in
    same_lists (project_tuple scheme t) t (length-project_tuple scheme t ∙ count) (λ (k : ℕ) (d : List ℕ) l.
    let before : k < length t = omega (arith, length-project_tuple scheme t, count) in
    let short : k < length (members_below (length t) scheme) = omega (arith, length-members_below (length t) scheme, count) in
    let counted : count_below scheme k ≡ k = count_below-all k scheme (λ (j : ℕ) m. all j (omega arith)) in
    let at_attribute : get_or (members_below (length t) scheme) k 0 ≡ k =
    ap (λ (j : ℕ). get_or (members_below (length t) scheme) j 0) (sym counted) ∙ members_below-at (length t) scheme k 0 before (all k before) in
    get_or-map (λ (j : ℕ). value_at t j) (members_below (length t) scheme) k 0 d short
    ∙ ap (λ (j : ℕ). value_at t j) at_attribute
    ∙ get_or_default t k [] d before)

-- ---- the universe alone
-- a plan of one scheme that holds every attribute loses nothing
pub whole_lossless : (n : ℕ) (ds : List Dependency) → IsLossless n ds (below n ∷ [])
whole_lossless n ds = record {
  covers = λ k l. (0, below n, omega arith, refl, grind (arith, nat_tests));
  gains_none = λ r legal t joined.
      let whole = λ (u : Tuple) (over : length u ≡ n). project_tuple-whole (below n) u (λ (k : ℕ) l. grind (arith, nat_tests)) in
      let found = map-member (project_tuple (below n)) r (project_tuple (below n) t) joined.in_each.0 in
      let same : found.0 ≡ t = sym (whole found.0 (All-contains (λ (u : Tuple). length u ≡ n) r found.0 legal.over found.1)) ∙ found.2 ∙ whole t joined.over in
      subst (λ (u : Tuple). Contains r u) same found.1;
}

pub members_below-one_more : (n m : ℕ) (x : Attributes) → m ≡ n + 1 → x n ≡ true → members_below m x ≡ members_below n x ++ n ∷ []
unfolding members_below
members_below-one_more n m x e member = let next : m ≡ suc n = omega (arith, e) in ap (λ (k : ℕ). members_below k x) next ∙ (rw member refl)

pub members_below-no_more : (n m : ℕ) (x : Attributes) → m ≡ n + 1 → x n ≡ false → members_below m x ≡ members_below n x
unfolding members_below
members_below-no_more n m x e outside = let next : m ≡ suc n = omega (arith, e) in ap (λ (k : ℕ). members_below k x) next ∙ (rw outside (append-nil (members_below n x)))

-- the members of a set in their order
pub member_at : (n : ℕ) (x : Attributes) (i a : ℕ) → i < length (members_below n x) → a ≡ get_or (members_below n x) i a → (a < n) × (x a ≡ true) × (i ≡ count_below x a)
unfolding members_below
member_at zero x i a l h = absurd (omega arith)
member_at (suc n) x i a l h = elim (cases_Bool (x n)) [
  | inl has ↦
      let list : members_below (suc n) x ≡ members_below n x ++ n ∷ [] = ap (λ (b : Bool). members_below n x ++ (if b then n ∷ [] else [])) has in
      elim (cases_lt i (length (members_below n x))) [
        | inl front ↦
            let old = member_at n x i a front (h ∙ ap (λ (l : List ℕ). get_or l i a) list ∙ get_or_append_left (members_below n x) (n ∷ []) a i front) in
            (omega (arith, old.0), old.1, old.2)
        | inr last ↦
            let size : length (members_below (suc n) x) ≡ length (members_below n x) + 1 = ap length list ∙ length-append (members_below n x) (n ∷ []) in
            let at : i ≡ length (members_below n x) = omega (arith, l, size, last) in
            let is : a ≡ n = h ∙ ap (λ (l : List ℕ). get_or l i a) list ∙ ap (λ (j : ℕ). get_or (members_below n x ++ n ∷ []) j a) at ∙ get_or-append_seam (members_below n x) n [] a in
            (omega (arith, is), ap x is ∙ has, at ∙ length-members_below n x ∙ ap (count_below x) (sym is))
      ]
  | inr lacks ↦
      let list : members_below (suc n) x ≡ members_below n x = ap (λ (b : Bool). members_below n x ++ (if b then n ∷ [] else [])) lacks ∙ append-nil _ in
      let size : length (members_below (suc n) x) ≡ length (members_below n x) = ap length list in
      let old = member_at n x i a (omega (arith, l, size)) (h ∙ ap (λ (l : List ℕ). get_or l i a) list) in
      (omega (arith, old.0), old.1, old.2)
]
