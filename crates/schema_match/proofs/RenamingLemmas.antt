-- Obedience does not depend on the order of columns: where the attributes of two universes, their sets and
-- their relations stand for one another, so do the dependencies that the relations obey.
use Rattle.std.proofs.Common.{◌≡◌, ℕ, ◌<◌, true, sym, ◌∙◌, arith}
use Rattle.std.specs.Prelude.{Contains, nat_lt}
use Rattle.std.proofs.lemmas.Bool.{ltb-true, lt-ltb}
use Rattle.attr_sets.specs.Attributes.{Attributes, below, union, difference, IsSubset}
use Rattle.dep_model.specs.Tuples.{Tuple, Relation, value_at, AgreeOn}
use Rattle.dep_model.specs.Dependencies.{Dependency, fd, mvd, Obeys, ObeysFd, ObeysMvd, IsWithin}

-- the attributes below n stand for those below m
pub record IsRenaming (n m : ℕ) (R : ℕ → ℕ → Type 0) : Type 0 where
  pub first : (a b : ℕ) → R a b → a < n
  pub second : (a b : ℕ) → R a b → b < m
  pub there : (a : ℕ) → a < n → (b : ℕ) × R a b
  pub back : (b : ℕ) → b < m → (a : ℕ) × R a b

-- the same renaming, from the other side
abbrev pub Inverse : (ℕ → ℕ → Type 0) → ℕ → ℕ → Type 0
Inverse R b a = R a b

pub IsRenaming-inverse : (n m : ℕ) (R : ℕ → ℕ → Type 0) → IsRenaming n m R → IsRenaming m n (Inverse R)
IsRenaming-inverse n m R names = record {
  first = λ b a r. names.second a b r;
  second = λ b a r. names.first a b r;
  there = λ b lt. names.back b lt;
  back = λ a lt. names.there a lt;
}

-- sets stand for one another, and so do tuples, relations and dependencies
abbrev pub SameSet : (ℕ → ℕ → Type 0) → Attributes → Attributes → Type 0
SameSet R x y = (a b : ℕ) → R a b → x a ≡ y b

abbrev pub SameTuple : (ℕ → ℕ → Type 0) → Tuple → Tuple → Type 0
SameTuple R t u = (a b : ℕ) → R a b → value_at t a ≡ value_at u b

pub record AreRenamed (R : ℕ → ℕ → Type 0) (r s : Relation) : Type 0 where
  pub there : (t : Tuple) → Contains r t → (u : Tuple) × Contains s u × SameTuple R t u
  pub back : (u : Tuple) → Contains s u → (t : Tuple) × Contains r t × SameTuple R t u

abbrev pub SameDependency : (ℕ → ℕ → Type 0) → Dependency → Dependency → Type 0
SameDependency R (fd x y) (fd v w) = SameSet R x v × SameSet R y w
SameDependency R (mvd x y) (mvd v w) = SameSet R x v × SameSet R y w
SameDependency R _ _ = ⊥

pub AreRenamed-inverse : (R : ℕ → ℕ → Type 0) (r s : Relation) → AreRenamed R r s → AreRenamed (Inverse R) s r
AreRenamed-inverse R r s same = record {
  there = λ u u_in. let found = same.back u u_in in (found.0, found.1, λ (b a : ℕ) h. sym (found.2 a b h));
  back = λ t t_in. let found = same.there t t_in in (found.0, found.1, λ (b a : ℕ) h. sym (found.2 a b h));
}

pub SameDependency-inverse : (R : ℕ → ℕ → Type 0) (d e : Dependency) → SameDependency R d e → SameDependency (Inverse R) e d
SameDependency-inverse R (fd x y) (fd v w) same = ((λ (b a : ℕ) h. sym (same.0 a b h)), (λ (b a : ℕ) h. sym (same.1 a b h)))
SameDependency-inverse R (mvd x y) (mvd v w) same =
    ((λ (b a : ℕ) h. sym (same.0 a b h)), (λ (b a : ℕ) h. sym (same.1 a b h)))
SameDependency-inverse R (fd x y) (mvd v w) same = absurd same
SameDependency-inverse R (mvd x y) (fd v w) same = absurd same

-- ---- what two tuples agree on
agree_renamed : (n m : ℕ) (R : ℕ → ℕ → Type 0) (x y : Attributes) (t u v w : Tuple) → IsRenaming n m R
    → IsSubset y (below m) → SameSet R x y
    → SameTuple R t v → SameTuple R u w → AgreeOn x t u → AgreeOn y v w
agree_renamed n m R x y t u v w names low sets first second agree b member =
    let found = names.back b (ltb-true b m (low b member)) in
    let a = found.0 in
    sym (first a b found.1) ∙ agree a (sets a b found.1 ∙ member) ∙ second a b found.1

union_renamed : (R : ℕ → ℕ → Type 0) (x y v w : Attributes) → SameSet R x v → SameSet R y w
    → SameSet R (union x y) (union v w)
union_renamed R x y v w left right a b r = grind (arith, left a b r, right a b r)

rest_renamed : (n m : ℕ) (R : ℕ → ℕ → Type 0) (x v : Attributes) → IsRenaming n m R → SameSet R x v
    → SameSet R (difference (below n) x) (difference (below m) v)
rest_renamed n m R x v names same a b r =
    let here : nat_lt a n ≡ true = lt-ltb a n (names.first a b r) in
    let there : nat_lt b m ≡ true = lt-ltb b m (names.second a b r) in
    grind (arith, here, there, same a b r)

-- ---- what the relations obey
fd_renamed : (n m : ℕ) (R : ℕ → ℕ → Type 0) (x y v w : Attributes) (r s : Relation) → IsRenaming n m R
    → IsSubset x (below n) → IsSubset w (below m)
    → SameSet R x v → SameSet R y w → AreRenamed R r s → ObeysFd x y r → ObeysFd v w s
fd_renamed n m R x y v w r s names x_low w_low left right same obeys t u t_in u_in agree =
    let one = same.back t t_in in
    let two = same.back u u_in in
    let before : AgreeOn x one.0 two.0 =
    agree_renamed m n (Inverse R) v x t u one.0 two.0 (IsRenaming-inverse n m R names) x_low (λ (b a : ℕ) h. sym (left a b h))
    (λ (b a : ℕ) h. sym (one.2 a b h)) (λ (b a : ℕ) h. sym (two.2 a b h)) agree in
    agree_renamed n m R y w one.0 two.0 t u names w_low right one.2 two.2 (obeys one.0 two.0 one.1 two.1 before)

mvd_renamed : (n m : ℕ) (R : ℕ → ℕ → Type 0) (x y v w : Attributes) (r s : Relation) → IsRenaming n m R
    → IsSubset x (below n) → IsSubset v (below m) → IsSubset w (below m)
    → SameSet R x v → SameSet R y w → AreRenamed R r s → ObeysMvd (below n) x y r → ObeysMvd (below m) v w s
mvd_renamed n m R x y v w r s names x_low v_low w_low left right same obeys t u t_in u_in agree =
    let one = same.back t t_in in
    let two = same.back u u_in in
    let before : AgreeOn x one.0 two.0 =
    agree_renamed m n (Inverse R) v x t u one.0 two.0 (IsRenaming-inverse n m R names) x_low (λ (b a : ℕ) h. sym (left a b h))
    (λ (b a : ℕ) h. sym (one.2 a b h)) (λ (b a : ℕ) h. sym (two.2 a b h)) agree in
    let mixed = obeys one.0 two.0 one.1 two.1 before in
    let found = same.there mixed.0 mixed.1 in
    let both : SameSet R (union x y) (union v w) = union_renamed R x y v w left right in
    let both_low : IsSubset (union v w) (below m) = λ (k : ℕ) member. grind (arith, v_low k, w_low k, member) in
    let rest_low : IsSubset (difference (below m) (union v w)) (below m) = λ (k : ℕ) member. grind (arith, member) in (
      found.0,
      found.1,
      agree_renamed n m R (union x y) (union v w) mixed.0 one.0 found.0 t names both_low both found.2 one.2 mixed.2,
      agree_renamed n m R (difference (below n) (union x y))
          (difference (below m) (union v w)) mixed.0 two.0 found.0 u names rest_low
          (rest_renamed n m R (union x y) (union v w) names both) found.2 two.2 mixed.3,
    )

-- a relation obeys a dependency where the one that stands for it obeys what stands for the dependency
pub obeys_renamed : (n m : ℕ) (R : ℕ → ℕ → Type 0) (d e : Dependency) (r s : Relation) → IsRenaming n m R
    → IsWithin (below n) d → IsWithin (below m) e
    → SameDependency R d e → AreRenamed R r s → Obeys n d r → Obeys m e s
obeys_renamed n m R (fd x y) (fd v w) r s names d_low e_low same both obeys =
    fd_renamed n m R x y v w r s names d_low.0 e_low.1 same.0 same.1 both obeys
obeys_renamed n m R (mvd x y) (mvd v w) r s names d_low e_low same both obeys =
    mvd_renamed n m R x y v w r s names d_low.0 e_low.0 e_low.1 same.0 same.1 both obeys
obeys_renamed n m R (fd x y) (mvd v w) r s names d_low e_low same both obeys = absurd same
obeys_renamed n m R (mvd x y) (fd v w) r s names d_low e_low same both obeys = absurd same
