-- What is implied on a part of a scheme, and the parts of a left side.
use Rattle.std.proofs.Common.{◌≡◌, ℕ, ◌↔◌, List, sym, ◌∙◌, arith}
use Rattle.std.proofs.lemmas.Bool.{true≢false}
use Rattle.attr_sets.specs.Attributes.{Attributes, intersection, IsSubset, Intersects}
use Rattle.attr_sets.proofs.AttributesLemmas.{same_from_within}
use Rattle.dep_model.specs.Tuples.{Relation}
use Rattle.dep_model.specs.Dependencies.{Dependency, fd, mvd, ObeysMvd}
use Rattle.dep_model.specs.OnSchemes.{ImpliedOn}
use Rattle.dep_model.specs.Keys.{IsPartOn}
use Rattle.dep_model.proofs.RuleLemmas.{mvd_intersection_obeyed}
use Rattle.dep_model.proofs.SchemeLemmas.{mvd_in-to, mvd_in-from}
use Rattle.dep_model.proofs.KeyLemmas.{fd_on-to, fd_on-from}

-- ---- a scheme cut down to a part
-- functional dependencies within the part stay as they are
pub fd_on_part : (n : ℕ) (ds : List Dependency) (scheme part x y : Attributes) → IsSubset part scheme → IsSubset x part → IsSubset y part
    → ImpliedOn n ds scheme (fd x y) ↔ ImpliedOn n ds part (fd x y)
fd_on_part n ds scheme part x y part_in x_in y_in = (
  (λ on. fd_on-from n ds part x y x_in y_in (fd_on-to n ds scheme x y on)),
  (λ on. fd_on-from n ds scheme x y (λ (k : ℕ) m. part_in k (x_in k m)) (λ (k : ℕ) m. part_in k (y_in k m)) (fd_on-to n ds part x y on)),
)

-- of a multivalued one the right side is cut down too
mvd_cut_obeyed : (scheme part x y : Attributes) (r : Relation) → IsSubset part scheme → ObeysMvd scheme x y r → ObeysMvd part x (intersection y part) r
mvd_cut_obeyed scheme part x y r part_in obeys t u t_in u_in agree =
    let v = obeys t u t_in u_in agree in (
      v.0,
      v.1,
      (λ (k : ℕ) m. v.2 k (grind (arith, m))),
      (λ (k : ℕ) m. v.3 k (grind (arith, m, part_in k))),
    )

pub mvd_on_part : (n : ℕ) (ds : List Dependency) (scheme part x y : Attributes) → IsSubset part scheme → IsSubset x part
    → ImpliedOn n ds scheme (mvd x y) → ImpliedOn n ds part (mvd x (intersection y part))
mvd_on_part n ds scheme part x y part_in x_in on = record {
  within = (x_in, λ (k : ℕ) m. grind (arith, m));
  obeyed = λ r legal. mvd_in-from part x (intersection y part) r x_in (λ (k : ℕ) m. grind (arith, m))
      (mvd_cut_obeyed scheme part x y r part_in (mvd_in-to scheme x y r on.within.0 on.within.1 (on.obeyed r legal)));
}

-- ---- parts
pub intersection_on : (n : ℕ) (ds : List Dependency) (scheme x y z : Attributes) → ImpliedOn n ds scheme (mvd x y) → ImpliedOn n ds scheme (mvd x z)
    → ImpliedOn n ds scheme (mvd x (intersection y z))
intersection_on n ds scheme x y z first second = record {
  within = (first.within.0, λ (k : ℕ) m. first.within.1 k (grind (arith, m)));
  obeyed = λ r legal. mvd_in-from scheme x (intersection y z) r first.within.0 (λ (k : ℕ) m. first.within.1 k (grind (arith, m)))
      (mvd_intersection_obeyed scheme x y z r
      (mvd_in-to scheme x y r first.within.0 first.within.1 (first.obeyed r legal))
      (mvd_in-to scheme x z r second.within.0 second.within.1 (second.obeyed r legal)));
}

part_within : (n : ℕ) (ds : List Dependency) (scheme x p q : Attributes) → IsPartOn n ds scheme x p → IsPartOn n ds scheme x q → Intersects p q → IsSubset p q
part_within n ds scheme x p q first second common k m =
    let shared = first.minimal (intersection p q) (λ (j : ℕ) h. grind (arith, h))
    (λ empty. true≢false (sym (grind (arith, common.1, common.2)) ∙ empty common.0))
    (intersection_on n ds scheme x p q first.implied second.implied) k m in
    grind (arith, shared)

-- two parts with a common attribute are one
pub parts_same : (n : ℕ) (ds : List Dependency) (scheme x p q : Attributes) → IsPartOn n ds scheme x p → IsPartOn n ds scheme x q → Intersects p q → p ≡ q
parts_same n ds scheme x p q first second common =
    same_from_within p q (part_within n ds scheme x p q first second common)
    (part_within n ds scheme x q p second first (common.0, common.2, common.1))
