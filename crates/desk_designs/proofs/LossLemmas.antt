-- The losses of a plan lie within the universe, and the first of them.
use Rattle.std.proofs.Common.{inl, inr, ◌≡◌, ◌<◌, ◌+◌, ℕ, zero, suc, List, [], ◌∷◌, length, drop, get_or, sym, subst, ap, arith}
use Rattle.std.proofs.lemmas.Bool.Decides.{nat_tests}
use Rattle.std.proofs.lemmas.List.{at_drop_more}
use Rattle.attr_sets.specs.Attributes.{Attributes, below, IsSubset}
use Rattle.attr_sets.specs.Sets.{attributes}
use Rattle.dep_model.specs.Dependencies.{Dependency, fd, mvd}
use Rattle.preservation.specs.Keeping.{LossesFrom, IsLostOn}
use Rattle.preservation.specs.declared.losing.Loss.{Loss}

lost_within : (n : ℕ) (ds : List Dependency) (plan : List Attributes) (d : Dependency) (agreement : Attributes) → IsLostOn n ds plan d agreement → IsSubset agreement (below n)
lost_within n ds plan (fd x y) agreement lost k m = grind (arith, nat_tests, ((lost.closure k).0 m).0)
lost_within n ds plan (mvd x y) agreement lost k m = absurd lost

pub losses_within : (n : ℕ) (ds : List Dependency) (plan : List Attributes) (k : ℕ) (rest : List Dependency) (losses : List Loss) → LossesFrom n ds plan k rest losses
    → (i : ℕ) (d : Loss) → i < length losses → IsSubset (attributes (get_or losses i d).agreement) (below n)
unfolding LossesFrom
losses_within n ds plan k [] losses h i d low = absurd (omega (arith, low, ap length h))
losses_within n ds plan k (e ∷ rest) losses (inl h) i d low = losses_within n ds plan (k + 1) rest losses h.1 i d low
losses_within n ds plan k (e ∷ rest) losses (inr (loss, more, at, number, is, h)) i d low =
    subst (λ (l : List Loss). IsSubset (attributes (get_or l i d).agreement) (below n)) (sym at)
    (within_at loss more (lost_within n ds plan e (attributes loss.agreement) is) (losses_within n ds plan (k + 1) rest more h) i d (subst (λ (l : List Loss). i < length l) at low))
  where
    within_at : (loss : Loss) (more : List Loss) → IsSubset (attributes loss.agreement) (below n)
        → ((j : ℕ) (d : Loss) → j < length more → IsSubset (attributes (get_or more j d).agreement) (below n))
        → (j : ℕ) (d : Loss) → j < length (loss ∷ more) → IsSubset (attributes (get_or (loss ∷ more) j d).agreement) (below n)
    within_at loss more first others zero d low = first
    within_at loss more first others (suc j) d low = others j d (omega (arith, low))

pub split_first : (losses : List Loss) (d : Loss) → 0 < length losses → losses ≡ get_or losses 0 d ∷ drop 1 losses
split_first losses d not_empty = at_drop_more (λ (l : List Loss). l) losses 0 d not_empty
