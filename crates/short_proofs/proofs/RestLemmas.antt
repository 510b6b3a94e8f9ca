-- The derivation from a functional chain of what is in neither side: what it proves, and when nothing is added at last.
use Rattle.std.proofs.Common.{◌≡◌, ℕ, ◌+◌, ◌≤◌, Bool, true, false, refl, ap, arith}
use mathlib.Core.Path.{fun_ext}
use Rattle.attr_sets.specs.Attributes.{Attributes, union, intersection, difference, IsSubset, Intersects}
use Rattle.attr_sets.proofs.AttributesLemmas.{same_at}
use Rattle.dep_model.specs.Theories.{Theory}
use Rattle.dep_model.specs.Dependencies.{fd, mvd, right_of}
use Rattle.dep_model.specs.Theories.{universe_of}
use Rattle.derivation.specs.Trees.{Tree, step, nodes, depth, replication, complementation, maugmentation}
use Rattle.derivation.specs.Conclusions.{Proves}
use Rattle.derivation.proofs.ConclusionLemmas.{Proves-one}
use Rattle.derivation.proofs.ProvesLemmas.{mvd_restated, complementation_proves, maugmentation_proves}
use Rattle.short_proofs.specs.Short.{rest_of}
use Rattle.short_proofs.specs.Shapes.{count}
use Rattle.short_proofs.proofs.ShapeLemmas.{nodes-taken, depth-taken, count-le}

pub rest_proves : (s : Theory) (x y rest : Attributes) (chain : Tree) (shared : Bool) → IsSubset x (universe_of s) → IsSubset y (universe_of s)
    → rest ≡ difference (universe_of s) (union x y) → (shared ≡ false → (k : ℕ) → x k ≡ true → y k ≡ false) → Proves s chain (fd x rest) → Proves s (rest_of x y shared chain) (mvd x y)
rest_proves s x y rest chain false x_in y_in is apart shown =
    mvd_restated s (step complementation (step replication chain)) x (difference (universe_of s) (union x rest)) x y refl
    (fun_ext (λ k.
    let at = same_at is k in
    let low = y_in k in
    let none = apart refl k in
    grind (arith, at, low, none)))
    (complementation_proves s (step replication chain) x rest (fd x rest, shown, refl))
rest_proves s x y rest chain true x_in y_in is apart shown =
    let turned = step complementation (step replication chain) in
    mvd_restated s (step (maugmentation x (intersection x y)) turned) (union x x) (union (difference (universe_of s) (union x rest)) (intersection x y)) x y
    (fun_ext (λ k. grind arith))
    (fun_ext (λ k.
    let at = same_at is k in
    let low = y_in k in
    grind (arith, at, low)))
    (maugmentation_proves s turned x (difference (universe_of s) (union x rest)) x (intersection x y) x_in (λ k m. grind (arith, m))
    (complementation_proves s (step replication chain) x rest (fd x rest, shown, refl)))

-- without what both share it proves nothing that has any of it
pub rest_shared : (s : Theory) (x y rest : Attributes) (chain : Tree) → Proves s chain (fd x rest) → Proves s (rest_of x y false chain) (mvd x y) → Intersects x y → ⊥
rest_shared s x y rest chain shown proves common =
    let here = complementation_proves s (step replication chain) x rest (fd x rest, shown, refl) in
    let same = Proves-one s (rest_of x y false chain) (mvd x (difference (universe_of s) (union x rest))) (mvd x y) here proves in
    let at = same_at (ap right_of same) common.0 in
    absurd (grind (arith, at, common.1, common.2))

-- ---- how large
pub rest_nodes : (x y : Attributes) (shared : Bool) (chain : Tree) → nodes (rest_of x y shared chain) ≡ nodes chain + 2 + count shared
rest_nodes x y shared chain =
    let whole = nodes-taken shared (maugmentation x (intersection x y)) (step complementation (step replication chain)) in
    omega (arith, whole)

pub rest_depth : (x y : Attributes) (shared : Bool) (chain : Tree) → depth (rest_of x y shared chain) ≤ depth chain + 3
rest_depth x y shared chain =
    let whole = depth-taken shared (maugmentation x (intersection x y)) (step complementation (step replication chain)) in
    let more = count-le shared in
    omega (arith, whole, more)
