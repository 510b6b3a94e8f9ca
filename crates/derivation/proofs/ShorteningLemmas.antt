-- The parts of a tree, and what becomes of a tree that gives way to its smallest part.
use Rattle.std.proofs.Common.{◌≡◌, ◌⊎◌, ◌+◌, ◌<◌, ◌≤◌, inl, inr, ⊎_elim, refl, sym, ◌∙◌, ap, subst, arith}
use Rattle.std.specs.Prelude.{Option, None, Some, Result, Ok, Err}
use Rattle.dep_model.specs.declared.dep.Dep.{Dep}
use Rattle.dep_model.specs.Theories.{Theory}
use Rattle.dep_model.specs.Dependencies.{Dependency}
use Rattle.dep_model.specs.Deps.{dependency_of}
use Rattle.derivation.specs.declared.fault.FaultKind.{FaultKind}
use Rattle.derivation.specs.declared.shortening.Concluded.{Concluded}
use Rattle.derivation.specs.Trees.{Step, Pair, Tree, leaf, step, pair, nodes, depth}
use Rattle.derivation.specs.Table.{step_conclusion, pair_conclusion}
use Rattle.derivation.specs.Derivs.{tree_of, outcome_of}
use Rattle.derivation.specs.Conclusions.{Proves}
use Rattle.derivation.specs.Direct.{IsBelow, IsIn, NoneBelow, IsDirect}
use Rattle.derivation.specs.Shortened.{ConcludesOnly, IsConcluded, IsLeast, IsLeastPart, IsShortened}
use Rattle.derivation.proofs.ConclusionLemmas.{Proves-one}

-- ---- parts
pub below-fewer : (u t : Tree) → IsBelow u t → nodes u < nodes t
below-fewer u (leaf rule) below = absurd below
below-fewer u (step rule t) below =
    ⊎_elim (λ here. let same : nodes u ≡ nodes t = ap nodes here in omega arith) (λ deeper. omega (arith, below-fewer u t deeper)) below
below-fewer u (pair rule t v) below =
    ⊎_elim
    (λ left. ⊎_elim (λ here. let same : nodes u ≡ nodes t = ap nodes here in omega arith) (λ deeper. omega (arith, below-fewer u t deeper)) left)
    (λ right. ⊎_elim (λ here. let same : nodes u ≡ nodes v = ap nodes here in omega arith) (λ deeper. omega (arith, below-fewer u v deeper)) right)
    below

below-lower : (u t : Tree) → IsBelow u t → depth u ≤ depth t
below-lower u (leaf rule) below = absurd below
below-lower u (step rule t) below =
    ⊎_elim (λ here. let same : depth u ≡ depth t = ap depth here in omega arith) (λ deeper. omega (arith, below-lower u t deeper)) below
below-lower u (pair rule t v) below =
    ⊎_elim
    (λ left. ⊎_elim (λ here. let same : depth u ≡ depth t = ap depth here in omega arith) (λ deeper. omega (arith, below-lower u t deeper)) left)
    (λ right. ⊎_elim (λ here. let same : depth u ≡ depth v = ap depth here in omega arith) (λ deeper. omega (arith, below-lower u v deeper)) right)
    below

pub part-nodes : (u t : Tree) → IsIn u t → nodes u ≤ nodes t
part-nodes u t inside = ⊎_elim (λ same. let equal : nodes u ≡ nodes t = ap nodes same in omega arith) (λ below. omega (arith, below-fewer u t below)) inside

pub part-depth : (u t : Tree) → IsIn u t → depth u ≤ depth t
part-depth u t inside = ⊎_elim (λ same. let equal : depth u ≡ depth t = ap depth same in omega arith) (λ below. below-lower u t below) inside

-- what is below a part is below the whole
IsBelow-trans : (v u t : Tree) → IsBelow v u → IsBelow u t → IsBelow v t
IsBelow-trans v u (leaf rule) below lower = absurd lower
IsBelow-trans v u (step rule t) below lower =
    inr (⊎_elim (λ same. subst (λ (w : Tree). IsBelow v w) same below) (λ deeper. IsBelow-trans v u t below deeper) lower)
IsBelow-trans v u (pair rule t w) below lower =
    ⊎_elim
    (λ left. inl (inr (⊎_elim (λ same. subst (λ (x : Tree). IsBelow v x) same below) (λ deeper. IsBelow-trans v u t below deeper) left)))
    (λ right. inr (inr (⊎_elim (λ same. subst (λ (x : Tree). IsBelow v x) same below) (λ deeper. IsBelow-trans v u w below deeper) right)))
    lower

below_part : (v u t : Tree) → IsBelow v u → IsIn u t → IsBelow v t
below_part v u t below inside = ⊎_elim (λ same. subst (λ (w : Tree). IsBelow v w) same below) (λ lower. IsBelow-trans v u t below lower) inside

pub IsIn-trans : (v u t : Tree) → IsIn v u → IsIn u t → IsIn v t
IsIn-trans v u t first second = ⊎_elim (λ same. subst (λ (w : Tree). IsIn w t) (sym same) second) (λ below. inr (below_part v u t below second)) first

-- a part of a direct tree is direct
pub part_direct : (s : Theory) (u t : Tree) → IsIn u t → IsDirect s t → IsDirect s u
part_direct s u t inside direct v part = direct v (IsIn-trans v u t part inside)

-- ---- the smallest part
pub least_direct : (s : Theory) (t : Tree) (result : Concluded) → ((u : Tree) → IsBelow u t → IsDirect s u) → IsLeastPart s t result → IsDirect s (tree_of result.deriv.value)
least_direct s t result direct least =
    let r = tree_of result.deriv.value in
    ⊎_elim
    (λ (whole : r ≡ t) v inside d proves.
    ⊎_elim
    (λ (same : v ≡ r) u below again.
    let is_t : v ≡ t = same ∙ whole in
    let low : IsBelow u t = subst (λ (w : Tree). IsBelow u w) is_t below in
    let within_limit = least.least u d (inr low) (subst (λ (w : Tree). Proves s w d) is_t proves) again in
    let equal : nodes r ≡ nodes t = ap nodes whole in
    absurd (omega (arith, within_limit, below-fewer u t low)))
    (λ below. direct v (subst (λ (w : Tree). IsBelow v w) whole below) v (inl refl) d proves)
    inside)
    (λ below. direct r below)
    least.part

-- ---- what a rule concludes from what its premises conclude

pub step_only : (s : Theory) (rule : Step) (t : Tree) (from : Dep) (r : Result Dep FaultKind) (o : Option Dep) → ConcludesOnly s t (Some from) → outcome_of r ≡ step_conclusion s rule (dependency_of from)
    → ((d : Dep) → r ≡ Ok d → o ≡ Some d) → ((k : FaultKind) → r ≡ Err k → o ≡ None) → ConcludesOnly s (step rule t) o
step_only s rule t from (Ok e) o only exact is not = rw (is e refl) (dependency_of from, only, sym exact)
step_only s rule t from (Err k) o only exact is not = rw (not k refl) (λ d proves.
    let same : proves.0 ≡ dependency_of from = Proves-one s t proves.0 (dependency_of from) proves.1 only in
    let here : step_conclusion s rule (dependency_of from) ≡ Ok d = ap (step_conclusion s rule) (sym same) ∙ proves.2 in
    cc)

pub pair_only : (s : Theory) (rule : Pair) (t u : Tree) (one other : Dep) (r : Result Dep FaultKind) (o : Option Dep) → ConcludesOnly s t (Some one) → ConcludesOnly s u (Some other)
    → outcome_of r ≡ pair_conclusion rule (dependency_of one) (dependency_of other)
    → ((d : Dep) → r ≡ Ok d → o ≡ Some d) → ((k : FaultKind) → r ≡ Err k → o ≡ None) → ConcludesOnly s (pair rule t u) o
pair_only s rule t u one other (Ok e) o first second exact is not = rw (is e refl) (dependency_of one, dependency_of other, first, second, sym exact)
pair_only s rule t u one other (Err k) o first second exact is not = rw (not k refl) (λ d proves.
    let left : proves.0 ≡ dependency_of one = Proves-one s t proves.0 (dependency_of one) proves.2 first in
    let right : proves.1 ≡ dependency_of other = Proves-one s u proves.1 (dependency_of other) proves.3 second in
    let here : pair_conclusion rule (dependency_of one) (dependency_of other) ≡ Ok d
    = ap (λ (x : Dependency). pair_conclusion rule x (dependency_of other)) (sym left) ∙ ap (pair_conclusion rule proves.0) (sym right) ∙ proves.4 in
    cc)

-- ---- what a search finds
-- the smallest part of a premise that concludes d is that of the whole tree: the whole is larger
pub found_step : (s : Theory) (rule : Step) (t : Tree) (d : Dependency) (u : Tree) → IsLeast s t d u → IsLeast s (step rule t) d u
found_step s rule t d u found = record {
  part = inr found.part;
  proves = found.proves;
  least = λ v inside proves.
      ⊎_elim
      (λ (whole : v ≡ step rule t). let equal : nodes v ≡ nodes t + 1 = ap nodes whole in omega (arith, equal, part-nodes u t found.part))
      (λ below. found.least v below proves)
      inside;
}

-- in either premise, where none in the premises is smaller
found_pair : (s : Theory) (rule : Pair) (t w : Tree) (d : Dependency) (u : Tree) → IsIn u t ⊎ IsIn u w → Proves s u d → ((v : Tree) → IsIn v t → Proves s v d → nodes u ≤ nodes v)
    → ((v : Tree) → IsIn v w → Proves s v d → nodes u ≤ nodes v) → IsLeast s (pair rule t w) d u
found_pair s rule t w d u part proves left right = record {
  part = inr part;
  proves = proves;
  least = λ v inside shows.
      ⊎_elim
      (λ (whole : v ≡ pair rule t w).
      let equal : nodes v ≡ nodes t + nodes w + 1 = ap nodes whole in
      ⊎_elim (λ first. omega (arith, equal, part-nodes u t first)) (λ second. omega (arith, equal, part-nodes u w second)) part)
      (λ below. ⊎_elim (λ first. left v first shows) (λ second. right v second shows) below)
      inside;
}

pub found_first : (s : Theory) (rule : Pair) (t w : Tree) (d : Dependency) (u : Tree) → IsLeast s t d u → ((v : Tree) → IsIn v w → Proves s v d → nodes u ≤ nodes v) → IsLeast s (pair rule t w) d u
found_first s rule t w d u found rest = found_pair s rule t w d u (inl found.part) found.proves found.least rest

pub found_second : (s : Theory) (rule : Pair) (t w : Tree) (d : Dependency) (u : Tree) → IsLeast s w d u → ((v : Tree) → IsIn v t → Proves s v d → nodes u ≤ nodes v) → IsLeast s (pair rule t w) d u
found_second s rule t w d u found rest = found_pair s rule t w d u (inr found.part) found.proves rest found.least

-- the whole tree, where no node below its root concludes what is sought
pub found_whole : (s : Theory) (t u : Tree) (d : Dependency) → u ≡ t → Proves s t d → NoneBelow s t d → IsLeast s t d u
found_whole s t u d same proves none = record {
  part = inl same;
  proves = subst (λ (v : Tree). Proves s v d) (sym same) proves;
  least = λ v inside again.
      ⊎_elim
      (λ (whole : v ≡ t). let equal : nodes u ≡ nodes v = ap nodes (same ∙ sym whole) in omega arith)
      (λ below. absurd (none v below again))
      inside;
}

pub none_found : (s : Theory) (t : Tree) (d : Dependency) → (Proves s t d → ⊥) → NoneBelow s t d → (u : Tree) → IsIn u t → Proves s u d → ⊥
none_found s t d root none u inside proves =
    ⊎_elim (λ same. root (subst (λ (v : Tree). Proves s v d) same proves)) (λ below. none u below proves) inside

-- what was found is the smallest part of what was searched for the conclusion of the whole
pub least_part : (s : Theory) (t whole : Tree) (dep : Dep) (u : Concluded) → whole ≡ t → Proves s t (dependency_of dep) → u.dep ≡ Some dep → IsLeast s whole (dependency_of dep) (tree_of u.deriv.value) → IsLeastPart s t u
least_part s t whole dep u same proves is found =
    let r = tree_of u.deriv.value in
    let least : IsLeast s t (dependency_of dep) r = subst (λ (v : Tree). IsLeast s v (dependency_of dep) r) same found in
    record {
      part = least.part;
      same = λ d. (
        (λ other. subst (λ (e : Dependency). Proves s r e) (Proves-one s t (dependency_of dep) d proves other) least.proves),
        (λ other. subst (λ (e : Dependency). Proves s t e) (Proves-one s r (dependency_of dep) d least.proves other) proves),
      );
      only = rw is least.proves;
      least = λ v d inside other again. least.least v inside (subst (λ (e : Dependency). Proves s v e) (Proves-one s t d (dependency_of dep) other proves) again);
    }

-- ---- what a shortened premise gives
pub below_step_direct : (s : Theory) (rule : Step) (t : Tree) → IsDirect s t → (u : Tree) → IsBelow u (step rule t) → IsDirect s u
below_step_direct s rule t direct u below = part_direct s u t below direct

pub below_pair_direct : (s : Theory) (rule : Pair) (t w : Tree) → IsDirect s t → IsDirect s w → (u : Tree) → IsBelow u (pair rule t w) → IsDirect s u
below_pair_direct s rule t w first second u below = ⊎_elim (λ left. part_direct s u t left first) (λ right. part_direct s u w right second) below

pub shortened_step : (s : Theory) (rule : Step) (whole t : Tree) (from result : Concluded) → whole ≡ step rule t → IsShortened s t from → IsLeastPart s (step rule (tree_of from.deriv.value)) result → IsShortened s whole result
shortened_step s rule whole t from result is old least =
    let r = tree_of result.deriv.value in
    let made = step rule (tree_of from.deriv.value) in
    rw is (record {
      same = λ d. (
        (λ proves. (least.same d).0 (proves.0, (old.same proves.0).0 proves.1, proves.2)),
        (λ proves. let short = (least.same d).1 proves in (short.0, (old.same short.0).1 short.1, short.2)),
      );
      only = least.only;
      node_bound = omega (arith, part-nodes r made least.part, old.node_bound);
      level_bound = omega (arith, part-depth r made least.part, old.level_bound);
      direct = least_direct s made result (below_step_direct s rule (tree_of from.deriv.value) old.direct) least;
    })

pub shortened_pair : (s : Theory) (rule : Pair) (whole t w : Tree) (first second result : Concluded) → whole ≡ pair rule t w → IsShortened s t first → IsShortened s w second
    → IsLeastPart s (pair rule (tree_of first.deriv.value) (tree_of second.deriv.value)) result → IsShortened s whole result
shortened_pair s rule whole t w first second result is left right least =
    let r = tree_of result.deriv.value in
    let made = pair rule (tree_of first.deriv.value) (tree_of second.deriv.value) in
    rw is (record {
      same = λ d. (
        (λ proves. (least.same d).0 (proves.0, proves.1, (left.same proves.0).0 proves.2, (right.same proves.1).0 proves.3, proves.4)),
        (λ proves.
            let short = (least.same d).1 proves in
            (short.0, short.1, (left.same short.0).1 short.2, (right.same short.1).1 short.3, short.4)),
      );
      only = least.only;
      node_bound = omega (arith, part-nodes r made least.part, left.node_bound, right.node_bound);
      level_bound = grind (arith, part-depth r made least.part, left.level_bound, right.level_bound);
      direct = least_direct s made result (below_pair_direct s rule (tree_of first.deriv.value) (tree_of second.deriv.value) left.direct right.direct) least;
    })

-- a shortened tree, as one that concludes what is beside it
pub as_concluded : (s : Theory) (t : Tree) (result : Concluded) → IsShortened s t result → IsConcluded s (tree_of result.deriv.value) result
as_concluded s t result short = record { same = refl; only = short.only }
