-- What is left to prove of `canonical_cover`: its clauses, by `whole_canonical` and `whole_stays`.
use Rattle.std.proofs.Common.{◌≡◌, ◌≤◌, List, sym, ap, subst, ◌∙◌}
use Rattle.std.proofs.lemmas.Result.{IfOk-weaker}
use Rattle.std.specs.Prelude.{All}
use Rattle.attr_sets.specs.Attributes.{below}
use Rattle.attr_sets.specs.declared.set.TheConstants.{MOST_ATTRIBUTES}
use Rattle.dep_model.specs.declared.dep.Dep.{Dep}
use Rattle.dep_model.specs.Dependencies.{Dependency, IsWithin, functional_part}
use Rattle.dep_model.specs.Theories.{width_of, theory_of, deps_of}
use Rattle.dep_model.specs.Deps.{dependencies_of, IsDepWithin}
use Rattle.dep_model.proofs.DepLemmas.{dependencies_all-from}
use Rattle.min_cover.specs.Covers.{IsWholeCover}
use Rattle.canonical_cover.specs.Merging.{merge_left_sides}
use Rattle.canonical_cover.specs.Canonical.{IsCanonicalCover, IsFixedCanonicalCover}
use Rattle.canonical_cover.proofs.WholeLemmas.{IsParted, fixed_parted}
use Rattle.canonical_cover.proofs.CanonicalLemmas.{whole_canonical, whole_stays}
use Rattle.canonical_cover.proofs.canonical.canonical_cover.Goals as goal

pub returns : goal.returns
returns c =
    let s = c.args.theory.now in
    let n = width_of s in
    let ds = theory_of s in
    let whole = c.in_ok-whole.whole.items in
    let given : All (IsWithin (below n)) ds = dependencies_all-from (IsWithin (below n)) (deps_of s) s.valid.deps_within in
    let within : All (IsWithin (below n)) (dependencies_of whole) = dependencies_all-from (IsWithin (below n)) whole c.in_ok-whole.ensures.within in
    let parted : IsParted (dependencies_of whole) = fixed_parted n ds (dependencies_of whole) given c.in_ok-whole.ensures.fixed in
    let canonical = whole_canonical n ds (dependencies_of whole) s.valid.within_limit within parted c.in_ok-whole.ensures.minimal in
    let stays = whole_stays n ds (dependencies_of whole) s.valid.within_limit within parted c.in_ok-whole.ensures.whole_cover in
    let once = rw c.deref.ensures.value at c.merge_left_sides.ensures.merged in
    record {
      fixed = IfOk-weaker c.merge_left_sides.result (λ once. dependencies_of once.items ≡ merge_left_sides (dependencies_of whole))
          (λ once. IsFixedCanonicalCover n ds (dependencies_of once.items))
          (λ once is. record { whole = dependencies_of whole; fixed = c.in_ok-whole.ensures.fixed; once = is }) once;
      canonical = IfOk-weaker c.merge_left_sides.result (λ once. dependencies_of once.items ≡ merge_left_sides (dependencies_of whole))
          (λ once. IsCanonicalCover n ds (functional_part (dependencies_of once.items)))
          (λ once is. subst (λ (es : List Dependency). IsCanonicalCover n ds (functional_part es)) (sym is) canonical) once;
      whole_cover = IfOk-weaker c.merge_left_sides.result (λ once. dependencies_of once.items ≡ merge_left_sides (dependencies_of whole))
          (λ once. IsWholeCover n ds (dependencies_of once.items))
          (λ once is. subst (λ (es : List Dependency). IsWholeCover n ds es) (sym is) stays) once;
      within = (rw c.deref.ensures.value at c.merge_left_sides.ensures.within) (below n) c.in_ok-whole.ensures.within;
    }
