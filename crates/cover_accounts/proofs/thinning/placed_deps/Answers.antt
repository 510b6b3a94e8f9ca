-- What is left to prove of `placed_deps`: that the invariant of its loop stays, and its clause `placed`.
use Rattle.std.proofs.Common.{◌≡◌, ℕ, ◌+◌, ◌<◌, ◌≤◌, List, [], ◌∷◌, ◌++◌, length, get_or, take, take_all, sym, ◌∙◌, subst, ap, arith}
use Rattle.std.proofs.lemmas.List.{map_push, take_more, length-map, length-take-le, get_or-map}
use Rattle.std.proofs.lemmas.List.Elements.{All-push}
use Rattle.std.specs.Prelude.{All}
use Rattle.dep_model.specs.declared.dep.Dep.{Dep}
use Rattle.dep_model.specs.declared.dep.Dep.TheVariants.{Fd}
use Rattle.dep_model.specs.Dependencies.{Dependency}
use Rattle.dep_model.specs.Deps.{dependency_of, dependencies_of, IsDepWithin}
use Rattle.dep_model.specs.Theories.{theory_of, deps_of, universe_of}
use Rattle.cover_accounts.specs.declared.thinning.PlacedDep.{PlacedDep}
use Rattle.cover_accounts.specs.Steps.{Placed, placed, placed_from, place_of}
use Rattle.cover_accounts.specs.Gathering.{IsPlacedWithin}
use Rattle.cover_accounts.proofs.PlaceLemmas.{placed_from-append}
use Rattle.cover_accounts.proofs.thinning.placed_deps.Goals as goal

abbrev first : Dep
first = Fd (record { 0 = 0 }) (record { 0 = 0 })

-- one more of a list of dependencies
placed-more : (items ds : List Dep) (k : ℕ) → items ≡ ds → k < length items
    → placed_from 0 (take (k + 1) (dependencies_of ds)) ≡ placed_from 0 (take k (dependencies_of ds)) ++ placed k (dependency_of (get_or items k first)) ∷ []
placed-more items ds k same low =
    let short : k < length ds = omega (arith, low, ap (λ (es : List Dep). length es) same) in
    let lt : k < length (dependencies_of ds) = omega (arith, short, length-map ds dependency_of) in
    let next : get_or (dependencies_of ds) k (dependency_of first) ≡ dependency_of (get_or items k first) =
    get_or-map dependency_of ds k first (dependency_of first) short ∙ ap (λ (es : List Dep). dependency_of (get_or es k first)) (sym same) in
    ap (λ (es : List Dependency). placed_from 0 es) (take_more (dependencies_of ds) k (dependency_of first) lt)
    ∙ placed_from-append 0 (take k (dependencies_of ds)) (get_or (dependencies_of ds) k (dependency_of first) ∷ [])
    ∙ ap (λ (j : ℕ). placed_from 0 (take k (dependencies_of ds)) ++ placed j (get_or (dependencies_of ds) k (dependency_of first)) ∷ []) (omega (arith, length-take-le k (dependencies_of ds) (omega (arith, lt))))
    ∙ ap (λ (d : Dependency). placed_from 0 (take k (dependencies_of ds)) ++ placed k d ∷ []) next

pub loop-k-preserved : goal.loop-k-preserved
loop-k-preserved c =
    let s = c.args.theory.now in
    let k = c.loop-k.k in
    let items = c.deps-dep-items.result.now in
    let same = c.deps-dep-items.ensures.deps in
    let one : PlacedDep = record { position = k; dep = get_or items k first } in
    let within : All (IsDepWithin (universe_of s)) items = subst (λ (es : List Dep). All (IsDepWithin (universe_of s)) es) (sym same) s.valid.deps_within in
    rw c.in_ok-push.ensures.items (record {
      placed = map_push place_of c.loop-k.list.items one ∙ ap (λ (l : List Placed). l ++ place_of one ∷ []) c.loop-k.invariant.placed
          ∙ sym (placed-more items (deps_of s) k same c.loop-k-test.true);
      within = All-push (IsPlacedWithin (universe_of s)) c.loop-k.list.items one c.loop-k.invariant.within (within k first c.loop-k-test.true);
    })

pub returns : goal.returns
returns c =
    let s = c.args.theory.now in
    let past : length (theory_of s) ≤ c.loop-k.k = omega (arith, c.loop-k-test.false, ap (λ (es : List Dep). length es) c.deps-dep-items.ensures.deps, length-map (deps_of s) dependency_of) in
    record {
      placed = c.loop-k.invariant.placed ∙ ap (λ (ds : List Dependency). placed_from 0 ds) (take_all c.loop-k.k (theory_of s) past);
      within = c.loop-k.invariant.within;
    }
