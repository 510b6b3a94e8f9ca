-- What is left to prove of `add_exchanged`: its clauses `keys`, `kept` and `exchanged`, what
-- `add_key_within` requires, and that the invariant of its loop holds at first and stays, by
-- `FoundLemmas` and `ListLemmas`.
use Rattle.std.proofs.Common.{◌≡◌, ℕ, ◌<◌, true, List, take, take_all, length, get_or, sym, ◌∙◌, ap, subst, arith}
use mathlib.Core.Path.{fun_ext}
use Rattle.std.proofs.lemmas.Bool.{true≢false}
use Rattle.attr_sets.specs.Attributes.{Attributes, below, union, difference}
use Rattle.attr_sets.specs.Sets.{attributes}
use Rattle.dep_model.specs.declared.dep.Dep.{Dep}
use Rattle.dep_model.specs.declared.dep.Dep.TheVariants.{Fd, Mvd}
use Rattle.dep_model.specs.Dependencies.{Dependency, is_fd}
use Rattle.dep_model.specs.Keys.{IsSuperkey}
use Rattle.dep_model.specs.Deps.{dependency_of, dependencies_of, IsDepWithin}
use Rattle.dep_model.specs.Theories.{width_of, universe_of, theory_of, deps_of}
use Rattle.dep_model.proofs.DepLemmas.{dependencies_all-to}
use Rattle.key_listing.specs.Listing.{HoldsAnyUnlessMany, IsExchangedUnlessMany}
use Rattle.attr_sets.proofs.AttributesLemmas.{same_at}
use Rattle.key_listing.proofs.ListLemmas.{grows_none, grows_again}
use Rattle.fd_closure.proofs.ClosedSets.{all_functional}
use Rattle.key_listing.proofs.FoundLemmas.{exchanged_superkey, dependencies_of-Contains, exchanged_none, exchanged_more}
use Rattle.key_listing.proofs.exchanging.add_exchanged.Goals.{in-Fd+in_ok-add_key_within, in_default}
use Rattle.key_listing.proofs.exchanging.add_exchanged.Goals as goal

pub loop-dep-init : goal.loop-dep-init
loop-dep-init c = record {
  listed = c.requires.keys;
  kept = grows_none c.args.found.now.items;
  exchanged = exchanged_none (deps_of c.args.theory.now) c.args.found.now.items (attributes c.args.key);
}

pub add_key_within-requires-clause-superkey : goal.add_key_within-requires-clause-superkey
add_key_within-requires-clause-superkey c =
    let s = c.args.theory.now in
    let n = width_of s in
    let x = attributes c.in-Fd.lhs in
    let y = attributes c.in-Fd.rhs in
    let k = attributes c.args.key in
    let lt : c.loop-dep.dep-index < length (deps_of s) = omega (arith, c.loop-dep-test.true, ap (λ (ds : List Dep). length ds) c.deps-dep-items.ensures.deps) in
    let at = subst (λ (ds : List Dep). get_or ds c.loop-dep.dep-index (Fd (record { 0 = 0 }) (record { 0 = 0 })) ≡ Fd c.in-Fd.lhs c.in-Fd.rhs) c.deps-dep-items.ensures.deps c.in-Fd.is in
    let one_in : IsDepWithin (below n) (Fd c.in-Fd.lhs c.in-Fd.rhs) = subst (λ (d : Dep). IsDepWithin (below n) d) at (s.valid.deps_within c.loop-dep.dep-index _ lt) in
    let is : union x (difference k y) ≡ attributes c.union.result =
    fun_ext (λ (i : ℕ). grind (arith, same_at c.union.ensures.members i, same_at c.difference.ensures.members i)) in
    subst (λ (v : Attributes). IsSuperkey n (theory_of s) (universe_of s) v) is
    (exchanged_superkey n (theory_of s) (universe_of s) x y k (dependencies_of-Contains (deps_of s) c.loop-dep.dep-index _ (Fd c.in-Fd.lhs c.in-Fd.rhs) lt at) one_in.0 c.requires.key.superkey)

pub loop-dep-preserved : goal.loop-dep-preserved
loop-dep-preserved c =
    let s = c.args.theory.now in
    let n = width_of s in
    let i = c.loop-dep.dep-index in
    let k = attributes c.args.key in
    let before = c.loop-dep.invariant in
    let lt : i < length (deps_of s) = omega (arith, c.loop-dep-test.true, ap (λ (ds : List Dep). length ds) c.deps-dep-items.ensures.deps) in
    elim c.match-dep.branch [
      | in-Fd+in_ok-add_key_within w ↦
          let x = attributes w.in-Fd.lhs in
          let y = attributes w.in-Fd.rhs in
          let at = subst (λ (ds : List Dep). get_or ds i (Fd (record { 0 = 0 }) (record { 0 = 0 })) ≡ Fd w.in-Fd.lhs w.in-Fd.rhs) c.deps-dep-items.ensures.deps w.in-Fd.is in
          let is : attributes w.union.result ≡ union x (difference k y) =
          fun_ext (λ (j : ℕ). grind (arith, same_at w.union.ensures.members j, same_at w.difference.ensures.members j)) in
          let held = subst (λ (v : Attributes). HoldsAnyUnlessMany w.add_key_within.new.found.items v) is w.in_ok-add_key_within.ensures.held in
          rw w.found-is (record {
            listed = w.in_ok-add_key_within.ensures.keys;
            kept = grows_again c.args.found.now.items c.loop-dep.found.items w.add_key_within.new.found.items before.kept w.in_ok-add_key_within.ensures.kept;
            exchanged = exchanged_more (deps_of s) i _ (Fd w.in-Fd.lhs w.in-Fd.rhs) c.loop-dep.found.items w.add_key_within.new.found.items k lt at w.in_ok-add_key_within.ensures.kept before.exchanged held;
          })
      | in_default w ↦
          let all = dependencies_all-to (λ (d : Dependency). is_fd d ≡ true) (deps_of s) (all_functional (theory_of s) c.requires.functional) in
          let at = subst (λ (ds : List Dep). get_or ds i (Fd (record { 0 = 0 }) (record { 0 = 0 })) ≡ Mvd w.in_default.field-0 w.in_default.field-1) c.deps-dep-items.ensures.deps w.in_default.is in
          absurd (true≢false (sym (all i _ lt) ∙ ap (λ (d : Dep). is_fd (dependency_of d)) at))
    ]

pub returns : goal.returns
returns c =
    let s = c.args.theory.now in
    let all : take c.loop-dep.dep-index (deps_of s) ≡ deps_of s =
    take_all c.loop-dep.dep-index (deps_of s) (omega (arith, c.loop-dep-test.false, ap (λ (ds : List Dep). length ds) c.deps-dep-items.ensures.deps)) in
    record {
      keys = c.loop-dep.invariant.listed;
      kept = c.loop-dep.invariant.kept;
      exchanged = subst (λ (ds : List Dep). IsExchangedUnlessMany (dependencies_of ds) c.loop-dep.found.items (attributes c.args.key)) all c.loop-dep.invariant.exchanged;
    }
