-- What is left to prove of `without_attributes_in_no_key`: its clause `rest`, by
-- `without_attributes_in_no_key-is`.
use Rattle.std.proofs.Common.{◌≡◌, ℕ, ◌↔◌, true, List, subst}
use Rattle.attr_sets.specs.Attributes.{Attributes, intersection, difference}
use Rattle.attr_sets.specs.Sets.{attributes}
use Rattle.dep_model.specs.declared.dep.Dep.{Dep}
use Rattle.dep_model.specs.Deps.{dependencies_of}
use Rattle.dep_model.specs.Keys.{InClosure}
use Rattle.dep_model.specs.Theories.{width_of, theory_of, deps_of}
use Rattle.fd_closure.specs.LeftSides.{InLeftSide}
use Rattle.key_listing.proofs.NarrowingLemmas.{without_attributes_in_no_key-is}
use Rattle.key_listing.proofs.narrowing.without_attributes_in_no_key.Goals as goal

pub returns : goal.returns
returns c =
    let s = c.args.theory.now in
    let n = width_of s in
    let scheme = attributes c.args.scheme in
    let used = attributes c.left_attributes-used.result in
    let determined = attributes c.closure-determined.result in
    let rest = attributes c.difference-2.result in
    let sides : (a : ℕ) → (used a ≡ true) ↔ InLeftSide (theory_of s) a =
    subst (λ (ds : List Dep). (a : ℕ) → (used a ≡ true) ↔ InLeftSide (dependencies_of ds) a) c.deps.ensures.deps c.left_attributes-used.ensures.members in
    let closed : (a : ℕ) → (determined a ≡ true) ↔ InClosure n (theory_of s) (intersection scheme used) a =
    subst (λ (x : Attributes). (a : ℕ) → (determined a ≡ true) ↔ InClosure n (theory_of s) x a) c.intersection.ensures.members c.closure-determined.ensures.closure in
    let left : rest ≡ difference scheme (difference determined used) =
    subst (λ (x : Attributes). rest ≡ difference scheme x) c.difference.ensures.members c.difference-2.ensures.members in
    record { rest = without_attributes_in_no_key-is n (deps_of s) s.valid.within_limit s.valid.deps_within scheme c.requires.scheme used determined rest sides closed left }
