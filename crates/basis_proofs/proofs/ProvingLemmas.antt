-- Derivations that are shortened, and the first given dependency.
use Rattle.std.proofs.Common.{◌≡◌, ℕ, ◌<◌, ◌≤◌, Some, get_or-take, length-take-le, get_or, take, length, ◌∙◌, ap, arith}
use Rattle.std.proofs.lemmas.Option.{slice_get-map, get_or_from_slice_get, slice_get-get_or, slice_get_within}
use Rattle.std.specs.Prelude.{slice_get, All, option_map}
use Rattle.attr_sets.specs.Attributes.{Attributes}
use Rattle.dep_model.specs.declared.dep.Dep.{Dep}
use Rattle.dep_model.specs.Theories.{Theory}
use Rattle.dep_model.specs.Dependencies.{mvd}
use Rattle.dep_model.specs.Deps.{dependency_of}
use Rattle.dep_model.specs.Theories.{deps_of, theory_of}
use Rattle.derivation.specs.Trees.{given}
use Rattle.basis_proofs.specs.Proofs.{IsFirstGiven}
use Rattle.basis_proofs.proofs.LeadLemmas.{given_at}

-- ---- the first given
pub given_first : (s : Theory) (x y : Attributes) (k : ℕ) (e : Dep) → k < length (deps_of s) → All (λ d. dependency_of d ≡ mvd x y → ⊥) (take k (deps_of s)) → dependency_of (get_or (deps_of s) k e) ≡ mvd x y → IsFirstGiven s (mvd x y) k
given_first s x y k e lt none is = record {
  given = slice_get-map dependency_of (deps_of s) k ∙ ap (option_map dependency_of) (slice_get-get_or (deps_of s) k e lt) ∙ ap Some is;
  earlier = λ j before here.
      let found = given_at (deps_of s) j (mvd x y) here in
      let within_limit : k ≤ length (deps_of s) = omega (arith, lt) in
      let in_all : j < length (take k (deps_of s)) = rw (length-take-le k (deps_of s) within_limit) before in
      none j found.0 in_all (ap dependency_of (get_or-take k (deps_of s) j found.0 before ∙ get_or_from_slice_get (deps_of s) j found.0 found.0 found.1) ∙ found.2);
}

pub given_none : (s : Theory) (x y : Attributes) → All (λ d. dependency_of d ≡ mvd x y → ⊥) (deps_of s) → (k : ℕ) → slice_get (theory_of s) k ≡ Some (mvd x y) → ⊥
given_none s x y none k here =
    let found = given_at (deps_of s) k (mvd x y) here in
    none k found.0 (slice_get_within (deps_of s) k found.0 found.1) (ap dependency_of (get_or_from_slice_get (deps_of s) k found.0 found.0 found.1) ∙ found.2)
