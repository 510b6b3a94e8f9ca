-- The search for the first functional dependency that leads out of a set.
use Rattle.std.proofs.Common.{◌≡◌, ℕ, ◌<◌, ◌≤◌, List, None, Some, get_or-take, length-take-le, get_or, take, length, refl, sym, ◌∙◌, ap, subst, arith}
use Rattle.std.specs.Prelude.{Option, slice_get, All, option_map}
use Rattle.std.proofs.lemmas.Option.{slice_get-map, get_or_from_slice_get, slice_get-get_or}
use Rattle.attr_sets.specs.Attributes.{Attributes, IsSubset}
use Rattle.attr_sets.specs.Sets.{attributes}
use Rattle.dep_model.specs.declared.dep.Dep.{Dep}
use Rattle.dep_model.specs.declared.dep.Dep.TheVariants.{Fd, Mvd}
use Rattle.dep_model.specs.Theories.{Theory}
use Rattle.dep_model.specs.Dependencies.{Dependency, fd}
use Rattle.dep_model.specs.Deps.{dependency_of, dependencies_of}
use Rattle.dep_model.specs.Theories.{deps_of}
use Rattle.dep_model.proofs.DepLemmas.{IfFd}
use Rattle.derivation.specs.Chains.{IsFirstOut}
use Rattle.basis_proofs.specs.Leads.{IsRightSideOut}

IfFd_at : (P : Attributes → Attributes → Type 0) (d : Dep) (v w : Attributes) → IfFd P d → dependency_of d ≡ fd v w → P v w
IfFd_at P (Fd lhs rhs) v w h e =
    let left : attributes lhs ≡ v = cc in
    let right : attributes rhs ≡ w = cc in
    subst (λ (x : Attributes). P x w) left (subst (λ (y : Attributes). P (attributes lhs) y) right h)
IfFd_at P (Mvd lhs rhs) v w h e = cc

-- the dependency that stands at a position, as sets of attributes
from_mapped : (o : Option Dep) (d : Dependency) → option_map dependency_of o ≡ Some d → (e : Dep) × (o ≡ Some e) × (dependency_of e ≡ d)
from_mapped None d h = cc
from_mapped (Some e) d h = (e, refl, cc)

pub given_at : (ds : List Dep) (k : ℕ) (d : Dependency) → slice_get (dependencies_of ds) k ≡ Some d → (e : Dep) × (slice_get ds k ≡ Some e) × (dependency_of e ≡ d)
given_at ds k d here = from_mapped (slice_get ds k) d (sym (slice_get-map dependency_of ds k) ∙ here)

-- none before it leads out
pub lead_first : (s : Theory) (c : Attributes) (k : ℕ) (e : Dep) (t : Attributes) → k < length (deps_of s) → All (IfFd (λ x y. IsSubset x c → IsSubset y c)) (take k (deps_of s))
    → IsRightSideOut c (dependency_of (get_or (deps_of s) k e)) t → IsFirstOut s c k t
lead_first s c k e t lt none out = record {
  lhs = out.lhs;
  given = slice_get-map dependency_of (deps_of s) k ∙ ap (option_map dependency_of) (slice_get-get_or (deps_of s) k e lt) ∙ ap Some out.is;
  out = out.out;
  earlier = λ j v w before here.
      let found = given_at (deps_of s) j (fd v w) here in
      let within_limit : k ≤ length (deps_of s) = omega (arith, lt) in
      let in_all : j < length (take k (deps_of s)) = rw (length-take-le k (deps_of s) within_limit) before in
      let fact = none j found.0 in_all in
      IfFd_at (λ x y. IsSubset x c → IsSubset y c) found.0 v w (subst (IfFd (λ x y. IsSubset x c → IsSubset y c)) (get_or-take k (deps_of s) j found.0 before ∙ get_or_from_slice_get (deps_of s) j found.0 found.0 found.1) fact) found.2;
}
