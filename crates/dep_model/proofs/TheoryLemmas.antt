-- A theory is its width and its dependencies: what is asked of these holds in one way at most.
use Rattle.std.proofs.Common.{◌≡◌, ℕ, List}
use mathlib.Core.HLevel.{Σ_prop_path}
use denote.Struct.Props.{props}
use Rattle.dep_model.specs.declared.dep.Dep.{Dep}
use Rattle.dep_model.specs.Theories.{IsTheory, Theory}

IsTheory-prop : (width : ℕ) (deps : List Dep) → IsProp (IsTheory width deps)
IsTheory-prop width deps = hlevel props

-- two theories of one width and the same dependencies are one
pub same_theory : (t u : Theory) → t.width ≡ u.width → t.deps ≡ u.deps → t ≡ u
same_theory t u width deps =
    let pairs : ◌≡◌ {A = (p : ℕ × List Dep) × IsTheory p.0 p.1} ((t.width, t.deps), t.valid) ((u.width, u.deps), u.valid) =
    Σ_prop_path (λ p. IsTheory-prop p.0 p.1) (λ i. (width i, deps i)) in
    λ i. record { width = (pairs i).0.0; deps = (pairs i).0.1; valid = (pairs i).1 }
