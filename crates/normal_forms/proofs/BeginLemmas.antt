-- Closures that begin with those of parts.
use Rattle.std.proofs.Common.{◌≡◌, ℕ, ◌↔◌, Bool, true, List, inl, inr, arith}
use Rattle.std.proofs.lemmas.Bool.{lt-ltb, or_cases}
use Rattle.attr_sets.specs.Attributes.{Attributes, only, union, IsSubset}
use Rattle.attr_sets.specs.Sets.{attributes}
use Rattle.dep_model.specs.Dependencies.{Dependency, fd}
use Rattle.dep_model.specs.Implication.{Implies}
use Rattle.dep_model.specs.Keys.{InClosure}
use Rattle.dep_model.specs.Theories.{width_of, universe_of}
use Rattle.dep_model.specs.Theories.{Theory}
use Rattle.dep_model.proofs.RuleLemmas.{reflexivity_obeyed, transitivity_obeyed, fd_weaker_obeyed, fd_union_obeyed}
use Rattle.fd_closure.proofs.ClosureLemmas.{fd_each-from}
use Rattle.normal_forms.specs.declared.beginning.KnownPart.{KnownPart}
use Rattle.normal_forms.specs.Beginning.{IsKnownPart, IsBegun}
use Rattle.normal_forms.specs.Passing.{theory_by}

-- what a set determines beside what its part does is what it determines
pub closure_of_begun : (n : ℕ) (ds : List Dependency) (x b c : Attributes) → IsSubset x b → Implies n ds (fd x b)
    → ((a : ℕ) → (c a ≡ true) ↔ InClosure n ds b a) → (a : ℕ) → (c a ≡ true) ↔ InClosure n ds x a
closure_of_begun n ds x b c inside implied closure a = (
  (λ m. let h = (closure a).0 m in (h.0, λ r legal. transitivity_obeyed x b (only a) r (implied r legal) (h.1 r legal))),
  (λ h. (closure a).1 (h.0, λ r legal. fd_weaker_obeyed x (only a) b (only a) r inside (λ k m. m) (h.1 r legal))),
)

pub implied_begun : (n : ℕ) (ds : List Dependency) (x b y : Attributes) → IsSubset x b → Implies n ds (fd x b) → Implies n ds (fd b y) ↔ Implies n ds (fd x y)
implied_begun n ds x b y inside implied = (
  (λ h r legal. transitivity_obeyed x b y r (implied r legal) (h r legal)),
  (λ h r legal. fd_weaker_obeyed x y b y r inside (λ k m. m) (h r legal)),
)

-- a set is known to determine its closure
pub known_closure : (functional : Bool) (s : Theory) (part : KnownPart)
    → ((a : ℕ) → (attributes part.closed a ≡ true) ↔ InClosure (width_of s) (theory_by functional s) (attributes part.set) a) → IsKnownPart functional s part
known_closure functional s part closure = record {
  within = λ a m. lt-ltb a (width_of s) ((closure a).0 m).0;
  determined = fd_each-from (width_of s) (theory_by functional s) (attributes part.set) (attributes part.closed) (λ a m. ((closure a).0 m).1);
}

pub begun_with : (functional : Bool) (s : Theory) (part : KnownPart) (x : Attributes) → IsKnownPart functional s part → IsSubset x (universe_of s) → IsSubset (attributes part.set) x
    → IsBegun functional s x (union x (attributes part.closed))
begun_with functional s part x known low inside = record {
  within = λ k m. elim (or_cases (x k) (attributes part.closed k) m) [
    | inl in_x ↦ low k in_x
    | inr in_closed ↦ known.within k in_closed
  ];
  holds = λ k m. grind (arith, m);
  determined = λ r legal. fd_union_obeyed x x (attributes part.closed) r (reflexivity_obeyed x x r (λ k m. m))
      (fd_weaker_obeyed (attributes part.set) (attributes part.closed) x (attributes part.closed) r inside (λ k m. m) (known.determined r legal));
}

pub begun_bare : (functional : Bool) (s : Theory) (x : Attributes) → IsSubset x (universe_of s) → IsBegun functional s x x
begun_bare functional s x low = record { within = low; holds = λ k m. m; determined = λ r legal. reflexivity_obeyed x x r (λ k m. m) }
