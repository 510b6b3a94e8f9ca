-- Minimal dependencies inside a set: a left side is least where no one attribute can be spared, each
-- dependency inside a set has a minimal one below it, and left sides lie within the given ones.
use Rattle.std.proofs.Common.{◌≡◌, ◌<◌, ◌≤◌, ◌↔◌, ◌⊎◌, ℕ, zero, suc, true, false, List, refl, sym, ap, subst, ◌∙◌, inl, inr, ⊎_elim, arith}
use Rattle.std.proofs.lemmas.Bool.{true≢false, cases_Bool, cases_eq, cases_lt, ltb-true}
use Rattle.std.proofs.lemmas.Bool.Decides.{nat_tests}
use Rattle.std.specs.Prelude.{All}
use Rattle.attr_sets.specs.Attributes.{Attributes, below, only, union, intersection, difference, IsSubset}
use Rattle.dep_model.specs.declared.dep.Dep.{Dep}
use Rattle.dep_model.specs.Dependencies.{Dependency, left_of}
use Rattle.dep_model.specs.Deps.{dependency_of, dependencies_of, IsDepWithin}
use Rattle.dep_model.specs.Keys.{InClosure}
use Rattle.dep_model.proofs.DepLemmas.{dependencies_all-to}
use Rattle.dep_basis.proofs.RestLemmas.{block_at}
use Rattle.fd_closure.specs.LeftSides.{left_sides}
use Rattle.fd_closure.proofs.LeftSideLemmas.{left_sides_in, left_sides_each}
use Rattle.normal_forms.proofs.AddedLemmas.{closure_more, added_by_all}
use Rattle.fd_projection.specs.Projections.{IsMinimalWithin}
use Rattle.fd_closure.specs.Closures.{IsClosureOf}
use Rattle.fd_projection.specs.Closures.{IsClosureOfParts}

-- ---- least left sides
-- no one attribute of a set can be spared where it determines another
abbrev pub IsLeastByOne : ℕ → List Dependency → Attributes → ℕ → Type 0
IsLeastByOne n ds x a = (b : ℕ) → x b ≡ true → InClosure n ds (difference x (only b)) a → ⊥

pub least_from : (n : ℕ) (ds : List Dependency) (x : Attributes) (a : ℕ) → IsLeastByOne n ds x a
    → (z : Attributes) → IsSubset z x → InClosure n ds z a → IsSubset x z
least_from n ds x a least z inside h k m = elim (cases_Bool (z k)) [
  | inl there ↦ there
  | inr out ↦
      let spared : IsSubset z (difference x (only k)) = λ j in_z. elim (cases_eq j k) [
        | inl same ↦ absurd (true≢false (sym in_z ∙ ap z same ∙ out))
        | inr other ↦ let in_x = inside j in_z in grind (arith, nat_tests, in_x, other)
      ] in
      absurd (least k m (closure_more n ds z (difference x (only k)) a spared h))
]

pub least_to : (n : ℕ) (ds : List Dependency) (x : Attributes) (a : ℕ)
    → ((z : Attributes) → IsSubset z x → InClosure n ds z a → IsSubset x z) → IsLeastByOne n ds x a
least_to n ds x a minimal b m h =
    let there : difference x (only b) b ≡ true = minimal (difference x (only b)) (λ k e. grind (arith, e)) h b m in
    let gone : difference x (only b) b ≡ false = grind (arith, nat_tests) in
    true≢false (sym there ∙ gone)

-- ---- what a set determines, and its parts do not
-- the right sides of a set: of what it determines in another set, what neither it has nor its parts determine
pub rights_minimal : (n : ℕ) (ds : List Dependency) (set x closed given rights : Attributes) (a : ℕ)
    → IsSubset x set → IsClosureOf n ds x closed → IsClosureOfParts n ds x given
    → rights a ≡ difference (intersection closed set) (union x given) a
    → (rights a ≡ true) ↔ IsMinimalWithin n ds set x a
rights_minimal n ds set x closed given rights a inside closure parts is = (
  (λ m.
      let all : difference (intersection closed set) (union x given) a ≡ true = sym is ∙ m in
      let in_closed : closed a ≡ true = grind (arith, all) in
      let in_set : set a ≡ true = grind (arith, all) in
      let out : x a ≡ false = grind (arith, all) in
      let not_given : given a ≡ false = grind (arith, all) in
      record {
        left = inside;
        right = in_set;
        outside = out;
        determines = (closure a).0 in_closed;
        minimal = least_from n ds x a (λ b member h. true≢false (sym ((parts a).1 (b, member, h)) ∙ not_given));
      }),
  (λ h.
      let in_closed : closed a ≡ true = (closure a).1 h.determines in
      let in_set : set a ≡ true = h.right in
      let out : x a ≡ false = h.outside in
      let not_given : given a ≡ false = elim (cases_Bool (given a)) [
        | inl there ↦ let (b, member, part) = (parts a).0 there in absurd (least_to n ds x a h.minimal b member part)
        | inr gone ↦ gone
      ] in
      is ∙ grind (arith, in_closed, in_set, out, not_given)),
)

-- ---- a minimal part
-- whether a set determines an attribute
tell_closure : (n : ℕ) (ds : List Dep) (x : Attributes) (a : ℕ) → n ≤ 128 → All (IsDepWithin (below n)) ds → IsSubset x (below n)
    → InClosure n (dependencies_of ds) x a ⊎ (InClosure n (dependencies_of ds) x a → ⊥)
tell_closure n ds x a within_limit within low = elim (cases_lt a n) [
  | inl less ↦ elim (block_at n ds x a within_limit within low less) [
    | inl closed ↦ inl closed
    | inr one ↦ inr (one.1.outside a one.2)
  ]
  | inr from ↦ inr (λ h. omega (arith, h.0, from))
]

-- a part of x that determines a, of which no one attribute below m can be spared
record IsLeastTo (n : ℕ) (ds : List Dependency) (x : Attributes) (a m : ℕ) (v : Attributes) : Type 0 where
  within : IsSubset v x
  determines : InClosure n ds v a
  least : (b : ℕ) → b < m → v b ≡ true → InClosure n ds (difference v (only b)) a → ⊥

least_step : (n : ℕ) (ds : List Dep) (x : Attributes) (a m : ℕ) (v : Attributes) → n ≤ 128 → All (IsDepWithin (below n)) ds → IsSubset x (below n)
    → IsLeastTo n (dependencies_of ds) x a m v → (w : Attributes) × IsLeastTo n (dependencies_of ds) x a (suc m) w
least_step n ds x a m v within_limit within low before =
    let rest : Attributes = difference v (only m) in
    ⊎_elim
    (λ (closed : InClosure n (dependencies_of ds) rest a). (
      rest,
      record {
        within = λ k e. before.within k (grind (arith, e));
        determines = closed;
        least = λ b less member again. ⊎_elim
            (λ (same : b ≡ m).
            let gone : rest m ≡ false = grind (arith, nat_tests) in
            absurd (true≢false (sym member ∙ ap rest same ∙ gone)))
            (λ (other : b ≡ m → ⊥). before.least b (omega (arith, less, other)) (grind (arith, member))
            (closure_more n (dependencies_of ds) (difference rest (only b)) (difference v (only b)) a (λ k e. grind (arith, e)) again))
            (cases_eq b m);
      },
    ))
    (λ (not : InClosure n (dependencies_of ds) rest a → ⊥). (
      v,
      record {
        within = before.within;
        determines = before.determines;
        least = λ b less member again. ⊎_elim
            (λ (same : b ≡ m). not (subst (λ (j : ℕ). InClosure n (dependencies_of ds) (difference v (only j)) a) same again))
            (λ (other : b ≡ m → ⊥). before.least b (omega (arith, less, other)) member again)
            (cases_eq b m);
      },
    ))
    (tell_closure n ds rest a within_limit within (λ k e. low k (before.within k (grind (arith, e)))))

least_part : (n : ℕ) (ds : List Dep) (x : Attributes) (a : ℕ) → n ≤ 128 → All (IsDepWithin (below n)) ds → IsSubset x (below n)
    → InClosure n (dependencies_of ds) x a → (m : ℕ) → (v : Attributes) × IsLeastTo n (dependencies_of ds) x a m v
least_part n ds x a within_limit within low h zero = (
  x,
  record { within = λ k m. m; determines = h; least = λ b less. absurd (omega (arith, less)) },
)
least_part n ds x a within_limit within low h (suc m) =
    let earlier = least_part n ds x a within_limit within low h m in
    least_step n ds x a m earlier.0 within_limit within low earlier.1

-- a dependency on one attribute inside a set, and a minimal one with a part of its left side
pub record HasMinimalPart (n : ℕ) (ds : List Dependency) (set x : Attributes) (a : ℕ) : Type 0 where
  pub part : Attributes
  pub within : IsSubset part x
  pub minimal : IsMinimalWithin n ds set part a

pub minimal_part : (n : ℕ) (ds : List Dep) (set x : Attributes) (a : ℕ) → n ≤ 128 → All (IsDepWithin (below n)) ds → IsSubset set (below n)
    → IsSubset x set → set a ≡ true → x a ≡ false → InClosure n (dependencies_of ds) x a → HasMinimalPart n (dependencies_of ds) set x a
minimal_part n ds set x a within_limit within set_in x_in a_in out h =
    let low : IsSubset x (below n) = λ k m. set_in k (x_in k m) in
    let found = least_part n ds x a within_limit within low h n in
    let v = found.0 in
    let is = found.1 in
    let v_out : v a ≡ false = elim (cases_Bool (v a)) [
      | inl there ↦ absurd (true≢false (sym (is.within a there) ∙ out))
      | inr gone ↦ gone
    ] in
    record {
      part = v;
      within = is.within;
      minimal = record {
        left = λ k m. x_in k (is.within k m);
        right = a_in;
        outside = v_out;
        determines = is.determines;
        minimal = least_from n (dependencies_of ds) v a (λ b member. is.least b (ltb-true b n (low b (is.within b member))) member);
      };
    }

-- ---- left sides
-- a minimal left side lies within what the set has of the given left sides
pub left_within : (n : ℕ) (ds : List Dep) (set l whole x : Attributes) (a : ℕ) → n ≤ 128 → All (IsDepWithin (below n)) ds → IsSubset set (below n)
    → All (λ d. IsSubset (left_of (dependency_of d)) l) ds → whole ≡ intersection l set
    → IsMinimalWithin n (dependencies_of ds) set x a → IsSubset x whole
left_within n ds set l whole x a within_limit within set_in lefts is h k m =
    let closed = added_by_all n ds set l whole within_limit within set_in lefts is x a h.left h.determines h.outside in
    let both : intersection x whole k ≡ true = h.minimal (intersection x whole) (λ j e. grind (arith, e)) closed k m in
    grind (arith, both)

pub left_given : (n : ℕ) (ds : List Dep) (set x : Attributes) (a : ℕ) → n ≤ 128 → All (IsDepWithin (below n)) ds → IsSubset set (below n)
    → IsMinimalWithin n (dependencies_of ds) set x a → IsSubset x (left_sides (dependencies_of ds))
left_given n ds set x a within_limit within set_in h k m =
    let l = left_sides (dependencies_of ds) in
    let each = dependencies_all-to (λ (d : Dependency). IsSubset (left_of d) l) ds (left_sides_each (dependencies_of ds) l (λ b in_left. (left_sides_in (dependencies_of ds) b).1 in_left)) in
    let both : intersection l set k ≡ true = left_within n ds set l (intersection l set) x a within_limit within set_in each refl h k m in
    grind (arith, both)
