-- What a set determines without one of its attributes, one attribute after the other.
use Rattle.std.proofs.Common.{◌≡◌, ◌+◌, ◌<◌, ◌↔◌, ℕ, true, false, List, sym, ap, subst, ◌∙◌, inl, inr, arith}
use Rattle.std.proofs.lemmas.Bool.{true≢false, false≢true, cases_eq, or_cases}
use Rattle.std.proofs.lemmas.Bool.Decides.{nat_tests}
use Rattle.attr_sets.specs.Attributes.{Attributes, only, none, union, difference}
use Rattle.attr_sets.proofs.AttributesLemmas.{same_at}
use Rattle.dep_model.specs.Dependencies.{Dependency}
use Rattle.dep_model.specs.Keys.{InClosure}
use Rattle.normal_forms.proofs.AddedLemmas.{closure_more}
use Rattle.fd_closure.specs.Closures.{IsClosureOf}
use Rattle.fd_projection.specs.Closures.{IsClosureOfParts}

-- it determines an attribute without one of those below m
pub record LeavesOut (n : ℕ) (ds : List Dependency) (x : Attributes) (m a : ℕ) : Type 0 where
  pub attribute : ℕ
  pub earlier : attribute < m
  pub member : x attribute ≡ true
  pub determines : InClosure n ds (difference x (only attribute)) a

abbrev pub IsClosureOfPartsBelow : ℕ → List Dependency → Attributes → ℕ → Attributes → Type 0
IsClosureOfPartsBelow n ds x m c = (a : ℕ) → (c a ≡ true) ↔ LeavesOut n ds x m a

pub parts_none : (n : ℕ) (ds : List Dependency) (x c : Attributes) → c ≡ none → IsClosureOfPartsBelow n ds x 0 c
parts_none n ds x c empty a = (
  (λ m. absurd (true≢false (sym m ∙ same_at empty a))),
  (λ out. let lt = out.earlier in absurd (omega (arith, lt))),
)

pub parts_skip : (n : ℕ) (ds : List Dependency) (x c : Attributes) (m : ℕ) → x m ≡ false → IsClosureOfPartsBelow n ds x m c → IsClosureOfPartsBelow n ds x (m + 1) c
parts_skip n ds x c m outside before a = (
  (λ member. let out = (before a).0 member in let lt = out.earlier in record {
    attribute = out.attribute;
    earlier = omega (arith, lt);
    member = out.member;
    determines = out.determines;
  }),
  (λ out. let lt = out.earlier in elim (cases_eq out.attribute m) [
    | inl here ↦ absurd (true≢false (sym out.member ∙ ap x here ∙ outside))
    | inr other ↦ (before a).1 (record {
      attribute = out.attribute;
      earlier = omega (arith, lt, other);
      member = out.member;
      determines = out.determines;
    })
  ]),
)

pub parts_more : (n : ℕ) (ds : List Dependency) (x part closed c next : Attributes) (m : ℕ) → x m ≡ true → part ≡ difference x (only m) → IsClosureOf n ds part closed
    → next ≡ union c closed → IsClosureOfPartsBelow n ds x m c → IsClosureOfPartsBelow n ds x (m + 1) next
parts_more n ds x part closed c next m member is closure both before a =
    let exact : IsClosureOf n ds (difference x (only m)) closed = subst (λ (y : Attributes). IsClosureOf n ds y closed) is closure in
    let here = same_at both a in (
      (λ yes. elim (or_cases (c a) (closed a) (sym here ∙ yes)) [
        | inl old ↦ let out = (before a).0 old in let lt = out.earlier in record {
          attribute = out.attribute;
          earlier = omega (arith, lt);
          member = out.member;
          determines = out.determines;
        }
        | inr new ↦ record { attribute = m; earlier = omega arith; member = member; determines = (exact a).0 new }
      ]),
      (λ out. let lt = out.earlier in elim (cases_eq out.attribute m) [
        | inl same ↦
            let new : closed a ≡ true = (exact a).1 (subst (λ (i : ℕ). InClosure n ds (difference x (only i)) a) same out.determines) in
            grind (arith, here, new)
        | inr other ↦
            let old : c a ≡ true = (before a).1 (record {
              attribute = out.attribute;
              earlier = omega (arith, lt, other);
              member = out.member;
              determines = out.determines;
            }) in
            grind (arith, here, old)
      ]),
    )

pub parts_all : (n : ℕ) (ds : List Dependency) (x c : Attributes) (m : ℕ) → ((b : ℕ) → x b ≡ true → b < m) → IsClosureOfPartsBelow n ds x m c → IsClosureOfParts n ds x c
parts_all n ds x c m low before a = (
  (λ member. let out = (before a).0 member in (out.attribute, out.member, out.determines)),
  (λ (b, member, h). (before a).1 (record { attribute = b; earlier = low b member; member = member; determines = h })),
)

-- ---- the closure of a set, begun with what its parts determine
-- they determine nothing that it does not
pub given_closed : (n : ℕ) (ds : List Dependency) (x given : Attributes) (a : ℕ) → IsClosureOfParts n ds x given → given a ≡ true → InClosure n ds x a
given_closed n ds x given a parts m =
    let out = (parts a).0 m in
    closure_more n ds (difference x (only out.0)) x a (λ k e. grind (arith, e)) out.2

pub closure_beyond : (n : ℕ) (ds : List Dependency) (x given begun closed : Attributes) → IsClosureOfParts n ds x given → begun ≡ union x given
    → IsClosureOf n ds begun closed → IsClosureOf n ds x closed
closure_beyond n ds x given begun closed parts is closure a =
    let exact : IsClosureOf n ds (union x given) closed = subst (λ (y : Attributes). IsClosureOf n ds y closed) is closure in (
      (λ m.
          let h = (exact a).0 m in (
            h.0,
            λ r legal t u t_in u_in agree. h.1 r legal t u t_in u_in (λ (k : ℕ) e. elim (or_cases (x k) (given k) e) [
              | inl in_x ↦ agree k in_x
              | inr in_given ↦ (given_closed n ds x given k parts in_given).1 r legal t u t_in u_in agree k (grind (arith, nat_tests))
            ]),
          )),
      (λ h. (exact a).1 (closure_more n ds x (union x given) a (λ k m. grind (arith, m)) h)),
    )
