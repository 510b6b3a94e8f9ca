-- What the listed dependencies give from a set.
use Rattle.std.proofs.Common.{inl, inr, ◌≡◌, ◌+◌, ◌<◌, ◌⊎◌, ◌||◌, ◌&&◌, not, ℕ, Bool, true, false, List, [], ◌∷◌, ◌++◌, length, get_or, take, refl, sym, ap, subst, ◌∙◌, arith}
use Rattle.std.specs.Prelude.{Any}
use Rattle.std.proofs.Math.Seq.{get_or-append_seam}
use Rattle.std.proofs.lemmas.Bool.{cases_lt, cases_Bool, true≢false}
use Rattle.std.proofs.lemmas.Bool.Decides.{nat_tests}
use Rattle.std.proofs.lemmas.List.{length_push, get_or_append_left, take_more, map-append}
use Rattle.std.proofs.lemmas.List.Quantifiers.{Any-push}
use Rattle.attr_sets.specs.Attributes.{Attributes, IsSubset, below, difference, union}
use Rattle.dep_model.specs.Dependencies.{Dependency, left_of, right_of}
use Rattle.dep_model.specs.Deps.{dependency_of, dependencies_of}
use Rattle.dep_model.specs.declared.dep.Dep.{Dep}
use Rattle.fd_discovery.specs.Searching.{IsListedFrom, AreUndetermined}
use Rattle.attr_sets.proofs.AttributesLemmas.{same_at}
use Rattle.dep_model.proofs.ListLemmas.{Any-weaker, Any-left}

-- ---- some element is such

pub Any-push_cases : {X : Type 0} (P : X → Type 0) (xs : List X) (y : X) → Any P (xs ++ y ∷ []) → Any P xs ⊎ P y
Any-push_cases P xs y h = elim (cases_lt h.0 (length xs)) [
  | inl front ↦ inl (h.0, h.1, front, sym (get_or_append_left xs (y ∷ []) h.1 h.0 front) ∙ h.3, h.4)
  | inr last ↦
      let at : length xs ≡ h.0 = omega (arith, h.2, length_push xs y, last) in
      let is : y ≡ h.1 = sym (get_or-append_seam xs y [] h.1)
      ∙ ap (λ (j : ℕ). get_or (xs ++ y ∷ []) j h.1) at ∙ h.3 in
      inr (subst P (sym is) h.4)
]

-- ---- what is given
-- one more is listed
pub given_still : (ds : List Dependency) (d : Dependency) (x : Attributes) (a : ℕ) → IsListedFrom ds x a
    → IsListedFrom (ds ++ d ∷ []) x a
given_still ds d x a = Any-left (λ (e : Dependency). IsSubset (left_of e) x × (right_of e a ≡ true)) ds d

pub given_now : (ds : List Dependency) (d : Dependency) (x : Attributes) (a : ℕ) → IsSubset (left_of d) x
    → right_of d a ≡ true → IsListedFrom (ds ++ d ∷ []) x a
given_now ds d x a left right = Any-push (λ (e : Dependency). IsSubset (left_of e) x × (right_of e a ≡ true)) ds d
    (left, right)

pub given_cases : (ds : List Dependency) (d : Dependency) (x : Attributes) (a : ℕ) → IsListedFrom (ds ++ d ∷ []) x a
    → IsListedFrom ds x a ⊎ (IsSubset (left_of d) x × (right_of d a ≡ true))
given_cases ds d x a = Any-push_cases (λ (e : Dependency). IsSubset (left_of e) x × (right_of e a ≡ true)) ds d

-- from a larger set
pub given_more : (ds : List Dependency) (x y : Attributes) (a : ℕ) → IsSubset x y → IsListedFrom ds x a → IsListedFrom ds y a
given_more ds x y a inside = Any-weaker (λ (e : Dependency). IsSubset (left_of e) x × (right_of e a ≡ true))
    (λ (e : Dependency). IsSubset (left_of e) y × (right_of e a ≡ true)) ds (λ e h. ((λ k m. inside k (h.0 k m)), h.1))

-- a set and what is given from it
pub record HasListedFrom (ds : List Dependency) (x given : Attributes) : Type 0 where
  pub grows : IsSubset x given
  pub known : (a : ℕ) → given a ≡ true → (x a ≡ true) ⊎ IsListedFrom ds x a
  pub all : (a : ℕ) → IsListedFrom ds x a → given a ≡ true

pub HasListedFrom-nil : (x : Attributes) → HasListedFrom [] x x
HasListedFrom-nil x = record {
  grows = λ k m. m;
  known = λ a m. inl m;
  all = λ a h. absurd (omega (arith, h.2));
}

pub so_far_in : (ds : List Dependency) (d : Dependency) (x given more : Attributes) → HasListedFrom ds x given
    → IsSubset (left_of d) x → more ≡ union given (right_of d)
    → HasListedFrom (ds ++ d ∷ []) x more
so_far_in ds d x given more old inside same = record {
  grows = λ k m. same_at same k ∙ left k (old.grows k m);
  known = λ a m. elim (cases_Bool (given a)) [
    | inl before ↦ elim (old.known a before) [
      | inl member ↦ inl member
      | inr was ↦ inr (given_still ds d x a was)
    ]
    | inr new ↦ inr (given_now ds d x a inside (added a new (sym (same_at same a) ∙ m)))
  ];
  all = λ a h. elim (given_cases ds d x a h) [
    | inl before ↦ same_at same a ∙ left a (old.all a before)
    | inr now ↦ same_at same a ∙ right a now.1
  ];
}
  where
    left : (k : ℕ) → given k ≡ true → union given (right_of d) k ≡ true
    left k m = ap (λ (b : Bool). b || right_of d k) m

    right : (k : ℕ) → right_of d k ≡ true → union given (right_of d) k ≡ true
    right k m = ap (λ (b : Bool). given k || b) m ∙ or_true (given k)
      where
        or_true : (b : Bool) → (b || true) ≡ true
        or_true true = refl
        or_true false = refl

    added : (k : ℕ) → given k ≡ false → union given (right_of d) k ≡ true → right_of d k ≡ true
    added k out m = sym (ap (λ (b : Bool). b || right_of d k) out) ∙ m

pub so_far_out : (ds : List Dependency) (d : Dependency) (x given : Attributes) → HasListedFrom ds x given
    → (IsSubset (left_of d) x → ⊥) → HasListedFrom (ds ++ d ∷ []) x given
so_far_out ds d x given old outside = record {
  grows = old.grows;
  known = λ a m. elim (old.known a m) [
    | inl member ↦ inl member
    | inr was ↦ inr (given_still ds d x a was)
  ];
  all = λ a h. elim (given_cases ds d x a h) [
    | inl before ↦ old.all a before
    | inr now ↦ absurd (outside now.0)
  ];
}

pub not_given_from : (n : ℕ) (ds : List Dependency) (x given full rest : Attributes) → HasListedFrom ds x given
    → full ≡ below n → rest ≡ difference full given → AreUndetermined n ds x rest
not_given_from n ds x given full rest so_far whole same = record {
  within = λ k m. sym (same_at whole k) ∙ first (full k) (given k) (sym (same_at same k) ∙ m);
  outside = λ a m. elim (cases_Bool (x a)) [
    | inl member ↦ absurd (true≢false (sym (so_far.grows a member) ∙ second (full a) (given a) (sym (same_at same a) ∙ m)))
    | inr out ↦ out
  ];
  none = λ a m h. true≢false (sym (so_far.all a h) ∙ second (full a) (given a) (sym (same_at same a) ∙ m));
  rest = λ a l m out. elim (cases_Bool (given a)) [
    | inl has ↦ elim (so_far.known a has) [
      | inl member ↦ absurd (true≢false (sym member ∙ out))
      | inr was ↦ was
    ]
    | inr lacks ↦
        let inside : full a ≡ true = same_at whole a ∙ grind (arith, nat_tests, l) in
        absurd (true≢false (sym (both (full a) (given a) inside lacks) ∙ sym (same_at same a) ∙ m))
  ];
}
  where
    first : (b c : Bool) → (b && not c) ≡ true → b ≡ true
    first true c h = refl
    first false c h = cc

    second : (b c : Bool) → (b && not c) ≡ true → c ≡ false
    second true true h = cc
    second true false h = refl
    second false c h = cc

    both : (b c : Bool) → b ≡ true → c ≡ false → (b && not c) ≡ true
    both true true h g = cc
    both true false h g = refl
    both false c h g = cc

-- one dependency more of a list
pub dependencies_more : (found : List Dep) (i : ℕ) (d : Dep) → i < length found
    → dependencies_of (take (i + 1) found) ≡ dependencies_of (take i found) ++ dependency_of (get_or found i d) ∷ []
dependencies_more found i d l = ap dependencies_of (take_more found i d l)
    ∙ map-append dependency_of (take i found) (get_or found i d ∷ [])
