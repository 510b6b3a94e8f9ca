-- One turn of each loop: a left side closed, found or put into a group, and what is said of it.
use Rattle.std.proofs.Common.{◌≡◌, ℕ, ◌+◌, ◌<◌, ◌↔◌, suc, Bool, true, ◌||◌, if◌then◌else◌, List, [], ◌∷◌, ◌++◌, map, take, drop, length, get_or, sym, subst, ap, ◌∙◌, inl, inr, append-nil, append_assoc, arith}
use mathlib.Core.Path.{fun_ext}
use Rattle.std.specs.Prelude.{All, filter}
use Rattle.std.specs.List.{list_any, flat_map}
use Rattle.std.proofs.Math.Bool.{or-false}
use Rattle.std.proofs.Math.Seq.{drop-cons}
use Rattle.std.proofs.lemmas.Bool.{cases_Bool}
use Rattle.std.proofs.lemmas.Grind.{flat_map-append}
use Rattle.std.proofs.lemmas.List.{map_more, take_more, map-append}
use Rattle.std.proofs.lemmas.List.Elements.{filter-append}
use Rattle.std.proofs.lemmas.List.Folds.{list_any-append}
use Rattle.attr_sets.specs.Attributes.{Attributes, below, IsSubset}
use Rattle.attr_sets.proofs.AttributesLemmas.{same_at}
use Rattle.dep_model.specs.declared.dep.Dep.{Dep}
use Rattle.dep_model.specs.Dependencies.{functional_part}
use Rattle.dep_model.specs.Deps.{dependencies_of, IsDepWithin}
use Rattle.dep_model.specs.Keys.{InClosure}
use Rattle.dep_model.specs.Theories.{Theory, width_of, deps_of, theory_of}
use Rattle.fd_closure.specs.Closures.{IsClosureOf}
use Rattle.fd_closure.specs.declared.known.KnownClosure.{KnownClosure}
use Rattle.fewest_tables.specs.Alike.{firsts_after}
use Rattle.fewest_tables.specs.FewestSteps.{group_with, same_closure, sets_of, set_of}
use Rattle.fewest_tables.proofs.FirstLemmas.{first_added, first_passed}

-- ---- what a left side determines
pub closure_known : (s : Theory) (deps : List Dep) → deps ≡ deps_of s → (x c : Attributes) → IsSubset x (below (width_of s))
    → ((n : ℕ) → All (IsDepWithin (below n)) deps → IsSubset x (below n) → (a : ℕ) → (c a ≡ true) ↔ InClosure n (functional_part (dependencies_of deps)) x a)
    → IsClosureOf (width_of s) (functional_part (theory_of s)) x c
closure_known s deps same x c low closure =
    let n = width_of s in
    subst (λ (es : List Dep). IsClosureOf n (functional_part (dependencies_of es)) x c) same
    (closure n (subst (λ (es : List Dep). All (IsDepWithin (below n)) es) (sym same) s.valid.deps_within) low)

-- ---- one element more
-- of what is made of each element
pub mapped_more : {X Y Z : Type 0} (f : Y → List Z) (make : X → Y) (xs : List X) (i : ℕ) (d : X) → i < length xs
    → flat_map f (map make (take (i + 1) xs)) ≡ flat_map f (map make (take i xs)) ++ f (make (get_or xs i d))
mapped_more {X} {Y} {Z} f make xs i d lt =
    let y = make (get_or xs i d) in
    let before = map make (take i xs) in
    ap (λ (l : List Y). flat_map f l) (map_more make xs i d lt)
    ∙ flat_map-append f before (y ∷ [])
    ∙ ap (λ (l : List Z). flat_map f before ++ l) (append-nil (f y))

-- a set that grows by what is made of each element
pub any_mapped_more : {X Y : Type 0} (p : Y → Attributes) (make : X → Y) (xs : List X) (i : ℕ) (d : X) (old new : Attributes) → i < length xs
    → old ≡ (λ k. list_any (λ y. p y k) (map make (take i xs))) → new ≡ (λ k. old k || p (make (get_or xs i d)) k)
    → new ≡ (λ k. list_any (λ y. p y k) (map make (take (i + 1) xs)))
any_mapped_more {X} {Y} p make xs i d old new lt before step = fun_ext (λ k.
    let test : Y → Bool = λ y. p y k in
    let y = make (get_or xs i d) in
    let done = map make (take i xs) in
    same_at step k
    ∙ ap (λ (b : Bool). b || test y) (same_at before k)
    ∙ ap (λ (b : Bool). list_any test done || b) (sym (or-false (test y)))
    ∙ sym (list_any-append test done (y ∷ []))
    ∙ ap (λ (l : List Y). list_any test l) (sym (map_more make xs i d lt)))

-- ---- the first ones
abbrev pub AreFirstsTo : List KnownClosure → List KnownClosure → ℕ → Type 0
AreFirstsTo known firsts i = firsts_after same_closure [] known ≡ firsts ++ firsts_after same_closure firsts (drop i known)

pub first_tried : (known firsts new : List KnownClosure) (i : ℕ) (d : KnownClosure) → i < length known → AreFirstsTo known firsts i
    → new ≡ (if list_any (λ other. same_closure other (get_or known i d)) firsts then firsts else (firsts ++ get_or known i d ∷ []))
    → AreFirstsTo known new (i + 1)
first_tried known firsts new i d lt before step =
    let x = get_or known i d in
    let next : suc i ≡ i + 1 = omega arith in
    let later = drop (i + 1) known in
    let cut : drop i known ≡ x ∷ later = drop-cons known i d lt ∙ ap (λ (j : ℕ). x ∷ drop j known) next in
    let from = before ∙ ap (λ (l : List KnownClosure). firsts ++ firsts_after same_closure firsts l) cut in
    let test = list_any (λ (other : KnownClosure). same_closure other x) firsts in
    let chosen : Bool → List KnownClosure = λ b. if b then firsts else (firsts ++ x ∷ []) in
    elim (cases_Bool test) [
      | inl old ↦
          let same : new ≡ firsts = step ∙ ap chosen old in
          subst (λ (l : List KnownClosure). AreFirstsTo known l (i + 1)) (sym same)
          (from ∙ ap (λ (l : List KnownClosure). firsts ++ l) (first_passed same_closure firsts x later old))
      | inr other ↦
          let same : new ≡ firsts ++ x ∷ [] = step ∙ ap chosen other in
          subst (λ (l : List KnownClosure). AreFirstsTo known l (i + 1)) (sym same)
          (from ∙ ap (λ (l : List KnownClosure). firsts ++ l) (first_added same_closure firsts x later other)
          ∙ sym (append_assoc firsts (x ∷ []) (firsts_after same_closure (firsts ++ x ∷ []) later)))
    ]

-- ---- a group
pub group_more : (known : List KnownClosure) (one : KnownClosure) (i : ℕ) (d : KnownClosure) (old new : List Attributes) → i < length known → old ≡ group_with (take i known) one
    → new ≡ old ++ group_with (get_or known i d ∷ []) one → new ≡ group_with (take (i + 1) known) one
group_more known one i d old new lt before step =
    let x = get_or known i d in
    step
    ∙ ap (λ (l : List Attributes). l ++ group_with (x ∷ []) one) before
    ∙ sym (map-append set_of (filter (same_closure one) (take i known)) (filter (same_closure one) (x ∷ [])))
    ∙ ap (λ (l : List KnownClosure). sets_of l) (sym (filter-append (same_closure one) (take i known) (x ∷ [])))
    ∙ ap (λ (l : List KnownClosure). group_with l one) (sym (take_more known i d lt))
