-- Wide splits: lossless plans of schemes without pairs, at most as many as there are attributes.
use Rattle.std.proofs.Common.{◌≡◌, ℕ, ◌≤◌, Bool, true, if◌then◌else◌, List, [], ◌∷◌, ◌++◌, length, sym, subst, ap, ◌∙◌, inl, inr, ⊎_elim, arith, append_assoc}
use mathlib.Core.Path.{fun_ext}
use Rattle.std.specs.Prelude.{All, Any, Contains}
use Rattle.std.proofs.lemmas.Bool.{true≢false, ltb-true, lt-ltb, cases_eq, cases_Bool, eqb-true}
use Rattle.std.proofs.lemmas.Bool.Decides.{nat_tests}
use Rattle.std.proofs.lemmas.List.Elements.{All-nil, All-cons, All-weaker, All-map, All-contains}
use Rattle.std.proofs.lemmas.List.{length-map}
use Rattle.attr_sets.specs.Attributes.{Attributes, below, only, union, difference, IsSubset, IsEmpty, count_below}
use Rattle.attr_sets.proofs.AttributesLemmas.{count_below-difference_only, count_below-pos, count_below-below, tell_empty}
use Rattle.attr_sets.specs.Sets.{attributes}
use Rattle.attr_sets.specs.declared.set.AttrSet.{AttrSet}
use Rattle.dep_model.specs.Theories.{Theory}
use Rattle.dep_model.specs.Dependencies.{Dependency, mvd}
use Rattle.dep_model.specs.OnSchemes.{ImpliedOn}
use Rattle.dep_model.specs.Forms.{IsBcnf}
use Rattle.dep_model.specs.Plans.{IsPlan, schemes_of}
use Rattle.dep_model.specs.Theories.{width_of, deps_of, theory_of, universe_of}
use Rattle.dep_model.specs.Projections.{IsLossless}
use Rattle.dep_model.proofs.FormLemmas.{replicated_on}
use Rattle.dep_model.proofs.JoinLemmas.{split_lossless}
use Rattle.dep_model.proofs.KeyLemmas.{fd_on-from}
use Rattle.dep_model.proofs.ListLemmas.{Any-from, Contains-head, Contains-later, Contains-map}
use Rattle.dep_model.proofs.SchemeLemmas.{whole_lossless}
use Rattle.plans.specs.Containing.{is_contained, without_contained_after, without_contained}
use Rattle.wide_bcnf.specs.Pairs.{HasPair}
use Rattle.wide_bcnf.specs.WideSplits.{IsCore, IsWideSplitOf}
use Rattle.wide_bcnf.proofs.PairLemmas.{without_pair_bcnf}
use Rattle.wide_bcnf.proofs.CoreLemmas.{core_within, core_member, core_determined, scheme_member, scheme_other}

-- ---- a scheme is cut into its core and what is left of it
-- the attribute that goes is determined by the others of the core
cut_on : (n : ℕ) (ds : List Dependency) (scheme q : Attributes) (a : ℕ) → IsCore n ds scheme q a
    → ImpliedOn n ds scheme (mvd (difference q (only a)) (only a))
cut_on n ds scheme q a core =
    replicated_on n ds scheme (difference q (only a)) (only a)
    (fd_on-from n ds scheme (difference q (only a)) (only a)
    (λ (k : ℕ) m. core_within n ds scheme q a core k (grind (arith, m)))
    (λ (k : ℕ) e. subst (λ (i : ℕ). scheme i ≡ true) (sym (eqb-true k a e)) (scheme_member n ds scheme q a core))
    (core_determined n ds scheme q a core))

halves_same : (q : Attributes) (a : ℕ) → q a ≡ true → union (difference q (only a)) (only a) ≡ q
halves_same q a member = fun_ext (λ k. elim (cases_eq k a) [
  | inl same ↦ grind (arith, nat_tests, ap q same, member, same)
  | inr other ↦ grind (arith, nat_tests, other)
])

pub lossless_after : (n : ℕ) (ds : List Dependency) (before : List Attributes) (scheme : Attributes) (schemes : List Attributes)
    → IsWideSplitOf n ds scheme schemes
    → IsLossless n ds (before ++ scheme ∷ []) → IsLossless n ds (before ++ schemes)
lossless_after n ds before scheme [] split lossless = absurd split
lossless_after n ds before scheme (q ∷ later) split lossless = ⊎_elim
    (λ alone.
    let whole : IsLossless n ds (before ++ q ∷ []) = subst (λ (s : Attributes). IsLossless n ds (before ++ s ∷ []))
    (sym alone.1) lossless in
    subst (λ (rest : List Attributes). IsLossless n ds (before ++ q ∷ rest)) (sym alone.2) whole)
    (λ cut.
    let a = cut.0 in
    let halves : IsLossless n ds (before ++ union (difference q (only a)) (only a) ∷ difference scheme (only a) ∷ []) =
    split_lossless n ds before [] scheme (difference q (only a)) (only a) (cut_on n ds scheme q a cut.1)
    (λ (k : ℕ) e. grind (arith, nat_tests, e)) lossless in
    let core : IsLossless n ds (before ++ q ∷ difference scheme (only a) ∷ []) =
    subst (λ (s : Attributes). IsLossless n ds (before ++ s ∷ difference scheme (only a) ∷ []))
    (halves_same q a (core_member n ds scheme q a cut.1)) halves in
    let front : IsLossless n ds ((before ++ q ∷ []) ++ difference scheme (only a) ∷ []) =
    subst (λ (plan : List Attributes). IsLossless n ds plan)
    (sym (append_assoc before (q ∷ []) (difference scheme (only a) ∷ []))) core in
    subst (λ (plan : List Attributes). IsLossless n ds plan) (append_assoc before (q ∷ []) later)
    (lossless_after n ds (before ++ q ∷ []) (difference scheme (only a)) later cut.2 front))
    split

pub split_is_lossless : (n : ℕ) (ds : List Dependency) (schemes : List Attributes) → IsWideSplitOf n ds (below n) schemes
    → IsLossless n ds schemes
split_is_lossless n ds schemes split = lossless_after n ds [] (below n) schemes split (whole_lossless n ds)

-- ---- the schemes of a wide split: none has a pair, none is empty, together they have what the scheme has
pub record AreParts (n : ℕ) (ds : List Dependency) (scheme : Attributes) (schemes : List Attributes) : Type 0 where
  pub within : All (λ s. IsSubset s scheme) schemes
  pub not_empty : All (λ s. IsEmpty s → ⊥) schemes
  pub none : All (λ s. HasPair n ds s → ⊥) schemes
  pub covers : (k : ℕ) → scheme k ≡ true → Any (λ (s : Attributes). s k ≡ true) schemes
  pub one_an_attribute : length schemes ≤ count_below scheme n

parts_alone : (n : ℕ) (ds : List Dependency) (scheme : Attributes) → IsSubset scheme (below n) → (IsEmpty scheme → ⊥)
    → (HasPair n ds scheme → ⊥) → AreParts n ds scheme (scheme ∷ [])
parts_alone n ds scheme low not_empty none = record {
  within = All-cons (λ (s : Attributes). IsSubset s scheme) scheme [] (λ k m. m) (All-nil (λ (s : Attributes). IsSubset s scheme));
  not_empty = All-cons (λ (s : Attributes). IsEmpty s → ⊥) scheme [] not_empty (All-nil (λ (s : Attributes). IsEmpty s → ⊥));
  none = All-cons (λ (s : Attributes). HasPair n ds s → ⊥) scheme [] none (All-nil (λ (s : Attributes). HasPair n ds s → ⊥));
  covers = λ k m. Any-from (λ (s : Attributes). s k ≡ true) (scheme ∷ []) scheme (Contains-head scheme []) m;
  one_an_attribute = ⊎_elim
      (λ found. omega (arith, count_below-pos n scheme found.0 found.1 found.2))
      (λ empty. absurd (not_empty empty))
      (tell_empty n scheme low);
}

parts_cut : (n : ℕ) (ds : List Dependency) (scheme q : Attributes) (a : ℕ) (later : List Attributes) → IsSubset scheme (below n)
    → IsCore n ds scheme q a
    → AreParts n ds (difference scheme (only a)) later → AreParts n ds scheme (q ∷ later)
parts_cut n ds scheme q a later low core parts = record {
  within = All-cons (λ (s : Attributes). IsSubset s scheme) q later (core_within n ds scheme q a core)
      (All-weaker (λ (s : Attributes). IsSubset s (difference scheme (only a))) (λ (s : Attributes). IsSubset s scheme)
      (λ s inside k m. let h = inside k m in grind (arith, h)) later parts.within);
  not_empty = All-cons (λ (s : Attributes). IsEmpty s → ⊥) q later
      (λ empty. true≢false (sym (core_member n ds scheme q a core) ∙ empty a)) parts.not_empty;
  none = All-cons (λ (s : Attributes). HasPair n ds s → ⊥) q later core.ends parts.none;
  covers = λ k m. elim (cases_eq k a) [
    | inl same ↦ Any-from (λ (s : Attributes). s k ≡ true) (q ∷ later) q (Contains-head q later)
        (ap q same ∙ core_member n ds scheme q a core)
    | inr other ↦
        let found = parts.covers k (grind (arith, nat_tests, m, other)) in
        Any-from (λ (s : Attributes). s k ≡ true) (q ∷ later) found.1
        (Contains-later q later found.1 (found.0, found.2, found.3)) found.4
  ];
  one_an_attribute =
      let count = count_below-difference_only n scheme a (ltb-true a n (low a (scheme_member n ds scheme q a core)))
      (scheme_member n ds scheme q a core) in
      let least = parts.one_an_attribute in
      omega arith;
}

pub split_parts : (n : ℕ) (ds : List Dependency) (scheme : Attributes) (schemes : List Attributes) → IsSubset scheme (below n)
    → (IsEmpty scheme → ⊥) → IsWideSplitOf n ds scheme schemes
    → AreParts n ds scheme schemes
split_parts n ds scheme [] low not_empty split = absurd split
split_parts n ds scheme (q ∷ later) low not_empty split = ⊎_elim
    (λ alone.
    subst (λ (rest : List Attributes). AreParts n ds scheme (q ∷ rest)) (sym alone.2)
    (subst (λ (s : Attributes). AreParts n ds scheme (s ∷ [])) (sym alone.1)
    (parts_alone n ds scheme low not_empty alone.0)))
    (λ cut.
    let a = cut.0 in
    let other = scheme_other n ds scheme q a cut.1 in
    parts_cut n ds scheme q a later low cut.1
    (split_parts n ds (difference scheme (only a)) later (λ (k : ℕ) m. low k (grind (arith, m)))
    (λ empty. let none = empty other.0 in grind (arith, nat_tests, other.1, other.2, none))
    cut.2))
    split

-- so the wide split of a universe that is not empty is a plan
pub split_is_plan : (n : ℕ) (ds : List Dependency) (schemes : List Attributes) → AreParts n ds (below n) schemes
    → IsPlan n schemes
split_is_plan n ds schemes parts = record {
  within = parts.within;
  not_empty = parts.not_empty;
  covers = λ k low. parts.covers k (lt-ltb k n low);
}

-- ---- without contained schemes
pub length-without_contained_after : (earlier later : List AttrSet) → length (without_contained_after earlier later) ≤ length later
length-without_contained_after earlier [] = omega arith
length-without_contained_after earlier (x ∷ later) =
    let rest = without_contained_after (earlier ++ x ∷ []) later in
    let within_limit : length rest ≤ length later = length-without_contained_after (earlier ++ x ∷ []) later in
    ⊎_elim
    (λ spare. subst (λ (b : Bool). length (if b then rest else (x ∷ rest)) ≤ length (x ∷ later)) (sym spare)
    (omega arith))
    (λ kept. subst (λ (b : Bool). length (if b then rest else (x ∷ rest)) ≤ length (x ∷ later)) (sym kept)
    (omega arith))
    (cases_Bool (is_contained earlier x later))

pub length-without_contained : (schemes : List AttrSet) → length (without_contained schemes) ≤ length schemes
length-without_contained schemes = length-without_contained_after [] schemes

-- what holds of each scheme holds of each that is kept
pub kept_all : (P : Attributes → Type 0) (all kept : List AttrSet) → All (λ k. Contains all k) kept
    → All P (schemes_of all) → All P (schemes_of kept)
kept_all P all kept among each =
    All-map P attributes kept
    (All-weaker (λ (k : AttrSet). Contains all k) (λ (k : AttrSet). P (attributes k))
    (λ k has. All-contains P (schemes_of all) (attributes k) each (Contains-map attributes all k has)) kept among)

-- ---- the plan of a schema
module _ (s : Theory) (all : List AttrSet)
    (split : IsWideSplitOf (width_of s) (theory_of s) (universe_of s) (schemes_of all)) where
  pub schema_parts : AreParts (width_of s) (theory_of s) (universe_of s) (schemes_of all)
  schema_parts =
      split_parts (width_of s) (theory_of s) (universe_of s) (schemes_of all) (λ k m. m)
      (λ empty. true≢false (sym (lt-ltb 0 (width_of s) s.valid.not_empty) ∙ empty 0)) split

  pub schema_plan : IsPlan (width_of s) (schemes_of all)
  schema_plan = split_is_plan (width_of s) (theory_of s) (schemes_of all) schema_parts

  pub schema_within_limit : length all ≤ width_of s
  schema_within_limit =
      let within_limit = schema_parts.one_an_attribute in
      let whole : count_below (universe_of s) (width_of s)
      ≡ width_of s = count_below-below (width_of s) (width_of s) (omega arith) in
      let long : length (schemes_of all) ≡ length all = length-map all attributes in
      omega arith

  pub schema_bcnf : All (IsBcnf (width_of s) (theory_of s)) (schemes_of all)
  schema_bcnf =
      All-weaker (λ (x : Attributes). IsSubset x (universe_of s) × (HasPair (width_of s) (theory_of s) x → ⊥))
      (IsBcnf (width_of s) (theory_of s))
      (λ x is. without_pair_bcnf (width_of s) (deps_of s) x s.valid.within_limit s.valid.deps_within is.0 is.1)
      (schemes_of all)
      (λ k d l. (schema_parts.within k d l, schema_parts.none k d l))
