-- What is found is added at the end of a text, position after position.
use Rattle.std.proofs.Common.{◌≡◌, ◌+◌, ◌<◌, ◌≤◌, ℕ, Result, Ok, Err, length, suc, Bool, true, Option, Some, None, List, [], ◌++◌, refl, sym, ap, subst, ◌∙◌, append-nil, append_assoc, arith}
use Rattle.std.proofs.lemmas.Option.{get_or_from_slice_get, slice_get-map, slice_get_past, slice_get_read, slice_get_within}
use Rattle.std.specs.List.{HoldsAt}
use Rattle.std.specs.Prelude.{◌&&◌, IfOk, MatchOption, option_map, slice_get}
use Rattle.dep_model.specs.Dependencies.{Dependency}
use Rattle.dep_model.specs.Deps.{IsDepWithin, dependency_of}
use Rattle.schema_model.specs.Schemas.{deps_of, theory_of, universe_of}
use Rattle.dep_model.specs.declared.dep.Dep.{Dep}
use Rattle.schema_model.specs.Schemas.{Schema}
use Rattle.desk_measures.specs.Findings.{Adds, Finding, FindsBelow, FindsBoth, FindsNothing}
use Rattle.desk_measures.specs.Offences.{OfDependency}

-- nothing is added
pub adds_nothing : (text : List ℕ) → Adds FindsNothing text text true
adds_nothing text = ([], (refl, refl), sym (append-nil text))

-- one thing is added, and another
pub adds_both : (First Second : Finding) (old between new : List ℕ) (one two : Bool) → Adds First old between one
    → Adds Second between new two → Adds (FindsBoth First Second) old new (one && two)
adds_both First Second old between new one two (text, first, added) (more, second, then_added) = (
  text ++ more,
  record {
    first_clean = one;
    first_text = text;
    second_clean = two;
    second_text = more;
    first = first;
    second = second;
    both = refl;
    reads = refl;
  },
  then_added ∙ ap (λ (t : List ℕ). t ++ more) added ∙ append_assoc old text more,
)

module _ (Finds : ℕ → Finding) where
  pub adds_none : (text : List ℕ) → Adds (FindsBelow Finds 0) text text true
  unfolding FindsBelow
  adds_none text = adds_nothing text

  adds_suc : (k : ℕ) (old between new : List ℕ) (one two : Bool) → Adds (FindsBelow Finds k) old between one
      → Adds (Finds k) between new two → Adds (FindsBelow Finds (suc k)) old new (one && two)
  unfolding FindsBelow
  adds_suc k old between new one two first second =
      adds_both (FindsBelow Finds k) (Finds k) old between new one two first second

  pub adds_next : (k : ℕ) (old between new : List ℕ) (one two : Bool) → Adds (FindsBelow Finds k) old between one
      → Adds (Finds k) between new two → Adds (FindsBelow Finds (k + 1)) old new (one && two)
  adds_next k old between new one two first second =
      let e : suc k ≡ k + 1 = omega arith in
      subst (λ (m : ℕ). Adds (FindsBelow Finds m) old new (one && two)) e
      (adds_suc k old between new one two first second)

  pub adds_step : (k : ℕ) (old between new : List ℕ) (one two clean : Bool) → Adds (FindsBelow Finds k) old between one
      → Adds (Finds k) between new two → clean ≡ (one && two) → Adds (FindsBelow Finds (k + 1)) old new clean
  adds_step k old between new one two clean first second is =
      subst (λ (b : Bool). Adds (FindsBelow Finds (k + 1)) old new b) (sym is)
      (adds_next k old between new one two first second)

-- ---- the dependency at a position
pub given_within : (s : Schema) (k : ℕ) (dep : Dep) → slice_get (deps_of s) k ≡ Some dep → IsDepWithin (universe_of s) dep
given_within s k dep is =
    let low = slice_get_within (deps_of s) k dep is in
    subst (λ (d : Dep). IsDepWithin (universe_of s) d) (get_or_from_slice_get (deps_of s) k dep dep is)
    (s.valid.deps_within k dep low)

module _ (s : Schema) (Finds : ℕ → Dependency → Finding) (k : ℕ) (old new : List ℕ) where
  abbrev pub OfGiven : Option Dependency → Finding
  OfGiven given clean text = MatchOption given (FindsNothing clean text) (λ d. Finds k d clean text)

  pub adds_of_given : (dep : Dep) (clean : Bool) → slice_get (deps_of s) k ≡ Some dep
      → Adds (Finds k (dependency_of dep)) old new clean → Adds (OfDependency s Finds k) old new clean
  adds_of_given dep clean is adds =
      let given : slice_get (theory_of s) k ≡ Some (dependency_of dep) =
      slice_get-map dependency_of (deps_of s) k ∙ ap (option_map dependency_of) is in
      subst (λ (d : Option Dependency). Adds (OfGiven d) old new clean) (sym given) adds

  pub adds_of_none : slice_get (deps_of s) k ≡ None → old ≡ new → Adds (OfDependency s Finds k) old new true
  adds_of_none is same =
      let given : slice_get (theory_of s) k ≡ None =
      slice_get-map dependency_of (deps_of s) k ∙ ap (option_map dependency_of) is in
      subst (λ (d : Option Dependency). Adds (OfGiven d) old new true) (sym given)
      (subst (λ (t : List ℕ). Adds FindsNothing old t true) same (adds_nothing old))

-- ---- the same, as code finds the dependency
-- what is there at a position of a slice
pub given_some : (s : Schema) (ds : List Dep) (k : ℕ) (dep : Dep) → ds ≡ deps_of s → k < length ds
    → HoldsAt (λ (d : Dep). dep ≡ d) ds k → slice_get (deps_of s) k ≡ Some dep
given_some s ds k dep same low is =
    subst (λ (xs : List Dep). slice_get xs k ≡ Some dep) same (slice_get_read ds (length ds) k dep refl low (is dep))

pub given_none : (s : Schema) (ds : List Dep) (k : ℕ) → ds ≡ deps_of s → length ds ≤ k → slice_get (deps_of s) k ≡ None
given_none s ds k same high = subst (λ (xs : List Dep). slice_get xs k ≡ None) same (slice_get_past ds k high)

pub adds_if_given : {E : Type 0} (r : Result Bool E) (s : Schema) (Finds : ℕ → Dependency → Finding) (k : ℕ)
    (old new : List ℕ) (dep : Dep) → slice_get (deps_of s) k ≡ Some dep
    → IfOk r (λ clean. Adds (Finds k (dependency_of dep)) old new clean)
    → IfOk r (λ clean. Adds (OfDependency s Finds k) old new clean)
adds_if_given (Ok clean) s Finds k old new dep is adds = adds_of_given s Finds k old new dep clean is adds
adds_if_given (Err e) s Finds k old new dep is adds = adds
