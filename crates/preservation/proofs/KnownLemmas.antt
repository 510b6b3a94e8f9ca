-- What is known of the schemes of a plan: closures by the dependencies of a schema, and lists of them.
use Rattle.std.proofs.Common.{◌≡◌, ℕ, ◌<◌, ◌↔◌, true, List, ◌++◌, length, take, drop}
use Rattle.std.proofs.Common.{get_or, append-nil, arith, subst, sym, ap, ◌∙◌}
use Rattle.std.proofs.lemmas.List.Elements.{All-map}
use Rattle.std.proofs.lemmas.List.Elements.{Contains-get_or}
use Rattle.std.specs.Prelude.{All, Contains}
use Rattle.std.proofs.Math.ListN.{get_or-map, set}
use Rattle.std.proofs.Math.Seq.{map-set_same}
use Rattle.std.proofs.lemmas.List.{length-map, take_all, drop_all}
use Rattle.attr_sets.specs.Sets.{attributes}
use Rattle.attr_sets.specs.declared.set.AttrSet.{AttrSet}
use Rattle.dep_model.specs.Plans.{schemes_of}
use Rattle.attr_sets.specs.Attributes.{Attributes, below, IsSubset}
use Rattle.dep_model.specs.Tuples.{Relation}
use Rattle.dep_model.specs.Dependencies.{Dependency, functional_part}
use Rattle.dep_model.specs.Keys.{InClosure}
use Rattle.dep_model.specs.Deps.{dependencies_of, IsDepWithin}
use Rattle.dep_model.specs.Theories.{width_of, deps_of, theory_of, universe_of}
use Rattle.dep_model.specs.declared.dep.Dep.{Dep}
use Rattle.dep_model.specs.Theories.{Theory}
use Rattle.preservation.specs.declared.scheme_closure.SchemeClosure.{SchemeClosure}
use Rattle.preservation.specs.SchemeClosures.{IsSchemeClosure, schemes_of_closures, plan_of_closures}
use Rattle.preservation.specs.Keeping.{ObeysInside}

-- ---- a closure by the dependencies of a schema
-- what clause `closure` says
abbrev ClosedBy : List Dep → Attributes → Attributes → Type 0
ClosedBy ds part closed = (n : ℕ) → All (IsDepWithin (below n)) ds → IsSubset part (below n)
    → (a : ℕ) → (closed a ≡ true) ↔ InClosure n (functional_part (dependencies_of ds)) part a

pub closure_over : (s : Theory) (ds : List Dep) (part closed : Attributes) → ds ≡ deps_of s → IsSubset part (universe_of s)
    → ((n : ℕ) → All (IsDepWithin (below n)) ds → IsSubset part (below n)
    → (a : ℕ) → (closed a ≡ true) ↔ InClosure n (functional_part (dependencies_of ds)) part a)
    → (a : ℕ) → (closed a ≡ true) ↔ InClosure (width_of s) (functional_part (theory_of s)) part a
closure_over s ds part closed e within clause =
    let over : ClosedBy (deps_of s) part closed = subst (λ (xs : List Dep). ClosedBy xs part closed) e clause in
    over (width_of s) s.valid.deps_within within

-- ---- what is known of the schemes of a plan
pub scheme_of : (old new : List SchemeClosure) (i : ℕ) (d : SchemeClosure) → schemes_of_closures new ≡ schemes_of_closures old
    → get_or (schemes_of_closures old) i d.scheme ≡ (get_or new i d).scheme
scheme_of old new i d same = ap (λ (schemes : List AttrSet). get_or schemes i d.scheme) (sym same)
    ∙ get_or-map (λ (closure : SchemeClosure). closure.scheme) new i d

-- the i-th of them is a scheme of the plan
pub scheme_at : (old new : List SchemeClosure) (i : ℕ) (d : SchemeClosure) → schemes_of_closures new ≡ schemes_of_closures old → i < length old
    → Contains (plan_of_closures old) (attributes (get_or new i d).scheme)
scheme_at old new i d same lt =
    let low : i < length (plan_of_closures old) =
    omega (arith, lt, length-map (schemes_of_closures old) attributes, length-map old (λ (closure : SchemeClosure). closure.scheme)) in
    subst (λ (scheme : Attributes). Contains (plan_of_closures old) scheme)
    (get_or-map attributes (schemes_of_closures old) i d.scheme ∙ ap attributes (scheme_of old new i d same))
    (Contains-get_or (plan_of_closures old) i (attributes d.scheme) low)

-- something else is known of the same scheme
pub same_schemes : (old new : List SchemeClosure) (i : ℕ) (closure d : SchemeClosure) → schemes_of_closures new ≡ schemes_of_closures old
    → closure.scheme ≡ (get_or new i d).scheme → schemes_of_closures (set new i closure) ≡ schemes_of_closures old
same_schemes old new i closure d same scheme =
    map-set_same (λ (closure : SchemeClosure). closure.scheme) new i closure d scheme ∙ same

-- there are as many
pub same_length : (old new : List SchemeClosure) → schemes_of_closures new ≡ schemes_of_closures old → length new ≡ length old
same_length old new same =
    let scheme : SchemeClosure → AttrSet = (λ (closure : SchemeClosure). closure.scheme) in
    sym (length-map new scheme) ∙ ap (λ (schemes : List AttrSet). length schemes) same ∙ length-map old scheme

-- so they are put back in the place of the others
pub take-known : (old new : List SchemeClosure) (len : ℕ) → len ≡ length old → schemes_of_closures new ≡ schemes_of_closures old
    → take len (new ++ drop (length new) old) ≡ new
take-known old new len count same =
    let long : length new ≡ length old = same_length old new same in
    ap (λ (rest : List SchemeClosure). take len (new ++ rest)) (drop_all (length new) old (omega (arith, long)))
    ∙ ap (take len) (append-nil new) ∙ take_all len new (omega (arith, long, count))

-- what is inside the schemes of the one is inside those of the other
pub same_plan_obeyed : (n : ℕ) (ds : List Dependency) (old new : List SchemeClosure) (r : Relation)
    → schemes_of_closures new ≡ schemes_of_closures old → ObeysInside n ds (plan_of_closures old) r → ObeysInside n ds (plan_of_closures new) r
same_plan_obeyed n ds old new r same =
    subst (λ (schemes : List AttrSet). ObeysInside n ds (schemes_of schemes) r) (sym same)

-- each scheme has attributes of the universe
pub known_within : (n : ℕ) (ds : List Dependency) (closures : List SchemeClosure) → All (IsSchemeClosure n ds) closures
    → All (λ scheme. IsSubset scheme (below n)) (plan_of_closures closures)
known_within n ds closures known =
    All-map (λ (scheme : Attributes). IsSubset scheme (below n)) attributes (schemes_of_closures closures)
    (All-map (λ (scheme : AttrSet). IsSubset (attributes scheme) (below n)) (λ (closure : SchemeClosure). closure.scheme) closures
    (λ k d l. (known k d l).universe))
