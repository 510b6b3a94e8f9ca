-- What is left to prove of `is_spare`: what it answers of an attribute of the right side.
use Rattle.std.proofs.Common.{◌≡◌, ◌↔◌, true, List, set, refl, sym, ap, subst, ◌∙◌, arith}
use Rattle.std.specs.Prelude.{All, IsTrue, slice_set}
use Rattle.std.proofs.lemmas.Bool.{and_parts, eqb-true}
use Rattle.std.proofs.lemmas.List.{map-set}
use Rattle.std.proofs.lemmas.List.Elements.{All-set}
use Rattle.attr_sets.specs.Attributes.{Attributes, below, only, difference, IsSubset}
use Rattle.attr_sets.specs.Sets.{attributes}
use Rattle.dep_model.specs.declared.dep.Dep.{Dep}
use Rattle.dep_model.specs.declared.dep.Dep.TheVariants.{Fd}
use Rattle.dep_model.specs.Dependencies.{Dependency, fd, functional_part}
use Rattle.dep_model.specs.Deps.{dependency_of, dependencies_of, IsDepWithin}
use Rattle.dep_model.specs.Implication.{Implies}
use Rattle.dep_model.specs.Theories.{deps_of, width_of, theory_of}
use Rattle.cover_accounts.proofs.GatheringLemmas.{read_within, schema_within}
use Rattle.cover_accounts.proofs.needless.is_spare.Goals as goal

pub returns : goal.returns
returns c =
    let s = c.args.theory.now in
    let n = width_of s in
    let ds = theory_of s in
    let k = c.args.k in
    let a = c.args.attribute in
    let x = attributes c.args.lhs in
    let y = attributes c.args.rhs in
    let spare : Dep = Fd c.args.lhs c.without.result in
    let changed = c.deref.result.now in
    let is : changed ≡ set (deps_of s) k spare =
    c.deref.ensures.value ∙ ap (λ (es : List Dep). set es k spare) (c.in_ok-deps.ensures.items ∙ c.deps.ensures.deps) in
    let told : dependencies_of changed ≡ slice_set ds k (fd x (difference y (only a))) =
    ap dependencies_of is ∙ map-set dependency_of (deps_of s) k spare ∙ ap (λ (z : Attributes). slice_set ds k (fd x z)) c.without.ensures.members in
    let here = read_within n ds k (fd x y) (schema_within s) c.requires.position in
    let member : y a ≡ true = sym c.contains.ensures.member ∙ c.if-not-contains.false in
    let spare_in : IsDepWithin (below n) spare =
    (here.0, λ j m. here.1 j (and_parts (y j) _ (sym (ap (λ (z : Attributes). z j) c.without.ensures.members) ∙ m)).0) in
    let all : All (IsDepWithin (below n)) changed =
    subst (λ (es : List Dep). All (IsDepWithin (below n)) es) (sym is)
    (All-set (IsDepWithin (below n)) (deps_of s) k spare spare_in s.valid.deps_within) in
    let single_in : IsSubset (attributes c.single.result) (below n) =
    λ j m. ap (below n) (eqb-true j a (sym (ap (λ (z : Attributes). z j) c.single.ensures.members) ∙ m)) ∙ here.1 a member in
    let decided = c.follows.ensures.implied.over n all here.0 single_in in
    let of_single = subst (λ (z : Attributes). IsTrue c.follows.result ↔ Implies n (functional_part (dependencies_of changed)) (fd x z))
    c.single.ensures.members decided in
    let of_list : IsTrue c.follows.result ↔ Implies n (functional_part (slice_set ds k (fd x (difference y (only a))))) (fd x (only a)) =
    subst (λ (es : List Dependency). IsTrue c.follows.result ↔ Implies n (functional_part es) (fd x (only a))) told of_single in
    record { not_needed = ((λ yes. (member, of_list.0 yes)), (λ spared. of_list.1 spared.1)) }
