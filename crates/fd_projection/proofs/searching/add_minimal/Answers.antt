-- What is left to prove of `add_minimal`: that its loop begins with what was found, that a round keeps
-- the invariant, and its clause `found`, by `FoundLemmas`.
use Rattle.std.proofs.Common.{◌≡◌, ◌+◌, ◌↔◌, ℕ, true, List, ◌∷◌, [], ◌++◌, sym, ap, subst, ◌∙◌, arith}
use Rattle.std.proofs.lemmas.Bool.{ltb-true, true≢false}
use Rattle.std.proofs.lemmas.List.{map_push}
use Rattle.attr_sets.specs.Attributes.{Attributes, only, union, intersection, difference}
use Rattle.attr_sets.specs.Sets.{attributes}
use Rattle.attr_sets.proofs.AttributesLemmas.{same_at}
use Rattle.dep_model.specs.declared.dep.Dep.{Dep}
use Rattle.dep_model.specs.declared.dep.Dep.TheVariants.{Fd}
use Rattle.dep_model.specs.Dependencies.{Dependency, fd}
use Rattle.dep_model.specs.Deps.{dependency_of, dependencies_of}
use Rattle.dep_model.specs.Theories.{width_of, theory_of}
use Rattle.fd_projection.specs.Projections.{IsMinimalWithin}
use Rattle.fd_projection.specs.Closures.{AreTriedMinimal}
use Rattle.fd_projection.proofs.MinimalLemmas.{rights_minimal}
use Rattle.fd_projection.proofs.FoundLemmas.{TriedTo, tried_begin, tried_push, tried_skip, tried_done}
use Rattle.fd_projection.proofs.searching.add_minimal.Goals as goal
use Rattle.fd_projection.proofs.searching.add_minimal.Goals.{then-contains+in_ok-push, else-contains}

pub loop-attribute-init : goal.loop-attribute-init
loop-attribute-init c =
    let s = c.args.theory.now in
    tried_begin (width_of s) (theory_of s) (attributes c.args.set) (attributes c.args.lhs) (dependencies_of c.args.found.now.items) c.requires.found

pub loop-attribute-preserved : goal.loop-attribute-preserved
loop-attribute-preserved c =
    let s = c.args.theory.now in
    let n = width_of s in
    let ds = theory_of s in
    let set = attributes c.args.set in
    let x = attributes c.args.lhs in
    let closed = attributes c.args.closed in
    let given = attributes c.args.given in
    let m = c.loop-attribute.attribute in
    let rights = attributes c.difference-rights.result in
    let at : rights m ≡ difference (intersection closed set) (union x given) m =
    same_at c.difference-rights.ensures.members m
    ∙ grind (arith, same_at c.intersection.ensures.members m, same_at c.union.ensures.members m) in
    let exact : (rights m ≡ true) ↔ IsMinimalWithin n ds set x m =
    rights_minimal n ds set x closed given rights m c.requires.lhs c.requires.closed c.requires.given at in
    elim c.if-contains.branch [
      | then-contains+in_ok-push w ↦
          let is = exact.0 (sym c.contains.ensures.member ∙ w.if-contains.true) in
          let new : Dep = Fd c.args.lhs w.single-rhs.result in
          let pushed = ap (λ v. v.items) w.found-is ∙ w.in_ok-push.ensures.items in
          let listed : dependencies_of (c.loop-attribute.found.items ++ new ∷ []) ≡ dependencies_of c.loop-attribute.found.items ++ fd x (only m) ∷ [] =
          map_push dependency_of c.loop-attribute.found.items new
          ∙ ap (λ (right : Attributes). dependencies_of c.loop-attribute.found.items ++ fd x right ∷ []) w.single-rhs.ensures.members in
          subst (λ (items : List Dep). AreTriedMinimal n ds set (TriedTo x (m + 1)) (dependencies_of items)) (sym pushed)
          (subst (λ (es : List Dependency). AreTriedMinimal n ds set (TriedTo x (m + 1)) es) (sym listed)
          (tried_push n ds set x m (dependencies_of c.loop-attribute.found.items) is c.loop-attribute.invariant))
      | else-contains w ↦
          let same = ap (λ v. v.items) w.found-is in
          subst (λ (items : List Dep). AreTriedMinimal n ds set (TriedTo x (m + 1)) (dependencies_of items)) (sym same)
          (tried_skip n ds set x m (dependencies_of c.loop-attribute.found.items)
          (λ is. true≢false (sym (exact.1 is) ∙ (sym c.contains.ensures.member ∙ w.if-contains.false))) c.loop-attribute.invariant)
    ]

pub returns : goal.returns
returns c =
    let s = c.args.theory.now in
    record {
      found = tried_done (width_of s) (theory_of s) (attributes c.args.set) (attributes c.args.lhs) c.loop-attribute.attribute (dependencies_of c.loop-attribute.found.items)
          (λ a m. omega (arith, ltb-true a (width_of s) (c.requires.set a m), c.loop-attribute-test.false, c.width-attribute-end.ensures.count)) c.loop-attribute.invariant;
    }
