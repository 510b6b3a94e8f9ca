-- What is left to prove of `with_closures`: its clauses, and that the invariant of its loop holds at first and stays.
use Rattle.std.proofs.Common.{◌<◌, ◌∷◌, ◌++◌, [], List, length, refl, sym, ap, ◌∙◌, take, take_all}
use Rattle.std.proofs.lemmas.List.{map_more, map_push}
use Rattle.std.proofs.lemmas.List.Elements.{All-nil, All-push}
use Rattle.attr_sets.specs.Attributes.{Attributes}
use Rattle.attr_sets.specs.Sets.{attributes}
use Rattle.attr_sets.specs.declared.set.AttrSet.{AttrSet}
use Rattle.dep_model.specs.Dependencies.{functional_part}
use Rattle.dep_model.specs.Plans.{schemes_of}
use Rattle.dep_model.specs.Theories.{width_of, theory_of}
use Rattle.fd_closure.specs.Closures.{IsKnownClosure}
use Rattle.fewest_tables.specs.FewestSteps.{set_of}
use Rattle.fewest_tables.proofs.grouping.with_closures.Goals as goal

pub loop-left-init : goal.loop-left-init
loop-left-init c = rw c.new-known.ensures.items (record {
  sets = refl;
  known = All-nil (IsKnownClosure (width_of c.args.theory.now) (functional_part (theory_of c.args.theory.now)));
})

pub loop-left-preserved : goal.loop-left-preserved
loop-left-preserved c =
    let s = c.args.theory.now in
    let lefts = c.args.lefts.now in
    let i = c.loop-left.left-index in
    let d : AttrSet = record { 0 = 0 } in
    let lt : i < length lefts = c.loop-left-test.true in
    let old = c.loop-left.known.items in
    let one = c.with_closure.result in
    rw c.in_ok-push.ensures.items (record {
      sets = map_push set_of old one
          ∙ ap (λ (l : List Attributes). l ++ set_of one ∷ []) c.loop-left.invariant.sets
          ∙ ap (λ (x : Attributes). schemes_of (take i lefts) ++ x ∷ []) c.with_closure.ensures.set
          ∙ sym (map_more attributes lefts i d lt);
      known = All-push (IsKnownClosure (width_of s) (functional_part (theory_of s))) old one c.loop-left.invariant.known c.with_closure.ensures.known;
    })

pub returns-clause-sets : goal.returns-clause-sets
returns-clause-sets c =
    c.loop-left.invariant.sets
    ∙ ap (λ (l : List AttrSet). schemes_of l) (take_all c.loop-left.left-index c.args.lefts.now c.loop-left-test.false)

pub returns-clause-known : goal.returns-clause-known
returns-clause-known c = c.loop-left.invariant.known
