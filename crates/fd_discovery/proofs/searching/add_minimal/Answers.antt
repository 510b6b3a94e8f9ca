-- What is left to prove of `add_minimal`: its clause `found` and that the invariant of its loop
-- holds at first and stays, by `LeaderLemmas` and `SearchLemmas`.
use Rattle.std.proofs.Common.{arith, ◌≡◌, ◌+◌, ◌∷◌, [], ◌++◌, ℕ, List, Vec, Global, true, sym, ap, subst, ◌∙◌}
use Rattle.std.proofs.lemmas.Bool.{false≢true}
use Rattle.std.proofs.lemmas.List.{map-append}
use Rattle.attr_sets.specs.Attributes.{Attributes, only}
use Rattle.attr_sets.specs.Sets.{attributes}
use Rattle.dep_model.specs.Dependencies.{Dependency, fd, ObeysFd}
use Rattle.dep_model.specs.Deps.{dependency_of, dependencies_of}
use Rattle.dep_model.specs.declared.dep.Dep.{Dep}
use Rattle.fd_discovery.proofs.LeaderLemmas.{column_groups}
use Rattle.fd_discovery.proofs.SearchLemmas.{AreAdded, added_none, added_given, added_broken, added_new, added_all}
use Rattle.fd_discovery.proofs.searching.add_minimal.Goals as goal
use Rattle.fd_discovery.proofs.searching.add_minimal.Goals.{then-contains+then-determines+in_ok-push, else-contains, else-contains-via-then-contains+else-determines, else-contains-via-else-contains}

pub loop-attribute-init : goal.loop-attribute-init
loop-attribute-init c = record { added = λ r led inside given found. added_none _ _ _ _ _ found given }

pub loop-attribute-preserved : goal.loop-attribute-preserved
loop-attribute-preserved c =
    let n : ℕ = c.args.table.now.width in
    let set : Attributes = attributes c.args.set in
    let wanted : Attributes = attributes c.args.wanted in
    let a : ℕ = c.loop-attribute.attribute in
    let old : List Dep = c.loop-attribute.found.items in
    elim c.if-contains.branch [
      | then-contains+then-determines+in_ok-push w ↦ record {
        added = λ r led inside given found.
            let before : AreAdded n r set wanted a (dependencies_of old) =
            c.loop-attribute.invariant.added r led inside given found in
            let has : wanted a ≡ true = sym c.contains.ensures.member ∙ w.if-contains.true in
            let groups = column_groups n r c.args.table.now a w.column.result.now led.table c.loop-attribute-test.true
            w.column.ensures.codes in
            let obeys : ObeysFd set (only a) r =
            (w.determines.ensures.obeys r set a led.led groups).0 w.if-determines.true in
            let items : dependencies_of c.if-contains.found.items ≡ dependencies_of old ++ fd set (only a) ∷ [] =
            ap (λ (v : Vec Dep Global). dependencies_of v.items) w.found-is
            ∙ ap dependencies_of w.in_ok-push.ensures.items ∙ map-append dependency_of old _
            ∙ ap (λ (x : Attributes). dependencies_of old ++ fd set x ∷ [])
            w.single-rhs.ensures.members in
            subst (λ (ds : List Dependency). AreAdded n r set wanted (a + 1) ds) (sym items)
            (added_new n r set wanted a (dependencies_of old) inside c.loop-attribute-test.true before has obeys);
      }
      | else-contains w ↦
          let items : dependencies_of c.if-contains.found.items ≡ dependencies_of old =
          ap (λ (v : Vec Dep Global). dependencies_of v.items) w.found-is in
          record {
            added = λ r led inside given found.
                let before : AreAdded n r set wanted a (dependencies_of old) =
                c.loop-attribute.invariant.added r led inside given found in
                subst (λ (ds : List Dependency). AreAdded n r set wanted (a + 1) ds) (sym items)
                (elim w.else-contains.branch [
                  | else-contains-via-then-contains+else-determines w' ↦
                      let groups = column_groups n r c.args.table.now a w'.column.result.now led.table
                      c.loop-attribute-test.true w'.column.ensures.codes in
                      added_broken n r set wanted a (dependencies_of old) inside c.loop-attribute-test.true before
                      (λ obeys. false≢true (sym w'.if-determines.false
                      ∙ (w'.determines.ensures.obeys r set a led.led groups).1 obeys))
                  | else-contains-via-else-contains w' ↦
                      added_given n r set wanted a (dependencies_of old) inside c.loop-attribute-test.true before
                      (sym c.contains.ensures.member ∙ w'.if-contains.false)
                ]);
          }
    ]

pub returns : goal.returns
returns c = record {
  found = λ r led inside given found.
      let end : c.loop-attribute.attribute ≡ c.args.table.now.width =
      omega (arith, c.loop-attribute-test.false, c.loop-attribute.auto.attribute-end) in
      added_all _ r _ _ _ _ end (c.loop-attribute.invariant.added r led inside given found);
}
