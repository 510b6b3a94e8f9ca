-- What is left to prove of `try_set`: that the invariant of its loop stays, and its clauses, by `FrontLemmas`.
use Rattle.std.proofs.Common.{◌≡◌, ◌+◌, ◌++◌, ℕ, List, true, false, sym, ap, subst, ◌∙◌, arith}
use Rattle.std.proofs.lemmas.List.{append_assoc}
use Rattle.std.proofs.lemmas.Result.{err_from_is_err_and}
use Rattle.attr_sets.specs.Attributes.{Attributes}
use Rattle.attr_sets.specs.Sets.{attributes}
use Rattle.dep_model.specs.declared.dep.Dep.{Dep}
use Rattle.near_rules.specs.Searching.{AreNearFoundBefore}
use Rattle.near_rules.specs.declared.found.Found.{Found}
use Rattle.near_rules.specs.declared.found.Sought.{Sought}
use Rattle.near_rules.proofs.FrontLemmas.{kept_listed, passed, unwanted, wanted_must}
use Rattle.near_rules.proofs.searching.try_set.Goals as goal
use Rattle.near_rules.proofs.searching.try_set.Goals.{then-contains+in_ok-try_right, else-contains}

pub returns-in_err-try_right-clause-refusal : goal.returns-in_err-try_right-clause-refusal
returns-in_err-try_right-clause-refusal c r sought grouped before =
    let p = err_from_is_err_and c.from_residual.result c.from_residual.ensures.1 in
    let must = wanted_must c.args.sought.now r (attributes c.args.set) (attributes c.args.wanted) c.args.found.now c.loop-attribute.attribute before
    c.requires.wanted c.requires.set c.requires.few c.loop-attribute-test.true (sym c.contains.ensures.member ∙ c.if-contains.true) in
    rw (p.1, p.2) (c.in_err-try_right.ensures.refusal r sought grouped (c.loop-attribute.invariant.found r sought grouped before) must)

pub loop-attribute-preserved : goal.loop-attribute-preserved
loop-attribute-preserved c =
    let s : Sought = c.args.sought.now in
    let set : Attributes = attributes c.args.set in
    let wanted : Attributes = attributes c.args.wanted in
    let a : ℕ = c.loop-attribute.attribute in
    let (more, kept) = c.loop-attribute.invariant.kept in
    elim c.if-contains.branch [
      | then-contains+in_ok-try_right w ↦
          let has : wanted a ≡ true = sym c.contains.ensures.member ∙ w.if-contains.true in
          let (added, is) = w.in_ok-try_right.ensures.kept in
          record {
            found = λ r sought grouped before. subst (AreNearFoundBefore s r set (a + 1)) (sym w.found-is)
                (w.in_ok-try_right.ensures.found r sought grouped (c.loop-attribute.invariant.found r sought grouped before)
                (wanted_must s r set wanted c.args.found.now a before c.requires.wanted c.requires.set c.requires.few
                c.loop-attribute-test.true has));
            kept = (
              more ++ added,
              ap (λ (f : Found). f.deps.items) w.found-is ∙ is ∙ ap (λ (l : List Dep). l ++ added) kept
                  ∙ append_assoc c.args.found.now.deps.items more added,
            );
          }
      | else-contains w ↦
          let lacks : wanted a ≡ false = sym c.contains.ensures.member ∙ w.if-contains.false in
          record {
            found = λ r sought grouped before. subst (AreNearFoundBefore s r set (a + 1)) (sym w.found-is)
                (let rest = unwanted s r set wanted c.args.found.now a before c.requires.wanted c.loop-attribute-test.true lacks in
                passed s r set a c.loop-attribute.found (c.loop-attribute.invariant.found r sought grouped before) rest.0
                (λ out. kept_listed c.args.found.now.deps.items more c.loop-attribute.found.deps.items kept set a (rest.1 out)));
            kept = (more, ap (λ (f : Found). f.deps.items) w.found-is ∙ kept);
          }
    ]

pub returns-clause-found : goal.returns-clause-found
returns-clause-found c r sought grouped before =
    let end : c.loop-attribute.attribute ≡ c.args.sought.now.rights =
    omega (arith, c.loop-attribute-test.false, c.loop-attribute.auto.attribute-end) in
    subst (λ (a : ℕ). AreNearFoundBefore c.args.sought.now r (attributes c.args.set) a c.loop-attribute.found) end
    (c.loop-attribute.invariant.found r sought grouped before)
