-- What is left to prove of `rules_of_few_columns`: its clauses, of what nearly holds and where all sets are tried.
use Rattle.std.proofs.Common.{List, sym, subst, arith}
use Rattle.std.specs.Prelude.{All}
use Rattle.attr_sets.specs.Attributes.{below}
use Rattle.dep_model.specs.Deps.{dependencies_of, IsDepWithin}
use Rattle.dep_model.specs.declared.dep.Dep.{Dep}
use Rattle.fd_discovery.specs.Minimal.{AreAllMinimal}
use Rattle.desk_discovery.proofs.SmallLemmas.{all_small}
use Rattle.desk_discovery.proofs.small.rules_of_few_columns.Goals as goal

pub returns-in-Ok-clause-small : goal.returns-in-Ok-clause-small
returns-in-Ok-clause-small c =
    all_small c.args.width c.args.most c.args.rows.now _ _ c.in-Ok.ensures.rules

pub returns-clause-small : goal.returns-clause-small
returns-clause-small c =
    c.few_on_the_left.ensures.small c.args.width c.args.rows.now (omega (arith, c.requires.width))
    (subst (λ (ds : List Dep). AreAllMinimal c.args.width c.args.rows.now (dependencies_of ds)) (sym c.deref.ensures.value)
    c.in_ok-all.ensures.minimal)

pub returns-clause-within : goal.returns-clause-within
returns-clause-within c =
    c.few_on_the_left.ensures.within (below c.args.width)
    (subst (λ (ds : List Dep). All (IsDepWithin (below c.args.width)) ds) (sym c.deref.ensures.value) c.in_ok-all.ensures.within)
