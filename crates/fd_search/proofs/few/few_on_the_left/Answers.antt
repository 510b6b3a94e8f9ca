-- What is left to prove of `few_on_the_left`: its clauses, by `SmallLemmas`.
use Rattle.std.proofs.Common.{◌≡◌, List, filter, take_all, ap, ◌∙◌}
use Rattle.std.proofs.lemmas.List.Elements.{All-filter, All-same}
use Rattle.dep_model.specs.Deps.{dependency_of, IsDepWithin}
use Rattle.dep_model.specs.declared.dep.Dep.{Dep}
use Rattle.fd_search.specs.Small.{has_few}
use Rattle.fd_search.proofs.SmallLemmas.{few_of_all}
use Rattle.fd_search.proofs.few.few_on_the_left.Goals as goal
use Rattle.fd_search.proofs.few.few_on_the_left.Goals.{After-loop-dep}

-- once the loop has ended
all_few : (c : After-loop-dep) → c.loop-dep.few.items ≡ filter (λ d. has_few c.args.most (dependency_of d)) c.args.deps.now
all_few c = c.loop-dep.invariant
    ∙ ap (filter (λ d. has_few c.args.most (dependency_of d))) (take_all c.loop-dep.dep-index c.args.deps.now c.loop-dep-test.false)

pub returns-clause-few : goal.returns-clause-few
returns-clause-few c = all_few c

pub returns-clause-small : goal.returns-clause-small
returns-clause-small c = λ n r n_in are.
    few_of_all n c.args.most r n_in c.args.deps.now c.loop-dep.few.items (all_few c) are

pub returns-clause-within : goal.returns-clause-within
returns-clause-within c = λ u within.
    All-same (IsDepWithin u) c.loop-dep.few.items (filter (λ d. has_few c.args.most (dependency_of d)) c.args.deps.now) (all_few c)
    (All-filter (λ d. has_few c.args.most (dependency_of d)) (IsDepWithin u) c.args.deps.now within)
