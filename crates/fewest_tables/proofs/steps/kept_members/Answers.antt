-- What is left to prove of `kept_members`: its clause, and what `kept_beside` requires, by `ExchangeLemmas`.
use Rattle.std.proofs.Common.{◌≡◌, List, map, ap, ◌∙◌}
use Rattle.std.specs.List.{flat_map}
use Rattle.dep_model.specs.Deps.{dependencies_of}
use Rattle.fd_closure.specs.declared.known.KnownClosure.{KnownClosure}
use Rattle.fewest_tables.specs.FewestSteps.{group_with, groups_in, shared_exchanges}
use Rattle.fewest_tables.proofs.MadeLemmas.{kept_by_shared, shared_deps_within}
use Rattle.fewest_tables.proofs.steps.kept_members.Goals as goal
use Rattle.fewest_tables.proofs.steps.kept_members.Goals.{In_ok-rules}

-- which rules are made
rules_are : (c : In_ok-rules) → dependencies_of c.in_ok-rules.rules.items ≡ flat_map shared_exchanges (groups_in c.args.groups.now)
rules_are c =
    c.in_ok-rules.ensures.rules
    ∙ ap (λ (l : List KnownClosure). flat_map shared_exchanges (map (group_with l) c.deref-2.result.now)) c.deref.ensures.value
    ∙ ap (λ (l : List KnownClosure). flat_map shared_exchanges (map (group_with c.args.groups.now.lefts.items) l)) c.deref-2.ensures.value

pub kept_beside-requires : goal.kept_beside-requires
kept_beside-requires c =
    let s = c.args.theory.now in
    rw c.width.ensures.count (record {
      width = s.valid.within_limit;
      rules = shared_deps_within s (groups_in c.args.groups.now) c.in_ok-rules.rules.items c.requires.groups (rules_are (goal.at.kept_beside-requires c).In_ok-rules);
      cover = c.requires.cover;
    })

pub returns : goal.returns
returns c = record {
  thinned = kept_by_shared c.args.theory.now (groups_in c.args.groups.now) (dependencies_of c.in_ok-rules.rules.items) (dependencies_of c.args.cover.now) (dependencies_of c.in_ok-kept.kept.items) c.requires.groups
      (rules_are (goal.at.returns c).In_ok-rules) (rw c.width.ensures.count at c.in_ok-kept.ensures.thinned);
}
