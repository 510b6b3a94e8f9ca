-- What is left to prove of `group_left_sides`: its clause, by `grouped_by_closures`.
use Rattle.std.proofs.Common.{◌≡◌, List, [], ap, ◌∙◌}
use Rattle.fd_closure.specs.declared.known.KnownClosure.{KnownClosure}
use Rattle.fewest_tables.specs.Alike.{firsts_after}
use Rattle.fewest_tables.specs.FewestSteps.{same_closure}
use Rattle.fewest_tables.proofs.MadeLemmas.{groups_made}
use Rattle.fewest_tables.proofs.grouping.group_left_sides.Goals as goal

pub returns : goal.returns
returns c =
    let s = c.args.theory.now in
    let known = c.in_ok-lefts.lefts.items in
    let firsts_are : c.in_ok-firsts.firsts.items ≡ firsts_after same_closure [] known =
    c.in_ok-firsts.ensures.firsts ∙ ap (λ (l : List KnownClosure). firsts_after same_closure [] l) c.deref.ensures.value in
    record { grouped = groups_made s c.args.lefts.now known c.in_ok-firsts.firsts.items c.requires.within c.in_ok-lefts.ensures.sets c.in_ok-lefts.ensures.known firsts_are }
