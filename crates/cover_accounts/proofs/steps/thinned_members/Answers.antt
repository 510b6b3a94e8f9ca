-- What is left to prove of `thinned_members`: what `part_from` requires, and its clauses.
use Rattle.std.proofs.Common.{◌≡◌, List, map, sym, ap, ◌∙◌}
use Rattle.std.proofs.lemmas.List.Elements.{All-map}
use Rattle.attr_sets.specs.Attributes.{below}
use Rattle.dep_model.specs.Theories.{width_of}
use Rattle.cover_accounts.specs.declared.thinning.PlacedDep.{PlacedDep}
use Rattle.cover_accounts.specs.Steps.{places_of, short_of, shortened_list}
use Rattle.cover_accounts.specs.Gathering.{IsPlacedWithin, short_dep}
use Rattle.cover_accounts.proofs.PlaceLemmas.{short_places}
use Rattle.cover_accounts.proofs.steps.thinned_members.Goals as goal

pub part_from-requires-clause-within : goal.part_from-requires-clause-within
part_from-requires-clause-within c =
    let n = width_of c.args.theory.now in
    rw (c.width.ensures.count, c.deref.ensures.value, c.in_ok-list.ensures.list)
    (All-map (IsPlacedWithin (below n)) short_dep c.args.members.now c.requires.within)

pub returns-clause-parted : goal.returns-clause-parted
returns-clause-parted c =
    let list : c.deref.result.now ≡ map short_dep c.args.members.now = c.deref.ensures.value ∙ c.in_ok-list.ensures.list in
    let places : places_of c.deref.result.now ≡ map short_of (shortened_list c.args.members.now) =
    ap (λ (ps : List PlacedDep). places_of ps) list ∙ short_places c.args.members.now in
    let parted = rw c.width.ensures.count at c.part_from.ensures.parted in
    rw (sym places) parted

pub returns-clause-within : goal.returns-clause-within
returns-clause-within c = rw c.width.ensures.count at c.part_from.ensures.within
