-- What is left to prove of `minimal_left_sides`: what `left_sides_of_few` requires, and its clauses where that
-- gives them.
use Rattle.std.proofs.Common.{◌≡◌, Vec, Global, subst}
use Rattle.std.specs.Prelude.{All, Option, IfSome}
use Rattle.candidate_search.specs.Sides.{HasMinimal, rights_of}
use Rattle.candidate_search.specs.declared.side.Side.{Side}
use Rattle.candidate_search.proofs.LevelLemmas.{tabled_coded}
use Rattle.candidate_search.proofs.searching.minimal_left_sides.Goals as goal

pub left_sides_of_few-requires-clause-rows : goal.left_sides_of_few-requires-clause-rows
left_sides_of_few-requires-clause-rows c =
    let (r, tabled, seen) = c.requires.rows in (r, tabled_coded c.args.width r c.args.table.now tabled)

pub returns-in-Some-clause-rights : goal.returns-in-Some-clause-rights
returns-in-Some-clause-rights c =
    subst (λ (found : Option (Vec Side Global)). IfSome found (λ sides. rights_of sides.items ≡ c.args.rights.now)) c.in-Some.is c.in_ok-sides.ensures.rights

pub returns-in-Some-clause-minimal : goal.returns-in-Some-clause-minimal
returns-in-Some-clause-minimal c = λ r tabled seen.
    subst (λ (found : Option (Vec Side Global)). IfSome found (λ sides. All (HasMinimal c.args.width c.args.most r) sides.items)) c.in-Some.is
    (c.in_ok-sides.ensures.minimal r (tabled_coded c.args.width r c.args.table.now tabled))
