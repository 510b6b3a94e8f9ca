-- What is left to prove of `minimal_dependencies`: its clauses `minimal` and `implied`, by `SmallLemmas` and
-- `FoundLemmas`.
use Rattle.std.proofs.Common.{◌≡◌, ℕ}
use Rattle.dep_model.specs.Deps.{dependencies_of}
use Rattle.fd_discovery.proofs.SearchLemmas.{implied_by_rows}
use Rattle.fd_search.proofs.FoundLemmas.{found_all}
use Rattle.fd_search.proofs.SmallLemmas.{all_minimal}
use Rattle.fd_search.proofs.searching.minimal_dependencies.Goals as goal

pub returns-clause-minimal : goal.returns-clause-minimal
returns-clause-minimal c =
    all_minimal c.args.width c.args.rows.now (dependencies_of c.in_ok-found.found.items) c.in_ok-found.ensures.small

pub returns-clause-implied : goal.returns-clause-implied
returns-clause-implied c =
    let ds = dependencies_of c.in_ok-found.found.items in
    implied_by_rows c.args.width c.args.rows.now ds (found_all c.args.width c.args.rows.now ds
    (all_minimal c.args.width c.args.rows.now ds c.in_ok-found.ensures.small)) c.requires.over
