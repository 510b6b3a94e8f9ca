-- What is answered of persons within the limit is an answer of `sample`.
use Rattle.std.proofs.Common.{◌≤◌, ℕ, Result, Ok, Err}
use Rattle.sample_rows.specs.declared.rows.TheConstants.{MOST_PERSONS}
use Rattle.desk_responses.specs.Responses.{RespondsAs}
use Rattle.desk_responses.specs.declared.response.EarlyExit.{EarlyExit}
use Rattle.desk_responses.specs.declared.response.Response.{Response}
use Rattle.desk_tables.specs.Migrations.{Samples}
use Rattle.desk_cli.specs.Performs.{SamplesFew}

pub few_sampled : (persons : ℕ) (result : Result Response EarlyExit) → persons ≤ MOST_PERSONS
    → RespondsAs (Samples persons) result → RespondsAs (SamplesFew persons) result
few_sampled persons (Ok response) few says = (few, says)
few_sampled persons (Err exit) few says = λ response is. (few, says response is)
