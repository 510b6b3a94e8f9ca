-- What is left to prove of `deliver_tables`: its clauses `ends` and `err`, where there are tables.
use Rattle.std.proofs.Common.{◌≡◌, ap, refl, Some}
use Rattle.std.specs.Prelude.{is_some, option_map}
use Rattle.named_tables.specs.declared.table.ChosenTables.{ChosenTables}
use Rattle.named_tables.specs.Tables.{table_values}
use Rattle.desk_responses.specs.declared.response.Response.{Response}
use Rattle.desk_responses.specs.declared.status.Status.{Status}
use Rattle.desk_responses.specs.Responses.{response_value}
use Rattle.desk_delivery.specs.Outcomes.{outcome_of_response, yes_outcome}
use Rattle.desk_delivery.proofs.WrittenLemmas.{comes_to}
use Rattle.desk_delivery.proofs.finish.deliver_tables.Goals as goal

-- only yes has tables
says_yes : (response : Response) (tables : ChosenTables) → response.tables ≡ Some tables → outcome_of_response (response_value response) ≡ yes_outcome response.text.items
says_yes response tables given =
    ap (λ (s : Status). record { status = s; text = response.text.items })
    (response.yes (ap is_some given))

pub returns-clause-ends : goal.returns-clause-ends
returns-clause-ends g c =
    comes_to _ _ (response_value c.args.response) (table_values c.in-Some.tables) c.hand_over.result (ap (option_map table_values) c.in-Some.is)
    (c.hand_over.ensures.ends (response_value c.args.response) (says_yes c.args.response c.in-Some.tables c.in-Some.is) refl)

pub returns-clause-err : goal.returns-clause-err
returns-clause-err g c = c.hand_over.ensures.err (response_value c.args.response) (ap (option_map table_values) c.in-Some.is) refl
