-- What is left to prove of `migrate_rows_into`: what was answered of the rows is answered with the folder.
use Rattle.plans.specs.Plans.{scheme_sets}
use Rattle.desk_responses.specs.Responses.{own_folder_value, response_value}
use Rattle.desk_tables.proofs.own_folders.migrate_rows_into.Goals as goal

pub returns-in-Ok : goal.returns-in-Ok
returns-in-Ok c = record {
  response = (
    own_folder_value c.in_ok-own.own,
    c.in_ok-own.ensures.folder c.args.names.now (scheme_sets c.args.plan.now) c.requires.sound,
    (response_value c.in-Ok.response, c.in-Ok.ensures.response, c.in_own_folder.ensures.gives),
  );
}

pub returns-in-Err-Answered : goal.returns-in-Err-Answered
returns-in-Err-Answered c = record {
  response = (
    own_folder_value c.in_ok-own.own,
    c.in_ok-own.ensures.folder c.args.names.now (scheme_sets c.args.plan.now) c.requires.sound,
    (
      response_value c.in-Err-Answered.response,
      c.in-Err-Answered.ensures.response c.in-Err-Answered.response c.in-Err-Answered.field-0-is,
      c.in_own_folder-in-Err-Answered.ensures.gives,
    ),
  );
}
