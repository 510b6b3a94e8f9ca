-- The law `report_is_answered`, by the lemmas of `PageLaws`.
use Rattle.desk_laws.proofs.PageLaws.{plan_page_answered, schema_page_answered}
use Rattle.desk_laws.proofs.complete_pages.report_is_answered.Goals as goal

pub returns : goal.returns
returns c = record { schema = schema_page_answered; plan = plan_page_answered }
