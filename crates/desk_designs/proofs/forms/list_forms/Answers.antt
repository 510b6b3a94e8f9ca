-- What is left to prove of `list_forms`: its clause, of the schemes.
use Rattle.std.proofs.Common.{List, inr, subst}
use Rattle.attr_sets.specs.Attributes.{Attributes}
use Rattle.desk_designs.specs.FormsOfSchemes.{ListsFormsOfPlan}
use Rattle.desk_responses.specs.Responses.{response_value}
use Rattle.desk_designs.proofs.forms.list_forms.Goals as goal

pub returns-in-Err : goal.returns-in-Err
returns-in-Err c = record { response = λ response is. inr (c.in-Err.ensures.ends response is) }
