-- The laws `forms_follow`, clause by clause.
use Rattle.dep_model.proofs.FormLemmas.{fourth_bcnf, bcnf_third}
use Rattle.dep_model.proofs.AddressLemmas.{address_third, address_not_bcnf}
use Rattle.dep_model.proofs.laws_of_keys.forms_follow.Goals as goal

pub returns : goal.returns
returns c = record {
  fourth = fourth_bcnf;
  bcnf = bcnf_third;
  address_third = address_third;
  address_not_bcnf = address_not_bcnf;
}
