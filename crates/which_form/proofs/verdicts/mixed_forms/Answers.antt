-- What is left to prove of `mixed_forms`: its clause `forms`, and what its calls require.
use Rattle.which_form.proofs.verdicts.mixed_forms.Goals as goal

pub bcnf_below-requires : goal.bcnf_below-requires
bcnf_below-requires c = record {
  scheme = c.requires.scheme;
  fourth = record { none = c.in_ok-fourth.ensures.none; named = c.in_ok-fourth.ensures.chosen };
}

pub second_below-second-requires : goal.second_below-second-requires
second_below-second-requires c = record {
  scheme = c.requires.scheme;
  third = record { none = c.in_ok-third.ensures.none; named = c.in_ok-third.ensures.chosen };
}

pub returns-clause-forms : goal.returns-clause-forms
returns-clause-forms c = record {
  second = c.second_below-second.ensures.verdict;
  third = record { none = c.in_ok-third.ensures.none; named = c.in_ok-third.ensures.chosen };
  bcnf = c.in_ok-bcnf.ensures.verdict;
  fourth = record { none = c.in_ok-fourth.ensures.none; named = c.in_ok-fourth.ensures.chosen };
}
