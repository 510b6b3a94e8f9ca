-- What is left to prove of `functional_forms`: its clause `forms`, and what its calls require.
use Rattle.which_form.proofs.verdicts.functional_forms.Goals as goal

pub fourth_beside-fourth-requires : goal.fourth_beside-fourth-requires
fourth_beside-fourth-requires c = record {
  scheme = c.requires.scheme;
  functional = c.requires.functional;
  bcnf = record { none = c.in_ok-bcnf.ensures.none; named = c.in_ok-bcnf.ensures.chosen };
}

pub third_below-requires : goal.third_below-requires
third_below-requires c = record {
  scheme = c.requires.scheme;
  functional = c.requires.functional;
  bcnf = record { none = c.in_ok-bcnf.ensures.none; named = c.in_ok-bcnf.ensures.chosen };
}

pub returns-clause-forms : goal.returns-clause-forms
returns-clause-forms c = record {
  second = c.second_below-second.ensures.verdict;
  third = c.in_ok-third.ensures.verdict;
  bcnf = record { none = c.in_ok-bcnf.ensures.none; named = c.in_ok-bcnf.ensures.chosen };
  fourth = c.fourth_beside-fourth.ensures.verdict;
}
