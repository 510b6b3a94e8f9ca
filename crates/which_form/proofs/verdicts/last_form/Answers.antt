-- What is left to prove of `last_form`: what it answers, case by case.
use Rattle.std.proofs.Common.{sym, ◌∙◌}
use Rattle.std.proofs.lemmas.Bool.{true≢false}
use Rattle.which_form.proofs.verdicts.last_form.Goals as goal

pub returns-then-is_some : goal.returns-then-is_some
returns-then-is_some c = record {
  last = λ n ds scheme are second. true≢false (sym c.if-is_some.true ∙ c.is_some.ensures ∙ are.second.none.1 second);
}

pub returns-then-is_some-2 : goal.returns-then-is_some-2
returns-then-is_some-2 c = record {
  last = λ n ds scheme are. (
    are.second.none.0 (sym c.is_some.ensures ∙ c.if-is_some.false),
    (λ third. true≢false (sym c.if-is_some-2.true ∙ c.is_some-2.ensures ∙ are.third.none.1 third)),
  );
}

pub last_higher-form-requires : goal.last_higher-form-requires
last_higher-form-requires c = record {
  second = sym c.is_some.ensures ∙ c.if-is_some.false;
  third = sym c.is_some-2.ensures ∙ c.if-is_some-2.false;
}

pub returns : goal.returns
returns c = record { last = c.last_higher-form.ensures.last }
