-- What is left to prove of `last_higher`: what it answers, case by case.
use Rattle.std.proofs.Common.{sym, ◌∙◌}
use Rattle.std.proofs.lemmas.Bool.{true≢false}
use Rattle.which_form.proofs.verdicts.last_higher.Goals as goal

pub returns-then-is_some : goal.returns-then-is_some
returns-then-is_some c = record {
  last = λ n ds scheme are. (
    are.second.none.0 c.requires.second,
    are.third.none.0 c.requires.third,
    (λ bcnf. true≢false (sym c.if-is_some.true ∙ c.is_some.ensures ∙ are.bcnf.none.1 bcnf)),
  );
}

pub returns-then-is_some-2 : goal.returns-then-is_some-2
returns-then-is_some-2 c = record {
  last = λ n ds scheme are. (
    are.second.none.0 c.requires.second,
    are.third.none.0 c.requires.third,
    are.bcnf.none.0 (sym c.is_some.ensures ∙ c.if-is_some.false),
    (λ fourth. true≢false (sym c.if-is_some-2.true ∙ c.is_some-2.ensures ∙ are.fourth.none.1 fourth)),
  );
}

pub returns : goal.returns
returns c = record {
  last = λ n ds scheme are. (
    are.second.none.0 c.requires.second,
    are.third.none.0 c.requires.third,
    are.bcnf.none.0 (sym c.is_some.ensures ∙ c.if-is_some.false),
    are.fourth.none.0 (sym c.is_some-2.ensures ∙ c.if-is_some-2.false),
  );
}
