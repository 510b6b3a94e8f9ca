-- What is left to prove of `next_token`: its clauses `exact` and `advances`, that a round of its
-- loop keeps the invariant, and that its sums fit, by `Steps`.
use Rattle.std.proofs.Common.{arith, sym, ◌∙◌, ap, ◌+◌}
use Rattle.lexer.specs.Tokens.{tokens_after}
use Rattle.lexer.proofs.Steps.{is_some, is_none, after_gap, at_comment, at_end, at_flaw, lies_in, flaw_lies_in, FitsQuoted-from, token_leads, token_after}
use Rattle.lexer.proofs.token.next_token.Goals as goal

pub pieces-preserved : goal.pieces-preserved
pieces-preserved c =
    let not_empty = is_some _ c.pieces-test.ensures in
    let step = after_gap _ c.pieces.column c.pieces.rest.now not_empty c.in-Gap.ensures.exact in
    record {
      same = c.pieces.invariant.same ∙ step ∙ ap (λ t. tokens_after c.args.mode 0 (c.pieces.column + 1) t) (sym c.split_at.ensures.back);
      from_on = omega (arith, c.pieces.invariant.from_on);
      fits = omega (arith, c.pieces.invariant.fits, c.split_at.ensures.back_len);
    }

pub returns-in-Comment-clause-exact : goal.returns-in-Comment-clause-exact
returns-in-Comment-clause-exact c =
    c.pieces.invariant.same ∙ at_comment _ _ _ (is_some _ c.pieces-test.ensures) c.in-Comment.ensures.exact

pub returns-in-Flaw-clause-exact : goal.returns-in-Flaw-clause-exact
returns-in-Flaw-clause-exact c =
    c.pieces.invariant.same ∙ at_flaw _ _ _ _ _ (is_some _ c.pieces-test.ensures) c.in-Flaw.ensures.exact

pub overflow_cast-result : goal.overflow_cast-result
overflow_cast-result c =
    let lies = flaw_lies_in _ _ _ _ (is_some _ c.pieces-test.ensures) c.in-Flaw.ensures.exact in
    omega (arith, lies.within, c.pieces.invariant.fits)

pub returns-clause-exact : goal.returns-clause-exact
returns-clause-exact c = c.pieces.invariant.same ∙ at_end _ _ _ (is_none _ c.pieces-test.ensures)

pub split_at-requires-in-Token : goal.split_at-requires-in-Token
split_at-requires-in-Token c = (lies_in _ _ _ _ (is_some _ c.pieces-test.ensures) c.in-Token.ensures.exact).within

pub returns-in-Token-clause-exact : goal.returns-in-Token-clause-exact
returns-in-Token-clause-exact c =
    token_leads _ _ _ _ _ _ _ _ _ _ c.pieces.invariant (is_some _ c.pieces-test.ensures) c.in-Token.ensures.exact
    c.split_at-in-Token.ensures.front c.of.ensures.bytes c.split_at-in-Token.ensures.back

pub returns-in-Token-clause-advances : goal.returns-in-Token-clause-advances
returns-in-Token-clause-advances c =
    let lies = lies_in _ _ _ _ (is_some _ c.pieces-test.ensures) c.in-Token.ensures.exact in
    token_after _ _ _ _ _ _ _ _ c.pieces.invariant lies c.split_at-in-Token.ensures.back_len

pub of-requires : goal.of-requires
of-requires c = record {
  quoted = λ quoted. rw c.split_at-in-Token.ensures.front
      (FitsQuoted-from _ _ _ _ (is_some _ c.pieces-test.ensures) c.in-Token.ensures.exact quoted).quoted;
}
