-- What is left to prove of `follow`: its clause `err`, what it answers in the case `End`, and that
-- a round of its loop keeps the invariant, by `FollowLemmas`.
use Rattle.std.proofs.Common.{◌∙◌, refl}
use Rattle.schema_grammar.proofs.RefusalLemmas.{ok_whole, err_whole}
use Rattle.dep_model.specs.Deps.{dependency_of}
use Rattle.schema_reader.proofs.FollowLemmas.{follow_ended, follow_stopped, follow_refused, follow_more}
use Rattle.schema_reader.proofs.goal.follow.Goals as goal

pub returns-in-End : goal.returns-in-End
returns-in-End c =
    let here = c.tokens.invariant ∙ follow_ended _ _ _ _ c.in-End.ensures.exact in
    record {
      ok = ok_whole dependency_of _ _ _ here c.end_line.ensures.ok;
      err = err_whole _ _ _ here c.end_line.ensures.err;
    }

pub returns-in-Refusal-clause-err : goal.returns-in-Refusal-clause-err
returns-in-Refusal-clause-err c = c.tokens.invariant ∙ follow_stopped _ _ _ _ _ c.in-Refusal.ensures.exact

pub returns-in-Err-clause-err : goal.returns-in-Err-clause-err
returns-in-Err-clause-err c =
    c.tokens.invariant ∙ follow_refused _ _ _ _ _ _ _ c.in-Token.ensures.exact.led c.in-Err.ensures.err
    ∙ rw c.refusal_of.ensures.refusal refl

pub tokens-preserved : goal.tokens-preserved
tokens-preserved c =
    c.tokens.invariant ∙ follow_more _ _ _ _ _ _ _ c.in-Token.ensures.exact.led c.in-Ok.ensures.ok
