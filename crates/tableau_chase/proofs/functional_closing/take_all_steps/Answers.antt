-- What is left to prove of `take_all_steps`: what `follow_steps` requires, and its clauses where there were
-- steps, by `EquatingLemmas`.
use Rattle.std.proofs.Common.{Bool, subst}
use Rattle.std.proofs.lemmas.Bool.{true≢false}
use Rattle.dep_model.specs.Deps.{dependencies_of}
use Rattle.tableau_chase.specs.Equating.{Changes}
use Rattle.tableau_chase.proofs.EquatingLemmas.{changes_followed, changes_kept}
use Rattle.tableau_chase.proofs.functional_closing.take_all_steps.Goals as goal

pub follow_steps-requires-clause-over : goal.follow_steps-requires-clause-over
follow_steps-requires-clause-over c = c.in_ok-changed.ensures.keeps.over c.args.width c.requires.over

pub returns-then-not-changed-clause-obeyed : goal.returns-then-not-changed-clause-obeyed
returns-then-not-changed-clause-obeyed c = λ _. c.in_ok-changed.ensures.obeyed c.if-not-changed.true

pub returns : goal.returns
returns c =
    let ds = dependencies_of c.args.deps.now in
    let t = c.args.rows.now in
    let m = c.take_steps.new.rows in
    let s = c.follow_steps.new.rows in
    let follows = c.in_ok-follow_steps.ensures.follows in
    record {
      changes = changes_followed ds t m s (subst (λ (b : Bool). Changes ds b t m) c.if-not-changed.false c.in_ok-changed.ensures.changes) follows;
      keeps = changes_kept ds t m s c.in_ok-changed.ensures.keeps follows;
      obeyed = λ same. absurd (true≢false same);
    }
