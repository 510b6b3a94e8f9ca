-- What is left to prove of `count_missing`: that the invariant of its loop holds at first and stays.
use Rattle.std.proofs.Common.{rules, ◌+◌, ◌-◌, ℕ, sym, ap, ◌∙◌, arith}
use Rattle.row_groups.specs.Numberings.{number_at}
use Rattle.row_measures.proofs.MissingLemmas.{total-more, total-start}
use Rattle.row_measures.proofs.by_part.count_missing.Goals as goal

pub loop-left-init : goal.loop-left-init
loop-left-init c = record {
  missing = sym (total-start (λ a. number_at c.args.wanted.now (number_at c.args.left_groups.now a) - number_at c.args.present.now a));
  fits = omega arith;
}

pub loop-left-preserved : goal.loop-left-preserved
loop-left-preserved c =
    let short : ℕ → ℕ = λ a. number_at c.args.wanted.now (number_at c.args.left_groups.now a) - number_at c.args.present.now a in
    let a : ℕ = c.loop-left.left in
    record {
      missing = ap (λ (m : ℕ). m + short a) c.loop-left.invariant.missing ∙ sym (total-more short a);
      fits = search rules;
    }
