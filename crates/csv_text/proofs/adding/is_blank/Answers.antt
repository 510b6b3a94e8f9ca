-- A row of one field shows no byte where the field is empty, and another where it has no field.
use Rattle.std.proofs.Common.{[], ℕ, sym, ap, arith, ◌∙◌}
use Rattle.std.specs.Prelude.{◌==◌}
use Rattle.csv_text.proofs.RowLemmas.{blank_one, blank_else}
use Rattle.csv_text.proofs.adding.is_blank.Goals as goal

pub returns-then-len-eq1 : goal.returns-then-len-eq1
returns-then-len-eq1 c = record {
  blank = c.is_empty.ensures
      ∙ sym (blank_one c.args.row.now c.value.result.now [] (omega (arith, c.len.ensures.count, c.if-len-eq1.true)) c.value.ensures.value);
}

pub returns : goal.returns
returns c = record {
  blank = ap (λ (n : ℕ). n == 0) c.len-2.ensures.count
      ∙ sym (blank_else c.args.row.now (λ one. omega (arith, c.len.ensures.count, c.if-len-eq1.false, one)));
}
