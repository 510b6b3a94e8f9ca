-- What is left to prove of `column_numbers`: that leaders give the groups, by `column_groups`.
use Rattle.std.proofs.Common.{◌≡◌, ℕ, List, length, ap, sym, subst, ◌∙◌}
use Rattle.dep_model.specs.Tuples.{value_at}
use Rattle.row_store.specs.Rows.{row_at}
use Rattle.row_groups.specs.Buckets.{AreLeaders}
use Rattle.row_groups.specs.Numberings.{AreNumbered}
use Rattle.row_groups.proofs.NumberingLemmas.{column_groups}
use Rattle.row_groups.proofs.interning.column_numbers.Goals as goal

pub returns-in_ok-numbers-in-None : goal.returns-in_ok-numbers-in-None
returns-in_ok-numbers-in-None c =
    let value : ℕ → List ℕ = λ i. value_at (row_at c.args.rows.now i) c.args.attribute in
    let led : AreLeaders value c.deref.result.now =
    subst (AreLeaders value) (sym c.deref.ensures.value) c.in_ok-leaders-in-None.ensures.leaders in
    let numbered = c.in_ok-numbers-in-None.ensures.values value led in
    let size : length c.deref.result.now ≡ length c.args.rows.now =
    ap length c.deref.ensures.value ∙ c.in_ok-leaders-in-None.ensures.count in
    record {
      groups = column_groups c.args.rows.now c.args.attribute numbered.0 _
          (subst (λ (n : ℕ). AreNumbered value n numbered.0 c.in_ok-numbers-in-None.numbers.items) size numbered.1);
    }
