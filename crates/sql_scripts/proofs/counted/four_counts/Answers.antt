-- What is left to prove of `four_counts`: its clause `text`, by `four_printed`.
use Rattle.std.proofs.Common.{◌≡◌, ◌++◌, List, ℕ, true, subst, ap, ◌∙◌}
use Rattle.std.specs.Prelude.{IfOk, codes}
use Rattle.attr_sets.specs.Attributes.{Attributes, union}
use Rattle.attr_sets.specs.Sets.{attributes}
use Rattle.sql_syntax.specs.Printing.{in_brackets, source_text}
use Rattle.sql_check.specs.Checks.{values_query}
use Rattle.sql_scripts.proofs.MeasuringLemmas.{counted_by, first_text, second_text, third_text, fourth_text, all_four, four_printed}
use Rattle.sql_scripts.proofs.counted.four_counts.Goals as goal

pub returns : goal.returns
returns c =
    let s = c.args.schema.now in
    let t = c.args.table.now in
    let x = attributes c.args.lhs in
    let y = attributes c.args.first in
    let z = attributes c.args.second in
    let second = counted_by s x x second_text c.deref-2.result.now in
    let third = counted_by s x x third_text c.deref-3.result.now in
    let fourth = counted_by s x x fourth_text c.deref-4.result.now in
    let of_set = λ (w : Attributes). source_text (values_query s t w) in
    let all : c.deref-5.result.now ≡ all_four (counted_by s x x first_text c.deref.result.now) second third fourth =
    c.deref-5.ensures.value ∙ c.in_ok-add_counts-3.ensures.added
    ∙ ap (λ (text : List ℕ). text ++ codes " UNION ALL " ++ fourth) (c.in_ok-add_counts-2.ensures.added
    ∙ ap (λ (text : List ℕ). text ++ codes " UNION ALL " ++ third) (c.in_ok-add_counts.ensures.added
    ∙ ap (λ (text : List ℕ). text ++ codes " UNION ALL " ++ second) c.in_ok-text.ensures.text)) in
    record {
      text = subst (λ (text : List ℕ). IfOk c.in_brackets.result (λ made. made.items ≡ text))
          (ap (in_brackets true) all
          ∙ four_printed s t x y z c.deref.result.now c.deref-2.result.now c.deref-3.result.now c.deref-4.result.now
          (c.deref.ensures.value ∙ c.in_ok-lefts.ensures.text ∙ ap of_set c.union.ensures.members)
          (c.deref-2.ensures.value ∙ c.in_ok-rests.ensures.text ∙ ap of_set c.union-2.ensures.members)
          (c.deref-3.ensures.value ∙ c.in_ok-all.ensures.text ∙ ap of_set (c.union-4.ensures.members ∙ ap (union x) c.union-3.ensures.members))
          (c.deref-4.ensures.value ∙ c.in_ok-rows.ensures.text))
          c.in_brackets.ensures.text;
    }
