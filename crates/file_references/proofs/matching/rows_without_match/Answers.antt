-- What is left to prove of `rows_without_match`: that the invariant of its loop holds at first and stays, and its
-- clauses `none` and `some`, by `UnmatchedLemmas`.
use Rattle.std.proofs.Common.{◌≡◌, List, ℕ, Bor, true, false, length, ap, sym, subst, refl, ◌∙◌, arith}
use Rattle.std.specs.List.{list_all}
use Rattle.std.specs.Prelude.{Contains}
use Rattle.row_store.specs.Rows.{row_at}
use Rattle.table_join.specs.Lent.{lent_values, tuples_of}
use Rattle.file_references.specs.Columns.{is_there, values_on}
use Rattle.file_references.specs.Matches.{has_match, unmatched_below}
use Rattle.file_references.proofs.UnmatchedLemmas.{all_included, includes_all, match_is, matched_more, none_unmatched, unmatched_is, unmatched_more}
use Rattle.file_references.proofs.ValueLemmas.{whole_as_read}
use Rattle.file_references.proofs.matching.rows_without_match.Goals as goal
use Rattle.file_references.proofs.matching.rows_without_match.Goals.{then-are_there+then-not-has_values+in_ok-push, else-are_there, else-are_there-via-then-are_there+else-not-has_values, else-are_there-via-else-are_there}

pub loop-row-init : goal.loop-row-init
loop-row-init c = record {
  found = none_unmatched c.args.rows.now c.args.columns.now c.args.others.now c.args.key.now c.new-found.result.items c.new-found.ensures.items;
}

pub loop-row-preserved : goal.loop-row-preserved
loop-row-preserved c =
    let rows = c.args.rows.now in
    let x = c.args.columns.now in
    let others = c.args.others.now in
    let k = c.args.key.now in
    let i = c.loop-row.row in
    let t = row_at rows i in
    let read = lent_values c.take_on.new.values.items in
    let keys = tuples_of c.in_ok-values.values.keys in
    let there = c.are_there.ensures.there ∙ ap (λ (l : List (Bor (List ℕ))). list_all is_there (lent_values l)) c.deref.ensures.value in
    let before = c.loop-row.invariant.found in
    record {
      found = elim c.if-are_there.branch [
        | then-are_there+then-not-has_values+in_ok-push w ↦
            let whole = whole_as_read x t read _ c.in_ok-take_on.ensures.values (sym w.if-are_there.true ∙ there) in
            let matched = match_is others k (values_on x t) keys w.has_values.result c.in_ok-values.ensures.values (
              λ h. subst (Contains keys) c.in_ok-take_on.ensures.values (w.has_values.ensures.has.0 h),
              λ h. w.has_values.ensures.has.1 (subst (Contains keys) (sym c.in_ok-take_on.ensures.values) h),
            ) ∙ w.if-not-has_values.true in
            ap (λ v. v.items) w.found-is ∙ w.in_ok-push.ensures.items
            ∙ unmatched_more rows x others k i c.loop-row.found.items before (unmatched_is x others k t true false whole matched)
        | else-are_there w ↦
            ap (λ v. v.items) w.found-is ∙ matched_more rows x others k i c.loop-row.found.items before (elim w.else-are_there.branch [
              | else-are_there-via-then-are_there+else-not-has_values v ↦
                  let whole = whole_as_read x t read _ c.in_ok-take_on.ensures.values (sym v.if-are_there.true ∙ there) in
                  let matched = match_is others k (values_on x t) keys v.has_values.result c.in_ok-values.ensures.values (
                    λ h. subst (Contains keys) c.in_ok-take_on.ensures.values (v.has_values.ensures.has.0 h),
                    λ h. v.has_values.ensures.has.1 (subst (Contains keys) (sym c.in_ok-take_on.ensures.values) h),
                  ) ∙ v.if-not-has_values.false in
                  unmatched_is x others k t true true whole matched
              | else-are_there-via-else-are_there v ↦
                  let whole = whole_as_read x t read _ c.in_ok-take_on.ensures.values (sym v.if-are_there.false ∙ there) in
                  unmatched_is x others k t false (has_match others k (values_on x t)) whole refl
            ])
      ];
    }

pub returns-clause-none : goal.returns-clause-none
returns-clause-none c = λ none.
    let size : length c.args.rows.now ≡ c.loop-row.row = omega (arith, c.loop-row-test.false, c.loop-row.auto.row-end, c.len-row-end.ensures.count) in
    includes_all c.args.rows.now c.args.columns.now c.args.others.now c.args.key.now
    (ap (unmatched_below c.args.rows.now c.args.columns.now c.args.others.now c.args.key.now) size ∙ sym c.loop-row.invariant.found ∙ none)

pub returns-clause-some : goal.returns-clause-some
returns-clause-some c = λ includes.
    let size : c.loop-row.row ≡ length c.args.rows.now = omega (arith, c.loop-row-test.false, c.loop-row.auto.row-end, c.len-row-end.ensures.count) in
    c.loop-row.invariant.found ∙ ap (unmatched_below c.args.rows.now c.args.columns.now c.args.others.now c.args.key.now) size
    ∙ all_included c.args.rows.now c.args.columns.now c.args.others.now c.args.key.now includes
