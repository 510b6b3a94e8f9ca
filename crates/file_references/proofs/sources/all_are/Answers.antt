-- What is left to prove of `all_are`: what it answers, by `SourceLemmas`.
use Rattle.std.proofs.Common.{true≢false, ◌≡◌, inl, inr, List, ℕ, Bor, length, ap, sym, subst, ◌∙◌, arith}
use Rattle.std.specs.List.{list_all}
use Rattle.std.specs.Prelude.{Contains}
use Rattle.std.proofs.lemmas.Bool.{cases_Bool}
use Rattle.row_store.specs.Rows.{row_at}
use Rattle.table_join.specs.Lent.{lent_values, tuples_of}
use Rattle.file_references.specs.Columns.{is_there}
use Rattle.file_references.proofs.SourceLemmas.{all_are, none_is_whole, one_is_not}
use Rattle.file_references.proofs.ValueLemmas.{whole_as_read}
use Rattle.file_references.proofs.sources.all_are.Goals as goal

pub returns-then-not-has_values : goal.returns-then-not-has_values
returns-then-not-has_values c =
    let rows = c.args.rows.now in
    let columns = c.args.columns.now in
    let keys = tuples_of c.args.values.now.keys in
    let row = c.loop-row.row in
    let read = lent_values c.take_on.new.values.items in
    let whole = whole_as_read columns (row_at rows row) read _ c.in_ok-take_on.ensures.values
    (sym c.if-are_there.true ∙ c.are_there.ensures.there ∙ ap (λ (l : List (Bor (List ℕ))). list_all is_there (lent_values l)) c.deref.ensures.value) in
    record {
      all = (
        λ never. absurd (true≢false (sym never)),
        λ all. absurd (one_is_not rows columns keys row (omega (arith, c.loop-row-test.true, c.len-row-end.ensures.count)) whole
            (λ has. true≢false (sym (c.has_values.ensures.has.1 (subst (Contains keys) (sym c.in_ok-take_on.ensures.values) has)) ∙ c.if-not-has_values.true)) all),
      );
    }

pub returns : goal.returns
returns c =
    let rows = c.args.rows.now in
    let columns = c.args.columns.now in
    let keys = tuples_of c.args.values.now.keys in
    let row = c.loop-row.row in
    let size : length rows ≡ row = omega (arith, c.loop-row-test.false, c.loop-row.auto.row-end, c.len-row-end.ensures.count) in
    record {
      all = (
        λ any. all_are rows columns keys row size c.loop-row.invariant.within (c.loop-row.invariant.some any),
        λ are. elim (cases_Bool c.loop-row.any_whole) [
          | inl any ↦ any
          | inr none ↦ absurd (none_is_whole rows columns keys row size (c.loop-row.invariant.none none) are)
        ],
      );
    }
