-- What is left to prove of `columns`: that the invariant of its loop stays, by `range_more`.
use Rattle.std.proofs.Common.{◌++◌, ◌∷◌, [], ℕ, List, sym, ap, ◌∙◌}
use Rattle.dep_model.proofs.ListLemmas.{range_more}
use Rattle.fd_search.proofs.searching.columns.Goals as goal

pub loop-column-preserved : goal.loop-column-preserved
loop-column-preserved c =
    let column : ℕ = c.loop-column.column in
    record {
      columns = c.in_ok-push.ensures.items
          ∙ ap (λ (columns : List ℕ). columns ++ column ∷ []) c.loop-column.invariant.columns ∙ sym (range_more column);
    }
