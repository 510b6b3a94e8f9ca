-- What is left to prove of `add_columns`: that a round of its loop keeps the invariant, by `words_more`.
use Rattle.std.proofs.Common.{◌≡◌, ℕ, List, [], get_or, sym, ap, ◌∙◌}
use Rattle.dep_model.proofs.ListLemmas.{same_default}
use Rattle.desk_discovery.specs.Discoveries.{column_text}
use Rattle.headed_rows.specs.Headers.{naming_under}
use Rattle.schema_model.specs.declared.naming.Naming.{Naming}
use Rattle.schema_printer.specs.Spelling.{spelling}
use Rattle.desk_references.proofs.TextLemmas.{words_more}
use Rattle.desk_references.proofs.finding.add_columns.Goals as goal

pub loop-column-preserved : goal.loop-column-preserved
unfolding column_text
loop-column-preserved c =
    let names = c.args.names.now in
    let columns = c.args.columns.now in
    let i = c.loop-column.column-index in
    let name = c.index-names-column.result in
    let same : spelling c.naming_under.result name ≡ spelling (naming_under names) (get_or names (get_or columns i 0) []) =
    ap (λ (naming : Naming). spelling naming name) c.naming_under.ensures.naming
    ∙ ap (λ (bytes : List ℕ). spelling (naming_under names) bytes)
    (c.index-names-column.is ∙ same_default names (get_or columns i 0) name [] (c.requires.columns i 0 c.loop-column-test.true)) in
    record {
      added = words_more (column_text names) columns i 0 c.args.text.now.items c.loop-column.text.items c.add.new.text.items c.add_name.new.text.items
          (spelling c.naming_under.result name) c.loop-column-test.true c.loop-column.invariant.added c.in_ok-add.ensures.added
          c.in_ok-add_name.ensures.added same;
    }
