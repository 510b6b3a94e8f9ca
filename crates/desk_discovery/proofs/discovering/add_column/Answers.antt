-- What is left to prove of `add_column`: its clause `added`.
use Rattle.std.proofs.Common.{◌≡◌, ◌++◌, ℕ, List, [], get_or, ap, subst, ◌∙◌}
use Rattle.std.proofs.lemmas.List.{get_or_default}
use Rattle.std.specs.Prelude.{OnOk}
use Rattle.schema_model.specs.declared.naming.Naming.{Naming}
use Rattle.headed_rows.specs.Headers.{naming_under}
use Rattle.schema_printer.specs.Spelling.{spelling}
use Rattle.desk_discovery.specs.Discoveries.{column_text}
use Rattle.desk_discovery.proofs.discovering.add_column.Goals as goal

pub returns : goal.returns
unfolding column_text
returns c =
    let names = c.args.names.now in
    let a = c.args.column in
    let name = c.index-names-column.result in
    let same : spelling c.naming_under.result name ≡ spelling (naming_under names) (get_or names a []) =
    ap (λ (naming : Naming). spelling naming name) c.naming_under.ensures.naming
    ∙ ap (λ (bytes : List ℕ). spelling (naming_under names) bytes)
    (c.index-names-column.is ∙ get_or_default names a name [] c.requires.column) in
    record {
      added = subst (λ (t : List ℕ). OnOk c.add_name.result (c.add_name.new.text.items ≡ c.args.text.now.items ++ t)) same
          c.add_name.ensures.added;
    }
