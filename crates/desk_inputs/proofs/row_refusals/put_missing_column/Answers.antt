-- What is left to prove of `put_missing_column`: its clause `added`, piece by piece.
use Rattle.std.proofs.Common.{◌≡◌, ◌++◌, ℕ, List, ap, subst, append_assoc, ◌∙◌}
use Rattle.std.specs.Prelude.{OnOk, codes}
use Rattle.schema_printer.specs.Spelling.{printed_names_of}
use Rattle.desk_responses.specs.Lines.{attribute_name}
use Rattle.desk_inputs.proofs.row_refusals.put_missing_column.Goals as goal

pub returns : goal.returns
returns c =
    let before = c.args.text.now.items in
    let front = codes "missing column " in
    let name = attribute_name (printed_names_of c.args.schema.now) c.args.attribute in
    let whole = ap (λ (t : List ℕ). t ++ name) c.in_ok-add.ensures.added ∙ append_assoc before front name in
    record {
      added = subst (λ (t : List ℕ). OnOk c.put_name.result (c.put_name.new.text.items ≡ t)) whole c.put_name.ensures.added;
    }
