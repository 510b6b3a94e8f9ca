-- What is left to prove of `untidy_line`: its clause `text`, by `line_of_parts`.
use Rattle.std.specs.Prelude.{codes}
use Rattle.std.specs.Fmt.{decimal}
use Rattle.schema_printer.specs.Spelling.{printed_names_of}
use Rattle.desk_responses.specs.Lines.{attribute_name}
use Rattle.desk_tables.proofs.TidyLemmas.{line_of_parts}
use Rattle.desk_tables.proofs.tidiness.untidy_line.Goals as goal

pub returns : goal.returns
returns c =
    let names = printed_names_of c.args.schema.now in
    record {
      text =
          line_of_parts (codes "row ") (decimal c.args.found.row) (codes ": ") (attribute_name names c.args.found.missing)
          (codes " is missing and ") (attribute_name names c.args.found.present) (codes " is not")
          c.new-text.ensures.items c.in_ok-add.ensures.added c.in_ok-add_number.ensures.added c.in_ok-add-2.ensures.added
          c.in_ok-put_name.ensures.added c.in_ok-add-3.ensures.added c.in_ok-put_name-2.ensures.added c.in_ok-add-4.ensures.added;
    }
