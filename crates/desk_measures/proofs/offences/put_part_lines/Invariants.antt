-- What the loop of `put_part_lines` keeps: the lines of the classes so far.
use Rattle.std.proofs.Common.{◌≡◌, ◌++◌, take}
use Rattle.std.specs.List.{flat_map}
use Rattle.attr_sets.specs.Sets.{attributes}
use Rattle.csv_text.specs.Rows.{csv_row}
use Rattle.desk_measures.specs.Offences.{part_fields}
use Rattle.desk_measures.proofs.offences.put_part_lines.Given as goal

abbrev pub invariant-loop-part : goal.invariant-loop-part
invariant-loop-part l = l.text.items ≡ l.fn.text.items
    ++ flat_map (λ part. csv_row (part_fields l.schema l.rows l.k (attributes l.shown) part)) (take l.part-index l.parts)
