-- What is left to prove of `take_record`: its clause `record`.
use Rattle.csv_rows.proofs.RecordLemmas.{TakesRecord-from}
use Rattle.csv_rows.proofs.records.take_record.Goals as goal

pub returns-clause-record : goal.returns-clause-record
returns-clause-record c =
    let e = c.read_byte_record.ensures in
    TakesRecord-from c.read_byte_record.result c.args.reader.now _ _ e.reads e.ready e.flexible
