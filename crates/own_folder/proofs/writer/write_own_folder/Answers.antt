-- What is left to prove of `write_own_folder`: that its ends are those of the CSV files and of the script.
use Rattle.std.proofs.Common.{rules}
use Rattle.own_folder.proofs.writer.write_own_folder.Goals as goal

pub returns-clause-written : goal.returns-clause-written
returns-clause-written g c = (c.make_and_write-csv.result.0, c.make_and_write-csv.result.1, search rules, c.make_and_write-csv.ensures.written)
