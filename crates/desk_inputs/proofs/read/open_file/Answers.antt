-- What is left to prove of `open_file`: its clause `loads`, field by field.
use Rattle.std.proofs.Common.{rules}
use Rattle.desk_inputs.proofs.read.open_file.Goals as goal

pub returns-in-Ok-clause-loads : goal.returns-in-Ok-clause-loads
returns-in-Ok-clause-loads g c = record {
  reads = record { files = search rules; later = search rules; begins = search rules; ends = search rules };
  begins = search rules;
  ok = search rules;
}

pub returns-in-Err-CannotRead-clause-loads : goal.returns-in-Err-CannotRead-clause-loads
returns-in-Err-CannotRead-clause-loads g c = record {
  reads = record { files = search rules; later = search rules; begins = search rules; ends = search rules };
  begins = search rules;
  ok = search rules;
}

pub returns-in-Err-TooLong-clause-loads : goal.returns-in-Err-TooLong-clause-loads
returns-in-Err-TooLong-clause-loads g c = record {
  reads = record { files = search rules; later = search rules; begins = search rules; ends = search rules };
  begins = search rules;
  ok = search rules;
}

pub returns-in-Err-OutOfMemory-clause-loads : goal.returns-in-Err-OutOfMemory-clause-loads
returns-in-Err-OutOfMemory-clause-loads g c = record {
  reads = record { files = search rules; later = search rules; begins = search rules; ends = search rules };
  begins = search rules;
  ok = search rules;
}
