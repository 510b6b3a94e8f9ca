-- What is left to prove of `pad_with_zeros`: its clause `padded`.
use Rattle.std.proofs.Common.{◌++◌, length, ap}
use Rattle.std.proofs.lemmas.List.{drop-replicate}
use Rattle.schema_model.specs.declared.held_bytes.TheConstants.{MOST_HELD_BYTES}
use Rattle.schema_model.proofs.held_bytes.pad_with_zeros.Goals as goal

pub returns : goal.returns
returns c =
    let zeros = drop-replicate (length c.args.bytes.now) MOST_HELD_BYTES 0 in
    record { padded = rw (c.copy_from_slice.ensures.after) (ap (λ xs. c.args.bytes.now ++ xs) zeros) }
