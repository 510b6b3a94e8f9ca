-- What is left to prove of `first_unused`: its clause `first`, by `first_len`.
use Rattle.std.specs.Prelude.{option_map}
use Rattle.std.proofs.lemmas.List.{length-map}
use Rattle.proof_text.specs.Views.{opened_of}
use Rattle.proof_text.proofs.BookLemmas.{first_len}
use Rattle.proof_text.proofs.checker_state.first_unused.Goals as goal

pub returns : goal.returns
returns c = record {
  first = rw (first_len c.args.unused.now, length-map c.args.unused.now (option_map opened_of))
      c.first_open.ensures.first;
}
