-- What is left to prove of `of_proof`: its clause `reads`.
use Rattle.derivation.specs.Derivs.{tree_of}
use Rattle.derivation.specs.Trees.{Tree}
use Rattle.desk_implication.specs.Certificates.{ChecksProof}
use Rattle.desk_inputs.specs.Readings.{Reading}
use Rattle.desk_inputs.proofs.CallLemmas.{not_opened, opened}
use Rattle.desk_cli.proofs.tasks.of_proof.Goals as goal

pub returns-in-Err : goal.returns-in-Err
returns-in-Err g c = record { reads = not_opened (λ (r : Reading) (tree : Tree). ChecksProof c.args.schema.now tree c.args.goal.now) c.in-Err.ensures.opens }

pub returns : goal.returns
returns g c = record {
  reads = opened (λ (tree : Tree). ChecksProof c.args.schema.now tree c.args.goal.now) c.check_proof.result c.in-Ok.ensures.opens
      (c.check_proof.ensures.response (tree_of c.in-Ok.read.deriv.value) c.in-Ok.ensures.concludes);
}
