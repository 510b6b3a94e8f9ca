-- What is left to prove of `put_reason`: what it answers in the cases `Unsound` and `EmptyProof`.
use Rattle.desk_refusals.proofs.proof_refusals.put_reason.Goals as goal

pub returns-in-Unsound : goal.returns-in-Unsound
returns-in-Unsound c = record { added = rw c.in-Unsound.is c.put_fault.ensures.added }

pub returns-in-EmptyProof : goal.returns-in-EmptyProof
returns-in-EmptyProof c = record { added = rw c.in-EmptyProof.is c.add-in-EmptyProof.ensures.added }
