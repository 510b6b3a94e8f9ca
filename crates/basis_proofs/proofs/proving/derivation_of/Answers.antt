-- What is left to prove of `derivation_of`: what `derivation_of_fd` and `derivation_of_mvd`
-- require.
use Rattle.basis_proofs.proofs.proving.derivation_of.Goals as goal

pub derivation_of_fd-requires-clause-implied : goal.derivation_of_fd-requires-clause-implied
derivation_of_fd-requires-clause-implied c = rw c.in-Fd.is at c.requires.implied

pub derivation_of_mvd-requires-clause-implied : goal.derivation_of_mvd-requires-clause-implied
derivation_of_mvd-requires-clause-implied c = rw c.in-Mvd.is at c.requires.implied
