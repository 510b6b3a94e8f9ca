-- What is left to prove of `add_made`: its clause `too_many`.
use Rattle.tableau_chase.proofs.making.add_made.Goals as goal

pub returns-in-Mvd-clause-too_many : goal.returns-in-Mvd-clause-too_many
returns-in-Mvd-clause-too_many c e s old made = c.add_products.ensures.too_many e s old (rw c.in-Mvd.is at made)
