-- `add_in_digits` ends: the count of digits falls.
use Rattle.column_values.proofs.digits.+add_in_digits.Given as goal

abbrev pub decreases-add_in_digits : goal.decreases-add_in_digits
decreases-add_in_digits l = l.count
