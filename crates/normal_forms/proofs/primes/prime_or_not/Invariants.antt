-- What the loop of `prime_or_not` keeps: `prime` and `grows`; and by what it ends.
use Rattle.attr_sets.specs.declared.set.TheConstants.{MOST_ATTRIBUTES}
use Rattle.attr_sets.specs.Attributes.{difference, IsSubset, count_below}
use Rattle.attr_sets.specs.Sets.{attributes}
use Rattle.dep_model.specs.Dependencies.{functional_part}
use Rattle.dep_model.specs.Theories.{width_of, theory_of}
use Rattle.normal_forms.specs.Primes.{ArePrime}
use Rattle.normal_forms.proofs.primes.prime_or_not.Given as goal

abbrev pub invariant-loop-attribute : goal.invariant-loop-attribute
invariant-loop-attribute l = record {
  prime : ArePrime (width_of l.theory) (functional_part (theory_of l.theory)) (attributes l.scheme) (attributes l.known);
  grows : IsSubset (attributes l.fn.primes) (attributes l.known);
}

abbrev pub decreases-loop-attribute : goal.decreases-loop-attribute
decreases-loop-attribute l = count_below (difference (attributes l.candidates) (attributes l.known)) MOST_ATTRIBUTES
