-- What the loop of `key_with` keeps: `IsSearched`, and that the part is known; and by what it ends.
use Rattle.std.specs.Prelude.{true}
use Rattle.attr_sets.specs.Attributes.{union}
use Rattle.attr_sets.specs.Sets.{attributes}
use Rattle.dep_model.specs.Dependencies.{functional_part}
use Rattle.dep_model.specs.Theories.{width_of, theory_of}
use Rattle.normal_forms.specs.Beginning.{IsKnownPart}
use Rattle.normal_forms.specs.Primes.{BecomesSuperkeyBy}
use Rattle.normal_forms.proofs.SearchLemmas.{IsSearched, subsets_left}
use Rattle.normal_forms.proofs.primes.key_with.Given as goal

abbrev pub invariant-loop-next : goal.invariant-loop-next
invariant-loop-next l = record {
  part : IsKnownPart true l.theory l.part;
  searched : IsSearched (λ y. BecomesSuperkeyBy (width_of l.theory) (functional_part (theory_of l.theory)) (attributes l.scheme) (union y (attributes l.rest)) l.attribute) (attributes l.others) l.next;
}

abbrev pub decreases-loop-next : goal.decreases-loop-next
decreases-loop-next l = subsets_left l.next
