-- What the loop of `third_violation` keeps: `part`, `prime` and `searched`; and by what it ends.
use Rattle.std.specs.Prelude.{true}
use Rattle.attr_sets.specs.Sets.{attributes}
use Rattle.dep_model.specs.Dependencies.{functional_part}
use Rattle.dep_model.specs.Theories.{width_of, theory_of}
use Rattle.normal_forms.specs.Beginning.{IsKnownPart}
use Rattle.normal_forms.specs.Primes.{ArePrime}
use Rattle.normal_forms.proofs.SearchLemmas.{IsSearched, subsets_left}
use Rattle.normal_forms.proofs.FormLemmas.{MayViolateThird}
use Rattle.normal_forms.proofs.third.third_violation.Given as goal

abbrev pub invariant-loop-next : goal.invariant-loop-next
invariant-loop-next l = record {
  part : IsKnownPart true l.theory l.part;
  prime : ArePrime (width_of l.theory) (functional_part (theory_of l.theory)) (attributes l.scheme) (attributes l.primes);
  searched : IsSearched (MayViolateThird (width_of l.theory) (functional_part (theory_of l.theory)) (attributes l.scheme) (attributes l.primes)) (attributes l.whole) l.next;
}

abbrev pub decreases-loop-next : goal.decreases-loop-next
decreases-loop-next l = subsets_left l.next
