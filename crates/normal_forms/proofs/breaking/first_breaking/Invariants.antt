-- What the loop of `first_breaking` keeps: `IsSearched`, and that the part is known; and by what it ends.
use Rattle.attr_sets.specs.Sets.{attributes}
use Rattle.dep_model.specs.Theories.{width_of, theory_of}
use Rattle.normal_forms.specs.Beginning.{IsKnownPart}
use Rattle.normal_forms.specs.Breaking.{Breaks}
use Rattle.normal_forms.proofs.SearchLemmas.{IsSearched, subsets_left}
use Rattle.normal_forms.proofs.breaking.first_breaking.Given as goal

abbrev pub invariant-loop-next : goal.invariant-loop-next
invariant-loop-next l = record {
  part : IsKnownPart l.functional l.theory l.part;
  searched : IsSearched (Breaks (width_of l.theory) (theory_of l.theory) l.form (attributes l.scheme)) (attributes l.whole) l.next;
}

abbrev pub decreases-loop-next : goal.decreases-loop-next
decreases-loop-next l = subsets_left l.next
