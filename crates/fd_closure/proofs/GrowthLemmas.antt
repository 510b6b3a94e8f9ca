-- The sets that grow by the dependencies of a list.
use Rattle.std.specs.Prelude.{List, Contains}
use Rattle.std.proofs.lemmas.List.Elements.{All-contains}
use Rattle.attr_sets.specs.Attributes.{Attributes, IsSubset}
use Rattle.dep_model.specs.declared.dep.Dep.{Dep}
use Rattle.dep_model.specs.Tuples.{Relation}
use Rattle.dep_model.specs.Dependencies.{ObeysFd}
use Rattle.dep_model.specs.Deps.{IfFd, IsDepWithin}
use Rattle.dep_model.proofs.DepLemmas.{functional_legal-to}
use Rattle.dep_model.proofs.RuleLemmas.{transitivity_obeyed}
use Rattle.fd_closure.specs.Growth.{Grows}

pub grows-further : (ds : List Dep) (c d e : Attributes) → Grows ds c d → Grows ds d e → Grows ds c e
grows-further ds c d e first second = record {
  holds = λ k m. second.holds k (first.holds k m);
  within = λ universe within c_in. second.within universe within (first.within universe within c_in);
  implied = λ n r legal. transitivity_obeyed c d e r (first.implied n r legal) (second.implied n r legal);
}

-- by one member of the list
pub grows-by_one : (ds : List Dep) (d : Dep) (c e : Attributes) → Contains ds d → IsSubset c e
    → ((universe : Attributes) → IsDepWithin universe d → IsSubset c universe → IsSubset e universe)
    → ((r : Relation) → IfFd (λ x y. ObeysFd x y r) d → ObeysFd c e r) → Grows ds c e
grows-by_one ds d c e member holds within implied = record {
  holds = holds;
  within = λ universe all c_in. within universe (All-contains (IsDepWithin universe) ds d all member) c_in;
  implied = λ n r legal. implied r (All-contains (IfFd (λ x y. ObeysFd x y r)) ds d (functional_legal-to n ds r legal) member);
}
