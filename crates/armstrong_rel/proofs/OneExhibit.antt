-- The irreducible closed sets have one list in their order, so there is one exhibit.
use Rattle.std.proofs.Common.{◌≡◌, ℕ, List, sym, subst, ap, ◌∙◌}
use Rattle.std.specs.Prelude.{Contains}
use Rattle.std.proofs.lemmas.List.Elements.{All-contains}
use Rattle.attr_sets.specs.Attributes.{Attributes, IsBefore}
use Rattle.attr_sets.proofs.OrderLemmas.{IsBefore-irrefl, IsBefore-trans}
use Rattle.dep_model.specs.Dependencies.{Dependency}
use Rattle.dep_model.specs.Tuples.{Relation}
use Rattle.dep_model.proofs.OrderedLists.{HoldsAll, one_ordered_list}
use Rattle.armstrong_rel.specs.ClosedSets.{IsIrreducible, AreIrreducible}
use Rattle.armstrong_rel.specs.Exhibits.{tuples_for, IsExhibit}

-- ---- the irreducible closed sets
listed_in : (n : ℕ) (ds : List Dependency) (xs ys : List Attributes) → AreIrreducible n ds xs → AreIrreducible n ds ys
    → HoldsAll xs ys
listed_in n ds xs ys one other c has =
    let found = other.all c (All-contains (IsIrreducible n ds) xs c one.each has) in
    subst (λ (z : Attributes). Contains ys z) found.4 (found.0, found.2, found.3)

pub exhibit_same : (n : ℕ) (ds : List Dependency) (r s : Relation) → IsExhibit n ds r → IsExhibit n ds s → r ≡ s
exhibit_same n ds r s one other =
    let same = one_ordered_list (IsIrreducible n ds) IsBefore one.sets other.sets
    (λ x y x_is y_is there back. IsBefore-irrefl x (IsBefore-trans x y x there back)) one.irreducible.each other.irreducible.each
    one.irreducible.ascending other.irreducible.ascending
    (listed_in n ds one.sets other.sets one.irreducible other.irreducible)
    (listed_in n ds other.sets one.sets other.irreducible one.irreducible) in
    one.tuples ∙ ap (λ (sets : List Attributes). tuples_for n sets) same ∙ sym other.tuples
