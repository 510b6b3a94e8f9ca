-- The laws `rules_are_sound`, clause by clause.
use Rattle.std.proofs.lemmas.List.Elements.{All-contains}
use Rattle.dep_model.specs.Dependencies.{Dependency, Obeys}
use Rattle.dep_model.proofs.RuleLemmas.{reflexivity_obeyed, augmentation_obeyed, transitivity_obeyed, complementation_obeyed, mreflexivity_obeyed, maugmentation_obeyed, mtransitivity_obeyed, replication_obeyed, coalescence_obeyed}
use Rattle.dep_model.proofs.laws.rules_are_sound.Goals as goal

pub returns : goal.returns
returns c = record {
  given = λ n ds r d legal given. All-contains (λ (e : Dependency). Obeys n e r) ds d legal.obeys given;
  reflexivity = λ x y r h. reflexivity_obeyed x y r h;
  augmentation = λ x y z r h. augmentation_obeyed x y z r h;
  transitivity = λ x y z r g h. transitivity_obeyed x y z r g h;
  complementation = λ scheme x y r h. complementation_obeyed scheme x y r h;
  multivalued_reflexivity = λ scheme x y r h. mreflexivity_obeyed scheme x y r h;
  multivalued_augmentation = λ scheme x y w z r h w_in obeys. maugmentation_obeyed scheme x y w z r h w_in obeys;
  multivalued_transitivity = λ scheme x y z r x_in z_in g h. mtransitivity_obeyed scheme x y z r x_in z_in g h;
  replication = λ scheme x y r h. replication_obeyed scheme x y r h;
  coalescence = λ scheme x y z w r z_in w_in apart g h. coalescence_obeyed scheme x y z w r z_in w_in apart g h;
}
