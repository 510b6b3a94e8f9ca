-- The numbers by which rows are measured against a dependency: for `Answers`.
use Rattle.std.specs.Prelude.{ℕ, Bool, List, map}
use Rattle.attr_sets.specs.Attributes.{Attributes, below, union}
use Rattle.row_groups.specs.Numberings.{AreGroups, AreFirsts, number_at}
use Rattle.dep_model.specs.Tuples.{Relation}
use Rattle.dep_model.specs.Dependencies.{rest_beside}
use Rattle.row_measures.specs.Broken.{AreChosen, AreFlags, HasTwoClasses, LacksRow}

-- rows against x -> y: those that agree on x are a group, those that agree on y too are a class
pub record Classes (x y : Attributes) (r : Relation) : Type 0 where
  pub groups : List ℕ
  pub firsts : List ℕ
  pub classes : List ℕ
  pub class_firsts : List ℕ
  pub chosen : List ℕ
  pub broken : List Bool
  pub by_left : AreGroups r x groups
  pub group_rows : AreFirsts groups firsts
  pub by_both : AreGroups r (union x y) classes
  pub class_rows : AreFirsts classes class_firsts
  pub largest : AreChosen groups firsts classes chosen
  pub flags : AreFlags firsts (HasTwoClasses groups classes) broken

-- the group of each class
abbrev pub class_groups : {x y : Attributes} {r : Relation} → Classes x y r → List ℕ
class_groups c = map (number_at c.groups) c.class_firsts

-- rows over n attributes against x ->> y: those that agree on x are a group, those that agree on y too have
-- one left part, and those that agree on x and on what is outside x and y have one rest
pub record Parts (n : ℕ) (x y : Attributes) (r : Relation) : Type 0 where
  pub groups : List ℕ
  pub firsts : List ℕ
  pub lefts : List ℕ
  pub left_firsts : List ℕ
  pub rests : List ℕ
  pub rest_firsts : List ℕ
  pub broken : List Bool
  pub by_left : AreGroups r x groups
  pub group_rows : AreFirsts groups firsts
  pub by_both : AreGroups r (union x y) lefts
  pub left_rows : AreFirsts lefts left_firsts
  pub by_rest : AreGroups r (union x (rest_beside (below n) x y)) rests
  pub rest_rows : AreFirsts rests rest_firsts
  pub flags : AreFlags firsts (LacksRow groups lefts rests) broken
