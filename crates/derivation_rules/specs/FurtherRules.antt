-- The further rules with two premises: for their table and the lines of derivations.

pub data Further : Type 0 where
  union : Further
  pseudotransitivity : Further
  intersection : Further
  difference : Further
  mpseudotransitivity : Further
