-- Bytes are a name where the test says so.
use Rattle.std.proofs.Common.{◌≡◌, ◌↔◌, ℕ, Bool, true, false, cond, Option, Some, None, List, IsSome, IfSome, refl, ap}
use Rattle.schema_model.specs.Names.{IsName}

pub name_by_test : (o : Option (List ℕ)) (test : Bool) (bytes : List ℕ) → (IsSome o ↔ IsName bytes) → ((test ≡ true) ↔ IsName bytes)
    → IfSome o (λ name. name ≡ bytes) → o ≡ cond test (Some bytes) None
name_by_test (Some name) true bytes is tested same = ap Some same
name_by_test (Some name) false bytes is tested same = absurd (false_is_false (tested.1 (is.0 refl)))
  where
    false_is_false : false ≡ true → ⊥
    false_is_false e = cc
name_by_test None true bytes is tested same = absurd (false_is_none (is.1 (tested.0 refl)))
  where
    false_is_none : false ≡ true → ⊥
    false_is_none e = cc
name_by_test None false bytes is tested same = refl
