-- Lists of open lines, as the code has them and as the definitions do.
use Rattle.std.proofs.Common.{◌≡◌, List, [], ◌∷◌, Some, None, refl}
use Rattle.std.specs.Prelude.{Option, is_some, not}
use Rattle.std.specs.List.{prefix_len}
use Rattle.proof_text.specs.declared.node.Open.{Open}
use Rattle.proof_text.specs.Views.{opened_all}

pub first_len : (xs : List (Option Open))
    → prefix_len (λ o. not (is_some o)) (opened_all xs) ≡ prefix_len (λ o. not (is_some o)) xs
first_len [] = refl
first_len (None ∷ xs) = rw (first_len xs) refl
first_len (Some o ∷ xs) = refl
