-- Groups of hexadecimal digits: what follows the first group of a text.
use Rattle.std.proofs.Common.{◌≡◌, ℕ, List, ◌∷◌, ◌++◌, length, sym, subst, ◌∙◌}
use Rattle.column_values.specs.Uuids.{IsHexGroup, IsHexGroups}
use Rattle.column_values.proofs.DigitLemmas.{SameParts, same_cut}

pub no_first_group : (count next : ℕ) (later bytes : List ℕ)
    → ((group rest : List ℕ) → IsHexGroup count group → bytes ≡ group ++ 45 ∷ rest → ⊥)
    → IsHexGroups (count ∷ next ∷ later) bytes → ⊥
no_first_group count next later bytes none h = none h.0 h.1 h.2 h.3

pub groups_after : (count next : ℕ) (later bytes rest : List ℕ)
    → (group : List ℕ) × IsHexGroup count group × (bytes ≡ group ++ 45 ∷ rest)
    → IsHexGroups (count ∷ next ∷ later) bytes → IsHexGroups (next ∷ later) rest
groups_after count next later bytes rest here h =
    let counted : length h.0 ≡ length here.0 = h.2.counted ∙ sym here.1.counted in
    let parts : SameParts h.0 h.1 here.0 rest = same_cut 45 h.0 h.1 here.0 rest counted (sym h.3 ∙ here.2) in
    subst (IsHexGroups (next ∷ later)) parts.rests h.4

pub groups_with : (count next : ℕ) (later bytes rest : List ℕ)
    → (group : List ℕ) × IsHexGroup count group × (bytes ≡ group ++ 45 ∷ rest)
    → IsHexGroups (next ∷ later) rest → IsHexGroups (count ∷ next ∷ later) bytes
groups_with count next later bytes rest here h = (here.0, rest, here.1, here.2, h)
