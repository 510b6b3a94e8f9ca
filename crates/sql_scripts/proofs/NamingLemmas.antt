-- Parts that a script may hold, one after the other.
use Rattle.std.proofs.Common.{◌≡◌, ◌&&◌, Bool, true, false, not, List, ◌∷◌, ap}
use Rattle.std.specs.List.{list_all}
use Rattle.table_names.specs.TableNames.{is_taken}
use Rattle.table_words.specs.Parts.{Part}
use Rattle.sql_scripts.specs.Naming.{are_parts, is_part, last_of}

pub more_parts : (part other : Part) (parts : List Part) → is_part part ≡ true
    → are_parts (part ∷ other ∷ parts) ≡ are_parts (other ∷ parts)
more_parts part other parts e = ap (λ (b : Bool). (b && list_all is_part (other ∷ parts)) && not (is_taken (last_of (other ∷ parts)))) e

pub no_parts : (part : Part) (parts : List Part) → is_part part ≡ false → are_parts (part ∷ parts) ≡ false
no_parts part parts e = ap (λ (b : Bool). (b && list_all is_part parts) && not (is_taken (last_of (part ∷ parts)))) e
