-- Things in memory that are made one at a time, each read as a value: one more is finished.
use Rattle.std.proofs.Common.{◌≡◌, List, [], ◌∷◌, ◌++◌, map, Option, None, Some, option_map, option_to_list, ap, ◌∙◌}
use Rattle.std.proofs.lemmas.List.{map-append}

pub mapped_end : {X Y : Type 0} (value : X → Y) (old new : List X) (opened : Option X) → new ≡ old ++ option_to_list opened → map value new ≡ map value old ++ option_to_list (option_map value opened)
mapped_end value old new None is = ap (map value) is ∙ map-append value old []
mapped_end value old new (Some thing) is = ap (map value) is ∙ map-append value old (thing ∷ [])
