-- Why the keys of a schema or of a scheme are not listed: for `keys`, `keys_of_scheme` and the
-- command `keys` (`desk_keys/Keys`).
use Rattle.std.specs.Prelude.{◌≡◌, false, Any}
use Rattle.attr_sets.specs.Attributes.{Attributes}
use Rattle.dep_model.specs.Dependencies.{is_fd}
use Rattle.dep_model.specs.declared.failure.Failure.{Failure}
use Rattle.dep_model.specs.declared.failure.Failure.TheVariants.{Refused, OutOfMemory}
use Rattle.dep_model.specs.Theories.{Theory}
use Rattle.dep_model.specs.Theories.{width_of, universe_of, theory_of}
use Rattle.fd_closure.specs.LeftSides.{IsWideScheme}
use Rattle.key_listing.specs.declared.refusal.KeyRefusal.{KeyRefusal}
use Rattle.key_listing.specs.declared.refusal.KeyRefusal.TheVariants.{TooManyKeys, TooWide}
use Rattle.key_listing.specs.declared.refusal.SchemeKeyRefusal.{SchemeKeyRefusal}
use Rattle.key_listing.specs.declared.refusal.SchemeKeyRefusal.TheVariants as of_scheme
use Rattle.key_listing.specs.Listing.{AreManyKeys}

-- a multivalued dependency is given, and the universe is too wide to be searched
abbrev pub IsTooWide : Theory → Type 0
IsTooWide s = Any (λ d. is_fd d ≡ false) (theory_of s) × IsWideScheme (theory_of s) (universe_of s)

-- why the keys of a schema are not listed; memory runs out only where they are searched
abbrev pub IsRefusedListing : Theory → Failure KeyRefusal → Type 0
IsRefusedListing s (Refused (TooManyKeys found)) =
    (IsTooWide s → ⊥) × AreManyKeys (width_of s) (theory_of s) (universe_of s) found.items
IsRefusedListing s (Refused TooWide) = IsTooWide s
IsRefusedListing s OutOfMemory = IsTooWide s → ⊥

-- why the keys of a scheme are not listed
abbrev pub IsRefusedFor : Theory → Attributes → Failure SchemeKeyRefusal → Type 0
IsRefusedFor s scheme (Refused (of_scheme.TooManyKeys found)) =
    (IsWideScheme (theory_of s) scheme → ⊥) × AreManyKeys (width_of s) (theory_of s) scheme found.items
IsRefusedFor s scheme (Refused of_scheme.TooWide) = IsWideScheme (theory_of s) scheme
IsRefusedFor s scheme OutOfMemory = IsWideScheme (theory_of s) scheme → ⊥
