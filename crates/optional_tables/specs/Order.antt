-- The order in which optional tables are looked up: for the view of `sql migrate`, and for `rejoin`.
use Rattle.std.specs.Prelude.{◌≡◌, ℕ, ◌+◌, zero, suc, Bool, true, not, if◌then◌else◌, Option, Some, None, List, [], ◌∷◌, length, reverse, slice_get}
use Rattle.std.specs.List.{flat_map, list_any}
use Rattle.attr_sets.specs.Attributes.{Attributes}
use Rattle.dep_model.specs.JoinOrders.{put_first, of_first}
use Rattle.optional_tables.specs.declared.keyed.KeyedScheme.{KeyedScheme}
use Rattle.optional_tables.specs.Homes.{is_optional, has_home}

-- the positions of those members that pass a test, ascending, where the first stands at a position
abbrev pub positions_from : {X : Type 0} → (X → Bool) → ℕ → List X → List ℕ
positions_from test k [] = []
positions_from test k (x ∷ xs) = if test x then k ∷ positions_from test (k + 1) xs else positions_from test (k + 1) xs

-- the member that is there, alone
abbrev pub if_there : {X : Type 0} → Option X → List X
if_there None = []
if_there (Some x) = x ∷ []

-- the members of a list at positions
abbrev pub members_at : {X : Type 0} → List X → List ℕ → List X
members_at xs positions = flat_map (λ k. if_there (slice_get xs k)) positions

-- ---- tables by their positions
-- the tables that are not optional, and those that are
abbrev pub always_filled : Attributes → List KeyedScheme → List ℕ
always_filled nullable tables = positions_from (λ table. not (is_optional nullable table)) 0 tables

abbrev pub optional_positions : Attributes → List KeyedScheme → List ℕ
optional_positions nullable tables = positions_from (is_optional nullable) 0 tables

-- a home of the table at a position is among those that are joined
abbrev pub is_ready_at : Attributes → List KeyedScheme → List ℕ → ℕ → Bool
is_ready_at nullable tables joined k =
    list_any (has_home nullable (members_at tables joined)) (if_there (slice_get tables k))

-- of the tables that are left the first that has its home among those joined, and so on with the others, so many times
abbrev pub looked_up_next : Attributes → List KeyedScheme → ℕ → List ℕ → List ℕ → List ℕ
looked_up_next nullable tables zero joined left = []
looked_up_next nullable tables (suc n) joined left =
    of_first (λ k others. k ∷ looked_up_next nullable tables n (k ∷ joined) others)
    (put_first (is_ready_at nullable tables joined) [] left)

-- each time the last optional table that is left whose home is joined
abbrev pub look_up_order : Attributes → List KeyedScheme → List ℕ
look_up_order nullable tables =
    looked_up_next nullable tables (length (optional_positions nullable tables)) (always_filled nullable tables)
    (reverse (optional_positions nullable tables))

-- ---- what the order is for
-- each table has its home among those that are joined before it
abbrev pub HomesComeFirst : Attributes → List KeyedScheme → List KeyedScheme → Type 0
HomesComeFirst nullable joined [] = Unit {0}
HomesComeFirst nullable joined (table ∷ tables) =
    (has_home nullable joined table ≡ true) × HomesComeFirst nullable (table ∷ joined) tables
