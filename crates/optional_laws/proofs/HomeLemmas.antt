-- In the order of look-ups each table comes after its home.
use Rattle.std.proofs.Common.{◌≡◌, ◌<◌, ◌⊎◌, ◌++◌, ℕ, zero, suc, true, not, List, [], ◌∷◌, Some, length, sym, subst, ap, ◌∙◌, inl, inr, arith}
use Rattle.std.specs.Prelude.{Contains, reverse, slice_get}
use Rattle.std.specs.List.{list_any}
use Rattle.std.specs.List.Sorted.{IsPermutation}
use Rattle.std.proofs.lemmas.Bool.{cases_Bool, true≢false, true_from_ne_false}
use Rattle.std.proofs.lemmas.List.Folds.{list_any-from_Any}
use Rattle.std.proofs.lemmas.List.Sorted.{Contains-permutation, IsPermutation-reverse, IsPermutation-sym}
use Rattle.std.proofs.lemmas.Option.{get_or_from_slice_get, slice_get_within, slice_get-get_or}
use Rattle.attr_sets.specs.Attributes.{Attributes}
use Rattle.dep_model.specs.Dependencies.{Dependency}
use Rattle.dep_model.specs.JoinOrders.{put_first, of_first}
use Rattle.dep_model.proofs.ListLemmas.{Any-from, Contains-cases, Contains-head, Contains-later, Contains-nil}
use Rattle.optional_tables.specs.declared.keyed.KeyedScheme.{KeyedScheme}
use Rattle.optional_tables.specs.Homes.{has_home, is_home_of, is_optional}
use Rattle.optional_tables.specs.Order.{HomesComeFirst, always_filled, if_there, is_ready_at, look_up_order, looked_up_next, members_at, optional_positions}
use Rattle.optional_tables.specs.Readable.{IsReadable}
use Rattle.optional_tables.proofs.HomeLemmas.{home_among}
use Rattle.optional_tables.proofs.OrderLemmas.{put_moved, put_passing, ready_there}
use Rattle.optional_tables.proofs.PositionLemmas.{member_at_position, members_first, position_in, position_of_member, position_to}
use Rattle.optional_laws.specs.KeyOrder.{HasPrimaryKey}
use Rattle.optional_laws.proofs.HigherLemmas.{IsHigher, higher_irrefl, higher_trans, home_is_higher, no_endless}

module _ (n : ℕ) (ds : List Dependency) (nullable : Attributes) (tables : List KeyedScheme)
    (primary : (table : KeyedScheme) → Contains tables table → HasPrimaryKey n ds nullable table)
    (readable : IsReadable nullable tables) where
  -- those that are left are optional, and each table is joined or left
  pub record ArePlaced (joined left : List ℕ) : Type 0 where
    pub left_over : (k : ℕ) → Contains left k
        → (table : KeyedScheme) × (slice_get tables k ≡ Some table) × (is_optional nullable table ≡ true)
    pub all : (k : ℕ) (table : KeyedScheme) → slice_get tables k ≡ Some table → Contains joined k ⊎ Contains left k

  contained : (k : ℕ) (table : KeyedScheme) → slice_get tables k ≡ Some table → Contains tables table
  contained k table at = (k, slice_get_within tables k table at, get_or_from_slice_get tables k table table at)

  -- a table whose home is joined is ready
  ready_with : (joined : List ℕ) (k j : ℕ) (table home : KeyedScheme) → slice_get tables k ≡ Some table
      → slice_get tables j ≡ Some home → is_home_of nullable table home ≡ true → Contains joined j
      → is_ready_at nullable tables joined k ≡ true
  ready_with joined k j table home at there is in_joined =
      ready_there nullable tables joined k table at
      ∙ list_any-from_Any (is_home_of nullable table) (members_at tables joined)
      (Any-from (λ (h : KeyedScheme). is_home_of nullable table h ≡ true) (members_at tables joined) home
      (member_at_position tables joined j home there in_joined) is)

  -- where none is ready, each that is left has its home among those that are left
  module _ (joined left : List ℕ) (placed : ArePlaced joined left)
      (none : (k : ℕ) → Contains left k → is_ready_at nullable tables joined k ≡ true → ⊥) where
    higher_left : (table : KeyedScheme) → Contains (members_at tables left) table
        → (home : KeyedScheme) × Contains (members_at tables left) home × IsHigher n ds nullable table home
    higher_left table has =
        let (k, in_left, at) = position_of_member tables left table has in
        let (same, there, optional) = placed.left_over k in_left in
        let is_same : same ≡ table = grind (arith, at, there) in
        let is_optional_here : is_optional nullable table ≡ true = subst (λ (t : KeyedScheme). is_optional nullable t ≡ true) is_same optional in
        let can = readable.looked_up table (contained k table at) is_optional_here in
        let (j, home, low, stands, is) = home_among nullable tables table can.home in
        elim (placed.all j home stands) [
          | inl in_joined ↦ absurd (none k in_left (ready_with joined k j table home at stands is in_joined))
          | inr still ↦ (
            home,
            member_at_position tables left j home stands still,
            home_is_higher n ds nullable table home is_optional_here is (primary home (contained j home stands)),
          )
        ]

    pub none_left : (k : ℕ) → Contains left k → ⊥
    none_left k in_left =
        let (table, at, optional) = placed.left_over k in_left in
        no_endless (IsHigher n ds nullable) (higher_trans n ds nullable) (higher_irrefl n ds nullable)
        (members_at tables left) table (member_at_position tables left k table at in_left) higher_left

  -- so one is ready where some are left
  some_ready : (joined left : List ℕ) → ArePlaced joined left → (k : ℕ) → Contains left k
      → list_any (is_ready_at nullable tables joined) left ≡ true
  some_ready joined left placed k in_left =
      true_from_ne_false (list_any (is_ready_at nullable tables joined) left) (λ fails.
      none_left joined left placed
      (λ j at ready. true≢false (sym (list_any-from_Any (is_ready_at nullable tables joined) left
      (Any-from (λ (i : ℕ). is_ready_at nullable tables joined i ≡ true) left j at ready)) ∙ fails))
      k in_left)

  -- ---- a round
  placed_more : (joined left others : List ℕ) (k : ℕ) → IsPermutation left (k ∷ others) → ArePlaced joined left
      → ArePlaced (k ∷ joined) others
  placed_more joined left others k moved placed = record {
    left_over = λ j in_others. placed.left_over j
        (Contains-permutation (k ∷ others) left j (IsPermutation-sym left (k ∷ others) moved)
        (Contains-later k others j in_others));
    all = λ j table at. elim (placed.all j table at) [
      | inl in_joined ↦ inl (Contains-later k joined j in_joined)
      | inr in_left ↦ elim (Contains-cases k others j (Contains-permutation left (k ∷ others) j moved in_left)) [
        | inl same ↦ inl (subst (λ (i : ℕ). Contains (k ∷ joined) i) (sym same) (Contains-head k joined))
        | inr still ↦ inr still
      ]
    ];
  }

  next_first : (m : ℕ) (joined left : List ℕ) → ArePlaced joined left
      → HomesComeFirst nullable (members_at tables joined) (members_at tables (looked_up_next nullable tables m joined left))
  next_first zero joined left placed = tt
  next_first (suc m) joined [] placed = tt
  next_first (suc m) joined (first ∷ rest) placed =
      let test = is_ready_at nullable tables joined in
      let left = first ∷ rest in
      let (k, others, found, ready) = put_passing test [] left (some_ready joined left placed first (Contains-head first rest)) in
      let moved : IsPermutation left (k ∷ others) = subst (IsPermutation left) found (put_moved test [] left) in
      let in_left = Contains-permutation (k ∷ others) left k (IsPermutation-sym left (k ∷ others) moved) (Contains-head k others) in
      let (table, at, optional) = placed.left_over k in_left in
      let later = next_first m (k ∷ joined) others (placed_more joined left others k moved placed) in
      subst (λ (ks : List ℕ). HomesComeFirst nullable (members_at tables joined)
      (members_at tables (of_first (λ j others. j ∷ looked_up_next nullable tables m (j ∷ joined) others) ks)))
      (sym found)
      (subst (λ (ts : List KeyedScheme). HomesComeFirst nullable (members_at tables joined) ts)
      (sym (members_first tables (looked_up_next nullable tables m (k ∷ joined) others) k table at)) (
        sym (ready_there nullable tables joined k table at) ∙ ready,
        subst (λ (ts : List KeyedScheme). HomesComeFirst nullable ts (members_at tables (looked_up_next nullable tables m (k ∷ joined) others)))
            (members_first tables joined k table at) later,
      ))

  -- ---- all of them
  placed_at_first : ArePlaced (always_filled nullable tables) (reverse (optional_positions nullable tables))
  placed_at_first = record {
    left_over = λ k in_left.
        let in_positions = Contains-permutation (reverse (optional_positions nullable tables)) (optional_positions nullable tables) k
        (IsPermutation-sym (optional_positions nullable tables) (reverse (optional_positions nullable tables))
        (IsPermutation-reverse (optional_positions nullable tables))) in_left in
        let (j, table, is, at, optional) = position_to (is_optional nullable) 0 tables k in_positions in
        let same : j ≡ k = omega (arith, is) in
        (table, ap (slice_get tables) (sym same) ∙ at, optional);
    all = λ k table at. elim (cases_Bool (is_optional nullable table)) [
      | inl optional ↦
          inr (Contains-permutation (optional_positions nullable tables) (reverse (optional_positions nullable tables)) k
          (IsPermutation-reverse (optional_positions nullable tables))
          (position_in (is_optional nullable) tables k table at optional))
      | inr filled ↦
          inl (position_in (λ t. not (is_optional nullable t)) tables k table at (ap not filled))
    ];
  }

  pub homes_first : HomesComeFirst nullable (members_at tables (always_filled nullable tables))
      (members_at tables (look_up_order nullable tables))
  homes_first =
      next_first (length (optional_positions nullable tables)) (always_filled nullable tables)
      (reverse (optional_positions nullable tables)) placed_at_first
