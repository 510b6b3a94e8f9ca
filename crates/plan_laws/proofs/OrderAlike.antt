-- The order of look-ups, and which tables are optional, rest on the attributes of schemes and keys alone.
use Rattle.std.proofs.Common.{◌≡◌, ◌+◌, ◌++◌, ℕ, zero, suc, Bool, not, if◌then◌else◌, List, [], ◌∷◌, length, refl, ap, ◌∙◌}
use mathlib.Core.Path.{fun_ext}
use Rattle.std.specs.Prelude.{reverse, slice_get}
use Rattle.attr_sets.specs.Attributes.{Attributes}
use Rattle.dep_model.specs.JoinOrders.{put_first, of_first}
use Rattle.optional_tables.specs.declared.keyed.KeyedScheme.{KeyedScheme}
use Rattle.optional_tables.specs.Homes.{has_home, is_home_of, is_optional}
use Rattle.optional_tables.specs.Order.{always_filled, if_there, is_ready_at, look_up_order, looked_up_next, members_at, optional_positions, positions_from}
use Rattle.optional_tables.proofs.AlikeLemmas.{AreAlike, IsAlike, any_alike, home_alike, optional_alike}

-- ---- positions
positions_alike : (f : KeyedScheme → Bool) → ((t u : KeyedScheme) → IsAlike t u → f t ≡ f u) → (m : ℕ)
    → (one other : List KeyedScheme) → AreAlike one other → positions_from f m one ≡ positions_from f m other
positions_alike f each m [] [] alike = refl
positions_alike f each m [] (u ∷ us) alike = absurd alike
positions_alike f each m (t ∷ ts) [] alike = absurd alike
positions_alike f each m (t ∷ ts) (u ∷ us) alike =
    ap (λ (b : Bool). if b then m ∷ positions_from f (m + 1) ts else positions_from f (m + 1) ts) (each t u alike.0)
    ∙ ap (λ (ks : List ℕ). if f u then m ∷ ks else ks) (positions_alike f each (m + 1) ts us alike.1)

pub filled_alike : (nullable : Attributes) (one other : List KeyedScheme) → AreAlike one other
    → always_filled nullable one ≡ always_filled nullable other
filled_alike nullable =
    positions_alike (λ t. not (is_optional nullable t)) (λ t u alike. ap not (optional_alike nullable t u alike)) 0

pub optionals_alike : (nullable : Attributes) (one other : List KeyedScheme) → AreAlike one other
    → optional_positions nullable one ≡ optional_positions nullable other
optionals_alike nullable = positions_alike (is_optional nullable) (optional_alike nullable) 0

-- ---- tables at positions
together : (ts us vs ws : List KeyedScheme) → AreAlike ts us → AreAlike vs ws → AreAlike (ts ++ vs) (us ++ ws)
together [] [] vs ws alike more = more
together [] (u ∷ us) vs ws alike more = absurd alike
together (t ∷ ts) [] vs ws alike more = absurd alike
together (t ∷ ts) (u ∷ us) vs ws alike more = (alike.0, together ts us vs ws alike.1 more)

there_alike : (one other : List KeyedScheme) → AreAlike one other → (k : ℕ)
    → AreAlike (if_there (slice_get one k)) (if_there (slice_get other k))
there_alike [] [] alike k = tt
there_alike [] (u ∷ us) alike k = absurd alike
there_alike (t ∷ ts) [] alike k = absurd alike
there_alike (t ∷ ts) (u ∷ us) alike zero = (alike.0, tt)
there_alike (t ∷ ts) (u ∷ us) alike (suc k) = there_alike ts us alike.1 k

pub members_alike : (one other : List KeyedScheme) → AreAlike one other → (positions : List ℕ)
    → AreAlike (members_at one positions) (members_at other positions)
members_alike one other alike [] = tt
members_alike one other alike (k ∷ positions) =
    together (if_there (slice_get one k)) (if_there (slice_get other k)) (members_at one positions)
    (members_at other positions) (there_alike one other alike k) (members_alike one other alike positions)

-- ---- the order
first_same : (f g : ℕ → List ℕ → List ℕ) → ((k : ℕ) (others : List ℕ) → f k others ≡ g k others) → (ks : List ℕ)
    → of_first f ks ≡ of_first g ks
first_same f g each [] = refl
first_same f g each (k ∷ ks) = each k ks

module _ (nullable : Attributes) (one other : List KeyedScheme) (alike : AreAlike one other) where
  home_same : (joined : List ℕ) (t u : KeyedScheme) → IsAlike t u
      → has_home nullable (members_at one joined) t ≡ has_home nullable (members_at other joined) u
  home_same joined t u same =
      any_alike (is_home_of nullable t) (is_home_of nullable u) (home_alike nullable t u same) (members_at one joined)
      (members_at other joined) (members_alike one other alike joined)

  ready_same : (joined : List ℕ) (k : ℕ) → is_ready_at nullable one joined k ≡ is_ready_at nullable other joined k
  ready_same joined k =
      any_alike (has_home nullable (members_at one joined)) (has_home nullable (members_at other joined)) (home_same joined)
      (if_there (slice_get one k)) (if_there (slice_get other k)) (there_alike one other alike k)

  next_same : (n : ℕ) (joined left : List ℕ)
      → looked_up_next nullable one n joined left ≡ looked_up_next nullable other n joined left
  next_same zero joined left = refl
  next_same (suc n) joined left =
      ap (λ (test : ℕ → Bool). of_first (λ k others. k ∷ looked_up_next nullable one n (k ∷ joined) others)
      (put_first test [] left)) (fun_ext (ready_same joined))
      ∙ first_same (λ k others. k ∷ looked_up_next nullable one n (k ∷ joined) others)
      (λ k others. k ∷ looked_up_next nullable other n (k ∷ joined) others)
      (λ k others. ap (λ (ks : List ℕ). k ∷ ks) (next_same n (k ∷ joined) others))
      (put_first (is_ready_at nullable other joined) [] left)

  pub look_up_order_alike : look_up_order nullable one ≡ look_up_order nullable other
  look_up_order_alike =
      ap (λ (ks : List ℕ). looked_up_next nullable one (length (optional_positions nullable one)) ks
      (reverse (optional_positions nullable one))) (filled_alike nullable one other alike)
      ∙ ap (λ (ks : List ℕ). looked_up_next nullable one (length ks) (always_filled nullable other) (reverse ks))
      (optionals_alike nullable one other alike)
      ∙ next_same (length (optional_positions nullable other)) (always_filled nullable other)
      (reverse (optional_positions nullable other))
