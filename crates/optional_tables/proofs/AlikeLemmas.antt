-- What is said of tables rests on the attributes of their schemes and keys alone.
use Rattle.std.proofs.Common.{◌≡◌, ◌&&◌, ◌||◌, ℕ, zero, suc, Bool, true, not, List, [], ◌∷◌, refl, sym, subst, ap, ◌∙◌}
use Rattle.std.specs.Prelude.{IsSomeAnd, slice_get}
use Rattle.std.specs.List.{AllZip, list_any}
use Rattle.attr_sets.specs.Attributes.{Attributes, intersection}
use Rattle.attr_sets.specs.Sets.{attributes, is_subset, is_disjoint}
use Rattle.optional_tables.specs.declared.keyed.KeyedScheme.{KeyedScheme}
use Rattle.optional_tables.specs.Hindrances.{IsFirstShared, IsFirstStuck, IsSharedAt, IsStuckAt, IsUnhindered}
use Rattle.optional_tables.specs.Homes.{has_home, has_outside_key, is_home_of, is_optional}
use Rattle.optional_tables.specs.Readable.{CanBeLookedUp, IsHomeAt}

-- two tables have the same attributes, and the same in their keys
pub record IsAlike (one other : KeyedScheme) : Type 0 where
  pub scheme : attributes one.scheme ≡ attributes other.scheme
  pub key : attributes one.key ≡ attributes other.key

abbrev pub AreAlike : List KeyedScheme → List KeyedScheme → Type 0
AreAlike one other = AllZip IsAlike one other

pub alike_back : (one other : List KeyedScheme) → AreAlike one other → AreAlike other one
alike_back [] [] alike = tt
alike_back [] (u ∷ us) alike = absurd alike
alike_back (t ∷ ts) [] alike = absurd alike
alike_back (t ∷ ts) (u ∷ us) alike =
    (record { scheme = sym alike.0.scheme; key = sym alike.0.key }, alike_back ts us alike.1)

-- what is said of the table at a position is said of the other there
pub there_alike : (P Q : KeyedScheme → Type 0) → ((t u : KeyedScheme) → IsAlike t u → P t → Q u)
    → (one other : List KeyedScheme) → AreAlike one other → (k : ℕ) → IsSomeAnd (slice_get one k) P
    → IsSomeAnd (slice_get other k) Q
there_alike P Q moves [] [] alike k has = absurd has
there_alike P Q moves [] (u ∷ us) alike k has = absurd alike
there_alike P Q moves (t ∷ ts) [] alike k has = absurd alike
there_alike P Q moves (t ∷ ts) (u ∷ us) alike zero has = moves t u alike.0 has
there_alike P Q moves (t ∷ ts) (u ∷ us) alike (suc k) has = there_alike P Q moves ts us alike.1 k has

-- ---- tests
pub optional_alike : (nullable : Attributes) (t u : KeyedScheme) → IsAlike t u → is_optional nullable t ≡ is_optional nullable u
optional_alike nullable t u alike = ap (λ (key : Attributes). not (is_disjoint key nullable)) alike.key

pub outside_alike : (t u : KeyedScheme) → IsAlike t u → (a : ℕ) → has_outside_key t a ≡ has_outside_key u a
outside_alike t u alike a =
    ap (λ (scheme : Attributes). scheme a && not (attributes t.key a)) alike.scheme
    ∙ ap (λ (key : Attributes). attributes u.scheme a && not (key a)) alike.key

pub home_alike : (nullable : Attributes) (t u : KeyedScheme) → IsAlike t u → (h g : KeyedScheme) → IsAlike h g
    → is_home_of nullable t h ≡ is_home_of nullable u g
home_alike nullable t u alike h g also =
    ap (λ (key : Attributes).
    is_subset key (attributes h.scheme) && is_disjoint (intersection nullable key) (attributes h.key)) alike.key
    ∙ ap (λ (scheme : Attributes).
    is_subset (attributes u.key) scheme && is_disjoint (intersection nullable (attributes u.key)) (attributes h.key))
    also.scheme
    ∙ ap (λ (key : Attributes).
    is_subset (attributes u.key) (attributes g.scheme) && is_disjoint (intersection nullable (attributes u.key)) key)
    also.key

pub any_alike : (f g : KeyedScheme → Bool) → ((t u : KeyedScheme) → IsAlike t u → f t ≡ g u) → (one other : List KeyedScheme)
    → AreAlike one other → list_any f one ≡ list_any g other
any_alike f g each [] [] alike = refl
any_alike f g each [] (u ∷ us) alike = absurd alike
any_alike f g each (t ∷ ts) [] alike = absurd alike
any_alike f g each (t ∷ ts) (u ∷ us) alike =
    ap (λ (b : Bool). b || list_any f ts) (each t u alike.0)
    ∙ ap (λ (b : Bool). g u || b) (any_alike f g each ts us alike.1)

-- ---- what keeps tables from being read back
module _ (nullable : Attributes) where
  looked_up_alike : (one other : List KeyedScheme) → AreAlike one other → (t u : KeyedScheme) → IsAlike t u
      → CanBeLookedUp nullable one t → CanBeLookedUp nullable other u
  looked_up_alike one other alike t u same can = record {
    beside = λ a has. can.beside a (outside_alike t u same a ∙ has);
    home = sym (any_alike (is_home_of nullable t) (is_home_of nullable u) (home_alike nullable t u same) one other alike) ∙ can.home;
  }

  pub stuck_alike : (one other : List KeyedScheme) → AreAlike one other → (k : ℕ) → IsStuckAt nullable one k
      → IsStuckAt nullable other k
  stuck_alike one other alike k =
      there_alike (λ t. (is_optional nullable t ≡ true) × (CanBeLookedUp nullable one t → ⊥))
      (λ t. (is_optional nullable t ≡ true) × (CanBeLookedUp nullable other t → ⊥))
      (λ t u same stuck. (
        sym (optional_alike nullable t u same) ∙ stuck.0,
        λ can. stuck.1 (looked_up_alike other one (alike_back one other alike) u t
            (record { scheme = sym same.scheme; key = sym same.key }) can),
      )) one other alike k

  home_at_alike : (one other : List KeyedScheme) → AreAlike one other → (a k : ℕ) → IsHomeAt one a k → IsHomeAt other a k
  home_at_alike one other alike a k =
      there_alike (λ t. has_outside_key t a ≡ true) (λ t. has_outside_key t a ≡ true)
      (λ t u same has. sym (outside_alike t u same a) ∙ has) one other alike k

  pub shared_alike : (one other : List KeyedScheme) → AreAlike one other → (j k a : ℕ) → IsSharedAt nullable one j k a
      → IsSharedAt nullable other j k a
  shared_alike one other alike j k a shared = record {
    missing = shared.missing;
    before = shared.before;
    earlier = home_at_alike one other alike a j shared.earlier;
    later = home_at_alike one other alike a k shared.later;
  }

  module _ (one other : List KeyedScheme) (alike : AreAlike one other) where
    stuck_back : (k : ℕ) → IsStuckAt nullable other k → IsStuckAt nullable one k
    stuck_back = stuck_alike other one (alike_back one other alike)

    shared_back : (j k a : ℕ) → IsSharedAt nullable other j k a → IsSharedAt nullable one j k a
    shared_back = shared_alike other one (alike_back one other alike)

    pub none_stuck_alike : ((k : ℕ) → IsStuckAt nullable one k → ⊥) → (k : ℕ) → IsStuckAt nullable other k → ⊥
    none_stuck_alike none k stuck = none k (stuck_back k stuck)

    pub unhindered_alike : IsUnhindered nullable one → IsUnhindered nullable other
    unhindered_alike free = record {
      stuck = none_stuck_alike free.stuck;
      shared = λ j k a shared. free.shared j k a (shared_back j k a shared);
    }

    pub first_stuck_alike : (k : ℕ) → IsFirstStuck nullable one k → IsFirstStuck nullable other k
    first_stuck_alike k is = record {
      here = stuck_alike one other alike k is.here;
      first = λ j less stuck. is.first j less (stuck_back j stuck);
    }

    pub first_shared_alike : (j k a : ℕ) → IsFirstShared nullable one j k a → IsFirstShared nullable other j k a
    first_shared_alike j k a is = record {
      found = record {
        here = shared_alike one other alike j k a is.found.here;
        least = λ i b less shared. is.found.least i b less (shared_back i k b shared);
        first = λ i less shared. is.found.first i less (shared_back i k a shared);
      };
      first = λ i m b less shared. is.first i m b less (shared_back i m b shared);
    }
