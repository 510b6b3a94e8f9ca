-- A home is higher than what is looked up from it, in an order that is strict; so among finitely many tables some have
-- no home.
use Rattle.std.proofs.Common.{◌≡◌, ℕ, true, false, ◌⊎◌, List, [], ◌∷◌, sym, subst, ap, ◌∙◌, inl, inr}
use Rattle.std.specs.Prelude.{Contains}
use Rattle.std.proofs.lemmas.Bool.{true≢false}
use Rattle.attr_sets.specs.Attributes.{Attributes, IsSubset}
use Rattle.attr_sets.specs.Sets.{attributes}
use Rattle.dep_model.specs.Dependencies.{Dependency, fd}
use Rattle.dep_model.specs.Implication.{Implies}
use Rattle.dep_model.specs.Keys.{IsSuperkey}
use Rattle.dep_model.proofs.KeyLemmas.{fd_on-to, superkey-from}
use Rattle.dep_model.proofs.ListLemmas.{Contains-cases, Contains-head, Contains-later, Contains-nil}
use Rattle.dep_model.proofs.RuleLemmas.{fd_weaker_obeyed, reflexivity_obeyed, transitivity_obeyed}
use Rattle.primary_keys.proofs.PrimaryLemmas.{primary_is_key}
use Rattle.optional_tables.specs.declared.keyed.KeyedScheme.{KeyedScheme}
use Rattle.optional_tables.specs.Homes.{is_home_of, is_optional}
use Rattle.optional_tables.proofs.HomeLemmas.{home_has_key, home_has_outside, missing_in_key}
use Rattle.optional_laws.specs.KeyOrder.{HasPrimaryKey, IsLess}
use Rattle.optional_laws.proofs.KeyLemmas.{first_key, less_irrefl, less_trans}

-- ---- a list without an end
-- what is strict has no list in which each member has a higher one
pub no_endless : {X : Type 0} (R : X → X → Type 0) → ((x y z : X) → R x y → R y z → R x z) → ((x : X) → R x x → ⊥)
    → (xs : List X) (x : X) → Contains xs x → ((y : X) → Contains xs y → (z : X) × Contains xs z × R y z) → ⊥
no_endless R trans irrefl [] x has each = Contains-nil x has
no_endless {X} R trans irrefl (x ∷ xs) any has each =
    let (z, z_in, above) = each x (Contains-head x xs) in
    elim (Contains-cases x xs z z_in) [
      | inl same ↦ irrefl x (subst (λ (w : X). R x w) same above)
      | inr later ↦ no_endless R trans irrefl xs z later (λ y y_in. further y (each y (Contains-later x xs y y_in)) z later above)
    ]
  where
    further : (y : X) → ((w : X) × Contains (x ∷ xs) w × R y w) → (z : X) → Contains xs z → R x z
        → (w : X) × Contains xs w × R y w
    further y (w, w_in, up) z z_in above = elim (Contains-cases x xs w w_in) [
      | inr there ↦ (w, there, up)
      | inl same ↦ (z, z_in, trans y x z (subst (λ (v : X). R y v) same up) above)
    ]

-- ---- higher tables
module _ (n : ℕ) (ds : List Dependency) (nullable : Attributes) where
  -- the key of one determines that of the other, and if the other determines it too, it is less
  pub record IsHigher (table home : KeyedScheme) : Type 0 where
    pub determines : Implies n ds (fd (attributes home.key) (attributes table.key))
    pub less : Implies n ds (fd (attributes table.key) (attributes home.key))
        → IsLess nullable (attributes home.key) (attributes table.key)

  then_determines : (x y z : Attributes) → Implies n ds (fd x y) → Implies n ds (fd y z) → Implies n ds (fd x z)
  then_determines x y z one other r legal = transitivity_obeyed x y z r (one r legal) (other r legal)

  pub higher_irrefl : (table : KeyedScheme) → IsHigher table table → ⊥
  higher_irrefl table higher =
      less_irrefl nullable (attributes table.key)
      (higher.less (λ r legal. reflexivity_obeyed (attributes table.key) (attributes table.key) r (λ (k : ℕ) m. m)))

  pub higher_trans : (t u v : KeyedScheme) → IsHigher t u → IsHigher u v → IsHigher t v
  higher_trans t u v one other = record {
    determines = then_determines (attributes v.key) (attributes u.key) (attributes t.key) other.determines one.determines;
    less = λ back.
        less_trans nullable (attributes v.key) (attributes u.key) (attributes t.key)
        (other.less (then_determines (attributes u.key) (attributes t.key) (attributes v.key) one.determines back))
        (one.less (then_determines (attributes t.key) (attributes v.key) (attributes u.key) back other.determines));
  }

  -- a home is higher
  pub home_is_higher : (table home : KeyedScheme) → is_optional nullable table ≡ true
      → is_home_of nullable table home ≡ true → HasPrimaryKey n ds nullable home → IsHigher table home
  home_is_higher table home optional is primary = record {
    determines = λ r legal.
        fd_weaker_obeyed (attributes home.key) (attributes home.scheme) (attributes home.key) (attributes table.key) r
        (λ (k : ℕ) m. m) inside (fd_on-to n ds (attributes home.scheme) (attributes home.key) (attributes home.scheme) superkey r legal);
    less = λ back. elim (first_key n ds nullable (attributes home.scheme) (attributes home.key) (attributes table.key)
        primary.universe primary.key (table_determines back)) [
          | inl same ↦
              let (a, member, missing) = missing_in_key nullable table optional in
              absurd (true≢false (sym member ∙ sym (ap (λ (x : Attributes). x a) same)
              ∙ home_has_outside nullable table home a is member missing))
          | inr less ↦ less
        ];
  }
    where
      inside : IsSubset (attributes table.key) (attributes home.scheme)
      inside = home_has_key nullable table home is

      superkey : IsSuperkey n ds (attributes home.scheme) (attributes home.key)
      superkey =
          (primary_is_key n ds nullable (attributes home.scheme) (attributes home.key) primary.universe primary.key).superkey

      table_determines : Implies n ds (fd (attributes table.key) (attributes home.key))
          → IsSuperkey n ds (attributes home.scheme) (attributes table.key)
      table_determines back =
          superkey-from n ds (attributes home.scheme) (attributes table.key) inside
          (then_determines (attributes table.key) (attributes home.key) (attributes home.scheme) back
          (fd_on-to n ds (attributes home.scheme) (attributes home.key) (attributes home.scheme) superkey))
