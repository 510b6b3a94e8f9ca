-- What is looked up for a tuple is what the row has with which it agrees so far.
use Rattle.std.proofs.Common.{inl, inr, ◌≡◌, ◌⊎◌, ℕ, true, false, not, List, [], ◌∷◌, length, sym, subst, ◌∙◌}
use Rattle.std.proofs.lemmas.Bool.{cases_Bool, and_from, not_from_false}
use Rattle.std.specs.Prelude.{Contains}
use Rattle.attr_sets.specs.Attributes.{Attributes, IsSubset}
use Rattle.attr_sets.specs.Sets.{attributes}
use Rattle.dep_model.specs.Dependencies.{Dependency}
use Rattle.dep_model.specs.Implication.{IsLegal}
use Rattle.dep_model.specs.Keys.{IsSuperkey}
use Rattle.dep_model.specs.Projections.{project_tuple}
use Rattle.dep_model.specs.Tuples.{Tuple, Relation, value_at, AgreeOn}
use Rattle.dep_model.proofs.ListLemmas.{Contains-head, Contains-later, Contains-cases}
use Rattle.dep_model.proofs.SchemeLemmas.{value_in-project_tuple, fd_in-to}
use Rattle.optional_tables.specs.declared.keyed.KeyedScheme.{KeyedScheme}
use Rattle.optional_tables.specs.Homes.{has_outside_key}
use Rattle.optional_tables.specs.Order.{HomesComeFirst}
use Rattle.optional_tables.specs.LookUps.{Missing, AreMissingValues, misses_none, rows_for, IsTidyFor, IsFound, IsNotFound}
use Rattle.lookup_laws.proofs.HomeLemmas.{home_found}
use Rattle.optional_tables.proofs.HomeLemmas.{home_has_key}
use Rattle.lookup_laws.proofs.MissingLemmas.{misses_same, row_from, row_to}
use Rattle.lookup_laws.proofs.JoinedLemmas.{AgreeOnEach, with_all}

module _ (n : ℕ) (ds : List Dependency) (nullable : Attributes) (missing : Missing) (r : Relation) (legal : IsLegal n ds r)
    (are_missing : AreMissingValues nullable missing) (t u : Tuple) (t_long : length t ≡ length u) (u_in : Contains r u) where
  -- the row that is found has the key, which determines it
  found_agrees : (table : KeyedScheme) → IsSuperkey n ds (attributes table.scheme) (attributes table.key)
      → AgreeOn (attributes table.key) u t → IsFound missing table (rows_for missing r table) t
      → AgreeOn (attributes table.scheme) u t
  found_agrees table key agree found =
      let scheme = attributes table.scheme in
      let inside = key.within.0 in
      let (w, w_in, w_same) = row_to missing r table t found.stands in
      let determines = fd_in-to scheme (attributes table.key) scheme r inside (λ k m. m) (key.obeyed r legal) in
      let same = determines u w u_in w_in (λ k m. agree k m ∙ sym (w_same k (inside k m))) in
      λ k m. same k m ∙ w_same k m

  -- where none is found, a value of the key is missing, and with it all beside
  missing_agrees : (table : KeyedScheme) → IsSubset (attributes table.key) (attributes table.scheme) → IsTidyFor missing r table
      → AgreeOn (attributes table.key) u t → IsNotFound missing table (rows_for missing r table) t
      → AgreeOn (attributes table.scheme) u t
  missing_agrees table inside tidy agree none k m = elim (cases_Bool (attributes table.key k)) [
    | inl in_key ↦ agree k in_key
    | inr outside ↦ beside (and_from (attributes table.scheme k) (not (attributes table.key k)) m (not_from_false (attributes table.key k) outside))
  ]
    where
      incomplete : misses_none missing (attributes table.key) u ≡ false
      incomplete = elim (cases_Bool (misses_none missing (attributes table.key) u)) [
        | inl complete ↦ absurd (none.none_there
            (misses_same missing (attributes table.key) t u t_long (λ k m. sym (agree k m)) ∙ complete)
            (project_tuple (attributes table.scheme) u) (row_from missing r table u u_in complete)
            (λ k m. value_in-project_tuple (attributes table.scheme) u k (inside k m) ∙ agree k m))
        | inr not_so ↦ not_so
      ]

      beside : has_outside_key table k ≡ true → value_at u k ≡ value_at t k
      beside has = are_missing.one k (value_at u k) (value_at t k) (tidy u u_in incomplete k has) (none.beside k has)

  -- so the tuples agree on each table that is looked up
  pub looked_up_agree : (order joined : List KeyedScheme)
      → ((table : KeyedScheme) → Contains order table → IsSuperkey n ds (attributes table.scheme) (attributes table.key))
      → ((table : KeyedScheme) → Contains order table → IsTidyFor missing r table)
      → ((table : KeyedScheme) → Contains order table
      → IsFound missing table (rows_for missing r table) t ⊎ IsNotFound missing table (rows_for missing r table) t)
      → HomesComeFirst nullable joined order → AgreeOnEach joined u t → AgreeOnEach (with_all joined order) u t
  looked_up_agree [] joined keys tidy fits first agree = agree
  looked_up_agree (table ∷ order) joined keys tidy fits first agree =
      looked_up_agree order (table ∷ joined) (λ other h. keys other (Contains-later table order other h))
      (λ other h. tidy other (Contains-later table order other h)) (λ other h. fits other (Contains-later table order other h))
      first.1 all
    where
      here : Contains (table ∷ order) table
      here = Contains-head table order

      on_key : AgreeOn (attributes table.key) u t
      on_key =
          let (home, home_in, is) = home_found nullable joined table first.0 in
          λ k m. agree home home_in k (home_has_key nullable table home is k m)

      own : AgreeOn (attributes table.scheme) u t
      own = elim (fits table here) [
        | inl found ↦ found_agrees table (keys table here) on_key found
        | inr none ↦ missing_agrees table (keys table here).within.0 (tidy table here) on_key none
      ]

      all : AgreeOnEach (table ∷ joined) u t
      all other h = elim (Contains-cases table joined other h) [
        | inl is_first ↦ subst (λ (z : KeyedScheme). AgreeOn (attributes z.scheme) u t) (sym is_first) own
        | inr later ↦ agree other later
      ]
