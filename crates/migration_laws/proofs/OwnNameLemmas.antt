-- The tables of a design have names that differ from one another and from those that a script gives.
use Rattle.std.proofs.Common.{◌≡◌, ◌<◌, ◌≤◌, ◌+◌, ◌^◌, ℕ, zero, suc, true, List, [], ◌∷◌, length, get_or, take, Option, Some, None, refl, sym, ap, subst, ◌∙◌, inl, inr, arith}
use Rattle.std.proofs.lemmas.Bool.{cases_lt, true≢false}
use Rattle.std.proofs.lemmas.Fmt.{first_decimal}
use Rattle.std.proofs.lemmas.List.{length-take-le}
use Rattle.std.proofs.lemmas.Option.{slice_get_within}
use Rattle.std.specs.Prelude.{All, AllPairs, Contains, codes, decimal, unwrap_or}
use Rattle.attr_sets.specs.declared.set.AttrSet.{AttrSet}
use Rattle.schema_model.specs.Names.{same_name, quotes_doubled}
use Rattle.schema_model.specs.Schemas.{Schema}
use Rattle.table_names.specs.TableNames.{GivenNames, is_taken, name_of_table, table_name}
use Rattle.plan_printer.specs.NamedPlans.{AreApart, IsOwnName}
use Rattle.plan_printer.proofs.NameLemmas.{same_itself, tables_named_apart}
use Rattle.ddl_text.specs.declared.table.TableDesign.{TableDesign}
use Rattle.ddl_text.proofs.DesignLemmas.{table_at, slice_get-member}
use Rattle.sql_syntax.specs.Names.{quoted_name}
use Rattle.sql_migrate_laws.specs.Ending.{NamesDiffer}
use Rattle.desk_designs.specs.Designs.{IsSoundDesign}
use Rattle.migration_laws.specs.Ready.{HaveOwnNames}
use Rattle.migration_laws.proofs.QuoteLemmas.{quoted_once}

-- ---- names that a script gives
-- no number has such a name
not_zero : (n : ℕ) (rest : List ℕ) → 0 < n → n < 2 ^ 64 → table_name n ≡ 116 ∷ 48 ∷ rest → ⊥
not_zero n rest some wide same =
    let first = first_decimal n some wide in
    let zero_is : get_or (decimal n) 0 0 ≡ 48 = ap (λ (bs : List ℕ). get_or bs 1 0) same in
    omega (arith, first, zero_is)

not_joined : (n : ℕ) (rest : List ℕ) → table_name n ≡ 106 ∷ rest → ⊥
not_joined n rest same = let first : 116 ≡ 106 = ap (λ (bs : List ℕ). get_or bs 0 0) same in omega (arith, first)

-- nor is one given to a table
not_given : (script : List ℕ) (n : ℕ) → is_taken script ≡ true → (table_name n ≡ script → ⊥) → (found : Option (List ℕ)) → IsOwnName found
    → unwrap_or found (table_name n) ≡ script → ⊥
not_given script n taken numbered None own same = numbered same
not_given script n taken numbered (Some name) own same = true≢false (sym taken ∙ ap is_taken (sym same) ∙ own)

own_at : (given : GivenNames) (k : ℕ) → All IsOwnName given → IsOwnName (get_or given k None)
own_at given k own = elim (cases_lt k (length given)) [
  | inl within ↦ own k None within
  | inr beyond ↦ subst IsOwnName (sym (past given k beyond)) tt
]
  where
    past : (given : GivenNames) (k : ℕ) → length given ≤ k → get_or given k None ≡ None
    past [] k beyond = refl
    past (name ∷ given) zero beyond = absurd (omega (arith, beyond))
    past (name ∷ given) (suc k) beyond = past given k (omega (arith, beyond))

-- ---- the tables of a design
module _ (s : Schema) (names : GivenNames) (plan : List AttrSet) (tables : List TableDesign) (sound : IsSoundDesign s names plan tables)
    (apart : AreApart names) (few : length tables < 2 ^ 64) where
  name_at : (t : TableDesign) (h : Contains tables t) → t.name ≡ name_of_table names h.0
  name_at t h =
      let at = slice_get-member tables t h in
      let low = slice_get_within tables h.0 t at in
      let long : length (take h.0 tables) ≡ h.0 = length-take-le h.0 tables (omega (arith, low)) in
      (table_at s names sound.ordered tables h.0 t sound.design at).name ∙ ap (name_of_table names) long

  not_of_script : (script : List ℕ) → is_taken script ≡ true → ((n : ℕ) → 0 < n → n < 2 ^ 64 → table_name n ≡ script → ⊥)
      → (t : TableDesign) → Contains tables t → quoted_name t.name ≡ quoted_name script → ⊥
  not_of_script script taken numbered t h same =
      let low = h.1 in
      not_given script (h.0 + 1) taken (numbered (h.0 + 1) (omega arith) (omega (arith, low, few))) (get_or names h.0 None) (own_at names h.0 apart.own)
      (sym (name_at t h) ∙ quoted_once t.name script same)

  named_differ : AllPairs NamesDiffer tables
  named_differ i j d before low same =
      let first : Contains tables (get_or tables i d) = (i, omega (arith, before, low), at_any i (omega (arith, before, low))) in
      let second : Contains tables (get_or tables j d) = (j, low, at_any j low) in
      let equal : name_of_table names i ≡ name_of_table names j =
      sym (name_at (get_or tables i d) first) ∙ quoted_once (get_or tables i d).name (get_or tables j d).name same ∙ name_at (get_or tables j d) second in
      true≢false (sym (same_itself (name_of_table names j))
      ∙ ap (λ (word : List ℕ). same_name word (name_of_table names j)) (sym equal)
      ∙ tables_named_apart names i j apart before (omega (arith, low, few)))
    where
      at_any : (m : ℕ) → m < length tables → get_or tables m (get_or tables m d) ≡ get_or tables m d
      at_any m inside = defaults tables m inside
        where
          defaults : (all : List TableDesign) (k : ℕ) → k < length all → get_or all k (get_or all k d) ≡ get_or all k d
          defaults [] k inside' = absurd (omega (arith, inside'))
          defaults (x ∷ xs) zero inside' = refl
          defaults (x ∷ xs) (suc k) inside' = defaults xs k (omega (arith, inside'))

  pub own_names : HaveOwnNames tables
  unfolding quotes_doubled
  own_names = record {
    not_copy = not_of_script (codes "t0") refl (λ n some wide same. not_zero n [] some wide same);
    not_view = not_of_script (codes "joined") refl (λ n some wide same. not_joined n (codes "oined") same);
    not_test = not_of_script (codes "t00") refl (λ n some wide same. not_zero n (codes "0") some wide same);
    differ = named_differ;
  }
