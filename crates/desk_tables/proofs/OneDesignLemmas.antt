-- Tables have one design with keys, and what is said of it rests on the attributes of their schemes and keys alone.
use Rattle.std.proofs.Common.{◌≡◌, ◌+◌, ◌==◌, ℕ, zero, suc, Bool, true, false, List, [], ◌∷◌, ◌++◌, sym, ap, subst, ◌∙◌, inl, inr, arith, refl}
use Rattle.std.specs.Prelude.{Contains, if◌then◌else◌}
use Rattle.std.specs.List.{AllZip, list_any}
use Rattle.attr_sets.specs.Attributes.{Attributes}
use Rattle.attr_sets.specs.Sets.{attributes}
use Rattle.attr_sets.specs.declared.set.TheConstants.{MOST_ATTRIBUTES}
use Rattle.attr_sets.proofs.AttributesLemmas.{attributes_below}
use Rattle.dep_model.specs.Dependencies.{Dependency}
use Rattle.dep_model.proofs.ListLemmas.{Contains-cases, Contains-head, Contains-later}
use Rattle.design_order.specs.Order.{DeterminesSoMany, grouped_below, with_number}
use Rattle.design_order.proofs.OrderLemmas.{one_count}
use Rattle.optional_tables.specs.Homes.{has_outside_key, is_home_of, is_optional}
use Rattle.optional_tables.specs.Readable.{HasOneHome, IsHomeAt, IsReadable}
use Rattle.optional_tables.specs.declared.keyed.KeyedScheme.{KeyedScheme}
use Rattle.optional_tables.proofs.AlikeLemmas.{AreAlike, IsAlike, alike_back, any_alike, home_alike, optional_alike, outside_alike, there_alike}
use Rattle.primary_keys.specs.PrimaryKeys.{IsPrimaryKey}
use Rattle.primary_keys.proofs.PrimaryLemmas.{one_primary_below}
use Rattle.schema_model.specs.Schemas.{Schema, nullable_of, theory_of, width_of}
use Rattle.table_join.specs.Tables.{PartialRelation}
use Rattle.desk_tables.specs.Rejoining.{IsKeyedTable}
use Rattle.desk_tables.specs.Tidiness.{HasPrimaryKey}

-- ---- one design
-- two tables over one scheme with its primary key
pub same_key : (s : Schema) (t u : KeyedScheme) → attributes t.scheme ≡ attributes u.scheme → HasPrimaryKey s t → HasPrimaryKey s u
    → IsAlike t u
same_key s t u same first second = record {
  scheme = same;
  key = one_primary_below MOST_ATTRIBUTES (width_of s) (theory_of s) (nullable_of s) (attributes t.scheme)
      (attributes t.key) (attributes u.key) (attributes_below t.scheme) first
      (subst (λ (x : Attributes). IsPrimaryKey (width_of s) (theory_of s) (nullable_of s) x (attributes u.key)) (sym same) second);
}

pub one_files : (s : Schema) (tables : List PartialRelation) (one other : List KeyedScheme) → AllZip (IsKeyedTable s) tables one
    → AllZip (IsKeyedTable s) tables other → AreAlike one other
one_files s [] [] [] first second = tt
one_files s [] [] (u ∷ us) first second = absurd second
one_files s [] (t ∷ ts) other first second = absurd first
one_files s (b ∷ bs) [] other first second = absurd first
one_files s (b ∷ bs) (t ∷ ts) [] first second = absurd second
one_files s (b ∷ bs) (t ∷ ts) (u ∷ us) first second = (
  same_key s t u (first.0.scheme ∙ sym second.0.scheme) first.0.key second.0.key,
  one_files s bs ts us first.1 second.1,
)

pub one_counts : (n : ℕ) (ds : List Dependency) (plan : List Attributes) (one other : List ℕ) → AllZip (DeterminesSoMany n ds) plan one
    → AllZip (DeterminesSoMany n ds) plan other → one ≡ other
one_counts n ds [] [] [] first second = refl
one_counts n ds [] [] (e ∷ es) first second = absurd second
one_counts n ds [] (c ∷ cs) es first second = absurd first
one_counts n ds (x ∷ plan) [] es first second = absurd first
one_counts n ds (x ∷ plan) (c ∷ cs) [] first second = absurd second
one_counts n ds (x ∷ plan) (c ∷ cs) (e ∷ es) first second =
    ap (λ (k : ℕ). k ∷ cs) (one_count n ds x c e first.0 second.0)
    ∙ ap (λ (ks : List ℕ). e ∷ ks) (one_counts n ds plan cs es first.1 second.1)

-- ---- in groups
pub append_alike : (one other more also : List KeyedScheme) → AreAlike one other → AreAlike more also → AreAlike (one ++ more) (other ++ also)
append_alike [] [] more also first second = second
append_alike [] (u ∷ us) more also first second = absurd first
append_alike (t ∷ ts) [] more also first second = absurd first
append_alike (t ∷ ts) (u ∷ us) more also first second = (first.0, append_alike ts us more also first.1 second)

with_alike : (number : ℕ) (one other : List KeyedScheme) (counts : List ℕ) → AreAlike one other
    → AreAlike (with_number number one counts) (with_number number other counts)
with_alike number [] [] counts alike = tt
with_alike number [] (u ∷ us) counts alike = absurd alike
with_alike number (t ∷ ts) [] counts alike = absurd alike
with_alike number (t ∷ ts) (u ∷ us) [] alike = tt
with_alike number (t ∷ ts) (u ∷ us) (m ∷ ms) alike = by (m == number) (with_alike number ts us ms alike.1)
  where
    by : (b : Bool) → AreAlike (with_number number ts ms) (with_number number us ms)
        → AreAlike (if b then t ∷ with_number number ts ms else with_number number ts ms)
        (if b then u ∷ with_number number us ms else with_number number us ms)
    by true later = (alike.0, later)
    by false later = later

pub grouped_alike : (number : ℕ) (one other : List KeyedScheme) (counts : List ℕ) → AreAlike one other
    → AreAlike (grouped_below number one counts) (grouped_below number other counts)
grouped_alike zero one other counts alike = tt
grouped_alike (suc number) one other counts alike =
    append_alike (grouped_below number one counts) (grouped_below number other counts) (with_number number one counts)
    (with_number number other counts) (grouped_alike number one other counts alike) (with_alike number one other counts alike)

-- ---- readable designs
homes_alike : (one other : List KeyedScheme) → AreAlike one other → (a k : ℕ) → IsHomeAt one a k → IsHomeAt other a k
homes_alike one other alike a k =
    there_alike (λ t. has_outside_key t a ≡ true) (λ t. has_outside_key t a ≡ true)
    (λ t u same has. sym (outside_alike t u same a) ∙ has) one other alike k

one_home_alike : (one other : List KeyedScheme) → AreAlike one other → (a : ℕ) → HasOneHome one a → HasOneHome other a
one_home_alike one other alike a is = record {
  home = is.home;
  is_home = homes_alike one other alike a is.home is.is_home;
  only = λ j there. is.only j (homes_alike other one (alike_back one other alike) a j there);
}

-- the table that is alike
alike_member : (one other : List KeyedScheme) → AreAlike one other → (u : KeyedScheme) → Contains other u
    → (t : KeyedScheme) × Contains one t × IsAlike t u
alike_member [] [] alike u u_in = absurd (omega (arith, u_in.1))
alike_member [] (v ∷ vs) alike u u_in = absurd alike
alike_member (t ∷ ts) [] alike u u_in = absurd alike
alike_member (t ∷ ts) (v ∷ vs) alike u u_in = elim (Contains-cases v vs u u_in) [
  | inl same ↦ (t, Contains-head t ts, subst (IsAlike t) (sym same) alike.0)
  | inr later ↦ let found = alike_member ts vs alike.1 u later in (found.0, Contains-later t ts found.0 found.1, found.2)
]

pub readable_alike : (nullable : Attributes) (one other : List KeyedScheme) → AreAlike one other → IsReadable nullable one
    → IsReadable nullable other
readable_alike nullable one other alike is = record {
  homes = λ a may. one_home_alike one other alike a (is.homes a may);
  looked_up = λ u u_in optional.
      let (t, t_in, same) = alike_member one other alike u u_in in
      let can = is.looked_up t t_in (optional_alike nullable t u same ∙ optional) in
      record {
        beside = λ a outside. can.beside a (outside_alike t u same a ∙ outside);
        home = sym (any_alike (is_home_of nullable t) (is_home_of nullable u) (home_alike nullable t u same) one other alike) ∙ can.home;
      };
}

pub any_optional_alike : (nullable : Attributes) (one other : List KeyedScheme) → AreAlike one other
    → list_any (is_optional nullable) one ≡ list_any (is_optional nullable) other
any_optional_alike nullable one other alike =
    any_alike (is_optional nullable) (is_optional nullable) (optional_alike nullable) one other alike
