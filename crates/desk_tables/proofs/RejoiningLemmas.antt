-- What is answered of files as a design is answered of the files.
use Rattle.std.proofs.Common.{◌≡◌, ◌+◌, ◌<◌, ℕ, true, List, [], ◌∷◌, length, Result, Ok, Err, refl, sym, ap, ap₂, subst, ◌∙◌, inl, inr}
use Rattle.std.proofs.lemmas.List.{length-map}
use Rattle.std.proofs.lemmas.List.Elements.{All-cons, All-head, All-nil, All-tail}
use Rattle.std.specs.Prelude.{All}
use Rattle.std.specs.List.{AllZip, list_any}
use Rattle.design_order.specs.Order.{DeterminesSoMany}
use Rattle.attr_sets.specs.Attributes.{Attributes, IsSubset}
use Rattle.attr_sets.specs.Sets.{attributes}
use Rattle.optional_tables.specs.Homes.{is_optional}
use Rattle.optional_tables.specs.LookUps.{schemes_of_tables}
use Rattle.optional_tables.specs.Order.{look_up_order, members_at, positions_from}
use Rattle.optional_tables.specs.Readable.{IsReadable}
use Rattle.optional_tables.specs.declared.keyed.KeyedScheme.{KeyedScheme}
use Rattle.schema_model.specs.Schemas.{Schema, nullable_of, theory_of, universe_of, width_of}
use Rattle.table_join.specs.Tables.{IsTable, PartialRelation, plan_of_tables, tables_of}
use Rattle.csv_rows.specs.declared.part.PartialRows.{PartialRows}
use Rattle.desk_responses.specs.ResponseValues.{Allowed, ResponseValue}
use Rattle.desk_responses.specs.Responses.{RespondsAs}
use Rattle.desk_responses.specs.declared.response.EarlyExit.{EarlyExit}
use Rattle.desk_responses.specs.declared.response.Response.{Response}
use Rattle.desk_tables.specs.Rejoining.{IsKeyedTable, JoinsAll, JoinsTables, LooksUp, in_order, joined_tables}
use Rattle.desk_tables.proofs.OneDesignLemmas.{any_optional_alike, grouped_alike, one_counts, one_files, readable_alike}
use Rattle.desk_tables.proofs.DesigningLemmas.{length-members, length-zip, members_grouped}

-- what is allowed more
pub responds_more : (one other : Allowed) (result : Result Response EarlyExit) → ((response : ResponseValue) → one response → other response)
    → RespondsAs one result → RespondsAs other result
responds_more one other (Ok response) gives is = gives _ is
responds_more one other (Err exit) gives is = λ response e. gives _ (is response e)

-- the order in which files stand in their design
abbrev pub IsOrderOf : Schema → List KeyedScheme → List ℕ → List ℕ → Type 0
IsOrderOf s keyed counts order =
    AllZip (DeterminesSoMany (width_of s) (theory_of s)) (schemes_of_tables keyed) counts
    × (order ≡ in_order s counts (positions_from (λ (m : ℕ). true) 0 counts))

-- ---- what the parts of an answer are
-- the order of look-ups lies within the order of a design
pub low_positions : (keyed design : List KeyedScheme) (order looked_up positions : List ℕ) (many : ℕ) → length keyed ≡ many
    → All (λ (k : ℕ). k < many) order → design ≡ members_at keyed order → All (λ (p : ℕ). p < length design) looked_up
    → positions ≡ looked_up → All (λ (p : ℕ). p < length order) positions
low_positions keyed design order looked_up positions many same within is low as_they =
    let in_keyed = subst (λ (m : ℕ). All (λ (k : ℕ). k < m) order) (sym same) within in
    let long : length design ≡ length order = ap (λ (l : List KeyedScheme). length l) is ∙ length-members keyed order in_keyed in
    subst (λ (ps : List ℕ). All (λ (p : ℕ). p < length order) ps) (sym as_they)
    (subst (λ (m : ℕ). All (λ (p : ℕ). p < m) looked_up) long low)

-- keyed schemes that are those of tables lie within the schema
pub keyed_within : (s : Schema) (tables : List PartialRelation) (keyed : List KeyedScheme) → AllZip (IsKeyedTable s) tables keyed
    → All (IsTable (width_of s)) tables → All (λ (t : KeyedScheme). IsSubset (attributes t.scheme) (universe_of s)) keyed
keyed_within s tables [] keys each = All-nil (λ (t : KeyedScheme). IsSubset (attributes t.scheme) (universe_of s))
keyed_within s [] (k ∷ ks) keys each = absurd keys
keyed_within s (t ∷ ts) (k ∷ ks) keys each =
    All-cons (λ (u : KeyedScheme). IsSubset (attributes u.scheme) (universe_of s)) k ks
    (subst (λ (x : Attributes). IsSubset x (universe_of s)) (sym keys.0.scheme) (All-head (IsTable (width_of s)) t ts each).within)
    (keyed_within s ts ks keys.1 (All-tail (IsTable (width_of s)) t ts each))

-- what is answered with look-ups of parts in an order
abbrev pub AnswersLookUps : Schema → List PartialRows → List KeyedScheme → List ℕ → Result Response EarlyExit → Type 0
AnswersLookUps s parts keyed order result = RespondsAs (LooksUp s (joined_tables s (tables_of parts) keyed)
    (members_at (members_at (tables_of parts) order) (look_up_order (nullable_of s) (members_at keyed order)))) result

pub answers_same : (s : Schema) (result : Result Response EarlyExit) (one other : List PartialRows) (ks ls : List KeyedScheme)
    (os ps : List ℕ) → one ≡ other → ks ≡ ls → os ≡ ps → AnswersLookUps s one ks os result → AnswersLookUps s other ls ps result
answers_same s result one other ks ls os ps same_parts same_keyed same_order answered =
    subst (λ (x : List PartialRows). AnswersLookUps s x ls ps result) same_parts
    (subst (λ (x : List KeyedScheme). AnswersLookUps s one x ps result) same_keyed
    (subst (λ (x : List ℕ). AnswersLookUps s one ks x result) same_order answered))

-- a readable design that has an optional table
abbrev pub IsOptionalDesign : Attributes → List KeyedScheme → Type 0
IsOptionalDesign nullable design = IsReadable nullable design × (list_any (is_optional nullable) design ≡ true)

pub has_same : (one other : Attributes) (ks ls : List KeyedScheme) → one ≡ other → ks ≡ ls → IsOptionalDesign one ks
    → IsOptionalDesign other ls
has_same one other ks ls same_nullable same_design has =
    subst (λ (x : List KeyedScheme). IsOptionalDesign other x) same_design
    (subst (λ (x : Attributes). IsOptionalDesign x ks) same_nullable has)

module _ (s : Schema) (tables : List PartialRelation) (keyed : List KeyedScheme) (keys : AllZip (IsKeyedTable s) tables keyed) where
  schemes : (ts : List PartialRelation) (ks : List KeyedScheme) → AllZip (IsKeyedTable s) ts ks → schemes_of_tables ks ≡ plan_of_tables ts
  schemes [] [] each = refl
  schemes [] (k ∷ ks) each = absurd each
  schemes (t ∷ ts) [] each = absurd each
  schemes (t ∷ ts) (k ∷ ks) each = ap₂ (λ (x : Attributes) (xs : List Attributes). x ∷ xs) each.0.scheme (schemes ts ks each.1)

  -- as many numbers as tables
  pub many_keyed : (counts : List ℕ) → AllZip (DeterminesSoMany (width_of s) (theory_of s)) (schemes_of_tables keyed) counts
      → length keyed ≡ length counts
  many_keyed counts determined =
      sym (length-map keyed (λ (k : KeyedScheme). attributes k.scheme))
      ∙ length-zip (DeterminesSoMany (width_of s) (theory_of s)) (schemes_of_tables keyed) counts determined

  pub many_tables : (counts : List ℕ) → AllZip (DeterminesSoMany (width_of s) (theory_of s)) (schemes_of_tables keyed) counts
      → length tables ≡ length counts
  many_tables counts determined = length-zip (IsKeyedTable s) tables keyed keys ∙ many_keyed counts determined

  pub design_is : (counts order : List ℕ) → IsOrderOf s keyed counts order → members_at keyed order ≡ in_order s counts keyed
  design_is counts order is =
      ap (members_at keyed) is.1 ∙ members_grouped (width_of s + 1) keyed counts (many_keyed counts is.0)

  pub tables_are : (counts order : List ℕ) → IsOrderOf s keyed counts order → members_at tables order ≡ in_order s counts tables
  tables_are counts order is =
      ap (members_at tables) is.1 ∙ members_grouped (width_of s + 1) tables counts (many_tables counts is.0)

  pub determined_by : (counts order : List ℕ) → IsOrderOf s keyed counts order
      → AllZip (DeterminesSoMany (width_of s) (theory_of s)) (plan_of_tables tables) counts
  determined_by counts order is =
      subst (λ (plan : List Attributes). AllZip (DeterminesSoMany (width_of s) (theory_of s)) plan counts) (schemes tables keyed keys) is.0

  -- a readable design that has an optional table
  pub looks_up : (counts order : List ℕ) (result : Result Response EarlyExit) → IsOrderOf s keyed counts order
      → IsReadable (nullable_of s) (members_at keyed order) → list_any (is_optional (nullable_of s)) (members_at keyed order) ≡ true
      → RespondsAs (LooksUp s (joined_tables s tables keyed)
      (members_at (members_at tables order) (look_up_order (nullable_of s) (members_at keyed order)))) result
      → RespondsAs (JoinsTables s tables) result
  looks_up counts order result is readable optional answered =
      responds_more (LooksUp s (joined_tables s tables keyed)
      (members_at (members_at tables order) (look_up_order (nullable_of s) (members_at keyed order)))) (JoinsTables s tables) result
      (λ response looked.
      inl (
        keyed,
        (
          counts,
          record {
            keys = keys;
            determined = determined_by counts order is;
            readable = subst (IsReadable (nullable_of s)) (design_is counts order is) readable;
            optional = ap (list_any (is_optional (nullable_of s))) (sym (design_is counts order is)) ∙ optional;
          },
          subst (λ (others : List PartialRelation). LooksUp s (joined_tables s tables keyed) others response)
              (ap (λ (ts : List PartialRelation). members_at ts (look_up_order (nullable_of s) (members_at keyed order))) (tables_are counts order is)
              ∙ ap (λ (ks : List KeyedScheme). members_at (in_order s counts tables) (look_up_order (nullable_of s) ks)) (design_is counts order is))
              looked,
        ),
      ))
      answered

  -- no readable design that has an optional table
  pub joins_all : (counts order : List ℕ) (result : Result Response EarlyExit) → IsOrderOf s keyed counts order
      → (IsReadable (nullable_of s) (members_at keyed order)
      × (list_any (is_optional (nullable_of s)) (members_at keyed order) ≡ true) → ⊥)
      → RespondsAs (JoinsAll s tables) result → RespondsAs (JoinsTables s tables) result
  joins_all counts order result is none answered =
      responds_more (JoinsAll s tables) (JoinsTables s tables) result
      (λ response joined.
      inr (
        (λ others numbers have.
            let same_numbers : numbers ≡ counts =
            one_counts (width_of s) (theory_of s) (plan_of_tables tables) numbers counts have.determined (determined_by counts order is) in
            let alike = grouped_alike (width_of s + 1) others keyed counts (one_files s tables others keyed have.keys keys) in
            none (
              subst (IsReadable (nullable_of s)) (sym (design_is counts order is))
                  (readable_alike (nullable_of s) (in_order s counts others) (in_order s counts keyed) alike
                  (subst (λ (ks : List ℕ). IsReadable (nullable_of s) (in_order s ks others)) same_numbers have.readable)),
              ap (list_any (is_optional (nullable_of s))) (design_is counts order is)
                  ∙ sym (any_optional_alike (nullable_of s) (in_order s counts others) (in_order s counts keyed) alike)
                  ∙ subst (λ (ks : List ℕ). list_any (is_optional (nullable_of s)) (in_order s ks others) ≡ true) same_numbers have.optional,
            )),
        joined,
      ))
      answered
