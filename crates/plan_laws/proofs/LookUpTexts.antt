-- Two designs that are the same table by table have the same optional tables, which are looked up in one order.
use Rattle.std.proofs.Common.{◌≡◌, ℕ, zero, suc, List, [], ◌∷◌, ◌++◌, map, refl, subst, ap, ◌∙◌}
use Rattle.std.specs.Prelude.{slice_get}
use Rattle.optional_tables.specs.Order.{always_filled, if_there, look_up_order, members_at}
use Rattle.optional_tables.proofs.AlikeLemmas.{AreAlike}
use Rattle.schema_model.specs.Schemas.{Schema}
use Rattle.schema_model.specs.Schemas.{nullable_of}
use Rattle.ddl_text.specs.Designs.{keyed}
use Rattle.ddl_text.specs.declared.table.TableDesign.{TableDesign}
use Rattle.sql_syntax.specs.Syntax.{Link}
use Rattle.sql_migrate.specs.Script.{filled_tables, looked_up_tables, look_up}
use Rattle.plan_laws.proofs.OrderAlike.{filled_alike, look_up_order_alike}
use Rattle.plan_laws.specs.SameDesigns.{IsSameTable, AreSameTables}

-- ---- members at positions
same_append : (one other more beyond : List TableDesign) → AreSameTables one other → AreSameTables more beyond
    → AreSameTables (one ++ more) (other ++ beyond)
same_append [] [] more beyond same rest = rest
same_append [] (u ∷ us) more beyond same rest = absurd same
same_append (t ∷ ts) [] more beyond same rest = absurd same
same_append (t ∷ ts) (u ∷ us) more beyond same rest = (same.0, same_append ts us more beyond same.1 rest)

there_same : (one other : List TableDesign) → AreSameTables one other → (k : ℕ)
    → AreSameTables (if_there (slice_get one k)) (if_there (slice_get other k))
there_same [] [] same k = tt
there_same [] (u ∷ us) same k = absurd same
there_same (t ∷ ts) [] same k = absurd same
there_same (t ∷ ts) (u ∷ us) same zero = (same.0, tt)
there_same (t ∷ ts) (u ∷ us) same (suc k) = there_same ts us same.1 k

members_same : (one other : List TableDesign) → AreSameTables one other → (positions : List ℕ)
    → AreSameTables (members_at one positions) (members_at other positions)
members_same one other same [] = tt
members_same one other same (k ∷ ks) =
    same_append (if_there (slice_get one k)) (if_there (slice_get other k)) (members_at one ks) (members_at other ks)
    (there_same one other same k) (members_same one other same ks)

-- ---- the tables of designs
keyed_alike : (one other : List TableDesign) → AreSameTables one other → AreAlike (map keyed one) (map keyed other)
keyed_alike [] [] same = tt
keyed_alike [] (u ∷ us) same = absurd same
keyed_alike (t ∷ ts) [] same = absurd same
keyed_alike (t ∷ ts) (u ∷ us) same = (record { scheme = same.0.columns; key = same.0.key }, keyed_alike ts us same.1)

module _ (s : Schema) (one other : List TableDesign) (same : AreSameTables one other) where
  pub filled_same : AreSameTables (filled_tables s one) (filled_tables s other)
  filled_same =
      subst (λ (ps : List ℕ). AreSameTables (filled_tables s one) (members_at other ps))
      (filled_alike (nullable_of s) (map keyed one) (map keyed other) (keyed_alike one other same))
      (members_same one other same (always_filled (nullable_of s) (map keyed one)))

  looked_up_same : AreSameTables (looked_up_tables s one) (looked_up_tables s other)
  looked_up_same =
      subst (λ (ps : List ℕ). AreSameTables (looked_up_tables s one) (members_at other ps))
      (look_up_order_alike (nullable_of s) (map keyed one) (map keyed other) (keyed_alike one other same))
      (members_same one other same (look_up_order (nullable_of s) (map keyed one)))

  look_up_same : (t u : TableDesign) → IsSameTable t u → look_up s t ≡ look_up s u
  look_up_same t u alike = simp (alike.name, alike.key)

  each_same : (ts us : List TableDesign) → AreSameTables ts us → map (look_up s) ts ≡ map (look_up s) us
  each_same [] [] alike = refl
  each_same [] (u ∷ us) alike = absurd alike
  each_same (t ∷ ts) [] alike = absurd alike
  each_same (t ∷ ts) (u ∷ us) alike =
      ap (λ (x : Link). x ∷ map (look_up s) ts) (look_up_same t u alike.0)
      ∙ ap (λ (rest : List Link). look_up s u ∷ rest) (each_same ts us alike.1)

  pub look_ups_same : map (look_up s) (looked_up_tables s one) ≡ map (look_up s) (looked_up_tables s other)
  look_ups_same = each_same (looked_up_tables s one) (looked_up_tables s other) looked_up_same
