-- The tables of files of some columns.
use Rattle.std.proofs.Common.{◌≡◌, ℕ, List, [], ◌∷◌, ◌++◌, sym, refl, subst, ap}
use Rattle.std.proofs.lemmas.List.Elements.{All-push}
use Rattle.std.specs.Prelude.{All}
use Rattle.csv_rows.specs.declared.part.PartialRows.{PartialRows}
use Rattle.table_join.specs.Tables.{PartialRelation, IsTable, table_of_part, tables_of}

tables_append : (parts : List PartialRows) (part : PartialRows) → tables_of (parts ++ part ∷ []) ≡ tables_of parts ++ table_of_part part ∷ []
tables_append [] part = refl
tables_append (p ∷ parts) part = ap (λ (l : List PartialRelation). table_of_part p ∷ l) (tables_append parts part)

pub tables_more : (n : ℕ) (parts : List PartialRows) (part : PartialRows) → All (IsTable n) (tables_of parts) → IsTable n (table_of_part part) → All (IsTable n) (tables_of (parts ++ part ∷ []))
tables_more n parts part all is = subst (All (IsTable n)) (sym (tables_append parts part)) (All-push (IsTable n) (tables_of parts) (table_of_part part) all is)
