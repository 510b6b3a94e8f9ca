-- The tables of a migration have different names: their numbers differ, names that are given are apart, and none of
-- these is that of a number.
use Rattle.std.proofs.Common.{◌≡◌, ◌<◌, ◌^◌, ℕ, List, [], length, get_or, ap, ◌∙◌, sym, arith}
use Rattle.std.specs.Prelude.{◌≢◌, AllPairs}
use Rattle.std.proofs.lemmas.Bool.{true≢false}
use Rattle.attr_sets.specs.Attributes.{Attributes}
use Rattle.schema_model.specs.Names.{same_name}
use Rattle.dep_model.specs.Tuples.{Relation}
use Rattle.schema_model.specs.Schemas.{Schema}
use Rattle.plan_printer.specs.NamedPlans.{AreApart}
use Rattle.named_tables.specs.Tables.{TableValue}
use Rattle.table_names.specs.TableNames.{GivenNames, name_of_table}
use Rattle.optional_tables.proofs.HomeLemmas.{no_table}
use Rattle.desk_tables.specs.Migrations.{AreTablesOf}
use Rattle.plan_printer.proofs.NameLemmas.{same_itself, tables_named_apart}
use Rattle.plan_laws.proofs.DesignedLaws.{from_zero, tables_length, table_at}

pub names_differ : (s : Schema) (names : GivenNames) (plan : List Attributes) (rows : Relation)
    (tables : List TableValue) → AreApart names → AreTablesOf s names plan rows tables
    → length tables < 2 ^ 64 → AllPairs (λ (one other : TableValue). one.name ≢ other.name) tables
names_differ s names plan rows tables apart are short i j d less within = λ same.
    let equal : name_of_table names i ≡ name_of_table names j =
    sym (name i (omega (arith, less, within))) ∙ same ∙ name j within in
    true≢false (sym (same_itself (name_of_table names j))
    ∙ ap (λ (word : List ℕ). same_name word (name_of_table names j)) (sym equal)
    ∙ tables_named_apart names i j apart less (omega (arith, short, within)))
  where
    name : (k : ℕ) → k < length tables → (get_or tables k d).name ≡ name_of_table names k
    name k lt =
        ap (λ (t : TableValue). t.name)
        (ap (λ (l : List TableValue). get_or l k d) are.projections
        ∙ table_at s names rows 0 are.design k no_table d
        (omega (arith, lt, ap length are.projections, tables_length s names rows 0 are.design)))
        ∙ from_zero names k

pub none_given : AreApart []
none_given = record { apart = λ i j d less within. absurd (omega (arith, within)); own = λ i d within. absurd (omega (arith, within)) }
