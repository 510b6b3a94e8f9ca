-- The names of the tables of a design differ, ASCII case aside, where those that are given are apart.
use Rattle.std.proofs.Common.{◌≡◌, ◌<◌, ◌≤◌, ◌∙◌, ℕ, false, List, length, get_or, take, ap, subst, sym, arith, length-take-le}
use Rattle.attr_sets.specs.declared.set.AttrSet.{AttrSet}
use Rattle.schema_model.specs.Names.{same_name}
use Rattle.schema_model.specs.Schemas.{Schema}
use Rattle.plan_printer.specs.NamedPlans.{AreApart}
use Rattle.table_names.specs.TableNames.{GivenNames, name_of_table}
use Rattle.table_names.specs.declared.numbered.TheConstants.{MOST_TABLES}
use Rattle.plan_printer.proofs.NameLemmas.{tables_named_apart}
use Rattle.ddl_text.specs.Designs.{IsDesign}
use Rattle.ddl_text.specs.declared.table.TableDesign.{TableDesign}
use Rattle.import_laws.proofs.StatementLemmas.{NamesApart}

pub tables_apart : (s : Schema) (given : GivenNames) (schemes : List AttrSet) (tables : List TableDesign)
    → IsDesign s given schemes tables → AreApart given → length tables ≤ MOST_TABLES → NamesApart tables
tables_apart s given schemes tables design apart limit i j d less low =
    subst (λ (one : List ℕ). same_name one (get_or tables j d).name ≡ false) (sym (name i (omega (arith, less, low))))
    (subst (λ (other : List ℕ). same_name (name_of_table given i) other ≡ false) (sym (name j low))
    (tables_named_apart given i j apart less (omega (arith, low, limit))))
  where
    name : (k : ℕ) → k < length tables → (get_or tables k d).name ≡ name_of_table given k
    name k within =
        let same = design.one_each in
        let size : length (take k tables) ≡ k = length-take-le k tables (omega (arith, within)) in
        (design.each k (omega (arith, within, same)) d.scheme d).name ∙ ap (name_of_table given) size
