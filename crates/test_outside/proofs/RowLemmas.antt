-- How many values of a row a scheme takes.
use Rattle.std.proofs.Common.{◌≡◌, ◌<◌, ℕ, List, [], ◌∷◌, ◌++◌, All, length, ap, sym, subst, ◌∙◌, arith}
use Rattle.std.proofs.lemmas.List.Elements.{All-push}
use Rattle.attr_sets.specs.Attributes.{Attributes, only, count_below}
use Rattle.attr_sets.proofs.AttributesLemmas.{count_below-only}
use Rattle.dep_model.specs.Projections.{project_tuple}
use Rattle.dep_model.specs.Tuples.{Tuple, Relation, IsOver}
use Rattle.dep_model.proofs.SchemeLemmas.{length-project_tuple}
use Rattle.row_store.specs.Rows.{row_at}
use Rattle.named_tables.specs.Choices.{HasRows}
use Rattle.named_tables.specs.declared.table.ChosenTable.{ChosenTable}

-- a row of one value is there, and has a value for the one column
abbrev IsChosen : Attributes → Relation → List (List ℕ) → ℕ → Type 0
IsChosen scheme rows columns i = (i < length rows) × (length (project_tuple scheme (row_at rows i)) ≡ length columns)

one_value : (scheme : Attributes) (rows : Relation) (i : ℕ) → scheme ≡ only 0 → IsOver 1 rows → i < length rows
    → length (project_tuple scheme (row_at rows i)) ≡ 1
one_value scheme rows i is over within =
    length-project_tuple scheme (row_at rows i) ∙ ap (count_below scheme) (over i _ within)
    ∙ ap (λ (s : Attributes). count_below s 1) is ∙ count_below-only 1 0 (omega arith)

pub one_more : (scheme : Attributes) (rows : Relation) (columns : List (List ℕ)) (name : List ℕ) (there after : List ℕ)
    (i : ℕ) → scheme ≡ only 0 → columns ≡ name ∷ [] → IsOver 1 rows → i < length rows
    → All (λ k. (k < length rows) × (length (project_tuple scheme (row_at rows k)) ≡ length columns)) there
    → after ≡ there ++ i ∷ []
    → All (λ k. (k < length rows) × (length (project_tuple scheme (row_at rows k)) ≡ length columns)) after
one_more scheme rows columns name there after i is one over within so_far pushed =
    subst (All (IsChosen scheme rows columns)) (sym pushed)
    (All-push (IsChosen scheme rows columns) there i so_far
    (within, one_value scheme rows i is over within ∙ sym (ap length one)))

-- one row and one table more
pub row_more : (rows after : Relation) (row : Tuple) → length row ≡ 1 → IsOver 1 rows → after ≡ rows ++ row ∷ []
    → IsOver 1 after
row_more rows after row one over pushed =
    subst (IsOver 1) (sym pushed) (All-push (λ (t : Tuple). length t ≡ 1) rows row over one)

pub table_more : (rows : Relation) (tables after : List ChosenTable) (table : ChosenTable) → HasRows rows table
    → All (HasRows rows) tables → after ≡ tables ++ table ∷ [] → All (HasRows rows) after
table_more rows tables after table has so_far pushed =
    subst (All (HasRows rows)) (sym pushed) (All-push (HasRows rows) tables table so_far has)
