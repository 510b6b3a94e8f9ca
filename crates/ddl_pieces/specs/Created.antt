-- When statements create the tables of a design: for the law of its text, and for the laws that read it back.
-- `Desk` does not cite it.
use Rattle.std.specs.Prelude.{◌≡◌, ℕ, List, [], ◌∷◌, None}
use Rattle.schema_model.specs.Schemas.{Schema}
use Rattle.ddl_text.specs.declared.table.TableDesign.{TableDesign}
use Rattle.sql_lexemes.specs.Statements.{Stated}
use Rattle.ddl_pieces.specs.Pieces.{create_lexemes}

-- a statement creates a table, and no flaw ends it
pub record IsCreated (s : Schema) (tables : List TableDesign) (table : TableDesign) (statement : Stated)
    : Type 0 where
  pub place : ℕ
  pub lexemes : statement.lexemes ≡ create_lexemes place s tables table
  pub whole : statement.flaw ≡ None

-- nothing stands in a statement, and no flaw ends it
pub record IsNothing (statement : Stated) : Type 0 where
  pub lexemes : statement.lexemes ≡ []
  pub whole : statement.flaw ≡ None

-- statements create tables, one each, in order, and nothing stands after them
abbrev pub AreCreated : Schema → List TableDesign → List TableDesign → List Stated → Type 0
AreCreated s all [] [] = ⊥
AreCreated s all [] (last ∷ []) = IsNothing last
AreCreated s all [] (last ∷ other ∷ others) = ⊥
AreCreated s all (table ∷ tables) [] = ⊥
AreCreated s all (table ∷ tables) (statement ∷ statements) =
    IsCreated s all table statement × AreCreated s all tables statements
