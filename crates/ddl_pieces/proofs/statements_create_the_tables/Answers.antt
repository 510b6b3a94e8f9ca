-- The law `statements_create_the_tables`, by `Statements`.
use Rattle.std.proofs.Common.{refl}
use Rattle.sql_lexemes.specs.Statements.{scan_from}
use Rattle.sql_lexemes.specs.declared.piece.Before.TheVariants.{LineStart}
use Rattle.ddl_pieces.proofs.Statements.{design_created}
use Rattle.ddl_pieces.proofs.statements_create_the_tables.Goals as goal

pub returns : goal.returns
returns c = record {
  law = λ d s tables names sound.
      design_created d (scan_from LineStart 0) s tables names sound refl refl;
}
