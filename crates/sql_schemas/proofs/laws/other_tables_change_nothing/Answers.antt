-- The law `other_tables_change_nothing`, by `AboutLemmas`.
use Rattle.sql_schemas.proofs.AboutLemmas.{about_imported, about_read}
use Rattle.sql_schemas.proofs.laws.other_tables_change_nothing.Goals as goal

pub returns : goal.returns
returns c = record { read = about_read; imported = about_imported }
