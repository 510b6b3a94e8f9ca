-- The law `printed_covers_are_confirmed`, by `cover_confirmed` and `canonical_confirmed`.
use Rattle.implication_laws.proofs.WrittenCovers.{canonical_confirmed, cover_confirmed}
use Rattle.implication_laws.proofs.rewriting.printed_covers_are_confirmed.Goals as goal

pub returns : goal.returns
returns c = record { cover = cover_confirmed; canonical = canonical_confirmed }
