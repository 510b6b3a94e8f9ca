-- Quoted names one after the other.
use Rattle.std.proofs.Common.{refl}
use Rattle.sql_syntax.specs.Names.{quoted_name}
use Rattle.sql_syntax.proofs.ListLemmas.{listed_next}
use Rattle.sql_syntax.proofs.name_list.add_names.Goals as goal

pub loop-i-preserved : goal.loop-i-preserved
loop-i-preserved c =
    listed_next quoted_name _ _ _ _ _ _ _ _ c.loop-i-test.true c.index-names-i.is c.loop-i.invariant refl c.in_ok-add_listed_name.ensures.added
