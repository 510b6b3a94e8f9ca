-- What is left to prove of `test_folder`: its clause `exit`, where the look found something that is no empty folder.
use Rattle.std.proofs.Common.{Bool, subst}
use Rattle.std.specs.Prelude.{IsTrue}
use Rattle.desk_tables.proofs.own_folders.test_folder.Goals as goal

pub returns-else-is_free-clause-exit : goal.returns-else-is_free-clause-exit
returns-else-is_free-clause-exit c = λ looks look response is. (
  subst (λ (free : Bool). IsTrue (looks c.args.folder.now free)) c.if-is_free.false look,
  c.not_empty_exit.ensures.says response is,
)
