-- What is left to prove of `test_other_name`: why it ends the command.
use Rattle.std.proofs.Common.{◌≡◌, ℕ, List, Some, sym, subst}
use Rattle.sql_scripts.specs.Naming.{met_name}
use Rattle.desk_scripts.proofs.scripts.test_other_name.Goals as goal

pub returns-in-Some : goal.returns-in-Some
returns-in-Some c =
    let met : met_name c.args.names.now c.args.name.now ≡ Some c.in-Some.met =
    subst (λ (word : List ℕ). met_name c.args.names.now word ≡ Some c.in-Some.met) c.bytes.ensures.bytes (sym c.in-Some.ensures.met) in
    record { ok = tt; exit = λ response is. (c.in-Some.met, met, c.met_table_exit.ensures.says response is) }
