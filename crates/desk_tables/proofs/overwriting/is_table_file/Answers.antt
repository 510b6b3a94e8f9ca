-- What is left to prove of `is_table_file`: that a round of its loop keeps the invariant.
use Rattle.std.proofs.Common.{inl, inr, arith, rules, ◌≡◌, ℕ, false, subst}
use Rattle.std.proofs.lemmas.Bool.{cases_lt}
use Rattle.table_names.specs.TableNames.{name_of_table}
use Rattle.desk_tables.specs.Overwriting.{is_file_of, plain_name}
use Rattle.desk_tables.proofs.overwriting.is_table_file.Goals as goal

pub loop-i-preserved : goal.loop-i-preserved
loop-i-preserved c = record {
  none = λ k l. elim (cases_lt k c.loop-i.i) [
    | inl front ↦ c.loop-i.invariant.none k front
    | inr last ↦
        let at : c.loop-i.i ≡ k = omega (arith, l, last) in
        let here : is_file_of (name_of_table c.args.names.now c.loop-i.i) (plain_name c.args.name.now) ≡ false =
        search (rules, c.in_ok-is_file_of.ensures.is, c.name_of_table.ensures.name, c.without_dot-plain.ensures.plain, c.if-branch.false) in
        subst (λ (n : ℕ). is_file_of (name_of_table c.args.names.now n) (plain_name c.args.name.now) ≡ false) at here
  ];
}
