-- What is left to prove of `table_name`: its clause `name`, what `write_digits` and `unwrap`
-- require, and that its sums fit, by `is_table_name` and `last_bytes`.
use Rattle.std.proofs.Common.{◌≡◌, ℕ, ◌-◌, ◌≤◌, length, drop, take, List, Option, append-nil, arith, sym, subst, ◌∙◌, IsTrue}
use Rattle.std.specs.Prelude.{IfSome}
use Rattle.schema_model.specs.declared.name.Name.{Name}
use Rattle.std.specs.Fmt.{decimal}
use Rattle.std.proofs.lemmas.Fmt.{length-decimal-le}
use Rattle.schema_model.specs.Names.{is_bare_name}
use Rattle.schema_model.proofs.NameLemmas.{bare_name_is_name}
use Rattle.table_names.proofs.NumeralLemmas.{is_table_name, last_bytes}
use Rattle.table_names.proofs.numbered.table_name.Goals as goal

pub write_digits-start-requires : goal.write_digits-start-requires
write_digits-start-requires c =
    let short : length (decimal c.args.number) ≤ 10 =
    length-decimal-le 10 c.args.number (omega arith) (omega arith) (omega arith) in
    (omega arith, omega arith)

pub overflow_sub-start : goal.overflow_sub-start
overflow_sub-start c =
    let short : length (decimal c.args.number) ≤ 10 =
    length-decimal-le 10 c.args.number (omega arith) (omega arith) (omega arith) in
    omega (arith, c.write_digits-start.ensures.start)

pub unwrap-requires : goal.unwrap-requires
unwrap-requires c =
    let start : ℕ = c.write_digits-start.result in
    let short : length (decimal c.args.number) ≤ 10 =
    length-decimal-le 10 c.args.number (omega arith) (omega arith) (omega arith) in
    let written = c.write_digits-start.ensures.written ∙ append-nil (decimal c.args.number) in
    let bytes = last_bytes c.write_digits-start.new.buf (start - 1) start c.args.number (omega arith)
    (omega arith) c.write_digits-start.ensures.start written c.write_digits-start.ensures.before in
    c.new.ensures.name.1 (bare_name_is_name _
    (subst (λ (l : List ℕ). IsTrue (is_bare_name l)) (sym bytes) (is_table_name c.args.number (omega arith))))

pub returns : goal.returns
returns c =
    let start : ℕ = c.write_digits-start.result in
    let short : length (decimal c.args.number) ≤ 10 =
    length-decimal-le 10 c.args.number (omega arith) (omega arith) (omega arith) in
    let written = c.write_digits-start.ensures.written ∙ append-nil (decimal c.args.number) in
    let bytes = last_bytes c.write_digits-start.new.buf (start - 1) start c.args.number (omega arith)
    (omega arith) c.write_digits-start.ensures.start written c.write_digits-start.ensures.before in
    record {
      name = subst
          (λ (o : Option Name). IfSome o
          (λ n. n ≡ take (11 - (start - 1))
          (drop (start - 1) c.write_digits-start.new.buf))) c.unwrap.ensures c.new.ensures.value ∙ bytes;
    }
