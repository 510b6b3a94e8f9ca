-- What is left to prove of `equal_rows`: its clause, for all columns.
use Rattle.std.proofs.Common.{subst}
use Rattle.std.specs.Prelude.{IfOk}
use Rattle.attr_sets.specs.Attributes.{Attributes}
use Rattle.row_groups.specs.Interning.{groups_of}
use Rattle.row_groups.specs.Numberings.{AreGroups}
use Rattle.fd_search.proofs.numbered.equal_rows.Goals as goal

pub returns : goal.returns
returns c = record {
  groups = subst (λ (x : Attributes). IfOk c.by_agreement.result (λ g. AreGroups c.args.rows.now x (groups_of g)))
      c.full.ensures.members
      (c.by_agreement.ensures.groups c.args.width c.args.rows.now c.in_ok-codes.ensures.codes);
}
