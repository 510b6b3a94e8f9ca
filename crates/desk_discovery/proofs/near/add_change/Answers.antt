-- What is left to prove of `add_change`: its clause `added`, where some rows must change.
use Rattle.desk_discovery.proofs.NearLemmas.{change_added}
use Rattle.desk_discovery.proofs.near.add_change.Goals as goal

pub returns : goal.returns
returns c = record {
  added = change_added c.args.text.now.items c.add.new.text.items c.add_number.new.text.items c.add-2.new.text.items c.args.error c.if-error-eq0.false
      c.in_ok-add.ensures.added c.in_ok-add_number.ensures.added c.in_ok-add-2.ensures.added;
}
