-- What is left to prove of `after_group`: that there is no group where its digits are none.
use Rattle.std.proofs.Common.{sym, subst, ◌∙◌}
use Rattle.std.proofs.lemmas.Bool.{false≢true}
use Rattle.column_values.specs.Uuids.{IsHexGroup}
use Rattle.column_values.proofs.DigitLemmas.{SameParts, same_cut}
use Rattle.column_values.proofs.uuids.after_group.Goals as goal

pub returns-else-is_hex_group-clause-none : goal.returns-else-is_hex_group-clause-none
returns-else-is_hex_group-clause-none c = λ group rest is_group e.
    let parts : SameParts c.in-Some.group.now c.in-Some.rest.now group rest =
    same_cut 45 c.in-Some.group.now c.in-Some.rest.now group rest (c.in-Some.ensures.counted ∙ sym is_group.counted) (sym c.in-Some.ensures.parts ∙ e) in
    false≢true (sym c.if-is_hex_group.false ∙ c.is_hex_group.ensures.group.1 (subst (IsHexGroup c.args.count) (sym parts.fronts) is_group))
