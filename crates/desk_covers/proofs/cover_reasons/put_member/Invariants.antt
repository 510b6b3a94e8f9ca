-- What the loop of `put_member` keeps, in terms of `needless_text`.
use Rattle.std.proofs.Common.{◌≡◌, ◌++◌}
use Rattle.std.specs.List.{flat_map}
use Rattle.attr_sets.specs.Attributes.{difference}
use Rattle.attr_sets.specs.Sets.{attributes}
use Rattle.cover_accounts.specs.Steps.{shortened_of}
use Rattle.dep_model.specs.Projections.{members_below}
use Rattle.desk_covers.specs.CoverReasons.{needless_text}
use Rattle.desk_covers.proofs.cover_reasons.put_member.Given as goal

abbrev pub invariant-loop-a : goal.invariant-loop-a
invariant-loop-a l =
    l.text.items ≡ l.fn.text.items ++ flat_map (needless_text l.schema (shortened_of l.member))
    (members_below l.a (difference (attributes l.member.whole) (attributes l.member.left)))
