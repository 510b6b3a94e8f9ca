-- What the loop of `put_members` keeps, in terms of `members_text`.
use Rattle.std.proofs.Common.{◌≡◌, ◌++◌, take}
use Rattle.cover_accounts.specs.Steps.{shortened_list}
use Rattle.desk_covers.specs.CoverReasons.{members_text}
use Rattle.desk_covers.proofs.cover_reasons.put_members.Given as goal

abbrev pub invariant-loop-member : goal.invariant-loop-member
invariant-loop-member l = l.text.items ≡ l.fn.text.items ++ members_text l.schema (shortened_list (take l.member-index l.members))
