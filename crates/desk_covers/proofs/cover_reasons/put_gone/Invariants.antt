-- What the loop of `put_gone` keeps, in terms of `all_gone_text`.
use Rattle.std.proofs.Common.{◌≡◌, ◌++◌, take}
use Rattle.cover_accounts.specs.Steps.{places_of}
use Rattle.desk_covers.specs.CoverReasons.{all_gone_text}
use Rattle.desk_covers.proofs.cover_reasons.put_gone.Given as goal

abbrev pub invariant-loop-one : goal.invariant-loop-one
invariant-loop-one l = l.text.items ≡ l.fn.text.items ++ all_gone_text l.schema (places_of (take l.one-index l.gone))
