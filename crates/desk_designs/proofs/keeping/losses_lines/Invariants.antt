-- What the loop of `losses_lines` keeps, in terms of `loss_text`.
use Rattle.std.proofs.Common.{◌≡◌, take}
use Rattle.std.specs.List.{flat_map}
use Rattle.desk_designs.specs.Keeping.{loss_text}
use Rattle.desk_designs.proofs.keeping.losses_lines.Given as goal

abbrev pub invariant-loop-loss : goal.invariant-loop-loss
invariant-loop-loss l = l.text.items ≡ flat_map (loss_text l.schema) (take l.loss-index l.losses)
