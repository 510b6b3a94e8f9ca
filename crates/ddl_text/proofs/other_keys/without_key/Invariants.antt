-- What the loop of `without_key` keeps: the keys so far, but for the one.
use Rattle.std.proofs.Common.{◌≡◌, take}
use Rattle.attr_sets.specs.Sets.{attributes}
use Rattle.ddl_text.specs.Designs.{without_key}
use Rattle.ddl_text.proofs.other_keys.without_key.Given as goal

abbrev pub invariant-loop-other : goal.invariant-loop-other
invariant-loop-other l = l.others.items ≡ without_key (attributes l.key) (take l.other-index l.keys)
