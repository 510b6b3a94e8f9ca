-- What grows less at each call of `add_keys`.
use Rattle.attr_sets.specs.Attributes.{difference, count_below}
use Rattle.attr_sets.specs.Sets.{attributes}
use Rattle.attr_sets.specs.declared.set.TheConstants.{MOST_ATTRIBUTES}
use Rattle.key_listing.proofs.searching.+add_keys.Given as goal

abbrev pub decreases-add_keys : goal.decreases-add_keys
decreases-add_keys l = count_below (difference (attributes l.most) (attributes l.least)) MOST_ATTRIBUTES
