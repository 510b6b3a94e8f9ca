-- What grows less at each call of `search_keys`.
use Rattle.attr_sets.specs.Attributes.{count_below}
use Rattle.attr_sets.specs.Sets.{attributes}
use Rattle.attr_sets.specs.declared.set.TheConstants.{MOST_ATTRIBUTES}
use Rattle.which_form.proofs.searching.+search_keys.Given as goal

abbrev pub decreases-search_keys : goal.decreases-search_keys
decreases-search_keys l = count_below (attributes l.rest) MOST_ATTRIBUTES
