-- Lists of keys closed under the exchange of a right side for its left side: for the law
-- `all_keys_by_exchange`. `Desk` does not cite it.
use Rattle.std.specs.Prelude.{List, All, Any}
use Rattle.attr_sets.specs.Attributes.{Attributes, union, difference, IsSubset}
use Rattle.dep_model.specs.Dependencies.{Dependency, left_of, right_of}

-- some set of a list lies within x
abbrev pub HoldsOne : List Attributes → Attributes → Type 0
HoldsOne keys x = Any (λ key. IsSubset key x) keys

-- where a dependency gives what a key of the list has on its right side, what is left with the left
-- side holds a key of the list
abbrev pub IsExchanged : List Dependency → List Attributes → Type 0
IsExchanged ds keys =
    All (λ d. All (λ key. HoldsOne keys (union (left_of d) (difference key (right_of d)))) keys) ds
