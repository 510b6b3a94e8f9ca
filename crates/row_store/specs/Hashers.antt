-- The hasher that a way of hashing begins with.
use Rattle.std.specs.declared.hash.DefaultHasher.{DefaultHasher}
use Rattle.std.specs.Hash.DefaultHasher.{initial}
use Rattle.std.specs.RandomState.{initial_hasher}
use Rattle.row_store.specs.declared.hashing.Hashing.{Hashing}
use Rattle.row_store.specs.declared.hashing.Hashing.TheVariants.{Random, Fixed}

abbrev pub hasher_of : Hashing → DefaultHasher
hasher_of (Random state) = initial_hasher state
hasher_of Fixed = initial
