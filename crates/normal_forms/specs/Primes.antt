-- Prime attributes as they are found one after the other: for the test of third form. `Desk` does
-- not cite it.
use Rattle.std.specs.Prelude.{◌≡◌, ℕ, ◌<◌, true, List}
use Rattle.attr_sets.specs.Attributes.{Attributes, only, union, IsSubset}
use Rattle.attr_sets.specs.Sets.{attributes}
use Rattle.dep_model.specs.Dependencies.{Dependency}
use Rattle.dep_model.specs.Keys.{IsSuperkey, IsPrime}
use Rattle.normal_forms.specs.declared.primes.Sifted.{Sifted}
use Rattle.normal_forms.specs.declared.primes.Sifted.TheVariants.{Prime, NotPrime}

-- a set is no superkey of a scheme, and becomes one with an attribute
abbrev pub BecomesSuperkeyBy : ℕ → List Dependency → Attributes → Attributes → ℕ → Type 0
BecomesSuperkeyBy n ds scheme x a =
    IsSuperkey n ds scheme (union x (only a)) × (IsSuperkey n ds scheme x → ⊥)

-- each attribute of a set is prime in a scheme
abbrev pub ArePrime : ℕ → List Dependency → Attributes → Attributes → Type 0
ArePrime n ds scheme x = (a : ℕ) → x a ≡ true → IsPrime n ds scheme a

-- what is known of some attributes: that they are prime, as are these and those that were known
-- before; or which is the least that is not
abbrev pub IsPrimeOrNot : ℕ → List Dependency → Attributes → Attributes → Attributes → Sifted → Type 0
IsPrimeOrNot n ds scheme primes asked (Prime known) =
    ArePrime n ds scheme (attributes known) × IsSubset asked (attributes known) × IsSubset primes (attributes known)
IsPrimeOrNot n ds scheme primes asked (NotPrime a) =
    (asked a ≡ true) × (IsPrime n ds scheme a → ⊥)
    × ((b : ℕ) → b < a → asked b ≡ true → IsPrime n ds scheme b)
