-- Trees in which no node repeats what a node below it concludes: for `shorten` and `prove`. `Desk`
-- does not cite it.
use Rattle.std.specs.Prelude.{◌≡◌, ◌⊎◌}
use Rattle.dep_model.specs.Theories.{Theory}
use Rattle.dep_model.specs.Dependencies.{Dependency}
use Rattle.derivation.specs.Trees.{Tree, leaf, step, pair}
use Rattle.derivation.specs.Conclusions.{Proves}

-- a tree stands below the root of another
abbrev pub IsBelow : Tree → Tree → Type 0
IsBelow u (leaf rule) = ⊥
IsBelow u (step rule t) = (u ≡ t) ⊎ IsBelow u t
IsBelow u (pair rule t v) = ((u ≡ t) ⊎ IsBelow u t) ⊎ ((u ≡ v) ⊎ IsBelow u v)

-- a tree is another, or stands below its root
abbrev pub IsIn : Tree → Tree → Type 0
IsIn u t = (u ≡ t) ⊎ IsBelow u t

-- no node below the root concludes d
abbrev pub NoneBelow : Theory → Tree → Dependency → Type 0
NoneBelow s t d = (u : Tree) → IsBelow u t → Proves s u d → ⊥

-- no node concludes what a node below it concludes
abbrev pub IsDirect : Theory → Tree → Type 0
IsDirect s t = (u : Tree) → IsIn u t → (d : Dependency) → Proves s u d → NoneBelow s u d
