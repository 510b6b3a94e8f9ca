-- What the node of a certificate line concludes: for `CheckerStates` and the reader of certificates. `Desk`
-- does not cite it.
use Rattle.std.specs.Prelude.{ℕ, ◌==◌, ◌-◌, Bool, false, ◌&&◌, if◌then◌else◌, Result, Ok, Err}
use Rattle.attr_sets.specs.Sets.{is_same}
use Rattle.schema_model.specs.Schemas.{Schema, theory_in}
use Rattle.dep_model.specs.Dependencies.{Dependency, fd, mvd}
use Rattle.derivation.specs.declared.fault.FaultKind.{FaultKind}
use Rattle.derivation.specs.declared.fault.FaultKind.TheVariants.{NoSuchGiven}
use Rattle.derivation.specs.Trees.{Tree, leaf, given}
use Rattle.derivation.specs.Table.{leaf_conclusion}

-- a tree with what its root concludes
abbrev pub with_tree : Tree → Result Dependency FaultKind → Result (Tree × Dependency) FaultKind
with_tree t (Ok d) = Ok (t, d)
with_tree t (Err why) = Err why

-- the dependency of this number, from 1
abbrev pub given_outcome : Schema → ℕ → Result (Tree × Dependency) FaultKind
given_outcome s k = if k == 0 then Err NoSuchGiven
    else with_tree (leaf (given (k - 1))) (leaf_conclusion (theory_in s) (given (k - 1)))

-- whether two dependencies are one
abbrev pub same_dependency : Dependency → Dependency → Bool
same_dependency (fd x y) (fd v w) = is_same x v && is_same y w
same_dependency (mvd x y) (mvd v w) = is_same x v && is_same y w
same_dependency _ _ = false
