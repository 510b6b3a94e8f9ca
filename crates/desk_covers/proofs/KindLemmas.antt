-- Whether all dependencies of a schema are functional, as its text says it.
use Rattle.std.proofs.Common.{◌≡◌, List, Bool, true, false, refl}
use Rattle.std.specs.List.{list_all}
use Rattle.std.proofs.lemmas.Bool.{false_from_ne_true, false≢true}
use Rattle.std.proofs.lemmas.List.Sums.{AllPass-from_list_all, list_all-from_AllPass}
use Rattle.dep_model.specs.declared.dep.Dep.{Dep}
use Rattle.dep_model.specs.Dependencies.{Dependency, is_fd, functional_part}
use Rattle.dep_model.specs.Deps.{dependencies_of}
use Rattle.dep_model.proofs.DepLemmas.{dependencies_all-to, functional_list}
use Rattle.fd_closure.proofs.ClosedSets.{all_functional}
use Rattle.schema_model.specs.Schemas.{Schema, deps_of, theory_of}
use Rattle.std.specs.Prelude.{IsTrue, ◌↔◌}

each_functional : (ds : List Dependency) → functional_part ds ≡ ds → list_all is_fd ds ≡ true
each_functional ds same = list_all-from_AllPass is_fd ds (all_functional ds same)

same_part : (ds : List Dep) → list_all is_fd (dependencies_of ds) ≡ true → functional_part (dependencies_of ds) ≡ dependencies_of ds
same_part ds each =
    functional_list ds (dependencies_all-to (λ (d : Dependency). is_fd d ≡ true) ds (AllPass-from_list_all is_fd (dependencies_of ds) each))

pub functional_told : (schema : Schema) (b : Bool) → IsTrue b ↔ (functional_part (theory_of schema) ≡ theory_of schema)
    → list_all is_fd (theory_of schema) ≡ b
functional_told schema true exact = each_functional (theory_of schema) (exact.0 refl)
functional_told schema false exact =
    false_from_ne_true (list_all is_fd (theory_of schema)) (λ each. false≢true (exact.1 (same_part (deps_of schema) each)))
