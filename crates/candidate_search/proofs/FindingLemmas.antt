-- What dependencies that rows obey imply, the rows obey too, and one that they obey may join the others.
use Rattle.std.proofs.Common.{◌≡◌, ◌++◌, ◌<◌, ℕ, List, [], ◌∷◌, sym, subst, arith}
use Rattle.std.specs.Prelude.{All}
use Rattle.std.proofs.lemmas.Bool.Decides.{nat_tests}
use Rattle.std.proofs.lemmas.List.{map_push}
use Rattle.std.proofs.lemmas.List.Elements.{All-filter, All-nil, All-push}
use Rattle.attr_sets.specs.Attributes.{Attributes, IsSubset, below, only}
use Rattle.attr_sets.specs.Sets.{attributes}
use Rattle.attr_sets.specs.declared.set.AttrSet.{AttrSet}
use Rattle.dep_model.specs.Dependencies.{Dependency, Obeys, ObeysFd, IsWithin, fd, functional_part, is_fd}
use Rattle.dep_model.specs.Deps.{dependencies_of, dependency_of, IsDepWithin}
use Rattle.dep_model.specs.Implication.{Implies}
use Rattle.dep_model.specs.Tuples.{Relation, IsOver}
use Rattle.dep_model.specs.declared.dep.Dep.{Dep}
use Rattle.candidate_search.specs.Asking.{IsAskedWithin}
use Rattle.candidate_search.specs.Findings.{AreFindings, AreObeyed}
use Rattle.candidate_search.specs.Levels.{IsLevel}
use Rattle.candidate_search.specs.declared.asking.Asked.{Asked}
use Rattle.candidate_search.specs.declared.findings.Findings.{Findings}

-- an attribute below a bound, as a set
pub only_below : (a n : ℕ) → a < n → IsSubset (only a) (below n)
only_below a n low = λ (k : ℕ) member. grind (arith, nat_tests, member, low)

pub implied_obeyed : (n : ℕ) (r : Relation) (deps : List Dep) (x : Attributes) (right : AttrSet) (a : ℕ) → IsOver n r
    → AreObeyed n r deps → attributes right ≡ only a → Implies n (functional_part (dependencies_of deps)) (fd x (attributes right))
    → ObeysFd x (only a) r
implied_obeyed n r deps x right a over are is implied =
    subst (λ (y : Attributes). ObeysFd x y r) is
    (implied r (record {
      over = over;
      obeys = All-filter is_fd (λ (d : Dependency). Obeys n d r) (dependencies_of deps) are.obeyed;
    }))

pub obeyed_push : (n : ℕ) (r : Relation) (deps : List Dep) (dep : Dep) (asked : Asked) → AreObeyed n r deps
    → IsAskedWithin n asked → dependency_of dep ≡ fd (attributes asked.left) (only asked.right)
    → ObeysFd (attributes asked.left) (only asked.right) r → AreObeyed n r (deps ++ dep ∷ [])
obeyed_push n r deps dep asked are low is obeys = record {
  within = All-push (IsDepWithin (below n)) deps dep are.within
      (subst (IsWithin (below n)) (sym is) (low.left, only_below asked.right n low.right));
  obeyed = subst (All (λ (d : Dependency). Obeys n d r)) (sym (map_push dependency_of deps dep))
      (All-push (λ (d : Dependency). Obeys n d r) (dependencies_of deps) (dependency_of dep) are.obeyed
      (subst (λ (d : Dependency). Obeys n d r) (sym is) obeys));
}

-- before anything is tested
pub none_found : (n : ℕ) (r : Relation) (findings : Findings) → findings.levels.items ≡ [] → findings.obeyed.items ≡ []
    → AreFindings n r findings
none_found n r findings no_levels none = record {
  levels = subst (All (IsLevel r)) (sym no_levels) (All-nil (IsLevel r));
  obeyed = subst (AreObeyed n r) (sym none) (record {
    within = All-nil (IsDepWithin (below n));
    obeyed = All-nil (λ (d : Dependency). Obeys n d r);
  });
}
