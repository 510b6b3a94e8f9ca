-- What is left to prove of `dependency_and_others`: its clauses.
use Rattle.std.proofs.Common.{List, sym, ap, subst, ◌∙◌}
use Rattle.std.specs.List.{remove}
use Rattle.std.specs.Prelude.{All, Some}
use Rattle.dep_model.specs.declared.dep.Dep.{Dep}
use Rattle.dep_model.specs.Deps.{dependency_of, dependencies_of, IsDepWithin}
use Rattle.dep_model.specs.Theories.{deps_of, universe_of}
use Rattle.cover_accounts.proofs.CoverLemmas.{remove_map, remove_all}
use Rattle.cover_accounts.proofs.GatheringLemmas.{read_at, within_at}
use Rattle.cover_accounts.proofs.others.dependency_and_others.Goals as goal

pub returns : goal.returns
returns c =
    let s = c.args.theory.now in
    let k = c.args.k in
    let dep = c.remove-dep.result in
    let given = c.in_ok-others.ensures.items ∙ c.deps.ensures.deps in
    let removed = c.remove-dep.ensures.items ∙ ap (λ (ds : List Dep). remove ds k) given in
    record {
      dep = read_at s c.in_ok-others.others.items k dep given c.requires.position
          ∙ ap (λ (d : Dep). Some (dependency_of d)) (sym c.remove-dep.ensures.value);
      others = ap dependencies_of removed ∙ remove_map (deps_of s) k;
      dep_within = subst (λ (d : Dep). IsDepWithin (universe_of s) d) (sym c.remove-dep.ensures.value)
          (within_at s c.in_ok-others.others.items k dep given c.requires.position);
      others_within = subst (λ (ds : List Dep). All (IsDepWithin (universe_of s)) ds) (sym removed)
          (remove_all (IsDepWithin (universe_of s)) (deps_of s) k s.valid.deps_within);
    }
