-- What is left to prove of `follows_without`: that the dependencies of the links lie within, and what they
-- imply.
use Rattle.std.proofs.Common.{◌≡◌, ◌∙◌, sym, ap, List, ◌++◌}
use Rattle.std.proofs.lemmas.List.{map-append}
use Rattle.std.proofs.lemmas.List.Elements.{All-append}
use Rattle.dep_model.specs.declared.dep.Dep.{Dep}
use Rattle.dep_model.specs.Deps.{dependencies_of, IsDepWithin}
use Rattle.dep_model.specs.Theories.{universe_of}
use Rattle.short_derivations.specs.Links.{dep_of_link, deps_of_links, said_by}
use Rattle.short_derivations.proofs.ChainSteps.{links_within}
use Rattle.short_derivations.proofs.needing.follows_without.Goals as goal

pub is_implied_by-requires-clause-deps : goal.is_implied_by-requires-clause-deps
is_implied_by-requires-clause-deps c =
    let kept = deps_of_links c.args.kept.now in
    let rest = deps_of_links c.args.rest.now in
    let items : c.deref.result.now ≡ kept ++ rest =
    c.deref.ensures.value ∙ c.in_ok-add_link_deps-2.ensures.added
    ∙ ap (λ (ds : List Dep). ds ++ rest) (c.in_ok-add_link_deps.ensures.added ∙ ap (λ (ds : List Dep). ds ++ kept) c.new-deps.ensures.items) in
    rw (items, c.width.ensures.count) (All-append (IsDepWithin (universe_of c.args.theory.now)) kept rest
    (links_within c.args.theory.now c.args.kept.now c.requires.kept) (links_within c.args.theory.now c.args.rest.now c.requires.rest))

pub returns : goal.returns
returns c =
    let kept = deps_of_links c.args.kept.now in
    let rest = deps_of_links c.args.rest.now in
    let items : c.deref.result.now ≡ kept ++ rest =
    c.deref.ensures.value ∙ c.in_ok-add_link_deps-2.ensures.added
    ∙ ap (λ (ds : List Dep). ds ++ rest) (c.in_ok-add_link_deps.ensures.added ∙ ap (λ (ds : List Dep). ds ++ kept) c.new-deps.ensures.items) in
    let same : dependencies_of c.deref.result.now ≡ said_by (c.args.kept.now ++ c.args.rest.now) =
    ap dependencies_of (items ∙ sym (map-append dep_of_link c.args.kept.now c.args.rest.now)) in
    record { implied = rw (c.width.ensures.count, same) at c.is_implied_by.ensures.implied }
