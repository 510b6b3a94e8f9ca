-- What is left to prove of `merged_schemes`: its clause, and that the invariant of its loop holds at first and stays.
use Rattle.std.proofs.Common.{◌<◌, ◌∷◌, ◌++◌, [], List, map, length, get_or, take, take_all, refl, sym, ap, ◌∙◌}
use Rattle.std.proofs.lemmas.List.{map_more, map_push}
use Rattle.attr_sets.specs.Attributes.{Attributes}
use Rattle.attr_sets.specs.Sets.{attributes}
use Rattle.dep_model.specs.Deps.{dependencies_of}
use Rattle.fd_closure.specs.declared.known.KnownClosure.{KnownClosure}
use Rattle.fewest_tables.specs.FewestSteps.{group_with}
use Rattle.fewest_tables.specs.MergedPlans.{merged_scheme}
use Rattle.fewest_tables.proofs.merging.merged_schemes.Goals as goal

pub loop-first-init : goal.loop-first-init
loop-first-init c = rw c.new-schemes.ensures.items refl

pub loop-first-preserved : goal.loop-first-preserved
loop-first-preserved c =
    let firsts = c.args.firsts.now in
    let i = c.loop-first.first-index in
    let d : KnownClosure = record { of = record { 0 = 0 }; closed = record { 0 = 0 } } in
    let lt : i < length firsts = c.loop-first-test.true in
    let merged = merged_scheme (dependencies_of c.args.deps.now) in
    let make = group_with c.args.lefts.now in
    let done = map make (take i firsts) in
    let group = make (get_or firsts i d) in
    rw c.in_ok-push.ensures.items
    (map_push attributes c.loop-first.schemes.items c.in_ok-scheme.scheme
    ∙ ap (λ (l : List Attributes). l ++ attributes c.in_ok-scheme.scheme ∷ []) c.loop-first.invariant
    ∙ ap (λ (x : Attributes). map merged done ++ x ∷ []) c.in_ok-scheme.ensures.scheme
    ∙ sym (map_push merged done group)
    ∙ ap (λ (l : List (List Attributes)). map merged l) (sym (map_more make firsts i d lt)))

pub returns : goal.returns
returns c = record {
  schemes = c.loop-first.invariant
      ∙ ap (λ (l : List KnownClosure). map (merged_scheme (dependencies_of c.args.deps.now)) (map (group_with c.args.lefts.now) l)) (take_all c.loop-first.first-index c.args.firsts.now c.loop-first-test.false);
}
