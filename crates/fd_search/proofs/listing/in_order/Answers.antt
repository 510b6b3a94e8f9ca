-- What is left to prove of `in_order`: what `dependencies` requires, and its clause `small`, by
-- `ListLemmas`.
use Rattle.std.proofs.Common.{◌≡◌, ◌<◌, Vec, Global, sym, ap, subst, map, ◌∙◌}
use Rattle.std.proofs.lemmas.List.Elements.{All-same}
use Rattle.std.proofs.lemmas.Result.{IfOk-weaker}
use Rattle.attr_sets.specs.declared.set.TheConstants.{MOST_ATTRIBUTES}
use Rattle.dep_model.specs.Deps.{dependencies_of}
use Rattle.dep_model.specs.declared.dep.Dep.{Dep}
use Rattle.fd_search.specs.Listing.{fd_of}
use Rattle.fd_search.specs.Small.{AreAllSmall}
use Rattle.fd_search.proofs.ListLemmas.{Pair, all_in_order, low_pairs}
use Rattle.fd_search.proofs.listing.in_order.Goals as goal

pub dependencies-requires : goal.dependencies-requires
dependencies-requires c =
    let (r, are) = c.requires.sides in
    record {
      attributes = All-same (λ (p : Pair). p.1 < MOST_ATTRIBUTES) c.deref.result.now c.sort.new.self.items c.deref.ensures.value
          (low_pairs c.args.width c.args.most r c.args.sides.now c.in_ok-pairs.pairs.items c.sort.new.self.items c.requires.width are
          c.in_ok-pairs.ensures.pairs c.in_ok-sort.ensures.permutation);
    }

pub returns : goal.returns
returns c = record {
  small = λ r are rights.
      IfOk-weaker c.dependencies.result (λ (found : Vec Dep Global). dependencies_of found.items ≡ map fd_of c.deref.result.now)
      (λ (found : Vec Dep Global). AreAllSmall c.args.width c.args.most r (dependencies_of found.items))
      (λ found is. subst (AreAllSmall c.args.width c.args.most r) (sym (is ∙ ap (map fd_of) c.deref.ensures.value))
      (all_in_order c.args.width c.args.most r c.args.sides.now c.in_ok-pairs.pairs.items c.sort.new.self.items c.requires.width are
      c.in_ok-pairs.ensures.pairs c.in_ok-sort.ensures.permutation rights c.in_ok-pairs.ensures.numbers
      c.in_ok-sort.ensures.sorted)) c.dependencies.ensures.dependencies;
}
