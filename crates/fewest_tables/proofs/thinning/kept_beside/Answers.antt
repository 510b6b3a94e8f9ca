-- What is left to prove of `kept_beside`: its clause, and what the calls that it makes require, by `ThinnedLemmas`.
use Rattle.std.proofs.Common.{◌≡◌, ◌≤◌, ◌-◌, ℕ, List, length, take, drop, take_all, length-drop, ap, ◌∙◌, arith, length-append}
use Rattle.std.proofs.lemmas.List.Elements.{All-append}
use Rattle.attr_sets.specs.Attributes.{below}
use Rattle.dep_model.specs.declared.dep.Dep.{Dep}
use Rattle.dep_model.specs.Deps.{IsDepWithin}
use Rattle.fewest_tables.proofs.ThinnedLemmas.{kept_after, left_fits}
use Rattle.fewest_tables.proofs.thinning.kept_beside.Goals as goal
use Rattle.fewest_tables.proofs.thinning.kept_beside.Goals.{After-deref, After-len-from}

-- how many rules there are
from_is : (c : After-len-from) → c.len-from.result ≡ length c.args.rules.items
from_is c = omega (arith, c.len-from.ensures, c.args.rules.ok.0)

pub nonredundant_from-requires : goal.nonredundant_from-requires
nonredundant_from-requires c =
    let rules = c.args.rules.items in
    let cover = c.args.cover.now in
    let is = from_is (goal.at.nonredundant_from-requires c).After-len-from in
    record {
      width = c.requires.width;
      from = rw c.in_ok-extend_from_slice.ensures.items (omega (arith, is, length-append rules cover));
      within = rw c.in_ok-extend_from_slice.ensures.items (All-append (IsDepWithin (below c.args.width)) rules cover c.requires.rules c.requires.cover);
    }

-- they still stand first
fits : (c : After-deref) → c.len-from.result ≡ length c.args.rules.items → c.len-from.result ≤ length c.deref.result.now
fits c is =
    rw c.deref.ensures.value
    (left_fits c.args.width c.len-from.result c.args.rules.items c.args.cover.now _ c.in_ok-left.left.items is c.in_ok-extend_from_slice.ensures.items c.in_ok-left.ensures.thinned)

pub slice_bounds-from_slice-start : goal.slice_bounds-from_slice-start
slice_bounds-from_slice-start c = fits c (from_is (goal.at.slice_bounds-from_slice-start c).After-len-from)

pub slice_bounds-from_slice-count : goal.slice_bounds-from_slice-count
slice_bounds-from_slice-count c = fits c (from_is (goal.at.slice_bounds-from_slice-count c).After-len-from)

-- what stands from a position on
tail_is : (l : List Dep) (k : ℕ) → take (length l - k) (drop k l) ≡ drop k l
tail_is l k = take_all (length l - k) (drop k l) (omega (arith, length-drop k l))

pub returns : goal.returns
returns c =
    let from = c.len-from.result in
    record {
      thinned = kept_after c.args.width from c.args.rules.items c.args.cover.now _ c.in_ok-left.left.items (from_is (goal.at.returns c).After-len-from) c.in_ok-extend_from_slice.ensures.items c.in_ok-left.ensures.thinned
          c.in_ok-kept.kept.items
          (c.in_ok-kept.ensures.items ∙ tail_is c.deref.result.now from ∙ ap (λ (l : List Dep). drop from l) c.deref.ensures.value);
    }
