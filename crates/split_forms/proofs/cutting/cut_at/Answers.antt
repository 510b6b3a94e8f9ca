-- What is left to prove of `cut_at`: its clause `cut`, by `cut_list`.
use Rattle.std.proofs.Common.{◌≡◌, subst}
use Rattle.attr_sets.specs.Attributes.{difference}
use Rattle.attr_sets.specs.Sets.{attributes}
use Rattle.attr_sets.specs.declared.set.AttrSet.{AttrSet}
use Rattle.split_forms.proofs.WalkLemmas.{cut_list}
use Rattle.split_forms.proofs.cutting.cut_at.Goals as goal

pub returns : goal.returns
returns c =
    let xs = c.args.schemes.now.items in
    let old = c.index-scheme.result.now in
    let rest = subst (λ (s : AttrSet). attributes c.difference.result ≡ difference (attributes s) (attributes c.args.breach.rhs))
    c.index-scheme.ensures c.difference.ensures.members in
    record {
      cut = cut_list xs c.insert.new.self.items c.args.at old c.union.result c.difference.result (attributes c.args.breach.lhs)
          (attributes c.args.breach.rhs) c.requires.position c.in_ok-insert.ensures.items
          c.union.ensures.members rest;
    }
