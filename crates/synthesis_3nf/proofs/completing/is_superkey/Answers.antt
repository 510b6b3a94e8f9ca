-- What is left to prove of `is_superkey`: what `is_functional_superkey` requires, and its clause `superkey`.
use Rattle.std.proofs.Common.{◌≡◌, ◌↔◌, sym, subst, ap, ◌∙◌}
use Rattle.std.specs.Prelude.{IsTrue}
use Rattle.attr_sets.specs.Attributes.{Attributes, below, IsSubset}
use Rattle.attr_sets.specs.Sets.{attributes}
use Rattle.dep_model.specs.Dependencies.{functional_part}
use Rattle.dep_model.specs.Keys.{IsSuperkey}
use Rattle.dep_model.specs.Theories.{width_of, theory_of}
use Rattle.synthesis_3nf.proofs.completing.is_superkey.Goals as goal

pub is_functional_superkey-requires : goal.is_functional_superkey-requires
is_functional_superkey-requires c =
    let n = width_of c.args.theory.now in
    let universe : attributes c.full.result ≡ below n = c.full.ensures.members ∙ ap below c.width.ensures.count in
    record {
      scheme = subst (λ (u : Attributes). IsSubset u (below n)) (sym universe) (λ k m. m);
      set = subst (λ (u : Attributes). IsSubset (attributes c.args.scheme) u) (sym universe) c.requires.within;
    }

pub returns : goal.returns
returns c =
    let s = c.args.theory.now in
    let n = width_of s in
    let universe : attributes c.full.result ≡ below n = c.full.ensures.members ∙ ap below c.width.ensures.count in
    record {
      superkey = subst
          (λ (u : Attributes). IsTrue c.is_functional_superkey.result ↔ IsSuperkey n (functional_part (theory_of s)) u (attributes c.args.scheme))
          universe c.is_functional_superkey.ensures.superkey;
    }
