-- What is left to prove of `universe_key`: what `functional_primary_key` requires, and its clause `primary`.
use Rattle.std.proofs.Common.{◌≡◌, sym, subst, ap, ◌∙◌}
use Rattle.attr_sets.specs.Attributes.{Attributes, below, IsSubset}
use Rattle.attr_sets.specs.Sets.{attributes}
use Rattle.dep_model.specs.Dependencies.{functional_part}
use Rattle.dep_model.specs.Theories.{width_of, theory_of}
use Rattle.primary_keys.specs.PrimaryKeys.{IsPrimaryKey}
use Rattle.synthesis_3nf.proofs.completing.universe_key.Goals as goal

pub functional_primary_key-requires : goal.functional_primary_key-requires
functional_primary_key-requires c =
    let n = width_of c.args.theory.now in
    let universe : attributes c.full.result ≡ below n = c.full.ensures.members ∙ ap below c.width.ensures.count in
    record { scheme = subst (λ (u : Attributes). IsSubset u (below n)) (sym universe) (λ k m. m) }

pub returns : goal.returns
returns c =
    let s = c.args.theory.now in
    let n = width_of s in
    let universe : attributes c.full.result ≡ below n = c.full.ensures.members ∙ ap below c.width.ensures.count in
    record {
      primary = subst
          (λ (u : Attributes). IsPrimaryKey n (functional_part (theory_of s)) (attributes c.args.nullable) u
          (attributes c.functional_primary_key.result))
          universe c.functional_primary_key.ensures.primary;
    }
