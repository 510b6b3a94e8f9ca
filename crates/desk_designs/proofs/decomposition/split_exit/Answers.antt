-- What is left to prove of `split_exit`: its clause `exit` and what `too_wide_exit` requires, by
-- `stuck_within`.
use Rattle.std.proofs.Common.{inl, inr, subst}
use Rattle.attr_sets.specs.Sets.{attributes}
use Rattle.schema_model.specs.Schemas.{width_of, theory_of}
use Rattle.split_forms.specs.Refusals.{IsRefusedSplit}
use Rattle.split_forms.specs.declared.refusal.SplitRefusal.{SplitRefusal}
use Rattle.desk_designs.specs.declared.decomposition.TheConstants.{MOST_SPLIT_SCHEMES}
use Rattle.desk_designs.proofs.SplitLemmas.{stuck_within}
use Rattle.desk_designs.proofs.decomposition.split_exit.Goals as goal

pub too_wide_exit-requires : goal.too_wide_exit-requires
too_wide_exit-requires c =
    let s = c.args.schema.now in
    let form = c.requires.refused.0 in
    let wide = subst (λ (e : SplitRefusal). IsRefusedSplit (width_of s) (theory_of s) form MOST_SPLIT_SCHEMES e) c.in-TooWide.is c.requires.refused.2 in
    record { within = stuck_within (width_of s) (theory_of s) form MOST_SPLIT_SCHEMES (attributes c.in-TooWide.scheme) s.valid.names_not_empty c.requires.refused.1 wide.0 }

pub returns-in-TooWide : goal.returns-in-TooWide
returns-in-TooWide c = record {
  exit = λ form refused response is.
      let s = c.args.schema.now in
      let wide = subst (λ (e : SplitRefusal). IsRefusedSplit (width_of s) (theory_of s) form MOST_SPLIT_SCHEMES e) c.in-TooWide.is refused in
      inl (attributes c.in-TooWide.scheme, wide.0, c.too_wide_exit.ensures.says response is);
}

pub returns-in-TooManySchemes : goal.returns-in-TooManySchemes
returns-in-TooManySchemes c = record {
  exit = λ form refused response is.
      let s = c.args.schema.now in
      let many = subst (λ (e : SplitRefusal). IsRefusedSplit (width_of s) (theory_of s) form MOST_SPLIT_SCHEMES e) c.in-TooManySchemes.is refused in
      inr (many.0, c.too_many_schemes_exit.ensures.says response is);
}
