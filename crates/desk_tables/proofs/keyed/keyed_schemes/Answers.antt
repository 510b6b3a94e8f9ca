-- What is left to prove of `keyed_schemes`: that the invariant of its loop holds at first and stays, and what it
-- answers.
use Rattle.std.proofs.Common.{◌++◌, ◌∷◌, [], List, ap, map, subst, sym, take, ◌∙◌}
use Rattle.std.specs.Prelude.{All}
use Rattle.std.proofs.lemmas.List.{map-append, take_more}
use Rattle.std.proofs.lemmas.List.Elements.{All-nil, All-push}
use Rattle.attr_sets.specs.declared.set.AttrSet.{AttrSet}
use Rattle.optional_tables.specs.declared.keyed.KeyedScheme.{KeyedScheme}
use Rattle.desk_tables.specs.Tidiness.{HasPrimaryKey}
use Rattle.desk_tables.proofs.keyed.keyed_schemes.Goals as goal

pub loop-scheme-init : goal.loop-scheme-init
loop-scheme-init c = record {
  schemes = ap (λ (ks : List KeyedScheme). map (λ t. t.scheme) ks) c.in_ok-keyed.ensures.items;
  keys = subst (All (HasPrimaryKey c.args.schema.now)) (sym c.in_ok-keyed.ensures.items) (All-nil (HasPrimaryKey c.args.schema.now));
}

pub loop-scheme-preserved : goal.loop-scheme-preserved
loop-scheme-preserved c = record {
  schemes =
      ap (λ (ks : List KeyedScheme). map (λ t. t.scheme) ks) c.in_ok-push.ensures.items
      ∙ map-append (λ (t : KeyedScheme). t.scheme) c.loop-scheme.keyed.items (c.keyed_scheme.result ∷ [])
      ∙ ap (λ (xs : List AttrSet). xs ++ c.keyed_scheme.result.scheme ∷ []) c.loop-scheme.invariant.schemes
      ∙ ap (λ (x : AttrSet). take c.loop-scheme.scheme-index c.args.schemes.now ++ x ∷ []) c.keyed_scheme.ensures.scheme
      ∙ sym (take_more c.args.schemes.now c.loop-scheme.scheme-index _ c.loop-scheme-test.true);
  keys = subst (All (HasPrimaryKey c.args.schema.now)) (sym c.in_ok-push.ensures.items)
      (All-push (HasPrimaryKey c.args.schema.now) c.loop-scheme.keyed.items c.keyed_scheme.result c.loop-scheme.invariant.keys c.keyed_scheme.ensures.key);
}
