-- What is left to prove of `scheme_closures`: its clause `schemes` and that a round of its loop keeps
-- the invariant.
use Rattle.std.proofs.Common.{◌++◌, [], ◌∷◌, List, take, take_all, ap, sym, subst, ◌∙◌}
use Rattle.std.proofs.lemmas.List.{map-append, take_more}
use Rattle.std.proofs.lemmas.List.Elements.{All-push}
use Rattle.std.specs.Prelude.{All}
use Rattle.attr_sets.specs.declared.set.AttrSet.{AttrSet}
use Rattle.dep_model.specs.Theories.{width_of, theory_of}
use Rattle.preservation.specs.declared.scheme_closure.SchemeClosure.{SchemeClosure}
use Rattle.preservation.specs.SchemeClosures.{IsSchemeClosure, schemes_of_closures}
use Rattle.preservation.proofs.scheme_closure.scheme_closures.Goals as goal

pub loop-scheme-preserved : goal.loop-scheme-preserved
loop-scheme-preserved c =
    let s = c.args.theory.now in
    let first : AttrSet = record { 0 = 0 } in
    let scheme : SchemeClosure → AttrSet = (λ (closure : SchemeClosure). closure.scheme) in
    let new = c.closure_within in
    let i = c.loop-scheme.scheme-index in
    let schemes = c.args.schemes.now in
    let items = c.loop-scheme.closures.items in
    let pushed = c.in_ok-push.ensures.items in
    record {
      known = subst (λ (l : List SchemeClosure). All (IsSchemeClosure (width_of s) (theory_of s)) l) (sym pushed)
          (All-push (IsSchemeClosure (width_of s) (theory_of s)) items new.result c.loop-scheme.invariant.known
          new.ensures.known);
      schemes = ap schemes_of_closures pushed ∙ map-append scheme items (new.result ∷ [])
          ∙ ap (λ (l : List AttrSet). l ++ scheme new.result ∷ []) c.loop-scheme.invariant.schemes
          ∙ ap (λ (scheme : AttrSet). take i schemes ++ scheme ∷ []) new.ensures.scheme
          ∙ sym (take_more schemes i first c.loop-scheme-test.true);
      fits = new.ensures.fits;
    }

pub returns-clause-schemes : goal.returns-clause-schemes
returns-clause-schemes c =
    c.loop-scheme.invariant.schemes ∙ take_all c.loop-scheme.scheme-index c.args.schemes.now c.loop-scheme-test.false
