-- What is left to prove of `with_key`: its clause `completed`.
use Rattle.std.proofs.Common.{◌↔◌, List, [], ◌∷◌, sym, subst, ap, ◌∙◌, inl, inr}
use Rattle.std.specs.Prelude.{IsTrue}
use Rattle.std.proofs.lemmas.List.{map-append}
use Rattle.std.proofs.lemmas.Bool.{false≢true}
use Rattle.attr_sets.specs.declared.set.AttrSet.{AttrSet}
use Rattle.attr_sets.specs.Sets.{attributes}
use Rattle.dep_model.specs.Plans.{schemes_of}
use Rattle.dep_model.specs.Theories.{width_of, theory_of}
use Rattle.synthesis_3nf.specs.GroupedPlans.{HoldSuperkey}
use Rattle.synthesis_3nf.proofs.completing.with_key.Goals.{then-not-hold_superkey+in_ok-push, else-not-hold_superkey}
use Rattle.synthesis_3nf.proofs.completing.with_key.Goals as goal

pub returns : goal.returns
returns c =
    let s = c.args.theory.now in
    let n = width_of s in
    let ds = theory_of s in
    let old = c.args.schemes.items in
    let fact : IsTrue c.hold_superkey.result ↔ HoldSuperkey n ds (schemes_of old) =
    subst (λ (xs : List AttrSet). IsTrue c.hold_superkey.result ↔ HoldSuperkey n ds (schemes_of xs)) c.deref.ensures.value c.hold_superkey.ensures.superkey in
    record {
      completed = elim c.if-not-hold_superkey.branch [
        | then-not-hold_superkey+in_ok-push w ↦ inr (record {
          none = λ holds. false≢true (sym w.if-not-hold_superkey.true ∙ fact.1 holds);
          key = attributes w.universe_key.result;
          primary = w.universe_key.ensures.primary;
          last = ap (λ v. schemes_of v.items) w.schemes-is ∙ ap (λ (xs : List AttrSet). schemes_of xs) w.in_ok-push.ensures.items ∙ map-append attributes old (w.universe_key.result ∷ []);
        })
        | else-not-hold_superkey w ↦ inl (fact.0 w.if-not-hold_superkey.false, ap (λ v. schemes_of v.items) w.schemes-is)
      ];
    }
