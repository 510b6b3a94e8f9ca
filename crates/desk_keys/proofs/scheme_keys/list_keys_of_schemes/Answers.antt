-- What is left to prove of `list_keys_of_schemes`: its clause `response`, and that the invariant of its loop
-- holds at first and stays, by `FormLemmas` and `KeyLemmas`.
use Rattle.std.proofs.Common.{ℕ, List, inl, inr, get_or, take_all, sym, subst}
use Rattle.std.proofs.lemmas.List.Elements.{All-nil}
use Rattle.std.specs.Prelude.{All}
use Rattle.attr_sets.specs.declared.set.AttrSet.{AttrSet}
use Rattle.attr_sets.specs.Sets.{attributes}
use Rattle.desk_responses.specs.ResponseValues.{Says}
use Rattle.desk_keys.specs.Keys.{IsListed}
use Rattle.desk_keys.specs.KeyedLines.{StandIn}
use Rattle.desk_keys.specs.declared.scheme_keys.KeyedLines.{KeyedLines}
use Rattle.desk_responses.specs.Responses.{response_value}
use Rattle.desk_responses.specs.declared.status.Status.TheVariants.{Yes}
use Rattle.desk_responses.proofs.FormLemmas.{first_failing}
use Rattle.desk_keys.proofs.KeyLemmas.{Told, keys_of_none, keys_of_next}
use Rattle.desk_keys.proofs.scheme_keys.list_keys_of_schemes.Goals as goal

abbrev nothing : AttrSet
nothing = record { 0 = 0 }

pub loop-scheme-init : goal.loop-scheme-init
loop-scheme-init c = record {
  told = keys_of_none c.args.schema.now c.new-text.result.items c.new-text.ensures.items;
  known = subst (λ (known : List KeyedLines). All (StandIn c.args.schema.now c.new-text.result.items) known) (sym c.new-known.ensures.items)
      (All-nil (StandIn c.args.schema.now c.new-text.result.items));
}

pub loop-scheme-preserved : goal.loop-scheme-preserved
loop-scheme-preserved c = record {
  told = keys_of_next c.args.schema.now c.args.schemes.now c.loop-scheme.scheme-index nothing c.loop-scheme.text.items c.put_scheme_keys.new.text.items
      c.loop-scheme.invariant.told c.loop-scheme-test.true c.in-Ok.ensures.added;
  known = c.in-Ok.ensures.known;
}

pub returns-in-Err : goal.returns-in-Err
returns-in-Err c =
    let i = c.loop-scheme.scheme-index in
    record {
      response = λ response is. inr (
        attributes (get_or c.args.schemes.now i nothing),
        first_failing (IsListed c.args.schema.now) c.args.schemes.now i nothing c.loop-scheme-test.true c.loop-scheme.invariant.told.passed,
        c.in-Err.ensures.ends response is,
      );
    }

pub returns : goal.returns
returns c =
    let s = c.args.schema.now in
    let text = c.loop-scheme.text.items in
    let fact : Told s c.args.schemes.now text =
    subst (λ (schemes : List AttrSet). Told s schemes text) (take_all c.loop-scheme.scheme-index c.args.schemes.now c.loop-scheme-test.false) c.loop-scheme.invariant.told in
    record {
      response = inl (
        fact.listed,
        fact.schemes_are,
        fact.keys,
        subst (λ (t : List ℕ). Says Yes t (response_value c.with_text.result)) fact.is c.with_text.ensures.says,
      );
    }
