-- What is left to prove of `test_each`: its clauses, and that a round of its loop keeps the invariant, by
-- `first_failing`.
use Rattle.std.proofs.Common.{List, take_all, get_or, sym, ap, subst, ◌∙◌}
use Rattle.std.proofs.lemmas.List.Elements.{All-push}
use Rattle.std.specs.Prelude.{All}
use Rattle.attr_sets.specs.declared.set.AttrSet.{AttrSet}
use Rattle.attr_sets.specs.Sets.{attributes}
use Rattle.dep_model.specs.Plans.{schemes_of}
use Rattle.desk_designs.specs.declared.forms.TestedScheme.{TestedScheme}
use Rattle.desk_designs.specs.TestedSchemes.{IsTestedScheme, schemes_tested, tested_scheme}
use Rattle.desk_designs.proofs.TestedLemmas.{first_wide, one_more_tested}
use Rattle.desk_designs.proofs.forms.test_each.Goals as goal

abbrev nothing : AttrSet
nothing = record { 0 = 0 }

pub loop-scheme-preserved : goal.loop-scheme-preserved
loop-scheme-preserved c =
    let before = c.loop-scheme.invariant in
    let scheme = get_or c.args.schemes.now c.loop-scheme.scheme-index nothing in
    let found = c.loop-scheme.found.items in
    let forms = c.in-Ok.forms in
    let added = c.in_ok-add_tested-in-Ok.ensures.added in
    record {
      tested = subst (λ (l : List TestedScheme). All (IsTestedScheme c.args.schema.now) l) (sym added)
          (All-push (IsTestedScheme c.args.schema.now) found (tested_scheme scheme forms) before.tested c.in-Ok.ensures.forms);
      list = ap schemes_tested added ∙ one_more_tested found c.args.schemes.now c.loop-scheme.scheme-index nothing forms c.loop-scheme-test.true before.list;
    }

pub returns-in-Err : goal.returns-in-Err
returns-in-Err c = record {
  tested = tt;
  schemes = tt;
  ends = λ response is.
      let before = c.loop-scheme.invariant in
      let failed = c.in-Err.ensures.ends response is in (
        attributes (get_or c.args.schemes.now c.loop-scheme.scheme-index nothing),
        first_wide c.args.schema.now c.loop-scheme.found.items c.args.schemes.now c.loop-scheme.scheme-index nothing c.loop-scheme-test.true before.tested before.list,
        failed.0,
        failed.1,
      );
}

pub returns : goal.returns
returns c =
    let before = c.loop-scheme.invariant in
    record {
      tested = before.tested;
      schemes = before.list ∙ ap schemes_of (take_all c.loop-scheme.scheme-index c.args.schemes.now c.loop-scheme-test.false);
      ends = tt;
    }
