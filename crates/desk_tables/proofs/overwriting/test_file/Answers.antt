-- What is left to prove of `test_file`: a plan has as many schemes as sets.
use Rattle.std.proofs.Common.{◌≡◌, ℕ, List, length, ap, subst, sym, ◌∙◌}
use Rattle.std.specs.Prelude.{IfErr, IfOk}
use Rattle.std.proofs.lemmas.List.{length-map}
use Rattle.attr_sets.specs.Sets.{attributes}
use Rattle.attr_sets.specs.declared.set.AttrSet.{AttrSet}
use Rattle.plans.specs.Plans.{plan_of, scheme_sets}
use Rattle.desk_responses.specs.Responses.{ExitsAs}
use Rattle.desk_tables.specs.Overwriting.{IsTableFile, OverStops}
use Rattle.desk_tables.proofs.overwriting.test_file.Goals as goal

pub returns : goal.returns
returns c =
    let count : length c.schemes.result.now ≡ length (plan_of c.args.plan.now) =
    ap (λ (sets : List AttrSet). length sets) c.schemes.ensures.schemes
    ∙ sym (length-map (scheme_sets c.args.plan.now) attributes) in
    record {
      ok = subst (λ (n : ℕ). IfOk c.test_file_of.result (λ _. IsTableFile c.args.names.now n c.args.file.now → ⊥)) count c.test_file_of.ensures.ok;
      exit = subst (λ (n : ℕ). IfErr c.test_file_of.result (ExitsAs (OverStops c.args.names.now n c.args.file.now))) count c.test_file_of.ensures.exit;
    }
