-- What is left to prove of `found_outcome`: its clause `outcome`.
use Rattle.std.proofs.Common.{List, sym, subst}
use Rattle.std.proofs.lemmas.List.Elements.{All-contains}
use Rattle.attr_sets.specs.Attributes.{Attributes}
use Rattle.attr_sets.specs.Sets.{attributes}
use Rattle.dep_model.specs.Theories.{width_of, theory_of}
use Rattle.split_forms.specs.declared.outcome.Outcome.{Outcome}
use Rattle.split_forms.specs.declared.trying.Tried.{Tried}
use Rattle.split_forms.specs.Outcomes.{IsOutcome, AreTried}
use Rattle.split_forms.proofs.trying.found_outcome.Goals as goal

pub returns-in-Some-clause-outcome : goal.returns-in-Some-clause-outcome
returns-in-Some-clause-outcome c =
    let n = width_of c.args.theory.now in
    let ds = theory_of c.args.theory.now in
    let form = c.args.form in
    let all : AreTried n ds form c.deref.result.now =
    subst (λ (ts : List Tried). AreTried n ds form ts) (sym c.deref.ensures.value) c.requires.tried in
    let found = c.in-Some.ensures.tried in
    let known : IsOutcome n ds form (attributes found.1.scheme) found.1.outcome =
    All-contains (λ (one : Tried). IsOutcome n ds form (attributes one.scheme) one.outcome) c.deref.result.now found.1 all
    (found.0, found.2, found.3) in
    subst (λ (s : Attributes). IsOutcome n ds form s c.in-Some.outcome)
    found.4.0
    (subst (λ (o : Outcome). IsOutcome n ds form (attributes found.1.scheme) o) found.4.1 known)
