-- What is left to prove of `closure_after`: what it answers in one case, by `kept_follows`.
use Rattle.std.proofs.Common.{◌≡◌, Some, Option, inr, refl, subst}
use Rattle.std.specs.Prelude.{IfSome}
use Rattle.attr_sets.specs.Attributes.{Attributes}
use Rattle.attr_sets.specs.Sets.{attributes}
use Rattle.dep_model.specs.Theories.{width_of, theory_of}
use Rattle.preservation.specs.declared.closing.Closed.{Closed}
use Rattle.preservation.specs.SchemeClosures.{plan_of_closures}
use Rattle.preservation.specs.FunctionallyClosed.{TellsKeptClosure, IsKeptClosure}
use Rattle.preservation.proofs.KeepingLemmas.{kept_follows}
use Rattle.preservation.proofs.closing.closure_after.Goals as goal

pub returns-then-eq : goal.returns-then-eq
returns-then-eq c =
    let n = width_of c.args.theory.now in
    let ds = theory_of c.args.theory.now in
    let plan = plan_of_closures c.args.closures.now in
    let fact = c.in-Some.previous in
    let known : IfSome (Some fact) (TellsKeptClosure n ds plan) = subst (λ (last : Option Closed). IfSome last (TellsKeptClosure n ds plan)) c.in-Some.is c.requires.last in
    let same : attributes fact.from ≡ attributes c.args.from = c.if-eq.ensures.same.0 refl in
    let all : IsKeptClosure n ds plan (attributes c.args.from) (attributes fact.closed) = subst (λ (x : Attributes). IsKeptClosure n ds plan x (attributes fact.closed)) same known in
    record {
      follows = kept_follows n ds plan (attributes c.args.from) (attributes fact.closed) all;
      found = inr all;
      known = c.requires.known;
      schemes = refl;
      fits = c.requires.fits;
    }
