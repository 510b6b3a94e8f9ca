-- What is left to prove of `split_steps`: its clauses `refused`, `steps` and `within_limits`,
-- what `found_outcome` requires, that a round of its loop keeps the invariant, and that its loop
-- ends, by `SplitLemmas` and `WalkLemmas`.
use Rattle.std.proofs.Common.{◌≡◌, ◌<◌, ◌≤◌, List, [], ◌∷◌, ◌++◌, length, sym, ap, subst, ◌∙◌, arith}
use Rattle.std.proofs.lemmas.List.{length-map, map_push}
use Rattle.attr_sets.specs.Attributes.{below}
use Rattle.attr_sets.specs.Sets.{attributes}
use Rattle.dep_model.specs.Theories.{Theory}
use Rattle.dep_model.specs.Plans.{schemes_of}
use Rattle.dep_model.specs.Theories.{width_of, theory_of}
use Rattle.split_forms.specs.declared.outcome.Outcome.{Outcome}
use Rattle.split_forms.specs.declared.steps.SchemeCut.{SchemeCut}
use Rattle.split_forms.specs.Outcomes.{IsOutcome}
use Rattle.split_forms.specs.Splitting.{StaysWhole, IsCutBy, IsStuckScheme, IsTooWideAt, HasTooManySchemes}
use Rattle.split_forms.specs.Steps.{Cutting, CutsLead, cutting_of, cuttings_of}
use Rattle.split_forms.proofs.SplitLemmas.{stuck_within_limit, finished_within_limit, finished_not_stuck}
use Rattle.split_forms.proofs.WalkLemmas.{walk_on, walk_many, walk_cut, walk_lead, walk_stuck, walk_within, walk_end}
use Rattle.split_forms.proofs.steps.split_steps.Goals as goal
use Rattle.split_forms.proofs.steps.split_steps.Goals.{In-Cut}

attributes_not_empty : (s : Theory) → 0 < width_of s
attributes_not_empty s = s.valid.not_empty

-- the scheme is cut by what was found
is_cut : (c : In-Cut) → IsCutBy (width_of c.args.theory.now) (theory_of c.args.theory.now) c.args.form (attributes c.index-scheme.result.now) (attributes c.in-Cut.breach.lhs) (attributes c.in-Cut.breach.rhs)
is_cut c =
    let s = c.args.theory.now in
    subst (λ (o : Outcome). IsOutcome (width_of s) (theory_of s) c.args.form (attributes c.index-scheme.result.now) o) c.in-Cut.is c.in_ok-found_outcome.ensures.outcome

pub found_outcome-requires-clause-scheme : goal.found_outcome-requires-clause-scheme
found_outcome-requires-clause-scheme c =
    let s = c.args.theory.now in
    walk_within (width_of s) (theory_of s) c.args.form c.loop-at.schemes.items c.loop-at.at c.index-scheme.result.now
    (omega arith) (sym c.index-scheme.ensures) c.loop-at.invariant.walked
    (attributes_not_empty s) c.requires.form

pub loop-at-preserved-in-Whole : goal.loop-at-preserved-in-Whole
loop-at-preserved-in-Whole c =
    let s = c.args.theory.now in
    let scheme = c.index-scheme.result.now in
    let stays : StaysWhole (width_of s) (theory_of s) c.args.form (attributes scheme) =
    subst (λ (o : Outcome). IsOutcome (width_of s) (theory_of s) c.args.form (attributes scheme) o) c.in-Whole.is
    c.in_ok-found_outcome.ensures.outcome in
    record {
      walked = walk_on (width_of s) (theory_of s) c.args.form c.loop-at.schemes.items c.loop-at.at scheme
          (omega arith) (sym c.index-scheme.ensures) c.loop-at.invariant.walked stays;
      lead = c.loop-at.invariant.lead;
      within_limit = c.loop-at.invariant.within_limit;
      tried = c.in_ok-found_outcome.ensures.tried;
    }

pub returns-in-Stuck-clause-refused : goal.returns-in-Stuck-clause-refused
returns-in-Stuck-clause-refused c =
    let s = c.args.theory.now in
    let n = width_of s in
    let ds = theory_of s in
    let scheme = c.index-scheme.result.now in
    let stuck : IsStuckScheme n ds c.args.form (attributes scheme) =
    subst (λ (o : Outcome). IsOutcome n ds c.args.form (attributes scheme) o) c.in-Stuck.is
    c.in_ok-found_outcome.ensures.outcome in
    let wide : IsTooWideAt n ds c.args.form c.args.limit (attributes scheme) =
    walk_stuck n ds c.args.form c.loop-at.schemes.items c.loop-at.at scheme (omega arith) (sym c.index-scheme.ensures)
    c.loop-at.invariant.walked c.args.limit c.loop-at.invariant.within_limit stuck in
    (wide, stuck_within_limit n ds c.args.form (attributes_not_empty s) c.requires.form c.args.limit (attributes scheme) wide)

pub returns-then-len-most-clause-refused : goal.returns-then-len-most-clause-refused
returns-then-len-most-clause-refused c =
    let s = c.args.theory.now in
    let n = width_of s in
    let ds = theory_of s in
    let scheme = c.index-scheme.result.now in
    let breach = c.in-Cut.breach in
    let cut = is_cut (goal.at.returns-then-len-most-clause-refused c).In-Cut in
    let many : HasTooManySchemes n ds c.args.form c.args.limit =
    walk_many n ds c.args.form c.loop-at.schemes.items c.loop-at.at scheme (omega arith) (sym c.index-scheme.ensures)
    c.loop-at.invariant.walked (attributes breach.lhs) (attributes breach.rhs) cut c.args.limit
    c.loop-at.invariant.within_limit (omega arith) in
    (many, λ other wide. stuck_within_limit n ds c.args.form (attributes_not_empty s) c.requires.form c.args.limit other wide many)

pub loop-at-preserved : goal.loop-at-preserved
loop-at-preserved c =
    let s = c.args.theory.now in
    let n = width_of s in
    let ds = theory_of s in
    let scheme = c.index-scheme.result.now in
    let breach = c.in-Cut.breach in
    let cut = is_cut (goal.at.loop-at-preserved c).In-Cut in
    let made = walk_cut n ds c.args.form c.loop-at.schemes.items c.loop-at.at scheme (omega arith)
    (sym c.index-scheme.ensures) c.loop-at.invariant.walked (attributes breach.lhs) (attributes breach.rhs) cut
    c.cut_at.new.schemes.items c.in_ok-cut_at-in-Cut.ensures.cut in
    let one : SchemeCut = record { scheme = scheme; breach = breach } in
    let told : cuttings_of c.push-in-Cut.new.self.items ≡ cuttings_of c.loop-at.cuts.items ++ cutting_of one ∷ [] =
    ap (λ (l : List SchemeCut). cuttings_of l) c.in_ok-push-in-Cut.ensures.items ∙ map_push cutting_of c.loop-at.cuts.items one in
    record {
      walked = made.0;
      lead = subst (λ (l : List Cutting). CutsLead n ds c.args.form (below n ∷ []) l (schemes_of c.cut_at.new.schemes.items)) (sym told)
          (walk_lead n ds c.args.form c.loop-at.schemes.items c.loop-at.at scheme (omega arith) (sym c.index-scheme.ensures) c.loop-at.invariant.walked
          (attributes breach.lhs) (attributes breach.rhs) cut c.cut_at.new.schemes.items (cuttings_of c.loop-at.cuts.items) c.in_ok-cut_at-in-Cut.ensures.cut
          c.loop-at.invariant.lead);
      within_limit = omega (arith, made.1, c.if-len-most.false, c.len-in-Cut.ensures);
      tried = c.in_ok-found_outcome.ensures.tried;
    }

pub loop-at-smaller : goal.loop-at-smaller
loop-at-smaller c =
    let s = c.args.theory.now in
    let n = width_of s in
    let ds = theory_of s in
    let scheme = c.index-scheme.result.now in
    let breach = c.in-Cut.breach in
    let cut = is_cut (goal.at.loop-at-smaller c).In-Cut in
    let made = walk_cut n ds c.args.form c.loop-at.schemes.items c.loop-at.at scheme (omega arith)
    (sym c.index-scheme.ensures) c.loop-at.invariant.walked (attributes breach.lhs) (attributes breach.rhs) cut
    c.cut_at.new.schemes.items c.in_ok-cut_at-in-Cut.ensures.cut in
    omega (
      arith,
      made.1,
      c.if-len-most.false,
      c.len-in-Cut.ensures,
      c.loop-at.invariant.within_limit,
      c.loop-at.invariant.walked.inside,
    )

pub returns-clause-steps : goal.returns-clause-steps
returns-clause-steps c =
    let s = c.args.theory.now in
    let done = walk_end (width_of s) (theory_of s) c.args.form c.loop-at.schemes.items c.loop-at.at (omega arith) c.loop-at.invariant.walked in
    record { lead = c.loop-at.invariant.lead; whole = done.whole }

pub returns-clause-within_limits : goal.returns-clause-within_limits
returns-clause-within_limits c =
    let s = c.args.theory.now in
    let n = width_of s in
    let ds = theory_of s in
    let all = c.loop-at.schemes.items in
    let finished = walk_end n ds c.args.form all c.loop-at.at (omega arith) c.loop-at.invariant.walked in
    let within_limit : length (schemes_of all) ≤ c.args.limit = omega (arith, c.loop-at.invariant.within_limit, length-map all attributes) in
    record {
      narrow = λ scheme wide. finished_not_stuck n ds c.args.form (attributes_not_empty s) c.requires.form (schemes_of all)
          c.args.limit scheme finished wide;
      within_limit = finished_within_limit n ds c.args.form (attributes_not_empty s) c.requires.form (schemes_of all) c.args.limit finished within_limit;
    }
