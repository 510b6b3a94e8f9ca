-- Each answer of `chase` by the lemmas on a round: which tableau each call gave, and what that says.
use Rattle.std.proofs.Common.{◌≡◌, ℕ, ◌<◌, ◌^◌, List, ◌∙◌, length, sym, ap, subst, refl, inl, arith}
use Rattle.std.proofs.lemmas.Bool.{false≢true}
use Rattle.std.proofs.lemmas.List.{length-map, with_items_is}
use Rattle.std.specs.Prelude.{Contains, Result, Err}
use Rattle.tableau_chase.specs.declared.outcome.Chased.{Chased}
use Rattle.dep_model.specs.declared.failure.Failure.{Failure}
use Rattle.dep_model.specs.declared.failure.Failure.TheVariants.{Refused}
use Rattle.tableau_chase.specs.declared.outcome.ChaseRefusal.{ChaseRefusal}
use Rattle.tableau_chase.specs.declared.outcome.ChaseRefusal.TheVariants.{TooManyRows}
use Rattle.tableau_chase.specs.declared.pool.Pool.{Pool}
use Rattle.attr_sets.specs.Sets.{attributes}
use Rattle.dep_model.specs.declared.dep.Dep.{Dep}
use Rattle.dep_model.specs.Tuples.{Relation}
use Rattle.dep_model.specs.Deps.{dependencies_of}
use Rattle.dep_model.specs.Projections.{IsLossless}
use Rattle.dep_model.specs.Theories.{width_of, theory_of}
use Rattle.chase_laws.specs.Tableaux.{Tableau, SameTableau, IsTableauOver, distinguished_row}
use Rattle.chase_laws.specs.Rounds.{ClosesFunctionallyTo, IsMadeOf, RoundsExceed}
use Rattle.chase_laws.proofs.RoundLemmas.{functional_within_limit}
use Rattle.chase_laws.proofs.SoundLemmas.{lossless_from_distinguished}
use Rattle.chase_laws.proofs.ClosedLemmas.{gaining_lossy}
use Rattle.dep_model.specs.Plans.{schemes_of}
use Rattle.tableau_chase.specs.Making.{AddsAll, Overflows}
use Rattle.tableau_chase.proofs.ChaseLemmas.{EndsLossy, first_round, first_exceeds, round_over, closed_over, reached_closed, next_round, next_lower, ended, next_exceeds, ends_lossy, functional_none}
use Rattle.tableau_chase.proofs.PoolLemmas.{extends_length}
use Rattle.tableau_chase.proofs.chasing.chase.Goals as goal
use Rattle.tableau_chase.proofs.chasing.chase.Goals.{In-Ok-pool_of, Else-has_distinguished, After-drop-rows-then-has_distinguished, After-drop-rows-in-Err-add_next, After-drop-pool-in-loop-rows, After-drop-rows-then-len-count}

-- a failure handed on
refused : (failure : Failure ChaseRefusal) → ◌≡◌ {A = Result Chased (Failure ChaseRefusal)} (Err failure) (Err (Refused TooManyRows)) → ◌≡◌ {A = Result (Unit {0}) (Failure ChaseRefusal)} (Err failure) (Err (Refused TooManyRows))
refused failure e = let same : failure ≡ Refused TooManyRows = cc in ap {B = Result (Unit {0}) (Failure ChaseRefusal)} (λ (f : Failure ChaseRefusal). Err f) same

refused_pool : (failure : Failure ChaseRefusal) → ◌≡◌ {A = Result Chased (Failure ChaseRefusal)} (Err failure) (Err (Refused TooManyRows)) → ◌≡◌ {A = Result Pool (Failure ChaseRefusal)} (Err failure) (Err (Refused TooManyRows))
refused_pool failure e = let same : failure ≡ Refused TooManyRows = cc in ap {B = Result Pool (Failure ChaseRefusal)} (λ (f : Failure ChaseRefusal). Err f) same

pub loop-rows-init : goal.loop-rows-init
loop-rows-init c = first_round c.width-width.result (theory_of c.args.theory.now) (schemes_of c.args.schemes.now) c.args.limit c.in-Ok.pool.rows.items c.in-Ok.ensures.same c.in-Ok.ensures.pool.differ c.in-Ok.ensures.pool.within_limit

pub close_functionally-requires-clause-over : goal.close_functionally-requires-clause-over
close_functionally-requires-clause-over c =
    subst (λ (r : Tableau). IsTableauOver c.width-width.result r) (sym c.deref_mut.ensures.value)
    (round_over c.width-width.result (theory_of c.args.theory.now) (schemes_of c.args.schemes.now) c.args.limit c.loop-rows.rows.items c.loop-rows.invariant)

-- what the rows of a round close functionally to
closes : (c : In-Ok-pool_of) → ClosesFunctionallyTo (theory_of c.args.theory.now) c.loop-rows.rows.items c.close_functionally.new.rows
closes c =
    let s = c.close_functionally.new.rows in
    subst (λ (d : List Dep). ClosesFunctionallyTo (dependencies_of d) c.loop-rows.rows.items s) c.deps-deps.ensures.deps
    (subst (λ (r : Tableau). ClosesFunctionallyTo (dependencies_of c.deps-deps.result.now) r s) c.deref_mut.ensures.value c.in_ok-close_functionally.ensures.closes)

-- and the pool has the rows of that
pooled : (c : In-Ok-pool_of) → SameTableau c.close_functionally.new.rows c.in-Ok-pool_of.pool.rows.items
pooled c =
    let s = c.close_functionally.new.rows in
    let back : c.deref.result.now ≡ s = c.deref.ensures.value ∙ with_items_is c.loop-rows.rows s (c.in_ok-close_functionally.ensures.count ∙ c.deref_mut.ensures.len) in
    subst (λ (r : Tableau). SameTableau r c.in-Ok-pool_of.pool.rows.items) back c.in-Ok-pool_of.ensures.same

over : (c : In-Ok-pool_of) → IsTableauOver c.width-width.result c.in-Ok-pool_of.pool.rows.items
over c =
    closed_over c.width-width.result (theory_of c.args.theory.now) (schemes_of c.args.schemes.now) c.args.limit c.loop-rows.rows.items c.close_functionally.new.rows
    c.in-Ok-pool_of.pool.rows.items c.loop-rows.invariant (closes c) (pooled c)

pub has_distinguished-requires : goal.has_distinguished-requires
has_distinguished-requires c = record {
  over = subst (λ (r : Tableau). IsTableauOver c.width-width.result r) (sym c.deref-in-loop-rows.ensures.value) (over (goal.at.has_distinguished-requires c).In-Ok-pool_of);
}

pub add_next-requires-clause-over : goal.add_next-requires-clause-over
add_next-requires-clause-over c = over (goal.at.add_next-requires-clause-over c).In-Ok-pool_of

-- the distinguished row is found
has : (c : After-drop-rows-then-has_distinguished) → Contains c.in-Ok-pool_of.pool.rows.items (distinguished_row c.width-width.result)
has c = subst (λ (r : Tableau). Contains r (distinguished_row c.width-width.result)) c.deref-in-loop-rows.ensures.value (c.if-has_distinguished.ensures.found.0 refl)

-- or it is not there
lacks : (c : Else-has_distinguished) → Contains c.in-Ok-pool_of.pool.rows.items (distinguished_row c.width-width.result) → ⊥
lacks c h =
    false≢true (c.if-has_distinguished.ensures.found.1 (subst (λ (r : Tableau). Contains r (distinguished_row c.width-width.result)) (sym c.deref-in-loop-rows.ensures.value) h))

pub returns-then-has_distinguished-clause-within_limit : goal.returns-then-has_distinguished-clause-within_limit
returns-then-has_distinguished-clause-within_limit c =
    let ds = theory_of c.args.theory.now in
    let plan = schemes_of c.args.schemes.now in
    let at = (goal.at.returns-then-has_distinguished-clause-within_limit c).In-Ok-pool_of in
    subst (λ (m : ℕ). RoundsExceed m ds plan c.args.limit → ⊥) c.width-width.ensures.count
    (ended c.width-width.result ds plan c.args.limit c.loop-rows.rows.items c.close_functionally.new.rows c.in-Ok-pool_of.pool.rows.items c.loop-rows.invariant (closes at) (pooled at) (inl (has c)))

pub returns-then-has_distinguished-clause-lossless : goal.returns-then-has_distinguished-clause-lossless
returns-then-has_distinguished-clause-lossless c =
    let n = c.width-width.result in
    let ds = theory_of c.args.theory.now in
    let plan = schemes_of c.args.schemes.now in
    let t = c.in-Ok-pool_of.pool.rows.items in
    let at = (goal.at.returns-then-has_distinguished-clause-lossless c).In-Ok-pool_of in
    let reached = reached_closed n ds plan c.args.limit c.loop-rows.rows.items c.close_functionally.new.rows t c.loop-rows.invariant (closes at) (pooled at) in
    let lossless : IsLossless n ds plan = lossless_from_distinguished n ds plan t (λ (k : ℕ) l. c.requires.cover k (omega (arith, l, c.width-width.ensures.count))) reached (has c) in
    ((λ _. subst (λ (m : ℕ). IsLossless m ds plan) c.width-width.ensures.count lossless), (λ _. refl))

pub returns-in-Err-clause-too_many_rows : goal.returns-in-Err-clause-too_many_rows
returns-in-Err-clause-too_many_rows c e =
    subst (λ (m : ℕ). RoundsExceed m (theory_of c.args.theory.now) (schemes_of c.args.schemes.now) c.args.limit) c.width-width.ensures.count
    (first_exceeds c.width-width.result (theory_of c.args.theory.now) (schemes_of c.args.schemes.now) c.args.limit (c.in-Err.ensures.too_many (refused_pool c.in-Err.failure e)))

pub returns-in-Err-clause-never_too_many : goal.returns-in-Err-clause-never_too_many
returns-in-Err-clause-never_too_many c whole low e =
    let ds = theory_of c.args.theory.now in
    let plan = schemes_of c.args.schemes.now in
    functional_within_limit c.width-width.result ds plan c.args.limit (functional_none ds whole) (omega (arith, low, length-map c.args.schemes.now attributes))
    (first_exceeds c.width-width.result ds plan c.args.limit (c.in-Err.ensures.too_many (refused_pool c.in-Err.failure e)))

-- a next tableau with too many rows
exceeds : (c : After-drop-rows-in-Err-add_next) → ◌≡◌ {A = Result Chased (Failure ChaseRefusal)} (Err c.in-Err-add_next.failure) (Err (Refused TooManyRows))
    → RoundsExceed c.width-width.result (theory_of c.args.theory.now) (schemes_of c.args.schemes.now) c.args.limit
exceeds c e =
    let n = c.width-width.result in
    let ds = theory_of c.args.theory.now in
    let t = c.in-Ok-pool_of.pool.rows.items in
    let at = goal.at.After-drop-rows-in-Err-add_next c in
    let overflows : Overflows (IsMadeOf n ds t) c.args.limit t = subst (λ (d : List Dep). Overflows (IsMadeOf n (dependencies_of d) t) c.args.limit t) c.deps-deps.ensures.deps
    (c.in-Err-add_next.ensures.too_many (refused c.in-Err-add_next.failure e)) in
    next_exceeds n ds (schemes_of c.args.schemes.now) c.args.limit c.loop-rows.rows.items c.close_functionally.new.rows t c.loop-rows.invariant (closes at.In-Ok-pool_of) (pooled at.In-Ok-pool_of)
    (lacks at.Else-has_distinguished) c.in-Ok-pool_of.ensures.pool.within_limit overflows

pub returns-in-Err-add_next-clause-too_many_rows : goal.returns-in-Err-add_next-clause-too_many_rows
returns-in-Err-add_next-clause-too_many_rows c e =
    subst (λ (m : ℕ). RoundsExceed m (theory_of c.args.theory.now) (schemes_of c.args.schemes.now) c.args.limit) c.width-width.ensures.count (exceeds c e)

pub returns-in-Err-add_next-clause-never_too_many : goal.returns-in-Err-add_next-clause-never_too_many
returns-in-Err-add_next-clause-never_too_many c whole low e =
    let ds = theory_of c.args.theory.now in
    functional_within_limit c.width-width.result ds (schemes_of c.args.schemes.now) c.args.limit (functional_none ds whole) (omega (arith, low, length-map c.args.schemes.now attributes)) (exceeds c e)

-- a next tableau with more rows
adds : (c : After-drop-pool-in-loop-rows) → AddsAll (IsMadeOf c.width-width.result (theory_of c.args.theory.now) c.in-Ok-pool_of.pool.rows.items) c.in-Ok-pool_of.pool.rows.items c.add_next.new.pool.rows.items
adds c =
    let t = c.in-Ok-pool_of.pool.rows.items in
    subst (λ (d : List Dep). AddsAll (IsMadeOf c.width-width.result (dependencies_of d) t) t c.add_next.new.pool.rows.items) c.deps-deps.ensures.deps c.in_default.ensures.next

grows : (c : After-drop-pool-in-loop-rows) → length c.in-Ok-pool_of.pool.rows.items < length c.add_next.new.pool.rows.items
grows c =
    omega (arith, extends_length c.in-Ok-pool_of.pool.rows.items c.add_next.new.pool.rows.items (adds c).extends, c.if-len-count.false, c.len.ensures, c.len-count.ensures)

pub loop-rows-preserved : goal.loop-rows-preserved
loop-rows-preserved c =
    let at = goal.at.loop-rows-preserved c in
    next_round c.width-width.result (theory_of c.args.theory.now) (schemes_of c.args.schemes.now) c.args.limit c.loop-rows.rows.items c.close_functionally.new.rows
    c.in-Ok-pool_of.pool.rows.items c.loop-rows.invariant (closes at.In-Ok-pool_of) (pooled at.In-Ok-pool_of) c.add_next.new.pool.rows.items (adds c)
    c.in_default.ensures.pool.differ c.in_default.ensures.pool.within_limit (lacks at.Else-has_distinguished) (grows c)

pub loop-rows-smaller : goal.loop-rows-smaller
loop-rows-smaller c =
    let at = goal.at.loop-rows-smaller c in
    next_lower c.width-width.result (theory_of c.args.theory.now) (schemes_of c.args.schemes.now) c.args.limit c.loop-rows.rows.items c.close_functionally.new.rows
    c.in-Ok-pool_of.pool.rows.items c.loop-rows.invariant (closes at.In-Ok-pool_of) (pooled at.In-Ok-pool_of) c.add_next.new.pool.rows.items (adds c)
    c.in_default.ensures.pool.differ c.in_default.ensures.pool.within_limit (grows c)

-- the end at a closed tableau
ends : (c : After-drop-rows-then-len-count) → EndsLossy (width_of c.args.theory.now) (theory_of c.args.theory.now) (schemes_of c.args.schemes.now) c.args.limit c.in_ok-ascending_texts.field-0.items
ends c =
    let n = c.width-width.result in
    let ds = theory_of c.args.theory.now in
    let plan = schemes_of c.args.schemes.now in
    let t = c.in-Ok-pool_of.pool.rows.items in
    let at = goal.at.After-drop-rows-then-len-count c in
    let u = c.add_next.new.pool.rows.items in
    let none : AddsAll (IsMadeOf n ds t) t u = subst (λ (d : List Dep). AddsAll (IsMadeOf n (dependencies_of d) t) t u) c.deps-deps.ensures.deps c.in_default.ensures.next in
    let count : length u ≡ length t = omega (arith, c.if-len-count.true, c.len.ensures, c.len-count.ensures) in
    let texts : Relation = c.in_ok-ascending_texts.field-0.items in
    let small : length plan < 2 ^ 32 = omega (arith, c.requires.fits_u32, length-map c.args.schemes.now attributes) in
    subst (λ (m : ℕ). EndsLossy m ds plan c.args.limit texts) c.width-width.ensures.count
    (ends_lossy n ds plan c.args.limit c.loop-rows.rows.items c.close_functionally.new.rows t u texts small c.loop-rows.invariant (closes at.In-Ok-pool_of) (pooled at.In-Ok-pool_of)
    c.in-Ok-pool_of.ensures.pool.within_limit (lacks at.Else-has_distinguished) none count c.in_ok-ascending_texts.ensures.texts)

pub returns-then-len-count-clause-within_limit : goal.returns-then-len-count-clause-within_limit
returns-then-len-count-clause-within_limit c = (ends c).within

pub returns-then-len-count-clause-lossless : goal.returns-then-len-count-clause-lossless
returns-then-len-count-clause-lossless c = (
  (λ e. absurd cc),
  (λ lossless. absurd (gaining_lossy (width_of c.args.theory.now) (theory_of c.args.theory.now) (schemes_of c.args.schemes.now) c.in_ok-ascending_texts.field-0.items (ends c).gains lossless)),
)

pub returns-then-len-count-clause-closed_tableau : goal.returns-then-len-count-clause-closed_tableau
returns-then-len-count-clause-closed_tableau c = (ends c).closed

pub returns-then-len-count-clause-gaining : goal.returns-then-len-count-clause-gaining
returns-then-len-count-clause-gaining c = (ends c).gains
