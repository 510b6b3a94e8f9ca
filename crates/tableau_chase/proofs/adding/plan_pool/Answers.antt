-- What is left to prove of `plan_pool`: its clauses `too_many` and `same` and that the invariant of
-- its loop holds at first and stays, by `PoolLemmas`.
use Rattle.std.proofs.Common.{◌≡◌, ℕ, ◌+◌, ◌<◌, List, ◌∙◌, ◌++◌, [], ◌∷◌, length, map, take, get_or, sym, ap, subst, arith, take_all}
use Rattle.std.proofs.lemmas.List.{take_more, take-map, map-append, length-map, length-take-le}
use Rattle.std.proofs.lemmas.List.Elements.{Contains-push}
use Rattle.std.specs.Prelude.{Contains}
use Rattle.attr_sets.specs.declared.set.AttrSet.{AttrSet}
use Rattle.attr_sets.specs.Attributes.{Attributes}
use Rattle.attr_sets.specs.Sets.{attributes}
use Rattle.chase_laws.specs.Tableaux.{SymbolRow, Tableau, SameTableau, scheme_row, plan_tableau}
use Rattle.chase_laws.proofs.TableauLemmas.{Same-refl}
use Rattle.std.specs.Prelude.{Result, Err}
use Rattle.dep_model.specs.declared.failure.Failure.{Failure}
use Rattle.dep_model.specs.declared.failure.Failure.TheVariants.{Refused}
use Rattle.tableau_chase.specs.declared.outcome.ChaseRefusal.{ChaseRefusal}
use Rattle.tableau_chase.specs.declared.outcome.ChaseRefusal.TheVariants.{TooManyRows}
use Rattle.tableau_chase.specs.declared.pool.Pool.{Pool}
use Rattle.tableau_chase.specs.Pools.{IsAdded}
use Rattle.dep_model.specs.Plans.{schemes_of}
use Rattle.tableau_chase.proofs.PoolLemmas.{scheme_rows-push, scheme_rows-take, same_added, too_many}
use Rattle.tableau_chase.proofs.adding.plan_pool.Goals as goal

plan_more : (schemes : List AttrSet) (i : ℕ) (d : AttrSet) → i < length schemes → take (i + 1) (schemes_of schemes) ≡ take i (schemes_of schemes) ++ attributes (get_or schemes i d) ∷ []
plan_more schemes i d low =
    take-map attributes (i + 1) schemes ∙ ap (map attributes) (take_more schemes i d low) ∙ map-append attributes (take i schemes) (get_or schemes i d ∷ []) ∙ ap (λ (t : List Attributes). t ++ attributes (get_or schemes i d) ∷ []) (sym (take-map attributes i schemes))

rows_more : (n : ℕ) (schemes : List AttrSet) (i : ℕ) (d : AttrSet) → i < length schemes → plan_tableau n (take (i + 1) (schemes_of schemes)) ≡ plan_tableau n (take i (schemes_of schemes)) ++ scheme_row n (attributes (get_or schemes i d)) (i + 1) ∷ []
rows_more n schemes i d low =
    ap (plan_tableau n) (plan_more schemes i d low)
    ∙ scheme_rows-push n 1 (i + 1) (take i (schemes_of schemes)) (attributes (get_or schemes i d)) (omega (arith, length-take-le i (schemes_of schemes) (omega (arith, low, length-map schemes attributes))))

-- a failure handed on
refused : (failure : Failure ChaseRefusal) → ◌≡◌ {A = Result Pool (Failure ChaseRefusal)} (Err failure) (Err (Refused TooManyRows)) → ◌≡◌ {A = Result (Unit {0}) (Failure ChaseRefusal)} (Err failure) (Err (Refused TooManyRows))
refused failure e = let same : failure ≡ Refused TooManyRows = cc in ap {B = Result (Unit {0}) (Failure ChaseRefusal)} (λ (f : Failure ChaseRefusal). Err f) same

pub loop-i-init : goal.loop-i-init
loop-i-init c = record { pool = c.new-pool.ensures.pool; same = subst (λ (t : Tableau). SameTableau [] t) (sym c.new-pool.ensures.rows) (Same-refl []) }

pub loop-i-preserved : goal.loop-i-preserved
loop-i-preserved c =
    let n = c.args.width in
    let schemes = c.args.schemes.now in
    let i = c.loop-i.i in
    let d : AttrSet = record { 0 = 0 } in
    let row : SymbolRow = c.in_ok-row.row in
    let after = c.add.new.self.rows.items in
    let row_is : row ≡ scheme_row n (attributes (get_or schemes i d)) (i + 1) = c.in_ok-row.ensures.row in
    let added : IsAdded c.loop-i.pool.rows.items (scheme_row n (attributes (get_or schemes i d)) (i + 1)) after = subst (λ (r : SymbolRow). IsAdded c.loop-i.pool.rows.items r after) row_is c.in-Ok.ensures.rows in
    record {
      pool = c.in-Ok.ensures.pool;
      same = subst (λ (t : Tableau). SameTableau t after) (sym (rows_more n schemes i d c.loop-i-test.true))
          (same_added (plan_tableau n (take i (schemes_of schemes))) c.loop-i.pool.rows.items (scheme_row n (attributes (get_or schemes i d)) (i + 1)) after c.loop-i.invariant.same added);
    }

pub returns-in-Err-clause-too_many : goal.returns-in-Err-clause-too_many
returns-in-Err-clause-too_many c e' =
    let e = refused c.in-Err.failure e' in
    let n = c.args.width in
    let schemes = c.args.schemes.now in
    let i = c.loop-i.i in
    let d : AttrSet = record { 0 = 0 } in
    let row : SymbolRow = c.in_ok-row.row in
    let row_is : row ≡ scheme_row n (attributes (get_or schemes i d)) (i + 1) = c.in_ok-row.ensures.row in
    let here : Contains (plan_tableau n (take (i + 1) (schemes_of schemes))) row = subst (λ (t : Tableau). Contains t row) (sym (rows_more n schemes i d c.loop-i-test.true))
    (subst (λ (r : SymbolRow). Contains (plan_tableau n (take i (schemes_of schemes)) ++ r ∷ []) row) row_is (Contains-push (plan_tableau n (take i (schemes_of schemes))) row)) in
    too_many c.args.limit c.loop-i.pool.rows.items row (plan_tableau n (schemes_of schemes)) c.loop-i.invariant.pool.differ (c.in-Err.ensures.absent e) (c.in-Err.ensures.full e)
    (λ p h. scheme_rows-take n 1 i (schemes_of schemes) p ((c.loop-i.invariant.same p).1 h)) (scheme_rows-take n 1 (i + 1) (schemes_of schemes) row here)

pub returns-clause-same : goal.returns-clause-same
returns-clause-same c =
    let plan = schemes_of c.args.schemes.now in
    subst (λ (p : List Attributes). SameTableau (plan_tableau c.args.width p) c.loop-i.pool.rows.items) (take_all c.loop-i.i plan (omega (arith, c.loop-i-test.false, length-map c.args.schemes.now attributes))) c.loop-i.invariant.same
