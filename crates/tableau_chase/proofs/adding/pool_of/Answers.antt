-- What is left to prove of `pool_of`: its clauses `never_too_many` and `same` and that the
-- invariant of its loop holds at first and stays, by `same_added` and `added_length`.
use Rattle.std.proofs.Common.{◌≡◌, ◌+◌, ◌∙◌, ◌++◌, [], ◌∷◌, length, take, get_or, sym, ap, subst, arith, take_all}
use Rattle.std.proofs.lemmas.List.{take_more, get_or_read}
use Rattle.chase_laws.specs.Tableaux.{SymbolRow, Tableau, SameTableau}
use Rattle.chase_laws.proofs.TableauLemmas.{Same-refl}
use Rattle.std.specs.Prelude.{Result, Err}
use Rattle.dep_model.specs.declared.failure.Failure.{Failure}
use Rattle.dep_model.specs.declared.failure.Failure.TheVariants.{Refused}
use Rattle.tableau_chase.specs.declared.outcome.ChaseRefusal.{ChaseRefusal}
use Rattle.tableau_chase.specs.declared.outcome.ChaseRefusal.TheVariants.{TooManyRows}
use Rattle.tableau_chase.specs.declared.pool.Pool.{Pool}
use Rattle.tableau_chase.proofs.PoolLemmas.{same_added, added_length}
use Rattle.tableau_chase.proofs.adding.pool_of.Goals as goal

-- a failure handed on
refused : (failure : Failure ChaseRefusal) → ◌≡◌ {A = Result Pool (Failure ChaseRefusal)} (Err failure) (Err (Refused TooManyRows)) → ◌≡◌ {A = Result (Unit {0}) (Failure ChaseRefusal)} (Err failure) (Err (Refused TooManyRows))
refused failure e = let same : failure ≡ Refused TooManyRows = cc in ap {B = Result (Unit {0}) (Failure ChaseRefusal)} (λ (f : Failure ChaseRefusal). Err f) same

pub loop-i-init : goal.loop-i-init
loop-i-init c = record { pool = c.new-pool.ensures.pool; same = subst (λ (t : Tableau). SameTableau [] t) (sym c.new-pool.ensures.rows) (Same-refl []); count = omega (arith, ap (λ (t : Tableau). length t) c.new-pool.ensures.rows) }

pub loop-i-preserved : goal.loop-i-preserved
loop-i-preserved c =
    let i = c.loop-i.i in
    let rows = c.args.rows.now in
    let after = c.add.new.self.rows.items in
    let row : SymbolRow = c.in_ok-row.row in
    let item : SymbolRow = c.index-rows-i.result in
    let row_is : row ≡ get_or rows i [] = c.in_ok-row.ensures.row ∙ get_or_read rows i item c.loop-i-test.true c.index-rows-i.is [] in
    let longer : take (i + 1) rows ≡ take i rows ++ row ∷ [] = take_more rows i [] c.loop-i-test.true ∙ ap (λ (r : SymbolRow). take i rows ++ r ∷ []) (sym row_is) in
    record {
      pool = c.in-Ok.ensures.pool;
      same = subst (λ (t : Tableau). SameTableau t after) (sym longer) (same_added (take i rows) c.loop-i.pool.rows.items row after c.loop-i.invariant.same c.in-Ok.ensures.rows);
      count = omega (arith, added_length c.loop-i.pool.rows.items row after c.in-Ok.ensures.rows, c.loop-i.invariant.count);
    }

pub returns-in-Err-clause-never_too_many : goal.returns-in-Err-clause-never_too_many
returns-in-Err-clause-never_too_many c e' = let e = refused c.in-Err.failure e' in absurd (omega (arith, c.in-Err.ensures.full e, c.loop-i.invariant.count, c.loop-i-test.true, c.requires.within_limit))

pub returns-clause-same : goal.returns-clause-same
returns-clause-same c = subst (λ (t : Tableau). SameTableau t c.loop-i.pool.rows.items) (take_all c.loop-i.i c.args.rows.now c.loop-i-test.false) c.loop-i.invariant.same
