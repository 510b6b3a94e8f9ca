-- What is left to prove of `test_schemes`: its clause `exit`, by `shown_loss`, and that the rows that are shown hold
-- numbers.
use Rattle.std.proofs.Common.{◌≡◌, inl, subst, sym}
use Rattle.std.specs.Prelude.{Vec}
use Rattle.std.specs.declared.alloc.Global.{Global}
use Rattle.chase_laws.specs.Answers.{IsClosedTableau, IsGaining}
use Rattle.dep_model.specs.Plans.{schemes_of}
use Rattle.schema_model.specs.Schemas.{width_of, theory_of}
use Rattle.dep_model.specs.Tuples.{Tuple, Relation}
use Rattle.tableau_chase.specs.Chases.{IfLossy}
use Rattle.tableau_chase.specs.declared.outcome.Chased.{Chased}
use Rattle.tableau_chase.specs.declared.outcome.Chased.TheVariants.{Lossless, Lossy}
use Rattle.typed_rows.specs.Typed.{HoldsNumerals}
use Rattle.desk_designs.specs.declared.join.TheConstants.{MOST_TABLEAU_ROWS}
use Rattle.desk_responses.specs.declared.status.Status.TheVariants.{No}
use Rattle.desk_responses.specs.ResponseValues.{Says}
use Rattle.desk_designs.specs.Joins.{lossy_text}
use Rattle.desk_responses.specs.Responses.{response_value}
use Rattle.desk_designs.proofs.ShownLosses.{closed_numerals, shown_loss}
use Rattle.desk_designs.proofs.join.test_schemes.Goals as goal

not_both : (chased : Chased) (rows : Vec Tuple Global) → chased ≡ Lossy rows → chased ≡ Lossless → ⊥
not_both chased rows lossy lossless = cc

pub lossy_exit-requires-clause-numerals : goal.lossy_exit-requires-clause-numerals
lossy_exit-requires-clause-numerals c =
    let s = c.args.schema.now in
    let plan = schemes_of c.args.schemes.now in
    let lossy = c.in-Ok-Lossy in
    let closed = subst (λ (chased : Chased). IfLossy (IsClosedTableau (width_of s) (theory_of s) plan MOST_TABLEAU_ROWS) chased) lossy.field-0-is (rw (c.theory.ensures.theory) at lossy.ensures.closed_tableau) in
    subst HoldsNumerals (sym c.deref.ensures.value) (closed_numerals (width_of s) (theory_of s) c.args.schemes.now MOST_TABLEAU_ROWS lossy.rows.items (c.requires.within_limit) closed)

pub returns-in-Ok-Lossy-clause-exit : goal.returns-in-Ok-Lossy-clause-exit
returns-in-Ok-Lossy-clause-exit c = λ response is.
    let s = c.args.schema.now in
    let n = width_of s in
    let ds = theory_of s in
    let plan = schemes_of c.args.schemes.now in
    let lossy = c.in-Ok-Lossy in
    let closed = subst (λ (chased : Chased). IfLossy (IsClosedTableau n ds plan MOST_TABLEAU_ROWS) chased) lossy.field-0-is (rw (c.theory.ensures.theory) at lossy.ensures.closed_tableau) in
    let gaining = subst (λ (chased : Chased). IfLossy (IsGaining n ds plan) chased) lossy.field-0-is (rw (c.theory.ensures.theory) at lossy.ensures.gaining) in
    inl (
      rw (c.theory.ensures.theory) at lossy.ensures.within_limit,
      (λ loses. not_both lossy.field-0 lossy.rows lossy.field-0-is ((rw (c.theory.ensures.theory) at lossy.ensures.lossless).1 loses)),
      (
        lossy.rows.items,
        shown_loss s plan lossy.rows.items closed gaining (closed_numerals n ds c.args.schemes.now MOST_TABLEAU_ROWS lossy.rows.items (c.requires.within_limit) closed),
        subst (λ (rows : Relation). Says No (lossy_text s rows) (response_value response)) c.deref.ensures.value (c.lossy_exit.ensures.says response is),
      ),
    )
