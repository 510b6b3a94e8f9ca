-- What is left to prove of `row_keys`: what its calls require, and its clauses, by `KeyLemmas`.
use Rattle.std.proofs.Common.{◌+◌, [], ◌∷◌, ℕ, List, Vec, Global, sym, subst, arith}
use Rattle.std.specs.Prelude.{Contains}
use Rattle.attr_sets.specs.declared.set.AttrSet.{AttrSet}
use Rattle.candidate_search.specs.Levels.{AreTabled}
use Rattle.candidate_search.specs.Sides.{IsTooManyLeftSides}
use Rattle.candidate_search.specs.declared.side.Side.{Side}
use Rattle.candidate_search.specs.declared.side.TooManyLeftSides.{TooManyLeftSides}
use Rattle.dep_model.specs.Failures.{RefusesAs}
use Rattle.dep_model.specs.Plans.{schemes_of}
use Rattle.dep_model.specs.Tuples.{Tuple}
use Rattle.dep_model.specs.declared.failure.Failure.{Failure}
use Rattle.fd_search.specs.Keys.{AreRowKeys}
use Rattle.fd_search.proofs.KeyLemmas.{keys_of_first, keys_refused, names_tabled}
use Rattle.fd_search.proofs.NameLemmas.{AreNames, names_of, with_names}
use Rattle.fd_search.proofs.key_searching.row_keys.Goals as goal
use Rattle.fd_search.proofs.key_searching.row_keys.Goals.{In_ok-table}

-- the rows of the table: each with its name
record NamedRows (c : In_ok-table) : Type 0 where
  name : Tuple → List ℕ
  names : AreNames c.args.rows name
  tabled : AreTabled (c.args.width + 1) (with_names name c.args.rows) c.in_ok-table.table

named_rows : (c : In_ok-table) → NamedRows c
named_rows c =
    let (made, are, is_table) = c.in_ok-table.ensures.table in
    let (name, names, is) = names_of c.args.width c.args.rows made c.requires.over are in
    record {
      name = name;
      names = names;
      tabled = names_tabled name c.args.width c.args.rows made c.in_ok-table.table c.requires.over is is_table;
    }

pub minimal_left_sides-requires-clause-rows : goal.minimal_left_sides-requires-clause-rows
minimal_left_sides-requires-clause-rows c =
    let found = named_rows ((goal.at.minimal_left_sides-requires-clause-rows c).In_ok-table) in
    (with_names found.name c.args.rows, found.tabled, λ k d l. absurd (omega (arith, l)))

pub returns-in-Ok-clause-keys : goal.returns-in-Ok-clause-keys
returns-in-Ok-clause-keys c =
    let rows = c.args.rows in
    let d : Side = record { right = 0; lefts = c.lefts_of_first.result } in
    let found = named_rows ((goal.at.returns-in-Ok-clause-keys c).In_ok-table) in
    let are = c.in-Ok.ensures.minimal (with_names found.name rows) found.tabled (λ k d l. absurd (omega (arith, l))) in
    subst (λ (v : Vec AttrSet Global). AreRowKeys c.args.width rows (schemes_of v.items)) (sym (c.lefts_of_first.ensures.lefts d))
    (keys_of_first found.name c.args.width rows c.requires.over found.names c.in-Ok.sides.items d c.in-Ok.ensures.rights are)

pub returns-in-Err-Refused-clause-refusal : goal.returns-in-Err-Refused-clause-refusal
returns-in-Err-Refused-clause-refusal c =
    let rows = c.args.rows in
    let found = named_rows ((goal.at.returns-in-Err-Refused-clause-refusal c).In_ok-table) in
    let named_so = subst (λ (failure : Failure TooManyLeftSides). RefusesAs (λ refusal. Contains (c.args.width ∷ []) refusal.right) failure)
    c.in-Err-Refused.field-0-is c.in-Err-Refused.ensures.named in
    let exceeded = subst (λ (failure : Failure TooManyLeftSides). RefusesAs (IsTooManyLeftSides (c.args.width + 1) c.args.width (with_names found.name rows)) failure)
    c.in-Err-Refused.field-0-is
    (c.in-Err-Refused.ensures.refusal (with_names found.name rows) found.tabled (λ k d l. absurd (omega (arith, l)))) in
    keys_refused found.name c.args.width rows c.requires.over found.names c.in-Err-Refused.field-0-0 named_so exceeded
