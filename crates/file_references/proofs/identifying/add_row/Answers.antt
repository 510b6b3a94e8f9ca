-- What is left to prove of `add_row`: what it answers, and that the first row of values is one, by `KeyLemmas`.
use Rattle.std.proofs.Common.{◌≡◌, ◌+◌, ℕ, List, Bor, length, ap, sym, subst, ◌∙◌, arith}
use Rattle.std.specs.List.{list_all}
use Rattle.dep_model.specs.Tuples.{Relation}
use Rattle.dep_model.proofs.ListLemmas.{same_default}
use Rattle.row_store.specs.Rows.{row_at}
use Rattle.table_join.specs.Lent.{lent_values, tuples_of}
use Rattle.table_join.proofs.MatchLemmas.{lent_gets}
use Rattle.file_references.specs.Columns.{is_there}
use Rattle.file_references.specs.Keys.{HoldsKeySoFar, IsWholeKey}
use Rattle.file_references.proofs.KeyLemmas.{again, gets_new, gets_old, low_first, not_apart}
use Rattle.file_references.proofs.KnowsLemmas.{by_test}
use Rattle.file_references.proofs.ValueLemmas.{whole_as_read}
use Rattle.file_references.proofs.identifying.add_row.Goals as goal

pub returns-then-place-len : goal.returns-then-place-len
returns-then-place-len c =
    let gets = lent_gets c.args.values.now.keys c.insert_full.new.self.keys c.take_on.new.values c.in_ok-place.place
    c.in_ok-place.ensures.keys c.in_ok-place.ensures.index in
    let here = whole_as_read c.args.columns.now (row_at c.args.rows.now c.args.row) (lent_values c.take_on.new.values.items) _
    c.in_ok-take_on.ensures.values
    (sym c.if-not-are_there.false ∙ c.are_there.ensures.there ∙ ap (λ (l : List (Bor (List ℕ))). list_all is_there (lent_values l)) c.deref.ensures.value) in
    record {
      key = gets_new c.args.rows.now c.args.columns.now c.args.row (tuples_of c.args.values.now.keys) c.args.firsts.now.items c.requires.key
          (tuples_of c.insert_full.new.self.keys) c.in_ok-place.place (lent_values c.take_on.new.values.items) c.in_ok-take_on.ensures.values gets
          here (omega (arith, c.if-place-len.true, c.len.ensures)) c.push.new.self.items c.in_ok-push.ensures.items;
    }

pub are_same-requires-clause-one : goal.are_same-requires-clause-one
are_same-requires-clause-one c =
    let gets = lent_gets c.args.values.now.keys c.insert_full.new.self.keys c.take_on.new.values c.in_ok-place.place
    c.in_ok-place.ensures.keys c.in_ok-place.ensures.index in
    let low = low_first c.args.rows.now c.args.columns.now c.args.row (tuples_of c.args.values.now.keys) c.args.firsts.now.items c.requires.key
    (tuples_of c.insert_full.new.self.keys) c.in_ok-place.place (lent_values c.take_on.new.values.items) c.in_ok-take_on.ensures.values gets
    (λ same. omega (arith, same, c.if-place-len.false, c.len.ensures)) in
    let first = same_default c.args.firsts.now.items c.in_ok-place.place c.index.result.now 0 low.0 in
    omega (arith, low.1, c.requires.row, first, c.index.ensures)

pub returns : goal.returns
returns c =
    let rows = c.args.rows.now in
    let columns = c.args.columns.now in
    let row = c.args.row in
    let values = tuples_of c.args.values.now.keys in
    let firsts = c.args.firsts.now.items in
    let after = tuples_of c.insert_full.new.self.keys in
    let place = c.in_ok-place.place in
    let v = lent_values c.take_on.new.values.items in
    let gets = lent_gets c.args.values.now.keys c.insert_full.new.self.keys c.take_on.new.values place c.in_ok-place.ensures.keys c.in_ok-place.ensures.index in
    let here = whole_as_read columns (row_at rows row) v _ c.in_ok-take_on.ensures.values
    (sym c.if-not-are_there.false ∙ c.are_there.ensures.there ∙ ap (λ (l : List (Bor (List ℕ))). list_all is_there (lent_values l)) c.deref.ensures.value) in
    let other : place ≡ length firsts → ⊥ = λ same. omega (arith, same, c.if-place-len.false, c.len.ensures) in
    let old = gets_old rows columns row values firsts c.requires.key after place v c.in_ok-take_on.ensures.values gets other in
    let low = low_first rows columns row values firsts c.requires.key after place v c.in_ok-take_on.ensures.values gets other in
    let first = c.index.ensures ∙ same_default firsts place c.index.result.now 0 low.0 in
    record {
      key = by_test c.are_same.result _ (HoldsKeySoFar rows columns (row + 1) after firsts) (IsWholeKey rows columns → ⊥) c.are_same.ensures.same
          (λ same. subst (λ (vs : Relation). HoldsKeySoFar rows columns (row + 1) vs firsts) (sym old.0)
          (again rows columns row values firsts c.requires.key here place old.1 (ap (row_at rows) (sym first) ∙ same)))
          (λ differ. not_apart rows columns row values firsts place c.requires.row c.requires.key old.1
          (λ same. differ (ap (row_at rows) first ∙ same)));
    }
