-- What is left to prove of `add_name_list`: its clause `added` and that a round of its loop keeps
-- the invariant, by `NameLemmas`.
use Rattle.std.proofs.Common.{◌≡◌, ◌++◌, ◌<◌, ◌∙◌, ap, false, List, [], ℕ, take, take_all, get_or, length, sym, subst, arith}
use Rattle.attr_sets.specs.Sets.{attributes}
use Rattle.schema_model.specs.Schemas.{names_of}
use Rattle.schema_printer.specs.Printing.{members_from}
use Rattle.schema_printer.proofs.MemberLemmas.{names_inside, names_outside}
use Rattle.sql_syntax.specs.Names.{quoted_name, comma_list}
use Rattle.sql_syntax.proofs.NameLemmas.{comma_list-next, names_listed, not_empty_more, name_is}
use Rattle.sql_syntax.proofs.name_list.add_name_list.Goals as goal
use Rattle.sql_syntax.proofs.name_list.add_name_list.Goals.{then-contains+in_ok-add_listed_name, else-contains}

pub loop-attribute-preserved : goal.loop-attribute-preserved
loop-attribute-preserved c =
    let s = c.args.schema.now in
    let names = names_of s in
    let x = attributes c.args.set in
    let n = c.loop-attribute.attribute in
    let before = c.loop-attribute.invariant in
    let lt : n < length names = omega (arith, c.loop-attribute-test.true, c.width-attribute-end.ensures.count) in
    elim c.if-contains.branch [
      | then-contains+in_ok-add_listed_name w ↦
          rw (names_inside x names n lt (sym w.if-contains.ensures.member), w.text-is, w.any_written-is) (record {
            added = comma_list-next (members_from x 0 (take n names)) (get_or names n []) w.name.result.now
                c.loop-attribute.any_written c.args.text.now.items c.loop-attribute.text.items
                w.add_listed_name.new.text.items before.added before.any_written
                (name_is s n w.name.result.now w.name.ensures.name) w.in_ok-add_listed_name.ensures.added;
            any_written = not_empty_more false (members_from x 0 (take n names)) (get_or names n []);
          })
      | else-contains w ↦ rw (names_outside x names n lt (sym w.if-contains.ensures.member), w.text-is, w.any_written-is) before
    ]

pub returns : goal.returns
returns c =
    let names = names_of c.args.schema.now in
    record {
      added = subst (λ (ns : List (List ℕ)). c.loop-attribute.text.items ≡ c.args.text.now.items ++ comma_list quoted_name
          (members_from (attributes c.args.set) 0 ns))
          (take_all c.loop-attribute.attribute names (omega
          (arith, c.loop-attribute-test.false, c.width-attribute-end.ensures.count))) c.loop-attribute.invariant.added
          ∙ ap (λ (t : List ℕ). c.args.text.now.items ++ t) (sym (names_listed c.args.schema.now (attributes c.args.set)));
    }
