-- What is left to prove of `put_sets`: its clause, by `joined_first` and `joined_none`.
use Rattle.std.proofs.Common.{◌≡◌, ◌<◌, ◌==◌, ◌∷◌, ◌++◌, ℕ, false, List, [], length, get_or, drop, sym, ap, ◌∙◌, append-nil, append_assoc, arith, eqb-true}
use Rattle.std.specs.List.{flat_map}
use Rattle.std.proofs.lemmas.Bool.{true≢false}
use Rattle.attr_sets.specs.Sets.{attributes}
use Rattle.attr_sets.specs.declared.set.AttrSet.{AttrSet}
use Rattle.dep_model.specs.Plans.{schemes_of}
use Rattle.schema_printer.specs.Printing.{set_text}
use Rattle.schema_printer.specs.Spelling.{printed_names_of}
use Rattle.desk_designs.specs.FewestReasons.{next_set}
use Rattle.desk_designs.proofs.FewestTexts.{joined_first, joined_none}
use Rattle.desk_designs.proofs.fewest_reasons.put_sets.Goals as goal

-- a list that is not empty has an element
not_empty : (sets : List AttrSet) → false ≡ (length sets == 0) → 0 < length sets
not_empty [] other = absurd (true≢false (sym other))
not_empty (x ∷ sets) other = omega arith

pub returns-then-is_empty : goal.returns-then-is_empty
returns-then-is_empty c =
    let old = c.args.text.now.items in
    let none : length c.args.sets.now ≡ 0 = eqb-true (length c.args.sets.now) 0 (sym c.if-is_empty.ensures) in
    record {
      added = sym (append-nil old) ∙ ap (λ (t : List ℕ). old ++ t) (sym (joined_none (printed_names_of c.args.schema.now) c.args.sets.now none));
    }

pub returns : goal.returns
returns c =
    let names = printed_names_of c.args.schema.now in
    let sets = c.args.sets.now in
    let old = c.args.text.now.items in
    let d : AttrSet = record { 0 = 0 } in
    let some : 0 < length sets = not_empty sets c.if-is_empty.ensures in
    let first = set_text names (attributes (get_or sets 0 d)) in
    let rest = flat_map (next_set names) (drop 1 (schemes_of sets)) in
    record {
      added = c.in_ok-put_more_sets.ensures.added
          ∙ ap (λ (t : List ℕ). t ++ rest) c.in_ok-add_set.ensures.added
          ∙ append_assoc old first rest
          ∙ ap (λ (t : List ℕ). old ++ t) (sym (joined_first names sets d some));
    }
