-- What is left to prove of `put_more_sets`: its clause, and that the invariant of its loop stays.
use Rattle.std.proofs.Common.{◌≡◌, ◌≤◌, ◌+◌, ◌<◌, ℕ, List, ◌∷◌, ◌++◌, length, get_or, drop, sym, ap, ◌∙◌, append-nil, append_assoc, arith}
use Rattle.std.proofs.lemmas.List.{drop_more, drop_all, length-map, get_or-map}
use Rattle.std.specs.List.{flat_map}
use Rattle.attr_sets.specs.Attributes.{Attributes}
use Rattle.attr_sets.specs.Sets.{attributes}
use Rattle.attr_sets.specs.declared.set.AttrSet.{AttrSet}
use Rattle.dep_model.specs.Plans.{schemes_of}
use Rattle.schema_printer.specs.Spelling.{printed_names_of}
use Rattle.desk_designs.specs.FewestReasons.{next_set}
use Rattle.desk_designs.proofs.fewest_reasons.put_more_sets.Goals as goal

-- the scheme at a position, and those after it
drop_next : (all : List AttrSet) (k : ℕ) (d : AttrSet) → k < length all
    → drop k (schemes_of all) ≡ attributes (get_or all k d) ∷ drop (k + 1) (schemes_of all)
drop_next all k d lt =
    drop_more (schemes_of all) k (attributes d) (omega (arith, lt, length-map all attributes))
    ∙ ap (λ (x : Attributes). x ∷ drop (k + 1) (schemes_of all)) (get_or-map attributes all k d (attributes d) lt)

pub loop-k-preserved : goal.loop-k-preserved
loop-k-preserved c =
    let f = next_set (printed_names_of c.args.schema.now) in
    let all = c.args.sets.now in
    let k = c.loop-k.k in
    let d : AttrSet = record { 0 = 0 } in
    let lt : k < length all = omega (arith, c.loop-k-test.true) in
    let key = attributes (get_or all k d) in
    let rest = flat_map f (drop (k + 1) (schemes_of all)) in
    ap (λ (t : List ℕ). t ++ rest) c.in_ok-put_next_set.ensures.added
    ∙ append_assoc c.loop-k.text.items (f key) rest
    ∙ ap (λ (l : List Attributes). c.loop-k.text.items ++ flat_map f l) (sym (drop_next all k d lt))
    ∙ c.loop-k.invariant

pub returns : goal.returns
returns c =
    let f = next_set (printed_names_of c.args.schema.now) in
    let all = c.args.sets.now in
    let k = c.loop-k.k in
    let past : length (schemes_of all) ≤ k = omega (arith, c.loop-k-test.false, length-map all attributes) in
    record {
      added = sym (append-nil c.loop-k.text.items)
          ∙ sym (ap (λ (l : List Attributes). c.loop-k.text.items ++ flat_map f l) (drop_all k (schemes_of all) past))
          ∙ c.loop-k.invariant;
    }
