-- What is left to prove of `put_groups`: that the invariant of its loop stays.
use Rattle.std.proofs.Common.{◌≡◌, ◌<◌, ◌+◌, ℕ, List, [], ◌∷◌, ◌++◌, length, get_or, take, sym, ap, ◌∙◌, append-nil, append_assoc}
use Rattle.std.proofs.lemmas.List.{map-append, take_more}
use Rattle.std.proofs.lemmas.Grind.{flat_map-append}
use Rattle.std.specs.List.{flat_map}
use Rattle.attr_sets.specs.Attributes.{Attributes}
use Rattle.attr_sets.specs.Sets.{attributes}
use Rattle.attr_sets.specs.declared.set.AttrSet.{AttrSet}
use Rattle.dep_model.specs.Deps.{dependencies_of}
use Rattle.dep_model.specs.Plans.{schemes_of}
use Rattle.schema_printer.specs.Spelling.{printed_names_of}
use Rattle.desk_designs.specs.SynthesisReasons.{group_text}
use Rattle.desk_designs.proofs.synthesis_reasons.put_groups.Goals as goal

-- one left side more
told_more : (f : Attributes → List ℕ) (lefts : List AttrSet) (i : ℕ) (d : AttrSet) → i < length lefts
    → flat_map f (schemes_of (take (i + 1) lefts)) ≡ flat_map f (schemes_of (take i lefts)) ++ f (attributes (get_or lefts i d))
told_more f lefts i d lt =
    let x = get_or lefts i d in
    let before = schemes_of (take i lefts) in
    ap (λ (l : List AttrSet). flat_map f (schemes_of l)) (take_more lefts i d lt)
    ∙ ap (λ (l : List Attributes). flat_map f l) (map-append attributes (take i lefts) (x ∷ []))
    ∙ flat_map-append f before (attributes x ∷ [])
    ∙ ap (λ (t : List ℕ). flat_map f before ++ t) (append-nil (f (attributes x)))

pub loop-left-preserved : goal.loop-left-preserved
loop-left-preserved c =
    let f = group_text (printed_names_of c.args.schema.now) (dependencies_of c.args.cover.now) in
    let lefts = c.args.lefts.now in
    let i = c.loop-left.left-index in
    let d : AttrSet = record { 0 = 0 } in
    let lt : i < length lefts = c.loop-left-test.true in
    let old = c.args.text.now.items in
    let this = f (attributes (get_or lefts i d)) in
    c.in_ok-put_group.ensures.added
    ∙ ap (λ (t : List ℕ). t ++ this) c.loop-left.invariant
    ∙ append_assoc old (flat_map f (schemes_of (take i lefts))) this
    ∙ ap (λ (t : List ℕ). old ++ t) (sym (told_more f lefts i d lt))
