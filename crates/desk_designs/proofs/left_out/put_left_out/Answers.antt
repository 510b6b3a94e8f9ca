-- What is left to prove of `put_left_out`: its clause, and that the invariant of its loop holds at first and
-- stays.
use Rattle.std.proofs.Common.{◌≡◌, ◌+◌, ◌<◌, ℕ, Bool, List, [], ◌∷◌, ◌++◌, length, get_or, take, drop, refl, sym, ap, ◌∙◌, inl, inr, append-nil, append_assoc, arith}
use Rattle.std.proofs.lemmas.Bool.{cases_Bool}
use Rattle.std.proofs.lemmas.List.{drop_more, drop_all, take_more}
use Rattle.std.specs.Prelude.{if◌then◌else◌}
use Rattle.std.specs.List.{flat_map}
use Rattle.attr_sets.specs.declared.set.AttrSet.{AttrSet}
use Rattle.plans.specs.Containing.{is_contained}
use Rattle.schema_printer.specs.Spelling.{printed_names_of}
use Rattle.desk_designs.specs.LeftOut.{contained_after, within_text}
use Rattle.desk_designs.proofs.left_out.put_left_out.Goals as goal

-- one scheme of a list, and those after it
told_next : (f : AttrSet → List ℕ) (earlier : List AttrSet) (x : AttrSet) (later : List AttrSet)
    → flat_map f (contained_after earlier (x ∷ later))
    ≡ (if is_contained earlier x later then f x else []) ++ flat_map f (contained_after (earlier ++ x ∷ []) later)
told_next f earlier x later =
    let rest = contained_after (earlier ++ x ∷ []) later in
    let told : Bool → List ℕ = λ b. flat_map f (if b then x ∷ rest else rest) in
    let parts : Bool → List ℕ = λ b. (if b then f x else []) ++ flat_map f rest in
    elim (cases_Bool (is_contained earlier x later)) [
      | inl is ↦ ap told is ∙ sym (ap parts is)
      | inr not ↦ ap told not ∙ sym (ap parts not)
    ]

-- the scheme at a position, and those after it
told_at : (f : AttrSet → List ℕ) (all : List AttrSet) (i : ℕ) (d : AttrSet) → i < length all
    → flat_map f (contained_after (take i all) (drop i all))
    ≡ (if is_contained (take i all) (get_or all i d) (drop (i + 1) all) then f (get_or all i d) else [])
    ++ flat_map f (contained_after (take (i + 1) all) (drop (i + 1) all))
told_at f all i d lt =
    let x = get_or all i d in
    let later = drop (i + 1) all in
    let this : List ℕ = if is_contained (take i all) x later then f x else [] in
    ap (λ (l : List AttrSet). flat_map f (contained_after (take i all) l)) (drop_more all i d lt)
    ∙ told_next f (take i all) x later
    ∙ ap (λ (l : List AttrSet). this ++ flat_map f (contained_after l later)) (sym (take_more all i d lt))

pub loop-i-init : goal.loop-i-init
loop-i-init c = refl

pub loop-i-preserved : goal.loop-i-preserved
loop-i-preserved c =
    let f = within_text (printed_names_of c.args.schema.now) c.args.kept.now in
    let all = c.args.all.now in
    let i = c.loop-i.i in
    let d : AttrSet = record { 0 = 0 } in
    let lt : i < length all = omega (arith, c.loop-i-test.true) in
    let x = get_or all i d in
    let this : List ℕ = if is_contained (take i all) x (drop (i + 1) all) then f x else [] in
    let rest = flat_map f (contained_after (take (i + 1) all) (drop (i + 1) all)) in
    ap (λ (t : List ℕ). t ++ rest) (c.in_ok-put_if_contained.ensures.added d)
    ∙ append_assoc c.loop-i.text.items this rest
    ∙ ap (λ (t : List ℕ). c.loop-i.text.items ++ t) (sym (told_at f all i d lt))
    ∙ c.loop-i.invariant

pub returns : goal.returns
returns c =
    let names = printed_names_of c.args.schema.now in
    let f = within_text names c.args.kept.now in
    let all = c.args.all.now in
    let i = c.loop-i.i in
    let over : drop i all ≡ [] = drop_all i all (omega (arith, c.loop-i-test.false)) in
    record {
      added = sym (append-nil c.loop-i.text.items)
          ∙ sym (ap (λ (l : List AttrSet). c.loop-i.text.items ++ flat_map f (contained_after (take i all) l)) over)
          ∙ c.loop-i.invariant
          ∙ ap (λ (kept : List AttrSet). c.args.text.now.items ++ flat_map (within_text names kept) (contained_after [] all)) c.requires.kept;
    }
