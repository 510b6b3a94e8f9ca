-- What is left to prove of `put_member`: its clause, and that the invariant of its loop holds at first and
-- stays.
use Rattle.std.proofs.Common.{◌≡◌, ◌+◌, ℕ, true, false, Bool, List, [], ◌∷◌, ◌++◌, refl, sym, ap, subst, ◌∙◌, inl, inr, append-nil, append_assoc, arith}
use Rattle.std.proofs.lemmas.Bool.{cases_Bool}
use Rattle.std.proofs.lemmas.Grind.{flat_map-append}
use Rattle.std.specs.Prelude.{if◌then◌else◌}
use Rattle.std.specs.List.{flat_map}
use Rattle.attr_sets.specs.Attributes.{Attributes, difference}
use Rattle.attr_sets.specs.Sets.{attributes}
use Rattle.cover_accounts.specs.Steps.{shortened_of}
use Rattle.dep_model.specs.Projections.{members_below}
use Rattle.schema_model.specs.Schemas.{width_of}
use Rattle.dep_model.proofs.SchemeLemmas.{members_below-none, members_below-one_more, members_below-no_more}
use Rattle.desk_covers.specs.CoverReasons.{needless_text}
use Rattle.desk_covers.proofs.cover_reasons.put_member.Goals as goal

-- one attribute more
text_more : (f : ℕ → List ℕ) (z : Attributes) (a : ℕ)
    → flat_map f (members_below (a + 1) z) ≡ flat_map f (members_below a z) ++ (if z a then f a else [])
text_more f z a =
    let so_far = flat_map f (members_below a z) in
    elim (cases_Bool (z a)) [
      | inl member ↦
          ap (flat_map f) (members_below-one_more a (a + 1) z refl member)
          ∙ flat_map-append f (members_below a z) (a ∷ [])
          ∙ ap (λ (l : List ℕ). so_far ++ l) (append-nil (f a))
          ∙ sym (ap (λ (b : Bool). so_far ++ (if b then f a else [])) member)
      | inr outside ↦
          ap (flat_map f) (members_below-no_more a (a + 1) z refl outside)
          ∙ sym (append-nil so_far)
          ∙ sym (ap (λ (b : Bool). so_far ++ (if b then f a else [])) outside)
    ]

pub loop-a-init : goal.loop-a-init
loop-a-init c =
    let f = needless_text c.args.schema.now (shortened_of c.args.member) in
    let z = difference (attributes c.args.member.whole) (attributes c.args.member.left) in
    sym (ap (λ (l : List ℕ). c.args.text.now.items ++ flat_map f l) (members_below-none z) ∙ append-nil c.args.text.now.items)

pub loop-a-preserved : goal.loop-a-preserved
loop-a-preserved c =
    let f = needless_text c.args.schema.now (shortened_of c.args.member) in
    let z = difference (attributes c.args.member.whole) (attributes c.args.member.left) in
    let a = c.loop-a.a in
    let old = c.args.text.now.items in
    let more : List ℕ = if z a then f a else [] in
    c.in_ok-put_needless.ensures.added
    ∙ ap (λ (l : List ℕ). l ++ more) c.loop-a.invariant
    ∙ append_assoc old (flat_map f (members_below a z)) more
    ∙ ap (λ (l : List ℕ). old ++ l) (sym (text_more f z a))

pub returns : goal.returns
returns c =
    let f = needless_text c.args.schema.now (shortened_of c.args.member) in
    let z = difference (attributes c.args.member.whole) (attributes c.args.member.left) in
    let all : c.loop-a.a ≡ width_of c.args.schema.now = omega (arith, c.loop-a-test.false, c.loop-a.auto.a-end, c.width-a-end.ensures.count) in
    record {
      added = c.loop-a.invariant ∙ ap (λ (n : ℕ). c.args.text.now.items ++ flat_map f (members_below n z)) all;
    }
