-- What is left to prove of `attributes_in_every_key`: that a round of its loop keeps the invariant,
-- by `member_added` and `member_left_out`.
use Rattle.std.proofs.Common.{◌≡◌, ◌+◌, ◌<◌, ◌↔◌, ℕ, true, sym, ◌∙◌, subst}
use Rattle.std.proofs.lemmas.Bool.{false≢true}
use Rattle.attr_sets.specs.Sets.{attributes}
use Rattle.attr_sets.specs.declared.set.AttrSet.{AttrSet}
use Rattle.dep_model.specs.Theories.{width_of}
use Rattle.which_form.specs.KeyRanges.{functional_of}
use Rattle.key_listing.specs.Narrowing.{IsInEveryKey}
use Rattle.key_listing.proofs.NarrowingLemmas.{member_added, member_left_out}
use Rattle.which_form.proofs.ranges.attributes_in_every_key.Goals.{then-is_in_every_key, else-is_in_every_key}
use Rattle.which_form.proofs.ranges.attributes_in_every_key.Goals as goal

pub loop-i-preserved : goal.loop-i-preserved
loop-i-preserved c =
    let s = c.args.theory.now in
    let i = c.loop-i.i in
    let P : ℕ → Type 0 = IsInEveryKey (width_of s) (functional_of s) (attributes c.args.scheme) in
    elim c.if-is_in_every_key.branch [
      | then-is_in_every_key w ↦ subst (λ (set : AttrSet). (a : ℕ) → (attributes set a ≡ true) ↔ ((a < i + 1) × P a)) (sym w.in_every_key-is)
          (member_added P (attributes c.loop-i.in_every_key) (attributes w.with-in_every_key.result) i c.loop-i.invariant w.with-in_every_key.ensures.members (c.is_in_every_key.ensures.in_every_key.0 w.if-is_in_every_key.true))
      | else-is_in_every_key w ↦ subst (λ (set : AttrSet). (a : ℕ) → (attributes set a ≡ true) ↔ ((a < i + 1) × P a)) (sym w.in_every_key-is)
          (member_left_out P (attributes c.loop-i.in_every_key) i c.loop-i.invariant (λ in_every_key. false≢true (sym w.if-is_in_every_key.false ∙ c.is_in_every_key.ensures.in_every_key.1 in_every_key)))
    ]
