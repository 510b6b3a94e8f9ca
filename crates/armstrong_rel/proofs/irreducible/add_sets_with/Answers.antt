-- What is left to prove of `add_sets_with`: its clause `found` where the part is not closed, and what
-- `closed_at` and `add_lacking` require.
use Rattle.std.proofs.Common.{◌≡◌, true, false, not, sym, ap, ◌∙◌, arith}
use Rattle.std.proofs.lemmas.Bool.{true≢false, false_from_ne_true}
use Rattle.attr_sets.specs.Attributes.{intersection}
use Rattle.attr_sets.specs.Sets.{attributes}
use Rattle.attr_sets.proofs.AttributesLemmas.{same_at, same_number-decides}
use Rattle.dep_model.specs.Theories.{width_of, theory_of}
use Rattle.fd_closure.specs.LeftSides.{left_sides}
use Rattle.armstrong_rel.proofs.PartLemmas.{schema_within, left_sides_low}
use Rattle.armstrong_rel.proofs.FoundLemmas.{part_not_closed}
use Rattle.armstrong_rel.proofs.irreducible.add_sets_with.Goals as goal

pub closed_at-closed-requires-clause-set : goal.closed_at-closed-requires-clause-set
closed_at-closed-requires-clause-set c k m =
    let s = c.args.theory.now in
    left_sides_low (width_of s) (theory_of s) (schema_within s) k (c.requires.part k m)

pub returns-then-ne : goal.returns-then-ne
returns-then-ne c =
    let s = c.args.theory.now in
    let ds = theory_of s in
    let t = attributes c.closed_at-closed.result in
    let both : attributes c.intersection.result ≡ intersection t (left_sides ds) =
    c.intersection.ensures.members ∙ ap (intersection t) c.requires.used in
    let fact = same_number-decides c.intersection.result c.args.part (omega arith) (omega arith) in
    record {
      found = part_not_closed (width_of s) ds (schema_within s) c.requires.functional (attributes c.args.part) c.requires.part t c.args.found.now.items
          c.closed_at-closed.ensures.closure
          (λ same. true≢false (sym c.if-ne.true ∙ c.ne.ensures ∙ ap not (fact.1 (both ∙ same)))) c.requires.found;
    }

pub add_lacking-requires-clause-lacking : goal.add_lacking-requires-clause-lacking
add_lacking-requires-clause-lacking c a =
    let closure = c.closed_at-closed.ensures.closure in
    let shared = c.shared_beyond-shared.ensures.shared in
    let at = same_at c.difference.ensures.members a in (
      (λ m.
          let in_shared : attributes c.shared_beyond-shared.result a ≡ true = grind (arith, at, m) in
          let out : attributes c.closed_at-closed.result a ≡ false = grind (arith, at, m) in
          let fact = (shared a).0 in_shared in
          record { universe = fact.0; lacks = λ has. true≢false (sym ((closure a).1 has) ∙ out); shared = fact.1 }),
      (λ lacking.
          let in_shared = (shared a).1 (lacking.universe, lacking.shared) in
          let out = false_from_ne_true (attributes c.closed_at-closed.result a) (λ m. lacking.lacks ((closure a).0 m)) in
          grind (arith, at, in_shared, out)),
    )
