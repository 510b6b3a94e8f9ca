-- What is left to prove of `add_keys`: its clause `all_keys` and what `add_keys` requires, by
-- `SearchLemmas`.
use Rattle.std.proofs.Common.{◌≡◌, true, refl, sym, ◌∙◌, subst, arith}
use Rattle.std.specs.Prelude.{Option, IfSome, Contains}
use Rattle.attr_sets.specs.declared.set.AttrSet.{AttrSet}
use Rattle.attr_sets.specs.Attributes.{difference, IsSubset}
use Rattle.attr_sets.specs.Sets.{attributes}
use Rattle.dep_model.specs.Theories.{width_of, theory_of}
use Rattle.attr_sets.proofs.AttributesLemmas.{same_at}
use Rattle.dep_model.proofs.FailureLemmas.{IfOk_both}
use Rattle.key_listing.proofs.SearchLemmas.{between_none, between_one, between_both, fewer_without, fewer_with}
use Rattle.key_listing.proofs.searching.+add_keys.Goals as goal

pub returns-in_default-clause-all_keys : goal.returns-in_default-clause-all_keys
returns-in_default-clause-all_keys t c =
    let s = c.args.theory.now in
    between_none (width_of s) (theory_of s) (attributes c.args.scheme) (attributes c.args.least) (attributes c.args.most) c.requires.within_scheme c.key_within.new.found.items
    (c.in_ok-key.ensures.none (grind (arith, c.in_default.is)))

pub add_keys-requires : goal.add_keys-requires
add_keys-requires t c =
    let a = c.in-Some-first.attribute in
    let rest : difference (attributes c.in-Some.key) (attributes c.args.least) a ≡ true = sym (same_at c.difference.ensures.members a) ∙ c.in-Some-first.ensures.first.member in
    let inside : IsSubset (attributes c.in-Some.key) (attributes c.args.most) = subst (λ (o : Option AttrSet). IfSome o (λ k. IsSubset (attributes k) (attributes c.args.most))) c.in-Some.is c.in_ok-key.ensures.within in
    let fewer = fewer_without (attributes c.args.least) (attributes c.args.most) (attributes c.without.result) a c.in-Some-first.ensures.attribute (inside a (grind (arith, rest))) (grind (arith, rest)) c.without.ensures.members in
    (omega (arith, fewer), (c.requires.scheme, ((λ k m. c.requires.within_scheme k (grind (arith, m, same_at c.without.ensures.members k))), c.in_ok-key.ensures.keys)))

pub add_keys-requires-in-Some-first : goal.add_keys-requires-in-Some-first
add_keys-requires-in-Some-first t c =
    let a = c.in-Some-first.attribute in
    let rest : difference (attributes c.in-Some.key) (attributes c.args.least) a ≡ true = sym (same_at c.difference.ensures.members a) ∙ c.in-Some-first.ensures.first.member in
    let inside : IsSubset (attributes c.in-Some.key) (attributes c.args.most) = subst (λ (o : Option AttrSet). IfSome o (λ k. IsSubset (attributes k) (attributes c.args.most))) c.in-Some.is c.in_ok-key.ensures.within in
    let fewer = fewer_with (attributes c.args.least) (attributes c.args.most) (attributes c.with.result) a c.in-Some-first.ensures.attribute (inside a (grind (arith, rest))) (grind (arith, rest)) c.with.ensures.members in
    (omega (arith, fewer), (c.requires.scheme, (c.requires.within_scheme, c.in_ok-add_keys-in-Some-first.ensures.keys)))

pub returns-in-None-clause-all_keys : goal.returns-in-None-clause-all_keys
returns-in-None-clause-all_keys t c =
    let s = c.args.theory.now in
    let key = c.in-Some.key in
    let found = c.key_within.new.found.items in
    let member : Contains found key = subst (λ (o : Option AttrSet). IfSome o (λ k. Contains found k)) c.in-Some.is c.in_ok-key.ensures.found in
    between_one (width_of s) (theory_of s) (attributes c.args.scheme) (attributes c.args.least) (attributes c.args.most) c.requires.within_scheme found key c.in_ok-key.ensures.keys member
    (λ a. sym (same_at c.difference.ensures.members a) ∙ c.in-None.ensures.none.0 refl a)

pub returns-in_ok-add_keys-in-Some-first-clause-all_keys : goal.returns-in_ok-add_keys-in-Some-first-clause-all_keys
returns-in_ok-add_keys-in-Some-first-clause-all_keys t c =
    let s = c.args.theory.now in
    let n = width_of s in
    let ds = theory_of s in
    let scheme = attributes c.args.scheme in
    let least = attributes c.args.least in
    let most = attributes c.args.most in
    let first = c.add_keys.new.found.items in
    let found = c.add_keys-in-Some-first.new.found.items in
    IfOk_both c.add_keys-in-Some-first.result c.add_keys-in-Some-first.ensures.kept c.add_keys-in-Some-first.ensures.all_keys
    (λ _ kept all. between_both n ds scheme least most (attributes c.without.result) (attributes c.with.result) c.in-Some-first.attribute first found c.without.ensures.members c.with.ensures.members kept
    c.in_ok-add_keys-in-Some-first.ensures.all_keys all)
