-- What is left to prove of `superkey_response`: its clause `response`, of a key and of a set with a key
-- within it.
use Rattle.std.proofs.Common.{◌≡◌, inl, inr, refl, subst}
use Rattle.std.proofs.lemmas.Bool.{false≢true}
use Rattle.attr_sets.specs.Attributes.{Attributes}
use Rattle.attr_sets.specs.Sets.{attributes}
use Rattle.attr_sets.proofs.AttributesLemmas.{same_from_within}
use Rattle.dep_model.specs.Keys.{IsKey}
use Rattle.schema_model.specs.Schemas.{width_of, universe_of, theory_of}
use Rattle.dep_model.proofs.KeyLemmas.{greedy_is_key, key_of_superkey}
use Rattle.desk_keys.proofs.key_checks.superkey_response.Goals as goal

pub returns-then-eq : goal.returns-then-eq
returns-then-eq c =
    let s = c.args.schema.now in
    let n = width_of s in
    let ds = theory_of s in
    let x = attributes c.args.set in
    let key = attributes c.one_key-key.result in
    let same : key ≡ x = c.if-eq.ensures.same.0 refl in
    let is_key = key_of_superkey n ds (universe_of s) x key c.requires.superkey (greedy_is_key n ds x key c.requires.within (rw (c.theory.ensures.theory) at c.one_key-key.ensures.greedy)) in
    record {
      response = (
        c.in_ok-text.text.items,
        inl (
          record { is_key = subst (λ (k : Attributes). IsKey n ds (universe_of s) k) same is_key; shown = c.in_ok-text.ensures.text },
          c.with_text.ensures.says,
        ),
      );
    }

pub returns : goal.returns
returns c =
    let s = c.args.schema.now in
    let n = width_of s in
    let ds = theory_of s in
    let x = attributes c.args.set in
    let key = attributes c.one_key-key.result in
    let greedy = (rw (c.theory.ensures.theory) at c.one_key-key.ensures.greedy) in
    let is_key = key_of_superkey n ds (universe_of s) x key c.requires.superkey (greedy_is_key n ds x key c.requires.within greedy) in
    record {
      response = (
        c.in_ok-text-2.text.items,
        inr (
          inr (record {
            superkey = c.requires.superkey;
            no_key = λ is. false≢true (c.if-eq.ensures.same.1
                (same_from_within key x greedy.within (is.minimal key greedy.within is_key.superkey)));
            key = key;
            greedy = greedy;
            is_key = is_key;
            reads = c.in_ok-text-2.ensures.text;
          }),
          c.with_text-2.ensures.says,
        ),
      );
    }
