-- What is left to prove of `print_key_reasons`: what `print_reasons` requires, and its clause.
use Rattle.std.proofs.Common.{◌≡◌, ◌↔◌, ℕ, true, false, List, get_or, sym, ap, subst, ◌∙◌, inl, inr}
use Rattle.std.proofs.lemmas.Bool.{cases_Bool, true≢false, lt-ltb, ltb-true}
use Rattle.std.proofs.lemmas.List.Elements.{All-contains}
use Rattle.std.specs.Prelude.{All}
use Rattle.attr_sets.specs.Attributes.{Attributes, below}
use Rattle.attr_sets.specs.Sets.{attributes}
use Rattle.attr_sets.specs.declared.set.AttrSet.{AttrSet}
use Rattle.schema_model.specs.Schemas.{width_of, theory_of, universe_of}
use Rattle.schema_model.specs.Schemas.{Schema}
use Rattle.key_listing.specs.Listing.{AreAllKeys}
use Rattle.desk_keys.specs.KeyReasons.{InEveryKey, InNoKey}
use Rattle.desk_keys.proofs.key_reasons.print_key_reasons.Goals as goal

module _ (s : Schema) (keys : List AttrSet) (are : AreAllKeys (width_of s) (theory_of s) (universe_of s) keys) (a : ℕ) where
  in_every : ((below (width_of s) a ≡ true) × All (λ set. attributes set a ≡ true) keys) ↔ InEveryKey s a
  in_every = (
    (λ h. (
      ltb-true a (width_of s) h.0,
      λ k key.
          let found = are.all k key in
          subst (λ (x : Attributes). x a ≡ true) found.4
          (All-contains (λ (set : AttrSet). attributes set a ≡ true) keys found.1 h.1 (found.0, found.2, found.3)),
    )),
    (λ h. (lt-ltb a (width_of s) h.0, λ i d low. h.1 _ (are.each i d low))),
  )

  in_none : ((below (width_of s) a ≡ true) × All (λ set. attributes set a ≡ false) keys) ↔ InNoKey s a
  in_none = (
    (λ h. (
      ltb-true a (width_of s) h.0,
      λ prime.
          let (k, key, member) = prime in
          let found = are.all k key in
          let out = All-contains (λ (set : AttrSet). attributes set a ≡ false) keys found.1 h.1 (found.0, found.2, found.3) in
          true≢false (sym member ∙ sym (ap (λ (x : Attributes). x a) found.4) ∙ out),
    )),
    (λ h. (
      lt-ltb a (width_of s) h.0,
      λ i d low. elim (cases_Bool (attributes (get_or keys i d) a)) [
        | inl member ↦ absurd (h.1 (_, are.each i d low, member))
        | inr out ↦ out
      ],
    )),
  )

pub print_reasons-requires : goal.print_reasons-requires
print_reasons-requires c = record {
  common = λ a m. let h = (rw c.width.ensures.count at (c.in_every_set-common.ensures.common a).0 m) in h.0;
  absent = λ a m. let h = (rw c.width-2.ensures.count at (c.in_no_set-absent.ensures.absent a).0 m) in h.0;
}

pub returns : goal.returns
returns c =
    let s = c.args.schema.now in
    let keys = c.args.keys.now in
    record {
      text = record {
        common = attributes c.in_every_set-common.result;
        in_every_key = λ a.
            let is = in_every s keys c.requires.keys a in
            let tells = rw c.width.ensures.count at c.in_every_set-common.ensures.common a in
            ((λ m. is.0 (tells.0 m)), (λ h. tells.1 (is.1 h)));
        absent = attributes c.in_no_set-absent.result;
        in_no_key = λ a.
            let is = in_none s keys c.requires.keys a in
            let tells = rw c.width-2.ensures.count at c.in_no_set-absent.ensures.absent a in
            ((λ m. is.0 (tells.0 m)), (λ h. tells.1 (is.1 h)));
        reads = c.in_ok-text.ensures.text;
      };
    }
