-- The loop that gathers the traces of a scheme: what it has found at each step.
use Rattle.std.proofs.Common.{◌≡◌, ℕ, ◌<◌, ◌≤◌, ◌↔◌, ◌⊎◌, true, false, List, [], ◌∷◌, ◌++◌, drop, sym, ap, subst, ◌∙◌, inl, inr, ⊎_elim, arith}
use Rattle.std.proofs.lemmas.Bool.{true≢false, cases_Bool, cases_eq, cases_lt, false_from_ne_true}
use Rattle.std.proofs.lemmas.Bool.Decides.{nat_tests}
use Rattle.std.proofs.lemmas.List.Elements.{All-push, All-weaker, All-contains}
use Rattle.std.proofs.lemmas.List.Quantifiers.{Any-push, all_pairs_push}
use Rattle.std.specs.Prelude.{All, AllPairs, Any}
use Rattle.attr_sets.specs.Attributes.{Attributes, only, union, intersection, difference, IsSubset, IsEmpty, Disjoint, IsFirstFrom}
use Rattle.attr_sets.specs.declared.set.AttrSet.{AttrSet}
use Rattle.attr_sets.specs.Sets.{attributes}
use Rattle.dep_model.specs.Dependencies.{Dependency}
use Rattle.dep_model.specs.Keys.{InClosure, IsBlock}
use Rattle.dep_basis.specs.declared.gathering.Blocks.{Blocks}
use Rattle.dep_basis.specs.declared.pieces.TheConstants.{MOST_BLOCKS}
use Rattle.dep_basis.specs.Traces.{IsTrace, BeginsBefore, AreTraces, blocks_of}
use Rattle.attr_sets.proofs.AttributesLemmas.{same_at}
use Rattle.dep_basis.proofs.BlockLemmas.{blocks_same}
use Rattle.dep_model.proofs.ListLemmas.{Any-left}

-- a set begins before each attribute that is left
abbrev pub HasBegun : Attributes → AttrSet → Type 0
HasBegun left q = (i j : ℕ) → IsFirstFrom (attributes q) 0 i → left j ≡ true → i < j

-- what was found while these attributes of the scheme are left
pub record IsFound (n : ℕ) (ds : List Dependency) (scheme x left closed : Attributes) (qs : List AttrSet) : Type 0 where
  pub left_in : IsSubset left scheme
  pub closed_is : (a : ℕ) → (closed a ≡ true) ↔ (scheme a ≡ true) × (left a ≡ false) × InClosure n ds x a
  pub each : All (λ q. IsTrace n ds scheme x (attributes q)) qs
  pub parts : (a : ℕ) → scheme a ≡ true → left a ≡ false → InClosure n ds x a ⊎ Any (λ q. attributes q a ≡ true) qs
  pub gone : All (λ q. Disjoint (attributes q) left) qs
  pub begun : All (HasBegun left) qs
  pub apart : AllPairs (λ p q. Disjoint (attributes p) (attributes q)) qs
  pub in_order : AllPairs (λ p q. BeginsBefore (attributes p) (attributes q)) qs

pub found_first : (n : ℕ) (ds : List Dependency) (scheme x closed : Attributes) → IsEmpty closed → IsFound n ds scheme x scheme closed []
found_first n ds scheme x closed none = record {
  left_in = λ k m. m;
  closed_is = λ a. ((λ m. absurd (true≢false (sym m ∙ none a))), (λ h. absurd (true≢false (sym h.0 ∙ h.1))));
  each = λ k d l. absurd (omega arith);
  parts = λ a m out. absurd (true≢false (sym m ∙ out));
  gone = λ k d l. absurd (omega arith);
  begun = λ k d l. absurd (omega arith);
  apart = λ i j d l m. absurd (omega arith);
  in_order = λ i j d l m. absurd (omega arith);
}

module _ (n : ℕ) (ds : List Dependency) (scheme x left closed : Attributes) (qs : List AttrSet) (before : IsFound n ds scheme x left closed qs) where
  -- the next attribute is closed
  pub found_closed : (rest more : Attributes) (i : ℕ) → left i ≡ true → InClosure n ds x i → rest ≡ difference left (only i) → more ≡ union closed (only i) → IsFound n ds scheme x rest more qs
  found_closed rest more i member is_closed rest_is more_is = record {
    left_in = λ k m. before.left_in k (grind (arith, same_at rest_is k, m));
    closed_is = λ a. elim (cases_eq a i) [
      | inl same ↦ (
        (λ m. (before.left_in a (ap left same ∙ member), same_at rest_is a ∙ grind (arith, nat_tests, same), subst (λ (b : ℕ). InClosure n ds x b) (sym same) is_closed)),
        (λ h. same_at more_is a ∙ grind (arith, nat_tests, same)),
      )
      | inr other ↦ (
        (λ m. let h = (before.closed_is a).0 (grind (arith, nat_tests, other, same_at more_is a, m)) in (h.0, grind (arith, same_at rest_is a, h.1), h.2)),
        (λ h. grind (arith, same_at more_is a, (before.closed_is a).1 (h.0, grind (arith, nat_tests, other, same_at rest_is a, h.1), h.2))),
      )
    ];
    each = before.each;
    parts = λ a m out. elim (cases_eq a i) [
      | inl same ↦ inl (subst (λ (b : ℕ). InClosure n ds x b) (sym same) is_closed)
      | inr other ↦ before.parts a m (grind (arith, nat_tests, other, same_at rest_is a, out))
    ];
    gone = All-weaker (λ (q : AttrSet). Disjoint (attributes q) left) (λ (q : AttrSet). Disjoint (attributes q) rest) (λ (q : AttrSet) h k m. grind (arith, same_at rest_is k, h k m)) qs before.gone;
    begun = All-weaker (HasBegun left) (HasBegun rest) (λ (q : AttrSet) h j k l m. h j k l (grind (arith, same_at rest_is k, m))) qs before.begun;
    apart = before.apart;
    in_order = before.in_order;
  }

  -- the block of the next attribute, and what the scheme has of it
  module _ (block rest : Attributes) (q : AttrSet) (i : ℕ) (least : IsFirstFrom left 0 i) (is_block : IsBlock n ds x block) (member : block i ≡ true)
      (trace : attributes q ≡ intersection block scheme) (rest_is : rest ≡ difference left block) where
    -- all of it is left
    trace_left : IsSubset (attributes q) left
    trace_left k m = elim (cases_Bool (left k)) [
      | inl in_left ↦ in_left
      | inr out ↦ absurd (⊎_elim
          (λ is_closed. is_block.outside k (grind (arith, same_at trace k, m)) is_closed)
          (λ (j, p, lt, is, in_p).
          let old = All-contains (λ (s : AttrSet). IsTrace n ds scheme x (attributes s)) qs p before.each (j, lt, is) in
          let same = blocks_same n ds x old.block block old.is_block is_block (k, grind (arith, same_at old.trace k, in_p), grind (arith, same_at trace k, m)) in
          let in_old : attributes p i ≡ true = grind (arith, same_at old.trace i, same_at same i, member, before.left_in i least.member) in
          true≢false (sym least.member ∙ All-contains (λ (s : AttrSet). Disjoint (attributes s) left) qs p before.gone (j, lt, is) i in_old))
          (before.parts k (grind (arith, same_at trace k, m)) out))
    ]

    -- it begins with the next attribute
    trace_begun : HasBegun rest q
    trace_begun j k first m =
        let in_q : attributes q i ≡ true = grind (arith, same_at trace i, member, before.left_in i least.member) in
        let in_left : left k ≡ true = grind (arith, same_at rest_is k, m) in
        let low : j ≤ i = elim (cases_lt i j) [
          | inl lt ↦ absurd (true≢false (sym in_q ∙ first.least i (omega arith) lt))
          | inr le ↦ le
        ] in
        elim (cases_lt i k) [
          | inl lt ↦ omega arith
          | inr le ↦ absurd (elim (cases_eq k i) [
            | inl same ↦ true≢false (sym m ∙ grind (arith, same_at rest_is k, ap block same, member))
            | inr other ↦ true≢false (sym in_left ∙ least.least k (omega arith) (omega arith))
          ])
        ]

    pub found_block : IsFound n ds scheme x rest closed (qs ++ q ∷ [])
    found_block = record {
      left_in = λ k m. before.left_in k (grind (arith, same_at rest_is k, m));
      closed_is = λ a. (
        (λ m. let h = (before.closed_is a).0 m in (h.0, grind (arith, same_at rest_is a, h.1), h.2)),
        (λ h. elim (cases_Bool (block a)) [
          | inl inside ↦ absurd (is_block.outside a inside h.2)
          | inr out ↦ (before.closed_is a).1 (h.0, grind (arith, same_at rest_is a, h.1, out), h.2)
        ]),
      );
      each = All-push (λ (s : AttrSet). IsTrace n ds scheme x (attributes s)) qs q before.each
          (record { block = block; is_block = is_block; trace = trace; not_empty = λ none. true≢false (sym (grind (arith, same_at trace i, member, before.left_in i least.member)) ∙ none i) });
      parts = λ a m out. elim (cases_Bool (block a)) [
        | inl inside ↦ inr (Any-push (λ (s : AttrSet). attributes s a ≡ true) qs q (grind (arith, same_at trace a, inside, m)))
        | inr outside ↦ ⊎_elim inl (λ found. inr (Any-left (λ (s : AttrSet). attributes s a ≡ true) qs q found)) (before.parts a m (grind (arith, same_at rest_is a, outside, out)))
      ];
      gone = All-push (λ (s : AttrSet). Disjoint (attributes s) rest) qs q
          (All-weaker (λ (s : AttrSet). Disjoint (attributes s) left) (λ (s : AttrSet). Disjoint (attributes s) rest) (λ (s : AttrSet) h k m. grind (arith, same_at rest_is k, h k m)) qs before.gone)
          (λ k m. grind (arith, same_at rest_is k, same_at trace k, m));
      begun = All-push (HasBegun rest) qs q
          (All-weaker (HasBegun left) (HasBegun rest) (λ (s : AttrSet) h j k l m. h j k l (grind (arith, same_at rest_is k, m))) qs before.begun)
          (λ j k first m. trace_begun j k first m);
      apart = all_pairs_push (λ (p s : AttrSet). Disjoint (attributes p) (attributes s)) qs q before.apart
          (λ k d l j m. false_from_ne_true (attributes q j) (λ in_q. true≢false (sym (trace_left j in_q) ∙ before.gone k d l j m)));
      in_order = all_pairs_push (λ (p s : AttrSet). BeginsBefore (attributes p) (attributes s)) qs q before.in_order
          (λ k d l i' j' first second. before.begun k d l i' j' first (trace_left j' second.member));
    }

-- nothing is left
pub found_all : (n : ℕ) (ds : List Dependency) (scheme x left : Attributes) (found : Blocks)
    → IsFound n ds scheme x left (attributes found.closed) (blocks_of found) → IsEmpty left → found.count ≤ MOST_BLOCKS → All (λ q. IsEmpty (attributes q)) (drop found.count found.blocks)
    → AreTraces n ds scheme x found
found_all n ds scheme x left found all none within_limit rest = record {
  closed = λ a. ((λ m. let h = (all.closed_is a).0 m in (h.0, h.2)), (λ h. (all.closed_is a).1 (h.0, none a, h.1)));
  each = all.each;
  parts = λ a m. ⊎_elim (λ closed. inl ((all.closed_is a).1 (m, none a, closed))) inr (all.parts a m (none a));
  listed = record { within_limit = within_limit; apart = all.apart; in_order = all.in_order; rest = rest };
}
