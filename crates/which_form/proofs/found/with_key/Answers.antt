-- What is left to prove of `with_key`: what it finds, case by case, by `FoundLemmas`.
use Rattle.std.proofs.Common.{◌≡◌, ℕ, true, refl, sym, subst, ◌∙◌, inl, inr, ⊎_elim, arith}
use Rattle.std.proofs.lemmas.Bool.{true≢false, false≢true}
use Rattle.std.specs.Prelude.{Option, Some, IfSome}
use Rattle.attr_sets.specs.declared.narrowing.Direction.TheVariants.{Descending}
use Rattle.attr_sets.specs.declared.set.AttrSet.{AttrSet}
use Rattle.attr_sets.specs.Attributes.{Attributes, below, intersection, IsEmpty, IsSubset}
use Rattle.attr_sets.specs.Narrowing.{IsNarrowed}
use Rattle.attr_sets.specs.Sets.{attributes}
use Rattle.attr_sets.proofs.AttributesLemmas.{same_at, tell_empty}
use Rattle.dep_model.specs.Theories.{width_of}
use Rattle.fd_closure.proofs.SchemaLemmas.{of_functional_part}
use Rattle.which_form.specs.declared.found.Found.{Found}
use Rattle.which_form.specs.KeyRanges.{functional_of}
use Rattle.which_form.specs.KeySearches.{DeterminesSome}
use Rattle.which_form.specs.SecondForm.{IsProperPart}
use Rattle.which_form.proofs.FoundLemmas.{keeps_all, no_proper_part, none_before, not_before_earlier, part_determines, part_proper, prime_with_key}
use Rattle.which_form.proofs.found.with_key.Goals as goal
use Rattle.which_form.proofs.found.with_key.Goals.{After-first_determining-part}

pub returns-then-is_empty : goal.returns-then-is_empty
returns-then-is_empty c =
    let s = c.args.theory.now in
    let n = width_of s in
    let fs = functional_of s in
    let scheme = attributes c.args.range.scheme in
    let wanted = attributes c.args.wanted in
    let known = c.args.found in
    let is = c.union-in_keys.ensures.members in
    let later : Found = record { in_keys = c.union-in_keys.result; first = known.first } in
    let nothing : IsEmpty wanted = c.is_empty.ensures.empty.0 c.if-is_empty.true in
    record {
      found = record {
        prime = prime_with_key n fs scheme (attributes known.in_keys) (attributes c.args.key) (attributes c.union-in_keys.result) c.requires.found.prime c.requires.key is;
        part = c.requires.found.part;
      };
      kept = keeps_all n fs wanted known later (λ k m. same_at is k ∙ grind (arith, m)) (λ x not_before. not_before);
      has_all = record {
        members = λ k m. same_at is k ∙ grind (arith, m);
        parts = λ x _ _ d. absurd (true≢false (sym d.1 ∙ nothing d.0));
      };
    }

-- the part that was found
narrowed_is : (c : After-first_determining-part) → IsNarrowed Descending (DeterminesSome (width_of c.args.theory.now) (functional_of c.args.theory.now) (attributes c.args.wanted))
    (intersection (attributes c.args.key) (attributes c.args.range.sides)) (intersection (attributes c.args.key) (attributes c.args.range.sides)) (attributes c.first_determining-part.result)
narrowed_is c =
    let s = c.args.theory.now in
    let part = attributes c.first_determining-part.result in
    let start = attributes c.intersection.result in
    let is = c.intersection.ensures.members in
    let low : IsSubset start (below (width_of s)) = λ k m. c.requires.range.scheme k (c.requires.key.superkey.within.0 k (let there = same_at is k in grind (arith, m, there))) in
    subst (λ (x : Attributes). IsNarrowed Descending (DeterminesSome (width_of s) (functional_of s) (attributes c.args.wanted)) x x part) is
    (of_functional_part s c.deps.result.now c.deps.ensures.deps
    (λ m ds. IsSubset start (below m) → IsNarrowed Descending (DeterminesSome m ds (attributes c.args.wanted)) start start part)
    c.first_determining-part.ensures.narrowed low)

pub returns-then-eq : goal.returns-then-eq
returns-then-eq c =
    let s = c.args.theory.now in
    let n = width_of s in
    let fs = functional_of s in
    let range = c.requires.range in
    let scheme = attributes c.args.range.scheme in
    let sides = attributes c.args.range.sides in
    let wanted = attributes c.args.wanted in
    let key = attributes c.args.key in
    let known = c.args.found in
    let is = c.union-in_keys.ensures.members in
    let later : Found = record { in_keys = c.union-in_keys.result; first = known.first } in
    let part = attributes c.first_determining-part.result in
    let narrowed = narrowed_is (goal.at.returns-then-eq c).After-first_determining-part in
    let same : part ≡ key = c.if-eq.ensures.same.0 refl in
    record {
      found = record {
        prime = prime_with_key n fs scheme (attributes known.in_keys) key (attributes c.union-in_keys.result) c.requires.found.prime c.requires.key is;
        part = c.requires.found.part;
      };
      kept = keeps_all n fs wanted known later (λ k m. same_at is k ∙ grind (arith, m)) (λ x not_before. not_before);
      has_all = record {
        members = λ k m. same_at is k ∙ grind (arith, m);
        parts = λ x inside proper d. absurd (no_proper_part n fs scheme sides wanted key range.scheme range.added c.requires.wanted c.requires.key part narrowed same x inside proper d);
      };
    }

pub returns : goal.returns
returns c =
    let s = c.args.theory.now in
    let n = width_of s in
    let fs = functional_of s in
    let range = c.requires.range in
    let scheme = attributes c.args.range.scheme in
    let sides = attributes c.args.range.sides in
    let wanted = attributes c.args.wanted in
    let key = attributes c.args.key in
    let known = c.args.found in
    let is = c.union-in_keys.ensures.members in
    let first = c.earlier.result in
    let later : Found = record { in_keys = c.union-in_keys.result; first = Some first } in
    let part = attributes c.first_determining-part.result in
    let narrowed = narrowed_is (goal.at.returns c).After-first_determining-part in
    let one : (a : ℕ) × (wanted a ≡ true) = ⊎_elim (λ found. (found.0, found.2)) (λ nothing. absurd (false≢true (sym c.if-is_empty.false ∙ c.is_empty.ensures.empty.1 nothing)))
    (tell_empty n wanted (λ k m. range.scheme k (c.requires.wanted.within k m))) in
    let differs : part ≡ key → ⊥ = λ same. false≢true (c.if-eq.ensures.same.1 same) in
    let proper = part_proper n fs scheme sides wanted key range.scheme range.added c.requires.wanted c.requires.key part narrowed differs in
    let determines = part_determines n fs scheme sides wanted key range.scheme range.added c.requires.wanted c.requires.key part narrowed one.0 one.1 in
    record {
      found = record {
        prime = prime_with_key n fs scheme (attributes known.in_keys) key (attributes c.union-in_keys.result) c.requires.found.prime c.requires.key is;
        part = elim c.earlier.ensures.either [
          | inl new ↦ subst (λ (x : AttrSet). IfSome (Some x) (λ x. IsProperPart n fs scheme (attributes x) × DeterminesSome n fs wanted (attributes x))) (sym new) (proper, determines)
          | inr old ↦ subst (λ (o : Option AttrSet). IfSome o (λ x. IsProperPart n fs scheme (attributes x) × DeterminesSome n fs wanted (attributes x))) old c.requires.found.part
        ];
      };
      kept = keeps_all n fs wanted known later (λ k m. same_at is k ∙ grind (arith, m)) (not_before_earlier known.first first c.earlier.ensures.before_found);
      has_all = record {
        members = λ k m. same_at is k ∙ grind (arith, m);
        parts = λ x inside _ d before. none_before n fs scheme sides wanted key range.scheme range.added c.requires.wanted c.requires.key part narrowed x inside d (c.earlier.ensures.before x before);
      };
    }
