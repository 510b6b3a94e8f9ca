-- One thing at most is wrong with a line, and the wrong lines are one list.
use Rattle.std.proofs.Common.{◌≡◌, inl, inr, ◌++◌, Bool, true, false, List, [], ◌∷◌, Option, Some, Result, Ok, Err, refl, sym, ◌∙◌, ap}
use Rattle.std.specs.Prelude.{IsTrue}
use Rattle.schema_model.specs.Schemas.{Schema}
use Rattle.dep_model.specs.Dependencies.{Dependency}
use Rattle.derivation.specs.declared.fault.FaultKind.{FaultKind}
use Rattle.derivation_grammar.specs.Lines.{DerivationLine}
use Rattle.derivation_mistakes.specs.Mistakes.{Mistake, does_not_apply, gives, IsRight, IsMistake, MistakenLine, IsMistakenLine, AreMistakenLines}
use Rattle.derivation_mistakes.proofs.MisuseLemmas.{one_misuse}

module _ (s : Schema) (before : List Dependency) (l : DerivationLine) where
  pub one_mistake : (m n : Mistake) → IsMistake s before l m → IsMistake s before l n → m ≡ n
  one_mistake (does_not_apply a) (does_not_apply b) h g = ap does_not_apply (one_misuse s before l.stated l.body a b h g)
  one_mistake (does_not_apply a) (gives d) h g =
      let both : ◌≡◌ {A = Option (Result Dependency FaultKind)} (Some (Err h.kind)) (Some (Ok d)) = sym h.gives_nothing ∙ g.0 in cc
  one_mistake (gives d) (does_not_apply b) h g =
      let both : ◌≡◌ {A = Option (Result Dependency FaultKind)} (Some (Err g.kind)) (Some (Ok d)) = sym g.gives_nothing ∙ h.0 in cc
  one_mistake (gives d) (gives e) h g =
      let both : ◌≡◌ {A = Option (Result Dependency FaultKind)} (Some (Ok d)) (Some (Ok e)) = sym h.0 ∙ g.0 in
      let one : d ≡ e = cc in
      ap gives one

  pub right_has_none : (m : Mistake) → IsRight s before l → IsMistake s before l m → ⊥
  right_has_none (does_not_apply why) is h =
      let both : ◌≡◌ {A = Option (Result Dependency FaultKind)} (Some (Ok l.stated)) (Some (Err h.kind)) = sym is ∙ h.gives_nothing in cc
  right_has_none (gives d) is h =
      let both : ◌≡◌ {A = Option (Result Dependency FaultKind)} (Some (Ok l.stated)) (Some (Ok d)) = sym is ∙ h.0 in
      let one : l.stated ≡ d = cc in
      h.1 one

same_truth : (a b : Bool) → (IsTrue a → IsTrue b) → (IsTrue b → IsTrue a) → a ≡ b
same_truth true b there back = sym (there refl)
same_truth false true there back = back refl
same_truth false false there back = refl

one_line : (s : Schema) (before : List Dependency) (l : DerivationLine) (v w : MistakenLine)
    → IsMistakenLine s before l v → IsMistakenLine s before l w → v ≡ w
one_line s before l v w first second =
    let line = first.line ∙ sym second.line in
    let mistake = one_mistake s before l v.mistake w.mistake first.mistake second.mistake in
    let follows = same_truth v.follows w.follows (λ h. second.follows.1 (first.follows.0 h)) (λ h. first.follows.1 (second.follows.0 h)) in
    (λ i. record { line = line i; mistake = mistake i; follows = follows i })

pub one_list : (s : Schema) (before : List Dependency) (lines : List DerivationLine) (one other : List MistakenLine)
    → AreMistakenLines s before lines one → AreMistakenLines s before lines other → one ≡ other
one_list s before [] one other h g = h ∙ sym g
one_list s before (l ∷ ls) one other (inl h) (inl g) = one_list s (before ++ l.stated ∷ []) ls one other h.1 g.1
one_list s before (l ∷ ls) one other (inl h) (inr g) = absurd (right_has_none s before l g.0.mistake h.0 g.2.mistake)
one_list s before (l ∷ ls) one other (inr h) (inl g) = absurd (right_has_none s before l h.0.mistake g.0 h.2.mistake)
one_list s before (l ∷ ls) one other (inr h) (inr g) =
    let here = one_line s before l h.0 g.0 h.2 g.2 in
    let rest = one_list s (before ++ l.stated ∷ []) ls h.1 g.1 h.4 g.4 in
    h.3 ∙ (λ i. here i ∷ rest i) ∙ sym g.3
