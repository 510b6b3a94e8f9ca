-- A certificate is finished exactly where each line but the last is used, and refused where none or another is not.
use Rattle.std.proofs.Common.{◌≡◌, ◌⊎◌, inl, inr, ⊎_elim, ◌<◌, ◌≤◌, ◌+◌, ◌-◌, ℕ, Bool, true, false, cond, List, [], ◌∷◌, ◌++◌, length, take, slice_get, Option, Some, None, Result, Ok, Err, refl, sym, ◌∙◌, ap, arith}
use Rattle.std.specs.Prelude.{nat_lt, slice_index}
use Rattle.std.proofs.Math.Seq.{take-append_seam}
use Rattle.std.proofs.lemmas.Bool.{cases_order}
use Rattle.std.proofs.lemmas.Bool.Decides.{nat_tests}
use Rattle.std.proofs.lemmas.List.{length_push}
use Rattle.std.proofs.lemmas.Option.{same_Some}
use Rattle.schema_model.specs.Schemas.{Schema}
use Rattle.derivation.specs.Trees.{Tree}
use Rattle.proof_grammar.specs.CheckerStates.{Opened, diagnostic_at, finished_at, finished_certificate}
use Rattle.proof_grammar.specs.Diagnostics.{LineDiagnostic, never_used, empty_proof}
use Rattle.proof_grammar.proofs.FinishedLaws.{AreUsed, open_prefix, IsFirstOpen, first_open, IsLast, last_slot}
use Rattle.proof_grammar.proofs.NodeLemmas.{slice_get-append}
use Rattle.proof_grammar.proofs.SlotLemmas.{IsSlot, AreSlots, slots_size}

-- ---- how lines are finished
-- the last tree, where each other is used
pub record IsFinished (used : ℕ → ℕ) (ts : List Tree) (t : Tree) : Type 0 where
  pub before : List Tree
  pub trees : ts ≡ before ++ t ∷ []
  pub each : AreUsed used 0 (length before)

-- the first of so many lines, but the last, that no line used
pub record IsFirstUnused (used : ℕ → ℕ) (size : ℕ) (lines : List ℕ) (e : LineDiagnostic) : Type 0 where
  pub at : ℕ
  pub inside : at + 1 < size
  pub unused : used (at + 1) ≡ 0
  pub earlier : AreUsed used 0 at
  pub is : e ≡ diagnostic_at (slice_index lines at) never_used

abbrev pub Finishes : (ℕ → ℕ) → List Tree → ℕ → List ℕ → Result Tree LineDiagnostic → Type 0
Finishes used ts last lines (Ok t) = IsFinished used ts t
Finishes used ts last lines (Err e) =
    ((ts ≡ []) × (e ≡ diagnostic_at last empty_proof)) ⊎ IsFirstUnused used (length ts) lines e

pub finishes : (s : Schema) (used : ℕ → ℕ) (ts : List Tree) (os : List (Option Opened)) (last : ℕ) (lines : List ℕ)
    → AreSlots s used 0 ts os → ((n : ℕ) → length ts ≤ n → used n ≡ 0)
    → Finishes used ts last lines (finished_certificate last (record { lines = lines; unused = os }))
unfolding finished_certificate
finishes s used [] [] last lines slots fresh = inl (refl, refl)
finishes s used [] (o ∷ os) last lines slots fresh = absurd slots
finishes s used (t ∷ ts) os last lines slots fresh =
    let all = found.front ++ found.slot ∷ [] in
    let count : length all - 1 ≡ length found.front = omega (arith, length_push found.front found.slot) in
    let cut : take (length all - 1) all ≡ found.front =
    ap (λ n. take n all) count ∙ take-append_seam found.front (found.slot ∷ []) in
    let at : slice_get all (length all - 1) ≡ Some found.slot =
    ap (slice_get all) count ∙ slice_get-append found.front found.slot [] in
    rw (found.slots, cut, at) (by_cases (nat_lt (open_prefix found.front) (length found.front)) found.slot refl found.is)
  where
    found : IsLast s used 0 (t ∷ ts) os
    found = last_slot s used 0 t ts os slots

    first : IsFirstOpen used 0 (open_prefix found.front) (length found.before)
    first = first_open s used 0 found.before found.front found.are

    size : length found.front ≡ length found.before
    size = slots_size s used 0 found.before found.front found.are

    whole : length (t ∷ ts) ≡ length found.before + 1
    whole = ap length found.trees ∙ length_push found.before found.tree

    by_cases : (b : Bool) (slot : Option Opened) → nat_lt (open_prefix found.front) (length found.front) ≡ b
        → IsSlot s (used (0 + length (t ∷ ts))) found.tree slot
        → Finishes used (t ∷ ts) last lines (finished_at last lines (cond b (Some (open_prefix found.front)) None) slot)
    by_cases true slot less is =
        let inside : open_prefix found.front < length found.before = grind (arith, nat_tests, less, size) in
        let same : open_prefix found.front + 1 ≡ 0 + open_prefix found.front + 1 = omega arith in
        inr (record {
          at = open_prefix found.front;
          inside = omega (arith, inside, whole);
          unused = ap used same ∙ first.unused inside;
          earlier = first.earlier;
          is = refl;
        })
    by_cases false (Some o) past is = record {
      before = found.before;
      trees = found.trees ∙ ap (λ v. found.before ++ v ∷ []) (sym is.1.tree);
      each = λ k low high. first.earlier k low (grind (arith, nat_tests, past, size, high));
    }
    by_cases false None past is = absurd (omega (arith, is, fresh (0 + length (t ∷ ts)) (omega arith)))

-- they are finished in one way
pub one_end : (used : ℕ → ℕ) (ts : List Tree) (last : ℕ) (lines : List ℕ) (r q : Result Tree LineDiagnostic)
    → Finishes used ts last lines r → Finishes used ts last lines q → r ≡ q
one_end used ts last lines (Ok t) (Ok u) first second =
    let size : length first.before ≡ length second.before = omega (
      arith,
      length_push first.before t,
      length_push second.before u,
      ap length first.trees,
      ap length second.trees,
    ) in
    ap Ok (same_Some t u (sym (slice_get-append first.before t []) ∙ ap (λ vs. slice_get vs (length first.before)) (sym first.trees)
    ∙ ap (slice_get ts) size ∙ ap (λ vs. slice_get vs (length second.before)) second.trees ∙ slice_get-append second.before u []))
one_end used ts last lines (Ok t) (Err e) done (inl none) =
    absurd (omega (arith, ap length done.trees, length_push done.before t, ap length none.0))
one_end used ts last lines (Ok t) (Err e) done (inr not_empty) =
    absurd (omega (
      arith,
      not_empty.unused,
      done.each (not_empty.at + 1) (omega arith)
          (omega (arith, not_empty.inside, ap length done.trees, length_push done.before t)),
    ))
one_end used ts last lines (Err e) (Ok t) (inl none) done =
    absurd (omega (arith, ap length done.trees, length_push done.before t, ap length none.0))
one_end used ts last lines (Err e) (Ok t) (inr not_empty) done =
    absurd (omega (
      arith,
      not_empty.unused,
      done.each (not_empty.at + 1) (omega arith)
          (omega (arith, not_empty.inside, ap length done.trees, length_push done.before t)),
    ))
one_end used ts last lines (Err e) (Err f) (inl first) (inl second) = ap Err (first.1 ∙ sym second.1)
one_end used ts last lines (Err e) (Err f) (inl none) (inr not_empty) =
    absurd (omega (arith, ap length none.0, not_empty.inside))
one_end used ts last lines (Err e) (Err f) (inr not_empty) (inl none) =
    absurd (omega (arith, ap length none.0, not_empty.inside))
one_end used ts last lines (Err e) (Err f) (inr first) (inr second) =
    let same : first.at ≡ second.at = ⊎_elim (λ same. same)
    (⊎_elim
    (λ less. absurd (omega (arith, first.unused, second.earlier (first.at + 1) (omega arith) (omega (arith, less)))))
    (λ more. absurd (omega (arith, second.unused, first.earlier (second.at + 1) (omega arith) (omega (arith, more))))))
    (cases_order first.at second.at) in
    ap Err (first.is ∙ ap (λ i. diagnostic_at (slice_index lines i) never_used) same ∙ sym second.is)
