-- A notice is a text and then a hint: whole, or a part from its front.
use Rattle.std.proofs.Common.{◌≡◌, ◌+◌, ◌<◌, ◌≤◌, inl, inr, ℕ, List, [], ◌++◌, length, take, Option, Some, None, refl, sym, ap, ◌∙◌, arith, subst, length-append}
use Rattle.std.proofs.lemmas.List.{append-nil, take-append-le}
use Rattle.std.proofs.Math.Seq.{take-append-add}
use Rattle.std.specs.Io.KnownBytes.{append_known}
use Rattle.desk_outside.proofs.ListFacts.{append_known-append}
use Rattle.desk_outside.specs.Causes.{ErrorCountIncreased, TookPart}
use Rattle.desk_cli.specs.Desk.{Notes, sink_in_call}

nothing_appended : (known : Option (List ℕ)) → known ≡ append_known known []
nothing_appended None = refl
nothing_appended (Some bytes) = ap (λ (t : List ℕ). Some t) (sym (append-nil bytes))

pub notes_nothing : (known : Option (List ℕ)) (count : ℕ) → Notes (sink_in_call known known count count) []
notes_nothing known count = inl (nothing_appended known, refl)

-- a text that was taken whole, and then a hint
pub notes_both : (old middle new : Option (List ℕ)) (before count after : ℕ) (text hint : List ℕ) → middle ≡ append_known old text
    → count ≡ before → Notes (sink_in_call middle new count after) hint → Notes (sink_in_call old new before after) (text ++ hint)
notes_both old middle new before count after text hint taken same (inl (whole, calm)) =
    inl (whole ∙ ap (λ (known : Option (List ℕ)). append_known known hint) taken ∙ append_known-append old text hint, calm ∙ same)
notes_both old middle new before count after text hint taken same (inr (increased, (n, short, part))) =
    inr (
      subst (λ (k : ℕ). ErrorCountIncreased k after) same increased,
      (
        length text + n,
        omega (arith, short, length-append text hint),
        part ∙ ap (λ (known : Option (List ℕ)). append_known known (take n hint)) taken ∙ append_known-append old text (take n hint)
            ∙ ap (append_known old) (sym (take-append-add text hint n)),
      ),
    )

-- a part of a text
pub notes_part : (old new : Option (List ℕ)) (before after : ℕ) (text hint : List ℕ) → ErrorCountIncreased before after
    → TookPart old text new → Notes (sink_in_call old new before after) (text ++ hint)
notes_part old new before after text hint increased (n, short, part) =
    inr (
      increased,
      (
        n,
        omega (arith, short, length-append text hint),
        part ∙ ap (append_known old) (sym (take-append-le n text hint (omega (arith, short)))),
      ),
    )
