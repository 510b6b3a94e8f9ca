-- The lines for the destinations that failed.
use Rattle.std.proofs.Common.{◌≡◌, ℕ, ◌<◌, ◌≤◌, List, ◌++◌, ◌+◌, length, get_or, drop, sym, ap, ◌∙◌, append_assoc, append-nil}
use Rattle.std.proofs.lemmas.List.{drop_more, drop_all}
use Rattle.destinations.specs.Writing.{WriteEnd}
use Rattle.desk_delivery.specs.Outcomes.{end_text, failures_text}

pub failures_next : (ends : List WriteEnd) (i : ℕ) (d : WriteEnd) (before after : List ℕ) → i < length ends
    → before ++ failures_text (i + 1) (drop i ends) ≡ failures_text 1 ends → after ≡ before ++ end_text (i + 1) (get_or ends i d)
    → after ++ failures_text (i + 1 + 1) (drop (i + 1) ends) ≡ failures_text 1 ends
failures_next ends i d before after within so_far made =
    ap (λ (text : List ℕ). text ++ failures_text (i + 1 + 1) (drop (i + 1) ends)) made
    ∙ append_assoc before (end_text (i + 1) (get_or ends i d)) (failures_text (i + 1 + 1) (drop (i + 1) ends))
    ∙ ap (λ (rest : List WriteEnd). before ++ failures_text (i + 1) rest) (sym (drop_more ends i d within))
    ∙ so_far

pub failures_all : (ends : List WriteEnd) (i : ℕ) (text : List ℕ) → length ends ≤ i → text ++ failures_text (i + 1) (drop i ends) ≡ failures_text 1 ends → text ≡ failures_text 1 ends
failures_all ends i text whole so_far =
    sym (append-nil text) ∙ ap (λ (rest : List WriteEnd). text ++ failures_text (i + 1) rest) (sym (drop_all i ends whole)) ∙ so_far
