-- Rows by their leaders: those on the empty set, those of groups, and those on one column more.
use Rattle.std.proofs.Common.{◌≡◌, ◌<◌, ℕ, List, length, map, sym, ap, ◌∙◌, arith}
use Rattle.std.proofs.lemmas.List.{get_or-map, length-map}
use Rattle.attr_sets.specs.Attributes.{Attributes}
use Rattle.row_groups.specs.Numberings.{AreFirsts, AreGroups, number_at}
use Rattle.dep_model.specs.Tuples.{Relation}
use Rattle.fd_discovery.specs.Leaders.{AreLeadersOn}
use Rattle.fd_discovery.specs.declared.table.CodeColumns.{CodeColumns}
use Rattle.candidate_search.specs.Levels.{AreTabled}
use Rattle.candidate_search.specs.Sides.{AreCoded}

-- rows with the table of their numbers are rows by their numbers
pub tabled_coded : (n : ℕ) (r : Relation) (table : CodeColumns) → AreTabled n r table → AreCoded n r table.codes
tabled_coded n r table are = record { over = are.over; interned = are.table.codes }

-- the first row of each group leads it
pub firsts_lead : (r : Relation) (x : Attributes) (groups firsts leaders : List ℕ) → AreGroups r x groups
    → AreFirsts groups firsts → leaders ≡ map (number_at firsts) groups → AreLeadersOn r x leaders
firsts_lead r x groups firsts leaders grouped first are = record {
  one_each = size;
  within = within;
  agrees = λ i low. (grouped.equal i (number_at leaders i) low (within i low)).0
      (sym (ap (number_at groups) (lead i low) ∙ first.number (number_at groups i) (group i low)));
  same = λ i j i_in j_in agree. lead i i_in
      ∙ ap (number_at firsts) ((grouped.equal i j i_in j_in).1 agree) ∙ sym (lead j j_in);
}
  where
    size : length leaders ≡ length r
    size = ap (λ (l : List ℕ). length l) are ∙ length-map groups (number_at firsts) ∙ grouped.one_each

    lead : (i : ℕ) → i < length r → number_at leaders i ≡ number_at firsts (number_at groups i)
    lead i low = ap (λ (l : List ℕ). number_at l i) are
        ∙ get_or-map (number_at firsts) groups i 0 0 (omega (arith, low, grouped.one_each))

    group : (i : ℕ) → i < length r → number_at groups i < length firsts
    group i low = first.each i (omega (arith, low, grouped.one_each))

    within : (i : ℕ) → i < length r → number_at leaders i < length r
    within i low = omega (arith, lead i low, first.within (number_at groups i) (group i low), grouped.one_each)
