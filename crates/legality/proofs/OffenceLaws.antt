-- What a list of offences names, and that there is one.
use Rattle.std.proofs.Common.{inl, inr, ◌≡◌, ◌+◌, ◌<◌, ◌≤◌, ◌⊎◌, Some, ℕ, zero, suc, List, [], ◌∷◌, refl, sym, ap, subst, ◌∙◌, arith}
use Rattle.std.specs.Prelude.{All}
use Rattle.std.specs.List.{slice_get}
use Rattle.dep_model.specs.Tuples.{Relation}
use Rattle.dep_model.specs.Dependencies.{Dependency, Obeys}
use Rattle.legality.specs.declared.offence.Offence.{Offence}
use Rattle.legality.specs.Offences.{IsLeastPair, IsOffence, OffencesFrom, OffencesOf}
use Rattle.legality.proofs.OffenceLemmas.{not_obeyed}

zero_plus : (n : ℕ) → 0 + n ≡ n
zero_plus n = omega arith

-- an offence is that of one of these dependencies, which are numbered from k
abbrev Names : ℕ → Relation → ℕ → List Dependency → Offence → Type 0
Names n r k ds o = (i : ℕ) × (o.dep ≡ k + i) × (d : Dependency) × (slice_get ds i ≡ Some d) × IsOffence n r o.dep d o

later_named : (n : ℕ) (r : Relation) (k : ℕ) (d : Dependency) (ds : List Dependency) (o : Offence)
    → Names n r (k + 1) ds o → Names n r k (d ∷ ds) o
later_named n r k d ds o (i, number, e, at, is) = (suc i, number ∙ omega arith, e, at, is)

first_named : (n : ℕ) (r : Relation) (k : ℕ) (d : Dependency) (ds : List Dependency) (o : Offence)
    → IsOffence n r k d o → Names n r k (d ∷ ds) o
first_named n r k d ds o is = (0, is.0 ∙ omega arith, d, refl, subst (λ (m : ℕ). IsOffence n r m d o) (sym is.0) is)

none_named : (n : ℕ) (r : Relation) (k : ℕ) (ds : List Dependency) → All (Names n r k ds) []
none_named n r k ds i o l = absurd (omega (arith, l))

one_named : (n : ℕ) (r : Relation) (k : ℕ) (ds : List Dependency) (o : Offence) (os : List Offence) → Names n r k ds o
    → All (Names n r k ds) os → All (Names n r k ds) (o ∷ os)
one_named n r k ds o os first rest zero d l = first
one_named n r k ds o os first rest (suc i) d l = rest i d (omega (arith, l))

all_named : (n : ℕ) (r : Relation) (k : ℕ) (ds : List Dependency) (os : List Offence) → OffencesFrom n r k ds os
    → All (Names n r k ds) os
unfolding OffencesFrom
all_named n r k [] os h = subst (λ (l : List Offence). All (Names n r k []) l) (sym h) (none_named n r k [])
all_named n r k (d ∷ ds) os (inl h) = λ i o l. later_named n r k d ds _ (all_named n r (k + 1) ds os h.1 i o l)
all_named n r k (d ∷ ds) os (inr (o, rest, at, is, h)) =
    subst (λ (l : List Offence). All (Names n r k (d ∷ ds)) l) (sym at)
    (one_named n r k (d ∷ ds) o rest (first_named n r k d ds o is) (λ i p l. later_named n r k d ds _ (all_named n r (k + 1) ds rest h i p l)))

pub offences_named : (n : ℕ) (ds : List Dependency) (r : Relation) (os : List Offence) → OffencesOf n ds r os
    → All (λ o. (d : Dependency) × (slice_get ds o.dep ≡ Some d) × IsOffence n r o.dep d o) os
offences_named n ds r os h i o l =
    let (j, number, d, at, is) = all_named n r 0 ds os h i o l in
    (d, subst (λ (m : ℕ). slice_get ds m ≡ Some d) (sym (number ∙ zero_plus j)) at, is)

-- ---- one list
same_pair : (n : ℕ) (r : Relation) (d : Dependency) (i j k l : ℕ) → IsLeastPair n r d i j → IsLeastPair n r d k l
    → (i ≡ k) × (j ≡ l)
same_pair n r d i j k l p q = by (p.least k l q.breaks) (q.least i j p.breaks)
  where
    by : (i < k) ⊎ ((i ≡ k) × (j ≤ l)) → (k < i) ⊎ ((k ≡ i) × (l ≤ j)) → (i ≡ k) × (j ≡ l)
    by (inl before) (inl after) = absurd (omega (arith, before, after))
    by (inl before) (inr (same, le)) = absurd (omega (arith, before, same))
    by (inr (same, le)) (inl after) = absurd (omega (arith, same, after))
    by (inr (same, le)) (inr (also, ge)) = (same, omega (arith, le, ge))

abbrev offence_at : ℕ → ℕ → ℕ → Offence
offence_at k i j = record { dep = k; first = i; second = j }

offence_path : (o p : Offence) → o.dep ≡ p.dep → o.first ≡ p.first → o.second ≡ p.second → o ≡ p
offence_path o p dep first second =
    ap (λ (k : ℕ). offence_at k o.first o.second) dep ∙ ap (λ (i : ℕ). offence_at p.dep i o.second) first
    ∙ ap (λ (j : ℕ). offence_at p.dep p.first j) second

same_offence : (n : ℕ) (r : Relation) (k : ℕ) (d : Dependency) (o p : Offence) → IsOffence n r k d o
    → IsOffence n r k d p → o ≡ p
same_offence n r k d o p (dep, i, j, least, first, second) (also, l, m, other, there, then_second) =
    let same = same_pair n r d i j l m least other in
    offence_path o p (dep ∙ sym also) (first ∙ ap (λ (a : ℕ). a + 1) same.0 ∙ sym there)
    (second ∙ ap (λ (a : ℕ). a + 1) same.1 ∙ sym then_second)

obeyed_or_broken : (n : ℕ) (r : Relation) (k : ℕ) (d : Dependency) (o : Offence) → Obeys n d r → IsOffence n r k d o
    → ⊥
obeyed_or_broken n r k d o obeys (dep, i, j, least, first, second) = not_obeyed n r d i j least.breaks obeys

pub one_list : (n : ℕ) (r : Relation) (k : ℕ) (ds : List Dependency) (one other : List Offence)
    → OffencesFrom n r k ds one → OffencesFrom n r k ds other → one ≡ other
unfolding OffencesFrom
one_list n r k [] one other p q = p ∙ sym q
one_list n r k (d ∷ ds) one other (inl p) (inl q) = one_list n r (k + 1) ds one other p.1 q.1
one_list n r k (d ∷ ds) one other (inl p) (inr (o, rest, at, is, q)) = absurd (obeyed_or_broken n r k d o p.0 is)
one_list n r k (d ∷ ds) one other (inr (o, rest, at, is, p)) (inl q) = absurd (obeyed_or_broken n r k d o q.0 is)
one_list n r k (d ∷ ds) one other (inr (o, rest, at, is, p)) (inr (u, more, there, also, q)) =
    at ∙ ap (λ (x : Offence). x ∷ rest) (same_offence n r k d o u is also)
    ∙ ap (λ (l : List Offence). u ∷ l) (one_list n r (k + 1) ds rest more p q) ∙ sym there
