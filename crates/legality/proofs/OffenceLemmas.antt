-- The offences of a list of dependencies, one after the other.
use Rattle.std.proofs.Common.{inl, inr, ◌≡◌, ◌+◌, ◌<◌, ◌≤◌, ◌↔◌, Option, Some, None, ℕ, zero, suc, List, [], ◌∷◌, ◌++◌, length, take, get_or, refl, sym, ap, subst, ◌∙◌, arith}
use Rattle.std.specs.Prelude.{All}
use Rattle.std.proofs.lemmas.List.{length-map, length-take-le, take_all}
use Rattle.attr_sets.specs.Attributes.{below}
use Rattle.dep_model.specs.Tuples.{Relation, IsOver}
use Rattle.dep_model.specs.Theories.{LegalFor, theory_of, width_of}
use Rattle.dep_model.specs.declared.theory.Theory.{Theory}
use Rattle.dep_model.specs.Dependencies.{Dependency, fd, mvd, Obeys}
use Rattle.dep_model.specs.Deps.{dependency_of, dependencies_of, IsDepWithin}
use Rattle.dep_model.specs.declared.dep.Dep.{Dep}
use Rattle.row_store.specs.Rows.{row_at}
use Rattle.legality.specs.declared.offence.Offence.{Offence}
use Rattle.legality.specs.declared.pair.Pair.{Pair}
use Rattle.legality.specs.Answers.{IsLeastOffence}
use Rattle.legality.specs.Offences.{BreaksAt, IsLeastPair, IsOffence, OffencesFrom}
use Rattle.legality.proofs.PairLemmas.{member_of}
use Rattle.dep_model.proofs.DepLemmas.{theory_next}

-- of no dependency there is no offence
pub no_offences : (n : ℕ) (r : Relation) (k : ℕ) (ds : List Dependency) (os : List Offence) → ds ≡ [] → os ≡ [] → OffencesFrom n r k ds os
unfolding OffencesFrom
no_offences n r k ds os e h = subst (λ (l : List Dependency). OffencesFrom n r k l os) (sym e) h

-- one dependency more, which the rows obey
pub obeyed_more : (n : ℕ) (r : Relation) (k : ℕ) (ds : List Dependency) (os : List Offence) (d : Dependency) → OffencesFrom n r k ds os → Obeys n d r → OffencesFrom n r k (ds ++ d ∷ []) os
unfolding OffencesFrom
obeyed_more n r k [] os d h obeys = inl (obeys, h)
obeyed_more n r k (e ∷ ds) os d (inl h) obeys = inl (h.0, obeyed_more n r (k + 1) ds os d h.1 obeys)
obeyed_more n r k (e ∷ ds) os d (inr (o, rest, at, is, h)) obeys = inr (o, rest, at, is, obeyed_more n r (k + 1) ds rest d h obeys)

-- one dependency more, which the rows break
pub broken_more : (n : ℕ) (r : Relation) (k : ℕ) (ds : List Dependency) (os : List Offence) (d : Dependency) (o : Offence) → OffencesFrom n r k ds os → IsOffence n r (k + length ds) d o
    → OffencesFrom n r k (ds ++ d ∷ []) (os ++ o ∷ [])
unfolding OffencesFrom
broken_more n r k [] os d o h is = inr (o, [], ap (λ (l : List Offence). l ++ o ∷ []) h, subst (λ (m : ℕ). IsOffence n r m d o) (omega arith) is, refl)
broken_more n r k (e ∷ ds) os d o (inl h) is = inl (h.0, broken_more n r (k + 1) ds os d o h.1 (subst (λ (m : ℕ). IsOffence n r m d o) (omega arith) is))
broken_more n r k (e ∷ ds) os d o (inr (p, rest, at, first, h)) is =
    inr (p, rest ++ o ∷ [], ap (λ (l : List Offence). l ++ o ∷ []) at, first, broken_more n r (k + 1) ds rest d o h (subst (λ (m : ℕ). IsOffence n r m d o) (omega arith) is))

-- a dependency of a schema, by its position
pub dep_within : (n w : ℕ) (deps ds : List Dep) (k : ℕ) (d : Dep) → ds ≡ deps → w ≡ n → All (IsDepWithin (below n)) deps → k < length ds → IsDepWithin (below w) (get_or ds k d)
dep_within n w deps ds k d e f all l =
    let low : k < length deps = subst (λ (xs : List Dep). k < length xs) e l in
    subst (λ (m : ℕ). IsDepWithin (below m) (get_or ds k d)) (sym f) (subst (λ (xs : List Dep). IsDepWithin (below n) (get_or xs k d)) (sym e) (all k d low))

answer_known : (n w : ℕ) (r : Relation) (deps ds : List Dep) (k : ℕ) (d : Dep) (least : Option Pair) → ds ≡ deps → w ≡ n
    → IsLeastOffence w r (dependency_of (get_or ds k d)) least → IsLeastOffence n r (dependency_of (get_or deps k d)) least
answer_known n w r deps ds k d least e f h =
    subst (λ (xs : List Dep). IsLeastOffence n r (dependency_of (get_or xs k d)) least) e (subst (λ (m : ℕ). IsLeastOffence m r (dependency_of (get_or ds k d)) least) f h)

-- the next dependency is obeyed
pub next_obeyed : (n w : ℕ) (r : Relation) (deps ds : List Dep) (k : ℕ) (d : Dep) (least : Option Pair) (os : List Offence) → ds ≡ deps → w ≡ n → k < length ds
    → OffencesFrom n r 0 (take k (dependencies_of deps)) os → IsLeastOffence w r (dependency_of (get_or ds k d)) least → least ≡ None → OffencesFrom n r 0 (take (k + 1) (dependencies_of deps)) os
next_obeyed n w r deps ds k d least os e f l old answer is =
    let low : k < length deps = subst (λ (xs : List Dep). k < length xs) e l in
    let obeys : Obeys n (dependency_of (get_or deps k d)) r = subst (λ (q : Option Pair). IsLeastOffence n r (dependency_of (get_or deps k d)) q) is (answer_known n w r deps ds k d least e f answer) in
    subst (λ (l : List Dependency). OffencesFrom n r 0 l os) (sym (theory_next deps k d low)) (obeyed_more n r 0 (take k (dependencies_of deps)) os (dependency_of (get_or deps k d)) old obeys)

-- the next dependency is broken
pub next_broken : (n w : ℕ) (r : Relation) (deps ds : List Dep) (k : ℕ) (d : Dep) (least : Option Pair) (p : Pair) (o : Offence) (os new : List Offence) → ds ≡ deps → w ≡ n → k < length ds
    → OffencesFrom n r 0 (take k (dependencies_of deps)) os → IsLeastOffence w r (dependency_of (get_or ds k d)) least → least ≡ Some p
    → o.dep ≡ k → o.first ≡ p.first + 1 → o.second ≡ p.second + 1 → new ≡ os ++ o ∷ [] → OffencesFrom n r 0 (take (k + 1) (dependencies_of deps)) new
next_broken n w r deps ds k d least p o os new e f l old answer is number first second pushed =
    let low : k < length deps = subst (λ (xs : List Dep). k < length xs) e l in
    let pair : IsLeastPair n r (dependency_of (get_or deps k d)) p.first p.second =
    subst (λ (q : Option Pair). IsLeastOffence n r (dependency_of (get_or deps k d)) q) is (answer_known n w r deps ds k d least e f answer) in
    let before : k ≤ length (dependencies_of deps) = omega (arith, low, length-map deps dependency_of) in
    let position : k ≡ 0 + length (take k (dependencies_of deps)) = omega (arith, length-take-le k (dependencies_of deps) before) in
    subst (λ (l : List Dependency). OffencesFrom n r 0 l new) (sym (theory_next deps k d low))
    (subst (λ (l : List Offence). OffencesFrom n r 0 (take k (dependencies_of deps) ++ dependency_of (get_or deps k d) ∷ []) l) (sym pushed)
    (broken_more n r 0 (take k (dependencies_of deps)) os (dependency_of (get_or deps k d)) o old (number ∙ position, p.first, p.second, pair, first, second)))

-- each dependency is looked at
pub all_looked_at : (n : ℕ) (r : Relation) (deps ds : List Dep) (k : ℕ) (os : List Offence) → ds ≡ deps → length ds ≤ k → OffencesFrom n r 0 (take k (dependencies_of deps)) os → OffencesFrom n r 0 (dependencies_of deps) os
all_looked_at n r deps ds k os e l h =
    let long : length (dependencies_of deps) ≤ k = omega (arith, l, ap length e, length-map deps dependency_of) in
    subst (λ (ds : List Dependency). OffencesFrom n r 0 ds os) (take_all k (dependencies_of deps) long) h

-- rows that break a dependency do not obey it
pub not_obeyed : (n : ℕ) (r : Relation) (d : Dependency) (i j : ℕ) → BreaksAt n r d i j → Obeys n d r → ⊥
not_obeyed n r (fd x y) i j (li, lj, (agrees, other)) obeys = other (obeys (row_at r i) (row_at r j) (member_of r i li) (member_of r j lj) agrees)
not_obeyed n r (mvd x y) i j (li, lj, (agrees, none)) obeys =
    let (v, member, first, second) = obeys (row_at r i) (row_at r j) (member_of r i li) (member_of r j lj) agrees in
    none v member first second

-- without an offence each dependency is obeyed, and the other way round
pub none_obeyed : (n : ℕ) (r : Relation) (k : ℕ) (ds : List Dependency) (os : List Offence) → OffencesFrom n r k ds os → os ≡ [] → All (λ d. Obeys n d r) ds
unfolding OffencesFrom
none_obeyed n r k [] os h e = λ i d l. absurd (omega (arith, l))
none_obeyed n r k (d ∷ ds) os (inl h) e = first d ds h.0 (none_obeyed n r (k + 1) ds os h.1 e)
  where
    first : (d : Dependency) (ds : List Dependency) → Obeys n d r → All (λ e. Obeys n e r) ds → All (λ e. Obeys n e r) (d ∷ ds)
    first d ds h rest zero default l = h
    first d ds h rest (suc i) default l = rest i default (omega (arith, l))
none_obeyed n r k (d ∷ ds) os (inr (o, rest, at, is, h)) e = absurd (cons_not_nil o rest (sym at ∙ e))
  where
    cons_not_nil : (o : Offence) (rest : List Offence) → o ∷ rest ≡ [] → ⊥
    cons_not_nil o rest e = cc

pub obeyed_none : (n : ℕ) (r : Relation) (k : ℕ) (ds : List Dependency) (os : List Offence) → OffencesFrom n r k ds os → All (λ d. Obeys n d r) ds → os ≡ []
unfolding OffencesFrom
obeyed_none n r k [] os h all = h
obeyed_none n r k (d ∷ ds) os (inl h) all = obeyed_none n r (k + 1) ds os h.1 (λ i e l. all (suc i) e (omega (arith, l)))
obeyed_none n r k (d ∷ ds) os (inr (o, rest, at, is, h)) all =
    let (number, i, j, least, first, second) = is in
    absurd (not_obeyed n r d i j least.breaks (all 0 d (omega arith)))

-- no offence is there exactly where the rows are legal
pub none_legal : (theory : Theory) (r : Relation) (os : List Offence) → IsOver (width_of theory) r
    → OffencesFrom (width_of theory) r 0 (theory_of theory) os → (os ≡ []) ↔ LegalFor theory r
none_legal theory r os over all = (
  (λ e. record { over = over; obeys = none_obeyed (width_of theory) r 0 (theory_of theory) os all e }),
  (λ legal. obeyed_none (width_of theory) r 0 (theory_of theory) os all legal.obeys),
)
