-- Links that a goal needs, and those at the leaves of a functional chain.
use Rattle.std.proofs.Common.{◌≡◌, ℕ, zero, suc, ◌+◌, ◌*◌, ◌≤◌, inl, inr, List, [], ◌∷◌, ◌++◌, length, refl, ap, sym, ◌∙◌, subst, arith, append-nil, append_assoc, length-append}
use Rattle.std.specs.Prelude.{slice_get, Contains, All}
use Rattle.std.proofs.lemmas.List.{length-map, map-append, get_or_append_left, get_or-append-add}
use Rattle.std.proofs.lemmas.List.Elements.{All-push, All-contains, All-head, Contains-append_left, Contains-append_right, Contains-append_cases}
use Rattle.attr_sets.specs.Attributes.{Attributes, union}
use Rattle.attr_sets.specs.Sets.{attributes}
use Rattle.dep_model.specs.Tuples.{Relation}
use Rattle.dep_model.specs.Dependencies.{Dependency, fd, Obeys, ObeysFd}
use Rattle.dep_model.specs.Deps.{dependency_of, dependencies_of}
use Rattle.dep_model.specs.Implication.{Implies}
use Rattle.dep_model.specs.Theories.{Theory, width_of, theory_of}
use Rattle.dep_model.proofs.ListLemmas.{Contains-cases}
use Rattle.dep_model.proofs.RuleLemmas.{reflexivity_obeyed, transitivity_obeyed, fd_weaker_obeyed}
use Rattle.fd_closure.proofs.ClosureLemmas.{fd_added}
use Rattle.derivation.specs.Trees.{Tree, nodes}
use Rattle.derivation.specs.Chains.{Stage, Reaches, IsFunctionalChain}
use Rattle.short_derivations.specs.declared.links.Link.{Link}
use Rattle.short_derivations.specs.Links.{dep_of_link, deps_of_links, said_by, IsNeeded, functional_one, functional_leaves, IsLinked, IsTried}
use Rattle.short_derivations.specs.Inferences.{Line, givens_of}
use Rattle.short_derivations.specs.Thrift.{IsThriftyOf}

-- ---- lists
all_left : {X : Type 0} (P : X → Type 0) (xs ys : List X) → All P (xs ++ ys) → All P xs
all_left P xs ys all k d low =
    subst P (get_or_append_left xs ys d k low) (all k d (omega (arith, low, length-append xs ys)))

all_right : {X : Type 0} (P : X → Type 0) (xs ys : List X) → All P (xs ++ ys) → All P ys
all_right P xs ys all k d low =
    subst P (get_or-append-add xs ys k d) (all (length xs + k) d (omega (arith, low, length-append xs ys)))

-- ---- lists of links
pub said_append : (a b : List Link) → said_by (a ++ b) ≡ said_by a ++ said_by b
said_append a b = ap dependencies_of (map-append dep_of_link a b) ∙ map-append dependency_of (deps_of_links a) (deps_of_links b)

pub said_push : (a : List Link) (l : Link) → said_by (a ++ l ∷ []) ≡ said_by a ++ fd (attributes l.lhs) (attributes l.rhs) ∷ []
said_push a l = said_append a (l ∷ [])

-- what follows from a part follows from all
pub implies_part : (n : ℕ) (ds others : List Dependency) (goal : Dependency) → All (Contains ds) others → Implies n others goal → Implies n ds goal
implies_part n ds others goal part implied r legal =
    implied r (record {
      over = legal.over;
      obeys = λ k e low. All-contains (λ (d : Dependency). Obeys n d r) ds _ legal.obeys (part k e low);
    })

-- ---- needed links
needed_less : (n : ℕ) (goal : Dependency) (ds less : List Dependency) (d : Dependency) → ((e : Dependency) → Contains less e → Contains ds e)
    → IsNeeded n goal ds d → IsNeeded n goal less d
needed_less n goal ds less d part needed others each implied =
    needed others (λ k e low. (part _ (each k e low).0, (each k e low).1)) implied

-- a link that is left out
pub left_out : (n : ℕ) (goal : Dependency) (kept rest : List Link) (l : Link)
    → All (IsNeeded n goal (said_by (kept ++ l ∷ rest))) (said_by kept)
    → All (IsNeeded n goal (said_by (kept ++ rest))) (said_by kept)
left_out n goal kept rest l needed k e low =
    needed_less n goal (said_by (kept ++ l ∷ rest)) (said_by (kept ++ rest)) _
    (λ f c. subst (λ (ds : List Dependency). Contains ds f) (sym (said_append kept (l ∷ rest)))
    (elim (Contains-append_cases (said_by kept) (said_by rest) f (subst (λ (ds : List Dependency). Contains ds f) (said_append kept rest) c)) [
      | inl first ↦ Contains-append_left (said_by kept) (said_by (l ∷ rest)) f first
      | inr second ↦ Contains-append_right (said_by kept) (said_by (l ∷ rest)) f
          (Contains-append_right (said_by (l ∷ [])) (said_by rest) f second)
    ]))
    (needed k e low)

-- a link that is kept
kept_needed : (n : ℕ) (goal : Dependency) (kept rest : List Link) (l : Link)
    → (Implies n (said_by (kept ++ rest)) goal → ⊥)
    → IsNeeded n goal (said_by (kept ++ l ∷ rest)) (fd (attributes l.lhs) (attributes l.rhs))
kept_needed n goal kept rest l missing others each implied =
    missing (implies_part n (said_by (kept ++ rest)) others goal
    (λ k e low. without _ (each k e low).0 (each k e low).1) implied)
  where
    without : (e : Dependency) → Contains (said_by (kept ++ l ∷ rest)) e → (e ≡ fd (attributes l.lhs) (attributes l.rhs) → ⊥)
        → Contains (said_by (kept ++ rest)) e
    without e c differs =
        subst (λ (ds : List Dependency). Contains ds e) (sym (said_append kept rest))
        (elim (Contains-append_cases (said_by kept) (said_by (l ∷ rest)) e (subst (λ (ds : List Dependency). Contains ds e) (said_append kept (l ∷ rest)) c)) [
          | inl first ↦ Contains-append_left (said_by kept) (said_by rest) e first
          | inr second ↦ elim (Contains-cases (fd (attributes l.lhs) (attributes l.rhs)) (said_by rest) e second) [
            | inl same ↦ absurd (differs same)
            | inr later ↦ Contains-append_right (said_by kept) (said_by rest) e later
          ]
        ])

pub kept_more : (kept rest : List Link) (l : Link) → (kept ++ l ∷ []) ++ rest ≡ kept ++ l ∷ rest
kept_more kept rest l = append_assoc kept (l ∷ []) rest

pub kept_all : (n : ℕ) (goal : Dependency) (kept rest : List Link) (l : Link)
    → All (IsNeeded n goal (said_by (kept ++ l ∷ rest))) (said_by kept)
    → (Implies n (said_by (kept ++ rest)) goal → ⊥)
    → All (IsNeeded n goal (said_by ((kept ++ l ∷ []) ++ rest))) (said_by (kept ++ l ∷ []))
kept_all n goal kept rest l needed missing =
    rw (kept_more kept rest l, said_push kept l)
    (All-push (IsNeeded n goal (said_by (kept ++ l ∷ rest))) (said_by kept) (fd (attributes l.lhs) (attributes l.rhs)) needed
    (kept_needed n goal kept rest l missing))

-- ---- the leaves of a functional chain
-- as many as there are steps, from which the left side determines what is reached
record HasLeaves (s : Theory) (x c : Attributes) (m : ℕ) (t : Tree) : Type 0 where
  count : length (functional_leaves s t) ≡ m
  size : nodes t ≡ 3 * m + 1
  obeyed : (r : Relation) → All (λ d. Obeys (width_of s) d r) (functional_leaves s t) → ObeysFd x c r

reached_leaves : (s : Theory) (x y : Attributes) (m : ℕ) (a : Stage) → Reaches s x y m a → HasLeaves s x a.closed m a.tree
reached_leaves s x y zero a is = subst (λ (b : Stage). HasLeaves s x b.closed 0 b.tree) (sym is) (record {
  count = refl;
  size = refl;
  obeyed = λ r all. reflexivity_obeyed x x r (λ j m. m);
})
reached_leaves s x y (suc m) a (b, k, t, reached, missing, out, is) =
    let before = reached_leaves s x y m b reached in
    let leaves : List Dependency = functional_leaves s b.tree in
    let one : functional_one (slice_get (theory_of s) k) ≡ fd out.lhs t ∷ [] = ap functional_one out.given in
    let long : length (leaves ++ fd out.lhs t ∷ []) ≡ suc m = omega (arith, length-append leaves (fd out.lhs t ∷ []), before.count) in
    subst (λ (c : Stage). HasLeaves s x c.closed (suc m) c.tree) (sym is) (record {
      count = ap (λ (ds : List Dependency). length (leaves ++ ds)) one ∙ long;
      size = omega (arith, before.size);
      obeyed = λ r all.
          let O : Dependency → Type 0 = λ d. Obeys (width_of s) d r in
          let each : All O (leaves ++ fd out.lhs t ∷ []) = subst (λ (ds : List Dependency). All O (leaves ++ ds)) one all in
          let last : ObeysFd out.lhs t r = All-head O (fd out.lhs t) [] (all_right O leaves (fd out.lhs t ∷ []) each) in
          transitivity_obeyed x b.closed (union b.closed t) r (before.obeyed r (all_left O leaves (fd out.lhs t ∷ []) each))
          (fd_added out.lhs t b.closed r out.out.inside last);
    })

-- the dependencies of a functional chain imply what it proves, and are a third of its nodes at most
pub chain_leaves_imply : (s : Theory) (x y : Attributes) (t : Tree) → IsFunctionalChain s x y t
    → Implies (width_of s) (functional_leaves s t) (fd x y)
chain_leaves_imply s x y t chain r legal =
    let last = reached_leaves s x y chain.steps chain.last chain.reached in
    let leaves : functional_leaves s t ≡ functional_leaves s chain.last.tree =
    ap (functional_leaves s) chain.whole ∙ append-nil (functional_leaves s chain.last.tree) in
    fd_weaker_obeyed x chain.last.closed x y r (λ j m. m) chain.holds
    (last.obeyed r (subst (All (λ (d : Dependency). Obeys (width_of s) d r)) leaves legal.obeys))

pub chain_leaves_count : (s : Theory) (x y : Attributes) (t : Tree) → IsFunctionalChain s x y t
    → 3 * length (functional_leaves s t) + 3 ≡ nodes t
chain_leaves_count s x y t chain =
    let last = reached_leaves s x y chain.steps chain.last chain.reached in
    let leaves : functional_leaves s t ≡ functional_leaves s chain.last.tree =
    ap (functional_leaves s) chain.whole ∙ append-nil (functional_leaves s chain.last.tree) in
    omega (arith, ap length leaves, last.count, last.size, ap nodes chain.whole)

-- ---- thrifty derivations
pub tried_linked : (s : Theory) (links : List Link) (d : Dependency) (most : ℕ) (lines : List Line) → IsLinked s links d lines
    → 3 * length links ≤ most → IsTried s links d most lines
tried_linked s links d most lines linked fits = record {
  given = linked.given;
  concludes = linked.concludes;
  used = linked.used;
  once = linked.once;
  few = linked.few;
  from = linked.from;
  fits = omega (arith, linked.few, linked.spent, fits);
}

pub thrifty_tried : (s : Theory) (links : List Link) (d : Dependency) (most : ℕ) (lines : List Line) → IsTried s links d most lines
    → All (IsNeeded (width_of s) d (said_by links)) (said_by links) → IsThriftyOf s d most lines
thrifty_tried s links d most lines tried needed = record {
  given = tried.given;
  concludes = tried.concludes;
  used = tried.used;
  once = tried.once;
  spared = λ e c others each implied.
      All-contains (IsNeeded (width_of s) d (said_by links)) (said_by links) e needed (All-contains (Contains (said_by links)) (givens_of lines) e tried.from c)
      others (λ k f low. (All-contains (Contains (said_by links)) (givens_of lines) _ tried.from (each k f low).0, (each k f low).1)) implied;
  few = tried.few;
  fits = tried.fits;
}

-- as many links as they say dependencies
pub length_said : (links : List Link) → length (said_by links) ≡ length links
length_said links = length-map (deps_of_links links) dependency_of ∙ length-map links dep_of_link
