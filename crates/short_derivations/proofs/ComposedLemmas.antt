-- Short derivations, of each kind.
use Rattle.std.proofs.Common.{◌≡◌, ℕ, ◌≤◌, inl, inr, true, ◌&&◌, List, [], ◌∷◌, refl, ap, sym, subst, arith}
use Rattle.std.specs.Prelude.{Some, Ok, slice_get, Contains, All}
use Rattle.std.proofs.lemmas.List.Elements.{All-nil}
use Rattle.attr_sets.specs.declared.set.TheConstants.{MOST_ATTRIBUTES}
use Rattle.attr_sets.specs.Attributes.{Attributes, below, IsSubset}
use Rattle.attr_sets.specs.Sets.{is_subset}
use Rattle.attr_sets.proofs.AttributesLemmas.{is_subset-from, is_subset-true, is_same-from}
use Rattle.dep_model.specs.Dependencies.{Dependency, fd, mvd}
use Rattle.dep_model.specs.Deps.{IsDepWithin}
use Rattle.dep_model.specs.Implication.{Implies}
use Rattle.dep_model.specs.Theories.{Theory, width_of, theory_of, universe_of}
use Rattle.dep_model.proofs.ListLemmas.{Contains-nil, Contains-cases}
use Rattle.fd_closure.proofs.ClosureLemmas.{functionally_closed_holds}
use Rattle.derivation.specs.Trees.{Tree, leaf, step, pair, given, reflexivity, mreflexivity, nodes}
use Rattle.derivation.specs.Conclusions.{Proves}
use Rattle.derivation.proofs.TreeLemmas.{nodes-pos}
use Rattle.derivation.proofs.RuleTableLemmas.{some_of_ok, cond-ok}
use Rattle.derivation.specs.declared.fault.FaultKind.TheVariants.{NoSuchGiven, NotWithin}
use Rattle.std.proofs.lemmas.Bool.{and_parts}
use Rattle.short_derivations.specs.Inferences.{Line, by_leaf, by_decomposition, EachIsUsed, NoneIsRepeated}
use Rattle.short_derivations.specs.Links.{given_line}
use Rattle.short_derivations.specs.Short.{Concludes, IsPartOfGiven, FollowsFunctionally, SparesNone, IsThrifty}
use Rattle.short_derivations.specs.Emitted.{IsEmission}
use Rattle.short_derivations.specs.Thrift.{IsThriftyOf, IsShortOf}
use Rattle.short_derivations.proofs.ChainSteps.{same_left, same_right}
use Rattle.short_derivations.proofs.NeededLemmas.{implies_part}
use Rattle.short_derivations.proofs.PushedLines.{contains_at}

never : (x y v w : Attributes) → mvd x y ≡ fd v w → ⊥
never x y v w e = cc

-- ---- one line
-- a line alone, whatever it states
module _ (d : Dependency) (l : Line) (states : l.stated ≡ d) where
  once_alone : NoneIsRepeated (l ∷ [])
  once_alone i j e earlier low = absurd (omega (arith, earlier, low))

  used_alone : EachIsUsed (l ∷ [])
  used_alone k low = absurd (omega (arith, low))

  ends_alone : Concludes (l ∷ []) d
  ends_alone = ([], l, refl, states)

thrifty_one : (s : Theory) (d : Dependency) (k : ℕ) → IsThrifty s d (record { stated = d; why = by_leaf (given k) } ∷ [])
thrifty_one s (fd x y) k = λ follows. omega arith
thrifty_one s (mvd x y) k = tt {0}

spared_given : (s : Theory) (d : Dependency) (lines : List Line) → Contains (theory_of s) d → SparesNone s d lines
spared_given s (fd x y) lines is = λ new follows. absurd (new is)
spared_given s (mvd x y) lines is = tt {0}

-- the goal is given
pub short_given : (s : Theory) (d : Dependency) (t : Tree) (k : ℕ) (lines : List Line) → slice_get (theory_of s) k ≡ Some d
    → lines ≡ record { stated = d; why = by_leaf (given k) } ∷ [] → IsShortOf s d (nodes t) lines
short_given s d t k lines is all =
    let l : Line = record { stated = d; why = by_leaf (given k) } in
    rw all (record {
      short = record {
        given = (rw is refl, tt);
        concludes = ends_alone d l refl;
        used = used_alone d l refl;
        once = once_alone d l refl;
        alone = λ c. (k, refl);
        two = λ part. omega arith;
        spared = spared_given s d (l ∷ []) (contains_at (theory_of s) k d is);
        thrifty = thrifty_one s d k;
      };
      fits = omega (arith, nodes-pos t);
    })

-- the goal is trivial
pub short_reflexivity : (s : Theory) (x y : Attributes) (t : Tree) (lines : List Line) → IsSubset x (universe_of s) → IsSubset y x
    → (Contains (theory_of s) (fd x y) → ⊥) → lines ≡ record { stated = fd x y; why = by_leaf (reflexivity x y) } ∷ []
    → IsShortOf s (fd x y) (nodes t) lines
short_reflexivity s x y t lines within inside new all =
    let l : Line = record { stated = fd x y; why = by_leaf (reflexivity x y) } in
    rw all (record {
      short = record {
        given = (rw (is_subset-from x (universe_of s) within, is_subset-from y x inside) refl, tt);
        concludes = ends_alone (fd x y) l refl;
        used = used_alone (fd x y) l refl;
        once = once_alone (fd x y) l refl;
        alone = λ c. absurd (new c);
        two = λ part. omega arith;
        spared = λ other follows d c. absurd (Contains-nil d c);
        thrifty = λ follows. omega arith;
      };
      fits = omega (arith, nodes-pos t);
    })

pub short_mreflexivity : (s : Theory) (x y : Attributes) (t : Tree) (lines : List Line) → IsSubset x (universe_of s) → IsSubset y x
    → (Contains (theory_of s) (mvd x y) → ⊥) → lines ≡ record { stated = mvd x y; why = by_leaf (mreflexivity x y) } ∷ []
    → IsShortOf s (mvd x y) (nodes t) lines
short_mreflexivity s x y t lines within inside new all =
    let l : Line = record { stated = mvd x y; why = by_leaf (mreflexivity x y) } in
    rw all (record {
      short = record {
        given = (rw (is_subset-from x (universe_of s) within, is_subset-from y x inside) refl, tt);
        concludes = ends_alone (mvd x y) l refl;
        used = used_alone (mvd x y) l refl;
        once = once_alone (mvd x y) l refl;
        alone = λ c. absurd (new c);
        two = λ part. omega arith;
        spared = tt {0};
        thrifty = tt {0};
      };
      fits = omega (arith, nodes-pos t);
    })

-- ---- a part of a given dependency
-- nothing follows from no dependency that does not lie on the left
nothing_follows : (n : ℕ) (x y : Attributes) → IsSubset x (below n) → IsSubset y (below n) → Implies n [] (fd x y) → IsSubset y x
nothing_follows n x y x_in y_in implied =
    functionally_closed_holds n [] x y x (All-nil (IsDepWithin (below n))) x_in y_in (λ k d low. absurd (omega (arith, low))) (λ j m. m) implied

one_needed : (s : Theory) (x y : Attributes) (d : Dependency) → IsSubset x (universe_of s) → IsSubset y (universe_of s)
    → (IsSubset y x → ⊥) → (others : List Dependency) → All (λ e. Contains (d ∷ []) e × (e ≡ d → ⊥)) others
    → Implies (width_of s) others (fd x y) → ⊥
one_needed s x y d x_in y_in missing others each implied =
    missing (nothing_follows (width_of s) x y x_in y_in
    (implies_part (width_of s) [] others (fd x y) (λ k e low. elim (Contains-cases d [] _ (each k e low).0) [
      | inl same ↦ absurd ((each k e low).1 same)
      | inr none ↦ none
    ]) implied))

-- a certificate of what is neither given nor trivial has two nodes
two_nodes : (s : Theory) (x y : Attributes) (t : Tree) → Proves s t (fd x y) → IsSubset y (below MOST_ATTRIBUTES)
    → (Contains (theory_of s) (fd x y) → ⊥) → (IsSubset y x → ⊥) → 2 ≤ nodes t
two_nodes s x y (leaf (given k)) proves y_in new missing =
    absurd (new (contains_at (theory_of s) k (fd x y) (some_of_ok (slice_get (theory_of s) k) NoSuchGiven (fd x y) proves)))
two_nodes s x y (leaf (reflexivity v w)) proves y_in new missing =
    let passed = cond-ok (is_subset v (universe_of s) && is_subset w v) NotWithin (fd v w) (fd x y) proves in
    let both = and_parts (is_subset v (universe_of s)) (is_subset w v) passed.0 in
    let left : v ≡ x = same_left v w x y passed.1 in
    let right : w ≡ y = same_right v w x y passed.1 in
    let inside : is_subset y x ≡ true = rw (sym left, sym right) both.1 in
    absurd (missing (is_subset-true y x y_in inside))
two_nodes s x y (leaf (mreflexivity v w)) proves y_in new missing =
    let passed = cond-ok (is_subset v (universe_of s) && is_subset w v) NotWithin (mvd v w) (fd x y) proves in cc
two_nodes s x y (step rule t) proves y_in new missing = omega (arith, nodes-pos t)
two_nodes s x y (pair rule t u) proves y_in new missing = omega (arith, nodes-pos t, nodes-pos u)

pub short_cut : (s : Theory) (x y v z : Attributes) (t : Tree) (k : ℕ) (lines : List Line) → IsSubset x (universe_of s) → IsSubset y (universe_of s)
    → (IsSubset y x → ⊥) → (Contains (theory_of s) (fd x y) → ⊥) → slice_get (theory_of s) k ≡ Some (fd v z) → v ≡ x → IsSubset y z
    → Proves s t (fd x y) → IsSubset y (below MOST_ATTRIBUTES)
    → lines ≡ given_line k v z ∷ record { stated = fd x y; why = by_decomposition 0 } ∷ [] → IsShortOf s (fd x y) (nodes t) lines
short_cut s x y v z t k lines x_in y_in missing new is left inside proves y_below all =
    let first : Line = given_line k v z in
    let last : Line = record { stated = fd x y; why = by_decomposition 0 } in
    rw all (record {
      short = record {
        given = (rw is refl, ((fd v z, refl, rw (is_same-from x v (sym left), is_subset-from y z inside) (ap (λ (w : Attributes). Ok (fd w y)) left)), tt));
        concludes = (first ∷ [], last, refl, refl);
        used = λ j low.
            let zeroth : 0 ≡ j = omega (arith, low) in
            record { by = last; at = 1; stands = refl; later = omega (arith, low); premise = (0, omega arith, zeroth) };
        once = λ i j e earlier low.
            let zeroth : i ≡ 0 = omega (arith, earlier, low) in
            let first_one : j ≡ 1 = omega (arith, earlier, low) in
            rw (zeroth, first_one) (λ same. new (subst (Contains (theory_of s)) same (contains_at (theory_of s) k (fd v z) is)));
        alone = λ c. absurd (new c);
        two = λ part. omega arith;
        spared = λ other follows d c others each implied.
            let same : d ≡ fd v z = elim (Contains-cases (fd v z) [] d c) [
              | inl is_it ↦ is_it
              | inr none ↦ absurd (Contains-nil d none)
            ] in
            one_needed s x y (fd v z) x_in y_in missing others (subst (λ (f : Dependency). All (λ e. Contains (fd v z ∷ []) e × (e ≡ f → ⊥)) others) same each) implied;
        thrifty = λ follows. omega arith;
      };
      fits = two_nodes s x y t proves y_below new missing;
    })

-- ---- other goals
no_part_of : (s : Theory) (x y : Attributes) → ((z : Attributes) → Contains (theory_of s) (fd x z) → IsSubset y z → ⊥)
    → IsPartOfGiven s (fd x y) → ⊥
no_part_of s x y none (v, w, z, is, one, inside) =
    none z (subst (λ (u : Attributes). Contains (theory_of s) (fd u z)) (sym (same_left x y v w is)) one)
    (subst (λ (u : Attributes). IsSubset u z) (sym (same_right x y v w is)) inside)

-- a chain of needed dependencies
pub short_thrifty : (s : Theory) (x y : Attributes) (most : ℕ) (lines : List Line) → (Contains (theory_of s) (fd x y) → ⊥)
    → ((z : Attributes) → Contains (theory_of s) (fd x z) → IsSubset y z → ⊥) → IsThriftyOf s (fd x y) most lines
    → IsShortOf s (fd x y) most lines
short_thrifty s x y most lines new no_part thrifty = record {
  short = record {
    given = thrifty.given;
    concludes = thrifty.concludes;
    used = thrifty.used;
    once = thrifty.once;
    alone = λ c. absurd (new c);
    two = λ part. absurd (no_part_of s x y no_part part);
    spared = λ other follows. thrifty.spared;
    thrifty = λ follows. omega (arith, thrifty.few);
  };
  fits = thrifty.fits;
}

-- a goal that needs multivalued dependencies
pub short_mixed : (s : Theory) (x y : Attributes) (most : ℕ) (lines : List Line) → (Contains (theory_of s) (fd x y) → ⊥)
    → ((z : Attributes) → Contains (theory_of s) (fd x z) → IsSubset y z → ⊥) → (FollowsFunctionally s (fd x y) → ⊥)
    → IsEmission s (fd x y) most lines → IsShortOf s (fd x y) most lines
short_mixed s x y most lines new no_part mixed emission = record {
  short = record {
    given = emission.given;
    concludes = emission.concludes;
    used = emission.used;
    once = emission.once;
    alone = λ c. absurd (new c);
    two = λ part. absurd (no_part_of s x y no_part part);
    spared = λ other follows. absurd (mixed follows);
    thrifty = λ follows. absurd (mixed follows);
  };
  fits = emission.fits;
}

-- a multivalued goal
pub short_multivalued : (s : Theory) (x y : Attributes) (most : ℕ) (lines : List Line) → (Contains (theory_of s) (mvd x y) → ⊥)
    → IsEmission s (mvd x y) most lines → IsShortOf s (mvd x y) most lines
short_multivalued s x y most lines new emission = record {
  short = record {
    given = emission.given;
    concludes = emission.concludes;
    used = emission.used;
    once = emission.once;
    alone = λ c. absurd (new c);
    two = λ part. absurd (never x y part.0 part.1 part.3);
    spared = tt {0};
    thrifty = tt {0};
  };
  fits = emission.fits;
}
