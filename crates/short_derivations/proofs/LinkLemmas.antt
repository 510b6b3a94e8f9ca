-- How many links lead beyond a set, and what they say.
use Rattle.std.proofs.Common.{◌≡◌, ◌+◌, ◌≤◌, inl, inr, true, false, List, [], ◌∷◌, length, subst, arith}
use Rattle.std.specs.Prelude.{Contains}
use Rattle.std.proofs.lemmas.Bool.{cases_Bool}
use Rattle.attr_sets.specs.Attributes.{Attributes, IsSubset}
use Rattle.attr_sets.specs.Sets.{attributes, is_subset}
use Rattle.attr_sets.proofs.AttributesLemmas.{attributes_below, is_subset-true, is_subset-not, is_subset-from}
use Rattle.dep_model.specs.Dependencies.{fd}
use Rattle.dep_model.specs.Deps.{dependency_of}
use Rattle.dep_model.proofs.ListLemmas.{Contains-map, Contains-cases}
use Rattle.short_derivations.specs.declared.links.Link.{Link}
use Rattle.short_derivations.specs.Links.{dep_of_link, deps_of_links, said_by, beyond}

-- a right side within a set is within a larger one
within_more : (l : Link) (c e : Attributes) → IsSubset c e → is_subset (attributes l.rhs) c ≡ true → is_subset (attributes l.rhs) e ≡ true
within_more l c e grows within =
    let less = is_subset-true (attributes l.rhs) c (attributes_below l.rhs) within in
    is_subset-from (attributes l.rhs) e (λ j m. grows j (less j m))

beyond_less : (links : List Link) (c e : Attributes) → IsSubset c e → beyond e links ≤ beyond c links
beyond_less [] c e grows = omega arith
beyond_less (l ∷ ls) c e grows =
    let rest = beyond_less ls c e grows in
    elim (cases_Bool (is_subset (attributes l.rhs) c)) [
      | inl within ↦ rw (within, within_more l c e grows within) (omega (arith, rest))
      | inr without ↦ rw without (elim (cases_Bool (is_subset (attributes l.rhs) e)) [
        | inl within ↦ rw within (omega (arith, rest))
        | inr still ↦ rw still (omega (arith, rest))
      ])
    ]

-- there is one less where a right side comes to lie within
pub beyond_one_less : (links : List Link) (c e : Attributes) (link : Link) → IsSubset c e → Contains links link
    → (IsSubset (attributes link.rhs) c → ⊥) → IsSubset (attributes link.rhs) e → beyond e links + 1 ≤ beyond c links
beyond_one_less [] c e link grows one without within = absurd (omega (arith, one.1))
beyond_one_less (l ∷ ls) c e link grows one without within = elim (Contains-cases l ls link one) [
  | inl first ↦
      let no : is_subset (attributes l.rhs) c ≡ false = is_subset-not (attributes l.rhs) c (attributes_below l.rhs) (subst (λ (i : Link). IsSubset (attributes i.rhs) c → ⊥) first without) in
      let yes : is_subset (attributes l.rhs) e ≡ true = is_subset-from (attributes l.rhs) e (subst (λ (i : Link). IsSubset (attributes i.rhs) e) first within) in
      rw (no, yes) (omega (arith, beyond_less ls c e grows))
  | inr later ↦
      let rest = beyond_one_less ls c e link grows later without within in
      elim (cases_Bool (is_subset (attributes l.rhs) c)) [
        | inl in_c ↦ rw (in_c, within_more l c e grows in_c) (omega (arith, rest))
        | inr out_c ↦ rw out_c (elim (cases_Bool (is_subset (attributes l.rhs) e)) [
          | inl in_e ↦ rw in_e (omega (arith, rest))
          | inr out_e ↦ rw out_e (omega (arith, rest))
        ])
      ]
]

pub beyond_all : (links : List Link) (c : Attributes) → beyond c links ≤ length links
beyond_all [] c = omega arith
beyond_all (l ∷ ls) c = elim (cases_Bool (is_subset (attributes l.rhs) c)) [
  | inl within ↦ rw within (omega (arith, beyond_all ls c))
  | inr without ↦ rw without (omega (arith, beyond_all ls c))
]

pub said_one : (links : List Link) (link : Link) → Contains links link → Contains (said_by links) (fd (attributes link.lhs) (attributes link.rhs))
said_one links link one = Contains-map dependency_of (deps_of_links links) (dep_of_link link) (Contains-map dep_of_link links link one)
