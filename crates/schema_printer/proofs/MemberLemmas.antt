-- The names of a set's members: those among the first names, one more, and what each of them has.
use Rattle.std.proofs.Common.{◌≡◌, ◌<◌, ◌≤◌, ◌+◌, ℕ, zero, suc, List, [], ◌∷◌, ◌++◌, length, map, get_or, take, take_all, inl, inr, sym, ap, ◌∙◌, arith, append-nil, Bool, true, false}
use Rattle.std.specs.Prelude.{All, if◌then◌else◌}
use Rattle.std.proofs.lemmas.Bool.{cases_Bool}
use Rattle.std.proofs.lemmas.List.{take_more, length-take-le, map-append}
use Rattle.std.proofs.lemmas.List.Elements.{All-cons, All-head, All-nil, All-tail}
use Rattle.attr_sets.specs.Attributes.{Attributes}
use Rattle.dep_model.specs.Projections.{members_below}
use Rattle.dep_model.proofs.SchemeLemmas.{members_below-member, members_below-none, members_below-outside}
use Rattle.schema_printer.specs.Printing.{members_from}

pub members_append : (x : Attributes) (k : ℕ) (names more : List (List ℕ))
    → members_from x k (names ++ more) ≡ members_from x k names ++ members_from x (k + length names) more
members_append x k [] more = let e : k + 0 ≡ k = omega arith in ap (λ (j : ℕ). members_from x j more) (sym e)
members_append x k (name ∷ names) more =
    let later = members_append x (k + 1) names more in
    let at_end : k + 1 + length names ≡ k + length (name ∷ names) = omega arith in
    let rest = later ∙ ap (λ (j : ℕ). members_from x (k + 1) names ++ members_from x j more) at_end in
    elim (cases_Bool (x k)) [
      | inl inside ↦ rw inside (ap (λ (ns : List (List ℕ)). name ∷ ns) rest)
      | inr outside ↦ rw outside rest
    ]

names_next : (x : Attributes) (names : List (List ℕ)) (n : ℕ) → n < length names
    → members_from x 0 (take (n + 1) names) ≡ members_from x 0 (take n names) ++ members_from x n
    (get_or names n [] ∷ [])
names_next x names n lt =
    let long : 0 + length (take n names) ≡ n = omega (arith, lt, length-take-le n names) in
    ap (members_from x 0) (take_more names n [] lt)
    ∙ members_append x 0 (take n names) (get_or names n [] ∷ [])
    ∙ ap (λ (k : ℕ). members_from x 0 (take n names) ++ members_from x k (get_or names n [] ∷ [])) long

-- the names of the members before an attribute, and its own
pub names_inside : (x : Attributes) (names : List (List ℕ)) (n : ℕ) → n < length names → x n ≡ true
    → members_from x 0 (take (n + 1) names) ≡ members_from x 0 (take n names) ++ get_or names n [] ∷ []
names_inside x names n lt inside =
    names_next x names n lt
    ∙ ap (λ (b : Bool). members_from x 0 (take n names) ++ (if b then get_or names n [] ∷ [] else [])) inside

pub names_outside : (x : Attributes) (names : List (List ℕ)) (n : ℕ) → n < length names → x n ≡ false
    → members_from x 0 (take (n + 1) names) ≡ members_from x 0 (take n names)
names_outside x names n lt outside =
    names_next x names n lt
    ∙ ap (λ (b : Bool). members_from x 0 (take n names) ++ (if b then get_or names n [] ∷ [] else [])) outside
    ∙ append-nil (members_from x 0 (take n names))

pub members_upto : (x : Attributes) (names : List (List ℕ)) (n : ℕ) → n ≤ length names
    → members_from x 0 (take n names) ≡ map (λ k. get_or names k []) (members_below n x)
members_upto x names zero low = sym (ap (map (λ k. get_or names k [])) (members_below-none x))
members_upto x names (suc n) low =
    let short : n < length names = omega (arith, low) in
    let more : n + 1 ≡ suc n = omega arith in
    let so_far = members_upto x names n (omega (arith, low)) in
    let name = λ (k : ℕ). get_or names k [] in
    sym (ap (λ (m : ℕ). members_from x 0 (take m names)) more)
    ∙ elim (cases_Bool (x n)) [
      | inl inside ↦
          names_inside x names n short inside ∙ ap (λ (rest : List (List ℕ)). rest ++ name n ∷ []) so_far
          ∙ sym (ap (map name) (members_below-member n x inside) ∙ map-append name (members_below n x) (n ∷ []))
      | inr outside ↦
          names_outside x names n short outside ∙ so_far ∙ sym (ap (map name) (members_below-outside n x outside))
    ]

-- the names of a set are those of its members
pub members_named : (x : Attributes) (names : List (List ℕ))
    → members_from x 0 names ≡ map (λ k. get_or names k []) (members_below (length names) x)
members_named x names =
    sym (ap (members_from x 0) (take_all (length names) names (omega arith)))
    ∙ members_upto x names (length names) (omega arith)

-- each has what each name has
pub members_each : (P : List ℕ → Type 0) (x : Attributes) (k : ℕ) (names : List (List ℕ)) → All P names
    → All P (members_from x k names)
members_each P x k [] all = All-nil P
members_each P x k (name ∷ names) all = elim (cases_Bool (x k)) [
  | inl member ↦
      rw member (All-cons P name (members_from x (k + 1) names) (All-head P name names all)
      (members_each P x (k + 1) names (All-tail P name names all)))
  | inr outside ↦ rw outside (members_each P x (k + 1) names (All-tail P name names all))
]
