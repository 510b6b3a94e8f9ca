-- Rows by their positions, and the least pair that breaks a functional dependency.
use Rattle.std.proofs.Common.{inl, inr, ◌≡◌, ◌+◌, ◌<◌, ◌≤◌, ◌⊎◌, ℕ, List, [], length, Option, Some, None, refl, sym, ap, subst, ◌∙◌, arith}
use Rattle.std.specs.Prelude.{Contains}
use Rattle.std.proofs.lemmas.Bool.{cases_lt}
use Rattle.attr_sets.specs.Attributes.{Attributes}
use Rattle.dep_model.specs.Tuples.{Tuple, Relation, AgreeOn, value_at}
use Rattle.dep_model.specs.Dependencies.{fd}
use Rattle.row_groups.specs.Numberings.{number_at, AreGroups, AreFirsts}
use Rattle.row_store.specs.Rows.{row_at}
use Rattle.row_groups.proofs.NumberingLemmas.{row_of}
use Rattle.dep_model.proofs.ListLemmas.{same_default}
use Rattle.legality.specs.Answers.{IsLeastOffence}
use Rattle.legality.specs.declared.pair.Pair.{Pair}

pub member_of : (r : Relation) (i : ℕ) → i < length r → Contains r (row_at r i)
member_of r i l = (i, l, same_default r i (row_at r i) [] l)

-- the first row that agrees with a row on the set of the groups
abbrev pub leader : List ℕ → List ℕ → ℕ → ℕ
leader numbers firsts i = number_at firsts (number_at numbers i)

-- which pair is the least among the rows before a position
unfoldable pub Leads : Relation → Attributes → (ℕ → ℕ) → ℕ → Option Pair → Type 0
Leads r y lead i None = (j : ℕ) → j < i → AgreeOn y (row_at r (lead j)) (row_at r j)
Leads r y lead i (Some p) =
    (p.second < i) × (p.first ≡ lead p.second) × (AgreeOn y (row_at r p.first) (row_at r p.second) → ⊥)
    × ((j : ℕ) → j < i → AgreeOn y (row_at r (lead j)) (row_at r j) ⊎ (p.first < lead j) ⊎ ((p.first ≡ lead j) × (p.second ≤ j)))

at_end : (j i : ℕ) → j < i + 1 → i ≤ j → i ≡ j
at_end j i l m = omega (arith, l, m)

pub leads_none : (r : Relation) (y : Attributes) (lead : ℕ → ℕ) → Leads r y lead 0 None
unfolding Leads
leads_none r y lead j l = absurd (omega (arith, l))

-- a row that agrees with its leader
pub leads_on : (r : Relation) (y : Attributes) (lead : ℕ → ℕ) (i : ℕ) (least : Option Pair) → Leads r y lead i least → AgreeOn y (row_at r (lead i)) (row_at r i) → Leads r y lead (i + 1) least
unfolding Leads
leads_on r y lead i None old a = λ j l. elim (cases_lt j i) [
  | inl front ↦ old j front
  | inr last ↦ subst (λ (k : ℕ). AgreeOn y (row_at r (lead k)) (row_at r k)) (at_end j i l last) a
]
leads_on r y lead i (Some p) old a = (
  omega (arith, old.0),
  old.1,
  old.2,
  λ j l. elim (cases_lt j i) [
    | inl front ↦ old.3 j front
    | inr last ↦ inl (subst (λ (k : ℕ). AgreeOn y (row_at r (lead k)) (row_at r k)) (at_end j i l last) a)
  ],
)

-- a row that differs from its leader
pub leads_more : (r : Relation) (y : Attributes) (lead : ℕ → ℕ) (i : ℕ) (old new : Option Pair) (q : Pair) → Leads r y lead i old
    → q.first ≡ lead i → q.second ≡ i → (AgreeOn y (row_at r q.first) (row_at r q.second) → ⊥)
    → (old ≡ None → new ≡ Some q) → ((p : Pair) → old ≡ Some p → p.first ≤ q.first → new ≡ Some p) → ((p : Pair) → old ≡ Some p → q.first < p.first → new ≡ Some q)
    → Leads r y lead (i + 1) new
unfolding Leads
leads_more r y lead i None new q l first second differs none kept replaced =
    subst (Leads r y lead (i + 1)) (sym (none refl)) (
      omega (arith, second),
      first ∙ ap lead (sym second),
      differs,
      λ j m. elim (cases_lt j i) [
        | inl front ↦ inl (l j front)
        | inr last ↦ let e = at_end j i m last in inr (inr (first ∙ ap lead e, omega (arith, second, e)))
      ],
    )
leads_more r y lead i (Some p) new q l first second differs none kept replaced = elim (cases_lt q.first p.first) [
  | inl less ↦ subst (Leads r y lead (i + 1)) (sym (replaced p refl less)) (
    omega (arith, second),
    first ∙ ap lead (sym second),
    differs,
    λ j m. elim (cases_lt j i) [
      | inl front ↦ elim (l.3 j front) [
        | inl a ↦ inl a
        | inr b ↦ elim b [ inl c ↦ inr (inl (omega (arith, c, less))) | inr d ↦ inr (inl (omega (arith, d.0, less))) ]
      ]
      | inr last ↦ let e = at_end j i m last in inr (inr (first ∙ ap lead e, omega (arith, second, e)))
    ],
  )
  | inr same ↦ subst (Leads r y lead (i + 1)) (sym (kept p refl same)) (
    omega (arith, l.0),
    l.1,
    l.2,
    λ j m. elim (cases_lt j i) [
      | inl front ↦ l.3 j front
      | inr last ↦
          let e = at_end j i m last in
          let at : q.first ≡ lead j = first ∙ ap lead e in
          elim (cases_lt p.first q.first) [
            | inl before ↦ inr (inl (omega (arith, before, at)))
            | inr equal ↦ inr (inr (omega (arith, same, equal, at), omega (arith, l.0, e)))
          ]
    ],
  )
]

-- all rows looked at
pub functional_answer : (n : ℕ) (r : Relation) (x y : Attributes) (numbers firsts : List ℕ) (least : Option Pair) → AreGroups r x numbers → AreFirsts numbers firsts
    → Leads r y (leader numbers firsts) (length r) least → IsLeastOffence n r (fd x y) least
unfolding Leads
functional_answer n r x y numbers firsts None g f l = λ t u ht hu a.
    let (i, li, ti) = row_of r t ht in
    let (j, lj, uj) = row_of r u hu in
    let same : number_at numbers i ≡ number_at numbers j = (g.equal i j li lj).1 (λ k h. ap (λ (v : Tuple). value_at v k) ti ∙ a k h ∙ ap (λ (v : Tuple). value_at v k) (sym uj)) in
    λ k h. ap (λ (v : Tuple). value_at v k) (sym ti) ∙ sym (l i li k h) ∙ ap (λ (m : ℕ). value_at (row_at r (number_at firsts m)) k) same ∙ l j lj k h ∙ ap (λ (v : Tuple). value_at v k) uj
functional_answer n r x y numbers firsts (Some p) g f (within, first, differs, all) =
    let short : p.second < length numbers = omega (arith, within, g.one_each) in
    let group : number_at numbers p.second < length firsts = f.each p.second short in
    let low : p.first < length r = omega (arith, first, f.within (number_at numbers p.second) group, g.one_each) in
    let one : number_at numbers p.first ≡ number_at numbers p.second = ap (number_at numbers) first ∙ f.number (number_at numbers p.second) group in
    record {
      breaks = (low, within, ((g.equal p.first p.second low within).0 one, differs));
      least = λ k m h.
          let (lk, lm, (agrees, other)) = h in
          let same : number_at numbers k ≡ number_at numbers m = (g.equal k m lk lm).1 agrees in
          let lead : number_at firsts (number_at numbers k) ≡ number_at firsts (number_at numbers m) = ap (number_at firsts) same in
          let up : number_at firsts (number_at numbers k) ≤ k = elim (f.least k (omega (arith, lk, g.one_each))) [ inl less ↦ omega (arith, less) | inr equal ↦ omega (arith, equal) ] in
          elim (all m lm) [
            | inl am ↦ elim (all k lk) [
              | inl ak ↦ absurd (other (λ j h. sym (ak j h) ∙ ap (λ (v : ℕ). value_at (row_at r v) j) lead ∙ am j h))
              | inr ck ↦ elim ck [
                | inl before ↦ inl (omega (arith, before, up))
                | inr here ↦ elim (cases_lt (number_at firsts (number_at numbers k)) k) [
                  | inl less ↦ inl (omega (arith, less, here.0))
                  | inr over ↦
                      let at : number_at firsts (number_at numbers m) ≡ k = omega (arith, up, over, lead) in
                      absurd (other (λ j h. ap (λ (v : ℕ). value_at (row_at r v) j) (sym at) ∙ am j h))
                ]
              ]
            ]
            | inr cm ↦ elim cm [
              | inl before ↦ inl (omega (arith, before, up, lead))
              | inr here ↦ elim (cases_lt p.first k) [
                | inl less ↦ inl less
                | inr over ↦ inr (omega (arith, over, here.0, up, lead), here.1)
              ]
            ]
          ];
    }
