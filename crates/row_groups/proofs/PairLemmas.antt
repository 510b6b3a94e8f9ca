-- Pairs that are numbered one after the other: the first pair of each first half, and the others.
use Rattle.std.proofs.Common.{inl, inr, ◌≡◌, ◌≢◌, ◌+◌, ◌<◌, ◌≤◌, ◌⊎◌, ℕ, List, [], ◌∷◌, ◌++◌, length, Some, refl, sym, ap, subst, ◌∙◌, arith}
use Rattle.std.specs.List.{slice_get}
use Rattle.std.proofs.lemmas.Bool.{cases_lt}
use Rattle.std.proofs.lemmas.List.{length-append}
use Rattle.std.proofs.lemmas.Option.{slice_get_within}
use Rattle.row_groups.specs.Numberings.{number_at, AreNumbered, AreInOrder}
use Rattle.row_groups.specs.Pairs.{AreKeptPairs, Gets, IsKeptPair}
use Rattle.row_groups.proofs.NumberingLemmas.{some_inj, get_or-front, get_or-last, get_or-either, at_front, at_last, numbered_more}

-- ---- a pair whose first half is new
pub lead_new : (seen leads leads' others : List (ℕ × ℕ)) (ns : List ℕ) (p : ℕ × ℕ) (count : ℕ) → AreKeptPairs seen leads others ns
    → count ≡ length seen → p.0 ≡ length leads → leads' ≡ leads ++ (p.1, count) ∷ []
    → (after : List (ℕ × ℕ)) × Gets p seen after count × AreKeptPairs after leads' others ns
lead_new seen leads leads' others ns p count kept counted new is = (
  seen ++ p ∷ [],
  record { number = inr (refl, counted, λ m at. fresh (kept.all m p at)) },
  record {
    lead = λ g l at. elim (get_or-either leads (p.1, count) l g (subst (λ (ls : List (ℕ × ℕ)). slice_get ls g ≡ Some l) is at)) [
      | inl old ↦ get_or-front seen (p ∷ []) l.1 (g, l.0) (kept.lead g l old)
      | inr last ↦ subst (λ (l : ℕ × ℕ). slice_get (seen ++ p ∷ []) l.1 ≡ Some (g, l.0)) last.1 (here g (new ∙ sym last.0))
    ];
    other = λ k q at. get_or-front seen (p ∷ []) _ q (kept.other k q at);
    all = λ m q at. elim (get_or-either seen p q m at) [
      | inl old ↦ grown q (kept.all m q old)
      | inr last ↦ subst (IsKeptPair leads' others) last.1 (
        (p.1, count),
        subst (λ (ls : List (ℕ × ℕ)). slice_get ls p.0 ≡ Some (p.1, count)) (sym is)
            (subst (λ (g : ℕ). slice_get (leads ++ (p.1, count) ∷ []) g ≡ Some (p.1, count)) (sym new) (get_or-last leads (p.1, count))),
        inl refl,
      )
    ];
  },
)
  where
    fresh : IsKeptPair leads others p → ⊥
    fresh (lead, at, either) = omega (arith, slice_get_within leads p.0 lead at, new)

    here : (g : ℕ) → p.0 ≡ g → slice_get (seen ++ p ∷ []) count ≡ Some (g, p.1)
    here g e = ap (slice_get (seen ++ p ∷ [])) counted ∙ get_or-last seen p ∙ ap (λ (h : ℕ). Some (h, p.1)) e

    grown : (q : ℕ × ℕ) → IsKeptPair leads others q → IsKeptPair leads' others q
    grown q (lead, at, either) =
        (lead, subst (λ (ls : List (ℕ × ℕ)). slice_get ls q.0 ≡ Some lead) (sym is) (get_or-front leads ((p.1, count) ∷ []) q.0 lead at), either)

-- ---- the first pair of its first half
pub lead_same : (seen leads others : List (ℕ × ℕ)) (ns : List ℕ) (p : ℕ × ℕ) (r : ℕ) → AreKeptPairs seen leads others ns
    → slice_get leads p.0 ≡ Some (p.1, r) → (after : List (ℕ × ℕ)) × Gets p seen after r × AreKeptPairs after leads others ns
lead_same seen leads others ns p r kept at = (seen, record { number = inl (refl, kept.lead p.0 (p.1, r) at) }, kept)

-- ---- another pair
pub other_pair : (seen leads others others' : List (ℕ × ℕ)) (ns ns' : List ℕ) (p lead : ℕ × ℕ) (count k r : ℕ) → AreKeptPairs seen leads others ns
    → count ≡ length seen → length ns ≡ length others → slice_get leads p.0 ≡ Some lead → (lead.0 ≡ p.1 → ⊥) → Gets p others others' k
    → ((k ≡ length ns) × (ns' ≡ ns ++ count ∷ [])) ⊎ ((k ≢ length ns) × (ns' ≡ ns)) → r ≡ number_at ns' k
    → (after : List (ℕ × ℕ)) × Gets p seen after r × AreKeptPairs after leads others' ns'
other_pair seen leads others others' ns ns' p lead count k r kept counted even led differs gets grows is = elim gets.number [
  | inl found ↦ elim grows [
    | inl over ↦ absurd (omega (arith, slice_get_within others k p found.1, over.0, even))
    | inr stays ↦ (
      seen,
      record { number = inl (refl, ap (slice_get seen) (is ∙ ap (λ (l : List ℕ). number_at l k) stays.1) ∙ kept.other k p found.1) },
      subst (λ (os : List (ℕ × ℕ)). AreKeptPairs seen leads os ns') (sym found.0) (subst (AreKeptPairs seen leads others) (sym stays.1) kept),
    )
  ]
  | inr new ↦ elim grows [
    | inr stays ↦ absurd (stays.0 (new.1 ∙ sym even))
    | inl grown ↦ (
      seen ++ p ∷ [],
      record { number = inr (refl, is ∙ ap (λ (l : List ℕ). number_at l k) grown.1 ∙ ap (number_at (ns ++ count ∷ [])) grown.0 ∙ at_last ns (length ns) count refl ∙ counted, λ m at. fresh new.2 (kept.all m p at)) },
      subst (λ (os : List (ℕ × ℕ)). AreKeptPairs (seen ++ p ∷ []) leads os ns') (sym new.0) (subst (AreKeptPairs (seen ++ p ∷ []) leads (others ++ p ∷ [])) (sym grown.1) more),
    )
  ]
]
  where
    fresh : ((g : ℕ) → slice_get others g ≡ Some p → ⊥) → IsKeptPair leads others p → ⊥
    fresh none (other, at, inl same) = differs (ap (λ (l : ℕ × ℕ). l.0) (some_inj lead other (sym led ∙ at)) ∙ same)
    fresh none (other, at, inr (g, there)) = none g there

    more : AreKeptPairs (seen ++ p ∷ []) leads (others ++ p ∷ []) (ns ++ count ∷ [])
    more = record {
      lead = λ g l at. get_or-front seen (p ∷ []) l.1 (g, l.0) (kept.lead g l at);
      other = λ j q at. elim (get_or-either others p q j at) [
        | inl old ↦ ap (slice_get (seen ++ p ∷ [])) (at_front ns (length ns) count j refl (omega (arith, slice_get_within others j q old, even))) ∙ get_or-front seen (p ∷ []) _ q (kept.other j q old)
        | inr last ↦ ap (slice_get (seen ++ p ∷ [])) (ap (number_at (ns ++ count ∷ [])) (last.0 ∙ sym even) ∙ at_last ns (length ns) count refl ∙ counted) ∙ get_or-last seen p ∙ ap Some last.1
      ];
      all = λ m q at. elim (get_or-either seen p q m at) [
        | inl old ↦ longer q (kept.all m q old)
        | inr last ↦ subst (IsKeptPair leads (others ++ p ∷ [])) last.1 (lead, led, inr (length others, get_or-last others p))
      ];
    }
      where
        longer : (q : ℕ × ℕ) → IsKeptPair leads others q → IsKeptPair leads (others ++ p ∷ []) q
        longer q (l, at, inl same) = (l, at, inl same)
        longer q (l, at, inr (j, there)) = (l, at, inr (j, get_or-front others (p ∷ []) j q there))

-- ---- the pairs so far
pub record Numbers (first second : List ℕ) (n : ℕ) (leads others : List (ℕ × ℕ)) (ns : List ℕ) (count : ℕ) (numbers : List ℕ) : Type 0 where
  pub seen : List (ℕ × ℕ)
  pub counted : count ≡ length seen
  pub kept : AreKeptPairs seen leads others ns
  pub numbered : AreNumbered (λ i. (number_at first i, number_at second i)) n seen numbers
  pub led : (j : ℕ) → j < n → number_at first j < length leads

-- the next number is that of a first half before, or one more
in_reach : (first : List ℕ) (n m : ℕ) → AreInOrder first → n < length first → ((j : ℕ) → j < n → number_at first j < m) → number_at first n ≤ m
in_reach first n m order within led = elim (cases_lt m (number_at first n)) [
  | inl more ↦ let (j, below, at) = order n m within more in absurd (omega (arith, led j below, at))
  | inr fine ↦ fine
]

count_after : (p : ℕ × ℕ) (seen after : List (ℕ × ℕ)) (count count' r : ℕ) → Gets p seen after r → count ≡ length seen
    → ((r ≡ count) × (count' ≡ count + 1)) ⊎ ((r ≢ count) × (count' ≡ count)) → count' ≡ length after
count_after p seen after count count' r gets counted steps = elim gets.number [
  | inl same ↦ elim steps [
    | inl more ↦ absurd (omega (arith, slice_get_within seen r p same.1, more.0, counted))
    | inr stays ↦ stays.1 ∙ counted ∙ ap length (sym same.0)
  ]
  | inr new ↦ elim steps [
    | inl more ↦ omega (arith, more.1, counted, ap length new.0, length-append seen (p ∷ []))
    | inr stays ↦ absurd (stays.0 (new.1 ∙ sym counted))
  ]
]

-- one pair more
pub one_pair_more : (first second : List ℕ) (n : ℕ) (leads leads' others others' : List (ℕ × ℕ)) (ns ns' : List ℕ) (count count' r : ℕ) (numbers items : List ℕ)
    → AreInOrder first → n < length first → Numbers first second n leads others ns count numbers
    → ((seen : List (ℕ × ℕ)) → AreKeptPairs seen leads others ns → count ≡ length seen → number_at first n ≤ length leads
    → (after : List (ℕ × ℕ)) × Gets (number_at first n, number_at second n) seen after r × AreKeptPairs after leads' others' ns')
    → length leads ≤ length leads' → (number_at first n ≤ length leads → number_at first n < length leads')
    → items ≡ numbers ++ r ∷ [] → ((r ≡ count) × (count' ≡ count + 1)) ⊎ ((r ≢ count) × (count' ≡ count))
    → Numbers first second (n + 1) leads' others' ns' count' items
one_pair_more first second n leads leads' others others' ns ns' count count' r numbers items order within before step longer lead pushed steps =
    let near : number_at first n ≤ length leads = in_reach first n (length leads) order within before.led in
    let (after, gets, kept) = step before.seen before.kept before.counted near in
    record {
      seen = after;
      counted = count_after _ before.seen after count count' r gets before.counted steps;
      kept = kept;
      numbered = subst (AreNumbered (λ i. (number_at first i, number_at second i)) (n + 1) after) (sym pushed)
          (numbered_more (λ i. (number_at first i, number_at second i)) n before.seen after numbers r before.numbered gets);
      led = λ j low. elim (cases_lt j n) [
        | inl front ↦ omega (arith, before.led j front, longer)
        | inr last ↦ let at : n ≡ j = omega (arith, low, last) in subst (λ (k : ℕ). number_at first k < length leads') at (lead near)
      ];
    }

-- before the first pair
pub no_pairs : (first second : List ℕ) (leads others : List (ℕ × ℕ)) (ns numbers : List ℕ) → leads ≡ [] → others ≡ [] → ns ≡ [] → numbers ≡ []
    → Numbers first second 0 leads others ns 0 numbers
no_pairs first second leads others ns numbers a b d e =
    subst (λ (l : List (ℕ × ℕ)). Numbers first second 0 l others ns 0 numbers) (sym a)
    (subst (λ (l : List (ℕ × ℕ)). Numbers first second 0 [] l ns 0 numbers) (sym b)
    (subst (λ (l : List ℕ). Numbers first second 0 [] [] l 0 numbers) (sym d)
    (subst (Numbers first second 0 [] [] [] 0) (sym e) none)))
  where
    none : Numbers first second 0 [] [] [] 0 []
    none = record {
      seen = [];
      counted = refl;
      kept = record { lead = λ g l at. cc; other = λ k p at. cc; all = λ m p at. cc };
      numbered = record {
        one_each = refl;
        read = λ i low. absurd (omega (arith, low));
        once = λ g h v at there. cc;
        within_count = omega arith;
        used = λ g low. absurd (omega (arith, low));
        in_order = λ i g low less. absurd (omega (arith, low));
      };
      led = λ j low. absurd (omega (arith, low));
    }
