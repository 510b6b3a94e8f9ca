-- Rows by their leaders on a set, and what one column more makes of them.
use Rattle.std.proofs.Common.{inl, inr, ◌≡◌, ◌≢◌, ◌+◌, ◌<◌, ◌≤◌, ◌⊎◌, ℕ, List, [], ◌∷◌, ◌++◌, length, set, replicate, slice_index_or, refl, sym, ap, subst, ◌∙◌, arith}
use Rattle.std.proofs.lemmas.Bool.{cases_lt, cases_eq, true≢false}
use Rattle.std.proofs.lemmas.List.{get_or-set_same, get_or-set_other, get_or_default, get_or_append_left, get_or-replicate, length-replicate}
use Rattle.std.proofs.Math.Seq.{get_or-append_seam}
use Rattle.std.proofs.lemmas.List.Elements.{Contains-get_or}
use Rattle.attr_sets.specs.Attributes.{Attributes, IsEmpty, only, union}
use Rattle.dep_model.specs.Tuples.{Tuple, Relation, AgreeOn}
use Rattle.dep_model.specs.Dependencies.{ObeysFd}
use Rattle.row_groups.specs.Numberings.{number_at, AreGroups}
use Rattle.row_store.specs.Rows.{row_at}
use Rattle.row_groups.specs.Interning.{codes_at}
use Rattle.fd_discovery.specs.Leaders.{AreLeadersOn, AreLed, IsOrderOf, IsTableOfRows, order_at}
use Rattle.fd_discovery.specs.declared.table.CodeColumns.{CodeColumns}
use Rattle.dep_model.proofs.TwoRowLemmas.{AgreeOn-union, AgreeOn-left, AgreeOn-right}
use Rattle.row_groups.proofs.NumberingLemmas.{row_of}

module _ (r : Relation) (x : Attributes) (leaders : List ℕ) (led : AreLeadersOn r x leaders) where
  abbrev lead : ℕ → ℕ
  lead i = number_at leaders i

  -- rows of one leader agree
  pub one_leader : (i j : ℕ) → i < length r → j < length r → lead i ≡ lead j → AgreeOn x (row_at r i) (row_at r j)
  one_leader i j li lj e k has =
      led.agrees i li k has ∙ ap (λ (m : ℕ). slice_index_or (row_at r m) k []) e ∙ sym (led.agrees j lj k has)

  -- a leader leads itself
  pub leads_itself : (i : ℕ) → i < length r → lead (lead i) ≡ lead i
  leads_itself i l = sym (led.same i (lead i) l (led.within i l) (led.agrees i l))

  -- the rows of each leader have one number exactly where the rows obey the dependency
  pub numbers_led : (k : ℕ) (codes : List ℕ) → AreGroups r (only k) codes → ObeysFd x (only k) r → (i : ℕ)
      → i < length r → number_at codes i ≡ number_at codes (lead i)
  numbers_led k codes groups obeys i l =
      (groups.equal i (lead i) l (led.within i l)).1
      (obeys (row_at r i) (row_at r (lead i)) (Contains-get_or r i [] l)
      (Contains-get_or r (lead i) [] (led.within i l)) (led.agrees i l))

  pub led_obeys : (k : ℕ) (codes : List ℕ) → AreGroups r (only k) codes
      → ((i : ℕ) → i < length r → number_at codes i ≡ number_at codes (lead i)) → ObeysFd x (only k) r
  led_obeys k codes groups equal t u t_in u_in agree =
      let (i, li, is_t) = row_of r t t_in in
      let (j, lj, is_u) = row_of r u u_in in
      let agree_at : AgreeOn x (row_at r i) (row_at r j) =
      subst (λ (v : Tuple). AgreeOn x v (row_at r j)) (sym is_t)
      (subst (λ (w : Tuple). AgreeOn x t w) (sym is_u) agree) in
      let same : number_at codes i ≡ number_at codes j = equal i li
      ∙ ap (number_at codes) (led.same i j li lj agree_at) ∙ sym (equal j lj) in
      let there : AgreeOn (only k) (row_at r i) (row_at r j) = (groups.equal i j li lj).0 same in
      subst (λ (v : Tuple). AgreeOn (only k) v u) is_t
      (subst (λ (w : Tuple). AgreeOn (only k) (row_at r i) w) is_u there)

-- the rows of an order before a position have new leaders: the latest of their old leader at that time.
-- `lead` gives the old leader of a row, `code` its number in the column and `row` the row at a position
-- of the order; n is how many rows there are, m how many positions
pub record Refines (n m : ℕ) (lead code row : ℕ → ℕ) (p : ℕ) (latest finer : ℕ → ℕ) : Type 0 where
  pub latest_leads : (i : ℕ) → i < n → lead (latest (lead i)) ≡ lead i
  pub within : (q : ℕ) → q < p → finer (row q) < n
  pub leads : (q : ℕ) → q < p → lead (finer (row q)) ≡ lead (row q)
  pub numbered : (q : ℕ) → q < p → code (finer (row q)) ≡ code (row q)
  pub same : (q s : ℕ) → q < p → s < p → lead (row q) ≡ lead (row s) → code (row q) ≡ code (row s)
      → finer (row q) ≡ finer (row s)
  pub current : (q : ℕ) → q < p → code (row q) ≡ code (latest (lead (row q))) → finer (row q) ≡ latest (lead (row q))
  pub upto : (q : ℕ) → q < p → code (row q) ≤ code (latest (lead (row q)))
  pub ahead : (q s : ℕ) → q < p → p ≤ s → s < m → code (latest (lead (row q))) ≤ code (row s)

-- one row more. Its leader's latest row is then the row itself, or stays where it has the row's number
module _ (n m : ℕ) (lead code row : ℕ → ℕ) (p : ℕ) (latest finer : ℕ → ℕ)
    (old : Refines n m lead code row p latest finer)
    (ascending : (q s : ℕ) → q < s → s < m → code (row q) ≤ code (row s)) (here : p < m) where
  -- the earlier rows of this leader and number have its latest row
  stays : code (latest (lead (row p))) ≡ code (row p) → (q : ℕ) → q < p → lead (row q) ≡ lead (row p)
      → code (row q) ≡ code (row p) → finer (row q) ≡ latest (lead (row p))
  stays equal q l led same =
      old.current q l (same ∙ sym equal ∙ ap (λ (g : ℕ). code (latest g)) (sym led)) ∙ ap latest led

  -- where the latest row has another number, there is none
  starts : (code (latest (lead (row p))) ≡ code (row p) → ⊥) → (q : ℕ) → q < p → lead (row q) ≡ lead (row p)
      → code (row q) ≡ code (row p) → ⊥
  starts other q l led same =
      let up = old.upto q l in
      let down = old.ahead q p l (omega arith) here in
      let at : code (latest (lead (row q))) ≡ code (latest (lead (row p))) = ap (λ (g : ℕ). code (latest g)) led in
      other (omega (arith, up, down, at, same))

  module _ (latest' finer' : ℕ → ℕ) (to : ℕ) (to_in : to < n) (to_led : lead to ≡ lead (row p))
      (to_code : code to ≡ code (row p))
      (at_leader : latest' (lead (row p)) ≡ to) (elsewhere : (g : ℕ) → g ≢ lead (row p) → latest' g ≡ latest g)
      (at_row : finer' (row p) ≡ to) (others : (i : ℕ) → i ≢ row p → finer' i ≡ finer i)
      (joins : (q : ℕ) → q < p → lead (row q) ≡ lead (row p) → code (row q) ≡ code (row p) → finer (row q) ≡ to) where
    -- the row at an earlier position is this row again, or it is not
    which : (q : ℕ) → q < p + 1 → (row q ≡ row p) ⊎ ((q < p) × (finer' (row q) ≡ finer (row q)))
    which q l = elim (cases_eq (row q) (row p)) [
      | inl same ↦ inl same
      | inr apart ↦ elim (cases_lt q p) [
        | inl less ↦ inr (less, others (row q) apart)
        | inr last ↦ absurd (apart (ap row (let e : q ≡ p = omega (arith, l, last) in e)))
      ]
    ]

    -- the latest row of a leader is this one's, or as before
    whose : (g : ℕ) → ((g ≡ lead (row p)) × (latest' g ≡ to)) ⊎ (latest' g ≡ latest g)
    whose g = elim (cases_eq g (lead (row p))) [
      | inl same ↦ inl (same, ap latest' same ∙ at_leader)
      | inr apart ↦ inr (elsewhere g apart)
    ]

    latest_leads : (i : ℕ) → i < n → lead (latest' (lead i)) ≡ lead i
    latest_leads i l = elim (whose (lead i)) [
      | inl mine ↦ ap lead mine.1 ∙ to_led ∙ sym mine.0
      | inr before ↦ ap lead before ∙ old.latest_leads i l
    ]

    within : (q : ℕ) → q < p + 1 → finer' (row q) < n
    within q l = elim (which q l) [
      | inl same ↦ subst (λ (i : ℕ). i < n) (sym (ap finer' same ∙ at_row)) to_in
      | inr before ↦ subst (λ (i : ℕ). i < n) (sym before.1) (old.within q before.0)
    ]

    leads : (q : ℕ) → q < p + 1 → lead (finer' (row q)) ≡ lead (row q)
    leads q l = elim (which q l) [
      | inl same ↦ ap lead (ap finer' same ∙ at_row) ∙ to_led ∙ ap lead (sym same)
      | inr before ↦ ap lead before.1 ∙ old.leads q before.0
    ]

    numbered : (q : ℕ) → q < p + 1 → code (finer' (row q)) ≡ code (row q)
    numbered q l = elim (which q l) [
      | inl same ↦ ap code (ap finer' same ∙ at_row) ∙ to_code ∙ ap code (sym same)
      | inr before ↦ ap code before.1 ∙ old.numbered q before.0
    ]

    -- a row of this leader and number has the new leader
    joined : (q : ℕ) → q < p + 1 → lead (row q) ≡ lead (row p) → code (row q) ≡ code (row p) → finer' (row q) ≡ to
    joined q l led same = elim (which q l) [
      | inl again ↦ ap finer' again ∙ at_row
      | inr before ↦ before.1 ∙ joins q before.0 led same
    ]

    same : (q s : ℕ) → q < p + 1 → s < p + 1 → lead (row q) ≡ lead (row s) → code (row q) ≡ code (row s)
        → finer' (row q) ≡ finer' (row s)
    same q s lq ls led equal = elim (which q lq) [
      | inl again ↦ (ap finer' again ∙ at_row)
          ∙ sym (joined s ls (sym led ∙ ap lead again) (sym equal ∙ ap code again))
      | inr before ↦ elim (which s ls) [
        | inl again ↦ joined q lq (led ∙ ap lead again) (equal ∙ ap code again) ∙ sym (ap finer' again ∙ at_row)
        | inr earlier ↦ before.1 ∙ old.same q s before.0 earlier.0 led equal ∙ sym earlier.1
      ]
    ]

    current : (q : ℕ) → q < p + 1 → code (row q) ≡ code (latest' (lead (row q)))
        → finer' (row q) ≡ latest' (lead (row q))
    current q l equal = elim (whose (lead (row q))) [
      | inl mine ↦ joined q l mine.0 (equal ∙ ap code mine.1 ∙ to_code) ∙ sym mine.1
      | inr before ↦ elim (which q l) [
        | inl again ↦ ap finer' again ∙ at_row ∙ sym (ap latest' (ap lead again) ∙ at_leader)
        | inr earlier ↦ earlier.1 ∙ old.current q earlier.0 (equal ∙ ap code before) ∙ sym before
      ]
    ]

    upto : (q : ℕ) → q < p + 1 → code (row q) ≤ code (latest' (lead (row q)))
    upto q l = elim (which q l) [
      | inl again ↦
          let e : code (latest' (lead (row q))) ≡ code (row q) = ap code (ap latest' (ap lead again) ∙ at_leader)
          ∙ to_code ∙ ap code (sym again) in
          omega (arith, e)
      | inr earlier ↦ elim (whose (lead (row q))) [
        | inl mine ↦
            let e : code (latest' (lead (row q))) ≡ code (row p) = ap code mine.1 ∙ to_code in
            omega (arith, e, ascending q p earlier.0 here)
        | inr before ↦ subst (λ (g : ℕ). code (row q) ≤ code g) (sym before) (old.upto q earlier.0)
      ]
    ]

    ahead : (q s : ℕ) → q < p + 1 → p + 1 ≤ s → s < m → code (latest' (lead (row q))) ≤ code (row s)
    ahead q s l later ls = elim (whose (lead (row q))) [
      | inl mine ↦
          let e : code (latest' (lead (row q))) ≡ code (row p) = ap code mine.1 ∙ to_code in
          omega (arith, e, ascending p s (omega (arith, later)) ls)
      | inr before ↦ elim (which q l) [
        | inl again ↦
            let e : code (latest' (lead (row q))) ≡ code (row p) = ap code (ap latest' (ap lead again) ∙ at_leader)
            ∙ to_code in
            omega (arith, e, ascending p s (omega (arith, later)) ls)
        | inr earlier ↦ subst (λ (g : ℕ). code g ≤ code (row s)) (sym before)
            (old.ahead q s earlier.0 (omega (arith, later)) ls)
      ]
    ]

    pub refines_one : Refines n m lead code row (p + 1) latest' finer'
    refines_one = record {
      latest_leads = latest_leads;
      within = within;
      leads = leads;
      numbered = numbered;
      same = same;
      current = current;
      upto = upto;
      ahead = ahead;
    }

-- the same of lists
module _ (leaders codes order latest finer : List ℕ) (p : ℕ)
    (old : Refines (length leaders) (length order) (number_at leaders) (number_at codes) (number_at order) p
    (number_at latest) (number_at finer))
    (ascending : (q s : ℕ) → q < s → s < length order
    → number_at codes (number_at order q) ≤ number_at codes (number_at order s)) (here : p < length order)
    (latest_size : length latest ≡ length leaders) (finer_size : length finer ≡ length leaders)
    (row_in : number_at order p < length leaders)
    (leader_in : number_at leaders (number_at order p) < length leaders) where
  -- the row leads
  pub row_leads : (latest' finer' : List ℕ) → (number_at codes
      (number_at latest (number_at leaders (number_at order p))) ≡ number_at codes (number_at order p) → ⊥)
      → latest' ≡ set latest (number_at leaders (number_at order p)) (number_at order p)
      → finer' ≡ set finer (number_at order p) (number_at order p)
      → Refines (length leaders) (length order) (number_at leaders) (number_at codes) (number_at order) (p + 1)
      (number_at latest') (number_at finer')
  row_leads latest' finer' other is_latest is_finer =
      refines_one (length leaders) (length order) (number_at leaders) (number_at codes) (number_at order) p
      (number_at latest) (number_at finer) old ascending here
      (number_at latest') (number_at finer') (number_at order p) row_in refl refl
      (ap (λ (l : List ℕ). number_at l (number_at leaders (number_at order p))) is_latest
      ∙ get_or-set_same latest _ _ 0 (omega (arith, leader_in, latest_size)))
      (λ g apart. ap (λ (l : List ℕ). number_at l g) is_latest ∙ get_or-set_other latest _ g _ 0 apart)
      (ap (λ (l : List ℕ). number_at l (number_at order p)) is_finer
      ∙ get_or-set_same finer _ _ 0 (omega (arith, row_in, finer_size)))
      (λ i apart. ap (λ (l : List ℕ). number_at l i) is_finer ∙ get_or-set_other finer _ i _ 0 apart)
      (λ q l led same. absurd (starts (length leaders) (length order) (number_at leaders) (number_at codes)
      (number_at order) p (number_at latest) (number_at finer) old ascending here other q l led same))

  -- the latest row of its leader leads it
  pub row_is_led : (finer' : List ℕ) → number_at codes
      (number_at latest (number_at leaders (number_at order p))) ≡ number_at codes (number_at order p)
      → number_at latest (number_at leaders (number_at order p)) < length leaders
      → finer' ≡ set finer (number_at order p) (number_at latest (number_at leaders (number_at order p)))
      → Refines (length leaders) (length order) (number_at leaders) (number_at codes) (number_at order) (p + 1)
      (number_at latest) (number_at finer')
  row_is_led finer' equal to_in is_finer =
      refines_one (length leaders) (length order) (number_at leaders) (number_at codes) (number_at order) p
      (number_at latest) (number_at finer) old ascending here
      (number_at latest) (number_at finer') (number_at latest (number_at leaders (number_at order p))) to_in
      (old.latest_leads (number_at order p) row_in) equal
      refl (λ g apart. refl)
      (ap (λ (l : List ℕ). number_at l (number_at order p)) is_finer
      ∙ get_or-set_same finer _ _ 0 (omega (arith, row_in, finer_size)))
      (λ i apart. ap (λ (l : List ℕ). number_at l i) is_finer ∙ get_or-set_other finer _ i _ 0 apart)
      (stays (length leaders) (length order) (number_at leaders) (number_at codes) (number_at order) p
      (number_at latest) (number_at finer) old ascending here equal)

-- all rows have new leaders: those on the set and the column
pub all_refined : (r : Relation) (x : Attributes) (k : ℕ) (leaders codes order latest finer : List ℕ) (p : ℕ)
    → AreLeadersOn r x leaders → AreGroups r (only k) codes → IsOrderOf codes order
    → Refines (length leaders) (length order) (number_at leaders) (number_at codes) (number_at order) p
    (number_at latest) (number_at finer)
    → length finer ≡ length leaders → p ≡ length order → AreLeadersOn r (union x (only k)) finer
all_refined r x k leaders codes order latest finer p led groups ordered refined size end = record {
  one_each = size ∙ led.one_each;
  within = λ i l. let (q, at, is) = position i l in
      subst (λ (j : ℕ). number_at finer j < length r) is (omega (arith, refined.within q at, led.one_each));
  agrees = λ i l.
      let (q, at, is) = position i l in
      let new : number_at finer i < length r =
      subst (λ (j : ℕ). number_at finer j < length r) is (omega (arith, refined.within q at, led.one_each)) in
      let lead_same : number_at leaders (number_at finer i) ≡ number_at leaders i =
      subst (λ (j : ℕ). number_at leaders (number_at finer j) ≡ number_at leaders j) is (refined.leads q at) in
      let code_same : number_at codes (number_at finer i) ≡ number_at codes i =
      subst (λ (j : ℕ). number_at codes (number_at finer j) ≡ number_at codes j) is (refined.numbered q at) in
      AgreeOn-union x (only k) _ _ (one_leader r x leaders led i (number_at finer i) l new (sym lead_same))
      ((groups.equal i (number_at finer i) l new).0 (sym code_same));
  same = λ i j li lj agree.
      let (q, at_q, is_q) = position i li in
      let (s, at_s, is_s) = position j lj in
      let lead_same : number_at leaders i ≡ number_at leaders j =
      led.same i j li lj (AgreeOn-left x (only k) _ _ agree) in
      let code_same : number_at codes i ≡ number_at codes j =
      (groups.equal i j li lj).1 (AgreeOn-right x (only k) _ _ agree) in
      sym (ap (number_at finer) is_q)
      ∙ refined.same q s at_q at_s (ap (number_at leaders) is_q ∙ lead_same ∙ sym (ap (number_at leaders) is_s))
      (ap (number_at codes) is_q ∙ code_same ∙ sym (ap (number_at codes) is_s))
      ∙ ap (number_at finer) is_s;
}
  where
    position : (i : ℕ) → i < length r → (q : ℕ) × (q < p) × (number_at order q ≡ i)
    position i l =
        let at = ordered.all i (omega (arith, l, groups.one_each)) in
        (at.0, omega (arith, at.1, end), at.2)

-- all rows agree on nothing, so the first row leads them
pub first_leads : (r : Relation) (x : Attributes) (leaders : List ℕ) → IsEmpty x → leaders ≡ replicate (length r) 0
    → AreLeadersOn r x leaders
first_leads r x leaders empty is = record {
  one_each = ap length is ∙ length-replicate (length r) 0;
  within = λ i l. omega (arith, l, zero i l);
  agrees = λ i l k has. absurd (true≢false (sym has ∙ empty k));
  same = λ i j li lj agree. zero i li ∙ sym (zero j lj);
}
  where
    zero : (i : ℕ) → i < length r → number_at leaders i ≡ 0
    zero i l = ap (λ (s : List ℕ). number_at s i) is ∙ get_or-replicate (length r) i 0 0 l

-- so a table of the rows is led by it, given as a list that is the same
pub first_led : (n : ℕ) (r : Relation) (table : CodeColumns) (x : Attributes) (leaders given : List ℕ) → IsTableOfRows n r table → IsEmpty x
    → leaders ≡ replicate (length r) 0 → given ≡ leaders → AreLed r table x given
first_led n r table x leaders given rows empty is same = record {
  table = subst (λ (m : ℕ). IsTableOfRows m r table) (sym rows.width) rows;
  led = first_leads r x given empty (same ∙ is);
}

-- a set looks at its members alone
pub same_leaders : (r : Relation) (x y : Attributes) (leaders : List ℕ) → x ≡ y → AreLeadersOn r x leaders
    → AreLeadersOn r y leaders
same_leaders r x y leaders same led = subst (λ (z : Attributes). AreLeadersOn r z leaders) same led

-- one order more
pub orders_more : (P : ℕ → List ℕ → Type 0) (orders : List (List ℕ)) (order : List ℕ) (n : ℕ) → length orders ≡ n
    → ((k : ℕ) → k < n → P k (slice_index_or orders k []))
    → P n order → (k : ℕ) → k < n + 1 → P k (slice_index_or (orders ++ order ∷ []) k [])
orders_more P orders order n size old new k l = elim (cases_lt k n) [
  | inl front ↦ subst (λ (o : List ℕ). P k o)
      (sym (get_or_append_left orders (order ∷ []) [] k (omega (arith, size, front)))) (old k front)
  | inr last ↦
      let at : n ≡ k = omega (arith, l, last) in
      let is : order ≡ slice_index_or (orders ++ order ∷ []) n [] =
      sym (ap (λ (j : ℕ). slice_index_or (orders ++ order ∷ []) j []) (sym size)
      ∙ get_or-append_seam orders order [] []) in
      subst (λ (j : ℕ). P j (slice_index_or (orders ++ order ∷ []) j [])) at (subst (λ (o : List ℕ). P n o) is new)
]

-- the numbers of a column group the rows by that column
pub column_groups : (n : ℕ) (r : Relation) (t : CodeColumns) (position : ℕ) (codes : List ℕ) → IsTableOfRows n r t → position < n
    → codes ≡ codes_at t.codes position → AreGroups r (only position) codes
column_groups n r t position codes table low is =
    subst (λ (l : List ℕ). AreGroups r (only position) l) (sym is) (table.codes.codes position low)

-- the leaders on a set with one attribute more
pub leaders_with : (n : ℕ) (r : Relation) (t : CodeColumns) (set larger : Attributes) (position : ℕ)
    (codes row order finer : List ℕ) → IsTableOfRows n r t → position < n
    → codes ≡ codes_at t.codes position → order ≡ row → row ≡ slice_index_or t.orders.items position row
    → larger ≡ union set (only position)
    → (AreGroups r (only position) codes → IsOrderOf codes order → AreLeadersOn r (union set (only position)) finer)
    → AreLeadersOn r larger finer
leaders_with n r t set larger position codes row order finer table low is_codes is_order is_row same refined =
    let within : position < length t.orders.items = omega (arith, low, table.one_each) in
    let order_is : order ≡ order_at t position = is_order ∙ is_row ∙ get_or_default t.orders.items position row [] within in
    let ordered : IsOrderOf codes order =
    subst (λ (l : List ℕ). IsOrderOf l order) (sym is_codes)
    (subst (λ (l : List ℕ). IsOrderOf (codes_at t.codes position) l) (sym order_is) (table.orders position low)) in
    same_leaders r (union set (only position)) larger finer (sym same)
    (refined (column_groups n r t position codes table low is_codes) ordered)

-- so a table of the rows is led by them, given as a list that is the same
pub led_with : (r : Relation) (t : CodeColumns) (set larger : Attributes) (position : ℕ) (leaders codes row order finer given : List ℕ)
    → AreLed r t set leaders → position < t.width → codes ≡ codes_at t.codes position → order ≡ row → row ≡ slice_index_or t.orders.items position row
    → larger ≡ union set (only position)
    → (AreLeadersOn r set leaders → AreGroups r (only position) codes → IsOrderOf codes order → AreLeadersOn r (union set (only position)) finer)
    → given ≡ finer → AreLed r t larger given
led_with r t set larger position leaders codes row order finer given led low is_codes is_order is_row same refined is = record {
  table = led.table;
  led = subst (λ (l : List ℕ). AreLeadersOn r larger l) (sym is)
      (leaders_with t.width r t set larger position codes row order finer led.table low is_codes is_order is_row same (refined led.led));
}
