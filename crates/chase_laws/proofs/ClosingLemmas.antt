-- The closed tableau is one, also by the functional dependencies alone: what steps lead to does not
-- depend on their order, where no step changes it.
use Rattle.std.proofs.Common.{◌≡◌, ℕ, ◌<◌, ◌≤◌, zero, suc, Bool, cond, ◌⊎◌, List, length, map, refl, sym, ap, subst, ◌∙◌, inl, inr, ⊎_elim, arith}
use Rattle.std.proofs.lemmas.Bool.{cases_Bool, cases_eq, cases_lt, true≢false}
use Rattle.std.proofs.lemmas.List.FromFn.{length-map-range_with_len, get_or-map-range_with_len}
use Rattle.std.specs.List.{range_with_len}
use Rattle.std.specs.Prelude.{Contains}
use Rattle.attr_sets.specs.Attributes.{Attributes, union}
use Rattle.dep_model.specs.Dependencies.{Dependency, fd, mvd, is_fd, functional_part}
use Rattle.dep_model.proofs.DistinctLemmas.{filter-keeps, filter-member}
use Rattle.dep_model.proofs.ListLemmas.{Contains-map, Contains-later}
use Rattle.chase_laws.specs.Tableaux.{SymbolRow, Tableau, SameTableau, symbol_at, SymbolsAgree, plan_tableau}
use Rattle.chase_laws.specs.Steps.{replace_in_row, replace_symbol, exchange_rows, IsFdStep, IsMvdStep, IsFunctionalStep, IsChaseStep, IsClosed, HasNoFunctionalStep, LeadsIn, LeadsTo}
use Rattle.chase_laws.specs.Rounds.{ReachesTableau, ClosesFunctionallyTo}
use Rattle.chase_laws.proofs.TableauLemmas.{same_rows, symbol_at_past, length-exchange_rows, symbol_at-exchange_rows, length-replace_in_row, symbol_after, symbol_after-hit, symbol_after-miss, symbol_after-other, symbol_at-replace_in_row, cons_cases, Same-refl, Same-trans}
use Rattle.chase_laws.proofs.InvariantLemmas.{Each, HasLength, over-leads, plan_over, fd_attribute_low, fd_came}
use Rattle.chase_laws.proofs.FunctionalClosingLemmas.{functionally_closed_agrees}
use Rattle.chase_laws.proofs.ClosedLemmas.{closed_exchanged}

-- ---- renamings of symbols
-- a row whose symbols are renamed at each attribute
abbrev rename_row : ℕ → (ℕ → ℕ → ℕ) → SymbolRow → SymbolRow
rename_row n f row = map (λ k. f k (symbol_at row k)) (range_with_len 0 n)

length-rename_row : (n : ℕ) (f : ℕ → ℕ → ℕ) (row : SymbolRow) → length (rename_row n f row) ≡ n
length-rename_row n f row = length-map-range_with_len (λ (k : ℕ). f k (symbol_at row k)) 0 n

symbol_at-rename_row : (n : ℕ) (f : ℕ → ℕ → ℕ) (row : SymbolRow) (k : ℕ) → k < n
    → symbol_at (rename_row n f row) k ≡ f k (symbol_at row k)
symbol_at-rename_row n f row k h =
    get_or-map-range_with_len (λ (j : ℕ). f j (symbol_at row j)) 0 n k k 0 h (omega arith)

rename_row-refl : (n : ℕ) (row : SymbolRow) → length row ≡ n → rename_row n (λ k v. v) row ≡ row
rename_row-refl n row len =
    same_rows n (rename_row n (λ k v. v) row) row (length-rename_row n (λ k v. v) row) len
    (λ (k : ℕ) l. symbol_at-rename_row n (λ k v. v) row k l)

-- ---- renamings into a tableau
-- the rows of one tableau, renamed, are rows of another
abbrev Takes : ℕ → (ℕ → ℕ → ℕ) → Tableau → Tableau → Type 0
Takes n g t u = (row : SymbolRow) → Contains t row → Contains u (rename_row n g row)

agree_renamed : (n : ℕ) (g : ℕ → ℕ → ℕ) (x : Attributes) (p q : SymbolRow) → SymbolsAgree x p q
    → SymbolsAgree x (rename_row n g p) (rename_row n g q)
agree_renamed n g x p q agree k m = elim (cases_lt k n) [
  | inl low ↦
      symbol_at-rename_row n g p k low ∙ ap (λ (v : ℕ). g k v) (agree k m) ∙ sym (symbol_at-rename_row n g q k low)
  | inr past ↦
      symbol_at_past (rename_row n g p) k (omega (arith, length-rename_row n g p, past))
      ∙ sym (symbol_at_past (rename_row n g q) k (omega (arith, length-rename_row n g q, past)))
]

exchanged_renamed : (n : ℕ) (g : ℕ → ℕ → ℕ) (z : Attributes) (p q : SymbolRow)
    → exchange_rows n z (rename_row n g p) (rename_row n g q) ≡ rename_row n g (exchange_rows n z p q)
exchanged_renamed n g z p q =
    same_rows n (exchange_rows n z (rename_row n g p) (rename_row n g q)) (rename_row n g (exchange_rows n z p q))
    (length-exchange_rows n z (rename_row n g p) (rename_row n g q)) (length-rename_row n g (exchange_rows n z p q))
    (λ (k : ℕ) low.
    symbol_at-exchange_rows n z (rename_row n g p) (rename_row n g q) k low
    ∙ elim (cases_Bool (z k)) [
      | inl m ↦
          ap (λ (b : Bool). cond b (symbol_at (rename_row n g p) k) (symbol_at (rename_row n g q) k)) m
          ∙ symbol_at-rename_row n g p k low
          ∙ ap (λ (b : Bool). g k (cond b (symbol_at p k) (symbol_at q k))) (sym m)
      | inr out ↦
          ap (λ (b : Bool). cond b (symbol_at (rename_row n g p) k) (symbol_at (rename_row n g q) k)) out
          ∙ symbol_at-rename_row n g q k low
          ∙ ap (λ (b : Bool). g k (cond b (symbol_at p k) (symbol_at q k))) (sym out)
    ]
    ∙ ap (λ (v : ℕ). g k v) (sym (symbol_at-exchange_rows n z p q k low))
    ∙ sym (symbol_at-rename_row n g (exchange_rows n z p q) k low))

-- steps from t to s rename by f: no symbol grows, the rows of s keep their symbols, and whatever renames the
-- rows of t into a closed tableau does not tell a symbol from its new name, and renames those of s into it
record IsRenamingOf (n : ℕ) (ds : List Dependency) (t s : Tableau) (f : ℕ → ℕ → ℕ) : Type 0 where
  pub lower : (k v : ℕ) → f k v ≤ v
  pub fixed : (row : SymbolRow) → Contains s row → (k : ℕ) → f k (symbol_at row k) ≡ symbol_at row k
  pub from : Takes n f t s
  pub forced : (u : Tableau) → IsClosed n ds u → (g : ℕ → ℕ → ℕ) → Takes n g t u
      → ((k v : ℕ) → g k (f k v) ≡ g k v) × Takes n g s u

none_renamed : (n : ℕ) (ds : List Dependency) (t s : Tableau) → Each (HasLength n) t → SameTableau t s
    → IsRenamingOf n ds t s (λ k v. v)
none_renamed n ds t s over same = record {
  lower = λ k v. omega arith;
  fixed = λ row h k. refl;
  from = λ row h. subst (λ (r : SymbolRow). Contains s r) (sym (rename_row-refl n row (over row h))) ((same row).0 h);
  forced = λ u closed g takes. ((λ (k v : ℕ). refl), (λ row h. takes row ((same row).1 h)));
}

-- ---- a step by a functional dependency
module _ (n : ℕ) (ds : List Dependency) (t m s : Tableau) (over : Each (HasLength n) m) (f : ℕ → ℕ → ℕ)
    (before : IsRenamingOf n ds t m f) (x y : Attributes) (given : Contains ds (fd x y)) (step : IsFdStep x y m s) where
  former : ℕ
  former = symbol_at step.second step.attribute

  later : ℕ
  later = symbol_at step.first step.attribute

  -- the symbol after the step
  next : ℕ → ℕ → ℕ
  next k v = symbol_after step.attribute former later k v

  next_low : (k v : ℕ) → next k v ≤ v
  unfolding former later next
  next_low k v = elim (cases_eq k step.attribute) [
    | inr other ↦ let e = symbol_after-other step.attribute former later k v other in omega (arith, e)
    | inl here ↦ elim (cases_eq v former) [
      | inl hit ↦ let e = symbol_after-hit step.attribute former later k v here hit in omega (arith, e, hit, step.differ)
      | inr miss ↦ let e = symbol_after-miss step.attribute former later k v miss in omega (arith, e)
    ]
  ]

  next_later : (k : ℕ) → next k later ≡ later
  unfolding former later next
  next_later k =
      symbol_after-miss step.attribute former later k later (λ (e : later ≡ former). absurd (omega (arith, e, step.differ)))

  -- each row after it is one of before, its symbols after it
  came : (row : SymbolRow) → Contains s row
      → (q : SymbolRow) × Contains m q × ((k : ℕ) → symbol_at row k ≡ next k (symbol_at q k))
  unfolding former later next
  came = fd_came n x y m s over step

  -- a symbol that f keeps
  kept_symbol : (k v : ℕ) → f k v ≡ v → next k (f k (next k v)) ≡ next k v
  unfolding former later next
  kept_symbol k v keeps =
      let unchanged : next k v ≡ v → next k (f k (next k v)) ≡ next k v =
      λ (e : next k v ≡ v). ap (λ (w : ℕ). next k (f k w)) e ∙ ap (λ (w : ℕ). next k w) keeps in
      elim (cases_eq k step.attribute) [
        | inr other ↦ unchanged (symbol_after-other step.attribute former later k v other)
        | inl here ↦ elim (cases_eq v former) [
          | inr miss ↦ unchanged (symbol_after-miss step.attribute former later k v miss)
          | inl hit ↦
              let e : next k v ≡ later = symbol_after-hit step.attribute former later k v here hit in
              let stays : f k later ≡ later =
              ap (λ (j : ℕ). f j later) here ∙ before.fixed step.first step.first_in step.attribute in
              ap (λ (w : ℕ). next k (f k w)) e ∙ ap (λ (w : ℕ). next k w) stays ∙ next_later k ∙ sym e
        ]
      ]

  step_row : (p : SymbolRow)
      → replace_in_row step.attribute former later (rename_row n f p) ≡ rename_row n (λ k v. next k (f k v)) p
  unfolding next
  step_row p =
      same_rows n (replace_in_row step.attribute former later (rename_row n f p)) (rename_row n (λ k v. next k (f k v)) p)
      (length-replace_in_row step.attribute former later (rename_row n f p) ∙ length-rename_row n f p)
      (length-rename_row n (λ k v. next k (f k v)) p)
      (λ (k : ℕ) l.
      symbol_at-replace_in_row step.attribute former later (rename_row n f p) k
      (omega (arith, fd_attribute_low n x y m s over step, length-rename_row n f p))
      ∙ ap (λ (v : ℕ). symbol_after step.attribute former later k v) (symbol_at-rename_row n f p k l)
      ∙ sym (symbol_at-rename_row n (λ k v. next k (f k v)) p k l))

  -- what renames the rows before the step into a closed tableau does not tell the two symbols apart
  module _ (u : Tableau) (closed : IsClosed n ds u) (g : ℕ → ℕ → ℕ) (takes : Takes n g m u) where
    alike : g step.attribute later ≡ g step.attribute former
    unfolding former later
    alike =
        sym (symbol_at-rename_row n g step.first step.attribute (fd_attribute_low n x y m s over step))
        ∙ functionally_closed_agrees ds u x y (rename_row n g step.first) (rename_row n g step.second)
        (λ after one. closed after (inl one)) given (takes step.first step.first_in)
        (takes step.second step.second_in)
        (agree_renamed n g x step.first step.second step.agree) step.attribute step.member
        ∙ symbol_at-rename_row n g step.second step.attribute (fd_attribute_low n x y m s over step)

    next_alike : (k v : ℕ) → g k (next k v) ≡ g k v
    unfolding next
    next_alike k v = elim (cases_eq k step.attribute) [
      | inr other ↦ ap (λ (w : ℕ). g k w) (symbol_after-other step.attribute former later k v other)
      | inl here ↦ elim (cases_eq v former) [
        | inr miss ↦ ap (λ (w : ℕ). g k w) (symbol_after-miss step.attribute former later k v miss)
        | inl hit ↦
            ap (λ (w : ℕ). g k w) (symbol_after-hit step.attribute former later k v here hit)
            ∙ subst (λ (j : ℕ). g j later ≡ g j former) (sym here) alike ∙ ap (λ (w : ℕ). g k w) (sym hit)
      ]
    ]

    takes_after : Takes n g s u
    takes_after row h =
        let q = came row h in
        let is : rename_row n g q.0 ≡ rename_row n g row =
        same_rows n (rename_row n g q.0) (rename_row n g row) (length-rename_row n g q.0) (length-rename_row n g row)
        (λ (k : ℕ) low.
        symbol_at-rename_row n g q.0 k low
        ∙ sym (next_alike k (symbol_at q.0 k))
        ∙ ap (λ (v : ℕ). g k v) (sym (q.2 k))
        ∙ sym (symbol_at-rename_row n g row k low)) in
        subst (λ (r : SymbolRow). Contains u r) is (takes q.0 q.1)

  functional_renamed : IsRenamingOf n ds t s (λ k v. next k (f k v))
  unfolding former later
  functional_renamed = record {
    lower = λ k v. let e = next_low k (f k v) in omega (arith, e, before.lower k v);
    fixed = λ row h k.
        let q = came row h in
        ap (λ (v : ℕ). next k (f k v)) (q.2 k)
        ∙ kept_symbol k (symbol_at q.0 k) (before.fixed q.0 q.1 k) ∙ sym (q.2 k);
    from = λ p h.
        (step.after (rename_row n (λ k v. next k (f k v)) p)).0
        (subst (λ (r : SymbolRow). Contains (replace_symbol step.attribute former later m) r) (step_row p)
        (Contains-map (replace_in_row step.attribute former later) m (rename_row n f p) (before.from p h)));
    forced = λ u closed g takes.
        let w = before.forced u closed g takes in
        ((λ (k v : ℕ). next_alike u closed g w.1 k (f k v) ∙ w.0 k v), takes_after u closed g w.1);
  }

-- ---- a step by a multivalued dependency
module _ (n : ℕ) (ds : List Dependency) (t m s : Tableau) (f : ℕ → ℕ → ℕ) (before : IsRenamingOf n ds t m f)
    (x y : Attributes) (given : Contains ds (mvd x y)) (step : IsMvdStep n x y m s) where
  made : SymbolRow
  made = exchange_rows n (union x y) step.first step.second

  made_or_old : (row : SymbolRow) → Contains s row → (made ≡ row) ⊎ Contains m row
  unfolding made
  made_or_old row h = cons_cases made m row ((step.after row).1 h)

  made_fixed : (k : ℕ) → f k (symbol_at made k) ≡ symbol_at made k
  unfolding made
  made_fixed k = elim (cases_lt k n) [
    | inr past ↦
        let none : symbol_at made k ≡ 0 =
        symbol_at_past made k (omega (arith, length-exchange_rows n (union x y) step.first step.second, past)) in
        omega (arith, none, before.lower k (symbol_at made k))
    | inl low ↦
        let is = symbol_at-exchange_rows n (union x y) step.first step.second k low in
        elim (cases_Bool (union x y k)) [
          | inl m_in ↦
              let e : symbol_at made k ≡ symbol_at step.first k =
              is ∙ ap (λ (b : Bool). cond b (symbol_at step.first k) (symbol_at step.second k)) m_in in
              ap (λ (v : ℕ). f k v) e ∙ before.fixed step.first step.first_in k ∙ sym e
          | inr out ↦
              let e : symbol_at made k ≡ symbol_at step.second k =
              is ∙ ap (λ (b : Bool). cond b (symbol_at step.first k) (symbol_at step.second k)) out in
              ap (λ (v : ℕ). f k v) e ∙ before.fixed step.second step.second_in k ∙ sym e
        ]
  ]

  made_taken : (u : Tableau) → IsClosed n ds u → (g : ℕ → ℕ → ℕ) → Takes n g m u → Contains u (rename_row n g made)
  unfolding made
  made_taken u closed g takes =
      subst (λ (r : SymbolRow). Contains u r) (exchanged_renamed n g (union x y) step.first step.second)
      (closed_exchanged n ds u x y (rename_row n g step.first) (rename_row n g step.second) closed given
      (takes step.first step.first_in) (takes step.second step.second_in)
      (agree_renamed n g x step.first step.second step.agree))

  multivalued_renamed : IsRenamingOf n ds t s f
  unfolding made
  multivalued_renamed = record {
    lower = before.lower;
    fixed = λ row h k. ⊎_elim
        (λ (e : made ≡ row). subst (λ (r : SymbolRow). f k (symbol_at r k) ≡ symbol_at r k) e (made_fixed k))
        (λ old. before.fixed row old k)
        (made_or_old row h);
    from = λ p h. (step.after (rename_row n f p)).0 (Contains-later made m (rename_row n f p) (before.from p h));
    forced = λ u closed g takes.
        let w = before.forced u closed g takes in (
          w.0,
          λ row h. ⊎_elim
              (λ (e : made ≡ row). subst (λ (r : SymbolRow). Contains u (rename_row n g r)) e (made_taken u closed g w.1))
              (λ old. w.1 row old)
              (made_or_old row h),
        );
  }

-- ---- any number of steps
step_renamed : (n : ℕ) (ds : List Dependency) (t m s : Tableau) → Each (HasLength n) m → (f : ℕ → ℕ → ℕ)
    → IsRenamingOf n ds t m f → IsChaseStep n ds m s → (h : ℕ → ℕ → ℕ) × IsRenamingOf n ds t s h
step_renamed n ds t m s over f before (inl step) = (
  (λ k v. next n ds t m s over f before step.lhs step.rhs step.given step.step k (f k v)),
  functional_renamed n ds t m s over f before step.lhs step.rhs step.given step.step,
)
step_renamed n ds t m s over f before (inr step) =
    (f, multivalued_renamed n ds t m s f before step.lhs step.rhs step.given step.step)

leads_renamed : (n : ℕ) (ds : List Dependency) (count : ℕ) (t s : Tableau) → Each (HasLength n) t
    → LeadsIn (IsChaseStep n ds) count t s → (f : ℕ → ℕ → ℕ) × IsRenamingOf n ds t s f
leads_renamed n ds zero t s over same = ((λ k v. v), none_renamed n ds t s over same)
leads_renamed n ds (suc count) t s over leads =
    let f = leads_renamed n ds count t leads.0 over leads.1 in
    step_renamed n ds t leads.0 s (over-leads n ds count t leads.0 leads.1 over) f.0 f.1 leads.2

-- ---- uniqueness
-- a row that one renaming keeps and the other takes into a tableau is in it, where they are the same
within_other : (n : ℕ) (ds : List Dependency) (t s u : Tableau) (f g : ℕ → ℕ → ℕ) → Each (HasLength n) s
    → IsRenamingOf n ds t s f → Takes n g s u → ((k v : ℕ) → f k v ≡ g k v) → (row : SymbolRow) → Contains s row
    → Contains u row
within_other n ds t s u f g over to_s takes same row h =
    let is : rename_row n g row ≡ row = same_rows n (rename_row n g row) row (length-rename_row n g row) (over row h)
    (λ (k : ℕ) low.
    symbol_at-rename_row n g row k low ∙ sym (same k (symbol_at row k)) ∙ to_s.fixed row h k) in
    subst (λ (r : SymbolRow). Contains u r) is (takes row h)

leads_start : (Step : Tableau → Tableau → Type 0) (count : ℕ) (t t' s : Tableau) → SameTableau t t'
    → LeadsIn Step count t' s → LeadsIn Step count t s
leads_start Step zero t t' s same leads = Same-trans t t' s same leads
leads_start Step (suc count) t t' s same leads = (leads.0, leads_start Step count t t' leads.0 same leads.1, leads.2)

-- equal tableaux have one closed tableau that steps lead to
closed_from : (n : ℕ) (ds : List Dependency) (t t' s u : Tableau) → Each (HasLength n) t → SameTableau t t'
    → LeadsTo (IsChaseStep n ds) t s → IsClosed n ds s → LeadsTo (IsChaseStep n ds) t' u → IsClosed n ds u → SameTableau s u
closed_from n ds t t' s u over same one s_closed other u_closed =
    let leads = leads_start (IsChaseStep n ds) other.0 t t' u same other.1 in
    let f = leads_renamed n ds one.0 t s over one.1 in
    let g = leads_renamed n ds other.0 t u over leads in
    let f_forced = f.1.forced u u_closed g.0 g.1.from in
    let g_forced = g.1.forced s s_closed f.0 f.1.from in
    let equal : (k v : ℕ) → f.0 k v ≡ g.0 k v = λ (k v : ℕ).
    let g_f = f_forced.0 k v in
    let f_g = g_forced.0 k v in
    let one_way = g.1.lower k (f.0 k v) in
    let back = f.1.lower k (g.0 k v) in
    omega (arith, g_f, f_g, one_way, back) in
    (λ (row : SymbolRow). (
      within_other n ds t s u f.0 g.0 (over-leads n ds one.0 t s one.1 over) f.1 f_forced.1 equal row,
      within_other n ds t u s g.0 f.0 (over-leads n ds other.0 t u leads over) g.1 g_forced.1
          (λ (k v : ℕ). sym (equal k v)) row,
    ))

pub closing_unique : (n : ℕ) (ds : List Dependency) (plan : List Attributes) (s u : Tableau) → ReachesTableau n ds plan s
    → IsClosed n ds s → ReachesTableau n ds plan u → IsClosed n ds u → SameTableau s u
closing_unique n ds plan s u =
    closed_from n ds (plan_tableau n plan) (plan_tableau n plan) s u (plan_over n 1 plan)
    (Same-refl (plan_tableau n plan))

-- ---- to close functionally is to close by the functional dependencies alone
functional_steps : (n : ℕ) (ds : List Dependency) (count : ℕ) (t s : Tableau) → LeadsIn (IsFunctionalStep ds) count t s
    → LeadsIn (IsChaseStep n (functional_part ds)) count t s
functional_steps n ds zero t s same = same
functional_steps n ds (suc count) t s leads =
    let step = leads.2 in (
      leads.0,
      functional_steps n ds count t leads.0 leads.1,
      inl (record {
        lhs = step.lhs;
        rhs = step.rhs;
        given = filter-keeps is_fd ds (fd step.lhs step.rhs) step.given refl;
        step = step.step;
      }),
    )

functional_closed : (n : ℕ) (ds : List Dependency) (t : Tableau) → HasNoFunctionalStep ds t
    → IsClosed n (functional_part ds) t
functional_closed n ds t functionally_closed s (inl step) = functionally_closed s (record {
  lhs = step.lhs;
  rhs = step.rhs;
  given = (filter-member is_fd ds (fd step.lhs step.rhs) step.given).0;
  step = step.step;
})
functional_closed n ds t functionally_closed s (inr step) =
    true≢false (sym (filter-member is_fd ds (mvd step.lhs step.rhs) step.given).1)

pub functional_closing_unique : (n : ℕ) (ds : List Dependency) (t t' s s' : Tableau) → Each (HasLength n) t → SameTableau t t'
    → ClosesFunctionallyTo ds t s → ClosesFunctionallyTo ds t' s' → SameTableau s s'
functional_closing_unique n ds t t' s s' over same one other =
    closed_from n (functional_part ds) t t' s s' over same
    (one.leads.0, functional_steps n ds one.leads.0 t s one.leads.1) (functional_closed n ds s one.functionally_closed)
    (other.leads.0, functional_steps n ds other.leads.0 t' s' other.leads.1) (functional_closed n ds s' other.functionally_closed)
