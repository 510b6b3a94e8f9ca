-- Steps by functional dependencies as the code takes them: pair by pair, attribute by attribute.
use Rattle.std.proofs.Common.{◌≡◌, ℕ, ◌+◌, ◌<◌, ◌≤◌, ◌⊎◌, suc, Bool, true, false, List, [], ◌∷◌, length, get_or, refl, sym, ap, subst, ◌∙◌, inl, inr, ⊎_elim, arith}
use Rattle.std.proofs.lemmas.Bool.{cases_lt, true≢false}
use Rattle.std.proofs.lemmas.List.{get_or-map, length-map, get_or_default}
use Rattle.std.proofs.lemmas.List.Elements.{All-map, Contains-get_or}
use Rattle.std.specs.Prelude.{Contains, All}
use Rattle.attr_sets.specs.Attributes.{Attributes, count_below}
use Rattle.attr_sets.proofs.AttributesLemmas.{count_below-before_member}
use Rattle.dep_model.specs.Dependencies.{Dependency, fd, mvd}
use Rattle.dep_model.specs.Projections.{members_below}
use Rattle.dep_model.proofs.SchemeLemmas.{members_below-at, length-members_below}
use Rattle.dep_model.proofs.ListLemmas.{Contains-head}
use Rattle.chase_laws.specs.Tableaux.{SymbolRow, Tableau, SameTableau, symbol_at, SymbolsAgree, IsTableauOver}
use Rattle.chase_laws.specs.Steps.{replace_in_row, replace_symbol, IsFunctionalStep}
use Rattle.chase_laws.proofs.TableauLemmas.{symbol_at_past, length-replace_in_row, symbol_at-replace_in_row, symbol_after, symbol_after-hit, symbol_after-miss, Same-refl}
use Rattle.chase_laws.proofs.RoundLemmas.{functional_leads_join}
use Rattle.tableau_chase.specs.Groups.{symbol_row_at, AreSymbolLeaders}
use Rattle.tableau_chase.specs.Equating.{Changes, Follows, FollowsBy, KeepsRows, IsEquatedAt, AreEquated, AgreesBy, AreGrouped, AreGroupedBy}

-- ---- a replacement
row_at-replace_symbol : (a former later : ℕ) (t : Tableau) (i : ℕ) → i < length t → symbol_row_at (replace_symbol a former later t) i ≡ replace_in_row a former later (symbol_row_at t i)
row_at-replace_symbol a former later t i low = get_or-map (replace_in_row a former later) t i [] [] low

abbrev HasAttribute : ℕ → SymbolRow → Type 0
HasAttribute a row = a < length row

symbol-replace_symbol : (a former later : ℕ) (t : Tableau) (i k : ℕ) → All (HasAttribute a) t → i < length t → symbol_at (symbol_row_at (replace_symbol a former later t) i) k ≡ symbol_after a former later k (symbol_at (symbol_row_at t i) k)
symbol-replace_symbol a former later t i k within low =
    ap (λ (row : SymbolRow). symbol_at row k) (row_at-replace_symbol a former later t i low) ∙ symbol_at-replace_in_row a former later (symbol_row_at t i) k (within i [] low)

keeps_replaced : (a former later : ℕ) (t : Tableau) → All (HasAttribute a) t → KeepsRows t (replace_symbol a former later t)
keeps_replaced a former later t within = record {
  one_each = length-map t (replace_in_row a former later);
  equal = λ i j k i_low j_low same.
      symbol-replace_symbol a former later t i k within i_low ∙ ap (λ (v : ℕ). symbol_after a former later k v) same ∙ sym (symbol-replace_symbol a former later t j k within j_low);
  over = λ n over. All-map (λ (row : SymbolRow). length row ≡ n) (replace_in_row a former later) t (λ k d l. length-replace_in_row a former later (get_or t k d) ∙ over k d l);
}

pub KeepsRows-refl : (t : Tableau) → KeepsRows t t
KeepsRows-refl t = record { one_each = refl; equal = λ i j k i_low j_low same. same; over = λ n over. over }

KeepsRows-trans : (t m s : Tableau) → KeepsRows t m → KeepsRows m s → KeepsRows t s
KeepsRows-trans t m s one other = record {
  one_each = other.one_each ∙ one.one_each;
  equal = λ i j k i_low j_low same. other.equal i j k (omega (arith, i_low, one.one_each)) (omega (arith, j_low, one.one_each)) (one.equal i j k i_low j_low same);
  over = λ n over. other.over n (one.over n over);
}

keeps_agree : (t s : Tableau) (x : Attributes) (i j : ℕ) → KeepsRows t s → i < length t → j < length t → SymbolsAgree x (symbol_row_at t i) (symbol_row_at t j) → SymbolsAgree x (symbol_row_at s i) (symbol_row_at s j)
keeps_agree t s x i j keeps i_low j_low agree k m = keeps.equal i j k i_low j_low (agree k m)

-- ---- changes
changes_step : (ds : List Dependency) (changed : Bool) (t m s : Tableau) → Changes ds changed t m → IsFunctionalStep ds m s → Changes ds true t s
changes_step ds true t m s changes step = (suc changes.0, (m, changes.1, step))
changes_step ds false t m s same step = (0, (m, subst (λ (u : Tableau). SameTableau t u) (sym same) (Same-refl t), step))

changes_join : (ds : List Dependency) (changed : Bool) (t m s : Tableau) → Changes ds changed t m → Changes ds true m s → Changes ds true t s
changes_join ds true t m s one other = functional_leads_join ds other.0 t m s (suc one.0) one.1 other.1
changes_join ds false t m s same other = subst (λ (u : Tableau). Changes ds true u s) same other

-- ---- one attribute
module _ (a first second : ℕ) (t s : Tableau) (within : All (HasAttribute a) t) (first_low : first < length t) (second_low : second < length t) (equated : IsEquatedAt a first second t s true) where
  equated_step : (ds : List Dependency) (x y : Attributes) → Contains ds (fd x y) → y a ≡ true → SymbolsAgree x (symbol_row_at t first) (symbol_row_at t second) → IsFunctionalStep ds t s
  equated_step ds x y given member agree = elim equated [
    | inl less ↦ record {
      lhs = x;
      rhs = y;
      given = given;
      step = record {
        first = symbol_row_at t first;
        second = symbol_row_at t second;
        first_in = Contains-get_or t first [] first_low;
        second_in = Contains-get_or t second [] second_low;
        agree = agree;
        attribute = a;
        member = member;
        differ = less.0;
        after = subst (λ (u : Tableau). SameTableau (replace_symbol a (symbol_at (symbol_row_at t second) a) (symbol_at (symbol_row_at t first) a) t) u) (sym less.1) (Same-refl (replace_symbol a (symbol_at (symbol_row_at t second) a) (symbol_at (symbol_row_at t first) a) t));
      };
    }
    | inr more ↦ record {
      lhs = x;
      rhs = y;
      given = given;
      step = record {
        first = symbol_row_at t second;
        second = symbol_row_at t first;
        first_in = Contains-get_or t second [] second_low;
        second_in = Contains-get_or t first [] first_low;
        agree = λ k m. sym (agree k m);
        attribute = a;
        member = member;
        differ = more.0;
        after = subst (λ (u : Tableau). SameTableau (replace_symbol a (symbol_at (symbol_row_at t first) a) (symbol_at (symbol_row_at t second) a) t) u) (sym more.1) (Same-refl (replace_symbol a (symbol_at (symbol_row_at t first) a) (symbol_at (symbol_row_at t second) a) t));
      };
    }
  ]

  equated_keeps : KeepsRows t s
  equated_keeps = elim equated [
    | inl less ↦ subst (λ (u : Tableau). KeepsRows t u) (sym less.1) (keeps_replaced a (symbol_at (symbol_row_at t second) a) (symbol_at (symbol_row_at t first) a) t within)
    | inr more ↦ subst (λ (u : Tableau). KeepsRows t u) (sym more.1) (keeps_replaced a (symbol_at (symbol_row_at t first) a) (symbol_at (symbol_row_at t second) a) t within)
  ]

  equated_agree : symbol_at (symbol_row_at s first) a ≡ symbol_at (symbol_row_at s second) a
  equated_agree = elim equated [
    | inl less ↦
        let former = symbol_at (symbol_row_at t second) a in
        let later = symbol_at (symbol_row_at t first) a in
        ap (λ (u : Tableau). symbol_at (symbol_row_at u first) a) less.1 ∙ symbol-replace_symbol a former later t first a within first_low
        ∙ symbol_after-miss a former later a later (λ e. absurd (omega (arith, e, less.0))) ∙ sym (symbol_after-hit a former later a former refl refl)
        ∙ sym (symbol-replace_symbol a former later t second a within second_low) ∙ ap (λ (u : Tableau). symbol_at (symbol_row_at u second) a) (sym less.1)
    | inr more ↦
        let former = symbol_at (symbol_row_at t first) a in
        let later = symbol_at (symbol_row_at t second) a in
        ap (λ (u : Tableau). symbol_at (symbol_row_at u first) a) more.1 ∙ symbol-replace_symbol a former later t first a within first_low
        ∙ symbol_after-hit a former later a former refl refl ∙ sym (symbol_after-miss a former later a later (λ e. absurd (omega (arith, e, more.0))))
        ∙ sym (symbol-replace_symbol a former later t second a within second_low) ∙ ap (λ (u : Tableau). symbol_at (symbol_row_at u second) a) (sym more.1)
  ]

-- ---- attribute by attribute
-- two rows agree at the first attributes of a list
pub record AreEquatedUpTo (y : Attributes) (attributes : List ℕ) (upto first second : ℕ) (t s : Tableau) (changed : Bool) : Type 0 where
  pub changes : (ds : List Dependency) (x : Attributes) → Contains ds (fd x y) → SymbolsAgree x (symbol_row_at t first) (symbol_row_at t second) → Changes ds changed t s
  pub keeps : KeepsRows t s
  pub agree : (j : ℕ) → j < upto → symbol_at (symbol_row_at s first) (get_or attributes j 0) ≡ symbol_at (symbol_row_at s second) (get_or attributes j 0)

pub equated_none : (y : Attributes) (attributes : List ℕ) (first second : ℕ) (t : Tableau) → AreEquatedUpTo y attributes 0 first second t t false
equated_none y attributes first second t = record { changes = λ ds x given agree. refl; keeps = KeepsRows-refl t; agree = λ j l. absurd (omega arith) }

pub equated_more : (y : Attributes) (attributes : List ℕ) (upto next first second : ℕ) (t m s : Tableau) (changed : Bool) → next ≡ upto + 1 → first < length t → second < length t
    → All (HasAttribute (get_or attributes upto 0)) m → y (get_or attributes upto 0) ≡ true → AreEquatedUpTo y attributes upto first second t m changed
    → IsEquatedAt (get_or attributes upto 0) first second m s true → AreEquatedUpTo y attributes next first second t s true
equated_more y attributes upto next first second t m s changed up first_low second_low within member before equated =
    let a = get_or attributes upto 0 in
    let first_m : first < length m = omega (arith, first_low, before.keeps.one_each) in
    let second_m : second < length m = omega (arith, second_low, before.keeps.one_each) in
    let keeps = equated_keeps a first second m s within first_m second_m equated in
    record {
      changes = λ ds x given agree. changes_step ds changed t m s (before.changes ds x given agree)
          (equated_step a first second m s within first_m second_m equated ds x y given member (keeps_agree t m x first second before.keeps first_low second_low agree));
      keeps = KeepsRows-trans t m s before.keeps keeps;
      agree = λ j l. elim (cases_lt j upto) [
        | inl lt ↦ keeps.equal first second (get_or attributes j 0) first_m second_m (before.agree j lt)
        | inr ge ↦ let here : j ≡ upto = omega arith in
            subst (λ (i : ℕ). symbol_at (symbol_row_at s first) (get_or attributes i 0) ≡ symbol_at (symbol_row_at s second) (get_or attributes i 0)) (sym here) (equated_agree a first second m s within first_m second_m equated)
      ];
    }

pub equated_same : (y : Attributes) (attributes : List ℕ) (upto next first second : ℕ) (t m s : Tableau) (changed : Bool) → next ≡ upto + 1 → AreEquatedUpTo y attributes upto first second t m changed
    → IsEquatedAt (get_or attributes upto 0) first second m s false → AreEquatedUpTo y attributes next first second t s changed
equated_same y attributes upto next first second t m s changed up before equated = subst (λ (u : Tableau). AreEquatedUpTo y attributes next first second t u changed) (sym equated.0) (record {
  changes = before.changes;
  keeps = before.keeps;
  agree = λ j l. elim (cases_lt j upto) [
    | inl lt ↦ before.agree j lt
    | inr ge ↦ let here : j ≡ upto = omega arith in subst (λ (i : ℕ). symbol_at (symbol_row_at m first) (get_or attributes i 0) ≡ symbol_at (symbol_row_at m second) (get_or attributes i 0)) (sym here) equated.1
  ];
})

pub equated_all : (n : ℕ) (y : Attributes) (upto first second : ℕ) (t s : Tableau) (changed : Bool) → length (members_below n y) ≤ upto → IsTableauOver n t → first < length t → second < length t
    → AreEquatedUpTo y (members_below n y) upto first second t s changed → AreEquated y first second t s changed
equated_all n y upto first second t s changed all over first_low second_low before = record {
  changes = before.changes;
  keeps = before.keeps;
  agree = λ k m. elim (cases_lt k n) [
    | inl low ↦
        let position = count_below y k in
        let is : get_or (members_below n y) position 0 ≡ k = members_below-at n y k 0 low m in
        let short : position < length (members_below n y) = omega (arith, length-members_below n y, count_below-before_member n k y low m) in
        subst (λ (a : ℕ). symbol_at (symbol_row_at s first) a ≡ symbol_at (symbol_row_at s second) a) is (before.agree position (omega (arith, short, all)))
    | inr past ↦
        let s_over = before.keeps.over n over in
        let first_len : length (symbol_row_at s first) ≡ n = s_over first [] (omega (arith, first_low, before.keeps.one_each)) in
        let second_len : length (symbol_row_at s second) ≡ n = s_over second [] (omega (arith, second_low, before.keeps.one_each)) in
        symbol_at_past (symbol_row_at s first) k (omega (arith, first_len, past)) ∙ sym (symbol_at_past (symbol_row_at s second) k (omega (arith, second_len, past)))
  ];
}

-- ---- row by row
-- the first rows agree with their leaders
pub record AreGroupedUpTo (x y : Attributes) (leaders : List ℕ) (upto : ℕ) (t s : Tableau) (changed : Bool) : Type 0 where
  pub changes : (ds : List Dependency) → Contains ds (fd x y) → Changes ds changed t s
  pub keeps : KeepsRows t s
  pub equal : changed ≡ false → (j : ℕ) → j < upto → SymbolsAgree y (symbol_row_at t (get_or leaders j 0)) (symbol_row_at t j)

pub grouped_none : (x y : Attributes) (leaders : List ℕ) (t : Tableau) → AreGroupedUpTo x y leaders 0 t t false
grouped_none x y leaders t = record { changes = λ ds given. refl; keeps = KeepsRows-refl t; equal = λ same j l. absurd (omega arith) }

module _ (x y : Attributes) (leaders : List ℕ) (upto next : ℕ) (up : next ≡ upto + 1) (t m s : Tableau) (low : upto < length t) (are : AreSymbolLeaders x t leaders) where
  led_low : get_or leaders upto 0 < length t
  led_low = omega (arith, are.first upto low, low)

  agree_m : KeepsRows t m → SymbolsAgree x (symbol_row_at m (get_or leaders upto 0)) (symbol_row_at m upto)
  agree_m keeps = keeps_agree t m x (get_or leaders upto 0) upto keeps led_low low (are.agree upto low)

  pub grouped_more : (changed : Bool) → AreGroupedUpTo x y leaders upto t m changed → AreEquated y (get_or leaders upto 0) upto m s true → AreGroupedUpTo x y leaders next t s true
  grouped_more changed before equated = record {
    changes = λ ds given. changes_join ds changed t m s (before.changes ds given) (equated.changes ds x given (agree_m before.keeps));
    keeps = KeepsRows-trans t m s before.keeps equated.keeps;
    equal = λ same. absurd (true≢false same);
  }

  alone : Contains (fd x y ∷ []) (fd x y)
  alone = Contains-head (fd x y) []

  pub grouped_same : (changed : Bool) → AreGroupedUpTo x y leaders upto t m changed → AreEquated y (get_or leaders upto 0) upto m s false → AreGroupedUpTo x y leaders next t s changed
  grouped_same changed before equated =
      let unchanged : s ≡ m = equated.changes (fd x y ∷ []) x alone (agree_m before.keeps) in
      record {
        changes = λ ds given. subst (λ (u : Tableau). Changes ds changed t u) (sym unchanged) (before.changes ds given);
        keeps = KeepsRows-trans t m s before.keeps equated.keeps;
        equal = λ none j l. elim (cases_lt j upto) [
          | inl lt ↦ before.equal none j lt
          | inr ge ↦
              let here : j ≡ upto = omega arith in
              let same : s ≡ t = unchanged ∙ subst (λ (b : Bool). Changes (fd x y ∷ []) b t m) none (before.changes (fd x y ∷ []) alone) in
              subst (λ (i : ℕ). SymbolsAgree y (symbol_row_at t (get_or leaders i 0)) (symbol_row_at t i)) (sym here)
              (subst (λ (u : Tableau). SymbolsAgree y (symbol_row_at u (get_or leaders upto 0)) (symbol_row_at u upto)) same equated.agree)
        ];
      }

pub grouped_all : (x y : Attributes) (leaders : List ℕ) (upto : ℕ) (t s : Tableau) (changed : Bool) → length t ≤ upto → AreSymbolLeaders x t leaders → AreGroupedUpTo x y leaders upto t s changed → AreGrouped x y t s changed
grouped_all x y leaders upto t s changed all are before = record {
  changes = before.changes;
  keeps = before.keeps;
  obeyed = λ none i j i_low j_low agree k m.
      let led : get_or leaders i 0 ≡ get_or leaders j 0 = are.same i j i_low j_low agree in
      sym (before.equal none i (omega (arith, i_low, all)) k m)
      ∙ ap (λ (l : ℕ). symbol_at (symbol_row_at t l) k) led
      ∙ before.equal none j (omega (arith, j_low, all)) k m;
}

-- ---- dependency by dependency
-- what a dependency says of a tableau, where it is functional
abbrev pub HasBy : Tableau → Dependency → Type 0
HasBy t (fd x y) = AgreesBy x y t
HasBy t (mvd x y) = Unit {0}

pub record AreTakenUpTo (ds : List Dependency) (upto : ℕ) (t s : Tableau) (changed : Bool) : Type 0 where
  pub changes : Changes ds changed t s
  pub keeps : KeepsRows t s
  pub obeyed : changed ≡ false → (j : ℕ) → j < upto → (e : Dependency) → HasBy t (get_or ds j e)

pub taken_none : (ds : List Dependency) (t : Tableau) → AreTakenUpTo ds 0 t t false
taken_none ds t = record { changes = refl; keeps = KeepsRows-refl t; obeyed = λ same j l. absurd (omega arith) }

by_same : (d : Dependency) (t s : Tableau) → AreGroupedBy d t s false → (s ≡ t) × HasBy t d
by_same (fd x y) t s grouped = (grouped.changes (fd x y ∷ []) (Contains-head (fd x y) []), grouped.obeyed refl)
by_same (mvd x y) t s grouped = (grouped.0, tt)

by_more : (ds : List Dependency) (d : Dependency) (t s : Tableau) → Contains ds d → AreGroupedBy d t s true → Changes ds true t s × KeepsRows t s
by_more ds (fd x y) t s given grouped = (grouped.changes ds given, grouped.keeps)
by_more ds (mvd x y) t s given grouped = absurd (true≢false grouped.1)

pub taken_more : (ds : List Dependency) (upto next : ℕ) (t m s : Tableau) (changed : Bool) (e : Dependency) → next ≡ upto + 1 → upto < length ds → AreTakenUpTo ds upto t m changed → AreGroupedBy (get_or ds upto e) m s true
    → AreTakenUpTo ds next t s true
taken_more ds upto next t m s changed e up low before grouped =
    let w = by_more ds (get_or ds upto e) m s (Contains-get_or ds upto e low) grouped in
    record {
      changes = changes_join ds changed t m s before.changes w.0;
      keeps = KeepsRows-trans t m s before.keeps w.1;
      obeyed = λ same. absurd (true≢false same);
    }

pub taken_same : (ds : List Dependency) (upto next : ℕ) (t m s : Tableau) (changed : Bool) (e : Dependency) → next ≡ upto + 1 → upto < length ds → AreTakenUpTo ds upto t m changed → AreGroupedBy (get_or ds upto e) m s false
    → AreTakenUpTo ds next t s changed
taken_same ds upto next t m s changed e up low before grouped =
    let w = by_same (get_or ds upto e) m s grouped in
    subst (λ (u : Tableau). AreTakenUpTo ds next t u changed) (sym w.0) (record {
      changes = before.changes;
      keeps = before.keeps;
      obeyed = λ none j l d. elim (cases_lt j upto) [
        | inl lt ↦ before.obeyed none j lt d
        | inr ge ↦
            let here : j ≡ upto = omega arith in
            let same : m ≡ t = subst (λ (b : Bool). Changes ds b t m) none before.changes in
            subst (λ (i : ℕ). HasBy t (get_or ds i d)) (sym here) (subst (λ (b : Dependency). HasBy t b) (get_or_default ds upto e d low) (subst (λ (u : Tableau). HasBy u (get_or ds upto e)) same w.1))
      ];
    })

pub taken_all : (ds : List Dependency) (upto : ℕ) (t s : Tableau) (changed : Bool) → length ds ≤ upto → AreTakenUpTo ds upto t s changed → changed ≡ false → (x y : Attributes) → Contains ds (fd x y) → AgreesBy x y t
taken_all ds upto t s changed all before none x y given =
    subst (λ (d : Dependency). HasBy t d) given.2 (before.obeyed none given.0 (omega (arith, given.1, all)) (fd x y))

-- ---- steps that follow others
pub follows_none : (ds : List Dependency) (t : Tableau) → Follows ds t t
follows_none ds t = record { changes = inl refl; keeps = KeepsRows-refl t }

changes_follow : (ds : List Dependency) (changed : Bool) (t s : Tableau) → Changes ds changed t s → (s ≡ t) ⊎ Changes ds true t s
changes_follow ds true t s changes = inr changes
changes_follow ds false t s same = inl same

pub changes_followed : (ds : List Dependency) (t m s : Tableau) → Changes ds true t m → Follows ds m s → Changes ds true t s
changes_followed ds t m s one other = ⊎_elim
    (λ same. subst (λ (u : Tableau). Changes ds true t u) (sym same) one)
    (λ more. changes_join ds true t m s one more)
    other.changes

pub follows_more : (ds : List Dependency) (t m s : Tableau) → Follows ds t m → Follows ds m s → Follows ds t s
follows_more ds t m s one other = record {
  changes = ⊎_elim
      (λ same. subst (λ (u : Tableau). (s ≡ u) ⊎ Changes ds true u s) same other.changes)
      (λ more. inr (changes_followed ds t m s more other))
      one.changes;
  keeps = KeepsRows-trans t m s one.keeps other.keeps;
}

pub follows_by : (ds : List Dependency) (k : ℕ) (d : Dependency) (t m s : Tableau) → k < length ds → Follows ds t m → FollowsBy (get_or ds k d) m s → Follows ds t s
follows_by ds k d t m s low before by = follows_more ds t m s before (by ds (Contains-get_or ds k d low))

pub changes_kept : (ds : List Dependency) (t m s : Tableau) → KeepsRows t m → Follows ds m s → KeepsRows t s
changes_kept ds t m s one other = KeepsRows-trans t m s one other.keeps

-- ---- steps that follow by one dependency
pub follows_by_none : (d : Dependency) (t : Tableau) → FollowsBy d t t
follows_by_none d t ds given = follows_none ds t

pub follows_by_more : (d : Dependency) (t m s : Tableau) → FollowsBy d t m → FollowsBy d m s → FollowsBy d t s
follows_by_more d t m s one other ds given = follows_more ds t m s (one ds given) (other ds given)

pub follows_by_keeps : (d : Dependency) (t s : Tableau) → FollowsBy d t s → KeepsRows t s
follows_by_keeps d t s by = (by (d ∷ []) (Contains-head d [])).keeps

pub equated_follows : (x y : Attributes) (first second : ℕ) (t s : Tableau) (changed : Bool) → SymbolsAgree x (symbol_row_at t first) (symbol_row_at t second) → AreEquated y first second t s changed → FollowsBy (fd x y) t s
equated_follows x y first second t s changed agree equated ds given = record {
  changes = changes_follow ds changed t s (equated.changes ds x given agree);
  keeps = equated.keeps;
}
