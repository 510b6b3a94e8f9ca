-- The query of each dependency decides whether a relation obeys it.
use Rattle.std.proofs.Common.{◌≡◌, ℕ, Bool, false, ◌||◌, List, [], ◌∷◌, length, get_or, map, Some, None, Option, refl, sym, ap, subst, ◌∙◌, inl, inr, ⊎_elim, arith}
use Rattle.std.proofs.lemmas.Bool.{cases_Bool, true≢false}
use Rattle.std.proofs.lemmas.List.{length-map}
use Rattle.std.proofs.lemmas.List.Elements.{All-contains, Contains-get_or}
use Rattle.std.specs.List.{zip}
use Rattle.std.specs.Prelude.{◌↔◌, All, Contains, MatchOption, if◌then◌else◌, codes}
use Rattle.attr_sets.specs.Attributes.{Attributes, below, union, difference, IsSubset}
use Rattle.attr_sets.specs.Sets.{is_subset}
use Rattle.schema_model.specs.Schemas.{Schema}
use Rattle.dep_model.specs.Deps.{dependency_of}
use Rattle.dep_model.specs.Dependencies.{Dependency, fd, mvd, IsWithin, Obeys}
use Rattle.dep_model.specs.Projections.{members_below}
use Rattle.schema_model.specs.Schemas.{width_of, universe_of, lines_of, theory_of, deps_of, LegalFor}
use Rattle.dep_model.specs.Tuples.{Relation, IsOver}
use Rattle.dep_model.proofs.DepLemmas.{dependencies_all-from}
use Rattle.dep_model.proofs.ListLemmas.{Contains-head, Contains-later, Contains-cases}
use Rattle.sql_syntax.specs.Names.{is_not_empty}
use Rattle.sql_syntax.specs.Syntax.{Query}
use Rattle.relation_queries.specs.Queries.{several, unpaired}
use Rattle.relation_queries.specs.Meanings.{GivesNone}
use Rattle.relation_queries.proofs.BreachLemmas.{breaches_tell}
use Rattle.sql_check.specs.Columns.{column_at, group_at}
use Rattle.sql_check.specs.Checks.{has_members, several_query, unpaired_query, rules_of, check_query}
use Rattle.sql_evaluation.specs.Evaluation.{Rows, Engine}
use Rattle.sql_check_laws.specs.HeldRelations.{Holds}
use Rattle.sql_check_laws.specs.CheckedRules.{GivesNoRowWhere, Tells, ShowsNothing, TellsDependency, TellsDependencies, NoBreachShown}
use Rattle.sql_check_laws.proofs.GroupLemmas.{Cells}
use Rattle.sql_check_laws.proofs.SeveralLemmas.{shows_none, after_line, several-known, several-none}
use Rattle.sql_check_laws.proofs.UnpairedLemmas.{unpaired-known, unpaired-none}
use Rattle.sql_check_laws.proofs.AloneLemmas.{none_if_false, count_several-known, count_several-none, count_unpaired-known, count_unpaired-none}

-- ---- sets with and without members
not_empty-map : {X Y : Type 0} (f : X → Y) (xs : List X) → is_not_empty (map f xs) ≡ is_not_empty xs
not_empty-map f [] = refl
not_empty-map f (x ∷ xs) = refl

pub nil_not_empty : {X : Type 0} (xs : List X) → is_not_empty xs ≡ false → xs ≡ []
nil_not_empty [] e = refl
nil_not_empty (x ∷ xs) e = absurd (true≢false e)

both_ways : {A B C : Type 0} → A ↔ B → B ↔ C → A ↔ C
both_ways first second = (λ a. second.0 (first.0 a), λ c. first.1 (second.1 c))

none_mapped : {X Y : Type 0} (f : X → Y) (xs : List X) → (map f xs ≡ []) ↔ (xs ≡ [])
none_mapped f [] = (λ e. refl, λ e. refl)
none_mapped f (x ∷ xs) = (
  λ e. absurd (shows_none (f x ∷ map f xs) (f x) e (Contains-head (f x) (map f xs))),
  λ e. absurd (shows_none (x ∷ xs) x e (Contains-head x xs)),
)

-- ---- terms
several-decides : (e : Engine) (table : List ℕ) (s : Schema) (cell : Cells) (r : Relation) (line : ℕ) (x w : Attributes) → Holds e table s cell r → IsOver (width_of s) r
    → IsSubset x w → IsSubset w (universe_of s) → GivesNoRowWhere e (several_query s table line x w) (GivesNone (width_of s) (several x w) r)
several-decides e table s cell r line x w held over within low = elim (cases_Bool (has_members s x)) [
  | inl some ↦
      let known = several-known e table s cell r line x w held within (not_empty-map (column_at s (codes "d")) (members_below (width_of s) x) ∙ some) in
      rw some (record {
        result = _;
        evaluates = known;
        exact = both_ways (none_mapped (after_line line) _) (several-none e table s cell r x w held over within low);
      })
  | inr none ↦
      let empty = nil_not_empty (members_below (width_of s) x) none in
      rw none (record { result = _; evaluates = count_several-known e table s cell r line w held; exact = count_several-none e table s cell r line x w held over empty within low })
]

unpaired-decides : (e : Engine) (table : List ℕ) (s : Schema) (cell : Cells) (r : Relation) (line : ℕ) (x y z : Attributes) → Holds e table s cell r → IsOver (width_of s) r
    → IsSubset (union x (union y z)) (universe_of s) → GivesNoRowWhere e (unpaired_query s table line x y z) (GivesNone (width_of s) (unpaired x y z) r)
unpaired-decides e table s cell r line x y z held over low = elim (cases_Bool (has_members s x)) [
  | inl some ↦
      let known = unpaired-known e table s cell r line x y z held (not_empty-map (column_at s (codes "d")) (members_below (width_of s) x) ∙ some)
      (not_empty-map (group_at x) (members_below (width_of s) x) ∙ some) in
      rw some (record {
        result = _;
        evaluates = known;
        exact = both_ways (none_mapped (after_line line) _) (unpaired-none e table s cell r x y z held over low);
      })
  | inr none ↦
      let empty = nil_not_empty (members_below (width_of s) x) none in
      rw none (record {
        result = _;
        evaluates = count_unpaired-known e table s cell r line x y z held empty;
        exact = both_ways (none_if_false line _ _) (count_unpaired-none e table s cell r x y z held over empty low);
      })
]

-- ---- lists of pairs
zip_member : (ls : List ℕ) (ds : List Dependency) (p : ℕ × Dependency) → Contains (zip ls ds) p → Contains ds p.1
zip_member [] ds p h = absurd (omega (arith, h.1))
zip_member (l ∷ ls) [] p h = absurd (omega (arith, h.1))
zip_member (l ∷ ls) (d ∷ ds) p h = ⊎_elim
    (λ (first : p ≡ (l, d)). subst (λ (q : ℕ × Dependency). Contains (d ∷ ds) q.1) (sym first) (Contains-head d ds))
    (λ later. Contains-later d ds p.1 (zip_member ls ds p later))
    (Contains-cases (l, d) (zip ls ds) p h)

member_zip : (ls : List ℕ) (ds : List Dependency) (d : Dependency) → length ds ≡ length ls → Contains ds d → (l : ℕ) × Contains (zip ls ds) (l, d)
member_zip ls [] d long h = absurd (omega (arith, h.1))
member_zip [] (first ∷ ds) d long h = absurd (omega (arith, long))
member_zip (l ∷ ls) (first ∷ ds) d long h = ⊎_elim
    (λ (same : d ≡ first). (l, subst (λ (c : Dependency). Contains ((l, first) ∷ zip ls ds) (l, c)) (sym same) (Contains-head (l, first) (zip ls ds))))
    (λ later. let rest = member_zip ls ds d (omega (arith, long)) later in
    (rest.0, Contains-later (l, first) (zip ls ds) (rest.0, d) rest.1))
    (Contains-cases first ds d h)

-- ---- dependencies
where_stated : {A B : Type 0} (e : Engine) (q : Query) → GivesNoRowWhere e q A → A ↔ B → GivesNoRowWhere e q B
where_stated e q decides same = record { result = decides.result; evaluates = decides.evaluates; exact = both_ways decides.exact same }

pub dependency_told : (e : Engine) (table : List ℕ) (s : Schema) (cell : Cells) (r : Relation) (line : ℕ) (d : Dependency) → Holds e table s cell r → IsOver (width_of s) r
    → IsWithin (below (width_of s)) d → TellsDependency e s table r line d
dependency_told e table s cell r line (fd x y) held over inside =
    let n = width_of s in
    let law = breaches_tell n (fd x y) r s.valid.names_within_limit inside over in
    let stated = λ (b : Bool). MatchOption (if b then None else Some (several x (union x y))) (Obeys n (fd x y) r) (λ q. GivesNone n q r ↔ Obeys n (fd x y) r) in
    elim (cases_Bool (is_subset y x)) [
      | inl within ↦ rw within (subst stated within law)
      | inr beyond ↦ rw beyond (where_stated e (several_query s table line x (union x y))
          (several-decides e table s cell r line x (union x y) held over (λ (k : ℕ) m. grind (arith, m)) (λ (k : ℕ) m. let in_x = inside.0 k in let in_y = inside.1 k in grind (arith, m, in_x, in_y)))
          (subst stated beyond law))
    ]
dependency_told e table s cell r line (mvd x y) held over inside =
    let n = width_of s in
    let law = breaches_tell n (mvd x y) r s.valid.names_within_limit inside over in
    let rest = difference (below n) (union x y) in
    let stated = λ (b : Bool). MatchOption (if b then None else Some (unpaired x (difference y x) rest)) (Obeys n (mvd x y) r) (λ q. GivesNone n q r ↔ Obeys n (mvd x y) r) in
    elim (cases_Bool (is_subset y x || is_subset (below n) (union x y))) [
      | inl always ↦ rw always (subst stated always law)
      | inr sometimes ↦ rw sometimes (where_stated e (unpaired_query s table line x (difference y x) rest)
          (unpaired-decides e table s cell r line x (difference y x) rest held over (λ (k : ℕ) m. let in_x = inside.0 k in let in_y = inside.1 k in grind (arith, m, in_x, in_y)))
          (subst stated sometimes law))
    ]

pub dependencies_told : (e : Engine) (table : List ℕ) (s : Schema) (cell : Cells) (r : Relation) → Holds e table s cell r → IsOver (width_of s) r
    → TellsDependencies e s table r
dependencies_told e table s cell r held over i rule lt =
    let within : All (IsWithin (below (width_of s))) (theory_of s) = dependencies_all-from (IsWithin (below (width_of s))) (deps_of s) s.valid.deps_within in
    let at = get_or (rules_of s) i rule in
    dependency_told e table s cell r at.0 at.1 held over
    (All-contains (IsWithin (below (width_of s))) (theory_of s) at.1 within (zip_member (lines_of s) (theory_of s) at (Contains-get_or (rules_of s) i rule lt)))

-- ---- legal relations
rows_or : Option Rows → Rows → Rows
rows_or None other = other
rows_or (Some rows) other = rows

cons_same : {a b : Rows} → Some a ≡ Some b → a ≡ b
unfolding rows_or
cons_same {a} {b} e = ap (λ (o : Option Rows). rows_or o a) e

pub shown_none : (e : Engine) (found : Option Query) (P : Type 0) → Tells e found P → P → ShowsNothing e found
shown_none e None P decides holds = tt
shown_none e (Some q) P decides holds = (decides.result, decides.evaluates, decides.exact.1 holds)

pub none_shown : (e : Engine) (found : Option Query) (P : Type 0) → Tells e found P → ShowsNothing e found → P
none_shown e None P decides none = decides
none_shown e (Some q) P decides none =
    let same = cons_same (sym decides.evaluates ∙ none.1) in
    decides.exact.0 (ap (λ (result : Rows). result.rows) same ∙ none.2)

pub legal_told : (e : Engine) (table : List ℕ) (s : Schema) (cell : Cells) (r : Relation) → Holds e table s cell r → IsOver (width_of s) r
    → LegalFor s r ↔ NoBreachShown e s table
legal_told e table s cell r held over = (
  λ legal i rule lt.
      let at = get_or (rules_of s) i rule in
      let obeys = All-contains (λ (d : Dependency). Obeys (width_of s) d r) (theory_of s) at.1 legal.obeys
      (zip_member (lines_of s) (theory_of s) at (Contains-get_or (rules_of s) i rule lt)) in
      shown_none e (check_query s table at.0 at.1) (Obeys (width_of s) at.1 r) (dependencies_told e table s cell r held over i rule lt) obeys,
  λ none. record {
    over = over;
    obeys = λ i d lt.
        let d' = get_or (theory_of s) i d in
        let rule = member_zip (lines_of s) (theory_of s) d' (length-map (deps_of s) dependency_of ∙ sym s.valid.one_line_each) (Contains-get_or (theory_of s) i d lt) in
        none_shown e (check_query s table rule.0 d') (Obeys (width_of s) d' r)
        (All-contains (λ (p : ℕ × Dependency). TellsDependency e s table r p.0 p.1) (rules_of s) (rule.0, d') (dependencies_told e table s cell r held over) rule.1)
        (All-contains (λ (p : ℕ × Dependency). ShowsNothing e (check_query s table p.0 p.1)) (rules_of s) (rule.0, d') none rule.1);
  },
)
