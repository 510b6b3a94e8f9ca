-- A run of the script is all of its work or nothing.
use Rattle.std.proofs.Common.{◌≡◌, ℕ, ◌⊎◌, Bool, true, false, not, ◌&&◌, ◌||◌, List, [], ◌∷◌, ◌++◌, map, Some, None, Option, refl, sym, ap, ◌∙◌, inl, inr, ⊎_elim}
use Rattle.std.proofs.lemmas.Bool.{true≢false}
use Rattle.std.specs.Prelude.{if◌then◌else◌, option_and_then, codes}
use Rattle.schema_model.specs.Schemas.{Schema}
use Rattle.ddl_text.specs.declared.table.TableDesign.{TableDesign}
use Rattle.sql_syntax.specs.Statements.{Statement, remark, begin, commit}
use Rattle.sql_evaluation.specs.Running.{State, Cast, Fails, Outcome, ended, stopped, tried, is_begin, is_commit, unless_error, run, outcome}
use Rattle.ddl_text.specs.Ddl.{said_of, remarks_made, table_made, tables_made}
use Rattle.sql_migrate.specs.Script.{fill, work, migration}

-- ---- statements one after the other
abbrev pub steps : Fails → Cast → List Statement → State → Option State
steps fails cast [] state = Some state
steps fails cast (x ∷ xs) state = option_and_then (steps fails cast xs) (tried fails cast x state)

abbrev pub NoCommit : List Statement → Type 0
NoCommit [] = Unit {0}
NoCommit (x ∷ xs) = (is_commit x ≡ false) × NoCommit xs

or_true : (b : Bool) → (b || true) ≡ true
or_true true = refl
or_true false = refl

same_after : (kept : State) (go other : State → Outcome) (found : Option State) → ((n : State) → go n ≡ other n)
    → unless_error kept go found ≡ unless_error kept other found
same_after kept go other None same = refl
same_after kept go other (Some n) same = same n

nested : (kept : State) (go : State → Outcome) (f : State → Option State) (found : Option State)
    → unless_error kept (λ n. unless_error kept go (f n)) found ≡ unless_error kept go (option_and_then f found)
nested kept go f None = refl
nested kept go f (Some n) = refl

-- the end of a transaction
abbrev pub closed : Fails → Cast → State → State → Outcome
closed fails cast kept last = unless_error kept (λ n. ended n) (tried fails cast commit last)

pub run_steps : (fails : Fails) (cast : Cast) (xs : List Statement) (kept state : State) → NoCommit xs
    → run fails cast (xs ++ commit ∷ []) true kept state ≡ unless_error kept (closed fails cast kept) (steps fails cast xs state)
run_steps fails cast [] kept state plain = refl
run_steps fails cast (x ∷ xs) kept state plain =
    same_after kept
    (λ n. run fails cast (xs ++ commit ∷ []) (is_begin x || (true && not (is_commit x))) (if true && not (is_commit x) then kept else n) n)
    (λ n. unless_error kept (closed fails cast kept) (steps fails cast xs n)) (tried fails cast x state)
    (λ n. ap (λ (c : Bool). run fails cast (xs ++ commit ∷ []) (is_begin x || (true && not c)) (if true && not c then kept else n) n) plain.0
    ∙ ap (λ (b : Bool). run fails cast (xs ++ commit ∷ []) b kept n) (or_true (is_begin x))
    ∙ run_steps fails cast xs kept n plain.1)
    ∙ nested kept (closed fails cast kept) (steps fails cast xs) (tried fails cast x state)

-- ---- outcomes
has_ended : Outcome → Bool
has_ended (ended state) = true
has_ended (stopped state) = false

state_of : Outcome → State
state_of (ended state) = state
state_of (stopped state) = state

not_ended : (a b : State) → stopped a ≡ ended b → ⊥
unfolding has_ended
not_ended a b e = true≢false (sym (ap has_ended e))

not_stopped : (a b : State) → ended a ≡ stopped b → ⊥
unfolding has_ended
not_stopped a b e = true≢false (ap has_ended e)

same_ended : (a b : State) → ended a ≡ ended b → a ≡ b
unfolding state_of
same_ended a b e = ap state_of e

same_stopped : (a b : State) → stopped a ≡ stopped b → a ≡ b
unfolding state_of
same_stopped a b e = ap state_of e

-- the two statements before a transaction's work
before : (b : Bool) (test : State → Bool) (go : State → Outcome) (start last : State)
    → unless_error start (λ n. unless_error n go (if test n then None else Some n)) (if b then None else Some start) ≡ ended last
    → go start ≡ ended last
before true test go start last e = absurd (not_ended start last e)
before false test go start last e = second (test start) e
  where
    second : (c : Bool) → unless_error start go (if c then None else Some start) ≡ ended last → go start ≡ ended last
    second true e' = absurd (not_ended start last e')
    second false e' = e'

before_stopped : (b : Bool) (test : State → Bool) (go : State → Outcome) (start kept : State)
    → unless_error start (λ n. unless_error n go (if test n then None else Some n)) (if b then None else Some start) ≡ stopped kept
    → (kept ≡ start) ⊎ (go start ≡ stopped kept)
before_stopped true test go start kept e = inl (sym (same_stopped start kept e))
before_stopped false test go start kept e = second (test start) e
  where
    second : (c : Bool) → unless_error start go (if c then None else Some start) ≡ stopped kept → (kept ≡ start) ⊎ (go start ≡ stopped kept)
    second true e' = inl (sym (same_stopped start kept e'))
    second false e' = inr e'

closed_well : (fails : Fails) (cast : Cast) (start last : State) (found : Option State)
    → unless_error start (closed fails cast start) found ≡ ended last → found ≡ Some last
closed_well fails cast start last None e = absurd (not_ended start last e)
closed_well fails cast start last (Some l) e = ap (λ (n : State). Some n) (by_test (fails commit l) e)
  where
    by_test : (b : Bool) → unless_error start (λ n. ended n) (if b then None else Some l) ≡ ended last → l ≡ last
    by_test true e' = absurd (not_ended start last e')
    by_test false e' = same_ended l last e'

closed_stopped : (fails : Fails) (cast : Cast) (start kept : State) (found : Option State)
    → unless_error start (closed fails cast start) found ≡ stopped kept → kept ≡ start
closed_stopped fails cast start kept None e = sym (same_stopped start kept e)
closed_stopped fails cast start kept (Some l) e = by_test (fails commit l) e
  where
    by_test : (b : Bool) → unless_error start (λ n. ended n) (if b then None else Some l) ≡ stopped kept → kept ≡ start
    by_test true e' = sym (same_stopped start kept e')
    by_test false e' = absurd (not_stopped l kept e')

-- ---- the work has no commit
no_commit_after : (xs ys : List Statement) → NoCommit xs → NoCommit ys → NoCommit (xs ++ ys)
no_commit_after [] ys first second = second
no_commit_after (x ∷ xs) ys first second = (first.0, no_commit_after xs ys first.1 second)

no_commit_remarks : (words : List (List ℕ)) → NoCommit (map remark words)
no_commit_remarks [] = tt
no_commit_remarks (first ∷ words) = (refl, no_commit_remarks words)

no_commit_tables : (s : Schema) (tables made : List TableDesign) → NoCommit (tables_made s tables made)
no_commit_tables s tables [] = tt
no_commit_tables s tables (table ∷ made) =
    no_commit_after (table_made s tables table) (tables_made s tables made)
    (no_commit_after (remarks_made s table) _ (no_commit_remarks (said_of s table)) (refl, tt))
    (no_commit_tables s tables made)

no_commit_fills : (s : Schema) (tables : List TableDesign) → NoCommit (map (fill s) tables)
unfolding fill
no_commit_fills s [] = tt
no_commit_fills s (table ∷ tables) = (refl, no_commit_fills s tables)

pub no_commit_work : (s : Schema) (name : List ℕ) (tables : List TableDesign) → NoCommit (work s name tables)
no_commit_work s name tables = (
  refl,
  no_commit_after (tables_made s tables tables) _ (no_commit_tables s tables tables)
      (no_commit_after (map (fill s) tables) _ (no_commit_fills s tables) (refl, (refl, (refl, (refl, (refl, (refl, (refl, (refl, (refl, tt)))))))))),
)

-- ---- runs of the script
pub work_done : (fails : Fails) (cast : Cast) (s : Schema) (name : List ℕ) (tables : List TableDesign) (start last : State)
    → outcome fails cast (migration s name tables) start ≡ ended last → steps fails cast (work s name tables) start ≡ Some last
work_done fails cast s name tables start last e =
    let all = work s name tables in
    closed_well fails cast start last (steps fails cast all start)
    (sym (run_steps fails cast all start start (no_commit_work s name tables))
    ∙ before (fails (remark (codes "all of it or nothing, where the first error ends it: psql -v ON_ERROR_STOP=1, sqlite3 -bail")) start) (fails begin)
    (λ n. run fails cast (all ++ commit ∷ []) true n n) start last e)

pub nothing_kept : (fails : Fails) (cast : Cast) (s : Schema) (name : List ℕ) (tables : List TableDesign) (start kept : State)
    → outcome fails cast (migration s name tables) start ≡ stopped kept → kept ≡ start
nothing_kept fails cast s name tables start kept e =
    let all = work s name tables in
    ⊎_elim (λ same. same)
    (λ within. closed_stopped fails cast start kept (steps fails cast all start)
    (sym (run_steps fails cast all start start (no_commit_work s name tables)) ∙ within))
    (before_stopped (fails (remark (codes "all of it or nothing, where the first error ends it: psql -v ON_ERROR_STOP=1, sqlite3 -bail")) start) (fails begin)
    (λ n. run fails cast (all ++ commit ∷ []) true n n) start kept e)
