-- What stands after a rule: its query, or that it holds always.
use Rattle.std.proofs.Common.{◌≡◌, ℕ, Bool, true, false, ◌||◌, Some, None, List, ◌++◌, sym, ap, ◌∙◌}
use Rattle.std.specs.Prelude.{if◌then◌else◌, codes, option_and_then}
use Rattle.attr_sets.specs.Attributes.{Attributes, below, union, difference}
use Rattle.attr_sets.specs.Sets.{is_subset}
use Rattle.schema_model.specs.Schemas.{Schema}
use Rattle.dep_model.specs.Dependencies.{fd, mvd}
use Rattle.schema_model.specs.Schemas.{width_of}
use Rattle.sql_syntax.specs.Printing.{query_text}
use Rattle.relation_queries.specs.Queries.{several, unpaired}
use Rattle.relation_queries.specs.Queries as terms
use Rattle.sql_check.specs.Checks.{several_query, unpaired_query, query_of, check_query}
use Rattle.sql_scripts.specs.Checking.{breaches_text, check_line}

-- ---- rules
pub fd_rule : (s : Schema) (t : List ℕ) (line : ℕ) (x y both : Attributes) → is_subset y x ≡ false → both ≡ union x y
    → codes "\n" ++ (query_text (several_query s t line x both) ++ codes ";\n") ≡ breaches_text (check_query s t line (fd x y))
unfolding check_line
fd_rule s t line x y both beyond same =
    ap (λ (z : Attributes). breaches_text (query_of s t line (several x z))) same
    ∙ sym (ap (λ (b : Bool). breaches_text (option_and_then (query_of s t line) (if b then None else Some (several x (union x y))))) beyond)

-- the term of what breaks a multivalued dependency
abbrev pub mvd_term : ℕ → Attributes → Attributes → terms.TableQuery
mvd_term n x y = unpaired x (difference y x) (difference (below n) (union x y))

pub mvd_rule : (s : Schema) (t : List ℕ) (line : ℕ) (x y universe both right rest : Attributes) → universe ≡ below (width_of s) → both ≡ union x y
    → right ≡ difference y x → rest ≡ difference universe both → is_subset y x ≡ false → is_subset universe both ≡ false
    → codes "\n" ++ (query_text (unpaired_query s t line x right rest) ++ codes ";\n") ≡ breaches_text (check_query s t line (mvd x y))
unfolding check_line
mvd_rule s t line x y universe both right rest is_universe is_both is_right is_rest beyond not_empty =
    let n = width_of s in
    let to_rest : rest ≡ difference (below n) (union x y) =
    is_rest ∙ ap (λ (z : Attributes). difference z both) is_universe ∙ ap (λ (z : Attributes). difference (below n) z) is_both in
    let not_all : is_subset (below n) (union x y) ≡ false =
    ap (λ (z : Attributes). is_subset (below n) z) (sym is_both) ∙ ap (λ (z : Attributes). is_subset z both) (sym is_universe) ∙ not_empty in
    ap (λ (z : Attributes). breaches_text (query_of s t line (unpaired x z rest))) is_right
    ∙ ap (λ (z : Attributes). breaches_text (query_of s t line (unpaired x (difference y x) z))) to_rest
    ∙ sym (ap (λ (b : Bool). breaches_text (option_and_then (query_of s t line) (if b || is_subset (below n) (union x y) then None else Some (mvd_term n x y)))) beyond
    ∙ ap (λ (b : Bool). breaches_text (option_and_then (query_of s t line) (if b then None else Some (mvd_term n x y)))) not_all)

-- what every relation obeys has no query
pub always_fd : (s : Schema) (t : List ℕ) (line : ℕ) (x y : Attributes) → is_subset y x ≡ true → codes " holds always\n" ≡ breaches_text (check_query s t line (fd x y))
always_fd s t line x y within =
    sym (ap (λ (b : Bool). breaches_text (option_and_then (query_of s t line) (if b then None else Some (several x (union x y))))) within)

pub always_mvd : (s : Schema) (t : List ℕ) (line : ℕ) (x y : Attributes) → is_subset y x ≡ true → codes " holds always\n" ≡ breaches_text (check_query s t line (mvd x y))
always_mvd s t line x y within =
    let n = width_of s in
    sym (ap (λ (b : Bool). breaches_text (option_and_then (query_of s t line) (if b || is_subset (below n) (union x y) then None else Some (mvd_term n x y)))) within)

pub always_all : (s : Schema) (t : List ℕ) (line : ℕ) (x y universe both : Attributes) → universe ≡ below (width_of s) → both ≡ union x y
    → is_subset y x ≡ false → is_subset universe both ≡ true → codes " holds always\n" ≡ breaches_text (check_query s t line (mvd x y))
always_all s t line x y universe both is_universe is_both beyond whole =
    let n = width_of s in
    let all : is_subset (below n) (union x y) ≡ true =
    ap (λ (z : Attributes). is_subset (below n) z) (sym is_both) ∙ ap (λ (z : Attributes). is_subset z both) (sym is_universe) ∙ whole in
    sym (ap (λ (b : Bool). breaches_text (option_and_then (query_of s t line) (if b || is_subset (below n) (union x y) then None else Some (mvd_term n x y)))) beyond
    ∙ ap (λ (b : Bool). breaches_text (option_and_then (query_of s t line) (if b then None else Some (mvd_term n x y)))) all)
