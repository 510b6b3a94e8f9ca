-- Keys of the code and keys by their columns.
use Rattle.std.proofs.Common.{◌≡◌, ◌&&◌, ◌||◌, ℕ, Bool, false, not, List, [], ◌∷◌, refl, sym, ap, ◌∙◌}
use Rattle.std.specs.Prelude.{map}
use Rattle.std.specs.List.{list_any}
use Rattle.attr_sets.specs.Attributes.{Attributes, below}
use Rattle.attr_sets.specs.Sets.{attributes, is_subset}
use Rattle.sql_schemas.specs.declared.keys.TableKey.{TableKey}
use Rattle.sql_schemas.specs.KeyValues.{key_columns}
use Rattle.sql_schemas.specs.Keys.{is_new, is_primary, says_so}
use Rattle.sql_schemas.specs.Texts.{is_bound}

any_mapped : {A B : Type 0} (f : A → B) (P : B → Bool) (xs : List A) → list_any P (map f xs) ≡ list_any (λ x. P (f x)) xs
any_mapped f P [] = refl
any_mapped f P (x ∷ xs) = ap (λ (b : Bool). P (f x) || b) (any_mapped f P xs)

pub bound_mapped : (keys : List TableKey) (k : ℕ)
    → is_bound (map key_columns keys) k ≡ list_any (λ key. is_primary key.kind && attributes key.columns k) keys
bound_mapped keys k = any_mapped key_columns (λ key. is_primary key.kind && key.columns k) keys

pub new_from : (n : ℕ) (missing : Attributes) (keys : List TableKey) (key : TableKey) (said : Bool)
    → false ≡ is_subset (below n) (attributes key.columns)
    → said ≡ list_any (λ other. says_so missing (key_columns key) (key_columns other)) keys
    → not said ≡ is_new n missing (map key_columns keys) (key_columns key)
new_from n missing keys key said outside same =
    ap not (same ∙ sym (any_mapped key_columns (says_so missing (key_columns key)) keys)) ∙ (rw (← outside) refl)
