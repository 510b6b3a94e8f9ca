-- The word that names a user's table is in a script the name of a table.
use Rattle.std.proofs.Common.{◌≡◌, ℕ, List, [], ◌∷◌, ◌++◌, map, refl, sym, ap}
use Rattle.std.specs.Prelude.{codes, unwrap_or}
use Rattle.std.specs.List.{join_by}
use Rattle.std.proofs.lemmas.List.Folds.{flat_map-map}
use Rattle.schema_model.specs.Names.{quoted}
use Rattle.table_words.specs.Parts.{Part, table_parts}
use Rattle.script_texts.specs.Queries.{IsTableName}
use Rattle.sql_scripts.specs.Naming.{dotted_name, quoted_table}

dotted_is : (parts : List Part)
    → dotted_name parts ≡ join_by quoted (codes ".") (map (λ (part : Part). part.name) parts)
dotted_is [] = refl
dotted_is (part ∷ parts) =
    ap (λ (t : List ℕ). quoted part.name ++ t)
    (sym (flat_map-map (λ name. codes "." ++ quoted name) (λ (p : Part). p.name) parts))

pub table_of_word : (word : List ℕ) → IsTableName (quoted_table word)
unfolding quoted_table
table_of_word word =
    (map (λ (part : Part). part.name) (unwrap_or (table_parts word) []), dotted_is (unwrap_or (table_parts word) []))
