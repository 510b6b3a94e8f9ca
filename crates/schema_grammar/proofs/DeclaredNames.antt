-- The names that a schema text declares are names.
use Rattle.std.proofs.Common.{◌≡◌, ℕ, List, refl, sym, ◌∙◌}
use Rattle.std.specs.List.{All}
use Rattle.schema_model.specs.declared.naming.Naming.{Naming}
use Rattle.schema_model.specs.declared.naming.Naming.TheVariants.{Bare, Any}
use Rattle.lexer.specs.Lines.{line_texts, without_mark}
use Rattle.schema_grammar.specs.declared.format.Format.TheVariants as format
use Rattle.schema_grammar.specs.Declarations.{Declarations}
use Rattle.schema_grammar.specs.Printed.{AreDeclaredNames, IsReadBack}
use Rattle.schema_grammar.specs.Schemas.{MeansSchema}
use Rattle.schema_grammar.specs.Texts.{read_text}
use Rattle.schema_grammar.proofs.RefusalLemmas.{ok_at}
use Rattle.schema_grammar.proofs.SchemaLaws.{schema-law}
use Rattle.schema_grammar.proofs.SoundLemmas.{IsWhole, opening_is_whole, whole_not_reserved}

-- what a schema text declares are names, which differ; no bare one is reserved
pub declared_are_names : (text : List ℕ) (d : Declarations) → MeansSchema text d → AreDeclaredNames d.naming d.names
unfolding read_text
declared_are_names text d means =
    let whole = ok_at IsWhole _ d ((schema-law text d).1 means)
    (opening_is_whole 1 (line_texts (without_mark text))) in
    record {
      each = whole.sound.are_names;
      differ = whole.sound.names_differ;
      bare = λ is. record {
        each = (whole.sound.bare (sym whole.sound.naming ∙ is)).proper;
        not_reserved = whole_not_reserved d whole is;
        differ = whole.sound.names_differ;
      };
    }

-- so they are read again where they are printed
pub declared_read_back : (text : List ℕ) (d : Declarations) → MeansSchema text d
    → All (IsReadBack format.Plain d.naming) d.names
declared_read_back text d means =
    by_naming d.naming refl
  where
    are : AreDeclaredNames d.naming d.names
    are = declared_are_names text d means

    by_naming : (naming : Naming) → d.naming ≡ naming → All (IsReadBack format.Plain naming) d.names
    by_naming Bare is = λ k e h. ((are.bare is).each k e h, (are.bare is).not_reserved k e h)
    by_naming Any is = are.each
