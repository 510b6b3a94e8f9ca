-- A dependency is followed by what comes next on its line.
use Rattle.std.proofs.Common.{◌≡◌, ℕ, List, Ok, Err, length, refl}
use Rattle.lexer.specs.Tokens.{Mark}
use Rattle.schema_grammar.specs.declared.format.Format.{Format}
use Rattle.schema_grammar.specs.declared.refusal.SchemaRefusal.{SchemaRefusal}
use Rattle.schema_grammar.specs.declared.refusal.SchemaRefusalKind.{SchemaRefusalKind}
use Rattle.schema_grammar.specs.Grammar.{Reached, finish_dependency}
use Rattle.schema_grammar.specs.Reading.{step, follow, follow_rest}
use Rattle.schema_grammar.specs.Refusals.{refusal, at, expect}
use Rattle.schema_grammar.specs.Rests.{Rest}
use Rattle.tokens.specs.Views.{HasEnded, IsStopped, IsLed}

pub follow_ended : (f : Format) (names : List (List ℕ)) (reading : Reached) (r : Rest) → HasEnded r
    → follow_rest f names reading r ≡ at r.line r.next_column 0 (expect (finish_dependency reading))
unfolding follow
follow_ended f names reading r ended = rw (ended.marks, ended.stop) refl

pub follow_stopped : (f : Format) (names : List (List ℕ)) (reading : Reached) (r : Rest) (e : SchemaRefusal) → IsStopped r e
    → follow_rest f names reading r ≡ Err e
unfolding follow
follow_stopped f names reading r e stopped = rw (stopped.marks, stopped.stop, stopped.refusal) refl

pub follow_refused : (f : Format) (names : List (List ℕ)) (reading : Reached) (r : Rest) (m : Mark) (after : Rest) (why : SchemaRefusalKind)
    → IsLed r m after → step f names reading m.kind m.word ≡ Err why
    → follow_rest f names reading r ≡ Err (refusal r.line m.column m.length why)
unfolding follow
follow_refused f names reading r m after why led refused = rw (led.marks, refused) refl

pub follow_more : (f : Format) (names : List (List ℕ)) (reading : Reached) (r : Rest) (m : Mark) (after : Rest) (next : Reached)
    → IsLed r m after → step f names reading m.kind m.word ≡ Ok next
    → follow_rest f names reading r ≡ follow_rest f names next after
unfolding follow
follow_more f names reading r m after next led taken = rw (led.marks, taken, led.stop, led.line, led.column) refl
