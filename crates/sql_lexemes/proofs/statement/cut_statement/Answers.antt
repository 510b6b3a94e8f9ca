-- What is left to prove of `cut_statement`: its clause `cut` and that a round of its loop keeps the invariant, by
-- `Scans`.
use Rattle.std.proofs.Common.{◌≡◌, ◌+◌, length, take, arith, ◌∙◌, sym, ap, refl}
use Rattle.std.proofs.lemmas.List.{length-drop}
use Rattle.sql_lexemes.proofs.Scans.{past_gap, at_flaw, past_lexeme, at_end_of_statement, at_end, depth_within}
use Rattle.sql_lexemes.specs.Statements.{Scan, lexeme_in, ends_statement}
use Rattle.sql_lexemes.proofs.statement.cut_statement.Goals as goal

pub pieces-preserved-in-Gap : goal.pieces-preserved-in-Gap
pieces-preserved-in-Gap c =
    let step = past_gap _ _ c.pieces.rest.now c.in-Gap.more c.in-len1-up.len_at_least c.in-Gap.ensures.exact in
    record {
      same = c.pieces.invariant.same ∙ step ∙ rw (c.before_after_gap-before.ensures.exact, c.split_at.ensures.back) refl;
      fits = omega (arith, c.pieces.invariant.fits, c.split_at.ensures.back_len);
      from_on = omega (arith, c.pieces.invariant.from_on);
      depth = omega (arith, c.pieces.invariant.depth);
    }

pub returns-in-Flaw : goal.returns-in-Flaw
returns-in-Flaw c = record {
  cut = record {
    first = c.pieces.invariant.same ∙ at_flaw _ _ c.pieces.rest.now _ c.in-len1-up.len_at_least c.in-Flaw.ensures.exact;
    fits = tt;
  };
}

pub returns-then-ends_statement : goal.returns-then-ends_statement
returns-then-ends_statement c =
    let s : Scan = record { before = c.pieces.before; place = c.pieces.place; end = c.pieces.end; depth = c.pieces.depth; lexemes = c.pieces.lexemes.items } in
    let lexeme_is : c.new-lexeme.result ≡ lexeme_in s c.in-Lexeme.kind (take (c.in-Lexeme.more + 1) c.pieces.rest.now) =
    rw (c.new-lexeme.ensures.lexeme, c.depth_around.ensures.exact, c.split_at-in-Lexeme.ensures.front) refl in
    let ends = ap ends_statement (sym lexeme_is) ∙ sym c.if-ends_statement.ensures.exact in
    let size = ap length c.rest_after-after.ensures.text ∙ length-drop _ c.split_at-in-Lexeme.result.1.now in
    let step = at_end_of_statement _ s c.pieces.rest.now _ c.in-Lexeme.more c.in-len1-up.len_at_least c.in-Lexeme.ensures.exact ends in
    record {
      cut = record {
        first = c.pieces.invariant.same ∙ step
            ∙ rw (c.rest_after-after.ensures.text, c.rest_after-after.ensures.before, c.rest_after-after.ensures.place, c.deref.ensures.value, c.split_at-in-Lexeme.ensures.back) refl;
        fits = (
          omega (arith, c.pieces.invariant.fits, c.split_at-in-Lexeme.ensures.back_len, size, c.rest_after-after.ensures.place, c.rest_after-after.ensures.fits),
          omega (arith, c.pieces.invariant.fits, c.pieces.invariant.from_on, c.split_at-in-Lexeme.ensures.back_len, size, c.rest_after-after.ensures.fits),
        );
      };
    }

pub pieces-preserved : goal.pieces-preserved
pieces-preserved c =
    let s : Scan = record { before = c.pieces.before; place = c.pieces.place; end = c.pieces.end; depth = c.pieces.depth; lexemes = c.pieces.lexemes.items } in
    let lexeme_is : c.new-lexeme.result ≡ lexeme_in s c.in-Lexeme.kind (take (c.in-Lexeme.more + 1) c.pieces.rest.now) =
    rw (c.new-lexeme.ensures.lexeme, c.depth_around.ensures.exact, c.split_at-in-Lexeme.ensures.front) refl in
    let other = ap ends_statement (sym lexeme_is) ∙ sym c.if-ends_statement.ensures.exact in
    let step = past_lexeme _ s c.pieces.rest.now _ c.in-Lexeme.more c.in-len1-up.len_at_least c.in-Lexeme.ensures.exact other in
    record {
      same = c.pieces.invariant.same ∙ step
          ∙ rw (c.before_next-before.ensures.exact, c.depth_after-depth.ensures.exact, c.in_ok-push-in-Lexeme.ensures.items, c.split_at-in-Lexeme.ensures.back, lexeme_is) refl;
      fits = omega (arith, c.pieces.invariant.fits, c.split_at-in-Lexeme.ensures.back_len);
      from_on = omega (arith, c.pieces.invariant.from_on);
      depth = rw (c.depth_after-depth.ensures.exact, lexeme_is) (depth_within s c.in-Lexeme.kind (take (c.in-Lexeme.more + 1) c.pieces.rest.now) c.in-Lexeme.more c.pieces.invariant.depth);
    }

pub returns : goal.returns
returns c = record {
  cut = record { first = c.pieces.invariant.same ∙ at_end _ _ c.pieces.rest.now (omega (arith, c.in_default.len_below)); fits = tt };
}
