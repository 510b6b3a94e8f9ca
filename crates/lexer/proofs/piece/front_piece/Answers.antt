-- What is left to prove of `front_piece`: what `split_at` and `run_piece` require, by `run_passes`.
use Rattle.std.proofs.Common.{◌∙◌, ap, take, arith}
use Rattle.std.proofs.lemmas.List.Sums.{prefix_len-le-length}
use Rattle.std.specs.List.{list_all}
use Rattle.schema_model.specs.Names.{is_name_byte}
use Rattle.lexer.proofs.Runs.{run_passes}
use Rattle.lexer.proofs.piece.front_piece.Goals as goal

pub split_at-requires : goal.split_at-requires
split_at-requires c = let within = prefix_len-le-length is_name_byte c.args.text.now in omega (arith, c.run_length.ensures.length)

pub run_piece-requires : goal.run_piece-requires
run_piece-requires c =
    let text = c.args.text.now in
    let same = c.split_at.ensures.front ∙ ap (λ n. take n text) c.run_length.ensures.length in
    record { run = ap (list_all is_name_byte) same ∙ run_passes is_name_byte text }
