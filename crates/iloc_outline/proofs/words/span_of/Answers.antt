use Rattle.std.proofs.Common.{arith}
use Rattle.iloc_pieces.proofs.CursorLemmas.{length_text}
use Rattle.iloc_outline.proofs.RoleLemmas.{short_kind}
use Rattle.iloc_outline.proofs.WordLemmas.{short_piece, word_fits}
use Rattle.iloc_outline.proofs.words.span_of.Goals as goal

pub word_number-requires : goal.word_number-requires
word_number-requires c = word_fits c.args.role _ c.requires.word

pub overflow_add-result : goal.overflow_add-result
overflow_add-result c = grind (arith, short_kind, short_piece, length_text)
