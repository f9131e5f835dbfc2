use Rattle.std.proofs.Common.{List, sym, ◌∙◌, subst, true≢false}
use Rattle.iloc_writeable.specs.Pieces.{hyphened}
use Rattle.iloc_writeable.specs.Writing.{Writes}
use Rattle.iloc_other.proofs.PrintLemmas.{private_none, private_some}
use Rattle.iloc_other.proofs.private.PrivatePieces.write_pieces.Goals as goal
use Rattle.iloc_spec_grammar.specs.Syntax.{Text}

pub returns-then-is_empty : goal.returns-then-is_empty
returns-then-is_empty g c = subst (λ (t : Text). g.S.Sink.took c.args.sink.now t c.args.sink.now)
    (private_none c.args.first c.args.self.now (c.is_empty.ensures.0 c.if-is_empty.true))
    (g.met.S.Sink.took_nothing _)

pub returns : goal.returns
returns g c = subst (λ (ps : List Text). Writes g.S.Sink.took g.S.Sink.failed c.args.sink.now
    (hyphened c.args.first ps) c.write_pieces.new.sink c.write_pieces.result)
    (private_some c.args.self.now c.as_slice-words.result.now c.as_slice-words.ensures.words
    (λ e. true≢false (sym (c.is_empty.ensures.1 e) ∙ c.if-is_empty.false))) c.write_pieces.ensures
