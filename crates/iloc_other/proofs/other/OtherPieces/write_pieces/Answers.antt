use Rattle.std.proofs.Common.{List, sym, ◌∙◌, subst}
use Rattle.iloc_writeable.specs.Pieces.{hyphened}
use Rattle.iloc_writeable.specs.Writing.{Writes}
use Rattle.iloc_other.proofs.PrintLemmas.{other_none, other_some}
use Rattle.iloc_other.proofs.other.OtherPieces.write_pieces.Goals as goal
use Rattle.iloc_spec_grammar.specs.Syntax.{Text}

pub returns-then-is_empty : goal.returns-then-is_empty
returns-then-is_empty g c = subst (λ (t : Text). g.S.Sink.took c.args.sink.now t c.args.sink.now)
    (other_none c.args.first c.args.self.now c.as_slice-keys.result.now c.as_slice-keys.ensures.words
    (sym c.is_empty.ensures ∙ c.if-is_empty.true)) (g.met.S.Sink.took_nothing _)

pub returns : goal.returns
returns g c = subst (λ (ps : List Text). Writes g.S.Sink.took g.S.Sink.failed c.args.sink.now
    (hyphened c.args.first ps) c.write_pieces.new.sink c.write_pieces.result)
    (other_some c.args.self.now c.get_ext_str-ext.result.now c.as_slice-keys.result.now
    c.get_ext_str-ext.ensures c.as_slice-keys.ensures.words (sym c.is_empty.ensures ∙ c.if-is_empty.false))
    c.write_pieces.ensures
