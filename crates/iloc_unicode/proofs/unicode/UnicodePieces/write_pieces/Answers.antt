use Rattle.std.proofs.Common.{List, sym, ◌∙◌, subst}
use Rattle.iloc_writeable.specs.Pieces.{hyphened}
use Rattle.iloc_writeable.specs.Writing.{Writes}
use Rattle.iloc_unicode.specs.UnicodeValue.{value_of}
use Rattle.iloc_unicode.proofs.PrintLemmas.{unicode_none, unicode_some}
use Rattle.iloc_unicode.proofs.unicode.UnicodePieces.write_pieces.Goals as goal
use Rattle.iloc_spec_grammar.specs.Syntax.{Text}

pub returns-then-is_empty : goal.returns-then-is_empty
returns-then-is_empty g c = subst (λ (t : Text). g.S.Sink.took c.args.sink.now t c.args.sink.now)
    (unicode_none c.args.first (value_of c.args.self.now) (sym c.is_empty.ensures ∙ c.if-is_empty.true))
    (g.met.S.Sink.took_nothing _)

pub returns : goal.returns
returns g c = subst (λ (ps : List Text). Writes g.S.Sink.took g.S.Sink.failed c.args.sink.now
    (hyphened c.args.first ps) c.write_pieces.new.sink c.write_pieces.result)
    (unicode_some (value_of c.args.self.now) (sym c.is_empty.ensures ∙ c.if-is_empty.false))
    c.write_pieces.ensures
