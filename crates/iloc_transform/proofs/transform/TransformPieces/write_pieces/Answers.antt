use Rattle.std.proofs.Common.{List, sym, ap, ◌∙◌, subst, option_map}
use Rattle.iloc_spec_grammar.specs.Syntax.{Text, optional_pieces}
use Rattle.iloc_spec_grammar.specs.Values.{lower_identifier}
use Rattle.iloc_langid.specs.Reads.{value_of}
use Rattle.iloc_writeable.specs.Pieces.{hyphened}
use Rattle.iloc_writeable.specs.Writing.{Writes}
use Rattle.iloc_transform.proofs.TextLemmas.{transform_none, transform_some}
use Rattle.iloc_transform.proofs.transform.TransformPieces.write_pieces.Goals as goal

pub returns-then-is_empty : goal.returns-then-is_empty
returns-then-is_empty g c = subst (λ (t : Text). g.S.Sink.took c.args.sink.now t c.args.sink.now)
    (transform_none c.args.self.now.lang c.args.self.now.fields c.args.first
    (sym c.is_empty.ensures ∙ c.if-is_empty.true)) (g.met.S.Sink.took_nothing _)

pub returns : goal.returns
returns g c = subst (λ (ps : List Text). Writes g.S.Sink.took g.S.Sink.failed c.args.sink.now
    (hyphened c.args.first ps) c.write_pieces.new.sink c.write_pieces.result)
    (transform_some c.args.self.now.lang c.args.self.now.fields _
    (c.lowercase-lang.ensures
    ∙ ap (λ o. optional_pieces (option_map lower_identifier (option_map value_of o))) c.as_ref.ensures.value)
    (sym c.is_empty.ensures ∙ c.if-is_empty.false)) c.write_pieces.ensures
