-- What is written is what the word feeds.
use Rattle.std.proofs.Common.{◌-◌, ◌++◌, length, replicate, sym, ap, ◌∙◌}
use Rattle.std.specs.List.{fold}
use Rattle.iloc_spec_grammar.specs.Syntax.{Text}
use Rattle.iloc_subtags.proofs.HashLemmas.{word_feeds}
use Rattle.iloc_subtags.proofs.word_of.WordOfHash.hash.Goals as goal

pub returns : goal.returns
returns g c =
    let e = c.to_piece.ensures.value in
    c.write.ensures
    ∙ ap (g.H.Hasher.write c.args.state.now)
    (c.to_bytes.ensures ∙ ap (λ (w : Text). w ++ replicate (8 - length w) 0) e)
    ∙ ap (fold g.H.Hasher.write c.args.state.now)
    (sym (word_feeds _ _ c.args.self.now g.met.K.WordKind.size g.met.K.WordKind.fits
    (c.to_piece.ensures.normal.0)))
