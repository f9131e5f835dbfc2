use Rattle.iloc_writeable.proofs.PiecesLemmas.{flat_map_words}
use Rattle.iloc_langid.proofs.LowercaseLemmas.{lower-variants}
use Rattle.iloc_langid.proofs.lowercase.LowercasePieces.write_pieces.Goals as goal

pub returns : goal.returns
returns g c =
    rw (
      c.as_str-language.ensures.normal.1,
      lower-variants c.args.self.now.0.now.variants c.as_slice-variants.ensures.normal,
    )
    (rw (
      c.as_str-language.ensures.value,
      c.lower_word-script.ensures,
      c.lower_word-region.ensures,
      flat_map_words,
      c.as_slice-variants.ensures.value,
    ) at c.write_pieces.ensures)
