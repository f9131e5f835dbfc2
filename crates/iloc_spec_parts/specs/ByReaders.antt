-- Meaning by the readers of single parts: the same relation as `Means`, as a program composes
-- it of them. The law `by_readers` says that the two agree. Restates UTS #35, section 3,
-- unicode_locale_id.
use Rattle.std.specs.Prelude.{[]}
use Rattle.iloc_spec_grammar.specs.Syntax.{Text, LanguageLengths}
use Rattle.iloc_spec_grammar.specs.Meaning.{Locale}
use Rattle.iloc_spec_grammar.specs.ByBlocks.{Rules, MeansBy}
use Rattle.iloc_spec_parts.specs.Fronts.{UnicodeRead, TransformRead, OtherRead, PrivateRead}

-- each reader reads its part of all the pieces
abbrev pub reading_rules : LanguageLengths → Rules
reading_rules T = record {
  unicode = λ ps v. UnicodeRead ps v [];
  transform = λ ps m. TransformRead T ps m [];
  private = λ ps ws. PrivateRead ps ws [];
  other = λ ps ws. OtherRead ps ws [];
}

abbrev pub MeansByReaders : LanguageLengths → Text → Locale → Type 0
MeansByReaders T t M = MeansBy (reading_rules T) T t M
