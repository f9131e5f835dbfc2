use Rattle.std.proofs.Common.{refl}
use Rattle.iloc_spec_grammar.specs.Syntax.{Language, languages, two_or_three}
use Rattle.iloc_subtags.specs.declared.parse_error.ParseError.TheVariants.{InvalidLanguage}
use Rattle.iloc_subtags.specs.KindLaws.{narrow_language_fits}
use Rattle.iloc_subtags.proofs.RawLemmas.{none_reads_raw, reads_raw, narrow_languages}
use Rattle.iloc_subtags.proofs.identifier_kinds.WordOf+LanguageKind+8.try_from_raw_v1.Goals as goal

pub returns-in_default : goal.returns-in_default
returns-in_default c =
    none_reads_raw 3 3 (Language two_or_three) refl narrow_language_fits InvalidLanguage InvalidLanguage
    c.args.raw refl c.in_default.ensures.none

pub returns : goal.returns
returns c =
    let read = c.in-Some.ensures.some in
    reads_raw 3 3 (Language languages) (Language two_or_three) refl narrow_language_fits narrow_languages
    InvalidLanguage c.in-Some.text c.args.raw read.0 read.1 c.from_normal.result
    (rw c.to_piece.ensures.value at c.from_normal.ensures)
