-- The words of the definitions, passed on, so that a clause about a locale needs no other crate.
pub use Rattle.iloc_spec_grammar.specs.Syntax
pub use Rattle.iloc_spec_grammar.specs.Meaning
pub use Rattle.iloc_spec_grammar.specs.Values
pub use Rattle.iloc_spec_grammar.specs.Reading
pub use Rattle.iloc_spec_parts.specs.Fronts
pub use Rattle.iloc_spec_parts.specs.Parts
pub use Rattle.iloc_spec_parts.specs.PartValues
pub use Rattle.iloc_spec_parts.specs.Extending
pub use Rattle.iloc_spec_parts.specs.Small
pub use Rattle.iloc_spec_parts.specs.Inline
pub use Rattle.iloc_spec_parts.specs.Orders
pub use Rattle.iloc_spec_parts.specs.Hashes
pub use Rattle.iloc_spec_parts.specs.Subdivisions
pub use Rattle.iloc_spec_parts.specs.DataLocales
pub use Rattle.iloc_spec_parts.specs.DataOrders
pub use Rattle.iloc_spec_parts.specs.DataHashes
pub use Rattle.iloc_spec_parts.specs.Keywords
pub use Rattle.iloc_spec_parts.specs.Preferences
pub use Rattle.iloc_spec_parts.specs.Formatters
pub use Rattle.iloc_memory.specs.Refusals
pub use Rattle.iloc_subtags.specs.Judging
pub use Rattle.iloc_writeable.specs.Writing
pub use Rattle.iloc_writeable.specs.Hints
pub use Rattle.iloc_writeable.specs.Growth
pub use Rattle.iloc_litemap.specs.Pairs
pub use Rattle.iloc_subtags.specs.Left
pub use Rattle.iloc_langid.specs.Reads
pub use Rattle.iloc_langid.specs.SmallReads
pub use Rattle.iloc_langid.specs.Normalizing as IdentifierNormalizing
pub use Rattle.iloc_langid.specs.SmallLocaleReads
pub use Rattle.iloc_word_list.specs.Values as UnicodeValues
pub use Rattle.iloc_word_list.specs.Reads as UnicodeValueReads
pub use Rattle.iloc_copying.specs.Room
pub use Rattle.iloc_copying.specs.Sizes
pub use Rattle.iloc_unicode.specs.Sizes as UnicodeSizes
pub use Rattle.iloc_transform.specs.Sizes as TransformSizes
pub use Rattle.iloc_extensions.specs.Sizes as ExtensionsSizes
pub use Rattle.iloc_locale.specs.Sizes as LocaleSizes
pub use Rattle.iloc_unicode.specs.Reads as UnicodePartReads
pub use Rattle.iloc_other.specs.Reading as OtherReading
pub use Rattle.iloc_keyword_types.specs.Reads as KeywordReads
pub use Rattle.iloc_unicode.specs.UnicodeValue
pub use Rattle.iloc_transform.specs.TransformReading
pub use Rattle.iloc_extensions.specs.ExtensionsValue
pub use Rattle.iloc_extensions.specs.Retaining
pub use Rattle.iloc_locale.specs.LocaleReading
pub use Rattle.iloc_data.specs.Reads as DataReads
pub use Rattle.iloc_data.specs.DataValue
pub use Rattle.iloc_data.specs.DataParents
pub use Rattle.iloc_data.specs.DataEquality
pub use Rattle.iloc_json.specs.Json
pub use Rattle.iloc_json.specs.Answers as JsonAnswers
pub use Rattle.iloc_json.specs.Carrying
pub use Rattle.iloc_program.specs.Answers as ProgramAnswers
pub use Rattle.iloc_program.specs.Output as ProgramOutput
pub use Rattle.iloc_program.specs.Replies as ProgramReplies
pub use Rattle.iloc_program.specs.ReplyBlock as ProgramReplyBlock
pub use Rattle.iloc_data.specs.FormatterValues as FormatterValues
pub use Rattle.iloc_enum_keywords.specs.declared.hour_cycle.HourCycle as HourCycles
pub use Rattle.iloc_tinystr.specs.TinyText
pub use Rattle.iloc_tinystr.specs.Number
pub use Rattle.iloc_writeable.specs.Held
pub use Rattle.iloc_shortvec.specs.ShortList
pub use Rattle.iloc_shortvec.specs.ShortOrder
pub use Rattle.iloc_spec_grammar.specs.ShortLists
pub use Rattle.iloc_shortvec.specs.ShortBoxSliceLends
pub use Rattle.iloc_shortvec.specs.ShortWordsLends
pub use Rattle.iloc_litemap.specs.Calls as MapCalls
pub use Rattle.iloc_litemap.specs.Lends as MapLends
pub use Rattle.iloc_subtags.specs.ParseError as ParseErrorWords
pub use Rattle.iloc_subtags.specs.RawForms
pub use Rattle.iloc_word_list.specs.Ascending
pub use Rattle.iloc_langid.specs.Unknown
pub use Rattle.iloc_langid.specs.Parents
pub use Rattle.iloc_transform.specs.FieldsReading
pub use Rattle.iloc_transform.specs.ValueReading as FieldValueReading
pub use Rattle.iloc_spec_parts.specs.SingleValues
pub use Rattle.iloc_word_list.specs.Refusals as PreferenceRefusals
pub use Rattle.iloc_unicode.specs.UnicodeReads
pub use Rattle.iloc_unicode.specs.Lends as KeywordLends
pub use Rattle.iloc_extensions.specs.Kinds as ExtensionKinds
pub use Rattle.iloc_locale.specs.Order as OrderedLocales
pub use Rattle.iloc_keyword_types.specs.Subdivisions as SubdivisionReads
pub use Rattle.iloc_keyword_types.specs.Scripts as ScriptReads
pub use Rattle.iloc_keyword_types.specs.Calendars
pub use Rattle.iloc_keyword_types.specs.WordTables
pub use Rattle.iloc_json.specs.Errors as JsonErrors
pub use Rattle.iloc_json.specs.CarryError as CarryErrors
pub use Rattle.iloc_program.specs.Ending as ProgramEnding
pub use Rattle.iloc_keyword_types.specs.Hijri
pub use Rattle.iloc_program.specs.Lines as ProgramLines
pub use Rattle.iloc_shortvec.specs.Items as ShortItems
pub use Rattle.iloc_shortvec.specs.Kept as ShortKept
pub use Rattle.iloc_shortvec.specs.Left as ShortLeft
pub use Rattle.iloc_shortvec.specs.Rest as ShortRest
pub use Rattle.iloc_spec_grammar.specs.ByBlocks
pub use Rattle.iloc_spec_grammar.specs.Computing
pub use Rattle.iloc_spec_grammar.specs.Examples as GrammarExamples
pub use Rattle.iloc_spec_grammar.specs.StepTests
pub use Rattle.iloc_spec_grammar.specs.Tree
pub use Rattle.iloc_spec_grammar.specs.TreeSteps
pub use Rattle.iloc_spec_parts.specs.ByReaders
pub use Rattle.iloc_spec_parts.specs.Examples as PartExamples
pub use Rattle.iloc_spec_parts.specs.PartComputing
pub use Rattle.iloc_spec_parts.specs.Readers
pub use Rattle.iloc_spec_parts.specs.SmallComputing
pub use Rattle.iloc_spec_parts.specs.DataComputing
pub use Rattle.iloc_spec_parts.specs.DataExamples
pub use Rattle.iloc_spec_parts.specs.PreferenceExamples
pub use Rattle.iloc_subtags.specs.Lengths
pub use Rattle.iloc_normalize.specs.Modes
pub use Rattle.iloc_normalize.specs.Answered
pub use Rattle.iloc_faults.specs.Places as FaultPlaces
pub use Rattle.iloc_transform.specs.LangReading
pub use Rattle.iloc_unicode.specs.Equality as UnicodePartEquality
pub use Rattle.iloc_word_list.specs.Equality as UnicodeValueEquality
pub use Rattle.iloc_writeable.specs.Pieces as PiecePrinting
pub use Rattle.iloc_extensions.specs.Blocks as ExtensionBlocks
pub use Rattle.iloc_program.specs.Numbered as ProgramListings
pub use Rattle.iloc_program.specs.Listing as ProgramEntries
pub use Rattle.iloc_program.specs.declared.numbered.Listing as ListingOptions
pub use Rattle.iloc_normalize.specs.declared.Mode as ProgramModes
pub use Rattle.iloc_locale.specs.LocaleParents
pub use Rattle.iloc_matching.specs.Range as LocaleRanges
pub use Rattle.iloc_cleaning.specs.Cleaning as CleanedLines
pub use Rattle.iloc_expected.specs.Kinds as PieceKinds
pub use Rattle.iloc_expected.specs.Standing as ExpectedKinds
pub use Rattle.iloc_expected.specs.Words as ExpectedWords
pub use Rattle.iloc_hints.specs.Hints as TextHints
pub mod Together
