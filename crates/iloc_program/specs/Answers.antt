-- What the program answers to a line, and writes for an input. This library's rule.
use Rattle.std.specs.Prelude.{◌≡◌, ◌⊎◌, List, [], ◌∷◌, ◌++◌, codes, Result, Ok, Err}
use Rattle.std.specs.List.{flat_map, AllZip}
use Rattle.iloc_spec_grammar.specs.Syntax.{Text, LanguageLengths, pieces}
use Rattle.iloc_spec_grammar.specs.Meaning.{Fault}
use Rattle.iloc_spec_grammar.specs.Values.{identifier_text, text}
use Rattle.iloc_spec_grammar.specs.Computing.{identifier_result, locale_result}
use Rattle.iloc_spec_parts.specs.DataLocales.{data_text}
use Rattle.iloc_spec_parts.specs.DataComputing.{data_result}
use Rattle.iloc_subtags.specs.declared.parse_error.ParseError.{ParseError}
use Rattle.iloc_subtags.specs.Judging.{error_of}
use Rattle.iloc_subtags.specs.ParseError.{words_of}
use Rattle.iloc_program.specs.Lines.{lines_of, ended}
use Rattle.iloc_normalize.specs.Modes.{IsNormalText, IsFaulty}
use Rattle.iloc_normalize.specs.declared.Mode.{Mode}
use Rattle.iloc_normalize.specs.declared.Mode.TheVariants.{Langid, Locale, Data}

-- The answer to a line that is refused so.
abbrev pub refusal_text : ParseError → Text
refusal_text e = codes "! " ++ words_of e

-- The answer to a line that has this fault.
abbrev pub refusal : Fault → Text
refusal f = refusal_text (error_of f)

-- The answer to a line, in the words of the grammar: its normal text, or why it has none.
abbrev pub IsAnswer : LanguageLengths → Mode → Text → Text → Type 0
IsAnswer T mode line t = IsNormalText T mode line t
    ⊎ ((f : Fault) × IsFaulty T mode line f × (t ≡ refusal f))

-- The output for an input: its lines' answers, each with a newline.
pub record IsOutput (T : LanguageLengths) (mode : Mode) (input output : Text) : Type 0 where
  pub answers : List Text
  pub each : AllZip (IsAnswer T mode) (lines_of input) answers
  pub are : output ≡ ended answers

-- Both by computing.

-- The text of what is there, or the answer to the fault.
abbrev pub text_or_refusal : {X : Type 0} → (X → Text) → Result X Fault → Text
text_or_refusal print (Ok x) = print x
text_or_refusal print (Err f) = refusal f

-- The answer to a line.
unfoldable pub line_answer : LanguageLengths → Mode → Text → Text
line_answer T Langid line = text_or_refusal identifier_text (identifier_result T (pieces line))
line_answer T Locale line = text_or_refusal text (locale_result T line)
line_answer T Data line = text_or_refusal data_text (data_result T line)

-- What is written for a line.
abbrev pub reply : LanguageLengths → Mode → Text → Text
reply T mode line = line_answer T mode line ++ 10 ∷ []

-- What is written for an input.
abbrev pub output : LanguageLengths → Mode → Text → Text
output T mode input = flat_map (reply T mode) (lines_of input)
