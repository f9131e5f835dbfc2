-- Why the value of a keyword is refused, and what a reader of keywords answers.
use Rattle.std.specs.Prelude.{◌≡◌, Option, Some, None, Result, Ok, Err, codes}
use Rattle.iloc_spec_grammar.specs.Syntax.{Text}
use Rattle.iloc_word_list.specs.declared.errors.PreferencesParseError.{PreferencesParseError}
use Rattle.iloc_word_list.specs.declared.errors.PreferencesParseError.TheVariants.{InvalidKeywordValue}
use Rattle.iloc_word_list.specs.declared.errors.PreferencesParseError.TheVariants.{OutOfMemory}

-- the words of each refusal
abbrev pub words_of : PreferencesParseError → Text
words_of InvalidKeywordValue = codes "The given keyword value is not a valid preference variant."
words_of OutOfMemory = codes "Out of memory"

-- by cases on the answer: `read` is what the value reads as, if anything, and `stands` tells what a
-- keyword stands for; memory never runs out
abbrev pub Reads : {X V : Type 0} → (X → V) → Option V → Result X PreferencesParseError → Type 0
Reads stands read (Ok x) = read ≡ Some (stands x)
Reads stands read (Err InvalidKeywordValue) = read ≡ None
Reads stands read (Err OutOfMemory) = ⊥
