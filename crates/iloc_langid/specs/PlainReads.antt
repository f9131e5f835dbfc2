-- What the reader of a language, a script and a region takes.
use Rattle.std.specs.Prelude.{◌≡◌, List, option_map}
use Rattle.iloc_spec_grammar.specs.Syntax.{Text, Identifier, Language, Script, Region, is_word, IsWord, lower}
use Rattle.iloc_spec_grammar.specs.Syntax.{title, upper, languages, first_piece}
use Rattle.iloc_spec_grammar.specs.Reading.{take_first, rest_of, after_script, after_region}
use Rattle.iloc_langid.specs.declared.plain.PlainParts.{PlainParts}

-- the words that stand at the front, each if it fits, and what is left after them
pub record IsPlainFront (ps rest : List Text) (plain : PlainParts) : Type 0 where
  pub word : IsWord (Language languages) (first_piece ps)
  pub language : plain.language ≡ lower (first_piece ps)
  pub script : plain.script ≡ option_map title (take_first (is_word Script) (rest_of ps))
  pub region : plain.region ≡ option_map upper (take_first (is_word Region) (after_script ps))
  pub after : rest ≡ after_region ps

-- the words at the front, each if it fits, are this language, script and region
pub record IsFrontOf (ps : List Text) (i : Identifier) : Type 0 where
  pub word : IsWord (Language languages) (first_piece ps)
  pub language : i.language ≡ lower (first_piece ps)
  pub script : i.script ≡ option_map title (take_first (is_word Script) (rest_of ps))
  pub region : i.region ≡ option_map upper (take_first (is_word Region) (after_script ps))
