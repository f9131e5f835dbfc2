-- A plain text that may be normal.
use Rattle.std.specs.Prelude.{◌≡◌, ◌↔◌, IsTrue}
use Rattle.iloc_spec_grammar.specs.Syntax.{Text}
use Rattle.iloc_spec_grammar.specs.Values.{identifier_text}
use Rattle.iloc_pieces.specs.Plain.{IsPlain, value_of}
use Rattle.iloc_pieces.specs.declared.normal.PlainText.{PlainText}

-- the text is that plain identifier, and called normal exactly if it is the identifier's text
pub record IsPlainText (t : Text) (text : PlainText) : Type 0 where
  pub plain : IsPlain t text.plain
  pub exactly : IsTrue text.is_normal ↔ (t ≡ identifier_text (value_of text.plain))
