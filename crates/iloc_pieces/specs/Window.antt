-- A text with room behind it.
use Rattle.std.specs.Prelude.{◌-◌, length, take}
use Rattle.iloc_spec_grammar.specs.Syntax.{Text}
use Rattle.iloc_pieces.specs.declared.window.Window.{Window}

-- the text: all but the last sixteen bytes
abbrev pub text_in : Window → Text
text_in w = take (length w.bytes.now - 16) w.bytes.now
